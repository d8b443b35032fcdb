-- What the functions of `units` hand each other and their callers, in terms of `rules`. Assumes nothing.
use Rattle.std.specs.Prelude.{ℕ, List, Option}
use Rattle.std.specs.Bool.{then_some}
use Rattle.rules.specs.declared.Unit.{Unit}
use Rattle.rules.specs.Units.{well_formed, unit_of}

unfoldable pub decoded : List ℕ → Option Unit
decoded u = then_some (well_formed u) (unit_of u)
