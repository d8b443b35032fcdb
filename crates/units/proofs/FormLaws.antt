-- 5, by what a unit is decoded to: what the judges of every command on a unit begin with. Assumes nothing.
use Rattle.std.specs.Prelude.{Some, None}
use Prim.Native.Nat.{ℕ}
use mathlib.Core.Path.{◌≡◌, ap}
use mathlib.Core.Bool.{not}
use mathlib.Core.List.{List}
use Rattle.rules.specs.declared.Unit.{Unit}
use Rattle.rules.specs.Units.{well_formed}
use Rattle.rules.specs.Refusals.{Checks, ◌when◌else◌, lowest}
use Rattle.rules.proofs.Tests.{gives, leaves}
use Rattle.units.specs.Decoded.{decoded}
use Rattle.units.proofs.Laws.{decoded_whole, decoded_malformed}

pub formless : (u : List ℕ) (cs : Checks) → decoded u ≡ None → lowest (5 when not (well_formed u) else cs) ≡ Some 5
formless u cs e = gives 5 _ cs (ap not (decoded_malformed u e))

pub formed : (u : List ℕ) (x : Unit) (cs : Checks) → decoded u ≡ Some x
    → lowest (5 when not (well_formed u) else cs) ≡ lowest cs
formed u x cs e = leaves 5 _ cs (ap not (decoded_whole u x e).0)
