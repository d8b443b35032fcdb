-- `units::well_formed` meets its contract. Assumes nothing.
use Rattle.rules.specs.Bytes.{part}
use Rattle.rules.specs.Units.{bit}
use Rattle.units.proofs.Laws.{well_formed_but_model}
use Rattle.units.proofs.well_formed.Goals as goal

pub returns : goal.returns
unfolding bit part
returns c =
    rw (
      well_formed_but_model _ c.requires,
      c.all_zero.ensures,
      c.number16.ensures,
      c.number16-2.ensures,
      c.number16-3.ensures,
      c.all_zero-2.ensures,
    )
