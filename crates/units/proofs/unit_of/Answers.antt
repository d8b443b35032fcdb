-- `units::unit_of` meets its contract. Assumes nothing.
use Rattle.rules.specs.Units.{bit, unit_of}
use Rattle.units.proofs.unit_of.Goals as goal

pub returns : goal.returns
unfolding unit_of bit
returns c =
    rw (c.requires, c.number16.ensures, c.number16-2.ensures, c.number16-3.ensures)
