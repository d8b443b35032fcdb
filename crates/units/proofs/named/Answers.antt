-- `units::named` meets its contract. Assumes nothing.
use Rattle.rules.specs.Bytes.{part}
use Rattle.rules.specs.Units.{name_of}
use Rattle.units.proofs.named.Goals as goal

pub returns : goal.returns
unfolding name_of part
returns c = c.equal.ensures
