-- `units::read_only` meets its contract. Assumes nothing.
use Rattle.rules.specs.Effects.{read_only}
use Rattle.std.proofs.Common.{refl}
use Rattle.units.proofs.read_only.Goals as goal

pub returns : goal.returns
unfolding read_only
returns c = refl
