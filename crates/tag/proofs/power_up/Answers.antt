-- `tag::power_up` meets its contract. Assumes nothing.
use Rattle.rules.specs.State.{powered_up}
use Rattle.std.proofs.Common.{refl}
use Rattle.tag.proofs.power_up.Goals as goal

pub returns : goal.returns
unfolding powered_up
returns c = refl
