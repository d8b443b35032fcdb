-- `units::may_become` meets its contract: what the search finds, and the stage that an edit of the code turns. Assumes nothing.
use Rattle.rules.specs.Refusals.{past_stage_zero}
use Rattle.units.proofs.may_become.Goals as goal

pub returns-in-Two : goal.returns-in-Two
unfolding past_stage_zero
returns-in-Two c = rw (c.in-Receiver.is, c.in-Two.is)
