-- What is left to prove of `hosts::join_all` beside its invariant. Assumes nothing.
use Rattle.hosts.proofs.SlotLaws.{joined_next, joined_last}
use Rattle.hosts.proofs.join_all.Goals as goal

pub loop-i-preserved : goal.loop-i-preserved
loop-i-preserved c = rw c.join_row.ensures (joined_next _ _ _ _ _ _ c.loop-i-test.true c.loop-i.invariant)

pub returns : goal.returns
returns c = joined_last _ _ _ _ _ _ c.loop-i-test.false c.loop-i.invariant
