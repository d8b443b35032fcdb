-- `hosts::is_full` meets its contract: the test is the clause's, as it stands. Assumes nothing.
use Rattle.std.proofs.Common.{refl}
use Rattle.hosts.proofs.is_full.Goals as goal

pub returns : goal.returns
returns c = refl
