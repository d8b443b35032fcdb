-- `xxtea::round_up` meets its contract. The invariant: the steps below p are done, and x and z are word p and the one before it.
-- Assumes nothing.
use Rattle.xxtea.proofs.Walk.{Stands}
use Rattle.xxtea.specs.Xxtea.{up}
use Rattle.xxtea.proofs.round_up.Given as goal

abbrev pub invariant-loop-p : goal.invariant-loop-p
invariant-loop-p l = Stands up l.key l.sum l.initial.words l.words l.p l.x l.z
