-- `xxtea::round_down` meets its contract. The invariant: the steps above p are done, and x and y are word p and the one after it.
-- Assumes nothing.
use Rattle.xxtea.proofs.Walk.{Stands}
use Rattle.xxtea.specs.Xxtea.{down}
use Rattle.xxtea.proofs.round_down.Given as goal

abbrev pub invariant-loop-p : goal.invariant-loop-p
invariant-loop-p l = Stands down l.key l.sum l.initial.words l.words l.p l.x l.y
