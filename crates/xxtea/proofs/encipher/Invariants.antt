-- `xxtea::encipher` meets its contract. The invariant: the rounds below r are done. Assumes nothing.
use Rattle.xxtea.proofs.Walk.{Rounds}
use Rattle.xxtea.specs.Xxtea.{up}
use Rattle.xxtea.proofs.encipher.Given as goal

abbrev pub invariant-loop-r : goal.invariant-loop-r
invariant-loop-r l = Rounds up l.key l.initial.words l.words l.r
