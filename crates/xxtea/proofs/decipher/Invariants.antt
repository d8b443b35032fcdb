-- `xxtea::decipher` meets its contract. The invariant: the rounds below r are left. Assumes nothing.
use Rattle.xxtea.proofs.Walk.{Rounds}
use Rattle.xxtea.specs.Xxtea.{down}
use Rattle.xxtea.proofs.decipher.Given as goal

abbrev pub invariant-loop-r : goal.invariant-loop-r
invariant-loop-r l = Rounds down l.key l.initial.words l.words l.r
