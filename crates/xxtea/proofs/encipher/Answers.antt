-- The rounds one by one. Assumes nothing.
use Rattle.std.proofs.Common.{◌≡◌, length, arith}
use Rattle.xxtea.proofs.Walk.{rounds_first, rounds_next, rounds_last}
use Rattle.xxtea.specs.Xxtea.{up, rounds_for}
use Rattle.xxtea.proofs.encipher.Goals as goal

pub loop-r-init : goal.loop-r-init
loop-r-init c = rounds_first up _ _

pub loop-r-preserved : goal.loop-r-preserved
loop-r-preserved c =
    rounds_next up _ _ c.loop-r.r c.loop-r.invariant (omega (arith, c.rounds_for-rounds.ensures)) _ c.sum_in.ensures c.round_up.ensures c.round_up.auto.words

pub returns-clause-words : goal.returns-clause-words
returns-clause-words c =
    let end : c.loop-r.r ≡ rounds_for (length c.args.words.now) = omega (arith, c.rounds_for-rounds.ensures) in
    rounds_last up _ _ (rw end at c.loop-r.invariant)
