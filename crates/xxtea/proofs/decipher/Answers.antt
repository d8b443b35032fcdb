-- The rounds one by one, from the last. Assumes nothing.
use Rattle.std.proofs.Common.{◌≡◌, ◌+◌, ◌-◌, arith}
use Rattle.xxtea.proofs.Walk.{rounds_first, rounds_next, rounds_last}
use Rattle.xxtea.specs.Xxtea.{down}
use Rattle.xxtea.proofs.decipher.Goals as goal

pub loop-r-init : goal.loop-r-init
loop-r-init c = rw c.rounds_for-rounds.ensures (rounds_first down _ _)

pub loop-r-preserved : goal.loop-r-preserved
loop-r-preserved c =
    let q : c.loop-r.r ≡ c.loop-r.r - 1 + 1 = omega arith in
    rounds_next down _ _ (c.loop-r.r - 1) (rw q at c.loop-r.invariant) (omega (arith, c.loop-r.invariant.inside)) _ c.sum_in.ensures c.round_down.ensures c.round_down.auto.words

pub returns-clause-words : goal.returns-clause-words
returns-clause-words c =
    let end : c.loop-r.r ≡ 0 = omega arith in
    rounds_last down _ _ (rw end at c.loop-r.invariant)
