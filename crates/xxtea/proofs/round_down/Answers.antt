-- A step for each word, downwards, and the first word after the loop. Assumes nothing.
use Rattle.std.proofs.Common.{◌≡◌, ◌+◌, ◌-◌, refl, arith}
use Rattle.xxtea.proofs.Walk.{stands_next, stands_last}
use Rattle.xxtea.specs.Xxtea.{down}
use Rattle.xxtea.proofs.round_down.Goals as goal

pub loop-p-preserved : goal.loop-p-preserved
loop-p-preserved c =
    let at = c.loop-p in
    let q : at.p ≡ at.p - 1 + 1 = omega arith in
    stands_next down _ _ _ (rw q at at.invariant) c.mix.ensures (at.p - 1) refl (omega (arith, at.invariant.inside)) refl

pub returns : goal.returns
returns c =
    let end : c.loop-p.p ≡ 0 = omega arith in
    stands_last down _ _ _ (rw end at c.loop-p.invariant) c.mix-2.ensures refl refl
