-- A step for each word, and the last word after the loop. Assumes nothing.
use Rattle.std.proofs.Common.{◌≡◌, ◌+◌, ◌-◌, length, refl, arith}
use Rattle.xxtea.proofs.Walk.{stands_first, stands_next, stands_last}
use Rattle.xxtea.specs.Xxtea.{up}
use Rattle.xxtea.proofs.round_up.Goals as goal

pub loop-p-init : goal.loop-p-init
loop-p-init c = stands_first up _ _ _ (omega arith)

pub loop-p-preserved : goal.loop-p-preserved
loop-p-preserved c = stands_next up _ _ _ c.loop-p.invariant c.mix.ensures (c.loop-p.p + 1) refl (omega arith) refl

pub returns : goal.returns
returns c =
    let end : c.loop-p.p ≡ length c.args.words.now - 1 = omega arith in
    stands_last up _ _ _ (rw end at c.loop-p.invariant) c.mix-2.ensures refl refl
