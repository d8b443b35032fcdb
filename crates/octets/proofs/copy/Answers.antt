-- What is left to prove of `octets::copy` beside its invariant. Assumes nothing.
use Rattle.octets.proofs.Laws.{put_next, put_end}
use Rattle.rules.proofs.BytesLaws.{put-none}
use Rattle.std.proofs.Common.{◌∙◌, sym, arith, add-one}
use Rattle.octets.proofs.copy.Goals as goal

pub loop-i-init : goal.loop-i-init
loop-i-init c = sym (put-none 0 _)

pub loop-i-preserved : goal.loop-i-preserved
loop-i-preserved c =
    rw (c.loop-i.invariant, add-one) (put_next c.loop-i.i c.args.«data».now c.args.bytes.now (omega arith) (omega arith))

pub returns : goal.returns
returns c = c.loop-i.invariant ∙ put_end c.loop-i.i c.args.«data».now c.args.bytes.now (omega arith)
