-- What is left to prove of `octets::xor_into` beside its invariant. Assumes nothing.
use Rattle.octets.proofs.Laws.{xor_none, xor_next, xor_end}
use Rattle.std.proofs.Common.{◌∙◌, sym, arith, add-one}
use Rattle.octets.proofs.xor_into.Goals as goal

pub loop-i-init : goal.loop-i-init
loop-i-init c = sym (xor_none _)

pub loop-i-preserved : goal.loop-i-preserved
loop-i-preserved c =
    rw (c.loop-i.invariant, add-one) (xor_next c.loop-i.i c.args.bytes.now c.args.«data».now (omega arith) (omega arith))

pub returns : goal.returns
returns c = c.loop-i.invariant ∙ xor_end c.loop-i.i c.args.bytes.now c.args.«data».now (omega arith)
