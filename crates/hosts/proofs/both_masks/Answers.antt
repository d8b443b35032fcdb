-- `hosts::both_masks` meets its contract. Assumes nothing.
use Rattle.octets.proofs.Laws.{part_lent, block_lent}
use Rattle.std.proofs.Common.{◌∙◌, ◌+◌, arith}
use Rattle.hosts.proofs.both_masks.Goals as goal

pub returns : goal.returns
returns c =
    let a = c.args in
    let t = a.tag.now in
    c.xor_into.ensures
    ∙ rw (c.sixteen-masks.ensures, block_lent (a.a + 32) t (omega arith), part_lent (a.b + 32) 16 t)
