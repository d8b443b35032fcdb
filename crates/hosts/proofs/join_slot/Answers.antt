-- `hosts::join_slot` meets its contract: three stores are the slot anew. Assumes nothing.
use Rattle.hosts.proofs.SlotLaws.{joined_puts}
use Rattle.std.proofs.Common.{◌∙◌, ◌≡◌, length, arith}
use Rattle.hosts.proofs.join_slot.Goals as goal

pub returns : goal.returns
returns c =
    let a = c.args in
    let i : length a.id ≡ 16 = omega arith in
    let m : length a.masks ≡ 16 = omega arith in
    c.store_at.ensures ∙ rw (c.xor_at-2.ensures, c.xor_at.ensures, i, m) (joined_puts a.id a.masks a.slot.now c.requires i m)
