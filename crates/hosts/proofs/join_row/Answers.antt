-- What is left to prove of `hosts::join_row`: the slots are there, and apart. Assumes nothing.
use Rattle.hosts.proofs.SlotLaws.{pair_of}
use Rattle.std.proofs.Common.{◌∙◌, arith}
use Rattle.hosts.proofs.join_row.Goals as goal

pub overflow_sub-segment : goal.overflow_sub-segment
overflow_sub-segment c =
    let p = pair_of _ _ _ _ _ c.requires c.places.ensures in rw c.named-segment.ensures p.low

pub slot_at-a-requires : goal.slot_at-a-requires
slot_at-a-requires c =
    let p = pair_of _ _ _ _ _ c.requires c.places.ensures in
    rw c.named-segment.ensures (omega (arith, p.theirs), omega (arith, p.theirs))

pub join-requires : goal.join-requires
join-requires c =
    let p = pair_of _ _ _ _ _ c.requires c.places.ensures in
    rw (c.slot_at-a.ensures, c.slot_at-b.ensures, c.named-segment.ensures) (p.theirs, p.own, p.apart)

pub returns : goal.returns
returns c =
    let p = pair_of _ _ _ _ _ c.requires c.places.ensures in
    c.join.ensures
    ∙ rw (c.slot_at-a.ensures, c.slot_at-b.ensures, c.named-segment.ensures, c.id_of-other.ensures, p.is_row)
