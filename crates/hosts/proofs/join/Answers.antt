-- `hosts::join` meets its contract: both slots are joined, one after the other. Assumes nothing.
use Rattle.hosts.proofs.SlotLaws.{joined_pair}
use Rattle.std.proofs.Common.{◌∙◌}
use Rattle.hosts.proofs.join.Goals as goal

pub returns : goal.returns
returns c =
    let a = c.args in
    let p = c.requires in
    c.join_at-2.ensures
    ∙ rw (c.join_at.ensures, c.both_masks-masks.ensures)
    (joined_pair a.a a.b a.mine a.other a.tag.now p.0 p.1 p.2)
