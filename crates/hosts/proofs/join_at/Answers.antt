-- `hosts::join_at` meets its contract: the slot that was lent comes back joined. Assumes nothing.
use Rattle.hosts.proofs.SlotLaws.{joined_long}
use Rattle.octets.proofs.Laws.{part_lent, length_lent, put_back}
use Rattle.rules.specs.Bytes.{part}
use Rattle.rules.specs.Effects.{joined_slot}
use Rattle.std.proofs.Common.{ap, ◌∙◌}
use Rattle.hosts.proofs.join_at.Goals as goal

pub returns : goal.returns
returns c =
    let a = c.args in
    let t = a.tag.now in
    put_back a.at 48 t _ (joined_slot a.id a.masks (part a.at 48 t))
    (c.join_slot.ensures ∙ ap (joined_slot a.id a.masks) (part_lent a.at 48 t))
    (joined_long a.id a.masks (part a.at 48 t) (length_lent a.at 48 t c.requires)) c.requires
