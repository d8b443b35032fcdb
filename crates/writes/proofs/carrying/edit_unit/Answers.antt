-- `writes::carrying::edit_unit` meets its contract: the unit that was lent comes back edited. Assumes nothing.
use Rattle.layout.proofs.Laws.{unit_lent, unit_back}
use Rattle.rules.specs.Bytes.{put}
use Rattle.std.proofs.Common.{ap, ◌∙◌, arith}
use Rattle.writes.proofs.carrying.edit_unit.Goals as goal

pub returns : goal.returns
returns c =
    let a = c.args in
    let e = c.unit_at-start.ensures in
    let lent = unit_lent a.tag.now a.k _ e in
    unit_back a.tag.now a.k _ _ a.at a.«data».now _ e c.requires.2 (omega (arith, e)) (omega (arith, e))
    (c.edit.ensures ∙ ap (put _ a.«data».now) lent)
