-- `writes::judging::judge_segment_at` meets its contract: an offset in the segment is aligned where its address is.
-- Assumes nothing.
use Rattle.octets.proofs.Laws.{part_lent}
use Rattle.rules.specs.Refusals.{lowest, write_checks}
use Rattle.std.proofs.Common.{sym, ap, length}
use Rattle.writes.proofs.JudgeLaws.{judged_as, checks_at}
use Rattle.writes.specs.Verdict.{act_in}
use Rattle.writes.proofs.judging.judge_segment_at.Goals as goal

pub returns : goal.returns
unfolding write_checks act_in
returns c =
    let a = c.args in
    let lent = part_lent a.at (length a.«data».now) a.tag.now in
    judged_as _ _ _ _ (ap lowest (sym (checks_at _ _ _ _ _ _ _ _ c.requires.0)))
    (rw (c.unit_of.ensures, lent) at c.judge_segment_write.ensures)
