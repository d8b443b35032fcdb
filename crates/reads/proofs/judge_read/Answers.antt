-- `reads::judge_read` meets its contract: test by test. Assumes nothing.
use Rattle.reads.proofs.Laws.{read_miscounted, read_outside, read_placed}
use Rattle.rules.proofs.Tests.{handed_missing}
use Rattle.rules.specs.Answers.{refusal_of}
use Rattle.std.proofs.Common.{sym, ap, ◌∙◌}
use Rattle.reads.proofs.judge_read.Goals as goal

pub returns-then-n-room : goal.returns-then-n-room
returns-then-n-room c = sym (read_miscounted _ _ _ _ _ c.requires c.if-n-room.true)

pub returns-in_err-place : goal.returns-in_err-place
returns-in_err-place c =
    let nowhere = c.in_err-place.ensures.ok_part in
    ap refusal_of (handed_missing _ _ _ _ nowhere c.in_err-place.ensures.value c.from_residual.ensures.1)
    ∙ sym (read_outside _ _ _ _ _ c.requires c.if-n-room.false (sym c.place_of.ensures ∙ nowhere))

pub returns : goal.returns
returns c =
    c.judge_read_in.ensures
    ∙ sym (read_placed _ _ _ _ _ _ c.requires c.if-n-room.false
    (sym c.place_of.ensures ∙ c.in_ok-place.ensures.ok_part))
