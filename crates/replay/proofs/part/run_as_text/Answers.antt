-- `replay::part::run_as_text` meets its contract: a run into a buffer of 4,096 bytes, and the lines of what is written.
-- Assumes nothing.
use Rattle.std.proofs.Common.{rules, sym}
use lib.Seq.{length-take-le}
use Rattle.rules.specs.State.{state}
use Rattle.replay.proofs.TextLaws.{part_text}
use Rattle.replay.proofs.WholeLaws.{part_run, replies_within}
use Rattle.replay.proofs.part.run_as_text.Goals as goal

pub slice_bounds-replies-end : goal.slice_bounds-replies-end
slice_bounds-replies-end c = replies_within (state c.args.image.now c.args.session) _ _ _ _ _ c.run-run.ensures

pub slice_bounds-lines-end : goal.slice_bounds-lines-end
slice_bounds-lines-end c =
    sym (length-take-le _ _ (replies_within (state c.args.image.now c.args.session) _ _ _ _ _ c.run-run.ensures))

pub returns-clause-part_run : goal.returns-clause-part_run
returns-clause-part_run c =
    part_run (state c.args.image.now c.args.session) _ _ _ _ _ (search rules) c.run-run.ensures

pub returns-clause-part_text : goal.returns-clause-part_text
returns-clause-part_text c =
    part_text (state c.args.image.now c.args.session) _ _ _ _ _ _ _ _
    (search rules)
    c.run-run.ensures
    (search rules)
    c.lines-characters.ensures.text_after
    c.lines-characters.ensures.value
