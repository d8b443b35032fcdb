-- `writes::judging::judge_slot` meets its contract: the shape, then the value. Assumes nothing.
use Rattle.rules.proofs.Values.{value_unshaped}
use Rattle.rules.specs.Refusals.{lowest, value_checks, slot_checks}
use Rattle.std.proofs.Common.{sym, ap, ◌∙◌}
use Rattle.writes.proofs.judging.judge_slot.Goals as goal

pub returns-then-not-at-data : goal.returns-then-not-at-data
unfolding slot_checks
returns-then-not-at-data c = sym (value_unshaped _ _ _ (c.if-not-at-data.true))

pub returns : goal.returns
unfolding slot_checks
returns c =
    c.judge_value.ensures
    ∙ ap (λ b. lowest (value_checks b c.args.old.now c.args.«data».now))
    (sym (c.if-not-at-data.false))
