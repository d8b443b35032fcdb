-- `registers::judge_flag` meets its contract: test by test. Assumes nothing.
use Rattle.registers.proofs.Laws.{above, within}
use Rattle.rules.proofs.Tests.{gives, leaves, none_applies}
use Rattle.rules.specs.Map.{flag}
use Rattle.rules.specs.Refusals.{name_checks}
use Rattle.std.proofs.Common.{sym, ◌∙◌, eq-eqb, ne_eqb}
use Rattle.registers.proofs.judge_flag.Goals as goal

pub returns-then-pin-gt255 : goal.returns-then-pin-gt255
unfolding name_checks
returns-then-pin-gt255 c = sym (gives 9 _ _ (above _ _ c.if-pin-gt255.true))

pub returns-then-tag-eq1 : goal.returns-then-tag-eq1
unfolding name_checks flag
returns-then-tag-eq1 c =
    sym (leaves 9 _ _ (within _ _ c.if-pin-gt255.false) ∙ gives 10 _ _ (eq-eqb _ _ c.if-tag-eq1.true))

pub returns : goal.returns
unfolding name_checks flag
returns c =
    sym (leaves 9 _ _ (within _ _ c.if-pin-gt255.false) ∙ leaves 10 _ _ (ne_eqb _ _ c.if-tag-eq1.false)
    ∙ none_applies)
