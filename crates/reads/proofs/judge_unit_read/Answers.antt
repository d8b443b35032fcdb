-- `reads::judge_unit_read` meets its contract: test by test. Assumes nothing.
use Rattle.reads.proofs.Laws.{unit_read_by}
use Rattle.rules.proofs.Tests.{gives, leaves, none_applies}
use Rattle.rules.specs.Refusals.{unit_read_checks}
use Rattle.std.proofs.Common.{sym, ◌∙◌}
use Rattle.units.proofs.FormLaws.{formless}
use Rattle.reads.proofs.judge_unit_read.Goals as goal

pub returns-in_default : goal.returns-in_default
unfolding unit_read_checks
returns-in_default c = sym (formless _ _ (sym c.in_default.ensures))

pub returns-then-u-end : goal.returns-then-u-end
returns-then-u-end c =
    sym (unit_read_by _ _ _ (sym c.in-Some.ensures) ∙ gives 6 _ _ c.if-u-end.true)

pub returns : goal.returns
returns c =
    sym (unit_read_by _ _ _ (sym c.in-Some.ensures)
    ∙ leaves 6 _ _ c.if-u-end.false ∙ none_applies)
