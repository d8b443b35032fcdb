-- `units::judge_rights` meets its contract: test by test. Assumes nothing.
use Rattle.rules.proofs.Tests.{gives, leaves, none_applies}
use Rattle.std.proofs.Common.{sym, ◌∙◌}
use Rattle.units.proofs.judge_rights.Goals as goal

pub returns-then-forbidden : goal.returns-then-forbidden
returns-then-forbidden c = sym (gives 6 _ _ c.if-forbidden.true)

pub returns-then-pin : goal.returns-then-pin
returns-then-pin c = sym (leaves 6 _ _ c.if-forbidden.false ∙ gives 7 _ _ c.if-pin.true)

pub returns-then-name : goal.returns-then-name
returns-then-name c =
    sym (leaves 6 _ _ c.if-forbidden.false ∙ leaves 7 _ _ c.if-pin.false
    ∙ gives 8 _ _ c.if-name.true)

pub returns : goal.returns
returns c =
    sym (leaves 6 _ _ c.if-forbidden.false ∙ leaves 7 _ _ c.if-pin.false
    ∙ leaves 8 _ _ c.if-name.false ∙ none_applies)
