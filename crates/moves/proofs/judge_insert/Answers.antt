-- `moves::judge_insert` meets its contract: test by test. Assumes nothing.
use Rattle.layout.proofs.Laws.{unit_inside}
use Rattle.moves.proofs.InsertLaws.{insert_formless, insert_by}
use Rattle.rules.proofs.Tests.{first_gives, first_leaves, gives, leaves, none_applies, handed_on}
use Rattle.rules.specs.Answers.{refusal_of}
use Rattle.std.proofs.Common.{sym, ap, ◌∙◌, not, arith}
use Rattle.moves.proofs.judge_insert.Goals as goal

pub unit_of-unit-requires : goal.unit_of-unit-requires
unit_of-unit-requires c =
    let a = c.args in
    (unit_inside a.tag.now a.k c.requires.0 c.requires.1).inside

pub returns-in_default : goal.returns-in_default
returns-in_default c = sym (insert_formless _ _ _ _ _ _ c.unit_of-unit.ensures (sym c.in_default.ensures))

pub returns-in_err-judge_rights : goal.returns-in_err-judge_rights
returns-in_err-judge_rights c =
    ap refusal_of (handed_on _ _ c.from_residual.ensures.1)
    ∙ sym (insert_by _ _ _ _ _ _ _ _ c.unit_of-unit.ensures (sym c.in-Some.ensures) c.named.ensures
    ∙ first_gives _ _ _ (sym c.in_err-judge_rights.ensures))

pub returns-then-not-is_filling : goal.returns-then-not-is_filling
returns-then-not-is_filling c =
    sym (insert_by _ _ _ _ _ _ _ _ c.unit_of-unit.ensures (sym c.in-Some.ensures) c.named.ensures ∙ first_leaves _ _ (sym c.in_ok-judge_rights.ensures)
    ∙ gives 14 _ _ (ap not (sym c.is_filling.ensures ∙ c.if-not-is_filling.true)))

pub refuses-requires : goal.refuses-requires
refuses-requires c =
    let a = c.args in
    let i = unit_inside a.tag.now a.k c.requires.0 c.requires.1 in
    let inside = i.inside in
    let small = i.small in
    (c.requires.0, omega (arith, inside, small))

pub returns-then-refuses : goal.returns-then-refuses
returns-then-refuses c =
    sym (insert_by _ _ _ _ _ _ _ _ c.unit_of-unit.ensures (sym c.in-Some.ensures) c.named.ensures ∙ first_leaves _ _ (sym c.in_ok-judge_rights.ensures)
    ∙ leaves 14 _ _ (ap not (sym c.is_filling.ensures ∙ c.if-not-is_filling.false))
    ∙ gives 19 _ _ (sym c.refuses.ensures ∙ c.if-refuses.true))

pub returns : goal.returns
returns c =
    sym (insert_by _ _ _ _ _ _ _ _ c.unit_of-unit.ensures (sym c.in-Some.ensures) c.named.ensures ∙ first_leaves _ _ (sym c.in_ok-judge_rights.ensures)
    ∙ leaves 14 _ _ (ap not (sym c.is_filling.ensures ∙ c.if-not-is_filling.false))
    ∙ leaves 19 _ _ (sym c.refuses.ensures ∙ c.if-refuses.false) ∙ none_applies)
