-- `reads::judge_segment_read` meets its contract: test by test. Assumes nothing.
use Rattle.layout.proofs.Laws.{unit_inside}
use Rattle.reads.proofs.Laws.{segment_formless, segment_read_by}
use Rattle.rules.proofs.Tests.{gives, leaves, none_applies}
use Rattle.std.proofs.Common.{sym, ◌∙◌, arith}
use Rattle.reads.proofs.judge_segment_read.Goals as goal

pub unit_of-unit-requires : goal.unit_of-unit-requires
unit_of-unit-requires c = (unit_inside _ _ c.requires.0 c.requires.1).inside

pub returns-in_default : goal.returns-in_default
returns-in_default c =
    sym (segment_formless _ _ _ _ _ _ _ _ c.unit_of-unit.ensures (sym c.in_default.ensures))

pub returns-then-not-u : goal.returns-then-not-u
returns-then-not-u c =
    sym (segment_read_by _ _ _ _ _ _ _ _ _ c.unit_of-unit.ensures (sym c.in-Some.ensures) ∙ gives 6 _ _ c.if-not-u.true)

pub hidden-requires : goal.hidden-requires
hidden-requires c =
    let i = unit_inside _ _ c.requires.0 c.requires.1 in
    let inside = i.inside in
    let small = i.small in
    (omega (arith, inside), omega (arith, inside, small), c.requires.2)

pub returns-then-hidden : goal.returns-then-hidden
returns-then-hidden c =
    sym (segment_read_by _ _ _ _ _ _ _ _ _ c.unit_of-unit.ensures (sym c.in-Some.ensures) ∙ leaves 6 _ _ c.if-not-u.false
    ∙ gives 6 _ _ (sym c.hidden.ensures ∙ c.if-hidden.true))

pub returns-then-u-session : goal.returns-then-u-session
returns-then-u-session c =
    sym (segment_read_by _ _ _ _ _ _ _ _ _ c.unit_of-unit.ensures (sym c.in-Some.ensures) ∙ leaves 6 _ _ c.if-not-u.false
    ∙ leaves 6 _ _ (sym c.hidden.ensures ∙ c.if-hidden.false) ∙ gives 7 _ _ c.if-u-session.true)

pub returns-then-u-named : goal.returns-then-u-named
returns-then-u-named c =
    sym (segment_read_by _ _ _ _ _ _ _ _ _ c.unit_of-unit.ensures (sym c.in-Some.ensures) ∙ leaves 6 _ _ c.if-not-u.false
    ∙ leaves 6 _ _ (sym c.hidden.ensures ∙ c.if-hidden.false) ∙ leaves 7 _ _ c.if-u-session.false
    ∙ gives 8 _ _ (rw c.named.ensures at c.if-u-named.true))

pub returns : goal.returns
returns c =
    sym (segment_read_by _ _ _ _ _ _ _ _ _ c.unit_of-unit.ensures (sym c.in-Some.ensures) ∙ leaves 6 _ _ c.if-not-u.false
    ∙ leaves 6 _ _ (sym c.hidden.ensures ∙ c.if-hidden.false) ∙ leaves 7 _ _ c.if-u-session.false
    ∙ leaves 8 _ _ (rw c.named.ensures at c.if-u-named.false) ∙ none_applies)
