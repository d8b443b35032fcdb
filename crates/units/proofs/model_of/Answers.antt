-- `units::model_of` meets its contract: each arm is what `model_fits` and `model_of` say of its byte. Assumes nothing.
use Rattle.rules.specs.Units.{bit, model_fits, model_of, stage_of, key_stage_of}
use Rattle.std.proofs.Common.{sym, ◌∙◌}
use Rattle.units.proofs.Laws.{model_default, model_named, model_none}
use mathlib.Core.Bool.{or-false}
use Rattle.units.proofs.model_of.Goals as goal

pub returns-then-control-ne1 : goal.returns-then-control-ne1
returns-then-control-ne1 c = sym (model_default c.args.unit.now c.if-control-ne1.true)

pub returns-in-0 : goal.returns-in-0
unfolding model_fits model_of stage_of bit
returns-in-0 c = sym (model_named c.args.unit.now c.if-control-ne1.false ∙ rw c.in-0.is)

pub returns-in-1 : goal.returns-in-1
unfolding model_fits model_of stage_of bit
returns-in-1 c =
    c.then_some.ensures
    ∙ sym (model_named c.args.unit.now c.if-control-ne1.false ∙ rw c.in-1.is)

pub returns-in-2 : goal.returns-in-2
unfolding model_fits model_of stage_of bit
returns-in-2 c =
    c.then_some-in-2.ensures
    ∙ sym (model_named c.args.unit.now c.if-control-ne1.false ∙ rw c.in-2.is)

pub returns-in-3 : goal.returns-in-3
unfolding model_fits model_of stage_of bit
returns-in-3 c =
    c.then_some-in-3.ensures
    ∙ sym (model_named c.args.unit.now c.if-control-ne1.false ∙ rw (c.in-3.is, or-false))

pub returns-in-19 : goal.returns-in-19
unfolding model_fits model_of stage_of bit
returns-in-19 c =
    c.then_some-in-19.ensures
    ∙ sym (model_named c.args.unit.now c.if-control-ne1.false ∙ rw (c.in-19.is, or-false))

pub returns-in-35 : goal.returns-in-35
unfolding model_fits model_of stage_of bit
returns-in-35 c =
    c.then_some-in-35.ensures
    ∙ sym (model_named c.args.unit.now c.if-control-ne1.false ∙ rw c.in-35.is)

pub returns-in-4 : goal.returns-in-4
unfolding model_fits model_of key_stage_of bit
returns-in-4 c =
    c.then_some-in-4.ensures
    ∙ sym (model_named c.args.unit.now c.if-control-ne1.false ∙ rw (c.in-4.is, or-false))

pub returns-in-20 : goal.returns-in-20
unfolding model_fits model_of key_stage_of bit
returns-in-20 c =
    c.then_some-in-20.ensures
    ∙ sym (model_named c.args.unit.now c.if-control-ne1.false ∙ rw c.in-20.is)

pub returns-in_default : goal.returns-in_default
returns-in_default c = sym (model_none c.args.unit.now c.if-control-ne1.false c.in_default.in_default-own.rest)
