-- `moves::judge_stage` meets its contract: stage by stage. Assumes nothing.
use Rattle.moves.proofs.AdvanceLaws.{move_refuses, moves, no_advance}
use Rattle.rules.proofs.Tests.{gives, leaves, none_applies}
use Rattle.rules.specs.Refusals.{can_advance}
use Rattle.rules.specs.declared.Model.TheVariants.{Receiver}
use Rattle.rules.specs.declared.Refusal.TheVariants.{OtherModel}
use Rattle.std.proofs.Common.{ap, ◌∙◌, not}
use Rattle.moves.proofs.judge_stage.Goals as goal

pub returns-in_default : goal.returns-in_default
returns-in_default c =
    move_refuses _ _ OtherModel (gives 14 _ _ (ap not (no_advance _ c.in_default.not-Receiver)))

pub returns-in-Zero : goal.returns-in-Zero
unfolding can_advance
returns-in-Zero c =
    let stage = c.in-Receiver.is ∙ ap Receiver c.in-Zero.is in
    moves _ _ _ (leaves 14 _ _ (ap (λ m. not (can_advance m)) stage) ∙ none_applies) stage

pub returns-in-One : goal.returns-in-One
unfolding can_advance
returns-in-One c =
    let stage = c.in-Receiver.is ∙ ap Receiver c.in-One.is in
    moves _ _ _ (leaves 14 _ _ (ap (λ m. not (can_advance m)) stage) ∙ none_applies) stage

pub returns-in-Two : goal.returns-in-Two
unfolding can_advance
returns-in-Two c =
    let stage = c.in-Receiver.is ∙ ap Receiver c.in-Two.is in
    move_refuses _ _ OtherModel (gives 14 _ _ (ap (λ m. not (can_advance m)) stage))
