-- `moves::judge_advance` meets its contract: test by test. Assumes nothing.
use Rattle.moves.proofs.AdvanceLaws.{move_refuses, passed_on, move_judged, advance_by}
use Rattle.rules.proofs.Tests.{first_gives, first_leaves}
use Rattle.rules.specs.Refusals.{advance_checks}
use Rattle.rules.specs.declared.Refusal.TheVariants.{Malformed}
use Rattle.std.proofs.Common.{sym, ap, ◌∙◌}
use Rattle.units.proofs.FormLaws.{formless}
use Rattle.units.proofs.Laws.{decoded_whole}
use Rattle.moves.proofs.judge_advance.Goals as goal

pub returns-in_default : goal.returns-in_default
unfolding advance_checks
returns-in_default c = move_refuses _ _ Malformed (formless _ _ (sym c.in_default.ensures))

pub returns-in_err-judge_rights : goal.returns-in_err-judge_rights
returns-in_err-judge_rights c =
    passed_on _ _ _ _ c.from_residual.ensures.1
    (sym (advance_by _ _ _ _ _ (sym c.in-Some.ensures) c.named.ensures ∙ first_gives _ _ _ (sym c.in_err-judge_rights.ensures)))

pub returns : goal.returns
returns c =
    let whole = sym c.in-Some.ensures in
    move_judged _ _ _ _ _ (advance_by _ _ _ _ _ whole c.named.ensures ∙ first_leaves _ _ (sym c.in_ok-judge_rights.ensures))
    (ap (λ u. u.model) (sym (decoded_whole _ _ whole).1)) c.judge_stage.ensures
