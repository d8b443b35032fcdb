-- `registers::judge_commit` meets its contract: test by test. Assumes nothing.
use Rattle.registers.proofs.Laws.{indexes_refuse, commit_parts}
use Rattle.rules.proofs.Tests.{gives, leaves, none_applies, first_gives, first_leaves, handed_on}
use Rattle.rules.specs.Answers.{refusal_of}
use Rattle.std.proofs.Common.{sym, ap, ◌∙◌, not}
use Rattle.registers.proofs.judge_commit.Goals as goal

pub returns-then-pin-owner : goal.returns-then-pin-owner
returns-then-pin-owner c = sym (indexes_refuse _ _ _ _ _ c.if-pin-owner.true)

pub returns-in_err-judge_flag : goal.returns-in_err-judge_flag
returns-in_err-judge_flag c =
    ap refusal_of (handed_on _ _ c.from_residual.ensures.1)
    ∙ sym (commit_parts _ _ _ _ _ c.if-pin-owner.false ∙ first_gives _ _ _ (sym c.in_err-judge_flag.ensures))

pub returns-then-guard_fits : goal.returns-then-guard_fits
returns-then-guard_fits c =
    let fits = sym c.guard_fits.ensures ∙ c.if-guard_fits.true in
    sym (commit_parts _ _ _ _ _ c.if-pin-owner.false ∙ first_leaves _ _ (sym c.in_ok-judge_flag.ensures)
    ∙ leaves 11 _ _ (ap not fits) ∙ none_applies)

pub returns-else-guard_fits : goal.returns-else-guard_fits
returns-else-guard_fits c =
    let fits = sym c.guard_fits.ensures ∙ c.if-guard_fits.false in
    sym (commit_parts _ _ _ _ _ c.if-pin-owner.false ∙ first_leaves _ _ (sym c.in_ok-judge_flag.ensures)
    ∙ gives 11 _ _ (ap not fits))
