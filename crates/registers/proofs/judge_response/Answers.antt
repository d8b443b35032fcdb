-- `registers::judge_response` meets its contract: test by test. Assumes nothing.
use Rattle.registers.proofs.Laws.{index_within, response_parts}
use Rattle.rules.proofs.Tests.{gives, leaves, none_applies, first_gives, first_leaves, handed_on}
use Rattle.rules.specs.Answers.{refusal_of}
use Rattle.rules.specs.Bytes.{same}
use Rattle.rules.specs.State.{pin}
use Rattle.std.proofs.Common.{sym, ap, ◌∙◌, not, arith}
use Rattle.registers.proofs.judge_response.Goals as goal

pub returns-in_err-judge_flag : goal.returns-in_err-judge_flag
returns-in_err-judge_flag c =
    ap refusal_of (handed_on _ _ c.from_residual.ensures.1)
    ∙ sym (response_parts _ _ _ ∙ first_gives _ _ _ (sym c.in_err-judge_flag.ensures))

pub overflow_mul-pin : goal.overflow_mul-pin
overflow_mul-pin c = omega (arith, index_within _ _ (sym c.in_ok-judge_flag.ensures))

pub overflow_add-pin : goal.overflow_add-pin
overflow_add-pin c = omega (arith, index_within _ _ (sym c.in_ok-judge_flag.ensures))

pub response-wanted-requires : goal.response-wanted-requires
response-wanted-requires c = omega (arith, index_within _ _ (sym c.in_ok-judge_flag.ensures))

pub returns-then-equal : goal.returns-then-equal
unfolding pin
returns-then-equal c =
    let equal = sym (ap (same _) c.response-wanted.ensures) ∙ sym c.equal.ensures ∙ c.if-equal.true in
    sym (response_parts _ _ _ ∙ first_leaves _ _ (sym c.in_ok-judge_flag.ensures) ∙ leaves 11 _ _ (ap not equal) ∙ none_applies)

pub returns-else-equal : goal.returns-else-equal
unfolding pin
returns-else-equal c =
    let equal = sym (ap (same _) c.response-wanted.ensures) ∙ sym c.equal.ensures ∙ c.if-equal.false in
    sym (response_parts _ _ _ ∙ first_leaves _ _ (sym c.in_ok-judge_flag.ensures) ∙ gives 11 _ _ (ap not equal))
