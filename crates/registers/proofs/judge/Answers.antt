-- `registers::judge` meets its contract: register by register. Assumes nothing.
use Rattle.octets.proofs.Laws.{part_lent}
use Rattle.registers.proofs.Laws.{other_size, right_size, block_response, block_plain}
use Rattle.rules.proofs.Tests.{none_applies}
use Rattle.rules.specs.Refusals.{lowest, block_checks}
use Rattle.rules.specs.State.{pin_index, owner_index, guard}
use Rattle.std.proofs.Common.{sym, ap, ◌∙◌}
use Rattle.registers.proofs.judge.Goals as goal

pub returns-in_default : goal.returns-in_default
returns-in_default c = sym (other_size _ _ _ _ c.in_default.ensures.cases)

pub returns-in-Read : goal.returns-in-Read
unfolding pin_index
returns-in-Read c =
    c.judge_response.ensures
    ∙ rw (c.number16-pin.ensures, c.in-Some.ensures.cases.same)
    (sym (right_size _ _ _ _ c.in-Some.ensures.cases.long ∙ ap lowest (block_response _ _ _ _ c.in-Read.is)))

pub returns-in-Name : goal.returns-in-Name
unfolding block_checks pin_index
returns-in-Name c =
    c.judge_flag.ensures
    ∙ rw (c.number16-pin.ensures, c.in-Name.is) (sym (right_size _ _ _ _ c.in-Some.ensures.cases.long))

pub returns-in-Commit : goal.returns-in-Commit
unfolding block_checks pin_index owner_index guard
returns-in-Commit c =
    c.judge_commit.ensures
    ∙ rw (
      c.number16-pin.ensures,
      c.number16.ensures,
      part_lent 4 12 c.args.session.pa,
      c.in-Commit.is,
      c.in-Some.ensures.cases.same,
    )
    (sym (right_size _ _ _ _ c.in-Some.ensures.cases.long))

pub returns-in-Id : goal.returns-in-Id
returns-in-Id c =
    sym (right_size _ _ _ _ c.in-Some.ensures.cases.long ∙ ap lowest (block_plain _ _ _ _ c.in-Id.is) ∙ none_applies)
