-- `reads::read_sound` meets its contract: a granted read is stored, a refused one leaves the output. Assumes nothing.
use Rattle.octets.proofs.Laws.{part_lent}
use Rattle.reads.proofs.Laws.{read_inside, read_fills}
use Rattle.rules.proofs.Refused.{refused_changes_nothing}
use Rattle.rules.proofs.Tests.{handed_on}
use Rattle.rules.specs.Answers.{refusal_of}
use Rattle.std.proofs.Common.{sym, ap, ◌∙◌, arith}
use Rattle.reads.proofs.read_sound.Goals as goal

pub returns-in_err-judge_read : goal.returns-in_err-judge_read
returns-in_err-judge_read c =
    let refused = ap refusal_of (handed_on _ _ c.from_residual.ensures.1) ∙ c.in_err-judge_read.ensures in
    record {
      result_value = refused;
      output_after = sym ((refused_changes_nothing _ _ _ _ (sym c.in_err-judge_read.ensures)).same_output _);
    }

pub overflow_add-end : goal.overflow_add-end
overflow_add-end c =
    let inside = read_inside _ _ _ _ _ c.requires (sym c.in_ok-judge_read.ensures) in
    omega arith

pub slice_bounds-store-end : goal.slice_bounds-store-end
slice_bounds-store-end c = (read_inside _ _ _ _ _ c.requires (sym c.in_ok-judge_read.ensures)).0

pub returns : goal.returns
returns c =
    record {
      result_value = c.in_ok-judge_read.ensures;
      output_after = c.store.ensures ∙ rw (part_lent _ _ _) (sym (read_fills _ _ _ _ _ _ (sym c.in_ok-judge_read.ensures)));
    }
