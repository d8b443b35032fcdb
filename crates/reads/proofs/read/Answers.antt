-- `reads::read` meets its contract: a tag that is not sound gives 1. Assumes nothing.
use Rattle.reads.proofs.Laws.{read_stays}
use Rattle.rules.proofs.Refused.{refused_changes_nothing}
use Rattle.rules.proofs.Unsound.{unsound}
use Rattle.rules.specs.Command.{read}
use Rattle.rules.specs.State.{state}
use Rattle.std.proofs.Common.{sym, ◌∙◌, length}
use Rattle.xxtea.specs.Block.{E}
use Rattle.reads.proofs.read.Goals as goal

pub returns-then-not-is_sound : goal.returns-then-not-is_sound
returns-then-not-is_sound c =
    let a = c.args in
    let s = state a.tag.now a.session in
    let n = sym c.requires ∙ c.if-not-is_sound.true in
    let u = unsound E s (read a.address a.count (length a.output.now)) tt n in
    record { carried_out = u; output_after = sym ((refused_changes_nothing _ _ _ _ (sym u.answered)).same_output _) }

pub returns : goal.returns
returns c =
    let done = c.read_sound.ensures in
    record {
      carried_out = record { answered = done.result_value; left = sym (read_stays _ _ _ _ _) };
      output_after = done.output_after;
    }
