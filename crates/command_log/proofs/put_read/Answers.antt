-- `command_log::put_read` meets its contract: the code of a granted read, or the refusal. Assumes nothing.
use Rattle.command_log.proofs.Laws.{code_of}
use Rattle.octets.proofs.Laws.{set_put}
use Rattle.rules.specs.Bytes.{put}
use Rattle.rules.specs.Log.{encoded}
use Rattle.std.proofs.Common.{◌+◌, ap, ◌∙◌, [], ◌∷◌, arith}
use Rattle.command_log.proofs.put_read.Goals as goal

pub overflow_add-output : goal.overflow_add-output
overflow_add-output c = let d = (code_of _ c.requires.1).1 in omega arith

pub returns-in-Ok : goal.returns-in-Ok
returns-in-Ok c =
    let t = c.args.output.now in
    let e = c.in-Ok.is in
    record {
      output_after = set_put 0 _ t ∙ ap (λ k. put 0 (k ∷ []) t) (code_of _ c.requires.1).0 ∙ rw e;
      value = ap (λ n. 1 + n) c.count_of.ensures.0 ∙ rw e;
    }

pub returns-in-Err : goal.returns-in-Err
unfolding encoded
returns-in-Err c =
    let e = c.in-Err.is in
    record { output_after = c.put_answer.ensures.output_after ∙ rw e; value = c.put_answer.ensures.value ∙ rw e }
