-- `command_log::put_answer` meets its contract: one byte or two, stored one by one. Assumes nothing.
use Rattle.octets.proofs.Laws.{set_put, put_two}
use Rattle.rules.specs.Log.{encoded}
use Rattle.std.proofs.Common.{ap, ◌∙◌, set}
use Rattle.command_log.proofs.put_answer.Goals as goal

pub returns-in-Ok : goal.returns-in-Ok
unfolding encoded
returns-in-Ok c =
    let t = c.args.output.now in
    let e = c.in-Ok.is in
    record { output_after = set_put 0 0x50 t ∙ rw e; value = rw e }

pub returns-in-Err : goal.returns-in-Err
unfolding encoded
returns-in-Err c =
    let t = c.args.output.now in
    let e = c.in-Err.is in
    record { output_after = ap (λ n. set (set t 0 0x51) 1 n) c.number_of.ensures ∙ put_two 0x51 _ t ∙ rw e; value = rw e }
