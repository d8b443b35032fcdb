-- `tag::reply_read` meets its contract: the bytes stand behind the code, or the refusal stands alone. Assumes nothing.
use Rattle.rules.specs.State.{state}
use Rattle.std.proofs.Common.{◌≡◌, ◌∙◌, ◌+◌, ◌-◌, arith, length}
use Rattle.tag.proofs.Laws.{read_written}
use borrow.Rule.Slice.PartMut.{mid_of, mid_len}
use Rattle.tag.proofs.reply_read.Goals as goal

pub returns : goal.returns
returns c =
    let a = c.args in
    let n = c.count_of-count.result in
    let e = c.count_of-count.ensures.0 in
    let k : 1 + n - 1 ≡ n = omega arith in
    let m : length (mid_of 1 (1 + n - 1) a.output.now) ≡ n =
    mid_len 1 (1 + n) a.output.now (omega (arith, c.requires.2)) ∙ k in
    let read = c.read-answer in
    let put = rw (← e) at c.put_read.ensures in
    let x =
    read_written (state a.tag.now a.session) a.address n _ _ a.output.now _ read.result m k
    read.ensures.carried_out.answered read.ensures.output_after in
    rw (← e) (record { bytes = put.output_after ∙ x.bytes; count = put.value ∙ x.count })
