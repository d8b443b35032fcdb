-- `moves::insert_sound` meets its contract: the host is inserted, or all stays. Assumes nothing.
use Rattle.layout.proofs.Laws.{unit_counted}
use Rattle.moves.proofs.InsertLaws.{insert_outside, insert_placed, insert_refused, insert_granted}
use Rattle.rules.proofs.HostsLaws.{insert_free}
use Rattle.rules.proofs.MapLaws.{sizes}
use Rattle.rules.proofs.Tests.{handed_on}
use Rattle.rules.specs.Answers.{refusal_of}
use Rattle.rules.specs.State.{state}
use Rattle.std.proofs.Common.{sym, ap, ◌∙◌, not, arith}
use Rattle.xxtea.specs.Block.{E}
use borrow.Author.Tests.{lt-ltb}
use Rattle.moves.proofs.insert_sound.Goals as goal

pub segments-requires : goal.segments-requires
segments-requires c = omega (arith, (sizes _ c.requires).smallest)

pub returns-then-not-segment-segments : goal.returns-then-not-segment-segments
returns-then-not-segment-segments c =
    let refused = insert_outside _ _ _ _ _ c.requires c.segments.ensures c.if-not-segment-segments.true in
    record { result_value = sym refused; session_after = insert_refused _ _ _ _ _ refused }

pub insert-requires : goal.insert-requires
insert-requires c =
    let free = insert_free _ _ _ _ _ (sym c.in_ok-judge_insert.ensures) in
    record {
      is_sound = c.requires;
      there = (unit_counted _ _ _ c.requires c.segments.ensures (ap not (lt-ltb _ _ c.if-not-segment-segments.false))).among;
      formed = free.0;
      filling = free.1;
      free = free.2;
    }

pub returns-in_err-judge_insert : goal.returns-in_err-judge_insert
returns-in_err-judge_insert c =
    let a = c.args in
    let there = (unit_counted _ _ _ c.requires c.segments.ensures (ap not (lt-ltb _ _ c.if-not-segment-segments.false))).among in
    let v = state a.tag.now a.session in
    let refused = insert_placed E v a.segment a.id c.requires there ∙ sym c.in_err-judge_insert.ensures in
    record {
      result_value = ap refusal_of (handed_on _ _ c.from_residual.ensures.1) ∙ sym refused;
      session_after = insert_refused E v a.segment a.id _ refused;
    }

pub returns : goal.returns
returns c =
    let a = c.args in
    let there = (unit_counted _ _ _ c.requires c.segments.ensures (ap not (lt-ltb _ _ c.if-not-segment-segments.false))).among in
    let v = state a.tag.now a.session in
    let none = insert_placed E v a.segment a.id c.requires there ∙ sym c.in_ok-judge_insert.ensures in
    record { result_value = sym none; session_after = insert_granted E v a.segment a.id _ none c.insert.ensures }
