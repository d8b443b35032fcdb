-- `moves::advance_sound` meets its contract: the unit moves, or all stays. Assumes nothing.
use Rattle.layout.proofs.Laws.{unit_counted, unit_lent}
use Rattle.moves.proofs.AdvanceLaws.{advance_outside, advance_judged, advance_refused, advance_moves}
use Rattle.rules.proofs.Tests.{handed_on}
use Rattle.rules.proofs.MapLaws.{sizes}
use Rattle.rules.specs.Answers.{refusal_of}
use Rattle.std.proofs.Common.{refl, sym, ap, ◌∙◌, not, arith}
use borrow.Author.Tests.{lt-ltb}
use Rattle.moves.proofs.advance_sound.Goals as goal

pub segments-requires : goal.segments-requires
segments-requires c = omega (arith, (sizes _ c.requires).smallest)

pub returns-then-not-segment-segments : goal.returns-then-not-segment-segments
returns-then-not-segment-segments c =
    let refused = advance_outside _ _ _ _ c.requires c.segments.ensures c.if-not-segment-segments.true in
    record { result_value = sym refused; session_after = advance_refused _ _ _ _ refused }

pub unit_of-requires : goal.unit_of-requires
unit_of-requires c =
    (unit_counted _ _ _ c.requires c.segments.ensures (ap not (lt-ltb _ _ c.if-not-segment-segments.false))).inside

pub unit_at-start-requires : goal.unit_at-start-requires
unit_at-start-requires c =
    let there = unit_counted _ _ _ c.requires c.segments.ensures (ap not (lt-ltb _ _ c.if-not-segment-segments.false)) in
    omega arith

pub overflow_add-end : goal.overflow_add-end
overflow_add-end c =
    let there = unit_counted _ _ _ c.requires c.segments.ensures (ap not (lt-ltb _ _ c.if-not-segment-segments.false)) in
    omega (arith, there, c.unit_at-start.ensures)

pub slice_bounds-advance-end : goal.slice_bounds-advance-end
slice_bounds-advance-end c =
    let there = unit_counted _ _ _ c.requires c.segments.ensures (ap not (lt-ltb _ _ c.if-not-segment-segments.false)) in
    omega (arith, there, c.unit_at-start.ensures)

pub returns-in_err-stage : goal.returns-in_err-stage
returns-in_err-stage c =
    let there = unit_counted _ _ _ c.requires c.segments.ensures (ap not (lt-ltb _ _ c.if-not-segment-segments.false)) in
    let refused = advance_judged _ _ _ _ _ c.requires there.among c.unit_of.ensures c.in_err-stage.ensures in
    record {
      result_value = ap refusal_of (handed_on _ _ c.from_residual.ensures.1) ∙ refused;
      session_after = advance_refused _ _ _ _ (sym refused);
    }

pub returns : goal.returns
returns c =
    let start-at = c.unit_at-start.ensures in
    let t = c.args.tag.now in
    let k = c.args.segment in
    let there = unit_counted t k _ c.requires c.segments.ensures (ap not (lt-ltb _ _ c.if-not-segment-segments.false)) in
    let read = c.unit_of.ensures in
    let judged = c.in_ok-stage.ensures in
    let granted = advance_judged _ _ k _ _ c.requires there.among read judged in
    let model = rw read at (judged.granted _ refl) in
    record {
      result_value = granted;
      session_after = advance_moves _ _ k _ _ _ c.requires there.among (sym granted) model start-at
          (rw (unit_lent t k _ start-at) at c.advance.ensures);
    }
