-- `layout::segment_place` meets its contract. Assumes nothing.
use Rattle.rules.proofs.MapLaws.{segments_aligned}
use Rattle.rules.proofs.Places.{found_at, found_public}
use Rattle.rules.specs.declared.Place.TheVariants.{Segment}
use Rattle.layout.proofs.Laws.{then_cond}
use Rattle.std.proofs.Common.{sym, ◌∙◌, arith}
use Rattle.layout.proofs.segment_place.Goals as goal

pub returns-then-k-a : goal.returns-then-k-a
returns-then-k-a c =
    let aligned = segments_aligned c.args.a in
    sym (found_at c.args.a c.args.p c.args.at c.args.n c.requires.0 (Segment _) (omega arith)
    (omega arith, omega arith, omega arith))

pub returns : goal.returns
returns c =
    let aligned = segments_aligned c.args.a in
    c.then_some.ensures
    ∙ then_cond _ _
    ∙ sym (found_public c.args.a c.args.p c.args.at c.args.n c.requires.0 _ (omega arith)
    (omega arith) (omega arith))
