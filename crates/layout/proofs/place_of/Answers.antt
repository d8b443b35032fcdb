-- `layout::place_of` meets its contract. Assumes nothing.
use Rattle.rules.proofs.MapLaws.{sound-facts, sizes, segments_aligned}
use Rattle.rules.proofs.Places.{none_across}
use Rattle.rules.specs.Map.{publics, place_of}
use Rattle.std.proofs.Common.{sym, arith}
use Rattle.layout.proofs.place_of.Goals as goal

pub returns-then-at-n : goal.returns-then-at-n
unfolding place_of
returns-then-at-n c =
    sym (none_across _ _ c.args.at c.args.n (sound-facts _ c.requires.0).most_segments (omega arith))

pub segments-a-requires : goal.segments-a-requires
segments-a-requires c = omega (arith, (sizes _ c.requires.0).smallest)

pub publics-requires : goal.publics-requires
publics-requires c = omega (arith, (sizes _ c.requires.0).smallest)

pub segment_place-requires : goal.segment_place-requires
segment_place-requires c =
    let few = (sound-facts _ c.requires.0).most_segments in
    (omega (arith, c.segments-a.ensures), omega arith, omega arith, omega arith)

pub returns-then-segments_at-at : goal.returns-then-segments_at-at
unfolding place_of
returns-then-segments_at-at c =
    rw (c.segments-a.ensures, c.publics.ensures) at c.segment_place.ensures

pub unit_place-requires : goal.unit_place-requires
unit_place-requires c =
    let aligned = segments_aligned c.segments-a.result in
    let few = (sound-facts _ c.requires.0).most_segments in
    (omega (arith, c.segments-a.ensures), omega arith, omega arith, omega arith)

pub returns-then-at-lt-UNITS : goal.returns-then-at-lt-UNITS
unfolding place_of
returns-then-at-lt-UNITS c =
    c.fixed_place.ensures _ _ (sound-facts c.args.tag.now c.requires.0).most_segments

pub returns-else-at-lt-UNITS : goal.returns-else-at-lt-UNITS
unfolding place_of
returns-else-at-lt-UNITS c =
    rw c.segments-a.ensures at (c.unit_place.ensures (publics c.args.tag.now))
