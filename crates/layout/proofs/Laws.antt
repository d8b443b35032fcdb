-- Where units and segments lie in a sound tag, and a unit that is lent. Assumes nothing.
use Rattle.std.specs.Prelude.{Option, Some, None, cond, MatchOption}
use Rattle.std.specs.Array.{IsWholeChunk}
use Rattle.std.specs.Bool.{then_some}
use Prim.Native.Nat.{ℕ, ◌+◌, ◌-◌, ◌%◌, ◌≤◌, ◌<◌}
use mathlib.Core.Path.{◌≡◌, refl, ap, ◌∙◌}
use mathlib.Core.Bool.{Bool, true, false, not}
use mathlib.Core.List.{List}
use native.Mathlib.Omega.{arith}
use lib.ListN.{length}
use lib.Dec.{ltb}
use borrow.Author.Tests.{ltb-true, not-false}
use borrow.Rule.Slice.PartMut.{put_mid, mid_of}
use Rattle.rules.specs.declared.Place.{Place}
use Rattle.rules.specs.declared.Place.TheVariants.{UnitOf, Segment}
use Rattle.rules.specs.Bytes.{part, put}
use Rattle.rules.specs.Map.{largest_tag, sound, segments, publics, place_of, unit_at, segment_at}
use Rattle.rules.specs.Units.{unit_bytes}
use Rattle.rules.proofs.BytesLaws.{length-put}
use Rattle.rules.proofs.MapLaws.{sound_long, segments_aligned, sizes}
use Rattle.rules.proofs.Places.{place_holds, placed, Extent}
use Rattle.octets.proofs.Laws.{part_lent, length_lent, put_back, put_inside}

-- a place, where it fits
pub then_cond : (b : Bool) (p : Place) → then_some b p ≡ cond b (Some p) None
then_cond true p = refl
then_cond false p = refl

-- n bytes that are lent as an array
pub lent_whole : (B P : Type 0) (now : B → List ℕ) (xs : List ℕ) (n : ℕ) (o : Option B) (y : B) → o ≡ Some y
    → MatchOption o P (λ z. IsWholeChunk xs (now z) n) → now y ≡ xs
lent_whole B P now xs n o y e h = let g : IsWholeChunk xs (now y) n = rw e at h in g.same

-- ---- where the unit of a segment lies

pub record UnitInside (t : List ℕ) (k : ℕ) : Type 0 where
  pub among : k < segments t
  pub inside : unit_at k + 32 ≤ length t
  pub small : length t ≤ largest_tag

pub unit_inside : (t : List ℕ) (k : ℕ) → sound t ≡ true → k < segments t → UnitInside t k
unit_inside t k w h =
    let g = sound_long t w in record { among = h; inside = omega arith; small = (sizes t w).largest }

-- by the test of a segment's number
pub unit_counted : (t : List ℕ) (k m : ℕ) → sound t ≡ true → m ≡ segments t → not (ltb k m) ≡ false → UnitInside t k
unit_counted t k m w e h = unit_inside t k w (rw (← e) (ltb-true k m (not-false _ h)))

-- a range that is found in a place lies there
found_there : (t : List ℕ) (p q : Place) (a n : ℕ) → sound t ≡ true → place_of t a n ≡ Some p → p ≡ q
    → Extent (segments t) (publics t) q a n
found_there t p q a n w e f = placed t q a n w (place_holds t q a n (e ∙ ap Some f))

-- the unit that holds a range, and the unit of the segment that holds one
pub unit_found : (t : List ℕ) (p : Place) (k a n : ℕ) → sound t ≡ true → place_of t a n ≡ Some p → p ≡ UnitOf k
    → UnitInside t k × (unit_at k ≤ a) × (a + n ≤ unit_at k + 32)
unit_found t p k a n w e f =
    let x = found_there t p (UnitOf k) a n w e f in (unit_inside t k w x.0, x.1, x.2)

pub segment_found : (t : List ℕ) (p : Place) (k a n : ℕ) → sound t ≡ true → place_of t a n ≡ Some p → p ≡ Segment k
    → UnitInside t k × (segment_at (segments t) k ≤ a) × (a + n ≤ length t)
segment_found t p k a n w e f =
    let x = found_there t p (Segment k) a n w e f in
    let g = sound_long t w in
    (unit_inside t k w x.0, x.1, omega arith)

-- a segment begins at a multiple of 4,096, so that an offset in it is the address's
pub segment_offset : (t : List ℕ) (p : Place) (k a n : ℕ) → sound t ≡ true → place_of t a n ≡ Some p → 1 ≤ n → p ≡ Segment k
    → (k < segments t) × (a - segment_at (segments t) k ≡ a % 4096) × (a % 4096 + n ≤ 4096)
segment_offset t p k a n w e l f =
    let x = found_there t p (Segment k) a n w e f in
    let s = segments_aligned (segments t) in
    (x.0, omega arith, omega arith)

-- ---- a unit that is lent, and comes back with data stored at an offset

pub unit_lent : (t : List ℕ) (k a : ℕ) → a ≡ unit_at k → mid_of a (a + 32 - a) t ≡ unit_bytes t k
unfolding unit_bytes
unit_lent t k a f = rw f (part_lent (unit_at k) 32 t)

pub unit_back : (t : List ℕ) (k a o p : ℕ) (bs ys : List ℕ) → a ≡ unit_at k → unit_at k + 32 ≤ length t → a + o ≡ p
    → o + length bs ≤ 32 → ys ≡ put o bs (unit_bytes t k) → put_mid a (a + 32 - a) t ys ≡ put p bs t
unfolding unit_bytes
unit_back t k a o p bs ys f i e h q =
    let r : ys ≡ put o bs (part a 32 t) = rw f q in
    put_back a 32 t ys _ r (length-put o bs _ ∙ length_lent a 32 t (omega arith)) (omega arith)
    ∙ put_inside a 32 o p bs t e h
