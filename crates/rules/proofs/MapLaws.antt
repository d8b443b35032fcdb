-- Laws of the address rule, of the header and of soundness. No other proof about the rules opens the address rule.
use Prim.Native.Nat.{ℕ, zero, suc, ◌+◌, ◌*◌, ◌%◌, ◌≤◌}
use mathlib.Core.Path.{◌≡◌, refl, ap, ap₂, ◌∙◌}
use mathlib.Core.Bool.{true}
use mathlib.Core.List.{List, [], ◌∷◌}
use native.Mathlib.Omega.{arith}
use lib.ListN.{length, replicate, length-replicate, get_or-replicate, take, drop}
use lib.Dec.{eqb}
use borrow.Author.Tests.{leb-true, eqb-true, eq-eqb, le-leb}
use Rattle.rules.specs.Bytes.{zeros, part, put, number, number_from, Apart}
use Rattle.rules.specs.Map.{most, unit_at, segments_at, segments, managements, segment_at, publics, flag_at, flag, pin_at, sound, soundness}
use Rattle.rules.specs.Claims.{Sizes, SizesReached, SoundTag, SoundIs}
use Rattle.rules.proofs.Tests.{and_true, all_true, all_and, all_none}
use Rattle.rules.proofs.BytesLaws.{length_part, part-put, byte_put_out, byte_put, length-put}

-- where the segments begin: behind the units, with a spare place of at most 4,096 bytes between, and at a multiple of
-- 4,096; 128 units end just there
pub units_fit : (A : ℕ) → A ≤ most → unit_at A ≤ segments_at A
unfolding most managements segments_at
units_fit A h = omega arith

pub spare_short : (A : ℕ) → segments_at A ≤ unit_at A + 4096
unfolding managements segments_at
spare_short A = omega arith

pub segments_aligned : (A : ℕ) → segments_at A % 4096 ≡ 0
unfolding managements segments_at
segments_aligned A = omega arith

pub units_fill : segments_at 128 ≡ unit_at 128
unfolding managements segments_at
units_fill = refl

-- ---- the facts of soundness

pub record SoundFacts (t : List ℕ) : Type 0 where
  pub long : length t ≡ segment_at (segments t) (segments t + publics t)
  pub least : 1 ≤ segments t
  pub most_segments : segments t ≤ most
  pub most_publics : publics t ≤ most
  pub flagged : flag t ≤ 1
  pub padding : zeros (part 13 3 t) ≡ true
  pub pin_zero : zeros (part (pin_at 0) 16 t) ≡ true

pub sound-facts : (t : List ℕ) → sound t ≡ true → SoundFacts t
unfolding sound soundness
sound-facts t e =
    let s0 = all_true _ _ e in
    let s1 = all_true _ _ s0.1 in
    let s2 = all_true _ _ s1.1 in
    let s3 = all_true _ _ s2.1 in
    let s4 = all_true _ _ s3.1 in
    let s5 = all_true _ _ s4.1 in
    let s6 = all_true _ _ s5.1 in
    record {
      long = eqb-true _ _ s0.0;
      least = leb-true _ _ s1.0;
      most_segments = leb-true _ _ s2.0;
      most_publics = leb-true _ _ s3.0;
      flagged = leb-true _ _ s4.0;
      padding = s5.0;
      pin_zero = s6.0;
    }

pub sound-from : (t : List ℕ) → SoundFacts t → sound t ≡ true
unfolding sound soundness
sound-from t f =
    all_and _ _ (eq-eqb _ _ f.long) (all_and _ _ (le-leb _ _ f.least)
    (all_and _ _ (le-leb _ _ f.most_segments) (all_and _ _ (le-leb _ _ f.most_publics)
    (all_and _ _ (le-leb _ _ f.flagged) (all_and _ _ f.padding (all_and _ _ f.pin_zero all_none))))))

-- the units end before the segments, which end before the tag does
pub sound_long : (t : List ℕ) → sound t ≡ true
    → (unit_at (segments t) ≤ segments_at (segments t)) × (length t ≡ segment_at (segments t) (segments t + publics t))
sound_long t w = (units_fit (segments t) (sound-facts t w).most_segments, (sound-facts t w).long)

-- ---- the header after a store

pub segments-put : (a : ℕ) (bs t : List ℕ) → Apart a (length bs) 0 4 → segments (put a bs t) ≡ segments t
unfolding segments
segments-put a bs t h = ap number (part-put 0 2 a bs t (λ i p q u v. h i p q u (omega arith)))

pub publics-put : (a : ℕ) (bs t : List ℕ) → Apart a (length bs) 0 4 → publics (put a bs t) ≡ publics t
unfolding publics
publics-put a bs t h = ap number (part-put 2 2 a bs t (λ i p q u v. h i p q (omega arith) v))

pub flag-put : (a : ℕ) (bs t : List ℕ) → Apart a (length bs) flag_at 4 → flag (put a bs t) ≡ flag t
unfolding flag
flag-put a bs t h = byte_put_out a bs t flag_at (λ p q. h flag_at p q (omega arith) (omega arith))

-- ---- soundness after a store: elsewhere, and at the flag

pub sound-put : (a : ℕ) (bs t : List ℕ) → Apart a (length bs) 0 4 → Apart a (length bs) flag_at 4
    → Apart a (length bs) (pin_at 0) 16 → sound (put a bs t) ≡ sound t
unfolding sound soundness
sound-put a bs t h0 h1 h2 =
    rw (
      length-put a bs t,
      segments-put a bs t h0,
      publics-put a bs t h0,
      flag-put a bs t h1,
      part-put 13 3 a bs t (λ i p q u v. h1 i p q (omega arith) v),
      part-put (pin_at 0) 16 a bs t h2,
    )

pub sound-flag : (v : ℕ) (t : List ℕ) → v ≤ 1 → sound t ≡ true → sound (put flag_at (v ∷ []) t) ≡ true
unfolding flag
sound-flag v t l e =
    let f = sound-facts t e in
    let g = sound_long t e in
    let a = segments-put flag_at (v ∷ []) t (omega arith) in
    let p = publics-put flag_at (v ∷ []) t (omega arith) in
    sound-from (put flag_at (v ∷ []) t)
    (record {
      long = rw (a, p, length-put flag_at (v ∷ []) t) f.long;
      least = rw a f.least;
      most_segments = rw a f.most_segments;
      most_publics = rw p f.most_publics;
      flagged = rw (byte_put flag_at v t (omega arith)) l;
      padding = rw (part-put 13 3 flag_at (v ∷ []) t (omega arith)) f.padding;
      pin_zero = rw (part-put (pin_at 0) 16 flag_at (v ∷ []) t (omega arith)) f.pin_zero;
    })

-- ---- soundness in document 01's words

zeros_only : (n : ℕ) (bs : List ℕ) → length bs ≡ n → zeros bs ≡ true → bs ≡ replicate n 0
unfolding zeros
zeros_only zero [] l e = refl
zeros_only (suc n) [] l e = absurd (omega arith)
zeros_only zero (b ∷ bs) l e = absurd (omega arith)
zeros_only (suc n) (b ∷ bs) l e =
    let x = and_true (eqb b 0) (zeros bs) e in
    ap₂ {C = List ℕ} (λ z zs. z ∷ zs) (eqb-true b 0 x.0) (zeros_only n bs (omega arith) x.1)

zeros-replicate : (n : ℕ) → zeros (replicate n 0) ≡ true
unfolding zeros
zeros-replicate zero = refl
zeros-replicate (suc n) = zeros-replicate n

pub sound_is : (t : List ℕ) → SoundIs t
unfolding most managements segments_at
sound_is t = record { all_asked = asked; no_more_asked = enough }
  where
    asked : sound t ≡ true → SoundTag t
    asked w =
        let f = sound-facts t w in
        let l = f.long in
        let p = length_part 13 3 t in
        let q = length_part 4096 16 t in
        record {
          its_length = omega arith;
          least_segments = f.least;
          most_segments = f.most_segments;
          most_publics = f.most_publics;
          flag_range = f.flagged;
          three_zeros = zeros_only 3 _ (omega arith) f.padding;
          pin_zero = zeros_only 16 _ (omega arith) f.pin_zero;
        }

    enough : SoundTag t → sound t ≡ true
    enough f =
        let l = f.its_length in
        sound-from t
        (record {
          long = omega arith;
          least = f.least_segments;
          most_segments = f.most_segments;
          most_publics = f.most_publics;
          flagged = f.flag_range;
          padding = ap zeros f.three_zeros ∙ zeros-replicate 3;
          pin_zero = ap zeros f.pin_zero ∙ zeros-replicate 16;
        })

pub sizes : (t : List ℕ) → sound t ≡ true → Sizes t
unfolding most managements segments_at
sizes t w =
    let f = sound-facts t w in
    let l = f.long in
    record { smallest = omega arith; largest = omega arith }

-- a part of zeros
zero_part : (a n m : ℕ) → a + n ≤ m → take n (drop a (replicate {A = ℕ} m 0)) ≡ replicate {A = ℕ} n 0
zero_part zero zero m h = refl
zero_part zero (suc n) zero h = absurd (omega arith)
zero_part zero (suc n) (suc m) h = ap {B = List ℕ} (λ bs. 0 ∷ bs) (zero_part zero n m (omega arith))
zero_part (suc a) n zero h = absurd (omega arith)
zero_part (suc a) n (suc m) h = zero_part a n m (omega arith)

-- a tag of zeros, but for A and P
abbrev plain : (A P n : ℕ) → List ℕ
plain A P n = 0 ∷ A ∷ 0 ∷ P ∷ replicate {A = ℕ} n 0

plain-sound : (A P n : ℕ) → 1 ≤ A → A ≤ 128 → P ≤ 128 → 4 + n ≡ 4096 * (4 + A + P) → SoundTag (plain A P n)
unfolding segments publics flag part number_from
plain-sound A P n least a p l =
    let long : length (replicate {A = ℕ} n 0) ≡ n = length-replicate {A = ℕ} n 0 in
    record {
      its_length = omega arith;
      least_segments = omega arith;
      most_segments = omega arith;
      most_publics = omega arith;
      flag_range = rw (get_or-replicate {A = ℕ} n 8 0 0 (omega arith)) (omega arith);
      three_zeros = zero_part 9 3 n (omega arith);
      pin_zero = zero_part 4092 16 n (omega arith);
    }

reached : (A P n : ℕ) → 1 ≤ A → A ≤ 128 → P ≤ 128 → 4 + n ≡ 4096 * (4 + A + P)
    → (t : List ℕ) × (sound t ≡ true) × (length t ≡ 4 + n)
reached A P n least a p l =
    let long : length (replicate {A = ℕ} n 0) ≡ n = length-replicate {A = ℕ} n 0 in
    (plain A P n, (sound_is (plain A P n)).no_more_asked (plain-sound A P n least a p l), omega arith)

pub sizes_reached : SizesReached
sizes_reached =
    record {
      smallest = reached 1 0 20476 (omega arith) (omega arith) (omega arith) refl;
      largest = reached 128 128 1064956 (omega arith) (omega arith) (omega arith) refl;
    }
