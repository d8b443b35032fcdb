-- The table of places: a range is found in the place in which it lies, no other range is found, and every byte is in
-- a place.
use Rattle.std.specs.Prelude.{None, Option, Some}
use Prim.Native.Nat.{ℕ, zero, suc, ◌+◌, ◌-◌, ◌*◌, ◌/◌, ◌%◌, ◌≤◌, ◌<◌}
use mathlib.Core.Path.{◌≡◌, refl, sym, ap, subst, ◌∙◌}
use mathlib.Core.Logic.{◌≢◌, ◌⊎◌, inl, inr}
use mathlib.Core.Bool.{Bool, true, false, cond}
use mathlib.Core.List.{List, [], ◌∷◌}
use lib.Dec.{leb, ltb}
use native.Mathlib.Omega.{arith}
use native.Mathlib.Nat.{mul_comm, div-lt_iff_lt-mul, mul-le-mul_left, mul-suc, mul-div-le, lt-mul-div-succ, div-eq_of_lt-le}
use native.Mathlib.Decide.{ℕ_discrete, dec_le}
use borrow.Author.Tests.{leb-true, leb-false, ltb-true, ltb-false, le-leb, lt-ltb}
use Rattle.rules.specs.Bytes.{Apart}
use Rattle.rules.specs.declared.Place.{Place}
use Rattle.rules.specs.declared.Place.TheVariants.{Header, Hidden, RegisterOf, Pins, Readers, UnitOf, Spare, Segment, Public}
use Rattle.rules.specs.Map.{Row, row, lies_in, find, rows, most, segment_at, unit_at, segments_at, segments, place_of, publics, sound, register_no, register_at, pin_at, readers_at}
use Rattle.rules.specs.Claims.{Within, Holds, TheMap, NoSpare}
use Rattle.rules.proofs.Tests.{and_true, some_none, same_some}
use Rattle.rules.proofs.MapLaws.{units_fit, sound-facts, units_fill, segments_aligned, spare_short}

-- ---- any list of rows that follow each other without a gap

abbrev Adjoin : (from upto : ℕ) → List Row → Type 0
Adjoin from upto [] = from ≡ upto
Adjoin from upto (row start size count place ∷ rs) = (start ≡ from) × Adjoin (start + size * count) upto rs

lies-facts : (start size count i a n : ℕ) → lies_in start size count i a n ≡ true
    → (start ≤ a) × (i < count) × (a + n ≤ start + size * i + size)
unfolding lies_in
lies-facts start size count i a n e =
    let s2 = and_true _ _ e in
    let s1 = and_true _ _ s2.0 in
    (leb-true _ _ s1.0, ltb-true _ _ s1.1, leb-true _ _ s2.1)

lies : (start size count i a n : ℕ) → start ≤ a → i < count → a + n ≤ start + size * i + size
    → lies_in start size count i a n ≡ true
unfolding lies_in
lies start size count i a n b c e = rw (le-leb start a b, lt-ltb i count c, le-leb (a + n) (start + size * i + size) e)

within_after : (rs : List Row) (from upto a n : ℕ) (p : Place) → Adjoin from upto rs → Within p a n rs → from ≤ a
within_after [] from upto a n p h w = absurd w
within_after (row start size count place ∷ rs) from upto a n p h (inl w) =
    let b = w.3 in let e = h.0 in omega arith
within_after (row start size count place ∷ rs) from upto a n p h (inr w) =
    let b = within_after rs (start + size * count) upto a n p h.1 w in let e = h.0 in omega arith

mul_next : (n i : ℕ) → n * (i + 1) ≡ n * i + n
mul_next n i = let e : i + 1 ≡ suc i = omega arith in ap (λ k. n * k) e ∙ mul-suc n i

adjoin_up : (rs : List Row) (from upto : ℕ) → Adjoin from upto rs → from ≤ upto
adjoin_up [] from upto h = omega (arith, h)
adjoin_up (row start size count place ∷ rs) from upto h =
    let x = adjoin_up rs (start + size * count) upto h.1 in let e = h.0 in omega arith

within_end : (rs : List Row) (from upto a n : ℕ) (p : Place) → Adjoin from upto rs → Within p a n rs → a + n ≤ upto
within_end [] from upto a n p h w = absurd w
within_end (row start size count place ∷ rs) from upto a n p h (inl w) =
    let x = adjoin_up rs (start + size * count) upto h.1 in
    let i = w.0 in
    let m : size * suc i ≤ size * count = mul-le-mul_left size w.1 in
    let d : size * suc i ≡ size * i + size = mul-suc size i in
    let b = w.4 in
    omega arith
within_end (row start size count place ∷ rs) from upto a n p h (inr w) = within_end rs _ upto a n p h.1 w

-- what lies within a later row does not lie in this one
not_here : (start size count i a n : ℕ) → 1 ≤ n → start + size * count ≤ a → lies_in start size count i a n ≡ false
not_here start size count i a n l b = by (lies_in start size count i a n) refl
  where
    by : (c : Bool) → lies_in start size count i a n ≡ c → c ≡ false
    by true e =
        let f = lies-facts start size count i a n e in
        let m : size * suc i ≤ size * count = mul-le-mul_left size f.1 in
        let d : size * suc i ≡ size * i + size = mul-suc size i in
        absurd (omega arith)
    by false e = refl

find_found : (rs : List Row) (from upto a n : ℕ) (p : Place) → 1 ≤ n → Adjoin from upto rs → Within p a n rs
    → find rs a n ≡ Some p
unfolding find
find_found [] from upto a n p l h w = absurd w
find_found (row start size count place ∷ rs) from upto a n p l h (inl w) =
    let i = w.0 in
    let b = w.3 in
    let e = w.4 in
    let c : i * size ≡ size * i = mul_comm i size in
    let d : (i + 1) * size ≡ size * i + size = mul_comm (i + 1) size ∙ mul_next size i in
    let q : (a - start) / size ≡ i = div-eq_of_lt-le size (omega arith) (omega arith) in
    rw (q, lies start size count i a n (omega arith) w.1 e, w.2)
find_found (row start size count place ∷ rs) from upto a n p l h (inr w) =
    rw (not_here start size count ((a - start) / size) a n l (within_after rs _ upto a n p h.1 w))
    (find_found rs (start + size * count) upto a n p l h.1 w)

find_within : (rs : List Row) (a n : ℕ) (p : Place) → find rs a n ≡ Some p → Within p a n rs
unfolding find
find_within [] a n p e = some_none (sym e)
find_within (row start size count place ∷ rs) a n p e =
    by (lies_in start size count ((a - start) / size) a n) refl e (find_within rs a n p)
  where
    i : ℕ
    i = (a - start) / size

    by : (b : Bool) → lies_in start size count i a n ≡ b → cond b (Some (place i)) (find rs a n) ≡ Some p
        → (find rs a n ≡ Some p → Within p a n rs) → Within p a n (row start size count place ∷ rs)
    by true l f later =
        let x = lies-facts start size count i a n l in
        let m : size * i ≤ a - start = mul-div-le (a - start) size in
        let q : p ≡ place i = cc in
        let b = x.0 in
        inl (i, x.1, q, omega arith, x.2)
    by false l f later = inr (later f)

cover : (rs : List Row) (from upto a : ℕ) → Adjoin from upto rs → from ≤ a → a < upto → (p : Place) × Within p a 1 rs
cover [] from upto a h b c = absurd (omega arith)
cover (row start size count place ∷ rs) from upto a h b c =
    by (dec_le (start + size * count) a) (λ y. cover rs (start + size * count) upto a h.1 y c)
  where
    sized : (size : ℕ) → a - start < size * count → 0 < size
    sized zero l = absurd (omega arith)
    sized (suc n) l = omega arith

    by : Dec (start + size * count ≤ a) → (start + size * count ≤ a → (p : Place) × Within p a 1 rs)
        → (p : Place) × Within p a 1 (row start size count place ∷ rs)
    by (yes y) later = let x = later y in (x.0, inr x.1)
    by (no y) later =
        let e = h.0 in
        let l : a - start < size * count = omega arith in
        let z = sized size l in
        let i = (a - start) / size in
        let m : i < count = (div-lt_iff_lt-mul z).1 (omega (arith, mul_comm count size)) in
        let k : size * i ≤ a - start = mul-div-le (a - start) size in
        let u : a - start < size * (i + 1) = lt-mul-div-succ (a - start) z in
        let d : size * (i + 1) ≡ size * i + size = mul_next size i in
        (place i, inl (i, m, refl, omega arith, omega arith))

-- ---- the table

rows_adjoin : (A P : ℕ) → A ≤ most → Adjoin 0 (segment_at A (A + P)) (rows A P)
unfolding rows
rows_adjoin A P h =
    let r = units_fit A h in
    let behind-spare : segment_at A 0 ≡ unit_at A + (segments_at A - unit_at A) * 1 = omega arith in
    let behind : segment_at A A ≡ segment_at A 0 + 4096 * A = omega arith in
    let ends : segment_at A A + 4096 * P ≡ segment_at A (A + P) = omega arith in
    (refl, (refl, (refl, (refl, (refl, (refl, (refl, (behind-spare, (behind, ends)))))))))

found_in : (A P a n : ℕ) (p : Place) → A ≤ most → 1 ≤ n → Within p a n (rows A P) → find (rows A P) a n ≡ Some p
found_in A P a n p h l w = find_found (rows A P) _ _ a n p l (rows_adjoin A P h) w

pub place_found : (t : List ℕ) (p : Place) (a n : ℕ) → segments t ≤ most → 1 ≤ n → Holds t p a n
    → place_of t a n ≡ Some p
unfolding place_of
place_found t p a n h l w = found_in (segments t) (publics t) a n p h l w

pub place_holds : (t : List ℕ) (p : Place) (a n : ℕ) → place_of t a n ≡ Some p → Holds t p a n
unfolding place_of
place_holds t p a n e = find_within (rows (segments t) (publics t)) a n p e

one_place : (A P a n : ℕ) (p q : Place) → A ≤ most → 1 ≤ n → Within p a n (rows A P) → Within q a n (rows A P) → p ≡ q
one_place A P a n p q h l x y = same_some (sym (found_in A P a n p h l x) ∙ found_in A P a n q h l y)

pub the_map : (t : List ℕ) → sound t ≡ true → TheMap t
the_map t w =
    let f = sound-facts t w in
    let h = f.most_segments in
    record {
      found = λ p a n l x. place_found t p a n h l x;
      no_other = place_holds t;
      one_place = λ p q a n l x y. one_place (segments t) (publics t) a n p q h l x y;
      every_byte = λ a b.
          let x = cover (rows (segments t) (publics t)) _ _ a (rows_adjoin _ _ h) (omega arith) (rw (← f.long) b) in
          (x.0, place_found t x.0 a 1 h (omega arith) x.1);
      in_tag = λ p a n e.
          rw f.long (within_end (rows (segments t) (publics t)) _ _ a n p (rows_adjoin _ _ h) (place_holds t p a n e));
    }

-- ---- which place it is

abbrev pub sort : Place → ℕ
sort Header = 0
sort Hidden = 1
sort (RegisterOf r) = 2
sort Pins = 3
sort Readers = 4
sort (UnitOf k) = 5
sort Spare = 6
sort (Segment k) = 7
sort (Public k) = 8

pub other_sort : (p q : Place) → sort p ≢ sort q → p ≢ q
other_sort p q h e = h (ap sort e)

pub at_segment : (k : ℕ) (p : Place) → (p ≡ Segment k) ⊎ (p ≢ Segment k)
at_segment k Header = inr (other_sort Header (Segment k) (omega arith))
at_segment k Hidden = inr (other_sort Hidden (Segment k) (omega arith))
at_segment k (RegisterOf r) = inr (other_sort (RegisterOf r) (Segment k) (omega arith))
at_segment k Pins = inr (other_sort Pins (Segment k) (omega arith))
at_segment k Readers = inr (other_sort Readers (Segment k) (omega arith))
at_segment k (UnitOf l) = inr (other_sort (UnitOf l) (Segment k) (omega arith))
at_segment k Spare = inr (other_sort Spare (Segment k) (omega arith))
at_segment k (Segment l) = by (ℕ_discrete l k)
  where
    by : Dec (l ≡ k) → (Segment l ≡ Segment k) ⊎ (Segment l ≢ Segment k)
    by (yes e) = inl (ap Segment e)
    by (no e) = inr (λ q. e cc)
at_segment k (Public l) = inr (other_sort (Public l) (Segment k) (omega arith))

-- ---- different places share no byte

within_byte : (rs : List Row) (p : Place) (a n i : ℕ) → Within p a n rs → a ≤ i → i < a + n → Within p i 1 rs
within_byte [] p a n i w b c = absurd w
within_byte (row start size count place ∷ rs) p a n i (inl w) b c =
    let x = w.3 in let y = w.4 in inl (w.0, w.1, w.2, omega arith, omega arith)
within_byte (row start size count place ∷ rs) p a n i (inr w) b c = inr (within_byte rs p a n i w b c)

pub places_apart : (t : List ℕ) (p q : Place) (a n x m : ℕ) → sound t ≡ true → Holds t p a n → Holds t q x m
    → (p ≡ q → ⊥) → Apart a n x m
places_apart t p q a n x m w v u d i b c e f =
    d (one_place (segments t) (publics t) i 1 p q (sound-facts t w).most_segments (omega arith)
    (within_byte (rows (segments t) (publics t)) p a n i v b c) (within_byte (rows (segments t) (publics t)) q x m i u e f))

-- ---- where each place lies

abbrev pub Extent : ℕ → ℕ → Place → ℕ → ℕ → Type 0
Extent A P Header a n = a + n ≤ 16
Extent A P Hidden a n = (16 ≤ a) × (a + n ≤ register_at 0)
Extent A P (RegisterOf r) a n =
    (i : ℕ) × (r ≡ register_no i) × (i < 7) × (register_at i ≤ a) × (a + n ≤ register_at i + 16)
Extent A P Pins a n = (pin_at 0 ≤ a) × (a + n ≤ readers_at)
Extent A P Readers a n = (readers_at ≤ a) × (a + n ≤ unit_at 0)
Extent A P (UnitOf k) a n = (k < A) × (unit_at k ≤ a) × (a + n ≤ unit_at k + 32)
Extent A P Spare a n = (unit_at A ≤ a) × (a + n ≤ segments_at A)
Extent A P (Segment k) a n = (k < A) × (segment_at A k ≤ a) × (a + n ≤ segment_at A k + 4096)
Extent A P (Public k) a n = (k < P) × (segment_at A (A + k) ≤ a) × (a + n ≤ segment_at A (A + k) + 4096)

-- by the row, counted from the first
extent : (A P a n : ℕ) (p : Place) → A ≤ most → Within p a n (rows A P) → Extent A P p a n
unfolding rows
extent A P a n p h (inl w) = rw w.2 (omega arith)
extent A P a n p h (inr (inl w)) = rw w.2 (omega arith, omega arith)
extent A P a n p h (inr (inr (inl w))) = rw w.2 (w.0, refl, w.1, omega arith, omega arith)
extent A P a n p h (inr (inr (inr (inl w)))) = rw w.2 (omega arith, omega arith)
extent A P a n p h (inr (inr (inr (inr (inl w))))) = rw w.2 (omega arith, omega arith)
extent A P a n p h (inr (inr (inr (inr (inr (inl w)))))) = rw w.2 (w.1, omega arith, omega arith)
extent A P a n p h (inr (inr (inr (inr (inr (inr (inl w))))))) = rw w.2 (spare w.0 w.1 w.3 w.4)
  where
    spare : (i : ℕ) → i < 1 → unit_at A + (segments_at A - unit_at A) * i ≤ a
        → a + n ≤ unit_at A + (segments_at A - unit_at A) * i + (segments_at A - unit_at A)
        → (unit_at A ≤ a) × (a + n ≤ segments_at A)
    spare zero c b e = let r = units_fit A h in (omega arith, omega arith)
    spare (suc i) c b e = absurd (omega arith)
extent A P a n p h (inr (inr (inr (inr (inr (inr (inr (inl w)))))))) = rw w.2 (w.1, omega arith, omega arith)
extent A P a n p h (inr (inr (inr (inr (inr (inr (inr (inr (inl w))))))))) = rw w.2 (w.1, omega arith, omega arith)
extent A P a n p h (inr (inr (inr (inr (inr (inr (inr (inr (inr w))))))))) = absurd w

-- and back
lies_at : (A P a n : ℕ) (p : Place) → Extent A P p a n → Within p a n (rows A P)
unfolding rows
lies_at A P a n Header e = inl (0, omega arith, refl, omega arith, omega arith)
lies_at A P a n Hidden e = inr (inl (0, omega arith, refl, omega arith, omega arith))
lies_at A P a n (RegisterOf r) e = inr (inr (inl (e.0, e.2, ap RegisterOf e.1, omega arith, omega arith)))
lies_at A P a n Pins e = inr (inr (inr (inl (0, omega arith, refl, omega arith, omega arith))))
lies_at A P a n Readers e = inr (inr (inr (inr (inl (0, omega arith, refl, omega arith, omega arith)))))
lies_at A P a n (UnitOf k) e = inr (inr (inr (inr (inr (inl (k, e.0, refl, omega arith, omega arith))))))
lies_at A P a n Spare e = inr (inr (inr (inr (inr (inr (inl (0, omega arith, refl, omega arith, omega arith)))))))
lies_at A P a n (Segment k) e =
    inr (inr (inr (inr (inr (inr (inr (inl (k, e.0, refl, omega arith, omega arith))))))))
lies_at A P a n (Public k) e =
    inr (inr (inr (inr (inr (inr (inr (inr (inl (k, e.0, refl, omega arith, omega arith)))))))))

pub placed : (t : List ℕ) (p : Place) (a n : ℕ) → sound t ≡ true → Holds t p a n → Extent (segments t) (publics t) p a n
placed t p a n w h = extent (segments t) (publics t) a n p (sound-facts t w).most_segments h

pub header_holds : (t : List ℕ) (a n : ℕ) → a + n ≤ 16 → Holds t Header a n
header_holds t a n h = lies_at _ _ a n Header h

pub register_holds : (t : List ℕ) (i n : ℕ) → i < 7 → n ≤ 16 → Holds t (RegisterOf (register_no i)) (register_at i) n
register_holds t i n h l = lies_at _ _ (register_at i) n (RegisterOf _) (i, refl, h, omega arith, omega arith)

pub unit_holds : (t : List ℕ) (k : ℕ) → k < segments t → Holds t (UnitOf k) (unit_at k) 32
unit_holds t k h = lies_at _ _ (unit_at k) 32 (UnitOf k) (h, omega arith, omega arith)

-- the place of segment number k: the public ones count on from A
pub data Numbered (A P k : ℕ) : Place → Type 0 where
  controlled : k < A → Numbered A P k (Segment k)
  open_to_all : (l : ℕ) → k ≡ A + l → l < P → Numbered A P k (Public l)

pub numbered : (A P k : ℕ) → k < A + P → (p : Place) × Numbered A P k p
numbered A P k h = by (dec_le A k)
  where
    by : Dec (A ≤ k) → (p : Place) × Numbered A P k p
    by (yes y) = (Public (k - A), open_to_all (k - A) (omega arith) (omega arith))
    by (no y) = (Segment k, controlled (omega arith))

pub segment_holds : (t : List ℕ) (k a n : ℕ) (p : Place) → Numbered (segments t) (publics t) k p
    → segment_at (segments t) k ≤ a → a + n ≤ segment_at (segments t) k + 4096 → Holds t p a n
segment_holds t k a n p (controlled h) b c = lies_at _ _ a n (Segment k) (h, b, c)
segment_holds t k a n p (open_to_all l e h) b c = lies_at _ _ a n (Public l) (h, omega arith, omega arith)

pub no_spare : (t : List ℕ) → sound t ≡ true → segments t ≡ 128 → NoSpare t
no_spare t w e a n l f =
    let x = subst (λ A. Extent A (publics t) Spare a n) e (placed t Spare a n w (place_holds t Spare a n f)) in
    absurd (omega (arith, units_fill, x.0, x.1))

-- ---- what a range of addresses is found in

module _ (A P a n : ℕ) (h : A ≤ most) where
  pub found_at : (p : Place) → 1 ≤ n → Extent A P p a n → find (rows A P) a n ≡ Some p
  found_at p l e = found_in A P a n p h l (lies_at A P a n p e)

  none_found : ((p : Place) → Within p a n (rows A P) → ⊥) → find (rows A P) a n ≡ None
  none_found out = by (find (rows A P) a n) refl
    where
      by : (f : Option Place) → find (rows A P) a n ≡ f → f ≡ None
      by None e = refl
      by (Some p) e = absurd (out p (find_within (rows A P) a n p e))

  -- the place of the first byte holds them all, if there are not too many
  pub found_up_to : (p : Place) (m : ℕ) → 1 ≤ n → Extent A P p a 1 → (n ≤ m → Extent A P p a n)
      → (Extent A P p a n → n ≤ m) → find (rows A P) a n ≡ cond (leb n m) (Some p) None
  found_up_to p m l first fits only = by (leb n m) refl
    where
      by : (b : Bool) → leb n m ≡ b → find (rows A P) a n ≡ cond b (Some p) None
      by true e = found_at p l (fits (leb-true n m e))
      by false e =
          none_found (λ q w.
          let byte = within_byte (rows A P) q a n a w (omega arith) (omega arith) in
          let same = one_place A P a 1 q p h (omega arith) byte (lies_at A P a 1 p first) in
          let x = only (subst (λ r. Extent A P r a n) same (extent A P a n q h w)) in
          omega (arith, leb-false n m e))

  -- behind the controlled segments the public ones are found, and nothing behind them
  pub found_public : (k : ℕ) → 1 ≤ n → segment_at A (A + k) ≤ a → a + n ≤ segment_at A (A + k) + 4096
      → find (rows A P) a n ≡ cond (ltb k P) (Some (Public k)) None
  found_public k l b c = by (ltb k P) refl
    where
      by : (f : Bool) → ltb k P ≡ f → find (rows A P) a n ≡ cond f (Some (Public k)) None
      by true e = found_at (Public k) l (ltb-true k P e, b, c)
      by false e =
          none_found (λ q w.
          let x = within_end (rows A P) _ _ a n q (rows_adjoin A P h) w in
          omega (arith, ltb-false k P e))

  -- no place reaches from one 4,096 bytes into the next
  pub none_across : 4096 < a % 4096 + n → find (rows A P) a n ≡ None
  none_across l = none_found (λ q w. out q (extent A P a n q h w))
    where
      out : (q : Place) → Extent A P q a n → ⊥
      out Header e = omega arith
      out Hidden e = omega arith
      out (RegisterOf r) e = omega arith
      out Pins e = omega arith
      out Readers e = omega arith
      out (UnitOf k) e = omega arith
      out Spare e = omega (arith, segments_aligned A, spare_short A)
      out (Segment k) e = omega (arith, segments_aligned A)
      out (Public k) e = omega (arith, segments_aligned A)
