-- The laws that the loops of `octets` and the callers of its leaves cite. Assumes nothing.
use Prim.Native.Nat.{ℕ, zero, suc, ◌+◌, ◌-◌, ◌*◌, ◌/◌, ◌%◌, ◌≤◌, ◌<◌, min}
use mathlib.Core.Path.{◌≡◌, refl, sym, ap, ◌∙◌}
use mathlib.Core.Bool.{Bool, true, false, ◌&&◌}
use mathlib.Core.List.{List, [], ◌∷◌, ◌++◌}
use native.Mathlib.Omega.{arith}
use native.Mathlib.Numerals.{add-one}
use lib.ListN.{length, get_or, take, drop, set, replicate, length-drop}
use lib.Seq.{get_or-drop, length-take-le}
use borrow.Rule.Slice.PartMut.{put_mid, mid_of}
use lib.Bits.{bit_xor, xor_comm}
use lib.Dec.{eqb}
use Rattle.std.specs.Int.{to_be_bytes, w16}
use Rattle.std.specs.List.{fold, zip}
use Rattle.rules.proofs.BytesLaws.{put-none, length-xor}
use Rattle.rules.specs.Bytes.{bytes_of, part, put, number, number_from, same, zeros, xor}

-- ---- numbers, from the highest digit to the lowest

number_more : (v k : ℕ) (bs : List ℕ) → k < length bs
    → number_from v (take (suc k) bs) ≡ number_from v (take k bs) * 256 + get_or bs k 0
unfolding number_from
number_more v k [] h = absurd (omega arith)
number_more v zero (b ∷ bs) h = refl
number_more v (suc k) (b ∷ bs) h = number_more (v * 256 + b) k bs (omega arith)

-- the first n bytes from `at` on
abbrev pub digits : ℕ → List ℕ → ℕ → ℕ
digits zero t at = 0
digits (suc n) t at = digits n t at * 256 + get_or t (at + n) 0

number_digits : (n : ℕ) (t : List ℕ) (at : ℕ) → at + n ≤ length t → digits n t at ≡ number (part at n t)
unfolding part number_from
number_digits zero t at h = refl
number_digits (suc n) t at h =
    let inside : n < length (drop at t) = omega (arith, length-drop at t) in
    omega (arith, number_digits n t at (omega arith), number_more 0 n (drop at t) inside, get_or-drop at t n 0)

-- Horner's rule
pub horner : (n : ℕ) (t : List ℕ) (at : ℕ) → at + suc n ≤ length t → digits (suc n) t at ≡ number (part at (suc n) t)
horner n t at h = number_digits (suc n) t at h

pub number_next : (n i d : ℕ) (ds : List ℕ) → i < length ds → n ≡ number (take i ds) → d ≡ get_or ds i 0
    → n * 256 + d ≡ number (take (i + 1) ds)
number_next n i d ds h e f = rw add-one (omega (arith, e, f, number_more 0 i ds h))

pub be_bytes_two : (v w : ℕ) → w ≡ v % 0x10000 → to_be_bytes w16 w ≡ bytes_of 2 v
unfolding bytes_of
be_bytes_two v w e =
    let high : w / 256 % 256 ≡ v / 256 % 256 = omega (arith, e) in
    let low : w % 256 ≡ v % 256 = omega (arith, e) in
    rw (high, low)

-- ---- comparing: a test of all is the test so far and that of the rest

pub zeros_fold : (all : Bool) (bs : List ℕ) → fold (λ all b. all && eqb b 0) all bs ≡ (all && zeros bs)
unfolding zeros
zeros_fold true [] = refl
zeros_fold false [] = refl
zeros_fold true (b ∷ bs) = zeros_fold (eqb b 0) bs
zeros_fold false (b ∷ bs) = zeros_fold false bs

pub other_length : (s t : List ℕ) → (length s ≡ length t → ⊥) → same s t ≡ false
unfolding same
other_length [] [] h = absurd (h refl)
other_length [] (y ∷ t) h = refl
other_length (x ∷ s) [] h = refl
other_length (x ∷ s) (y ∷ t) h = rw (other_length s t (λ e. h (omega arith))) (and_false (eqb x y))
  where
    and_false : (b : Bool) → (b && false) ≡ false
    and_false true = refl
    and_false false = refl

pub same_fold : (all : Bool) (s t : List ℕ) → length s ≡ length t
    → fold (λ all (p : ℕ × ℕ). all && eqb p.0 p.1) all (zip s t) ≡ (all && same s t)
unfolding same
same_fold true [] [] e = refl
same_fold false [] [] e = refl
same_fold all [] (y ∷ t) e = absurd (omega arith)
same_fold all (x ∷ s) [] e = absurd (omega arith)
same_fold true (x ∷ s) (y ∷ t) e = same_fold (eqb x y) s t (omega arith)
same_fold false (x ∷ s) (y ∷ t) e = same_fold false s t (omega arith)

-- ---- the XOR and the store of the first i bytes

pub xor_none : (xs : List ℕ) → xor xs [] ≡ xs
unfolding xor
xor_none [] = refl
xor_none (x ∷ xs) = refl

pub xor_next : (i : ℕ) (xs ys : List ℕ) → i < length xs → i < length ys
    → set (xor xs (take i ys)) i (bit_xor (get_or (xor xs (take i ys)) i 0) (get_or ys i 0)) ≡ xor xs (take (suc i) ys)
unfolding xor
xor_next i [] ys h l = absurd (omega arith)
xor_next i (x ∷ xs) [] h l = absurd (omega arith)
xor_next zero (x ∷ xs) (y ∷ ys) h l = rw (xor_none xs)
xor_next (suc i) (x ∷ xs) (y ∷ ys) h l = ap (λ r. bit_xor x y ∷ r) (xor_next i xs ys (omega arith) (omega arith))

pub xor_end : (n : ℕ) (xs ys : List ℕ) → min (length xs) (length ys) ≤ n → xor xs (take n ys) ≡ xor xs ys
unfolding xor
xor_end n [] ys h = refl
xor_end zero (x ∷ xs) [] h = refl
xor_end (suc n) (x ∷ xs) [] h = refl
xor_end zero (x ∷ xs) (y ∷ ys) h = absurd (omega arith)
xor_end (suc n) (x ∷ xs) (y ∷ ys) h = ap (λ r. bit_xor x y ∷ r) (xor_end n xs ys (omega arith))

pub put_next : (i : ℕ) (bs t : List ℕ) → i < length bs → i < length t
    → set (put 0 (take i bs) t) i (get_or bs i 0) ≡ put 0 (take (suc i) bs) t
unfolding put
put_next i [] t h l = absurd (omega arith)
put_next i (b ∷ bs) [] h l = absurd (omega arith)
put_next zero (b ∷ bs) (x ∷ t) h l = rw (put-none 0 t)
put_next (suc i) (b ∷ bs) (x ∷ t) h l = ap (λ r. b ∷ r) (put_next i bs t (omega arith) (omega arith))

pub put_end : (n : ℕ) (bs t : List ℕ) → min (length t) (length bs) ≤ n → put 0 (take n bs) t ≡ put 0 bs t
unfolding put
put_end n bs [] h = refl
put_end zero [] (x ∷ t) h = refl
put_end (suc n) [] (x ∷ t) h = refl
put_end zero (b ∷ bs) (x ∷ t) h = absurd (omega arith)
put_end (suc n) (b ∷ bs) (x ∷ t) h = ap (λ r. b ∷ r) (put_end n bs t (omega arith))

-- ---- bytes, one by one

-- a byte that is set is a store
pub set_put : (i v : ℕ) (t : List ℕ) → set t i v ≡ put i (v ∷ []) t
unfolding put
set_put i v [] = refl
set_put zero v (x ∷ []) = refl
set_put zero v (x ∷ y ∷ t) = refl
set_put (suc i) v (x ∷ t) = ap (λ l. x ∷ l) (set_put i v t)

pub put_two : (a b : ℕ) (t : List ℕ) → set (set t 0 a) 1 b ≡ put 0 (a ∷ b ∷ []) t
unfolding put
put_two a b [] = refl
put_two a b (x ∷ t) = ap (λ l. a ∷ l) (set_put 0 b t)

-- ---- a part that is lent, and comes back changed

pub part_lent : (a n : ℕ) (t : List ℕ) → mid_of a (a + n - a) t ≡ part a n t
unfolding part
part_lent a n t = let k : a + n - a ≡ n = omega arith in rw k

pub length_lent : (a n : ℕ) (t : List ℕ) → a + n ≤ length t → length (part a n t) ≡ n
unfolding part
length_lent a n t h = length-take-le n (drop a t) (simp length-drop (omega arith))

pub put_whole : (bs t : List ℕ) → length bs ≡ length t → put 0 bs t ≡ bs
unfolding put
put_whole [] [] e = refl
put_whole (b ∷ bs) [] e = absurd (omega arith)
put_whole [] (x ∷ t) e = absurd (omega arith)
put_whole (b ∷ bs) (x ∷ t) e = ap (λ l. b ∷ l) (put_whole bs t (omega arith))

-- sixteen bytes make a block
pub block_whole : (bs : List ℕ) → length bs ≡ 16 → put 0 bs (replicate 16 0) ≡ bs
block_whole bs e = put_whole bs (replicate 16 0) e

pub block_lent : (a : ℕ) (t : List ℕ) → a + 16 ≤ length t
    → put 0 (mid_of a (a + 16 - a) t) (replicate 16 0) ≡ part a 16 t
block_lent a t h = rw (part_lent a 16 t) (block_whole (part a 16 t) (length_lent a 16 t h))

put_middle : (a : ℕ) (bs t : List ℕ) → a + length bs ≤ length t
    → take a t ++ (bs ++ drop (length bs) (drop a t)) ≡ put a bs t
unfolding put
put_middle zero [] [] h = refl
put_middle (suc a) bs [] h = absurd (omega arith)
put_middle zero (b ∷ bs) [] h = absurd (omega arith)
put_middle zero [] (x ∷ t) h = refl
put_middle zero (b ∷ bs) (x ∷ t) h = ap (λ l. b ∷ l) (put_middle zero bs t (omega arith))
put_middle (suc a) bs (x ∷ t) h = ap (λ l. x ∷ l) (put_middle a bs t (omega arith))

pub put_back : (a n : ℕ) (t ys bs : List ℕ) → ys ≡ bs → length bs ≡ n → a + n ≤ length t
    → put_mid a (a + n - a) t ys ≡ put a bs t
put_back a n t ys bs p e h =
    let k : a + n - a ≡ length bs = omega arith in
    rw (p, k) (put_middle a bs t (omega arith))

-- data that is stored in the part, or XORed into it
pub store-back : (a : ℕ) (bs t ys : List ℕ) → a + length bs ≤ length t
    → ys ≡ put 0 bs (mid_of a (a + length bs - a) t) → put_mid a (a + length bs - a) t ys ≡ put a bs t
store-back a bs t ys h e =
    let l = length_lent a (length bs) t h in
    put_back a (length bs) t ys bs (e ∙ rw (part_lent a (length bs) t) (put_whole bs _ (sym l))) refl h

pub xor-back : (a : ℕ) (bs t ys : List ℕ) → a + length bs ≤ length t
    → ys ≡ xor (mid_of a (a + length bs - a) t) bs
    → put_mid a (a + length bs - a) t ys ≡ put a (xor (part a (length bs) t) bs) t
xor-back a bs t ys h e =
    let old = part a (length bs) t in
    put_back a (length bs) t ys (xor old bs) (e ∙ ap (λ l. xor l bs) (part_lent a (length bs) t))
    (length-xor old bs ∙ length_lent a (length bs) t h) h

-- a store in a part is one in the whole
put_own : (n : ℕ) (t : List ℕ) → put 0 (take n t) t ≡ t
unfolding put
put_own n [] = refl
put_own zero (x ∷ t) = refl
put_own (suc n) (x ∷ t) = ap (λ l. x ∷ l) (put_own n t)

put_first : (n o : ℕ) (bs t : List ℕ) → o + length bs ≤ n → put 0 (put o bs (take n t)) t ≡ put o bs t
unfolding put
put_first n o bs [] h = refl
put_first zero zero [] (x ∷ t) h = refl
put_first zero zero (b ∷ bs) (x ∷ t) h = absurd (omega arith)
put_first zero (suc o) bs (x ∷ t) h = absurd (omega arith)
put_first (suc n) zero [] (x ∷ t) h = ap (λ l. x ∷ l) (put_own n t)
put_first (suc n) zero (b ∷ bs) (x ∷ t) h = ap (λ l. b ∷ l) (put_first n zero bs t (omega arith))
put_first (suc n) (suc o) bs (x ∷ t) h = ap (λ l. x ∷ l) (put_first n o bs t (omega arith))

pub put_inside : (a n o p : ℕ) (bs t : List ℕ) → a + o ≡ p → o + length bs ≤ n
    → put a (put o bs (part a n t)) t ≡ put p bs t
unfolding put part
put_inside a n o p bs [] e h = refl
put_inside zero n o p bs (x ∷ t) e h =
    let q : o ≡ p = omega arith in put_first n o bs (x ∷ t) h ∙ ap (λ i. put i bs (x ∷ t)) q
put_inside (suc a) n o zero bs (x ∷ t) e h = absurd (omega arith)
put_inside (suc a) n o (suc p) bs (x ∷ t) e h = ap (λ l. x ∷ l) (put_inside a n o p bs t (omega arith) h)

pub put-part : (a n : ℕ) (bs t : List ℕ) → length bs ≤ n → put a (put 0 bs (part a n t)) t ≡ put a bs t
put-part a n bs t h = put_inside a n 0 a bs t (omega arith) (omega arith)

pub xor_swap : (xs ys : List ℕ) → length xs ≡ length ys → xor xs ys ≡ xor ys xs
unfolding xor
xor_swap [] [] e = refl
xor_swap [] (y ∷ ys) e = absurd (omega arith)
xor_swap (x ∷ xs) [] e = absurd (omega arith)
xor_swap (x ∷ xs) (y ∷ ys) e = rw (xor_comm x y, xor_swap xs ys (omega arith))
