-- Laws of parts, stores and numbers of bytes.
use Prim.Native.Nat.{ℕ, zero, suc, ◌+◌, ◌-◌, ◌*◌, ◌/◌, ◌%◌, ◌^◌, ◌≤◌, ◌<◌, min}
use mathlib.Core.Path.{◌≡◌, refl, sym, ap, ap₂, subst, ◌∙◌}
use mathlib.Core.Bool.{true}
use mathlib.Core.List.{List, [], ◌∷◌, ◌++◌}
use native.Mathlib.Omega.{arith}
use native.Mathlib.Nat.{div-add-mod', div-lt_iff_lt-mul, pow-suc, add_comm, add-suc, suc-add, mod-lt}
use lib.ListN.{length, take, drop, length-take, length-drop, length-append}
use lib.Arith.{bin_ind}
use lib.Bits.{bit_xor, differ, xor_step, xor_zero_r}
use lib.Seq.{ext_get_or, get_or-take, get_or-drop}
use lib.Dec.{eqb}
use borrow.Author.Tests.{eq-eqb, eqb-true}
use Rattle.rules.specs.Bytes.{part, put, byte, same, xor, bytes_of, number, number_from, Apart}
use Rattle.rules.proofs.Tests.{true_false, and_true}

-- ---- a store, byte by byte

pub length-put : (a : ℕ) (bs t : List ℕ) → length (put a bs t) ≡ length t
unfolding put
length-put a bs [] = refl
length-put zero [] (x ∷ t) = refl
length-put zero (b ∷ bs) (x ∷ t) = ap suc (length-put zero bs t)
length-put (suc a) bs (x ∷ t) = ap suc (length-put a bs t)

pub byte_put_out : (a : ℕ) (bs t : List ℕ) (i : ℕ) → (a ≤ i → i < a + length bs → ⊥) → byte i (put a bs t) ≡ byte i t
unfolding put
byte_put_out a bs [] i h = refl
byte_put_out zero [] (x ∷ t) i h = refl
byte_put_out zero (b ∷ bs) (x ∷ t) zero h = absurd (h (omega arith) (omega arith))
byte_put_out zero (b ∷ bs) (x ∷ t) (suc i) h = byte_put_out zero bs t i (λ p q. h (omega arith) (omega arith))
byte_put_out (suc a) bs (x ∷ t) zero h = refl
byte_put_out (suc a) bs (x ∷ t) (suc i) h = byte_put_out a bs t i (λ p q. h (omega arith) (omega arith))

pub byte_put : (a b : ℕ) (t : List ℕ) → a < length t → byte a (put a (b ∷ []) t) ≡ b
unfolding put
byte_put a b [] h = absurd (omega arith)
byte_put zero b (x ∷ t) h = refl
byte_put (suc a) b (x ∷ t) h = byte_put a b t (omega arith)

-- two stores, one behind the other, are one
pub put-append : (a : ℕ) (bs cs t : List ℕ) → put a (bs ++ cs) t ≡ put (a + length bs) cs (put a bs t)
unfolding put
put-append a bs cs t = rw add_comm (by a bs cs t)
  where
    by : (a : ℕ) (bs cs t : List ℕ) → put a (bs ++ cs) t ≡ put (length bs + a) cs (put a bs t)
    by a bs cs [] = refl
    by zero [] cs (x ∷ t) = refl
    by zero (b ∷ bs) cs (x ∷ t) = rw suc-add (ap (λ r. b ∷ r) (by zero bs cs t))
    by (suc a) bs cs (x ∷ t) = rw add-suc (ap (λ r. x ∷ r) (by a bs cs t))

pub put-none : (a : ℕ) (t : List ℕ) → put a [] t ≡ t
unfolding put
put-none a [] = refl
put-none zero (x ∷ t) = refl
put-none (suc a) (x ∷ t) = ap (λ r. x ∷ r) (put-none a t)

-- what is behind a store stays
pub put_behind : (i : ℕ) (bs t : List ℕ) → length bs ≤ i → drop i (put 0 bs t) ≡ drop i t
unfolding put
put_behind i bs [] h = refl
put_behind i [] (x ∷ t) h = refl
put_behind zero (b ∷ bs) (x ∷ t) h = absurd (omega arith)
put_behind (suc i) (b ∷ bs) (x ∷ t) h = put_behind i bs t (omega arith)

-- ---- a part after a store

pub length_part : (a n : ℕ) (t : List ℕ) → length (part a n t) ≡ min n (length t - a)
unfolding part
length_part a n t = simp (length-take, length-drop)

pub byte-part : (a n : ℕ) (t : List ℕ) (i : ℕ) → i < n → byte i (part a n t) ≡ byte (a + i) t
unfolding part
byte-part a n t i h = get_or-take n (drop a t) i 0 h ∙ get_or-drop a t i 0

-- what is stored elsewhere does not change a part
pub part-put : (a n x : ℕ) (bs t : List ℕ) → Apart x (length bs) a n → part a n (put x bs t) ≡ part a n t
part-put a n x bs t h = ext_get_or 0 (part a n (put x bs t)) (part a n t) as_long at_each
  where
    as_long : length (part a n (put x bs t)) ≡ length (part a n t)
    as_long =
        length_part a n (put x bs t) ∙ ap (λ k. min n (k - a)) (length-put x bs t) ∙ sym (length_part a n t)

    at_each : (i : ℕ) → i < length (part a n (put x bs t)) → byte i (part a n (put x bs t)) ≡ byte i (part a n t)
    at_each i q =
        let b : i < n = omega (arith, length_part a n (put x bs t)) in
        byte-part a n (put x bs t) i b
        ∙ byte_put_out x bs t (a + i) (λ p r. h (a + i) p r (omega arith) (omega arith))
        ∙ sym (byte-part a n t i b)

-- what is stored is there
pub part_put_same : (a : ℕ) (bs t : List ℕ) → a + length bs ≤ length t → part a (length bs) (put a bs t) ≡ bs
unfolding part put
part_put_same zero [] [] h = refl
part_put_same (suc a) [] [] h = refl
part_put_same zero (b ∷ bs) [] h = absurd (omega arith)
part_put_same (suc a) (b ∷ bs) [] h = absurd (omega arith)
part_put_same zero [] (x ∷ t) h = refl
part_put_same zero (b ∷ bs) (x ∷ t) h = ap {B = List ℕ} (λ r. b ∷ r) (part_put_same zero bs t (omega arith))
part_put_same (suc a) bs (x ∷ t) h = part_put_same a bs t (omega arith)

-- a store that begins in a part is a store in the part
take_put : (n o : ℕ) (bs t : List ℕ) → take n (put o bs t) ≡ put o bs (take n t)
unfolding put
take_put zero o bs [] = refl
take_put zero zero [] (x ∷ t) = refl
take_put zero zero (b ∷ bs) (x ∷ t) = refl
take_put zero (suc o) bs (x ∷ t) = refl
take_put (suc n) o bs [] = refl
take_put (suc n) zero [] (x ∷ t) = refl
take_put (suc n) zero (b ∷ bs) (x ∷ t) = ap {B = List ℕ} (λ r. b ∷ r) (take_put n zero bs t)
take_put (suc n) (suc o) bs (x ∷ t) = ap {B = List ℕ} (λ r. x ∷ r) (take_put n o bs t)

drop-put : (x o : ℕ) (bs t : List ℕ) → drop x (put (x + o) bs t) ≡ put o bs (drop x t)
unfolding put
drop-put zero o bs t = let e : 0 + o ≡ o = omega arith in rw e
drop-put (suc x) o bs [] = refl
drop-put (suc x) o bs (y ∷ t) = let e : suc x + o ≡ suc (x + o) = omega arith in rw e (drop-put x o bs t)

pub part_put_inside : (x n o : ℕ) (bs t : List ℕ) → part x n (put (x + o) bs t) ≡ put o bs (part x n t)
unfolding part
part_put_inside x n o bs t = ap (take n) (drop-put x o bs t) ∙ take_put n o bs (drop x t)

pub part_put_start : (a n : ℕ) (bs t : List ℕ) → part a n (put a bs t) ≡ put 0 bs (part a n t)
part_put_start a n bs t = let e : a + 0 ≡ a = omega arith in rw e at (part_put_inside a n 0 bs t)

-- two stores that touch no common byte may change places
pub put_comm : (a x : ℕ) (bs ys t : List ℕ) → Apart a (length bs) x (length ys)
    → put a bs (put x ys t) ≡ put x ys (put a bs t)
unfolding put
put_comm a x bs ys [] h = refl
put_comm zero zero [] [] (z ∷ t) h = refl
put_comm zero zero (b ∷ bs) [] (z ∷ t) h = refl
put_comm zero zero [] (y ∷ ys) (z ∷ t) h = refl
put_comm zero zero (b ∷ bs) (y ∷ ys) (z ∷ t) h = absurd (h 0 (omega arith) (omega arith) (omega arith) (omega arith))
put_comm zero (suc x) [] ys (z ∷ t) h = refl
put_comm zero (suc x) (b ∷ bs) ys (z ∷ t) h =
    ap {B = List ℕ} (λ r. b ∷ r)
    (put_comm zero x bs ys t (λ i p q u v. h (suc i) (omega arith) (omega arith) (omega arith) (omega arith)))
put_comm (suc a) zero bs [] (z ∷ t) h = refl
put_comm (suc a) zero bs (y ∷ ys) (z ∷ t) h =
    ap {B = List ℕ} (λ r. y ∷ r)
    (put_comm a zero bs ys t (λ i p q u v. h (suc i) (omega arith) (omega arith) (omega arith) (omega arith)))
put_comm (suc a) (suc x) bs ys (z ∷ t) h =
    ap {B = List ℕ} (λ r. z ∷ r)
    (put_comm a x bs ys t (λ i p q u v. h (suc i) (omega arith) (omega arith) (omega arith) (omega arith)))

pub length-xor : (xs ys : List ℕ) → length (xor xs ys) ≡ length xs
unfolding xor
length-xor [] ys = refl
length-xor (x ∷ xs) [] = refl
length-xor (x ∷ xs) (y ∷ ys) = ap suc (length-xor xs ys)

pub same_refl : (xs : List ℕ) → same xs xs ≡ true
unfolding same
same_refl [] = refl
same_refl (x ∷ xs) = rw (eq-eqb x x refl, same_refl xs)

pub same_equal : (xs ys : List ℕ) → same xs ys ≡ true → xs ≡ ys
unfolding same
same_equal [] [] e = refl
same_equal [] (y ∷ ys) e = true_false (sym e)
same_equal (x ∷ xs) [] e = true_false (sym e)
same_equal (x ∷ xs) (y ∷ ys) e =
    let b = and_true (eqb x y) (same xs ys) e in ap₂ (λ z zs. z ∷ zs) (eqb-true x y b.0) (same_equal xs ys b.1)

-- ---- numbers as bytes

pub length-bytes_of : (n v : ℕ) → length (bytes_of n v) ≡ n
unfolding bytes_of
length-bytes_of zero v = refl
length-bytes_of (suc n) v =
    let e = length-append (bytes_of n (v / 256)) (v % 256 ∷ []) in
    let h = length-bytes_of n (v / 256) in
    omega (arith, e, h)

number_from-last : (a b : ℕ) (bs : List ℕ) → number_from a (bs ++ (b ∷ [])) ≡ number_from a bs * 256 + b
unfolding number_from
number_from-last a b [] = refl
number_from-last a b (x ∷ bs) = number_from-last (a * 256 + x) b bs

-- n bytes hold every number below 256 ^ n
pub number_bytes_of : (n v : ℕ) → v < 256 ^ n → number (bytes_of n v) ≡ v
unfolding bytes_of number_from
number_bytes_of zero v h = omega arith
number_bytes_of (suc n) v h =
    let p : 256 ^ suc n ≡ 256 ^ n * 256 = pow-suc 256 n in
    let l : v / 256 < 256 ^ n = (div-lt_iff_lt-mul {k = 256} {x = v} {y = 256 ^ n} (omega arith)).1 (omega (arith, p)) in
    number_from-last 0 (v % 256) (bytes_of n (v / 256)) ∙ ap (λ x. x * 256 + v % 256) (number_bytes_of n (v / 256) l) ∙ div-add-mod' v 256

pub part-front : (xs ys : List ℕ) → part 0 (length xs) (xs ++ ys) ≡ xs
unfolding part
part-front [] ys = refl
part-front (x ∷ xs) ys = ap {B = List ℕ} (λ r. x ∷ r) (part-front xs ys)

-- ---- XOR, twice with the same

differ_twice : (x y : ℕ) → x < 2 → y < 2 → differ (differ x y) x ≡ y
differ_twice zero zero a b = refl
differ_twice zero (suc zero) a b = refl
differ_twice zero (suc (suc y)) a b = absurd (omega arith)
differ_twice (suc zero) zero a b = refl
differ_twice (suc zero) (suc zero) a b = refl
differ_twice (suc zero) (suc (suc y)) a b = absurd (omega arith)
differ_twice (suc (suc x)) y a b = absurd (omega arith)

differ_small : (x y : ℕ) → x < 2 → y < 2 → differ x y < 2
differ_small zero y a b = b
differ_small (suc x) zero a b = a
differ_small (suc zero) (suc zero) a b = omega arith
differ_small (suc zero) (suc (suc y)) a b = absurd (omega arith)
differ_small (suc (suc x)) (suc y) a b = absurd (omega arith)

bits_twice : (a b : ℕ) → bit_xor (bit_xor a b) a ≡ b
bits_twice = bin_ind (λ (n : ℕ). (b : ℕ) → bit_xor (bit_xor n b) n ≡ b) (λ b. xor_zero_r b) step
  where
    step : (n : ℕ) → ((b : ℕ) → bit_xor (bit_xor (n / 2) b) (n / 2) ≡ b) → (b : ℕ) → bit_xor (bit_xor n b) n ≡ b
    step n ih b =
        let p : n % 2 < 2 = mod-lt n (omega arith) in
        let q : b % 2 < 2 = mod-lt b (omega arith) in
        let d = differ_small (n % 2) (b % 2) p q in
        let e = xor_step n b in
        let high : bit_xor n b / 2 ≡ bit_xor (n / 2) (b / 2) = omega (arith, e, d) in
        let low : bit_xor n b % 2 ≡ differ (n % 2) (b % 2) = omega (arith, e, d) in
        xor_step (bit_xor n b) n
        ∙ ap₂ (λ (x y : ℕ). bit_xor x (n / 2) * 2 + differ y (n % 2)) high low
        ∙ ap₂ (λ (x y : ℕ). x * 2 + y) (ih (b / 2)) (differ_twice (n % 2) (b % 2) p q)
        ∙ div-add-mod' b 2

pub xor_twice : (xs ys : List ℕ) → length xs ≡ length ys → xor (xor xs ys) xs ≡ ys
unfolding xor
xor_twice [] [] e = refl
xor_twice [] (y ∷ ys) e = absurd (omega arith)
xor_twice (x ∷ xs) [] e = absurd (omega arith)
xor_twice (x ∷ xs) (y ∷ ys) e = ap₂ {C = List ℕ} (λ z zs. z ∷ zs) (bits_twice x y) (xor_twice xs ys (omega arith))

-- ---- the parts of a list that was put together

pub front : (n : ℕ) (xs ys : List ℕ) → length xs ≡ n → part 0 n (xs ++ ys) ≡ xs
front n xs ys e = subst (λ k. part 0 k (xs ++ ys) ≡ xs) e (part-front xs ys)

pub behind : (a n o : ℕ) (xs ys : List ℕ) → length xs ≡ a → part (a + o) n (xs ++ ys) ≡ part o n ys
unfolding part
behind a n o [] ys e = let k : a + o ≡ o = omega arith in rw k
behind zero n o (x ∷ xs) ys e = absurd (omega arith)
behind (suc a) n o (x ∷ xs) ys e =
    let k : suc a + o ≡ suc (a + o) = omega arith in rw k (behind a n o xs ys (omega arith))
