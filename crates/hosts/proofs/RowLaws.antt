-- The rows of the list: how they are cut from the segment, and what is asked of them. Assumes nothing.
use Prim.Native.Nat.{ℕ, zero, suc, ◌+◌, ◌-◌, ◌*◌, ◌/◌, ◌≤◌, ◌<◌}
use mathlib.Core.Path.{◌≡◌, refl, sym, ap, ap₂, ◌∙◌}
use mathlib.Core.Bool.{Bool, true, false, ◌&&◌, ◌||◌, not, cond}
use mathlib.Core.List.{List, [], ◌∷◌, map}
use native.Mathlib.Omega.{arith}
use lib.ListN.{length, take, drop, get_or}
use lib.Seq.{ext_get_or}
use Rattle.std.proofs.Math.ListN.{drop_of_length-le}
use Rattle.std.proofs.Math.Seq.{drop-cons, take-length}
use Rattle.std.proofs.lemmas.List.{drop-drop, length-drop, length-map, length-take-le}
use denote.Param.Members.{Mut}
use denote.Ref.{Bor}
use Rattle.std.proofs.iter.Yields.{fronts}
use Rattle.std.proofs.lemmas.Iterator.{YieldsList-from_slice}
use Rattle.std.proofs.lemmas.Iterator.Search.{any_from_yields_List}
use Rattle.std.specs.Fn.{Called}
use Rattle.std.specs.Iterator.{ChecksAny}
use Rattle.std.specs.Slice.Iter.{iter_rest}
use Rattle.std.proofs.Common.{Iter}
use Rattle.std.specs.List.{list_any, position_or_len}
use Rattle.std.specs.Simd.{first_chunks}
use Rattle.rules.specs.Bytes.{byte, number, part, zeros}
use Rattle.rules.specs.Map.{readers_at, unit_at}
use Rattle.rules.specs.Hosts.{Host, host_at, hosts, hosts_from, most_hosts, any, misses, readers, repeats, twin}
use Rattle.rules.proofs.BytesLaws.{byte-part, length_part}
use Rattle.rules.proofs.HostList.{few_hosts}
use Rattle.octets.proofs.Laws.{length_lent}
use Rattle.hosts.specs.Joining.{host_of, spared}

-- ---- rows of 18 bytes

pub part-part : (o n a m : ℕ) (t : List ℕ) → o + n ≤ m → part o n (part a m t) ≡ part (a + o) n t
part-part o n a m t h = ext_get_or 0 (part o n (part a m t)) (part (a + o) n t) as_long at_each
  where
    as_long : length (part o n (part a m t)) ≡ length (part (a + o) n t)
    as_long =
        let x = length_part o n (part a m t) in
        let y = length_part a m t in
        let z = length_part (a + o) n t in
        omega (arith, x, y, z, h)

    at_each : (i : ℕ) → i < length (part o n (part a m t)) → byte i (part o n (part a m t)) ≡ byte i (part (a + o) n t)
    at_each i q =
        let b : i < n = omega (arith, length_part o n (part a m t)) in
        let e : a + (o + i) ≡ a + o + i = omega arith in
        byte-part o n (part a m t) i b ∙ byte-part a m t (o + i) (omega arith) ∙ ap (λ j. byte j t) e
        ∙ sym (byte-part (a + o) n t i b)

-- row i of the segment r, by itself
host_cut : (r : List ℕ) (i : ℕ) → host_of (take 18 (drop (18 * i) r)) ≡ host_at r i
unfolding host_at part
host_cut r i =
    let z : 18 * i + 0 ≡ 18 * i = omega arith in
    let a : part 0 16 (part (18 * i) 18 r) ≡ part (18 * i) 16 r = rw z at (part-part 0 16 (18 * i) 18 r (omega arith)) in
    let b : part 16 2 (part (18 * i) 18 r) ≡ part (18 * i + 16) 2 r = part-part 16 2 (18 * i) 18 r (omega arith) in
    ap₂ (λ x y. record { id = x; named = number y }) a b

chunks_few : (m n : ℕ) (xs : List ℕ) → m ≤ n → take m (first_chunks 18 n xs) ≡ first_chunks 18 m xs
chunks_few zero n xs l = refl
chunks_few (suc m) zero xs l = absurd (omega arith)
chunks_few (suc m) (suc n) xs l = ap (λ rows. take 18 xs ∷ rows) (chunks_few m n (drop 18 xs) (omega arith))

-- the places of rows, among the chunks of the segment
module _ (t r : List ℕ) (l : unit_at 0 ≤ length t) (e : r ≡ readers t) where
  long : length r ≡ 4096
  unfolding readers
  long = ap length e ∙ length_lent readers_at 4096 t (omega arith)

  pub places_fit : (xs : List (List ℕ)) → length xs ≡ length r / 18 → 85 ≡ length (take 85 xs)
  places_fit xs f = sym (length-take-le 85 xs (omega (arith, f, long)))

  pub places_cut : (xs : List (List ℕ)) → xs ≡ first_chunks 18 (length r / 18) r → take 85 xs ≡ first_chunks 18 85 (readers t)
  places_cut xs f = ap (take 85) f ∙ chunks_few 85 (length r / 18) r (omega (arith, long)) ∙ ap (first_chunks 18 85) e

chunk_at : (n i : ℕ) (r : List ℕ) → i < n → get_or (first_chunks 18 n r) i [] ≡ take 18 (drop (18 * i) r)
chunk_at zero i r l = absurd (omega arith)
chunk_at (suc n) zero r l = refl
chunk_at (suc n) (suc i) r l =
    let e : 18 + 18 * i ≡ 18 * suc i = omega arith in
    chunk_at n i (drop 18 r) (omega arith) ∙ ap (take 18) (drop-drop (18 * i) 18 r ∙ ap (λ m. drop m r) e)

pub place_at : (r : List ℕ) (places : List (List ℕ)) (i : ℕ) → places ≡ first_chunks 18 85 r → i < 85
    → host_of (get_or places i []) ≡ host_at r i
place_at r places i e l = ap (λ rows. host_of (get_or rows i [])) e ∙ ap host_of (chunk_at 85 i r l) ∙ host_cut r i

-- the rows from row i on, up to the first that has no id
abbrev ends : List ℕ → Bool
ends row = zeros (host_of row).id

rows_cut : (n i : ℕ) (r rs : List ℕ) → rs ≡ drop (18 * i) r
    → map host_of (take (position_or_len ends (first_chunks 18 n rs)) (first_chunks 18 n rs)) ≡ hosts_from n i r
unfolding hosts_from
rows_cut zero i r rs e = refl
rows_cut (suc n) i r rs e =
    let m : 18 * i + 18 ≡ 18 * suc i = omega arith in
    let h : host_of (take 18 rs) ≡ host_at r i = ap (λ v. host_of (take 18 v)) e ∙ host_cut r i in
    let z : ends (take 18 rs) ≡ zeros (part (18 * i) 16 r) = ap (λ g. zeros g.id) h ∙ (unfold host_at in refl) in
    let more = rows_cut n (suc i) r (drop 18 rs) (ap (drop 18) e ∙ drop-drop 18 (18 * i) r ∙ ap (λ j. drop j r) m) in
    rw z (by (zeros (part (18 * i) 16 r)) (take 18 rs) (host_at r i) _ _ _ h more)
  where
    by : (b : Bool) (row : List ℕ) (h : Host) (p : ℕ) (rows : List (List ℕ)) (hs : List Host) → host_of row ≡ h
        → map host_of (take p rows) ≡ hs
        → map host_of (take (cond (not b) (1 + p) 0) (row ∷ rows)) ≡ cond b [] (h ∷ hs)
    by true row h p rows hs e f = refl
    by false row h p rows hs e f = let n : 1 + p ≡ suc p = omega arith in rw n (ap₂ (λ x xs. x ∷ xs) e f)

pub rows_are : (t : List ℕ) (places : List (List ℕ)) (n : ℕ) → places ≡ first_chunks 18 85 (readers t)
    → n ≡ position_or_len ends places → map host_of (take n places) ≡ hosts t
unfolding hosts most_hosts
rows_are t places n e f = rw (f, e) (rows_cut 85 0 (readers t) (readers t) refl)

pub length_rows : (rows : List (List ℕ)) → length (map host_of rows) ≡ length rows
length_rows rows = length-map rows host_of

-- as many rows as hosts
pub count_rows : (t : List ℕ) (rows : List (List ℕ)) → map host_of rows ≡ hosts t → length rows ≡ length (hosts t)
count_rows t rows e = sym (length-map rows host_of) ∙ ap length e

pub few_rows : (t : List ℕ) (rows : List (List ℕ)) → map host_of rows ≡ hosts t → length rows ≤ 85
few_rows t rows e = let n = count_rows t rows e in let m = few_hosts t in omega (arith, n, m)

-- ---- what is asked of the rows

-- std's word for a test of some row, and that of the rules
any_row : (f : Host → Bool) (rows : List (List ℕ)) → list_any (λ row. f (host_of row)) rows ≡ any f (map host_of rows)
unfolding any
any_row f [] = refl
any_row f (row ∷ rows) = ap (λ b. f (host_of row) || b) (any_row f rows)

-- an `any` over the rows, whose closure f tests the host of each
pub any_of_rows : {F : Type 0} {g : Mut F (Bor (List ℕ) × Unit {0}) Bool} {s u : Iter (List ℕ)} {f : F} {r : Bool}
    (test : Host → Bool) (rows : List (List ℕ)) → ChecksAny fronts g s f r u → iter_rest s ≡ rows
    → ((row : Bor (List ℕ)) (b : Bool) (q : F) → Called g f (row, tt) b q → (q ≡ f) × (b ≡ test (host_of row.now)))
    → r ≡ any test (map host_of rows)
any_of_rows test rows ran e each =
    any_from_yields_List (λ row. test (host_of row)) _ _ _ ran (YieldsList-from_slice rows e) each ∙ any_row test rows

module _ (rows : List (List ℕ)) (i : ℕ) (l : i < length rows) where
  next : drop i rows ≡ get_or rows i [] ∷ drop (i + 1) rows
  next = let e : suc i ≡ i + 1 = omega arith in rw e at (drop-cons rows i [] l)

  -- the rows behind row i, as they are lent
  behind : take (length rows - (i + 1)) (drop (i + 1) rows) ≡ drop (i + 1) rows
  behind = rw (← length-drop (i + 1) rows) (take-length (drop (i + 1) rows))

  -- b: whether one of them repeats it
  module _ (b : Bool)
      (e : b ≡ any (twin (host_of (get_or rows i []))) (map host_of (take (length rows - (i + 1)) (drop (i + 1) rows)))) where
    repeats-next : repeats (map host_of (drop i rows)) ≡ (b || repeats (map host_of (drop (i + 1) rows)))
    unfolding repeats
    repeats-next = rw (e, behind) (ap (λ rs. repeats (map host_of rs)) next)

    pub repeats_here : b ≡ true → true ≡ repeats (map host_of (drop i rows))
    repeats_here q = sym (rw q at repeats-next)

    pub repeats_on : b ≡ false → repeats (map host_of (drop i rows)) ≡ repeats (map host_of (drop (i + 1) rows))
    repeats_on q = rw q at repeats-next

  -- b: whether row i is spared
  module _ (k o n : ℕ) (b : Bool) (e : b ≡ spared k o n (48 * i) (host_of (get_or rows i []))) where
    misses-next : misses k o n (48 * i) (map host_of (drop i rows)) ≡ (b && misses k o n (48 * (i + 1)) (map host_of (drop (i + 1) rows)))
    unfolding misses
    misses-next =
        let m : 48 * i + 48 ≡ 48 * (i + 1) = omega arith in
        rw (e, ← m) (ap (λ rs. misses k o n (48 * i) (map host_of rs)) next)

    pub misses_not : b ≡ false → false ≡ misses k o n (48 * i) (map host_of (drop i rows))
    misses_not q = sym (rw q at misses-next)

    pub misses_on : b ≡ true
        → misses k o n (48 * i) (map host_of (drop i rows)) ≡ misses k o n (48 * (i + 1)) (map host_of (drop (i + 1) rows))
    misses_on q = rw q at misses-next

-- behind the last row
pub repeats_end : (rows : List (List ℕ)) (i : ℕ) → length rows ≤ i → repeats (map host_of (drop i rows)) ≡ false
unfolding repeats
repeats_end rows i l = ap (λ rs. repeats (map host_of rs)) (drop_of_length-le rows l)

pub misses_end : (rows : List (List ℕ)) (i k o n : ℕ) → length rows ≤ i → misses k o n (48 * i) (map host_of (drop i rows)) ≡ true
unfolding misses
misses_end rows i k o n l = ap (λ rs. misses k o n (48 * i) (map host_of rs)) (drop_of_length-le rows l)
