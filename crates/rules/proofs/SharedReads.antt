-- Reads of a segment of model 4: what a granted one touches, and which slots may be read.
use Rattle.std.specs.Prelude.{None, Some}
use Prim.Native.Nat.{ℕ, zero, suc, ◌+◌, ◌-◌, ◌*◌, ◌≤◌, ◌<◌}
use mathlib.Core.Path.{◌≡◌, refl, sym, ap, subst, ◌∙◌}
use mathlib.Core.Logic.{◌≢◌, ◌⊎◌, inl, inr}
use mathlib.Core.Bool.{Bool, true, false, ◌&&◌, ◌||◌, not}
use mathlib.Core.List.{List, [], ◌∷◌}
use native.Mathlib.Omega.{arith}
use native.Mathlib.Decide.{ℕ_discrete}
use lib.ListN.{length}
use lib.Dec.{eqb, leb}
use borrow.Author.Tests.{eq-eqb, eqb-true, le-leb, leb-true, leb-false, not-false}
use Rattle.rules.specs.declared.Place.TheVariants.{Segment}
use Rattle.rules.specs.Map.{place_of, segment_at, segments}
use Rattle.rules.specs.Units.{unit_bytes, unit_of}
use Rattle.rules.specs.Hosts.{Host, hosts, listed, host_slot_at, misses, readable}
use Rattle.rules.specs.State.{Cipher, State}
use Rattle.rules.specs.Refusals.{lowest, is_shared_key, hides, read_checks, segment_read_checks}
use Rattle.rules.specs.Command.{read, checks, refusal, reply_by, grant}
use Rattle.rules.specs.SharedKeys.{row, ReadsListed}
use Rattle.rules.proofs.Tests.{some_none, true_false, same_some, and_true, all_true, all_and, all_none, passes}
use Rattle.rules.proofs.Places.{placed, place_holds}
use Rattle.rules.proofs.Grants.{in_place_lem, reply_is}
use Rattle.rules.proofs.HostList.{At, at_host, at_one}

-- ---- what a granted read touches

-- a row that names the segment has its slot, the i-th from `at` on, before the bytes or behind them
own_missed : (k o n at : ℕ) (hs : List Host) (i : ℕ) (h : Host) → misses k o n at hs ≡ true → At i h hs
    → h.named ≡ k + 1 → at + 48 * i < o + n → o < at + 48 * i + 48 → ⊥
unfolding misses
own_missed k o n at [] i h e a q b c = a
own_missed k o n at (g ∷ gs) zero h e a q b c =
    let x = (and_true (not (eqb g.named (k + 1)) || (leb (o + n) at || leb (at + 48) o)) (misses k o n (at + 48) gs) e).0 in
    let y : eqb g.named (k + 1) ≡ true = eq-eqb _ _ (sym (ap (λ f. f.named) a) ∙ q) in
    let z : (leb (o + n) at || leb (at + 48) o) ≡ true = rw y at x in
    beside (leb (o + n) at) (leb (at + 48) o) z refl refl
  where
    beside : (p r : Bool) → (p || r) ≡ true → leb (o + n) at ≡ p → leb (at + 48) o ≡ r → ⊥
    beside true r f d m = let w : o + n ≤ at = leb-true (o + n) at d in omega arith
    beside false true f d m = let w : at + 48 ≤ o = leb-true (at + 48) o m in omega arith
    beside false false f d m = true_false (sym f)
own_missed k o n at (g ∷ gs) (suc i) h e a q b c =
    own_missed k o n (at + 48) gs i h
    (and_true (not (eqb g.named (k + 1)) || (leb (o + n) at || leb (at + 48) o)) (misses k o n (at + 48) gs) e).1 a q (omega arith) (omega arith)

-- what its tests say of a granted read
read_tests : (s : State) (k a n : ℕ) → is_shared_key (unit_of (unit_bytes s.tag k)).model ≡ true
    → lowest (read_checks s (Segment k) a n) ≡ None
    → readable k (a - segment_at (segments s.tag) k) n (hosts s.tag) ≡ true
unfolding read_checks segment_read_checks hides
read_tests s k a n m g =
    let d5 = passes _ _ _ g in
    let d6 = passes _ _ _ d5.1 in
    let d = (passes _ _ _ d6.1).0 in
    let z : not (readable k (a - segment_at (segments s.tag) k) n (hosts s.tag)) ≡ false = rw m at d in
    not-false _ z

readable_slots : (t : List ℕ) (k a n : ℕ) → segment_at (segments t) k ≤ a
    → readable k (a - segment_at (segments t) k) n (hosts t) ≡ true
    → (listed k (hosts t) ≡ true)
    × ((j : ℕ) → host_slot_at (segments t) k j < a + n → a < host_slot_at (segments t) k j + 48 → j < length (hosts t))
    × ((j : ℕ) → host_slot_at (segments t) k j < a + n → a < host_slot_at (segments t) k j + 48 → (row t j).named ≢ k + 1)
unfolding readable
readable_slots t k a n x g =
    let y0 = all_true _ _ g in
    let y1 = all_true _ _ y0.1 in
    let y2 = all_true _ _ y1.1 in
    let l : a - segment_at (segments t) k + n ≤ 48 * length (hosts t) = leb-true _ _ y1.0 in (
      y0.0,
      (λ j b c. omega (arith, l, x, b, c)),
      (λ j b c d.
          own_missed k (a - segment_at (segments t) k) n 0 (hosts t) j (row t j) y2.0
          (at_host t j (omega (arith, l, x, b, c))) d (omega (arith, x, b, c)) (omega (arith, x, b, c))),
    )

pub reads_listed : (E : Cipher) (s : State) (k a n room : ℕ) → refusal E s (read a n room) ≡ None
    → place_of s.tag a n ≡ Some (Segment k) → is_shared_key (unit_of (unit_bytes s.tag k)).model ≡ true
    → ReadsListed E s k a n room
unfolding refusal checks
reads_listed E s k a n room e f m =
    let c1 = passes _ _ _ e in
    let c2 = passes _ _ _ c1.1 in
    let c3 = passes _ _ _ c2.1 in
    let c4 = passes _ _ _ c3.1 in
    let w = not-false _ c1.0 in
    let p = in_place_lem _ _ None some_none c4.1 in
    let q : p.0 ≡ Segment k = same_some (sym p.1 ∙ f) in
    let x = placed s.tag (Segment k) a n w (place_holds s.tag (Segment k) a n f) in
    let y = readable_slots s.tag k a n x.1 (read_tests s k a n m (subst (λ r. lowest (read_checks s r a n) ≡ None) q p.2)) in
    record {
      gives_them = reply_is E s (read a n room) None (unfold refusal checks in e) ∙ (unfold reply_by grant in refl);
      from_start = x.1;
      to_end = x.2;
      is_listed = y.0;
      slot_listed = y.1;
      not_own = y.2;
    }

-- ---- one slot, of a listed row that does not name the segment, may be read

missed : (k o n at : ℕ) (hs : List Host)
    → ((i : ℕ) (h : Host) → At i h hs → h.named ≡ k + 1 → (o + n ≤ at + 48 * i) ⊎ (at + 48 * i + 48 ≤ o))
    → misses k o n at hs ≡ true
unfolding misses
missed k o n at [] f = refl
missed k o n at (h ∷ hs) f =
    and_both (own (eqb h.named (k + 1)) refl) (missed k o n (at + 48) hs (λ i g a e. moved i (f (suc i) g a e)))
  where
    and_both : {b c : Bool} → b ≡ true → c ≡ true → (b && c) ≡ true
    and_both e g = rw (e, g)

    moved : (i : ℕ) → (o + n ≤ at + 48 * suc i) ⊎ (at + 48 * suc i + 48 ≤ o)
        → (o + n ≤ at + 48 + 48 * i) ⊎ (at + 48 + 48 * i + 48 ≤ o)
    moved i (inl x) = inl (omega arith)
    moved i (inr x) = inr (omega arith)

    aside : (o + n ≤ at + 48 * 0) ⊎ (at + 48 * 0 + 48 ≤ o) → (leb (o + n) at || leb (at + 48) o) ≡ true
    aside (inl x) = rw (le-leb (o + n) at (omega arith))
    aside (inr x) = ap (λ b. leb (o + n) at || b) (le-leb (at + 48) o (omega arith)) ∙ or_yes (leb (o + n) at)
      where
        or_yes : (b : Bool) → (b || true) ≡ true
        or_yes true = refl
        or_yes false = refl

    own : (b : Bool) → eqb h.named (k + 1) ≡ b → (not b || (leb (o + n) at || leb (at + 48) o)) ≡ true
    own true e = aside (f 0 h refl (eqb-true _ _ e))
    own false e = refl

pub slot-shown : (t : List ℕ) (k j : ℕ) → listed k (hosts t) ≡ true → j < length (hosts t) → (row t j).named ≢ k + 1
    → readable k (48 * j) 48 (hosts t) ≡ true
unfolding readable
slot-shown t k j e l o =
    all_and _ _ e (all_and _ _ (le-leb (48 * j + 48) (48 * length (hosts t)) (omega arith))
    (all_and _ _ (missed k (48 * j) 48 0 (hosts t) (λ i h a q. by i h a q (ℕ_discrete i j))) all_none))
  where
    by : (i : ℕ) (h : Host) → At i h (hosts t) → h.named ≡ k + 1 → Dec (i ≡ j)
        → (48 * j + 48 ≤ 0 + 48 * i) ⊎ (0 + 48 * i + 48 ≤ 48 * j)
    by i h a q (yes d) =
        absurd (o (ap (λ g. g.named) (at_one (hosts t) j (row t j) h (at_host t j l) (subst (λ m. At m h (hosts t)) d a)) ∙ q))
    by i h a q (no d) = beside (leb i j) refl
      where
        beside : (b : Bool) → leb i j ≡ b → (48 * j + 48 ≤ 0 + 48 * i) ⊎ (0 + 48 * i + 48 ≤ 48 * j)
        beside true f = let z : i ≤ j = leb-true i j f in inr (omega arith)
        beside false f = let z : j < i = leb-false i j f in inl (omega arith)
