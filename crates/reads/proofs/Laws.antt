-- Laws on reads that the judges and the command above them cite. Assumes nothing.
use Rattle.std.specs.Prelude.{None, Option, Some}
use Prim.Native.Nat.{ℕ, ◌+◌, ◌-◌, ◌%◌, ◌≤◌}
use mathlib.Core.Path.{◌≡◌, refl, sym, ap, ◌∙◌}
use mathlib.Core.Logic.{◌≢◌, ◌⊎◌, inl, inr}
use mathlib.Core.Bool.{Bool, true, false, ◌&&◌, ◌||◌, not}
use mathlib.Core.List.{List}
use lib.ListN.{length}
use lib.Dec.{eqb, ltb}
use Rattle.rules.specs.declared.Unit.{Unit}
use Rattle.rules.specs.declared.Session.{Session}
use Rattle.rules.specs.declared.Place.{Place}
use Rattle.rules.specs.declared.Place.TheVariants.{Header, Hidden, RegisterOf, Pins, Readers, UnitOf, Spare, Segment, Public}
use Rattle.rules.specs.Bytes.{part, put, same}
use Rattle.rules.specs.Map.{largest_tag, sound, segments, place_of, segment_at, unit_at}
use Rattle.rules.specs.Units.{unit_bytes, name_of}
use Rattle.rules.specs.Hosts.{Host, hosts}
use Rattle.rules.specs.State.{Cipher, State, state}
use Rattle.rules.specs.Refusals.{Checks, ◌when◌else◌, granted, hides, lowest, segment_read_checks, unit_read_checks, read_checks}
use Rattle.rules.specs.Effects.{apply}
use Rattle.rules.specs.Command.{read, checks, refusal, in_place, reply, reply_by, grant, filled}
use Rattle.rules.specs.Command.{after, after_by, stores, new_session}
use Rattle.rules.proofs.Tests.{some_none, passes, gives, leaves, none_applies, joined-three}
use Rattle.rules.proofs.MapLaws.{sizes}
use Rattle.rules.proofs.Places.{the_map}
use Rattle.rules.proofs.Grants.{reply_is}
use Rattle.rules.proofs.Refused.{not_11, refused_stays}
use Rattle.units.specs.Decoded.{decoded}
use Rattle.units.proofs.Laws.{decoded_whole}
use Rattle.units.proofs.FormLaws.{formless, formed}

-- ---- reads of a segment and of a unit

pub segment_formless : (i : ℕ) (name t : List ℕ) (k o n : ℕ) (hs : List Host) (u : List ℕ) → u ≡ unit_bytes t k
    → decoded u ≡ None → lowest (segment_read_checks i name (unit_bytes t k) k o n hs) ≡ Some 5
unfolding segment_read_checks
segment_formless i name t k o n hs u e d = formless (unit_bytes t k) _ (ap decoded (sym e) ∙ d)

pub segment_read_by : (i : ℕ) (name t : List ℕ) (k o n : ℕ) (hs : List Host) (u : List ℕ) (x : Unit) → u ≡ unit_bytes t k
    → decoded u ≡ Some x
    → lowest (segment_read_checks i name (unit_bytes t k) k o n hs)
    ≡ lowest (6 when not x.rd else 6 when hides x.model k o n hs else 7 when x.rdpin && not (eqb i x.read) else
    8 when x.pn && not (same name (name_of u)) else granted)
unfolding segment_read_checks
segment_read_by i name t k o n hs u x e d = rw (← e) (formed u x _ d ∙ rw (decoded_whole u x d).1)

pub unit_read_by : (u : List ℕ) (o : ℕ) (x : Unit) → decoded u ≡ Some x
    → lowest (unit_read_checks u o) ≡ lowest (6 when x.pn && ltb 16 o else granted)
unfolding unit_read_checks
unit_read_by u o x e = formed u x _ e ∙ rw (decoded_whole u x e).1

-- the variants of `Place` that any read may have, and those that no read may have
pub readable : (s : State) (p : Place) (a n : ℕ) → (p ≡ Header) ⊎ ((p ≡ Readers) ⊎ ((k : ℕ) × (p ≡ Public k)))
    → lowest (read_checks s p a n) ≡ None
unfolding read_checks
readable s p a n (inl e) = rw e none_applies
readable s p a n (inr (inl e)) = rw e none_applies
readable s p a n (inr (inr (k, e))) = rw e none_applies

pub unreadable : (s : State) (p : Place) (a n : ℕ) → p ≢ Header → p ≢ Readers → ((k : ℕ) → p ≢ UnitOf k)
    → ((k : ℕ) → p ≢ Segment k) → ((k : ℕ) → p ≢ Public k) → lowest (read_checks s p a n) ≡ Some 4
unfolding read_checks
unreadable s Header a n h r u g b = absurd (h refl)
unreadable s Hidden a n h r u g b = gives 4 true granted refl
unreadable s (RegisterOf i) a n h r u g b = gives 4 true granted refl
unreadable s Pins a n h r u g b = gives 4 true granted refl
unreadable s Readers a n h r u g b = absurd (r refl)
unreadable s (UnitOf k) a n h r u g b = absurd (u k refl)
unreadable s Spare a n h r u g b = gives 4 true granted refl
unreadable s (Segment k) a n h r u g b = absurd (g k refl)
unreadable s (Public k) a n h r u g b = absurd (b k refl)

-- the unit that is read, and the unit of the segment that is read
pub unit_read_in : (t : List ℕ) (v : Session) (p : Place) (k a n : ℕ) (u : List ℕ) → u ≡ unit_bytes t k → p ≡ UnitOf k
    → lowest (unit_read_checks u (a + n - unit_at k)) ≡ lowest (read_checks (state t v) p a n)
unfolding read_checks
unit_read_in t v p k a n u e f = rw (e, f)

pub segment_read_in : (t : List ℕ) (v : Session) (p : Place) (k a n : ℕ) → a - segment_at (segments t) k ≡ a % 4096 → p ≡ Segment k
    → lowest (segment_read_checks v.read v.name (unit_bytes t k) k (a % 4096) n (hosts t))
    ≡ lowest (read_checks (state t v) p a n)
unfolding read_checks
segment_read_in t v p k a n e f = rw (f, e)

-- ---- the checks before those of a place

-- 2, by the tests on the count of a read
abbrev pub miscounted : (n room : ℕ) → Bool
miscounted n room = (eqb n 0 || ltb 4096 n) || ltb room n

placed_nowhere : (f : Place → Checks) → lowest (in_place None f) ≡ Some 3
unfolding in_place
placed_nowhere f = gives 3 true granted refl

module _ (E : Cipher) (s : State) (a n room : ℕ) where
  pub read_miscounted : sound s.tag ≡ true → miscounted n room ≡ true
      → refusal E s (read a n room) ≡ Some 2
  unfolding refusal checks
  read_miscounted w e = leaves 1 _ _ (ap not w) ∙ joined-three 2 _ _ _ _ ∙ gives 2 _ _ e

  read_counted : sound s.tag ≡ true → miscounted n room ≡ false
      → refusal E s (read a n room) ≡ lowest (in_place (place_of s.tag a n) (λ p. read_checks s p a n))
  unfolding refusal checks
  read_counted w e = leaves 1 _ _ (ap not w) ∙ joined-three 2 _ _ _ _ ∙ leaves 2 _ _ e

  pub read_outside : sound s.tag ≡ true → miscounted n room ≡ false
      → place_of s.tag a n ≡ None → refusal E s (read a n room) ≡ Some 3
  read_outside w e f = read_counted w e ∙ rw f (placed_nowhere _)

  pub read_placed : (p : Place) → sound s.tag ≡ true → miscounted n room ≡ false
      → place_of s.tag a n ≡ Some p → refusal E s (read a n room) ≡ lowest (read_checks s p a n)
  unfolding in_place
  read_placed p w e f = read_counted w e ∙ rw f

  -- ---- what is read lies in the tag, and goes to the start of the output; the state stays

  pub read_inside : sound s.tag ≡ true → refusal E s (read a n room) ≡ None
      → (a + n ≤ length s.tag) × (length s.tag ≤ largest_tag)
  unfolding refusal checks
  read_inside w e =
      let c1 = passes _ _ _ e in
      let c2 = passes _ _ _ c1.1 in
      let c3 = passes _ _ _ c2.1 in
      let c4 = passes _ _ _ c3.1 in
      (by (place_of s.tag a n) refl c4.1, (sizes s.tag w).largest)
    where
      by : (q : Option Place) → place_of s.tag a n ≡ q → lowest (in_place q (λ p. read_checks s p a n)) ≡ None
          → a + n ≤ length s.tag
      by None f h = some_none (sym (placed_nowhere _) ∙ h)
      by (Some p) f h = (the_map s.tag w).in_tag p a n f

  pub read_fills : (out : List ℕ) → refusal E s (read a n room) ≡ None
      → filled (reply E s (read a n room)) out ≡ put 0 (part a n s.tag) out
  unfolding filled reply_by grant
  read_fills out e = ap (λ r. filled r out) (reply_is E s (read a n room) None e)

  pub read_stays : after E s (read a n room) ≡ s
  read_stays = by (refusal E s (read a n room)) refl
    where
      by : (r : Option ℕ) → refusal E s (read a n room) ≡ r → after E s (read a n room) ≡ s
      by None e = unfold after after_by stores new_session apply in rw e
      by (Some m) e = refused_stays E s (read a n room) m e (not_11 E s (read a n room) refl m e)
