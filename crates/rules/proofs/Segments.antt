-- A read or write inside one segment: 11 is none of its refusals, it leaves the session, and its stores are lawful
-- ones.
use Rattle.std.specs.Prelude.{None, Option, Some}
use Prim.Native.Nat.{ℕ, zero, suc, ◌≤◌}
use mathlib.Core.Path.{◌≡◌, refl, sym, ap, ap₂, ◌∙◌}
use mathlib.Core.Logic.{◌≢◌, inl, inr}
use mathlib.Core.Bool.{true, false}
use mathlib.Core.List.{List, []}
use native.Mathlib.Omega.{arith}
use lib.ListN.{length}
use borrow.Author.Tests.{eq-eqb, ne_eqb}
use Rattle.rules.specs.declared.Model.{Model}
use Rattle.rules.specs.declared.Place.{Place}
use Rattle.rules.specs.Map.{segments, publics, sound, place_of}
use Rattle.rules.specs.Units.{unit_bytes, unit_of}
use Rattle.rules.specs.State.{Cipher, State}
use Rattle.rules.specs.Refusals.{lowest, write_checks, segment_write_checks, slot_checks, value_checks}
use Rattle.rules.specs.Effects.{Store, refusal_stores, write_session, apply}
use Rattle.rules.specs.Command.{Command, read, write, refusal, checks, in_place, stores, after, after_by, new_session, session_in}
use Rattle.rules.specs.Claims.{Applies, Holds}
use Rattle.rules.proofs.Tests.{has, never-given, same_some}
use Rattle.rules.proofs.Values.{slot_cases}
use Rattle.rules.proofs.StoreLaws.{Each}
use Rattle.rules.proofs.MapLaws.{sound-facts}
use Rattle.rules.proofs.Places.{Numbered, controlled, open_to_all, place_found, placed}
use Rattle.rules.proofs.Grants.{made_by, granted_write, stores_write, after_tag}
use Rattle.rules.proofs.Lawful.{Lawful, write_lawful}
use Rattle.rules.proofs.Refused.{lowest_given, eleven_sound, not_11 as command-not-11}

-- a read or write of the n bytes at a
pub data Ranged (a n : ℕ) : Command → Type 0 where
  a_read : (room : ℕ) → Ranged a n (read a n room)
  a_write : (bs : List ℕ) → length bs ≡ n → Ranged a n (write a bs)

-- ---- 11 is none of its refusals

slot_lacks_11 : (m : Model) (o : ℕ) (old bs : List ℕ) → has 11 (slot_checks m o old bs) ≡ false
unfolding value_checks
slot_lacks_11 m o old bs = slot_cases (λ cs. has 11 cs ≡ false) o old bs refl refl m

write_lacks_11 : (E : Cipher) (s : State) (A P k a : ℕ) (bs : List ℕ) (p : Place) → Numbered A P k p
    → has 11 (write_checks E s p a bs) ≡ false
unfolding write_checks segment_write_checks
write_lacks_11 E s A P k a bs p (controlled h) = slot_lacks_11 (unit_of (unit_bytes s.tag k)).model _ _ bs
write_lacks_11 E s A P k a bs p (open_to_all l e h) = refl

-- a write that gets 11 has a byte
eleven_long : (E : Cipher) (s : State) (a : ℕ) (bs : List ℕ) → refusal E s (write a bs) ≡ Some 11 → 1 ≤ length bs
eleven_long E s a bs e = by (length bs) refl
  where
    two : length bs ≡ 0 → Applies 2 (checks E s (write a bs))
    two h = unfold checks in inr (inl (refl, eq-eqb (length bs) 0 h))

    by : (n : ℕ) → length bs ≡ n → 1 ≤ length bs
    by zero h = let x = ((lowest_given E s (write a bs)).lowest_given 11 e).1 2 (two h) in absurd (omega arith)
    by (suc n) h = omega arith

pub ranged_not_11 : (E : Cipher) (s : State) (k a n : ℕ) (p : Place) (c : Command)
    → Numbered (segments s.tag) (publics s.tag) k p → Holds s.tag p a n → Ranged a n c
    → (m : ℕ) → refusal E s c ≡ Some m → m ≢ 11
unfolding refusal checks in_place
ranged_not_11 E s k a n p c u h (a_read room) m e = command-not-11 E s (read a n room) refl m e
ranged_not_11 E s k a n p c u h (a_write bs l) m e =
    λ q.
    let e11 = e ∙ ap Some q in
    let w = eleven_sound E s (write a bs) e11 in
    let f = place_found s.tag p a (length bs) (sound-facts s.tag w).most_segments (eleven_long E s a bs e11) (rw l h) in
    never-given 11 _ (rw f (write_lacks_11 E s _ _ k a bs p u)) e11

-- ---- its stores, and the session

module _ (E : Cipher) (s : State) (k a n : ℕ) (p : Place) (w : sound s.tag ≡ true)
    (u : Numbered (segments s.tag) (publics s.tag) k p) (h : Holds s.tag p a n) where
  -- the stores that it makes
  abbrev pub made : Command → List Store
  made c = made_by (refusal E s c) E s c

  granted_place : (bs : List ℕ) → length bs ≡ n → refusal E s (write a bs) ≡ None
      → (place_of s.tag a (length bs) ≡ Some p) × (lowest (write_checks E s p a bs) ≡ None)
  granted_place bs l e =
      let g = granted_write E s a bs e in
      let f = place_found s.tag p a (length bs) (sound-facts s.tag w).most_segments g.long (rw l h) in
      let q : g.place ≡ p = same_some (sym g.found ∙ f) in
      (f, rw q at g.free)

  no_stores : (m : ℕ) → m ≢ 11 → refusal_stores m ≡ []
  unfolding refusal_stores
  no_stores m q = rw (ne_eqb m 11 q)

  lawful_by : (c : Command) (o : Option ℕ) → refusal E s c ≡ o → Ranged a n c
      → Each (Lawful s.tag p a n) (made_by o E s c)
  lawful_by c (Some m) e r = unfold made_by in (rw (no_stores m (ranged_not_11 E s k a n p c u h r m e)) tt)
  lawful_by c None e (a_read room) = unfold made_by stores in tt
  lawful_by c None e (a_write bs l) =
      let g = granted_place bs l e in
      unfold made_by in rw (stores_write E s a bs p g.0)
      (rw l at (write_lawful E s p a bs w (placed s.tag p a (length bs) w (rw l h)) g.1))

  pub made_lawful : (c : Command) → Ranged a n c → Each (Lawful s.tag p a n) (made c)
  made_lawful c r = lawful_by c (refusal E s c) refl r

  segment_session : (bs : List ℕ) (q : Place) → Numbered (segments s.tag) (publics s.tag) k q
      → write_session E s q bs ≡ s.session
  unfolding write_session
  segment_session bs q (controlled g) = refl
  segment_session bs q (open_to_all l e g) = refl

  session_by_lem : (c : Command) (o : Option ℕ) → refusal E s c ≡ o → Ranged a n c → (after_by o E s c).session ≡ s.session
  unfolding after_by new_session session_in
  session_by_lem c (Some m) e r = refl
  session_by_lem c None e (a_read room) = refl
  session_by_lem c None e (a_write bs l) = rw (granted_place bs l e).0 (segment_session bs p u)

  pub after_is : (c : Command) → Ranged a n c
      → after E s c ≡ record { tag = apply (made c) s.tag; session = s.session }
  after_is c r =
      ap₂ {C = State} (λ t v. record { tag = t; session = v }) (after_tag E s c (refusal E s c) refl)
      (unfold after in session_by_lem c (refusal E s c) refl r)
