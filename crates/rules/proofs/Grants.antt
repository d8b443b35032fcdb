-- What a grant says: none of the checks of its place applies.
use Rattle.std.specs.Prelude.{None, Option, Some}
use Prim.Native.Nat.{ℕ, ◌+◌, ◌%◌, ◌≤◌, ◌<◌}
use mathlib.Core.Path.{◌≡◌, refl, sym, ap, ◌∙◌}
use mathlib.Core.Logic.{◌≢◌}
use mathlib.Core.Bool.{true, ◌&&◌, not}
use mathlib.Core.List.{List}
use native.Mathlib.Omega.{arith}
use lib.ListN.{length}
use lib.Dec.{eqb}
use borrow.Author.Tests.{leb-true, ltb-true, eqb-true, eqb-false, ne_eqb, le-ltb, not-false}
use Rattle.rules.specs.declared.Model.TheVariants.{Counter}
use Rattle.rules.specs.declared.Register.TheVariants.{Commit}
use Rattle.rules.specs.declared.Place.{Place}
use Rattle.rules.specs.declared.Place.TheVariants.{Header, UnitOf}
use Rattle.rules.specs.Bytes.{number}
use Rattle.rules.specs.Map.{sound, place_of, segments}
use Rattle.rules.specs.Units.{unit_of, unit_bytes}
use Rattle.rules.specs.State.{Cipher, State, pin_index}
use Rattle.rules.specs.Refusals.{lowest, write_checks, Checks, header_write_checks, register_checks, block_checks, commit_checks, segment_write_checks, value_checks, slot_checks, edit_checks, can_advance, advance_checks}
use Rattle.rules.specs.Effects.{Store, refusal_stores, apply, write_stores}
use Rattle.rules.specs.Command.{Command, stores, refusal, after, after_by, reply, reply_by, refused, done, write, in_place, checks, stores_in, advance}
use Rattle.rules.specs.Claims.{Holds}
use Rattle.rules.proofs.Tests.{some_none, passes, leaves, and_true, true_false}
use Rattle.rules.proofs.Values.{value_granted}
use Rattle.rules.proofs.MapLaws.{sound-facts}
use Rattle.rules.proofs.Places.{place_found}

-- the stores that a command makes, refused or not
unfoldable pub made_by : Option ℕ → Cipher → State → Command → List Store
made_by None E s c = stores E s c
made_by (Some n) E s c = refusal_stores n

pub after_tag : (E : Cipher) (s : State) (c : Command) (r : Option ℕ) → refusal E s c ≡ r
    → (after E s c).tag ≡ apply (made_by r E s c) s.tag
unfolding after after_by made_by
after_tag E s c r e = rw e (by r)
  where
    by : (r : Option ℕ) → (after_by r E s c).tag ≡ apply (made_by r E s c) s.tag
    by None = refl
    by (Some n) = refl

pub reply_is : (E : Cipher) (s : State) (c : Command) (r : Option ℕ) → refusal E s c ≡ r → reply E s c ≡ reply_by r s c
unfolding reply
reply_is E s c r e = rw e

pub refused_reply : (E : Cipher) (s : State) (c : Command) (n : ℕ) → refusal E s c ≡ Some n → reply E s c ≡ refused n
unfolding reply_by
refused_reply E s c n e = reply_is E s c (Some n) e

-- a command that is done was refused by nothing
pub done_granted : (E : Cipher) (s : State) (c : Command) → reply E s c ≡ done → refusal E s c ≡ None
done_granted E s c d = by (refusal E s c) refl
  where
    by : (r : Option ℕ) → refusal E s c ≡ r → refusal E s c ≡ None
    by None e = e
    by (Some m) e =
        let f : refused m ≡ done = sym (refused_reply E s c m e) ∙ d in
        let z : ◌≡◌ {A = ℕ} 0 1 = cc in absurd (omega arith)

-- ---- a granted write: its place, and that no check of the place applies

pub record Granted (E : Cipher) (s : State) (a : ℕ) (bs : List ℕ) : Type 0 where
  pub place : Place
  pub found : place_of s.tag a (length bs) ≡ Some place
  pub free : lowest (write_checks E s place a bs) ≡ None
  pub long : 1 ≤ length bs

-- an answer other than 3 is that of a place
pub in_place_lem : (q : Option Place) (f : Place → Checks) (r : Option ℕ) → Some 3 ≢ r → lowest (in_place q f) ≡ r
    → (p : Place) × (q ≡ Some p) × (lowest (f p) ≡ r)
unfolding in_place lowest
in_place_lem None f r d h = absurd (d h)
in_place_lem (Some p) f r d h = (p, refl, h)

-- a write that lies in a place of a sound tag is judged there
pub judged_there : (E : Cipher) (s : State) (p : Place) (a : ℕ) (bs : List ℕ) → sound s.tag ≡ true → 1 ≤ length bs
    → length bs ≤ 4096 → Holds s.tag p a (length bs) → refusal E s (write a bs) ≡ lowest (write_checks E s p a bs)
unfolding refusal checks in_place
judged_there E s p a bs w l m h =
    leaves _ _ _ (ap not w) ∙ leaves _ _ _ (ne_eqb (length bs) 0 (omega arith)) ∙ leaves _ _ _ (le-ltb 4096 (length bs) m)
    ∙ rw (place_found s.tag p a (length bs) (sound-facts s.tag w).most_segments l h)

pub granted_write : (E : Cipher) (s : State) (a : ℕ) (bs : List ℕ) → refusal E s (write a bs) ≡ None → Granted E s a bs
unfolding refusal checks
granted_write E s a bs e =
    let c1 = passes _ _ _ e in
    let c2 = passes _ _ _ c1.1 in
    let c3 = passes _ _ _ c2.1 in
    let x = in_place_lem _ _ None some_none c3.1 in
    let z : length bs ≢ 0 = eqb-false _ _ c2.0 in
    record { place = x.0; found = x.1; free = x.2; long = omega arith }

pub stores_write : (E : Cipher) (s : State) (a : ℕ) (bs : List ℕ) (p : Place) → place_of s.tag a (length bs) ≡ Some p
    → stores E s (write a bs) ≡ write_stores E s p a bs
unfolding stores stores_in
stores_write E s a bs p e = rw e

-- ---- by place

pub header_facts : (E : Cipher) (s : State) (a : ℕ) (bs : List ℕ) → lowest (write_checks E s Header a bs) ≡ None
    → (a ≡ 4) × (length bs ≡ 8)
unfolding write_checks header_write_checks
header_facts E s a bs e =
    let x = and_true _ _ (not-false _ (passes _ _ _ e).0) in (eqb-true _ _ x.0, eqb-true _ _ x.1)

pub commit_facts : (E : Cipher) (s : State) (bs : List ℕ) → lowest (register_checks E s Commit bs) ≡ None
    → (length bs ≡ 16) × (1 ≤ pin_index s.session) × (pin_index s.session ≤ 255)
unfolding register_checks block_checks commit_checks
commit_facts E s bs e =
    let c0 = passes _ _ _ e in
    let c1 = passes _ _ _ c0.1 in
    let c2 = passes _ _ _ c1.1 in
    let z : pin_index s.session ≢ 0 = eqb-false _ _ c2.0 in
    (eqb-true _ _ (not-false _ c0.0), omega arith, leb-true _ _ (not-false _ c1.0))

pub slot-facts : (i : ℕ) (name u : List ℕ) (o : ℕ) (old bs : List ℕ) → (unit_of u).model ≡ Counter
    → lowest (segment_write_checks i name u o old bs) ≡ None → (o % 8 ≡ 0) × (length bs ≡ 8) × (number bs ≡ number old + 1)
unfolding segment_write_checks
slot-facts i name u o old bs h e =
    let c5 = (passes _ _ _ e).1 in
    let c6 = (passes _ _ _ c5).1 in
    let c7 = (passes _ _ _ c6).1 in
    let c8 = (passes _ _ _ c7).1 in
    let m : lowest (value_checks (eqb (o % 8) 0 && eqb (length bs) 8) old bs) ≡ None = unfold slot_checks in (rw h at c8) in
    let v = value_granted _ old bs m in
    let x = and_true _ _ v.0 in
    (eqb-true _ _ x.0, eqb-true _ _ x.1, v.1)

-- no edit of a locked unit is granted
pub edit_refused : (E : Cipher) (s : State) (k a : ℕ) (bs : List ℕ) → (unit_of (unit_bytes s.tag k)).ne ≡ true
    → lowest (write_checks E s (UnitOf k) a bs) ≡ None → ⊥
unfolding write_checks edit_checks
edit_refused E s k a bs h e = true_false (sym h ∙ (passes _ _ _ (passes _ _ _ e).1).0)

-- ---- a granted advance

pub advance_facts : (E : Cipher) (s : State) (k : ℕ) → refusal E s (advance k) ≡ None
    → (k < segments s.tag) × (can_advance (unit_of (unit_bytes s.tag k)).model ≡ true)
unfolding refusal checks advance_checks
advance_facts E s k e =
    let c3 = passes _ _ _ (passes _ _ _ e).1 in
    let c5 = (passes _ _ _ c3.1).1 in
    let c7 = (passes _ _ _ c5).1 in
    let c8 = (passes _ _ _ c7).1 in
    (ltb-true _ _ (not-false _ c3.0), not-false _ (passes _ _ _ c8).0)
