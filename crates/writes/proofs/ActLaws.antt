-- A write that is carried out leaves the tag and the session that the rules say. Assumes nothing.
use Rattle.std.specs.Prelude.{None, Some, Ok, Err}
use Prim.Native.Nat.{ℕ, ◌+◌, ◌≤◌, ◌<◌}
use mathlib.Core.Path.{◌≡◌, refl, sym, ap, ◌∙◌, subst}
use mathlib.Core.Logic.{◌≢◌, ◌⊎◌, inl, inr}
use mathlib.Core.Bool.{true}
use mathlib.Core.List.{List, [], ◌∷◌}
use native.Mathlib.Omega.{arith}
use lib.ListN.{length}
use borrow.Author.Tests.{not-false, eqb-true, leb-true}
use Rattle.rules.specs.declared.Session.{Session}
use Rattle.rules.specs.declared.Stage.TheVariants.{Zero, One, Two}
use Rattle.rules.specs.declared.Model.{Model}
use Rattle.rules.specs.declared.Model.TheVariants.{Default, WriteOnce, Counter, Receiver, SharedKey}
use Rattle.rules.specs.declared.Register.{Register}
use Rattle.rules.specs.declared.Register.TheVariants.{Name, Commit}
use Rattle.rules.specs.declared.Place.{Place}
use Rattle.rules.specs.declared.Place.TheVariants.{Header, Hidden, RegisterOf, Pins, Readers, UnitOf, Spare, Segment, Public}
use Rattle.rules.specs.declared.Refusal.{Refusal}
use Rattle.rules.specs.declared.Refusal.TheVariants as refusal
use Rattle.rules.specs.Bytes.{part}
use Rattle.rules.specs.Map.{sound, place_of, unit_at}
use Rattle.rules.specs.Units.{unit_bytes}
use Rattle.rules.specs.State.{State, state, pin_index, owner_index}
use Rattle.rules.specs.Answers.{number_of}
use Rattle.rules.specs.Refusals.{lowest, write_checks, register_checks, block_checks, name_checks, commit_checks}
use Rattle.rules.specs.Effects.{Store, ◌↤◌, apply, stored, write_move, register_stores, register_session, write_stores, write_session, refusal_stores}
use Rattle.rules.specs.Command.{write, refusal as refused-by, checks, after, after_by, new_session, session_in}
use Rattle.rules.proofs.Tests.{some_none, passes, same_ok}
use Rattle.rules.proofs.Places.{the_map}
use Rattle.rules.proofs.MapLaws.{sound_long}
use Rattle.rules.proofs.Refused.{eleven_or_none}
use Rattle.rules.proofs.Grants.{granted_write, stores_write, commit_facts}
use Rattle.units.proofs.Laws.{unit_byte}
use Rattle.octets.proofs.Laws.{xor_swap, length_lent}
use Rattle.writes.specs.declared.judging.Act.{Act}
use Rattle.writes.specs.declared.judging.Act.TheVariants as act
use Rattle.xxtea.specs.Block.{E}
use Rattle.writes.specs.Verdict.{WriteJudged, act_of, act_in, act_at, stores_by, Fits}
use Rattle.registers.specs.Registers.{Taken}
use Rattle.layout.proofs.Laws.{unit_found, segment_found}

clash : {A : Type 0} → ◌≡◌ {A = ℕ} 0 1 → A
clash e = absurd (omega arith)

-- a granted write's stores, those of a register too, and its session
unfoldable pub made_by : Act → State → ℕ → List ℕ → List Store
made_by act.Store s a bs = stores_by act.Store s.tag a bs
made_by act.Xor s a bs = stores_by act.Xor s.tag a bs
made_by (act.StoreOnce k) s a bs = stores_by (act.StoreOnce k) s.tag a bs
made_by (act.Edit k) s a bs = stores_by (act.Edit k) s.tag a bs
made_by act.NextCount s a bs = stores_by act.NextCount s.tag a bs
made_by (act.Take r) s a bs = register_stores E s r bs

unfoldable pub session_by : Act → State → List ℕ → Session
session_by act.Store s bs = s.session
session_by act.Xor s bs = s.session
session_by (act.StoreOnce k) s bs = s.session
session_by (act.Edit k) s bs = s.session
session_by act.NextCount s bs = s.session
session_by (act.Take r) s bs = register_session E s r bs

-- where it is no register's write, these are the stores of `stores_by`, and the session stays
pub not_taken : (v : Act) (s : State) (a : ℕ) (bs : List ℕ) → ((r : Register) → v ≢ act.Take r)
    → (made_by v s a bs ≡ stores_by v s.tag a bs) × (session_by v s bs ≡ s.session)
unfolding made_by session_by
not_taken act.Store s a bs n = (refl, refl)
not_taken act.Xor s a bs n = (refl, refl)
not_taken (act.StoreOnce k) s a bs n = (refl, refl)
not_taken (act.Edit k) s a bs n = (refl, refl)
not_taken act.NextCount s a bs n = (refl, refl)
not_taken (act.Take r) s a bs n = absurd (n r refl)

-- ---- a refusal that changes nothing

pub quiet : (r : Refusal) → r ≢ refusal.WrongResponse → refusal_stores (number_of r) ≡ []
quiet r n = by (eleven_or_none r)
  where
    by : (r ≡ refusal.WrongResponse) ⊎ (refusal_stores (number_of r) ≡ []) → refusal_stores (number_of r) ≡ []
    by (inl e) = absurd (n e)
    by (inr e) = e

-- ---- what a granted write stores in its place is what the rules say

module _ (s : State) (a : ℕ) (bs : List ℕ) where
  segment_stores : (k : ℕ) (m : Model) → a + length bs ≤ length s.tag
      → made_by (act_of k m) s a bs
      ≡ ((a ↤ stored m (part a (length bs) s.tag) bs) ∷ write_move m (unit_at k) (unit_bytes s.tag k))
  unfolding made_by act_of stores_by stored write_move
  segment_stores k Default l = refl
  segment_stores k WriteOnce l = rw (unit_byte s.tag k)
  segment_stores k Counter l = refl
  segment_stores k (Receiver Zero) l = refl
  segment_stores k (Receiver One) l =
      ap (λ xs. (a ↤ xs) ∷ []) (xor_swap (part a (length bs) s.tag) bs (length_lent a (length bs) s.tag l))
  segment_stores k (Receiver Two) l = refl
  segment_stores k (SharedKey g) l = refl

  kept : (k : ℕ) (m : Model) → session_by (act_of k m) s bs ≡ s.session
  unfolding session_by act_of
  kept k Default = refl
  kept k WriteOnce = refl
  kept k Counter = refl
  kept k (Receiver Zero) = refl
  kept k (Receiver One) = refl
  kept k (Receiver Two) = refl
  kept k (SharedKey g) = refl

  granted_in : (p : Place) → sound s.tag ≡ true → place_of s.tag a (length bs) ≡ Some p
      → lowest (write_checks E s p a bs) ≡ None
      → (made_by (act_in s.tag p) s a bs ≡ write_stores E s p a bs)
      × (session_by (act_in s.tag p) s bs ≡ write_session E s p bs)
  unfolding act_in made_by session_by stores_by write_stores write_session write_checks lowest
  granted_in Header w e f = (refl, refl)
  granted_in Hidden w e f = some_none f
  granted_in (RegisterOf r) w e f = (refl, refl)
  granted_in Pins w e f = some_none f
  granted_in Readers w e f = some_none f
  granted_in (UnitOf k) w e f = (refl, refl)
  granted_in Spare w e f = some_none f
  granted_in (Segment k) w e f =
      (segment_stores k _ ((the_map s.tag w).in_tag (Segment k) a (length bs) e), kept k _)
  granted_in (Public k) w e f = (refl, refl)

  -- ---- the state after a write

  pub refused_left : (r : Refusal) → WriteJudged s a bs (Err r)
      → state (apply (refusal_stores (number_of r)) s.tag) s.session ≡ after E s (write a bs)
  unfolding refused-by after after_by
  refused_left r j = rw (← j.number)

  pub left : (v : Act) → sound s.tag ≡ true → WriteJudged s a bs (Ok v)
      → state (apply (made_by v s a bs) s.tag) (session_by v s bs) ≡ after E s (write a bs)
  unfolding refused-by after after_by new_session session_in
  left v w j =
      let e = sym j.number in
      let g = granted_write E s a bs e in
      let x = granted_in g.place w g.found g.free in
      let is : v ≡ act_in s.tag g.place = same_ok (j.granted e) ∙ ap (act_at s.tag) g.found in
      let after_granted : after_by (lowest (checks E s (write a bs))) E s (write a bs) ≡ after_by None E s (write a bs) = ap (λ o. after_by o E s (write a bs)) e in
      rw (is, x.0, x.1) ((rw (stores_write E s a bs g.place g.found, g.found)) ∙ sym after_granted)

  -- ---- what a granted write may be carried out on

  fit_segment : (k : ℕ) (m : Model) → a + length bs ≤ length s.tag → unit_at k < length s.tag
      → Fits s.tag a bs (act_of k m)
  unfolding act_of
  fit_segment k Default l h = l
  fit_segment k WriteOnce l h = (l, h)
  fit_segment k Counter l h = l
  fit_segment k (Receiver Zero) l h = l
  fit_segment k (Receiver One) l h = l
  fit_segment k (Receiver Two) l h = l
  fit_segment k (SharedKey g) l h = l

  fit_in : (p : Place) → sound s.tag ≡ true → place_of s.tag a (length bs) ≡ Some p
      → Fits s.tag a bs (act_in s.tag p)
  unfolding act_in
  fit_in p w e = by p e ((the_map s.tag w).in_tag p a (length bs) e)
    where
      by : (p : Place) → place_of s.tag a (length bs) ≡ Some p → a + length bs ≤ length s.tag
          → Fits s.tag a bs (act_in s.tag p)
      by Header e l = l
      by Hidden e l = l
      by (RegisterOf r) e l = tt
      by Pins e l = l
      by Readers e l = l
      by (UnitOf k) e l =
          let x = unit_found s.tag (UnitOf k) k a (length bs) w e refl in (x.1, x.2, x.0.inside)
      by Spare e l = l
      by (Segment k) e l =
          let x = segment_found s.tag (Segment k) k a (length bs) w e refl in
          fit_segment k _ l (omega arith)
      by (Public k) e l = l

  pub fit : (v : Act) → sound s.tag ≡ true → WriteJudged s a bs (Ok v) → Fits s.tag a bs v
  unfolding refused-by
  fit v w j =
      let e = sym j.number in
      let g = granted_write E s a bs e in
      let is : v ≡ act_in s.tag g.place = same_ok (j.granted e) ∙ ap (act_at s.tag) g.found in
      subst (Fits s.tag a bs) (sym is) (fit_in g.place w g.found)

  -- ---- a register's write has passed the register's checks

  segment_takes_not : (k : ℕ) (m : Model) (r : Register) → act_of k m ≡ act.Take r → ⊥
  unfolding act_of
  segment_takes_not k Default r e = clash (cc)
  segment_takes_not k WriteOnce r e = clash (cc)
  segment_takes_not k Counter r e = clash (cc)
  segment_takes_not k (Receiver Zero) r e = clash (cc)
  segment_takes_not k (Receiver One) r e = clash (cc)
  segment_takes_not k (Receiver Two) r e = clash (cc)
  segment_takes_not k (SharedKey g) r e = clash (cc)

  register_taken : (p : Place) (r : Register) → act_in s.tag p ≡ act.Take r → p ≡ RegisterOf r
  unfolding act_in
  register_taken Header r e = clash (cc)
  register_taken Hidden r e = clash (cc)
  register_taken (RegisterOf q) r e = cc
  register_taken Pins r e = clash (cc)
  register_taken Readers r e = clash (cc)
  register_taken (UnitOf k) r e = clash (cc)
  register_taken Spare r e = clash (cc)
  register_taken (Segment k) r e = absurd (segment_takes_not k _ r e)
  register_taken (Public k) r e = clash (cc)

  Passed : Register → Type 0
  Passed r = lowest (register_checks E s r bs) ≡ None

  whole : (r : Register) → Passed r → length bs ≡ 16
  unfolding Passed register_checks
  whole r e = eqb-true _ _ (not-false _ (passes _ _ _ e).0)

  named : Passed Name → pin_index s.session ≤ 255
  unfolding Passed register_checks block_checks name_checks
  named e = leb-true _ _ (not-false _ (passes _ _ _ (passes _ _ _ e).1).0)

  owned : Passed Commit → owner_index s.session ≤ 3
  unfolding Passed register_checks block_checks commit_checks
  owned e =
      let c1 = passes _ _ _ (passes _ _ _ e).1 in
      let c2 = passes _ _ _ c1.1 in
      leb-true _ _ (not-false _ (passes _ _ _ c2.1).0)

  pinned : (r : Register) → Passed r → (r ≡ Name) ⊎ (r ≡ Commit) → pin_index s.session ≤ 255
  unfolding Passed
  pinned r e (inl q) = named (subst Passed q e)
  pinned r e (inr q) = (commit_facts E s bs (subst Passed q e)).2

  pub taken : (r : Register) → sound s.tag ≡ true
      → WriteJudged s a bs (Ok (act.Take r))
      → Taken s.tag s.session r bs
  unfolding refused-by write_checks Passed
  taken r w j =
      let e = sym j.number in
      let g = granted_write E s a bs e in
      let is = sym (same_ok (j.granted e) ∙ ap (act_at s.tag) g.found) in
      let p = register_taken g.place r is in
      let e = subst (λ q. lowest (write_checks E s q a bs) ≡ None) p g.free in
      let l = sound_long s.tag w in
      record {
        long = omega arith;
        whole = whole r e;
        pinned = pinned r e;
        owned = λ q. owned (subst Passed q e);
      }
