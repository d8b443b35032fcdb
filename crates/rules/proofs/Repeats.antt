-- Document 02, L1: how a write of a value is answered, and that a copy of a granted one is told as a repeat.
use Rattle.std.specs.Prelude.{None, Option, Some}
use Prim.Native.Nat.{ℕ, zero, suc, ◌-◌, ◌/◌, ◌%◌, ◌≤◌, ◌<◌}
use mathlib.Core.Path.{◌≡◌, refl, sym, ap, subst, ◌∙◌}
use mathlib.Core.Logic.{◌≢◌, ◌⊎◌, inl, inr}
use mathlib.Core.Bool.{Bool, true, false, ◌&&◌, not}
use mathlib.Core.List.{List}
use native.Mathlib.Omega.{arith}
use lib.ListN.{length}
use lib.Dec.{eqb}
use borrow.Author.Tests.{eqb-true, eq-eqb, not-false}
use Rattle.rules.specs.declared.Model.{Model}
use Rattle.rules.specs.declared.Model.TheVariants.{Default, WriteOnce, Counter, Receiver, SharedKey}
use Rattle.rules.specs.declared.Register.{Register}
use Rattle.rules.specs.declared.Register.TheVariants.{Read, Write, Edit, Name, Id, Commit, Pa}
use Rattle.rules.specs.declared.Place.{Place}
use Rattle.rules.specs.declared.Place.TheVariants.{Header, Hidden, RegisterOf, Pins, Readers, UnitOf, Spare, Segment, Public}
use Rattle.rules.specs.Bytes.{number, part}
use Rattle.rules.specs.Map.{sound, segments, segment_at, slot_at, place_of}
use Rattle.rules.specs.Units.{unit_bytes, unit_of, model_of, model_fits, well_formed}
use Rattle.rules.specs.State.{Cipher, State}
use Rattle.rules.specs.Refusals.{lowest, value_checks, slot_checks, segment_write_checks, header_write_checks, edit_checks, register_checks, block_checks, response_checks, name_checks, commit_checks, write_checks}
use Rattle.rules.specs.Command.{Command, read, write, advance, insert, power_up, refusal, checks, in_place, after}
use Rattle.rules.specs.Run.{final}
use Rattle.rules.specs.Demand3.{slot, value_at, CounterSegment, LockedCounter}
use Rattle.rules.specs.Claims.{Applies, Holds, MayWrite}
use Rattle.rules.specs.Repeats.{ValuePlace, in_slot, in_header, RepeatTold, NeverBoth, CopyTold}
use Rattle.rules.proofs.Tests.{true_false, some_none, same_some, and_true, gives, leaves, given_later, given_applies, has, not_there}
use Rattle.rules.proofs.Values.{value_next, value_repeated, value_other, value_unshaped, value_told, value_never_both, slot_cases}
use Rattle.rules.proofs.Places.{place_holds, placed, header_holds, segment_holds, controlled}
use Rattle.rules.proofs.Grants.{in_place_lem, refused_reply, done_granted, judged_there}
use Rattle.rules.proofs.Rights.{may_write, write_held}
use Rattle.rules.proofs.HostUnits.{modelled_fits}
use Rattle.rules.proofs.Lawful.{sound_stays}
use Rattle.rules.proofs.Slots.{locked_stays, written_value}
use Rattle.rules.proofs.Counting.{final-sound, final-segments, final_locked, counting_holds}
use Rattle.rules.proofs.Refused.{applies_among}

-- ---- the rights to write a counter segment

-- model 2 is well formed only with RD and WR set
counter_fits : (m g : ℕ) (rd wr : Bool) → model_fits m g rd wr ≡ true → model_of m g ≡ Counter → wr ≡ true
unfolding model_fits model_of
counter_fits zero g rd wr e f = let z : ◌≡◌ {A = ℕ} 0 1 = cc in absurd (omega arith)
counter_fits (suc zero) g rd wr e f = let z : ◌≡◌ {A = ℕ} 0 1 = cc in absurd (omega arith)
counter_fits (suc (suc zero)) g rd wr e f = (and_true (eqb g 0 && rd) wr e).1
counter_fits (suc (suc (suc zero))) g rd wr e f = let z : ◌≡◌ {A = ℕ} 0 1 = cc in absurd (omega arith)
counter_fits (suc (suc (suc (suc n)))) g rd wr e f = let z : ◌≡◌ {A = ℕ} 0 1 = cc in absurd (omega arith)

not_default : Default ≢ Counter
not_default e = let z : ◌≡◌ {A = ℕ} 0 1 = cc in absurd (omega arith)

writable : (u : List ℕ) → well_formed u ≡ true → (unit_of u).model ≡ Counter → (unit_of u).wr ≡ true
writable u e f = let x = modelled_fits u Counter e f not_default in counter_fits _ _ _ _ x.1 x.2

-- ---- a write with the rights is judged by its shape and value alone

counter_checks : (m : Model) (o : ℕ) (old bs : List ℕ) → m ≡ Counter
    → slot_checks m o old bs ≡ value_checks (eqb (o % 8) 0 && eqb (length bs) 8) old bs
unfolding slot_checks
counter_checks m o old bs e = rw e

both : (x m y n : ℕ) → x ≡ m → y ≡ n → (eqb x m && eqb y n) ≡ true
both x m y n e f = rw (eq-eqb x m e, eq-eqb y n f)

-- and back
not_both : (x m y n : ℕ) → (x ≡ m → y ≡ n → ⊥) → (eqb x m && eqb y n) ≡ false
not_both x m y n other = by (eqb x m && eqb y n) refl
  where
    by : (b : Bool) → (eqb x m && eqb y n) ≡ b → b ≡ false
    by true e = let z = and_true (eqb x m) (eqb y n) e in absurd (other (eqb-true x m z.0) (eqb-true y n z.1))
    by false e = refl

module _ (E : Cipher) (s : State) (a : ℕ) (bs : List ℕ) where
  abbrev t : List ℕ
  t = s.tag

  abbrev offset : ℕ → ℕ
  offset k = a - segment_at (segments t) k

  -- what stands where it is to be written, by its length and as eight bytes
  eight_there : length bs ≡ 8 → part a (length bs) t ≡ part a 8 t
  eight_there n = ap (λ m. part a m t) n

  slot-judged : (k : ℕ) → sound t ≡ true → CounterSegment t k → MayWrite s.session (unit_bytes t k)
      → Holds t (Segment k) a (length bs) → 1 ≤ length bs
      → refusal E s (write a bs)
      ≡ lowest (value_checks (eqb (offset k % 8) 0 && eqb (length bs) 8) (part a (length bs) t) bs)
  unfolding write_checks segment_write_checks
  slot-judged k w cs m h l =
      let f = placed t (Segment k) a (length bs) w h in
      let x = may_write s.session (unit_bytes t k) m in
      judged_there E s (Segment k) a bs w l (omega arith) h
      ∙ leaves _ _ _ (ap not cs.formed) ∙ leaves _ _ _ (ap not (writable (unit_bytes t k) cs.formed cs.counts))
      ∙ leaves _ _ _ x.0 ∙ leaves _ _ _ x.1
      ∙ ap lowest (counter_checks _ (offset k) (part a (length bs) t) bs cs.counts)

  judged_by_value : sound t ≡ true → ValuePlace s a → length bs ≡ 8
      → refusal E s (write a bs) ≡ lowest (value_checks true (part a 8 t) bs)
  unfolding write_checks header_write_checks
  judged_by_value w (in_slot k j cs l m e) n =
      slot-judged k w cs m
      (segment_holds t k a (length bs) (Segment k) (controlled cs.there) (omega arith) (omega arith)) (omega arith)
      ∙ ap (λ b. lowest (value_checks b (part a (length bs) t) bs)) (both (offset k % 8) 0 (length bs) 8 (omega arith) n)
      ∙ ap (λ old. lowest (value_checks true old bs)) (eight_there n)
  judged_by_value w (in_header e) n =
      judged_there E s Header a bs w (omega arith) (omega arith) (header_holds t a (length bs) (omega arith))
      ∙ leaves _ _ _ (ap not (both a 4 (length bs) 8 e n))
      ∙ ap (λ x. lowest (value_checks true (part x 8 t) bs)) (sym e)

  shape_refused : (k : ℕ) → sound t ≡ true → CounterSegment t k → MayWrite s.session (unit_bytes t k)
      → place_of t a (length bs) ≡ Some (Segment k) → 1 ≤ length bs → (ValuePlace s a → length bs ≢ 8)
      → refusal E s (write a bs) ≡ Some 12
  shape_refused k w cs m p l other =
      let h = place_holds t (Segment k) a (length bs) p in
      let f = placed t (Segment k) a (length bs) w h in
      slot-judged k w cs m h l
      ∙ value_unshaped _ _ bs
      (not_both (offset k % 8) 0 (length bs) 8
      (λ e n. other (in_slot k (offset k / 8) cs (omega arith) m (omega arith)) n))

  header_refused : sound t ≡ true → place_of t a (length bs) ≡ Some Header → 1 ≤ length bs → (a ≡ 4 → length bs ≢ 8)
      → refusal E s (write a bs) ≡ Some 4
  unfolding write_checks header_write_checks
  header_refused w p l other =
      let h = place_holds t Header a (length bs) p in
      let f = placed t Header a (length bs) w h in
      judged_there E s Header a bs w l (omega arith) h ∙ gives _ _ _ (ap not (not_both a 4 (length bs) 8 other))

  -- ---- an 18 is given nowhere else

  abbrev Told : Type 0
  Told = ValuePlace s a × (length bs ≡ 8) × (number bs ≡ value_at a t)

  header_told : lowest (write_checks E s Header a bs) ≡ Some 18 → Told
  unfolding write_checks header_write_checks
  header_told e =
      let c4 = given_later _ _ _ 18 (omega arith) e in
      let x = and_true _ _ (not-false _ c4.0) in
      let v = value_told true (part 4 8 t) bs c4.1 in
      let f : a ≡ 4 = eqb-true _ _ x.0 in
      (in_header f, eqb-true _ _ x.1, v.1 ∙ ap (λ y. number (part y 8 t)) (sym f))

  slot_told : (m : Model) (o : ℕ) (old : List ℕ) → lowest (slot_checks m o old bs) ≡ Some 18
      → (m ≡ Counter) × (o % 8 ≡ 0) × (length bs ≡ 8) × (number bs ≡ number old)
  unfolding slot_checks lowest
  slot_told Default o old e = some_none (sym e)
  slot_told WriteOnce o old e = some_none (sym e)
  slot_told Counter o old e =
      let v = value_told (eqb (o % 8) 0 && eqb (length bs) 8) old bs e in
      let x = and_true _ _ v.0 in
      (refl, eqb-true _ _ x.0, eqb-true _ _ x.1, v.1)
  slot_told (Receiver g) o old e = some_none (sym e)
  slot_told (SharedKey g) o old e = some_none (sym e)

  segment_told : (k : ℕ) → sound t ≡ true → Holds t (Segment k) a (length bs)
      → lowest (write_checks E s (Segment k) a bs) ≡ Some 18 → Told
  unfolding write_checks segment_write_checks
  segment_told k w h e =
      let f = placed t (Segment k) a (length bs) w h in
      let c5 = given_later _ _ _ 18 (omega arith) e in
      let c6 = given_later _ _ _ 18 (omega arith) c5.1 in
      let c7 = given_later _ _ _ 18 (omega arith) c6.1 in
      let c8 = given_later _ _ _ 18 (omega arith) c7.1 in
      let x = slot_told (unit_of (unit_bytes t k)).model (a - segment_at (segments t) k) (part a (length bs) t) c8.1 in (
        in_slot k ((a - segment_at (segments t) k) / 8)
            (record { there = f.0; formed = not-false _ c5.0; counts = x.0 }) (omega arith)
            (write_held s.session (unit_bytes t k) c7.0 c8.0) (omega arith),
        x.2,
        x.3 ∙ ap number (eight_there x.2),
      )

  register_lacks_18 : (r : Register) → has 18 (register_checks E s r bs) ≡ false
  unfolding register_checks block_checks response_checks name_checks commit_checks
  register_lacks_18 Read = refl
  register_lacks_18 Write = refl
  register_lacks_18 Edit = refl
  register_lacks_18 Name = refl
  register_lacks_18 Id = refl
  register_lacks_18 Commit = refl
  register_lacks_18 Pa = refl

  -- 18 speaks of the header and of segments alone
  pub value_place : (p : Place) → Applies 18 (write_checks E s p a bs) → (p ≡ Header) ⊎ ((k : ℕ) × (p ≡ Segment k))
  unfolding write_checks edit_checks
  value_place Header x = inl refl
  value_place Hidden x = absurd (not_there 18 (write_checks E s Hidden a bs) refl x)
  value_place (RegisterOf r) x = absurd (not_there 18 (register_checks E s r bs) (register_lacks_18 r) x)
  value_place Pins x = absurd (not_there 18 (write_checks E s Pins a bs) refl x)
  value_place Readers x = absurd (not_there 18 (write_checks E s Readers a bs) refl x)
  value_place (UnitOf k) x = absurd (not_there 18 (write_checks E s (UnitOf k) a bs) refl x)
  value_place Spare x = absurd (not_there 18 (write_checks E s Spare a bs) refl x)
  value_place (Segment k) x = inr (k, refl)
  value_place (Public k) x = absurd x

  told_in : (p : Place) → (p ≡ Header) ⊎ ((k : ℕ) × (p ≡ Segment k)) → sound t ≡ true → Holds t p a (length bs)
      → lowest (write_checks E s p a bs) ≡ Some 18 → Told
  told_in p (inl q) w h e = header_told (subst (λ r. lowest (write_checks E s r a bs) ≡ Some 18) q e)
  told_in p (inr q) w h e =
      segment_told q.0 w (subst (λ r. Holds t r a (length bs)) q.1 h)
      (subst (λ r. lowest (write_checks E s r a bs) ≡ Some 18) q.1 e)

  told_only : refusal E s (write a bs) ≡ Some 18 → Told
  unfolding refusal checks
  told_only e =
      let c1 = given_later _ _ _ 18 (omega arith) e in
      let c2 = given_later _ _ _ 18 (omega arith) c1.1 in
      let c3 = given_later _ _ _ 18 (omega arith) c2.1 in
      let x = in_place_lem _ _ (Some 18) (λ f. let n : ◌≡◌ {A = ℕ} 3 18 = same_some f in absurd (omega arith)) c3.1 in
      told_in x.0 (value_place x.0 (given_applies 18 _ x.2)) (not-false _ c1.0)
      (place_holds t x.0 a (length bs) x.1) x.2

  pub repeat_told : sound t ≡ true → RepeatTold E s a bs
  repeat_told w =
      record {
        next_granted = λ p n e. judged_by_value w p n ∙ value_next (part a 8 t) bs e;
        repeat_told = λ p n e. judged_by_value w p n ∙ value_repeated (part a 8 t) bs e;
        rest_refused = λ p n e f. judged_by_value w p n ∙ value_other (part a 8 t) bs e f;
        shape_refused = λ k cs m p l other. shape_refused k w cs m p l other;
        header_refused = header_refused w;
        told_only = told_only;
      }

-- ---- 12 and 18 never apply together

slot-never-both : (m : Model) (o : ℕ) (old bs : List ℕ) → Applies 12 (slot_checks m o old bs)
    → Applies 18 (slot_checks m o old bs) → ⊥
slot-never-both m o old bs =
    slot_cases (λ cs. Applies 12 cs → Applies 18 cs → ⊥) o old bs (λ x y. x) (value_never_both _ old bs) m

module _ (E : Cipher) (s : State) (a : ℕ) (bs : List ℕ) where
  header_never_both : Applies 12 (write_checks E s Header a bs) → Applies 18 (write_checks E s Header a bs) → ⊥
  unfolding write_checks header_write_checks
  header_never_both (inl x) y = absurd (omega (arith, x.0))
  header_never_both (inr x) (inl y) = absurd (omega (arith, y.0))
  header_never_both (inr x) (inr y) = value_never_both true (part 4 8 s.tag) bs x y

  -- behind the rights
  by-slot : (k m : ℕ) → 8 < m → Applies m (write_checks E s (Segment k) a bs)
      → Applies m (slot_checks (unit_of (unit_bytes s.tag k)).model (a - segment_at (segments s.tag) k)
      (part a (length bs) s.tag) bs)
  unfolding write_checks segment_write_checks
  by-slot k m l (inl x) = absurd (omega (arith, l, x.0))
  by-slot k m l (inr (inl x)) = absurd (omega (arith, l, x.0))
  by-slot k m l (inr (inr (inl x))) = absurd (omega (arith, l, x.0))
  by-slot k m l (inr (inr (inr (inl x)))) = absurd (omega (arith, l, x.0))
  by-slot k m l (inr (inr (inr (inr x)))) = x

  segment_never_both : (k : ℕ) → Applies 12 (write_checks E s (Segment k) a bs)
      → Applies 18 (write_checks E s (Segment k) a bs) → ⊥
  segment_never_both k x y =
      slot-never-both (unit_of (unit_bytes s.tag k)).model (a - segment_at (segments s.tag) k)
      (part a (length bs) s.tag) bs (by-slot k 12 (omega arith) x) (by-slot k 18 (omega arith) y)

  in_place_never_both : (q : Option Place) → Applies 12 (in_place q (λ p. write_checks E s p a bs))
      → Applies 18 (in_place q (λ p. write_checks E s p a bs)) → ⊥
  unfolding in_place
  in_place_never_both None (inl x) y = absurd (omega (arith, x.0))
  in_place_never_both None (inr x) y = x
  in_place_never_both (Some p) x y = by (value_place E s a bs p y)
    where
      by : (p ≡ Header) ⊎ ((k : ℕ) × (p ≡ Segment k)) → ⊥
      by (inl q) =
          header_never_both (subst (λ r. Applies 12 (write_checks E s r a bs)) q x)
          (subst (λ r. Applies 18 (write_checks E s r a bs)) q y)
      by (inr q) =
          segment_never_both q.0 (subst (λ r. Applies 12 (write_checks E s r a bs)) q.1 x)
          (subst (λ r. Applies 18 (write_checks E s r a bs)) q.1 y)

  -- behind the soundness and the count
  by_place : (m : ℕ) → 2 < m → Applies m (checks E s (write a bs))
      → Applies m (in_place (place_of s.tag a (length bs)) (λ p. write_checks E s p a bs))
  unfolding checks
  by_place m l (inl x) = absurd (omega (arith, l, x.0))
  by_place m l (inr (inl x)) = absurd (omega (arith, l, x.0))
  by_place m l (inr (inr (inl x))) = absurd (omega (arith, l, x.0))
  by_place m l (inr (inr (inr x))) = x

pub never_both : (E : Cipher) (s : State) (c : Command) → NeverBoth E s c
never_both E s (read a n room) x y = true_false (sym (applies_among E s (read a n room) 18 y))
never_both E s (write a bs) x y =
    in_place_never_both E s a bs (place_of s.tag a (length bs)) (by_place E s a bs 12 (omega arith) x)
    (by_place E s a bs 18 (omega arith) y)
never_both E s (advance k) x y = true_false (sym (applies_among E s (advance k) 18 y))
never_both E s (insert k id) x y = true_false (sym (applies_among E s (insert k id) 18 y))
never_both E s power_up x y = true_false (sym (applies_among E s power_up 18 y))

-- ---- a copy of a granted write

pub copy_told : (E : Cipher) (s : State) (k j : ℕ) (bs : List ℕ) (cs : List Command) → sound s.tag ≡ true
    → LockedCounter s.tag k → j < 512 → length bs ≡ 8 → CopyTold E s k j bs cs
copy_told E s k j bs cs w lc l n d g m =
    let x = slot s.tag k j in
    let s1 = after E s (write x bs) in
    let s2 = final E s1 cs in
    let step = sound_stays E s (write x bs) w in
    let w1 = step.stays_sound in
    let lc1 = locked_stays E s k (write x bs) w lc in
    let moved = counting_holds E s1 cs k j x w1 lc1 l (ap (λ A. slot_at A k j) (sym step.same_segments)) in
    let kept : number bs ≡ value_at x s2.tag =
    omega (arith, moved, g, written_value E s k w lc.counter j bs l n (done_granted E s (write x bs) d)) in
    let there : x ≡ slot s2.tag k j =
    ap (λ A. slot_at A k j) (sym (final-segments E s1 cs w1 ∙ step.same_segments)) in
    refused_reply E s2 (write x bs) 18
    ((repeat_told E s2 x bs (final-sound E s1 cs w1)).repeat_told
    (in_slot k j (final_locked E s1 cs k w1 lc1).counter l m there) n kept)
