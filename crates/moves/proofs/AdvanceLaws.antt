-- Laws on advances that the judges and the command above them cite. Assumes nothing.
use Rattle.std.specs.Prelude.{None, Some, Result, Ok, Err, IsErrAnd}
use Prim.Native.Nat.{ℕ, ◌+◌, ◌-◌, ◌<◌, ◌≤◌}
use mathlib.Core.Path.{◌≡◌, refl, sym, ap, subst, ◌∙◌}
use mathlib.Core.Logic.{◌≢◌}
use mathlib.Core.Bool.{Bool, true, false, ◌&&◌, not}
use mathlib.Core.List.{List}
use native.Mathlib.Omega.{arith}
use lib.Dec.{eqb}
use borrow.Author.Tests.{le-ltb, lt-ltb}
use borrow.Rule.Slice.PartMut.{put_mid}
use Rattle.rules.specs.declared.Stage.{Stage}
use Rattle.rules.specs.declared.Model.{Model}
use Rattle.rules.specs.declared.Model.TheVariants.{Default, WriteOnce, Counter, Receiver, SharedKey}
use Rattle.rules.specs.declared.Unit.{Unit}
use Rattle.rules.specs.declared.Refusal.{Refusal}
use Rattle.rules.specs.Bytes.{put, same}
use Rattle.rules.specs.Map.{sound, segments, unit_at}
use Rattle.rules.specs.Units.{unit_of, unit_bytes, name_of}
use Rattle.rules.specs.State.{Cipher, State, state}
use Rattle.rules.specs.Answers.{number_of, refusal_of}
use Rattle.rules.specs.Refusals.{Checks, ◌when◌else◌, granted, lowest, advance_checks, can_advance}
use Rattle.rules.specs.Effects.{apply, advance_stores, advanced, advance_move}
use Rattle.rules.specs.Command.{advance, checks, refusal, after, after_by, stores, new_session}
use Rattle.rules.proofs.Tests.{gives, leaves, handed_on, same_ok, ok_err}
use Rattle.rules.proofs.Refused.{not_11, refused_stays}
use Rattle.layout.proofs.Laws.{unit_inside, unit_back}
use Rattle.units.specs.Decoded.{decoded}
use Rattle.units.proofs.Laws.{decoded_whole}
use Rattle.rules.proofs.Lawful.{length-advanced}
use Rattle.units.proofs.FormLaws.{formed}
use Rattle.moves.specs.Moves.{MoveJudged}

-- ---- the verdict on an advance

pub move_refuses : (cs : Checks) (m : Model) (r : Refusal) → lowest cs ≡ Some (number_of r) → MoveJudged cs m (Err r)
move_refuses cs m r e =
    record { number = sym e; granted = λ g f. ok_err (sym f) }

pub moves : (cs : Checks) (m : Model) (g : Stage) → lowest cs ≡ None → m ≡ Receiver g → MoveJudged cs m (Ok g)
moves cs m g e f = record { number = sym e; granted = λ h q. f ∙ ap Receiver (same_ok q) }

-- the lowest refusal, handed on by `?`
pub passed_on : (cs : Checks) (m : Model) (v : Result Stage Refusal) (r : Refusal) → IsErrAnd v (λ q. q ≡ r)
    → Some (number_of r) ≡ lowest cs → MoveJudged cs m v
passed_on cs m v r h e = subst (MoveJudged cs m) (sym (handed_on v r h)) (move_refuses cs m r (sym e))

-- judged by a part of the checks, where the others do not apply
pub move_judged : (cs ds : Checks) (m n : Model) (v : Result Stage Refusal) → lowest ds ≡ lowest cs → n ≡ m → MoveJudged cs m v
    → MoveJudged ds n v
move_judged cs ds m n v e f j =
    record { number = j.number ∙ sym e; granted = λ g q. f ∙ j.granted g q }

pub no_advance : (m : Model) → ((g : Stage) → m ≢ Receiver g) → can_advance m ≡ false
unfolding can_advance
no_advance Default h = refl
no_advance WriteOnce h = refl
no_advance Counter h = refl
no_advance (Receiver g) h = absurd (h g refl)
no_advance (SharedKey g) h = refl

pub advance_by : (i : ℕ) (name u : List ℕ) (x : Unit) (named : Bool) → decoded u ≡ Some x
    → named ≡ same name (name_of u)
    → lowest (advance_checks i name u)
    ≡ lowest (6 when false else 7 when x.wrpin && not (eqb i x.write) else 8 when x.pn && not named else
    14 when not (can_advance x.model) else granted)
unfolding advance_checks
advance_by i name u x named e f =
    formed u x _ e ∙ rw ((decoded_whole u x e).1, f) (sym (leaves 6 false _ refl))

-- ---- advances

module _ (E : Cipher) (s : State) (k : ℕ) where
  pub advance_outside : (m : ℕ) → sound s.tag ≡ true → m ≡ segments s.tag → m ≤ k
      → refusal E s (advance k) ≡ Some 3
  unfolding refusal checks
  advance_outside m w e h = leaves 1 _ _ (ap not w) ∙ gives 3 _ _ (rw (← e) (ap not (le-ltb k m h)))

  advance_placed : sound s.tag ≡ true → k < segments s.tag
      → refusal E s (advance k) ≡ lowest (advance_checks s.session.write s.session.name (unit_bytes s.tag k))
  unfolding refusal checks
  advance_placed w h = leaves 1 _ _ (ap not w) ∙ leaves 3 _ _ (ap not (lt-ltb _ _ h))

  pub advance_refused : (m : ℕ) → refusal E s (advance k) ≡ Some m → s ≡ after E s (advance k)
  advance_refused m e = sym (refused_stays E s (advance k) m e (not_11 E s (advance k) refl m e))

  -- the verdict on the unit is that on the command
  pub advance_judged : (u : List ℕ) (v : Result Stage Refusal) → sound s.tag ≡ true → k < segments s.tag
      → u ≡ unit_bytes s.tag k
      → MoveJudged (advance_checks s.session.write s.session.name u) (unit_of u).model v
      → refusal_of v ≡ refusal E s (advance k)
  advance_judged u v w h e j =
      j.number ∙ ap (λ u. lowest (advance_checks s.session.write s.session.name u)) e ∙ sym (advance_placed w h)

  advance_granted : (g : Stage) → refusal E s (advance k) ≡ None → (unit_of (unit_bytes s.tag k)).model ≡ Receiver g
      → state (put (unit_at k) (advanced g (unit_bytes s.tag k)) s.tag) s.session
      ≡ after E s (advance k)
  unfolding after after_by stores new_session advance_stores advance_move apply
  advance_granted g e m = rw (e, m)

  -- what an advance of the unit makes of the tag
  pub advance_moves : (g : Stage) (a : ℕ) (ys : List ℕ) → sound s.tag ≡ true → k < segments s.tag
      → refusal E s (advance k) ≡ None → (unit_of (unit_bytes s.tag k)).model ≡ Receiver g
      → a ≡ unit_at k → ys ≡ put 0 (advanced g (unit_bytes s.tag k)) (unit_bytes s.tag k)
      → state (put_mid a (a + 32 - a) s.tag ys) s.session ≡ after E s (advance k)
  advance_moves g a ys w h e m d q =
      let t = s.tag in
      let u = unit_bytes t k in
      let i = (unit_inside t k w h).inside in
      let moved = unit_back t k a 0 (unit_at k) (advanced g u) ys d i (omega arith) (omega (arith, length-advanced g u)) q in
      ap (λ x. state x s.session) moved ∙ advance_granted g e m
