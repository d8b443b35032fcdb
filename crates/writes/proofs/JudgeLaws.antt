-- Laws of the judges of writes: the verdict that follows from the lowest refusal, that a slot's alignment is that of its
-- address, and how a value stands to the one that is stored. Assumes nothing.
use Rattle.std.specs.Prelude.{None, Some, Ok, Err, IsErrAnd}
use Prim.Native.Nat.{ℕ, ◌+◌, ◌-◌, ◌%◌, ◌≤◌}
use Rattle.std.proofs.Common.{length, take_all, true, ◌≢◌}
use Rattle.rules.specs.Bytes.{part, number}
use Rattle.rules.proofs.Values.{value_next, value_repeated, value_other}
use mathlib.Core.Path.{◌≡◌, refl, sym, subst, ap, ◌∙◌}
use mathlib.Core.List.{List}
use native.Mathlib.Omega.{arith}
use Rattle.rules.specs.declared.Model.{Model}
use Rattle.rules.specs.declared.Model.TheVariants.{Default, WriteOnce, Counter, Receiver, SharedKey}
use Rattle.rules.specs.declared.Refusal.{Refusal}
use Rattle.rules.specs.Map.{segment_at}
use Rattle.rules.specs.Units.{unit_of}
use Rattle.rules.specs.Answers.{number_of}
use Rattle.rules.specs.Refusals.{Checks, lowest, value_checks, slot_checks, segment_write_checks}
use Rattle.rules.proofs.Tests.{some_none, handed_on}
use Rattle.rules.proofs.MapLaws.{segments_aligned}
use Rattle.writes.specs.declared.judging.Act.{Act}
use Rattle.writes.specs.Verdict.{Verdict, Judged}

pub refuses : (cs : Checks) (x : Act) (r : Refusal) → lowest cs ≡ Some (number_of r) → Judged cs x (Err r)
refuses cs x r e = record { number = sym e; granted = λ f. some_none (sym e ∙ f) }

pub acts : (cs : Checks) (x : Act) → lowest cs ≡ None → Judged cs x (Ok x)
acts cs x e = record { number = sym e; granted = λ f. refl }

-- the lowest refusal, handed on by `?`
pub passed_on : (cs : Checks) (x : Act) (v : Verdict) (r : Refusal) → IsErrAnd v (λ q. q ≡ r)
    → Some (number_of r) ≡ lowest cs → Judged cs x v
passed_on cs x v r h e = subst (Judged cs x) (sym (handed_on v r h)) (refuses cs x r (sym e))

-- the same verdict by other checks that give the same refusal
pub judged_as : (cs ds : Checks) (act : Act) (v : Verdict) → lowest cs ≡ lowest ds → Judged cs act v → Judged ds act v
judged_as cs ds act v e j = record { number = j.number ∙ e; granted = λ f. j.granted (e ∙ f) }

-- ---- a segment begins at a multiple of 8, so that an offset in it is aligned where the address is

slot_at : (m : Model) (A k a : ℕ) (old bs : List ℕ) → segment_at A k ≤ a
    → slot_checks m (a - segment_at A k) old bs ≡ slot_checks m a old bs
unfolding slot_checks
slot_at Default A k a old bs h = refl
slot_at WriteOnce A k a old bs h = refl
slot_at Counter A k a old bs h =
    let s = segments_aligned A in
    let e : (a - segment_at A k) % 8 ≡ a % 8 = omega arith in
    rw e
slot_at (Receiver g) A k a old bs h = refl
slot_at (SharedKey g) A k a old bs h = refl

pub checks_at : (write : ℕ) (name u : List ℕ) (A k a : ℕ) (old bs : List ℕ) → segment_at A k ≤ a
    → segment_write_checks write name u (a - segment_at A k) old bs ≡ segment_write_checks write name u a old bs
unfolding segment_write_checks
checks_at write name u A k a old bs h = rw (slot_at (unit_of u).model A k a old bs h)

-- ---- how a value stands to the one that is stored, each in eight bytes

-- eight bytes are the whole of a list of eight
whole : (t : List ℕ) (v : ℕ) → length t ≡ 8 → v ≡ number (part 0 8 t) → v ≡ number t
unfolding part
whole t v l e = e ∙ ap number (take_all 8 t (omega arith))

module _ (old new : List ℕ) (s v : ℕ) (l : length old ≡ 8) (m : length new ≡ 8)
    (e : s ≡ number (part 0 8 old)) (f : v ≡ number (part 0 8 new)) where
  stored : s ≡ number old
  stored = whole old s l e

  value : v ≡ number new
  value = whole new v m f

  pub told_repeated : v ≡ s → Some 18 ≡ lowest (value_checks true old new)
  told_repeated h = sym (value_repeated _ _ (omega (arith, stored, value, h)))

  pub told_next : v ≡ s + 1 → None ≡ lowest (value_checks true old new)
  told_next h = sym (value_next _ _ (omega (arith, stored, value, h)))

  pub told_other : v ≢ s → v ≢ s + 1 → Some 12 ≡ lowest (value_checks true old new)
  told_other h k = sym (value_other _ _ (λ g. h (omega (arith, stored, value, g))) (λ g. k (omega (arith, stored, value, g))))
