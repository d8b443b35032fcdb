-- A value written over a stored one: the next is granted, the same is 18, and the rest is 12.
use Rattle.std.specs.Prelude.{None, Some}
use Prim.Native.Nat.{ℕ, ◌+◌, ◌%◌}
use mathlib.Core.Path.{◌≡◌, refl, sym, ap, ◌∙◌}
use mathlib.Core.Logic.{◌≢◌, inl, inr}
use mathlib.Core.Bool.{Bool, true, false, ◌&&◌, ◌||◌, not}
use mathlib.Core.List.{List}
use native.Mathlib.Omega.{arith}
use lib.ListN.{length}
use lib.Dec.{eqb}
use borrow.Author.Tests.{eqb-true, eq-eqb, ne_eqb}
use Rattle.rules.specs.declared.Model.{Model}
use Rattle.rules.specs.declared.Model.TheVariants.{Default, WriteOnce, Counter, Receiver, SharedKey}
use Rattle.rules.specs.Bytes.{number}
use Rattle.rules.specs.Refusals.{Checks, granted, lowest, is_next, is_repeat, value_checks, slot_checks}
use Rattle.rules.specs.Claims.{Applies}
use Rattle.rules.proofs.Tests.{true_false, and_true, or_first, or_second, passes, clears, none_applies, gives, leaves, given_later, given-last}

-- a segment's checks of a value: those of model 2, or none
pub slot_cases : (P : Checks → Type 0) (o : ℕ) (old bs : List ℕ) → P granted
    → P (value_checks (eqb (o % 8) 0 && eqb (length bs) 8) old bs) → (m : Model) → P (slot_checks m o old bs)
unfolding slot_checks
slot_cases P o old bs g v Default = g
slot_cases P o old bs g v WriteOnce = g
slot_cases P o old bs g v Counter = v
slot_cases P o old bs g v (Receiver h) = g
slot_cases P o old bs g v (SharedKey h) = g

is_repeat_lem : (old bs : List ℕ) → number bs ≡ number old → is_repeat old bs ≡ true
unfolding is_repeat
is_repeat_lem old bs e = eq-eqb (number bs) (number old) e

no_repeat : (old bs : List ℕ) → number bs ≢ number old → is_repeat old bs ≡ false
unfolding is_repeat
no_repeat old bs e = ne_eqb (number bs) (number old) e

is_next_lem : (old bs : List ℕ) → number bs ≡ number old + 1 → is_next old bs ≡ true
unfolding is_next
is_next_lem old bs e = eq-eqb (number bs) (number old + 1) e

no_next : (old bs : List ℕ) → number bs ≢ number old + 1 → is_next old bs ≡ false
unfolding is_next
no_next old bs e = ne_eqb (number bs) (number old + 1) e

-- ---- the three answers to a value in the right shape

pub value_next : (old bs : List ℕ) → number bs ≡ number old + 1 → lowest (value_checks true old bs) ≡ None
unfolding value_checks
value_next old bs e =
    clears _ _ _ (ap not (or_first _ _ (is_next_lem old bs e)))
    (clears _ _ _ (no_repeat old bs (λ f. absurd (omega (arith, e, f)))) none_applies)

pub value_repeated : (old bs : List ℕ) → number bs ≡ number old → lowest (value_checks true old bs) ≡ Some 18
unfolding value_checks
value_repeated old bs e =
    let r = is_repeat_lem old bs e in leaves _ _ _ (ap not (or_second (is_next old bs) _ r)) ∙ gives _ _ _ r

pub value_other : (old bs : List ℕ) → number bs ≢ number old → number bs ≢ number old + 1
    → lowest (value_checks true old bs) ≡ Some 12
unfolding value_checks
value_other old bs e f = gives _ _ _ (rw (no_next old bs f, no_repeat old bs e))

-- and in another shape
pub value_unshaped : (shaped : Bool) (old bs : List ℕ) → shaped ≡ false → lowest (value_checks shaped old bs) ≡ Some 12
unfolding value_checks
value_unshaped true old bs e = true_false e
value_unshaped false old bs e = gives _ _ _ refl

-- ---- what a grant and an 18 say

pub value_granted : (shaped : Bool) (old bs : List ℕ) → lowest (value_checks shaped old bs) ≡ None
    → (shaped ≡ true) × (number bs ≡ number old + 1)
unfolding value_checks is_next
value_granted shaped old bs e =
    let c12 = passes _ _ _ e in
    let x = by shaped (is_next old bs) (is_repeat old bs) c12.0 (passes _ _ _ c12.1).0 in
    (x.0, eqb-true _ _ x.1)
  where
    by : (a n r : Bool) → not (a && (n || r)) ≡ false → (a && r) ≡ false → (a ≡ true) × (n ≡ true)
    by true true r e f = (refl, refl)
    by true false true e f = true_false f
    by true false false e f = true_false e
    by false n r e f = true_false e

pub value_told : (shaped : Bool) (old bs : List ℕ) → lowest (value_checks shaped old bs) ≡ Some 18
    → (shaped ≡ true) × (number bs ≡ number old)
unfolding value_checks is_repeat
value_told shaped old bs e =
    let x = and_true _ _ (given-last _ _ 18 (given_later _ _ _ 18 (λ f. absurd (omega (arith, f))) e).1) in
    (x.0, eqb-true _ _ x.1)

-- "12 and 18 never apply together"
pub value_never_both : (shaped : Bool) (old bs : List ℕ) → Applies 12 (value_checks shaped old bs)
    → Applies 18 (value_checks shaped old bs) → ⊥
unfolding value_checks
value_never_both shaped old bs (inl a) (inr (inl b)) = by shaped (is_next old bs) (is_repeat old bs) a.1 b.1
  where
    by : (a n r : Bool) → not (a && (n || r)) ≡ true → (a && r) ≡ true → ⊥
    by true true true e f = true_false (sym e)
    by true true false e f = true_false (sym f)
    by true false true e f = true_false (sym e)
    by true false false e f = true_false (sym f)
    by false n r e f = true_false (sym f)
value_never_both shaped old bs (inl a) (inl b) = absurd (omega (arith, b.0))
value_never_both shaped old bs (inl a) (inr (inr b)) = b
value_never_both shaped old bs (inr (inl a)) b = absurd (omega (arith, a.0))
value_never_both shaped old bs (inr (inr a)) b = a
