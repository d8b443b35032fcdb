-- The unit of a segment of model 4: its fields at either stage, and what an insertion makes of it.
use Prim.Native.Nat.{ℕ, zero, suc, ◌≤◌}
use mathlib.Core.Path.{◌≡◌, refl, sym, ap, ap₂, ◌∙◌}
use mathlib.Core.Logic.{◌≢◌, ◌⊎◌, inl, inr}
use mathlib.Core.Bool.{Bool, true, false, ◌&&◌, ◌||◌, not, cond}
use mathlib.Core.List.{List, [], ◌∷◌}
use native.Mathlib.Omega.{arith}
use lib.ListN.{get_or, length}
use lib.Dec.{eqb, leb}
use borrow.Author.Tests.{ne_eqb}
use Rattle.rules.specs.declared.KeyStage.{KeyStage}
use Rattle.rules.specs.declared.KeyStage.TheVariants.{Filling, Inserted}
use Rattle.rules.specs.declared.Model.{Model}
use Rattle.rules.specs.declared.Model.TheVariants.{Default, SharedKey}
use Rattle.rules.specs.Bytes.{byte, number, part, put, zeros}
use Rattle.rules.specs.Units.{bit, modelled, model_no, stage_no, key_stage_of, model_of, model_fits, formedness, unit_of, well_formed}
use Rattle.rules.specs.Refusals.{is_shared_key, is_filling}
use Rattle.rules.specs.Effects.{inserted, read_only}
use Rattle.rules.specs.Claims.{bits, read_only_bits}
use Rattle.rules.specs.SharedKeys.{UnitInserted}
use Rattle.rules.proofs.Tests.{true_false, all_true, all_and, all_none}
use Rattle.rules.proofs.BytesLaws.{part-put}
use Rattle.rules.proofs.Moves.{read_only_bits_lem}

-- ---- "After insertion the segment is stage 1, RD only"

not_default : (g : KeyStage) → Default ≢ SharedKey g
not_default g e = let z : ◌≡◌ {A = ℕ} 0 1 = cc in absurd (omega arith)

pub stages_differ : {B : Type 0} → SharedKey Filling ≡ SharedKey Inserted → B
stages_differ e = true_false (unfold is_filling in ap is_filling e)

-- what a well-formed unit of model 4 has at either stage
abbrev Stages : (g : ℕ) (rd wr : Bool) → Type 0
Stages g rd wr = ((g ≡ 0) × (rd ≡ false) × (wr ≡ true)) ⊎ ((g ≡ 1) × (rd ≡ true) × (wr ≡ false))

shared_fields : (m g : ℕ) (rd wr : Bool) → model_fits m g rd wr ≡ true → is_shared_key (model_of m g) ≡ true
    → (m ≡ 4) × Stages g rd wr
unfolding model_fits model_of is_shared_key
shared_fields zero g rd wr e f = true_false (sym f)
shared_fields (suc zero) g rd wr e f = true_false (sym f)
shared_fields (suc (suc zero)) g rd wr e f = true_false (sym f)
shared_fields (suc (suc (suc zero))) g rd wr e f = true_false (sym f)
shared_fields (suc (suc (suc (suc zero)))) g rd wr e f = (refl, by g rd wr e)
  where
    by : (g : ℕ) (rd wr : Bool) → (eqb g 0 && not rd && wr || eqb g 1 && rd && not wr) ≡ true → Stages g rd wr
    by zero false true h = inl (refl, refl, refl)
    by zero false false h = true_false (sym h)
    by zero true wr h = true_false (sym h)
    by (suc zero) true false h = inr (refl, refl, refl)
    by (suc zero) true true h = true_false (sym h)
    by (suc zero) false wr h = true_false (sym h)
    by (suc (suc g)) rd wr h =
        let a : eqb (suc (suc g)) 0 ≡ false = ne_eqb (suc (suc g)) 0 (omega arith) in
        let b : eqb (suc (suc g)) 1 ≡ false = ne_eqb (suc (suc g)) 1 (omega arith) in
        let z : (eqb (suc (suc g)) 0 && not rd && wr || eqb (suc (suc g)) 1 && rd && not wr) ≡ false = rw (a, b) in
        true_false (sym h ∙ z)
shared_fields (suc (suc (suc (suc (suc n))))) g rd wr e f = true_false (sym e)

inserted_fields : (m g : ℕ) (rd wr : Bool) → model_fits m g rd wr ≡ true → model_of m g ≡ SharedKey Inserted
    → (rd ≡ true) × (wr ≡ false)
unfolding model_of key_stage_of is_shared_key
inserted_fields m g rd wr e f =
    let x = shared_fields m g rd wr e (ap is_shared_key f) in by x.0 x.1
  where
    by : m ≡ 4 → Stages g rd wr → (rd ≡ true) × (wr ≡ false)
    by q (inl y) = stages_differ (sym (ap₂ model_of q y.0) ∙ f)
    by q (inr y) = (y.1, y.2)

-- the last test of a well-formed unit, where its model is not the default
pub modelled_fits : (u : List ℕ) (m : Model) → well_formed u ≡ true → (unit_of u).model ≡ m → Default ≢ m
    → (modelled u ≡ true) × (model_fits (model_no u) (stage_no u) (unit_of u).rd (unit_of u).wr ≡ true)
    × (model_of (model_no u) (stage_no u) ≡ m)
unfolding well_formed formedness unit_of
modelled_fits u m e f h =
    let x0 = all_true _ _ e in
    let x1 = all_true _ _ x0.1 in
    let x2 = all_true _ _ x1.1 in
    let x3 = all_true _ _ x2.1 in
    let x4 = all_true _ _ x3.1 in
    let x5 = all_true _ _ x4.1 in
    by (modelled u) refl (all_true _ _ x5.1).0 f
  where
    by : (b : Bool) → modelled u ≡ b
        → (not b || model_fits (model_no u) (stage_no u) (bit 7 (byte 0 u)) (bit 5 (byte 0 u))) ≡ true
        → cond b (model_of (model_no u) (stage_no u)) Default ≡ m
        → (modelled u ≡ true) × (model_fits (model_no u) (stage_no u) (bit 7 (byte 0 u)) (bit 5 (byte 0 u)) ≡ true)
        × (model_of (model_no u) (stage_no u) ≡ m)
    by true q g d = (q, g, d)
    by false q g d = absurd (h d)

-- a segment at stage 1 is open to reads and takes no write
at_stage_one : (u : List ℕ) → well_formed u ≡ true → (unit_of u).model ≡ SharedKey Inserted
    → ((unit_of u).rd ≡ true) × ((unit_of u).wr ≡ false)
at_stage_one u e f =
    let x = modelled_fits u (SharedKey Inserted) e f (not_default Inserted) in inserted_fields _ _ _ _ x.1 x.2

pub inserted_open : (u : List ℕ) → well_formed u ≡ true → (unit_of u).model ≡ SharedKey Inserted → (unit_of u).rd ≡ true
inserted_open u e f = (at_stage_one u e f).0

pub inserted_closed : (u : List ℕ) → well_formed u ≡ true → (unit_of u).model ≡ SharedKey Inserted → (unit_of u).wr ≡ false
inserted_closed u e f = (at_stage_one u e f).1

-- the new host's unit after its insertion

module _ (u : List ℕ) (long : length u ≡ 32) (e : well_formed u ≡ true) (f : (unit_of u).model ≡ SharedKey Filling) where
  abbrev after_it : List ℕ
  after_it = put 0 (inserted u) u

  is_modelled : modelled u ≡ true
  is_modelled = (modelled_fits u (SharedKey Filling) e f (not_default Filling)).0

  two_bytes : (byte 0 after_it ≡ read_only (byte 0 u)) × (byte 1 after_it ≡ 0x14)
  two_bytes = bytes u long
    where
      bytes : (v : List ℕ) → length v ≡ 32
          → (byte 0 (put 0 (inserted v) v) ≡ read_only (byte 0 v)) × (byte 1 (put 0 (inserted v) v) ≡ 0x14)
      bytes [] l = absurd (omega arith)
      bytes (p ∷ []) l = absurd (omega arith)
      bytes (p ∷ q ∷ v) l = unfold put inserted in (refl, refl)

  control : bits (byte 0 after_it) ≡ read_only_bits (byte 0 u)
  control = ap bits two_bytes.0 ∙ read_only_bits_lem (byte 0 u)

  control_bit : (i : ℕ) → get_or (bits (byte 0 after_it)) i false ≡ get_or (read_only_bits (byte 0 u)) i false
  control_bit i = ap (λ bs. get_or bs i false) control

  others_stay : (a n : ℕ) → 2 ≤ a → part a n after_it ≡ part a n u
  others_stay a n h = part-put a n 0 (inserted u) u (unfold inserted in omega arith)

  inserted_formed : well_formed after_it ≡ true
  unfolding well_formed formedness unit_of
  inserted_formed =
      let x0 = all_true _ _ e in
      let x1 = all_true _ _ x0.1 in
      let x2 = all_true _ _ x1.1 in
      let x3 = all_true _ _ x2.1 in
      let x4 = all_true _ _ x3.1 in
      let x5 = all_true _ _ x4.1 in
      all_and _ _ (ap not (control_bit 6) ∙ x0.0) (all_and _ _ (ap zeros (others_stay 2 2 (omega arith)) ∙ x1.0)
      (all_and _ _ (ap (λ bs. leb (number bs) 255) (others_stay 4 2 (omega arith)) ∙ x2.0)
      (all_and _ _ (ap (λ bs. leb (number bs) 255) (others_stay 6 2 (omega arith)) ∙ x3.0)
      (all_and _ _ (ap (λ bs. leb (number bs) 255) (others_stay 8 2 (omega arith)) ∙ x4.0)
      (all_and _ _ (ap zeros (others_stay 10 6 (omega arith)) ∙ x5.0) (all_and _ _ last all_none))))))
    where
      last : (not (modelled after_it)
          || model_fits (model_no after_it) (stage_no after_it) (bit 7 (byte 0 after_it)) (bit 5 (byte 0 after_it)))
          ≡ true
      last =
          let m : modelled after_it ≡ true = control_bit 7 ∙ is_modelled in
          let r : bit 7 (byte 0 after_it) ≡ true = control_bit 0 in
          let v : bit 5 (byte 0 after_it) ≡ false = control_bit 2 in
          rw (two_bytes.1, m, r, v) (unfold model_fits in refl)

  inserted_model : (unit_of after_it).model ≡ SharedKey Inserted
  unfolding unit_of
  inserted_model =
      let m : modelled after_it ≡ true = control_bit 7 ∙ is_modelled in
      rw (two_bytes.1, m) (unfold model_of key_stage_of in refl)

  pub inserted_unit : UnitInserted u after_it
  inserted_unit =
      record {
        formed = inserted_formed;
        stage = inserted_model;
        control = control;
        stage_byte = two_bytes.1;
        other_bytes = others_stay 2 30 (omega arith);
      }
