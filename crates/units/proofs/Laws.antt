-- What the bytes of a well-formed unit say, and what callers learn of a decoded one.
use Rattle.std.specs.Prelude.{Some, None}
use Rattle.std.specs.Bool.{then_some}
use Prim.Native.Nat.{ℕ, zero, suc, ◌+◌, ◌*◌, ◌/◌, ◌%◌, ◌<◌}
use mathlib.Core.Path.{◌≡◌, refl, sym, ap, subst, ◌∙◌}
use mathlib.Core.Logic.{◌≢◌}
use mathlib.Core.Bool.{Bool, true, false, ◌&&◌, not, cond, and_assoc, and-true as and_right, and-false}
use mathlib.Core.List.{List, [], ◌∷◌}
use native.Mathlib.Omega.{arith}
use native.Mathlib.Nat.{mod-lt}
use lib.ListN.{set}
use lib.Seq.{set-get_or}
use lib.Dec.{eqb, leb}
use borrow.Author.Tests.{eq-eqb, ne_eqb, lt-leb}
use Rattle.rules.specs.declared.Stage.{Stage}
use Rattle.rules.specs.declared.KeyStage.{KeyStage}
use Rattle.rules.specs.declared.Model.{Model}
use Rattle.rules.specs.declared.Model.TheVariants.{Default, WriteOnce, Counter, Receiver, SharedKey}
use Rattle.rules.specs.declared.Unit.{Unit}
use Rattle.rules.specs.Bytes.{byte, part, number, zeros, all, put}
use Rattle.rules.specs.Units.{bit, rfu, model_no, stage_no, model_fits, model_of, model_formed}
use Rattle.rules.specs.Units.{well_formed, formedness, unit_of, unit_bytes}
use Rattle.rules.specs.Map.{unit_at}
use Rattle.rules.specs.Refusals.{is_receiver, is_shared_key, past_stage_zero, same_bool, keeps_model, edit_allowed, is_filling, is_inserted}
use Rattle.rules.proofs.BytesLaws.{byte-part}
use Rattle.octets.proofs.Laws.{put_two}
use Rattle.units.specs.Decoded.{decoded}

clash : {A : Type 0} → ◌≡◌ {A = ℕ} 0 1 → A
clash e = absurd (omega arith)

-- ---- a list of tests, joined from the left as the code joins them

all-joined : (a b : Bool) (bs : List Bool) → all (a ∷ b ∷ bs) ≡ all ((a && b) ∷ bs)
unfolding all
all-joined a b bs = sym (and_assoc a b (all bs))

all_one : (b : Bool) → all (b ∷ []) ≡ b
unfolding all
all_one b = and_right b

-- ---- the low bit, and two bits that are the same

low_bit : (b : ℕ) → bit 0 b ≡ eqb (b % 2) 1
unfolding bit
low_bit b = let e : b / 1 ≡ b = omega arith in rw e

same_digits : (x y : ℕ) → x < 2 → y < 2 → same_bool (eqb x 1) (eqb y 1) ≡ eqb x y
unfolding same_bool
same_digits zero zero l m = refl
same_digits zero (suc zero) l m = refl
same_digits (suc zero) zero l m = refl
same_digits (suc zero) (suc zero) l m = refl
same_digits zero (suc (suc y)) l m = absurd (omega arith)
same_digits (suc zero) (suc (suc y)) l m = absurd (omega arith)
same_digits (suc (suc x)) y l m = absurd (omega arith)

same_bits : (a b : ℕ) → same_bool (eqb (a % 2) 1) (eqb (b % 2) 1) ≡ eqb (a % 2) (b % 2)
same_bits a b = same_digits (a % 2) (b % 2) (mod-lt a (omega arith)) (mod-lt b (omega arith))

pub keeps_model_is : (u w : List ℕ)
    → keeps_model u w
    ≡ (((eqb (byte 0 u % 2) (byte 0 w % 2) && eqb (byte 0 u / 128 % 2) (byte 0 w / 128 % 2))
    && eqb (byte 0 u / 32 % 2) (byte 0 w / 32 % 2))
    && eqb (byte 1 u) (byte 1 w))
unfolding keeps_model unit_of bit
keeps_model_is u w = simp (all-joined, all_one, low_bit, same_bits)

-- ---- the model of a unit

-- with M clear
pub model_default : (u : List ℕ) → byte 0 u % 2 ≢ 1 → then_some (model_formed u) (unit_of u).model ≡ Some Default
unfolding unit_of
model_default u e = rw (low_bit (byte 0 u), ne_eqb _ _ e)

-- with M set
pub model_named : (u : List ℕ) → byte 0 u % 2 ≡ 1
    → then_some (model_formed u) (unit_of u).model
    ≡ then_some (model_fits (model_no u) (stage_no u) (bit 7 (byte 0 u)) (bit 5 (byte 0 u))) (model_of (model_no u) (stage_no u))
unfolding unit_of
model_named u e = rw (low_bit (byte 0 u), eq-eqb _ _ e)

-- a byte that names no model, as a `match` says it
abbrev pub Nameless : ℕ → Type 0
Nameless b =
    (((((((Prim.Unit × (b ≢ 0x00)) × (b ≢ 0x01)) × (b ≢ 0x02)) × (b ≢ 0x03)) × (b ≢ 0x13)) × (b ≢ 0x23)) × (b ≢ 0x04))
    × (b ≢ 0x14)

-- another byte of the same model has another stage
other_stage : (m g c : ℕ) → m + 16 * g ≢ m + 16 * c → g ≢ c
other_stage m g c h e = h (ap (λ x. m + 16 * x) e)

above_one : (g : ℕ) → g ≢ 0 → g ≢ 1 → 1 < g
above_one g a b = omega arith

fits_none : (m g : ℕ) (rd wr : Bool) → Nameless (m + 16 * g) → model_fits m g rd wr ≡ false
unfolding model_fits
fits_none zero g rd wr n = ne_eqb g 0 (other_stage 0 g 0 n.0.0.0.0.0.0.0.1)
fits_none (suc zero) g rd wr n = rw (ne_eqb g 0 (other_stage 1 g 0 n.0.0.0.0.0.0.1))
fits_none (suc (suc zero)) g rd wr n = rw (ne_eqb g 0 (other_stage 2 g 0 n.0.0.0.0.0.1))
fits_none (suc (suc (suc zero))) g rd wr n =
    rw (
      lt-leb g 1 (above_one g (other_stage 3 g 0 n.0.0.0.0.1) (other_stage 3 g 1 n.0.0.0.1)),
      ne_eqb g 2 (other_stage 3 g 2 n.0.0.1),
    )
fits_none (suc (suc (suc (suc zero)))) g rd wr n =
    rw (ne_eqb g 0 (other_stage 4 g 0 n.0.1), ne_eqb g 1 (other_stage 4 g 1 n.1))
fits_none (suc (suc (suc (suc (suc m))))) g rd wr n = refl

pub model_none : (u : List ℕ) → byte 0 u % 2 ≡ 1 → Nameless (byte 1 u)
    → then_some (model_formed u) (unit_of u).model ≡ None
model_none u e n =
    let w : byte 1 u ≡ model_no u + 16 * stage_no u = omega arith in
    model_named u e ∙ rw (fits_none (model_no u) (stage_no u) _ _ (subst Nameless w n))

-- ---- a well-formed unit, test by test

-- those but the model's, joined as the code joins them
abbrev other_tests : List ℕ → Bool
other_tests u =
    ((((not (rfu u) && zeros (part 2 2 u)) && leb (number (part 4 2 u)) 255) && leb (number (part 6 2 u)) 255)
    && leb (number (part 8 2 u)) 255)
    && zeros (part 10 6 u)

well_formed_is : (u : List ℕ) → well_formed u ≡ (other_tests u && model_formed u)
unfolding well_formed formedness
well_formed_is u = simp (all-joined, all_one)

pub well_formed_but_model : (u : List ℕ) → model_formed u ≡ true → well_formed u ≡ other_tests u
well_formed_but_model u e = well_formed_is u ∙ ap (λ b. other_tests u && b) e ∙ and_right (other_tests u)

unknown_is : (b : Bool) (n : Model) → then_some b n ≡ None → b ≡ false
unknown_is true n e = clash (cc)
unknown_is false n e = refl

pub decoded_unknown : (u : List ℕ) → then_some (model_formed u) (unit_of u).model ≡ None → decoded u ≡ None
unfolding decoded
decoded_unknown u f =
    rw (well_formed_is u, unknown_is (model_formed u) (unit_of u).model f, and-false (other_tests u))

-- ---- what a caller learns of a decoded unit

whole_is : (b : Bool) (x y : Unit) → then_some b y ≡ Some x → (b ≡ true) × (x ≡ y)
whole_is true x y e = (refl, cc)
whole_is false x y e = clash (cc)

pub decoded_whole : (u : List ℕ) (x : Unit) → decoded u ≡ Some x → (well_formed u ≡ true) × (x ≡ unit_of u)
unfolding decoded
decoded_whole u x e = whole_is (well_formed u) x (unit_of u) e

pub decoded_malformed : (u : List ℕ) → decoded u ≡ None → well_formed u ≡ false
unfolding decoded
decoded_malformed u e = by (well_formed u) e
  where
    by : (b : Bool) → then_some b (unit_of u) ≡ None → b ≡ false
    by true e = clash (cc)
    by false e = refl

-- ---- edits

pub no_receiver : (m : Model) → ((g : Stage) → m ≢ Receiver g) → is_receiver m ≡ false
unfolding is_receiver
no_receiver Default n = refl
no_receiver WriteOnce n = refl
no_receiver Counter n = refl
no_receiver (Receiver g) n = absurd (n g refl)
no_receiver (SharedKey g) n = refl

pub not_shared : (m : Model) → ((g : KeyStage) → m ≢ SharedKey g)
    → (is_shared_key m ≡ false) × (is_filling m ≡ false) × (is_inserted m ≡ false)
unfolding is_shared_key is_filling is_inserted
not_shared Default n = (refl, refl, refl)
not_shared WriteOnce n = (refl, refl, refl)
not_shared Counter n = (refl, refl, refl)
not_shared (Receiver g) n = (refl, refl, refl)
not_shared (SharedKey g) n = absurd (n g refl)

pub edit_allowed_is : (m : Model) (u w : List ℕ) (x : Unit) → decoded w ≡ Some x
    → edit_allowed m u w ≡ cond (is_receiver m) (keeps_model u w) (not (past_stage_zero x.model))
unfolding edit_allowed
edit_allowed_is m u w x e =
    let d = decoded_whole w x e in rw (d.0, d.1) (all-joined true _ [] ∙ all_one _)

pub edit_malformed : (m : Model) (u w : List ℕ) → decoded w ≡ None → edit_allowed m u w ≡ false
unfolding edit_allowed all
edit_malformed m u w e = rw (decoded_malformed w e)

-- ---- the bytes of unit k in the tag t

pub unit_byte : (t : List ℕ) (k : ℕ) → byte 0 (unit_bytes t k) ≡ byte (unit_at k) t
unfolding unit_bytes
unit_byte t k =
    let z : unit_at k + 0 ≡ unit_at k = omega arith in
    byte-part (unit_at k) 32 t 0 (omega arith) ∙ ap (λ i. byte i t) z

-- ---- moves

-- two bytes stored one by one, the first of which stays
pub put_second : (u : List ℕ) (b : ℕ) → set u 1 b ≡ put 0 (byte 0 u ∷ b ∷ []) u
put_second u b = sym (ap (λ v. set v 1 b) (set-get_or u 0 0)) ∙ put_two (byte 0 u) b u

pub put_neither : (u : List ℕ) → u ≡ put 0 (byte 0 u ∷ byte 1 u ∷ []) u
put_neither u = sym (set-get_or u 1 0) ∙ put_second u (byte 1 u)
