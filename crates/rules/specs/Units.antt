-- Document 01, "The unit". A unit is 32 bytes `u`. Assumes nothing.
use Rattle.std.specs.Prelude.{ℕ, zero, suc, ◌/◌, ◌%◌, ◌^◌, Bool, false, ◌&&◌, ◌||◌, not, cond, List, [], ◌∷◌, eqb, leb}
use Rattle.rules.specs.declared.Stage.{Stage}
use Rattle.rules.specs.declared.Stage.TheVariants.{Zero, One, Two}
use Rattle.rules.specs.declared.KeyStage.{KeyStage}
use Rattle.rules.specs.declared.KeyStage.TheVariants.{Filling, Inserted}
use Rattle.rules.specs.declared.Model.{Model}
use Rattle.rules.specs.declared.Model.TheVariants.{Default, WriteOnce, Counter, Receiver, SharedKey}
use Rattle.rules.specs.declared.Unit.{Unit}
use Rattle.rules.specs.Bytes.{part, byte, number, zeros, all}
use Rattle.rules.specs.Map.{unit_at}

-- the unit of segment k
unfoldable pub unit_bytes : List ℕ → ℕ → List ℕ
unit_bytes t k = part (unit_at k) 32 t

-- bit i of a byte, bit 7 the high one
unfoldable pub bit : ℕ → ℕ → Bool
bit i b = eqb (b / 2 ^ i % 2) 1

-- "Byte 0 is control, high bit first: RD, RDPIN, WR, WRPIN, PN, nE, RFU, M": the two that `Unit` does not hold
abbrev pub rfu : List ℕ → Bool
rfu u = bit 1 (byte 0 u)

abbrev pub modelled : List ℕ → Bool
modelled u = bit 0 (byte 0 u)

-- "Byte 1: model in the low four bits, stage in the high four"
abbrev pub model_no : List ℕ → ℕ
model_no u = byte 1 u % 16

abbrev pub stage_no : List ℕ → ℕ
stage_no u = byte 1 u / 16

unfoldable pub stage_of : ℕ → Stage
stage_of zero = Zero
stage_of (suc zero) = One
stage_of (suc (suc n)) = Two

-- of model 4
unfoldable pub key_stage_of : ℕ → KeyStage
key_stage_of zero = Filling
key_stage_of (suc n) = Inserted

-- a model number and a stage number
unfoldable pub model_of : ℕ → ℕ → Model
model_of zero g = Default
model_of (suc zero) g = WriteOnce
model_of (suc (suc zero)) g = Counter
model_of (suc (suc (suc zero))) g = Receiver (stage_of g)
model_of (suc (suc (suc (suc n)))) g = SharedKey (key_stage_of g)

-- "A unit read from memory is a record whose model carries its own stage." "With M clear byte 1 is ignored and the
-- default model holds." Of an ill-formed unit it decides nothing, since 5 comes first.
unfoldable pub unit_of : List ℕ → Unit
unit_of u =
    record {
      rd = bit 7 (byte 0 u);
      rdpin = bit 6 (byte 0 u);
      wr = bit 5 (byte 0 u);
      wrpin = bit 4 (byte 0 u);
      pn = bit 3 (byte 0 u);
      ne = bit 2 (byte 0 u);
      model = cond (modelled u) (model_of (model_no u) (stage_no u)) Default;
      read = number (part 4 2 u);
      write = number (part 6 2 u);
      edit = number (part 8 2 u);
    }

-- "Bytes 16-31 name"
unfoldable pub name_of : List ℕ → List ℕ
name_of u = part 16 16 u

-- "and, with M set": model and stage number, RD and WR. Document 02, L4: "Model 4 is well formed only in these two states":
-- "stage 0, WR only", and "stage 1, RD only"
unfoldable pub model_fits : (model stage : ℕ) (rd wr : Bool) → Bool
model_fits zero g rd wr = eqb g 0
model_fits (suc zero) g rd wr = eqb g 0 && (rd && not wr || not rd && wr)
model_fits (suc (suc zero)) g rd wr = eqb g 0 && rd && wr
model_fits (suc (suc (suc zero))) g rd wr = leb g 1 && not rd && wr || eqb g 2 && rd && not wr
model_fits (suc (suc (suc (suc zero)))) g rd wr = eqb g 0 && not rd && wr || eqb g 1 && rd && not wr
model_fits (suc (suc (suc (suc (suc n))))) g rd wr = false

-- "With M clear byte 1 is ignored"
abbrev pub model_formed : List ℕ → Bool
model_formed u = not (modelled u) || model_fits (model_no u) (stage_no u) (unit_of u).rd (unit_of u).wr

-- "Well formed: RFU and the zero bytes are 0; indexes at most 255; .."
unfoldable pub formedness : List ℕ → List Bool
formedness u =
    not (rfu u)
    ∷ zeros (part 2 2 u)
    ∷ leb (number (part 4 2 u)) 255
    ∷ leb (number (part 6 2 u)) 255
    ∷ leb (number (part 8 2 u)) 255
    ∷ zeros (part 10 6 u)
    ∷ model_formed u
    ∷ []

unfoldable pub well_formed : List ℕ → Bool
well_formed u = all (formedness u)
