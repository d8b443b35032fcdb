-- What a model's own move does to the bits of its unit; and what power-up does to the session.
use Prim.Native.Nat.{ℕ, ◌+◌, ◌*◌, ◌/◌, ◌%◌, ◌^◌, ◌<◌}
use mathlib.Core.Path.{◌≡◌, refl, ap, ◌∙◌}
use mathlib.Core.Bool.{true, false}
use native.Mathlib.Omega.{arith}
use native.Mathlib.Nat.{mod-lt}
use borrow.Author.Tests.{eq-eqb}
use Rattle.rules.specs.Units.{bit, model_of, stage_of, key_stage_of}
use Rattle.rules.specs.State.{Cipher, State, powered_up}
use Rattle.rules.specs.Refusals.{lowest}
use Rattle.rules.specs.Effects.{read_only, advanced, inserted, apply}
use Rattle.rules.specs.Command.{after, after_by, refusal, checks, stores, new_session}
use Rattle.rules.specs.Claims.{bits, read_only_bits, MovesExact, PowerUpClears}

-- ---- bits are digits

bit_same : (i b c : ℕ) → b / 2 ^ i % 2 ≡ c / 2 ^ i % 2 → bit i b ≡ bit i c
unfolding bit
bit_same i b c e = rw e

set_bit : (i b : ℕ) → b / 2 ^ i % 2 ≡ 1 → bit i b ≡ true
unfolding bit
set_bit i b e = eq-eqb _ _ e

clear_bit : (i b : ℕ) → b / 2 ^ i % 2 ≡ 0 → bit i b ≡ false
unfolding bit
clear_bit i b e = rw e

-- ---- a control byte that becomes read only, by its second bit `x` and its five low ones `r`

high : (x r : ℕ) → x < 2 → r < 32
    → ((128 + 64 * x + r) / 128 ≡ 1) × ((128 + 64 * x + r) / 64 ≡ 2 + x) × ((128 + 64 * x + r) / 32 ≡ 2 * (2 + x))
high x r p q = (omega arith, omega arith, omega arith)

pub read_only_bits_lem : (b : ℕ) → bits (read_only b) ≡ read_only_bits b
unfolding read_only
read_only_bits_lem b =
    let h = high (b / 64 % 2) (b % 32) (mod-lt _ (omega arith)) (mod-lt _ (omega arith)) in
    rw (
      set_bit 7 _ (ap (λ q. q % 2) h.0),
      bit_same 6 _ b (ap (λ q. q % 2) h.1 ∙ six),
      clear_bit 5 _ (ap (λ q. q % 2) h.2 ∙ five),
      bit_same 4 _ b four,
      bit_same 3 _ b three,
      bit_same 2 _ b two,
      bit_same 1 _ b one,
      bit_same 0 _ b none,
    )
  where
    six : (2 + b / 64 % 2) % 2 ≡ b / 64 % 2
    six = omega arith

    five : (2 * (2 + b / 64 % 2)) % 2 ≡ 0
    five = omega arith

    four : (128 + 64 * (b / 64 % 2) + b % 32) / 16 % 2 ≡ b / 16 % 2
    four = omega arith

    three : (128 + 64 * (b / 64 % 2) + b % 32) / 8 % 2 ≡ b / 8 % 2
    three = omega arith

    two : (128 + 64 * (b / 64 % 2) + b % 32) / 4 % 2 ≡ b / 4 % 2
    two = omega arith

    one : (128 + 64 * (b / 64 % 2) + b % 32) / 2 % 2 ≡ b / 2 % 2
    one = omega arith

    none : (128 + 64 * (b / 64 % 2) + b % 32) / 1 % 2 ≡ b / 1 % 2
    none = omega arith

pub moves_exact : MovesExact
unfolding advanced inserted model_of stage_of key_stage_of
moves_exact =
    record {
      bits_moved = read_only_bits_lem;
      zero_to_one = λ u. refl;
      one_to_two = λ u. refl;
      host_inserted = λ u. refl;
    }

pub power_up_clears : (E : Cipher) (s : State) → PowerUpClears E s
unfolding after after_by refusal checks lowest stores new_session apply powered_up
power_up_clears E s =
    record {
      same_tag = refl;
      read_zero = refl;
      write_zero = refl;
      edit_zero = refl;
      name_zeros = refl;
      id_zeros = refl;
      pa_zeros = refl;
    }
