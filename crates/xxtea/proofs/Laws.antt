-- Laws that the functions' proofs cite, over the direction where both have it. Assumes nothing.
use Rattle.std.proofs.Common.{rules, ◌≡◌, ℕ, zero, suc, ◌+◌, ◌-◌, ◌/◌, ◌%◌, ◌<◌, ◌≤◌, Bool, true, cond, refl, ◌∙◌, mod-eq_of_lt, arith}
use Rattle.std.proofs.Math.Nat.{mod-eq-sub-mod}
use Rattle.std.proofs.lemmas.Nat.{xor_lt}
use Rattle.std.specs.Prelude.{bit_xor}
use Rattle.xxtea.specs.Xxtea.{taken, rounds_for, sum_in, next, previous, Direction, up, down}
use Rattle.xxtea.specs.Claims.{SumIsProduct}

abbrev pub opposite : Direction → Direction
opposite up = down
opposite down = up

-- the code multiplies, where the definition adds
pub sum_is_product : SumIsProduct
unfolding sum_in
sum_is_product zero = refl
sum_is_product (suc r) = let h = sum_is_product r in omega arith

-- the number of the key's word is below 4
pub key_at : (p sum : ℕ) → bit_xor (p % 4) (sum / 4 % 4) < 4
key_at p sum = xor_lt 2 (p % 4) (sum / 4 % 4) (omega arith) (omega arith)

-- 2 to 1,024 words are taken, and any other number gets no round
module _ (n : ℕ) where
  pub taken_both : taken n ≡ true → (2 ≤ n) × (n ≤ 1024)
  taken_both e = search rules

  pub rounds_taken : (t : Bool) → taken n ≡ t → rounds_for n ≡ cond t (6 + 52 / n) 0
  unfolding rounds_for
  rounds_taken t e = rw e

-- the neighbours' places, without a remainder
module _ (n p : ℕ) where
  pub next_inside : p + 1 < n → next n p ≡ p + 1
  next_inside h = mod-eq_of_lt h

  pub next_last : p + 1 ≡ n → 0 < n → next n p ≡ 0
  next_last e h = mod-eq-sub-mod (omega arith) ∙ mod-eq_of_lt (omega arith) ∙ (omega arith)

  pub previous_inside : 0 < p → p < n → previous n p ≡ p - 1
  previous_inside h k = mod-eq-sub-mod (omega arith) ∙ mod-eq_of_lt (omega arith) ∙ (omega arith)

  pub previous_first : p ≡ 0 → 0 < n → previous n p ≡ n - 1
  previous_first e h = mod-eq_of_lt (omega arith) ∙ (omega arith)
