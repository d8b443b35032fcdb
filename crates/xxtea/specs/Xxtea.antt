-- XXTEA over lists of 32-bit words: document 01, "The cipher" (Wheeler and Needham, "Correction to XTEA", 1998).
-- A word is a number below 2 ^ 32. Assumes nothing.
use Rattle.std.specs.Prelude.{ℕ, zero, suc, ◌+◌, ◌-◌, ◌*◌, ◌/◌, ◌%◌, ◌^◌, Bool, cond, ◌&&◌, List, length, bit_xor, nat_le, slice_index, slice_set, Result, Ok, Err, None, Option, Some}
use Rattle.xxtea.specs.declared.WrongLength.{WrongLength}

-- "n words, 2 to 1,024"
abbrev pub taken : ℕ → Bool
taken n = nat_le 2 n && nat_le n 1024

-- "sums modulo 2^32"
abbrev pub plus : ℕ → ℕ → ℕ
plus a b = (a + b) % 2 ^ 32

abbrev pub minus : ℕ → ℕ → ℕ
minus a b = (a + (2 ^ 32 - b)) % 2 ^ 32

-- "Rounds = 6 + floor(52/n)"; a length that is refused gets no round
unfoldable pub rounds_for : ℕ → ℕ
rounds_for n = cond (taken n) (6 + 52 / n) 0

-- "D = 0x9E3779B9. Each enciphering round adds D to sum (start 0)": the sum in round r, the rounds counted from 1
unfoldable pub sum_in : ℕ → ℕ
sum_in zero = 0
sum_in (suc r) = plus (sum_in r) 0x9E37_79B9

-- "takes e = floor(sum/4) mod 4", for "key[(p mod 4) xor e]"
abbrev pub key_word : List ℕ → ℕ → ℕ → ℕ
key_word key sum p = slice_index key (bit_xor (p % 4) (sum / 4 % 4))

-- "shifts that drop bits"
abbrev pub shift_left : ℕ → ℕ → ℕ
shift_left a k = a * 2 ^ k % 2 ^ 32

abbrev pub shift_right : ℕ → ℕ → ℕ
shift_right a k = a / 2 ^ k

-- "the mix of y (next word) and z (previous word)", with a word k of the key
unfoldable pub mix : ℕ → ℕ → ℕ → ℕ → ℕ
mix z y sum k =
    bit_xor
    (plus (bit_xor (shift_right z 5) (shift_left y 2)) (bit_xor (shift_right y 3) (shift_left z 4)))
    (plus (bit_xor sum y) (bit_xor k z))

-- the places of the next and the previous word, "circular"
abbrev pub next : ℕ → ℕ → ℕ
next n p = (p + 1) % n

abbrev pub previous : ℕ → ℕ → ℕ
previous n p = (p + (n - 1)) % n

-- the mix for word p of a list, its neighbours "as they stand at that step"
unfoldable pub mix_at : List ℕ → ℕ → ℕ → List ℕ → ℕ
mix_at key sum p ws =
    mix (slice_index ws (previous (length ws) p)) (slice_index ws (next (length ws) p)) sum (key_word key sum p)

-- Enciphering goes up, through the rounds and in each through the words, and adds the mix;
-- deciphering goes down through both and subtracts it.
pub data Direction : Type 0 where
  up down : Direction

abbrev pub change : Direction → ℕ → ℕ → ℕ
change up = plus
change down = minus

-- one step: word p is changed by its mix
unfoldable pub step : Direction → List ℕ → ℕ → ℕ → List ℕ → List ℕ
step d key sum p ws = slice_set ws p (change d (slice_index ws p) (mix_at key sum p ws))

-- a pass does f 0, f 1, .., f (n - 1), in this order upwards and from f (n - 1) to f 0 downwards
unfoldable pub pass : Direction → (ℕ → List ℕ → List ℕ) → ℕ → List ℕ → List ℕ
pass up f zero ws = ws
pass up f (suc n) ws = f n (pass up f n ws)
pass down f zero ws = ws
pass down f (suc n) ws = pass down f n (f n ws)

-- one round: a step for each word
unfoldable pub round : Direction → List ℕ → ℕ → List ℕ → List ℕ
round d key sum ws = pass d (step d key sum) (length ws) ws

-- The cipher: all rounds, each with its sum. "Deciphering .. walks p downwards, subtracts the mix, then takes D from
-- sum": it does the same rounds, from the last to the first.
unfoldable pub crypted : Direction → List ℕ → List ℕ → List ℕ
crypted d key ws = pass d (λ r. round d key (sum_in (r + 1))) (rounds_for (length ws)) ws

abbrev pub enciphered : List ℕ → List ℕ → List ℕ
enciphered = crypted up

abbrev pub deciphered : List ℕ → List ℕ → List ℕ
deciphered = crypted down

-- The refusal number of each answer, and the one owed: "17, cipher word count outside 2 to 1,024".
abbrev pub refusal : Result (Unit {0}) WrongLength → Option ℕ
refusal (Ok _) = None
refusal (Err _) = Some 17

abbrev pub refused : ℕ → Option ℕ
refused n = cond (taken n) None (Some 17)
