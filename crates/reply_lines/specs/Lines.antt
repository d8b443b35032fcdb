-- Replies as text: one reply a line in capital hexadecimal, its data or number parted from the code by a space, as
-- `50`, `51 0C` and `42 0000000000000001`. Bytes and characters are numbers. Assumes nothing.
use Rattle.std.specs.Prelude.{ℕ, zero, suc, ◌+◌, ◌-◌, ◌/◌, ◌%◌, min, ◌≡◌, cond, List, [], ◌∷◌, ◌++◌, length, ltb}
use Rattle.rules.specs.Bytes.{put}
use Rattle.rules.specs.Log.{data_length}

-- the character of a digit below 16: `0` is 48 and `A` is 65
unfoldable pub digit_of : ℕ → ℕ
digit_of n = cond (ltb n 10) (48 + n) (55 + n)

unfoldable pub pair_of : ℕ → List ℕ
pair_of b = digit_of (b / 16) ∷ digit_of (b % 16) ∷ []

-- where `left` bytes still belong to a reply, as many do behind its byte `b`; where none do, `b` is a code
unfoldable pub left_behind : (left b : ℕ) → ℕ
left_behind zero code = data_length code
left_behind (suc left) b = left

-- what stands between a byte and the next: behind a reply's last byte the line's end, behind a code a space
unfoldable pub mark_of : (left after : ℕ) → List ℕ
mark_of left zero = 10 ∷ []
mark_of zero (suc after) = 32 ∷ []
mark_of (suc left) (suc after) = []

unfoldable pub text_of : (left after b : ℕ) → List ℕ
text_of left after b = pair_of b ++ mark_of left after

-- the text of some bytes of replies, the first `left` of which belong to a reply that has begun
unfoldable pub lines_in : (left : ℕ) → List ℕ → List ℕ
lines_in left [] = []
lines_in left (b ∷ bs) = text_of left (left_behind left b) b ++ lines_in (left_behind left b) bs

abbrev pub lines_of : List ℕ → List ℕ
lines_of replies = lines_in 0 replies

-- of the characters, as many as the text `old` has room for are stored at `at`, which makes it `new`; it goes on at `to`
pub record Stored (at : ℕ) (characters old new : List ℕ) (to : ℕ) : Type 0 where
  pub stored : new ≡ put at characters old
  pub on : to ≡ at + min (length characters) (length old - at)
