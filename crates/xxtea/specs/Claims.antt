-- What is proved of the cipher's definitions. Assumes nothing.
use Rattle.std.specs.Prelude.{◌≡◌, ℕ, ◌*◌, ◌%◌, ◌^◌, ◌<◌, false, List, length, slice_index}
use Rattle.xxtea.specs.Xxtea.{taken, sum_in, Direction, up, down, crypted, enciphered, deciphered}
use Rattle.xxtea.specs.Block.{block_by}

-- every element is a word
abbrev pub Words : List ℕ → Type 0
Words ws = (i : ℕ) → i < length ws → slice_index ws i < 2 ^ 32

-- "enciphering and deciphering, each undoing the other" (demand 2): for every key and every list of words, whatever
-- its length
pub record EachUndoesTheOther : Type 0 where
  pub deciphering : (key ws : List ℕ) → Words ws → deciphered key (enciphered key ws) ≡ ws
  pub enciphering : (key ws : List ℕ) → Words ws → enciphered key (deciphered key ws) ≡ ws

-- "A refused .. cipher call .. changes nothing"
abbrev pub RefusedUnchanged : Type 0
RefusedUnchanged = (d : Direction) (key ws : List ℕ) → taken (length ws) ≡ false → crypted d key ws ≡ ws

-- "Deciphering starts with sum = rounds x D": so the sums have this closed form
abbrev pub SumIsProduct : Type 0
SumIsProduct = (r : ℕ) → r * 0x9E37_79B9 % 2 ^ 32 ≡ sum_in r

-- every element is a byte
abbrev pub Bytes : List ℕ → Type 0
Bytes bs = (i : ℕ) → i < length bs → slice_index bs i < 2 ^ 8

-- a block of 16 bytes gives 16, and each direction undoes the other
pub record BlockCipher : Type 0 where
  pub sixteen : (d : Direction) (key block : List ℕ) → length block ≡ 16 → length (block_by d key block) ≡ 16
  pub deciphering : (key block : List ℕ) → Bytes block → length block ≡ 16
      → block_by down key (block_by up key block) ≡ block
  pub enciphering : (key block : List ℕ) → Bytes block → length block ≡ 16
      → block_by up key (block_by down key block) ≡ block
