-- XXTEA on blocks of bytes: document 01, "The cipher": "A PIN is the key and a block is 16 bytes; both split into
-- four words, low byte first." Assumes nothing.
use Rattle.std.specs.Prelude.{ℕ, ◌+◌, ◌*◌, ◌/◌, ◌%◌, ◌^◌, List, [], ◌∷◌}
use Rattle.xxtea.specs.Xxtea.{Direction, up, crypted}

-- four bytes make a word; fewer make none
unfoldable pub words_of : List ℕ → List ℕ
words_of [] = []
words_of (a ∷ []) = []
words_of (a ∷ b ∷ []) = []
words_of (a ∷ b ∷ c ∷ []) = []
words_of (a ∷ b ∷ c ∷ d ∷ bs) = (a + 2 ^ 8 * b + 2 ^ 16 * c + 2 ^ 24 * d) ∷ words_of bs

unfoldable pub bytes_of : List ℕ → List ℕ
bytes_of [] = []
bytes_of (w ∷ ws) = (w % 2 ^ 8) ∷ (w / 2 ^ 8 % 2 ^ 8) ∷ (w / 2 ^ 16 % 2 ^ 8) ∷ (w / 2 ^ 24 % 2 ^ 8) ∷ bytes_of ws

-- a block by a key, in either direction
unfoldable pub block_by : Direction → (key block : List ℕ) → List ℕ
block_by d key block = bytes_of (crypted d (words_of key) (words_of block))

-- "E_K" of document 01: a block enciphered by a key
abbrev pub E : (key block : List ℕ) → List ℕ
E = block_by up
