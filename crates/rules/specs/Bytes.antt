-- Bytes and numbers: document 01, "What is built": "Numbers are most significant byte first".
-- A tag, a command's data and an output are lists of bytes. Assumes nothing.
use Rattle.std.specs.Prelude.{ℕ, zero, suc, ◌+◌, ◌*◌, ◌/◌, ◌%◌, ◌≤◌, ◌<◌, Bool, true, false, ◌&&◌, List, [], ◌∷◌, ◌++◌, take, drop, get_or, eqb}
use Rattle.std.specs.Int.Bits.{bit_xor}

-- the byte at `at`
abbrev pub byte : ℕ → List ℕ → ℕ
byte at t = get_or t at 0

-- the `n` bytes at `at`
unfoldable pub part : ℕ → ℕ → List ℕ → List ℕ
part at n t = take n (drop at t)

-- `t` with `bs` in place of the bytes at `at`, as far as `t` reaches
unfoldable pub put : ℕ → List ℕ → List ℕ → List ℕ
put at bs [] = []
put zero [] (x ∷ t) = x ∷ t
put zero (b ∷ bs) (x ∷ t) = b ∷ put zero bs t
put (suc at) bs (x ∷ t) = x ∷ put at bs t

-- the whole number of some bytes; `n` stands for the bytes before them
unfoldable pub number_from : ℕ → List ℕ → ℕ
number_from n [] = n
number_from n (b ∷ bs) = number_from (n * 256 + b) bs

abbrev pub number : List ℕ → ℕ
number bs = number_from 0 bs

-- a number as `n` bytes
unfoldable pub bytes_of : ℕ → ℕ → List ℕ
bytes_of zero v = []
bytes_of (suc n) v = bytes_of n (v / 256) ++ (v % 256 ∷ [])

unfoldable pub same : List ℕ → List ℕ → Bool
same [] [] = true
same [] (y ∷ ys) = false
same (x ∷ xs) [] = false
same (x ∷ xs) (y ∷ ys) = eqb x y && same xs ys

unfoldable pub zeros : List ℕ → Bool
zeros [] = true
zeros (x ∷ xs) = eqb x 0 && zeros xs

-- byte by byte, as long as the first
unfoldable pub xor : List ℕ → List ℕ → List ℕ
xor [] ys = []
xor (x ∷ xs) [] = x ∷ xs
xor (x ∷ xs) (y ∷ ys) = bit_xor x y ∷ xor xs ys

-- a list of tests, all of which hold
unfoldable pub all : List Bool → Bool
all [] = true
all (b ∷ bs) = b && all bs

-- no byte is both among the n at a and among the m at x
abbrev pub Apart : ℕ → ℕ → ℕ → ℕ → Type 0
Apart a n x m = (i : ℕ) → a ≤ i → i < a + n → x ≤ i → i < x + m → ⊥
