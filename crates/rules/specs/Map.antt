-- Document 01, "The memory map"; its places by "What a command does". Assumes nothing.
use Rattle.std.specs.Prelude.{ℕ, zero, suc, ◌+◌, ◌-◌, ◌*◌, ◌/◌, Bool, ◌&&◌, cond, List, [], ◌∷◌, length, eqb, leb, ltb, None, Option, Some}
use Rattle.rules.specs.declared.Register.{Register}
use Rattle.rules.specs.declared.Register.TheVariants.{Read, Write, Edit, Name, Id, Commit, Pa}
use Rattle.rules.specs.declared.Place.{Place}
use Rattle.rules.specs.declared.Place.TheVariants.{Header, Hidden, RegisterOf, Pins, Readers, UnitOf, Spare, Segment, Public}
use Rattle.rules.specs.Bytes.{number, part, byte, zeros, all}

-- ---- the header: "A (2), P (2), roll-back counter (8), usage flag (1), three zeros"

unfoldable pub segments : List ℕ → ℕ
segments t = number (part 0 2 t)

unfoldable pub publics : List ℕ → ℕ
publics t = number (part 2 2 t)

-- the bytes of the counter, and its value
abbrev pub counter_bytes : List ℕ → List ℕ
counter_bytes t = part 4 8 t

unfoldable pub counter : List ℕ → ℕ
counter t = number (counter_bytes t)

abbrev pub flag_at : ℕ
flag_at = 12

unfoldable pub flag : List ℕ → ℕ
flag t = byte flag_at t

-- "A access-controlled (1 to 128), P public (0 to 128)"
unfoldable pub most : ℕ
most = 128

-- "Smallest 20,480 bytes, largest 1,064,960."
abbrev pub smallest_tag : ℕ
smallest_tag = 20480

abbrev pub largest_tag : ℕ
largest_tag = 1064960

-- ---- the addresses

-- "owner PINs 0 to 3 at 16, 32, 48, 64"
abbrev pub owner_at : ℕ → ℕ
owner_at i = 16 + 16 * i

-- "registers READ, WRITE, EDIT, NAME, ID, COMMIT, PA, 16 each"
abbrev pub register_at : ℕ → ℕ
register_at i = 3984 + 16 * i

-- "PIN segment, 256 PINs of 16"
abbrev pub pin_at : ℕ → ℕ
pin_at i = 4096 + 16 * i

-- "8192: reader ID segment"
abbrev pub readers_at : ℕ
readers_at = 8192

-- "12288 + 32k: unit of segment k"
abbrev pub unit_at : ℕ → ℕ
unit_at k = 12288 + 32 * k

-- The address rule: how many management segments hold the units, and so where the segments begin, is said here alone. Of
-- the proofs about the rules only those in MapLaws open it, mainly for the law that the units end before the segments.
unfoldable pub managements : ℕ → ℕ
managements A = 1

unfoldable pub segments_at : ℕ → ℕ
segments_at A = unit_at 0 + 4096 * managements A

-- "16384 + 4096k: segment k; public segments follow": they are the numbers A, A + 1, ..
abbrev pub segment_at : ℕ → ℕ → ℕ
segment_at A k = segments_at A + 4096 * k

-- a slot of a counter segment: "eight bytes at a multiple of 8 from the segment's start"
abbrev pub slot_at : ℕ → ℕ → ℕ → ℕ
slot_at A k j = segment_at A k + 8 * j

-- ---- "A tag is sound when its length is 4,096 x (4+A+P), A and P are in range, the flag is 0 or 1, the three zeros
-- hold, and PIN 0 is all zeros"

unfoldable pub soundness : List ℕ → List Bool
soundness t =
    eqb (length t) (segment_at (segments t) (segments t + publics t))
    ∷ leb 1 (segments t)
    ∷ leb (segments t) most
    ∷ leb (publics t) most
    ∷ leb (flag t) 1
    ∷ zeros (part 13 3 t)
    ∷ zeros (part (pin_at 0) 16 t)
    ∷ []

unfoldable pub sound : List ℕ → Bool
sound t = all (soundness t)

-- ---- the table of places

unfoldable pub register_no : ℕ → Register
register_no zero = Read
register_no (suc zero) = Write
register_no (suc (suc zero)) = Edit
register_no (suc (suc (suc zero))) = Name
register_no (suc (suc (suc (suc zero)))) = Id
register_no (suc (suc (suc (suc (suc zero))))) = Commit
register_no (suc (suc (suc (suc (suc (suc n)))))) = Pa

-- a row: `count` places of `size` bytes, one behind the other, the first at `start`
pub data Row : Type 0 where
  row : (start size count : ℕ) → (ℕ → Place) → Row

unfoldable pub rows : ℕ → ℕ → List Row
rows A P =
    row 0 16 1 (λ i. Header)
    ∷ row 16 3968 1 (λ i. Hidden)
    ∷ row (register_at 0) 16 7 (λ i. RegisterOf (register_no i))
    ∷ row (pin_at 0) 4096 1 (λ i. Pins)
    ∷ row readers_at 4096 1 (λ i. Readers)
    ∷ row (unit_at 0) 32 A UnitOf
    ∷ row (unit_at A) (segments_at A - unit_at A) 1 (λ i. Spare)
    ∷ row (segment_at A 0) 4096 A Segment
    ∷ row (segment_at A A) 4096 P Public
    ∷ []

-- "A command must lie wholly inside one place of the map": the `n` bytes at `a`, in the i-th place of a row
unfoldable pub lies_in : (start size count i a n : ℕ) → Bool
lies_in start size count i a n = leb start a && ltb i count && leb (a + n) (start + size * i + size)

unfoldable pub find : List Row → ℕ → ℕ → Option Place
find [] a n = None
find (row start size count place ∷ rs) a n =
    let i = (a - start) / size in cond (lies_in start size count i a n) (Some (place i)) (find rs a n)

-- the place that holds the `n` bytes at `a`
unfoldable pub place_of : List ℕ → ℕ → ℕ → Option Place
place_of t a n = find (rows (segments t) (publics t)) a n
