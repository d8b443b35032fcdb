-- Where document 01, or L4 of document 02, can be read in two ways and more than one command tells the readings apart: inputs,
-- with the answers of the reading that is taken. Borders.antt has the others. docs/DECISIONS.md has each question under the name
-- used here. Assumes nothing.
use Rattle.std.specs.Prelude.{ℕ, ◌+◌, ◌*◌, List, [], ◌∷◌, ◌++◌, replicate, None, Some}
use Rattle.rules.specs.Bytes.{put}
use Rattle.rules.specs.Command.{write, done, refused, insert}
use Rattle.rules.specs.Examples.{Example, sends, begin, counter_tag, host_id, host_tag, runs}

-- a whole read needs 1 + count of room also where it is refused; a short body is a 15 and needs 2; a 15 without room
-- is a 16 and writes nothing; the command that stops the run adds nothing to the bytes read
unfoldable pub log_room : List Example
log_room =
    runs 8 (begin counter_tag) (0x00 ∷ 0x12 ∷ 0 ∷ 0 ∷ 0 ∷ 16 ∷ []) 1 (0x50 ∷ []) (Some 16)
    ∷ runs 10 (begin counter_tag) (0x00 ∷ 0x12 ∷ 0 ∷ 0 ∷ 0 ∷ 16 ∷ []) 6 (0x50 ∷ 0x51 ∷ 4 ∷ []) None
    ∷ runs 3 (begin counter_tag) (0x00 ∷ 0x14 ∷ 0 ∷ 0 ∷ 0 ∷ []) 1 (0x50 ∷ 0x51 ∷ 15 ∷ []) (Some 15)
    ∷ runs 2 (begin counter_tag) (0x00 ∷ 0x15 ∷ []) 1 (0x50 ∷ []) (Some 16)
    ∷ []

-- row i of the list, with a first byte of its id, and the segment number plus one
unfoldable pub listing : (i id named : ℕ) → List ℕ → List ℕ
listing i id named t = put (8192 + 18 * i) (id ∷ replicate 15 0 ++ 0 ∷ named ∷ []) t

-- an insertion writes its own row only, so that rows behind the old end may join the list: then the unit that one of them
-- names takes no edit
unfoldable pub stale_rows : List Example
stale_rows =
    sends (begin (listing 1 9 2 host_tag))
    (write 12325 (3 ∷ []) ∷ insert 0 (host_id 1) ∷ write 12325 (0 ∷ []) ∷ insert 1 (host_id 2) ∷ [])
    (done ∷ done ∷ refused 13 ∷ refused 19 ∷ [])
    ∷ []

unfoldable pub readings : List Example
readings = log_room ++ stale_rows
