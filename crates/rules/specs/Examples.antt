-- Document 01, "Drawer examples": those marked * as one list; and "Errors that look right". Assumes nothing.
use Rattle.std.specs.Prelude.{ℕ, ◌≡◌, ◌≢◌, true, List, [], ◌∷◌, ◌++◌, map, replicate, None, Option}
use Rattle.rules.specs.Bytes.{put, xor}
use Rattle.rules.specs.Map.{register_at, sound}
use Rattle.rules.specs.State.{Cipher, State, powered_up, with_pa}
use Rattle.rules.specs.Answers.{code_of}
use Rattle.rules.specs.Command.{Command, Reply, write, done, refused, read, gives, advance, insert, power_up, refusal}
use Rattle.rules.specs.Run.{replies, final}
use Rattle.rules.specs.Log.{run_log}
use Rattle.rules.specs.Demand3.{LockedCounter}

-- "One-segment tag, .. else zeros apart from A = 1", with the unit's first two bytes
unfoldable pub tag_with : (control model : ℕ) → List ℕ
tag_with control model = 0 ∷ 1 ∷ replicate 12286 0 ++ control ∷ model ∷ replicate 8190 0

unfoldable pub counter_tag : List ℕ
counter_tag = tag_with 0xA5 0x02

-- eight bytes, the last two given
unfoldable pub eight : ℕ → ℕ → List ℕ
eight x y = 0 ∷ 0 ∷ 0 ∷ 0 ∷ 0 ∷ 0 ∷ x ∷ y ∷ []

-- a cipher that can be computed by hand, and that depends on its key
abbrev pub xor_cipher : Cipher
xor_cipher = λ key block. xor block key

-- after power-up, and with PA naming a PIN index in its first two bytes
unfoldable pub begin : List ℕ → State
begin t = record { tag = t; session = powered_up }

unfoldable pub naming : (high low : ℕ) → List ℕ → State
naming high low t = record { tag = t; session = with_pa (high ∷ low ∷ replicate 14 0) powered_up }

-- what is sent from a state, and what is owed: answers to commands, one after another; the number of each command by
-- itself, 0 for a grant; or bytes read, bytes written and stop of a log run in `room` bytes
pub data Example : Type 0 where
  sends : State → List Command → List Reply → Example
  asks : State → List (Command × ℕ) → Example
  runs : (room : ℕ) → State → List ℕ → (taken : ℕ) → List ℕ → (stop : Option ℕ) → Example

pub data Got : Type 0 where
  answers : List Reply → Got
  numbers : List ℕ → Got
  ran : ℕ → List ℕ → Option ℕ → Got

unfoldable pub got : Cipher → Example → Got
got E (sends s cs rs) = answers (replies E s cs)
got E (asks s rows) = numbers (map (λ x. code_of (refusal E s x.0)) rows)
got E (runs room s log n out x) =
    ran (run_log E s log room).taken (run_log E s log room).output (run_log E s log room).stop

unfoldable pub owed : Example → Got
owed (sends s cs rs) = answers rs
owed (asks s rows) = numbers (map (λ x. x.1) rows)
owed (runs room s log n out x) = ran n out x

abbrev pub Hold : Cipher → List Example → Type 0
Hold E es = map (got E) es ≡ map owed es

unfoldable pub starred : List Example
starred =
    runs 12 (begin counter_tag)
    (0x22 ∷ 0 ∷ 0 ∷ 0x40 ∷ 0 ∷ eight 0 1 ++ 0x22 ∷ 0 ∷ 0 ∷ 0x40 ∷ 0 ∷ eight 0 1 ++ 0x12 ∷ 0 ∷ 0 ∷ 0x40 ∷ 0 ∷ [])
    31 (0x50 ∷ 0x51 ∷ 0x12 ∷ 0x42 ∷ eight 0 1) None
    ∷ sends (begin (put 16384 (eight 0 255) counter_tag)) (write 16384 (eight 1 0) ∷ []) (done ∷ [])
    ∷ sends (begin (put 16384 (eight 0 255) counter_tag)) (write 16384 (eight 1 1) ∷ []) (refused 12 ∷ [])
    ∷ sends (begin (put 16384 (replicate 8 255) counter_tag)) (write 16384 (replicate 8 0) ∷ []) (refused 12 ∷ [])
    ∷ sends (begin counter_tag)
    (write 16388 (eight 0 1) ∷ read 16384 0 0 ∷ read 16383 2 2 ∷ read 3983 1 1 ∷ [])
    (refused 12 ∷ refused 2 ∷ refused 3 ∷ refused 4 ∷ [])
    ∷ sends (begin (tag_with 0x21 0x01))
    (read 16384 1 1 ∷ write 16384 (7 ∷ []) ∷ read 16384 1 1 ∷ write 16384 (8 ∷ []) ∷ [])
    (refused 6 ∷ done ∷ gives (7 ∷ []) ∷ refused 6 ∷ [])
    ∷ sends (naming 1 0 (put 12 (1 ∷ []) counter_tag)) (write (register_at 0) (replicate 16 0) ∷ []) (refused 9 ∷ [])
    ∷ sends (naming 0 255 (put 12 (1 ∷ []) counter_tag)) (write (register_at 0) (replicate 16 0) ∷ []) (refused 10 ∷ [])
    ∷ sends (begin (tag_with 0x81 0x23)) (advance 0 ∷ []) (refused 14 ∷ [])
    ∷ []

-- demand 3 is not empty: the first example's tag is sound, and its segment a locked counter segment
pub record NotEmpty : Type 0 where
  pub tag_sound : sound counter_tag ≡ true
  pub segment_locked : LockedCounter counter_tag 0

-- ---- model 3 from stage to stage: it stores, then XORs, then is read only; its unit's first bytes move with it

unfoldable pub stages : List Example
stages =
    sends (begin (tag_with 0x25 0x03))
    (write 16384 (5 ∷ [])
    ∷ read 16384 1 1
    ∷ advance 0
    ∷ write 16384 (3 ∷ [])
    ∷ read 12288 2 2
    ∷ advance 0
    ∷ read 12288 2 2
    ∷ read 16384 1 1
    ∷ write 16384 (0 ∷ [])
    ∷ advance 0
    ∷ [])
    (done
    ∷ refused 6
    ∷ done
    ∷ done
    ∷ gives (0x25 ∷ 0x13 ∷ [])
    ∷ done
    ∷ gives (0x85 ∷ 0x23 ∷ [])
    ∷ gives (6 ∷ [])
    ∷ refused 6
    ∷ refused 14
    ∷ [])
    ∷ []

-- ---- document 02, L4: two hosts are inserted. In its slot for the other the first has written the key 50 and the mask 0F,
-- the second the key 30 and the mask 05 (in hexadecimal, first bytes only): the shared key is 0A, and each slot holds the
-- id of the other host, its old key XOR 0A, and no mask. The own slots stay hidden.

unfoldable pub host_tag : List ℕ
host_tag =
    put 12320 (0x21 ∷ 0x04 ∷ []) (put 12288 (0x25 ∷ 0x04 ∷ []) (put 0 (0 ∷ 2 ∷ []) (replicate 24576 0)))

unfoldable pub host_id : ℕ → List ℕ
host_id n = replicate 16 n

unfoldable pub insertions : List Example
insertions =
    sends (begin host_tag)
    (write 16448 (0x50 ∷ replicate 15 0 ++ 0x0F ∷ [])
    ∷ write 20496 (0x30 ∷ replicate 15 0 ++ 0x05 ∷ [])
    ∷ insert 0 (host_id 1)
    ∷ insert 1 (host_id 1)
    ∷ insert 1 (host_id 2)
    ∷ read 16384 1 1
    ∷ read 16432 48 48
    ∷ read 20480 48 48
    ∷ [])
    (done
    ∷ done
    ∷ done
    ∷ refused 19
    ∷ done
    ∷ refused 6
    ∷ gives (host_id 2 ++ 0x5A ∷ replicate 31 0)
    ∷ gives (host_id 1 ++ 0x3A ∷ replicate 31 0)
    ∷ [])
    ∷ []

-- ---- "Errors that look right". 1 and 5 are among the examples above.

-- 2: after a wrong response the flag is set, and the same counter value takes no second guess, not even the right one.
-- 4: with index 7 validated (its PIN is zeros, and so is the counter), a unit that has RDPIN set and names 0 refuses 7,
-- until 0 is validated again, or until power-up.
unfoldable pub errors : List Example
errors =
    sends (begin counter_tag)
    (write (register_at 0) (replicate 16 9) ∷ write (register_at 0) (replicate 16 0) ∷ read 12 1 1 ∷ [])
    (refused 11 ∷ refused 10 ∷ gives (1 ∷ []) ∷ [])
    ∷ sends (naming 0 7 (tag_with 0xC5 0x00))
    (write (register_at 0) (replicate 16 0)
    ∷ read 16384 1 1
    ∷ write (register_at 6) (replicate 16 0)
    ∷ write 4 (eight 0 1)
    ∷ write (register_at 0) (replicate 15 0 ++ 1 ∷ [])
    ∷ read 16384 1 1
    ∷ [])
    (done ∷ refused 7 ∷ done ∷ done ∷ done ∷ gives (0 ∷ []) ∷ [])
    ∷ sends (naming 0 7 (tag_with 0xC5 0x00))
    (write (register_at 0) (replicate 16 0) ∷ read 16384 1 1 ∷ power_up ∷ read 16384 1 1 ∷ [])
    (done ∷ refused 7 ∷ done ∷ gives (0 ∷ []) ∷ [])
    ∷ []

-- 3: "Calling a repeated XOR write or register write harmless." The second XOR write takes the first one back. The
-- second NAME write, after the next counter value, sets the flag again and makes another name. Both are granted.

unfoldable pub xor_write : Command
xor_write = write 16384 (1 ∷ [])

unfoldable pub name_write : Command
name_write = write (register_at 3) (replicate 16 5)

-- model 3 at stage 1
unfoldable pub xor_state : State
xor_state = begin (tag_with 0x21 0x13)

unfoldable pub name_state : State
name_state = begin counter_tag

pub record RepeatsChange : Type 0 where
  pub xor_granted : replies xor_cipher xor_state (xor_write ∷ xor_write ∷ []) ≡ done ∷ done ∷ []
  pub xor_changes : final xor_cipher xor_state (xor_write ∷ xor_write ∷ []) ≢ final xor_cipher xor_state (xor_write ∷ [])
  pub name_granted : replies xor_cipher name_state (name_write ∷ write 4 (eight 0 1) ∷ name_write ∷ [])
      ≡ done ∷ done ∷ done ∷ []
  pub name_changes : final xor_cipher name_state (name_write ∷ write 4 (eight 0 1) ∷ name_write ∷ [])
      ≢ final xor_cipher name_state (name_write ∷ write 4 (eight 0 1) ∷ [])
