-- Each rule at its border, as Borders.antt has them: whole commands, and the command log. All is computed. Assumes nothing.
use Rattle.std.specs.Prelude.{ℕ, ◌-◌, ◌≡◌, Bool, true, false, List, [], ◌∷◌, ◌++◌, length, drop, replicate, None, Option, Some}
use Rattle.rules.specs.declared.Session.{Session}
use Rattle.rules.specs.Bytes.{put}
use Rattle.rules.specs.Hosts.{Host}
use Rattle.rules.specs.State.{State, state, powered_up, pin, owner}
use Rattle.rules.specs.Refusals.{list_refuses}
use Rattle.rules.specs.Effects.{Store, ◌↤◌}
use Rattle.rules.specs.Command.{Command, read, write, advance, insert, power_up, Reply, done, gives, refused, stores, new_session}
use Rattle.rules.specs.Log.{first, encoded, room_for}
use Rattle.rules.specs.Examples.{Example, asks, Hold, xor_cipher, eight, host_id}
use Rattle.rules.specs.Borders.{Table, counted, below, unit_with, plain_unit, host}

-- ---- the commands: counts, places, the header, registers; and of each table in Borders.antt that it is asked, with the
-- session, the unit and the bytes that its sentence names

abbrev pub padded : ℕ → List ℕ → List ℕ
padded n bs = bs ++ replicate (n - length bs) 0

-- A = 5, P = 1, the counter and the first slot of segment 0 at 255; owner PIN 3 and PIN 1; a host, of segment 3. Units are
-- at 12288 + 32k, segments at 16384 + 4096k, the public one is at 36864.
unfoldable pub border_tag : List ℕ
border_tag =
    padded 4096 (0 ∷ 5 ∷ 0 ∷ 1 ∷ eight 0 255 ++ replicate 52 0 ++ replicate 16 9)
    ++ padded 4096 (replicate 16 0 ++ replicate 16 5)
    ++ padded 4096 (host_id 9 ++ 0 ∷ 4 ∷ [])
    ++ padded 4096
    (unit_with 0xF9 0x02 1 2 3 7
    ++ plain_unit 0x02 0x00
    ++ plain_unit 0x21 0x04
    ++ plain_unit 0x81 0x14
    ++ unit_with 0x30 0x04 0 2 0 0)
    ++ padded 24576 (eight 0 255)

abbrev pub KeysFound : Type 0
KeysFound = (pin border_tag 1 ≡ replicate 16 5) × (owner border_tag 3 ≡ replicate 16 9)

-- a session with these indexes, a byte of its name, and PA: PIN index, owner index, and a byte of the guard
abbrev pub session : (r w e name : ℕ) (pa : List ℕ) (guard : ℕ) → Session
session r w e name pa guard =
    record {
      read = r;
      write = w;
      edit = e;
      name = replicate 16 name;
      id = replicate 16 0;
      pa = pa ++ replicate 12 guard;
    }

abbrev pub knowing : (r w e name : ℕ) → State
knowing r w e name = state border_tag (session r w e name (0 ∷ 0 ∷ 0 ∷ 0 ∷ []) 0)

abbrev pub pointing : (index owner : List ℕ) → State
pointing index owner = state border_tag (session 0 0 0 0 (index ++ owner) 15)

-- the response by PIN 1, and by a PIN of zeros
unfoldable pub right : List ℕ
right = replicate 15 5 ++ 250 ∷ []

unfoldable pub zero_right : List ℕ
zero_right = replicate 15 0 ++ 255 ∷ []

unfoldable pub refusals : List Example
refusals =
    -- 1
    asks (state (put 12 (2 ∷ []) border_tag) powered_up)
    ((read 0 1 1, 1)
    ∷ (write 4 (eight 1 0), 1)
    ∷ (advance 0, 1)
    ∷ (insert 2 (host_id 1), 1)
    ∷ (power_up, 0)
    ∷ [])
    ∷ asks (state (replicate 5 0) powered_up) ((read 0 1 1, 1) ∷ (advance 0, 1) ∷ (power_up, 0) ∷ [])
    -- 2
    ∷ asks (state border_tag powered_up)
    ((read 0 0 0, 2)
    ∷ (read 8192 4096 4096, 0)
    ∷ (read 8192 4097 4097, 2)
    ∷ (read 0 2 1, 2)
    ∷ (read 100 4 3, 2)
    ∷ (read 40960 1 0, 2)
    ∷ (read 0 2 2, 0)
    ∷ (write 36864 [], 2)
    ∷ (write 36864 (replicate 4096 1), 0)
    ∷ (write 36864 (replicate 4097 1), 2)
    -- 3, 4, and what is open to all
    ∷ (read 40960 1 1, 3)
    ∷ (write 40960 (1 ∷ []), 3)
    ∷ (read 0 16 16, 0)
    ∷ (read 16 1 1, 4)
    ∷ (read 3984 16 16, 4)
    ∷ (read 4000 16 16, 4)
    ∷ (read 4016 16 16, 4)
    ∷ (read 4032 16 16, 4)
    ∷ (read 4048 16 16, 4)
    ∷ (read 4064 16 16, 4)
    ∷ (read 4080 16 16, 4)
    ∷ (read 4112 16 16, 4)
    ∷ (read 8192 18 18, 0)
    ∷ (read 12448 1 1, 4)
    ∷ (read 36864 1 1, 0)
    ∷ (write 16 (1 ∷ []), 4)
    ∷ (write 4112 (replicate 16 1), 4)
    ∷ (write 8192 (1 ∷ []), 4)
    ∷ (write 12448 (0 ∷ []), 4)
    ∷ (write 36864 (1 ∷ []), 0)
    -- the header: 4, 12, 18
    ∷ (write 4 (eight 1 0), 0)
    ∷ (write 4 (eight 0 255), 18)
    ∷ (write 4 (eight 1 1), 12)
    ∷ (write 4 (eight 0 254), 12)
    ∷ (write 5 (eight 1 0), 4)
    ∷ (write 4 (0 ∷ 0 ∷ 0 ∷ 0 ∷ 0 ∷ 1 ∷ 0 ∷ []), 4)
    ∷ (write 4 (0 ∷ eight 1 0), 4)
    ∷ (write 12 (0 ∷ []), 4)
    -- units and segments: a covered name, ill-formed units, a listed segment, edits, advances, insertions
    ∷ (read 12288 16 16, 0)
    ∷ (read 12288 17 17, 6)
    ∷ (read 12320 1 1, 5)
    ∷ (read 20480 1 1, 5)
    ∷ (read 28672 1 1, 6)
    ∷ (write 12357 (3 ∷ []), 0)
    ∷ (write 12354 (3 ∷ []), 13)
    ∷ (write 12389 (3 ∷ []), 13)
    ∷ (advance 1, 5)
    ∷ (advance 5, 3)
    ∷ (insert 2 (host_id 1), 0)
    ∷ (insert 2 (host_id 0), 19)
    ∷ (insert 2 (host_id 9), 19)
    ∷ (insert 3 (host_id 1), 14)
    ∷ (insert 1 (host_id 1), 5)
    ∷ (insert 4 (host_id 0), 7)
    ∷ (insert 5 (host_id 1), 3)
    ∷ [])
    ∷ asks (knowing 1 9 9 7)
    ((read 16384 1 1, 0)
    ∷ (write 16384 (eight 0 255), 7)
    ∷ (write 12297 (0 ∷ []), 7)
    ∷ (advance 0, 7)
    ∷ (insert 0 (host_id 1), 7)
    ∷ [])
    ∷ asks (knowing 9 2 9 7)
    ((read 16384 1 1, 7)
    ∷ (write 16384 (eight 1 0), 0)
    ∷ (write 16392 (eight 0 1), 0)
    ∷ (write 16388 (eight 0 1), 12)
    ∷ (advance 0, 14)
    ∷ (insert 0 (host_id 1), 14)
    ∷ (insert 4 (host_id 0), 14)
    ∷ [])
    ∷ asks (knowing 1 2 3 8)
    ((read 16384 1 1, 8)
    ∷ (write 16384 (eight 1 0), 8)
    ∷ (write 12297 (0 ∷ []), 0)
    ∷ (advance 0, 8)
    ∷ (insert 0 (host_id 1), 8)
    ∷ [])
    -- registers: 9, 11
    ∷ asks (pointing (0 ∷ 1 ∷ []) (0 ∷ 3 ∷ []))
    ((write 3984 right, 0)
    ∷ (write 3984 zero_right, 11)
    ∷ (write 3984 (replicate 15 5), 9)
    ∷ (write 3992 (eight 0 0), 9)
    ∷ (write 3984 (replicate 17 5), 3)
    ∷ (write 4000 right, 0)
    ∷ (write 4000 zero_right, 11)
    ∷ (write 4000 (replicate 15 5), 9)
    ∷ (write 4016 right, 0)
    ∷ (write 4016 zero_right, 11)
    ∷ (write 4016 (replicate 15 5), 9)
    ∷ (write 4032 zero_right, 0)
    ∷ (write 4032 (replicate 15 5), 9)
    ∷ (write 4048 zero_right, 0)
    ∷ (write 4048 (replicate 15 5), 9)
    ∷ (write 4064 (replicate 16 6), 0)
    ∷ (write 4064 (replicate 16 7), 11)
    ∷ (write 4064 (replicate 15 6), 9)
    ∷ (write 4080 zero_right, 0)
    ∷ (write 4080 (replicate 15 5), 9)
    ∷ [])
    ∷ asks (pointing (0 ∷ 1 ∷ []) (0 ∷ 0 ∷ [])) ((write 4064 (replicate 16 15), 0) ∷ (write 4064 (replicate 16 6), 11) ∷ [])
    ∷ asks (pointing (0 ∷ 0 ∷ []) (0 ∷ 3 ∷ []))
    ((write 3984 zero_right, 0)
    ∷ (write 3984 (replicate 8 0 ++ 255 ∷ replicate 7 0), 11)
    ∷ (write 4064 (replicate 16 6), 9)
    ∷ [])
    ∷ asks (pointing (0 ∷ 255 ∷ []) (0 ∷ 3 ∷ []))
    ((write 3984 zero_right, 0) ∷ (write 4032 zero_right, 0) ∷ (write 4064 (replicate 16 6), 0) ∷ [])
    ∷ asks (pointing (0 ∷ 1 ∷ []) (0 ∷ 4 ∷ [])) ((write 3984 right, 0) ∷ (write 4064 (replicate 16 6), 9) ∷ [])
    ∷ asks (pointing (0 ∷ 1 ∷ []) (1 ∷ 3 ∷ [])) ((write 3984 right, 0) ∷ (write 4064 (replicate 16 6), 9) ∷ [])
    ∷ asks (pointing (1 ∷ 0 ∷ []) (0 ∷ 3 ∷ []))
    ((write 3984 zero_right, 9)
    ∷ (write 4000 zero_right, 9)
    ∷ (write 4016 zero_right, 9)
    ∷ (write 4032 zero_right, 9)
    ∷ (write 4048 zero_right, 0)
    ∷ (write 4064 (replicate 16 6), 9)
    ∷ (write 4080 zero_right, 0)
    ∷ [])
    -- the flag is set: 10
    ∷ asks (state (put 12 (1 ∷ []) border_tag) (session 0 0 0 0 (0 ∷ 1 ∷ 0 ∷ 3 ∷ []) 15))
    ((write 3984 right, 10)
    ∷ (write 4000 right, 10)
    ∷ (write 4016 right, 10)
    ∷ (write 4032 right, 10)
    ∷ (write 4048 right, 0)
    ∷ (write 4064 (replicate 16 6), 10)
    ∷ (write 4080 right, 0)
    ∷ (write 4 (eight 1 0), 0)
    ∷ [])
    ∷ []

abbrev pub RefusalsGiven : Type 0
RefusalsGiven = Hold xor_cipher refusals

-- 19: the id of a host that is to have segment 2, and the list. On this tag A is 5. Segments 0 and 4 are at stage 1, 1 would
-- be if it were well formed, 2 and 3 are at stage 0; and behind the units the next bytes would be one at stage 1. A list of 85
-- rows that all fit needs a larger tag: that no more are taken is shown by the proofs of L4's claims.

unfoldable pub list_tag : List ℕ
list_tag =
    padded 12288 (0 ∷ 5 ∷ [])
    ++ plain_unit 0x81 0x14
    ++ plain_unit 0xA1 0x14
    ++ plain_unit 0x21 0x04
    ++ plain_unit 0x21 0x04
    ++ plain_unit 0x81 0x14
    ++ plain_unit 0x81 0x14

unfoldable pub insert_borders : List ((List ℕ × List Host) × Bool)
insert_borders =
    ((host_id 1, []), false)
    ∷ ((host_id 0, []), true)
    ∷ ((replicate 15 1, []), true)
    ∷ ((host_id 1, host 9 5 ∷ host 8 1 ∷ []), false)
    ∷ ((host_id 8, host 9 5 ∷ host 8 1 ∷ []), true)
    ∷ ((host_id 1, host 9 5 ∷ host 9 1 ∷ []), true)
    ∷ ((host_id 1, host 9 5 ∷ host 8 5 ∷ []), true)
    ∷ ((host_id 1, host 8 0 ∷ []), true)
    ∷ ((host_id 1, host 8 2 ∷ []), true)
    ∷ ((host_id 1, host 8 3 ∷ []), true)
    ∷ ((host_id 1, host 8 4 ∷ []), true)
    ∷ ((host_id 1, host 8 6 ∷ []), true)
    ∷ []

abbrev pub InsertionsJudged : Type 0
InsertionsJudged = Table (λ x. list_refuses list_tag 2 x.0 x.1) insert_borders

-- what commands store, and the session after them

unfoldable pub holder : State
holder = state border_tag (session 8 2 3 7 (0 ∷ 1 ∷ 0 ∷ 3 ∷ []) 15)

unfoldable pub effects : List (Command × (List Store × Session))
effects =
    (read 0 1 1, ([], holder.session))
    ∷ (write 4 (eight 1 0), ((4 ↤ eight 1 0) ∷ (12 ↤ (0 ∷ [])) ∷ [], holder.session))
    ∷ (write 3984 right, ((12 ↤ (1 ∷ [])) ∷ [], session 1 2 3 7 (0 ∷ 1 ∷ 0 ∷ 3 ∷ []) 15))
    ∷ (write 4000 right, ((12 ↤ (1 ∷ [])) ∷ [], session 8 1 3 7 (0 ∷ 1 ∷ 0 ∷ 3 ∷ []) 15))
    ∷ (write 4016 right, ((12 ↤ (1 ∷ [])) ∷ [], session 8 2 1 7 (0 ∷ 1 ∷ 0 ∷ 3 ∷ []) 15))
    ∷ (write 4032 zero_right, ((12 ↤ (1 ∷ [])) ∷ [], session 8 2 3 5 (0 ∷ 1 ∷ 0 ∷ 3 ∷ []) 15))
    ∷ (
      write 4048 (host_id 4),
      (
        [],
        record {
          read = 8;
          write = 2;
          edit = 3;
          name = host_id 7;
          id = host_id 4;
          pa = 0 ∷ 1 ∷ 0 ∷ 3 ∷ replicate 12 15;
        },
      ),
    )
    ∷ (
      write 4064 (replicate 16 6),
      ((12 ↤ (1 ∷ [])) ∷ (4112 ↤ (replicate 15 15 ++ 240 ∷ [])) ∷ [], holder.session),
    )
    ∷ (write 4080 (replicate 16 4), ([], session 8 2 3 7 (4 ∷ 4 ∷ 4 ∷ 4 ∷ []) 4))
    ∷ (write 12357 (3 ∷ []), ((12357 ↤ (3 ∷ [])) ∷ [], holder.session))
    ∷ (write 16384 (eight 1 0), ((16384 ↤ eight 1 0) ∷ [], holder.session))
    ∷ (write 36864 (1 ∷ 2 ∷ []), ((36864 ↤ (1 ∷ 2 ∷ [])) ∷ [], holder.session))
    ∷ (power_up, ([], session 0 0 0 0 (0 ∷ 0 ∷ 0 ∷ 0 ∷ []) 0))
    ∷ []

abbrev pub EffectsStored : Type 0
EffectsStored = Table (λ c. (stores xor_cipher holder c, new_session xor_cipher holder c)) effects

-- ---- the command log: the kinds, the shortest body of each, one byte less, and more bytes behind a body; the replies and
-- the room for them

unfoldable pub known : Option (Command × ℕ) → Bool
known None = false
known (Some x) = true

abbrev pub KindsKnown : Type 0
KindsKnown =
    below 256 (λ b. known (first b (counted 36)))
    ≡ 0x00 ∷ 0x11 ∷ 0x12 ∷ 0x13 ∷ 0x14 ∷ 0x21 ∷ 0x22 ∷ 0x23 ∷ 0x24 ∷ 0x31 ∷ 0x32 ∷ []

unfoldable pub kind_borders : List ((ℕ × ℕ) × Option (Command × ℕ))
kind_borders =
    ((0x00, 0), Some (power_up, 0))
    ∷ ((0x11, 3), None)
    ∷ ((0x11, 4), Some (read 0x010203 1 1, 4))
    ∷ ((0x12, 3), None)
    ∷ ((0x12, 4), Some (read 0x010203 8 8, 4))
    ∷ ((0x13, 3), None)
    ∷ ((0x13, 4), Some (read 0x010203 16 16, 4))
    ∷ ((0x14, 3), None)
    ∷ ((0x14, 4), Some (read 0x010203 32 32, 4))
    ∷ ((0x21, 4), None)
    ∷ ((0x21, 5), Some (write 0x010203 (4 ∷ []), 5))
    ∷ ((0x22, 11), None)
    ∷ ((0x22, 12), Some (write 0x010203 (4 ∷ 5 ∷ 6 ∷ 7 ∷ 8 ∷ 9 ∷ 10 ∷ 11 ∷ []), 12))
    ∷ ((0x23, 19), None)
    ∷ ((0x23, 20), Some (write 0x010203 (drop 4 (counted 20)), 20))
    ∷ ((0x24, 35), None)
    ∷ ((0x24, 36), Some (write 0x010203 (drop 4 (counted 36)), 36))
    ∷ ((0x31, 1), None)
    ∷ ((0x31, 2), Some (advance 1, 2))
    ∷ ((0x32, 17), None)
    ∷ ((0x32, 18), Some (insert 1 (drop 2 (counted 18)), 18))
    ∷ ((0x00, 40), Some (power_up, 0))
    ∷ ((0x11, 40), Some (read 0x010203 1 1, 4))
    ∷ ((0x21, 40), Some (write 0x010203 (4 ∷ []), 5))
    ∷ ((0x31, 40), Some (advance 1, 2))
    ∷ ((0x32, 40), Some (insert 1 (drop 2 (counted 18)), 18))
    ∷ []

abbrev pub KindsRead : Type 0
KindsRead = Table (λ x. first x.0 (counted x.1)) kind_borders

unfoldable pub reply_borders : List (Reply × List ℕ)
reply_borders =
    (done, 0x50 ∷ [])
    ∷ (refused 12, 0x51 ∷ 12 ∷ [])
    ∷ (gives (counted 1), 0x41 ∷ counted 1)
    ∷ (gives (counted 8), 0x42 ∷ counted 8)
    ∷ (gives (counted 16), 0x43 ∷ counted 16)
    ∷ (gives (counted 32), 0x44 ∷ counted 32)
    ∷ []

abbrev pub RepliesEncoded : Type 0
RepliesEncoded = Table encoded reply_borders

unfoldable pub room_borders : List (Command × ℕ)
room_borders =
    (read 0 1 1, 2)
    ∷ (read 0 32 32, 33)
    ∷ (write 0 (0 ∷ []), 2)
    ∷ (advance 0, 2)
    ∷ (insert 0 (host_id 0), 2)
    ∷ (power_up, 2)
    ∷ []

abbrev pub RoomAsked : Type 0
RoomAsked = Table room_for room_borders

pub record CommandBorders : Type 0 where
  pub keys_found : KeysFound
  pub refusals_given : RefusalsGiven
  pub insertions_judged : InsertionsJudged
  pub effects_stored : EffectsStored
  pub kinds_known : KindsKnown
  pub kinds_read : KindsRead
  pub replies_encoded : RepliesEncoded
  pub room_asked : RoomAsked
