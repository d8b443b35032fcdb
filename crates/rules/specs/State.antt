-- Document 01, "The memory map": the session; "What a command does": what PA names, and E_PIN(counter). Assumes
-- nothing.
use Rattle.std.specs.Prelude.{ℕ, List, ◌++◌, replicate}
use Rattle.rules.specs.declared.Session.{Session}
use Rattle.rules.specs.Bytes.{number, part}
use Rattle.rules.specs.Map.{counter_bytes, pin_at, owner_at}

-- ---- "The session .. : validated read, write and edit indexes, and the 16-byte name, ID and PA arrays."
-- Of the rules only power-up and the six functions below it name every part of a session.

-- "Power-up makes it all zeros"
unfoldable pub powered_up : Session
powered_up =
    record { read = 0; write = 0; edit = 0; name = replicate 16 0; id = replicate 16 0; pa = replicate 16 0 }

unfoldable pub with_read : ℕ → Session → Session
with_read i v = record { read = i; write = v.write; edit = v.edit; name = v.name; id = v.id; pa = v.pa }

unfoldable pub with_write : ℕ → Session → Session
with_write i v = record { read = v.read; write = i; edit = v.edit; name = v.name; id = v.id; pa = v.pa }

unfoldable pub with_edit : ℕ → Session → Session
with_edit i v = record { read = v.read; write = v.write; edit = i; name = v.name; id = v.id; pa = v.pa }

unfoldable pub with_name : List ℕ → Session → Session
with_name bs v = record { read = v.read; write = v.write; edit = v.edit; name = bs; id = v.id; pa = v.pa }

unfoldable pub with_id : List ℕ → Session → Session
with_id bs v = record { read = v.read; write = v.write; edit = v.edit; name = v.name; id = bs; pa = v.pa }

unfoldable pub with_pa : List ℕ → Session → Session
with_pa bs v = record { read = v.read; write = v.write; edit = v.edit; name = v.name; id = v.id; pa = bs }

-- "The state is every byte of tag and session."
pub record State : Type 0 where
  pub tag : List ℕ
  pub session : Session

abbrev pub state : List ℕ → Session → State
state t v = record { tag = t; session = v }

-- ---- "PA holds PIN index (2), owner index (2), guard (12)"

unfoldable pub pin_index : Session → ℕ
pin_index v = number (part 0 2 v.pa)

unfoldable pub owner_index : Session → ℕ
owner_index v = number (part 2 2 v.pa)

unfoldable pub guard : Session → List ℕ
guard v = part 4 12 v.pa

-- the PIN and the owner PIN at an index
unfoldable pub pin : List ℕ → ℕ → List ℕ
pin t i = part (pin_at i) 16 t

unfoldable pub owner : List ℕ → ℕ → List ℕ
owner t i = part (owner_at i) 16 t

-- ---- the cipher

-- a key and a block of 16 bytes: the block enciphered. The rules hold for every cipher.
abbrev pub Cipher : Type 0
Cipher = List ℕ → List ℕ → List ℕ

-- "E_K(c) enciphers the block of eight zero bytes followed by the 8-byte counter c"
unfoldable pub enciphered_counter : Cipher → List ℕ → List ℕ → List ℕ
enciphered_counter E key c = E key (replicate 8 0 ++ c)

-- E_K(counter), by the counter that the header holds
unfoldable pub response : Cipher → List ℕ → List ℕ → List ℕ
response E key t = enciphered_counter E key (counter_bytes t)
