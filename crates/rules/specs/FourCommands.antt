-- Document 01, "Drawer examples", the last: "a host that knows the PIN reads after four uninterrupted commands: PA,
-- counter, READ, read". Assumes nothing.
use Rattle.std.specs.Prelude.{ℕ, ◌+◌, ◌-◌, ◌^◌, ◌≤◌, ◌<◌, ◌≡◌, true, false, List, [], ◌∷◌, ◌++◌, length}
use Rattle.rules.specs.Bytes.{bytes_of, part}
use Rattle.rules.specs.Map.{register_at, counter, sound, segments, segment_at}
use Rattle.rules.specs.Units.{well_formed, unit_bytes, unit_of}
use Rattle.rules.specs.Refusals.{is_shared_key}
use Rattle.rules.specs.State.{Cipher, enciphered_counter, pin, State}
use Rattle.rules.specs.Command.{Command, write, read, done, gives}
use Rattle.rules.specs.Run.{replies}

-- The host names PIN index i in PA, the rest of which is any 14 bytes; writes the counter plus one; writes the
-- response by the PIN and that counter; and reads the n bytes at a.
unfoldable pub four_commands : Cipher → (t : List ℕ) (i : ℕ) (rest : List ℕ) (a n room : ℕ) → List Command
four_commands E t i rest a n room =
    write (register_at 6) (bytes_of 2 i ++ rest)
    ∷ write 4 (bytes_of 8 (counter t + 1))
    ∷ write (register_at 0) (enciphered_counter E (pin t i) (bytes_of 8 (counter t + 1)))
    ∷ read a n room
    ∷ []

-- "For a segment with RD set, PN clear and a well-formed unit, on a sound tag with counter below 2^64 - 1": segment k
-- of the tag t, of which the n bytes at a are read. Document 02, L4: "the four-command case excepts model 4"
pub record HostMayRead (t : List ℕ) (k a n room : ℕ) (rest : List ℕ) : Type 0 where
  pub tag_sound : sound t ≡ true
  pub counter_below : counter t < 2 ^ 64 - 1
  pub there : k < segments t
  pub formed : well_formed (unit_bytes t k) ≡ true
  pub rd_set : (unit_of (unit_bytes t k)).rd ≡ true
  pub pn_clear : (unit_of (unit_bytes t k)).pn ≡ false
  pub other_model : is_shared_key (unit_of (unit_bytes t k)).model ≡ false
  pub some_bytes : 1 ≤ n
  pub fits : n ≤ room
  pub starts_inside : segment_at (segments t) k ≤ a
  pub ends_inside : a + n ≤ segment_at (segments t) k + 4096
  pub fourteen : length rest ≡ 14

-- of the cipher it is assumed only that a block of 16 bytes gives 16
abbrev pub HostReads : Type 0
HostReads =
    (E : Cipher) → ((key block : List ℕ) → length block ≡ 16 → length (E key block) ≡ 16)
    → (s : State) (k a n room : ℕ) (rest : List ℕ) → HostMayRead s.tag k a n room rest
    → replies E s (four_commands E s.tag (unit_of (unit_bytes s.tag k)).read rest a n room)
    ≡ done ∷ done ∷ done ∷ gives (part a n s.tag) ∷ []
