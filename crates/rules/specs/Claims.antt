-- What is claimed of the rules beside demand 3. Theorems.antt says of which ciphers, states and commands. Assumes
-- nothing.
use Rattle.std.specs.Prelude.{ℕ, ◌+◌, ◌-◌, ◌*◌, ◌≤◌, ◌<◌, ◌≡◌, ◌≢◌, ◌⊎◌, Bool, true, false, List, [], ◌∷◌, length, drop, replicate, None, Some}
use Rattle.rules.specs.declared.Stage.TheVariants.{Zero, One, Two}
use Rattle.rules.specs.declared.Session.{Session}
use Rattle.rules.specs.declared.KeyStage.TheVariants.{Filling, Inserted}
use Rattle.rules.specs.declared.Model.{Model}
use Rattle.rules.specs.declared.Model.TheVariants.{Default, WriteOnce, Counter, Receiver, SharedKey}
use Rattle.rules.specs.declared.Place.{Place}
use Rattle.rules.specs.declared.Place.TheVariants.{Spare, Segment}
use Rattle.rules.specs.declared.Refusal.{Refusal}
use Rattle.rules.specs.declared.Refusal.TheVariants.{Unsound, Count, Outside, NeverTaken, Malformed, Forbidden, OtherPin, OtherName, BadRegister, FlagUsed, WrongResponse, NotNext, BadEdit, OtherModel, Repeated, BadInsertion}
use Rattle.rules.specs.declared.Stop.{Stop}
use Rattle.rules.specs.Bytes.{byte, put, part}
use Rattle.rules.specs.Map.{Row, row, rows, segments, publics, place_of, flag, flag_at, readers_at, smallest_tag, largest_tag, sound}
use Rattle.rules.specs.Units.{unit_bytes, unit_of, name_of, bit, model_no, stage_no, model_of}
use Rattle.rules.specs.State.{Cipher, State}
use Rattle.rules.specs.Answers.{Answer, number_of, refusal_of, stop_number, code_of}
use Rattle.rules.specs.Refusals.{Checks, granted, ◌when◌else◌}
use Rattle.rules.specs.Effects.{read_only, advanced, inserted}
use Rattle.rules.specs.Command.{Command, refusal, checks, reply, refused, filled, after, read, advance, insert, write, power_up}
use Rattle.rules.specs.Run.{replies}
use Rattle.rules.specs.Log.{run_log, stopped, first, encoded, room_for, onward, commands}

-- ---- "A command must lie wholly inside one place of the map."

-- the n bytes at a lie wholly in the place p of the table
abbrev pub Within : Place → ℕ → ℕ → List Row → Type 0
Within p a n [] = ⊥
Within p a n (row start size count place ∷ rs) =
    ((i : ℕ) × (i < count) × (p ≡ place i) × (start + size * i ≤ a) × (a + n ≤ start + size * i + size)) ⊎ Within p a n rs

-- the place p of the tag t holds the n bytes at a
abbrev pub Holds : List ℕ → Place → ℕ → ℕ → Type 0
Holds t p a n = Within p a n (rows (segments t) (publics t))

-- a range that lies wholly inside one place is found in that place, and no other range is found; no two places share
-- a byte; each byte of the tag is in a place, and no place reaches beyond the tag
pub record TheMap (t : List ℕ) : Type 0 where
  pub found : (p : Place) (a n : ℕ) → 1 ≤ n → Holds t p a n → place_of t a n ≡ Some p
  pub no_other : (p : Place) (a n : ℕ) → place_of t a n ≡ Some p → Holds t p a n
  pub one_place : (p q : Place) (a n : ℕ) → 1 ≤ n → Holds t p a n → Holds t q a n → p ≡ q
  pub every_byte : (a : ℕ) → a < length t → (p : Place) × (place_of t a 1 ≡ Some p)
  pub in_tag : (p : Place) (a n : ℕ) → place_of t a n ≡ Some p → a + n ≤ length t

-- "the remainder is one spare place": of 128 units there is none
abbrev pub NoSpare : List ℕ → Type 0
NoSpare t = (a n : ℕ) → 1 ≤ n → place_of t a n ≢ Some Spare

-- "Smallest 20,480 bytes, largest 1,064,960": no sound tag is outside, and both are reached
pub record Sizes (t : List ℕ) : Type 0 where
  pub smallest : smallest_tag ≤ length t
  pub largest : length t ≤ largest_tag

pub record SizesReached : Type 0 where
  pub smallest : (t : List ℕ) × (sound t ≡ true) × (length t ≡ smallest_tag)
  pub largest : (t : List ℕ) × (sound t ≡ true) × (length t ≡ largest_tag)

-- "A tag is sound when its length is 4,096 x (4+A+P), A and P are in range, the flag is 0 or 1, the three zeros hold, and
-- PIN 0 is all zeros."
pub record SoundTag (t : List ℕ) : Type 0 where
  pub its_length : length t ≡ 4096 * (4 + segments t + publics t)
  pub least_segments : 1 ≤ segments t
  pub most_segments : segments t ≤ 128
  pub most_publics : publics t ≤ 128
  pub flag_range : flag t ≤ 1
  pub three_zeros : part 13 3 t ≡ replicate 3 0
  pub pin_zero : part 4096 16 t ≡ replicate 16 0

-- these are what soundness asks, and all that it asks
pub record SoundIs (t : List ℕ) : Type 0 where
  pub all_asked : sound t ≡ true → SoundTag t
  pub no_more_asked : SoundTag t → sound t ≡ true

-- ---- "The lowest refusal number that applies is given."

-- the number m stands on the list beside a test that holds
abbrev pub Applies : ℕ → Checks → Type 0
Applies m granted = ⊥
Applies m (n when b else cs) = ((m ≡ n) × (b ≡ true)) ⊎ Applies m cs

pub record LowestGiven (E : Cipher) (s : State) (c : Command) : Type 0 where
  pub lowest_given : (n : ℕ) → refusal E s c ≡ Some n
      → Applies n (checks E s c) × ((m : ℕ) → Applies m (checks E s c) → n ≤ m)
  pub grant_owed : refusal E s c ≡ None → (m : ℕ) → Applies m (checks E s c) → ⊥

-- the numbers of the table that speak of a command
abbrev pub refusals_of : Command → List Refusal
refusals_of (read a n room) =
    Unsound ∷ Count ∷ Outside ∷ NeverTaken ∷ Malformed ∷ Forbidden ∷ OtherPin ∷ OtherName ∷ []
refusals_of (write a bs) =
    Unsound ∷ Count ∷ Outside ∷ NeverTaken ∷ Malformed ∷ Forbidden ∷ OtherPin ∷ OtherName ∷ BadRegister ∷ FlagUsed
    ∷ WrongResponse ∷ NotNext ∷ BadEdit ∷ Repeated ∷ []
refusals_of (advance k) = Unsound ∷ Outside ∷ Malformed ∷ OtherPin ∷ OtherName ∷ OtherModel ∷ []
refusals_of (insert k id) = Unsound ∷ Outside ∷ Malformed ∷ OtherPin ∷ OtherName ∷ OtherModel ∷ BadInsertion ∷ []
refusals_of power_up = []

abbrev pub Among : Refusal → List Refusal → Type 0
Among r [] = ⊥
Among r (x ∷ xs) = (r ≡ x) ⊎ Among r xs

-- every number that a command is given is that of a case that speaks of it
pub record RefusalNamed (c : Command) (n : ℕ) : Type 0 where
  pub refusal_case : Refusal
  pub its_number : number_of refusal_case ≡ n
  pub speaks_of_it : Among refusal_case (refusals_of c)

-- "a public function's contract determines the returned value": an answer and a stop are told by their numbers
pub record AnswersTold : Type 0 where
  pub answer_told : (a b : Answer) → refusal_of a ≡ refusal_of b → a ≡ b
  pub stop_told : (a b : Stop) → stop_number a ≡ stop_number b → a ≡ b
  pub code_told : (a b : Answer) → code_of (refusal_of a) ≡ code_of (refusal_of b) → a ≡ b
  pub stop_code_told : (a b : Stop) → code_of (stop_number a) ≡ code_of (stop_number b) → a ≡ b

-- ---- "A refused command .. returns its number alone and changes nothing, except 11, which sets the flag."

pub record RefusedChangesNothing (E : Cipher) (s : State) (c : Command) (n : ℕ) : Type 0 where
  pub number_alone : reply E s c ≡ refused n
  pub same_output : (out : List ℕ) → filled (reply E s c) out ≡ out
  pub same_session : (after E s c).session ≡ s.session
  pub same_tag : n ≢ 11 → (after E s c).tag ≡ s.tag
  pub flag_set : n ≡ 11 → flag (after E s c).tag ≡ 1
  pub other_bytes : (i : ℕ) → i ≢ flag_at → byte i (after E s c).tag ≡ byte i s.tag
  pub same_length : length (after E s c).tag ≡ length s.tag

-- ---- the rights that a unit asks for, held in a session: to read its segment, and to write it

pub record MayRead (v : Session) (u : List ℕ) : Type 0 where
  pub its_index : (unit_of u).rdpin ≡ true → v.read ≡ (unit_of u).read
  pub its_name : (unit_of u).pn ≡ true → v.name ≡ name_of u

pub record MayWrite (v : Session) (u : List ℕ) : Type 0 where
  pub its_index : (unit_of u).wrpin ≡ true → v.write ≡ (unit_of u).write
  pub its_name : (unit_of u).pn ≡ true → v.name ≡ name_of u

-- ---- a sound tag stays sound, and what no command may write stays as it was: hidden part and registers, PIN 0; reader
-- IDs change by granted insertions alone (SharedKeys.antt says how)

abbrev pub NoInsertion : Command → Type 0
NoInsertion (read a n room) = Unit {0}
NoInsertion (write a bs) = Unit {0}
NoInsertion (advance k) = Unit {0}
NoInsertion (insert k id) = ⊥
NoInsertion power_up = Unit {0}

pub record SoundStays (E : Cipher) (s : State) (c : Command) : Type 0 where
  pub stays_sound : sound (after E s c).tag ≡ true
  pub same_segments : segments (after E s c).tag ≡ segments s.tag
  pub same_publics : publics (after E s c).tag ≡ publics s.tag
  pub low_stays : part 16 4096 (after E s c).tag ≡ part 16 4096 s.tag
  pub readers_stay : (refusal E s c ≡ None → NoInsertion c) → part readers_at 4096 (after E s c).tag ≡ part readers_at 4096 s.tag

-- ---- "A unit with nE set is locked: no edit is granted. The models' own moves of RD, WR and stage still happen."

-- what a model's own move writes over the first bytes of its unit u
unfoldable pub own_move : Model → List ℕ → List ℕ
own_move Default u = []
own_move WriteOnce u = read_only (byte 0 u) ∷ []
own_move Counter u = []
own_move (Receiver g) u = advanced g u
own_move (SharedKey Filling) u = inserted u
own_move (SharedKey Inserted) u = []

-- the commands that make it: a write in segment k, its advance, and the insertion of its host
abbrev pub OwnMover : State → ℕ → Command → Type 0
OwnMover s k (read a n room) = ⊥
OwnMover s k (write a bs) = place_of s.tag a (length bs) ≡ Some (Segment k)
OwnMover s k (advance m) = m ≡ k
OwnMover s k (insert m id) = m ≡ k
OwnMover s k power_up = ⊥

-- the unit of segment k stays as it is, or its model makes its move
pub record LockedUnit (E : Cipher) (s : State) (k : ℕ) (c : Command) : Type 0 where
  pub moves : (unit_bytes (after E s c).tag k ≡ unit_bytes s.tag k)
      ⊎ (OwnMover s k c × (refusal E s c ≡ None)
      × (unit_bytes (after E s c).tag k
      ≡ put 0 (own_move (unit_of (unit_bytes s.tag k)).model (unit_bytes s.tag k)) (unit_bytes s.tag k)))

-- the bits of a control byte, RD first
abbrev pub bits : ℕ → List Bool
bits b = bit 7 b ∷ bit 6 b ∷ bit 5 b ∷ bit 4 b ∷ bit 3 b ∷ bit 2 b ∷ bit 1 b ∷ bit 0 b ∷ []

-- RD set and WR cleared, and the other bits of b
abbrev pub read_only_bits : ℕ → List Bool
read_only_bits b = true ∷ bit 6 b ∷ false ∷ bit 4 b ∷ bit 3 b ∷ bit 2 b ∷ bit 1 b ∷ bit 0 b ∷ []

-- the model and stage that a unit's second byte names
abbrev pub named : List ℕ → Model
named u = model_of (model_no u) (stage_no u)

-- "clears WR and sets RD"; "stage 0 to 1, 1 to 2"; document 02, L4: "After insertion the segment is stage 1"
pub record MovesExact : Type 0 where
  pub bits_moved : (b : ℕ) → bits (read_only b) ≡ read_only_bits b
  pub zero_to_one : (u : List ℕ) → named (advanced Zero u) ≡ Receiver One
  pub one_to_two : (u : List ℕ) → named (advanced One u) ≡ Receiver Two
  pub host_inserted : (u : List ℕ) → named (inserted u) ≡ SharedKey Inserted

-- ---- "Power-up makes it all zeros."

pub record PowerUpClears (E : Cipher) (s : State) : Type 0 where
  pub same_tag : (after E s power_up).tag ≡ s.tag
  pub read_zero : (after E s power_up).session.read ≡ 0
  pub write_zero : (after E s power_up).session.write ≡ 0
  pub edit_zero : (after E s power_up).session.edit ≡ 0
  pub name_zeros : (after E s power_up).session.name ≡ replicate 16 0
  pub id_zeros : (after E s power_up).session.id ≡ replicate 16 0
  pub pa_zeros : (after E s power_up).session.pa ≡ replicate 16 0

-- ---- every command of a list gets one answer

abbrev pub OneAnswerEach : Cipher → State → List Command → Type 0
OneAnswerEach E s cs = length (replies E s cs) ≡ length cs

-- ---- a log is its commands, one after another

pub record LogIsItsCommands (E : Cipher) (s : State) (room : ℕ) : Type 0 where
  pub at_end : run_log E s [] room ≡ stopped None [] s
  pub at_15 : (b : ℕ) (body : List ℕ) → first b body ≡ None → 2 ≤ room
      → run_log E s (b ∷ body) room ≡ stopped (Some 15) (encoded (refused 15)) s
  pub no_room_15 : (b : ℕ) (body : List ℕ) → first b body ≡ None → room < 2
      → run_log E s (b ∷ body) room ≡ stopped (Some 16) [] s
  pub at_command : (b : ℕ) (body : List ℕ) (c : Command) (n : ℕ) → first b body ≡ Some (c, n) → room_for c ≤ room
      → run_log E s (b ∷ body) room
      ≡ onward (1 + n) (encoded (reply E s c))
      (run_log E (after E s c) (drop n body) (room - length (encoded (reply E s c))))
  pub no_room : (b : ℕ) (body : List ℕ) (c : Command) (n : ℕ) → first b body ≡ Some (c, n) → room < room_for c
      → run_log E s (b ∷ body) room ≡ stopped (Some 16) [] s
  pub its_commands : (b : ℕ) (body : List ℕ) (c : Command) (n : ℕ) → first b body ≡ Some (c, n)
      → commands (b ∷ body) ≡ c ∷ commands (drop n body)
