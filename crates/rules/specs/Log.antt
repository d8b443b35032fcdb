-- Document 01, "The command log". Assumes nothing.
use Rattle.std.specs.Prelude.{ℕ, zero, suc, ◌+◌, ◌-◌, cond, List, [], ◌∷◌, ◌++◌, length, eqb, leb, None, Option, Some}
use Rattle.rules.specs.Bytes.{number, part}
use Rattle.rules.specs.State.{State, Cipher}
use Rattle.rules.specs.Command.{advance, insert, read, write, Command, power_up, Reply, done, gives, refused, reply, after}

-- ---- "11, 12, 13, 14 read 1, 8, 16, 32 bytes", "21, 22, 23, 24 write as many", "41 to 44 with the data": the count, by the
-- last digit

unfoldable pub count_of : ℕ → ℕ
count_of digit = cond (eqb digit 1) 1 (cond (eqb digit 2) 8 (cond (eqb digit 3) 16 (cond (eqb digit 4) 32 0)))

-- ---- "One byte of kind, then a body whose length the kind fixes"

pub data Kind : Type 0 where
  powers advances inserts : Kind
  reads writes : (count : ℕ) → Kind

unfoldable pub kinds : List (ℕ × Kind)
kinds =
    (0x00, powers)
    ∷ (0x11, reads (count_of 1))
    ∷ (0x12, reads (count_of 2))
    ∷ (0x13, reads (count_of 3))
    ∷ (0x14, reads (count_of 4))
    ∷ (0x21, writes (count_of 1))
    ∷ (0x22, writes (count_of 2))
    ∷ (0x23, writes (count_of 3))
    ∷ (0x24, writes (count_of 4))
    ∷ (0x31, advances)
    ∷ (0x32, inserts)
    ∷ []

unfoldable pub kind_in : List (ℕ × Kind) → ℕ → Option Kind
kind_in [] b = None
kind_in (k ∷ ks) b = cond (eqb b k.0) (Some k.1) (kind_in ks b)

-- "(address 4)", "(address 4, data)", "(segment 2)"; document 02, L4: "(segment 2, id 16)"
unfoldable pub body_length : Kind → ℕ
body_length powers = 0
body_length advances = 2
body_length inserts = 18
body_length (reads n) = 4
body_length (writes n) = 4 + n

unfoldable pub command_of : Kind → List ℕ → Command
command_of powers body = power_up
command_of advances body = advance (number (part 0 2 body))
command_of inserts body = insert (number (part 0 2 body)) (part 2 16 body)
command_of (reads n) body = read (number (part 0 4 body)) n n
command_of (writes n) body = write (number (part 0 4 body)) (part 4 n body)

-- the command of a kind and the length of its body, if the body is whole
unfoldable pub whole_of : Option Kind → List ℕ → Option (Command × ℕ)
whole_of None body = None
whole_of (Some k) body = cond (leb (body_length k) (length body)) (Some (command_of k body, body_length k)) None

-- the first command of a log that begins with the kind `b`; `None` is a 15: "unknown kind or short body"
unfoldable pub first : ℕ → List ℕ → Option (Command × ℕ)
first b body = whole_of (kind_in kinds b) body

-- ---- a log as its commands, each with the bytes that it takes, up to the end or to a 15

infixr 20 ◌taking◌then◌
pub data Parsed : Type 0 where
  end unreadable : Parsed
  ◌taking◌then◌ : Command → ℕ → Parsed → Parsed

-- the command and what follows its body, or a 15
unfoldable pub parsed_by : Option (Command × ℕ) → (ℕ → Parsed) → Parsed
parsed_by None rest = unreadable
parsed_by (Some x) rest = x.0 taking (1 + x.1) then rest x.1

-- `skip` bytes still belong to the body of the command before
unfoldable pub parsed : (skip : ℕ) → List ℕ → Parsed
parsed skip [] = end
parsed (suc skip) (b ∷ log) = parsed skip log
parsed zero (b ∷ body) = parsed_by (first b body) (λ n. parsed n body)

unfoldable pub commands_of : Parsed → List Command
commands_of end = []
commands_of unreadable = []
commands_of (c taking n then p) = c ∷ commands_of p

-- the list of commands of a log
abbrev pub commands : List ℕ → List Command
commands log = commands_of (parsed 0 log)

-- ---- "Replies: 41 to 44 with the data, 50 done, 51 and one number."

-- the code of a granted read of n bytes, and the bytes that follow a reply's code
unfoldable pub read_code : ℕ → ℕ
read_code n = cond (eqb n (count_of 1)) 0x41 (cond (eqb n (count_of 2)) 0x42 (cond (eqb n (count_of 3)) 0x43 0x44))

unfoldable pub data_length : ℕ → ℕ
data_length code = cond (eqb code 0x51) 1 (count_of (code - 0x40))

unfoldable pub encoded : Reply → List ℕ
encoded done = 0x50 ∷ []
encoded (gives bs) = read_code (length bs) ∷ bs
encoded (refused n) = 0x51 ∷ n ∷ []

unfoldable pub encoded_all : List Reply → List ℕ
encoded_all [] = []
encoded_all (r ∷ rs) = encoded r ++ encoded_all rs

-- "Then room must exist for 1 + count bytes for a whole read command, and 2 for any other and for a 15"
unfoldable pub room_for : Command → ℕ
room_for (read a n room) = 1 + n
room_for (write a bs) = 2
room_for (advance k) = 2
room_for (insert k id) = 2
room_for power_up = 2

-- ---- the run: "returns bytes read .., bytes written, the stop (end, 15, 16) and the session"; the bytes written are
-- `output`, and the end is `None`

pub record Ran : Type 0 where
  pub taken : ℕ
  pub output : List ℕ
  pub stop : Option ℕ
  pub state : State

-- the run stops here, after the last bytes written
unfoldable pub stopped : Option ℕ → List ℕ → State → Ran
stopped x out s = record { taken = 0; output = out; stop = x; state = s }

-- a run goes on after a command that took n bytes and wrote these
unfoldable pub onward : ℕ → List ℕ → Ran → Ran
onward n out r = record { taken = n + r.taken; output = out ++ r.output; stop = r.stop; state = r.state }

-- "A 15 is replied and ends the run. .. otherwise the run stops with 16, which is returned and not written, and the
-- command isn't carried out."
unfoldable pub carried_out : Cipher → State → Parsed → (room : ℕ) → Ran
carried_out E s end room = stopped None [] s
carried_out E s unreadable room =
    cond (leb 2 room) (stopped (Some 15) (encoded (refused 15)) s) (stopped (Some 16) [] s)
carried_out E s (c taking n then p) room =
    cond (leb (room_for c) room)
    (onward n (encoded (reply E s c)) (carried_out E (after E s c) p (room - length (encoded (reply E s c)))))
    (stopped (Some 16) [] s)

unfoldable pub run_log : Cipher → State → List ℕ → (room : ℕ) → Ran
run_log E s log room = carried_out E s (parsed 0 log) room
