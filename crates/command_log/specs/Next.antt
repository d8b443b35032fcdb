-- What the functions of `command_log` answer, in the terms of the rules (Log.antt). Assumes nothing.
use Rattle.std.specs.Prelude.{ℕ, ◌+◌, ◌≤◌, ◌≡◌, List, [], ◌∷◌, length, drop, None, Option, Some, Ok, Err}
use Rattle.rules.specs.Bytes.{byte}
use Rattle.rules.specs.Answers.{Answer, number_of}
use Rattle.rules.specs.Command.{Command}
use Rattle.rules.specs.Log.{Kind, powers, advances, inserts, reads, writes, count_of, body_length, command_of, first, room_for, read_code}
use Rattle.command_log.specs.declared.Next.{Next}
use Rattle.command_log.specs.declared.Next.TheVariants as next

abbrev pub kind_of : Option Next → Option Kind
kind_of (Some next.PowerUp) = Some powers
kind_of (Some (next.Read d)) = Some (reads (count_of d))
kind_of (Some (next.Write d)) = Some (writes (count_of d))
kind_of (Some next.Advance) = Some advances
kind_of (Some next.Insert) = Some inserts
kind_of None = None

-- the bytes of a command of this kind; a 15 takes none
abbrev pub length_of : Option Kind → ℕ
length_of None = 0
length_of (Some k) = 1 + body_length k

-- the command of this kind, and the length of its body
abbrev pub command_by : Option Kind → List ℕ → Option (Command × ℕ)
command_by None body = None
command_by (Some k) body = Some (command_of k body, body_length k)

-- the command that begins at `at`
abbrev pub command_at : (log : List ℕ) (at : ℕ) → Option Next → Option (Command × ℕ)
command_at log at x = command_by (kind_of x) (drop (at + 1) log)

-- the command whose bytes these are
abbrev pub command_in : List ℕ → Option Next → Option (Command × ℕ)
command_in bytes x = command_at bytes 0 x

-- the room that its reply must find; "and 2 .. for a 15"
abbrev pub room_asked : Option (Command × ℕ) → ℕ
room_asked None = 2
room_asked (Some x) = room_for x.0

-- x is what comes next in the log at `at`: the command there by the rules, or a 15
pub record ComesNext (log : List ℕ) (at : ℕ) (x : Option Next) : Type 0 where
  pub command : command_at log at x ≡ first (byte at log) (drop (at + 1) log)
  pub whole : at + length_of (kind_of x) ≤ length log

-- what is written in front of the bytes of a read of n bytes: the code of a granted one, or the whole refusal
abbrev pub read_head : Answer → ℕ → List ℕ
read_head (Ok x) n = read_code n ∷ []
read_head (Err r) n = 0x51 ∷ number_of r ∷ []

-- the length of the whole reply
abbrev pub read_length : Answer → ℕ → ℕ
read_length (Ok x) n = 1 + n
read_length (Err r) n = 2
