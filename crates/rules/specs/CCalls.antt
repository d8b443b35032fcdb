-- Calls from C: the session as 54 bytes, and what a C function owes that carries a command out or runs over a log. The
-- functions of the library for C have `Called`, or `RunReturned` and `RunLeft`, as their contracts. Assumes nothing.
use Rattle.std.specs.Prelude.{ℕ, ◌<◌, ◌≡◌, length}
use mathlib.Core.List.{List, [], ◌∷◌, flatten}
use Rattle.rules.specs.declared.Session.{Session}
use Rattle.rules.specs.declared.Stop.{Stop}
use Rattle.rules.specs.Bytes.{byte, part, number, bytes_of}
use Rattle.rules.specs.State.{Cipher, State, state}
use Rattle.rules.specs.Answers.{Answer, refusal_of, stop_number, code_of}
use Rattle.rules.specs.Command.{Command, refusal, after}
use Rattle.rules.specs.Calls.{CarriedOut, outcome}
use Rattle.rules.specs.Runs.{Result, returned, result, run_over}

-- ---- the session's bytes: read index (2), write index (2), edit index (2), name (16), ID (16), PA (16)

unfoldable pub session_of : List ℕ → Session
session_of b =
    record {
      read = number (part 0 2 b);
      write = number (part 2 2 b);
      edit = number (part 4 2 b);
      name = part 6 16 b;
      id = part 22 16 b;
      pa = part 38 16 b;
    }

unfoldable pub session_bytes : Session → List ℕ
session_bytes v =
    flatten (bytes_of 2 v.read ∷ bytes_of 2 v.write ∷ bytes_of 2 v.edit ∷ v.name ∷ v.id ∷ v.pa ∷ [])

-- the state of a tag and a session's bytes
abbrev pub state_of : (t b : List ℕ) → State
state_of t b = state t (session_of b)

-- ---- the contracts

-- a call that carries the command c out on the state s, returns n and leaves the tag t and the session's bytes b
pub record Called (E : Cipher) (s : State) (c : Command) (n : ℕ) (t b : List ℕ) : Type 0 where
  pub answered : n ≡ code_of (refusal E s c)
  pub left : state_of t b ≡ after E s c
  pub kept : b ≡ session_bytes (after E s c).session

-- a run that comes to x by the rules: it returns n, i bytes read and j bytes written; and it leaves the tag t, the session's
-- bytes b and the output o
pub record RunReturned (x : Result) (n i j : ℕ) : Type 0 where
  pub stopped : n ≡ code_of x.stop
  pub read : i ≡ x.read
  pub written : j ≡ x.written

pub record RunLeft (x : Result) (t b o : List ℕ) : Type 0 where
  pub left : state_of t b ≡ state x.tag x.session
  pub kept : b ≡ session_bytes x.session
  pub output : o ≡ x.output

-- what a run comes to, from the tag t and the session's bytes b
abbrev pub run_from : Cipher → (t b log out : List ℕ) → Result
run_from E t b log out = run_over E (state_of t b) log out

-- ---- nothing is lost in 54 bytes

-- a session that 54 bytes hold
pub record Fits (v : Session) : Type 0 where
  pub read_index : v.read < 65536
  pub write_index : v.write < 65536
  pub edit_index : v.edit < 65536
  pub name_size : length v.name ≡ 16
  pub id_size : length v.id ≡ 16
  pub pa_size : length v.pa ≡ 16

pub record NothingLost : Type 0 where
  pub session_back : (v : Session) → Fits v → session_of (session_bytes v) ≡ v
  pub bytes_back : (b : List ℕ) → length b ≡ 54 → ((i : ℕ) → byte i b < 256) → session_bytes (session_of b) ≡ b
  pub bytes_fit : (b : List ℕ) → length b ≡ 54 → ((i : ℕ) → byte i b < 256) → Fits (session_of b)

-- and a session that fits stays one: a validated index is at most 255
pub record SessionFits (E : Cipher) (s : State) : Type 0 where
  pub after_command : Fits s.session → (c : Command) → Fits (after E s c).session
  pub after_run : Fits s.session → (log out : List ℕ) → Fits (run_over E s log out).session

-- ---- a call from C is a call, and a run a run, so that all that is said of them (Calls.antt, Runs.antt) is said of C's

abbrev pub CalledIsCall : Cipher → Type 0
CalledIsCall E =
    (s : State) (c : Command) (n : ℕ) (t b : List ℕ) → Called E s c n t b
    → (a : Answer) × (code_of (refusal_of a) ≡ n) × CarriedOut E s c t (outcome a (session_of b))

abbrev pub RunCalledIsRun : Cipher → Type 0
RunCalledIsRun E =
    (s : State) (log out : List ℕ) (n i j : ℕ) (t b o : List ℕ) → RunReturned (run_over E s log out) n i j
    → RunLeft (run_over E s log out) t b o
    → (q : Stop) × (code_of (stop_number q) ≡ n) × (result (returned i j q (session_of b)) t o ≡ run_over E s log out)
