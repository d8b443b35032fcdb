-- A run over a log: what a function that makes one owes, and demand 3 said of what it returns. `run` of the tag has the
-- equation with `run_over` as its contract. Assumes nothing.
use Rattle.std.specs.Prelude.{ℕ, zero, suc, ◌+◌, ◌-◌, ◌≤◌, ◌<◌, ◌≡◌, ◌≢◌, cond, List, [], ◌∷◌, ◌++◌, length, drop, eqb, Option, Some}
use Rattle.rules.specs.declared.Run.{Run}
use Rattle.rules.specs.declared.Session.{Session}
use Rattle.rules.specs.declared.Stop.{Stop}
use Rattle.rules.specs.declared.Stop.TheVariants.{End}
use Rattle.rules.specs.Bytes.{byte, part, put}
use Rattle.rules.specs.Answers.{stop_number}
use Rattle.rules.specs.State.{Cipher, State, state}
use Rattle.rules.specs.Command.{Command, Reply, done, gives, refused}
use Rattle.rules.specs.Run.{final, replies}
use Rattle.rules.specs.Log.{Ran, onward, run_log, commands, data_length}
use Rattle.rules.specs.Demand3.{LockedCounter, slot, value_at, grants, Entry, with_copies, without_copies, own_replies, copy_replies, AllRefused, CopiesOfGranted, MayChangePlaces}

-- ---- the contract

-- all that a run leaves: "bytes read .., bytes written, the stop (end, 15, 16) and the session", and every byte of the
-- tag and of the output
pub record Result : Type 0 where
  pub read : ℕ
  pub written : ℕ
  pub stop : Option ℕ
  pub session : Session
  pub tag : List ℕ
  pub output : List ℕ

abbrev pub returned : (read written : ℕ) → Stop → Session → Run
returned i j q v = record { read = i; written = j; stop = q; session = v }

-- of a run that returned r and left the tag t and the output o
abbrev pub result : Run → (tag output : List ℕ) → Result
result r t o =
    record {
      read = r.read;
      written = r.written;
      stop = stop_number r.stop;
      session = r.session;
      tag = t;
      output = o;
    }

-- of a run of the rules into the output `out`: "output past the bytes written is untouched"
unfoldable pub result_of : Ran → (output : List ℕ) → Result
result_of x out =
    record {
      read = x.taken;
      written = length x.output;
      stop = x.stop;
      session = x.state.session;
      tag = x.state.tag;
      output = put 0 x.output out;
    }

-- what a run over the log leaves, by the rules, from the state s and into the output `out`
unfoldable pub run_over : Cipher → State → (log output : List ℕ) → Result
run_over E s log out = result_of (run_log E s log (length out)) out

-- ---- what the contract says of the bytes

pub record RunLeaves (E : Cipher) (s : State) (log out : List ℕ) (r : Run) (o : List ℕ) : Type 0 where
  pub read_within : r.read ≤ length log
  pub within : r.written ≤ length out
  pub same_length : length o ≡ length out
  pub replied : part 0 r.written o ≡ (run_log E s log (length out)).output
  pub untouched : drop r.written o ≡ drop r.written out

abbrev pub RunsLeave : Cipher → State → Type 0
RunsLeave E s =
    (log out : List ℕ) (r : Run) (t o : List ℕ) → result r t o ≡ run_over E s log out → RunLeaves E s log out r o

-- ---- room: a run that no 16 stopped is the same with more of it; one that a 16 stopped goes on, over the rest of the
-- log and from the state that it left, as a run with more room would have; and 33 bytes are room for any one reply

pub record RunsContinue (E : Cipher) (s : State) : Type 0 where
  pub enough : (log : List ℕ) (room more : ℕ) → (run_log E s log room).stop ≢ Some 16 → room ≤ more
      → run_log E s log more ≡ run_log E s log room
  pub goes_on : (log : List ℕ) (room more : ℕ) → (run_log E s log room).stop ≡ Some 16 → room ≤ more
      → let x = run_log E s log room in
      run_log E s log more
      ≡ onward x.taken x.output (run_log E x.state (drop x.taken log) (more - length x.output))
  pub moves_on : (log : List ℕ) (room : ℕ) → 33 ≤ room → (run_log E s log room).stop ≡ Some 16
      → 1 ≤ (run_log E s log room).taken

-- ---- the answers that stand in an output, read back: "41 to 44 with the data, 50 done, 51 and one number"

unfoldable pub answer_at : (code : ℕ) → List ℕ → Reply
answer_at code bs =
    cond (eqb code 0x50) done (cond (eqb code 0x51) (refused (byte 0 bs)) (gives (part 0 (data_length code) bs)))

-- `skip` bytes still belong to the reply before
unfoldable pub answers_in : (skip : ℕ) → List ℕ → List Reply
answers_in skip [] = []
answers_in (suc skip) (b ∷ bs) = answers_in skip bs
answers_in zero (b ∷ bs) = answer_at b bs ∷ answers_in (data_length b) bs

-- the answers of a run, from the bytes that it wrote
abbrev pub answers : Run → (output : List ℕ) → List Reply
answers r o = answers_in 0 (part 0 r.written o)

-- ---- demand 3, of runs that start on the state s: "Of a log run, whose commands are the list and whose replies are
-- the answers, it speaks only where no 15 or 16 stops the run"

-- a run over the log, into some output, that met the contract and came to its end: it returned r and left the tag t
-- and the output o
pub record RunToEnd (E : Cipher) (s : State) (log : List ℕ) (r : Run) (t o : List ℕ) : Type 0 where
  pub out : List ℕ
  pub met : result r t o ≡ run_over E s log out
  pub ended : r.stop ≡ End

pub record RunsDemand3 (E : Cipher) (s : State) : Type 0 where
  pub is_list : (log : List ℕ) (r : Run) (t o : List ℕ) → RunToEnd E s log r t o
      → (r.read ≡ length log)
      × (answers r o ≡ replies E s (commands log))
      × (state t r.session ≡ final E s (commands log))
  pub counting : (k j : ℕ) → LockedCounter s.tag k → j < 512
      → (log : List ℕ) (r : Run) (t o : List ℕ) → RunToEnd E s log r t o
      → value_at (slot s.tag k j) t
      ≡ value_at (slot s.tag k j) s.tag + grants (slot s.tag k j) (commands log) (answers r o)
  pub copies : (es : List Entry) → CopiesOfGranted E s.tag s [] es
      → (more log : List ℕ) → commands more ≡ with_copies es → commands log ≡ without_copies es
      → (r q : Run) (t u o p : List ℕ) → RunToEnd E s more r t o → RunToEnd E s log q u p
      → AllRefused (copy_replies es (answers r o))
      × (own_replies es (answers r o) ≡ answers q p)
      × (state t r.session ≡ state u q.session)
  pub neighbours : (before : List Command) (c d : Command) (later : List Command)
      → MayChangePlaces (final E s before).tag c d
      → (log other : List ℕ) → commands log ≡ before ++ c ∷ d ∷ later → commands other ≡ before ++ d ∷ c ∷ later
      → (r q : Run) (t u o p : List ℕ) → RunToEnd E s log r t o → RunToEnd E s other q u p
      → (first : List Reply) × (rest : List Reply) × (a : Reply) × (b : Reply)
      × (length first ≡ length before)
      × (answers r o ≡ first ++ a ∷ b ∷ rest)
      × (answers q p ≡ first ++ b ∷ a ∷ rest)
      × (state t r.session ≡ state u q.session)
