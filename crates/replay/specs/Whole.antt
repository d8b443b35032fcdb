-- A run over a whole log that is made in parts, each into a buffer of 4,096 bytes. Assumes nothing.
use Rattle.std.specs.Prelude.{ℕ, ◌+◌, ◌≤◌, ◌≡◌, Bool, true, false, List, length, Option}
use Rattle.rules.specs.declared.Run.{Run}
use Rattle.rules.specs.declared.Stop.{Stop}
use Rattle.rules.specs.declared.Stop.TheVariants.{End, BadCommand, OutputFull}
use Rattle.rules.specs.Answers.{stop_number}
use Rattle.rules.specs.State.{State, state}
use Rattle.rules.specs.Log.{Ran, run_log}
use Rattle.xxtea.specs.Block.{E}

-- what a run came to, but for the bytes of its replies
pub record Totals : Type 0 where
  pub read : ℕ
  pub written : ℕ
  pub stop : Option ℕ
  pub left : State

abbrev pub totals : Ran → Totals
totals x = record { read = x.taken; written = length x.output; stop = x.stop; left = x.state }

-- of a run that returned r and left the tag t
abbrev pub totals_of : Run → List ℕ → Totals
totals_of r t = record { read = r.read; written = r.written; stop = stop_number r.stop; left = state t r.session }

-- a part of it, by the rules
pub record PartRun (s : State) (log t : List ℕ) (r : Run) : Type 0 where
  pub came : totals_of r t ≡ totals (run_log E s log 4096)
  pub read_within : r.read ≤ length log
  pub written_within : r.written ≤ 4096

abbrev pub is_full : Stop → Bool
is_full End = false
is_full BadCommand = false
is_full OutputFull = true

-- the whole of it: no 16 stopped it, and it is the rules' run over the log with any room that holds what is written and a
-- buffer more
pub record WholeRun (s : State) (log t : List ℕ) (r : Run) : Type 0 where
  pub ended : is_full r.stop ≡ false
  pub came : (room : ℕ) → r.written + 4096 ≤ room → totals_of r t ≡ totals (run_log E s log room)
