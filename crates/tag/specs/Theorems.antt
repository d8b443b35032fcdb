-- What is proved of calls and of runs over a log with the tag's own cipher, XXTEA on blocks (`E`), in one record. By
-- the contracts in src/lib.rt each call of `read`, `write`, `advance` and `insert` is `CarriedOut E`, and what `run`
-- leaves is `run_over E`. The other claims in rules/specs/Theorems.antt are about every cipher, and so about `E`.
-- Assumes nothing.
use Rattle.std.specs.Prelude.{ℕ, ◌≡◌, true, List, [], ◌∷◌}
use Rattle.rules.specs.Bytes.{part}
use Rattle.rules.specs.Map.{sound}
use Rattle.rules.specs.Units.{unit_bytes, unit_of}
use Rattle.rules.specs.State.{State}
use Rattle.rules.specs.Command.{Reply, done, gives}
use Rattle.rules.specs.Calls.{Calls, CallsFollow, CallsDemand3, RefusedLeaves, RefusedReads}
use Rattle.rules.specs.Runs.{RunsDemand3, RunsLeave, RunsContinue}
use Rattle.rules.specs.CCalls.{CalledIsCall, RunCalledIsRun, NothingLost, SessionFits}
use Rattle.rules.specs.FourCommands.{four_commands, HostMayRead}
use Rattle.xxtea.specs.Block.{E}

-- "a host that knows the PIN reads after four uninterrupted commands: PA, counter, READ, read": four calls, one after
-- another, with the PIN that the unit of segment k names for reading. Nothing is assumed of the cipher.
abbrev pub HostReadsByCalls : Type 0
HostReadsByCalls =
    (s e : State) (k a n room : ℕ) (rest : List ℕ) (rs : List Reply) → HostMayRead s.tag k a n room rest
    → Calls E s (four_commands E s.tag (unit_of (unit_bytes s.tag k)).read rest a n room) rs e
    → rs ≡ done ∷ done ∷ done ∷ gives (part a n s.tag) ∷ []

pub record Theorems : Type 0 where
  -- demand 1: "A refused command changes no byte of the tag, session or output, save that a wrong PIN response or
  -- commit guard marks the roll-back counter as used"
  pub refused_leaves : RefusedLeaves E
  pub refused_reads : RefusedReads E
  -- demand 2, of calls one after another: a command is "granted exactly when the rules of document 01 grant it, has
  -- then exactly the effect they state, and otherwise gets the one refusal they name"
  pub calls_follow : CallsFollow E
  pub host_reads_by_calls : HostReadsByCalls
  -- demand 3, of calls: "Start from any sound tag and any session, and take every list of commands"
  pub calls_demand_3 : (s : State) → sound s.tag ≡ true → CallsDemand3 E s
  -- demand 3, of runs: "it speaks only where no 15 or 16 stops the run"
  pub runs_demand_3 : (s : State) → sound s.tag ≡ true → RunsDemand3 E s
  -- what a run leaves in the output, and that it can be continued
  pub runs_leave : (s : State) → RunsLeave E s
  pub runs_continue : (s : State) → RunsContinue E s
  -- calls and runs from C are calls and runs, and 54 bytes hold their session
  pub called_is_call : CalledIsCall E
  pub run_called_is_run : RunCalledIsRun E
  pub nothing_lost : NothingLost
  pub session_fits : (s : State) → SessionFits E s
