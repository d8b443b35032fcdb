-- All that is proved of the rules, in one record. Each line says of which ciphers, states and commands a claim holds;
-- the claims themselves stand in Demand3, Calls, Runs, CCalls, Claims, Repeats, SharedKeys, FourCommands, Examples, Readings,
-- Borders and CommandBorders. Assumes nothing.
use Rattle.std.specs.Prelude.{ℕ, ◌<◌, ◌≡◌, true, List, length, None, Some}
use Rattle.rules.specs.declared.Place.TheVariants.{Segment}
use Rattle.rules.specs.Map.{sound, segments, place_of}
use Rattle.rules.specs.Units.{unit_of, unit_bytes}
use Rattle.rules.specs.State.{Cipher, State}
use Rattle.rules.specs.Command.{Command, read, insert, refusal, after}
use Rattle.rules.specs.Demand3.{LockedCounter, Demand3}
use Rattle.rules.specs.Calls.{CallsFollow, CallsDemand3, RefusedLeaves, RefusedReads}
use Rattle.rules.specs.Runs.{RunsDemand3, RunsLeave, RunsContinue}
use Rattle.rules.specs.CCalls.{CalledIsCall, RunCalledIsRun, NothingLost, SessionFits}
use Rattle.rules.specs.Claims.{LowestGiven, RefusalNamed, AnswersTold, RefusedChangesNothing, TheMap, NoSpare, Sizes, SizesReached, SoundIs, SoundStays, LockedUnit, MovesExact, PowerUpClears, OneAnswerEach, LogIsItsCommands}
use Rattle.rules.specs.Repeats.{RepeatTold, NeverBoth, CopyTold}
use Rattle.rules.specs.Refusals.{is_shared_key}
use Rattle.rules.specs.SharedKeys.{ReadsListed, InsertionLeaves, ListGrows, UnitInserted, KeysShared, KeysRead}
use Rattle.rules.specs.FourCommands.{HostReads}
use Rattle.rules.specs.Examples.{starred, insertions, Hold, stages, errors, xor_cipher, NotEmpty, RepeatsChange}
use Rattle.rules.specs.Readings.{readings}
use Rattle.rules.specs.Borders.{Borders}
use Rattle.rules.specs.CommandBorders.{CommandBorders}

pub record Theorems : Type 0 where
  -- demand 3, for lists of commands
  pub demand_3 : (E : Cipher) (s : State) → sound s.tag ≡ true → Demand3 E s
  -- the same of calls of functions that carry commands out, and what a refused call leaves
  pub calls_follow : (E : Cipher) → CallsFollow E
  pub calls_demand_3 : (E : Cipher) (s : State) → sound s.tag ≡ true → CallsDemand3 E s
  pub refused_leaves : (E : Cipher) → RefusedLeaves E
  pub refused_reads : (E : Cipher) → RefusedReads E
  -- the same of runs over a log, the bytes that they leave, and that they can be continued
  pub runs_demand_3 : (E : Cipher) (s : State) → sound s.tag ≡ true → RunsDemand3 E s
  pub runs_leave : (E : Cipher) (s : State) → RunsLeave E s
  pub runs_continue : (E : Cipher) (s : State) → RunsContinue E s
  -- the same calls from C, with the session as 54 bytes
  pub called_is_call : (E : Cipher) → CalledIsCall E
  pub run_called_is_run : (E : Cipher) → RunCalledIsRun E
  pub nothing_lost : NothingLost
  pub session_fits : (E : Cipher) (s : State) → SessionFits E s
  -- refusals
  pub lowest_given : (E : Cipher) (s : State) (c : Command) → LowestGiven E s c
  pub refusal_named : (E : Cipher) (s : State) (c : Command) (n : ℕ) → refusal E s c ≡ Some n → RefusalNamed c n
  pub answers_told : AnswersTold
  pub refused_changes_nothing : (E : Cipher) (s : State) (c : Command) (n : ℕ) → refusal E s c ≡ Some n
      → RefusedChangesNothing E s c n
  -- a value written again (document 02, L1)
  pub repeat_told : (E : Cipher) (s : State) (a : ℕ) (bs : List ℕ) → sound s.tag ≡ true → RepeatTold E s a bs
  pub never_both : (E : Cipher) (s : State) (c : Command) → NeverBoth E s c
  pub copy_told : (E : Cipher) (s : State) (k j : ℕ) (bs : List ℕ) (cs : List Command) → sound s.tag ≡ true
      → LockedCounter s.tag k → j < 512 → length bs ≡ 8 → CopyTold E s k j bs cs
  -- the tag
  pub the_map : (t : List ℕ) → sound t ≡ true → TheMap t
  pub no_spare : (t : List ℕ) → sound t ≡ true → segments t ≡ 128 → NoSpare t
  pub sound_is : (t : List ℕ) → SoundIs t
  pub sizes : (t : List ℕ) → sound t ≡ true → Sizes t
  pub sizes_reached : SizesReached
  pub sound_stays : (E : Cipher) (s : State) (c : Command) → sound s.tag ≡ true → SoundStays E s c
  pub locked_unit : (E : Cipher) (s : State) (k : ℕ) (c : Command) → sound s.tag ≡ true → k < segments s.tag
      → (unit_of (unit_bytes s.tag k)).ne ≡ true → LockedUnit E s k c
  pub moves_exact : MovesExact
  -- insertions of hosts (document 02, L4)
  pub reads_listed : (E : Cipher) (s : State) (k a n room : ℕ) → refusal E s (read a n room) ≡ None
      → place_of s.tag a n ≡ Some (Segment k) → is_shared_key (unit_of (unit_bytes s.tag k)).model ≡ true
      → ReadsListed E s k a n room
  pub insertion_leaves : (E : Cipher) (s : State) (k : ℕ) (id : List ℕ) → refusal E s (insert k id) ≡ None
      → InsertionLeaves E s k id
  pub list_grows : (E : Cipher) (s : State) (k : ℕ) (id : List ℕ) → refusal E s (insert k id) ≡ None
      → ListGrows s.tag (after E s (insert k id)).tag k id
  pub unit_inserted : (E : Cipher) (s : State) (k : ℕ) (id : List ℕ) → refusal E s (insert k id) ≡ None
      → UnitInserted (unit_bytes s.tag k) (unit_bytes (after E s (insert k id)).tag k)
  pub keys_shared : (E : Cipher) (s : State) (k : ℕ) (id : List ℕ) → refusal E s (insert k id) ≡ None → KeysShared E s k id
  pub keys_read : (E : Cipher) (s : State) (k : ℕ) (id : List ℕ) → refusal E s (insert k id) ≡ None → KeysRead E s k id
  -- the session
  pub power_up_clears : (E : Cipher) (s : State) → PowerUpClears E s
  pub host_reads : HostReads
  -- lists and logs
  pub one_answer_each : (E : Cipher) (s : State) (cs : List Command) → OneAnswerEach E s cs
  pub log_is_its_commands : (E : Cipher) (s : State) (room : ℕ) → LogIsItsCommands E s room
  -- examples
  pub starred_hold : (E : Cipher) → Hold E starred
  pub stages_hold : Hold xor_cipher stages
  pub errors_shown : Hold xor_cipher errors
  pub insertions_hold : Hold xor_cipher insertions
  pub readings_hold : Hold xor_cipher readings
  pub borders : Borders
  pub command_borders : CommandBorders
  pub not_empty : NotEmpty
  pub repeats_change : RepeatsChange
