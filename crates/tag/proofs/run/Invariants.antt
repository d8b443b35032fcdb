-- `tag::run` meets its contract. The loop's invariant: what is left of the log, run from here, leads to the result.
-- Assumes nothing.
use Rattle.rules.specs.Runs.{run_over}
use Rattle.rules.specs.State.{state}
use Rattle.std.proofs.Common.{◌-◌, ◌≡◌, length}
use Rattle.tag.proofs.RunLaws.{Going}
use Rattle.xxtea.specs.Block.{E}
use Rattle.tag.proofs.run.Given as goal

abbrev pub invariant-loop-read : goal.invariant-loop-read
invariant-loop-read l =
    Going (run_over E (state l.initial.tag l.initial.session) l.log l.initial.output) l.log l.is_sound l.tag l.output l.session l.read l.written
    × (length l.tag ≡ length l.initial.tag)
    × (length l.output ≡ length l.initial.output)

abbrev pub decreases-loop-read : goal.decreases-loop-read
decreases-loop-read l = length l.log - l.read
