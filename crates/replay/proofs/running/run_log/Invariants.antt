-- The loop of `run_log`: what is left of the log, run from here, leads to the whole run.
use Rattle.std.proofs.Common.{◌≤◌, ◌≡◌, length, ◌-◌, ◌*◌}
use Rattle.rules.specs.State.{state}
use Rattle.replay.proofs.WholeLaws.{Behind}
use Rattle.replay.proofs.running.run_log.Given as goal

abbrev pub invariant-loop-part : goal.invariant-loop-part
invariant-loop-part g l =
    (length l.image ≡ length l.initial.image) × (l.read ≤ length l.log) × (l.written ≤ 4096 * l.read)
    × Behind (state l.initial.image l.initial.session) l.log (state l.image l.session) l.read l.written

abbrev pub decreases-loop-part : goal.decreases-loop-part
decreases-loop-part g l = length l.log - l.read
