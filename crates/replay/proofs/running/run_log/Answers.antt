-- `replay::running::run_log` meets its contract. The call of `run_part` ran over what is left of the log, and within it.
-- Assumes nothing.
use Rattle.std.proofs.Common.{◌∙◌, arith}
use Rattle.replay.proofs.WholeLaws.{behind_from, behind_next, behind_end, part_moves, part_left, not_full}
use lib.ListN.{length-drop}
use Rattle.replay.proofs.running.run_log.Goals as goal

pub returns-in_default : goal.returns-in_default
returns-in_default g c =
    let part = part_left _ c.args.log.now _ c.loop-part.read _ c.in_ok-part.ensures.ok in
    let behind = behind_from c.args.image.now _ _ _ _ _ _ c.power_up-session.ensures c.loop-part.invariant.3 in
    let ended = c.in_default.not-OutputFull in
    record { ended = not_full _ ended; came = λ room h. behind_end _ _ _ _ _ _ _ c.in_ok-part.part behind part ended room h }

-- where the loop goes on, the buffer was full
pub loop-part-smaller : goal.loop-part-smaller
loop-part-smaller g c =
    let part = part_left _ c.args.log.now _ c.loop-part.read _ c.in_ok-part.ensures.ok in
    part_moves c.args.log.now _ _ _ c.loop-part.read _ part c.in-OutputFull.is

pub loop-part-preserved : goal.loop-part-preserved
loop-part-preserved g c =
    let part = part_left _ c.args.log.now _ c.loop-part.read _ c.in_ok-part.ensures.ok in
    let full = c.in-OutputFull.is in
    let m = part_moves c.args.log.now _ _ _ c.loop-part.read _ part full in
    let r = part.read_within in
    let w = part.written_within in
    let l = length-drop c.loop-part.read c.args.log.now in
    let i = c.loop-part.invariant.1 in
    let j = c.loop-part.invariant.2 in (
      c.run_part.auto.image ∙ c.loop-part.invariant.0,
      omega arith,
      omega arith,
      behind_next _ _ _ _ _ _ _ _ c.loop-part.invariant.3 part full,
    )
