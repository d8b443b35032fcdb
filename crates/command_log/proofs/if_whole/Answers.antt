-- `command_log::if_whole` meets its contract: a whole body, or a 15. Assumes nothing.
use Rattle.std.specs.Prelude.{Some}
use Rattle.command_log.proofs.Laws.{comes_whole, comes_short}
use Rattle.std.proofs.Common.{arith}
use Rattle.command_log.proofs.if_whole.Goals as goal

pub returns-then-log-at : goal.returns-then-log-at
returns-then-log-at c =
    comes_short c.args.log.now c.args.at (Some c.args.next) c.requires.0 c.requires.1 (omega arith)

pub returns : goal.returns
returns c =
    comes_whole c.args.log.now c.args.at (Some c.args.next) c.requires.0 c.requires.1 (omega arith)
