-- `reply_lines::digit` meets its contract. Assumes nothing.
use Rattle.reply_lines.specs.Lines.{digit_of}
use Rattle.std.proofs.Common.{lt-ltb, le-ltb}
use Rattle.reply_lines.proofs.digit.Goals as goal

pub returns-then-n-lt10 : goal.returns-then-n-lt10
unfolding digit_of
returns-then-n-lt10 c = rw (lt-ltb c.args.n 10 c.if-n-lt10.true)

pub returns-else-n-lt10 : goal.returns-else-n-lt10
unfolding digit_of
returns-else-n-lt10 c = rw (le-ltb c.args.n 10 c.if-n-lt10.false)
