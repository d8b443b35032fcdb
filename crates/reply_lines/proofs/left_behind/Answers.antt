-- `reply_lines::left_behind` meets its contract. Assumes nothing.
use Rattle.reply_lines.proofs.Laws.{left_code, left_data}
use Rattle.reply_lines.proofs.left_behind.Goals as goal

pub returns-then-left-eq0 : goal.returns-then-left-eq0
returns-then-left-eq0 c = left_code _ _ _ c.if-left-eq0.true c.data_length.ensures

pub returns-else-left-eq0 : goal.returns-else-left-eq0
returns-else-left-eq0 c = left_data _ _ c.if-left-eq0.false
