-- `reply_lines::lines` meets its contract. The invariant: the bytes before the index stand in the text, and what is left
-- leads to the result. Assumes nothing.
use Rattle.reply_lines.proofs.Laws.{Printed}
use Rattle.reply_lines.proofs.lines.Given as goal

abbrev pub invariant-loop-byte : goal.invariant-loop-byte
invariant-loop-byte l = Printed l.replies l.initial.text l.text l.at l.left l.byte-index
