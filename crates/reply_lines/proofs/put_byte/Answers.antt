-- `reply_lines::put_byte` meets its contract: the pair, and the mark behind it. Assumes nothing.
use Rattle.reply_lines.proofs.Laws.{stored_both}
use Rattle.reply_lines.specs.Lines.{text_of}
use Rattle.reply_lines.proofs.put_byte.Goals as goal

pub returns : goal.returns
unfolding text_of
returns c =
    stored_both _ _ _ _ _ _ _ _ c.put_pair-next.ensures c.put_mark.ensures
