-- `reply_lines::put_pair` meets its contract: a digit, and the other behind it. Assumes nothing.
use Rattle.reply_lines.proofs.Laws.{stored_pair}
use Rattle.reply_lines.proofs.put_pair.Goals as goal

pub returns : goal.returns
returns c =
    stored_pair _ _ _ _ _ _ _ _ _ c.digit.ensures c.digit-2.ensures
    c.put_character-next.ensures
    c.put_character.ensures
