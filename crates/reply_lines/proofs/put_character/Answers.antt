-- `reply_lines::put_character` meets its contract. Assumes nothing.
use Rattle.reply_lines.proofs.Laws.{stored_full, stored_one}
use Rattle.reply_lines.proofs.put_character.Goals as goal

pub returns-then-text-at : goal.returns-then-text-at
returns-then-text-at c = stored_full _ _ _ c.if-text-at.true

pub returns : goal.returns
returns c = stored_one _ _ _ c.if-text-at.false
