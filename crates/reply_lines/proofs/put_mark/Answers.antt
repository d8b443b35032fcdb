-- `reply_lines::put_mark` meets its contract. Assumes nothing.
use Rattle.reply_lines.proofs.Laws.{stored_none, stored_same, mark_end, mark_space, mark_none}
use Rattle.reply_lines.proofs.put_mark.Goals as goal

pub returns-in_default-eq0 : goal.returns-in_default-eq0
returns-in_default-eq0 c = stored_same _ _ _ _ _ _ (mark_end _ _ c.in_default-eq0.is-1) c.put_character.ensures

pub returns-in-0-default : goal.returns-in-0-default
returns-in-0-default c =
    stored_same _ _ _ _ _ _ (mark_space _ _ c.in-0-default.is-0 c.in-0-default.is-1.1) c.put_character-in-0-default.ensures

pub returns-in_default : goal.returns-in_default
returns-in_default c = stored_same _ _ _ _ _ _ (mark_none _ _ c.in_default.is-0.1 c.in_default.is-1.1) (stored_none _ _)
