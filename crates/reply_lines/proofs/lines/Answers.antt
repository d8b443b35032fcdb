-- `reply_lines::lines` meets its contract: each turn prints one byte more, and the last turn leaves the whole text. Assumes
-- nothing.
use Rattle.reply_lines.proofs.Laws.{print_first, print_next, print_end}
use Rattle.reply_lines.proofs.lines.Goals as goal

pub loop-byte-init : goal.loop-byte-init
loop-byte-init c = print_first _ _

pub loop-byte-preserved : goal.loop-byte-preserved
loop-byte-preserved c =
    print_next _ _ c.loop-byte.text _ c.loop-byte.at c.loop-byte.left c.loop-byte.byte-index _ _ c.loop-byte-test.true
    c.left_behind-after.ensures
    c.put_byte-at.ensures
    c.loop-byte.invariant

pub returns : goal.returns
returns c =
    let end = print_end _ _ c.loop-byte.text c.loop-byte.at c.loop-byte.left c.loop-byte.byte-index c.loop-byte-test.false c.loop-byte.invariant in
    record { text_after = end.0; value = end.1 }
