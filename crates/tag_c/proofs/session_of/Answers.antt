-- `tag_c::session_of` meets its contract. Assumes nothing.
use Rattle.octets.proofs.Laws.{block_lent}
use Rattle.std.proofs.Common.{◌∙◌, arith}
use Rattle.tag_c.proofs.Laws.{session_read}
use Rattle.tag_c.proofs.session_of.Goals as goal

pub returns : goal.returns
returns c =
    let b = c.args.bytes.now in (
      session_read b _ _ _ _ _ _ c.number16.ensures c.number16-2.ensures
          c.number16-3.ensures (c.sixteen.ensures ∙ block_lent 6 b (omega arith))
          (c.sixteen-2.ensures ∙ block_lent 22 b (omega arith)) (c.sixteen-3.ensures ∙ block_lent 38 b (omega arith)),
      record { size = c.told-bytes; bytes = c.fits-bytes },
    )
