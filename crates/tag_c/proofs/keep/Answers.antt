-- `tag_c::keep` meets its contract: the parts stand one behind another, and fill the 54 bytes. Assumes nothing.
use Rattle.std.proofs.Common.{arith}
use Rattle.tag_c.proofs.Laws.{all-put}
use Rattle.tag_c.proofs.keep.Goals as goal

pub returns : goal.returns
returns c =
    let good = c.well_formed.1.0.1.1 in
    all-put c.args.session _ _ _ _ _ _ _ (omega arith)
    good.0.1.0.1
    good.1.0.1.0.1
    good.1.1.0.1.0.1
    c.store16.ensures
    c.store16-2.ensures
    c.store16-3.ensures
    c.store_at.ensures
    c.store_at-2.ensures
    c.store_at-3.ensures
