-- `tag_c::dringoleth_write` meets its contract. Assumes nothing.
use Rattle.tag_c.proofs.Laws.{keeps_session}
use Rattle.tag_c.proofs.dringoleth_write.Goals as goal

pub returns : goal.returns
returns c =
    let made = c.session_of-before.ensures in
    keeps_session _ _ _ _ _ _ _ _ made.1 made.0 c.number_of.ensures c.write-outcome.ensures c.keep.ensures
