-- `tag_c::dringoleth_insert` meets its contract. Assumes nothing.
use Rattle.std.proofs.Common.{rules}
use Rattle.tag_c.proofs.Laws.{inserts}
use Rattle.tag_c.proofs.dringoleth_insert.Goals as goal

pub returns : goal.returns
returns c =
    let given = c.args.id.now in
    inserts _ _ _ _ _ given _ _ _ c.session_of-before.ensures.1 c.session_of-before.ensures.0
    c.sixteen-host.ensures (search rules) c.number_of.ensures c.insert-outcome.ensures
