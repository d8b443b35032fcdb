-- `octets::store_at` meets its contract: the part that was lent comes back as the data. Assumes nothing.
use Rattle.octets.proofs.Laws.{store-back}
use Rattle.octets.proofs.store_at.Goals as goal

pub returns : goal.returns
returns c =
    let a = c.args in
    store-back a.at a.«data».now a.bytes.now _ c.requires c.store.ensures
