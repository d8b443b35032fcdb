-- `octets::xor_at` meets its contract: the part that was lent comes back as its XOR. Assumes nothing.
use Rattle.octets.proofs.Laws.{xor-back}
use Rattle.octets.proofs.xor_at.Goals as goal

pub returns : goal.returns
returns c =
    let a = c.args in
    xor-back a.at a.«data».now a.bytes.now _ c.requires c.xor_into.ensures
