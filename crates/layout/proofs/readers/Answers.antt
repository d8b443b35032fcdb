-- `layout::readers` meets its contract. Assumes nothing.
use Rattle.octets.proofs.Laws.{part_lent}
use Rattle.rules.specs.Hosts.{readers}
use Rattle.layout.proofs.readers.Goals as goal

pub returns : goal.returns
unfolding readers
returns c = part_lent _ 4096 _
