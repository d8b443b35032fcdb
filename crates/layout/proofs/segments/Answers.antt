-- `layout::segments` meets its contract. Assumes nothing.
use Rattle.rules.specs.Map.{segments}
use Rattle.layout.proofs.segments.Goals as goal

pub returns : goal.returns
unfolding segments
returns c = c.number16.ensures
