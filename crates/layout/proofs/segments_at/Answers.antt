-- `layout::segments_at` meets its contract. Assumes nothing.
use Rattle.rules.specs.Map.{managements, segments_at}
use Rattle.std.proofs.Common.{refl}
use Rattle.layout.proofs.segments_at.Goals as goal

pub returns : goal.returns
unfolding managements segments_at
returns c = refl
