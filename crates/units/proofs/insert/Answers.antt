-- `units::insert` meets its contract. Assumes nothing.
use Rattle.octets.proofs.Laws.{put_two}
use Rattle.rules.specs.Effects.{inserted}
use Rattle.units.proofs.insert.Goals as goal

pub returns : goal.returns
unfolding inserted
returns c = rw (c.read_only.ensures, ← put_two)
