-- `units::advance` meets its contract. Assumes nothing.
use Rattle.octets.proofs.Laws.{put_two}
use Rattle.rules.specs.Effects.{advanced}
use Rattle.units.proofs.Laws.{put_second, put_neither}
use Rattle.units.proofs.advance.Goals as goal

pub returns-in-Zero : goal.returns-in-Zero
unfolding advanced
returns-in-Zero c = rw c.in-Zero.is (put_second c.args.unit.now 0x13)

pub returns-in-One : goal.returns-in-One
unfolding advanced
returns-in-One c = rw (c.in-One.is, c.read_only.ensures, ← put_two)

pub returns-in-Two : goal.returns-in-Two
unfolding advanced
returns-in-Two c = rw c.in-Two.is (put_neither _)
