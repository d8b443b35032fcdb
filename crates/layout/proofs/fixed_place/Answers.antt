-- `layout::fixed_place` meets its contract. Assumes nothing.
use Rattle.rules.proofs.Places.{found_at}
use Rattle.rules.specs.declared.Place.TheVariants.{Pins, Readers}
use Rattle.std.proofs.Common.{sym, arith}
use Rattle.layout.proofs.fixed_place.Goals as goal

pub returns-then-at-lt-READERS : goal.returns-then-at-lt-READERS
returns-then-at-lt-READERS c a p h =
    let at = c.args in
    sym (found_at a p at.at at.n h Pins (omega arith) (omega arith, omega arith))

pub returns-else-at-lt-READERS : goal.returns-else-at-lt-READERS
returns-else-at-lt-READERS c a p h =
    let at = c.args in
    sym (found_at a p at.at at.n h Readers (omega arith) (omega arith, omega arith))
