-- `layout::publics` meets its contract. Assumes nothing.
use Rattle.rules.specs.Map.{publics}
use Rattle.layout.proofs.publics.Goals as goal

pub returns : goal.returns
unfolding publics
returns c = c.number16.ensures
