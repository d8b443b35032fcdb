-- `layout::unit_of` meets its contract. Assumes nothing.
use Rattle.std.proofs.Common.{◌∙◌}
use Rattle.octets.proofs.Laws.{part_lent}
use Rattle.rules.specs.Units.{unit_bytes}
use Rattle.layout.proofs.Laws.{lent_whole}
use Rattle.layout.proofs.unit_of.Goals as goal

pub returns : goal.returns
unfolding unit_bytes
returns c =
    lent_whole _ _ (λ y. y.now) _ 32 _ _ c.unwrap.ensures c.as_array.ensures.cases
    ∙ rw c.unit_at-start.ensures (part_lent _ 32 _)
