-- `layout::unit_place` meets its contract. Assumes nothing.
use Rattle.rules.proofs.Places.{found_at, found_up_to}
use Rattle.rules.specs.declared.Place.TheVariants.{UnitOf, Spare}
use Rattle.layout.proofs.Laws.{then_cond}
use Rattle.std.proofs.Common.{sym, ◌∙◌, arith}
use Rattle.layout.proofs.unit_place.Goals as goal

pub returns-then-k-a : goal.returns-then-k-a
returns-then-k-a c p =
    c.then_some.ensures
    ∙ then_cond _ _
    ∙ sym (found_up_to c.args.a p c.args.at c.args.n c.requires.0 (UnitOf _) _ (omega arith)
    (omega arith, omega arith, omega arith) (λ e. (omega arith, omega arith, omega arith)) (λ e. omega arith))

pub returns-else-k-a : goal.returns-else-k-a
returns-else-k-a c p =
    sym (found_at c.args.a p c.args.at c.args.n c.requires.0 Spare (omega arith)
    (omega arith, omega arith))
