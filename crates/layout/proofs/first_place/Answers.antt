-- `layout::first_place` meets its contract. Assumes nothing.
use Rattle.rules.proofs.Places.{found_up_to}
use Rattle.rules.specs.declared.Place.TheVariants.{Header, Hidden, RegisterOf}
use Rattle.layout.proofs.Laws.{then_cond}
use Rattle.std.proofs.Common.{sym, ◌∙◌, arith}
use Rattle.layout.proofs.first_place.Goals as goal

pub returns-then-at-lt-OWNERS : goal.returns-then-at-lt-OWNERS
returns-then-at-lt-OWNERS c a p h =
    let at = c.args in
    c.then_some.ensures
    ∙ then_cond _ _
    ∙ sym (found_up_to a p at.at at.n h Header _ (omega arith) (omega arith)
    (λ e. omega arith) (λ e. omega arith))

pub returns-then-at-lt-REGISTERS : goal.returns-then-at-lt-REGISTERS
returns-then-at-lt-REGISTERS c a p h =
    let at = c.args in
    c.then_some-then-at-lt-REGISTERS.ensures
    ∙ then_cond _ _
    ∙ sym (found_up_to a p at.at at.n h Hidden _ (omega arith) (omega arith, omega arith)
    (λ e. (omega arith, omega arith)) (λ e. omega arith))

pub returns : goal.returns
returns c a p h =
    let at = c.args in
    let r = c.register_no-register in
    c.then_some-2.ensures
    ∙ then_cond _ _
    ∙ sym (found_up_to a p at.at at.n h (RegisterOf _) _ (omega arith)
    (_, r.ensures, omega arith, omega arith, omega arith)
    (λ e. (_, r.ensures, omega arith, omega arith, omega arith)) (λ e. omega arith))
