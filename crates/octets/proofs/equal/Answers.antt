-- `octets::equal` meets its contract: the fold over the pairs is the test of all. Assumes nothing.
use Rattle.octets.proofs.Laws.{same_fold, other_length}
use Rattle.std.proofs.lemmas.Iterator.{YieldsList-from_slice, YieldsList-from_zip}
use Rattle.std.proofs.lemmas.Iterator.Consumers.{fold_from_yields_List}
use Rattle.octets.proofs.equal.Goals as goal
use Rattle.std.proofs.Common.{◌∙◌, ◌&&◌, true, eqb, ℕ, sym, ne_eqb, rules, tests}

pub returns-else-a-b : goal.returns-else-a-b
returns-else-a-b c = ne_eqb _ _ c.if-a-b.false ∙ sym (other_length _ _ c.if-a-b.false)

pub returns-then-a-b : goal.returns-then-a-b
returns-then-a-b c =
    let a = c.args.a.now in
    let b = c.args.b.now in
    fold_from_yields_List _ (λ all (p : ℕ × ℕ). all && eqb p.0 p.1) true c.fold.result c.fold.ensures.ran
    (YieldsList-from_zip (YieldsList-from_slice a cc) (YieldsList-from_slice b cc))
    (λ all p r q k. search (rules, tests))
    ∙ same_fold true a b c.if-a-b.true
