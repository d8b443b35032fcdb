-- `octets::all_zero` meets its contract: the fold is the test of all. Assumes nothing.
use Rattle.octets.proofs.Laws.{zeros_fold}
use Rattle.octets.proofs.all_zero.Goals as goal
use Rattle.std.specs.List.{fold}
use Rattle.std.proofs.lemmas.Grind.{common_steps}
use Rattle.std.proofs.Common.{◌∙◌, ◌≡◌, ◌&&◌, true, eqb, arith}

pub returns : goal.returns
returns c =
    let e : c.fold.result ≡ fold (λ all b. all && eqb b 0) true c.args.bytes.now = grind (arith, common_steps) in
    e ∙ zeros_fold true c.args.bytes.now
