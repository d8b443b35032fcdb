-- What is left to prove of `octets::number` beside its invariant. Assumes nothing.
use Rattle.octets.proofs.Laws.{number_next, part_lent}
use Rattle.rules.specs.Bytes.{number, number_from}
use Rattle.std.proofs.Common.{◌∙◌, refl, ap, arith, add-one, ◌^◌, ◌≤◌}
use Rattle.std.proofs.Math.Nat.{pow-suc, pow-le-pow_right}
use Rattle.std.proofs.lemmas.List.{take_all}
use Rattle.octets.proofs.number.Goals as goal

pub loop-digit-init : goal.loop-digit-init
unfolding number_from
loop-digit-init g c = record { value = refl; fits = omega arith }

pub overflow_mul-number : goal.overflow_mul-number
overflow_mul-number g c =
    let most : 256 ^ c.loop-digit.digit-index ≤ 256 ^ 7 = pow-le-pow_right (omega arith) {j = 7} (omega arith) in
    omega arith

pub loop-digit-preserved : goal.loop-digit-preserved
loop-digit-preserved g c = record {
  value = number_next _ _ _ _ (omega arith) c.loop-digit.invariant.value c.from.ensures;
  fits = rw (add-one, pow-suc) (omega arith);
}

pub returns-clause-value : goal.returns-clause-value
returns-clause-value g c =
    let whole = part_lent c.args.at g.row.N c.args.bytes.now in
    c.loop-digit.invariant.value ∙ ap number (take_all _ _ c.loop-digit-test.false ∙ whole)
