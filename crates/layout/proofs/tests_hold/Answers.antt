-- `layout::tests_hold` meets its contract: the tests of `soundness`, joined from the left. Assumes nothing.
use Rattle.octets.proofs.Laws.{horner}
use Rattle.rules.proofs.MapLaws.{spare_short}
use Rattle.rules.specs.Bytes.{part, all}
use Rattle.rules.specs.Map.{most, segments, publics, flag, sound, soundness}
use Rattle.std.proofs.Common.{◌<◌, arith}
use mathlib.Core.Bool.{and_assoc, and-true}
use Rattle.layout.proofs.tests_hold.Goals as goal

-- two bytes hold A, and two hold P
small : (c : goal.After-segments_at) → (c.segments-a.result < 65536) × (c.publics-p.result < 65536)
unfolding segments publics
small c =
    let tag = c.args.tag.now in
    let known = c.type_inv.tag in (
      omega (arith, c.segments-a.ensures, horner 1 tag 0 (omega arith), known 0, known 1),
      omega (arith, c.publics-p.ensures, horner 1 tag 2 (omega arith), known 2, known 3),
    )

pub overflow_add-result : goal.overflow_add-result
overflow_add-result c = omega (arith, small c)

pub overflow_mul-result : goal.overflow_mul-result
overflow_mul-result c = omega (arith, small c)

pub overflow_add-result-2 : goal.overflow_add-result-2
overflow_add-result-2 c =
    omega (arith, small c, c.segments_at.ensures, spare_short c.segments-a.result)

pub returns : goal.returns
unfolding sound soundness all most flag part
returns c =
    rw (
      c.all_zero-2.ensures,
      c.all_zero.ensures,
      c.segments_at.ensures,
      c.publics-p.ensures,
      c.segments-a.ensures,
    ) (simp (and_assoc, and-true))
