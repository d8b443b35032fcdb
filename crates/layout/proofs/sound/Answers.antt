-- `layout::sound` meets its contract: a tag that is too short is not sound. Assumes nothing.
use Rattle.rules.proofs.MapLaws.{sizes}
use Rattle.rules.specs.Map.{smallest_tag, sound}
use Rattle.std.proofs.Common.{ℕ, ◌<◌, ◌≡◌, refl, Bool, true, false, List, arith, length}
use Rattle.layout.proofs.sound.Goals as goal

short-unsound : (t : List ℕ) → length t < smallest_tag → false ≡ sound t
short-unsound t h = by (sound t) refl
  where
    by : (b : Bool) → sound t ≡ b → false ≡ b
    by true e = absurd (omega (arith, (sizes t e).smallest))
    by false e = refl

pub returns-then-tag-lt-SMALLEST : goal.returns-then-tag-lt-SMALLEST
returns-then-tag-lt-SMALLEST c = short-unsound _ c.if-tag-lt-SMALLEST.true
