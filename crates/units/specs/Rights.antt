-- The rights that a unit gives, as its judges hand them over.
use Rattle.std.specs.Prelude.{Bool}
use Rattle.rules.specs.Refusals.{Checks, ◌when◌else◌, granted}

-- 6, 7 and 8, by the three tests of a segment's rights
abbrev pub rights : Bool → Bool → Bool → Checks
rights forbidden pin name = 6 when forbidden else 7 when pin else 8 when name else granted
