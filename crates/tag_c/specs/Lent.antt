-- The session's bytes, as they are lent. The public contracts do not cite it.
use Rattle.std.specs.Prelude.{ℕ, ◌<◌, ◌≡◌, List, length}
use Rattle.rules.specs.Bytes.{byte}

pub record Lent (b : List ℕ) : Type 0 where
  pub size : length b ≡ 54
  pub bytes : (i : ℕ) → byte i b < 256
