-- What the contracts of `replay` cite: how long an input may be. Assumes nothing.
use Rattle.std.specs.Prelude.{ℕ, ◌≤◌, Result, IfOk}

-- an input that was read whole has no more bytes
abbrev pub AtMost : {F : Type 0} → ℕ → Result ℕ F → Type 0
AtMost most read = IfOk read (λ n. n ≤ most)
