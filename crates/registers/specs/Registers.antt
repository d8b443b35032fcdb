-- What the functions of `registers` hand each other and their callers. Assumes nothing.
use Rattle.std.specs.Prelude.{ℕ, ◌≤◌, ◌≡◌, ◌⊎◌, List, length}
use Rattle.xxtea.specs.Block.{E}
use Rattle.rules.specs.declared.Session.{Session}
use Rattle.rules.specs.declared.Register.{Register}
use Rattle.rules.specs.declared.Register.TheVariants.{Name, Commit}
use Rattle.rules.specs.Map.{readers_at}
use Rattle.rules.specs.State.{State, state, pin_index, owner_index}
use Rattle.rules.specs.Effects.{apply, register_stores, register_session}

-- that a register's write can be carried out
pub record Taken (t : List ℕ) (v : Session) (r : Register) (bs : List ℕ) : Type 0 where
  pub long : readers_at ≤ length t
  pub whole : length bs ≡ 16
  pub pinned : (r ≡ Name) ⊎ (r ≡ Commit) → pin_index v ≤ 255
  pub owned : r ≡ Commit → owner_index v ≤ 3

-- the state that a granted write of a register leaves
abbrev pub register_written : State → Register → List ℕ → State
register_written s r bs = state (apply (register_stores E s r bs) s.tag) (register_session E s r bs)
