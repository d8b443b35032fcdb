-- What the functions of `writes` hand each other. The public contract does not cite it.
use Rattle.std.specs.Prelude.{ℕ, ◌+◌, ◌≤◌, ◌<◌, ◌≡◌, List, [], ◌∷◌, length, Option, None, Some, Result, Ok}
use Rattle.rules.specs.declared.Stage.TheVariants.{Zero, One, Two}
use Rattle.rules.specs.declared.Model.{Model}
use Rattle.rules.specs.declared.Model.TheVariants.{Default, WriteOnce, Counter, Receiver, SharedKey}
use Rattle.rules.specs.declared.Place.{Place}
use Rattle.rules.specs.declared.Place.TheVariants.{Header, Hidden, RegisterOf, Pins, Readers, UnitOf, Spare, Segment, Public}
use Rattle.rules.specs.Bytes.{byte, part, xor}
use Rattle.rules.specs.Map.{unit_at, place_of}
use Rattle.rules.specs.Units.{unit_bytes, unit_of}
use Rattle.rules.specs.State.{State}
use Rattle.rules.specs.declared.Refusal.{Refusal}
use Rattle.rules.specs.Answers.{refusal_of}
use Rattle.rules.specs.Refusals.{Checks, lowest, write_checks}
use Rattle.rules.specs.Effects.{Store, ◌↤◌, set_flag, read_only}
use Rattle.rules.specs.Command.{checks, write}
use Rattle.xxtea.specs.Block.{E}
use Rattle.writes.specs.declared.judging.Act.{Act}
use Rattle.writes.specs.declared.judging.Act.TheVariants as act

-- a write that is judged: what is to be done, or why it is refused
abbrev pub Verdict : Type 0
Verdict = Result Act Refusal

-- the verdict by the refusals `cs`, where `x` is to be done if none applies
pub record Judged (cs : Checks) (x : Act) (v : Verdict) : Type 0 where
  pub number : refusal_of v ≡ lowest cs
  pub granted : lowest cs ≡ None → v ≡ Ok x

-- what a granted write does: in segment k, by its model and by its unit; and in a place of the tag t. At the last stage of
-- a model, and in the places that take no write, nothing is granted, so that any act will do.
unfoldable pub act_of : ℕ → Model → Act
act_of k Default = act.Store
act_of k WriteOnce = act.StoreOnce k
act_of k Counter = act.Store
act_of k (Receiver Zero) = act.Store
act_of k (Receiver One) = act.Xor
act_of k (Receiver Two) = act.Store
act_of k (SharedKey g) = act.Store

abbrev pub unit_act : ℕ → List ℕ → Act
unit_act k u = act_of k (unit_of u).model

unfoldable pub act_in : List ℕ → Place → Act
act_in t Header = act.NextCount
act_in t Hidden = act.Store
act_in t (RegisterOf r) = act.Take r
act_in t Pins = act.Store
act_in t Readers = act.Store
act_in t (UnitOf k) = act.Edit k
act_in t Spare = act.Store
act_in t (Segment k) = unit_act k (unit_bytes t k)
act_in t (Public k) = act.Store

abbrev pub act_at : List ℕ → Option Place → Act
act_at t None = act.Store
act_at t (Some p) = act_in t p

-- the verdict on a write of `bs` at `a` in the place p, and wherever it lies
abbrev pub JudgedIn : State → Place → ℕ → List ℕ → Verdict → Type 0
JudgedIn s p a bs v = Judged (write_checks E s p a bs) (act_in s.tag p) v

abbrev pub WriteJudged : State → ℕ → List ℕ → Verdict → Type 0
WriteJudged s a bs v = Judged (checks E s (write a bs)) (act_at s.tag (place_of s.tag a (length bs))) v

-- what a granted write of `bs` at `a` stores in the tag t; a register's write is made elsewhere
unfoldable pub stores_by : Act → List ℕ → ℕ → List ℕ → List Store
stores_by act.Store t a bs = (a ↤ bs) ∷ []
stores_by act.Xor t a bs = (a ↤ xor (part a (length bs) t) bs) ∷ []
stores_by (act.StoreOnce k) t a bs = (a ↤ bs) ∷ (unit_at k ↤ (read_only (byte (unit_at k) t) ∷ [])) ∷ []
stores_by (act.Edit k) t a bs = (a ↤ bs) ∷ []
stores_by act.NextCount t a bs = (a ↤ bs) ∷ set_flag 0 ∷ []
stores_by (act.Take r) t a bs = []

-- that it can be carried out
abbrev pub Fits : List ℕ → ℕ → List ℕ → Act → Type 0
Fits t a bs act.Store = a + length bs ≤ length t
Fits t a bs act.Xor = a + length bs ≤ length t
Fits t a bs (act.StoreOnce k) = (a + length bs ≤ length t) × (unit_at k < length t)
Fits t a bs (act.Edit k) = (unit_at k ≤ a) × (a + length bs ≤ unit_at k + 32) × (unit_at k + 32 ≤ length t)
Fits t a bs act.NextCount = a + length bs ≤ length t
Fits t a bs (act.Take r) = Prim.Unit
