-- What the functions of `moves` hand each other. The public contracts do not cite it.
use Rattle.std.specs.Prelude.{◌≡◌, Result, Ok}
use Rattle.rules.specs.declared.Stage.{Stage}
use Rattle.rules.specs.declared.Refusal.{Refusal}
use Rattle.rules.specs.declared.Model.{Model}
use Rattle.rules.specs.declared.Model.TheVariants.{Receiver}
use Rattle.rules.specs.Answers.{refusal_of}
use Rattle.rules.specs.Refusals.{Checks, lowest}

-- an advance by the refusals `cs`, of a unit with the model m: what is granted leaves the stage that the model has
pub record MoveJudged (cs : Checks) (m : Model) (v : Result Stage Refusal) : Type 0 where
  pub number : refusal_of v ≡ lowest cs
  pub granted : (g : Stage) → v ≡ Ok g → m ≡ Receiver g
