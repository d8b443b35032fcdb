-- `writes::judging::judge_model` meets its contract: model by model. Assumes nothing.
use Rattle.rules.proofs.Tests.{none_applies}
use Rattle.rules.specs.Refusals.{slot_checks}
use Rattle.rules.specs.declared.KeyStage.{KeyStage}
use Rattle.rules.specs.declared.Stage.{Stage}
use Rattle.rules.specs.declared.Stage.TheVariants.{Zero, Two}
use Rattle.rules.specs.declared.Model.TheVariants.{Default, Receiver, SharedKey}
use Rattle.rules.specs.declared.Model.{Model}
use Rattle.std.proofs.Common.{ℕ, ◌≡◌, ◌⊎◌, inl, inr, sym, List}
use Rattle.writes.proofs.JudgeLaws.{acts}
use Rattle.writes.specs.Verdict.{Judged, act_of}
use Rattle.writes.specs.declared.judging.Act.TheVariants.{Store}
use Rattle.std.specs.Prelude.{Ok}
use Rattle.writes.proofs.judging.judge_model.Goals as goal

-- models 0 and 4, and model 3 at two of its stages, are plain stores
plain : (m : Model) (k at : ℕ) (old bs : List ℕ) → (m ≡ Default) ⊎ ((g : KeyStage) × (m ≡ SharedKey g))
    → Judged (slot_checks m at old bs) (act_of k m) (Ok Store)
unfolding slot_checks act_of
plain m k at old bs (inl e) = rw e (acts _ _ none_applies)
plain m k at old bs (inr (g, e)) = rw e (acts _ _ none_applies)

staged : (g : Stage) (k at : ℕ) (old bs : List ℕ) → (g ≡ Zero) ⊎ (g ≡ Two)
    → Judged (slot_checks (Receiver g) at old bs) (act_of k (Receiver g)) (Ok Store)
unfolding slot_checks act_of
staged g k at old bs (inl e) = rw e (acts _ _ none_applies)
staged g k at old bs (inr e) = rw e (acts _ _ none_applies)

pub returns-in-Default : goal.returns-in-Default
returns-in-Default c = plain _ _ _ _ _ c.in-Default.is

pub returns-in-WriteOnce : goal.returns-in-WriteOnce
unfolding slot_checks act_of
returns-in-WriteOnce c = rw c.in-WriteOnce.is (acts _ _ none_applies)

pub returns-in_ok-judge_slot-in-Counter : goal.returns-in_ok-judge_slot-in-Counter
unfolding act_of
returns-in_ok-judge_slot-in-Counter c = rw c.in-Counter.is (acts _ _ (sym c.in_ok-judge_slot-in-Counter.ensures))

pub returns-in-One : goal.returns-in-One
unfolding slot_checks act_of
returns-in-One c = rw (c.in-Receiver.is, c.in-One.is) (acts _ _ none_applies)

pub returns-in-Zero : goal.returns-in-Zero
returns-in-Zero c = rw c.in-Receiver.is (staged _ _ _ _ _ c.in-Zero.is)
