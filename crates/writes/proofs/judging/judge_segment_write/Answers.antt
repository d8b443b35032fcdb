-- `writes::judging::judge_segment_write` meets its contract: test by test, as the rights and the model are judged. Assumes nothing.
use Rattle.rules.proofs.Tests.{first_gives, first_leaves}
use Rattle.rules.specs.Bytes.{same}
use Rattle.rules.specs.Refusals.{lowest, ◌when◌else◌, slot_checks, segment_write_checks}
use Rattle.rules.specs.Units.{name_of}
use Rattle.rules.specs.declared.Unit.{Unit}
use Rattle.rules.specs.declared.Refusal.TheVariants.{Malformed}
use Rattle.std.proofs.Common.{ℕ, ◌≡◌, sym, ◌∙◌, Bool, ◌&&◌, not, List, eqb}
use Rattle.units.proofs.FormLaws.{formless, formed}
use Rattle.units.proofs.Laws.{decoded_whole}
use Rattle.units.specs.Decoded.{decoded}
use Rattle.std.specs.Prelude.{Some}
use Rattle.writes.proofs.JudgeLaws.{refuses, passed_on, judged_as}
use Rattle.writes.proofs.judging.judge_segment_write.Goals as goal

-- the checks of a decoded unit
checks-of : (write : ℕ) (name u : List ℕ) (o : ℕ) (old bs : List ℕ) (x : Unit) (b : Bool) → decoded u ≡ Some x
    → b ≡ same name (name_of u)
    → lowest (segment_write_checks write name u o old bs)
    ≡ lowest (6 when not x.wr else 7 when x.wrpin && not (eqb write x.write) else 8 when x.pn && not b else
    slot_checks x.model o old bs)
unfolding segment_write_checks
checks-of write name u o old bs x b e f = formed u x _ e ∙ rw ((decoded_whole u x e).1, f)

pub returns-in_default : goal.returns-in_default
unfolding segment_write_checks
returns-in_default c = refuses _ _ Malformed (formless _ _ (sym c.in_default.ensures))

pub returns-in_err-judge_rights : goal.returns-in_err-judge_rights
returns-in_err-judge_rights c =
    passed_on _ _ _ _ c.from_residual.ensures.1
    (sym (checks-of _ _ _ _ _ _ _ _ (sym c.in-Some.ensures) c.named.ensures ∙ first_gives _ _ _ (sym c.in_err-judge_rights.ensures)))

pub returns : goal.returns
returns c =
    rw (sym (decoded_whole _ _ (sym c.in-Some.ensures)).1)
    (judged_as _ _ _ _
    (sym (checks-of _ _ _ _ _ _ _ _ (sym c.in-Some.ensures) c.named.ensures ∙ first_leaves _ _ (sym c.in_ok-judge_rights.ensures)))
    c.judge_model.ensures)
