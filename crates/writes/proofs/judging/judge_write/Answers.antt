-- `writes::judging::judge_write` meets its contract: the count, then the place. Assumes nothing.
use Rattle.rules.proofs.Tests.{or_false, gives, leaves, joined, handed_missing}
use Rattle.rules.specs.Command.{in_place, checks, write}
use Rattle.rules.specs.Map.{sound, place_of}
use Rattle.rules.specs.Refusals.{lowest, write_checks}
use Rattle.rules.specs.State.{Cipher, State}
use Rattle.rules.specs.declared.Refusal.TheVariants.{Count, Outside}
use Rattle.std.proofs.Common.{ℕ, ◌≡◌, refl, sym, ap, subst, ◌∙◌, true, false, ◌||◌, not, List, length, eqb, ltb}
use Rattle.writes.proofs.JudgeLaws.{refuses, judged_as}
use Rattle.writes.specs.Verdict.{Judged}
use Rattle.writes.proofs.judging.judge_write.Goals as goal

-- where none does, the place decides
place-decides : (E : Cipher) (s : State) (a : ℕ) (bs : List ℕ) → sound s.tag ≡ true
    → (eqb (length bs) 0 || ltb 4096 (length bs)) ≡ false
    → lowest (checks E s (write a bs))
    ≡ lowest (in_place (place_of s.tag a (length bs)) (λ p. write_checks E s p a bs))
unfolding checks
place-decides E s a bs w e =
    let x = or_false _ _ e in leaves 1 _ _ (ap not w) ∙ leaves 2 _ _ x.0 ∙ leaves 2 _ _ x.1

pub returns-then-n : goal.returns-then-n
unfolding checks
returns-then-n c =
    refuses _ _ Count (leaves 1 _ _ (ap not c.requires) ∙ joined 2 _ _ _ ∙ gives 2 _ _ c.if-n.true)

pub returns-in_err-place : goal.returns-in_err-place
unfolding in_place
returns-in_err-place c =
    let e = c.in_err-place.ensures in
    let nowhere = sym c.place_of.ensures ∙ e.ok_part in
    let decides = place-decides _ _ _ _ c.requires c.if-n.false in
    subst (Judged _ _) (sym (handed_missing _ _ _ _ e.ok_part e.value c.from_residual.ensures.1))
    (refuses _ _ Outside (decides ∙ rw nowhere (gives 3 _ _ refl)))

pub returns : goal.returns
unfolding in_place
returns c =
    let found = sym c.place_of.ensures ∙ c.in_ok-place.ensures.ok_part in
    let decides = place-decides _ _ _ _ c.requires c.if-n.false in
    rw found (judged_as _ _ _ _ (sym (decides ∙ rw found)) c.judge_write_in.ensures)
