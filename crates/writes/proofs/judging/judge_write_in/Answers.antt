-- `writes::judging::judge_write_in` meets its contract: place by place. Assumes nothing.
use Rattle.layout.proofs.Laws.{unit_found, segment_found}
use Rattle.rules.proofs.MapLaws.{sizes}
use Rattle.rules.proofs.Tests.{gives, none_applies}
use Rattle.rules.specs.Refusals.{lowest, never, write_checks}
use Rattle.rules.specs.State.{Cipher, State}
use Rattle.rules.specs.declared.Place.TheVariants.{Header, Hidden, RegisterOf, Pins, Readers, UnitOf, Spare, Segment, Public}
use Rattle.rules.specs.declared.Place.{Place}
use Rattle.rules.specs.declared.Register.{Register}
use Rattle.rules.specs.declared.Refusal.TheVariants.{NeverTaken}
use Rattle.std.proofs.Common.{ℕ, ◌≡◌, ◌≢◌, refl, sym, ap, ◌∙◌, List, arith}
use Rattle.writes.proofs.JudgeLaws.{refuses, acts, passed_on}
use Rattle.writes.specs.Verdict.{act_in}
use Rattle.writes.proofs.judging.judge_write_in.Goals as goal

-- the places that take no write
never-taken : (E : Cipher) (s : State) (p : Place) (a : ℕ) (bs : List ℕ) → p ≢ Header
    → ((r : Register) → p ≢ RegisterOf r) → ((k : ℕ) → p ≢ UnitOf k) → ((k : ℕ) → p ≢ Segment k)
    → ((k : ℕ) → p ≢ Public k) → write_checks E s p a bs ≡ never
unfolding write_checks
never-taken E s Header a bs h r u g b = absurd (h refl)
never-taken E s Hidden a bs h r u g b = refl
never-taken E s (RegisterOf i) a bs h r u g b = absurd (r i refl)
never-taken E s Pins a bs h r u g b = refl
never-taken E s Readers a bs h r u g b = refl
never-taken E s (UnitOf k) a bs h r u g b = absurd (u k refl)
never-taken E s Spare a bs h r u g b = refl
never-taken E s (Segment k) a bs h r u g b = absurd (g k refl)
never-taken E s (Public k) a bs h r u g b = absurd (b k refl)

pub judge_header-requires : goal.judge_header-requires
judge_header-requires c = omega (arith, (sizes _ c.requires.0).smallest)

pub judge-requires : goal.judge-requires
judge-requires c = omega (arith, (sizes _ c.requires.0).smallest)

pub judge_edit-requires : goal.judge_edit-requires
judge_edit-requires c =
    let found = unit_found _ _ _ _ _ c.requires.0 c.requires.1 c.in-UnitOf.is in
    let inside = found.0.inside in
    let small = found.0.small in
    (found.1, found.2, inside, omega (arith, inside, small))

pub judge_segment_at-requires : goal.judge_segment_at-requires
judge_segment_at-requires c =
    let found = segment_found _ _ _ _ _ c.requires.0 c.requires.1 c.in-Segment.is in
    (found.1, found.2, found.0.inside)

pub returns-in_err-judge_header-in-Header : goal.returns-in_err-judge_header-in-Header
unfolding write_checks
returns-in_err-judge_header-in-Header c =
    rw c.in-Header.is (passed_on _ _ _ _ c.from_residual.ensures.1 c.in_err-judge_header-in-Header.ensures)

pub returns-in_ok-judge_header-in-Header : goal.returns-in_ok-judge_header-in-Header
unfolding write_checks act_in
returns-in_ok-judge_header-in-Header c =
    rw c.in-Header.is (acts _ _ (sym c.in_ok-judge_header-in-Header.ensures))

pub returns-in_err-judge-in-RegisterOf : goal.returns-in_err-judge-in-RegisterOf
unfolding write_checks
returns-in_err-judge-in-RegisterOf c =
    rw c.in-RegisterOf.is
    (passed_on _ _ _ _ c.from_residual-in_err-judge-in-RegisterOf.ensures.1 c.in_err-judge-in-RegisterOf.ensures)

pub returns-in_ok-judge-in-RegisterOf : goal.returns-in_ok-judge-in-RegisterOf
unfolding write_checks act_in
returns-in_ok-judge-in-RegisterOf c =
    rw c.in-RegisterOf.is (acts _ _ (sym c.in_ok-judge-in-RegisterOf.ensures))

pub returns-in_ok-judge_edit-in-UnitOf : goal.returns-in_ok-judge_edit-in-UnitOf
unfolding act_in
returns-in_ok-judge_edit-in-UnitOf c =
    rw c.in-UnitOf.is (acts _ _ (sym c.in_ok-judge_edit-in-UnitOf.ensures))

pub returns-in-Public : goal.returns-in-Public
unfolding write_checks act_in
returns-in-Public c = rw c.in-Public.is (acts _ _ none_applies)

pub returns-in_default : goal.returns-in_default
returns-in_default c =
    let d = c.in_default in
    let refused = never-taken _ _ _ _ _ d.not-Header d.not-RegisterOf d.not-UnitOf d.not-Segment d.not-Public in
    refuses _ _ NeverTaken (ap lowest refused ∙ gives 4 _ _ refl)
