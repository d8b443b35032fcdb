-- `writes::judging::judge_edit` meets its contract: test by test, and a store in the tag is one in its unit. Assumes nothing.
use Rattle.std.specs.Prelude.{Some, None}
use Rattle.rules.proofs.BytesLaws.{part_put_inside}
use Rattle.rules.proofs.Tests.{gives, leaves, none_applies, joined}
use Rattle.rules.specs.Bytes.{put}
use Rattle.rules.specs.Hosts.{hosts, listed}
use Rattle.rules.specs.Map.{unit_at}
use Rattle.rules.specs.Refusals.{lowest, ◌when◌else◌, granted, edit_allowed, edit_checks, write_checks}
use Rattle.rules.specs.State.{State}
use Rattle.rules.specs.Units.{unit_bytes}
use Rattle.rules.specs.declared.Place.TheVariants.{UnitOf}
use Rattle.rules.specs.declared.Unit.{Unit}
use Rattle.std.proofs.Common.{ℕ, ◌+◌, ◌-◌, ◌≤◌, ◌≡◌, sym, ap, ◌∙◌, not, List, arith, eqb, eq-eqb, ne_eqb}
use Rattle.units.proofs.FormLaws.{formless, formed}
use Rattle.units.proofs.Laws.{decoded_whole}
use Rattle.units.specs.Decoded.{decoded}
use Rattle.xxtea.specs.Block.{E}
use Rattle.writes.proofs.judging.judge_edit.Goals as goal

-- the unit of an edited tag is the unit edited
unit-edited : (k at : ℕ) (bs t u : List ℕ) → u ≡ unit_bytes t k → unit_at k ≤ at
    → unit_bytes (put at bs t) k ≡ put (at - unit_at k) bs u
unfolding unit_bytes
unit-edited k at bs t u f h =
    let e : unit_at k + (at - unit_at k) ≡ at = omega arith in
    rw e at (part_put_inside (unit_at k) 32 (at - unit_at k) bs t) ∙ ap (put (at - unit_at k) bs) (sym f)

edit-formless : (s : State) (k at : ℕ) (bs u : List ℕ) → u ≡ unit_bytes s.tag k → decoded u ≡ None
    → lowest (write_checks E s (UnitOf k) at bs) ≡ Some 5
unfolding write_checks edit_checks
edit-formless s k at bs u e d = formless (unit_bytes s.tag k) _ (ap decoded (sym e) ∙ d)

-- the checks of a decoded unit; 13 has two tests
edit-by : (s : State) (k at : ℕ) (bs u : List ℕ) (x : Unit) → u ≡ unit_bytes s.tag k → decoded u ≡ Some x
    → unit_at k ≤ at
    → lowest (write_checks E s (UnitOf k) at bs)
    ≡ lowest (6 when x.ne else 7 when not (eqb s.session.edit x.edit) else
    13 when listed k (hosts s.tag) else 13 when not (edit_allowed x.model u (put (at - unit_at k) bs u)) else granted)
unfolding write_checks edit_checks
edit-by s k at bs u x e d h =
    rw (unit-edited k at bs s.tag u e h, ← e) (formed u x _ d ∙ rw (decoded_whole u x d).1)

pub returns-in_default : goal.returns-in_default
returns-in_default c = sym (edit-formless _ _ _ _ _ c.unit_of-unit.ensures (sym c.in_default.ensures))

pub returns-then-u : goal.returns-then-u
returns-then-u c =
    sym (edit-by _ _ _ _ _ _ c.unit_of-unit.ensures (sym c.in-Some.ensures) c.requires.0 ∙ gives 6 _ _ c.if-u.true)

pub returns-then-session-u : goal.returns-then-session-u
returns-then-session-u c =
    sym (edit-by _ _ _ _ _ _ c.unit_of-unit.ensures (sym c.in-Some.ensures) c.requires.0
    ∙ leaves 6 _ _ c.if-u.false ∙ gives 7 _ _ (ap not (ne_eqb _ _ c.if-session-u.true)))

pub returns-then-lists-edit_fits : goal.returns-then-lists-edit_fits
returns-then-lists-edit_fits c =
    let fit = c.edit_fits.ensures in
    sym (edit-by _ _ _ _ _ _ c.unit_of-unit.ensures (sym c.in-Some.ensures) c.requires.0
    ∙ leaves 6 _ _ c.if-u.false ∙ leaves 7 _ _ (ap not (eq-eqb _ _ c.if-session-u.false))
    ∙ joined 13 _ _ _ ∙ gives 13 _ _ (rw (c.lists.ensures, fit, c.unit_at.ensures) at c.if-lists-edit_fits.true))

pub returns : goal.returns
returns c =
    let fit = c.edit_fits.ensures in
    sym (edit-by _ _ _ _ _ _ c.unit_of-unit.ensures (sym c.in-Some.ensures) c.requires.0
    ∙ leaves 6 _ _ c.if-u.false ∙ leaves 7 _ _ (ap not (eq-eqb _ _ c.if-session-u.false))
    ∙ joined 13 _ _ _ ∙ leaves 13 _ _ (rw (c.lists.ensures, fit, c.unit_at.ensures) at c.if-lists-edit_fits.false)
    ∙ none_applies)
