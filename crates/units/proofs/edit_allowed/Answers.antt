-- `units::edit_allowed` meets its contract. Assumes nothing.
use Rattle.std.proofs.Common.{sym, ◌∙◌}
use Rattle.rules.specs.Refusals.{is_receiver}
use Rattle.units.proofs.Laws.{no_receiver, edit_allowed_is, edit_malformed}
use Rattle.units.proofs.edit_allowed.Goals as goal

pub returns-in_default : goal.returns-in_default
returns-in_default c = sym (edit_malformed _ _ _ (sym c.in_default.ensures))

pub returns-in-Receiver : goal.returns-in-Receiver
unfolding is_receiver
returns-in-Receiver c =
    c.keeps_model.ensures ∙ sym (edit_allowed_is _ _ _ _ (sym c.in-Some.ensures) ∙ rw c.in-Receiver.is)

pub returns-in_default-model : goal.returns-in_default-model
returns-in_default-model c =
    c.may_become.ensures
    ∙ sym (edit_allowed_is _ _ _ _ (sym c.in-Some.ensures) ∙ rw (no_receiver _ c.in_default-model.not-Receiver))
