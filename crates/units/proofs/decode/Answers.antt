-- `units::decode` meets its contract. Assumes nothing.
use Rattle.std.proofs.Common.{sym, ◌∙◌}
use Rattle.units.proofs.Laws.{decoded_unknown}
use Rattle.units.specs.Decoded.{decoded}
use Rattle.units.proofs.decode.Goals as goal

pub returns-in_err-model : goal.returns-in_err-model
returns-in_err-model c = c.from_residual.ensures ∙ sym (decoded_unknown _ (sym c.in_err-model.ensures))

pub returns : goal.returns
unfolding decoded
returns c = rw (← c.well_formed-2.ensures, ← c.unit_of.ensures) c.then_some.ensures
