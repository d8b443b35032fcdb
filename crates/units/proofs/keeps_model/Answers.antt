-- `units::keeps_model` meets its contract. Assumes nothing.
use Rattle.std.proofs.Common.{sym}
use Rattle.units.proofs.Laws.{keeps_model_is}
use Rattle.units.proofs.keeps_model.Goals as goal

pub returns : goal.returns
returns c = sym (keeps_model_is _ _)
