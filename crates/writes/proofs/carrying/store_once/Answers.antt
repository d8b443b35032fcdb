-- `writes::carrying::store_once` meets its contract. Assumes nothing.
use Rattle.octets.proofs.Laws.{set_put, store-back}
use Rattle.rules.specs.Bytes.{byte, put}
use Rattle.rules.specs.Effects.{read_only}
use Rattle.std.proofs.Common.{ap, ap₂, ◌∙◌, [], ◌∷◌}
use Rattle.writes.proofs.carrying.store_once.Goals as goal

pub returns : goal.returns
returns c =
    let a = c.args in
    let t = a.tag.now in
    let i = c.unit_at-unit.result in
    let back = store-back a.at a.«data».now t _ c.requires.0 c.store.ensures in
    set_put i _ _ ∙ ap₂ (λ v t. put i (v ∷ []) t) c.read_only-control.ensures back
    ∙ ap (λ i. put i (read_only (byte i t) ∷ []) (put a.at a.«data».now t)) c.unit_at-unit.ensures
