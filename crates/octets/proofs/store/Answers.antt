-- `octets::store` meets its contract: eight bytes become all of the data. Assumes nothing.
use Rattle.octets.proofs.Laws.{put_whole}
use Rattle.std.proofs.Common.{sym, ◌∙◌}
use Rattle.octets.proofs.store.Goals as goal

pub returns-in-Some-Some : goal.returns-in-Some-Some
returns-in-Some-Some c =
    let slot = c.in-Some-Some.ensures.cases in
    let eight = c.in-Some-Some.ensures'.cases in
    eight.same ∙ sym (put_whole c.args.«data».now c.args.bytes.now (eight.long ∙ sym slot.long))
