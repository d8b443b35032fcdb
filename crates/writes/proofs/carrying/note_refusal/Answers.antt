-- `writes::carrying::note_refusal` meets its contract. Assumes nothing.
use Rattle.octets.proofs.Laws.{set_put}
use Rattle.rules.specs.Answers.{number_of}
use Rattle.rules.specs.Effects.{apply, refusal_stores}
use Rattle.rules.specs.Map.{flag_at}
use Rattle.std.proofs.Common.{ap, sym, ◌∙◌}
use Rattle.writes.proofs.ActLaws.{quiet}
use Rattle.writes.proofs.carrying.note_refusal.Goals as goal

pub returns-in-WrongResponse : goal.returns-in-WrongResponse
unfolding apply refusal_stores
returns-in-WrongResponse c =
    let t = c.args.tag.now in
    set_put flag_at 1 t ∙ sym (ap (λ r. apply (refusal_stores (number_of r)) t) c.in-WrongResponse.is)

pub returns-in_default : goal.returns-in_default
unfolding apply
returns-in_default c = sym (ap (λ ss. apply ss c.args.tag.now) (quiet c.args.refusal c.in_default.not-WrongResponse))
