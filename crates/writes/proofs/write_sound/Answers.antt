-- `writes::write_sound` meets its contract: what is judged is carried out, by a register or by what is stored. Assumes nothing.
use Rattle.rules.proofs.MapLaws.{sound_long}
use Rattle.rules.specs.Command.{refusal}
use Rattle.rules.specs.Effects.{apply}
use Rattle.rules.specs.State.{state}
use Rattle.std.proofs.Common.{ap, ap₂, sym, ◌∙◌, arith}
use Rattle.writes.proofs.ActLaws.{made_by, session_by, not_taken, left, refused_left, fit, taken}
use Rattle.writes.proofs.write_sound.Goals as goal

pub take-outcome-requires : goal.take-outcome-requires
take-outcome-requires c =
    let a = c.args in
    taken (state a.tag.now a.session) a.at a.«data».now _ c.requires (rw c.in-Take.is at c.in-Ok.ensures)

pub returns-in-Take : goal.returns-in-Take
unfolding made_by session_by refusal
returns-in-Take c =
    let a = c.args in
    let j = rw c.in-Take.is at c.in-Ok.ensures in
    record {
      answered = c.in-Ok.ensures.number;
      left = c.take-outcome.ensures ∙ left (state a.tag.now a.session) a.at a.«data».now _ c.requires j;
    }

pub carry_out-requires : goal.carry_out-requires
carry_out-requires c =
    let a = c.args in
    let l = sound_long a.tag.now c.requires in
    (omega arith, fit (state a.tag.now a.session) a.at a.«data».now _ c.requires c.in-Ok.ensures)

pub returns-in_default : goal.returns-in_default
unfolding refusal
returns-in_default c =
    let a = c.args in
    let s = state a.tag.now a.session in
    let j = c.in-Ok.ensures in
    let x = not_taken c.in-Ok.act s a.at a.«data».now c.in_default.not-Take in
    let tag = c.carry_out.ensures ∙ ap (λ ss. apply ss a.tag.now) (sym x.0) in
    record { answered = j.number; left = ap₂ state tag (sym x.1) ∙ left s a.at a.«data».now _ c.requires j }

pub note_refusal-requires : goal.note_refusal-requires
note_refusal-requires c = let l = sound_long c.args.tag.now c.requires in omega arith

pub returns-in-Err : goal.returns-in-Err
unfolding refusal
returns-in-Err c =
    let a = c.args in
    let j = c.in-Err.ensures in
    record {
      answered = j.number;
      left =
          ap (λ t. state t a.session) c.note_refusal.ensures
          ∙ refused_left (state a.tag.now a.session) a.at a.«data».now _ j;
    }
