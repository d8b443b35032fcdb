-- `tag::reply_to` meets its contract: each kind of command is carried out and replied to. Assumes nothing.
use Rattle.std.specs.Prelude.{Option, Some}
use Rattle.command_log.proofs.Laws.{read_in, write_in, advance_in, insert_in}
use Rattle.command_log.specs.Next.{kind_of, command_in, length_of, room_asked}
use Rattle.command_log.specs.declared.Next.{Next}
use Rattle.rules.specs.Answers.{Answer}
use Rattle.rules.specs.Bytes.{put}
use Rattle.rules.specs.Calls.{reply_of}
use Rattle.rules.specs.Command.{done, grant}
use Rattle.rules.specs.declared.Session.{Session}
use Rattle.rules.specs.Log.{count_of, encoded, body_length, command_of, room_for}
use Rattle.rules.specs.State.{state}
use Rattle.std.proofs.Common.{ℕ, List, ◌≤◌, ◌≡◌, refl, ap, ◌∙◌, arith, length}
use Rattle.tag.proofs.Laws.{answered, write_replied, insert_replied, powered_up_lem, read_replied}
use Rattle.tag.specs.Replies.{Room, Answered, replied}
use Rattle.tag.proofs.reply_to.Goals as goal

-- how many bytes what comes next has, and the room for its reply
bytes_of : (x y : Option Next) (bytes out : List ℕ) → x ≡ y → Room x bytes out → length bytes ≡ length_of (kind_of y)
bytes_of x y bytes out e r = r.whole ∙ ap (λ (z : Option Next). length_of (kind_of z)) e

room_of : (x y : Option Next) (bytes out : List ℕ) → x ≡ y → Room x bytes out
    → room_asked (command_in bytes y) ≤ length out
room_of x y bytes out e r = rw e at r.wide

-- an answer that is put at the start of the output, and a session beside it
answered_so : {a : Answer} {v w : Session} {out o : List ℕ} {n : ℕ} → o ≡ put 0 (encoded (reply_of a done)) out
    → n ≡ length (encoded (reply_of a done)) → w ≡ v → Answered a v out o (replied n w)
answered_so e f h = record { written = record { bytes = e; count = f }; session = h }

pub put_answer-requires-in-PowerUp : goal.put_answer-requires-in-PowerUp
unfolding command_of room_for
put_answer-requires-in-PowerUp c = room_of _ _ _ _ (c.in-Some.is ∙ ap Some c.in-PowerUp.is) c.requires.1

pub number32-address-requires : goal.number32-address-requires
unfolding body_length
number32-address-requires c = omega (arith, bytes_of _ _ _ _ (c.in-Some.is ∙ ap Some c.in-Read.is) c.requires.1)

pub reply_read-requires : goal.reply_read-requires
unfolding command_of room_for
reply_read-requires c =
    let e = c.in-Some.is ∙ ap Some c.in-Read.is in
    (c.requires.0, c.requires.1.some _ e, room_of _ _ _ _ e c.requires.1)

pub number32-address-requires-in-Write : goal.number32-address-requires-in-Write
unfolding body_length
number32-address-requires-in-Write c = omega (arith, bytes_of _ _ _ _ (c.in-Some.is ∙ ap Some c.in-Write.is) c.requires.1)

pub slice_bounds-write-count : goal.slice_bounds-write-count
unfolding body_length
slice_bounds-write-count c = omega (arith, bytes_of _ _ _ _ (c.in-Some.is ∙ ap Some c.in-Write.is) c.requires.1)

pub slice_bounds-write-start : goal.slice_bounds-write-start
unfolding body_length
slice_bounds-write-start c = omega (arith, bytes_of _ _ _ _ (c.in-Some.is ∙ ap Some c.in-Write.is) c.requires.1)

pub put_answer-requires-in-Write : goal.put_answer-requires-in-Write
unfolding command_of room_for
put_answer-requires-in-Write c = room_of _ _ _ _ (c.in-Some.is ∙ ap Some c.in-Write.is) c.requires.1

pub number16-segment-requires : goal.number16-segment-requires
unfolding body_length
number16-segment-requires c = omega (arith, bytes_of _ _ _ _ (c.in-Some.is ∙ ap Some c.in-Advance.is) c.requires.1)

pub put_answer-requires-in-Advance : goal.put_answer-requires-in-Advance
unfolding command_of room_for
put_answer-requires-in-Advance c = room_of _ _ _ _ (c.in-Some.is ∙ ap Some c.in-Advance.is) c.requires.1

pub number16-segment-requires-in-Insert : goal.number16-segment-requires-in-Insert
unfolding body_length
number16-segment-requires-in-Insert c = omega (arith, bytes_of _ _ _ _ (c.in-Some.is ∙ ap Some c.in-Insert.is) c.requires.1)

pub slice_bounds-sixteen-count : goal.slice_bounds-sixteen-count
unfolding body_length
slice_bounds-sixteen-count c = omega (arith, bytes_of _ _ _ _ (c.in-Some.is ∙ ap Some c.in-Insert.is) c.requires.1)

pub slice_bounds-sixteen-start : goal.slice_bounds-sixteen-start
unfolding body_length
slice_bounds-sixteen-start c = omega (arith, bytes_of _ _ _ _ (c.in-Some.is ∙ ap Some c.in-Insert.is) c.requires.1)

pub put_answer-requires-in-Insert : goal.put_answer-requires-in-Insert
unfolding command_of room_for
put_answer-requires-in-Insert c = room_of _ _ _ _ (c.in-Some.is ∙ ap Some c.in-Insert.is) c.requires.1

pub returns-in-PowerUp : goal.returns-in-PowerUp
unfolding command_of
returns-in-PowerUp c =
    let a = c.args in
    let e = ap (command_in a.bytes.now) (c.in-Some.is ∙ ap Some c.in-PowerUp.is) in
    powered_up_lem (state a.tag.now a.session.now) _ _ _ _ _ _ e c.power_up.ensures (answered_so c.put_answer-in-PowerUp.ensures.output_after c.put_answer-in-PowerUp.ensures.value refl)

pub returns-in-Read : goal.returns-in-Read
returns-in-Read c =
    let a = c.args in
    let e = ap (command_in a.bytes.now) (c.in-Some.is ∙ ap Some c.in-Read.is) in
    read_replied (state a.tag.now a.session.now) _ _ _ _ _ _ _ (e ∙ read_in _ _ _ c.number32-address.ensures)
    c.reply_read.ensures

pub returns-in-Write : goal.returns-in-Write
unfolding body_length
returns-in-Write c =
    let written = c.write-outcome in
    let a = c.args in
    let e = c.in-Some.is ∙ ap Some c.in-Write.is in
    let l = bytes_of _ _ _ _ e c.requires.1 in
    write_replied (state a.tag.now a.session.now) _ 5 (count_of c.in-Write.field-0) _ _ _ _ _ written.result _ _
    (ap (command_in a.bytes.now) e ∙ write_in _ _ _ c.number32-address-in-Write.ensures) (omega (arith, l)) written.ensures
    (answered_so c.put_answer-in-Write.ensures.output_after c.put_answer-in-Write.ensures.value c.replace.ensures)

pub returns-in-Advance : goal.returns-in-Advance
returns-in-Advance c =
    let a = c.args in
    let e = ap (command_in a.bytes.now) (c.in-Some.is ∙ ap Some c.in-Advance.is) in
    answered (state a.tag.now a.session.now) _ _ _ _ _ _ _ _ _ (e ∙ advance_in _ _ c.number16-segment.ensures)
    (unfold grant in refl) c.advance-answer.ensures (answered_so c.put_answer-in-Advance.ensures.output_after c.put_answer-in-Advance.ensures.value refl)

pub returns-in-Insert : goal.returns-in-Insert
unfolding body_length
returns-in-Insert c =
    let a = c.args in
    let e = c.in-Some.is ∙ ap Some c.in-Insert.is in
    let l = bytes_of _ _ _ _ e c.requires.1 in
    insert_replied (state a.tag.now a.session.now) _ 3 _ _ _ _ _ _ _ _ _ (omega (arith, l))
    (ap (command_in a.bytes.now) e ∙ insert_in _ _ c.number16-segment-in-Insert.ensures) c.sixteen-host.ensures
    c.insert-answer.ensures (answered_so c.put_answer-in-Insert.ensures.output_after c.put_answer-in-Insert.ensures.value refl)
