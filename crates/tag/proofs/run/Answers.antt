-- What is left to prove of `tag::run` beside its invariant. Assumes nothing.
use Rattle.command_log.proofs.Laws.{cut, read_counted}
use Rattle.command_log.specs.Next.{ComesNext, room_asked, kind_of, command_at, length_of}
use Rattle.rules.specs.State.{state}
use Rattle.std.proofs.Common.{◌+◌, ◌-◌, ◌≤◌, ◌<◌, ◌≡◌, refl, ap, not, subst, ◌∙◌, arith, length}
use Rattle.tag.proofs.RunLaws.{going_first, none_is, written_within, stops-full, stops_15, stops_end, goes_on}
use borrow.Rule.Slice.PartMut.{put_mid, mid_len, same_len_mid}
use Rattle.tag.specs.Replies.{replied}
use Rattle.tag.proofs.run.Goals as goal

pub loop-read-init : goal.loop-read-init
loop-read-init c =
    let a = c.args in
    (going_first (state a.tag.now a.session) a.log.now a.output.now _ c.sound-is_sound.ensures, refl, refl)

pub returns-then-output-written : goal.returns-then-output-written
returns-then-output-written c =
    let loop = c.loop-read in
    let n = c.next_at-next in
    let asked = c.room_of.ensures c.args.log.now loop.read in
    let full = subst (λ k. length loop.output - loop.written < k) asked c.if-output-written.true in
    stops-full _ _ _ _ _ _ _ _ n.result _ loop.invariant.0 c.loop-read-test.true
    n.ensures full c.stopped.ensures

pub reply_to-written-requires : goal.reply_to-written-requires
reply_to-written-requires c =
    let loop = c.loop-read in
    let log = c.args.log.now in
    let n = c.next_at-next in
    let l = mid_len loop.written (length loop.output) loop.output (omega arith) in
    let r = c.room_of.ensures log loop.read in
    let e = ap (λ n. loop.read + n) c.length_of.ensures in
    let w = n.ensures.whole in (
      loop.invariant.0.same,
      record {
        whole = mid_len loop.read _ log (omega (arith, e, w)) ∙ omega (arith, e);
        some = λ d f. read_counted log loop.read d (subst (ComesNext log loop.read) f n.ensures);
        wide = rw (cut log loop.read _ n.result e) (omega (arith, l, r));
      },
    )

pub overflow_add-written : goal.overflow_add-written
overflow_add-written c =
    let room : room_asked (command_at c.args.log.now c.loop-read.read c.next_at-next.result)
    ≤ length c.loop-read.output - c.loop-read.written = let loop = c.loop-read in
    let asked = c.room_of.ensures c.args.log.now loop.read in
    subst (λ k. k ≤ length loop.output - loop.written) asked c.if-output-written.false in
    let within : c.loop-read.written + c.reply_to-written.result ≤ length c.loop-read.output = let loop = c.loop-read in
    let reply = c.reply_to-written in
    written_within _ _ loop.output _ reply.new.output _ _ loop.written _ (replied reply.result reply.new.session)
    c.next_at-next.ensures loop.invariant.0.fits room (rw (cut c.args.log.now c.loop-read.read _ c.next_at-next.result (ap (λ n. c.loop-read.read + n) c.length_of.ensures)) at reply.ensures) in
    let w = within in
    let l = c.loop-read.invariant.2 in
    record { fits = omega (arith, c.well_formed.1.1.1) }

pub returns-then-is_none : goal.returns-then-is_none
returns-then-is_none c =
    let room : room_asked (command_at c.args.log.now c.loop-read.read c.next_at-next.result)
    ≤ length c.loop-read.output - c.loop-read.written = let loop = c.loop-read in
    let asked = c.room_of.ensures c.args.log.now loop.read in
    subst (λ k. k ≤ length loop.output - loop.written) asked c.if-output-written.false in
    let n = c.next_at-next in
    stops_15 _ _ _ _ _ _ _ _ _ _ n.result _ _ c.loop-read.invariant.0 c.loop-read-test.true
    n.ensures (none_is _ (c.is_none.ensures ∙ ap not c.if-is_none.true)) room (rw (cut c.args.log.now c.loop-read.read _ c.next_at-next.result (ap (λ n. c.loop-read.read + n) c.length_of.ensures)) at c.reply_to-written.ensures) c.stopped-then-is_none.ensures

pub loop-read-preserved : goal.loop-read-preserved
loop-read-preserved c =
    let room : room_asked (command_at c.args.log.now c.loop-read.read c.next_at-next.result)
    ≤ length c.loop-read.output - c.loop-read.written = let loop = c.loop-read in
    let asked = c.room_of.ensures c.args.log.now loop.read in
    subst (λ k. k ≤ length loop.output - loop.written) asked c.if-output-written.false in
    let long : c.length_of.result ≡ length_of (kind_of c.next_at-next.result) = c.length_of.ensures in
    let loop = c.loop-read in
    let n = c.next_at-next in
    let reply = c.reply_to-written in
    let g =
    goes_on _ _ _ _ _ _ _ _ _ _ n.result _ loop.invariant.0 c.loop-read-test.true n.ensures
    (c.is_none.ensures ∙ ap not c.if-is_none.false) room (rw (cut c.args.log.now loop.read _ n.result (ap (λ n. loop.read + n) c.length_of.ensures)) at reply.ensures) in
    let size : length (put_mid c.loop-read.written (length c.loop-read.output - c.loop-read.written)
    c.loop-read.output c.reply_to-written.new.output)
    ≡ length c.args.output.now = let loop = c.loop-read in
    let reply = c.reply_to-written in
    same_len_mid loop.written (length loop.output - loop.written) loop.output reply.new.output
    reply.auto.output
    ∙ loop.invariant.2 in
    (rw long g, reply.auto.tag ∙ loop.invariant.1, size)

pub returns : goal.returns
returns c =
    stops_end _ _ _ _ _ _ _ _ _ c.loop-read.invariant.0 c.loop-read-test.false c.stopped-2.ensures
