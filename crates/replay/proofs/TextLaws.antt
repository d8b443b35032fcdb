-- The laws of the text that is printed: a part's replies stand in its buffer as lines, and the texts of the parts, one
-- behind another, are the text of the whole. Assumes nothing.
use Rattle.std.specs.Prelude.{None, Option, Some}
use Prim.Native.Nat.{ℕ, zero, suc, ◌-◌, ◌≤◌, ◌<◌}
use mathlib.Core.Path.{◌≡◌, refl, sym, ap, ◌∙◌}
use mathlib.Core.Logic.{◌≢◌}
use mathlib.Core.Bool.{Bool, true, false, cond}
use mathlib.Core.List.{List, [], ◌++◌, append-nil}
use native.Mathlib.Omega.{arith}
use lib.ListN.{length, take, drop, length-take, length-drop}
use lib.Dec.{eqb, leb}
use borrow.Author.Tests.{eqb-true, eqb-false, leb-true, leb-false}
use Rattle.rules.specs.declared.Run.{Run}
use Rattle.rules.specs.Bytes.{part, put}
use Rattle.rules.specs.Answers.{code_of}
use Rattle.rules.specs.State.{State}
use Rattle.rules.specs.Command.{refused, reply, after}
use Rattle.rules.specs.Log.{Ran, Parsed, end, unreadable, ◌taking◌then◌, parsed, encoded, room_for, stopped, onward, carried_out, run_log}
use Rattle.rules.specs.Runs.{result, run_over}
use Rattle.rules.proofs.BytesLaws.{length_part, length-put, part_put_same}
use Rattle.rules.proofs.Runs.{runs_leave}
use Rattle.rules.proofs.RunLaws.{EachOf, each_of, run_reads, runs_continue, reply-readable}
use Rattle.xxtea.specs.Block.{E}
use Rattle.reply_lines.specs.Lines.{lines_of}
use Rattle.reply_lines.proofs.Laws.{WholeReplies, lines_short, lines_append, none_whole, whole_append, readable_whole}
use Rattle.replay.specs.Text.{PartText, text_over, texts_over, TextInParts}

-- ---- the text of a part

-- a text that has room for the lines of some replies
lines_fit : (replies text new : List ℕ) (n : ℕ) → length replies ≤ 4096 → length text ≡ 12288
    → new ≡ put 0 (lines_of replies) text → n ≡ length (part 0 (length text) (lines_of replies))
    → (n ≤ length new) × (part 0 n new ≡ lines_of replies)
lines_fit replies text new n h l e f =
    let short = lines_short 0 replies in
    let m : n ≡ length (lines_of replies) = omega (arith, f, length_part 0 (length text) (lines_of replies)) in
    let same : length new ≡ length text = ap length e ∙ length-put 0 (lines_of replies) text in
    (omega arith, rw (m, e) (part_put_same 0 (lines_of replies) text (omega arith)))

pub part_text : (s : State) (log out : List ℕ) (r : Run) (t o text new : List ℕ) (n : ℕ) → length out ≡ 4096
    → result r t o ≡ run_over E s log out → length text ≡ 12288
    → new ≡ put 0 (lines_of (take r.written o)) text
    → n ≡ length (part 0 (length text) (lines_of (take r.written o)))
    → PartText s log new n
unfolding part
part_text s log out r t o text new n k e l f g =
    let x = runs_leave E s log out r t o e in
    let replied : take r.written o ≡ (run_log E s log 4096).output = x.replied ∙ ap (λ k. (run_log E s log k).output) k in
    let within : length (take r.written o) ≤ 4096 = simp length-take (omega (arith, x.within)) in
    let fits = lines_fit (take r.written o) text new n within l f g in
    record { within = fits.0; says = fits.1 ∙ ap lines_of replied }

-- ---- the output of a run is whole replies

run_whole : (s : State) (p : Parsed) (room : ℕ) → EachOf p → WholeReplies (carried_out E s p room).output
unfolding carried_out stopped onward
run_whole s end room h = none_whole
run_whole s unreadable room h = by (leb 2 room)
  where
    by : (b : Bool) → WholeReplies (cond b (stopped (Some 15) (encoded (refused 15)) s) (stopped (Some 16) [] s)).output
    by true = readable_whole (refused 15) tt
    by false = none_whole
run_whole s (c taking n then p) room h =
    by (leb (room_for c) room) (run_whole (after E s c) p (room - length (encoded (reply E s c))) h.1)
  where
    rest : Ran
    rest = carried_out E (after E s c) p (room - length (encoded (reply E s c)))

    by : (b : Bool) → WholeReplies rest.output
        → WholeReplies (cond b (onward n (encoded (reply E s c)) rest) (stopped (Some 16) [] s)).output
    by true w =
        whole_append (encoded (reply E s c)) rest.output (readable_whole (reply E s c) (reply-readable E s c h.0)) w
    by false w = none_whole

output_whole : (s : State) (log : List ℕ) (room : ℕ) → WholeReplies (run_log E s log room).output
unfolding run_log
output_whole s log room = run_whole s (parsed 0 log) room (each_of 0 log)

-- ---- the text in parts

onward_text : (n : ℕ) (bs : List ℕ) (x : Ran) → WholeReplies bs
    → lines_of (onward n bs x).output ≡ lines_of bs ++ lines_of x.output
unfolding onward
onward_text n bs x w = lines_append bs x.output w

first_and_rest : (s : State) (log : List ℕ) (room more : ℕ) → (run_log E s log room).stop ≡ Some 16 → room ≤ more
    → let x = run_log E s log room in
    text_over s log more
    ≡ text_over s log room ++ text_over x.state (drop x.taken log) (more - length x.output)
first_and_rest s log room more e h =
    let x = run_log E s log room in
    ap (λ r. lines_of r.output) ((runs_continue E s).goes_on log room more e h)
    ∙ onward_text x.taken x.output _ (output_whole s log room)

enough : (s : State) (log : List ℕ) (room more : ℕ) → (run_log E s log room).stop ≢ Some 16 → room ≤ more
    → text_over s log more ≡ text_over s log room
enough s log room more e h = ap (λ r. lines_of r.output) ((runs_continue E s).enough log room more e h)

-- two runs that no 16 stops
same_text : (s : State) (log : List ℕ) (a b : ℕ) → (run_log E s log a).stop ≢ Some 16 → (run_log E s log b).stop ≢ Some 16
    → text_over s log a ≡ text_over s log b
same_text s log a b e f = by (leb a b) refl
  where
    by : (t : Bool) → leb a b ≡ t → text_over s log a ≡ text_over s log b
    by true g = sym (enough s log a b e (leb-true a b g))
    by false g = let h = leb-false a b g in enough s log b a f (omega arith)

-- a run that a 16 stops has less room than one that none does
less_room : (s : State) (log : List ℕ) (a b : ℕ) → (run_log E s log a).stop ≡ Some 16 → (run_log E s log b).stop ≢ Some 16
    → a ≤ b
less_room s log a b e f = by (leb a b) refl
  where
    by : (t : Bool) → leb a b ≡ t → a ≤ b
    by true g = leb-true a b g
    by false g =
        let h = leb-false a b g in
        absurd (f (sym (ap (λ r. r.stop) ((runs_continue E s).enough log b a f (omega arith))) ∙ e))

onward_stop : (n : ℕ) (bs : List ℕ) (x : Ran) → x.stop ≡ (onward n bs x).stop
unfolding onward
onward_stop n bs x = refl

-- the rest of a run that no 16 stops
rest_ends : (s : State) (log : List ℕ) (room more : ℕ) → (run_log E s log room).stop ≡ Some 16
    → (run_log E s log more).stop ≢ Some 16
    → let x = run_log E s log room in
    (run_log E x.state (drop x.taken log) (more - length x.output)).stop ≢ Some 16
rest_ends s log room more e f q =
    let g = (runs_continue E s).goes_on log room more e (less_room s log room more e f) in
    f (ap (λ r. r.stop) g ∙ sym (onward_stop _ _ _) ∙ q)

-- and it is shorter
rest_shorter : (s : State) (log : List ℕ) → (run_log E s log 4096).stop ≡ Some 16
    → length (drop (run_log E s log 4096).taken log) < length log
unfolding run_log
rest_shorter s log e =
    let m = (runs_continue E s).moves_on log 4096 (omega arith) (unfold run_log in e) in
    let w = run_reads E s 0 log 4096 (omega arith) in
    simp length-drop (omega arith)

stop_16 : (o : Option ℕ) → code_of o ≡ 16 → o ≡ Some 16
stop_16 None e = absurd (omega arith)
stop_16 (Some n) e = ap Some e

together : (n : ℕ) (s : State) (log : List ℕ) (room : ℕ) → length log < n → (run_log E s log room).stop ≢ Some 16
    → texts_over n s log ≡ text_over s log room
unfolding texts_over
together zero s log room h f = absurd (omega arith)
together (suc n) s log room h f =
    by (eqb (code_of x.stop) 16) refl (λ s log room h f. together n s log room h f)
  where
    x : Ran
    x = run_log E s log 4096

    by : (b : Bool) → eqb (code_of x.stop) 16 ≡ b
        → ((s : State) (log : List ℕ) (room : ℕ) → length log < n → (run_log E s log room).stop ≢ Some 16
        → texts_over n s log ≡ text_over s log room)
        → text_over s log 4096 ++ cond b (texts_over n x.state (drop x.taken log)) [] ≡ text_over s log room
    by true e later =
        let full : x.stop ≡ Some 16 = stop_16 x.stop (eqb-true (code_of x.stop) 16 e) in
        let shorter = rest_shorter s log full in
        ap (λ l. text_over s log 4096 ++ l)
        (later x.state (drop x.taken log) _ (omega arith) (rest_ends s log 4096 room full f))
        ∙ sym (first_and_rest s log 4096 room full (less_room s log 4096 room full f))
    by false e later =
        append-nil (text_over s log 4096)
        ∙ same_text s log 4096 room (λ q. eqb-false (code_of x.stop) 16 e (ap code_of q)) f

pub text_in_parts : (s : State) → TextInParts s
text_in_parts s =
    record {
      first_and_rest = first_and_rest s;
      enough = enough s;
      together = λ log room f. together (suc (length log)) s log room (omega arith) f;
    }
