-- The laws of `run`: its loop has a part of the run behind it, and what is left leads to the result. Assumes nothing.
use Rattle.std.specs.Prelude.{None, Option, Some, is_some}
use Prim.Native.Nat.{ℕ, ◌+◌, ◌-◌, ◌≤◌, ◌<◌}
use mathlib.Core.Path.{◌≡◌, refl, sym, ap, subst, ◌∙◌}
use mathlib.Core.Bool.{Bool, true, false}
use mathlib.Core.List.{List, [], ◌∷◌}
use native.Mathlib.Omega.{arith}
use native.Mathlib.Nat.{add-zero, zero-add, add_assoc}
use native.Mathlib.Numerals.{add-one}
use lib.ListN.{length, drop, length-append, drop_of_length-le}
use lib.Seq.{drop-cons, drop-drop}
use borrow.Rule.Slice.PartMut.{put_mid, mid_of}
use Rattle.rules.specs.declared.Session.{Session}
use Rattle.rules.specs.declared.Run.{Run}
use Rattle.rules.specs.declared.Stop.{Stop}
use Rattle.rules.specs.declared.Stop.TheVariants.{End, BadCommand, OutputFull}
use Rattle.rules.specs.Bytes.{byte, put}
use Rattle.rules.specs.Map.{sound}
use Rattle.rules.specs.Answers.{stop_number}
use Rattle.rules.specs.State.{State, state}
use Rattle.rules.specs.Command.{Command, refused, reply, after}
use Rattle.rules.specs.Log.{Ran, first, encoded, room_for, stopped, onward, run_log}
use Rattle.rules.specs.Runs.{returned, Result, result, result_of, run_over}
use Rattle.rules.proofs.Tests.{true_false}
use Rattle.rules.proofs.BytesLaws.{length-put, put-append, put-none}
use Rattle.rules.proofs.LogLaws.{log_is_its_commands}
use Rattle.rules.proofs.RunLaws.{of_log, reply_fits}
use Rattle.rules.proofs.Unsound.{sound_same}
use Rattle.xxtea.specs.Block.{E}
use Rattle.command_log.specs.declared.Next.{Next}
use Rattle.command_log.specs.declared.Next.TheVariants as next
use Rattle.command_log.specs.Next.{ComesNext, kind_of, command_at, length_of, room_asked}
use Rattle.tag.specs.Replies.{Replied}
use Rattle.tag.specs.Replies.{Replies, reply_for, after_for}
use Rattle.tag.proofs.Laws.{put-part-back}

-- ---- the result of a run that has read i and written j bytes, goes on as x, and has left the output `out` so far

unfoldable pub result_from : (i j : ℕ) → Ran → (out : List ℕ) → Result
result_from i j x out =
    record {
      read = i + x.taken;
      written = j + length x.output;
      stop = x.stop;
      session = x.state.session;
      tag = x.state.tag;
      output = put j x.output out;
    }

from_start : (x : Ran) (out : List ℕ) → result_from 0 0 x out ≡ result_of x out
unfolding result_from result_of
from_start x out = rw (zero-add, zero-add)

from-onward : (i j n : ℕ) (bs : List ℕ) (x : Ran) (out : List ℕ)
    → result_from i j (onward n bs x) out ≡ result_from (i + n) (j + length bs) x (put j bs out)
unfolding result_from onward
from-onward i j n bs x out =
    rw (put-append j bs x.output out, length-append bs x.output, ← add_assoc i n, ← add_assoc j (length bs))

from_stopped : (i j : ℕ) (q : Stop) (bs : List ℕ) (s : State) (out : List ℕ)
    → result (returned i (j + length bs) q s.session) s.tag (put j bs out)
    ≡ result_from i j (stopped (stop_number q) bs s) out
unfolding result_from stopped
from_stopped i j q bs s out = rw add-zero

-- ---- what comes next, as the rules have it

-- a reply fits the room that was asked for
reply-asked : (s : State) (b : ℕ) (body : List ℕ) (q : Option (Command × ℕ)) → first b body ≡ q
    → length (encoded (reply_for E s q)) ≤ room_asked q
unfolding encoded
reply-asked s b body None e = omega arith
reply-asked s b body (Some (c, n)) e = reply_fits E s c (of_log b body c n e)

run_full : (s : State) (b : ℕ) (body : List ℕ) (room : ℕ) (q : Option (Command × ℕ)) → first b body ≡ q
    → room < room_asked q → run_log E s (b ∷ body) room ≡ stopped (Some 16) [] s
run_full s b body room None e h = (log_is_its_commands E s room).no_room_15 b body e h
run_full s b body room (Some (c, n)) e h = (log_is_its_commands E s room).no_room b body c n e h

-- a command and the bytes that it takes
record Takes (q : Option (Command × ℕ)) (k : ℕ) : Type 0 where
  command : Command
  body : ℕ
  comes : q ≡ Some (command, body)
  takes : k ≡ 1 + body

takes : (log : List ℕ) (at : ℕ) (x : Option Next) → is_some x ≡ true → Takes (command_at log at x) (length_of (kind_of x))
takes log at (Some next.PowerUp) h = record { command = _; body = _; comes = refl; takes = refl }
takes log at (Some (next.Read d)) h = record { command = _; body = _; comes = refl; takes = refl }
takes log at (Some (next.Write d)) h = record { command = _; body = _; comes = refl; takes = refl }
takes log at (Some next.Advance) h = record { command = _; body = _; comes = refl; takes = refl }
takes log at (Some next.Insert) h = record { command = _; body = _; comes = refl; takes = refl }
takes log at None h = true_false (sym h)

pub none_is : {A : Type 0} (x : Option A) → is_some x ≡ false → x ≡ None
none_is None h = refl
none_is (Some y) h = true_false h

-- ---- the loop

-- i bytes of the log are read and j written, and what is left leads to the result `goal`
pub record Going (goal : Result) (log : List ℕ) (is_sound : Bool) (t out : List ℕ) (v : Session) (i j : ℕ) : Type 0 where
  pub there : i ≤ length log
  pub fits : j ≤ length out
  pub same : is_sound ≡ sound t
  pub leads : result_from i j (run_log E (state t v) (drop i log) (length out - j)) out ≡ goal

pub going_first : (s : State) (log out : List ℕ) (is_sound : Bool) → is_sound ≡ sound s.tag
    → Going (run_over E s log out) log is_sound s.tag out s.session 0 0
unfolding run_over
going_first s log out is_sound e =
    let k : length out - 0 ≡ length out = omega arith in
    record {
      there = omega arith;
      fits = omega arith;
      same = e;
      leads = rw k (from_start (run_log E s log (length out)) out);
    }

-- what is left of a log begins with the byte at i
at_byte : (log : List ℕ) (i : ℕ) → i < length log → drop i log ≡ byte i log ∷ drop (i + 1) log
at_byte log i h = rw add-one (drop-cons log i 0 h)

-- the loop stops at a command without room
pub stops-full : (goal : Result) (log : List ℕ) (is_sound : Bool) (t out : List ℕ) (v : Session) (i j : ℕ) (x : Option Next) (q : Run)
    → Going goal log is_sound t out v i j → i < length log → ComesNext log i x → length out - j < room_asked (command_at log i x)
    → q ≡ returned i j OutputFull v → result q t out ≡ goal
stops-full goal log is_sound t out v i j x q g h n l e =
    let s = state t v in
    let r = run_full s (byte i log) (drop (i + 1) log) (length out - j) _ (sym n.command) l in
    let k : j + 0 ≡ j = omega arith in
    let f = rw (put-none j out, k) at (from_stopped i j OutputFull [] s out) in
    rw e (f ∙ ap (λ y. result_from i j y out) (sym (ap (λ l. run_log E s l (length out - j)) (at_byte log i h) ∙ r)) ∙ g.leads)

-- the reply is within the output, and in its place
pub written_within : (log : List ℕ) (t out u ys : List ℕ) (v : Session) (i j : ℕ) (x : Option Next) (r : Replied)
    → ComesNext log i x → j ≤ length out → room_asked (command_at log i x) ≤ length out - j
    → Replies E (state t v) (command_at log i x) (mid_of j (length out - j) out) u ys r
    → j + r.written ≤ length out
written_within log t out u ys v i j x r n f l p =
    let b = reply-asked (state t v) (byte i log) (drop (i + 1) log) (command_at log i x) (sym n.command) in
    let w = p.written.count in
    omega arith

replied_at : (log : List ℕ) (t out u ys : List ℕ) (v : Session) (i j : ℕ) (x : Option Next) (r : Replied) → ComesNext log i x
    → room_asked (command_at log i x) ≤ length out - j → Replies E (state t v) (command_at log i x) (mid_of j (length out - j) out) u ys r
    → put_mid j (length out - j) out ys ≡ put j (encoded (reply_for E (state t v) (command_at log i x))) out
replied_at log t out u ys v i j x r n l p =
    let b = reply-asked (state t v) (byte i log) (drop (i + 1) log) (command_at log i x) (sym n.command) in
    rw p.written.bytes (put-part-back j (length out - j) _ out (omega arith))

-- the loop stops at a 15, which is replied
pub stops_15 : (goal : Result) (log : List ℕ) (is_sound : Bool) (t out u ys : List ℕ) (v : Session) (i j : ℕ) (x : Option Next) (r : Replied) (q : Run)
    → Going goal log is_sound t out v i j → i < length log → ComesNext log i x → x ≡ None
    → room_asked (command_at log i x) ≤ length out - j → Replies E (state t v) (command_at log i x) (mid_of j (length out - j) out) u ys r
    → q ≡ returned i (j + r.written) BadCommand r.session → result q u (put_mid j (length out - j) out ys) ≡ goal
stops_15 goal log is_sound t out u ys v i j x r q g h n e l p d =
    let s = state t v in
    let none-comes : command_at log i x ≡ None = ap (command_at log i) e in
    let b : run_log E s (byte i log ∷ drop (i + 1) log) (length out - j) ≡ stopped (Some 15) (encoded (refused 15)) s =
    (log_is_its_commands E s (length out - j)).at_15 _ _ (sym n.command ∙ none-comes) (subst (λ q. room_asked q ≤ length out - j) none-comes l) in
    let o = replied_at log t out u ys v i j x r n l p ∙ ap (λ q. put j (encoded (reply_for E s q)) out) none-comes in
    let w = p.written.count ∙ ap (λ q. length (encoded (reply_for E s q))) none-comes in
    let a = p.left ∙ ap (after_for E s) none-comes in
    let f = from_stopped i j BadCommand (encoded (refused 15)) s out in
    rw (d, o, w) (rw (ap (λ y. y.tag) a, ap (λ y. y.session) a)
    (f ∙ ap (λ y. result_from i j y out) (sym (ap (λ l. run_log E s l (length out - j)) (at_byte log i h) ∙ b)) ∙ g.leads))

-- or goes on behind a command
pub goes_on : (goal : Result) (log : List ℕ) (is_sound : Bool) (t out u ys : List ℕ) (v : Session) (i j : ℕ) (x : Option Next) (r : Replied)
    → Going goal log is_sound t out v i j → i < length log → ComesNext log i x
    → is_some x ≡ true
    → room_asked (command_at log i x) ≤ length out - j → Replies E (state t v) (command_at log i x) (mid_of j (length out - j) out) u ys r
    → Going goal log is_sound u (put_mid j (length out - j) out ys) r.session (i + length_of (kind_of x)) (j + r.written)
goes_on goal log is_sound t out u ys v i j x r g h n d l p =
    let s = state t v in
    let y = takes log i x d in
    let c = y.command in
    let m = y.body in
    let bs = encoded (reply E s c) in
    let o : put_mid j (length out - j) out ys ≡ put j bs out =
    replied_at log t out u ys v i j x r n l p ∙ ap (λ q. put j (encoded (reply_for E s q)) out) y.comes in
    let w : r.written ≡ length bs = p.written.count ∙ ap (λ q. length (encoded (reply_for E s q))) y.comes in
    let a : state u r.session ≡ after E s c = p.left ∙ ap (after_for E s) y.comes in
    let z : length (put j bs out) ≡ length out = length-put j bs out in
    let room : room_for c ≤ length out - j = subst (λ k. k ≤ length out - j) (ap room_asked y.comes) l in
    let b = (log_is_its_commands E s (length out - j)).at_command (byte i log) (drop (i + 1) log) c m (sym n.command ∙ y.comes) room in
    let k : length out - j - length bs ≡ length out - (j + length bs) = omega arith in
    let q : drop m (drop (i + 1) log) ≡ drop (i + (1 + m)) log = drop-drop m (i + 1) log ∙ ap (λ e. drop e log) (add_assoc i 1 m) in
    record {
      there = n.whole;
      fits = rw (o, z) (written_within log t out u ys v i j x r n g.fits l p);
      same = g.same ∙ sound_same E s c ∙ ap (λ e. sound e.tag) (sym a);
      leads =
          rw (o, w, a, y.takes, z, ← k, ← q)
          (sym (from-onward i j (1 + m) bs _ out)
          ∙ ap (λ e. result_from i j e out) (sym (ap (λ e. run_log E s e (length out - j)) (at_byte log i h) ∙ b))
          ∙ g.leads);
    }

-- or is through the log
pub stops_end : (goal : Result) (log : List ℕ) (is_sound : Bool) (t out : List ℕ) (v : Session) (i j : ℕ) (q : Run)
    → Going goal log is_sound t out v i j → length log ≤ i → q ≡ returned i j End v → result q t out ≡ goal
stops_end goal log is_sound t out v i j q g h e =
    let s = state t v in
    let k : j + 0 ≡ j = omega arith in
    let f = rw (put-none j out, k) at (from_stopped i j End [] s out) in
    let b = ap (λ l. run_log E s l (length out - j)) (drop_of_length-le log h) ∙ (log_is_its_commands E s (length out - j)).at_end in
    rw e (f ∙ ap (λ y. result_from i j y out) (sym b) ∙ g.leads)
