-- A log is its commands, one after another; a run that no 15 or 16 stops carries out the list of its commands.
use Rattle.std.specs.Prelude.{None, Option, Some}
use Prim.Native.Nat.{ℕ, zero, suc, ◌+◌, ◌-◌, ◌≤◌}
use mathlib.Core.Path.{◌≡◌, refl, sym, ap, ◌∙◌}
use mathlib.Core.Bool.{Bool, true, false, cond}
use mathlib.Core.List.{List, [], ◌∷◌, ◌++◌}
use native.Mathlib.Omega.{arith}
use native.Mathlib.Nat.{add-zero}
use lib.ListN.{length, drop}
use lib.Dec.{leb}
use borrow.Author.Tests.{leb-true, le-leb, lt-leb}
use Rattle.rules.specs.State.{Cipher, State}
use Rattle.rules.specs.Command.{Command, refused, reply, after}
use Rattle.rules.specs.Run.{replies, final}
use Rattle.rules.specs.Log.{parsed, first, unreadable, parsed_by, ◌taking◌then◌, run_log, carried_out, commands_of, room_for, stopped, encoded, Parsed, onward, Ran, encoded_all, end, Kind, whole_of, body_length, command_of, commands}
use Rattle.rules.specs.Claims.{LogIsItsCommands}
use Rattle.rules.proofs.Tests.{some_none, same_some}

-- ---- the bytes of a body are skipped

parsed-drop : (n : ℕ) (log : List ℕ) → parsed n log ≡ parsed 0 (drop n log)
unfolding parsed
parsed-drop zero [] = refl
parsed-drop zero (b ∷ log) = refl
parsed-drop (suc n) [] = refl
parsed-drop (suc n) (b ∷ log) = parsed-drop n log

parsed-none : (b : ℕ) (body : List ℕ) → first b body ≡ None → parsed 0 (b ∷ body) ≡ unreadable
unfolding parsed parsed_by
parsed-none b body e = ap (λ o. parsed_by o (λ n. parsed n body)) e

parsed_some : (b : ℕ) (body : List ℕ) (c : Command) (n : ℕ) → first b body ≡ Some (c, n)
    → parsed 0 (b ∷ body) ≡ (c taking 1 + n then parsed 0 (drop n body))
unfolding parsed parsed_by
parsed_some b body c n e =
    ap (λ o. parsed_by o (λ i. parsed i body)) e ∙ ap (λ p. c taking 1 + n then p) (parsed-drop n body)

pub log_is_its_commands : (E : Cipher) (s : State) (room : ℕ) → LogIsItsCommands E s room
unfolding run_log carried_out commands_of
log_is_its_commands E s room =
    record {
      at_end = (unfold parsed in refl);
      at_15 = λ b body e h. rw (parsed-none b body e, le-leb 2 room h);
      no_room_15 = λ b body e h. rw (parsed-none b body e, lt-leb 2 room h);
      at_command = λ b body c n e h. rw (parsed_some b body c n e, le-leb (room_for c) room h);
      no_room = λ b body c n e h. rw (parsed_some b body c n e, lt-leb (room_for c) room h);
      its_commands = λ b body c n e. rw (parsed_some b body c n e);
    }

-- ---- a run to the end

-- what the run of the rest of a log came to, after a command with room or without
unreadable_stops : (E : Cipher) (s : State) (room : ℕ) {A : Type 0} → (carried_out E s unreadable room).stop ≡ None → A
unfolding carried_out stopped
unreadable_stops E s room {A} e = by (leb 2 room) e
  where
    by : (b : Bool) → (cond b (stopped (Some 15) (encoded (refused 15)) s) (stopped (Some 16) [] s)).stop ≡ None → A
    by true f = some_none f
    by false f = some_none f

-- a command of a run to the end had room
had_room : (E : Cipher) (s : State) (c : Command) (n : ℕ) (p : Parsed) (room : ℕ)
    → (carried_out E s (c taking n then p) room).stop ≡ None
    → carried_out E s (c taking n then p) room
    ≡ onward n (encoded (reply E s c)) (carried_out E (after E s c) p (room - length (encoded (reply E s c))))
unfolding carried_out stopped
had_room E s c n p room e = by (leb (room_for c) room) e
  where
    rest : Ran
    rest = onward n (encoded (reply E s c)) (carried_out E (after E s c) p (room - length (encoded (reply E s c))))

    by : (b : Bool) → (cond b rest (stopped (Some 16) [] s)).stop ≡ None → cond b rest (stopped (Some 16) [] s) ≡ rest
    by true f = refl
    by false f = some_none f

-- its output and end state are those of the list
pub run_is_list : (E : Cipher) (s : State) (p : Parsed) (room : ℕ) → (carried_out E s p room).stop ≡ None
    → ((carried_out E s p room).output ≡ encoded_all (replies E s (commands_of p)))
    × ((carried_out E s p room).state ≡ final E s (commands_of p))
unfolding onward commands_of encoded_all replies final
run_is_list E s end room e = (unfold carried_out stopped in (refl, refl))
run_is_list E s unreadable room e = unreadable_stops E s room e
run_is_list E s (c taking n then p) room e =
    let h = had_room E s c n p room e in
    let x = run_is_list E (after E s c) p (room - length (encoded (reply E s c))) (sym (ap (λ r. r.stop) h) ∙ e) in
    (ap (λ r. r.output) h ∙ ap (λ r. encoded (reply E s c) ++ r) x.0, ap (λ r. r.state) h ∙ x.1)

-- a whole body is within the log
pub body_fits : (o : Option Kind) (body : List ℕ) (c : Command) (n : ℕ) → whole_of o body ≡ Some (c, n) → n ≤ length body
unfolding whole_of
body_fits None body c n e = some_none (sym e)
body_fits (Some k) body c n e = by (leb (body_length k) (length body)) refl e
  where
    by : (b : Bool) → leb (body_length k) (length body) ≡ b
        → cond {A = Option (Command × ℕ)} b (Some (command_of k body, body_length k)) None ≡ Some (c, n)
        → n ≤ length body
    by true l f =
        let q : body_length k ≡ n = ap (λ x. x.1) (same_some f) in
        let z = leb-true (body_length k) (length body) l in
        omega arith
    by false l f = some_none (sym f)

-- it reads the whole log
pub run_reads_all : (E : Cipher) (s : State) (skip : ℕ) (log : List ℕ) (room : ℕ) → skip ≤ length log
    → (carried_out E s (parsed skip log) room).stop ≡ None
    → (carried_out E s (parsed skip log) room).taken + skip ≡ length log
unfolding parsed parsed_by first onward
run_reads_all E s zero [] room h e = (unfold carried_out stopped in refl)
run_reads_all E s (suc skip) [] room h e = absurd (omega arith)
run_reads_all E s (suc skip) (b ∷ log) room h e =
    let x = run_reads_all E s skip log room (omega arith) e in omega arith
run_reads_all E s zero (b ∷ body) room h e =
    by (first b body) refl e (λ s n room l f. run_reads_all E s n body room l f)
  where
    by : (o : Option (Command × ℕ)) → first b body ≡ o
        → (carried_out E s (parsed_by o (λ n. parsed n body)) room).stop ≡ None
        → ((s : State) (n room : ℕ) → n ≤ length body → (carried_out E s (parsed n body) room).stop ≡ None
        → (carried_out E s (parsed n body) room).taken + n ≡ length body)
        → (carried_out E s (parsed_by o (λ n. parsed n body)) room).taken + 0 ≡ length (b ∷ body)
    by None q f later = unreadable_stops E s room f
    by (Some (c, n)) q f later =
        let h = had_room E s c (1 + n) (parsed n body) room f in
        let t = ap (λ r. r.taken) h in
        let x = later (after E s c) n _ (body_fits _ body c n q) (sym (ap (λ r. r.stop) h) ∙ f) in
        omega (arith, t, x)

-- so it is the run of the list of the log's commands
pub log_is_list : (E : Cipher) (s : State) (log : List ℕ) (room : ℕ) → (run_log E s log room).stop ≡ None
    → ((run_log E s log room).taken ≡ length log)
    × ((run_log E s log room).output ≡ encoded_all (replies E s (commands log)))
    × ((run_log E s log room).state ≡ final E s (commands log))
unfolding run_log
log_is_list E s log room e =
    let x = run_is_list E s (parsed 0 log) room e in
    let y = run_reads_all E s 0 log room (omega arith) e in
    (sym (add-zero _) ∙ y, x.0, x.1)
