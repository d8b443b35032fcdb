-- Laws of runs over a log: what the commands of a log are, that a run stays within the log and the room, that it can be
-- continued, and that its replies can be read back. Assumes nothing.
use Rattle.std.specs.Prelude.{None, Option, Some}
use Prim.Native.Nat.{ℕ, zero, suc, ◌+◌, ◌-◌, ◌≤◌}
use mathlib.Core.Path.{◌≡◌, refl, sym, ap, ap₂, subst, ◌∙◌}
use mathlib.Core.Logic.{◌≢◌, ◌⊎◌, inl, inr}
use mathlib.Core.Bool.{Bool, true, false, cond}
use mathlib.Core.List.{List, [], ◌∷◌, ◌++◌, append_assoc}
use native.Mathlib.Omega.{arith}
use native.Mathlib.Nat.{add_assoc, zero-add, sub-zero}
use lib.ListN.{length, drop, length-append}
use lib.Dec.{eqb, leb}
use borrow.Author.Tests.{leb-true, le-leb}
use Rattle.rules.specs.State.{Cipher, State}
use Rattle.rules.specs.Command.{Command, Reply, read, write, advance, insert, power_up, done, gives, refused, refusal, grant, reply, reply_by, after}
use Rattle.rules.specs.Run.{replies}
use Rattle.rules.specs.Log.{Kind, powers, advances, inserts, reads, writes, kinds, kind_in, count_of, body_length, command_of, whole_of, first, Parsed, end, unreadable, ◌taking◌then◌, parsed_by, parsed, commands_of, read_code, data_length, encoded, encoded_all, room_for, stopped, onward, carried_out, run_log, Ran}
use Rattle.rules.specs.Runs.{answer_at, answers_in, RunsContinue}
use Rattle.rules.proofs.Tests.{some_none, same_some}
use Rattle.rules.proofs.BytesLaws.{length_part, part-front}
use Rattle.rules.proofs.GrantedRead.{granted_read}
use Rattle.rules.proofs.LogLaws.{body_fits, log_is_its_commands}

-- ---- the commands of a log

-- a read of a log has 1, 8, 16 or 32 bytes
abbrev pub LogCount : ℕ → Type 0
LogCount n = (n ≡ 1) ⊎ ((n ≡ 8) ⊎ ((n ≡ 16) ⊎ (n ≡ 32)))

abbrev pub OfLog : Command → Type 0
OfLog (read a n room) = LogCount n
OfLog (write a bs) = Unit {0}
OfLog (advance k) = Unit {0}
OfLog (insert k id) = Unit {0}
OfLog power_up = Unit {0}

abbrev KindOf : Kind → Type 0
KindOf powers = Unit {0}
KindOf advances = Unit {0}
KindOf inserts = Unit {0}
KindOf (reads n) = LogCount n
KindOf (writes n) = Unit {0}

abbrev KindsOf : List (ℕ × Kind) → Type 0
KindsOf [] = Unit {0}
KindsOf (k ∷ ks) = KindOf k.1 × KindsOf ks

each_kind : KindsOf kinds
unfolding kinds count_of
each_kind =
    (tt, (inl refl, (inr (inl refl), (inr (inr (inl refl)), (inr (inr (inr refl)), (tt, (tt, (tt, (tt, (tt, (tt, tt)))))))))))

kind_found : (ks : List (ℕ × Kind)) → KindsOf ks → (b : ℕ) (k : Kind) → kind_in ks b ≡ Some k → KindOf k
unfolding kind_in
kind_found [] h b k e = some_none (sym e)
kind_found (x ∷ ks) h b k e = by (eqb b x.0) e (kind_found ks h.1 b k)
  where
    by : (t : Bool) → cond t (Some x.1) (kind_in ks b) ≡ Some k → (kind_in ks b ≡ Some k → KindOf k) → KindOf k
    by true f later = subst KindOf (same_some f) h.0
    by false f later = later f

command_of_lem : (k : Kind) (body : List ℕ) → KindOf k → OfLog (command_of k body)
unfolding command_of
command_of_lem powers body h = tt
command_of_lem advances body h = tt
command_of_lem inserts body h = tt
command_of_lem (reads n) body h = h
command_of_lem (writes n) body h = tt

pub of_log : (b : ℕ) (body : List ℕ) (c : Command) (n : ℕ) → first b body ≡ Some (c, n) → OfLog c
unfolding first whole_of
of_log b body c n e = by (kind_in kinds b) refl e
  where
    by : (o : Option Kind) → kind_in kinds b ≡ o → whole_of o body ≡ Some (c, n) → OfLog c
    by None q f = some_none (sym f)
    by (Some k) q f = whole (leb (body_length k) (length body)) f
      where
        whole : (t : Bool)
            → cond {A = Option (Command × ℕ)} t (Some (command_of k body, body_length k)) None ≡ Some (c, n) → OfLog c
        whole true g =
            subst OfLog (ap (λ x. x.0) (same_some g)) (command_of_lem k body (kind_found kinds each_kind b k q))
        whole false g = some_none (sym g)

-- a property of each command of a log
abbrev pub EachOf : Parsed → Type 0
EachOf end = Unit {0}
EachOf unreadable = Unit {0}
EachOf (c taking n then p) = OfLog c × EachOf p

pub each_of : (skip : ℕ) (log : List ℕ) → EachOf (parsed skip log)
unfolding parsed parsed_by
each_of skip [] = tt
each_of (suc skip) (b ∷ log) = each_of skip log
each_of zero (b ∷ body) = by (first b body) refl (λ n. each_of n body)
  where
    by : (o : Option (Command × ℕ)) → first b body ≡ o → ((n : ℕ) → EachOf (parsed n body))
        → EachOf (parsed_by o (λ n. parsed n body))
    by None q later = tt
    by (Some (c, n)) q later = (of_log b body c n q, later n)

-- ---- a reply fits the room that its command asks for

pub some_bytes : (n : ℕ) → LogCount n → 1 ≤ n
some_bytes n (inl e) = omega arith
some_bytes n (inr (inl e)) = omega arith
some_bytes n (inr (inr (inl e))) = omega arith
some_bytes n (inr (inr (inr e))) = omega arith

-- where a grant is a plain 50
done_fits : (o : Option ℕ) (s : State) (c : Command) → grant s c ≡ done → length (encoded (reply_by o s c)) ≤ 2
unfolding reply_by encoded
done_fits None s c e = rw e (omega arith)
done_fits (Some m) s c e = omega arith

pub reply_fits : (E : Cipher) (s : State) (c : Command) → OfLog c → length (encoded (reply E s c)) ≤ room_for c
unfolding reply reply_by grant encoded room_for
reply_fits E s (read a n room) h = by (refusal E s (read a n room))
  where
    by : (o : Option ℕ) → length (encoded (reply_by o s (read a n room))) ≤ 1 + n
    by None = let l = length_part a n s.tag in omega arith
    by (Some m) = let k = some_bytes n h in omega arith
reply_fits E s (write a bs) h = done_fits (refusal E s (write a bs)) s (write a bs) refl
reply_fits E s (advance k) h = done_fits (refusal E s (advance k)) s (advance k) refl
reply_fits E s (insert k id) h = done_fits (refusal E s (insert k id)) s (insert k id) refl
reply_fits E s power_up h = done_fits (refusal E s power_up) s power_up refl

pub run_fits : (E : Cipher) (s : State) (p : Parsed) (room : ℕ) → EachOf p → length (carried_out E s p room).output ≤ room
unfolding carried_out stopped onward encoded
run_fits E s end room h = omega arith
run_fits E s unreadable room h = by (leb 2 room) refl
  where
    by : (b : Bool) → leb 2 room ≡ b
        → length (cond b (stopped (Some 15) (encoded (refused 15)) s) (stopped (Some 16) [] s)).output ≤ room
    by true e = leb-true 2 room e
    by false e = omega arith
run_fits E s (c taking n then p) room h =
    by (leb (room_for c) room) refl (run_fits E (after E s c) p (room - length (encoded (reply E s c))) h.1)
  where
    rest : Ran
    rest = carried_out E (after E s c) p (room - length (encoded (reply E s c)))

    by : (b : Bool) → leb (room_for c) room ≡ b → length rest.output ≤ room - length (encoded (reply E s c))
        → length (cond b (onward n (encoded (reply E s c)) rest) (stopped (Some 16) [] s)).output ≤ room
    by true e x =
        let l = leb-true (room_for c) room e in
        let f = reply_fits E s c h.0 in
        simp length-append (omega arith)
    by false e x = omega arith

-- ---- a run reads no more than there is

pub run_reads : (E : Cipher) (s : State) (skip : ℕ) (log : List ℕ) (room : ℕ) → skip ≤ length log
    → (carried_out E s (parsed skip log) room).taken + skip ≤ length log
unfolding parsed parsed_by first onward carried_out stopped
run_reads E s zero [] room h = omega arith
run_reads E s (suc skip) [] room h = absurd (omega arith)
run_reads E s (suc skip) (b ∷ log) room h = let x = run_reads E s skip log room (omega arith) in omega arith
run_reads E s zero (b ∷ body) room h = by (first b body) refl (λ s n room l. run_reads E s n body room l)
  where
    none_read : (t : Bool)
        → (cond t (stopped (Some 15) (encoded (refused 15)) s) (stopped (Some 16) [] s)).taken + 0 ≤ length (b ∷ body)
    none_read true = omega arith
    none_read false = omega arith

    some_read : (t : Bool) (n : ℕ) (out : List ℕ) (x : Ran) → x.taken + n ≤ length body
        → (cond t (onward (1 + n) out x) (stopped (Some 16) [] s)).taken + 0 ≤ length (b ∷ body)
    some_read true n out x l = omega arith
    some_read false n out x l = omega arith

    by : (o : Option (Command × ℕ)) → first b body ≡ o
        → ((s : State) (n room : ℕ) → n ≤ length body → (carried_out E s (parsed n body) room).taken + n ≤ length body)
        → (carried_out E s (parsed_by o (λ n. parsed n body)) room).taken + 0 ≤ length (b ∷ body)
    by None q later = none_read (leb 2 room)
    by (Some (c, n)) q later =
        let out = encoded (reply E s c) in
        let x = carried_out E (after E s c) (parsed n body) (room - length out) in
        some_read (leb (room_for c) room) n out x (later (after E s c) n _ (body_fits _ body c n q))

-- ---- a run that is continued

onward-none : (x : Ran) → onward 0 [] x ≡ x
unfolding onward
onward-none x = rw zero-add

onward_stop : (n : ℕ) (out : List ℕ) (x : Ran) → x.stop ≡ (onward n out x).stop
unfolding onward
onward_stop n out x = refl

onward_twice : (m n : ℕ) (xs ys : List ℕ) (x : Ran) → onward m xs (onward n ys x) ≡ onward (m + n) (xs ++ ys) x
unfolding onward
onward_twice m n xs ys x = rw (append_assoc xs ys, add_assoc m n)

-- the run x, continued over the rest of the log after the first `skip` bytes, with room for `more` bytes in all
abbrev Continued : Cipher → (skip : ℕ) (log : List ℕ) (x : Ran) (more : ℕ) → Ran
Continued E skip log x more =
    onward x.taken x.output
    (carried_out E x.state (parsed 0 (drop (skip + x.taken) log)) (more - length x.output))

continue_none : (E : Cipher) (s : State) (log : List ℕ) (more : ℕ)
    → carried_out E s (parsed 0 log) more ≡ Continued E 0 log (stopped (Some 16) [] s) more
unfolding stopped
continue_none E s log more = sym (rw sub-zero (onward-none _))

continue_on : (E : Cipher) (b n : ℕ) (body out : List ℕ) (y : Ran) (more : ℕ)
    → onward (1 + n) out (Continued E n body y (more - length out)) ≡ Continued E 0 (b ∷ body) (onward (1 + n) out y) more
unfolding onward
continue_on E b n body out y more =
    let e : 0 + (1 + n + y.taken) ≡ suc (n + y.taken) = omega arith in
    let f : more - length out - length y.output ≡ more - (length out + length y.output) = omega arith in
    onward_twice (1 + n) y.taken out y.output _ ∙ sym (rw (e, length-append out y.output, ← f))

not_full : {A : Type 0} → ◌≡◌ {A = Option ℕ} (Some 15) (Some 16) → A
not_full e = let z : ◌≡◌ {A = ℕ} 15 16 = same_some e in absurd (omega arith)

run_continues : (E : Cipher) (s : State) (skip : ℕ) (log : List ℕ) (room more : ℕ) → room ≤ more
    → (carried_out E s (parsed skip log) room).stop ≡ Some 16
    → carried_out E s (parsed skip log) more ≡ Continued E skip log (carried_out E s (parsed skip log) room) more
unfolding parsed parsed_by carried_out stopped
run_continues E s skip [] room more h e = some_none (sym e)
run_continues E s (suc skip) (b ∷ log) room more h e =
    let f : suc skip + (carried_out E s (parsed skip log) room).taken ≡ suc (skip + (carried_out E s (parsed skip log) room).taken) = omega arith in
    rw f (run_continues E s skip log room more h e)
run_continues E s zero (b ∷ body) room more h e =
    by (first b body) refl e (λ s n room more l f. run_continues E s n body room more l f)
  where
    whole : Option (Command × ℕ) → ℕ → Ran
    whole o room = carried_out E s (parsed_by o (λ n. parsed n body)) room

    full : (o : Option (Command × ℕ)) → first b body ≡ o
        → whole o more ≡ Continued E 0 (b ∷ body) (stopped (Some 16) [] s) more
    full o q = ap (λ o. whole o more) (sym q) ∙ continue_none E s (b ∷ body) more

    at_15 : (t : Bool) → first b body ≡ None
        → (cond t (stopped (Some 15) (encoded (refused 15)) s) (stopped (Some 16) [] s)).stop ≡ Some 16
        → whole None more
        ≡ Continued E 0 (b ∷ body) (cond t (stopped (Some 15) (encoded (refused 15)) s) (stopped (Some 16) [] s)) more
    at_15 true q f = not_full f
    at_15 false q f = full None q

    by : (o : Option (Command × ℕ)) → first b body ≡ o → (whole o room).stop ≡ Some 16
        → ((s : State) (n room more : ℕ) → room ≤ more → (carried_out E s (parsed n body) room).stop ≡ Some 16
        → carried_out E s (parsed n body) more ≡ Continued E n body (carried_out E s (parsed n body) room) more)
        → whole o more ≡ Continued E 0 (b ∷ body) (whole o room) more
    by None q f later = at_15 (leb 2 room) q f
    by (Some (c, n)) q f later = at_command (leb (room_for c) room) refl f
      where
        out : List ℕ
        out = encoded (reply E s c)

        y : Ran
        y = carried_out E (after E s c) (parsed n body) (room - length out)

        at_command : (t : Bool) → leb (room_for c) room ≡ t
            → (cond t (onward (1 + n) out y) (stopped (Some 16) [] s)).stop ≡ Some 16
            → whole (Some (c, n)) more
            ≡ Continued E 0 (b ∷ body) (cond t (onward (1 + n) out y) (stopped (Some 16) [] s)) more
        at_command true l g =
            let m = leb-true (room_for c) room l in
            rw (le-leb (room_for c) more (omega arith))
            (ap (onward (1 + n) out)
            (later (after E s c) n (room - length out) (more - length out) (omega arith) (onward_stop (1 + n) out y ∙ g))
            ∙ continue_on E b n body out y more)
        at_command false l g = full (Some (c, n)) q

-- and one that needs no more room
run_enough : (E : Cipher) (s : State) (p : Parsed) (room more : ℕ) → room ≤ more → (carried_out E s p room).stop ≢ Some 16
    → carried_out E s p more ≡ carried_out E s p room
unfolding carried_out stopped
run_enough E s end room more h e = refl
run_enough E s unreadable room more h e = by (leb 2 room) refl e
  where
    at : ℕ → Ran
    at k = carried_out E s unreadable k

    by : (t : Bool) → leb 2 room ≡ t
        → (cond t (stopped (Some 15) (encoded (refused 15)) s) (stopped (Some 16) [] s)).stop ≢ Some 16
        → at more ≡ cond t (stopped (Some 15) (encoded (refused 15)) s) (stopped (Some 16) [] s)
    by true l f = let k = leb-true 2 room l in rw (le-leb 2 more (omega arith))
    by false l f = absurd (f refl)
run_enough E s (c taking n then p) room more h e =
    by (leb (room_for c) room) refl e (λ k m l f. run_enough E (after E s c) p k m l f)
  where
    out : List ℕ
    out = encoded (reply E s c)

    rest : ℕ → Ran
    rest k = carried_out E (after E s c) p (k - length out)

    by : (t : Bool) → leb (room_for c) room ≡ t
        → (cond t (onward n out (rest room)) (stopped (Some 16) [] s)).stop ≢ Some 16
        → ((k m : ℕ) → k ≤ m → (carried_out E (after E s c) p k).stop ≢ Some 16
        → carried_out E (after E s c) p m ≡ carried_out E (after E s c) p k)
        → carried_out E s (c taking n then p) more ≡ cond t (onward n out (rest room)) (stopped (Some 16) [] s)
    by true l f later =
        let k = leb-true (room_for c) room l in
        rw (le-leb (room_for c) more (omega arith))
        (ap (onward n out)
        (later (room - length out) (more - length out) (omega arith) (λ q. f (sym (onward_stop n out (rest room)) ∙ q))))
    by false l f later = absurd (f refl)

-- 33 bytes are room for any command of a log
small : (c : Command) → OfLog c → room_for c ≤ 33
unfolding room_for
small (read a n room) (inl e) = omega arith
small (read a n room) (inr (inl e)) = omega arith
small (read a n room) (inr (inr (inl e))) = omega arith
small (read a n room) (inr (inr (inr e))) = omega arith
small (write a bs) h = omega arith
small (advance k) h = omega arith
small (insert k id) h = omega arith
small power_up h = omega arith

full_moves : (E : Cipher) (s : State) (log : List ℕ) (room : ℕ) → 33 ≤ room → (run_log E s log room).stop ≡ Some 16
    → 1 ≤ (run_log E s log room).taken
unfolding stopped onward
full_moves E s [] room h e = some_none (sym e ∙ ap (λ x. x.stop) (log_is_its_commands E s room).at_end)
full_moves E s (b ∷ body) room h e = by (first b body) refl
  where
    by : (o : Option (Command × ℕ)) → first b body ≡ o → 1 ≤ (run_log E s (b ∷ body) room).taken
    by None q =
        not_full (sym (ap (λ x. x.stop) ((log_is_its_commands E s room).at_15 b body q (omega arith))) ∙ e)
    by (Some (c, n)) q =
        let l = small c (of_log b body c n q) in
        let t = ap (λ x. x.taken) ((log_is_its_commands E s room).at_command b body c n q (omega arith)) in
        omega (arith, t)

pub runs_continue : (E : Cipher) (s : State) → RunsContinue E s
unfolding run_log
runs_continue E s =
    record {
      moves_on = full_moves E s;
      enough = λ log room more e h. run_enough E s (parsed 0 log) room more h e;
      goes_on = λ log room more e h.
          let f : 0 + (carried_out E s (parsed 0 log) room).taken ≡ (carried_out E s (parsed 0 log) room).taken =
          omega arith in
          rw f at (run_continues E s 0 log room more h e);
    }

-- ---- the replies of a run, read back

abbrev pub Readable : Reply → Type 0
Readable done = Unit {0}
Readable (gives bs) = LogCount (length bs)
Readable (refused n) = Unit {0}

pub record CodeBack (n : ℕ) : Type 0 where
  pub count : data_length (read_code n) ≡ n
  pub not_done : eqb (read_code n) 0x50 ≡ false
  pub not_refused : eqb (read_code n) 0x51 ≡ false

pub code_back : (n : ℕ) → LogCount n → CodeBack n
unfolding data_length read_code count_of
code_back n (inl e) = rw e (record { count = refl; not_done = refl; not_refused = refl })
code_back n (inr (inl e)) = rw e (record { count = refl; not_done = refl; not_refused = refl })
code_back n (inr (inr (inl e))) = rw e (record { count = refl; not_done = refl; not_refused = refl })
code_back n (inr (inr (inr e))) = rw e (record { count = refl; not_done = refl; not_refused = refl })

answers_skip : (xs ys : List ℕ) → answers_in (length xs) (xs ++ ys) ≡ answers_in 0 ys
unfolding answers_in
answers_skip [] ys = refl
answers_skip (x ∷ xs) ys = answers_skip xs ys

answer_back : (r : Reply) → Readable r → (rest : List ℕ) → answers_in 0 (encoded r ++ rest) ≡ r ∷ answers_in 0 rest
unfolding answers_in answer_at encoded
answer_back done h rest = (unfold data_length count_of in refl)
answer_back (refused n) h rest = (unfold data_length count_of in refl)
answer_back (gives bs) h rest =
    let c = code_back (length bs) h in
    rw (c.not_done, c.not_refused, c.count) (ap₂ {C = List Reply} (λ b rs. gives b ∷ rs) (part-front bs rest) (answers_skip bs rest))

done_readable : (o : Option ℕ) (s : State) (c : Command) → grant s c ≡ done → Readable (reply_by o s c)
unfolding reply_by
done_readable None s c e = rw e tt
done_readable (Some m) s c e = tt

pub reply-readable : (E : Cipher) (s : State) (c : Command) → OfLog c → Readable (reply E s c)
unfolding reply reply_by grant
reply-readable E s (read a n room) h = by (refusal E s (read a n room)) refl
  where
    by : (o : Option ℕ) → refusal E s (read a n room) ≡ o → Readable (reply_by o s (read a n room))
    by None e = subst LogCount (sym (granted_read E s a n room e).whole) h
    by (Some m) e = tt
reply-readable E s (write a bs) h = done_readable (refusal E s (write a bs)) s (write a bs) refl
reply-readable E s (advance k) h = done_readable (refusal E s (advance k)) s (advance k) refl
reply-readable E s (insert k id) h = done_readable (refusal E s (insert k id)) s (insert k id) refl
reply-readable E s power_up h = done_readable (refusal E s power_up) s power_up refl

pub replies-back : (E : Cipher) (s : State) (p : Parsed) → EachOf p
    → answers_in 0 (encoded_all (replies E s (commands_of p))) ≡ replies E s (commands_of p)
unfolding encoded_all replies commands_of
replies-back E s end h = (unfold answers_in in refl)
replies-back E s unreadable h = (unfold answers_in in refl)
replies-back E s (c taking n then p) h =
    answer_back (reply E s c) (reply-readable E s c h.0) _
    ∙ ap (λ rs. reply E s c ∷ rs) (replies-back E (after E s c) p h.1)
