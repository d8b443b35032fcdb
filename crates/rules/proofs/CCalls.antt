-- What is claimed of calls from C: 54 bytes hold a session, its indexes stay in two bytes, and a call from C is a call.
-- Assumes nothing.
use Rattle.std.specs.Prelude.{None, Option, Some, Ok, Err}
use Prim.Native.Nat.{ℕ, zero, suc, ◌+◌, ◌-◌, ◌*◌, ◌/◌, ◌%◌, ◌≤◌, ◌<◌}
use mathlib.Core.Path.{◌≡◌, refl, sym, ap, ◌∙◌}
use mathlib.Core.Bool.{Bool, true, false, cond, not}
use mathlib.Core.List.{List, [], ◌∷◌, ◌++◌, flatten}
use native.Mathlib.Omega.{arith}
use lib.ListN.{length, drop, take-append-drop, drop_of_length-le}
use lib.Seq.{drop-drop}
use lib.Dec.{eqb, leb}
use borrow.Author.Tests.{eqb-true, leb-true, not-false}
use Rattle.rules.specs.declared.Session.{Session}
use Rattle.rules.specs.declared.Register.{Register}
use Rattle.rules.specs.declared.Register.TheVariants.{Write, Read, Edit, Name, Id, Commit, Pa}
use Rattle.rules.specs.declared.Place.{Place}
use Rattle.rules.specs.declared.Place.TheVariants.{Header, Hidden, RegisterOf, Pins, Readers, UnitOf, Spare, Segment, Public}
use Rattle.rules.specs.declared.Stop.{Stop}
use Rattle.rules.specs.declared.Stop.TheVariants.{End, BadCommand, OutputFull}
use Rattle.rules.specs.Bytes.{byte, part, number, number_from, bytes_of}
use Rattle.rules.specs.State.{Cipher, State, powered_up, with_read, with_write, with_edit, with_name, with_id, with_pa}
use Rattle.rules.specs.Answers.{Answer, refusal_of, stop_number, code_of}
use Rattle.rules.specs.Refusals.{Checks, ◌when◌else◌, lowest, register_checks, block_checks, response_checks, write_checks}
use Rattle.rules.specs.Effects.{register_session, write_session}
use Rattle.rules.specs.Command.{Command, read, write, advance, insert, power_up, refused, refusal, reply, after, after_by, new_session, session_in}
use Rattle.rules.specs.Log.{Parsed, end, unreadable, ◌taking◌then◌, encoded, room_for, stopped, onward, carried_out, run_log, Ran, parsed}
use Rattle.rules.specs.Runs.{run_over, result_of}
use Rattle.rules.specs.Calls.{CarriedOut, outcome}
use Rattle.rules.specs.CCalls.{session_of, session_bytes, Fits, NothingLost, SessionFits, CalledIsCall, RunCalledIsRun}
use Rattle.rules.proofs.Tests.{passes}
use Rattle.rules.proofs.BytesLaws.{front, behind, length-bytes_of, number_bytes_of, length_part, length-xor}
use Rattle.rules.proofs.Grants.{granted_write}
use Rattle.rules.proofs.Refused.{refusal_named}

-- ---- a list as its parts

cut : (a n : ℕ) (t : List ℕ) → part a n t ++ drop (a + n) t ≡ drop a t
unfolding part
cut a n t = rw (← drop-drop n a t) (take-append-drop n (drop a t))

two : (a : ℕ) (t : List ℕ) → a + 2 ≤ length t → part a 2 t ≡ byte a t ∷ byte (a + 1) t ∷ []
unfolding part
two a [] h = absurd (omega arith)
two zero (x ∷ []) h = absurd (omega arith)
two zero (x ∷ y ∷ t) h = refl
two (suc a) (x ∷ t) h = let k : suc a + 1 ≡ suc (a + 1) = omega arith in rw k (two a t (omega arith))

index_back : (a : ℕ) (t : List ℕ) → a + 2 ≤ length t → ((i : ℕ) → byte i t < 256)
    → bytes_of 2 (number (part a 2 t)) ≡ part a 2 t
unfolding bytes_of number_from
index_back a t h b = rw (two a t h) (by (byte a t) (byte (a + 1) t) (b a) (b (a + 1)))
  where
    by : (x y : ℕ) → x < 256 → y < 256 → bytes_of 2 (number (x ∷ y ∷ [])) ≡ x ∷ y ∷ []
    by x y l m =
        let p : ((0 * 256 + x) * 256 + y) / 256 % 256 ≡ x = omega arith in
        let q : ((0 * 256 + x) * 256 + y) % 256 ≡ y = omega arith in
        rw (p, q)

-- a part in front of what is behind it
joined : (a n : ℕ) (t x y : List ℕ) → x ≡ part a n t → y ≡ drop (a + n) t → x ++ y ≡ drop a t
joined a n t x y e f = rw (e, f) (cut a n t)

-- ---- 54 bytes

bytes_back : (b : List ℕ) → length b ≡ 54 → ((i : ℕ) → byte i b < 256) → session_bytes (session_of b) ≡ b
unfolding session_bytes session_of flatten
bytes_back b e h =
    joined 0 2 b _ _ (index_back 0 b (omega arith) h)
    (joined 2 2 b _ _ (index_back 2 b (omega arith) h)
    (joined 4 2 b _ _ (index_back 4 b (omega arith) h)
    (joined 6 16 b _ _ refl
    (joined 22 16 b _ _ refl
    (joined 38 16 b _ _ refl
    (sym (drop_of_length-le b {i = 54} (omega arith))))))))

session_back : (v : Session) → Fits v → session_of (session_bytes v) ≡ v
unfolding session_bytes session_of flatten
session_back v h =
    same (ap number (front 2 r _ r2) ∙ number_bytes_of 2 v.read h.read_index)
    (ap number (behind 2 2 0 r _ r2 ∙ front 2 w _ w2) ∙ number_bytes_of 2 v.write h.write_index)
    (ap number (behind 2 2 2 r _ r2 ∙ behind 2 2 0 w _ w2 ∙ front 2 e _ e2) ∙ number_bytes_of 2 v.edit h.edit_index)
    (past 0 ∙ front 16 v.name _ h.name_size)
    (past 16 ∙ behind 16 16 0 v.name _ h.name_size ∙ front 16 v.id _ h.id_size)
    (past 32 ∙ behind 16 16 16 v.name _ h.name_size ∙ behind 16 16 0 v.id _ h.id_size
    ∙ front 16 v.pa _ h.pa_size)
  where
    r : List ℕ
    r = bytes_of 2 v.read

    w : List ℕ
    w = bytes_of 2 v.write

    e : List ℕ
    e = bytes_of 2 v.edit

    rest : List ℕ
    rest = flatten (v.name ∷ v.id ∷ v.pa ∷ [])

    r2 : length r ≡ 2
    r2 = length-bytes_of 2 v.read

    w2 : length w ≡ 2
    w2 = length-bytes_of 2 v.write

    e2 : length e ≡ 2
    e2 = length-bytes_of 2 v.edit

    -- what is behind the indexes
    past : (o : ℕ) → part (6 + o) 16 (r ++ (w ++ (e ++ rest))) ≡ part o 16 rest
    past o =
        let k : 6 + o ≡ 2 + (2 + (2 + o)) = omega arith in
        rw k
        (behind 2 16 (2 + (2 + o)) r (w ++ (e ++ rest)) r2 ∙ behind 2 16 (2 + o) w (e ++ rest) w2 ∙ behind 2 16 o e rest e2)

    same : {a b c : ℕ} {x y z : List ℕ} → a ≡ v.read → b ≡ v.write → c ≡ v.edit → x ≡ v.name → y ≡ v.id → z ≡ v.pa
        → ◌≡◌ {A = Session} (record { read = a; write = b; edit = c; name = x; id = y; pa = z }) v
    same a b c x y z = rw (a, b, c, x, y, z)

fit : (v : Session) → v.read < 65536 → v.write < 65536 → v.edit < 65536 → length v.name ≡ 16
    → length v.id ≡ 16 → length v.pa ≡ 16 → Fits v
fit v r w e n i p =
    record { read_index = r; write_index = w; edit_index = e; name_size = n; id_size = i; pa_size = p }

index_fits : (a : ℕ) (t : List ℕ) → a + 2 ≤ length t → ((i : ℕ) → byte i t < 256) → number (part a 2 t) < 65536
unfolding number_from
index_fits a t h b =
    let x = b a in
    let y = b (a + 1) in
    rw (two a t h) (omega arith)

bytes_fit : (b : List ℕ) → length b ≡ 54 → ((i : ℕ) → byte i b < 256) → Fits (session_of b)
unfolding session_of
bytes_fit b e h =
    fit _ (index_fits 0 b (omega arith) h) (index_fits 2 b (omega arith) h) (index_fits 4 b (omega arith) h)
    (omega (arith, length_part 6 16 b)) (omega (arith, length_part 22 16 b)) (omega (arith, length_part 38 16 b))

pub nothing_lost : NothingLost
nothing_lost = record { session_back = session_back; bytes_back = bytes_back; bytes_fit = bytes_fit }

-- ---- a session that fits stays one

sixteen : (n : ℕ) (cs : Checks) (bs : List ℕ) → lowest (n when not (eqb (length bs) 16) else cs) ≡ None
    → length bs ≡ 16
sixteen n cs bs e = eqb-true _ _ (not-false _ (passes _ _ _ e).0)

response_index : (E : Cipher) (t : List ℕ) (i : ℕ) (bs : List ℕ) → lowest (response_checks E t i bs) ≡ None → i < 65536
unfolding response_checks
response_index E t i bs e = let l = leb-true i 255 (not-false _ (passes _ _ _ e).0) in omega arith

register_fits : (E : Cipher) (s : State) (r : Register) (bs : List ℕ) → lowest (register_checks E s r bs) ≡ None
    → Fits s.session → Fits (register_session E s r bs)
unfolding register_checks block_checks register_session with_read with_write with_edit with_name with_id with_pa
register_fits E s Read bs e h =
    fit _ (response_index E s.tag _ bs (passes _ _ _ e).1) h.write_index h.edit_index h.name_size h.id_size h.pa_size
register_fits E s Write bs e h =
    fit _ h.read_index (response_index E s.tag _ bs (passes _ _ _ e).1) h.edit_index h.name_size h.id_size h.pa_size
register_fits E s Edit bs e h =
    fit _ h.read_index h.write_index (response_index E s.tag _ bs (passes _ _ _ e).1) h.name_size h.id_size h.pa_size
register_fits E s Name bs e h =
    fit _ h.read_index h.write_index h.edit_index (length-xor bs _ ∙ sixteen 9 _ bs e) h.id_size h.pa_size
register_fits E s Id bs e h =
    fit _ h.read_index h.write_index h.edit_index h.name_size (sixteen 9 _ bs e) h.pa_size
register_fits E s Commit bs e h = h
register_fits E s Pa bs e h =
    fit _ h.read_index h.write_index h.edit_index h.name_size h.id_size (sixteen 9 _ bs e)

write_fits : (E : Cipher) (s : State) (p : Place) (a : ℕ) (bs : List ℕ) → lowest (write_checks E s p a bs) ≡ None
    → Fits s.session → Fits (write_session E s p bs)
unfolding write_checks write_session
write_fits E s Header a bs e h = h
write_fits E s Hidden a bs e h = h
write_fits E s (RegisterOf r) a bs e h = register_fits E s r bs e h
write_fits E s Pins a bs e h = h
write_fits E s Readers a bs e h = h
write_fits E s (UnitOf k) a bs e h = h
write_fits E s Spare a bs e h = h
write_fits E s (Segment k) a bs e h = h
write_fits E s (Public k) a bs e h = h

granted_fits : (E : Cipher) (s : State) (c : Command) → refusal E s c ≡ None → Fits s.session
    → Fits (new_session E s c)
unfolding new_session session_in powered_up
granted_fits E s (read a n room) e h = h
granted_fits E s (write a bs) e h =
    let g = granted_write E s a bs e in rw g.found (write_fits E s g.place a bs g.free h)
granted_fits E s (advance k) e h = h
granted_fits E s (insert k id) e h = h
granted_fits E s power_up e h = fit _ (omega arith) (omega arith) (omega arith) refl refl refl

command_fits : (E : Cipher) (s : State) → Fits s.session → (c : Command) → Fits (after E s c).session
unfolding after after_by
command_fits E s h c = by (refusal E s c) refl
  where
    by : (r : Option ℕ) → refusal E s c ≡ r → Fits (after_by r E s c).session
    by None e = granted_fits E s c e h
    by (Some n) e = h

run_fits : (E : Cipher) (s : State) (p : Parsed) (room : ℕ) → Fits s.session
    → Fits (carried_out E s p room).state.session
unfolding carried_out stopped onward
run_fits E s end room h = h
run_fits E s unreadable room h = by (leb 2 room)
  where
    by : (b : Bool)
        → Fits (cond b (stopped (Some 15) (encoded (refused 15)) s) (stopped (Some 16) [] s)).state.session
    by true = h
    by false = h
run_fits E s (c taking n then p) room h =
    by (leb (room_for c) room) (run_fits E (after E s c) p (room - length (encoded (reply E s c))) (command_fits E s h c))
  where
    rest : Ran
    rest = carried_out E (after E s c) p (room - length (encoded (reply E s c)))

    by : (b : Bool) → Fits rest.state.session
        → Fits (cond b (onward n (encoded (reply E s c)) rest) (stopped (Some 16) [] s)).state.session
    by true g = g
    by false g = h

pub session_fits : (E : Cipher) (s : State) → SessionFits E s
unfolding run_over result_of run_log
session_fits E s =
    record {
      after_command = command_fits E s;
      after_run = λ h log out. run_fits E s (parsed 0 log) (length out) h;
    }

-- ---- a call from C is a call

pub called_is_call : (E : Cipher) → CalledIsCall E
called_is_call E s c n t b h = by (refusal E s c) refl
  where
    by : (r : Option ℕ) → refusal E s c ≡ r
        → (a : Answer) × (code_of (refusal_of a) ≡ n) × CarriedOut E s c t (outcome a (session_of b))
    by None e =
        ((Ok tt), sym (h.answered ∙ ap code_of e), record { answered = sym e; left = h.left })
    by (Some m) e =
        let x = refusal_named E s c m e in (
          Err x.refusal_case,
          x.its_number ∙ sym (h.answered ∙ ap code_of e),
          record { answered = ap Some x.its_number ∙ sym e; left = h.left },
        )

-- a run ends, or stops with 15 or 16
stop_named : (E : Cipher) (s : State) (p : Parsed) (room : ℕ) → (q : Stop) × ((carried_out E s p room).stop ≡ stop_number q)
unfolding carried_out stopped onward
stop_named E s end room = (End, refl)
stop_named E s unreadable room = by (leb 2 room)
  where
    by : (b : Bool)
        → (q : Stop) × ((cond b (stopped (Some 15) (encoded (refused 15)) s) (stopped (Some 16) [] s)).stop ≡ stop_number q)
    by true = (BadCommand, refl)
    by false = (OutputFull, refl)
stop_named E s (c taking n then p) room =
    by (leb (room_for c) room) (stop_named E (after E s c) p (room - length (encoded (reply E s c))))
  where
    rest : Ran
    rest = carried_out E (after E s c) p (room - length (encoded (reply E s c)))

    by : (b : Bool) → (q : Stop) × (rest.stop ≡ stop_number q)
        → (q : Stop) × ((cond b (onward n (encoded (reply E s c)) rest) (stopped (Some 16) [] s)).stop ≡ stop_number q)
    by true x = x
    by false x = (OutputFull, refl)

pub run_called_is_run : (E : Cipher) → RunCalledIsRun E
run_called_is_run E s log out n i j t b o r h =
    let x = run_over E s log out in
    let named : (q : Stop) × (x.stop ≡ stop_number q) =
    unfold run_over result_of run_log in stop_named E s (parsed 0 log) (length out) in (
      named.0,
      sym (r.stopped ∙ ap code_of named.1),
      rw (
        r.read,
        r.written,
        ← named.1,
        ap (λ y. y.session) h.left,
        ap (λ y. y.tag) h.left,
        h.output,
      ),
    )
