-- The laws that the functions of `tag_c` cite: the session's bytes, and a call by its answer and its session. Assumes
-- nothing.
use Rattle.std.specs.Prelude.{None, Option, Some}
use Prim.Native.Nat.{ℕ, ◌+◌}
use mathlib.Core.Path.{◌≡◌, refl, sym, ap, subst, ◌∙◌}
use mathlib.Core.List.{List, ◌++◌, flatten}
use native.Mathlib.Omega.{arith}
use lib.ListN.{length, replicate, length-append}
use Rattle.rules.specs.declared.Session.{Session}
use Rattle.rules.specs.declared.Outcome.{Outcome}
use Rattle.rules.specs.declared.Run.{Run}
use Rattle.rules.specs.Bytes.{part, put, number, bytes_of}
use Rattle.rules.specs.State.{State, state}
use Rattle.rules.specs.Answers.{refusal_of, stop_number, code_of}
use Rattle.rules.specs.Command.{Command, insert, refusal, after, after_by, new_session}
use Rattle.rules.specs.Calls.{CarriedOut}
use Rattle.rules.specs.Runs.{result, run_over}
use Rattle.rules.specs.CCalls.{session_of, session_bytes, Called, RunReturned, RunLeft, run_from, Fits}
use Rattle.rules.proofs.BytesLaws.{put-append, put-none, length-bytes_of}
use Rattle.rules.proofs.CCalls.{nothing_lost, session_fits}
use Rattle.octets.proofs.Laws.{block_whole, put_whole}
use Rattle.xxtea.specs.Block.{E}
use Rattle.tag_c.specs.Lent.{Lent}

-- ---- the session that the bytes hold

pub session_read : (b : List ℕ) (r w e : ℕ) (n i p : List ℕ) → r ≡ number (part 0 2 b) → w ≡ number (part 2 2 b)
    → e ≡ number (part 4 2 b) → n ≡ part 6 16 b → i ≡ part 22 16 b → p ≡ part 38 16 b
    → ◌≡◌ {A = Session} (record { read = r; write = w; edit = e; name = n; id = i; pa = p }) (session_of b)
unfolding session_of
session_read b r w e n i p fr fw fe fn fi fp = rw (fr, fw, fe, fn, fi, fp)

-- ---- the session's bytes, stored one part behind another

-- a part behind one that is stored already
behind : (a n : ℕ) (xs ys t u : List ℕ) → length xs ≡ n → u ≡ put a xs t → put (a + n) ys u ≡ put a (xs ++ ys) t
behind a n xs ys t u e f = rw (f, ← e) (sym (put-append a xs ys t))

length_session : (v : Session) → length v.name ≡ 16 → length v.id ≡ 16 → length v.pa ≡ 16
    → length (session_bytes v) ≡ 54
unfolding session_bytes flatten
length_session v n i p = simp (length-append, length-bytes_of) (omega arith)

pub all-put : (v : Session) (b r w e n i p : List ℕ) → length b ≡ 54
    → length v.name ≡ 16 → length v.id ≡ 16 → length v.pa ≡ 16
    → r ≡ put 0 (bytes_of 2 v.read) b → w ≡ put 2 (bytes_of 2 v.write) r → e ≡ put 4 (bytes_of 2 v.edit) w
    → n ≡ put 6 v.name e → i ≡ put 22 v.id n → p ≡ put 38 v.pa i
    → p ≡ session_bytes v
unfolding session_bytes flatten
all-put v b r w e n i p l ln li lp er ew ee en ei ep =
    sym (put-none 54 p)
    ∙ behind 38 16 v.pa _ i p lp ep
    ∙ behind 22 16 v.id _ n i li ei
    ∙ behind 6 16 v.name _ e n ln en
    ∙ behind 4 2 (bytes_of 2 v.edit) _ w e (length-bytes_of 2 _) ee
    ∙ behind 2 2 (bytes_of 2 v.write) _ r w (length-bytes_of 2 _) ew
    ∙ behind 0 2 (bytes_of 2 v.read) _ b r (length-bytes_of 2 _) er
    ∙ put_whole _ b (length_session v ln li lp ∙ sym l)

-- ---- a call, by its answer and its session

called : (s : State) (c : Command) (t b : List ℕ) (n : ℕ) (o : Outcome) → n ≡ code_of (refusal_of o.answer)
    → CarriedOut E s c t o → session_of b ≡ o.session → b ≡ session_bytes o.session → Called E s c n t b
called s c t b n o e h f g =
    record {
      answered = e ∙ ap code_of h.answered;
      left = ap (state t) f ∙ h.left;
      kept = g ∙ ap (λ x. session_bytes x.session) h.left;
    }

-- a command that leaves the session leaves its bytes
session_stays : (s : State) (c : Command) → new_session E s c ≡ s.session → (after E s c).session ≡ s.session
unfolding after after_by
session_stays s c e = by (refusal E s c)
  where
    by : (r : Option ℕ) → (after_by r E s c).session ≡ s.session
    by None = e
    by (Some n) = refl

pub leaves_session : (t u b : List ℕ) (v : Session) (c : Command) (n : ℕ) (o : Outcome) → Lent b → v ≡ session_of b
    → new_session E (state t v) c ≡ v → n ≡ code_of (refusal_of o.answer) → CarriedOut E (state t v) c u o
    → Called E (state t (session_of b)) c n u b
leaves_session t u b v c n o l f k e h =
    let g : o.session ≡ session_of b = ap (λ x. x.session) h.left ∙ session_stays (state t v) c k ∙ f in
    subst (λ x. Called E (state t x) c n u b) f
    (called _ c u b n o e h (sym g) (sym (nothing_lost.bytes_back b l.size l.bytes) ∙ ap session_bytes (sym g)))

-- an insertion with an id that is lent
pub inserts : (t u b : List ℕ) (v : Session) (k : ℕ) (id host : List ℕ) (n : ℕ) (o : Outcome) → Lent b → v ≡ session_of b
    → host ≡ put 0 id (replicate 16 0) → length id ≡ 16 → n ≡ code_of (refusal_of o.answer)
    → CarriedOut E (state t v) (insert k host) u o → Called E (state t (session_of b)) (insert k id) n u b
inserts t u b v k id host n o l f q w e h =
    subst (λ x. Called E (state t (session_of b)) (insert k x) n u b) (q ∙ block_whole id w)
    (leaves_session t u b v (insert k host) n o l f (unfold new_session in refl) e h)

-- a session that is kept is there for the next call
kept_session : (d : List ℕ) (v : Session) → Fits v → d ≡ session_bytes v → session_of d ≡ v
kept_session d v h e = ap session_of e ∙ nothing_lost.session_back v h

pub keeps_session : (t u b d : List ℕ) (v : Session) (c : Command) (n : ℕ) (o : Outcome) → Lent b → v ≡ session_of b
    → n ≡ code_of (refusal_of o.answer) → CarriedOut E (state t v) c u o → d ≡ session_bytes o.session
    → Called E (state t (session_of b)) c n u d
keeps_session t u b d v c n o l f e h k =
    let start = subst Fits (sym f) (nothing_lost.bytes_fit b l.size l.bytes) in
    let end : Fits o.session =
    subst (λ x. Fits x.session) (sym h.left) ((session_fits E (state t v)).after_command start c) in
    subst (λ x. Called E (state t x) c n u d) f (called _ c u d n o e h (kept_session d o.session end k) k)

pub keeps_run : (t u b d log out left : List ℕ) (v : Session) (n : ℕ) (r : Run) → Lent b → v ≡ session_of b
    → result r u left ≡ run_over E (state t v) log out → n ≡ code_of (stop_number r.stop) → d ≡ session_bytes r.session
    → RunReturned (run_from E t b log out) n r.read r.written × RunLeft (run_from E t b log out) u d left
keeps_run t u b d log out left v n r l f h e k =
    let start = subst Fits (sym f) (nothing_lost.bytes_fit b l.size l.bytes) in
    let same : r.session ≡ (run_over E (state t v) log out).session = ap (λ x. x.session) h in
    let end = subst Fits (sym same) ((session_fits E (state t v)).after_run start log out) in
    subst (λ x. RunReturned (run_over E (state t x) log out) n r.read r.written × RunLeft (run_over E (state t x) log out) u d left) f (
      record { stopped = e ∙ ap (λ x. code_of x.stop) h; read = ap (λ x. x.read) h; written = ap (λ x. x.written) h },
      record {
        left = ap (state u) (kept_session d r.session end k) ∙ ap (λ x. state x.tag x.session) h;
        kept = k ∙ ap session_bytes same;
        output = ap (λ x. x.output) h;
      },
    )
