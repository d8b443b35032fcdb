-- The laws that the functions of a run cite: replies in their place, the state after a command, and what a run has left
-- to do. Assumes nothing.
use Rattle.std.specs.Prelude.{None, Option, Some, Ok, Err}
use Prim.Native.Nat.{ℕ, zero, suc, ◌+◌, ◌-◌, ◌≤◌}
use mathlib.Core.Path.{◌≡◌, refl, sym, ap, subst, ◌∙◌}
use mathlib.Core.List.{List, [], ◌∷◌, ◌++◌}
use native.Mathlib.Omega.{arith}
use lib.ListN.{length, replicate, take, drop, take-append-drop}
use borrow.Rule.Slice.PartMut.{put_mid, mid_of, put_same}
use Rattle.rules.specs.declared.Session.{Session}
use Rattle.rules.specs.declared.Outcome.{Outcome}
use Rattle.rules.specs.Bytes.{part, put}
use Rattle.rules.specs.State.{State, powered_up}
use Rattle.rules.specs.Answers.{Answer, refusal_of, number_of}
use Rattle.rules.specs.Command.{Command, read, write, insert, power_up, done, refusal, grant, reply, reply_by, filled}
use Rattle.rules.specs.Calls.{CarriedOut, outcome, reply_of}
use Rattle.rules.specs.Log.{encoded}
use Rattle.rules.proofs.BytesLaws.{put-none}
use Rattle.rules.proofs.GrantedRead.{granted_read}
use Rattle.rules.proofs.Calls.{replied, powered}
use Rattle.octets.proofs.Laws.{block_whole, length_lent}
use Rattle.reads.proofs.Laws.{read_stays}
use Rattle.xxtea.specs.Block.{E}
use Rattle.command_log.specs.Next.{read_head, read_length}
use Rattle.tag.specs.Replies.{Replied}
use Rattle.tag.specs.Replies.{Written, Answered, Replies}

-- ---- a store in a part that is lent

pub put-part-back : (a k : ℕ) (bs t : List ℕ) → length bs ≤ k → put_mid a k t (put 0 bs (mid_of a k t)) ≡ put a bs t
unfolding put
put-part-back zero k bs t h = front k bs t h
  where
    front : (k : ℕ) (bs t : List ℕ) → length bs ≤ k → put 0 bs (take k t) ++ drop k t ≡ put 0 bs t
    front zero [] [] h = refl
    front zero [] (x ∷ t) h = refl
    front zero (b ∷ bs) t h = absurd (omega arith)
    front (suc k) bs [] h = refl
    front (suc k) [] (x ∷ t) h = ap (λ l. x ∷ l) (take-append-drop k t)
    front (suc k) (b ∷ bs) (x ∷ t) h = ap (λ l. b ∷ l) (front k bs t (omega arith))
put-part-back (suc a) zero bs [] h = refl
put-part-back (suc a) (suc k) bs [] h = refl
put-part-back (suc a) k bs (x ∷ t) h = ap (λ l. x ∷ l) (put-part-back a k bs t h)

-- ---- the reply to a read

-- a code in front of bytes that stand already
put_head : (c : ℕ) (bs t : List ℕ) → put 0 (c ∷ []) (put 1 bs t) ≡ put 0 (c ∷ bs) t
unfolding put
put_head c bs [] = refl
put_head c bs (x ∷ t) = ap (λ l. c ∷ l) (put-none 0 (put 0 bs t))

pub read_written : (s : State) (a n m k : ℕ) (out ys : List ℕ) (q : Answer) → m ≡ n → k ≡ n
    → refusal_of q ≡ refusal E s (read a n m) → ys ≡ filled (reply E s (read a n m)) (mid_of 1 k out)
    → Written (reply E s (read a n n)) out (put 0 (read_head q n) (put_mid 1 k out ys)) (read_length q n)
unfolding reply reply_by filled grant encoded
read_written s a n m k out ys (Ok x) p l e f =
    let g : None ≡ refusal E s (read a n n) = subst (λ x. None ≡ refusal E s (read a n x)) p e in
    let w = (granted_read E s a n n (sym g)).whole in
    let h : ys ≡ put 0 (part a n s.tag) (mid_of 1 k out) = rw (← e) at f in
    rw (← g) (record {
      bytes = rw (h, put-part-back 1 k (part a n s.tag) out (omega arith), w) (put_head _ (part a n s.tag) out);
      count = rw w (omega arith);
    })
read_written s a n m k out ys (Err r) p l e f =
    let g = subst (λ x. Some (number_of r) ≡ refusal E s (read a n x)) p e in
    let h : ys ≡ mid_of 1 k out = rw (← e) at f in
    rw (← g) (record { bytes = rw (h, put_same 1 k out) refl; count = refl })

-- ---- the command that comes next, carried out and replied to

-- one whose grant is a plain 50
pub answered : (s : State) (c : Command) (n : ℕ) (q : Option (Command × ℕ)) (out t o : List ℕ) (a : Answer) (v : Session) (x : Replied)
    → q ≡ Some (c, n) → grant s c ≡ done → CarriedOut E s c t (outcome a v) → Answered a v out o x → Replies E s q out t o x
answered s c n q out t o a v x e g h p =
    let r = ap (reply_of a) (sym g) ∙ replied E s c a h.answered in
    rw e (record { left = rw p.session h.left; written = rw (← r) p.written })

-- what is lent from an address to the end
part_rest : (i n : ℕ) (t : List ℕ) → i + n ≡ length t → mid_of i (length t - i) t ≡ part i n t
unfolding part
part_rest i n t e = let k : length t - i ≡ n = omega arith in rw k

-- a write of bytes that the log lends
pub write_replied : (s : State) (a i n m : ℕ) (bytes out t o : List ℕ) (r : Outcome) (x : Replied) (q : Option (Command × ℕ))
    → q ≡ Some (write a (part i n bytes), m) → i + n ≡ length bytes → CarriedOut E s (write a (mid_of i (length bytes - i) bytes)) t r
    → Answered r.answer r.session out o x → Replies E s q out t o x
write_replied s a i n m bytes out t o r x q e l h p =
    answered s (write a (part i n bytes)) m q out t o r.answer r.session x e (unfold grant in refl)
    (rw (part_rest i n bytes l) at h) p

-- an insertion with an id that the log lends
pub insert_replied : (s : State) (k i n : ℕ) (bytes out t o id : List ℕ) (a : Answer) (x : Replied) (q : Option (Command × ℕ))
    → i + 16 ≡ length bytes → q ≡ Some (insert k (part i 16 bytes), n) → id ≡ put 0 (mid_of i (length bytes - i) bytes) (replicate 16 0)
    → CarriedOut E s (insert k id) t (outcome a s.session) → Answered a s.session out o x → Replies E s q out t o x
insert_replied s k i n bytes out t o id a x q l e f h p =
    let whole = block_whole (part i 16 bytes) (length_lent i 16 bytes (omega arith)) in
    let g : id ≡ part i 16 bytes = f ∙ rw (part_rest i 16 bytes l) whole in
    answered s (insert k (part i 16 bytes)) n q out t o a s.session x e (unfold grant in refl)
    (subst (λ y. CarriedOut E s (insert k y) t (outcome a s.session)) g h) p

pub powered_up_lem : (s : State) (n : ℕ) (q : Option (Command × ℕ)) (out o : List ℕ) (v : Session) (x : Replied) → q ≡ Some (power_up, n)
    → v ≡ powered_up → Answered (Ok tt) v out o x → Replies E s q out s.tag o x
powered_up_lem s n q out o v x e h p =
    let r = powered E s in
    rw e (record { left = rw (p.session ∙ h) r.1; written = rw (← r.0) p.written })

pub read_replied : (s : State) (a n m : ℕ) (q : Option (Command × ℕ)) (out o : List ℕ) (w : ℕ) → q ≡ Some (read a n n, m)
    → Written (reply E s (read a n n)) out o w → Replies E s q out s.tag o (record { written = w; session = s.session })
read_replied s a n m q out o w e h = rw e (record { left = sym (read_stays _ _ _ _ _); written = h })
