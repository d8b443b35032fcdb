-- What is claimed of calls follows from their contracts and from what is proved of the rules. Assumes nothing.
use Rattle.std.specs.Prelude.{None, Some, Ok, Err}
use Prim.Native.Nat.{ℕ}
use mathlib.Core.Path.{◌≡◌, refl, sym, ap, ap₂, subst, ◌∙◌}
use mathlib.Core.Logic.{◌≢◌, ◌⊎◌, inl, inr}
use mathlib.Core.Bool.{true}
use mathlib.Core.List.{List, [], ◌∷◌, ◌++◌}
use native.Mathlib.Omega.{arith}
use lib.ListN.{length}
use Rattle.rules.specs.declared.Refusal.TheVariants.{WrongResponse}
use Rattle.rules.specs.Bytes.{part, put}
use Rattle.rules.specs.Map.{sound, flag_at}
use Rattle.rules.specs.State.{Cipher, State, state, powered_up}
use Rattle.rules.specs.Answers.{Answer, refusal_of, number_of}
use Rattle.rules.specs.Refusals.{lowest}
use Rattle.rules.specs.Effects.{apply, refusal_stores}
use Rattle.rules.specs.Command.{Command, Reply, stores, new_session, done, gives, read, write, advance, insert, power_up, checks, refusal, grant, reply, reply_by, after, after_by, filled}
use Rattle.rules.specs.Run.{final, replies}
use Rattle.rules.proofs.BytesLaws.{part_put_same}
use Rattle.rules.proofs.GrantedRead.{granted_read}
use Rattle.rules.specs.Demand3.{with_copies, without_copies}
use Rattle.rules.proofs.Demand3.{demand_3}
use Rattle.rules.proofs.Refused.{eleven_or_none}
use Rattle.rules.proofs.Counting.{one_answer_each}
use Rattle.rules.specs.Calls.{RefusedLeaves, RefusedReads, CallsFollow, reply_of, Call, reads, writes, advances, inserts, powers_up, no_more, then, CallsDemand3}

module _ (E : Cipher) where
  -- ---- a refused call

  pub refused_leaves : RefusedLeaves E
  unfolding after after_by
  refused_leaves s c t o r h e =
      let n = sym h.answered ∙ ap refusal_of e in
      let l : state t o.session ≡ after_by (Some (number_of r)) E s c = rw n at h.left in
      record {
        same_session = ap (λ x. x.session) l;
        same_tag = λ q. ap (λ x. x.tag) l ∙ by q (eleven_or_none r);
        flag_set = λ q. ap (λ x. x.tag) l ∙ marked q;
      }
    where
      by : r ≢ WrongResponse → (r ≡ WrongResponse) ⊎ (refusal_stores (number_of r) ≡ [])
          → apply (refusal_stores (number_of r)) s.tag ≡ s.tag
      by q (inl f) = absurd (q f)
      by q (inr f) = ap (λ ss. apply ss s.tag) f ∙ unfold apply in refl

      marked : r ≡ WrongResponse → apply (refusal_stores (number_of r)) s.tag ≡ put flag_at (1 ∷ []) s.tag
      marked q = rw q (unfold apply refusal_stores in refl)

  pub refused_reads : RefusedReads E
  unfolding reply reply_by filled
  refused_reads s a n out o r h e = rw (sym h.answered ∙ ap refusal_of e)

  -- ---- a call answers and leaves what the rules say

  pub replied : (s : State) (c : Command) (a : Answer) → refusal_of a ≡ refusal E s c → reply_of a (grant s c) ≡ reply E s c
  unfolding reply reply_by
  replied s c (Ok tt) e = rw (← e)
  replied s c (Err r) e = rw (← e)

  -- the bytes of a granted read are those at the start of its output
  read_back : (s : State) (a n : ℕ) (out : List ℕ) → refusal E s (read a n (length out)) ≡ None
      → part 0 n (put 0 (part a n s.tag) out) ≡ part a n s.tag
  read_back s a n out e =
      let g = granted_read E s a n (length out) e in
      let l = g.whole in
      let r = g.fits in
      subst (λ m. part 0 m (put 0 (part a n s.tag) out) ≡ part a n s.tag) l
      (part_put_same 0 (part a n s.tag) out (omega arith))

  read_replied : (s : State) (a n : ℕ) (out left : List ℕ) (q : Answer) → refusal_of q ≡ refusal E s (read a n (length out))
      → left ≡ filled (reply E s (read a n (length out))) out
      → reply_of q (gives (part 0 n left)) ≡ reply E s (read a n (length out))
  unfolding reply reply_by filled grant
  read_replied s a n out left (Ok tt) e f =
      let g : left ≡ put 0 (part a n s.tag) out = rw (← e) at f in
      rw (← e, g) (ap gives (read_back s a n out (sym e)))
  read_replied s a n out left (Err r) e f = rw (← e)

  pub powered : (s : State) → (done ≡ reply E s power_up) × (state s.tag powered_up ≡ after E s power_up)
  unfolding refusal checks lowest reply reply_by grant after after_by stores new_session apply
  powered s = (refl, refl)

  call_follows : (s m : State) (c : Command) (r : Reply) → Call E s c r m → (r ≡ reply E s c) × (m ≡ after E s c)
  unfolding grant
  call_follows s m c r (reads a n out left o h e) = (read_replied s a n out left o.answer h.answered e, h.left)
  call_follows s m c r (writes a bs t o h) = (replied s (write a bs) o.answer h.answered, h.left)
  call_follows s m c r (advances k t o h) = (replied s (advance k) o.answer h.answered, h.left)
  call_follows s m c r (inserts k id t o h) = (replied s (insert k id) o.answer h.answered, h.left)
  call_follows s m c r powers_up = powered s

  pub calls_follow : CallsFollow E
  unfolding replies final
  calls_follow s e cs rs no_more = (refl, refl)
  calls_follow s e cs rs (then {cs = later} one more) =
      let x = call_follows _ _ _ _ one in
      let y = calls_follow _ _ _ _ more in
      (ap₂ {C = List Reply} (λ r rs. r ∷ rs) x.0 (y.0 ∙ ap (λ m. replies E m later) x.1), y.1 ∙ ap (λ m. final E m later) x.1)

  -- ---- demand 3

  pub calls_demand_3 : (s : State) → sound s.tag ≡ true → CallsDemand3 E s
  calls_demand_3 s w =
      let d = demand_3 E s w in
      record {
        counting = λ k j h l cs rs e x.
            let f = calls_follow s e cs rs x in
            rw (f.0, f.1) (d.counting cs k j h l);
        copies = λ es h rs qs e f x y.
            let p = calls_follow s e (with_copies es) rs x in
            let q = calls_follow s f (without_copies es) qs y in
            rw (p.0, p.1, q.0, q.1) (d.copies es h);
        neighbours = λ before c d' later h rs qs e f x y.
            let p = calls_follow s e (before ++ c ∷ d' ∷ later) rs x in
            let q = calls_follow s f (before ++ d' ∷ c ∷ later) qs y in
            let z = d.neighbours before c d' later h in
            let n = one_answer_each E s before in (
              replies E s before,
              z.0,
              reply E (final E s before) c,
              reply E (final E s before) d',
              n,
              p.0 ∙ z.1,
              q.0 ∙ z.2,
              p.1 ∙ z.3 ∙ sym q.1,
            );
      }
