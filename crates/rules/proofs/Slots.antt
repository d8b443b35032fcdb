-- One command and the slots of a counter segment: a slot moves by one exactly if the command is a granted write to it.
use Rattle.std.specs.Prelude.{None, Option, Some}
use Prim.Native.Nat.{ℕ, ◌+◌, ◌-◌, ◌/◌, ◌≤◌, ◌<◌}
use mathlib.Core.Path.{◌≡◌, refl, sym, ap, subst, ◌∙◌}
use mathlib.Core.Logic.{◌≢◌, ◌⊎◌, inl, inr}
use mathlib.Core.Bool.{Bool, true, false, ◌&&◌, cond}
use mathlib.Core.List.{List, [], ◌∷◌}
use native.Mathlib.Omega.{arith}
use native.Mathlib.Nat.{add-zero}
use native.Mathlib.Decide.{ℕ_discrete}
use lib.ListN.{length}
use lib.Dec.{eqb}
use borrow.Author.Tests.{eqb-true, eq-eqb, ne_eqb}
use Rattle.rules.specs.declared.Place.{Place}
use Rattle.rules.specs.declared.Place.TheVariants.{Segment}
use Rattle.rules.specs.Bytes.{part, number, put, Apart}
use Rattle.rules.specs.Map.{segment_at, segments, sound, slot_at}
use Rattle.rules.specs.Units.{unit_bytes, unit_of}
use Rattle.rules.specs.State.{Cipher, State}
use Rattle.rules.specs.Refusals.{lowest, write_checks, is_shared_key}
use Rattle.rules.specs.Effects.{Store, ◌↤◌, write_stores, stored, write_move, apply}
use Rattle.rules.specs.Command.{write, grant, refusal, stores, refused, Command, read, advance, insert, power_up, done, Reply, reply, reply_by, gives, after}
use Rattle.rules.specs.Demand3.{slot, value_at, CounterSegment, counted, LockedCounter}
use Rattle.rules.specs.Claims.{Holds, OwnMover, own_move}
use Rattle.rules.proofs.Tests.{true_false}
use Rattle.rules.proofs.BytesLaws.{part_put_same, part-put}
use Rattle.rules.proofs.StoreLaws.{Each, Off, each_map, apply-part}
use Rattle.rules.proofs.MapLaws.{sound_long}
use Rattle.rules.proofs.Places.{placed, places_apart, segment_holds, controlled, place_holds, at_segment}
use Rattle.rules.proofs.Grants.{slot-facts, granted_write, stores_write, made_by, advance_facts, after_tag, reply_is}
use Rattle.rules.proofs.HostsLaws.{insert_facts}
use Rattle.rules.proofs.Lawful.{HostOf, write_off, refusal_off, advance_off, insert_off, sound_stays}
use Rattle.rules.proofs.Locked.{locked_unit}

-- what a granted write of `bs` at `a`, which makes the stores `ss`, does to counter segment k
data Effect (t : List ℕ) (k a : ℕ) (bs : List ℕ) (ss : List Store) : Type 0 where
  elsewhere : Each (Off (segment_at (segments t) k) 4096) ss → Apart a (length bs) (segment_at (segments t) k) 4096
      → Effect t k a bs ss
  to_slot : (j : ℕ) → j < 512 → a ≡ slot t k j → length bs ≡ 8 → number bs ≡ value_at a t + 1 → ss ≡ (a ↤ bs) ∷ []
      → Effect t k a bs ss

module _ (E : Cipher) (s : State) (k : ℕ) (w : sound s.tag ≡ true) (cs : CounterSegment s.tag k) where
  segment_effect : (a : ℕ) (bs : List ℕ) → Holds s.tag (Segment k) a (length bs)
      → lowest (write_checks E s (Segment k) a bs) ≡ None → Effect s.tag k a bs (write_stores E s (Segment k) a bs)
  unfolding write_stores write_checks stored write_move
  segment_effect a bs h e =
      let f = placed s.tag (Segment k) a (length bs) w h in
      let x = slot-facts _ _ _ _ _ bs cs.counts e in
      to_slot ((a - segment_at (segments s.tag) k) / 8) (omega arith) (omega arith) x.1
      (x.2 ∙ ap (λ n. number (part a n s.tag) + 1) x.1) (rw cs.counts)

  write_effect : (p : Place) (a : ℕ) (bs : List ℕ) → Holds s.tag p a (length bs)
      → lowest (write_checks E s p a bs) ≡ None
      → (p ≡ Segment k) ⊎ (p ≢ Segment k) → Effect s.tag k a bs (write_stores E s p a bs)
  write_effect p a bs h e (inl q) = rw q (segment_effect a bs (rw q at h) (rw q at e))
  write_effect p a bs h e (inr q) =
      let off = places_apart s.tag p (Segment k) a (length bs) (segment_at (segments s.tag) k) 4096 w h
      (segment_holds s.tag k _ 4096 (Segment k) (controlled cs.there) (omega arith) (omega arith)) q in
      let g = (sound_long s.tag w).0 in
      elsewhere (write_off E s p a bs _ 4096 w h e (omega arith) off (λ l f b. omega arith)) off

  granted_effect : (a : ℕ) (bs : List ℕ) → refusal E s (write a bs) ≡ None
      → Effect s.tag k a bs (stores E s (write a bs))
  granted_effect a bs e =
      let g = granted_write E s a bs e in
      subst (Effect s.tag k a bs) (sym (stores_write E s a bs g.place g.found))
      (write_effect g.place a bs (place_holds s.tag g.place a (length bs) g.found) g.free (at_segment k g.place))

-- ---- which writes count

counted_refused : (x : ℕ) (c : Command) (n : ℕ) → counted x c (refused n) ≡ 0
unfolding counted
counted_refused x (read a m room) n = refl
counted_refused x (write a bs) n = refl
counted_refused x (advance k) n = refl
counted_refused x (insert k id) n = refl
counted_refused x power_up n = refl

pub counted_hit : (x : ℕ) (bs : List ℕ) → length bs ≡ 8 → counted x (write x bs) done ≡ 1
unfolding counted
counted_hit x bs h = rw (eq-eqb x x refl, eq-eqb (length bs) 8 h)

counted_other : (x a : ℕ) (bs : List ℕ) → a ≢ x → counted x (write a bs) done ≡ 0
unfolding counted
counted_other x a bs h = rw (ne_eqb a x h)

counted_apart : (x a : ℕ) (bs : List ℕ) → Apart a (length bs) x 8 → counted x (write a bs) done ≡ 0
unfolding counted
counted_apart x a bs h = by (eqb a x) refl (eqb (length bs) 8) refl
  where
    by : (b : Bool) → eqb a x ≡ b → (c : Bool) → eqb (length bs) 8 ≡ c → ◌≡◌ {A = ℕ} (cond (b && c) 1 0) 0
    by true e true f =
        let p = eqb-true a x e in
        let q = eqb-true (length bs) 8 f in
        absurd (h x (omega arith) (omega arith) (omega arith) (omega arith))
    by true e false f = refl
    by false e c f = refl

-- ---- what the stores ss of the command c, answered r, do to slot j

abbrev Counts : List ℕ → (k j : ℕ) → Command → Reply → List Store → Type 0
Counts t k j c r ss = value_at (slot t k j) (apply ss t) ≡ value_at (slot t k j) t + counted (slot t k j) c r

each_slot : (A k j : ℕ) (ss : List Store) → j < 512 → Each (Off (segment_at A k) 4096) ss
    → Each (Off (slot_at A k j) 8) ss
each_slot A k j ss h e =
    each_map (Off (segment_at A k) 4096) (Off (slot_at A k j) 8) ss (λ x ys f i p q u v. f i p q (omega arith) (omega arith)) e

counts_beside : (t : List ℕ) (k j : ℕ) (c : Command) (r : Reply) (ss : List Store) → j < 512
    → Each (Off (segment_at (segments t) k) 4096) ss → counted (slot t k j) c r ≡ 0 → Counts t k j c r ss
counts_beside t k j c r ss l h e =
    rw (e, apply-part (slot t k j) 8 ss t (each_slot (segments t) k j ss l h)) (sym (add-zero _))

-- the next value, stored in slot i
counts_slot : (t : List ℕ) (k i j : ℕ) (bs : List ℕ) → slot t k i + length bs ≤ length t → length bs ≡ 8
    → number bs ≡ value_at (slot t k i) t + 1 → Dec (j ≡ i)
    → Counts t k j (write (slot t k i) bs) done ((slot t k i ↤ bs) ∷ [])
unfolding apply
counts_slot t k i j bs b n e (yes q) =
    let here : part (slot t k i) 8 (put (slot t k i) bs t) ≡ bs = rw n at (part_put_same (slot t k i) bs t b) in
    rw (q, counted_hit (slot t k i) bs n, here) e
counts_slot t k i j bs b n e (no q) =
    rw (part-put (slot t k j) 8 (slot t k i) bs t (omega arith), counted_other (slot t k j) (slot t k i) bs (omega arith))
    (sym (add-zero _))

counts_effect : (t : List ℕ) (k j a : ℕ) (bs : List ℕ) (ss : List Store) → sound t ≡ true → k < segments t → j < 512
    → Effect t k a bs ss → Counts t k j (write a bs) done ss
counts_effect t k j a bs ss w h l (elsewhere f g) =
    counts_beside t k j (write a bs) done ss l f (counted_apart (slot t k j) a bs (λ i p q u v. g i p q (omega arith) (omega arith)))
counts_effect t k j a bs ss w h l (to_slot i m e n v f) =
    let g = (sound_long t w).1 in rw (f, e) (counts_slot t k i j bs (omega arith) n (rw e at v) (ℕ_discrete j i))

-- ---- one command

module _ (E : Cipher) (s : State) (k : ℕ) (w : sound s.tag ≡ true) (cs : CounterSegment s.tag k) where
  -- a counter segment is none of model 4
  host_apart : (i : ℕ) → HostOf s.tag i → Apart (segment_at (segments s.tag) i) 4096 (segment_at (segments s.tag) k) 4096
  host_apart i h = let q : i ≢ k = other in omega arith
    where
      other : i ≢ k
      other e = true_false (sym h.shares ∙ rw (e, cs.counts) (unfold is_shared_key in refl))

  made_counts : (j : ℕ) (c : Command) (r : Option ℕ) → j < 512 → refusal E s c ≡ r
      → Counts s.tag k j c (reply_by r s c) (made_by r E s c)
  unfolding made_by reply_by grant stores counted
  made_counts j c (Some n) l e =
      let g = (sound_long s.tag w).0 in
      counts_beside s.tag k j c (refused n) _ l (refusal_off n _ 4096 (omega arith)) (counted_refused _ c n)
  made_counts j (read a n room) None l e = counts_beside s.tag k j (read a n room) (gives (part a n s.tag)) [] l tt refl
  made_counts j (write a bs) None l e =
      counts_effect s.tag k j a bs _ w cs.there l (granted_effect E s k w cs a bs e)
  made_counts j (advance m) None l e =
      let f = (advance_facts E s m e).0 in
      let g = (sound_long s.tag w).0 in
      counts_beside s.tag k j (advance m) done _ l (advance_off s.tag m _ 4096 (omega arith) (omega arith)) refl
  made_counts j (insert m id) None l e =
      let f = insert_facts E s m id e in
      let h = f.there in
      let g = (sound_long s.tag w).0 in
      counts_beside s.tag k j (insert m id) done _ l
      (insert_off s.tag m id _ 4096 w f (omega arith) (omega arith) (λ i h. host_apart i h)) refl
  made_counts j power_up None l e = counts_beside s.tag k j power_up done [] l tt refl

  pub slot_counts : (j : ℕ) (c : Command) → j < 512
      → value_at (slot s.tag k j) (after E s c).tag
      ≡ value_at (slot s.tag k j) s.tag + counted (slot s.tag k j) c (reply E s c)
  slot_counts j c l =
      rw (after_tag E s c (refusal E s c) refl, reply_is E s c (refusal E s c) refl) (made_counts j c (refusal E s c) l refl)

  -- a granted write to a slot holds the next value
  pub next_value : (j : ℕ) (bs : List ℕ) → j < 512 → length bs ≡ 8 → refusal E s (write (slot s.tag k j) bs) ≡ None
      → number bs ≡ value_at (slot s.tag k j) s.tag + 1
  next_value j bs l n e = by _ (granted_effect E s k w cs (slot s.tag k j) bs e)
    where
      by : (ss : List Store) → Effect s.tag k (slot s.tag k j) bs ss
          → number bs ≡ value_at (slot s.tag k j) s.tag + 1
      by ss (elsewhere f g) = absurd (g (slot s.tag k j) (omega arith) (omega arith) (omega arith) (omega arith))
      by ss (to_slot i m f n v q) = v

  -- and leaves it
  pub written_value : (j : ℕ) (bs : List ℕ) → j < 512 → length bs ≡ 8 → refusal E s (write (slot s.tag k j) bs) ≡ None
      → value_at (slot s.tag k j) (after E s (write (slot s.tag k j) bs)).tag ≡ number bs
  unfolding reply_by grant
  written_value j bs l n e =
      let x = slot s.tag k j in
      let r : reply E s (write x bs) ≡ done = reply_is E s (write x bs) None e in
      let v : value_at x (after E s (write x bs)).tag ≡ value_at x s.tag + 1 =
      rw (r, counted_hit x bs n) at (slot_counts j (write x bs) l) in
      v ∙ sym (next_value j bs l n e)

-- ---- a locked counter segment stays one

put-none : (u : List ℕ) → put 0 [] u ≡ u
unfolding put
put-none [] = refl
put-none (x ∷ u) = refl

pub locked_stays : (E : Cipher) (s : State) (k : ℕ) (c : Command) → sound s.tag ≡ true → LockedCounter s.tag k
    → LockedCounter (after E s c).tag k
locked_stays E s k c w lc =
    let e = same_unit (locked_unit E s k c w lc.counter.there lc.locked).moves in
    record {
      counter =
          record {
            there = rw (sound_stays E s c w).same_segments lc.counter.there;
            formed = rw e lc.counter.formed;
            counts = rw e lc.counter.counts;
          };
      locked = rw e lc.locked;
    }
  where
    same_unit : (unit_bytes (after E s c).tag k ≡ unit_bytes s.tag k)
        ⊎ (OwnMover s k c × (refusal E s c ≡ None)
        × (unit_bytes (after E s c).tag k
        ≡ put 0 (own_move (unit_of (unit_bytes s.tag k)).model (unit_bytes s.tag k)) (unit_bytes s.tag k)))
        → unit_bytes (after E s c).tag k ≡ unit_bytes s.tag k
    same_unit (inl e) = e
    same_unit (inr e) =
        e.2 ∙ ap (λ m. put 0 (own_move m (unit_bytes s.tag k)) (unit_bytes s.tag k)) lc.counter.counts
        ∙ (unfold own_move in put-none (unit_bytes s.tag k))
