-- Demand 3, second part: copies of granted slot writes are refused and change nothing.
use Rattle.std.specs.Prelude.{None, Option, Some}
use Prim.Native.Nat.{ℕ, ◌≤◌, ◌<◌}
use mathlib.Core.Path.{◌≡◌, refl, ap, ◌∙◌}
use mathlib.Core.Logic.{◌⊎◌, inl, inr}
use mathlib.Core.Bool.{true}
use mathlib.Core.List.Memᴰ
use mathlib.Core.List.{List, [], ◌∷◌, Memᴰ}
use native.Mathlib.Omega.{arith}
use lib.ListN.{length}
use Rattle.rules.specs.declared.Place.TheVariants.{Segment}
use Rattle.rules.specs.Bytes.{number}
use Rattle.rules.specs.Map.{sound, segments}
use Rattle.rules.specs.State.{State, Cipher}
use Rattle.rules.specs.Command.{Command, write, after, refusal, reply, reply_by, grant, done, refused, Reply, gives}
use Rattle.rules.specs.Run.{replies, final}
use Rattle.rules.specs.Demand3.{slot, LockedCounter, value_at, WritesLockedSlot, writes_slot, with_granted, Entry, CopiesOfGranted, CopiesRefused, with_copies, without_copies, own, own_replies, copy_replies, copy, none_left, one_more}
use Rattle.rules.specs.Claims.{Holds}
use Rattle.rules.proofs.Places.{segment_holds, controlled}
use Rattle.rules.proofs.Grants.{reply_is, refused_reply}
use Rattle.rules.proofs.Lawful.{sound_stays}
use Rattle.rules.proofs.Slots.{slot_counts, locked_stays, next_value, written_value}
use Rattle.rules.proofs.Refused.{refused_stays}
use Rattle.rules.proofs.Segments.{ranged_not_11, a_write}

-- c writes a value that a slot of a locked counter segment has reached already
data Spent (s : State) (c : Command) : Type 0 where
  spent : (k j : ℕ) (bs : List ℕ) → c ≡ write (slot s.tag k j) bs → LockedCounter s.tag k → j < 512
      → length bs ≡ 8
      → number bs ≤ value_at (slot s.tag k j) s.tag → Spent s c

-- it stays so
spent_stays : (E : Cipher) (s : State) (d c : Command) → sound s.tag ≡ true → Spent s c → Spent (after E s d) c
spent_stays E s d c w (spent k j bs e lc l n h) =
    let g = (sound_stays E s d w).same_segments in
    let v = slot_counts E s k w lc.counter j d l in
    spent k j bs (rw g e) (locked_stays E s k d w lc) l n (rw g (omega arith))

-- a granted write to a slot is spent
spent_made : (E : Cipher) (s : State) (k j : ℕ) (bs : List ℕ) → sound s.tag ≡ true → LockedCounter s.tag k
    → j < 512
    → length bs ≡ 8 → refusal E s (write (slot s.tag k j) bs) ≡ None
    → Spent (after E s (write (slot s.tag k j) bs)) (write (slot s.tag k j) bs)
spent_made E s k j bs w lc l n e =
    let c = write (slot s.tag k j) bs in
    let g = (sound_stays E s c w).same_segments in
    let v = written_value E s k w lc.counter j bs l n e in
    spent k j bs (rw g) (locked_stays E s k c w lc) l n (rw g (omega (arith, v)))

-- what is spent is refused, and changes nothing
spent_refused : (E : Cipher) (s : State) (c : Command) → sound s.tag ≡ true → Spent s c
    → (n : ℕ) × (reply E s c ≡ refused n) × (after E s c ≡ s)
spent_refused E s c w (spent k j bs e lc l n h) = rw e (by (refusal E s (write (slot s.tag k j) bs)) refl)
  where
    held : Holds s.tag (Segment k) (slot s.tag k j) 8
    held = segment_holds s.tag k (slot s.tag k j) 8 (Segment k) (controlled lc.counter.there) (omega arith) (omega arith)

    by : (r : Option ℕ) → refusal E s (write (slot s.tag k j) bs) ≡ r
        → (n : ℕ) × (reply E s (write (slot s.tag k j) bs) ≡ refused n) × (after E s (write (slot s.tag k j) bs) ≡ s)
    by None f = let v = next_value E s k w lc.counter j bs l n f in absurd (omega arith)
    by (Some m) f = (
      m,
      refused_reply E s (write (slot s.tag k j) bs) m f,
      refused_stays E s (write (slot s.tag k j) bs) m f
          (ranged_not_11 E s k (slot s.tag k j) 8 (Segment k) _ (controlled lc.counter.there) held (a_write bs n) m f),
    )

-- ---- over the list

-- what the induction knows of the state s that the list's own commands have left, and of those granted so far
record Reached (t : List ℕ) (s : State) (before : List Command) : Type 0 where
  whole : sound s.tag ≡ true
  same_segments : segments s.tag ≡ segments t
  still_locked : (k : ℕ) → LockedCounter t k → LockedCounter s.tag k
  all_spent : (c : Command) → Memᴰ c before → WritesLockedSlot t c → Spent s c

granted_spent : (E : Cipher) (t : List ℕ) (s : State) (before : List Command) → Reached t s before → (c : Command)
    → WritesLockedSlot t c → refusal E s c ≡ None → Spent (after E s c) c
granted_spent E t s before r c (writes_slot k j bs lc l n) e =
    rw (← r.same_segments) (spent_made E s k j bs r.whole (r.still_locked k lc) l n (rw r.same_segments e))

with_granted_lem : (E : Cipher) (t : List ℕ) (s : State) (before : List Command) → Reached t s before
    → (d : Command) (r : Option ℕ)
    → refusal E s d ≡ r → (c : Command) → Memᴰ c (with_granted (reply_by r s d) d before) → WritesLockedSlot t c
    → Spent (after E s d) c
unfolding with_granted reply_by
with_granted_lem E t s before q d (Some n) e c m h = spent_stays E s d c q.whole (q.all_spent c m h)
with_granted_lem E t s before q d None e c m h = by (grant s d) m
  where
    choose : (c ≡ d) ⊎ Memᴰ c before → Spent (after E s d) c
    choose (inl f) = rw f (granted_spent E t s before q d (rw f at h) e)
    choose (inr i) = spent_stays E s d c q.whole (q.all_spent c i h)

    by : (r : Reply) → Memᴰ c (with_granted r d before) → Spent (after E s d) c
    by done i = choose (Memᴰ.cases_cons i)
    by (gives b) i = choose (Memᴰ.cases_cons i)
    by (refused n) i = spent_stays E s d c q.whole (q.all_spent c i h)

reached-next : (E : Cipher) (t : List ℕ) (s : State) (before : List Command) (d : Command) → Reached t s before
    → Reached t (after E s d) (with_granted (reply E s d) d before)
reached-next E t s before d r =
    let g = sound_stays E s d r.whole in
    record {
      whole = g.stays_sound;
      same_segments = g.same_segments ∙ r.same_segments;
      still_locked = λ k lc. locked_stays E s k d r.whole (r.still_locked k lc);
      all_spent = rw (reply_is E s d (refusal E s d) refl) (with_granted_lem E t s before r d (refusal E s d) refl);
    }

copies_from : (E : Cipher) (t : List ℕ) (s : State) (before : List Command) (es : List Entry) → Reached t s before
    → CopiesOfGranted E t s before es → CopiesRefused E s es
unfolding with_copies without_copies own_replies copy_replies replies final
copies_from E t s before [] r h = (none_left, refl, refl)
copies_from E t s before (own c ∷ es) r h =
    let x = copies_from E t (after E s c) (with_granted (reply E s c) c before) es (reached-next E t s before c r) h in
    (x.0, ap {B = List Reply} (λ rs. reply E s c ∷ rs) x.1, x.2)
copies_from E t s before (copy c ∷ es) r h =
    let x = copies_from E t s before es r h.2 in
    let y = spent_refused E s c r.whole (r.all_spent c h.0 h.1) in (
      rw (y.1, y.2) (one_more x.0),
      ap (λ z. own_replies es (replies E z (with_copies es))) y.2 ∙ x.1,
      ap (λ z. final E z (with_copies es)) y.2 ∙ x.2,
    )

pub copies_hold : (E : Cipher) (s : State) (es : List Entry) → sound s.tag ≡ true → CopiesOfGranted E s.tag s [] es
    → CopiesRefused E s es
copies_hold E s es w h = copies_from E s.tag s [] es start h
  where
    start : Reached s.tag s []
    start =
        record {
          whole = w;
          same_segments = refl;
          still_locked = λ k lc. lc;
          all_spent = λ c m h. absurd (Memᴰ.not-nil m);
        }
