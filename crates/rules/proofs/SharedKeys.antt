-- A granted insertion: the pairs that it makes, its row and its unit, and what it leaves.
use Rattle.std.specs.Prelude.{None}
use Prim.Native.Nat.{ℕ, ◌+◌, ◌*◌, ◌≤◌, ◌<◌}
use mathlib.Core.Path.{◌≡◌, refl, sym, ap, subst, ◌∙◌}
use mathlib.Core.Logic.{◌≢◌}
use mathlib.Core.Bool.{true, false}
use mathlib.Core.List.{List, ◌++◌}
use native.Mathlib.Omega.{arith}
use lib.ListN.{length, length-append}
use borrow.Author.Tests.{eqb-false, not-false}
use Rattle.rules.specs.Bytes.{number, part, put, bytes_of, Apart}
use Rattle.rules.specs.Map.{most, segments, sound, segment_at, segments_at, unit_at, readers_at}
use Rattle.rules.specs.Units.{unit_bytes, unit_of}
use Rattle.rules.specs.Hosts.{hosts, host_at, most_hosts, readers, row_at}
use Rattle.rules.specs.State.{Cipher, State}
use Rattle.rules.specs.Refusals.{is_shared_key}
use Rattle.rules.specs.Effects.{apply, slot_in, row_store, inserted, insert_stores}
use Rattle.rules.specs.Command.{insert, refusal, checks, stores, new_session, after, after_by}
use Rattle.rules.specs.SharedKeys.{row, slot_for_new, slot_for_row, PairOf, Untouched, ListGrows, UnitInserted, InsertionLeaves}
use Rattle.rules.proofs.Tests.{true_false, passes}
use Rattle.rules.proofs.BytesLaws.{length-put, length_part, length-bytes_of, number_bytes_of, put-append, part-put, part_put_inside, part_put_same}
use Rattle.rules.proofs.StoreLaws.{Each, Off, apply-part}
use Rattle.rules.proofs.MapLaws.{sound-facts, sound_long}
use Rattle.rules.proofs.HostsLaws.{EachHost, none_meets, each_host, Inserting, insert_facts, apply-append, each_append}
use Rattle.rules.proofs.HostList.{each_at, at_host, each_row, longer_list, once_from}
use Rattle.rules.proofs.SlotPairs.{Beside, joins_off, pairs_made}
use Rattle.rules.proofs.HostUnits.{inserted_unit}
use Rattle.rules.proofs.Grants.{made_by, after_tag}
use Rattle.rules.proofs.Lawful.{HostOf, insert_off, pairs_of, row_end}
use Rattle.rules.proofs.Locked.{unit_inserted as unit-moved}

-- ---- a granted insertion

module _ (t : List ℕ) (k : ℕ) (id : List ℕ) (w : sound t ≡ true) (f : Inserting t k id) where
  abbrev A : ℕ
  A = segments t

  abbrev x : ℕ
  x = length (hosts t)

  abbrev u : List ℕ
  u = apply (insert_stores t k id) t

  readers_long : length (readers t) ≡ 4096
  unfolding readers
  readers_long =
      let g = sound_long t w in
      length_part readers_at 4096 t ∙ omega (arith, g.0, g.1)

  beside : (i : ℕ) → i < x → Beside A k (length t) (row t i)
  beside i l =
      let g = sound_long t w in
      let few = f.few in
      let fits = each_at _ (hosts t) i (row t i) f.rows_fit (at_host t i l) in
      let low = fits.low in
      let high = fits.high in
      record {
        low = low;
        other = eqb-false _ _ (each_at _ (hosts t) i (row t i) (none_meets _ (hosts t) f.unlisted) (at_host t i l));
        inside = omega (arith, g.1, low, high);
        long = (unfold host_at in (length_part (18 * i) 16 (readers t) ∙ omega (arith, readers_long, l, few)));
      }

  pub all-beside : EachHost (Beside A k (length t)) (hosts t)
  all-beside = each_row _ t beside

  pub own_end : segment_at A k + 4096 ≤ length t
  own_end = let g = sound_long t w in let h = f.there in omega (arith, g.1, h)

  -- the row and the unit are written below the segments
  above : (a : ℕ) → segments_at A ≤ a → slot_in a u ≡ slot_in a (apply (pairs_of t k id) t)
  unfolding insert_stores row_store apply inserted
  above a h =
      let g = (sound_long t w).0 in
      let e = row_end t k id f in
      let l = f.there in
      ap (slot_in a) (apply-append (pairs_of t k id) _ t)
      ∙ part-put a 48 (unit_at k) _ _ (omega arith)
      ∙ part-put a 48 (readers_at + row_at x) (id ++ bytes_of 2 (k + 1)) _ (omega arith)

  pub insert_paired : (i : ℕ) → i < x → PairOf t u k id i
  insert_paired i l =
      let few = f.few in
      let e : 0 + i ≡ i = omega arith in
      let made = pairs_made A k x (length t) id few own_end f.long 0 (hosts t) t refl (omega arith) all-beside
      (once_from (hosts t) f.once) i (row t i) (at_host t i l) in
      let ea = above (slot_for_new t i) (omega arith) in
      let eb = above (slot_for_row t k i) (omega arith) in
      rw (ea, eb) (rw e at made)

  -- no other byte is stored to
  pub spared : (a n : ℕ) → Untouched t k a n → Each (Off a n) (insert_stores t k id)
  unfolding insert_stores row_store inserted
  spared a n o =
      let few = f.few in
      let long : length (id ++ bytes_of 2 (k + 1)) ≡ 18 = row_long in
      each_append _ (pairs_of t k id) _
      (joins_off A k x (length t) id few own_end f.long 0 (hosts t) t a n (each_row _ t o.off_their_slots)
      (λ j y z. o.off_own_slots j (omega arith)))
      ((λ i y z. o.off_row i y (omega arith)), (o.off_unit, tt))
    where
      row_long : length (id ++ bytes_of 2 (k + 1)) ≡ 18
      row_long = let l = f.long in omega (arith, length-append id (bytes_of 2 (k + 1)), length-bytes_of 2 (k + 1), l)

  -- the reader ID segment: the new row
  readers-after : readers u ≡ put (18 * x) (id ++ bytes_of 2 (k + 1)) (readers t)
  unfolding readers insert_stores row_store apply inserted
  readers-after =
      let few = f.few in
      let g = (sound_long t w).0 in
      ap (part readers_at 4096) (apply-append (pairs_of t k id) _ t)
      ∙ part-put readers_at 4096 (unit_at k) _ _ (omega arith)
      ∙ part_put_inside readers_at 4096 (18 * x) (id ++ bytes_of 2 (k + 1)) (apply (pairs_of t k id) t)
      ∙ ap (put (18 * x) (id ++ bytes_of 2 (k + 1))) (apply-part readers_at 4096 (pairs_of t k id) t
      (joins_off A k x (length t) id few own_end f.long 0 (hosts t) t readers_at 4096
      (each_host _ _ (hosts t) (λ h b. omega arith) all-beside) (λ j y z. omega arith)))

  row_stays : (i : ℕ) → i < x → row u i ≡ row t i
  row_stays i l =
      ap (λ r. host_at r i) readers-after
      ∙ (unfold host_at in rw (
        part-put (18 * i) 16 (18 * x) (id ++ bytes_of 2 (k + 1)) (readers t) (omega arith),
        part-put (18 * i + 16) 2 (18 * x) (id ++ bytes_of 2 (k + 1)) (readers t) (omega arith),
      ))

  -- the new row, in two parts
  new_row : (part (18 * x) 16 (readers u) ≡ id) × (part (18 * x + 16) 2 (readers u) ≡ bytes_of 2 (k + 1))
  new_row =
      let few = f.few in
      let l = f.long in
      let two = length-bytes_of 2 (k + 1) in
      let r = readers t in
      let e : readers u ≡ put (18 * x + 16) (bytes_of 2 (k + 1)) (put (18 * x) id r) =
      readers-after ∙ put-append (18 * x) id (bytes_of 2 (k + 1)) r ∙ ap (λ n. put (18 * x + n) (bytes_of 2 (k + 1)) (put (18 * x) id r)) l in
      let z = length-put (18 * x) id r in (
        ap (part (18 * x) 16) e ∙ part-put (18 * x) 16 (18 * x + 16) (bytes_of 2 (k + 1)) (put (18 * x) id r) (omega arith)
            ∙ subst (λ n. part (18 * x) n (put (18 * x) id r) ≡ id) l (part_put_same (18 * x) id r (omega (arith, readers_long, few, l))),
        ap (part (18 * x + 16) 2) e
            ∙ subst (λ n. part (18 * x + 16) n (put (18 * x + 16) (bytes_of 2 (k + 1)) (put (18 * x) id r)) ≡ bytes_of 2 (k + 1)) two
            (part_put_same (18 * x + 16) (bytes_of 2 (k + 1)) (put (18 * x) id r) (omega (arith, readers_long, few, z, two))),
      )

  pub list_longer : ListGrows t u k id
  list_longer =
      let n = new_row in
      let few = f.few in
      let h = f.there in
      let m : segments t ≤ 128 = unfold most in (sound-facts t w).most_segments in
      record {
        longer = longer;
        rows_stay = row_stays;
        new_id = (unfold host_at in n.0);
        new_segment =
            (unfold host_at in (ap number n.1 ∙ number_bytes_of 2 (k + 1) (omega (arith, h, m))));
      }
    where
      before_it : (j : ℕ) → j < length (hosts t) → part (18 * j) 16 (readers u) ≡ part (18 * j) 16 (readers t)
      before_it j l =
          ap (part (18 * j) 16) readers-after
          ∙ part-put (18 * j) 16 (18 * x) (id ++ bytes_of 2 (k + 1)) (readers t) (omega arith)

      longer : length (hosts t) < length (hosts u)
      longer =
          let few = f.few in
          unfold hosts most_hosts in
          longer_list 85 0 (readers t) (readers u) (length (hosts t)) (unfold hosts most_hosts in omega arith) few
          before_it (rw new_row.0 f.nonzero)

-- ---- what an insertion leaves

module _ (E : Cipher) (s : State) (k : ℕ) (id : List ℕ) (e : refusal E s (insert k id) ≡ None) where
  abbrev facts : Inserting s.tag k id
  facts = insert_facts E s k id e

  pub insert_sound : sound s.tag ≡ true
  unfolding refusal checks
  insert_sound = not-false _ (passes _ _ _ e).0

  pub inserted_tag : (after E s (insert k id)).tag ≡ apply (insert_stores s.tag k id) s.tag
  unfolding made_by stores
  inserted_tag = after_tag E s (insert k id) None e

  elsewhere : (a n : ℕ) → Untouched s.tag k a n → part a n (after E s (insert k id)).tag ≡ part a n s.tag
  elsewhere a n o =
      ap (part a n) inserted_tag
      ∙ apply-part a n (insert_stores s.tag k id) s.tag (spared s.tag k id insert_sound facts a n o)

  -- a part above the list, apart from the unit and from all segments of model 4
  above_list : (a n : ℕ) → unit_at 0 ≤ a → Apart (unit_at k) 2 a n
      → ((l : ℕ) → HostOf s.tag l → Apart (segment_at (segments s.tag) l) 4096 a n)
      → part a n (after E s (insert k id)).tag ≡ part a n s.tag
  above_list a n b d h =
      ap (part a n) inserted_tag
      ∙ apply-part a n (insert_stores s.tag k id) s.tag (insert_off s.tag k id a n insert_sound facts b d h)

  pub insertion_leaves : InsertionLeaves E s k id
  insertion_leaves =
      let g = (sound_long s.tag insert_sound).0 in
      let t = facts.there in
      record {
        elsewhere = elsewhere;
        before_list =
            elsewhere 0 readers_at
            (record { off_row = omega arith; off_unit = omega arith; off_their_slots = λ i l. omega arith; off_own_slots = λ i l. omega arith });
        other_models = λ l b m.
            above_list (segment_at (segments s.tag) l) 4096 (omega arith) (omega arith)
            (λ i h. let o : i ≢ l = other l i m h.shares in omega arith);
        public_segments = λ l b.
            above_list (segment_at (segments s.tag) l) 4096 (omega arith) (omega arith) (λ i h. let z = h.there in omega arith);
        other_units = λ l o b. (unfold unit_bytes in
            above_list (unit_at l) 32 (omega arith) (omega arith) (λ i h. omega arith));
        same_session = (unfold after after_by new_session in rw e);
      }
    where
      other : (l i : ℕ) → is_shared_key (unit_of (unit_bytes s.tag l)).model ≡ false
          → is_shared_key (unit_of (unit_bytes s.tag i)).model ≡ true → i ≢ l
      other l i m h q = true_false (sym h ∙ ap (λ j. is_shared_key (unit_of (unit_bytes s.tag j)).model) q ∙ m)

  pub list_grows : ListGrows s.tag (after E s (insert k id)).tag k id
  list_grows = rw inserted_tag (list_longer s.tag k id insert_sound facts)

  pub unit_inserted : UnitInserted (unit_bytes s.tag k) (unit_bytes (after E s (insert k id)).tag k)
  unit_inserted =
      rw (ap (λ t. unit_bytes t k) inserted_tag ∙ unit-moved s.tag k id insert_sound facts)
      (inserted_unit (unit_bytes s.tag k) long facts.formed facts.filling)
    where
      long : length (unit_bytes s.tag k) ≡ 32
      long =
          let y = sound_long s.tag insert_sound in
          let z = facts.there in
          unfold unit_bytes in (length_part (unit_at k) 32 s.tag ∙ omega (arith, y.0, y.1, z))

  pub pairs_joined : (i : ℕ) → i < length (hosts s.tag) → PairOf s.tag (after E s (insert k id)).tag k id i
  pairs_joined i l = rw inserted_tag (insert_paired s.tag k id insert_sound facts i l)
