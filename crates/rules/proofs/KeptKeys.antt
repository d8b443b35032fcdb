-- The slots of a pair of hosts stay as their insertion left them, and may be read, whatever commands follow.
use Rattle.std.specs.Prelude.{None, Option, Some}
use Prim.Native.Nat.{ℕ, ◌+◌, ◌-◌, ◌*◌, ◌<◌}
use mathlib.Core.Path.{◌≡◌, refl, sym, ap, subst, ◌∙◌}
use mathlib.Core.Logic.{◌≢◌, ◌⊎◌, inl, inr}
use mathlib.Core.Bool.{Bool, true, false, ◌&&◌}
use mathlib.Core.List.{List, [], ◌∷◌}
use native.Mathlib.Omega.{arith}
use native.Mathlib.Decide.{ℕ_discrete}
use lib.ListN.{length}
use borrow.Author.Tests.{eq-eqb, not-false}
use Rattle.rules.specs.declared.KeyStage.TheVariants.{Inserted}
use Rattle.rules.specs.declared.Model.{Model}
use Rattle.rules.specs.declared.Model.TheVariants.{SharedKey}
use Rattle.rules.specs.declared.Place.{Place}
use Rattle.rules.specs.declared.Place.TheVariants.{Segment, UnitOf}
use Rattle.rules.specs.Bytes.{part, Apart}
use Rattle.rules.specs.Map.{segment_at, segments, sound, unit_at, readers_at}
use Rattle.rules.specs.Units.{unit_bytes, unit_of, well_formed}
use Rattle.rules.specs.Hosts.{Host, hosts, readers, listed, readable, host_slot_at}
use Rattle.rules.specs.State.{Cipher, State}
use Rattle.rules.specs.Refusals.{lowest, is_shared_key, hides, write_checks, segment_write_checks, edit_checks, can_advance}
use Rattle.rules.specs.Effects.{Store, slot_in, advance_stores, insert_stores, write_stores}
use Rattle.rules.specs.Command.{Command, read, write, advance, insert, power_up, refusal, stores, after}
use Rattle.rules.specs.Run.{final}
use Rattle.rules.specs.Claims.{Holds}
use Rattle.rules.specs.SharedKeys.{row, slot_for_new, slot_for_row, ListGrows, KeysShared, SlotRead, KeysRead}
use Rattle.rules.proofs.Tests.{true_false, some_none, passes}
use Rattle.rules.proofs.StoreLaws.{Each, Off, apply-part}
use Rattle.rules.proofs.MapLaws.{sound_long}
use Rattle.rules.proofs.Places.{places_apart, place_holds, unit_holds, segment_holds, controlled, at_segment}
use Rattle.rules.proofs.Grants.{made_by, granted_write, stores_write, advance_facts, after_tag}
use Rattle.rules.proofs.GrantedRead.{rights, segment_read}
use Rattle.rules.proofs.HostsLaws.{HostFits, Inserting, insert_facts}
use Rattle.rules.proofs.HostList.{each_at, at_host, any_at, few_hosts}
use Rattle.rules.proofs.HostUnits.{stages_differ, inserted_closed, inserted_open}
use Rattle.rules.proofs.Lawful.{sound_stays, write_off, advance_off, insert_off, refusal_off}
use Rattle.rules.proofs.SharedKeys.{insert_sound, all-beside, spared, list_grows, unit_inserted, pairs_joined, insertion_leaves}
use Rattle.rules.proofs.SharedReads.{slot-shown}

-- slot j of segment l belongs to a listed row, which does not name the segment; the segment belongs to row p
record Used (t : List ℕ) (l p j : ℕ) : Type 0 where
  there : l < segments t
  formed : well_formed (unit_bytes t l) ≡ true
  stage : (unit_of (unit_bytes t l)).model ≡ SharedKey Inserted
  in_list : p < length (hosts t)
  named : (row t p).named ≡ l + 1
  slot_listed : j < length (hosts t)
  not_own : (row t j).named ≢ l + 1

row_listed : (t : List ℕ) (l p j : ℕ) → Used t l p j → listed l (hosts t) ≡ true
row_listed t l p j u = any_at _ (hosts t) p (row t p) (at_host t p u.in_list) (eq-eqb _ _ u.named)

-- slots of two segments, or different slots
slots_apart : (A i l x j : ℕ) → x < 85 → j < x → Apart (host_slot_at A i x) 48 (host_slot_at A l j) 48
slots_apart A i l x j b c = by (ℕ_discrete i l)
  where
    by : Dec (i ≡ l) → Apart (host_slot_at A i x) 48 (host_slot_at A l j) 48
    by (yes e) = omega arith
    by (no e) = omega arith

-- ---- no store of a command touches the slot or the unit

module _ (E : Cipher) (s : State) (l p j : ℕ) (w : sound s.tag ≡ true) (u : Used s.tag l p j) where
  abbrev t : List ℕ
  t = s.tag

  abbrev at_slot : ℕ
  at_slot = host_slot_at (segments t) l j

  -- stores that touch neither
  abbrev Spares : List Store → Type 0
  Spares ss = Each (Off (unit_at l) 32) ss × Each (Off at_slot 48) ss

  write_closed : (a : ℕ) (bs : List ℕ) → lowest (write_checks E s (Segment l) a bs) ≡ None → ⊥
  unfolding write_checks segment_write_checks
  write_closed a bs e =
      let x = (passes _ _ _ (passes _ _ _ e).1).0 in
      true_false (sym (not-false _ x) ∙ inserted_closed (unit_bytes t l) u.formed u.stage)

  edit_closed : (a : ℕ) (bs : List ℕ) → lowest (write_checks E s (UnitOf l) a bs) ≡ None → ⊥
  unfolding write_checks edit_checks
  edit_closed a bs e =
      let x5 = passes _ _ _ e in
      let x6 = passes _ _ _ x5.1 in
      let x7 = passes _ _ _ x6.1 in
      true_false (sym (row_listed t l p j u) ∙ (passes _ _ _ x7.1).0)

  write_spares : (a : ℕ) (bs : List ℕ) (q : Place) → Holds t q a (length bs) → lowest (write_checks E s q a bs) ≡ None
      → (q ≡ Segment l) ⊎ (q ≢ Segment l) → Spares (write_stores E s q a bs)
  write_spares a bs q h e (inl d) = absurd (write_closed a bs (subst (λ r. lowest (write_checks E s r a bs) ≡ None) d e))
  write_spares a bs q h e (inr d) =
      let g = (sound_long t w).0 in
      let there = u.there in
      let n = few_hosts t in
      let m = u.slot_listed in (
        write_off E s q a bs (unit_at l) 32 w h e (omega arith)
            (places_apart t q (UnitOf l) a (length bs) (unit_at l) 32 w h (unit_holds t l there)
            (λ f. edit_closed a bs (subst (λ r. lowest (write_checks E s r a bs) ≡ None) f e)))
            (λ i f b. let z : i ≢ l = λ o. d (f ∙ ap Segment o) in omega arith),
        write_off E s q a bs at_slot 48 w h e (omega arith)
            (places_apart t q (Segment l) a (length bs) at_slot 48 w h
            (segment_holds t l at_slot 48 (Segment l) (controlled there) (omega arith) (omega arith)) d)
            (λ i f b. omega arith),
      )

  advance_spares : (m : ℕ) → can_advance (unit_of (unit_bytes t m)).model ≡ true → m < segments t → Dec (m ≡ l)
      → Spares (advance_stores t m)
  advance_spares m e h (yes q) = absurd (true_false (sym e ∙ rw (q, u.stage) (unfold can_advance in refl)))
  advance_spares m e h (no q) =
      let g = (sound_long t w).0 in
      let there = u.there in
      (advance_off t m (unit_at l) 32 (omega arith) (omega arith), advance_off t m at_slot 48 (omega arith) (omega arith))

  slot-spared : (m : ℕ) (id : List ℕ) → Inserting t m id → m ≢ l → Each (Off at_slot 48) (insert_stores t m id)
  slot-spared m id f o =
      let g = (sound_long t w).0 in
      let there = u.there in
      let here = f.there in
      let few = f.few in
      let n = u.slot_listed in
      spared t m id w f at_slot 48
      (record {
        off_row = omega arith;
        off_unit = omega arith;
        off_their_slots = λ i y. slots_apart (segments t) ((row t i).named - 1) l (length (hosts t)) j few n;
        off_own_slots = λ i y. omega arith;
      })

  insert_spares : (m : ℕ) (id : List ℕ) → Inserting t m id → Spares (insert_stores t m id)
  insert_spares m id f =
      let g = (sound_long t w).0 in
      let there = u.there in
      let o : m ≢ l = λ q. stages_differ (sym f.filling ∙ ap (λ i. (unit_of (unit_bytes t i)).model) q ∙ u.stage) in
      (insert_off t m id (unit_at l) 32 w f (omega arith) (omega arith) (λ i h. omega arith), slot-spared m id f o)

  spares : (c : Command) (r : Option ℕ) → refusal E s c ≡ r → Spares (made_by r E s c)
  unfolding made_by stores
  spares c (Some n) e =
      let g = (sound_long t w).0 in
      let there = u.there in
      (refusal_off n (unit_at l) 32 (omega arith), refusal_off n at_slot 48 (omega arith))
  spares (read a n room) None e = (tt, tt)
  spares (write a bs) None e =
      let g = granted_write E s a bs e in
      subst Spares (sym (stores_write E s a bs g.place g.found))
      (write_spares a bs g.place (place_holds t g.place a (length bs) g.found) g.free (at_segment l g.place))
  spares (advance m) None e =
      let f = advance_facts E s m e in advance_spares m f.1 f.0 (ℕ_discrete m l)
  spares (insert m id) None e = insert_spares m id (insert_facts E s m id e)
  spares power_up None e = (tt, tt)

-- ---- so both stay

same_rows : (E : Cipher) (s : State) (c : Command) (p : ℕ) → p < length (hosts s.tag)
    → part readers_at 4096 (after E s c).tag ≡ part readers_at 4096 s.tag
    → (p < length (hosts (after E s c).tag)) × (row (after E s c).tag p ≡ row s.tag p)
unfolding hosts readers
same_rows E s c p l e = (rw e l, rw e)

listed-after : (E : Cipher) (s : State) (c : Command) (r : Option ℕ) → sound s.tag ≡ true → refusal E s c ≡ r
    → (p : ℕ) → p < length (hosts s.tag)
    → (p < length (hosts (after E s c).tag)) × (row (after E s c).tag p ≡ row s.tag p)
listed-after E s (insert k id) None w e p l =
    let g = list_grows E s k id e in
    let m = g.longer in
    (omega arith, g.rows_stay p l)
listed-after E s (read a n room) None w e p l = same_rows E s (read a n room) p l ((sound_stays E s _ w).readers_stay (λ q. tt))
listed-after E s (write a bs) None w e p l = same_rows E s (write a bs) p l ((sound_stays E s _ w).readers_stay (λ q. tt))
listed-after E s (advance k) None w e p l = same_rows E s (advance k) p l ((sound_stays E s _ w).readers_stay (λ q. tt))
listed-after E s power_up None w e p l = same_rows E s power_up p l ((sound_stays E s _ w).readers_stay (λ q. tt))
listed-after E s c (Some n) w e p l =
    same_rows E s c p l ((sound_stays E s c w).readers_stay (λ q. some_none (sym e ∙ q)))

used_stays : (E : Cipher) (s : State) (c : Command) (l p j : ℕ) → sound s.tag ≡ true → Used s.tag l p j
    → Used (after E s c).tag l p j
    × (slot_in (host_slot_at (segments s.tag) l j) (after E s c).tag ≡ slot_in (host_slot_at (segments s.tag) l j) s.tag)
unfolding unit_bytes
used_stays E s c l p j w u =
    let g = sound_stays E s c w in
    let x = spares E s l p j w u c (refusal E s c) refl in
    let ss = made_by (refusal E s c) E s c in
    let e = after_tag E s c (refusal E s c) refl in
    let same : part (unit_at l) 32 (after E s c).tag ≡ part (unit_at l) 32 s.tag =
    ap (part (unit_at l) 32) e ∙ apply-part (unit_at l) 32 ss s.tag x.0 in
    let first = listed-after E s c (refusal E s c) w refl p u.in_list in
    let second = listed-after E s c (refusal E s c) w refl j u.slot_listed in (
      record {
        there = rw g.same_segments u.there;
        formed = rw same u.formed;
        stage = rw same u.stage;
        in_list = first.0;
        named = ap (λ h. h.named) first.1 ∙ u.named;
        slot_listed = second.0;
        not_own = λ q. u.not_own (sym (ap (λ h. h.named) second.1) ∙ q);
      },
      ap (slot_in (host_slot_at (segments s.tag) l j)) e
          ∙ apply-part (host_slot_at (segments s.tag) l j) 48 ss s.tag x.1,
    )

-- after any list of commands
record Kept (s f : State) (l p j a : ℕ) : Type 0 where
  is_sound : sound f.tag ≡ true
  same_segments : segments f.tag ≡ segments s.tag
  used : Used f.tag l p j
  same_slot : slot_in a f.tag ≡ slot_in a s.tag

kept : (E : Cipher) (s : State) (cs : List Command) (l p j a : ℕ) → sound s.tag ≡ true → Used s.tag l p j
    → a ≡ host_slot_at (segments s.tag) l j → Kept s (final E s cs) l p j a
unfolding final
kept E s [] l p j a w u e = record { is_sound = w; same_segments = refl; used = u; same_slot = refl }
kept E s (c ∷ cs) l p j a w u e =
    let g = sound_stays E s c w in
    let x = used_stays E s c l p j w u in
    let k = kept E (after E s c) cs l p j a g.stays_sound x.0 (e ∙ ap (λ A. host_slot_at A l j) (sym g.same_segments)) in
    record {
      is_sound = k.is_sound;
      same_segments = k.same_segments ∙ g.same_segments;
      used = k.used;
      same_slot = k.same_slot ∙ (rw e x.1);
    }

-- ---- the pairs of an insertion

module _ (E : Cipher) (s : State) (k : ℕ) (id : List ℕ) (e : refusal E s (insert k id) ≡ None) (i : ℕ)
    (l : i < length (hosts s.tag)) where
  abbrev before : List ℕ
  before = s.tag

  abbrev m : State
  m = after E s (insert k id)

  abbrev theirs : ℕ
  theirs = (row s.tag i).named - 1

  w : sound before ≡ true
  w = insert_sound E s k id e

  facts : Inserting before k id
  facts = insert_facts E s k id e

  fits : HostFits before (row before i)
  fits = each_at _ (hosts before) i (row before i) facts.rows_fit (at_host before i l)

  other : (row before i).named ≢ k + 1
  other = (each_at _ (hosts before) i (row before i) (all-beside before k id w facts) (at_host before i l)).other

  -- row i still has its id and segment, and the new row is behind it
  grown : ListGrows before m.tag k id
  grown = list_grows E s k id e

  named_still : (row m.tag i).named ≡ (row before i).named
  named_still = ap (λ h. h.named) (grown.rows_stay i l)

  their_slot : Used m.tag theirs i (length (hosts before))
  their_slot =
      let g = sound_stays E s (insert k id) w in
      let low = fits.low in
      let high = fits.high in
      let longer = grown.longer in
      let new = grown.new_segment in
      let o = other in
      let same = (insertion_leaves E s k id e).other_units theirs (λ q. o (omega arith)) (omega arith) in
      record {
        there = rw g.same_segments (omega arith);
        formed = rw same fits.formed;
        stage = rw same fits.model;
        in_list = omega arith;
        named = named_still ∙ omega arith;
        slot_listed = longer;
        not_own = λ q. o (omega arith);
      }

  own_slot : Used m.tag k (length (hosts before)) i
  own_slot =
      let g = sound_stays E s (insert k id) w in
      let longer = grown.longer in
      let unit = unit_inserted E s k id e in
      record {
        there = rw g.same_segments facts.there;
        formed = unit.formed;
        stage = unit.stage;
        in_list = longer;
        named = grown.new_segment;
        slot_listed = omega arith;
        not_own = λ q. other (sym named_still ∙ q);
      }

  their_kept : (cs : List Command) → Kept m (final E m cs) theirs i (length (hosts before)) (slot_for_new before i)
  their_kept cs =
      let g = sound_stays E s (insert k id) w in
      kept E m cs theirs i (length (hosts before)) (slot_for_new before i) g.stays_sound their_slot
      (ap (λ A. host_slot_at A theirs (length (hosts before))) (sym g.same_segments))

  own_kept : (cs : List Command) → Kept m (final E m cs) k (length (hosts before)) i (slot_for_row before k i)
  own_kept cs =
      let g = sound_stays E s (insert k id) w in
      kept E m cs k (length (hosts before)) i (slot_for_row before k i) g.stays_sound own_slot
      (ap (λ A. host_slot_at A k i) (sym g.same_segments))

pub keys_shared : (E : Cipher) (s : State) (k : ℕ) (id : List ℕ) → refusal E s (insert k id) ≡ None → KeysShared E s k id
keys_shared E s k id e cs i l =
    rw ((their_kept E s k id e i l cs).same_slot, (own_kept E s k id e i l cs).same_slot) (pairs_joined E s k id e i l)

-- ---- and they may be read

shown : (m : Model) (k o n : ℕ) (hs : List Host) → readable k o n hs ≡ true → hides m k o n hs ≡ false
unfolding hides
shown m k o n hs e = rw e (and_no (is_shared_key m))
  where
    and_no : (b : Bool) → (b && false) ≡ false
    and_no true = refl
    and_no false = refl

-- a kept slot is hidden from nobody who has the rights
slot_read : (E : Cipher) (s f : State) (l p j a : ℕ) → a ≡ host_slot_at (segments s.tag) l j → Kept s f l p j a
    → SlotRead E f l a
slot_read E s f l p j a e k m =
    let u = k.used in
    let n = few_hosts f.tag in
    let c = u.slot_listed in
    let here : a ≡ host_slot_at (segments f.tag) l j = e ∙ ap (λ A. host_slot_at A l j) (sym k.same_segments) in
    let o : 48 * j ≡ a - segment_at (segments f.tag) l = omega arith in
    let free = shown (unit_of (unit_bytes f.tag l)).model l (48 * j) 48 (hosts f.tag)
    (slot-shown f.tag l j (row_listed f.tag l p j u) c u.not_own) in
    segment_read E f l a 48 48 k.is_sound u.there (omega arith) (omega arith) (omega arith) (omega arith)
    (rights f l a 48 u.formed (inserted_open (unit_bytes f.tag l) u.formed u.stage) (rw o at free) m)

pub keys_read : (E : Cipher) (s : State) (k : ℕ) (id : List ℕ) → refusal E s (insert k id) ≡ None → KeysRead E s k id
keys_read E s k id e cs i l =
    let g = sound_stays E s (insert k id) (insert_sound E s k id e) in
    let m = after E s (insert k id) in
    let x = length (hosts s.tag) in (
      slot_read E m (final E m cs) ((row s.tag i).named - 1) i x (slot_for_new s.tag i)
          (ap (λ A. host_slot_at A ((row s.tag i).named - 1) x) (sym g.same_segments)) (their_kept E s k id e i l cs),
      slot_read E m (final E m cs) k x i (slot_for_row s.tag k i)
          (ap (λ A. host_slot_at A k i) (sym g.same_segments)) (own_kept E s k id e i l cs),
    )
