-- Demand 3, third part: two neighbours change places.
use Rattle.std.specs.Prelude.{None, Option, Some}
use Prim.Native.Nat.{ℕ, ◌+◌, ◌≤◌, ◌<◌}
use mathlib.Core.Path.{◌≡◌, refl, sym, ap, subst, ◌∙◌}
use mathlib.Core.Logic.{◌≢◌}
use mathlib.Core.Bool.{true}
use mathlib.Core.List.{List, [], ◌∷◌, ◌++◌}
use native.Mathlib.Omega.{arith}
use lib.ListN.{length}
use borrow.Author.Tests.{eqb-false}
use Rattle.rules.specs.declared.Session.{Session}
use Rattle.rules.specs.declared.Model.TheVariants.{WriteOnce, Counter}
use Rattle.rules.specs.declared.Place.{Place}
use Rattle.rules.specs.declared.Place.TheVariants.{Segment, UnitOf, Public}
use Rattle.rules.specs.Bytes.{put, part, Apart}
use Rattle.rules.specs.Map.{sound, segments, publics, place_of, unit_at, segment_at, readers_at}
use Rattle.rules.specs.Units.{unit_bytes, unit_of}
use Rattle.rules.specs.Hosts.{hosts, readers}
use Rattle.rules.specs.State.{Cipher, State}
use Rattle.rules.specs.Refusals.{read_checks, write_checks, lowest}
use Rattle.rules.specs.Effects.{Store, ◌↤◌, apply, write_stores}
use Rattle.rules.specs.Command.{read, write, refusal, Command, checks, in_place, stores, stores_in, grant, reply, reply_by, after, advance, insert, power_up, Reply}
use Rattle.rules.specs.Run.{replies, final}
use Rattle.rules.specs.Demand3.{Inside, MayChangePlaces, two_segments, two_slots, slot, SameEitherWay}
use Rattle.rules.specs.Claims.{Holds, NoInsertion}
use Rattle.rules.proofs.Tests.{lowest_under}
use Rattle.rules.proofs.StoreLaws.{Off, Each, apply-put, apply-part, each_map}
use Rattle.rules.proofs.MapLaws.{sound-facts, sound_long}
use Rattle.rules.proofs.Places.{Numbered, place_found, controlled, open_to_all, sort, placed, places_apart, unit_holds, other_sort, numbered, segment_holds}
use Rattle.rules.proofs.Grants.{made_by, granted_write, after_tag}
use Rattle.rules.proofs.Lawful.{sound_stays, stores_off, Lawful, LawfulAt, to_counter, to_flag, to_pin, to_bytes, to_unit, to_list, to_host}
use Rattle.rules.proofs.Segments.{Ranged, a_read, a_write, made_lawful, after_is}

-- ---- two lists of stores that touch nothing in common

abbrev OffStores : List Store → Store → Type 0
OffStores ss (x ↤ ys) = Each (Off x (length ys)) ss

apply_comm : (rs ss : List Store) (t : List ℕ) → Each (OffStores rs) ss → apply rs (apply ss t) ≡ apply ss (apply rs t)
unfolding apply
apply_comm rs [] t h = refl
apply_comm rs ((x ↤ ys) ∷ ss) t h = apply_comm rs ss (put x ys t) h.1 ∙ ap (apply ss) (apply-put x ys rs t h.0)

-- ---- what a command on the n bytes at a in the place p looks at is the same on the tags t and u

record Looks (t u : List ℕ) (p : Place) (a n : ℕ) : Type 0 where
  whole : sound t ≡ true
  still_whole : sound u ≡ true
  same_segments : segments u ≡ segments t
  same_publics : publics u ≡ publics t
  same_part : part a n u ≡ part a n t
  same_readers : part readers_at 4096 u ≡ part readers_at 4096 t
  same_unit : (k : ℕ) → p ≡ Segment k → unit_bytes u k ≡ unit_bytes t k

module _ (E : Cipher) (v : Session) (t u : List ℕ) (k a n : ℕ) (p : Place) (num : Numbered (segments t) (publics t) k p)
    (h : Holds t p a n) (l : Looks t u p a n) where
  abbrev one : State
  one = record { tag = t; session = v }

  abbrev two : State
  two = record { tag = u; session = v }

  found : 1 ≤ n → (place_of t a n ≡ Some p) × (place_of u a n ≡ Some p)
  unfolding place_of
  found b =
      let f = place_found t p a n (sound-facts t l.whole).most_segments b h in
      (f, rw (l.same_segments, l.same_publics) f)

  same_hosts : hosts u ≡ hosts t
  unfolding hosts readers
  same_hosts = rw l.same_readers

  read_same : (q : Place) → q ≡ p → Numbered (segments t) (publics t) k q → read_checks two q a n ≡ read_checks one q a n
  unfolding read_checks
  read_same q e (controlled g) = rw (l.same_unit k (sym e), l.same_segments, same_hosts)
  read_same q e (open_to_all m f g) = refl

  write_same : (q : Place) → q ≡ p → Numbered (segments t) (publics t) k q → (bs : List ℕ) → length bs ≡ n
      → (write_checks E two q a bs ≡ write_checks E one q a bs) × (write_stores E two q a bs ≡ write_stores E one q a bs)
  unfolding write_checks write_stores
  write_same q e (controlled g) bs m = (
    rw (m, l.same_unit k (sym e), l.same_part, l.same_segments),
    rw (m, l.same_unit k (sym e), l.same_part),
  )
  write_same q e (open_to_all i f g) bs m = (refl, refl)

  refusal_same : (c : Command) → Ranged a n c → refusal E two c ≡ refusal E one c
  unfolding refusal checks in_place
  refusal_same c (a_read room) =
      rw (l.whole, l.still_whole)
      (lowest_under _ _ _ _ (λ w. lowest_under _ _ _ _ (λ z. lowest_under _ _ _ _ (λ m. lowest_under _ _ _ _ (λ o.
      let f = found (let b : n ≢ 0 = eqb-false _ _ z in omega arith) in
      rw (f.0, f.1) (ap lowest (read_same p refl num)))))))
  refusal_same c (a_write bs e) =
      rw (l.whole, l.still_whole)
      (lowest_under _ _ _ _ (λ w. lowest_under _ _ _ _ (λ z. lowest_under _ _ _ _ (λ m.
      let f = found (let b : length bs ≢ 0 = eqb-false _ _ z in omega arith) in
      rw (e, f.0, f.1) (ap lowest (write_same p refl num bs e).0)))))

  made_by_lem : (c : Command) (o : Option ℕ) → refusal E one c ≡ o → Ranged a n c → made_by o E two c ≡ made_by o E one c
  unfolding made_by stores stores_in
  made_by_lem c (Some m) e r = refl
  made_by_lem c None e (a_read room) = refl
  made_by_lem c None e (a_write bs q) =
      let f = found (rw q at (granted_write E one a bs e).long) in
      rw (q, f.0, f.1) (write_same p refl num bs q).1

  made_same : (c : Command) → Ranged a n c → made_by (refusal E two c) E two c ≡ made_by (refusal E one c) E one c
  made_same c r = rw (refusal_same c r) (made_by_lem c (refusal E one c) refl r)

  reply-by : (o : Option ℕ) (c : Command) → Ranged a n c → reply_by o two c ≡ reply_by o one c
  unfolding reply_by grant
  reply-by (Some m) c r = refl
  reply-by None c (a_read room) = rw l.same_part
  reply-by None c (a_write bs q) = refl

  reply_same : (c : Command) → Ranged a n c → reply E two c ≡ reply E one c
  unfolding reply
  reply_same c r = rw (refusal_same c r) (reply-by (refusal E one c) c r)

-- ---- two commands in segments, on the n bytes at a and on the m bytes at x

record Inner (t : List ℕ) (k a n : ℕ) (p : Place) (c : Command) : Type 0 where
  number_is : Numbered (segments t) (publics t) k p
  held : Holds t p a n
  ranged : Ranged a n c

-- no store of the first touches what the second looks at
record Separate (t : List ℕ) (p : Place) (a n : ℕ) (q : Place) (x m : ℕ) : Type 0 where
  range : Apart a n x m
  unit_range : (k : ℕ) → p ≡ Segment k → Apart (unit_at k) 1 x m
  range_unit : (l : ℕ) → q ≡ Segment l → Apart a n (unit_at l) 32
  units : (k l : ℕ) → p ≡ Segment k → q ≡ Segment l → (unit_of (unit_bytes t k)).model ≡ WriteOnce
      → Apart (unit_at k) 1 (unit_at l) 32

sort_above : (A P k : ℕ) (p : Place) → Numbered A P k p → 5 ≤ sort p
sort_above A P k p (controlled h) = omega arith
sort_above A P k p (open_to_all l e h) = omega arith

-- a read or write is no insertion
no_insertion : {a n : ℕ} (c : Command) → Ranged a n c → NoInsertion c
no_insertion c (a_read room) = tt
no_insertion c (a_write bs e) = tt

-- so the second looks at the same after the first
separate-looks : (E : Cipher) (s : State) (k a n : ℕ) (p : Place) (c : Command) (q : Place) (x m : ℕ)
    → sound s.tag ≡ true
    → Inner s.tag k a n p c → unit_at 0 ≤ x → Separate s.tag p a n q x m → Looks s.tag (after E s c).tag q x m
unfolding unit_bytes
separate-looks E s k a n p c q x m w i b z =
    let g = sound_stays E s c w in
    let ss = made_by (refusal E s c) E s c in
    let f = made_lawful E s k a n p w i.number_is i.held c i.ranged in
    let e = after_tag E s c (refusal E s c) refl in
    let o = sort_above _ _ k p i.number_is in
    record {
      whole = w;
      still_whole = g.stays_sound;
      same_segments = g.same_segments;
      same_publics = g.same_publics;
      same_part =
          ap (part x m) e ∙ apply-part x m ss s.tag (stores_off s.tag p a n ss x m f b z.range (λ j r y. z.unit_range j r) (λ q. absurd (omega (arith, o, q))));
      same_readers = g.readers_stay (λ q. no_insertion c i.ranged);
      same_unit = λ l r.
          ap (part (unit_at l) 32) e
          ∙ apply-part (unit_at l) 32 ss s.tag
          (stores_off s.tag p a n ss (unit_at l) 32 f (omega arith) (z.range_unit l r) (λ j r' y. z.units j l r' r y) (λ q. absurd (omega (arith, o, q))));
    }

-- and their stores touch nothing in common
stores_apart : (t : List ℕ) (a n x m : ℕ) (p q : Place) (rs ss : List Store) → Each (Lawful t p a n) rs
    → Each (Lawful t q x m) ss
    → 5 ≤ sort p → 5 ≤ sort q → unit_at 0 ≤ x → Separate t p a n q x m → Each (OffStores rs) ss
stores_apart t a n x m p q rs ss f g s o b z = each_map (Lawful t q x m) (OffStores rs) ss at_each g
  where
    no_list : {A : Type 0} → sort p ≡ 4 → A
    no_list e = absurd (omega arith)

    at_each : (y : ℕ) (ys : List ℕ) → LawfulAt t q x m y ys → Each (Off y (length ys)) rs
    at_each y ys (to_counter h e d) = absurd (omega arith)
    at_each y ys (to_flag h v i e d) = absurd (omega arith)
    at_each y ys (to_pin h i u v e d) = absurd (omega arith)
    at_each y ys (to_bytes h e d) =
        rw (e, d) (stores_off t p a n rs x m f b z.range (λ j r o. z.unit_range j r) no_list)
    at_each y ys (to_list h b e) = absurd (omega arith)
    at_each y ys (to_host h b j g e d) = absurd (omega arith)
    at_each y ys (to_unit j r u e d) =
        rw (e, d) (stores_off t p a n rs (unit_at j) 1 f (omega arith) (λ i b c d e. z.range_unit j r i b c d (omega arith))
        (λ h r' o i b c d e. z.units h j r' r o i b c d (omega arith)) no_list)

-- the second command after the first: its answer and its stores are those that it has without the first
module _ (E : Cipher) (s : State) (k a n l x m : ℕ) (p q : Place) (c d : Command) (w : sound s.tag ≡ true)
    (i : Inner s.tag k a n p c) (j : Inner s.tag l x m q d) (b : unit_at 0 ≤ x) (z : Separate s.tag p a n q x m) where
  abbrev next : State
  next = record { tag = apply (made_by (refusal E s c) E s c) s.tag; session = s.session }

  next_is : after E s c ≡ next
  next_is = after_is E s k a n p w i.number_is i.held c i.ranged

  looks : Looks s.tag next.tag q x m
  looks =
      subst (λ t. Looks s.tag t q x m) (after_tag E s c (refusal E s c) refl) (separate-looks E s k a n p c q x m w i b z)

  answers_alike : reply E (after E s c) d ≡ reply E s d
  answers_alike =
      ap (λ r. reply E r d) next_is
      ∙ reply_same E s.session s.tag next.tag l x m q j.number_is j.held looks d j.ranged

  ends_in : after E (after E s c) d
      ≡ record { tag = apply (made_by (refusal E s d) E s d) next.tag; session = s.session }
  ends_in =
      ap (λ r. after E r d) next_is
      ∙ after_is E next l x m q looks.still_whole
      (rw (looks.same_segments, looks.same_publics) j.number_is)
      (rw (looks.same_segments, looks.same_publics) j.held) d j.ranged
      ∙ ap (λ ss. record { tag = apply ss next.tag; session = s.session })
      (made_same E s.session s.tag next.tag l x m q j.number_is j.held looks d j.ranged)

-- ---- two commands that may change places

record Exchanged (E : Cipher) (s : State) (c d : Command) : Type 0 where
  second : reply E (after E s c) d ≡ reply E s d
  first : reply E (after E s d) c ≡ reply E s c
  same_end : after E (after E s c) d ≡ after E (after E s d) c

inner_above : (t : List ℕ) (k a n : ℕ) (p : Place) → sound t ≡ true → Numbered (segments t) (publics t) k p
    → Holds t p a n → unit_at 0 ≤ a
inner_above t k a n p w (controlled h) g = let x = placed t p a n w g in let y = (sound_long t w).0 in omega arith
inner_above t k a n p w (open_to_all l e h) g = let x = placed t p a n w g in let y = (sound_long t w).0 in omega arith

exchanged : (E : Cipher) (s : State) (c d : Command) (k a n l x m : ℕ) (p q : Place) → sound s.tag ≡ true
    → Inner s.tag k a n p c → Inner s.tag l x m q d → Separate s.tag p a n q x m
    → Separate s.tag q x m p a n
    → Exchanged E s c d
exchanged E s c d k a n l x m p q w i j z z' =
    let above-c = inner_above s.tag k a n p w i.number_is i.held in
    let above-d = inner_above s.tag l x m q w j.number_is j.held in
    let off = stores_apart s.tag a n x m p q (made_by (refusal E s c) E s c) (made_by (refusal E s d) E s d)
    (made_lawful E s k a n p w i.number_is i.held c i.ranged)
    (made_lawful E s l x m q w j.number_is j.held d j.ranged) (sort_above _ _ k p i.number_is)
    (sort_above _ _ l q j.number_is) above-d z in
    record {
      second = answers_alike E s k a n l x m p q c d w i j above-d z;
      first = answers_alike E s l x m k a n q p d c w j i above-c z';
      same_end =
          ends_in E s k a n l x m p q c d w i j above-d z
          ∙ ap (λ t. record { tag = t; session = s.session }) (sym (apply_comm _ _ s.tag off))
          ∙ sym (ends_in E s l x m k a n q p d c w j i above-c z');
    }

-- ---- when they are separate: the ranges are, and no unit is both moved by one and looked at by the other

-- a segment's bytes and a unit share none
unit_apart : (t : List ℕ) (k i a n : ℕ) (p : Place) → sound t ≡ true → Numbered (segments t) (publics t) k p
    → Holds t p a n
    → i < segments t → Apart a n (unit_at i) 32
unit_apart t k i a n p w (controlled h) g b =
    places_apart t p (UnitOf i) a n (unit_at i) 32 w g (unit_holds t i b) (other_sort p (UnitOf i) (omega arith))
unit_apart t k i a n p w (open_to_all l e h) g b =
    places_apart t p (UnitOf i) a n (unit_at i) 32 w g (unit_holds t i b) (other_sort p (UnitOf i) (omega arith))

-- the number of a place that is a segment
number_of : (A P k i : ℕ) (p : Place) → Numbered A P k p → p ≡ Segment i → (i ≡ k) × (i < A)
number_of A P k i p (controlled h) e = let q : i ≡ k = cc in (q, omega arith)
number_of A P k i p (open_to_all l f h) e = absurd (other_sort (Public l) (Segment i) (omega arith) e)

separate : (t : List ℕ) (k a n l x m : ℕ) (p q : Place) (c d : Command) → sound t ≡ true → Inner t k a n p c
    → Inner t l x m q d
    → Apart a n x m → ((unit_of (unit_bytes t k)).model ≡ WriteOnce → k ≢ l) → Separate t p a n q x m
separate t k a n l x m p q c d w i j range other =
    record {
      range = range;
      unit_range = λ h e o b f g u.
          unit_apart t l h x m q w j.number_is j.held (number_of _ _ k h p i.number_is e).1 o g u b (omega arith);
      range_unit = λ h e. unit_apart t k h a n p w i.number_is i.held (number_of _ _ l h q j.number_is e).1;
      units = λ h g e f o.
          let y = (number_of _ _ k h p i.number_is e).0 in
          let z = (number_of _ _ l g q j.number_is f).0 in
          let v : k ≢ l = other (rw y at o) in
          omega arith;
    }

inner : (t : List ℕ) (k a n : ℕ) (c : Command) → k < segments t + publics t → segment_at (segments t) k ≤ a
    → a + n ≤ segment_at (segments t) k + 4096 → Ranged a n c → (p : Place) × Inner t k a n p c
inner t k a n c h b e r =
    let x = numbered (segments t) (publics t) k h in
    (x.0, record { number_is = x.1; held = segment_holds t k a n x.0 x.1 b e; ranged = r })

both : (E : Cipher) (s : State) (c d : Command) (k a n l x m : ℕ) → sound s.tag ≡ true
    → k < segments s.tag + publics s.tag → segment_at (segments s.tag) k ≤ a
    → a + n ≤ segment_at (segments s.tag) k + 4096
    → Ranged a n c
    → l < segments s.tag + publics s.tag → segment_at (segments s.tag) l ≤ x
    → x + m ≤ segment_at (segments s.tag) l + 4096
    → Ranged x m d
    → Apart a n x m → (k ≡ l → (unit_of (unit_bytes s.tag k)).model ≢ WriteOnce) → Exchanged E s c d
both E s c d k a n l x m w hk bk ek rc hl bl el rd range other =
    let i = inner s.tag k a n c hk bk ek rc in
    let j = inner s.tag l x m d hl bl el rd in
    exchanged E s c d k a n l x m i.0 j.0 w i.1 j.1
    (separate s.tag k a n l x m i.0 j.0 c d w i.1 j.1 range (λ o e. other e o))
    (separate s.tag l x m k a n j.0 i.0 d c w j.1 i.1 (λ h b e f g. range h f g b e)
    (λ o e. other (sym e) (rw e at o)))

-- the bytes of a command inside segment k
inside_range : (t : List ℕ) (k : ℕ) (c : Command) → Inside t k c
    → (a : ℕ) × (n : ℕ) × Ranged a n c × (segment_at (segments t) k ≤ a) × (a + n ≤ segment_at (segments t) k + 4096)
    × (k < segments t + publics t)
inside_range t k (read a n room) h = (a, n, a_read room, h.1, h.2, h.0)
inside_range t k (write a bs) h = (a, length bs, a_write bs refl, h.1, h.2, h.0)
inside_range t k (advance n) h = absurd h
inside_range t k (insert n id) h = absurd h
inside_range t k power_up h = absurd h

exchange : (E : Cipher) (s : State) (c d : Command) → sound s.tag ≡ true → MayChangePlaces s.tag c d
    → Exchanged E s c d
exchange E s c d w (two_segments k l q hc hd) =
    let x = inside_range s.tag k c hc in
    let y = inside_range s.tag l d hd in
    both E s c d k x.0 x.1 l y.0 y.1 w x.5 x.3 x.4 x.2 y.5 y.3 y.4 y.2
    (segments_apart x.0 x.1 y.0 y.1 x.3 x.4 y.3 y.4) (λ e. absurd (q e))
  where
    segments_apart : (a n x m : ℕ) → segment_at (segments s.tag) k ≤ a
        → a + n ≤ segment_at (segments s.tag) k + 4096
        → segment_at (segments s.tag) l ≤ x → x + m ≤ segment_at (segments s.tag) l + 4096 → Apart a n x m
    segments_apart a n x m b e f g = omega arith
exchange E s c d w (two_slots k i j bs ds h q b b' n n') =
    let g = h.there in
    both E s _ _ k (slot s.tag k i) 8 k (slot s.tag k j) 8 w (omega arith) (omega arith) (omega arith) (a_write bs n)
    (omega arith) (omega arith) (omega arith) (a_write ds n') (omega arith) (λ e o. not_once (sym h.counts ∙ o))
  where
    not_once : Counter ≡ WriteOnce → ⊥
    not_once e = let z : ◌≡◌ {A = ℕ} 0 1 = cc in absurd (omega arith)

-- ---- in a list

replies-append : (E : Cipher) (s : State) (cs ds : List Command)
    → replies E s (cs ++ ds) ≡ replies E s cs ++ replies E (final E s cs) ds
unfolding replies final
replies-append E s [] ds = refl
replies-append E s (c ∷ cs) ds = ap {B = List Reply} (λ rs. reply E s c ∷ rs) (replies-append E (after E s c) cs ds)

final-append : (E : Cipher) (s : State) (cs ds : List Command) → final E s (cs ++ ds) ≡ final E (final E s cs) ds
unfolding final
final-append E s [] ds = refl
final-append E s (c ∷ cs) ds = final-append E (after E s c) cs ds

pub neighbours_hold : (E : Cipher) (s : State) (before : List Command) (c d : Command) (later : List Command)
    → sound (final E s before).tag ≡ true → MayChangePlaces (final E s before).tag c d → SameEitherWay E s before c d later
unfolding replies final
neighbours_hold E s before c d later w h =
    let m = final E s before in
    let x = exchange E m c d w h in (
      replies E (after E (after E m c) d) later,
      replies-append E s before (c ∷ d ∷ later)
          ∙ ap (λ r. replies E s before ++ reply E m c ∷ r ∷ replies E (after E (after E m c) d) later) x.second,
      replies-append E s before (d ∷ c ∷ later)
          ∙ ap (λ r. replies E s before ++ reply E m d ∷ r ∷ replies E (after E (after E m d) c) later) x.first
          ∙ ap (λ u. replies E s before ++ reply E m d ∷ reply E m c ∷ replies E u later) (sym x.same_end),
      final-append E s before (c ∷ d ∷ later) ∙ ap (λ u. final E u later) x.same_end
          ∙ sym (final-append E s before (d ∷ c ∷ later)),
    )
