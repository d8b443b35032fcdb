-- A locked unit changes only by its model's own moves.
use Rattle.std.specs.Prelude.{None, Option, Some}
use Prim.Native.Nat.{ℕ, ◌+◌, ◌<◌}
use mathlib.Core.Path.{◌≡◌, refl, sym, ap, subst, ◌∙◌}
use mathlib.Core.Logic.{◌≢◌, ◌⊎◌, inl, inr}
use mathlib.Core.Bool.{true}
use mathlib.Core.List.{List, [], ◌∷◌, ◌++◌}
use native.Mathlib.Omega.{arith}
use native.Mathlib.Decide.{ℕ_discrete}
use lib.ListN.{length}
use Rattle.rules.specs.declared.Model.{Model}
use Rattle.rules.specs.declared.Model.TheVariants.{Default, WriteOnce, Counter, Receiver, SharedKey}
use Rattle.rules.specs.declared.Place.{Place}
use Rattle.rules.specs.declared.Place.TheVariants.{Segment, UnitOf}
use Rattle.rules.specs.Bytes.{put, part, byte, bytes_of, Apart}
use Rattle.rules.specs.Map.{unit_at, sound, segments, place_of, readers_at}
use Rattle.rules.specs.Units.{unit_of, unit_bytes}
use Rattle.rules.specs.Hosts.{hosts, row_at}
use Rattle.rules.specs.State.{Cipher, State}
use Rattle.rules.specs.Refusals.{can_advance, lowest, write_checks}
use Rattle.rules.specs.Effects.{Store, apply, ◌↤◌, write_move, read_only, advance_stores, advance_move, advanced, row_store, inserted, insert_stores, write_stores}
use Rattle.rules.specs.Command.{write, read, advance, insert, Command, refusal, stores, power_up, after}
use Rattle.rules.specs.Claims.{own_move, OwnMover, LockedUnit}
use Rattle.rules.proofs.Tests.{true_false}
use Rattle.rules.proofs.BytesLaws.{part-put, part_put_start}
use Rattle.rules.proofs.StoreLaws.{Each, Off, apply-part}
use Rattle.rules.proofs.Places.{places_apart, place_holds, unit_holds, other_sort, at_segment}
use Rattle.rules.proofs.Grants.{edit_refused, made_by, granted_write, stores_write, advance_facts, after_tag}
use Rattle.rules.proofs.MapLaws.{sound_long}
use Rattle.rules.proofs.HostsLaws.{Inserting, insert_facts, apply-append}
use Rattle.rules.proofs.Lawful.{length_stored, write_off, advance_off, insert_off, refusal_off, pairs_of, pairs_off, row_end}

-- what is to hold of the unit u before and w after; M says when the model may move
abbrev Moves : Type 0 → List ℕ → List ℕ → Type 0
Moves M u w = (w ≡ u) ⊎ (M × (w ≡ put 0 (own_move (unit_of u).model u) u))

-- stores that touch no byte of it
beside : (M : Type 0) (t : List ℕ) (k : ℕ) (ss : List Store) → Each (Off (unit_at k) 32) ss
    → Moves M (unit_bytes t k) (unit_bytes (apply ss t) k)
unfolding unit_bytes
beside M t k ss h = inl (apply-part (unit_at k) 32 ss t h)

-- a write in the segment, which stores `ys` at `a` and makes its model's move
segment_moves : (M : Type 0) → M → (t : List ℕ) (k a : ℕ) (ys : List ℕ) (m : Model) → (unit_of (unit_bytes t k)).model ≡ m
    → Apart a (length ys) (unit_at k) 32
    → Moves M (unit_bytes t k) (unit_bytes (apply ((a ↤ ys) ∷ write_move m (unit_at k) (unit_bytes t k)) t) k)
unfolding unit_bytes write_move apply own_move
segment_moves M o t k a ys Default e h = inl (part-put (unit_at k) 32 a ys t h)
segment_moves M o t k a ys WriteOnce e h =
    inr (
      o,
      rw e (part_put_start (unit_at k) 32 (read_only (byte 0 (part (unit_at k) 32 t)) ∷ []) (put a ys t)
          ∙ ap (put 0 (read_only (byte 0 (part (unit_at k) 32 t)) ∷ [])) (part-put (unit_at k) 32 a ys t h)),
    )
segment_moves M o t k a ys Counter e h = inl (part-put (unit_at k) 32 a ys t h)
segment_moves M o t k a ys (Receiver g) e h = inl (part-put (unit_at k) 32 a ys t h)
segment_moves M o t k a ys (SharedKey g) e h = inl (part-put (unit_at k) 32 a ys t h)

-- an advance of the segment
advance_moves : (M : Type 0) → M → (t : List ℕ) (k : ℕ) (m : Model) → (unit_of (unit_bytes t k)).model ≡ m → can_advance m ≡ true
    → Moves M (unit_bytes t k) (unit_bytes (apply (advance_stores t k) t) k)
unfolding unit_bytes can_advance apply advance_stores advance_move own_move
advance_moves M o t k Default e h = true_false (sym h)
advance_moves M o t k WriteOnce e h = true_false (sym h)
advance_moves M o t k Counter e h = true_false (sym h)
advance_moves M o t k (Receiver g) e h =
    inr (o, rw e (part_put_start (unit_at k) 32 (advanced g (part (unit_at k) 32 t)) t))
advance_moves M o t k (SharedKey g) e h = true_false (sym h)

-- the insertion of its host: all stores but the last are elsewhere
pub unit_inserted : (t : List ℕ) (k : ℕ) (id : List ℕ) → sound t ≡ true → Inserting t k id
    → unit_bytes (apply (insert_stores t k id) t) k ≡ put 0 (inserted (unit_bytes t k)) (unit_bytes t k)
unfolding unit_bytes insert_stores row_store apply
unit_inserted t k id w f =
    ap (part (unit_at k) 32) (apply-append (pairs_of t k id) _ t)
    ∙ part_put_start (unit_at k) 32 (inserted (part (unit_at k) 32 t)) _
    ∙ ap (put 0 (inserted (part (unit_at k) 32 t))) before
  where
    before : part (unit_at k) 32 (put (readers_at + row_at (length (hosts t))) (id ++ bytes_of 2 (k + 1)) (apply (pairs_of t k id) t))
        ≡ part (unit_at k) 32 t
    before =
        let e = row_end t k id f in
        let g = (sound_long t w).0 in
        let h = f.there in
        part-put (unit_at k) 32 (readers_at + row_at (length (hosts t))) (id ++ bytes_of 2 (k + 1)) (apply (pairs_of t k id) t) (omega arith)
        ∙ apply-part (unit_at k) 32 (pairs_of t k id) t (pairs_off t k id (unit_at k) 32 w f (omega arith) (λ l x. omega arith))

insert_moves : (M : Type 0) → M → (t : List ℕ) (k : ℕ) (id : List ℕ) → sound t ≡ true → Inserting t k id
    → Moves M (unit_bytes t k) (unit_bytes (apply (insert_stores t k id) t) k)
unfolding own_move
insert_moves M o t k id w f = inr (o, rw f.filling (unit_inserted t k id w f))

module _ (E : Cipher) (s : State) (k : ℕ) (w : sound s.tag ≡ true) (there : k < segments s.tag)
    (locked : (unit_of (unit_bytes s.tag k)).ne ≡ true) where
  -- when the model may move
  abbrev Moved : Command → Type 0
  Moved c = OwnMover s k c × (refusal E s c ≡ None)

  write_moves : (a : ℕ) (bs : List ℕ) (p : Place) → place_of s.tag a (length bs) ≡ Some p → refusal E s (write a bs) ≡ None
      → lowest (write_checks E s p a bs) ≡ None → (p ≡ Segment k) ⊎ (p ≢ Segment k)
      → Moves (Moved (write a bs)) (unit_bytes s.tag k) (unit_bytes (apply (write_stores E s p a bs) s.tag) k)
  unfolding write_stores
  write_moves a bs p f r e (inl q) =
      let off : Apart a (length bs) (unit_at k) 32 =
      places_apart s.tag p (UnitOf k) a (length bs) (unit_at k) 32 w (place_holds s.tag p a (length bs) f)
      (unit_holds s.tag k there) (λ g. other_sort (Segment k) (UnitOf k) (omega arith) (sym q ∙ g)) in
      rw q (segment_moves (Moved (write a bs)) (f ∙ ap Some q, r) s.tag k a _ _ refl (rw (length_stored _ _ bs) off))
  write_moves a bs p f r e (inr q) =
      let h = place_holds s.tag p a (length bs) f in
      beside (Moved (write a bs)) s.tag k (write_stores E s p a bs)
      (write_off E s p a bs (unit_at k) 32 w h e (omega arith)
      (places_apart s.tag p (UnitOf k) a (length bs) (unit_at k) 32 w h (unit_holds s.tag k there)
      (λ g. edit_refused E s k a bs locked (rw g at e)))
      (λ l g b. let z : l ≢ k = λ m. q (g ∙ ap Segment m) in omega arith))

  advance_by : (m : ℕ) → refusal E s (advance m) ≡ None → Dec (m ≡ k)
      → can_advance (unit_of (unit_bytes s.tag m)).model ≡ true
      → Moves (Moved (advance m)) (unit_bytes s.tag k) (unit_bytes (apply (advance_stores s.tag m) s.tag) k)
  advance_by m r (yes q) e =
      subst (λ i. Moves (Moved (advance m)) (unit_bytes s.tag k) (unit_bytes (apply (advance_stores s.tag i) s.tag) k)) (sym q)
      (advance_moves (Moved (advance m)) (q, r) s.tag k _ refl (rw q at e))
  advance_by m r (no q) e =
      beside (Moved (advance m)) s.tag k _ (advance_off s.tag m (unit_at k) 32 (omega arith) (omega arith))

  insert_by : (m : ℕ) (id : List ℕ) → refusal E s (insert m id) ≡ None → Dec (m ≡ k) → Inserting s.tag m id
      → Moves (Moved (insert m id)) (unit_bytes s.tag k) (unit_bytes (apply (insert_stores s.tag m id) s.tag) k)
  insert_by m id r (yes q) f =
      subst (λ i. Moves (Moved (insert m id)) (unit_bytes s.tag k) (unit_bytes (apply (insert_stores s.tag i id) s.tag) k)) (sym q)
      (insert_moves (Moved (insert m id)) (q, r) s.tag k id w (subst (λ i. Inserting s.tag i id) q f))
  insert_by m id r (no q) f =
      let g = (sound_long s.tag w).0 in
      beside (Moved (insert m id)) s.tag k _
      (insert_off s.tag m id (unit_at k) 32 w f (omega arith) (omega arith) (λ l h. let x = h.there in omega arith))

  made_moves : (c : Command) (r : Option ℕ) → refusal E s c ≡ r
      → Moves (Moved c) (unit_bytes s.tag k) (unit_bytes (apply (made_by r E s c) s.tag) k)
  unfolding made_by stores
  made_moves c (Some n) e = beside (Moved c) s.tag k _ (refusal_off n (unit_at k) 32 (omega arith))
  made_moves (read a n room) None e = beside (Moved (read a n room)) s.tag k [] tt
  made_moves (write a bs) None e =
      let g = granted_write E s a bs e in
      rw (stores_write E s a bs g.place g.found)
      (write_moves a bs g.place g.found e g.free (at_segment k g.place))
  made_moves (advance m) None e = advance_by m e (ℕ_discrete m k) (advance_facts E s m e).1
  made_moves (insert m id) None e = insert_by m id e (ℕ_discrete m k) (insert_facts E s m id e)
  made_moves power_up None e = beside (Moved power_up) s.tag k [] tt

pub locked_unit : (E : Cipher) (s : State) (k : ℕ) (c : Command) → sound s.tag ≡ true → k < segments s.tag
    → (unit_of (unit_bytes s.tag k)).ne ≡ true → LockedUnit E s k c
locked_unit E s k c w there locked = record { moves = by (made_moves E s k w there locked c (refusal E s c) refl) }
  where
    after_is : (after E s c).tag ≡ apply (made_by (refusal E s c) E s c) s.tag
    after_is = after_tag E s c (refusal E s c) refl

    by : Moves (Moved E s k w there locked c) (unit_bytes s.tag k) (unit_bytes (apply (made_by (refusal E s c) E s c) s.tag) k)
        → (unit_bytes (after E s c).tag k ≡ unit_bytes s.tag k)
        ⊎ (OwnMover s k c × (refusal E s c ≡ None)
        × (unit_bytes (after E s c).tag k
        ≡ put 0 (own_move (unit_of (unit_bytes s.tag k)).model (unit_bytes s.tag k)) (unit_bytes s.tag k)))
    by (inl e) = inl (ap (λ t. unit_bytes t k) after_is ∙ e)
    by (inr e) = inr (e.0.0, e.0.1, ap (λ t. unit_bytes t k) after_is ∙ e.1)
