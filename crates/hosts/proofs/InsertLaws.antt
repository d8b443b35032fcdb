-- An insertion: that its rows are as the loop asks, and that pairs, row and unit are what the rules store. Assumes nothing.
use Prim.Native.Nat.{ℕ, ◌+◌, ◌-◌, ◌≤◌, ◌<◌}
use mathlib.Core.Path.{◌≡◌, refl, sym, ap, ap₂, ◌∙◌}
use mathlib.Core.Bool.{true}
use mathlib.Core.List.{List, [], ◌∷◌}
use native.Mathlib.Omega.{arith}
use lib.ListN.{length}
use borrow.Rule.Slice.PartMut.{mid_of, put_mid}
use Rattle.rules.specs.Bytes.{part, put}
use Rattle.rules.specs.Map.{readers_at, segments, sound, unit_at}
use Rattle.rules.specs.Units.{unit_bytes}
use Rattle.rules.specs.Hosts.{row_at, host_at, hosts, readers}
use Rattle.rules.specs.Effects.{apply, inserted, insert_stores, row_store}
use Rattle.rules.proofs.BytesLaws.{length-put, part-put}
use Rattle.rules.proofs.MapLaws.{sound_long, sizes}
use Rattle.rules.proofs.StoreLaws.{apply-part}
use Rattle.rules.proofs.HostsLaws.{Inserting, inserting, apply-append}
use Rattle.rules.proofs.Lawful.{pairs_of, pairs_off, row_end}
use Rattle.rules.proofs.HostList.{each_at, at_host}
use Rattle.rules.proofs.SlotPairs.{Beside}
use Rattle.rules.proofs.SharedKeys.{all-beside, own_end}
use Rattle.octets.proofs.Laws.{put_back, put-part, part_lent, length_lent}
use Rattle.hosts.specs.Joining.{Insertable, Rows, all_paired}

-- what the code asks of the sizes
pub record Sized (t : List ℕ) (k : ℕ) (id : List ℕ) : Type 0 where
  pub long : unit_at 0 ≤ length t
  pub inside : unit_at k + 32 ≤ length t
  pub small : k < 65536
  pub few : length (hosts t) < 85

module _ (t : List ℕ) (k : ℕ) (id : List ℕ) (insertable : Insertable t k id) where
  w : sound t ≡ true
  w = insertable.is_sound

  f : Inserting t k id
  f = inserting t k id insertable.there insertable.formed insertable.filling insertable.free

  pub insert_sizes : Sized t k id
  insert_sizes =
      let g = sound_long t w in
      let h = f.there in
      let z = sizes t w in
      record {
        long = omega (arith, z.smallest);
        inside = omega (arith, g.0, g.1, h);
        small = omega (arith, g.0, g.1, h, z.largest);
        few = f.few;
      }

  pub rows_of : (x : ℕ) → x ≡ length (hosts t) → Rows t x k
  rows_of x q =
      let g = sound_long t w in
      let few = f.few in
      record {
        above = omega (arith, g.0);
        few = omega (arith, few, q);
        own = own_end t k id w f;
        low = λ i l. (row i (omega (arith, l, q))).low;
        other = λ i l. (row i (omega (arith, l, q))).other;
        inside = λ i l. let b = row i (omega (arith, l, q)) in let y = b.low in let z = b.inside in omega (arith, y, z);
      }
    where
      row : (i : ℕ) → i < length (hosts t) → Beside (segments t) k (length t) (host_at (readers t) i)
      row i l = each_at _ (hosts t) i (host_at (readers t) i) (all-beside t k id w f) (at_host t i l)

  -- neither the pairs nor the row touch its unit
  unit_stays : (t₂ : List ℕ)
      → t₂ ≡ apply (row_store (length (hosts t)) k id ∷ []) (apply (pairs_of t k id) t)
      → part (unit_at k) 32 t₂ ≡ unit_bytes t k
  unfolding unit_bytes row_store apply
  unit_stays t₂ e =
      let g = (sound_long t w).0 in
      let h = f.there in
      let z = row_end t k id f in
      ap (part (unit_at k) 32) e
      ∙ part-put (unit_at k) 32 (readers_at + row_at (length (hosts t))) _ (apply (pairs_of t k id) t) (omega arith)
      ∙ apply-part (unit_at k) 32 (pairs_of t k id) t (pairs_off t k id (unit_at k) 32 w f (omega arith) (λ l o. omega arith))

  -- the tag after the pairs, and after the row; the unit is as it was
  inserted_at : (x : ℕ) (t₁ t₂ ys : List ℕ) → x ≡ length (hosts t)
      → t₁ ≡ all_paired t x k id → t₂ ≡ apply (row_store x k id ∷ []) t₁ → length t₂ ≡ length t
      → ys ≡ put 0 (inserted (mid_of (unit_at k) (unit_at k + 32 - unit_at k) t₂)) (mid_of (unit_at k) (unit_at k + 32 - unit_at k) t₂)
      → put_mid (unit_at k) (unit_at k + 32 - unit_at k) t₂ ys ≡ apply (insert_stores t k id) t
  unfolding insert_stores row_store apply
  inserted_at x t₁ t₂ ys q e₁ e₂ l e₃ =
      let a = unit_at k in
      let u = unit_bytes t k in
      let first : t₁ ≡ apply (pairs_of t k id) t = rw q at e₁ in
      let second : t₂ ≡ apply (row_store (length (hosts t)) k id ∷ []) (apply (pairs_of t k id) t) =
      e₂ ∙ ap₂ (λ n v. apply (row_store n k id ∷ []) v) q first in
      let inside : a + 32 ≤ length t₂ = omega (arith, insert_sizes.inside, l) in
      let same : part a 32 t₂ ≡ u = unit_stays t₂ second in
      let ms = inserted u in
      let two : length ms ≡ 2 = unfold inserted in refl in
      let back = put_back a 32 t₂ ys (put 0 ms (part a 32 t₂))
      (e₃ ∙ ap (λ v. put 0 (inserted v) v) (part_lent a 32 t₂) ∙ ap (λ v. put 0 (inserted v) (part a 32 t₂)) same)
      (length-put 0 ms (part a 32 t₂) ∙ length_lent a 32 t₂ inside) inside in
      back ∙ put-part a 32 ms t₂ (omega (arith, two)) ∙ ap (put a ms) second ∙ sym (apply-append (pairs_of t k id) _ t)

  -- the unit stands at `a`
  pub inserted-all : (x a : ℕ) (t₁ t₂ ys : List ℕ) → x ≡ length (hosts t)
      → t₁ ≡ all_paired t x k id → t₂ ≡ apply (row_store x k id ∷ []) t₁ → length t₂ ≡ length t → a ≡ unit_at k
      → ys ≡ put 0 (inserted (mid_of a (a + 32 - a) t₂)) (mid_of a (a + 32 - a) t₂)
      → put_mid a (a + 32 - a) t₂ ys ≡ apply (insert_stores t k id) t
  inserted-all x a t₁ t₂ ys q e₁ e₂ l d e₃ = rw d (inserted_at x t₁ t₂ ys q e₁ e₂ l (rw d at e₃))
