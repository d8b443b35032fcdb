-- Slots and pairs: a slot anew, the two slots of a pair, and the loop over the rows. Assumes nothing.
use Prim.Native.Nat.{ℕ, zero, suc, ◌+◌, ◌-◌, ◌≤◌, ◌<◌}
use mathlib.Core.Path.{◌≡◌, sym, ap, subst, ◌∙◌}
use mathlib.Core.Logic.{◌≢◌}
use mathlib.Core.List.{List, [], ◌∷◌, ◌++◌}
use native.Mathlib.Omega.{arith}
use lib.ListN.{length, drop, get_or, replicate, length-append, length-replicate}
use Rattle.std.proofs.Math.ListN.{drop_of_length-le}
use Rattle.std.specs.Simd.{first_chunks}
use Rattle.rules.specs.Bytes.{number, part, put, xor, Apart}
use Rattle.rules.specs.Map.{segments, segment_at, readers_at}
use Rattle.rules.specs.Hosts.{Host, host_at, hosts, readers, host_slot_at, slot_id, slot_key, slot_mask}
use Rattle.rules.specs.Effects.{apply, joined_slot, pair_stores, join_stores}
use Rattle.rules.proofs.BytesLaws.{length_part, length-xor, length-put, part-put, put-append}
use Rattle.rules.proofs.HostsLaws.{short_joined, apply-append}
use Rattle.rules.proofs.HostList.{At, at_host}
use Rattle.octets.proofs.Laws.{put_whole}
use Rattle.hosts.specs.Joining.{Rows, host_of, named_by, row_paired, all_paired}
use Rattle.hosts.proofs.RowLaws.{part-part, place_at}

-- ---- slots

pub joined_long : (id masks s : List ℕ) → length s ≡ 48 → length (joined_slot id masks s) ≡ 48
unfolding joined_slot slot_id slot_key
joined_long id masks s l =
    let a = length-append (xor (part 0 16 s) id) (xor (part 16 16 s) masks ++ replicate 16 0) in
    let b = length-append (xor (part 16 16 s) masks) (replicate 16 0) in
    let c = length-xor (part 0 16 s) id in
    let d = length-xor (part 16 16 s) masks in
    let e = length_part 0 16 s in
    let f = length_part 16 16 s in
    let g = length-replicate {A = ℕ} 16 0 in
    omega (arith, a, b, c, d, e, f, g, l)

-- the three stores of a slot are the slot anew
pub joined_puts : (id masks s : List ℕ) → length s ≡ 48 → length id ≡ 16 → length masks ≡ 16
    → let one = put 0 (xor (part 0 16 s) id) s in
    put 32 (replicate 16 0) (put 16 (xor (part 16 16 one) masks) one) ≡ joined_slot id masks s
unfolding joined_slot slot_id slot_key
joined_puts id masks s l a b =
    let x = xor (part 0 16 s) id in
    let y = xor (part 16 16 s) masks in
    let z : List ℕ = replicate 16 0 in
    let lx : length x ≡ 16 = length-xor (part 0 16 s) id ∙ length_part 0 16 s ∙ omega (arith, l) in
    let ly : length y ≡ 16 = length-xor (part 16 16 s) masks ∙ length_part 16 16 s ∙ omega (arith, l) in
    let lz : length z ≡ 16 = length-replicate {A = ℕ} 16 0 in
    let same : part 16 16 (put 0 x s) ≡ part 16 16 s = part-put 16 16 0 x s (omega arith) in
    let n : 0 + length x ≡ 16 = omega arith in
    let m : 16 + length y ≡ 32 = omega arith in
    let whole : length (x ++ (y ++ z)) ≡ length s =
    let p = length-append x (y ++ z) in let q = length-append y z in omega (arith, p, q, lx, ly, lz, l) in
    rw same
    (sym (sym (put_whole (x ++ (y ++ z)) s whole) ∙ put-append 0 x (y ++ z) s ∙ ap (λ i. put i (y ++ z) (put 0 x s)) n
    ∙ put-append 16 y z (put 0 x s) ∙ ap (λ i. put i z (put 16 y (put 0 x s))) m))

pub joined_pair : (a b : ℕ) (mine other t : List ℕ) → a + 48 ≤ length t → b + 48 ≤ length t → Apart a 48 b 48
    → let m = xor (part (a + 32) 16 t) (part (b + 32) 16 t) in
    let one = put a (joined_slot other m (part a 48 t)) t in
    put b (joined_slot mine m (part b 48 one)) one ≡ apply (pair_stores a b mine other t) t
unfolding apply pair_stores slot_mask
joined_pair a b mine other t la lb d =
    let m = xor (part (a + 32) 16 t) (part (b + 32) 16 t) in
    let ea : part 32 16 (part a 48 t) ≡ part (a + 32) 16 t = part-part 32 16 a 48 t (omega arith) in
    let eb : part 32 16 (part b 48 t) ≡ part (b + 32) 16 t = part-part 32 16 b 48 t (omega arith) in
    let x = joined_slot other m (part a 48 t) in
    let short = short_joined other m (part a 48 t) in
    let same : part b 48 (put a x t) ≡ part b 48 t = part-put b 48 a x t (λ i p q u v. d i p (omega (arith, short, q)) u v) in
    rw (ea, eb, same)

-- a pair leaves what is below the segments, and the length
pair_below : (a b : ℕ) (mine other t : List ℕ) (y m : ℕ) → y + m ≤ a → y + m ≤ b
    → part y m (apply (pair_stores a b mine other t) t) ≡ part y m t
unfolding apply pair_stores
pair_below a b mine other t y m p q = part-put y m b _ _ (omega arith) ∙ part-put y m a _ t (omega arith)

pair_length : (a b : ℕ) (mine other t : List ℕ) → length (apply (pair_stores a b mine other t) t) ≡ length t
unfolding apply pair_stores
pair_length a b mine other t = length-put b _ _ ∙ length-put a _ t

-- ---- row i, which stands among the places of rows, and the slots of its pair

pub record Pair (t : List ℕ) (x k i : ℕ) (h : Host) : Type 0 where
  pub is_row : h ≡ host_at (readers t) i
  pub low : 1 ≤ h.named
  pub theirs : host_slot_at (segments t) (h.named - 1) x + 48 ≤ length t
  pub own : host_slot_at (segments t) k i + 48 ≤ length t
  pub apart : Apart (host_slot_at (segments t) (h.named - 1) x) 48 (host_slot_at (segments t) k i) 48

pub pair_of : (t : List ℕ) (x k i : ℕ) (places : List (List ℕ)) → Rows t x k × (i < x) → places ≡ first_chunks 18 85 (readers t)
    → Pair t x k i (host_of (get_or places i []))
pair_of t x k i places (r, l) e =
    let few = r.few in
    let own = r.own in
    let h = place_at (readers t) places i e (omega arith) in
    let n = ap (λ g. g.named) h in
    let low = r.low i l in
    let other = r.other i l in
    let inside = r.inside i l in
    let o : (host_of (get_or places i [])).named - 1 ≢ k = λ q. other (omega (arith, n, low)) in
    record {
      is_row = h;
      low = omega (arith, n, low);
      theirs = omega (arith, n, low, inside, few);
      own = omega (arith, own, l, few);
      apart = omega (arith, n, low, o, few, l);
    }

-- ---- the loop over the rows: the tag t after i rows of the list of t₀

host_next : (t : List ℕ) (i : ℕ) → i < length (hosts t) → drop i (hosts t) ≡ host_at (readers t) i ∷ drop (i + 1) (hosts t)
host_next t i l = next (hosts t) i _ (at_host t i l)
  where
    next : (hs : List Host) (i : ℕ) (h : Host) → At i h hs → drop i hs ≡ h ∷ drop (i + 1) hs
    next [] i h a = absurd a
    next (g ∷ gs) zero h a = ap (λ x. x ∷ gs) (sym a)
    next (g ∷ gs) (suc i) h a = let e : suc i + 1 ≡ suc (i + 1) = omega arith in rw e (next gs i h a)

pub record Joined (t₀ t : List ℕ) (x k i : ℕ) (id : List ℕ) : Type 0 where
  pub rows : Rows t x k
  pub all_rows : x ≡ length (hosts t₀)
  pub same_readers : readers t ≡ readers t₀
  pub same_segments : segments t ≡ segments t₀
  pub same_length : length t ≡ length t₀
  pub goes_on : apply (join_stores (segments t₀) k x id i (drop i (hosts t₀)) t) t ≡ all_paired t₀ x k id

-- the first pair, and those behind it
one_pair : (A k x : ℕ) (id : List ℕ) (i : ℕ) (h : Host) (hs : List Host) (t : List ℕ)
    → let u = apply (pair_stores (host_slot_at A (h.named - 1) x) (host_slot_at A k i) h.id id t) t in
    apply (join_stores A k x id i (h ∷ hs) t) t ≡ apply (join_stores A k x id (suc i) hs u) u
unfolding join_stores
one_pair A k x id i h hs t =
    apply-append (pair_stores (host_slot_at A (h.named - 1) x) (host_slot_at A k i) h.id id t) _ t

next_pair : (t₀ t : List ℕ) (x k i : ℕ) (id : List ℕ) → readers t ≡ readers t₀ → segments t ≡ segments t₀ → i < length (hosts t₀)
    → let u = apply (pair_stores (host_slot_at (segments t) ((host_at (readers t) i).named - 1) x) (host_slot_at (segments t) k i)
    (host_at (readers t) i).id id t) t in
    apply (join_stores (segments t₀) k x id (i + 1) (drop (i + 1) (hosts t₀)) u) u
    ≡ apply (join_stores (segments t₀) k x id i (drop i (hosts t₀)) t) t
next_pair t₀ t x k i id e f l =
    let m : suc i ≡ i + 1 = omega arith in
    rw (e, f, host_next t₀ i l) (sym (rw m at (one_pair (segments t₀) k x id i (host_at (readers t₀) i) (drop (i + 1) (hosts t₀)) t)))

rows_stay : (t u : List ℕ) (x k : ℕ) → readers u ≡ readers t → segments u ≡ segments t → length u ≡ length t
    → Rows t x k → Rows u x k
rows_stay t u x k e f g r =
    record {
      above = rw f r.above;
      few = r.few;
      own = rw (f, g) r.own;
      low = λ i h. subst (λ n. 1 ≤ n) (sym (ap (λ v. (host_at v i).named) e)) (r.low i h);
      other = λ i h. subst (λ n. n ≢ k + 1) (sym (ap (λ v. (host_at v i).named) e)) (r.other i h);
      inside =
          λ i h. subst (λ n. segment_at (segments u) n ≤ length u) (sym (ap (λ v. (host_at v i).named) e)) (rw (f, g) (r.inside i h));
    }

pub joined_next : (t₀ t : List ℕ) (x k i : ℕ) (id : List ℕ) → i < x → Joined t₀ t x k i id
    → Joined t₀ (row_paired t x k id i) x k (i + 1) id
joined_next t₀ t x k i id l j =
    let a = host_slot_at (segments t) (named_by t i - 1) x in
    let b = host_slot_at (segments t) k i in
    let other = (host_at (readers t) i).id in
    let u = row_paired t x k id i in
    let above = j.rows.above in
    let same : readers u ≡ readers t = (unfold readers in pair_below a b other id t readers_at 4096 (omega arith) (omega arith)) in
    let segs : segments u ≡ segments t =
    (unfold segments in ap number (pair_below a b other id t 0 2 (omega arith) (omega arith))) in
    let long = pair_length a b other id t in
    record {
      rows = rows_stay t u x k same segs long j.rows;
      all_rows = j.all_rows;
      same_readers = same ∙ j.same_readers;
      same_segments = segs ∙ j.same_segments;
      same_length = long ∙ j.same_length;
      goes_on =
          let e = j.all_rows in
          next_pair t₀ t x k i id j.same_readers j.same_segments (omega (arith, l, e)) ∙ j.goes_on;
    }

pub joined_last : (t₀ t : List ℕ) (x k i : ℕ) (id : List ℕ) → x ≤ i → Joined t₀ t x k i id → t ≡ all_paired t₀ x k id
unfolding join_stores apply
joined_last t₀ t x k i id l j =
    let e = j.all_rows in
    sym (ap (λ hs. apply (join_stores (segments t₀) k x id i hs t) t) (drop_of_length-le (hosts t₀) (omega (arith, l, e))))
    ∙ j.goes_on
