-- Laws of the slots that two hosts use for each other: one pair, and all pairs of an insertion.
use Prim.Native.Nat.{ℕ, zero, suc, ◌+◌, ◌-◌, ◌≤◌, ◌<◌}
use mathlib.Core.Path.{◌≡◌, refl, sym, ap, subst, ◌∙◌}
use mathlib.Core.Logic.{◌≢◌}
use mathlib.Core.List.{List, [], ◌∷◌, ◌++◌}
use native.Mathlib.Omega.{arith}
use lib.ListN.{length, replicate, length-append, length-replicate}
use Rattle.rules.specs.Bytes.{part, put, xor, Apart}
use Rattle.rules.specs.Map.{segment_at}
use Rattle.rules.specs.Hosts.{Host, host_slot_at, slot_id, slot_key, slot_mask}
use Rattle.rules.specs.Effects.{Store, ◌↤◌, apply, slot_in, joined_slot, pair_stores, join_stores}
use Rattle.rules.specs.SharedKeys.{Paired}
use Rattle.rules.proofs.BytesLaws.{front, behind, length-put, length_part, length-xor, part-put, part_put_same, xor_twice}
use Rattle.rules.proofs.StoreLaws.{Each, Off, apply-part}
use Rattle.rules.proofs.HostsLaws.{EachHost, each_host, short_joined, apply-append, each_append}
use Rattle.rules.proofs.HostList.{At, each_at, at_few, Once}

-- ---- a slot after its pair is made

abbrev pub sixteen : (xs : List ℕ) → Type 0
sixteen xs = length xs ≡ 16

slot-part : (o : ℕ) (slot : List ℕ) → o ≤ 32 → length slot ≡ 48 → length (part o 16 slot) ≡ 16
slot-part o slot h l = length_part o 16 slot ∙ omega (arith, h, l)

module _ (id masks slot : List ℕ) (l : length slot ≡ 48) where
  abbrev first : List ℕ
  first = xor (part 0 16 slot) id

  abbrev second : List ℕ
  second = xor (part 16 16 slot) masks

  first_long : length first ≡ 16
  first_long = length-xor (part 0 16 slot) id ∙ slot-part 0 slot (omega arith) l

  second_long : length second ≡ 16
  second_long = length-xor (part 16 16 slot) masks ∙ slot-part 16 slot (omega arith) l

  joined_long : length (joined_slot id masks slot) ≡ 48
  unfolding joined_slot slot_id slot_key
  joined_long =
      let a = length-append first (second ++ replicate 16 0) in
      let b = length-append second (replicate 16 0) in
      let g = length-replicate {A = ℕ} 16 0 in
      omega (arith, a, b, g, first_long, second_long)

  joined_id : slot_id (joined_slot id masks slot) ≡ xor (slot_id slot) id
  unfolding joined_slot slot_id slot_key
  joined_id = front 16 first (second ++ replicate 16 0) first_long

  joined_key : slot_key (joined_slot id masks slot) ≡ xor (slot_key slot) masks
  unfolding joined_slot slot_id slot_key
  joined_key = behind 16 16 0 first (second ++ replicate 16 0) first_long ∙ front 16 second (replicate 16 0) second_long

  joined_mask : slot_mask (joined_slot id masks slot) ≡ replicate 16 0
  unfolding joined_slot slot_id slot_key slot_mask
  joined_mask =
      behind 16 16 16 first (second ++ replicate 16 0) first_long
      ∙ behind 16 16 0 second (replicate 16 0) second_long
      ∙ (unfold part in refl)

slots_paired : (oldA oldB idA idB : List ℕ) → length oldA ≡ 48 → length oldB ≡ 48 → sixteen idA → sixteen idB
    → let m = xor (slot_mask oldA) (slot_mask oldB) in
    Paired oldA oldB (joined_slot idB m oldA) (joined_slot idA m oldB) idA idB
slots_paired oldA oldB idA idB a b p q =
    let m = xor (slot_mask oldA) (slot_mask oldB) in
    let long-m : length m ≡ 16 = masks_long in
    let ia = joined_id idB m oldA a in
    let ib = joined_id idA m oldB b in
    let ka = joined_key idB m oldA a in
    let kb = joined_key idA m oldB b in
    record {
      id_a = ia;
      id_b = ib;
      key_a = ka;
      key_b = kb;
      mask_a = joined_mask idB m oldA a;
      mask_b = joined_mask idA m oldB b;
      shared_a = ap (λ x. xor x (slot_key oldA)) ka ∙ xor_twice (slot_key oldA) m (key_long oldA a ∙ sym long-m);
      shared_b = ap (λ x. xor x (slot_key oldB)) kb ∙ xor_twice (slot_key oldB) m (key_long oldB b ∙ sym long-m);
      partner_a = ap (λ x. xor x (slot_id oldA)) ia ∙ xor_twice (slot_id oldA) idB (id_long oldA a ∙ sym q);
      partner_b = ap (λ x. xor x (slot_id oldB)) ib ∙ xor_twice (slot_id oldB) idA (id_long oldB b ∙ sym p);
    }
  where
    id_long : (slot : List ℕ) → length slot ≡ 48 → sixteen (slot_id slot)
    id_long slot l = unfold slot_id in slot-part 0 slot (omega arith) l

    key_long : (slot : List ℕ) → length slot ≡ 48 → sixteen (slot_key slot)
    key_long slot l = unfold slot_key in slot-part 16 slot (omega arith) l

    masks_long : sixteen (xor (slot_mask oldA) (slot_mask oldB))
    masks_long = length-xor (slot_mask oldA) (slot_mask oldB) ∙ (unfold slot_mask in slot-part 32 oldA (omega arith) a)

-- ---- one pair

slot_long : (a : ℕ) (t : List ℕ) → a + 48 ≤ length t → length (slot_in a t) ≡ 48
slot_long a t h = length_part a 48 t ∙ omega (arith, h)

pair_made : (a b : ℕ) (idA idB t : List ℕ) → a + 48 ≤ length t → b + 48 ≤ length t → Apart a 48 b 48 → sixteen idA
    → sixteen idB
    → let u = apply (pair_stores a b idA idB t) t in
    Paired (slot_in a t) (slot_in b t) (slot_in a u) (slot_in b u) idA idB
unfolding apply pair_stores
pair_made a b idA idB t la lb d p q =
    let m = xor (slot_mask (slot_in a t)) (slot_mask (slot_in b t)) in
    let x = joined_slot idB m (slot_in a t) in
    let y = joined_slot idA m (slot_in b t) in
    let lx : length x ≡ 48 = joined_long idB m (slot_in a t) (slot_long a t la) in
    let ly : length y ≡ 48 = joined_long idA m (slot_in b t) (slot_long b t lb) in
    let ea : slot_in a (put b y (put a x t)) ≡ x = at_a x y lx ly in
    let eb : slot_in b (put b y (put a x t)) ≡ y = at_b x y ly in
    rw (ea, eb) (slots_paired (slot_in a t) (slot_in b t) idA idB (slot_long a t la) (slot_long b t lb) p q)
  where
    at_a : (x y : List ℕ) → length x ≡ 48 → length y ≡ 48 → part a 48 (put b y (put a x t)) ≡ x
    at_a x y lx ly =
        part-put a 48 b y (put a x t) (λ i e f g h. d i g h e (omega arith))
        ∙ subst (λ n. part a n (put a x t) ≡ x) lx (part_put_same a x t (omega arith))

    at_b : (x y : List ℕ) → length y ≡ 48 → part b 48 (put b y (put a x t)) ≡ y
    at_b x y ly =
        let z = length-put a x t in
        subst (λ n. part b n (put b y (put a x t)) ≡ y) ly (part_put_same b y (put a x t) (omega arith))

pair_off : (a b : ℕ) (idA idB t : List ℕ) (y m : ℕ) → Apart a 48 y m → Apart b 48 y m
    → Each (Off y m) (pair_stores a b idA idB t)
unfolding pair_stores
pair_off a b idA idB t y m d e =
    (within a d _ (short_joined _ _ _), (within b e _ (short_joined _ _ _), tt))
  where
    within : (c : ℕ) → Apart c 48 y m → (n : ℕ) → n ≤ 48 → Apart c n y m
    within c f n h i u v = f i u (omega arith)

-- ---- all pairs

-- a row beside the segment k, on a tag of n bytes
pub record Beside (A k n : ℕ) (h : Host) : Type 0 where
  pub low : 1 ≤ h.named
  pub other : h.named ≢ k + 1
  pub inside : segment_at A (h.named - 1) + 4096 ≤ n
  pub long : sixteen h.id

length-apply : (ss : List Store) (t : List ℕ) → length (apply ss t) ≡ length t
unfolding apply
length-apply [] t = refl
length-apply ((x ↤ ys) ∷ ss) t = length-apply ss (put x ys t) ∙ length-put x ys t

module _ (A k x n : ℕ) (id : List ℕ) (lx : x < 85) (ends : segment_at A k + 4096 ≤ n) (long-id : sixteen id) where
  abbrev theirs : Host → ℕ
  theirs h = host_slot_at A (h.named - 1) x

  abbrev ours : ℕ → ℕ
  ours i = host_slot_at A k i

  -- slots of different segments, and different slots of one
  beside_apart : (h : Host) (i : ℕ) → Beside A k n h → i < 85 → Apart (theirs h) 48 (ours i) 48
  beside_apart h i b l =
      let o : h.named - 1 ≢ k = λ e. b.other (let z = b.low in omega arith) in
      omega arith

  hosts_apart : (g h : Host) → Beside A k n g → Beside A k n h → g.named ≢ h.named → Apart (theirs g) 48 (theirs h) 48
  hosts_apart g h b c d =
      let y = b.low in
      let z = c.low in
      let o : g.named - 1 ≢ h.named - 1 = λ e. d (omega arith) in
      omega arith

  apart_sym : (a b : ℕ) → Apart a 48 b 48 → Apart b 48 a 48
  apart_sym a b d i u v w z = d i w z u v

  pub joins_off : (i : ℕ) (hs : List Host) (t : List ℕ) (y m : ℕ) → EachHost (λ g. Apart (theirs g) 48 y m) hs
      → ((j : ℕ) → i ≤ j → j < i + length hs → Apart (ours j) 48 y m) → Each (Off y m) (join_stores A k x id i hs t)
  unfolding join_stores
  joins_off i [] t y m e f = tt
  joins_off i (h ∷ hs) t y m e f =
      each_append _ (pair_stores (theirs h) (ours i) h.id id t) _
      (pair_off (theirs h) (ours i) h.id id t y m e.0 (f i (omega arith) (omega arith)))
      (joins_off (suc i) hs _ y m e.1 (λ j l o. f j (omega arith) (omega arith)))

  pub pairs_made : (i : ℕ) (hs : List Host) (t : List ℕ) → length t ≡ n → i + length hs ≤ 85 → EachHost (Beside A k n) hs → Once hs
      → (j : ℕ) (h : Host) → At j h hs
      → let u = apply (join_stores A k x id i hs t) t in
      Paired (slot_in (theirs h) t) (slot_in (ours (i + j)) t) (slot_in (theirs h) u) (slot_in (ours (i + j)) u) h.id id
  unfolding join_stores
  pairs_made i [] t l m b o j h a = absurd a
  pairs_made i (g ∷ gs) t l m b o zero h a =
      let ss = pair_stores (theirs g) (ours i) g.id id t in
      let inside = b.0.inside in
      let made = pair_made (theirs g) (ours i) g.id id t (omega arith) (omega arith) (beside_apart g i b.0 (omega arith)) b.0.long long-id in
      let rest = join_stores A k x id (suc i) gs (apply ss t) in
      let e : i + 0 ≡ i = omega arith in
      let ea : slot_in (theirs g) (apply rest (apply ss t)) ≡ slot_in (theirs g) (apply ss t) =
      apply-part (theirs g) 48 rest (apply ss t)
      (joins_off (suc i) gs (apply ss t) (theirs g) 48 (others g gs b.0 b.1 o.0)
      (λ j y z. apart_sym (theirs g) (ours j) (beside_apart g j b.0 (omega arith)))) in
      let eb : slot_in (ours i) (apply rest (apply ss t)) ≡ slot_in (ours i) (apply ss t) =
      apply-part (ours i) 48 rest (apply ss t)
      (joins_off (suc i) gs (apply ss t) (ours i) 48
      (each_host (Beside A k n) _ gs (λ f c. beside_apart f i c (omega arith)) b.1)
      (λ j y z. omega arith)) in
      rw (a, e, apply-append ss rest t, ea, eb) made
    where
      others : (g : Host) (gs : List Host) → Beside A k n g → EachHost (Beside A k n) gs → EachHost (λ f. f.named ≢ g.named) gs
          → EachHost (λ f. Apart (theirs f) 48 (theirs g) 48) gs
      others g [] c d e = tt
      others g (f ∷ fs) c d e = (hosts_apart f g d.0 c e.0, others g fs c d.1 e.1)
  pairs_made i (g ∷ gs) t l m b o (suc j) h a =
      let ss = pair_stores (theirs g) (ours i) g.id id t in
      let later = pairs_made (suc i) gs (apply ss t) (length-apply ss t ∙ l) (omega arith) b.1 o.1 j h a in
      let rest = join_stores A k x id (suc i) gs (apply ss t) in
      let e : i + suc j ≡ suc i + j = omega arith in
      let c = each_at (Beside A k n) gs j h b.1 a in
      let d = each_at (λ f. f.named ≢ g.named) gs j h o.0 a in
      let few : j < length gs = at_few gs j h a in
      let ea : slot_in (theirs h) (apply ss t) ≡ slot_in (theirs h) t =
      apply-part (theirs h) 48 ss t
      (pair_off (theirs g) (ours i) g.id id t (theirs h) 48 (hosts_apart g h b.0 c (λ q. d (sym q)))
      (apart_sym (theirs h) (ours i) (beside_apart h i c (omega arith)))) in
      let eb : slot_in (ours (suc i + j)) (apply ss t) ≡ slot_in (ours (suc i + j)) t =
      apply-part (ours (suc i + j)) 48 ss t
      (pair_off (theirs g) (ours i) g.id id t (ours (suc i + j)) 48 (beside_apart g (suc i + j) b.0 (omega arith)) (omega arith)) in
      rw (e, apply-append ss rest t, ← ea, ← eb) later
