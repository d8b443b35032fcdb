-- Laws of the host list, and of what an insertion stores.
use Rattle.std.specs.Prelude.{None}
use Prim.Native.Nat.{ℕ, ◌-◌, ◌≤◌, ◌<◌}
use mathlib.Core.Path.{◌≡◌, refl, sym}
use mathlib.Core.Bool.{Bool, true, false, not}
use mathlib.Core.List.{List, [], ◌∷◌, ◌++◌}
use native.Mathlib.Omega.{arith}
use lib.ListN.{length, replicate, length-append, length-replicate}
use borrow.Author.Tests.{leb-true, ltb-true, eqb-true, not-false}
use Rattle.rules.specs.declared.KeyStage.TheVariants.{Filling, Inserted}
use Rattle.rules.specs.declared.Model.{Model}
use Rattle.rules.specs.declared.Model.TheVariants.{Default, WriteOnce, Counter, Receiver, SharedKey}
use Rattle.rules.specs.Bytes.{part, xor, zeros}
use Rattle.rules.specs.Map.{segments}
use Rattle.rules.specs.Units.{well_formed, unit_bytes, unit_of}
use Rattle.rules.specs.Hosts.{Host, hosts, most_hosts, any, listed, repeats, slot_id, slot_key}
use Rattle.rules.specs.State.{Cipher, State}
use Rattle.rules.specs.Refusals.{is_filling, is_inserted, row_fits, list_refuses, insert_checks, lowest}
use Rattle.rules.specs.Effects.{Store, ◌↤◌, apply, joined_slot}
use Rattle.rules.specs.Command.{insert, refusal, checks}
use Rattle.rules.proofs.Tests.{true_false, or_false, all_true, passes}
use Rattle.rules.proofs.BytesLaws.{length_part, length-xor}
use Rattle.rules.proofs.StoreLaws.{Each}

-- ---- a test that no row meets

abbrev pub EachHost : (Host → Type 0) → List Host → Type 0
EachHost P [] = Unit {0}
EachHost P (h ∷ hs) = P h × EachHost P hs

pub none_meets : (f : Host → Bool) (hs : List Host) → any f hs ≡ false → EachHost (λ h. f h ≡ false) hs
unfolding any
none_meets f [] e = tt
none_meets f (h ∷ hs) e = let x = or_false (f h) (any f hs) e in (x.0, none_meets f hs x.1)

pub each_host : (P Q : Host → Type 0) (hs : List Host) → ((h : Host) → P h → Q h) → EachHost P hs → EachHost Q hs
each_host P Q [] f e = tt
each_host P Q (h ∷ hs) f e = (f h e.0, each_host P Q hs f e.1)

-- ---- models

pub inserted_is : (m : Model) → is_inserted m ≡ true → m ≡ SharedKey Inserted
unfolding is_inserted
inserted_is Default e = true_false (sym e)
inserted_is WriteOnce e = true_false (sym e)
inserted_is Counter e = true_false (sym e)
inserted_is (Receiver g) e = true_false (sym e)
inserted_is (SharedKey Filling) e = true_false (sym e)
inserted_is (SharedKey Inserted) e = refl

pub filling_is : (m : Model) → is_filling m ≡ true → m ≡ SharedKey Filling
unfolding is_filling
filling_is Default e = true_false (sym e)
filling_is WriteOnce e = true_false (sym e)
filling_is Counter e = true_false (sym e)
filling_is (Receiver g) e = true_false (sym e)
filling_is (SharedKey Filling) e = refl
filling_is (SharedKey Inserted) e = true_false (sym e)

-- ---- a granted insertion

-- a row of a list that takes one
pub record HostFits (t : List ℕ) (h : Host) : Type 0 where
  pub low : 1 ≤ h.named
  pub high : h.named ≤ segments t
  pub formed : well_formed (unit_bytes t (h.named - 1)) ≡ true
  pub model : (unit_of (unit_bytes t (h.named - 1))).model ≡ SharedKey Inserted

row_facts : (t : List ℕ) (h : Host) → row_fits t h ≡ true → HostFits t h
unfolding row_fits
row_facts t h e =
    let x0 = all_true _ _ e in
    let x1 = all_true _ _ x0.1 in
    let x2 = all_true _ _ x1.1 in
    let x3 = all_true _ _ x2.1 in
    record {
      low = leb-true _ _ x0.0;
      high = leb-true _ _ x1.0;
      formed = x2.0;
      model = inserted_is _ x3.0;
    }

pub record Inserting (t : List ℕ) (k : ℕ) (id : List ℕ) : Type 0 where
  pub there : k < segments t
  pub formed : well_formed (unit_bytes t k) ≡ true
  pub filling : (unit_of (unit_bytes t k)).model ≡ SharedKey Filling
  pub long : length id ≡ 16
  pub nonzero : zeros id ≡ false
  pub unlisted : listed k (hosts t) ≡ false
  pub few : length (hosts t) < 85
  pub once : repeats (hosts t) ≡ false
  pub rows_fit : EachHost (HostFits t) (hosts t)

-- by its tests from 14 on
pub inserting : (t : List ℕ) (k : ℕ) (id : List ℕ) → k < segments t → well_formed (unit_bytes t k) ≡ true
    → is_filling (unit_of (unit_bytes t k)).model ≡ true → list_refuses t k id (hosts t) ≡ false → Inserting t k id
unfolding list_refuses most_hosts
inserting t k id h e f g =
    let l0 = all_true _ _ (not-false _ g) in
    let l1 = all_true _ _ l0.1 in
    let l2 = all_true _ _ l1.1 in
    let l3 = all_true _ _ l2.1 in
    let l4 = all_true _ _ l3.1 in
    let l5 = all_true _ _ l4.1 in
    let l6 = all_true _ _ l5.1 in
    record {
      there = h;
      formed = e;
      filling = filling_is _ f;
      long = eqb-true _ _ l0.0;
      nonzero = not_true _ l1.0;
      unlisted = not_true _ l3.0;
      few = ltb-true _ _ l4.0;
      once = not_true _ l5.0;
      rows_fit =
          each_host _ _ (hosts t) (λ h f. row_facts t h (not-false _ f)) (none_meets _ (hosts t) (not_true _ l6.0));
    }
  where
    not_true : (b : Bool) → not b ≡ true → b ≡ false
    not_true true f = true_false (sym f)
    not_true false f = refl

-- what the tests of a granted insertion say
pub insert_free : (i : ℕ) (name t : List ℕ) (k : ℕ) (id : List ℕ) → lowest (insert_checks i name t k id) ≡ None
    → (well_formed (unit_bytes t k) ≡ true) × (is_filling (unit_of (unit_bytes t k)).model ≡ true)
    × (list_refuses t k id (hosts t) ≡ false)
unfolding insert_checks
insert_free i name t k id e =
    let c5 = passes _ _ _ e in
    let c7 = passes _ _ _ c5.1 in
    let c8 = passes _ _ _ c7.1 in
    let c14 = passes _ _ _ c8.1 in
    (not-false _ c5.0, not-false _ c14.0, (passes _ _ _ c14.1).0)

pub insert_facts : (E : Cipher) (s : State) (k : ℕ) (id : List ℕ) → refusal E s (insert k id) ≡ None
    → Inserting s.tag k id
unfolding refusal checks
insert_facts E s k id e =
    let c3 = passes _ _ _ (passes _ _ _ e).1 in
    let f = insert_free _ _ s.tag k id c3.1 in
    inserting s.tag k id (ltb-true _ _ (not-false _ c3.0)) f.0 f.1 f.2

-- ---- lengths

pub short_joined : (id masks slot : List ℕ) → length (joined_slot id masks slot) ≤ 48
unfolding joined_slot slot_id slot_key
short_joined id masks slot =
    let a = length-append (xor (part 0 16 slot) id) (xor (part 16 16 slot) masks ++ replicate 16 0) in
    let b = length-append (xor (part 16 16 slot) masks) (replicate 16 0) in
    let c = length-xor (part 0 16 slot) id in
    let d = length-xor (part 16 16 slot) masks in
    let e = length_part 0 16 slot in
    let f = length_part 16 16 slot in
    let g = length-replicate {A = ℕ} 16 0 in
    omega (arith, a, b, c, d, e, f, g)

-- ---- stores, one list behind another

pub each_append : (P : Store → Type 0) (ss rs : List Store) → Each P ss → Each P rs → Each P (ss ++ rs)
each_append P [] rs h g = g
each_append P (s ∷ ss) rs h g = (h.0, each_append P ss rs h.1 g)

pub apply-append : (ss rs : List Store) (t : List ℕ) → apply (ss ++ rs) t ≡ apply rs (apply ss t)
unfolding apply
apply-append [] rs t = refl
apply-append ((x ↤ ys) ∷ ss) rs t = apply-append ss rs _
