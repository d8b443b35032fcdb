-- Where commands store: at the counter, the flag, a PIN but the first, the written bytes, a unit's own, or, by an
-- insertion, the host list and segments of model 4. So a sound tag stays sound.
use Rattle.std.specs.Prelude.{None, Option, Some}
use Prim.Native.Nat.{ℕ, suc, ◌+◌, ◌-◌, ◌≤◌, ◌<◌}
use mathlib.Core.Path.{◌≡◌, refl, sym, ap, subst, ◌∙◌}
use mathlib.Core.Logic.{◌≢◌}
use mathlib.Core.Bool.{Bool, true, false, cond}
use mathlib.Core.List.{List, [], ◌∷◌, ◌++◌}
use native.Mathlib.Omega.{arith}
use lib.ListN.{length, length-append}
use lib.Dec.{eqb}
use Rattle.rules.specs.declared.Stage.{Stage}
use Rattle.rules.specs.declared.Stage.TheVariants.{Zero, One, Two}
use Rattle.rules.specs.declared.KeyStage.TheVariants.{Inserted}
use Rattle.rules.specs.declared.Model.{Model}
use Rattle.rules.specs.declared.Model.TheVariants.{WriteOnce, Default, Counter, Receiver, SharedKey}
use Rattle.rules.specs.declared.Register.{Register}
use Rattle.rules.specs.declared.Register.TheVariants.{Write, Read, Edit, Name, Id, Commit, Pa}
use Rattle.rules.specs.declared.Place.{Place}
use Rattle.rules.specs.declared.Place.TheVariants.{Segment, RegisterOf, Header, Hidden, Pins, Readers, UnitOf, Spare, Public}
use Rattle.rules.specs.Bytes.{part, put, number, bytes_of, Apart}
use Rattle.rules.specs.Map.{flag_at, pin_at, unit_at, segment_at, segments_at, sound, segments, publics, readers_at}
use Rattle.rules.specs.Units.{unit_of, unit_bytes}
use Rattle.rules.specs.Hosts.{Host, hosts, host_slot_at, row_at}
use Rattle.rules.specs.State.{Cipher, State, pin_index}
use Rattle.rules.specs.Refusals.{lowest, register_checks, write_checks, is_shared_key}
use Rattle.rules.specs.Effects.{Store, ◌↤◌, register_stores, stored, write_move, write_stores, advanced, advance_move, advance_stores, pair_stores, join_stores, inserted, row_store, insert_stores, refusal_stores, set_flag, apply}
use Rattle.rules.specs.Command.{write, advance, refusal, Command, read, stores, insert, power_up, after}
use Rattle.rules.specs.Claims.{SoundStays, Holds, NoInsertion}
use Rattle.rules.proofs.BytesLaws.{length-xor, length-bytes_of}
use Rattle.rules.proofs.StoreLaws.{Each, apply-part, each_map, Off}
use Rattle.rules.proofs.MapLaws.{sound_long, sound-put, sound-flag}
use Rattle.rules.proofs.Places.{sort, Extent, placed, place_holds, other_sort}
use Rattle.rules.proofs.HostsLaws.{EachHost, HostFits, Inserting, insert_facts, short_joined, each_append}
use Rattle.rules.proofs.Tests.{some_none}
use Rattle.rules.proofs.Grants.{commit_facts, header_facts, made_by, granted_write, stores_write, after_tag}

-- a segment that holds model 4
pub record HostOf (t : List ℕ) (k : ℕ) : Type 0 where
  pub there : k < segments t
  pub shares : is_shared_key (unit_of (unit_bytes t k)).model ≡ true

-- a store of `ys` at `x` by a command on the `n` bytes at `a` in the place `p` of the tag `t`
pub data LawfulAt (t : List ℕ) (p : Place) (a n x : ℕ) (ys : List ℕ) : Type 0 where
  to_counter : sort p ≤ 4 → x ≡ 4 → length ys ≡ 8 → LawfulAt t p a n x ys
  to_flag : sort p ≤ 4 → (v : ℕ) → v ≤ 1 → x ≡ flag_at → ys ≡ v ∷ [] → LawfulAt t p a n x ys
  to_pin : sort p ≤ 4 → (i : ℕ) → 1 ≤ i → i ≤ 255 → x ≡ pin_at i → length ys ≡ 16 → LawfulAt t p a n x ys
  to_bytes : unit_at 0 ≤ a → x ≡ a → length ys ≡ n → LawfulAt t p a n x ys
  to_unit : (k : ℕ) → p ≡ Segment k → (unit_of (unit_bytes t k)).model ≡ WriteOnce → x ≡ unit_at k → length ys ≡ 1
      → LawfulAt t p a n x ys
  to_list : sort p ≡ 4 → readers_at ≤ x → x + length ys ≤ unit_at 0 → LawfulAt t p a n x ys
  to_host : sort p ≡ 4 → unit_at 0 ≤ x → (k : ℕ) → HostOf t k → segment_at (segments t) k ≤ x
      → x + length ys ≤ segment_at (segments t) k + 4096 → LawfulAt t p a n x ys

abbrev pub Lawful : List ℕ → Place → ℕ → ℕ → Store → Type 0
Lawful t p a n (x ↤ ys) = LawfulAt t p a n x ys

-- ---- what the commands store is lawful

register_lawful : (E : Cipher) (s : State) (r : Register) (a : ℕ) (bs : List ℕ)
    → lowest (register_checks E s r bs) ≡ None
    → Each (Lawful s.tag (RegisterOf r) a (length bs)) (register_stores E s r bs)
unfolding register_stores
register_lawful E s Read a bs e = (to_flag (omega arith) 1 (omega arith) refl refl, tt)
register_lawful E s Write a bs e = (to_flag (omega arith) 1 (omega arith) refl refl, tt)
register_lawful E s Edit a bs e = (to_flag (omega arith) 1 (omega arith) refl refl, tt)
register_lawful E s Name a bs e = (to_flag (omega arith) 1 (omega arith) refl refl, tt)
register_lawful E s Id a bs e = tt
register_lawful E s Commit a bs e =
    let f = commit_facts E s bs e in (
      to_flag (omega arith) 1 (omega arith) refl refl,
      (to_pin (omega arith) (pin_index s.session) f.1 f.2 refl (length-xor bs _ ∙ f.0), tt),
    )
register_lawful E s Pa a bs e = tt

pub length_stored : (m : Model) (old bs : List ℕ) → length (stored m old bs) ≡ length bs
unfolding stored
length_stored Default old bs = refl
length_stored WriteOnce old bs = refl
length_stored Counter old bs = refl
length_stored (Receiver Zero) old bs = refl
length_stored (Receiver One) old bs = length-xor bs old
length_stored (Receiver Two) old bs = refl
length_stored (SharedKey g) old bs = refl

move_lawful : (t : List ℕ) (k a n : ℕ) (m : Model) → (unit_of (unit_bytes t k)).model ≡ m
    → Each (Lawful t (Segment k) a n) (write_move m (unit_at k) (unit_bytes t k))
unfolding write_move
move_lawful t k a n Default e = tt
move_lawful t k a n WriteOnce e = (to_unit k refl e refl refl, tt)
move_lawful t k a n Counter e = tt
move_lawful t k a n (Receiver g) e = tt
move_lawful t k a n (SharedKey g) e = tt

pub write_lawful : (E : Cipher) (s : State) (p : Place) (a : ℕ) (bs : List ℕ) → sound s.tag ≡ true
    → Extent (segments s.tag) (publics s.tag) p a (length bs)
    → lowest (write_checks E s p a bs) ≡ None → Each (Lawful s.tag p a (length bs)) (write_stores E s p a bs)
unfolding write_stores
write_lawful E s Header a bs w f e =
    let h = header_facts E s a bs e in
    (to_counter (omega arith) h.0 h.1, (to_flag (omega arith) 0 (omega arith) refl refl, tt))
write_lawful E s Hidden a bs w f e = tt
write_lawful E s (RegisterOf r) a bs w f e = register_lawful E s r a bs (unfold write_checks in e)
write_lawful E s Pins a bs w f e = tt
write_lawful E s Readers a bs w f e = tt
write_lawful E s (UnitOf k) a bs w f e = (to_bytes (omega arith) refl refl, tt)
write_lawful E s Spare a bs w f e = tt
write_lawful E s (Segment k) a bs w f e =
    let g = (sound_long s.tag w).0 in
    (to_bytes (omega arith) refl (length_stored _ _ bs), move_lawful s.tag k a (length bs) _ refl)
write_lawful E s (Public k) a bs w f e = let g = (sound_long s.tag w).0 in (to_bytes (omega arith) refl refl, tt)

pub length-advanced : (g : Stage) (u : List ℕ) → length (advanced g u) ≡ 2
unfolding advanced
length-advanced Zero u = refl
length-advanced One u = refl
length-advanced Two u = refl

advance_lawful : (t : List ℕ) (k : ℕ) → Each (Lawful t (UnitOf k) (unit_at k) 2) (advance_stores t k)
unfolding advance_stores advance_move
advance_lawful t k = by (unit_of (unit_bytes t k)).model
  where
    by : (m : Model) → Each (Lawful t (UnitOf k) (unit_at k) 2) (advance_move m (unit_at k) (unit_bytes t k))
    by Default = tt
    by WriteOnce = tt
    by Counter = tt
    by (Receiver g) = (to_bytes (omega arith) refl (length-advanced g _), tt)
    by (SharedKey g) = tt

-- an insertion stores in the host list, in segments of model 4, and the first two bytes of a unit
joins_lawful : (t : List ℕ) (k x : ℕ) (id : List ℕ) (i : ℕ) (hs : List Host) (u : List ℕ) (a n : ℕ)
    → unit_at (segments t) ≤ segments_at (segments t) → HostOf t k → x < 85 → i + length hs ≤ 85 → EachHost (HostFits t) hs
    → Each (Lawful t Readers a n) (join_stores (segments t) k x id i hs u)
unfolding join_stores pair_stores
joins_lawful t k x id i [] u a n g h l m f = tt
joins_lawful t k x id i (c ∷ cs) u a n g h l m f =
    let low = f.0.low in
    let high = f.0.high in
    let host : HostOf t (c.named - 1) = record { there = omega arith; shares = shares (c.named - 1) f.0.model } in (
      to_host refl (omega arith) (c.named - 1) host (omega arith) (end (c.named - 1) x l _ (short_joined _ _ _)),
      (
        to_host refl (omega arith) k h (omega arith) (end k i (omega arith) _ (short_joined _ _ _)),
        joins_lawful t k x id (suc i) cs _ a n g h l (omega arith) f.1,
      ),
    )
  where
    shares : (j : ℕ) → (unit_of (unit_bytes t j)).model ≡ SharedKey Inserted
        → is_shared_key (unit_of (unit_bytes t j)).model ≡ true
    shares j e = rw e (unfold is_shared_key in refl)

    end : (j y : ℕ) → y < 85 → (o : ℕ) → o ≤ 48 → host_slot_at (segments t) j y + o ≤ segment_at (segments t) j + 4096
    end j y b o c = omega arith

-- the pairs of an insertion
abbrev pub pairs_of : List ℕ → ℕ → List ℕ → List Store
pairs_of t k id = join_stores (segments t) k (length (hosts t)) id 0 (hosts t) t

pairs_lawful : (t : List ℕ) (k : ℕ) (id : List ℕ) (a n : ℕ) → sound t ≡ true → Inserting t k id
    → Each (Lawful t Readers a n) (pairs_of t k id)
pairs_lawful t k id a n w f =
    let b = f.few in
    joins_lawful t k (length (hosts t)) id 0 (hosts t) t a n (sound_long t w).0
    (record { there = f.there; shares = rw f.filling (unfold is_shared_key in refl) }) b (omega arith) f.rows_fit

-- its row ends before the units
pub row_end : (t : List ℕ) (k : ℕ) (id : List ℕ) → Inserting t k id
    → readers_at + row_at (length (hosts t)) + length (id ++ bytes_of 2 (k + 1)) ≤ unit_at 0
row_end t k id f =
    let b = f.few in
    let c = f.long in
    omega (arith, length-append id (bytes_of 2 (k + 1)), length-bytes_of 2 (k + 1))

insert_lawful : (t : List ℕ) (k : ℕ) (id : List ℕ) → sound t ≡ true → Inserting t k id
    → Each (Lawful t Readers (unit_at k) 2) (insert_stores t k id)
unfolding insert_stores row_store inserted
insert_lawful t k id w f =
    each_append _ (pairs_of t k id) _ (pairs_lawful t k id (unit_at k) 2 w f)
    (to_list refl (omega arith) (row_end t k id f), (to_bytes (omega arith) refl refl, tt))

refusal_lawful : (t : List ℕ) (n : ℕ) → Each (Lawful t Header 0 0) (refusal_stores n)
unfolding refusal_stores
refusal_lawful t n = by (eqb n 11)
  where
    by : (b : Bool) → Each (Lawful t Header 0 0) (cond b (set_flag 1 ∷ []) [])
    by true = (to_flag (omega arith) 1 (omega arith) refl refl, tt)
    by false = tt

-- the place and range of a command, and the lawful stores that it makes
record Made (E : Cipher) (s : State) (c : Command) (r : Option ℕ) : Type 0 where
  pub place : Place
  pub at : ℕ
  pub count : ℕ
  pub all_lawful : Each (Lawful s.tag place at count) (made_by r E s c)
  pub not_listing : (r ≡ None → NoInsertion c) → sort place ≢ 4

-- no write to the reader ID segment is granted
write_elsewhere : (E : Cipher) (s : State) (p : Place) (a : ℕ) (bs : List ℕ) → lowest (write_checks E s p a bs) ≡ None
    → sort p ≢ 4
unfolding write_checks lowest
write_elsewhere E s Header a bs e = omega arith
write_elsewhere E s Hidden a bs e = omega arith
write_elsewhere E s (RegisterOf r) a bs e = omega arith
write_elsewhere E s Pins a bs e = omega arith
write_elsewhere E s Readers a bs e = some_none e
write_elsewhere E s (UnitOf k) a bs e = omega arith
write_elsewhere E s Spare a bs e = omega arith
write_elsewhere E s (Segment k) a bs e = omega arith
write_elsewhere E s (Public k) a bs e = omega arith

made : (E : Cipher) (s : State) (c : Command) (r : Option ℕ) → sound s.tag ≡ true → refusal E s c ≡ r → Made E s c r
unfolding made_by
made E s c (Some n) w e =
    record { place = Header; at = 0; count = 0; all_lawful = refusal_lawful s.tag n; not_listing = λ x. omega arith }
made E s (read a n room) None w e =
    record { place = Header; at = 0; count = 0; all_lawful = (unfold stores in tt); not_listing = λ x. omega arith }
made E s (write a bs) None w e =
    let g = granted_write E s a bs e in
    record {
      place = g.place;
      at = a;
      count = length bs;
      all_lawful =
          subst (Each (Lawful s.tag g.place a (length bs))) (sym (stores_write E s a bs g.place g.found))
          (write_lawful E s g.place a bs w
          (placed s.tag g.place a (length bs) w (place_holds s.tag g.place a (length bs) g.found)) g.free);
      not_listing = λ x. write_elsewhere E s g.place a bs g.free;
    }
made E s (advance k) None w e =
    record {
      place = UnitOf k;
      at = unit_at k;
      count = 2;
      all_lawful = (unfold stores in advance_lawful s.tag k);
      not_listing = λ x. omega arith;
    }
made E s (insert k id) None w e =
    record {
      place = Readers;
      at = unit_at k;
      count = 2;
      all_lawful = (unfold stores in insert_lawful s.tag k id w (insert_facts E s k id e));
      not_listing = λ x. absurd (x refl);
    }
made E s power_up None w e =
    record { place = Header; at = 0; count = 0; all_lawful = (unfold stores in tt); not_listing = λ x. omega arith }

-- ---- so they leave what no command may write, and keep the tag sound

lawful_apart : (t : List ℕ) (p : Place) (a n x : ℕ) (ys : List ℕ) → LawfulAt t p a n x ys
    → Apart x (length ys) 0 4 × Apart x (length ys) 16 4096 × (sort p ≢ 4 → Apart x (length ys) readers_at 4096)
lawful_apart t p a n x ys (to_counter o e h) = (omega arith, omega arith, λ d. omega arith)
lawful_apart t p a n x ys (to_flag o v h e f) = let l = ap length f in (omega arith, omega arith, λ d. omega arith)
lawful_apart t p a n x ys (to_pin o i l m e h) = (omega arith, omega arith, λ d. omega arith)
lawful_apart t p a n x ys (to_bytes b e h) = (omega arith, omega arith, λ d. omega arith)
lawful_apart t p a n x ys (to_unit k q o e h) = (omega arith, omega arith, λ d. omega arith)
lawful_apart t p a n x ys (to_list q b e) = (omega arith, omega arith, λ d. absurd (d q))
lawful_apart t p a n x ys (to_host q b k f h e) = (omega arith, omega arith, λ d. omega arith)

lawful_sound : (t : List ℕ) (p : Place) (a n x : ℕ) (ys u : List ℕ) → LawfulAt t p a n x ys → sound u ≡ true
    → sound (put x ys u) ≡ true
lawful_sound t p a n x ys u (to_counter o e h) w = sound-put x ys u (omega arith) (omega arith) (omega arith) ∙ w
lawful_sound t p a n x ys u (to_flag o v h e f) w = rw (e, f) (sound-flag v u h w)
lawful_sound t p a n x ys u (to_pin o i l m e h) w = sound-put x ys u (omega arith) (omega arith) (omega arith) ∙ w
lawful_sound t p a n x ys u (to_bytes b e h) w = sound-put x ys u (omega arith) (omega arith) (omega arith) ∙ w
lawful_sound t p a n x ys u (to_unit k q o e h) w = sound-put x ys u (omega arith) (omega arith) (omega arith) ∙ w
lawful_sound t p a n x ys u (to_list q b e) w = sound-put x ys u (omega arith) (omega arith) (omega arith) ∙ w
lawful_sound t p a n x ys u (to_host q b k f h e) w = sound-put x ys u (omega arith) (omega arith) (omega arith) ∙ w

apply-sound : (t : List ℕ) (p : Place) (a n : ℕ) (ss : List Store) (u : List ℕ) → Each (Lawful t p a n) ss
    → sound u ≡ true
    → sound (apply ss u) ≡ true
unfolding apply
apply-sound t p a n [] u h w = w
apply-sound t p a n ((x ↤ ys) ∷ ss) u h w =
    apply-sound t p a n ss (put x ys u) h.1 (lawful_sound t p a n x ys u h.0 w)

-- a part that lawful stores leave
kept_part : (E : Cipher) (s : State) (c : Command) (y m : ℕ) → sound s.tag ≡ true
    → ((p : Place) (a n x : ℕ) (ys : List ℕ) → ((refusal E s c ≡ None → NoInsertion c) → sort p ≢ 4)
    → LawfulAt s.tag p a n x ys
    → Apart x (length ys) y m)
    → part y m (after E s c).tag ≡ part y m s.tag
kept_part E s c y m w f =
    let g = made E s c (refusal E s c) w refl in
    let ss = made_by (refusal E s c) E s c in
    ap (part y m) (after_tag E s c (refusal E s c) refl)
    ∙ apply-part y m ss s.tag
    (each_map _ (Off y m) ss (λ x ys l. f g.place g.at g.count x ys g.not_listing l) g.all_lawful)

pub sound_stays : (E : Cipher) (s : State) (c : Command) → sound s.tag ≡ true → SoundStays E s c
unfolding segments publics
sound_stays E s c w =
    let g = made E s c (refusal E s c) w refl in
    record {
      stays_sound =
          rw (after_tag E s c (refusal E s c) refl) (apply-sound s.tag g.place g.at g.count _ s.tag g.all_lawful w);
      same_segments =
          ap number (kept_part E s c 0 2 w (λ p a n x ys o l i b d e f. (lawful_apart s.tag p a n x ys l).0 i b d e (omega arith)));
      same_publics =
          ap number (kept_part E s c 2 2 w (λ p a n x ys o l i b d e f. (lawful_apart s.tag p a n x ys l).0 i b d (omega arith) f));
      low_stays = kept_part E s c 16 4096 w (λ p a n x ys o l. (lawful_apart s.tag p a n x ys l).1);
      readers_stay = λ z. kept_part E s c readers_at 4096 w (λ p a n x ys o l. (lawful_apart s.tag p a n x ys l).2 (o z));
    }

-- they leave a part above the header and the PINs if the written bytes, in a segment the byte of its unit, and for an
-- insertion all segments of model 4 are elsewhere
abbrev HostsApart : List ℕ → Place → ℕ → ℕ → Type 0
HostsApart t p y m = sort p ≡ 4 → (k : ℕ) → HostOf t k → Apart (segment_at (segments t) k) 4096 y m

lawful_off : (t : List ℕ) (p : Place) (a n x : ℕ) (ys : List ℕ) (y m : ℕ) → LawfulAt t p a n x ys → unit_at 0 ≤ y
    → Apart a n y m
    → ((k : ℕ) → p ≡ Segment k → (unit_of (unit_bytes t k)).model ≡ WriteOnce → Apart (unit_at k) 1 y m)
    → HostsApart t p y m → Apart x (length ys) y m
lawful_off t p a n x ys y m (to_counter o e h) b f g r = omega arith
lawful_off t p a n x ys y m (to_flag o v h e q) b f g r = let l = ap length q in omega arith
lawful_off t p a n x ys y m (to_pin o i l j e h) b f g r = omega arith
lawful_off t p a n x ys y m (to_bytes c e h) b f g r = λ i u v w z. f i (omega arith) (omega arith) w z
lawful_off t p a n x ys y m (to_unit k q o e h) b f g r = λ i u v w z. g k q o i (omega arith) (omega arith) w z
lawful_off t p a n x ys y m (to_list q c e) b f g r = omega arith
lawful_off t p a n x ys y m (to_host q c k h e d) b f g r = λ i u v w z. r q k h i (omega arith) (omega arith) w z

pub stores_off : (t : List ℕ) (p : Place) (a n : ℕ) (ss : List Store) (y m : ℕ) → Each (Lawful t p a n) ss
    → unit_at 0 ≤ y
    → Apart a n y m → ((k : ℕ) → p ≡ Segment k → (unit_of (unit_bytes t k)).model ≡ WriteOnce → Apart (unit_at k) 1 y m)
    → HostsApart t p y m → Each (Off y m) ss
stores_off t p a n ss y m h b f g r =
    each_map (Lawful t p a n) (Off y m) ss (λ x ys l. lawful_off t p a n x ys y m l b f g r) h

pub refusal_off : (n y m : ℕ) → unit_at 0 ≤ y → Each (Off y m) (refusal_stores n)
refusal_off n y m b =
    stores_off [] Header 0 0 (refusal_stores n) y m (refusal_lawful [] n) b (omega arith)
    (λ k e. absurd (other_sort Header (Segment k) (omega arith) e)) (λ e. absurd (omega arith))

pub advance_off : (t : List ℕ) (k y m : ℕ) → unit_at 0 ≤ y → Apart (unit_at k) 32 y m → Each (Off y m) (advance_stores t k)
advance_off t k y m b f =
    stores_off t (UnitOf k) (unit_at k) 2 (advance_stores t k) y m (advance_lawful t k) b (λ i u v. f i u (omega arith))
    (λ l e. absurd (other_sort (UnitOf k) (Segment l) (omega arith) e)) (λ e. absurd (omega arith))

-- a granted insertion
pub insert_off : (t : List ℕ) (k : ℕ) (id : List ℕ) (y m : ℕ) → sound t ≡ true → Inserting t k id → unit_at 0 ≤ y
    → Apart (unit_at k) 2 y m → ((l : ℕ) → HostOf t l → Apart (segment_at (segments t) l) 4096 y m)
    → Each (Off y m) (insert_stores t k id)
insert_off t k id y m w f b g h =
    stores_off t Readers (unit_at k) 2 (insert_stores t k id) y m (insert_lawful t k id w f) b g
    (λ l e. absurd (other_sort Readers (Segment l) (omega arith) e)) (λ e. h)

pub pairs_off : (t : List ℕ) (k : ℕ) (id : List ℕ) (y m : ℕ) → sound t ≡ true → Inserting t k id → unit_at 0 ≤ y
    → ((l : ℕ) → HostOf t l → Apart (segment_at (segments t) l) 4096 y m) → Each (Off y m) (pairs_of t k id)
pairs_off t k id y m w f b h =
    stores_off t Readers 0 0 (pairs_of t k id) y m (pairs_lawful t k id 0 0 w f) b (omega arith)
    (λ l e. absurd (other_sort Readers (Segment l) (omega arith) e)) (λ e. h)

-- a granted write
pub write_off : (E : Cipher) (s : State) (p : Place) (a : ℕ) (bs : List ℕ) (y m : ℕ) → sound s.tag ≡ true
    → Holds s.tag p a (length bs) → lowest (write_checks E s p a bs) ≡ None → unit_at 0 ≤ y → Apart a (length bs) y m
    → ((k : ℕ) → p ≡ Segment k → k < segments s.tag → Apart (unit_at k) 1 y m)
    → Each (Off y m) (write_stores E s p a bs)
write_off E s p a bs y m w h e b f g =
    let x = placed s.tag p a (length bs) w h in
    stores_off s.tag p a (length bs) (write_stores E s p a bs) y m (write_lawful E s p a bs w x e) b f
    (λ k q o. g k q (subst (λ r. Extent (segments s.tag) (publics s.tag) r a (length bs)) q x).0)
    (λ q. absurd (write_elsewhere E s p a bs e q))
