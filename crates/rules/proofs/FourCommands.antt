-- A host that knows the PIN reads after four commands: PA, counter, READ, read. What each of them leaves.
use Rattle.std.specs.Prelude.{None, Some}
use Prim.Native.Nat.{ℕ, ◌+◌, ◌≤◌}
use mathlib.Core.Path.{◌≡◌, refl, sym, ap, ◌∙◌}
use mathlib.Core.Bool.{true, false, not}
use mathlib.Core.List.{List, [], ◌∷◌, ◌++◌}
use native.Mathlib.Omega.{arith}
use lib.ListN.{length, replicate, length-append}
use borrow.Author.Tests.{leb-true, eq-eqb, le-leb}
use Rattle.rules.specs.declared.Session.{Session}
use Rattle.rules.specs.declared.Model.{Model}
use Rattle.rules.specs.declared.Register.TheVariants.{Pa, Read}
use Rattle.rules.specs.declared.Place.{Place}
use Rattle.rules.specs.declared.Place.TheVariants.{RegisterOf, Header}
use Rattle.rules.specs.Bytes.{put, number, same, part, bytes_of}
use Rattle.rules.specs.Map.{sound, place_of, segments, register_at, register_no, counter, flag_at, flag, unit_at, pin_at}
use Rattle.rules.specs.Units.{well_formed, unit_bytes, unit_of, formedness}
use Rattle.rules.specs.Hosts.{Host}
use Rattle.rules.specs.State.{Cipher, State, with_pa, pin, pin_index, response, with_read, enciphered_counter}
use Rattle.rules.specs.Refusals.{lowest, write_checks, register_checks, block_checks, header_write_checks, response_checks, is_shared_key, hides}
use Rattle.rules.specs.Effects.{apply, write_stores, write_session, register_stores, register_session}
use Rattle.rules.specs.Command.{write, refusal, done, reply, after, reply_by, after_by, grant, stores, stores_in, new_session, session_in, read, gives}
use Rattle.rules.specs.Run.{replies}
use Rattle.rules.specs.Claims.{Holds}
use Rattle.rules.specs.FourCommands.{HostMayRead, HostReads, four_commands}
use Rattle.rules.proofs.Tests.{true_false, clears, none_applies, all_true}
use Rattle.rules.proofs.Values.{value_next}
use Rattle.rules.proofs.BytesLaws.{same_refl, byte_put, length-put, part-put, part_put_same, length-bytes_of, number_bytes_of, part-front}
use Rattle.rules.proofs.MapLaws.{sound-facts, sound_long, sound-flag, sound-put, segments-put}
use Rattle.rules.proofs.Places.{place_found, register_holds, header_holds}
use Rattle.rules.proofs.Grants.{judged_there}
use Rattle.rules.proofs.GrantedRead.{rights, segment_read}

-- ---- a write that no check refuses

module _ (E : Cipher) (s : State) (p : Place) (a : ℕ) (bs : List ℕ) (w : sound s.tag ≡ true) (l : 1 ≤ length bs)
    (m : length bs ≤ 4096) (h : Holds s.tag p a (length bs)) (e : lowest (write_checks E s p a bs) ≡ None) where
  found : place_of s.tag a (length bs) ≡ Some p
  found = place_found s.tag p a (length bs) (sound-facts s.tag w).most_segments l h

  free : refusal E s (write a bs) ≡ None
  free = judged_there E s p a bs w l m h ∙ e

  write_done : (reply E s (write a bs) ≡ done)
      × (after E s (write a bs) ≡ record { tag = apply (write_stores E s p a bs) s.tag; session = write_session E s p bs })
  unfolding reply after reply_by after_by grant stores stores_in new_session session_in
  write_done = (rw free, rw (free, found))

-- ---- 1. PA

pa_written : (E : Cipher) (s : State) (pa : List ℕ) → sound s.tag ≡ true → length pa ≡ 16
    → (reply E s (write (register_at 6) pa) ≡ done)
    × (after E s (write (register_at 6) pa) ≡ record { tag = s.tag; session = with_pa pa s.session })
unfolding register_no write_stores register_stores write_session register_session apply
pa_written E s pa w l =
    write_done E s (RegisterOf Pa) (register_at 6) pa w (omega arith) (omega arith)
    (rw l (register_holds s.tag 6 16 (omega arith) (omega arith)))
    (unfold write_checks register_checks block_checks in clears _ _ _ (ap not (eq-eqb _ _ l)) none_applies)

-- ---- 2. the counter

abbrev counted_up : List ℕ → List ℕ → List ℕ
counted_up next t = put flag_at (0 ∷ []) (put 4 next t)

counter_written : (E : Cipher) (s : State) (next : List ℕ) → sound s.tag ≡ true → length next ≡ 8
    → number next ≡ counter s.tag + 1
    → (reply E s (write 4 next) ≡ done)
    × (after E s (write 4 next) ≡ record { tag = counted_up next s.tag; session = s.session })
unfolding write_stores write_session apply counter
counter_written E s next w l e =
    write_done E s Header 4 next w (omega arith) (omega arith) (rw l (header_holds s.tag 4 8 (omega arith)))
    (unfold write_checks header_write_checks in
    clears _ _ _ (ap not (eq-eqb (length next) 8 l)) (value_next (part 4 8 s.tag) next e))

-- ---- 3. READ

read_validated : (E : Cipher) (s : State) (bs : List ℕ) (i : ℕ) → sound s.tag ≡ true → length bs ≡ 16
    → flag s.tag ≡ 0
    → pin_index s.session ≡ i → i ≤ 255 → bs ≡ response E (pin s.tag i) s.tag
    → (reply E s (write (register_at 0) bs) ≡ done)
    × (after E s (write (register_at 0) bs) ≡ record { tag = put flag_at (1 ∷ []) s.tag; session = with_read i s.session })
unfolding register_no write_stores register_stores write_session register_session apply
read_validated E s bs i w l f q m e =
    rw q at (write_done E s (RegisterOf Read) (register_at 0) bs w (omega arith) (omega arith)
    (rw l (register_holds s.tag 0 16 (omega arith) (omega arith))) passed)
  where
    right : same bs (response E (pin s.tag (pin_index s.session)) s.tag) ≡ true
    right = rw (q, ← e) (same_refl bs)

    passed : lowest (write_checks E s (RegisterOf Read) (register_at 0) bs) ≡ None
    passed =
        unfold write_checks register_checks block_checks response_checks in
        clears _ _ _ (ap not (eq-eqb _ _ l)) (clears _ _ _ (ap not (le-leb (pin_index s.session) 255 (rw q m)))
        (clears _ _ _ (rw f) (clears _ _ _ (ap not right) none_applies)))

-- ---- 4. the read

-- the list of hosts hides nothing of the other models
not_hidden : (m : Model) (k o n : ℕ) (hs : List Host) → is_shared_key m ≡ false → hides m k o n hs ≡ false
unfolding hides
not_hidden m k o n hs e = rw e

-- ---- the tag after the counter, and after READ

counter_facts : (next t : List ℕ) → sound t ≡ true → length next ≡ 8
    → (sound (counted_up next t) ≡ true) × (flag (counted_up next t) ≡ 0) × (part 4 8 (counted_up next t) ≡ next)
unfolding flag
counter_facts next t w l =
    let g = sound_long t w in (
      sound-flag 0 (put 4 next t) (omega arith) (sound-put 4 next t (omega arith) (omega arith) (omega arith) ∙ w),
      byte_put flag_at 0 (put 4 next t) (rw (length-put 4 next t) (omega arith)),
      part-put 4 8 flag_at (0 ∷ []) (put 4 next t) (omega arith) ∙ rw l at (part_put_same 4 next t (omega arith)),
    )

-- a part behind the flag is as it was
away : (next t : List ℕ) (a n : ℕ) → length next ≡ 8 → 13 ≤ a
    → (part a n (counted_up next t) ≡ part a n t) × (part a n (put flag_at (1 ∷ []) (counted_up next t)) ≡ part a n t)
away next t a n l h =
    let e = part-put a n flag_at (0 ∷ []) (put 4 next t) (omega arith) ∙ part-put a n 4 next t (omega arith) in
    (e, part-put a n flag_at (1 ∷ []) (counted_up next t) (omega arith) ∙ e)

fourth : (E : Cipher) (t next : List ℕ) (v : Session) (k a n room : ℕ) (rest : List ℕ) → HostMayRead t k a n room rest
    → length next ≡ 8 → v.read ≡ (unit_of (unit_bytes t k)).read
    → reply E (record { tag = put flag_at (1 ∷ []) (counted_up next t); session = v }) (read a n room) ≡ gives (part a n t)
unfolding unit_bytes
fourth E t next v k a n room rest h ln i =
    let g = (sound_long t h.tag_sound).0 in
    let t3 = put flag_at (1 ∷ []) (counted_up next t) in
    let segs : segments t3 ≡ segments t =
    segments-put flag_at (1 ∷ []) (counted_up next t) (omega arith) ∙ segments-put flag_at (0 ∷ []) (put 4 next t) (omega arith)
    ∙ segments-put 4 next t (omega arith) in
    let u : unit_bytes t3 k ≡ unit_bytes t k = (away next t (unit_at k) 32 ln (omega arith)).1 in
    segment_read E (record { tag = t3; session = v }) k a n room
    (sound-flag 1 (counted_up next t) (omega arith) (counter_facts next t h.tag_sound ln).0) (rw segs h.there)
    h.some_bytes h.fits (rw segs h.starts_inside) (rw segs h.ends_inside)
    (rights (record { tag = t3; session = v }) k a n (rw u h.formed) (rw u h.rd_set)
    (not_hidden _ k _ n _ (rw u h.other_model))
    (record { its_index = λ q. rw u i; its_name = λ q. true_false (sym q ∙ rw u h.pn_clear) }))
    ∙ ap gives (away next t a n ln (omega (arith, h.starts_inside))).1

-- ---- the four commands

index_small : (u : List ℕ) → well_formed u ≡ true → (unit_of u).read ≤ 255
unfolding well_formed formedness unit_of
index_small u e = leb-true _ _ (all_true _ _ (all_true _ _ (all_true _ _ e).1).1).0

pub host_reads : HostReads
unfolding replies four_commands
host_reads E long s k a n room rest h =
    let t = s.tag in
    let w = h.tag_sound in
    let i = (unit_of (unit_bytes t k)).read in
    let small : i ≤ 255 = index_small (unit_bytes t k) h.formed in
    let pa = bytes_of 2 i ++ rest in
    let next = bytes_of 8 (counter t + 1) in
    let ln : length next ≡ 8 = length-bytes_of 8 (counter t + 1) in
    let lp : length pa ≡ 16 = omega (arith, length-append (bytes_of 2 i) rest, length-bytes_of 2 i, h.fourteen) in
    let c1 = pa_written E s pa w lp in
    let s1 : State = record { tag = t; session = with_pa pa s.session } in
    let c2 = counter_written E s1 next w ln (number_bytes_of 8 (counter t + 1) (omega (arith, h.counter_below))) in
    let x = counter_facts next t w ln in
    let s2 : State = record { tag = counted_up next t; session = with_pa pa s.session } in
    let rs = enciphered_counter E (pin t i) next in
    let c3 = read_validated E s2 rs i x.0 (sixteen (pin t i) next ln) x.1 (named i rest small s.session) small
    (answered i next ln x.2) in
    rw (c1.0, c1.1, c2.0, c2.1, c3.0, c3.1)
    (ap (λ z. done ∷ done ∷ done ∷ z ∷ [])
    (fourth E t next (with_read i (with_pa pa s.session)) k a n room rest h ln (unfold with_read in refl)))
  where
    sixteen : (key next : List ℕ) → length next ≡ 8 → length (enciphered_counter E key next) ≡ 16
    sixteen key next e =
        unfold enciphered_counter in long key (replicate 8 0 ++ next) (let q = length-append (replicate 8 0) next in omega (arith, q, e))

    named : (i : ℕ) (rest : List ℕ) → i ≤ 255 → (v : Session) → pin_index (with_pa (bytes_of 2 i ++ rest) v) ≡ i
    named i rest m v =
        unfold pin_index with_pa in
        ap number (rw (length-bytes_of 2 i) at (part-front (bytes_of 2 i) rest)) ∙ number_bytes_of 2 i (omega arith)

    answered : (i : ℕ) (next : List ℕ) → length next ≡ 8 → part 4 8 (counted_up next s.tag) ≡ next
        → enciphered_counter E (pin s.tag i) next ≡ response E (pin (counted_up next s.tag) i) (counted_up next s.tag)
    answered i next e q = unfold response pin in (rw ((away next s.tag (pin_at i) 16 e (omega arith)).0, q))
