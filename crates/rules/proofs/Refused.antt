-- A refused command changes nothing, except 11, which sets the flag; and the number is the lowest that applies.
use Rattle.std.specs.Prelude.{None, Option, Some}
use Prim.Native.Nat.{ℕ, ◌≤◌}
use mathlib.Core.Path.{◌≡◌, refl, sym, ap, subst, ◌∙◌}
use mathlib.Core.Logic.{◌≢◌, ◌⊎◌, inl, inr}
use mathlib.Core.Bool.{Bool, true, false, ◌&&◌, ◌||◌, not, cond}
use mathlib.Core.List.{List, [], ◌∷◌}
use native.Mathlib.Omega.{arith}
use lib.ListN.{length}
use lib.Dec.{eqb, leb}
use borrow.Author.Tests.{leb-true, eqb-true, eq-eqb, ne_eqb}
use Rattle.rules.specs.declared.Model.{Model}
use Rattle.rules.specs.declared.Register.{Register}
use Rattle.rules.specs.declared.Register.TheVariants.{Read, Write, Edit, Name, Id, Commit, Pa}
use Rattle.rules.specs.declared.Place.{Place}
use Rattle.rules.specs.declared.Place.TheVariants.{Header, Hidden, RegisterOf, Pins, Readers, UnitOf, Spare, Segment, Public}
use Rattle.rules.specs.declared.Refusal.{Refusal}
use Rattle.rules.specs.declared.Refusal.TheVariants.{Unsound, Count, Outside, NeverTaken, Malformed, Forbidden, OtherPin, OtherName, BadRegister, FlagUsed, WrongResponse, NotNext, BadEdit, OtherModel, Unreadable, Repeated, BadInsertion}
use Rattle.rules.specs.Bytes.{put, byte}
use Rattle.rules.specs.Map.{place_of, sound, flag_at, flag}
use Rattle.rules.specs.Units.{unit_bytes, unit_of}
use Rattle.rules.specs.State.{Cipher, State}
use Rattle.rules.specs.Answers.{number_of}
use Rattle.rules.specs.Refusals.{Checks, granted, ◌when◌else◌, lowest, register_checks, block_checks, response_checks, name_checks, commit_checks, write_checks, header_write_checks, value_checks, slot_checks, edit_checks, segment_write_checks, read_checks, unit_read_checks, segment_read_checks, advance_checks, insert_checks}
use Rattle.rules.specs.Effects.{refusal_stores, apply, set_flag}
use Rattle.rules.specs.Command.{write, in_place, read, Command, advance, insert, power_up, checks, refusal, refused, after, after_by, filled, reply}
use Rattle.rules.specs.Claims.{Applies, LowestGiven, Among, refusals_of, RefusalNamed, RefusedChangesNothing}
use Rattle.rules.proofs.Tests.{and_true, true_false, some_none}
use Rattle.rules.proofs.Values.{slot_cases}
use Rattle.rules.proofs.BytesLaws.{byte_put, byte_put_out, length-put}
use Rattle.rules.proofs.MapLaws.{sound_long}
use Rattle.rules.proofs.Grants.{refused_reply}

-- ---- the lists of checks ascend, so the first number that applies is the lowest

-- n is the number of one of the cases
abbrev pub numbers : List Refusal → ℕ → Bool
numbers [] n = false
numbers (r ∷ rs) n = eqb (number_of r) n || numbers rs n

-- from k on, each the number of one of the cases
abbrev ascends : ℕ → List Refusal → Checks → Bool
ascends k rs granted = true
ascends k rs (n when b else cs) = leb k n && numbers rs n && ascends n rs cs

ascends-facts : (k : ℕ) (rs : List Refusal) (n : ℕ) (b : Bool) (cs : Checks) → ascends k rs (n when b else cs) ≡ true
    → (k ≤ n) × (numbers rs n ≡ true) × (ascends n rs cs ≡ true)
ascends-facts k rs n b cs h =
    let x = and_true (leb k n && numbers rs n) (ascends n rs cs) h in
    let y = and_true (leb k n) (numbers rs n) x.0 in
    (leb-true k n y.0, y.1, x.1)

bounded : (k : ℕ) (rs : List Refusal) (cs : Checks) (m : ℕ) → ascends k rs cs ≡ true → Applies m cs
    → (k ≤ m) × (numbers rs m ≡ true)
bounded k rs granted m h a = absurd a
bounded k rs (n when b else cs) m h (inl a) =
    let x = ascends-facts k rs n b cs h in (omega (arith, a.0, x.0), ap (numbers rs) a.0 ∙ x.1)
bounded k rs (n when b else cs) m h (inr a) =
    let x = ascends-facts k rs n b cs h in
    let z = bounded n rs cs m x.2 a in
    (omega (arith, z.0, x.0), z.1)

abbrev Least : ℕ → Checks → Type 0
Least n cs = Applies n cs × ((m : ℕ) → Applies m cs → n ≤ m)

least_now : (j : ℕ) (rs : List Refusal) (cs : Checks) → ascends j rs cs ≡ true → Least j (j when true else cs)
least_now j rs cs h = (inl (refl, refl), least)
  where
    least : (m : ℕ) → Applies m (j when true else cs) → j ≤ m
    least m (inl a) = omega (arith, a.0)
    least m (inr a) = (bounded j rs cs m h a).0

least_later : (j : ℕ) (cs : Checks) (n : ℕ) → Least n cs → Least n (j when false else cs)
least_later j cs n x = (inr x.0, least)
  where
    least : (m : ℕ) → Applies m (j when false else cs) → n ≤ m
    least m (inl a) = true_false (sym a.1)
    least m (inr a) = x.1 m a

least_given : (k : ℕ) (rs : List Refusal) (cs : Checks) (n : ℕ) → ascends k rs cs ≡ true → lowest cs ≡ Some n
    → Least n cs
unfolding lowest
least_given k rs granted n h e = some_none (sym e)
least_given k rs (j when true else cs) n h e =
    let q : j ≡ n = cc in
    subst (λ m. Least m (j when true else cs)) q (least_now j rs cs (ascends-facts k rs j true cs h).2)
least_given k rs (j when false else cs) n h e =
    least_later j cs n (least_given j rs cs n (ascends-facts k rs j false cs h).2 e)

none_left : (cs : Checks) (m : ℕ) → lowest cs ≡ None → Applies m cs → ⊥
unfolding lowest
none_left granted m e a = a
none_left (j when true else cs) m e a = some_none e
none_left (j when false else cs) m e (inl a) = true_false (sym a.1)
none_left (j when false else cs) m e (inr a) = none_left cs m e a

register_ascends : (E : Cipher) (s : State) (r : Register) (a : ℕ) (bs : List ℕ)
    → ascends 2 (refusals_of (write a bs)) (register_checks E s r bs) ≡ true
unfolding register_checks block_checks response_checks name_checks commit_checks
register_ascends E s Read a bs = refl
register_ascends E s Write a bs = refl
register_ascends E s Edit a bs = refl
register_ascends E s Name a bs = refl
register_ascends E s Id a bs = refl
register_ascends E s Commit a bs = refl
register_ascends E s Pa a bs = refl

slot-ascends : (a : ℕ) (bs : List ℕ) (m : Model) (o : ℕ) (old : List ℕ)
    → ascends 8 (refusals_of (write a bs)) (slot_checks m o old bs) ≡ true
unfolding value_checks
slot-ascends a bs m o old = slot_cases (λ cs. ascends 8 (refusals_of (write a bs)) cs ≡ true) o old bs refl refl m

segment_ascends : (a : ℕ) (bs : List ℕ) (i : ℕ) (name u : List ℕ) (o : ℕ) (old : List ℕ)
    → ascends 2 (refusals_of (write a bs)) (segment_write_checks i name u o old bs) ≡ true
unfolding segment_write_checks
segment_ascends a bs i name u o old = slot-ascends a bs (unit_of u).model o old

write_ascends : (E : Cipher) (s : State) (a : ℕ) (bs : List ℕ) (q : Option Place)
    → ascends 2 (refusals_of (write a bs)) (in_place q (λ p. write_checks E s p a bs)) ≡ true
unfolding in_place write_checks header_write_checks value_checks edit_checks
write_ascends E s a bs None = refl
write_ascends E s a bs (Some Header) = refl
write_ascends E s a bs (Some Hidden) = refl
write_ascends E s a bs (Some (RegisterOf r)) = register_ascends E s r a bs
write_ascends E s a bs (Some Pins) = refl
write_ascends E s a bs (Some Readers) = refl
write_ascends E s a bs (Some (UnitOf k)) = refl
write_ascends E s a bs (Some Spare) = refl
write_ascends E s a bs (Some (Segment k)) = segment_ascends a bs _ _ (unit_bytes s.tag k) _ _
write_ascends E s a bs (Some (Public k)) = refl

read_ascends : (s : State) (a n room : ℕ) (q : Option Place)
    → ascends 2 (refusals_of (read a n room)) (in_place q (λ p. read_checks s p a n)) ≡ true
unfolding in_place read_checks unit_read_checks segment_read_checks
read_ascends s a n room None = refl
read_ascends s a n room (Some Header) = refl
read_ascends s a n room (Some Hidden) = refl
read_ascends s a n room (Some (RegisterOf r)) = refl
read_ascends s a n room (Some Pins) = refl
read_ascends s a n room (Some Readers) = refl
read_ascends s a n room (Some (UnitOf k)) = refl
read_ascends s a n room (Some Spare) = refl
read_ascends s a n room (Some (Segment k)) = refl
read_ascends s a n room (Some (Public k)) = refl

checks_ascend : (E : Cipher) (s : State) (c : Command) → ascends 1 (refusals_of c) (checks E s c) ≡ true
unfolding checks advance_checks insert_checks
checks_ascend E s (read a n room) = read_ascends s a n room (place_of s.tag a n)
checks_ascend E s (write a bs) = write_ascends E s a bs (place_of s.tag a (length bs))
checks_ascend E s (advance k) = refl
checks_ascend E s (insert k id) = refl
checks_ascend E s power_up = refl

pub lowest_given : (E : Cipher) (s : State) (c : Command) → LowestGiven E s c
unfolding refusal
lowest_given E s c =
    record {
      lowest_given = λ n e. least_given 1 (refusals_of c) (checks E s c) n (checks_ascend E s c) e;
      grant_owed = λ e m a. none_left (checks E s c) m e a;
    }

-- ---- the number is one of the table, and has its case of `Refusal`

pub applies_among : (E : Cipher) (s : State) (c : Command) (n : ℕ) → Applies n (checks E s c)
    → numbers (refusals_of c) n ≡ true
applies_among E s c n a = (bounded 1 (refusals_of c) (checks E s c) n (checks_ascend E s c) a).1

number_among : (E : Cipher) (s : State) (c : Command) (n : ℕ) → refusal E s c ≡ Some n
    → numbers (refusals_of c) n ≡ true
number_among E s c n e = applies_among E s c n ((lowest_given E s c).lowest_given n e).0

-- a command of which 11 does not speak
pub not_11 : (E : Cipher) (s : State) (c : Command) → numbers (refusals_of c) 11 ≡ false
    → (m : ℕ) → refusal E s c ≡ Some m → m ≢ 11
not_11 E s c h m e q = true_false (sym (number_among E s c m e) ∙ ap (numbers (refusals_of c)) q ∙ h)

case_among : (rs : List Refusal) (n : ℕ) → numbers rs n ≡ true → (r : Refusal) × (number_of r ≡ n) × Among r rs
case_among [] n h = true_false (sym h)
case_among (r ∷ rs) n h = by (eqb (number_of r) n) refl h (case_among rs n)
  where
    by : (b : Bool) → eqb (number_of r) n ≡ b → (b || numbers rs n) ≡ true
        → (numbers rs n ≡ true → (x : Refusal) × (number_of x ≡ n) × Among x rs)
        → (x : Refusal) × (number_of x ≡ n) × Among x (r ∷ rs)
    by true e g later = (r, eqb-true (number_of r) n e, inl refl)
    by false e g later = let x = later g in (x.0, x.1, inr x.2)

pub refusal_named : (E : Cipher) (s : State) (c : Command) (n : ℕ) → refusal E s c ≡ Some n → RefusalNamed c n
refusal_named E s c n e =
    let x = case_among (refusals_of c) n (number_among E s c n e) in
    record { refusal_case = x.0; its_number = x.1; speaks_of_it = x.2 }

-- ---- the state after a refusal

-- a case of `Refusal` is 11, or it stores nothing
pub eleven_or_none : (r : Refusal) → (r ≡ WrongResponse) ⊎ (refusal_stores (number_of r) ≡ [])
unfolding refusal_stores
eleven_or_none Unsound = inr refl
eleven_or_none Count = inr refl
eleven_or_none Outside = inr refl
eleven_or_none NeverTaken = inr refl
eleven_or_none Malformed = inr refl
eleven_or_none Forbidden = inr refl
eleven_or_none OtherPin = inr refl
eleven_or_none OtherName = inr refl
eleven_or_none BadRegister = inr refl
eleven_or_none FlagUsed = inr refl
eleven_or_none WrongResponse = inl refl
eleven_or_none NotNext = inr refl
eleven_or_none BadEdit = inr refl
eleven_or_none OtherModel = inr refl
eleven_or_none Unreadable = inr refl
eleven_or_none Repeated = inr refl
eleven_or_none BadInsertion = inr refl

-- a refusal other than 11 leaves the state as it was
pub refused_stays : (E : Cipher) (s : State) (c : Command) (n : ℕ) → refusal E s c ≡ Some n → n ≢ 11 → after E s c ≡ s
unfolding after after_by refusal_stores apply
refused_stays E s c n e h = rw (e, ne_eqb n 11 h)

-- 11 is given only on a sound tag, since 1 is lower
unsound_applies : (E : Cipher) (s : State) (c : Command) (n : ℕ) → sound s.tag ≡ false → refusal E s c ≡ Some n
    → Applies 1 (checks E s c)
unfolding refusal checks lowest
unsound_applies E s (read a m room) n h e = inl (refl, ap not h)
unsound_applies E s (write a bs) n h e = inl (refl, ap not h)
unsound_applies E s (advance k) n h e = inl (refl, ap not h)
unsound_applies E s (insert k id) n h e = inl (refl, ap not h)
unsound_applies E s power_up n h e = some_none (sym e)

pub eleven_sound : (E : Cipher) (s : State) (c : Command) → refusal E s c ≡ Some 11 → sound s.tag ≡ true
eleven_sound E s c e = by (sound s.tag) refl
  where
    by : (b : Bool) → sound s.tag ≡ b → sound s.tag ≡ true
    by true h = h
    by false h = let x = ((lowest_given E s c).lowest_given 11 e).1 1 (unsound_applies E s c 11 h e) in absurd (omega arith)

refused_tag : (E : Cipher) (s : State) (c : Command) (n : ℕ) → refusal E s c ≡ Some n
    → (after E s c).tag ≡ cond (eqb n 11) (put flag_at (1 ∷ []) s.tag) s.tag
unfolding after after_by refusal_stores
refused_tag E s c n e = rw e (by (eqb n 11))
  where
    by : (b : Bool) → apply (cond b (set_flag 1 ∷ []) []) s.tag ≡ cond b (put flag_at (1 ∷ []) s.tag) s.tag
    by true = unfold apply in refl
    by false = unfold apply in refl

pub refused_changes_nothing : (E : Cipher) (s : State) (c : Command) (n : ℕ) → refusal E s c ≡ Some n
    → RefusedChangesNothing E s c n
refused_changes_nothing E s c n e =
    let t = refused_tag E s c n e in
    record {
      number_alone = answer;
      same_output = λ out. ap (λ r. filled r out) answer ∙ (unfold filled in refl);
      same_session = (unfold after after_by in rw e);
      same_tag = λ h. t ∙ ap (λ b. cond b (put flag_at (1 ∷ []) s.tag) s.tag) (ne_eqb n 11 h);
      flag_set = λ h. flagged h t;
      other_bytes = λ i h. ap (byte i) t ∙ others i h (eqb n 11);
      same_length = ap length t ∙ as_long (eqb n 11);
    }
  where
    answer : reply E s c ≡ refused n
    answer = refused_reply E s c n e

    flagged : n ≡ 11 → (after E s c).tag ≡ cond (eqb n 11) (put flag_at (1 ∷ []) s.tag) s.tag
        → flag (after E s c).tag ≡ 1
    flagged h t =
        let w = eleven_sound E s c (e ∙ ap Some h) in
        let g = sound_long s.tag w in
        ap flag (t ∙ ap (λ b. cond b (put flag_at (1 ∷ []) s.tag) s.tag) (eq-eqb n 11 h))
        ∙ (unfold flag in byte_put flag_at 1 s.tag (omega arith))

    others : (i : ℕ) → i ≢ flag_at → (b : Bool) → byte i (cond b (put flag_at (1 ∷ []) s.tag) s.tag) ≡ byte i s.tag
    others i h true = byte_put_out flag_at (1 ∷ []) s.tag i (λ p q. h (omega arith))
    others i h false = refl

    as_long : (b : Bool) → length (cond b (put flag_at (1 ∷ []) s.tag) s.tag) ≡ length s.tag
    as_long true = length-put flag_at (1 ∷ []) s.tag
    as_long false = refl
