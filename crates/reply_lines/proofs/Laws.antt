-- The laws that the functions of `reply_lines` cite. Assumes nothing.
use Prim.Native.Nat.{ℕ, zero, suc, ◌+◌, ◌-◌, ◌*◌, ◌/◌, ◌%◌, ◌≤◌, ◌<◌, min}
use mathlib.Core.Path.{◌≡◌, refl, sym, ap, ◌∙◌}
use mathlib.Core.Bool.{Bool, true, false}
use mathlib.Core.List.{List, [], ◌∷◌, ◌++◌, append_assoc}
use native.Mathlib.Omega.{arith}
use native.Mathlib.Numerals.{add-one}
use lib.ListN.{length, get_or, drop, set, length-append, drop_of_length-le}
use lib.Seq.{drop-cons}
use lib.Dec.{leb}
use borrow.Author.Tests.{leb-true, leb-false}
use Rattle.rules.specs.Bytes.{part, put}
use Rattle.rules.specs.Command.{Reply, done, gives, refused}
use Rattle.rules.specs.Log.{count_of, data_length, encoded}
use Rattle.rules.proofs.BytesLaws.{length_part, length-put, put-append, put-none}
use Rattle.rules.proofs.RunLaws.{Readable, code_back}
use Rattle.octets.proofs.Laws.{set_put}
use Rattle.reply_lines.specs.Lines.{digit_of, pair_of, left_behind, mark_of, text_of, lines_in, lines_of, Stored}

-- ---- characters that are stored as far as the text has room

put_outside : (at : ℕ) (xs t : List ℕ) → length t ≤ at → put at xs t ≡ t
unfolding put
put_outside at xs [] h = refl
put_outside zero xs (x ∷ t) h = absurd (omega arith)
put_outside (suc at) xs (x ∷ t) h = ap (λ r. x ∷ r) (put_outside at xs t (omega arith))

pub stored_none : (at : ℕ) (t : List ℕ) → Stored at [] t t at
stored_none at t = record { stored = sym (put-none at t); on = omega arith }

pub stored_full : (at : ℕ) (xs t : List ℕ) → length t ≤ at → Stored at xs t t at
stored_full at xs t h = record { stored = sym (put_outside at xs t h); on = omega arith }

pub stored_one : (at v : ℕ) (t : List ℕ) → at < length t → Stored at (v ∷ []) t (set t at v) (at + 1)
stored_one at v t h = record { stored = set_put at v t; on = omega arith }

-- where the first do not fit, the second are not stored
put_on : (at n : ℕ) (ys t : List ℕ) → put (at + n) ys t ≡ put (at + min n (length t - at)) ys t
put_on at n ys t = by (leb (at + n) (length t)) refl
  where
    by : (b : Bool) → leb (at + n) (length t) ≡ b → put (at + n) ys t ≡ put (at + min n (length t - at)) ys t
    by true e =
        let h = leb-true (at + n) (length t) e in
        let k : min n (length t - at) ≡ n = omega arith in
        rw k
    by false e =
        let h = leb-false (at + n) (length t) e in
        put_outside (at + n) ys t (omega arith) ∙ sym (put_outside _ ys t (omega arith))

room_both : (at m n size : ℕ)
    → at + min m (size - at) + min n (size - (at + min m (size - at))) ≡ at + min (m + n) (size - at)
room_both at m n size = omega arith

pub stored_both : (at n to : ℕ) (xs ys t u v : List ℕ) → Stored at xs t u n → Stored n ys u v to
    → Stored at (xs ++ ys) t v to
stored_both at n to xs ys t u v p q =
    let same : length u ≡ length t = ap length p.stored ∙ length-put at xs t in
    record {
      stored =
          q.stored
          ∙ rw (p.on, p.stored)
          (sym (put-append at xs ys t ∙ put_on at (length xs) ys (put at xs t) ∙ rw (length-put at xs t)));
      on = q.on ∙ rw (same, p.on, length-append xs ys) (room_both at (length xs) (length ys) (length t));
    }

-- ---- pairs and marks

pub stored_pair : (at n to b x y : ℕ) (t u v : List ℕ) → x ≡ digit_of (b / 16) → y ≡ digit_of (b % 16)
    → Stored at (x ∷ []) t u n → Stored n (y ∷ []) u v to → Stored at (pair_of b) t v to
unfolding pair_of
stored_pair at n to b x y t u v e f p q =
    rw (sym e, sym f) (stored_both at n to (x ∷ []) (y ∷ []) t u v p q)

pub stored_same : (at to : ℕ) (xs ys t u : List ℕ) → ys ≡ xs → Stored at xs t u to → Stored at ys t u to
stored_same at to xs ys t u e s = rw e s

pub mark_end : (left after : ℕ) → after ≡ 0 → mark_of left after ≡ 10 ∷ []
unfolding mark_of
mark_end left zero e = refl
mark_end left (suc after) e = absurd (omega arith)

pub mark_space : (left after : ℕ) → left ≡ 0 → (after ≡ 0 → ⊥) → mark_of left after ≡ 32 ∷ []
unfolding mark_of
mark_space left zero e h = absurd (h refl)
mark_space zero (suc after) e h = refl
mark_space (suc left) (suc after) e h = absurd (omega arith)

pub mark_none : (left after : ℕ) → (left ≡ 0 → ⊥) → (after ≡ 0 → ⊥) → mark_of left after ≡ []
unfolding mark_of
mark_none left zero e h = absurd (h refl)
mark_none zero (suc after) e h = absurd (e refl)
mark_none (suc left) (suc after) e h = refl

-- ---- the walk: the first i bytes of the replies are stored up to `at`, and what is left leads to the result

pub record Printed (replies old text : List ℕ) (at left i : ℕ) : Type 0 where
  pub leads : (new : List ℕ) (to : ℕ) → Stored at (lines_in left (drop i replies)) text new to
      → Stored 0 (lines_of replies) old new to

pub print_first : (replies old : List ℕ) → Printed replies old old 0 0 0
print_first replies old = record { leads = λ new to s. s }

begun : (left b : ℕ) (bs : List ℕ)
    → lines_in left (b ∷ bs) ≡ text_of left (left_behind left b) b ++ lines_in (left_behind left b) bs
unfolding lines_in
begun left b bs = refl

-- one byte more
pub print_next : (replies old text new : List ℕ) (at left i after to : ℕ) → i < length replies
    → after ≡ left_behind left (get_or replies i 0)
    → Stored at (text_of left after (get_or replies i 0)) text new to
    → Printed replies old text at left i → Printed replies old new to after (i + 1)
print_next replies old text new at left i after to h a s p =
    record { leads = λ last end q. p.leads last end (rw one (stored_both at to end _ _ text new last s q)) }
  where
    one : lines_in left (drop i replies) ≡ text_of left after (get_or replies i 0) ++ lines_in after (drop (i + 1) replies)
    one = rw (add-one, a, drop-cons replies i 0 h) (begun left (get_or replies i 0) (drop (suc i) replies))

pub print_end : (replies old text : List ℕ) (at left i : ℕ) → length replies ≤ i → Printed replies old text at left i
    → (text ≡ put 0 (lines_of replies) old) × (at ≡ length (part 0 (length old) (lines_of replies)))
unfolding lines_in
print_end replies old text at left i h p =
    let none : lines_in left (drop i replies) ≡ [] = rw (drop_of_length-le replies {i = i} h) in
    let s = p.leads text at (rw none (stored_none at text)) in
    (s.stored, omega (arith, s.on, length_part 0 (length old) (lines_of replies)))

mark_short : (left after : ℕ) → length (mark_of left after) ≤ 1
unfolding mark_of
mark_short left zero = omega arith
mark_short zero (suc after) = omega arith
mark_short (suc left) (suc after) = omega arith

text_short : (left after b : ℕ) → length (text_of left after b) ≤ 3
unfolding text_of pair_of
text_short left after b = omega (arith, length-append (pair_of b) (mark_of left after), mark_short left after)

-- three characters for a byte suffice
pub lines_short : (left : ℕ) (bs : List ℕ) → length (lines_in left bs) ≤ 3 * length bs
unfolding lines_in
lines_short left [] = omega arith
lines_short left (b ∷ bs) =
    let after = left_behind left b in
    let rest = lines_in after bs in
    omega (arith, length-append (text_of left after b) rest, text_short left after b, lines_short after bs)

-- ---- whole replies: behind them nothing is left of one

unfoldable pub left_after : (left : ℕ) → List ℕ → ℕ
left_after left [] = left
left_after left (b ∷ bs) = left_after (left_behind left b) bs

abbrev pub WholeReplies : List ℕ → Type 0
WholeReplies bs = left_after 0 bs ≡ 0

pub none_whole : WholeReplies []
unfolding left_after
none_whole = refl

left_append : (left : ℕ) (xs ys : List ℕ) → left_after left (xs ++ ys) ≡ left_after (left_after left xs) ys
unfolding left_after
left_append left [] ys = refl
left_append left (x ∷ xs) ys = left_append (left_behind left x) xs ys

pub whole_append : (xs ys : List ℕ) → WholeReplies xs → WholeReplies ys → WholeReplies (xs ++ ys)
whole_append xs ys e f = left_append 0 xs ys ∙ ap (λ n. left_after n ys) e ∙ f

lines_in_append : (left : ℕ) (xs ys : List ℕ)
    → lines_in left (xs ++ ys) ≡ lines_in left xs ++ lines_in (left_after left xs) ys
unfolding lines_in left_after
lines_in_append left [] ys = refl
lines_in_append left (x ∷ xs) ys =
    let after = left_behind left x in
    ap (λ l. text_of left after x ++ l) (lines_in_append after xs ys)
    ∙ sym (append_assoc (text_of left after x) (lines_in after xs) _)

pub lines_append : (xs ys : List ℕ) → WholeReplies xs → lines_of (xs ++ ys) ≡ lines_of xs ++ lines_of ys
lines_append xs ys e = lines_in_append 0 xs ys ∙ ap (λ n. lines_of xs ++ lines_in n ys) e

-- as many bytes as are left
data_whole : (bs : List ℕ) → left_after (length bs) bs ≡ 0
unfolding left_after left_behind
data_whole [] = refl
data_whole (b ∷ bs) = data_whole bs

-- a reply that can be read back is whole
pub readable_whole : (r : Reply) → Readable r → WholeReplies (encoded r)
unfolding encoded left_after left_behind
readable_whole done h = (unfold data_length count_of in refl)
readable_whole (refused n) h = (unfold data_length count_of in refl)
readable_whole (gives bs) h = ap (λ n. left_after n bs) (code_back (length bs) h).count ∙ data_whole bs

-- ---- codes and what is left behind a byte

pub left_code : (left b n : ℕ) → left ≡ 0 → n ≡ data_length b → n ≡ left_behind left b
unfolding left_behind
left_code zero b n e h = h
left_code (suc left) b n e h = absurd (omega arith)

pub left_data : (left b : ℕ) → (left ≡ 0 → ⊥) → left - 1 ≡ left_behind left b
unfolding left_behind
left_data zero b h = absurd (h refl)
left_data (suc left) b h = omega arith
