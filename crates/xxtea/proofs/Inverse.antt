-- Each direction undoes the other on every list of words, by one argument over the direction. Assumes nothing.
use Rattle.std.proofs.Common.{◌≡◌, ℕ, zero, suc, ◌+◌, ◌^◌, ◌<◌, ◌≤◌, Bool, true, false, ◌≢◌, List, length, get_or, set, refl, ap, ◌∙◌, le_refl, lt_of_not-le, arith, length-set, get_or-set_other, get_or-set_same, set-set}
use Rattle.std.proofs.Math.Decide.{dec_le, ℕ_discrete}
use Rattle.std.proofs.lemmas.List.{set-get_or}
use Rattle.std.proofs.lemmas.Nat.{xor_lt}
use Rattle.std.specs.Prelude.{bit_xor}
use Rattle.xxtea.specs.Xxtea.{plus, shift_left, shift_right, sum_in, mix, next, previous, mix_at, Direction, up, down, change, step, pass, round, crypted, taken, rounds_for}
use Rattle.xxtea.specs.Claims.{Words, EachUndoesTheOther, RefusedUnchanged}
use Rattle.xxtea.proofs.Laws.{opposite, next_inside, next_last, previous_inside, previous_first, taken_both, rounds_taken}

-- what holds of the list is kept by a pass that keeps it at each step, and steps that are undone one by one are undone together
module _ (Holds : List ℕ → Type 0) (f g : ℕ → List ℕ → List ℕ) where
  Kept : ℕ → Type 0
  Kept n = (p : ℕ) (ws : List ℕ) → p < n → Holds ws → Holds (f p ws)

  Undone : ℕ → Type 0
  Undone n = (p : ℕ) (ws : List ℕ) → p < n → Holds ws → g p (f p ws) ≡ ws

  pass_kept : (d : Direction) (n : ℕ) → Kept n → (ws : List ℕ) → Holds ws → Holds (pass d f n ws)
  unfolding pass Kept
  pass_kept up zero k ws h = h
  pass_kept up (suc n) k ws h = k n _ (le_refl _) (pass_kept up n (λ p v l. k p v (omega arith)) ws h)
  pass_kept down zero k ws h = h
  pass_kept down (suc n) k ws h = pass_kept down n (λ p v l. k p v (omega arith)) (f n ws) (k n ws (le_refl _) h)

  pass-undone : (d : Direction) (n : ℕ) → Kept n → Undone n → (ws : List ℕ) → Holds ws → pass (opposite d) g n (pass d f n ws) ≡ ws
  unfolding pass Kept Undone
  pass-undone up zero k u ws h = refl
  pass-undone up (suc n) k u ws h =
      ap (pass down g n) (u n _ (le_refl _) (pass_kept up n (λ p v l. k p v (omega arith)) ws h))
      ∙ pass-undone up n (λ p v l. k p v (omega arith)) (λ p v l. u p v (omega arith)) ws h
  pass-undone down zero k u ws h = refl
  pass-undone down (suc n) k u ws h =
      ap (g n) (pass-undone down n (λ p v l. k p v (omega arith)) (λ p v l. u p v (omega arith)) (f n ws) (k n ws (le_refl _) h))
      ∙ u n ws (le_refl _) h

-- a changed word is a word, and changing it back gives what it was
change_word : (d : Direction) (x m : ℕ) → change d x m < 2 ^ 32
change_word up x m = omega arith
change_word down x m = omega arith

change-undone : (d : Direction) (x m : ℕ) → x < 2 ^ 32 → m < 2 ^ 32 → change (opposite d) (change d x m) m ≡ x
change-undone up x m hx hm = omega arith
change-undone down x m hx hm = omega arith

mix_word : (z y sum k : ℕ) → mix z y sum k < 2 ^ 32
unfolding mix
mix_word z y sum k =
    let a = plus (bit_xor (shift_right z 5) (shift_left y 2)) (bit_xor (shift_right y 3) (shift_left z 4)) in
    let b = plus (bit_xor sum y) (bit_xor k z) in
    xor_lt 32 a b (omega arith) (omega arith)

mix_at_word : (key : List ℕ) (sum p : ℕ) (ws : List ℕ) → mix_at key sum p ws < 2 ^ 32
unfolding mix_at
mix_at_word key sum p ws = mix_word _ _ _ _

-- no word of two or more is its own neighbour
module _ (n p : ℕ) (two : 2 ≤ n) (l : p < n) where
  next_other : next n p ≢ p
  next_other = go (dec_le n (p + 1))
    where
      go : Dec (n ≤ p + 1) → next n p ≢ p
      go (yes h) = let e = next_last n p (omega arith) (omega arith) in omega arith
      go (no h) = let e = next_inside n p (lt_of_not-le h) in omega arith

  previous_other : previous n p ≢ p
  previous_other = go (dec_le 1 p)
    where
      go : Dec (1 ≤ p) → previous n p ≢ p
      go (yes h) = let e = previous_inside n p h l in omega arith
      go (no h) = let q = lt_of_not-le h in let e = previous_first n p (omega arith) (omega arith) in omega arith

-- n words
record Block (n : ℕ) (ws : List ℕ) : Type 0 where
  size : length ws ≡ n
  words : Words ws

module _ (key : List ℕ) (n : ℕ) (two : 2 ≤ n) where
  module _ (p : ℕ) (ws : List ℕ) (l : p < n) (b : Block n ws) where
    inside : p < length ws
    inside = omega (arith, b.size)

    -- the mix for word p does not look at word p
    mix_set : (sum v : ℕ) → mix_at key sum p (set ws p v) ≡ mix_at key sum p ws
    unfolding mix_at
    mix_set sum v =
        simp (length-set, b.size, get_or-set_other ws p _ v 0 (next_other n p two l), get_or-set_other ws p _ v 0 (previous_other n p two l))

    set_kept : (v : ℕ) → v < 2 ^ 32 → Block n (set ws p v)
    set_kept v hv = record { size = length-set ws p v ∙ b.size; words = λ i h. go i (rw length-set at h) (ℕ_discrete i p) }
      where
        go : (i : ℕ) → i < length ws → Dec (i ≡ p) → get_or (set ws p v) i 0 < 2 ^ 32
        go i h (yes e) = rw (e, get_or-set_same ws p v 0 inside) hv
        go i h (no o) = rw (get_or-set_other ws p i v 0 o) (b.words i h)

    step_kept : (d : Direction) (sum : ℕ) → Block n (step d key sum p ws)
    unfolding step
    step_kept d sum = set_kept _ (change_word d _ _)

    step-undone : (d : Direction) (sum : ℕ) → step (opposite d) key sum p (step d key sum p ws) ≡ ws
    unfolding step
    step-undone d sum =
        let back = change-undone d (get_or ws p 0) (mix_at key sum p ws) (b.words p inside) (mix_at_word key sum p ws) in
        set-set ws p _ _ ∙ ap (set ws p) (rw (get_or-set_same ws p _ 0 inside, mix_set sum) back) ∙ set-get_or ws p 0

  round_kept : (d : Direction) (sum : ℕ) (ws : List ℕ) → Block n ws → Block n (round d key sum ws)
  unfolding round Kept
  round_kept d sum ws b = rw b.size (pass_kept (Block n) (step d key sum) (step d key sum) d n (λ p v l k. step_kept p v l k d sum) ws b)

  round-undone : (d : Direction) (sum : ℕ) (ws : List ℕ) → Block n ws → round (opposite d) key sum (round d key sum ws) ≡ ws
  unfolding round Kept Undone
  round-undone d sum ws b =
      let s = (round_kept d sum ws b).size in
      rw (s, b.size) (pass-undone (Block n) (step d key sum) (step (opposite d) key sum) d n (λ p v l k. step_kept p v l k d sum) (λ p v l k. step-undone p v l k d sum) ws b)

  abbrev rounds : Direction → ℕ → List ℕ → List ℕ
  rounds d r = round d key (sum_in (r + 1))

  crypted_kept : (d : Direction) (m : ℕ) → Kept (Block n) (rounds d) (rounds (opposite d)) m
  unfolding Kept
  crypted_kept d m r ws l b = round_kept d (sum_in (r + 1)) ws b

  crypted-undone : (d : Direction) (ws : List ℕ) → Block n ws → crypted (opposite d) key (crypted d key ws) ≡ ws
  unfolding crypted Undone
  crypted-undone d ws b =
      let kept = crypted_kept d (rounds_for n) in
      let s = (pass_kept (Block n) (rounds d) (rounds (opposite d)) d (rounds_for n) kept ws b).size in
      rw (b.size, s) (pass-undone (Block n) (rounds d) (rounds (opposite d)) d (rounds_for n) kept (λ r v l k. round-undone d (sum_in (r + 1)) v k) ws b)

  crypted_block : (d : Direction) (ws : List ℕ) → Block n ws → Block n (crypted d key ws)
  unfolding crypted
  crypted_block d ws b =
      rw b.size (pass_kept (Block n) (rounds d) (rounds (opposite d)) d (rounds_for n) (crypted_kept d (rounds_for n)) ws b)

-- words stay words
pub crypted_words : (d : Direction) (key ws : List ℕ) → 2 ≤ length ws → Words ws → Words (crypted d key ws)
crypted_words d key ws two words = (crypted_block key (length ws) two d ws (record { size = refl; words = words })).words

-- and as many, whatever the list holds
module _ (d : Direction) (key : List ℕ) (n : ℕ) where
  Long : List ℕ → Type 0
  Long ws = length ws ≡ n

  step-length : (sum p : ℕ) (ws : List ℕ) → Long ws → Long (step d key sum p ws)
  unfolding step Long
  step-length sum p ws e = length-set ws p _ ∙ e

  round-length : (sum : ℕ) (ws : List ℕ) → Long ws → Long (round d key sum ws)
  unfolding round Kept
  round-length sum ws e =
      pass_kept Long (step d key sum) (λ p v. v) d (length ws) (λ p v l k. step-length sum p v k) ws e

pub crypted-length : (d : Direction) (key ws : List ℕ) → length (crypted d key ws) ≡ length ws
unfolding crypted Kept Long
crypted-length d key ws =
    pass_kept (Long d key (length ws)) (λ r. round d key (sum_in (r + 1))) (λ r v. v) d (rounds_for (length ws))
    (λ r v l e. round-length d key (length ws) (sum_in (r + 1)) v e) ws refl

-- a refused list gets no round
pub refused_unchanged : RefusedUnchanged
unfolding crypted pass
refused_unchanged up key ws e = rw (rounds_taken (length ws) false e)
refused_unchanged down key ws e = rw (rounds_taken (length ws) false e)

pub undone : (d : Direction) (key ws : List ℕ) → Words ws → crypted (opposite d) key (crypted d key ws) ≡ ws
undone d key ws words = go (taken (length ws)) refl
  where
    go : (t : Bool) → taken (length ws) ≡ t → crypted (opposite d) key (crypted d key ws) ≡ ws
    go true e = crypted-undone key (length ws) (taken_both (length ws) e).0 d ws (record { size = refl; words = words })
    go false e = ap (crypted (opposite d) key) (refused_unchanged d key ws e) ∙ refused_unchanged (opposite d) key ws e

pub each_undoes_the_other : EachUndoesTheOther
each_undoes_the_other = record { deciphering = undone up; enciphering = undone down }
