-- What a loop knows on its way through the words of a round or through the rounds, over the direction. Assumes nothing.
use Rattle.std.proofs.Common.{◌≡◌, ℕ, ◌+◌, ◌-◌, ◌<◌, ◌≤◌, ◌≢◌, List, length, get_or, set, sym, refl, ap, ◌∙◌, zero-le, le_refl, add-one, arith, length-set, get_or-set_other, get_or-set_same}
use Rattle.xxtea.specs.Xxtea.{mix, key_word, next, previous, mix_at, Direction, up, down, change, step, pass, round, sum_in, rounds_for, crypted}
use Rattle.xxtea.proofs.Laws.{opposite, next_inside, next_last, previous_inside, previous_first}

-- Of the numbers 0 to n - 1, those below k are done on the way up, and those below k are left on the way down.
abbrev pub Done : Direction → (ℕ → List ℕ → List ℕ) → ℕ → ℕ → List ℕ → List ℕ → Type 0
Done up f n k ws w = w ≡ pass up f k ws
Done down f n k ws w = pass down f k w ≡ pass down f n ws

-- this k at the start; at the end it is `outset (opposite d) n`
abbrev pub outset : Direction → ℕ → ℕ
outset up n = 0
outset down n = n

-- this k before number p; after it it is `bound (opposite d) p`
abbrev pub bound : Direction → ℕ → ℕ
bound up p = p
bound down p = p + 1

module _ (f : ℕ → List ℕ → List ℕ) (n : ℕ) (ws : List ℕ) where
  pub done_none : (d : Direction) → Done d f n (outset d n) ws ws
  unfolding pass
  done_none up = refl
  done_none down = refl

  pub done_more : (d : Direction) (p : ℕ) {w w' : List ℕ} → Done d f n (bound d p) ws w → w' ≡ f p w → Done d f n (bound (opposite d) p) ws w'
  unfolding pass
  done_more up p h e = rw add-one (e ∙ ap (f p) h)
  done_more down p h e = ap (pass down f p) e ∙ (rw add-one at h)

  pub done_all : (d : Direction) {w : List ℕ} → Done d f n (outset (opposite d) n) ws w → w ≡ pass d f n ws
  unfolding pass
  done_all up h = h
  done_all down h = h

-- the places of the neighbour that a round has left behind at word p, and of the word that it starts from
abbrev pub side : Direction → ℕ → ℕ → ℕ
side up = previous
side down = next

abbrev pub first : Direction → ℕ → ℕ
first up n = 0
first down n = n - 1

-- word q comes after word p
abbrev pub Follows : Direction → ℕ → ℕ → Type 0
Follows up p q = q ≡ p + 1
Follows down p q = p ≡ q + 1

follows_other : (d : Direction) (p q : ℕ) → Follows d p q → q ≢ p
follows_other up p q e = omega arith
follows_other down p q e = omega arith

follows_bound : (d : Direction) (p q : ℕ) → Follows d p q → bound (opposite d) p ≡ bound d q
follows_bound up p q e = sym e
follows_bound down p q e = e

-- then q is ahead of p, and p behind q
ahead : (d : Direction) (n p q : ℕ) → Follows d p q → p < n → q < n → side (opposite d) n p ≡ q
ahead up n p q e hp hq = next_inside n p (omega arith) ∙ sym e
ahead down n p q e hp hq = previous_inside n p (omega arith) hp ∙ (omega arith)

behind : (d : Direction) (n p q : ℕ) → Follows d p q → p < n → q < n → side d n q ≡ p
behind up n p q e hp hq = ahead down n q p e hq hp
behind down n p q e hp hq = ahead up n q p e hq hp

-- the words are in a circle
circle : (d : Direction) (n : ℕ) → 0 < n → side d n (first d n) ≡ first (opposite d) n
circle up n h = previous_first n 0 refl h
circle down n h = next_last n (n - 1) (omega arith) h

-- the mix, with the neighbour behind and the one ahead
abbrev pub mixed : Direction → ℕ → ℕ → ℕ → ℕ → ℕ
mixed up behind ahead = mix behind ahead
mixed down behind ahead = mix ahead behind

-- the store of a changed word is a step
stepped :
    (d : Direction) (key : List ℕ) (sum p : ℕ) (ws : List ℕ) {x b a m : ℕ}
    → x ≡ get_or ws p 0
    → b ≡ get_or ws (side d (length ws) p) 0
    → a ≡ get_or ws (side (opposite d) (length ws) p) 0
    → m ≡ mixed d b a sum (key_word key sum p)
    → set ws p (change d x m) ≡ step d key sum p ws
unfolding step mix_at
stepped up key sum p ws ex eb ea em = ap (set ws p) (cc)
stepped down key sum p ws ex eb ea em = ap (set ws p) (cc)

module _ (d : Direction) (key : List ℕ) (sum : ℕ) (ws : List ℕ) where
  -- A round that began with ws stands before word p of w: x is that word, b the neighbour behind it.
  pub record Stands (w : List ℕ) (p x b : ℕ) : Type 0 where
    pub inside : p < length ws
    pub size : length w ≡ length ws
    pub done : Done d (step d key sum) (length ws) (bound d p) ws w
    pub here : x ≡ get_or w p 0
    pub behind : b ≡ get_or w (side d (length ws) p) 0

first_inside : (d : Direction) (n : ℕ) → 0 < n → first d n < n
first_inside up n h = h
first_inside down n h = omega arith

first_bound : (d : Direction) (n : ℕ) → 0 < n → bound d (first d n) ≡ outset d n
first_bound up n h = refl
first_bound down n h = omega arith

opposite_twice : (d : Direction) → opposite (opposite d) ≡ d
opposite_twice up = refl
opposite_twice down = refl

module _ (d : Direction) (key : List ℕ) (sum : ℕ) (ws : List ℕ) where
  pub stands_first : 0 < length ws → Stands d key sum ws ws (first d (length ws)) (get_or ws (first d (length ws)) 0) (get_or ws (first (opposite d) (length ws)) 0)
  stands_first h =
      record {
        inside = first_inside d (length ws) h;
        size = refl;
        done = rw (first_bound d (length ws) h) (done_none (step d key sum) (length ws) ws d);
        here = refl;
        behind = sym (ap (λ (i : ℕ). get_or ws i 0) (circle d (length ws) h));
      }

  -- word p is changed by its mix m, which a, the word ahead, has gone into
  module _
      {w : List ℕ} {p x b : ℕ} (s : Stands d key sum ws w p x b)
      {a m : ℕ} (em : m ≡ mixed d b a sum (key_word key sum p))
    where
      store : a ≡ get_or w (side (opposite d) (length ws) p) 0 → set w p (change d x m) ≡ step d key sum p w
      store h = stepped d key sum p w s.here (rw s.size s.behind) (rw s.size h) em

      more : a ≡ get_or w (side (opposite d) (length ws) p) 0 → Done d (step d key sum) (length ws) (bound (opposite d) p) ws (set w p (change d x m))
      more h = done_more (step d key sum) (length ws) ws d p s.done (store h)

      pub stands_next : (q : ℕ) → Follows d p q → q < length ws → a ≡ get_or w q 0 → Stands d key sum ws (set w p (change d x m)) q a (change d x m)
      stands_next q f hq h =
          record {
            inside = hq;
            size = length-set w p (change d x m) ∙ s.size;
            done = rw (sym (follows_bound d p q f)) (more (rw (ahead d (length ws) p q f s.inside hq) h));
            here = h ∙ sym (get_or-set_other w p q _ 0 (follows_other d p q f));
            behind = rw (behind d (length ws) p q f s.inside hq) (sym (get_or-set_same w p _ 0 (omega (arith, s.size, s.inside))));
          }

      pub stands_last : p ≡ first (opposite d) (length ws) → a ≡ get_or w (first d (length ws)) 0 → set w p (change d x m) ≡ round d key sum ws
      unfolding round
      stands_last l h =
          let n = length ws in
          let pos : 0 < n = omega (arith, s.inside) in
          let ahead : side (opposite d) n p ≡ first d n = ap (side (opposite d) n) l ∙ circle (opposite d) n pos ∙ ap (λ (d : Direction). first d n) (opposite_twice d) in
          done_all (step d key sum) n ws d (rw (sym (first_bound (opposite d) n pos), sym l) (more (rw ahead h)))

-- The cipher, begun with ws, has come to w, and k is what `Done` says of the rounds.
pub record Rounds (d : Direction) (key ws w : List ℕ) (k : ℕ) : Type 0 where
  pub inside : k ≤ rounds_for (length ws)
  pub size : length w ≡ length ws
  pub done : Done d (λ r. round d key (sum_in (r + 1))) (rounds_for (length ws)) k ws w

outset_inside : (d : Direction) (n : ℕ) → outset d n ≤ n
outset_inside up n = zero-le
outset_inside down n = le_refl n

bound_inside : (d : Direction) (r n : ℕ) → r < n → bound d r ≤ n
bound_inside up r n h = omega arith
bound_inside down r n h = omega arith

module _ (d : Direction) (key ws : List ℕ) where
  pub rounds_first : Rounds d key ws ws (outset d (rounds_for (length ws)))
  rounds_first = record { inside = outset_inside d _; size = refl; done = done_none _ _ ws d }

  module _ {w : List ℕ} (r : ℕ) (s : Rounds d key ws w (bound d r)) (l : r < rounds_for (length ws)) where
    pub rounds_next : {w' : List ℕ} (sum : ℕ) → sum ≡ sum_in (r + 1) → w' ≡ round d key sum w → length w' ≡ length w → Rounds d key ws w' (bound (opposite d) r)
    rounds_next sum h e k =
        record {
          inside = bound_inside (opposite d) r _ l;
          size = k ∙ s.size;
          done = done_more _ _ ws d r s.done (e ∙ ap (λ (s : ℕ). round d key s w) h);
        }

  pub rounds_last : {w : List ℕ} → Rounds d key ws w (outset (opposite d) (rounds_for (length ws))) → w ≡ crypted d key ws
  unfolding crypted
  rounds_last s = done_all _ _ ws d s.done
