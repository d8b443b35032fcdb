-- Laws of a list of stores: what it leaves as it was.
use Prim.Native.Nat.{ℕ}
use mathlib.Core.Path.{◌≡◌, refl, ap, ◌∙◌}
use mathlib.Core.List.{List, [], ◌∷◌}
use lib.ListN.{length}
use Rattle.rules.specs.Bytes.{part, put, Apart}
use Rattle.rules.specs.Effects.{Store, ◌↤◌, apply}
use Rattle.rules.proofs.BytesLaws.{part-put, put_comm}

abbrev pub Each : (Store → Type 0) → List Store → Type 0
Each P [] = Unit {0}
Each P (s ∷ ss) = P s × Each P ss

pub each_map : (P Q : Store → Type 0) (ss : List Store) → ((x : ℕ) (ys : List ℕ) → P (x ↤ ys) → Q (x ↤ ys)) → Each P ss
    → Each Q ss
each_map P Q [] f h = tt
each_map P Q ((x ↤ ys) ∷ ss) f h = (f x ys h.0, each_map P Q ss f h.1)

-- a store that touches none of the n bytes at x
abbrev pub Off : ℕ → ℕ → Store → Type 0
Off x n (a ↤ bs) = Apart a (length bs) x n

pub apply-part : (x n : ℕ) (ss : List Store) (t : List ℕ) → Each (Off x n) ss → part x n (apply ss t) ≡ part x n t
unfolding apply
apply-part x n [] t h = refl
apply-part x n ((a ↤ bs) ∷ ss) t h = apply-part x n ss (put a bs t) h.1 ∙ part-put x n a bs t h.0

-- a store that touches nothing that a list of stores touches may come before it or after it
pub apply-put : (a : ℕ) (bs : List ℕ) (ss : List Store) (t : List ℕ) → Each (Off a (length bs)) ss
    → apply ss (put a bs t) ≡ put a bs (apply ss t)
unfolding apply
apply-put a bs [] t h = refl
apply-put a bs ((x ↤ ys) ∷ ss) t h = ap (apply ss) (put_comm x a ys bs t h.0) ∙ apply-put a bs ss (put x ys t) h.1
