-- 19, test by test: the row that names a segment, and the tests of `refuses`. Assumes nothing.
use Prim.Native.Nat.{ℕ, ◌-◌, ◌≤◌}
use mathlib.Core.Path.{◌≡◌, refl, sym, ◌∙◌}
use mathlib.Core.Bool.{Bool, true, false, ◌&&◌}
use mathlib.Core.List.{List}
use borrow.Author.Tests.{le-leb}
use Rattle.rules.specs.declared.Unit.{Unit}
use Rattle.rules.specs.Bytes.{all}
use Rattle.rules.specs.Map.{segments}
use Rattle.rules.specs.Units.{unit_bytes, unit_of, well_formed}
use Rattle.rules.specs.Hosts.{Host}
use Rattle.rules.specs.Refusals.{is_inserted, row_fits}
use Rattle.std.specs.Prelude.{Some, None}
use Rattle.units.specs.Decoded.{decoded}
use Rattle.units.proofs.Laws.{decoded_whole, decoded_malformed}

-- a row that names the n-th segment, which is there
module _ (t : List ℕ) (h : Host) (n : ℕ) (e : n ≡ h.named) (low : 1 ≤ n) (high : n ≤ segments t) where
  row_decided : row_fits t h ≡ (well_formed (unit_bytes t (n - 1)) && is_inserted (unit_of (unit_bytes t (n - 1))).model)
  unfolding row_fits all
  row_decided =
      rw (← e, le-leb 1 n low, le-leb n (segments t) high)
      (last (well_formed (unit_bytes t (n - 1))) (is_inserted (unit_of (unit_bytes t (n - 1))).model))
    where
      last : (b c : Bool) → (b && (c && true)) ≡ (b && c)
      last true true = refl
      last true false = refl
      last false c = refl

  pub row_malformed : (u : List ℕ) → u ≡ unit_bytes t (n - 1) → decoded u ≡ None → false ≡ row_fits t h
  row_malformed u f d = sym (row_decided ∙ rw (← f, decoded_malformed u d))

  pub row_formed : (u : List ℕ) (x : Unit) → u ≡ unit_bytes t (n - 1) → decoded u ≡ Some x → is_inserted x.model ≡ row_fits t h
  row_formed u x f d =
      let w = decoded_whole u x d in
      sym (row_decided ∙ rw (← f, w.0, w.1))
