-- The rights that a unit asks for: the tests of 7 and 8 pass where they are held, and only there.
use mathlib.Core.Path.{◌≡◌, refl, sym, ap, ◌∙◌}
use mathlib.Core.Bool.{Bool, true, false, ◌&&◌, not}
use mathlib.Core.List.{List}
use Prim.Native.Nat.{ℕ}
use lib.Dec.{eqb}
use borrow.Author.Tests.{eqb-true, eq-eqb}
use Rattle.rules.specs.declared.Session.{Session}
use Rattle.rules.specs.Bytes.{same}
use Rattle.rules.specs.Units.{unit_of, name_of}
use Rattle.rules.specs.Claims.{MayRead, MayWrite}
use Rattle.rules.proofs.Tests.{true_false}
use Rattle.rules.proofs.BytesLaws.{same_refl, same_equal}

-- `have` is what must hold where `asked` is set
held : (asked have : Bool) → (asked ≡ true → have ≡ true) → (asked && not have) ≡ false
held true have f = ap not (f refl)
held false have f = refl

-- and back
holds : (asked have : Bool) → (asked && not have) ≡ false → asked ≡ true → have ≡ true
holds true true e f = refl
holds true false e f = true_false e
holds false have e f = true_false (sym f)

module _ (v : Session) (u : List ℕ) where
  abbrev NameTest : Type 0
  NameTest = ((unit_of u).pn && not (same v.name (name_of u))) ≡ false

  name_held : ((unit_of u).pn ≡ true → v.name ≡ name_of u) → NameTest
  name_held f = held (unit_of u).pn _ (λ e. ap (λ x. same x (name_of u)) (f e) ∙ same_refl (name_of u))

  pub may_read : MayRead v u → (((unit_of u).rdpin && not (eqb v.read (unit_of u).read)) ≡ false) × NameTest
  may_read m = (held (unit_of u).rdpin _ (λ e. eq-eqb _ _ (m.its_index e)), name_held m.its_name)

  pub may_write : MayWrite v u → (((unit_of u).wrpin && not (eqb v.write (unit_of u).write)) ≡ false) × NameTest
  may_write m = (held (unit_of u).wrpin _ (λ e. eq-eqb _ _ (m.its_index e)), name_held m.its_name)

  pub write_held : ((unit_of u).wrpin && not (eqb v.write (unit_of u).write)) ≡ false → NameTest → MayWrite v u
  write_held e f =
      record {
        its_index = λ h. eqb-true _ _ (holds (unit_of u).wrpin _ e h);
        its_name = λ h. same_equal _ _ (holds (unit_of u).pn _ f h);
      }
