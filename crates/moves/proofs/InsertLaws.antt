-- Laws on insertions that the judge and the command cite. Assumes nothing.
use Rattle.std.specs.Prelude.{None, Some}
use Prim.Native.Nat.{ℕ, ◌<◌, ◌≤◌}
use mathlib.Core.Path.{◌≡◌, refl, sym, ap, ◌∙◌}
use mathlib.Core.Bool.{Bool, true, false, ◌&&◌, not}
use mathlib.Core.List.{List}
use lib.Dec.{eqb}
use borrow.Author.Tests.{le-ltb, lt-ltb}
use Rattle.rules.specs.declared.Unit.{Unit}
use Rattle.rules.specs.Bytes.{same}
use Rattle.rules.specs.Map.{sound, segments}
use Rattle.rules.specs.Units.{unit_bytes, name_of}
use Rattle.rules.specs.Hosts.{hosts}
use Rattle.rules.specs.State.{Cipher, State, state}
use Rattle.rules.specs.Refusals.{◌when◌else◌, granted, lowest, is_filling, list_refuses, insert_checks}
use Rattle.rules.specs.Effects.{apply, insert_stores}
use Rattle.rules.specs.Command.{insert, checks, refusal, after, after_by, stores, new_session}
use Rattle.rules.proofs.Tests.{gives, leaves}
use Rattle.rules.proofs.Refused.{not_11, refused_stays}
use Rattle.units.specs.Decoded.{decoded}
use Rattle.units.proofs.Laws.{decoded_whole}
use Rattle.units.proofs.FormLaws.{formless, formed}

-- ---- the checks, by what the unit is decoded to

pub insert_formless : (i : ℕ) (name t : List ℕ) (k : ℕ) (id u : List ℕ) → u ≡ unit_bytes t k → decoded u ≡ None
    → lowest (insert_checks i name t k id) ≡ Some 5
unfolding insert_checks
insert_formless i name t k id u e d = formless (unit_bytes t k) _ (ap decoded (sym e) ∙ d)

pub insert_by : (i : ℕ) (name t : List ℕ) (k : ℕ) (id u : List ℕ) (x : Unit) (named : Bool) → u ≡ unit_bytes t k
    → decoded u ≡ Some x → named ≡ same name (name_of u)
    → lowest (insert_checks i name t k id)
    ≡ lowest (6 when false else 7 when x.wrpin && not (eqb i x.write) else 8 when x.pn && not named else
    14 when not (is_filling x.model) else 19 when list_refuses t k id (hosts t) else granted)
unfolding insert_checks
insert_by i name t k id u x named e d f =
    rw (← e) (formed u x _ d ∙ rw ((decoded_whole u x d).1, f) (sym (leaves 6 false _ refl)))

-- ---- the command

module _ (E : Cipher) (s : State) (k : ℕ) (id : List ℕ) where
  pub insert_outside : (m : ℕ) → sound s.tag ≡ true → m ≡ segments s.tag → m ≤ k
      → refusal E s (insert k id) ≡ Some 3
  unfolding refusal checks
  insert_outside m w e h = leaves 1 _ _ (ap not w) ∙ gives 3 _ _ (rw (← e) (ap not (le-ltb k m h)))

  pub insert_placed : sound s.tag ≡ true → k < segments s.tag
      → refusal E s (insert k id) ≡ lowest (insert_checks s.session.write s.session.name s.tag k id)
  unfolding refusal checks
  insert_placed w h = leaves 1 _ _ (ap not w) ∙ leaves 3 _ _ (ap not (lt-ltb _ _ h))

  pub insert_refused : (m : ℕ) → refusal E s (insert k id) ≡ Some m → s ≡ after E s (insert k id)
  insert_refused m e = sym (refused_stays E s (insert k id) m e (not_11 E s (insert k id) refl m e))

  pub insert_granted : (t : List ℕ) → refusal E s (insert k id) ≡ None → t ≡ apply (insert_stores s.tag k id) s.tag
      → state t s.session ≡ after E s (insert k id)
  unfolding after after_by stores new_session
  insert_granted t e f = rw (e, f)
