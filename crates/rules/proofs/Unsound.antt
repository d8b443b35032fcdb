-- A tag that is not sound refuses every command but power-up, with 1; a sound one stays sound. Assumes nothing.
use Rattle.std.specs.Prelude.{Err}
use mathlib.Core.Path.{◌≡◌, refl, sym, ap, ◌∙◌}
use mathlib.Core.Bool.{Bool, true, false}
use Rattle.rules.specs.declared.Refusal.TheVariants as refusal
use Rattle.rules.specs.Map.{sound}
use Rattle.rules.specs.State.{Cipher, State}
use Rattle.rules.specs.Refusals.{lowest}
use Rattle.rules.specs.Effects.{apply, refusal_stores}
use Rattle.rules.specs.Command.{Command, read, write, advance, insert, power_up, refusal as refused-by, checks, after, after_by}
use Rattle.rules.specs.Calls.{CarriedOut}
use Rattle.rules.proofs.Lawful.{sound_stays}
use Rattle.rules.proofs.Moves.{power_up_clears}

abbrev pub Tested : Command → Type 0
Tested (read a n room) = Prim.Unit
Tested (write a bs) = Prim.Unit
Tested (advance k) = Prim.Unit
Tested (insert k id) = Prim.Unit
Tested power_up = ⊥

pub unsound : (E : Cipher) (s : State) (c : Command) → Tested c → sound s.tag ≡ false
    → CarriedOut E s c s.tag (record { answer = Err refusal.Unsound; session = s.session })
unfolding refused-by checks after after_by refusal_stores apply lowest
unsound E s (read a n room) p e = record { answered = rw e; left = rw e }
unsound E s (write a bs) p e = record { answered = rw e; left = rw e }
unsound E s (advance k) p e = record { answered = rw e; left = rw e }
unsound E s (insert k id) p e = record { answered = rw e; left = rw e }
unsound E s power_up p e = absurd p

-- ---- so whether a tag is sound stays as it is

unsound_stays : (E : Cipher) (s : State) (c : Command) → sound s.tag ≡ false → (after E s c).tag ≡ s.tag
unsound_stays E s (read a n room) e = sym (ap (λ x. x.tag) (unsound E s (read a n room) tt e).left)
unsound_stays E s (write a bs) e = sym (ap (λ x. x.tag) (unsound E s (write a bs) tt e).left)
unsound_stays E s (advance k) e = sym (ap (λ x. x.tag) (unsound E s (advance k) tt e).left)
unsound_stays E s (insert k id) e = sym (ap (λ x. x.tag) (unsound E s (insert k id) tt e).left)
unsound_stays E s power_up e = (power_up_clears E s).same_tag

pub sound_same : (E : Cipher) (s : State) (c : Command) → sound s.tag ≡ sound (after E s c).tag
sound_same E s c = by (sound s.tag) refl
  where
    by : (b : Bool) → sound s.tag ≡ b → sound s.tag ≡ sound (after E s c).tag
    by true e = e ∙ sym (sound_stays E s c e).stays_sound
    by false e = sym (ap sound (unsound_stays E s c e))
