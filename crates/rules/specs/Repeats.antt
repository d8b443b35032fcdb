-- Document 02, L1, "Tell a repeat from a gap": what a well-shaped write of a value is answered. Assumes nothing.
use Rattle.std.specs.Prelude.{ℕ, ◌+◌, ◌≤◌, ◌<◌, ◌≡◌, ◌≢◌, List, length, None, Some}
use Rattle.rules.specs.declared.Place.TheVariants.{Header, Segment}
use Rattle.rules.specs.Bytes.{number}
use Rattle.rules.specs.Map.{place_of}
use Rattle.rules.specs.Units.{unit_bytes}
use Rattle.rules.specs.State.{Cipher, State}
use Rattle.rules.specs.Command.{Command, write, checks, refusal, reply, refused, after, done}
use Rattle.rules.specs.Run.{final, replies}
use Rattle.rules.specs.Demand3.{CounterSegment, slot, value_at, grants}
use Rattle.rules.specs.Claims.{Applies, MayWrite}

-- where a value stands that may be written: in a slot of a counter segment whose rights are held, and at 4, the roll-back
-- counter
pub data ValuePlace (s : State) (a : ℕ) : Type 0 where
  in_slot : (k j : ℕ) → CounterSegment s.tag k → j < 512 → MayWrite s.session (unit_bytes s.tag k)
      → a ≡ slot s.tag k j → ValuePlace s a
  in_header : a ≡ 4 → ValuePlace s a

-- a write of eight bytes there, which is "a well-shaped slot or roll-back write": the next value is granted, "the very
-- value now stored" is 18, and "12 remains for the rest"; of another shape it is 12, in the header 4, whatever it holds; and
-- nothing else is 18
pub record RepeatTold (E : Cipher) (s : State) (a : ℕ) (bs : List ℕ) : Type 0 where
  pub next_granted : ValuePlace s a → length bs ≡ 8 → number bs ≡ value_at a s.tag + 1
      → refusal E s (write a bs) ≡ None
  pub repeat_told : ValuePlace s a → length bs ≡ 8 → number bs ≡ value_at a s.tag → refusal E s (write a bs) ≡ Some 18
  pub rest_refused : ValuePlace s a → length bs ≡ 8 → number bs ≢ value_at a s.tag
      → number bs ≢ value_at a s.tag + 1 → refusal E s (write a bs) ≡ Some 12
  pub shape_refused : (k : ℕ) → CounterSegment s.tag k → MayWrite s.session (unit_bytes s.tag k)
      → place_of s.tag a (length bs) ≡ Some (Segment k) → 1 ≤ length bs → (ValuePlace s a → length bs ≢ 8)
      → refusal E s (write a bs) ≡ Some 12
  pub header_refused : place_of s.tag a (length bs) ≡ Some Header → 1 ≤ length bs → (a ≡ 4 → length bs ≢ 8)
      → refusal E s (write a bs) ≡ Some 4
  pub told_only : refusal E s (write a bs) ≡ Some 18
      → ValuePlace s a × (length bs ≡ 8) × (number bs ≡ value_at a s.tag)

-- 12 and 18 never apply together
abbrev pub NeverBoth : Cipher → State → Command → Type 0
NeverBoth E s c = Applies 12 (checks E s c) → Applies 18 (checks E s c) → ⊥

-- a granted write to slot j of segment k, then commands of which none is a granted write to that slot, then a copy of
-- the write: it is told as a repeat, if the rights are held
abbrev pub CopyTold : Cipher → State → (k j : ℕ) → List ℕ → List Command → Type 0
CopyTold E s k j bs cs =
    let written = write (slot s.tag k j) bs in
    reply E s written ≡ done
    → grants (slot s.tag k j) cs (replies E (after E s written) cs) ≡ 0
    → let later = final E (after E s written) cs in
    MayWrite later.session (unit_bytes later.tag k) → reply E later written ≡ refused 18
