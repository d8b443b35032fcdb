-- Demand 3 as a statement, in the senses of document 01, "How tight the answers are", for lists of commands; Calls.antt
-- and Runs.antt say it of calls and of runs over a log. It is to hold for every cipher `E` and every state `s` whose tag
-- is sound. Assumes nothing.
use Rattle.std.specs.Prelude.{ℕ, ◌+◌, ◌≤◌, ◌<◌, ◌≡◌, ◌≢◌, true, ◌&&◌, cond, length, eqb}
use mathlib.Core.List.{List, [], ◌∷◌, ◌++◌, Memᴰ}
use Rattle.rules.specs.declared.Model.TheVariants.{Counter}
use Rattle.rules.specs.Bytes.{number, part}
use Rattle.rules.specs.Map.{segments, slot_at, publics, segment_at}
use Rattle.rules.specs.Units.{well_formed, unit_bytes, unit_of}
use Rattle.rules.specs.State.{Cipher, State}
use Rattle.rules.specs.Command.{Command, Reply, read, write, done, gives, refused, advance, insert, power_up, after, reply}
use Rattle.rules.specs.Run.{final, replies}

-- ---- counter segments and their slots

-- "A counter segment is one whose well-formed unit has M set and model 2."
pub record CounterSegment (t : List ℕ) (k : ℕ) : Type 0 where
  pub there : k < segments t
  pub formed : well_formed (unit_bytes t k) ≡ true
  pub counts : (unit_of (unit_bytes t k)).model ≡ Counter

-- "A unit with nE set is locked"
pub record LockedCounter (t : List ℕ) (k : ℕ) : Type 0 where
  pub counter : CounterSegment t k
  pub locked : (unit_of (unit_bytes t k)).ne ≡ true

-- the address of slot j of segment k
abbrev pub slot : List ℕ → ℕ → ℕ → ℕ
slot t k j = slot_at (segments t) k j

-- "its value their whole number": of the slot at address x
abbrev pub value_at : ℕ → List ℕ → ℕ
value_at x t = number (part x 8 t)

-- 1 for a granted write to the slot at x, otherwise 0: "a write to it covers exactly these eight bytes"
unfoldable pub counted : ℕ → Command → Reply → ℕ
counted x (read a n room) r = 0
counted x (write a bs) done = cond (eqb a x && eqb (length bs) 8) 1 0
counted x (write a bs) (gives b) = 0
counted x (write a bs) (refused n) = 0
counted x (advance k) r = 0
counted x (insert k id) r = 0
counted x power_up r = 0

-- "the number of granted writes to it": "Grants are counted over the answers."
unfoldable pub grants : ℕ → List Command → List Reply → ℕ
grants x [] rs = 0
grants x (c ∷ cs) [] = 0
grants x (c ∷ cs) (r ∷ rs) = counted x c r + grants x cs rs

-- ---- copies

-- the list with copies put in: each entry is the list's own command or a copy
pub data Entry : Type 0 where
  own copy : Command → Entry

unfoldable pub with_copies : List Entry → List Command
with_copies [] = []
with_copies (own c ∷ es) = c ∷ with_copies es
with_copies (copy c ∷ es) = c ∷ with_copies es

unfoldable pub without_copies : List Entry → List Command
without_copies [] = []
without_copies (own c ∷ es) = c ∷ without_copies es
without_copies (copy c ∷ es) = without_copies es

-- of the answers to the list with copies: those to its own commands, and those to the copies
unfoldable pub own_replies : List Entry → List Reply → List Reply
own_replies [] rs = []
own_replies (e ∷ es) [] = []
own_replies (own c ∷ es) (r ∷ rs) = r ∷ own_replies es rs
own_replies (copy c ∷ es) (r ∷ rs) = own_replies es rs

unfoldable pub copy_replies : List Entry → List Reply → List Reply
copy_replies [] rs = []
copy_replies (e ∷ es) [] = []
copy_replies (own c ∷ es) (r ∷ rs) = copy_replies es rs
copy_replies (copy c ∷ es) (r ∷ rs) = r ∷ copy_replies es rs

pub data AllRefused : List Reply → Type 0 where
  none_left : AllRefused []
  one_more : {n : ℕ} {rs : List Reply} → AllRefused rs → AllRefused (refused n ∷ rs)

-- c writes a slot of a segment that is a locked counter segment of the tag t
pub data WritesLockedSlot (t : List ℕ) : Command → Type 0 where
  writes_slot : (k j : ℕ) (bs : List ℕ) → LockedCounter t k → j < 512 → length bs ≡ 8
      → WritesLockedSlot t (write (slot t k j) bs)

-- the commands granted so far, and c too if its answer is a grant
unfoldable pub with_granted : Reply → Command → List Command → List Command
with_granted done c cs = c ∷ cs
with_granted (gives b) c cs = c ∷ cs
with_granted (refused n) c cs = cs

-- "copies of granted writes to such slots .. each anywhere after its own write": t is the tag at the start, s the
-- state that the list's own commands have left, `before` those of them that were granted
abbrev pub CopiesOfGranted : Cipher → (t : List ℕ) (s : State) (before : List Command) → List Entry → Type 0
CopiesOfGranted E t s before [] = Unit {0}
CopiesOfGranted E t s before (own c ∷ es) = CopiesOfGranted E t (after E s c) (with_granted (reply E s c) c before) es
CopiesOfGranted E t s before (copy c ∷ es) =
    Memᴰ c before × WritesLockedSlot t c × CopiesOfGranted E t s before es

-- ---- neighbours

-- "each is a read or write wholly inside one access-controlled or public segment": segment k; the public ones count
-- on from A. Document 02, L4: insertion "is outside its exchange of neighbours"
abbrev pub Inside : List ℕ → ℕ → Command → Type 0
Inside t k (read a n room) =
    (k < segments t + publics t) × (segment_at (segments t) k ≤ a) × (a + n ≤ segment_at (segments t) k + 4096)
Inside t k (write a bs) =
    (k < segments t + publics t) × (segment_at (segments t) k ≤ a) × (a + length bs ≤ segment_at (segments t) k + 4096)
Inside t k (advance n) = ⊥
Inside t k (insert n id) = ⊥
Inside t k power_up = ⊥

-- "if either these segments differ or both commands write one whole slot, not the same one, of a counter segment"
pub data MayChangePlaces (t : List ℕ) : Command → Command → Type 0 where
  two_segments : {c d : Command} (k l : ℕ) → k ≢ l → Inside t k c → Inside t l d → MayChangePlaces t c d
  two_slots : (k i j : ℕ) (bs ds : List ℕ) → CounterSegment t k → i ≢ j → i < 512 → j < 512
      → length bs ≡ 8 → length ds ≡ 8 → MayChangePlaces t (write (slot t k i) bs) (write (slot t k j) ds)

-- ---- the demand

-- "holds its start value plus the number of granted writes to it": slot j of segment k
abbrev pub Counts : Cipher → State → List Command → (k j : ℕ) → Type 0
Counts E s cs k j =
    value_at (slot s.tag k j) (final E s cs).tag
    ≡ value_at (slot s.tag k j) s.tag + grants (slot s.tag k j) cs (replies E s cs)

-- "every copy is refused, and every other answer and the end state are the same as without them"
abbrev pub CopiesRefused : Cipher → State → List Entry → Type 0
CopiesRefused E s es =
    AllRefused (copy_replies es (replies E s (with_copies es)))
    × (own_replies es (replies E s (with_copies es)) ≡ replies E s (without_copies es))
    × (final E s (with_copies es) ≡ final E s (without_copies es))

-- c and d "may change places, with the same answers and end state"; "each keeps its own answer"
abbrev pub SameEitherWay : Cipher → State → (before : List Command) (c d : Command) (later : List Command) → Type 0
SameEitherWay E s before c d later =
    let r = reply E (final E s before) in
    (rs : List Reply)
    × (replies E s (before ++ c ∷ d ∷ later) ≡ replies E s before ++ r c ∷ r d ∷ rs)
    × (replies E s (before ++ d ∷ c ∷ later) ≡ replies E s before ++ r d ∷ r c ∷ rs)
    × (final E s (before ++ c ∷ d ∷ later) ≡ final E s (before ++ d ∷ c ∷ later))

-- "each slot of a segment that at the start is a counter segment with a locked unit"; copies "of granted writes to such
-- slots"; neighbours, where "what is a counter segment is judged just before the two"
pub record Demand3 (E : Cipher) (s : State) : Type 0 where
  pub counting : (cs : List Command) (k j : ℕ) → LockedCounter s.tag k → j < 512 → Counts E s cs k j
  pub copies : (es : List Entry) → CopiesOfGranted E s.tag s [] es → CopiesRefused E s es
  pub neighbours : (before : List Command) (c d : Command) (later : List Command)
      → MayChangePlaces (final E s before).tag c d → SameEitherWay E s before c d later
