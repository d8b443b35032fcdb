-- Document 01, "What a command does" and "Refusal numbers": what refuses a command in a place, 4 to 14; document 02, L1:
-- a value written again, 18; L4: what refuses an insertion, 19 among it. Assumes nothing. `t` is the tag, `u` the bytes of
-- a unit, `bs` the bytes to be written; `read`, `write`, `edit` and `name` are the session's.
use Rattle.std.specs.Prelude.{ℕ, ◌+◌, ◌-◌, ◌%◌, Bool, true, false, ◌&&◌, ◌||◌, not, cond, List, [], ◌∷◌, length, eqb, leb, ltb, None, Option, Some}
use Rattle.rules.specs.declared.Stage.TheVariants.{Zero, One, Two}
use Rattle.rules.specs.declared.KeyStage.TheVariants.{Filling, Inserted}
use Rattle.rules.specs.declared.Model.{Model}
use Rattle.rules.specs.declared.Model.TheVariants.{Default, WriteOnce, Counter, Receiver, SharedKey}
use Rattle.rules.specs.declared.Register.{Register}
use Rattle.rules.specs.declared.Register.TheVariants.{Write, Read, Edit, Name, Id, Commit, Pa}
use Rattle.rules.specs.declared.Place.{Place}
use Rattle.rules.specs.declared.Place.TheVariants.{Header, Hidden, RegisterOf, Pins, Readers, UnitOf, Spare, Segment, Public}
use Rattle.rules.specs.Bytes.{number, part, same, zeros, all, byte, put}
use Rattle.rules.specs.Map.{counter_bytes, flag, unit_at, segment_at, segments}
use Rattle.rules.specs.Units.{well_formed, unit_of, name_of, modelled, unit_bytes}
use Rattle.rules.specs.Hosts.{Host, hosts, most_hosts, has_id, any, listed, repeats, readable}
use Rattle.rules.specs.State.{pin, response, Cipher, State, pin_index, owner, owner_index, guard}

-- ---- the table's numbers, each with when it is given, in ascending order

infixr 20 ◌when◌else◌
pub data Checks : Type 0 where
  granted : Checks
  ◌when◌else◌ : ℕ → Bool → Checks → Checks

-- "The lowest refusal number that applies is given."
unfoldable pub lowest : Checks → Option ℕ
lowest granted = None
lowest (n when true else cs) = Some n
lowest (n when false else cs) = lowest cs

-- "place never takes it"
abbrev pub never : Checks
never = 4 when true else granted

-- ---- "Header: .. the only write is eight bytes at 4, which must be the counter plus one as a whole number"

-- the bytes hold the value after that of the old ones, as whole numbers, so that nothing wraps
unfoldable pub is_next : List ℕ → List ℕ → Bool
is_next old bs = eqb (number bs) (number old + 1)

-- they hold the value of the old ones
unfoldable pub is_repeat : List ℕ → List ℕ → Bool
is_repeat old bs = eqb (number bs) (number old)

-- a write over a stored value, well shaped or not. Document 02, L1: "When a well-shaped slot or roll-back write holds the
-- very value now stored, give new refusal 18; 12 remains for the rest."
unfoldable pub value_checks : (shaped : Bool) (old bs : List ℕ) → Checks
value_checks shaped old bs =
    12 when not (shaped && (is_next old bs || is_repeat old bs)) else
    18 when shaped && is_repeat old bs else
    granted

unfoldable pub header_write_checks : List ℕ → ℕ → List ℕ → Checks
header_write_checks t a bs =
    4 when not (eqb a 4 && eqb (length bs) 8) else
    value_checks true (counter_bytes t) bs

-- ---- "Segment read: RD set; if RDPIN, the validated read index equals the unit's; if PN, the session name equals
-- the unit's." Document 02, L4: "a read there gets 6 unless its segment is listed and it lies wholly in slots of listed
-- rows, none naming that segment"

unfoldable pub is_shared_key : Model → Bool
is_shared_key Default = false
is_shared_key WriteOnce = false
is_shared_key Counter = false
is_shared_key (Receiver g) = false
is_shared_key (SharedKey g) = true

-- by its model: of the n bytes at offset o of segment k
unfoldable pub hides : Model → (k o n : ℕ) → List Host → Bool
hides m k o n hs = is_shared_key m && not (readable k o n hs)

-- `o` and `n` are the offset in segment k and the count
unfoldable pub segment_read_checks : (read : ℕ) (name u : List ℕ) (k o n : ℕ) → List Host → Checks
segment_read_checks read name u k o n hs =
    5 when not (well_formed u) else
    6 when not (unit_of u).rd else
    6 when hides (unit_of u).model k o n hs else
    7 when (unit_of u).rdpin && not (eqb read (unit_of u).read) else
    8 when (unit_of u).pn && not (same name (name_of u)) else
    granted

-- ---- "Segment write: the same with WR, WRPIN and the write index."

-- "Model 2 takes one aligned slot of eight bytes holding the old value plus one": `bs` for `old` at offset `o` of the
-- segment
unfoldable pub slot_checks : Model → ℕ → List ℕ → List ℕ → Checks
slot_checks Default o old bs = granted
slot_checks WriteOnce o old bs = granted
slot_checks Counter o old bs = value_checks (eqb (o % 8) 0 && eqb (length bs) 8) old bs
slot_checks (Receiver g) o old bs = granted
slot_checks (SharedKey g) o old bs = granted

unfoldable pub segment_write_checks : (write : ℕ) (name u : List ℕ) (o : ℕ) (old bs : List ℕ) → Checks
segment_write_checks write name u o old bs =
    5 when not (well_formed u) else
    6 when not (unit_of u).wr else
    7 when (unit_of u).wrpin && not (eqb write (unit_of u).write) else
    8 when (unit_of u).pn && not (same name (name_of u)) else
    slot_checks (unit_of u).model o old bs

-- ---- "Unit read: allowed, but with PN set no byte of the name": the bytes end at offset `o` of the unit

unfoldable pub unit_read_checks : List ℕ → ℕ → Checks
unit_read_checks u o =
    5 when not (well_formed u) else
    6 when (unit_of u).pn && ltb 16 o else
    granted

-- ---- "Unit edit: nE clear, the validated edit index equal to the unit's (as it was before the edit), and the result
-- well formed."

unfoldable pub is_receiver : Model → Bool
is_receiver Default = false
is_receiver WriteOnce = false
is_receiver Counter = false
is_receiver (Receiver g) = true
is_receiver (SharedKey g) = false

unfoldable pub past_stage_zero : Model → Bool
past_stage_zero Default = false
past_stage_zero WriteOnce = false
past_stage_zero Counter = false
past_stage_zero (Receiver Zero) = false
past_stage_zero (Receiver One) = true
past_stage_zero (Receiver Two) = true
past_stage_zero (SharedKey Filling) = false
past_stage_zero (SharedKey Inserted) = true

unfoldable pub same_bool : Bool → Bool → Bool
same_bool true b = b
same_bool false b = not b

-- "If it was model 3 with M, then M, RD, WR and byte 1 must stay"
unfoldable pub keeps_model : List ℕ → List ℕ → Bool
keeps_model u w =
    all (
    same_bool (modelled u) (modelled w)
    ∷ same_bool (unit_of u).rd (unit_of w).rd
    ∷ same_bool (unit_of u).wr (unit_of w).wr
    ∷ eqb (byte 1 u) (byte 1 w)
    ∷ [])

-- the edit that turns `u`, of model `m`, into `w`; "if it becomes model 3, its stage is 0"; document 02, L4: "an edit's
-- result holds it only at stage 0"
unfoldable pub edit_allowed : Model → (u w : List ℕ) → Bool
edit_allowed m u w =
    all (well_formed w ∷ cond (is_receiver m) (keeps_model u w) (not (past_stage_zero (unit_of w).model)) ∷ [])

-- document 02, L4: "an edit of a listed segment's unit is refused 13"
unfoldable pub edit_checks : (edit : ℕ) (inList : Bool) (u w : List ℕ) → Checks
edit_checks edit inList u w =
    5 when not (well_formed u) else
    6 when (unit_of u).ne else
    7 when not (eqb edit (unit_of u).edit) else
    13 when inList else
    13 when not (edit_allowed (unit_of u).model u w) else
    granted

-- ---- "Advance (segment number): model 3 only, stage 0 to 1, 1 to 2 .. WRPIN and PN are checked as for a write, nE
-- and WR are not."

unfoldable pub can_advance : Model → Bool
can_advance Default = false
can_advance WriteOnce = false
can_advance Counter = false
can_advance (Receiver Zero) = true
can_advance (Receiver One) = true
can_advance (Receiver Two) = false
can_advance (SharedKey g) = false

unfoldable pub advance_checks : (write : ℕ) (name u : List ℕ) → Checks
advance_checks write name u =
    5 when not (well_formed u) else
    7 when (unit_of u).wrpin && not (eqb write (unit_of u).write) else
    8 when (unit_of u).pn && not (same name (name_of u)) else
    14 when not (can_advance (unit_of u).model) else
    granted

-- ---- document 02, L4, insertion of a host: "checked for a well-formed unit (5), WRPIN and PN as a write is, 14 if the
-- segment isn't model 4 at stage 0, and refusal 19"; neither WR nor nE is looked at

unfoldable pub is_filling : Model → Bool
is_filling Default = false
is_filling WriteOnce = false
is_filling Counter = false
is_filling (Receiver g) = false
is_filling (SharedKey Filling) = true
is_filling (SharedKey Inserted) = false

unfoldable pub is_inserted : Model → Bool
is_inserted Default = false
is_inserted WriteOnce = false
is_inserted Counter = false
is_inserted (Receiver g) = false
is_inserted (SharedKey Filling) = false
is_inserted (SharedKey Inserted) = true

-- a row whose segment is "a well-formed model 4 at stage 1"
unfoldable pub row_fits : List ℕ → Host → Bool
row_fits t h =
    all (
    leb 1 h.named
    ∷ leb h.named (segments t)
    ∷ well_formed (unit_bytes t (h.named - 1))
    ∷ is_inserted (unit_of (unit_bytes t (h.named - 1))).model
    ∷ [])

abbrev pub misfit : List ℕ → Host → Bool
misfit t h = not (row_fits t h)

-- 19: "a listed or zero id, a listed segment, a full list, or a list with a repeated id or segment or a row whose segment
-- isn't a well-formed model 4 at stage 1". An id has 16 bytes; a call and a log give no other.
unfoldable pub list_refuses : List ℕ → (k : ℕ) (id : List ℕ) → List Host → Bool
list_refuses t k id hs =
    not (all (
    eqb (length id) 16
    ∷ not (zeros id)
    ∷ not (any (has_id id) hs)
    ∷ not (listed k hs)
    ∷ ltb (length hs) most_hosts
    ∷ not (repeats hs)
    ∷ not (any (misfit t) hs)
    ∷ []))

unfoldable pub insert_checks : (write : ℕ) (name : List ℕ) (t : List ℕ) (k : ℕ) (id : List ℕ) → Checks
insert_checks write name t k id =
    5 when not (well_formed (unit_bytes t k)) else
    7 when (unit_of (unit_bytes t k)).wrpin && not (eqb write (unit_of (unit_bytes t k)).write) else
    8 when (unit_of (unit_bytes t k)).pn && not (same name (name_of (unit_bytes t k))) else
    14 when not (is_filling (unit_of (unit_bytes t k)).model) else
    19 when list_refuses t k id (hosts t) else
    granted

-- ---- registers: a write of `bs` to one, with the PIN index `i` that PA names

-- "READ, WRITE, EDIT: flag must be 0 .. If the 16 bytes equal E_PIN(counter) for the PIN that PA names"
unfoldable pub response_checks : Cipher → (t : List ℕ) (i : ℕ) (bs : List ℕ) → Checks
response_checks E t i bs =
    9 when not (leb i 255) else
    10 when eqb (flag t) 1 else
    11 when not (same bs (response E (pin t i) t)) else
    granted

-- "NAME: same flag rule"
unfoldable pub name_checks : (t : List ℕ) (i : ℕ) → Checks
name_checks t i =
    9 when not (leb i 255) else
    10 when eqb (flag t) 1 else
    granted

-- "COMMIT: same flag rule; let K be the owner PIN. The guard must equal bytes 4 to 15 of E_K applied to the 16
-- written bytes": owner index `o` and guard `g` are PA's
unfoldable pub commit_checks : Cipher → (t : List ℕ) (i o : ℕ) (g bs : List ℕ) → Checks
commit_checks E t i o g bs =
    9 when not (leb i 255) else
    9 when eqb i 0 else
    9 when not (leb o 3) else
    10 when eqb (flag t) 1 else
    11 when not (same g (part 4 12 (E (owner t o) bs))) else
    granted

-- by register; "ID and PA registers: store 16 bytes in the session, no flag."
unfoldable pub block_checks : Cipher → State → Register → List ℕ → Checks
block_checks E s Read bs = response_checks E s.tag (pin_index s.session) bs
block_checks E s Write bs = response_checks E s.tag (pin_index s.session) bs
block_checks E s Edit bs = response_checks E s.tag (pin_index s.session) bs
block_checks E s Name bs = name_checks s.tag (pin_index s.session)
block_checks E s Id bs = granted
block_checks E s Commit bs =
    commit_checks E s.tag (pin_index s.session) (owner_index s.session) (guard s.session) bs
block_checks E s Pa bs = granted

-- "9: register write not 16 bytes"
unfoldable pub register_checks : Cipher → State → Register → List ℕ → Checks
register_checks E s r bs =
    9 when not (eqb (length bs) 16) else
    block_checks E s r bs

-- ---- by place: a read of the `n` bytes at `a`, and a write of `bs` at `a`

unfoldable pub read_checks : State → Place → ℕ → ℕ → Checks
read_checks s Header a n = granted
read_checks s Hidden a n = never
read_checks s (RegisterOf r) a n = never
read_checks s Pins a n = never
read_checks s Readers a n = granted
read_checks s (UnitOf k) a n = unit_read_checks (unit_bytes s.tag k) (a + n - unit_at k)
read_checks s Spare a n = never
read_checks s (Segment k) a n =
    segment_read_checks s.session.read s.session.name (unit_bytes s.tag k) k
    (a - segment_at (segments s.tag) k) n (hosts s.tag)
read_checks s (Public k) a n = granted

unfoldable pub write_checks : Cipher → State → Place → ℕ → List ℕ → Checks
write_checks E s Header a bs = header_write_checks s.tag a bs
write_checks E s Hidden a bs = never
write_checks E s (RegisterOf r) a bs = register_checks E s r bs
write_checks E s Pins a bs = never
write_checks E s Readers a bs = never
write_checks E s (UnitOf k) a bs =
    edit_checks s.session.edit (listed k (hosts s.tag)) (unit_bytes s.tag k) (unit_bytes (put a bs s.tag) k)
write_checks E s Spare a bs = never
write_checks E s (Segment k) a bs =
    segment_write_checks s.session.write s.session.name (unit_bytes s.tag k)
    (a - segment_at (segments s.tag) k) (part a (length bs) s.tag) bs
write_checks E s (Public k) a bs = granted
