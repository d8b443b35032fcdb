-- Document 01, "What a command does": what a granted command changes, and 11; document 02, L4: what an insertion
-- changes. Assumes nothing.
-- The tag changes by stores, made one after another; the session by the functions of State.
use Rattle.std.specs.Prelude.{ℕ, suc, ◌+◌, ◌-◌, ◌*◌, ◌/◌, ◌%◌, cond, List, [], ◌∷◌, ◌++◌, length, replicate, eqb}
use Rattle.rules.specs.declared.Session.{Session}
use Rattle.rules.specs.declared.Stage.{Stage}
use Rattle.rules.specs.declared.Stage.TheVariants.{Zero, One, Two}
use Rattle.rules.specs.declared.Model.{Model}
use Rattle.rules.specs.declared.Model.TheVariants.{Default, WriteOnce, Counter, Receiver, SharedKey}
use Rattle.rules.specs.declared.Register.{Register}
use Rattle.rules.specs.declared.Register.TheVariants.{Write, Read, Edit, Name, Id, Commit, Pa}
use Rattle.rules.specs.declared.Place.{Place}
use Rattle.rules.specs.declared.Place.TheVariants.{Header, Hidden, RegisterOf, Pins, Readers, UnitOf, Spare, Segment, Public}
use Rattle.rules.specs.Bytes.{put, xor, byte, part, bytes_of}
use Rattle.rules.specs.Map.{flag_at, unit_at, pin_at, readers_at, segments}
use Rattle.rules.specs.Units.{unit_of, unit_bytes}
use Rattle.rules.specs.Hosts.{Host, hosts, row_at, host_slot_at, slot_id, slot_key, slot_mask}
use Rattle.rules.specs.State.{Cipher, State, pin, pin_index, response, owner, owner_index, with_read, with_write, with_edit, with_name, with_id, with_pa}

infix 68 ◌↤◌
pub data Store : Type 0 where
  ◌↤◌ : (at : ℕ) → List ℕ → Store

unfoldable pub apply : List Store → List ℕ → List ℕ
apply [] t = t
apply ((at ↤ bs) ∷ ss) t = apply ss (put at bs t)

abbrev pub set_flag : ℕ → Store
set_flag b = flag_at ↤ (b ∷ [])

-- ---- "Segment write: .. Default stores. Model 1 stores, then clears WR and sets RD. Model 2 takes one aligned slot
-- .. Model 3 stores at stage 0 and XORs into what is there at stage 1." Document 02, L4: "A granted write at stage 0
-- stores."

unfoldable pub stored : Model → List ℕ → List ℕ → List ℕ
stored Default old bs = bs
stored WriteOnce old bs = bs
stored Counter old bs = bs
stored (Receiver Zero) old bs = bs
stored (Receiver One) old bs = xor bs old
stored (Receiver Two) old bs = bs
stored (SharedKey g) old bs = bs

-- a control byte with RD set and WR cleared, the other bits as they were
unfoldable pub read_only : ℕ → ℕ
read_only b = 128 + 64 * (b / 64 % 2) + b % 32

-- what a write then stores at its unit `u`, at address `at`
unfoldable pub write_move : Model → ℕ → List ℕ → List Store
write_move Default at u = []
write_move WriteOnce at u = (at ↤ (read_only (byte 0 u) ∷ [])) ∷ []
write_move Counter at u = []
write_move (Receiver g) at u = []
write_move (SharedKey g) at u = []

-- ---- "Advance (segment number): model 3 only, stage 0 to 1, 1 to 2 (RD set, WR cleared)": the two first bytes of the
-- unit, by the stage that it leaves

unfoldable pub advanced : Stage → List ℕ → List ℕ
advanced Zero u = byte 0 u ∷ 0x13 ∷ []
advanced One u = read_only (byte 0 u) ∷ 0x23 ∷ []
advanced Two u = byte 0 u ∷ byte 1 u ∷ []

-- what an advance stores at the unit `u`, at address `at`
unfoldable pub advance_move : Model → ℕ → List ℕ → List Store
advance_move Default at u = []
advance_move WriteOnce at u = []
advance_move Counter at u = []
advance_move (Receiver g) at u = (at ↤ advanced g u) ∷ []
advance_move (SharedKey g) at u = []

unfoldable pub advance_stores : List ℕ → ℕ → List Store
advance_stores t k = advance_move (unit_of (unit_bytes t k)).model (unit_at k) (unit_bytes t k)

-- ---- document 02, L4, insertion of a host: "the tag, when it has x hosts, does this for i = 1 to x: the new id is XORed
-- into slot x+1 of host i and id i into slot i of the new host; both masks are XORed into both keys; both masks become
-- zero." Rows and slots are counted from 0 here.

-- a slot after it: the id of the other host, and both masks
unfoldable pub joined_slot : (id masks slot : List ℕ) → List ℕ
joined_slot id masks slot = xor (slot_id slot) id ++ (xor (slot_key slot) masks ++ replicate 16 0)

abbrev pub slot_in : ℕ → List ℕ → List ℕ
slot_in at t = part at 48 t

-- the slots at a and b become a pair of the hosts with these ids
unfoldable pub pair_stores : (a b : ℕ) (idA idB : List ℕ) → List ℕ → List Store
pair_stores a b idA idB t =
    let masks = xor (slot_mask (slot_in a t)) (slot_mask (slot_in b t)) in
    (a ↤ joined_slot idB masks (slot_in a t)) ∷ (b ↤ joined_slot idA masks (slot_in b t)) ∷ []

-- row i and those behind it are joined with the new host, of segment k, in a list of x rows; each pair on the tag that
-- the one before it left
unfoldable pub join_stores : (A k x : ℕ) (id : List ℕ) (i : ℕ) → List Host → List ℕ → List Store
join_stores A k x id i [] t = []
join_stores A k x id i (h ∷ hs) t =
    let ss = pair_stores (host_slot_at A (h.named - 1) x) (host_slot_at A k i) h.id id t in
    ss ++ join_stores A k x id (suc i) hs (apply ss t)

-- "After insertion the segment is stage 1, RD only"
unfoldable pub inserted : List ℕ → List ℕ
inserted u = read_only (byte 0 u) ∷ 0x14 ∷ []

-- "18 bytes a row, id first and segment number plus one after": row x
unfoldable pub row_store : (x k : ℕ) (id : List ℕ) → Store
row_store x k id = (readers_at + row_at x) ↤ (id ++ bytes_of 2 (k + 1))

unfoldable pub insert_stores : List ℕ → ℕ → List ℕ → List Store
insert_stores t k id =
    join_stores (segments t) k (length (hosts t)) id 0 (hosts t) t
    ++ (row_store (length (hosts t)) k id ∷ (unit_at k ↤ inserted (unit_bytes t k)) ∷ [])

-- ---- registers: "READ, WRITE, EDIT: flag .. is set to 1 .. NAME: same flag rule .. COMMIT: same flag rule; .. the
-- written bytes XOR E_K(counter) become the PIN at the index"

-- COMMIT, by the PIN index i and the owner index o that PA names
abbrev pub commit_stores : Cipher → (t : List ℕ) (i o : ℕ) (bs : List ℕ) → List Store
commit_stores E t i o bs = set_flag 1 ∷ (pin_at i ↤ xor bs (response E (owner t o) t)) ∷ []

unfoldable pub register_stores : Cipher → State → Register → List ℕ → List Store
register_stores E s Read bs = set_flag 1 ∷ []
register_stores E s Write bs = set_flag 1 ∷ []
register_stores E s Edit bs = set_flag 1 ∷ []
register_stores E s Name bs = set_flag 1 ∷ []
register_stores E s Id bs = []
register_stores E s Commit bs = commit_stores E s.tag (pin_index s.session) (owner_index s.session) bs
register_stores E s Pa bs = []

-- "that index becomes the validated index of this register's kind, the other two staying"; "the bytes XOR
-- E_PIN(counter) become the session name"; "ID and PA registers: store 16 bytes in the session"
unfoldable pub register_session : Cipher → State → Register → List ℕ → Session
register_session E s Read bs = with_read (pin_index s.session) s.session
register_session E s Write bs = with_write (pin_index s.session) s.session
register_session E s Edit bs = with_edit (pin_index s.session) s.session
register_session E s Name bs =
    with_name (xor bs (response E (pin s.tag (pin_index s.session)) s.tag)) s.session
register_session E s Id bs = with_id bs s.session
register_session E s Commit bs = s.session
register_session E s Pa bs = with_pa bs s.session

-- ---- by place: a granted write of `bs` at `a`

-- "Header: .. it clears the flag"
unfoldable pub write_stores : Cipher → State → Place → ℕ → List ℕ → List Store
write_stores E s Header a bs = (a ↤ bs) ∷ set_flag 0 ∷ []
write_stores E s Hidden a bs = []
write_stores E s (RegisterOf r) a bs = register_stores E s r bs
write_stores E s Pins a bs = []
write_stores E s Readers a bs = []
write_stores E s (UnitOf k) a bs = (a ↤ bs) ∷ []
write_stores E s Spare a bs = []
write_stores E s (Segment k) a bs =
    (a ↤ stored (unit_of (unit_bytes s.tag k)).model (part a (length bs) s.tag) bs)
    ∷ write_move (unit_of (unit_bytes s.tag k)).model (unit_at k) (unit_bytes s.tag k)
write_stores E s (Public k) a bs = (a ↤ bs) ∷ []

unfoldable pub write_session : Cipher → State → Place → List ℕ → Session
write_session E s Header bs = s.session
write_session E s Hidden bs = s.session
write_session E s (RegisterOf r) bs = register_session E s r bs
write_session E s Pins bs = s.session
write_session E s Readers bs = s.session
write_session E s (UnitOf k) bs = s.session
write_session E s Spare bs = s.session
write_session E s (Segment k) bs = s.session
write_session E s (Public k) bs = s.session

-- ---- "A refused command .. changes nothing, except 11, which sets the flag."

unfoldable pub refusal_stores : ℕ → List Store
refusal_stores n = cond (eqb n 11) (set_flag 1 ∷ []) []
