-- Document 02, L4: what is claimed of insertions and of the keys that hosts share. Assumes nothing.
use Rattle.std.specs.Prelude.{ℕ, ◌+◌, ◌-◌, ◌≤◌, ◌<◌, ◌≡◌, ◌≢◌, true, false, List, length, replicate}
use Rattle.rules.specs.declared.KeyStage.TheVariants.{Inserted}
use Rattle.rules.specs.declared.Model.TheVariants.{SharedKey}
use Rattle.rules.specs.Bytes.{byte, part, xor, Apart}
use Rattle.rules.specs.Map.{segments, segment_at, readers_at, unit_at}
use Rattle.rules.specs.Units.{well_formed, unit_bytes, unit_of}
use Rattle.rules.specs.Hosts.{Host, hosts, host_at, row_at, readers, listed, host_slot_at, slot_id, slot_key, slot_mask}
use Rattle.rules.specs.State.{Cipher, State}
use Rattle.rules.specs.Refusals.{is_shared_key}
use Rattle.rules.specs.Effects.{slot_in}
use Rattle.rules.specs.Command.{Command, read, insert, reply, gives, after}
use Rattle.rules.specs.Run.{final}
use Rattle.rules.specs.Claims.{bits, read_only_bits, MayRead}

-- row i of the list
abbrev pub row : List ℕ → ℕ → Host
row t i = host_at (readers t) i

-- the slots of the pair that row i and a host with segment k become when that host is inserted: one in the segment of
-- row i, one in segment k
abbrev pub slot_for_new : List ℕ → (i : ℕ) → ℕ
slot_for_new t i = host_slot_at (segments t) ((row t i).named - 1) (length (hosts t))

abbrev pub slot_for_row : List ℕ → (k i : ℕ) → ℕ
slot_for_row t k i = host_slot_at (segments t) k i

-- ---- "a read there gets 6 unless its segment is listed and it lies wholly in slots of listed rows, none naming that
-- segment"

-- a granted read of the n bytes at a in segment k, which holds model 4: it gives these bytes, and all lie in the segment;
-- each slot j that it touches is that of a listed row, which does not name the segment
pub record ReadsListed (E : Cipher) (s : State) (k a n room : ℕ) : Type 0 where
  pub gives_them : reply E s (read a n room) ≡ gives (part a n s.tag)
  pub from_start : segment_at (segments s.tag) k ≤ a
  pub to_end : a + n ≤ segment_at (segments s.tag) k + 4096
  pub is_listed : listed k (hosts s.tag) ≡ true
  pub slot_listed : (j : ℕ) → host_slot_at (segments s.tag) k j < a + n → a < host_slot_at (segments s.tag) k j + 48
      → j < length (hosts s.tag)
  pub not_own : (j : ℕ) → host_slot_at (segments s.tag) k j < a + n → a < host_slot_at (segments s.tag) k j + 48
      → (row s.tag j).named ≢ k + 1

-- ---- "So no counter is ever touched."

-- the n bytes at a are none that the insertion of a host with segment k may change: its row, the two first bytes of its
-- unit, and for each row the two slots of the pair
pub record Untouched (t : List ℕ) (k a n : ℕ) : Type 0 where
  pub off_row : Apart (readers_at + row_at (length (hosts t))) 18 a n
  pub off_unit : Apart (unit_at k) 2 a n
  pub off_their_slots : (i : ℕ) → i < length (hosts t) → Apart (slot_for_new t i) 48 a n
  pub off_own_slots : (i : ℕ) → i < length (hosts t) → Apart (slot_for_row t k i) 48 a n

-- a granted insertion leaves all other bytes: so the header, the PINs, every segment that does not hold model 4, the public
-- ones, and every unit but one; and the session
pub record InsertionLeaves (E : Cipher) (s : State) (k : ℕ) (id : List ℕ) : Type 0 where
  pub elsewhere : (a n : ℕ) → Untouched s.tag k a n → part a n (after E s (insert k id)).tag ≡ part a n s.tag
  pub before_list : part 0 readers_at (after E s (insert k id)).tag ≡ part 0 readers_at s.tag
  pub other_models : (l : ℕ) → l < segments s.tag → is_shared_key (unit_of (unit_bytes s.tag l)).model ≡ false
      → part (segment_at (segments s.tag) l) 4096 (after E s (insert k id)).tag
      ≡ part (segment_at (segments s.tag) l) 4096 s.tag
  pub public_segments : (l : ℕ) → segments s.tag ≤ l
      → part (segment_at (segments s.tag) l) 4096 (after E s (insert k id)).tag
      ≡ part (segment_at (segments s.tag) l) 4096 s.tag
  pub other_units : (l : ℕ) → l ≢ k → l < segments s.tag
      → unit_bytes (after E s (insert k id)).tag l ≡ unit_bytes s.tag l
  pub same_session : (after E s (insert k id)).session ≡ s.session

-- ---- "The reader ID segment lists the hosts": the list grows by the new host, and its rows stay

pub record ListGrows (t u : List ℕ) (k : ℕ) (id : List ℕ) : Type 0 where
  pub longer : length (hosts t) < length (hosts u)
  pub rows_stay : (i : ℕ) → i < length (hosts t) → row u i ≡ row t i
  pub new_id : (row u (length (hosts t))).id ≡ id
  pub new_segment : (row u (length (hosts t))).named ≡ k + 1

-- ---- "After insertion the segment is stage 1, RD only": its unit before and after; no other bit has changed

pub record UnitInserted (u w : List ℕ) : Type 0 where
  pub formed : well_formed w ≡ true
  pub stage : (unit_of w).model ≡ SharedKey Inserted
  pub control : bits (byte 0 w) ≡ read_only_bits (byte 0 u)
  pub stage_byte : byte 1 w ≡ 0x14
  pub other_bytes : part 2 30 w ≡ part 2 30 u

-- ---- "the new id is XORed into slot x+1 of host i and id i into slot i of the new host; both masks are XORed into both
-- keys; both masks become zero": two slots of a pair of hosts with these ids, before and after

pub record Paired (oldA oldB newA new_b idA idB : List ℕ) : Type 0 where
  pub id_a : slot_id newA ≡ xor (slot_id oldA) idB
  pub id_b : slot_id new_b ≡ xor (slot_id oldB) idA
  pub key_a : slot_key newA ≡ xor (slot_key oldA) (xor (slot_mask oldA) (slot_mask oldB))
  pub key_b : slot_key new_b ≡ xor (slot_key oldB) (xor (slot_mask oldA) (slot_mask oldB))
  pub mask_a : slot_mask newA ≡ replicate 16 0
  pub mask_b : slot_mask new_b ≡ replicate 16 0
  -- what the model is for: each host knows the key that it wrote and finds with it the same 16 bytes, the XOR of both
  -- masks; and it knows the id field that it wrote, and finds with it whom it shares them with
  pub shared_a : xor (slot_key newA) (slot_key oldA) ≡ xor (slot_mask oldA) (slot_mask oldB)
  pub shared_b : xor (slot_key new_b) (slot_key oldB) ≡ xor (slot_mask oldA) (slot_mask oldB)
  pub partner_a : xor (slot_id newA) (slot_id oldA) ≡ idB
  pub partner_b : xor (slot_id new_b) (slot_id oldB) ≡ idA

-- row i and the new host, by the insertion of the host `id` with segment k into the list of t; u is some later tag
abbrev pub PairOf : (t u : List ℕ) (k : ℕ) (id : List ℕ) (i : ℕ) → Type 0
PairOf t u k id i =
    let a = slot_for_new t i in
    let b = slot_for_row t k i in
    Paired (slot_in a t) (slot_in b t) (slot_in a u) (slot_in b u) (row t i).id id

-- after a granted insertion, whatever commands follow, later insertions among them: the pairs that it made are there and
-- stay
abbrev pub KeysShared : Cipher → State → (k : ℕ) (id : List ℕ) → Type 0
KeysShared E s k id =
    (cs : List Command) (i : ℕ) → i < length (hosts s.tag)
    → PairOf s.tag (final E (after E s (insert k id)) cs).tag k id i

-- ---- and each of the two hosts reads its slot of the pair, if it holds the rights that its segment's unit asks for

-- the slot at a, in segment l
abbrev pub SlotRead : Cipher → State → (l a : ℕ) → Type 0
SlotRead E s l a = MayRead s.session (unit_bytes s.tag l) → reply E s (read a 48 48) ≡ gives (slot_in a s.tag)

abbrev pub KeysRead : Cipher → State → (k : ℕ) (id : List ℕ) → Type 0
KeysRead E s k id =
    (cs : List Command) (i : ℕ) → i < length (hosts s.tag)
    → let f = final E (after E s (insert k id)) cs in
    SlotRead E f ((row s.tag i).named - 1) (slot_for_new s.tag i) × SlotRead E f k (slot_for_row s.tag k i)
