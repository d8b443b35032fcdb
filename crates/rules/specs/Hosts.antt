-- Document 02, L4: the hosts that the reader ID segment lists, and their slots. `r` is the reader ID segment, 4,096 bytes.
-- Assumes nothing.
use Rattle.std.specs.Prelude.{ℕ, zero, suc, ◌+◌, ◌*◌, Bool, true, false, ◌&&◌, ◌||◌, not, cond, List, [], ◌∷◌, length, eqb, leb}
use Rattle.rules.specs.Bytes.{part, number, zeros, same, all}
use Rattle.rules.specs.Map.{readers_at, segment_at}

-- ---- "The reader ID segment lists the hosts, 18 bytes a row, id first and segment number plus one after; the first zero
-- id ends the list, 85 rows at most."

unfoldable pub readers : List ℕ → List ℕ
readers t = part readers_at 4096 t

-- a row: `named` is the segment number plus one
pub record Host : Type 0 where
  pub id : List ℕ
  pub named : ℕ

-- where row i begins in the segment
abbrev pub row_at : ℕ → ℕ
row_at i = 18 * i

unfoldable pub host_at : List ℕ → ℕ → Host
host_at r i = record { id = part (row_at i) 16 r; named = number (part (row_at i + 16) 2 r) }

-- the list from row i on, of at most n rows
unfoldable pub hosts_from : (n i : ℕ) → List ℕ → List Host
hosts_from zero i r = []
hosts_from (suc n) i r = cond (zeros (part (row_at i) 16 r)) [] (host_at r i ∷ hosts_from n (suc i) r)

unfoldable pub most_hosts : ℕ
most_hosts = 85

-- the hosts of a reader ID segment, and of a tag
abbrev pub hosts_in : List ℕ → List Host
hosts_in r = hosts_from most_hosts 0 r

unfoldable pub hosts : List ℕ → List Host
hosts t = hosts_in (readers t)

-- a row that names segment k, and one that has this id
abbrev pub names : ℕ → Host → Bool
names k h = eqb h.named (k + 1)

abbrev pub has_id : List ℕ → Host → Bool
has_id id h = same h.id id

unfoldable pub any : (Host → Bool) → List Host → Bool
any f [] = false
any f (h ∷ hs) = f h || any f hs

-- segment k is listed
abbrev pub listed : ℕ → List Host → Bool
listed k hs = any (names k) hs

-- a row with the id of row h, or naming its segment
abbrev pub twin : Host → Host → Bool
twin h g = same g.id h.id || eqb g.named h.named

-- "a list with a repeated id or segment"
unfoldable pub repeats : List Host → Bool
repeats [] = false
repeats (h ∷ hs) = any (twin h) hs || repeats hs

-- ---- "A host's stream fills one segment of 85 slots of 48 bytes: id, key, mask, 16 each; the last 16 bytes are unused."

-- the address of slot j of segment k; the first is slot 0, and belongs to row 0
abbrev pub host_slot_at : (A k j : ℕ) → ℕ
host_slot_at A k j = segment_at A k + 48 * j

unfoldable pub slot_id : List ℕ → List ℕ
slot_id slot = part 0 16 slot

unfoldable pub slot_key : List ℕ → List ℕ
slot_key slot = part 16 16 slot

unfoldable pub slot_mask : List ℕ → List ℕ
slot_mask slot = part 32 16 slot

-- ---- "a read there gets 6 unless its segment is listed and it lies wholly in slots of listed rows, none naming that
-- segment": the n bytes at offset o of segment k

-- they touch no slot whose row names the segment; the first of these rows has its slot at offset `at`
unfoldable pub misses : (k o n at : ℕ) → List Host → Bool
misses k o n at [] = true
misses k o n at (h ∷ hs) = (not (names k h) || (leb (o + n) at || leb (at + 48) o)) && misses k o n (at + 48) hs

unfoldable pub readable : (k o n : ℕ) → List Host → Bool
readable k o n hs = all (listed k hs ∷ leb (o + n) (48 * length hs) ∷ misses k o n 0 hs ∷ [])
