-- What the functions of `hosts` hand each other: a row of the list, and what an insertion asks of the tag and makes of it.
-- Assumes nothing.
use Rattle.std.specs.Prelude.{ℕ, ◌+◌, ◌-◌, ◌≤◌, ◌<◌, ◌≡◌, ◌≢◌, Bool, true, false, ◌||◌, not, List, length, leb}
use Rattle.rules.specs.Map.{segments, segment_at, segments_at, sound, unit_at}
use Rattle.rules.specs.Units.{well_formed, unit_bytes, unit_of}
use Rattle.rules.specs.Hosts.{Host, host_at, hosts, host_slot_at, names, readers}
use Rattle.rules.specs.Refusals.{is_filling, list_refuses}
use Rattle.rules.specs.Effects.{apply, join_stores, pair_stores}

-- ---- rows of the list

-- the host of a row that stands alone: its 18 bytes
abbrev pub host_of : List ℕ → Host
host_of row = host_at row 0

-- of the row of host h, whose slot is at offset `at`: it names another segment than k, or the n bytes at offset o miss its
-- slot
abbrev pub spared : (k o n at : ℕ) → Host → Bool
spared k o n at h = not (names k h) || (leb (o + n) at || leb (at + 48) o)

-- ---- an insertion into the tag t

-- the host `id` may be inserted with segment k: 14 and 19 do not refuse it
pub record Insertable (t : List ℕ) (k : ℕ) (id : List ℕ) : Type 0 where
  pub is_sound : sound t ≡ true
  pub there : k < segments t
  pub formed : well_formed (unit_bytes t k) ≡ true
  pub filling : is_filling (unit_of (unit_bytes t k)).model ≡ true
  pub free : list_refuses t k id (hosts t) ≡ false

-- the segment number plus one that row i names
abbrev pub named_by : List ℕ → ℕ → ℕ
named_by t i = (host_at (readers t) i).named

-- the first x rows name segments that are there, and none of them is segment k, which is there too
pub record Rows (t : List ℕ) (x k : ℕ) : Type 0 where
  pub above : unit_at 0 ≤ segments_at (segments t)
  pub few : x < 85
  pub own : segment_at (segments t) k + 4096 ≤ length t
  pub low : (i : ℕ) → i < x → 1 ≤ named_by t i
  pub other : (i : ℕ) → i < x → named_by t i ≢ k + 1
  pub inside : (i : ℕ) → i < x → segment_at (segments t) (named_by t i) ≤ length t

-- the tag after the pair of row i and the new host `id` of segment k, whose row is row x; and after the pairs of all rows
abbrev pub row_paired : List ℕ → (x k : ℕ) (id : List ℕ) (i : ℕ) → List ℕ
row_paired t x k id i =
    apply (pair_stores (host_slot_at (segments t) (named_by t i - 1) x) (host_slot_at (segments t) k i) (host_at (readers t) i).id id t) t

abbrev pub all_paired : List ℕ → (x k : ℕ) (id : List ℕ) → List ℕ
all_paired t x k id = apply (join_stores (segments t) k x id 0 (hosts t) t) t
