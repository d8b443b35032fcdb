-- Each rule at its border: inputs that it refuses, and next to each one that it does not; and what is stored. Here what is
-- decided by an address, a unit or the list of hosts; CommandBorders.antt has whole commands and logs. All is computed.
-- Assumes nothing.
use Rattle.std.specs.Prelude.{ℕ, zero, suc, ◌+◌, ◌≡◌, Bool, true, false, cond, List, [], ◌∷◌, ◌++◌, map, replicate, None, Option, Some}
use Rattle.rules.specs.declared.Register.TheVariants.{Read, Write, Edit, Name, Id, Commit, Pa}
use Rattle.rules.specs.declared.Place.{Place}
use Rattle.rules.specs.declared.Place.TheVariants.{Header, Hidden, RegisterOf, Pins, Readers, UnitOf, Spare, Segment, Public}
use Rattle.rules.specs.Bytes.{put}
use Rattle.rules.specs.Map.{segments, publics, counter, flag, place_of}
use Rattle.rules.specs.Units.{well_formed, unit_of}
use Rattle.rules.specs.Hosts.{Host, hosts_in}
use Rattle.rules.specs.Answers.{code_of}
use Rattle.rules.specs.Refusals.{Checks, lowest, segment_read_checks, segment_write_checks, unit_read_checks, edit_checks, advance_checks, is_filling, is_inserted}
use Rattle.rules.specs.Effects.{Store, ◌↤◌, stored, write_move, advance_move}
use Rattle.rules.specs.Examples.{eight, host_id}

-- a table: inputs, each with what f gives for it
abbrev pub Table : {A B : Type 0} → (A → B) → List (A × B) → Type 0
Table f rows = map (λ x. f x.0) rows ≡ map (λ x. x.1) rows

-- ---- the header, with the bytes 0, 1, 2, ..; n bytes from 0 up

unfoldable pub counted : ℕ → List ℕ
counted zero = []
counted (suc n) = counted n ++ n ∷ []

abbrev pub HeaderRead : Type 0
HeaderRead =
    map (λ f. f (counted 16)) (segments ∷ publics ∷ counter ∷ flag ∷ [])
    ≡ 0x0001 ∷ 0x0203 ∷ 0x0405_0607_0809_0A0B ∷ 12 ∷ []

-- ---- places, on a tag with A = 2 and P = 1: the first byte, the last one, and one more

unfoldable pub places : List ((ℕ × ℕ) × Option Place)
places =
    ((0, 16), Some Header)
    ∷ ((15, 1), Some Header)
    ∷ ((15, 2), None)
    ∷ ((16, 3968), Some Hidden)
    ∷ ((3983, 1), Some Hidden)
    ∷ ((3983, 2), None)
    ∷ ((3984, 16), Some (RegisterOf Read))
    ∷ ((3999, 2), None)
    ∷ ((4000, 16), Some (RegisterOf Write))
    ∷ ((4016, 16), Some (RegisterOf Edit))
    ∷ ((4032, 16), Some (RegisterOf Name))
    ∷ ((4048, 16), Some (RegisterOf Id))
    ∷ ((4064, 16), Some (RegisterOf Commit))
    ∷ ((4080, 16), Some (RegisterOf Pa))
    ∷ ((4095, 1), Some (RegisterOf Pa))
    ∷ ((4095, 2), None)
    ∷ ((4096, 1), Some Pins)
    ∷ ((4096, 4096), Some Pins)
    ∷ ((8191, 2), None)
    ∷ ((8192, 4096), Some Readers)
    ∷ ((12287, 2), None)
    ∷ ((12288, 32), Some (UnitOf 0))
    ∷ ((12319, 2), None)
    ∷ ((12320, 32), Some (UnitOf 1))
    ∷ ((12351, 2), None)
    ∷ ((12352, 4032), Some Spare)
    ∷ ((16383, 2), None)
    ∷ ((16384, 4096), Some (Segment 0))
    ∷ ((20479, 2), None)
    ∷ ((20480, 4096), Some (Segment 1))
    ∷ ((24575, 2), None)
    ∷ ((24576, 4096), Some (Public 0))
    ∷ ((28671, 1), Some (Public 0))
    ∷ ((28671, 2), None)
    ∷ ((28672, 1), None)
    ∷ []

abbrev pub PlacesFound : Type 0
PlacesFound = Table (λ x. place_of (0 ∷ 2 ∷ 0 ∷ 1 ∷ []) x.0 x.1) places

-- ---- "Well formed"

-- the numbers below n for which f holds
unfoldable pub below : ℕ → (ℕ → Bool) → List ℕ
below zero f = []
below (suc n) f = below n f ++ cond (f n) (n ∷ []) []

-- a value, and the bytes that may have it where the others are 0: low bytes of the indexes, and the name, have any
unfoldable pub any_value : List ℕ
any_value = 5 ∷ 7 ∷ 9 ∷ map (λ i. 16 + i) (counted 16)

unfoldable pub byte_borders : List (ℕ × List ℕ)
byte_borders =
    (1, 0 ∷ 1 ∷ any_value) ∷ (2, 1 ∷ any_value) ∷ (0xFC, 0 ∷ 1 ∷ any_value) ∷ (255, 1 ∷ any_value) ∷ []

abbrev pub BytesFormed : Type 0
BytesFormed = Table (λ v. below 32 (λ i. well_formed (put i (v ∷ []) (replicate 32 0)))) byte_borders

-- M set, with RD and WR or not: of all values of byte 1 those that are well formed
unfoldable pub model_borders : List (ℕ × List ℕ)
model_borders =
    (0x01, 0x00 ∷ [])
    ∷ (0x21, 0x00 ∷ 0x01 ∷ 0x03 ∷ 0x04 ∷ 0x13 ∷ [])
    ∷ (0x81, 0x00 ∷ 0x01 ∷ 0x14 ∷ 0x23 ∷ [])
    ∷ (0xA1, 0x00 ∷ 0x02 ∷ [])
    ∷ []

abbrev pub ModelsFormed : Type 0
ModelsFormed = Table (λ control. below 256 (λ b. well_formed (control ∷ b ∷ replicate 30 0))) model_borders

-- ---- what a command asks of a unit: read index, write index or edit index of the session, a byte of its name, and the unit

-- a unit: control, model and stage, the three indexes, and a byte of the name
unfoldable pub unit_with : (control model r w e name : ℕ) → List ℕ
unit_with control model r w e name =
    control ∷ model ∷ 0 ∷ 0 ∷ 0 ∷ r ∷ 0 ∷ w ∷ 0 ∷ e ∷ replicate 6 0 ++ replicate 16 name

abbrev pub plain_unit : (control model : ℕ) → List ℕ
plain_unit control model = unit_with control model 0 0 0 0

-- a grant is 0
abbrev pub given : Checks → ℕ
given cs = code_of (lowest cs)

unfoldable pub read_borders : List ((ℕ × ℕ × List ℕ) × ℕ)
read_borders =
    ((0, 0, plain_unit 0x82 0x00), 5)
    ∷ ((0, 0, plain_unit 0x80 0x00), 0)
    ∷ ((0, 0, plain_unit 0x20 0x00), 6)
    ∷ ((0, 0, unit_with 0xC0 0x00 1 0 0 0), 7)
    ∷ ((1, 0, unit_with 0xC0 0x00 1 0 0 0), 0)
    ∷ ((0, 0, unit_with 0x80 0x00 1 0 0 0), 0)
    ∷ ((7, 0, plain_unit 0xC0 0x00), 7)
    ∷ ((300, 0, unit_with 0xC0 0x00 44 0 0 0), 7)
    ∷ ((0, 0, unit_with 0x88 0x00 0 0 0 7), 8)
    ∷ ((0, 7, unit_with 0x88 0x00 0 0 0 7), 0)
    ∷ ((0, 0, unit_with 0x80 0x00 0 0 0 7), 0)
    ∷ ((0, 0, plain_unit 0x81 0x01), 0)
    ∷ ((0, 0, plain_unit 0xA1 0x02), 0)
    ∷ ((0, 0, plain_unit 0x21 0x13), 6)
    ∷ ((0, 0, plain_unit 0x81 0x23), 0)
    ∷ []

abbrev pub ReadsJudged : Type 0
ReadsJudged = Table (λ x. given (segment_read_checks x.0 (host_id x.1) x.2 0 0 1 [])) read_borders

-- model 4 at stage 1, segment 0: the hosts listed, the offset and the count; slot j belongs to row j, and the segment must be
-- listed
unfoldable pub host : (id named : ℕ) → Host
host id named = record { id = host_id id; named = named }

unfoldable pub host_read_borders : List ((List Host × ℕ × ℕ) × ℕ)
host_read_borders =
    (([], 0, 1), 6)
    ∷ ((host 8 2 ∷ host 9 3 ∷ [], 0, 1), 6)
    ∷ ((host 8 2 ∷ host 9 1 ∷ [], 0, 48), 0)
    ∷ ((host 8 2 ∷ host 9 1 ∷ [], 0, 49), 6)
    ∷ ((host 8 2 ∷ host 9 1 ∷ [], 96, 1), 6)
    ∷ ((host 8 0 ∷ host 9 1 ∷ [], 47, 1), 0)
    ∷ ((host 9 1 ∷ host 8 2 ∷ [], 47, 1), 6)
    ∷ ((host 9 1 ∷ host 8 2 ∷ [], 48, 48), 0)
    ∷ ((host 9 1 ∷ host 8 2 ∷ [], 95, 2), 6)
    ∷ ((host 9 1 ∷ replicate 84 (host 8 2), 48, 4032), 0)
    ∷ ((host 9 1 ∷ replicate 84 (host 8 2), 4079, 2), 6)
    ∷ []

abbrev pub HostReadsJudged : Type 0
HostReadsJudged =
    Table (λ x. given (segment_read_checks 0 (host_id 0) (plain_unit 0x81 0x14) 0 x.1 x.2 x.0)) host_read_borders

unfoldable pub write_borders : List ((ℕ × ℕ × List ℕ) × ℕ)
write_borders =
    ((0, 0, plain_unit 0x22 0x00), 5)
    ∷ ((0, 0, plain_unit 0x20 0x00), 0)
    ∷ ((0, 0, plain_unit 0x80 0x00), 6)
    ∷ ((0, 0, unit_with 0x30 0x00 0 2 0 0), 7)
    ∷ ((2, 0, unit_with 0x30 0x00 0 2 0 0), 0)
    ∷ ((0, 0, unit_with 0x20 0x00 0 2 0 0), 0)
    ∷ ((7, 0, plain_unit 0x30 0x00), 7)
    ∷ ((0, 0, unit_with 0x28 0x00 0 0 0 7), 8)
    ∷ ((0, 7, unit_with 0x28 0x00 0 0 0 7), 0)
    ∷ ((0, 0, unit_with 0x20 0x00 0 0 0 7), 0)
    ∷ ((0, 0, plain_unit 0x21 0x00), 0)
    ∷ ((0, 0, plain_unit 0x21 0x01), 0)
    ∷ ((0, 0, plain_unit 0xA1 0x02), 12)
    ∷ ((0, 0, plain_unit 0x21 0x03), 0)
    ∷ ((0, 0, plain_unit 0x21 0x13), 0)
    ∷ ((0, 0, plain_unit 0x21 0x04), 0)
    ∷ []

-- one byte is written
abbrev pub WritesJudged : Type 0
WritesJudged =
    Table (λ x. given (segment_write_checks x.0 (host_id x.1) x.2 0 (0 ∷ []) (1 ∷ []))) write_borders

-- a slot: the bytes that it holds, the offset in the segment, and the bytes written
unfoldable pub slot_borders : List ((List ℕ × ℕ × List ℕ) × ℕ)
slot_borders =
    ((eight 0 255, 0, eight 1 0), 0)
    ∷ ((eight 0 255, 4088, eight 1 0), 0)
    ∷ ((eight 0 255, 0, eight 0 255), 18)
    ∷ ((eight 0 255, 0, eight 1 1), 12)
    ∷ ((eight 0 255, 0, eight 0 254), 12)
    ∷ ((eight 0 255, 1, eight 1 0), 12)
    ∷ ((eight 0 255, 4, eight 1 0), 12)
    ∷ ((eight 0 255, 4, eight 0 255), 12)
    ∷ ((0 ∷ 0 ∷ 0 ∷ 0 ∷ 0 ∷ 0 ∷ 255 ∷ [], 0, 0 ∷ 0 ∷ 0 ∷ 0 ∷ 0 ∷ 1 ∷ 0 ∷ []), 12)
    ∷ ((0 ∷ eight 0 255, 0, 0 ∷ eight 1 0), 12)
    ∷ ((0 ∷ eight 0 255, 0, 0 ∷ eight 0 255), 12)
    ∷ ((eight 0 255 ++ eight 0 0, 0, eight 0 255 ++ eight 0 0), 12)
    ∷ ((replicate 8 255, 0, replicate 8 255), 18)
    ∷ ((replicate 8 255, 0, replicate 8 0), 12)
    ∷ []

abbrev pub SlotsJudged : Type 0
SlotsJudged =
    Table (λ x. given (segment_write_checks 0 (host_id 0) (plain_unit 0xA1 0x02) x.1 x.0 x.2)) slot_borders

-- the unit, and where the bytes end in it
unfoldable pub unit_read_borders : List ((List ℕ × ℕ) × ℕ)
unit_read_borders =
    ((plain_unit 0x02 0x00, 1), 5)
    ∷ ((plain_unit 0x00 0x00, 32), 0)
    ∷ ((plain_unit 0x08 0x00, 16), 0)
    ∷ ((plain_unit 0x08 0x00, 17), 6)
    ∷ []

abbrev pub UnitReadsJudged : Type 0
UnitReadsJudged = Table (λ x. given (unit_read_checks x.0 x.1)) unit_read_borders

-- edit index, whether a row lists the segment, the unit before and after
unfoldable pub edit_borders : List ((ℕ × Bool × List ℕ × List ℕ) × ℕ)
edit_borders =
    ((0, false, plain_unit 0x02 0x00, plain_unit 0x00 0x00), 5)
    ∷ ((0, false, plain_unit 0xA0 0x00, plain_unit 0xA4 0x00), 0)
    ∷ ((0, false, plain_unit 0xA4 0x00, plain_unit 0xA0 0x00), 6)
    ∷ ((3, false, unit_with 0xA0 0x00 0 0 3 0, unit_with 0xA0 0x00 0 0 4 0), 0)
    ∷ ((4, false, unit_with 0xA0 0x00 0 0 3 0, unit_with 0xA0 0x00 0 0 4 0), 7)
    ∷ ((0, false, unit_with 0xF8 0x00 1 2 0 7, unit_with 0xF8 0x00 1 2 0 8), 0)
    ∷ ((7, false, plain_unit 0xA0 0x00, plain_unit 0xA4 0x00), 7)
    ∷ ((0, true, plain_unit 0xA0 0x00, plain_unit 0xA0 0x00), 13)
    ∷ ((0, true, plain_unit 0xA4 0x00, plain_unit 0xA0 0x00), 6)
    ∷ ((7, true, plain_unit 0xA0 0x00, plain_unit 0xA0 0x00), 7)
    ∷ ((0, false, plain_unit 0xA0 0x00, plain_unit 0xA2 0x00), 13)
    ∷ ((0, false, plain_unit 0xA0 0x00, plain_unit 0x21 0x03), 0)
    ∷ ((0, false, plain_unit 0xA0 0x00, plain_unit 0x21 0x13), 13)
    ∷ ((0, false, plain_unit 0xA0 0x00, plain_unit 0x81 0x23), 13)
    ∷ ((0, false, plain_unit 0xA0 0x00, plain_unit 0x21 0x04), 0)
    ∷ ((0, false, plain_unit 0xA0 0x00, plain_unit 0x81 0x14), 13)
    ∷ ((0, false, plain_unit 0xA0 0x00, plain_unit 0xA0 0xFF), 0)
    ∷ ((0, false, plain_unit 0x20 0x13, plain_unit 0x21 0x13), 13)
    ∷ ((0, false, plain_unit 0xA1 0x02, plain_unit 0xA0 0x00), 0)
    ∷ ((0, false, plain_unit 0x81 0x01, plain_unit 0x21 0x01), 0)
    ∷ ((0, false, plain_unit 0x85 0x01, plain_unit 0x25 0x01), 6)
    ∷ ((0, false, plain_unit 0x21 0x13, unit_with 0x7D 0x13 1 2 3 7), 0)
    ∷ ((0, false, plain_unit 0x21 0x13, plain_unit 0x20 0x13), 13)
    ∷ ((0, false, plain_unit 0x21 0x13, plain_unit 0x21 0x03), 13)
    ∷ ((0, false, plain_unit 0x21 0x03, plain_unit 0x21 0x13), 13)
    ∷ ((0, false, plain_unit 0x21 0x03, plain_unit 0xA1 0x02), 13)
    ∷ ((0, false, plain_unit 0x81 0x23, plain_unit 0x21 0x03), 13)
    ∷ ((0, false, plain_unit 0x81 0x14, plain_unit 0x21 0x04), 0)
    ∷ ((0, false, plain_unit 0x81 0x14, plain_unit 0x81 0x14), 13)
    ∷ []

abbrev pub EditsJudged : Type 0
EditsJudged = Table (λ x. given (edit_checks x.0 x.1 x.2 x.3)) edit_borders

unfoldable pub advance_borders : List ((ℕ × ℕ × List ℕ) × ℕ)
advance_borders =
    ((0, 0, plain_unit 0x23 0x03), 5)
    ∷ ((0, 0, unit_with 0x31 0x03 0 2 0 0), 7)
    ∷ ((2, 0, unit_with 0x31 0x03 0 2 0 0), 0)
    ∷ ((0, 0, unit_with 0x29 0x03 0 0 0 7), 8)
    ∷ ((0, 7, unit_with 0x29 0x03 0 0 0 7), 0)
    ∷ ((0, 0, unit_with 0xB0 0x00 0 2 0 0), 7)
    ∷ ((0, 0, unit_with 0x08 0x00 0 0 0 7), 8)
    ∷ ((0, 0, plain_unit 0x25 0x03), 0)
    ∷ ((0, 0, plain_unit 0x21 0x13), 0)
    ∷ ((0, 0, plain_unit 0x81 0x23), 14)
    ∷ ((0, 0, plain_unit 0x20 0x03), 14)
    ∷ ((0, 0, plain_unit 0x21 0x00), 14)
    ∷ ((0, 0, plain_unit 0x21 0x01), 14)
    ∷ ((0, 0, plain_unit 0xA1 0x02), 14)
    ∷ ((0, 0, plain_unit 0x21 0x04), 14)
    ∷ ((0, 0, plain_unit 0x81 0x14), 14)
    ∷ []

abbrev pub AdvancesJudged : Type 0
AdvancesJudged = Table (λ x. given (advance_checks x.0 (host_id x.1) x.2)) advance_borders

-- whether a unit is model 4 at stage 0, which an insertion asks of its own segment, and at stage 1, as of those listed
unfoldable pub key_stage_borders : List (List ℕ × (Bool × Bool))
key_stage_borders =
    (plain_unit 0xA1 0x00, (false, false))
    ∷ (plain_unit 0x21 0x01, (false, false))
    ∷ (plain_unit 0xA1 0x02, (false, false))
    ∷ (plain_unit 0x21 0x03, (false, false))
    ∷ (plain_unit 0x21 0x13, (false, false))
    ∷ (plain_unit 0x81 0x23, (false, false))
    ∷ (plain_unit 0x21 0x04, (true, false))
    ∷ (plain_unit 0x81 0x14, (false, true))
    ∷ []

abbrev pub KeyStagesTold : Type 0
KeyStagesTold = Table (λ u. (is_filling (unit_of u).model, is_inserted (unit_of u).model)) key_stage_borders

-- ---- the hosts that a reader ID segment lists

unfoldable pub list_borders : List (List ℕ × List Host)
list_borders =
    (host_id 0 ++ 1 ∷ 4 ∷ [], [])
    ∷ (replicate 15 0 ++ 1 ∷ 1 ∷ 2 ∷ [], record { id = replicate 15 0 ++ 1 ∷ []; named = 258 } ∷ [])
    ∷ (host_id 9 ++ 0 ∷ 4 ∷ host_id 8 ++ 0 ∷ 5 ∷ host_id 0 ++ 0 ∷ 3 ∷ host_id 7 ++ 0 ∷ 2 ∷ [], host 9 4 ∷ host 8 5 ∷ [])
    ∷ (replicate 4096 1, replicate 85 (host 1 257))
    ∷ []

abbrev pub HostsListed : Type 0
HostsListed = Table hosts_in list_borders

-- ---- what a granted write stores: by the unit, where 12 stands and 10 is written; and what it then stores at its unit

unfoldable pub stored_borders : List (List ℕ × ((List ℕ) × (List Store)))
stored_borders =
    (plain_unit 0xA0 0x00, (10 ∷ [], []))
    ∷ (plain_unit 0xA1 0x00, (10 ∷ [], []))
    ∷ (plain_unit 0x21 0x01, (10 ∷ [], (12288 ↤ (0x81 ∷ [])) ∷ []))
    ∷ (plain_unit 0x7D 0x01, (10 ∷ [], (12288 ↤ (0xDD ∷ [])) ∷ []))
    ∷ (plain_unit 0xA1 0x02, (10 ∷ [], []))
    ∷ (plain_unit 0x21 0x03, (10 ∷ [], []))
    ∷ (plain_unit 0x21 0x13, (6 ∷ [], []))
    ∷ (plain_unit 0x21 0x04, (10 ∷ [], []))
    ∷ []

abbrev pub WritesStored : Type 0
WritesStored =
    Table (λ u. (stored (unit_of u).model (12 ∷ []) (10 ∷ []), write_move (unit_of u).model 12288 u)) stored_borders

-- an advance: what it stores at its unit
unfoldable pub advanced_borders : List (List ℕ × List Store)
advanced_borders =
    (plain_unit 0x21 0x03, (12288 ↤ (0x21 ∷ 0x13 ∷ [])) ∷ [])
    ∷ (plain_unit 0x3D 0x03, (12288 ↤ (0x3D ∷ 0x13 ∷ [])) ∷ [])
    ∷ (plain_unit 0x21 0x13, (12288 ↤ (0x81 ∷ 0x23 ∷ [])) ∷ [])
    ∷ (plain_unit 0x3D 0x13, (12288 ↤ (0x9D ∷ 0x23 ∷ [])) ∷ [])
    ∷ []

abbrev pub AdvancesStored : Type 0
AdvancesStored = Table (λ u. advance_move (unit_of u).model 12288 u) advanced_borders

pub record Borders : Type 0 where
  pub header_read : HeaderRead
  pub places_found : PlacesFound
  pub bytes_formed : BytesFormed
  pub models_formed : ModelsFormed
  pub reads_judged : ReadsJudged
  pub host_reads_judged : HostReadsJudged
  pub writes_judged : WritesJudged
  pub slots_judged : SlotsJudged
  pub unit_reads_judged : UnitReadsJudged
  pub edits_judged : EditsJudged
  pub advances_judged : AdvancesJudged
  pub key_stages_told : KeyStagesTold
  pub hosts_listed : HostsListed
  pub writes_stored : WritesStored
  pub advances_stored : AdvancesStored
