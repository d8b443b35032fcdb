-- The examples, computed.
use Prim.Native.Nat.{ℕ}
use mathlib.Core.Path.{◌≡◌, refl, ap}
use native.Mathlib.Omega.{arith}
use lib.Dec.{lit<}
use Rattle.rules.specs.Bytes.{bytes_of, put, part, number_from, same, zeros, xor, all, byte}
use Rattle.rules.specs.Map.{segments, publics, counter, flag_at, flag, most, managements, segments_at, soundness, sound, register_no, rows, lies_in, find, place_of}
use Rattle.rules.specs.Units.{unit_bytes, bit, stage_of, key_stage_of, model_of, unit_of, name_of, model_fits, formedness, well_formed}
use Rattle.rules.specs.Hosts.{readers, host_at, hosts_from, most_hosts, hosts, any, repeats, slot_id, slot_key, slot_mask, misses, readable}
use Rattle.rules.specs.State.{Cipher, powered_up, with_read, with_write, with_edit, with_name, with_id, with_pa, pin_index, pin, owner, owner_index, guard, enciphered_counter, response}
use Rattle.rules.specs.Refusals.{lowest, is_next, is_repeat, value_checks, header_write_checks, is_shared_key, hides, segment_read_checks, slot_checks, segment_write_checks, unit_read_checks, is_receiver, past_stage_zero, same_bool, keeps_model, edit_allowed, edit_checks, can_advance, advance_checks, is_filling, is_inserted, row_fits, list_refuses, insert_checks, response_checks, name_checks, commit_checks, block_checks, register_checks, read_checks, write_checks}
use Rattle.rules.specs.Effects.{apply, stored, read_only, write_move, advanced, advance_move, advance_stores, joined_slot, pair_stores, join_stores, inserted, row_store, insert_stores, register_stores, register_session, write_stores, write_session, refusal_stores}
use Rattle.rules.specs.Command.{refusal, in_place, checks, stores, stores_in, session_in, new_session, grant, reply_by, reply, after, after_by}
use Rattle.rules.specs.Run.{final, replies}
use Rattle.rules.specs.Log.{count_of, kinds, kind_in, body_length, command_of, whole_of, first, parsed, parsed_by, commands_of, read_code, encoded, encoded_all, room_for, stopped, onward, carried_out, run_log}
use Rattle.rules.specs.Examples.{Hold, xor_cipher, starred, insertions, host_tag, host_id, stages, errors, NotEmpty, RepeatsChange, owed, tag_with, counter_tag, eight, begin, naming, got, xor_write, name_write, xor_state, name_state}
use Rattle.rules.specs.Readings.{readings, log_room, listing, stale_rows}

-- all of them under one list of what is opened
computed : ((E : Cipher) → Hold E starred) × Hold xor_cipher stages × Hold xor_cipher errors × Hold xor_cipher insertions
    × Hold xor_cipher readings × NotEmpty × RepeatsChange
unfolding part put number_from same zeros xor all segments publics counter flag most managements segments_at soundness
    sound register_no rows lies_in find place_of unit_bytes bit stage_of key_stage_of model_of unit_of name_of model_fits formedness
    well_formed readers host_at hosts_from most_hosts hosts any repeats slot_id slot_key slot_mask misses readable is_shared_key
    hides is_filling is_inserted row_fits list_refuses insert_checks joined_slot pair_stores join_stores inserted row_store
    insert_stores powered_up with_read with_write with_edit with_name with_id with_pa pin_index owner_index guard pin owner
    enciphered_counter response lowest is_next is_repeat value_checks header_write_checks segment_read_checks slot_checks segment_write_checks
    unit_read_checks is_receiver past_stage_zero same_bool keeps_model edit_allowed edit_checks can_advance advance_checks
    response_checks name_checks commit_checks block_checks register_checks read_checks write_checks apply stored
    read_only write_move advanced advance_move advance_stores register_stores register_session write_stores write_session
    refusal_stores in_place checks refusal stores_in session_in stores new_session grant reply_by reply after_by after
    final replies count_of kinds kind_in body_length command_of whole_of first parsed_by parsed commands_of read_code encoded
    encoded_all room_for stopped onward carried_out run_log tag_with counter_tag eight begin naming got owed starred stages
    errors xor_write name_write xor_state name_state bytes_of host_tag host_id insertions log_room listing stale_rows readings
computed = (
  λ E. refl,
  refl,
  refl,
  refl,
  refl,
  record {
    tag_sound = refl;
    segment_locked = record { counter = record { there = lit< tt; formed = refl; counts = refl }; locked = refl };
  },
  record {
    xor_granted = refl;
    xor_changes = λ e. let z : ◌≡◌ {A = ℕ} 0 1 = ap (λ s. byte 16384 s.tag) e in absurd (omega arith);
    name_granted = refl;
    name_changes = λ e. let z : ◌≡◌ {A = ℕ} 1 0 = ap (λ s. byte flag_at s.tag) e in absurd (omega arith);
  },
)

pub starred_hold : (E : Cipher) → Hold E starred
starred_hold = computed.0

pub stages_hold : Hold xor_cipher stages
stages_hold = computed.1

pub errors_shown : Hold xor_cipher errors
errors_shown = computed.2

pub insertions_hold : Hold xor_cipher insertions
insertions_hold = computed.3

pub readings_hold : Hold xor_cipher readings
readings_hold = computed.4

pub not_empty : NotEmpty
not_empty = computed.5

pub repeats_change : RepeatsChange
repeats_change = computed.6
