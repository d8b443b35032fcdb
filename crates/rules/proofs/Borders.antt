-- The borders of the rules, computed.
use mathlib.Core.Path.{refl}
use Rattle.rules.specs.Bytes.{put, part, number_from, same, zeros, xor, all}
use Rattle.rules.specs.Map.{segments, publics, counter, flag, most, managements, segments_at, soundness, sound, register_no, rows, lies_in, find, place_of}
use Rattle.rules.specs.Units.{unit_bytes, bit, stage_of, key_stage_of, model_of, unit_of, name_of, model_fits, formedness, well_formed}
use Rattle.rules.specs.Hosts.{readers, host_at, hosts_from, most_hosts, hosts, any, repeats, misses, readable}
use Rattle.rules.specs.State.{powered_up, with_read, with_write, with_edit, with_name, with_id, with_pa, pin_index, pin, owner, owner_index, guard, enciphered_counter, response}
use Rattle.rules.specs.Refusals.{lowest, is_next, is_repeat, value_checks, header_write_checks, is_shared_key, hides, segment_read_checks, slot_checks, segment_write_checks, unit_read_checks, is_receiver, past_stage_zero, same_bool, keeps_model, edit_allowed, edit_checks, can_advance, advance_checks, is_filling, is_inserted, row_fits, list_refuses, insert_checks, response_checks, name_checks, commit_checks, block_checks, register_checks, read_checks, write_checks}
use Rattle.rules.specs.Effects.{stored, read_only, write_move, advanced, advance_move, register_stores, register_session, write_stores, write_session}
use Rattle.rules.specs.Command.{refusal, in_place, checks, stores, stores_in, session_in, new_session}
use Rattle.rules.specs.Log.{count_of, kinds, kind_in, body_length, command_of, whole_of, first, read_code, encoded, room_for}
use Rattle.rules.specs.Examples.{eight, host_id, got, owed}
use Rattle.rules.specs.Borders.{Borders, counted, places, below, any_value, byte_borders, model_borders, unit_with, read_borders, host, host_read_borders, write_borders, slot_borders, unit_read_borders, edit_borders, advance_borders, key_stage_borders, list_borders, stored_borders, advanced_borders}
use Rattle.rules.specs.CommandBorders.{CommandBorders, border_tag, right, zero_right, refusals, list_tag, insert_borders, holder, effects, known, kind_borders, reply_borders, room_borders}

-- both under one list of what is opened
computed : Borders × CommandBorders
unfolding part put number_from same zeros xor all segments publics counter flag most managements segments_at soundness
    sound register_no rows lies_in find place_of unit_bytes bit stage_of key_stage_of model_of unit_of name_of model_fits formedness
    well_formed readers host_at hosts_from most_hosts hosts any repeats misses readable is_shared_key hides is_filling is_inserted
    row_fits list_refuses insert_checks powered_up with_read with_write with_edit with_name with_id with_pa pin_index owner_index guard
    pin owner enciphered_counter response lowest is_next is_repeat value_checks header_write_checks segment_read_checks slot_checks
    segment_write_checks unit_read_checks is_receiver past_stage_zero same_bool keeps_model edit_allowed edit_checks can_advance
    advance_checks response_checks name_checks commit_checks block_checks register_checks read_checks write_checks in_place checks
    refusal stored read_only write_move advanced advance_move register_stores register_session write_stores write_session stores_in session_in
    stores new_session count_of kinds kind_in body_length command_of whole_of first read_code encoded room_for eight host_id counted places
    below any_value byte_borders model_borders unit_with read_borders host host_read_borders write_borders slot_borders
    unit_read_borders edit_borders advance_borders key_stage_borders list_borders stored_borders advanced_borders border_tag right zero_right refusals got owed
    list_tag insert_borders holder effects known kind_borders reply_borders room_borders
computed = (
  record {
    header_read = refl;
    places_found = refl;
    bytes_formed = refl;
    models_formed = refl;
    reads_judged = refl;
    host_reads_judged = refl;
    writes_judged = refl;
    slots_judged = refl;
    unit_reads_judged = refl;
    edits_judged = refl;
    advances_judged = refl;
    key_stages_told = refl;
    hosts_listed = refl;
    writes_stored = refl;
    advances_stored = refl;
  },
  record {
    keys_found = (refl, refl);
    refusals_given = refl;
    insertions_judged = refl;
    effects_stored = refl;
    kinds_known = refl;
    kinds_read = refl;
    replies_encoded = refl;
    room_asked = refl;
  },
)

pub borders : Borders
borders = computed.0

pub command_borders : CommandBorders
command_borders = computed.1
