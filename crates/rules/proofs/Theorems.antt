-- All that is proved of the rules.
use Rattle.rules.specs.Theorems.{Theorems}
use Rattle.rules.proofs.MapLaws.{sound_is, sizes, sizes_reached}
use Rattle.rules.proofs.Places.{the_map, no_spare}
use Rattle.rules.proofs.Lawful.{sound_stays}
use Rattle.rules.proofs.Locked.{locked_unit}
use Rattle.rules.proofs.Counting.{one_answer_each}
use Rattle.rules.proofs.Refused.{lowest_given, refusal_named, refused_changes_nothing}
use Rattle.rules.proofs.Told.{answers_told}
use Rattle.rules.proofs.Repeats.{repeat_told, never_both, copy_told}
use Rattle.rules.proofs.Demand3.{demand_3}
use Rattle.rules.proofs.Calls.{calls_follow, calls_demand_3, refused_leaves, refused_reads}
use Rattle.rules.proofs.RunLaws.{runs_continue}
use Rattle.rules.proofs.Runs.{runs_leave, runs_demand_3}
use Rattle.rules.proofs.CCalls.{called_is_call, run_called_is_run, nothing_lost, session_fits}
use Rattle.rules.proofs.LogLaws.{log_is_its_commands}
use Rattle.rules.proofs.FourCommands.{host_reads}
use Rattle.rules.proofs.Examples.{starred_hold, insertions_hold, stages_hold, errors_shown, readings_hold, not_empty, repeats_change}
use Rattle.rules.proofs.Borders.{borders, command_borders}
use Rattle.rules.proofs.SharedKeys.{insertion_leaves, list_grows, unit_inserted}
use Rattle.rules.proofs.SharedReads.{reads_listed}
use Rattle.rules.proofs.KeptKeys.{keys_shared, keys_read}
use Rattle.rules.proofs.Moves.{moves_exact, power_up_clears}

pub theorems : Theorems
theorems =
    record {
      demand_3 = demand_3;
      calls_follow = calls_follow;
      calls_demand_3 = calls_demand_3;
      refused_leaves = refused_leaves;
      refused_reads = refused_reads;
      runs_demand_3 = runs_demand_3;
      runs_leave = runs_leave;
      runs_continue = runs_continue;
      called_is_call = called_is_call;
      run_called_is_run = run_called_is_run;
      nothing_lost = nothing_lost;
      session_fits = session_fits;
      lowest_given = lowest_given;
      refusal_named = refusal_named;
      answers_told = answers_told;
      refused_changes_nothing = refused_changes_nothing;
      repeat_told = repeat_told;
      never_both = never_both;
      copy_told = copy_told;
      the_map = the_map;
      no_spare = no_spare;
      sound_is = sound_is;
      sizes = sizes;
      sizes_reached = sizes_reached;
      sound_stays = sound_stays;
      locked_unit = locked_unit;
      moves_exact = moves_exact;
      reads_listed = reads_listed;
      insertion_leaves = insertion_leaves;
      list_grows = list_grows;
      unit_inserted = unit_inserted;
      keys_shared = keys_shared;
      keys_read = keys_read;
      power_up_clears = power_up_clears;
      host_reads = host_reads;
      one_answer_each = one_answer_each;
      log_is_its_commands = log_is_its_commands;
      starred_hold = starred_hold;
      stages_hold = stages_hold;
      errors_shown = errors_shown;
      insertions_hold = insertions_hold;
      readings_hold = readings_hold;
      borders = borders;
      command_borders = command_borders;
      not_empty = not_empty;
      repeats_change = repeats_change;
    }
