-- In some runs: how each command ended, and by which row, computed; each outcome is met. Written by tools/makers/outcome_case.py.
use lib.Count.{ones}
use Rattle.due_model.specs.bus_trace.specs.LineSet.{line_of}
use Rattle.due_model.specs.bus_trace.specs.View.{union_below}
use Rattle.due_model.specs.msg_grammar.specs.Messages.{form_out, form_in}
use Rattle.due_model.specs.scenario.specs.Needs.{need_of, sent_of}
use Rattle.due_model.proofs.Seams.{onto}
use Rattle.due_model.specs.bus_trace.specs.LineSet.{set_of}
use Rattle.due_model.specs.bus_trace.specs.declared.Row.{Row}
use Rattle.due_model.specs.bus_trace.specs.declared.Kind.TheVariants.{Drives, Fault}
use Rattle.due_model.specs.story_model.specs.Outcomes.{ended_aborted, ended_check, ended_full, ended_good, ended_lost, ended_reset, ended_unanswered}
use Rattle.delivery_laws.proofs.Limits.{outcome_told}
use Rattle.std.proofs.Common.{ℕ, ◌≡◌, Bool, true, false, List, [], ◌∷◌, reverse, refl}
use Rattle.std.specs.Prelude.{Option, Some, None}
use Rattle.due_model.specs.bus_base.specs.declared.ProcId.{ProcId}
use Rattle.due_model.specs.bus_base.specs.declared.AbortKind.TheVariants as aborts
use Rattle.due_model.specs.bus_base.specs.declared.Event.{Event}
use Rattle.due_model.specs.bus_base.specs.declared.Event.TheVariants as events
use Rattle.due_model.specs.bus_base.specs.declared.events.Pick.TheVariants as picks
use Rattle.due_model.specs.scenario.specs.declared.value.FillDef.{FillDef}
use Rattle.due_model.specs.scenario.specs.declared.value.UnitDef.{UnitDef}
use Rattle.due_model.specs.scenario.specs.declared.value.Policy.TheVariants as policies
use Rattle.due_model.specs.scenario.specs.declared.value.Load.TheVariants as loads
use Rattle.due_model.specs.scenario.specs.declared.value.Tag.TheVariants as tags
use Rattle.due_model.specs.scenario.specs.declared.value.Payload.TheVariants as payloads
use Rattle.due_model.specs.scenario.specs.Value.{ScenarioValue}
use Rattle.due_model.specs.array_model.specs.Contents.{Contents, starting_contents, printed_blocks}
use Rattle.due_model.specs.array_model.specs.Execution.{Reply, good, check_condition, queue_full, sense_of}
use Rattle.due_model.specs.array_model.specs.ArrayHistory.{array_after, disks_of, reply_of}
use Rattle.due_model.proofs.Cases.{full_queue_due, full_queue_due_rows, lost_due, lost_due_rows, command_given_up_due, command_given_up_due_rows, data_in_given_up_due, data_in_given_up_due_rows, data_out_given_up_due, data_out_given_up_due_rows, held_reselection_due, held_reselection_due_rows, hold_of_a_unit_due, hold_of_a_unit_due_rows, own_processes_aborted_due, own_processes_aborted_due_rows, tag_aborted_due, tag_aborted_due_rows, queue_cleared_due, queue_cleared_due_rows, device_reset_by_message_due, device_reset_by_message_due_rows, overlapping_resets_due, overlapping_resets_due_rows, reset_in_a_selection_due, reset_in_a_selection_due_rows, unanswered_due, unanswered_due_rows, absent_unit_due, absent_unit_due_rows, failures_due, failures_due_rows, two_aborts_due, two_aborts_due_rows}
use Rattle.delivery_laws.proofs.LimitCases.{absent_target_limit, absent_target_limit_rows, ids_twice_limit, ids_twice_limit_rows}

abbrev drive : ℕ → ℕ → ℕ → Row
drive time dev lines = record { time = time; dev = dev; kind = Drives (set_of lines) }

abbrev strike : ℕ → ℕ → ℕ → Row
strike time dev bit = record { time = time; dev = dev; kind = Fault bit }

full_queue_due_1 : outcome_told full_queue_due (onto full_queue_due_rows []) 1 (ended_good []) ≡ true
unfolding need_of sent_of ones union_below line_of form_out form_in
full_queue_due_1 = refl

full_queue_due_2 : outcome_told full_queue_due (onto full_queue_due_rows []) 2 ended_full ≡ true
unfolding need_of sent_of ones union_below line_of form_out form_in
full_queue_due_2 = refl

lost_due_1 : outcome_told lost_due (onto lost_due_rows []) 1 ended_lost ≡ true
unfolding need_of sent_of ones union_below line_of form_out form_in
lost_due_1 = refl

command_given_up_due_1 : outcome_told command_given_up_due (onto command_given_up_due_rows []) 1 (ended_check (Some (sense_of 11 71 0))) ≡ true
unfolding need_of sent_of ones union_below line_of form_out form_in
command_given_up_due_1 = refl

data_in_given_up_due_1 : outcome_told data_in_given_up_due (onto data_in_given_up_due_rows []) 1 (ended_check (Some (sense_of 11 72 0))) ≡ true
unfolding need_of sent_of ones union_below line_of form_out form_in
data_in_given_up_due_1 = refl

data_out_given_up_due_1 : outcome_told data_out_given_up_due (onto data_out_given_up_due_rows []) 1 (ended_check None) ≡ true
unfolding need_of sent_of ones union_below line_of form_out form_in
data_out_given_up_due_1 = refl

held_reselection_due_1 : outcome_told held_reselection_due (onto held_reselection_due_rows []) 1 (ended_check (Some (sense_of 5 33 0))) ≡ true
unfolding need_of sent_of ones union_below line_of form_out form_in
held_reselection_due_1 = refl

held_reselection_due_2 : outcome_told held_reselection_due (onto held_reselection_due_rows []) 2 (ended_check (Some (sense_of 11 71 0))) ≡ true
unfolding need_of sent_of ones union_below line_of form_out form_in
held_reselection_due_2 = refl

hold_of_a_unit_due_1 : outcome_told hold_of_a_unit_due (onto hold_of_a_unit_due_rows []) 1 (ended_check (Some (sense_of 5 32 0))) ≡ true
unfolding need_of sent_of ones union_below line_of form_out form_in
hold_of_a_unit_due_1 = refl

hold_of_a_unit_due_2 : outcome_told hold_of_a_unit_due (onto hold_of_a_unit_due_rows []) 2 (ended_good []) ≡ true
unfolding need_of sent_of ones union_below line_of form_out form_in
hold_of_a_unit_due_2 = refl

own_processes_aborted_due_1 : outcome_told own_processes_aborted_due (onto own_processes_aborted_due_rows []) 1 ended_aborted ≡ true
unfolding need_of sent_of ones union_below line_of form_out form_in
own_processes_aborted_due_1 = refl

own_processes_aborted_due_2 : outcome_told own_processes_aborted_due (onto own_processes_aborted_due_rows []) 2 (ended_good []) ≡ true
unfolding need_of sent_of ones union_below line_of form_out form_in
own_processes_aborted_due_2 = refl

tag_aborted_due_1 : outcome_told tag_aborted_due (onto tag_aborted_due_rows []) 1 ended_aborted ≡ true
unfolding need_of sent_of ones union_below line_of form_out form_in
tag_aborted_due_1 = refl

tag_aborted_due_2 : outcome_told tag_aborted_due (onto tag_aborted_due_rows []) 2 (ended_good []) ≡ true
unfolding need_of sent_of ones union_below line_of form_out form_in
tag_aborted_due_2 = refl

queue_cleared_due_1 : outcome_told queue_cleared_due (onto queue_cleared_due_rows []) 1 ended_aborted ≡ true
unfolding need_of sent_of ones union_below line_of form_out form_in
queue_cleared_due_1 = refl

queue_cleared_due_2 : outcome_told queue_cleared_due (onto queue_cleared_due_rows []) 2 (ended_check (Some (sense_of 6 47 0))) ≡ true
unfolding need_of sent_of ones union_below line_of form_out form_in
queue_cleared_due_2 = refl

device_reset_by_message_due_1 : outcome_told device_reset_by_message_due (onto device_reset_by_message_due_rows []) 1 ended_aborted ≡ true
unfolding need_of sent_of ones union_below line_of form_out form_in
device_reset_by_message_due_1 = refl

device_reset_by_message_due_2 : outcome_told device_reset_by_message_due (onto device_reset_by_message_due_rows []) 2 (ended_good (0 ∷ 0 ∷ 2 ∷ 2 ∷ 31 ∷ [])) ≡ true
unfolding need_of sent_of ones union_below line_of form_out form_in
device_reset_by_message_due_2 = refl

overlapping_resets_due_1 : outcome_told overlapping_resets_due (onto overlapping_resets_due_rows []) 1 ended_reset ≡ true
unfolding need_of sent_of ones union_below line_of form_out form_in
overlapping_resets_due_1 = refl

overlapping_resets_due_2 : outcome_told overlapping_resets_due (onto overlapping_resets_due_rows []) 2 (ended_good (0 ∷ 0 ∷ 2 ∷ [])) ≡ true
unfolding need_of sent_of ones union_below line_of form_out form_in
overlapping_resets_due_2 = refl

reset_in_a_selection_due_1 : outcome_told reset_in_a_selection_due (onto reset_in_a_selection_due_rows []) 1 (ended_check (Some (sense_of 6 41 0))) ≡ true
unfolding need_of sent_of ones union_below line_of form_out form_in
reset_in_a_selection_due_1 = refl

reset_in_a_selection_due_2 : outcome_told reset_in_a_selection_due (onto reset_in_a_selection_due_rows []) 2 (ended_good []) ≡ true
unfolding need_of sent_of ones union_below line_of form_out form_in
reset_in_a_selection_due_2 = refl

unanswered_due_1 : outcome_told unanswered_due (onto unanswered_due_rows []) 1 ended_unanswered ≡ true
unfolding need_of sent_of ones union_below line_of form_out form_in
unanswered_due_1 = refl

unanswered_due_2 : outcome_told unanswered_due (onto unanswered_due_rows []) 2 (ended_good []) ≡ true
unfolding need_of sent_of ones union_below line_of form_out form_in
unanswered_due_2 = refl

absent_unit_due_1 : outcome_told absent_unit_due (onto absent_unit_due_rows []) 1 (ended_good (127 ∷ [])) ≡ true
unfolding need_of sent_of ones union_below line_of form_out form_in
absent_unit_due_1 = refl

absent_unit_due_2 : outcome_told absent_unit_due (onto absent_unit_due_rows []) 2 (ended_good (112 ∷ 0 ∷ 5 ∷ [])) ≡ true
unfolding need_of sent_of ones union_below line_of form_out form_in
absent_unit_due_2 = refl

failures_due_1 : outcome_told failures_due (onto failures_due_rows []) 1 (ended_check None) ≡ true
unfolding need_of sent_of ones union_below line_of form_out form_in
failures_due_1 = refl

failures_due_2 : outcome_told failures_due (onto failures_due_rows []) 2 (ended_check None) ≡ true
unfolding need_of sent_of ones union_below line_of form_out form_in
failures_due_2 = refl

failures_due_3 : outcome_told failures_due (onto failures_due_rows []) 3 (ended_check (Some (sense_of 6 41 0))) ≡ true
unfolding need_of sent_of ones union_below line_of form_out form_in
failures_due_3 = refl

two_aborts_due_1 : outcome_told two_aborts_due (onto two_aborts_due_rows []) 1 (ended_check (Some (sense_of 5 33 0))) ≡ true
unfolding need_of sent_of ones union_below line_of form_out form_in
two_aborts_due_1 = refl

absent_target_limit_1 : outcome_told absent_target_limit (onto absent_target_limit_rows []) 1 ended_unanswered ≡ true
unfolding need_of sent_of ones union_below line_of form_out form_in
absent_target_limit_1 = refl

ids_twice_limit_1 : outcome_told ids_twice_limit (onto ids_twice_limit_rows []) 1 ended_unanswered ≡ true
unfolding need_of sent_of ones union_below line_of form_out form_in
ids_twice_limit_1 = refl

-- ---- sense_before_a_reset_outcome

abbrev sense_before_a_reset_outcome : ScenarioValue
sense_before_a_reset_outcome = record {
  version = 1;
  hosts = record { dev = 7; latency = 0; most = 1; retries = 1; period = 0; offset = 0; lag = 0; offers = true } ∷ [];
  targets = record { dev = 0; latency = 0; retries = 1; disc = policies.Never; pick = picks.First; seek = 0; period = 0; offset = 0; begins = false } ∷ [];
  units = record { target = 0; unit = 0; blocks = 1; size = 16; depth = 1 } ∷ [];
  fills = [];
  tapes = [];
  loads = [];
  commands = record { host = 7; target = 0; unit = 0; at = 0; tag = tags.Untagged; cdb = (1 ∷ 0 ∷ 0 ∷ 0 ∷ 0 ∷ 0 ∷ []); payload = payloads.Nothing } ∷ [];
  aborts = [];
  resets = record { dev = 7; at = 100000 } ∷ [];
  faults = [];
}

abbrev pub sense_before_a_reset_outcome_rows : List Row
sense_before_a_reset_outcome_rows = drive 1200 7 0x00280 ∷ drive 3600 7 0x00680 ∷ drive 4800 7 0x10781 ∷ drive 4890 7 0x10581 ∷ drive 5290 0 0x00200 ∷ drive 5380 7 0x10000 ∷ drive 5380 0 0x02a00 ∷ drive 5780 0 0x06a00 ∷ drive 5780 7 0x001c0 ∷ drive 5870 7 0x081c0 ∷ drive 5870 0 0x02a00 ∷ drive 5870 7 0x00000 ∷ drive 5870 0 0x00a00 ∷ drive 6270 0 0x04a00 ∷ drive 6270 7 0x00001 ∷ drive 6325 7 0x08001 ∷ drive 6325 0 0x00a00 ∷ drive 6325 7 0x00000 ∷ drive 6325 0 0x04a00 ∷ drive 6325 7 0x00100 ∷ drive 6380 7 0x08100 ∷ drive 6380 0 0x00a00 ∷ drive 6380 7 0x00000 ∷ drive 6380 0 0x04a00 ∷ drive 6380 7 0x00100 ∷ drive 6435 7 0x08100 ∷ drive 6435 0 0x00a00 ∷ drive 6435 7 0x00000 ∷ drive 6435 0 0x04a00 ∷ drive 6435 7 0x00100 ∷ drive 6490 7 0x08100 ∷ drive 6490 0 0x00a00 ∷ drive 6490 7 0x00000 ∷ drive 6490 0 0x04a00 ∷ drive 6490 7 0x00100 ∷ drive 6545 7 0x08100 ∷ drive 6545 0 0x00a00 ∷ drive 6545 7 0x00000 ∷ drive 6545 0 0x04a00 ∷ drive 6545 7 0x00100 ∷ drive 6600 7 0x08100 ∷ drive 6600 0 0x00a00 ∷ drive 6600 7 0x00000 ∷ drive 6600 0 0x01a00 ∷ drive 7400 0 0x01a02 ∷ drive 7455 0 0x05a02 ∷ drive 7455 7 0x08000 ∷ drive 7455 0 0x01a00 ∷ drive 7455 7 0x00000 ∷ drive 7455 0 0x03b00 ∷ drive 7855 0 0x07b00 ∷ drive 7855 7 0x08000 ∷ drive 7855 0 0x03a00 ∷ drive 7855 7 0x00000 ∷ drive 7855 0 0x00000 ∷ drive 9055 7 0x00280 ∷ drive 11455 7 0x00680 ∷ drive 12655 7 0x10781 ∷ drive 12745 7 0x10581 ∷ drive 13145 0 0x00200 ∷ drive 13235 7 0x10000 ∷ drive 13235 0 0x02a00 ∷ drive 13635 0 0x06a00 ∷ drive 13635 7 0x00080 ∷ drive 13725 7 0x08080 ∷ drive 13725 0 0x02a00 ∷ drive 13725 7 0x00000 ∷ drive 13725 0 0x00a00 ∷ drive 14125 0 0x04a00 ∷ drive 14125 7 0x00103 ∷ drive 14180 7 0x08103 ∷ drive 14180 0 0x00a00 ∷ drive 14180 7 0x00000 ∷ drive 14180 0 0x04a00 ∷ drive 14180 7 0x00100 ∷ drive 14235 7 0x08100 ∷ drive 14235 0 0x00a00 ∷ drive 14235 7 0x00000 ∷ drive 14235 0 0x04a00 ∷ drive 14235 7 0x00100 ∷ drive 14290 7 0x08100 ∷ drive 14290 0 0x00a00 ∷ drive 14290 7 0x00000 ∷ drive 14290 0 0x04a00 ∷ drive 14290 7 0x00100 ∷ drive 14345 7 0x08100 ∷ drive 14345 0 0x00a00 ∷ drive 14345 7 0x00000 ∷ drive 14345 0 0x04a00 ∷ drive 14345 7 0x00112 ∷ drive 14400 7 0x08112 ∷ drive 14400 0 0x00a00 ∷ drive 14400 7 0x00000 ∷ drive 14400 0 0x04a00 ∷ drive 14400 7 0x00100 ∷ drive 14455 7 0x08100 ∷ drive 14455 0 0x00a00 ∷ drive 14455 7 0x00000 ∷ drive 14455 0 0x01200 ∷ drive 15255 0 0x01270 ∷ drive 15310 0 0x05270 ∷ drive 15310 7 0x08000 ∷ drive 15310 0 0x01300 ∷ drive 15310 7 0x00000 ∷ drive 15365 0 0x05300 ∷ drive 15365 7 0x08000 ∷ drive 15365 0 0x01305 ∷ drive 15365 7 0x00000 ∷ drive 15420 0 0x05305 ∷ drive 15420 7 0x08000 ∷ drive 15420 0 0x01300 ∷ drive 15420 7 0x00000 ∷ drive 15475 0 0x05300 ∷ drive 15475 7 0x08000 ∷ drive 15475 0 0x01300 ∷ drive 15475 7 0x00000 ∷ drive 15530 0 0x05300 ∷ drive 15530 7 0x08000 ∷ drive 15530 0 0x01300 ∷ drive 15530 7 0x00000 ∷ drive 15585 0 0x05300 ∷ drive 15585 7 0x08000 ∷ drive 15585 0 0x01300 ∷ drive 15585 7 0x00000 ∷ drive 15640 0 0x05300 ∷ drive 15640 7 0x08000 ∷ drive 15640 0 0x0130a ∷ drive 15640 7 0x00000 ∷ drive 15695 0 0x0530a ∷ drive 15695 7 0x08000 ∷ drive 15695 0 0x01300 ∷ drive 15695 7 0x00000 ∷ drive 15750 0 0x05300 ∷ drive 15750 7 0x08000 ∷ drive 15750 0 0x01300 ∷ drive 15750 7 0x00000 ∷ drive 15805 0 0x05300 ∷ drive 15805 7 0x08000 ∷ drive 15805 0 0x01300 ∷ drive 15805 7 0x00000 ∷ drive 15860 0 0x05300 ∷ drive 15860 7 0x08000 ∷ drive 15860 0 0x01300 ∷ drive 15860 7 0x00000 ∷ drive 15915 0 0x05300 ∷ drive 15915 7 0x08000 ∷ drive 15915 0 0x01220 ∷ drive 15915 7 0x00000 ∷ drive 15970 0 0x05220 ∷ drive 15970 7 0x08000 ∷ drive 15970 0 0x01300 ∷ drive 15970 7 0x00000 ∷ drive 16025 0 0x05300 ∷ drive 16025 7 0x08000 ∷ drive 16025 0 0x01300 ∷ drive 16025 7 0x00000 ∷ drive 16080 0 0x05300 ∷ drive 16080 7 0x08000 ∷ drive 16080 0 0x01300 ∷ drive 16080 7 0x00000 ∷ drive 16135 0 0x05300 ∷ drive 16135 7 0x08000 ∷ drive 16135 0 0x01300 ∷ drive 16135 7 0x00000 ∷ drive 16190 0 0x05300 ∷ drive 16190 7 0x08000 ∷ drive 16190 0 0x01300 ∷ drive 16190 7 0x00000 ∷ drive 16245 0 0x05300 ∷ drive 16245 7 0x08000 ∷ drive 16245 0 0x01200 ∷ drive 16245 7 0x00000 ∷ drive 16245 0 0x01b00 ∷ drive 16645 0 0x05b00 ∷ drive 16645 7 0x08000 ∷ drive 16645 0 0x01a00 ∷ drive 16645 7 0x00000 ∷ drive 16645 0 0x03b00 ∷ drive 17045 0 0x07b00 ∷ drive 17045 7 0x08000 ∷ drive 17045 0 0x03a00 ∷ drive 17045 7 0x00000 ∷ drive 17045 0 0x00000 ∷ drive 100000 7 0x20000 ∷ drive 125000 7 0x00000 ∷ []

sense_before_a_reset_outcome_1 : outcome_told sense_before_a_reset_outcome (onto sense_before_a_reset_outcome_rows []) 1 (ended_check (Some (sense_of 5 32 0))) ≡ true
unfolding need_of sent_of ones union_below line_of form_out form_in
sense_before_a_reset_outcome_1 = refl
