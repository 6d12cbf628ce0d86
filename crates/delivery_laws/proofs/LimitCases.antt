-- In some runs: how many faults struck a command, how many it bears, and whether it ended GOOD, on both sides of the limit, computed. What valid
-- commands are owed (IsDelivered) is computed of each. Written by tools/makers/limit_case.py.
use lib.Count.{ones}
use Rattle.due_model.specs.bus_trace.specs.LineSet.{line_of}
use Rattle.due_model.specs.bus_trace.specs.View.{union_below}
use Rattle.due_model.specs.msg_grammar.specs.Messages.{form_out, form_in}
use Rattle.due_model.specs.scenario.specs.Needs.{need_of, sent_of}
use Rattle.due_model.proofs.Seams.{onto}
use Rattle.due_model.specs.bus_trace.specs.LineSet.{set_of}
use Rattle.due_model.specs.bus_trace.specs.declared.Row.{Row}
use Rattle.due_model.specs.bus_trace.specs.declared.Kind.TheVariants.{Drives, Fault}
use Rattle.delivery_laws.proofs.Limits.{delivers, limit_told}
use Rattle.std.proofs.Common.{ℕ, ◌≡◌, Bool, true, false, List, [], ◌∷◌, reverse, refl}
use Rattle.std.specs.Prelude.{Option, Some, None}
use Rattle.due_model.specs.bus_base.specs.declared.ProcId.{ProcId}
use Rattle.due_model.specs.bus_base.specs.declared.AbortKind.TheVariants as aborts
use Rattle.due_model.specs.bus_base.specs.declared.Event.{Event}
use Rattle.due_model.specs.bus_base.specs.declared.Event.TheVariants as events
use Rattle.due_model.specs.bus_base.specs.declared.events.Pick.TheVariants as picks
use Rattle.due_model.specs.scenario.specs.declared.value.FillDef.{FillDef}
use Rattle.due_model.specs.scenario.specs.declared.value.UnitDef.{UnitDef}
use Rattle.due_model.specs.scenario.specs.declared.value.Policy.TheVariants as policies
use Rattle.due_model.specs.scenario.specs.declared.value.Load.TheVariants as loads
use Rattle.due_model.specs.scenario.specs.declared.value.Tag.TheVariants as tags
use Rattle.due_model.specs.scenario.specs.declared.value.Payload.TheVariants as payloads
use Rattle.due_model.specs.scenario.specs.Value.{ScenarioValue}
use Rattle.due_model.specs.array_model.specs.Contents.{Contents, starting_contents, printed_blocks}
use Rattle.due_model.specs.array_model.specs.Execution.{Reply, good, check_condition, queue_full, sense_of}
use Rattle.due_model.specs.array_model.specs.ArrayHistory.{array_after, disks_of, reply_of}
use Rattle.due_model.proofs.Cases.{command_struck_twice_due, command_struck_twice_due_rows, request_of_a_target_struck_due, request_of_a_target_struck_due_rows, pulsed_read_struck_due, pulsed_read_struck_due_rows, pulsed_write_struck_due, pulsed_write_struck_due_rows, selected_id_struck_due, selected_id_struck_due_rows, tagged_opening_struck_due, tagged_opening_struck_due_rows, command_given_up_due, command_given_up_due_rows, data_in_given_up_due, data_in_given_up_due_rows, lost_due, lost_due_rows, status_given_up_due, status_given_up_due_rows, given_up_due, given_up_due_rows, status_struck_due, status_struck_due_rows, opening_given_up_due, opening_given_up_due_rows, complete_struck_due, complete_struck_due_rows}

abbrev drive : ℕ → ℕ → ℕ → Row
drive time dev lines = record { time = time; dev = dev; kind = Drives (set_of lines) }

abbrev strike : ℕ → ℕ → ℕ → Row
strike time dev bit = record { time = time; dev = dev; kind = Fault bit }

command_struck_twice_due_1 : limit_told command_struck_twice_due (onto command_struck_twice_due_rows []) 1 2 2 true ≡ true
unfolding need_of sent_of ones union_below line_of form_out form_in
command_struck_twice_due_1 = refl

command_struck_twice_due_delivers : delivers command_struck_twice_due (onto command_struck_twice_due_rows []) ≡ true
unfolding need_of sent_of ones union_below line_of form_out form_in
command_struck_twice_due_delivers = refl

request_of_a_target_struck_due_1 : limit_told request_of_a_target_struck_due (onto request_of_a_target_struck_due_rows []) 1 2 2 true ≡ true
unfolding need_of sent_of ones union_below line_of form_out form_in
request_of_a_target_struck_due_1 = refl

request_of_a_target_struck_due_delivers : delivers request_of_a_target_struck_due (onto request_of_a_target_struck_due_rows []) ≡ true
unfolding need_of sent_of ones union_below line_of form_out form_in
request_of_a_target_struck_due_delivers = refl

pulsed_read_struck_due_1 : limit_told pulsed_read_struck_due (onto pulsed_read_struck_due_rows []) 1 1 1 true ≡ true
unfolding need_of sent_of ones union_below line_of form_out form_in
pulsed_read_struck_due_1 = refl

pulsed_read_struck_due_delivers : delivers pulsed_read_struck_due (onto pulsed_read_struck_due_rows []) ≡ true
unfolding need_of sent_of ones union_below line_of form_out form_in
pulsed_read_struck_due_delivers = refl

pulsed_write_struck_due_1 : limit_told pulsed_write_struck_due (onto pulsed_write_struck_due_rows []) 1 1 1 true ≡ true
unfolding need_of sent_of ones union_below line_of form_out form_in
pulsed_write_struck_due_1 = refl

pulsed_write_struck_due_delivers : delivers pulsed_write_struck_due (onto pulsed_write_struck_due_rows []) ≡ true
unfolding need_of sent_of ones union_below line_of form_out form_in
pulsed_write_struck_due_delivers = refl

selected_id_struck_due_1 : limit_told selected_id_struck_due (onto selected_id_struck_due_rows []) 1 1 1 true ≡ true
unfolding need_of sent_of ones union_below line_of form_out form_in
selected_id_struck_due_1 = refl

selected_id_struck_due_delivers : delivers selected_id_struck_due (onto selected_id_struck_due_rows []) ≡ true
unfolding need_of sent_of ones union_below line_of form_out form_in
selected_id_struck_due_delivers = refl

tagged_opening_struck_due_1 : limit_told tagged_opening_struck_due (onto tagged_opening_struck_due_rows []) 1 2 2 true ≡ true
unfolding need_of sent_of ones union_below line_of form_out form_in
tagged_opening_struck_due_1 = refl

tagged_opening_struck_due_delivers : delivers tagged_opening_struck_due (onto tagged_opening_struck_due_rows []) ≡ true
unfolding need_of sent_of ones union_below line_of form_out form_in
tagged_opening_struck_due_delivers = refl

command_given_up_due_1 : limit_told command_given_up_due (onto command_given_up_due_rows []) 1 1 0 false ≡ true
unfolding need_of sent_of ones union_below line_of form_out form_in
command_given_up_due_1 = refl

command_given_up_due_delivers : delivers command_given_up_due (onto command_given_up_due_rows []) ≡ true
unfolding need_of sent_of ones union_below line_of form_out form_in
command_given_up_due_delivers = refl

data_in_given_up_due_1 : limit_told data_in_given_up_due (onto data_in_given_up_due_rows []) 1 1 0 false ≡ true
unfolding need_of sent_of ones union_below line_of form_out form_in
data_in_given_up_due_1 = refl

data_in_given_up_due_delivers : delivers data_in_given_up_due (onto data_in_given_up_due_rows []) ≡ true
unfolding need_of sent_of ones union_below line_of form_out form_in
data_in_given_up_due_delivers = refl

lost_due_1 : limit_told lost_due (onto lost_due_rows []) 1 2 1 false ≡ true
unfolding need_of sent_of ones union_below line_of form_out form_in
lost_due_1 = refl

lost_due_delivers : delivers lost_due (onto lost_due_rows []) ≡ true
unfolding need_of sent_of ones union_below line_of form_out form_in
lost_due_delivers = refl

status_given_up_due_1 : limit_told status_given_up_due (onto status_given_up_due_rows []) 1 2 1 false ≡ true
unfolding need_of sent_of ones union_below line_of form_out form_in
status_given_up_due_1 = refl

status_given_up_due_delivers : delivers status_given_up_due (onto status_given_up_due_rows []) ≡ true
unfolding need_of sent_of ones union_below line_of form_out form_in
status_given_up_due_delivers = refl

given_up_due_1 : limit_told given_up_due (onto given_up_due_rows []) 1 1 0 false ≡ true
unfolding need_of sent_of ones union_below line_of form_out form_in
given_up_due_1 = refl

given_up_due_2 : limit_told given_up_due (onto given_up_due_rows []) 2 1 0 false ≡ true
unfolding need_of sent_of ones union_below line_of form_out form_in
given_up_due_2 = refl

given_up_due_3 : limit_told given_up_due (onto given_up_due_rows []) 3 1 0 false ≡ true
unfolding need_of sent_of ones union_below line_of form_out form_in
given_up_due_3 = refl

given_up_due_delivers : delivers given_up_due (onto given_up_due_rows []) ≡ true
unfolding need_of sent_of ones union_below line_of form_out form_in
given_up_due_delivers = refl

status_struck_due_1 : limit_told status_struck_due (onto status_struck_due_rows []) 1 1 2 true ≡ true
unfolding need_of sent_of ones union_below line_of form_out form_in
status_struck_due_1 = refl

status_struck_due_delivers : delivers status_struck_due (onto status_struck_due_rows []) ≡ true
unfolding need_of sent_of ones union_below line_of form_out form_in
status_struck_due_delivers = refl

opening_given_up_due_1 : limit_told opening_given_up_due (onto opening_given_up_due_rows []) 1 3 1 false ≡ true
unfolding need_of sent_of ones union_below line_of form_out form_in
opening_given_up_due_1 = refl

opening_given_up_due_delivers : delivers opening_given_up_due (onto opening_given_up_due_rows []) ≡ true
unfolding need_of sent_of ones union_below line_of form_out form_in
opening_given_up_due_delivers = refl

complete_struck_due_1 : limit_told complete_struck_due (onto complete_struck_due_rows []) 1 3 2 true ≡ true
unfolding need_of sent_of ones union_below line_of form_out form_in
complete_struck_due_1 = refl

complete_struck_due_delivers : delivers complete_struck_due (onto complete_struck_due_rows []) ≡ true
unfolding need_of sent_of ones union_below line_of form_out form_in
complete_struck_due_delivers = refl

-- ---- absent_target_limit

abbrev pub absent_target_limit : ScenarioValue
absent_target_limit = record {
  version = 1;
  hosts = record { dev = 7; latency = 0; most = 1; retries = 0; period = 0; offset = 0; lag = 0; offers = true } ∷ [];
  targets = record { dev = 1; latency = 0; retries = 3; disc = policies.Never; pick = picks.First; seek = 0; period = 0; offset = 0; begins = false } ∷ [];
  units = record { target = 1; unit = 0; blocks = 1; size = 16; depth = 1 } ∷ [];
  fills = [];
  tapes = [];
  loads = [];
  commands = record { host = 7; target = 0; unit = 0; at = 0; tag = tags.Untagged; cdb = (18 ∷ 0 ∷ 0 ∷ 0 ∷ 3 ∷ 0 ∷ []); payload = payloads.Nothing } ∷ [];
  aborts = [];
  resets = [];
  faults = [];
}

abbrev pub absent_target_limit_rows : List Row
absent_target_limit_rows = drive 1200 7 0x00280 ∷ drive 3600 7 0x00680 ∷ drive 4800 7 0x10781 ∷ drive 4890 7 0x10581 ∷ drive 250004890 7 0x10400 ∷ drive 250204980 7 0x00000 ∷ []

absent_target_limit_delivers : delivers absent_target_limit (onto absent_target_limit_rows []) ≡ true
unfolding need_of sent_of ones union_below line_of form_out form_in
absent_target_limit_delivers = refl

-- ---- data_out_twice_limit

abbrev pub data_out_twice_limit : ScenarioValue
data_out_twice_limit = record {
  version = 1;
  hosts = record { dev = 3; latency = 0; most = 1; retries = 2; period = 0; offset = 0; lag = 0; offers = true } ∷ [];
  targets = record { dev = 6; latency = 0; retries = 1; disc = policies.Never; pick = picks.First; seek = 0; period = 0; offset = 0; begins = false } ∷ [];
  units = record { target = 6; unit = 2; blocks = 1; size = 16; depth = 1 } ∷ [];
  fills = [];
  tapes = [];
  loads = [];
  commands = record { host = 3; target = 6; unit = 2; at = 0; tag = tags.Untagged; cdb = (10 ∷ 0 ∷ 0 ∷ 0 ∷ 1 ∷ 0 ∷ []); payload = payloads.From 48 } ∷ [];
  aborts = [];
  resets = [];
  faults = record { at = 7300; bit = 1 } ∷ record { at = 9900; bit = 1 } ∷ [];
}

abbrev pub data_out_twice_limit_rows : List Row
data_out_twice_limit_rows = drive 1200 3 0x00208 ∷ drive 3600 3 0x00608 ∷ drive 4800 3 0x10748 ∷ drive 4890 3 0x10548 ∷ drive 5290 6 0x00200 ∷ drive 5380 3 0x10000 ∷ drive 5380 6 0x02a00 ∷ drive 5780 6 0x06a00 ∷ drive 5780 3 0x000c2 ∷ drive 5870 3 0x080c2 ∷ drive 5870 6 0x02a00 ∷ drive 5870 3 0x00000 ∷ drive 5870 6 0x00a00 ∷ drive 6270 6 0x04a00 ∷ drive 6270 3 0x0010a ∷ drive 6325 3 0x0810a ∷ drive 6325 6 0x00a00 ∷ drive 6325 3 0x00000 ∷ drive 6325 6 0x04a00 ∷ drive 6325 3 0x00100 ∷ drive 6380 3 0x08100 ∷ drive 6380 6 0x00a00 ∷ drive 6380 3 0x00000 ∷ drive 6380 6 0x04a00 ∷ drive 6380 3 0x00100 ∷ drive 6435 3 0x08100 ∷ drive 6435 6 0x00a00 ∷ drive 6435 3 0x00000 ∷ drive 6435 6 0x04a00 ∷ drive 6435 3 0x00100 ∷ drive 6490 3 0x08100 ∷ drive 6490 6 0x00a00 ∷ drive 6490 3 0x00000 ∷ drive 6490 6 0x04a00 ∷ drive 6490 3 0x00001 ∷ drive 6545 3 0x08001 ∷ drive 6545 6 0x00a00 ∷ drive 6545 3 0x00000 ∷ drive 6545 6 0x04a00 ∷ drive 6545 3 0x00100 ∷ drive 6600 3 0x08100 ∷ drive 6600 6 0x00a00 ∷ drive 6600 3 0x00000 ∷ drive 6600 6 0x00200 ∷ drive 7000 6 0x04200 ∷ drive 7000 3 0x00130 ∷ drive 7055 3 0x08130 ∷ drive 7055 6 0x00200 ∷ drive 7055 3 0x00000 ∷ drive 7055 6 0x04200 ∷ drive 7055 3 0x00031 ∷ drive 7110 3 0x08031 ∷ drive 7110 6 0x00200 ∷ drive 7110 3 0x00000 ∷ drive 7110 6 0x04200 ∷ drive 7110 3 0x00032 ∷ drive 7165 3 0x08032 ∷ drive 7165 6 0x00200 ∷ drive 7165 3 0x00000 ∷ drive 7165 6 0x04200 ∷ drive 7165 3 0x00133 ∷ drive 7220 3 0x08133 ∷ drive 7220 6 0x00200 ∷ drive 7220 3 0x00000 ∷ drive 7220 6 0x04200 ∷ drive 7220 3 0x00034 ∷ drive 7275 3 0x08034 ∷ drive 7275 6 0x00200 ∷ drive 7275 3 0x00000 ∷ drive 7275 6 0x04200 ∷ drive 7275 3 0x00135 ∷ drive 7330 3 0x08135 ∷ strike 7330 6 1 ∷ drive 7330 6 0x00200 ∷ drive 7330 3 0x00000 ∷ drive 7330 6 0x04200 ∷ drive 7330 3 0x00136 ∷ drive 7385 3 0x08136 ∷ drive 7385 6 0x00200 ∷ drive 7385 3 0x00000 ∷ drive 7385 6 0x04200 ∷ drive 7385 3 0x00037 ∷ drive 7440 3 0x08037 ∷ drive 7440 6 0x00200 ∷ drive 7440 3 0x00000 ∷ drive 7440 6 0x04200 ∷ drive 7440 3 0x00038 ∷ drive 7495 3 0x08038 ∷ drive 7495 6 0x00200 ∷ drive 7495 3 0x00000 ∷ drive 7495 6 0x04200 ∷ drive 7495 3 0x00139 ∷ drive 7550 3 0x08139 ∷ drive 7550 6 0x00200 ∷ drive 7550 3 0x00000 ∷ drive 7550 6 0x04200 ∷ drive 7550 3 0x0013a ∷ drive 7605 3 0x0813a ∷ drive 7605 6 0x00200 ∷ drive 7605 3 0x00000 ∷ drive 7605 6 0x04200 ∷ drive 7605 3 0x0003b ∷ drive 7660 3 0x0803b ∷ drive 7660 6 0x00200 ∷ drive 7660 3 0x00000 ∷ drive 7660 6 0x04200 ∷ drive 7660 3 0x0013c ∷ drive 7715 3 0x0813c ∷ drive 7715 6 0x00200 ∷ drive 7715 3 0x00000 ∷ drive 7715 6 0x04200 ∷ drive 7715 3 0x0003d ∷ drive 7770 3 0x0803d ∷ drive 7770 6 0x00200 ∷ drive 7770 3 0x00000 ∷ drive 7770 6 0x04200 ∷ drive 7770 3 0x0003e ∷ drive 7825 3 0x0803e ∷ drive 7825 6 0x00200 ∷ drive 7825 3 0x00000 ∷ drive 7825 6 0x04200 ∷ drive 7825 3 0x0013f ∷ drive 7880 3 0x0813f ∷ drive 7880 6 0x00200 ∷ drive 7880 3 0x00000 ∷ drive 7880 6 0x03a00 ∷ drive 8680 6 0x03b03 ∷ drive 8735 6 0x07b03 ∷ drive 8735 3 0x08000 ∷ drive 8735 6 0x03a00 ∷ drive 8735 3 0x00000 ∷ drive 8735 6 0x00200 ∷ drive 9135 6 0x04200 ∷ drive 9135 3 0x00130 ∷ drive 9190 3 0x08130 ∷ drive 9190 6 0x00200 ∷ drive 9190 3 0x00000 ∷ drive 9190 6 0x04200 ∷ drive 9190 3 0x00031 ∷ drive 9245 3 0x08031 ∷ drive 9245 6 0x00200 ∷ drive 9245 3 0x00000 ∷ drive 9245 6 0x04200 ∷ drive 9245 3 0x00032 ∷ drive 9300 3 0x08032 ∷ drive 9300 6 0x00200 ∷ drive 9300 3 0x00000 ∷ drive 9300 6 0x04200 ∷ drive 9300 3 0x00133 ∷ drive 9355 3 0x08133 ∷ drive 9355 6 0x00200 ∷ drive 9355 3 0x00000 ∷ drive 9355 6 0x04200 ∷ drive 9355 3 0x00034 ∷ drive 9410 3 0x08034 ∷ drive 9410 6 0x00200 ∷ drive 9410 3 0x00000 ∷ drive 9410 6 0x04200 ∷ drive 9410 3 0x00135 ∷ drive 9465 3 0x08135 ∷ drive 9465 6 0x00200 ∷ drive 9465 3 0x00000 ∷ drive 9465 6 0x04200 ∷ drive 9465 3 0x00136 ∷ drive 9520 3 0x08136 ∷ drive 9520 6 0x00200 ∷ drive 9520 3 0x00000 ∷ drive 9520 6 0x04200 ∷ drive 9520 3 0x00037 ∷ drive 9575 3 0x08037 ∷ drive 9575 6 0x00200 ∷ drive 9575 3 0x00000 ∷ drive 9575 6 0x04200 ∷ drive 9575 3 0x00038 ∷ drive 9630 3 0x08038 ∷ drive 9630 6 0x00200 ∷ drive 9630 3 0x00000 ∷ drive 9630 6 0x04200 ∷ drive 9630 3 0x00139 ∷ drive 9685 3 0x08139 ∷ drive 9685 6 0x00200 ∷ drive 9685 3 0x00000 ∷ drive 9685 6 0x04200 ∷ drive 9685 3 0x0013a ∷ drive 9740 3 0x0813a ∷ drive 9740 6 0x00200 ∷ drive 9740 3 0x00000 ∷ drive 9740 6 0x04200 ∷ drive 9740 3 0x0003b ∷ drive 9795 3 0x0803b ∷ drive 9795 6 0x00200 ∷ drive 9795 3 0x00000 ∷ drive 9795 6 0x04200 ∷ drive 9795 3 0x0013c ∷ drive 9850 3 0x0813c ∷ drive 9850 6 0x00200 ∷ drive 9850 3 0x00000 ∷ drive 9850 6 0x04200 ∷ drive 9850 3 0x0003d ∷ drive 9905 3 0x0803d ∷ strike 9905 6 1 ∷ drive 9905 6 0x00200 ∷ drive 9905 3 0x00000 ∷ drive 9905 6 0x04200 ∷ drive 9905 3 0x0003e ∷ drive 9960 3 0x0803e ∷ drive 9960 6 0x00200 ∷ drive 9960 3 0x00000 ∷ drive 9960 6 0x04200 ∷ drive 9960 3 0x0013f ∷ drive 10015 3 0x0813f ∷ drive 10015 6 0x00200 ∷ drive 10015 3 0x00000 ∷ drive 10015 6 0x01a00 ∷ drive 10815 6 0x01a02 ∷ drive 10870 6 0x05a02 ∷ drive 10870 3 0x08000 ∷ drive 10870 6 0x01a00 ∷ drive 10870 3 0x00000 ∷ drive 10870 6 0x03b00 ∷ drive 11270 6 0x07b00 ∷ drive 11270 3 0x08000 ∷ drive 11270 6 0x03a00 ∷ drive 11270 3 0x00000 ∷ drive 11270 6 0x00000 ∷ drive 12470 3 0x00208 ∷ drive 14870 3 0x00608 ∷ drive 16070 3 0x10748 ∷ drive 16160 3 0x10548 ∷ drive 16560 6 0x00200 ∷ drive 16650 3 0x10000 ∷ drive 16650 6 0x02a00 ∷ drive 17050 6 0x06a00 ∷ drive 17050 3 0x00182 ∷ drive 17140 3 0x08182 ∷ drive 17140 6 0x02a00 ∷ drive 17140 3 0x00000 ∷ drive 17140 6 0x00a00 ∷ drive 17540 6 0x04a00 ∷ drive 17540 3 0x00103 ∷ drive 17595 3 0x08103 ∷ drive 17595 6 0x00a00 ∷ drive 17595 3 0x00000 ∷ drive 17595 6 0x04a00 ∷ drive 17595 3 0x00100 ∷ drive 17650 3 0x08100 ∷ drive 17650 6 0x00a00 ∷ drive 17650 3 0x00000 ∷ drive 17650 6 0x04a00 ∷ drive 17650 3 0x00100 ∷ drive 17705 3 0x08100 ∷ drive 17705 6 0x00a00 ∷ drive 17705 3 0x00000 ∷ drive 17705 6 0x04a00 ∷ drive 17705 3 0x00100 ∷ drive 17760 3 0x08100 ∷ drive 17760 6 0x00a00 ∷ drive 17760 3 0x00000 ∷ drive 17760 6 0x04a00 ∷ drive 17760 3 0x00112 ∷ drive 17815 3 0x08112 ∷ drive 17815 6 0x00a00 ∷ drive 17815 3 0x00000 ∷ drive 17815 6 0x04a00 ∷ drive 17815 3 0x00100 ∷ drive 17870 3 0x08100 ∷ drive 17870 6 0x00a00 ∷ drive 17870 3 0x00000 ∷ drive 17870 6 0x01200 ∷ drive 18670 6 0x01270 ∷ drive 18725 6 0x05270 ∷ drive 18725 3 0x08000 ∷ drive 18725 6 0x01300 ∷ drive 18725 3 0x00000 ∷ drive 18780 6 0x05300 ∷ drive 18780 3 0x08000 ∷ drive 18780 6 0x0120b ∷ drive 18780 3 0x00000 ∷ drive 18835 6 0x0520b ∷ drive 18835 3 0x08000 ∷ drive 18835 6 0x01300 ∷ drive 18835 3 0x00000 ∷ drive 18890 6 0x05300 ∷ drive 18890 3 0x08000 ∷ drive 18890 6 0x01300 ∷ drive 18890 3 0x00000 ∷ drive 18945 6 0x05300 ∷ drive 18945 3 0x08000 ∷ drive 18945 6 0x01300 ∷ drive 18945 3 0x00000 ∷ drive 19000 6 0x05300 ∷ drive 19000 3 0x08000 ∷ drive 19000 6 0x01300 ∷ drive 19000 3 0x00000 ∷ drive 19055 6 0x05300 ∷ drive 19055 3 0x08000 ∷ drive 19055 6 0x0130a ∷ drive 19055 3 0x00000 ∷ drive 19110 6 0x0530a ∷ drive 19110 3 0x08000 ∷ drive 19110 6 0x01300 ∷ drive 19110 3 0x00000 ∷ drive 19165 6 0x05300 ∷ drive 19165 3 0x08000 ∷ drive 19165 6 0x01300 ∷ drive 19165 3 0x00000 ∷ drive 19220 6 0x05300 ∷ drive 19220 3 0x08000 ∷ drive 19220 6 0x01300 ∷ drive 19220 3 0x00000 ∷ drive 19275 6 0x05300 ∷ drive 19275 3 0x08000 ∷ drive 19275 6 0x01300 ∷ drive 19275 3 0x00000 ∷ drive 19330 6 0x05300 ∷ drive 19330 3 0x08000 ∷ drive 19330 6 0x01347 ∷ drive 19330 3 0x00000 ∷ drive 19385 6 0x05347 ∷ drive 19385 3 0x08000 ∷ drive 19385 6 0x01300 ∷ drive 19385 3 0x00000 ∷ drive 19440 6 0x05300 ∷ drive 19440 3 0x08000 ∷ drive 19440 6 0x01300 ∷ drive 19440 3 0x00000 ∷ drive 19495 6 0x05300 ∷ drive 19495 3 0x08000 ∷ drive 19495 6 0x01300 ∷ drive 19495 3 0x00000 ∷ drive 19550 6 0x05300 ∷ drive 19550 3 0x08000 ∷ drive 19550 6 0x01300 ∷ drive 19550 3 0x00000 ∷ drive 19605 6 0x05300 ∷ drive 19605 3 0x08000 ∷ drive 19605 6 0x01300 ∷ drive 19605 3 0x00000 ∷ drive 19660 6 0x05300 ∷ drive 19660 3 0x08000 ∷ drive 19660 6 0x01200 ∷ drive 19660 3 0x00000 ∷ drive 19660 6 0x01b00 ∷ drive 20060 6 0x05b00 ∷ drive 20060 3 0x08000 ∷ drive 20060 6 0x01a00 ∷ drive 20060 3 0x00000 ∷ drive 20060 6 0x03b00 ∷ drive 20460 6 0x07b00 ∷ drive 20460 3 0x08000 ∷ drive 20460 6 0x03a00 ∷ drive 20460 3 0x00000 ∷ drive 20460 6 0x00000 ∷ []

data_out_twice_limit_1 : limit_told data_out_twice_limit (onto data_out_twice_limit_rows []) 1 2 1 false ≡ true
unfolding need_of sent_of ones union_below line_of form_out form_in
data_out_twice_limit_1 = refl

data_out_twice_limit_delivers : delivers data_out_twice_limit (onto data_out_twice_limit_rows []) ≡ true
unfolding need_of sent_of ones union_below line_of form_out form_in
data_out_twice_limit_delivers = refl

-- ---- disconnect_once_limit

abbrev pub disconnect_once_limit : ScenarioValue
disconnect_once_limit = record {
  version = 1;
  hosts = record { dev = 7; latency = 0; most = 1; retries = 3; period = 0; offset = 0; lag = 0; offers = true } ∷ [];
  targets = record { dev = 0; latency = 0; retries = 1; disc = policies.Command; pick = picks.First; seek = 0; period = 0; offset = 0; begins = false } ∷ [];
  units = record { target = 0; unit = 0; blocks = 1; size = 16; depth = 1 } ∷ [];
  fills = [];
  tapes = [];
  loads = [];
  commands = record { host = 7; target = 0; unit = 0; at = 0; tag = tags.Simple 1; cdb = (0 ∷ 0 ∷ 0 ∷ 0 ∷ 0 ∷ 0 ∷ []); payload = payloads.Nothing } ∷ [];
  aborts = [];
  resets = [];
  faults = record { at = 7565; bit = 0 } ∷ [];
}

abbrev pub disconnect_once_limit_rows : List Row
disconnect_once_limit_rows = drive 1200 7 0x00280 ∷ drive 3600 7 0x00680 ∷ drive 4800 7 0x10781 ∷ drive 4890 7 0x10581 ∷ drive 5290 0 0x00200 ∷ drive 5380 7 0x10000 ∷ drive 5380 0 0x02a00 ∷ drive 5780 0 0x06a00 ∷ drive 5780 7 0x101c0 ∷ drive 5835 7 0x181c0 ∷ drive 5835 0 0x02a00 ∷ drive 5835 7 0x10000 ∷ drive 5835 0 0x06a00 ∷ drive 5835 7 0x10020 ∷ drive 5890 7 0x18020 ∷ drive 5890 0 0x02a00 ∷ drive 5890 7 0x10000 ∷ drive 5890 0 0x06a00 ∷ drive 5890 7 0x00001 ∷ drive 5980 7 0x08001 ∷ drive 5980 0 0x02a00 ∷ drive 5980 7 0x00000 ∷ drive 5980 0 0x00a00 ∷ drive 6380 0 0x04a00 ∷ drive 6380 7 0x00100 ∷ drive 6435 7 0x08100 ∷ drive 6435 0 0x00a00 ∷ drive 6435 7 0x00000 ∷ drive 6435 0 0x04a00 ∷ drive 6435 7 0x00100 ∷ drive 6490 7 0x08100 ∷ drive 6490 0 0x00a00 ∷ drive 6490 7 0x00000 ∷ drive 6490 0 0x04a00 ∷ drive 6490 7 0x00100 ∷ drive 6545 7 0x08100 ∷ drive 6545 0 0x00a00 ∷ drive 6545 7 0x00000 ∷ drive 6545 0 0x04a00 ∷ drive 6545 7 0x00100 ∷ drive 6600 7 0x08100 ∷ drive 6600 0 0x00a00 ∷ drive 6600 7 0x00000 ∷ drive 6600 0 0x04a00 ∷ drive 6600 7 0x00100 ∷ drive 6655 7 0x08100 ∷ drive 6655 0 0x00a00 ∷ drive 6655 7 0x00000 ∷ drive 6655 0 0x04a00 ∷ drive 6655 7 0x00100 ∷ drive 6710 7 0x08100 ∷ drive 6710 0 0x00a00 ∷ drive 6710 7 0x00000 ∷ drive 6710 0 0x03a00 ∷ drive 7510 0 0x03a04 ∷ drive 7565 0 0x07a04 ∷ strike 7565 7 0 ∷ drive 7565 7 0x18000 ∷ drive 7565 0 0x03a00 ∷ drive 7655 7 0x10000 ∷ drive 7655 0 0x02a00 ∷ drive 8055 0 0x06a00 ∷ drive 8055 7 0x00109 ∷ drive 8145 7 0x08109 ∷ drive 8145 0 0x02a00 ∷ drive 8145 7 0x00000 ∷ drive 8145 0 0x03a00 ∷ drive 8945 0 0x03a04 ∷ drive 9000 0 0x07a04 ∷ drive 9000 7 0x08000 ∷ drive 9000 0 0x03a00 ∷ drive 9000 7 0x00000 ∷ drive 9000 0 0x00000 ∷ drive 10200 0 0x00201 ∷ drive 12600 0 0x00601 ∷ drive 13800 0 0x01781 ∷ drive 13890 0 0x01581 ∷ drive 14290 7 0x00200 ∷ drive 14290 0 0x01781 ∷ drive 14380 0 0x03a80 ∷ drive 14380 7 0x00000 ∷ drive 14780 0 0x07a80 ∷ drive 14780 7 0x08000 ∷ drive 14780 0 0x03a20 ∷ drive 14780 7 0x00000 ∷ drive 14835 0 0x07a20 ∷ drive 14835 7 0x08000 ∷ drive 14835 0 0x03a01 ∷ drive 14835 7 0x00000 ∷ drive 14890 0 0x07a01 ∷ drive 14890 7 0x08000 ∷ drive 14890 0 0x03a00 ∷ drive 14890 7 0x00000 ∷ drive 14890 0 0x01b00 ∷ drive 15290 0 0x05b00 ∷ drive 15290 7 0x08000 ∷ drive 15290 0 0x01a00 ∷ drive 15290 7 0x00000 ∷ drive 15290 0 0x03b00 ∷ drive 15690 0 0x07b00 ∷ drive 15690 7 0x08000 ∷ drive 15690 0 0x03a00 ∷ drive 15690 7 0x00000 ∷ drive 15690 0 0x00000 ∷ []

disconnect_once_limit_1 : limit_told disconnect_once_limit (onto disconnect_once_limit_rows []) 1 1 1 true ≡ true
unfolding need_of sent_of ones union_below line_of form_out form_in
disconnect_once_limit_1 = refl

disconnect_once_limit_delivers : delivers disconnect_once_limit (onto disconnect_once_limit_rows []) ≡ true
unfolding need_of sent_of ones union_below line_of form_out form_in
disconnect_once_limit_delivers = refl

-- ---- disconnect_twice_limit

abbrev pub disconnect_twice_limit : ScenarioValue
disconnect_twice_limit = record {
  version = 1;
  hosts = record { dev = 7; latency = 0; most = 1; retries = 3; period = 0; offset = 0; lag = 0; offers = true } ∷ [];
  targets = record { dev = 0; latency = 0; retries = 1; disc = policies.Command; pick = picks.First; seek = 0; period = 0; offset = 0; begins = false } ∷ [];
  units = record { target = 0; unit = 0; blocks = 1; size = 16; depth = 1 } ∷ [];
  fills = [];
  tapes = [];
  loads = [];
  commands = record { host = 7; target = 0; unit = 0; at = 0; tag = tags.Simple 1; cdb = (0 ∷ 0 ∷ 0 ∷ 0 ∷ 0 ∷ 0 ∷ []); payload = payloads.Nothing } ∷ [];
  aborts = [];
  resets = [];
  faults = record { at = 7565; bit = 0 } ∷ record { at = 8400; bit = 0 } ∷ [];
}

abbrev pub disconnect_twice_limit_rows : List Row
disconnect_twice_limit_rows = drive 1200 7 0x00280 ∷ drive 3600 7 0x00680 ∷ drive 4800 7 0x10781 ∷ drive 4890 7 0x10581 ∷ drive 5290 0 0x00200 ∷ drive 5380 7 0x10000 ∷ drive 5380 0 0x02a00 ∷ drive 5780 0 0x06a00 ∷ drive 5780 7 0x101c0 ∷ drive 5835 7 0x181c0 ∷ drive 5835 0 0x02a00 ∷ drive 5835 7 0x10000 ∷ drive 5835 0 0x06a00 ∷ drive 5835 7 0x10020 ∷ drive 5890 7 0x18020 ∷ drive 5890 0 0x02a00 ∷ drive 5890 7 0x10000 ∷ drive 5890 0 0x06a00 ∷ drive 5890 7 0x00001 ∷ drive 5980 7 0x08001 ∷ drive 5980 0 0x02a00 ∷ drive 5980 7 0x00000 ∷ drive 5980 0 0x00a00 ∷ drive 6380 0 0x04a00 ∷ drive 6380 7 0x00100 ∷ drive 6435 7 0x08100 ∷ drive 6435 0 0x00a00 ∷ drive 6435 7 0x00000 ∷ drive 6435 0 0x04a00 ∷ drive 6435 7 0x00100 ∷ drive 6490 7 0x08100 ∷ drive 6490 0 0x00a00 ∷ drive 6490 7 0x00000 ∷ drive 6490 0 0x04a00 ∷ drive 6490 7 0x00100 ∷ drive 6545 7 0x08100 ∷ drive 6545 0 0x00a00 ∷ drive 6545 7 0x00000 ∷ drive 6545 0 0x04a00 ∷ drive 6545 7 0x00100 ∷ drive 6600 7 0x08100 ∷ drive 6600 0 0x00a00 ∷ drive 6600 7 0x00000 ∷ drive 6600 0 0x04a00 ∷ drive 6600 7 0x00100 ∷ drive 6655 7 0x08100 ∷ drive 6655 0 0x00a00 ∷ drive 6655 7 0x00000 ∷ drive 6655 0 0x04a00 ∷ drive 6655 7 0x00100 ∷ drive 6710 7 0x08100 ∷ drive 6710 0 0x00a00 ∷ drive 6710 7 0x00000 ∷ drive 6710 0 0x03a00 ∷ drive 7510 0 0x03a04 ∷ drive 7565 0 0x07a04 ∷ strike 7565 7 0 ∷ drive 7565 7 0x18000 ∷ drive 7565 0 0x03a00 ∷ drive 7655 7 0x10000 ∷ drive 7655 0 0x02a00 ∷ drive 8055 0 0x06a00 ∷ drive 8055 7 0x00109 ∷ drive 8145 7 0x08109 ∷ drive 8145 0 0x02a00 ∷ drive 8145 7 0x00000 ∷ drive 8145 0 0x03a00 ∷ drive 8945 0 0x03a04 ∷ drive 9000 0 0x07a04 ∷ strike 9000 7 0 ∷ drive 9000 7 0x18000 ∷ drive 9000 0 0x03a00 ∷ drive 9090 7 0x10000 ∷ drive 9090 0 0x02a00 ∷ drive 9490 0 0x06a00 ∷ drive 9490 7 0x00109 ∷ drive 9580 7 0x08109 ∷ drive 9580 0 0x02a00 ∷ drive 9580 7 0x00000 ∷ drive 9580 0 0x00000 ∷ []

disconnect_twice_limit_1 : limit_told disconnect_twice_limit (onto disconnect_twice_limit_rows []) 1 2 1 false ≡ true
unfolding need_of sent_of ones union_below line_of form_out form_in
disconnect_twice_limit_1 = refl

disconnect_twice_limit_delivers : delivers disconnect_twice_limit (onto disconnect_twice_limit_rows []) ≡ true
unfolding need_of sent_of ones union_below line_of form_out form_in
disconnect_twice_limit_delivers = refl

-- ---- ids_and_data_limit

abbrev pub ids_and_data_limit : ScenarioValue
ids_and_data_limit = record {
  version = 1;
  hosts = record { dev = 7; latency = 0; most = 1; retries = 2; period = 0; offset = 0; lag = 0; offers = true } ∷ [];
  targets = record { dev = 1; latency = 0; retries = 3; disc = policies.Never; pick = picks.First; seek = 0; period = 0; offset = 0; begins = false } ∷ [];
  units = record { target = 1; unit = 0; blocks = 1; size = 16; depth = 1 } ∷ [];
  fills = [];
  tapes = [];
  loads = [];
  commands = record { host = 7; target = 1; unit = 0; at = 0; tag = tags.Untagged; cdb = (18 ∷ 0 ∷ 0 ∷ 0 ∷ 3 ∷ 0 ∷ []); payload = payloads.Nothing } ∷ [];
  aborts = [];
  resets = [];
  faults = record { at = 5000; bit = 0 } ∷ record { at = 250212400; bit = 2 } ∷ [];
}

abbrev pub ids_and_data_limit_rows : List Row
ids_and_data_limit_rows = drive 1200 7 0x00280 ∷ drive 3600 7 0x00680 ∷ drive 4800 7 0x10782 ∷ drive 4890 7 0x10582 ∷ strike 5290 1 0 ∷ drive 250004890 7 0x10400 ∷ drive 250204980 7 0x00000 ∷ drive 250206180 7 0x00280 ∷ drive 250208580 7 0x00680 ∷ drive 250209780 7 0x10782 ∷ drive 250209870 7 0x10582 ∷ drive 250210270 1 0x00200 ∷ drive 250210360 7 0x10000 ∷ drive 250210360 1 0x02a00 ∷ drive 250210760 1 0x06a00 ∷ drive 250210760 7 0x001c0 ∷ drive 250210850 7 0x081c0 ∷ drive 250210850 1 0x02a00 ∷ drive 250210850 7 0x00000 ∷ drive 250210850 1 0x00a00 ∷ drive 250211250 1 0x04a00 ∷ drive 250211250 7 0x00112 ∷ drive 250211305 7 0x08112 ∷ drive 250211305 1 0x00a00 ∷ drive 250211305 7 0x00000 ∷ drive 250211305 1 0x04a00 ∷ drive 250211305 7 0x00100 ∷ drive 250211360 7 0x08100 ∷ drive 250211360 1 0x00a00 ∷ drive 250211360 7 0x00000 ∷ drive 250211360 1 0x04a00 ∷ drive 250211360 7 0x00100 ∷ drive 250211415 7 0x08100 ∷ drive 250211415 1 0x00a00 ∷ drive 250211415 7 0x00000 ∷ drive 250211415 1 0x04a00 ∷ drive 250211415 7 0x00100 ∷ drive 250211470 7 0x08100 ∷ drive 250211470 1 0x00a00 ∷ drive 250211470 7 0x00000 ∷ drive 250211470 1 0x04a00 ∷ drive 250211470 7 0x00103 ∷ drive 250211525 7 0x08103 ∷ drive 250211525 1 0x00a00 ∷ drive 250211525 7 0x00000 ∷ drive 250211525 1 0x04a00 ∷ drive 250211525 7 0x00100 ∷ drive 250211580 7 0x08100 ∷ drive 250211580 1 0x00a00 ∷ drive 250211580 7 0x00000 ∷ drive 250211580 1 0x01200 ∷ drive 250212380 1 0x01300 ∷ drive 250212435 1 0x05300 ∷ strike 250212435 7 2 ∷ drive 250212435 7 0x18000 ∷ drive 250212435 1 0x01300 ∷ drive 250212525 7 0x10000 ∷ drive 250212525 1 0x05300 ∷ drive 250212525 7 0x18000 ∷ drive 250212525 1 0x01202 ∷ drive 250212525 7 0x10000 ∷ drive 250212580 1 0x05202 ∷ drive 250212580 7 0x18000 ∷ drive 250212580 1 0x01200 ∷ drive 250212580 7 0x10000 ∷ drive 250212580 1 0x02a00 ∷ drive 250212980 1 0x06a00 ∷ drive 250212980 7 0x00105 ∷ drive 250213070 7 0x08105 ∷ drive 250213070 1 0x02a00 ∷ drive 250213070 7 0x00000 ∷ drive 250213070 1 0x03a00 ∷ drive 250213870 1 0x03b03 ∷ drive 250213925 1 0x07b03 ∷ drive 250213925 7 0x08000 ∷ drive 250213925 1 0x03a00 ∷ drive 250213925 7 0x00000 ∷ drive 250213925 1 0x01300 ∷ drive 250214325 1 0x05300 ∷ drive 250214325 7 0x08000 ∷ drive 250214325 1 0x01300 ∷ drive 250214325 7 0x00000 ∷ drive 250214380 1 0x05300 ∷ drive 250214380 7 0x08000 ∷ drive 250214380 1 0x01202 ∷ drive 250214380 7 0x00000 ∷ drive 250214435 1 0x05202 ∷ drive 250214435 7 0x08000 ∷ drive 250214435 1 0x01200 ∷ drive 250214435 7 0x00000 ∷ drive 250214435 1 0x01b00 ∷ drive 250214835 1 0x05b00 ∷ drive 250214835 7 0x08000 ∷ drive 250214835 1 0x01a00 ∷ drive 250214835 7 0x00000 ∷ drive 250214835 1 0x03b00 ∷ drive 250215235 1 0x07b00 ∷ drive 250215235 7 0x08000 ∷ drive 250215235 1 0x03a00 ∷ drive 250215235 7 0x00000 ∷ drive 250215235 1 0x00000 ∷ []

ids_and_data_limit_1 : limit_told ids_and_data_limit (onto ids_and_data_limit_rows []) 1 2 2 true ≡ true
unfolding need_of sent_of ones union_below line_of form_out form_in
ids_and_data_limit_1 = refl

ids_and_data_limit_delivers : delivers ids_and_data_limit (onto ids_and_data_limit_rows []) ≡ true
unfolding need_of sent_of ones union_below line_of form_out form_in
ids_and_data_limit_delivers = refl

-- ---- ids_twice_limit

abbrev pub ids_twice_limit : ScenarioValue
ids_twice_limit = record {
  version = 1;
  hosts = record { dev = 7; latency = 18; most = 1; retries = 1; period = 0; offset = 0; lag = 0; offers = true } ∷ [];
  targets = record { dev = 0; latency = 26; retries = 2; disc = policies.Never; pick = picks.First; seek = 0; period = 0; offset = 0; begins = false } ∷ [];
  units = record { target = 0; unit = 0; blocks = 1; size = 16; depth = 1 } ∷ [];
  fills = [];
  tapes = [];
  loads = [];
  commands = record { host = 7; target = 0; unit = 0; at = 0; tag = tags.Untagged; cdb = (0 ∷ 0 ∷ 0 ∷ 0 ∷ 0 ∷ 0 ∷ []); payload = payloads.Nothing } ∷ [];
  aborts = [];
  resets = [];
  faults = record { at = 5388; bit = 0 } ∷ record { at = 6000; bit = 3 } ∷ [];
}

abbrev pub ids_twice_limit_rows : List Row
ids_twice_limit_rows = drive 1218 7 0x00280 ∷ drive 3636 7 0x00680 ∷ drive 4854 7 0x10781 ∷ drive 4962 7 0x10581 ∷ strike 5388 0 0 ∷ drive 250004980 7 0x10400 ∷ drive 250205088 7 0x00000 ∷ drive 250206306 7 0x00280 ∷ drive 250208724 7 0x00680 ∷ drive 250209942 7 0x10781 ∷ drive 250210050 7 0x10581 ∷ strike 250210476 0 3 ∷ drive 500210068 7 0x10400 ∷ drive 500410176 7 0x00000 ∷ []

ids_twice_limit_1 : limit_told ids_twice_limit (onto ids_twice_limit_rows []) 1 2 1 false ≡ true
unfolding need_of sent_of ones union_below line_of form_out form_in
ids_twice_limit_1 = refl

ids_twice_limit_delivers : delivers ids_twice_limit (onto ids_twice_limit_rows []) ≡ true
unfolding need_of sent_of ones union_below line_of form_out form_in
ids_twice_limit_delivers = refl

-- ---- status_once_limit

abbrev pub status_once_limit : ScenarioValue
status_once_limit = record {
  version = 1;
  hosts = record { dev = 6; latency = 10; most = 1; retries = 2; period = 0; offset = 0; lag = 0; offers = true } ∷ [];
  targets = record { dev = 0; latency = 90; retries = 1; disc = policies.Never; pick = picks.First; seek = 0; period = 0; offset = 0; begins = false } ∷ [];
  units = record { target = 0; unit = 0; blocks = 1; size = 16; depth = 1 } ∷ [];
  fills = [];
  tapes = [];
  loads = [];
  commands = record { host = 6; target = 0; unit = 0; at = 0; tag = tags.Untagged; cdb = (0 ∷ 0 ∷ 0 ∷ 0 ∷ 0 ∷ 0 ∷ []); payload = payloads.Nothing } ∷ [];
  aborts = [];
  resets = [];
  faults = record { at = 9515; bit = 1 } ∷ [];
}

abbrev pub status_once_limit_rows : List Row
status_once_limit_rows = drive 1210 6 0x00240 ∷ drive 3620 6 0x00640 ∷ drive 4830 6 0x10741 ∷ drive 4930 6 0x10541 ∷ drive 5420 0 0x00200 ∷ drive 5520 6 0x10000 ∷ drive 5610 0 0x02a00 ∷ drive 6100 0 0x06a00 ∷ drive 6110 6 0x001c0 ∷ drive 6210 6 0x081c0 ∷ drive 6300 0 0x02a00 ∷ drive 6310 6 0x00000 ∷ drive 6400 0 0x00a00 ∷ drive 6890 0 0x04a00 ∷ drive 6900 6 0x00100 ∷ drive 6965 6 0x08100 ∷ drive 7055 0 0x00a00 ∷ drive 7065 6 0x00000 ∷ drive 7155 0 0x04a00 ∷ drive 7165 6 0x00100 ∷ drive 7230 6 0x08100 ∷ drive 7320 0 0x00a00 ∷ drive 7330 6 0x00000 ∷ drive 7420 0 0x04a00 ∷ drive 7430 6 0x00100 ∷ drive 7495 6 0x08100 ∷ drive 7585 0 0x00a00 ∷ drive 7595 6 0x00000 ∷ drive 7685 0 0x04a00 ∷ drive 7695 6 0x00100 ∷ drive 7760 6 0x08100 ∷ drive 7850 0 0x00a00 ∷ drive 7860 6 0x00000 ∷ drive 7950 0 0x04a00 ∷ drive 7960 6 0x00100 ∷ drive 8025 6 0x08100 ∷ drive 8115 0 0x00a00 ∷ drive 8125 6 0x00000 ∷ drive 8215 0 0x04a00 ∷ drive 8225 6 0x00100 ∷ drive 8290 6 0x08100 ∷ drive 8380 0 0x00a00 ∷ drive 8390 6 0x00000 ∷ drive 8480 0 0x01a00 ∷ drive 9370 0 0x01b00 ∷ drive 9515 0 0x05b00 ∷ strike 9515 6 1 ∷ drive 9525 6 0x18000 ∷ drive 9615 0 0x01a00 ∷ drive 9625 6 0x10000 ∷ drive 9715 0 0x02a00 ∷ drive 10205 0 0x06a00 ∷ drive 10215 6 0x00105 ∷ drive 10315 6 0x08105 ∷ drive 10405 0 0x02a00 ∷ drive 10415 6 0x00000 ∷ drive 10505 0 0x03a00 ∷ drive 11395 0 0x03b03 ∷ drive 11540 0 0x07b03 ∷ drive 11550 6 0x08000 ∷ drive 11640 0 0x03a00 ∷ drive 11650 6 0x00000 ∷ drive 11740 0 0x01b00 ∷ drive 12230 0 0x05b00 ∷ drive 12240 6 0x08000 ∷ drive 12330 0 0x01a00 ∷ drive 12340 6 0x00000 ∷ drive 12430 0 0x03b00 ∷ drive 12920 0 0x07b00 ∷ drive 12930 6 0x08000 ∷ drive 13020 0 0x03a00 ∷ drive 13030 6 0x00000 ∷ drive 13120 0 0x00000 ∷ []

status_once_limit_1 : limit_told status_once_limit (onto status_once_limit_rows []) 1 1 1 true ≡ true
unfolding need_of sent_of ones union_below line_of form_out form_in
status_once_limit_1 = refl

status_once_limit_delivers : delivers status_once_limit (onto status_once_limit_rows []) ≡ true
unfolding need_of sent_of ones union_below line_of form_out form_in
status_once_limit_delivers = refl
