-- The names of other crates, and of this crate's definitions, that its proofs speak of, each by its home. A proof takes
-- them by `use proofs.Names.{..}`; tools/checks/imports.py brings in those that a proof imports by their home.
use Rattle.std.proofs as std_proofs
pub use std_proofs.Common.{Bool, List, None, Option, Some, [], ap, arith, false, inl, inr, length, not, refl, replicate}
pub use std_proofs.Common.{subst, suc, sym, true, zero, ℕ, ◌%◌, ◌&&◌, ◌*◌, ◌++◌, ◌+◌, ◌<◌, ◌^◌, ◌||◌, ◌∙◌, ◌∷◌, ◌≡◌}
pub use std_proofs.{Common.{◌≢◌, ◌≤◌, ◌⊎◌}, lemmas.Bool.{agree_below, agree_below_at, and_from, and_parts, and_right}}
pub use std_proofs.lemmas.Bool.{cases_Bool, cases_eq, eqb-true, le-leb, leb-true, ltb-false, ne_eqb, not-true, or_left}
pub use std_proofs.lemmas.{Bool.{or_right, Decides.{nat_tests}}, Option.{none-some, same_Some}}
use Rattle.std.specs as std
pub use std.{Int.{bit_at, Bits.{or_self, or_zero_r}, RustNames.{bit_or}}, List.{AllByRecursion, find}}
pub use std.Prelude.{if◌then◌else◌, is_none, is_some, max, min, nat_le, nat_lt, slice_index, ◌==◌}
unfoldable pub use std.Int.RustNames.{count_ones}
use Rattle.due_model.specs.bus_base.proofs as bus_base_proofs
pub use bus_base_proofs.Tests.{all_three, and_false, and_more, eq_self, if_less, none_number, or_false, or_second}
pub use bus_base_proofs.Tests.{or_true}
use Rattle.due_model.specs.bus_base.specs as bus_base
pub use bus_base.declared.Event.{Event}
use Rattle.due_model.specs.bus_trace.proofs as bus_trace_proofs
pub use bus_trace_proofs.{Ages.{since_le, since_line_le}, Buses.{bus_none, bus_off, bus_on, bus_one, bus_two}}
pub use bus_trace_proofs.{Buses.{union-none}, Ids.{has_id-ids_set}, OneRow.{bus-fault, drives-fault, drives-other}}
pub use bus_trace_proofs.Sets.{same_set-eq, same_set-self}
use Rattle.due_model.specs.bus_trace.specs as bus_trace
pub use bus_trace.{Agreements.{fast_times, slow_times, times_of, times_or_slow}, Changes.{change_of, falls, implies}}
pub use bus_trace.{Changes.{is_within, raises_none, rises}, LineSet.{LineSet, byte_set, data_of, has_id_above, ids_set}}
pub use bus_trace.{LineSet.{line_of, none, same, same_set, union}, Phases.{changes_phase, is_command, is_message_in}}
pub use bus_trace.{Phases.{is_message_out}, Terms.{arbitration, arbitration_after, call, call_after, connected}}
pub use bus_trace.Terms.{connection, connection_after, drives_two_ids, free_since, new_calling, other_id, raised}
pub use bus_trace.{Terms.{raised_next, receiver, receiver_of, when}, Trace.{bus, drives, last_time, line_times, newer}}
pub use bus_trace.{Trace.{newer_line, since, since_line}, View.{AreTimesBefore, driven_at}, declared.Kind.{Kind}}
pub use bus_trace.declared.{Kind.TheVariants.{Drives, Fault}, Row.{Row}, agreements.Agreement.{Agreement}}
pub use bus_trace.declared.{agreements.TransferTimes.{TransferTimes}, arbitration.Arbitration.{Arbitration}}
pub use bus_trace.declared.{changes.Change.{Change}, connection.Connection.{Connection}}
pub use bus_trace.declared.delays.TheConstants.{ARBITRATION_DELAY, BUS_CLEAR_DELAY, BUS_SETTLE_DELAY, BUS_SET_DELAY}
pub use bus_trace.declared.{delays.TheConstants.{ENTRY_DELAY, QUIET_TIME}, line_times.LineTimes.{LineTimes}}
pub use bus_trace.declared.selection.{Call.{Call}, Calling.{Calling}}
unfoldable pub use bus_trace.View.{union_below}
use Rattle.due_model.specs.bus_lines.proofs as bus_lines_proofs
pub use bus_lines_proofs.Times.{ComeBefore, last_before, timely}
use Rattle.due_model.specs.bus_lines.specs as bus_lines
pub use bus_lines.{BusView.{BusViewValue, IsBusViewOf}, Effect.{effect}, Handshakes.{Handshakes, handshakes}}
pub use bus_lines.{Handshakes.{handshakes_after, or_zero, room_by}, Stage.{answer_stage, call_stage, stage, stage_by}}
pub use bus_lines.Timely.{AreHandshakesBefore, IsArbitrationBefore, IsBefore, IsCallBefore, IsCallingBefore}
pub use bus_lines.{Timely.{IsConnectionBefore, IsStageBefore, IsTimely}, declared.stage.Stage.{Stage}}
pub use bus_lines.declared.stage.Stage.TheVariants.{InAnswer, InArbitration, InCalling, InConnection, InReset}
pub use bus_lines.declared.stage.Stage.TheVariants.{OnFreeBus}
use Rattle.due_model.specs.msg_grammar.specs as msg_grammar
pub use msg_grammar.Grammar.{Form, alone, as_got, extended, got_after, got_by, got_code, got_fields, got_offer, got_tag}
pub use msg_grammar.{Grammar.{reserved, tagged}, Messages.{got_in, got_out, is_of_eight}, declared.message.Got.{Got}}
pub use msg_grammar.declared.message.{Got.TheVariants.{More, Unknown, Whole}, MsgIn.{MsgIn}, MsgOut.{MsgOut}}
unfoldable pub use msg_grammar.Messages.{form_in, form_out}
use Rattle.due_model.specs.bus_phases.specs as bus_phases
pub use bus_phases.Dialogue.{agreed, asynchronous, byte_crosses, byte_in, byte_out, closed_agreement_by, dialogue}
pub use bus_phases.Dialogue.{dialogue_after, dialogue_on, fresh_bytes, fresh_heard, heard_if_begun, heard_in, heard_out}
pub use bus_phases.Dialogue.{heard_with_command, heard_with_out, is_of_other, no_command, opened, phase_begins}
pub use bus_phases.{Dialogue.{spoken_with_word, void_or_now, void_with_byte, word_in, word_out}, Half.{is_nil, left_of}}
pub use bus_phases.Phases.{duty, duty_after, duty_left, is_attention_held, no_pulses, pulses, pulses_after, turned}
pub use bus_phases.{Phases.{turned_after}, Reading.{reading_of}, declared.attention.Duty.{Duty}}
pub use bus_phases.declared.{dialogue.Dialogue.{Dialogue}, reading.Reading.{Reading}, spoken.Heard.{Heard}}
pub use bus_phases.declared.{spoken.Spoken.{Spoken}, words.{End.{End}, Word.{Word}}}
use Rattle.due_model.specs.bus_rules.proofs as bus_rules_proofs
pub use bus_rules_proofs.First.{none_broken, row_none}
use Rattle.due_model.specs.bus_rules.specs as bus_rules
pub use bus_rules.{Order.{is_in_order, is_news}, Reset.{holds_reset, is_quiet_in_reset, is_reset, keeps_reset}}
pub use bus_rules.{Reset.{only_rst, raises_rst_alone}, Rules.{broken_rule, judged_rules, keeps, lowest_broken}}
pub use bus_rules.{Rules.{stands_in_reset, test}, Seen.{drives_bsy, id_since, initiator_data, initiator_of}}
pub use bus_rules.{Seen.{others_drive, others_in_call, seen, target_data}, Selection.{calls_exactly}}
pub use bus_rules.declared.seen.Seen.{Seen}
unfoldable pub use bus_rules.Seen.{seen_with}
use Rattle.due_model.specs.scenario.specs as scenario
pub use scenario.{Lookups.{units_of}, Value.{ScenarioValue}, Writing.{Obeys}, declared.value.HostDef.{HostDef}}
pub use scenario.declared.value.{ResetDef.{ResetDef}, TargetDef.{TargetDef}}
use Rattle.due_model.specs.array_model.specs as array_model
pub use array_model.{Seats.{current_of, is_initiator}, Units.{Array, RunningProcess, UnitState, is_held, unit_state_at}}
use Rattle.due_model.specs.story_model.proofs as story_model_proofs
pub use story_model_proofs.StorySteps.{calling_link, ends_link, free_link}
use Rattle.due_model.specs.story_model.specs as story_model
pub use story_model.{BusState.{RowReading, change_by, row_reading}, HistoryEvents.{link_events, row_events_by}}
pub use story_model.{Links.{Link}, Samples.{host_latency, latency_of, target_latency}, Story.{Story, by_reset}}
pub use story_model.{Story.{story_after_events}, TraceHistory.{aim_of, is_arbitration_entry, story_after_calling}}
pub use story_model.TraceHistory.{story_by_change, story_on_bus, story_on_free_bus, story_with_aim}
use Rattle.due_model.specs.reaction_model.specs as reaction_model
pub use reaction_model.Calling.{answer, answer_due, answered_due, called_due, caller_due, calling_due, calling_start}
pub use reaction_model.{Calling.{is_called, loser_release, unanswered_due, with_calling_mark}, Ends.{initiator_due}}
pub use reaction_model.{Ends.{owes_release, sample_due, target_due}, FreeBus.{arbitration_due, contender_lines, entry}}
pub use reaction_model.{FreeBus.{free_due, later_entry_if}, Initiator.{ack_pulse_time, byte_hold_end, byte_time}}
pub use reaction_model.{Initiator.{next_ack_time, oldest_req_time, rose_with_ack}, Linking.{bus_clear, link_due}}
pub use reaction_model.{Linking.{link_due_by, sample_time}, Reactions.{due_at, due_where, earlier_due, fault_due}}
pub use reaction_model.{Reactions.{fault_or, sooner_time, time_if}, Reset.{rst_assertion, rst_release, with_reset}}
pub use reaction_model.Target.{bits_if, byte_bits, first_req, has_io_turned, hold_end, last_hold_end, set_up_end}
pub use reaction_model.declared.{due.{Due.{Due}, Myself.{Myself}, Want.{Want}}, ends.Answering.{Answering}}
pub use reaction_model.declared.{ends.{Offering.{Offering}, Pace.{Pace}}, sight.Sight.{Sight}}
use Rattle.due_model.specs.dialogue_model.specs as dialogue_model
pub use dialogue_model.{Ends.{lag_by, seek_by}, Hearing.{begun, begun_after}, Wants.{Ready, first_ready}}
pub use dialogue_model.Wants.{is_ready_before, ready_in}
use Rattle.due_model.proofs as due_model_proofs
pub use due_model_proofs.{Leasts.{least_some, some_eq}, Plains.{bus_state_is, change_same, run_state_plain}}
pub use due_model_proofs.Seams.{onto}
use Rattle.due_model.specs as due_model
pub use due_model.{Connected.{connected_due, end_due, is_receiver}, Defs.{target_def_of}, Due.{calm_due, device_due}}
pub use due_model.{Due.{due_if, is_reset_past, link_due_of, reset_from, self_of, stage_due}, Least.{IsLeast}}
pub use due_model.{Next.{IsPrompt, due, next}, Own.{Own, own_after, own_at, own_next, own_of}, Plain.{AreOfDevices}}
pub use due_model.{RunState.{RunState, agreement_of, array_of, bus_of, or_start}, RunSteps.{array_after_events}}
pub use due_model.RunSteps.{current_times_after, current_times_if, first_run_state, is_same_running, run_state}
pub use due_model.{RunSteps.{run_state_after, run_state_with_events}, Sights.{answering_of, flip_of, hearing_of}}
pub use due_model.{Sights.{offering_of, pace_of, sight_of, stage_of, want_of}, Wants.{callee, item_want_time}}
pub use due_model.Wants.{ready_among, ready_at, ready_of, ready_time, seek_of, since_of, want_time}
use Rattle.scsi_device.proofs as scsi_device_proofs
pub use scsi_device_proofs.{FitLines.{obeys_fits}, WantTimes.{next_reset_before, wants_before}}
use Rattle.scsi_device.specs as scsi_device
pub use scsi_device.Heard.{Instructions, heard, instructions, instructions_by, is_heard_after, no_instructions}
pub use scsi_device.{Lines.{FitsBus, IsHostLine, IsTargetLine}, Writes.{Writer, is_written, writers, writers_after}}
pub use scsi_device.Writes.{written}
use Rattle.bus_laws.specs as bus_laws
pub use bus_laws.Callings.{answer_lines, answered_calling, arbitration_bus, awaiting_call, begun_call, both_ids}
pub use bus_laws.Callings.{call_with, calling_lines, new_calling_at, resumed_calling, withdrawn_call, won_bus, won_call}
pub use bus_laws.{Ends.{by_reselection, by_selection}, Reactions.{device_with, own_time, reset_due, reset_due_if}}
pub use bus_laws.{Reactions.{unreset_due, unreset_due_if}, Rows.{Stands, change_to, row_of_fault, row_of_lines}}
pub use bus_laws.Stages.{Arbitrating, ArbitrationWon, AreAhead, AwaitsAnswer, BusStage, Calls, CalmStanding, FreeBus}
pub use bus_laws.Stages.{HasDevice, HasShortLatencies, HaveNoConnection, HoldsReset, IsAnswered, IsContender, IsLoser}
pub use bus_laws.Stages.{IsUnderRst, NextCalmRow, NextRow, Standing, UnderRst, after_answer, after_arbitration}
pub use bus_laws.Stages.{after_takeover, after_withdrawal, awaiting_answer, holds, in_arbitration, in_connection}
pub use bus_laws.Stages.{in_reset, is_connected, lingers, on_free_bus, quiet, with_both_ids}
