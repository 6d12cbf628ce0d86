-- The names of other crates, and of this crate's definitions, that its proofs speak of, each by its home. A proof takes
-- them by `use proofs.Names.{..}`; tools/checks/imports.py brings in those that a proof imports by their home.
use Rattle.std.proofs as std_proofs
pub use std_proofs.Common.{Bool, List, None, Option, Some, [], ap, arith, drop, false, inl, inr, length, not, refl}
pub use std_proofs.Common.{subst, suc, sym, take, true, zero, ℕ, ◌%◌, ◌&&◌, ◌*◌, ◌++◌, ◌+◌, ◌-◌, ◌<◌, ◌==◌, ◌^◌, ◌||◌}
pub use std_proofs.{Common.{◌∙◌, ◌∷◌, ◌≡◌, ◌≢◌, ◌≤◌, ◌⊎◌}, lemmas.Bool.{and_parts, and_right, cases_Bool, cases_eq}}
pub use std_proofs.lemmas.Bool.{eq-eqb, eqb-true, le-leb, lt-ltb, ltb-true, ne_eqb, not-true, true≢false}
pub use std_proofs.lemmas.{Bool.Decides.{nat_tests}, List.{length-append, length-replicate, length-take}}
pub use std_proofs.lemmas.Option.{none-some, same_Some}
use Rattle.std.specs as std
pub use std.{Int.{Bits.{or_self, or_zero_r}, RustNames.{bit_or}}, List.{AllByRecursion}, Prelude.{if◌then◌else◌}}
pub use std.Prelude.{is_some, map, max, min, nat_le, nat_lt, slice_index_or}
use Rattle.due_model.specs.bus_base.proofs as bus_base_proofs
pub use bus_base_proofs.Tests.{and_false, eq_self, implication_parts, implied, next_some, none_number, or_false}
pub use bus_base_proofs.Tests.{or_true, wrong', zero_of}
use Rattle.due_model.specs.bus_base.specs as bus_base
pub use bus_base.{Faults.{counted_on}, declared.Event.{Event}}
use Rattle.due_model.specs.bus_trace.proofs as bus_trace_proofs
pub use bus_trace_proofs.{Ages.{since_le}, Buses.{bus_none, bus_two}, OneRow.{drives-fault}, Sets.{same_self}}
use Rattle.due_model.specs.bus_trace.specs as bus_trace
pub use bus_trace.{Agreements.{fast_times, slow_times, times_of, times_or_slow}, Changes.{change_of, drives_data}}
pub use bus_trace.{Changes.{falls, implies, rises}, LineSet.{LineSet, bit_value, data_of, none, parity_of, same, union}}
pub use bus_trace.{Phases.{changes_phase, is_data, is_message_out}, Terms.{call, connection, connection_after}}
pub use bus_trace.{Terms.{free_since, is_fault, raised, receiver, receiver_in, receiver_of, when}, Trace.{bus, drives}}
pub use bus_trace.Trace.{last_time, line_times, newer, newer_line, phase_time, since, since_line, times_after}
pub use bus_trace.declared.{Kind.TheVariants.{Drives, Fault}, Row.{Row}, agreements.Agreement.{Agreement}}
pub use bus_trace.declared.agreements.{TheConstants.{UNLIMITED_OFFSET}, TransferTimes.{TransferTimes}}
pub use bus_trace.declared.{changes.Change.{Change}, connection.Connection.{Connection}}
pub use bus_trace.declared.delays.TheConstants.{BUS_SETTLE_DELAY, DATA_RELEASE_DELAY, TURN_DELAY}
pub use bus_trace.declared.{line_times.LineTimes.{LineTimes}, selection.Call.{Call}}
use Rattle.due_model.specs.bus_lines.proofs as bus_lines_proofs
pub use bus_lines_proofs.Early.{push_length, struck_length, struck_same}
use Rattle.due_model.specs.bus_lines.specs as bus_lines
pub use bus_lines.Handshakes.{Handshakes, answered, answered_if, asked, asked_if, first_of, handshakes}
pub use bus_lines.Handshakes.{handshakes_after, is_struck, newest_struck, newest_struck_if, no_handshakes, opened}
pub use bus_lines.{Handshakes.{or_now, or_zero, room_by, time_of, with_last_struck}, Stage.{stage}}
pub use bus_lines.declared.{handshakes.Request.{Request}, stage.Stage.TheVariants.{InConnection, OnFreeBus}}
use Rattle.due_model.specs.cdb_codec.specs as cdb_codec
pub use cdb_codec.{Blocks.{blocks_moved}, Replies.{capacity_data, inquiry_data, sense_data}, declared.Sense.{Sense}}
pub use cdb_codec.declared.{command.Command.{Command}, replies.TheConstants.{INQUIRY_LEN, SENSE_LEN}}
pub use cdb_codec.declared.{status.TheConstants.{GOOD}, tape_command.TapeCommand.{TapeCommand}}
use Rattle.due_model.specs.msg_grammar.specs as msg_grammar
pub use msg_grammar.declared.message.MsgIn.{MsgIn}
use Rattle.due_model.specs.bus_phases.specs as bus_phases
pub use bus_phases.Dialogue.{agreed, byte_crosses, byte_in, byte_out, dialogue, dialogue_after, dialogue_on}
pub use bus_phases.{Dialogue.{heard_with_command, phase_begins}, Half.{is_nil}, Phases.{count_after, duty, duty_after}}
pub use bus_phases.Phases.{duty_if_held, duty_left, is_attention_held, no_pulses, pulses, pulses_after, pulses_on}
pub use bus_phases.{Phases.{turned, turned_after}, Reading.{reading_of}, declared.attention.Duty.{Duty}}
pub use bus_phases.declared.{dialogue.Dialogue.{Dialogue}, pulses.Pulses.{Pulses}, reading.Reading.{Reading}}
pub use bus_phases.declared.spoken.CommandBytes.{CommandBytes}
use Rattle.due_model.specs.bus_rules.proofs as bus_rules_proofs
pub use bus_rules_proofs.First.{all_kept, none_broken}
use Rattle.due_model.specs.bus_rules.specs as bus_rules
pub use bus_rules.{Messages.{is_owed, keeps_command, keeps_messages}, Order.{is_of_device}, Rules.{broken_rule}}
pub use bus_rules.{Rules.{first_broken, judged_rules, keeps, lowest_broken}, Seen.{drives_bsy, id_since}}
pub use bus_rules.{Seen.{initiator_data, initiator_of, others_in_call, seen, target_data}, Transfer.{has_parity}}
pub use bus_rules.{Transfer.{is_after}, declared.seen.Seen.{Seen}}
unfoldable pub use bus_rules.Seen.{seen_with}
use Rattle.due_model.specs.scenario.specs as scenario
pub use scenario.{Lookups.{tape_unit, unit_of}, Reasons.{is_block_in}, Value.{ScenarioValue}}
pub use scenario.declared.value.{FillDef.{FillDef}, Policy.{Policy}, TapeDef.{TapeDef}, TargetDef.{TargetDef}}
pub use scenario.declared.value.UnitDef.{UnitDef}
use Rattle.due_model.specs.array_model.proofs as array_model_proofs
pub use array_model_proofs.{Executed.{of_all, on_tape}, ExecutionFacts.{IsShortReel, tape_short}}
pub use array_model_proofs.{TapeObjects.{AreShort}, UnitContents.{AreAt, AreAtIf, IsAtIf, IsKept, settles, step_keeps}}
pub use array_model_proofs.UnitContents.{unit_found}
use Rattle.due_model.specs.array_model.specs as array_model
pub use array_model.Contents.{Contents, blank_contents, block_at, bytes_at, filled_contents, loaded_contents}
pub use array_model.Contents.{loaded_objects, no_contents, starting_contents, touched_block, touched_with, with_block}
pub use array_model.{Contents.{with_bytes, zero_block}, Execution.{CommandContext, Execution, Reply, check_condition}}
pub use array_model.Execution.{command_execution, execution, good, is_good_range, range_of, reply_execution}
pub use array_model.{Execution.{returned_sense, write_execution}, Processes.{Process}, Reels.{AreWhole, Object, Reel}}
pub use array_model.Units.{Array, Nexus, UnitState, nexus_of, settled_array, starting_array, starting_units}
pub use array_model.Units.{unit_state_at}
use Rattle.due_model.specs.story_model.proofs as story_model_proofs
pub use story_model_proofs.StorySteps.{events_link}
use Rattle.due_model.specs.story_model.specs as story_model
pub use story_model.{BusState.{RowReading, row_reading}, CarriedBytes.{carried_of}, HistoryEvents.{bus_free_events}}
pub use story_model.HistoryEvents.{carried_if, connection_events, end_events, is_complete, is_completion, link_events}
pub use story_model.{HistoryEvents.{phase_events, row_events_by}, Items.{Item, abort, process}, Links.{Link}}
pub use story_model.{Samples.{latency_of}, Story.{Story}, TraceHistory.{story_on_bus}}
use Rattle.due_model.specs.reaction_model.specs as reaction_model
pub use reaction_model.{Ends.{initiator_due, owes_release, sample_due, target_due}, Initiator.{ack_negation}}
pub use reaction_model.Initiator.{ack_pulse_end, attends_by, byte_release, initiator_byte, initiator_handshake}
pub use reaction_model.{Initiator.{initiator_pulse, received_byte_ack, sent_byte_ack}, Reactions.{due_at}}
pub use reaction_model.Target.{bits_if, byte_bits, byte_change, first_byte, first_req, next_req, phase_end, pulse_turn}
pub use reaction_model.Target.{req_assertion, req_negation, req_pulse_end, target_handshake, target_pulse}
pub use reaction_model.declared.{due.{Due.{Due}, Myself.{Myself}}, ends.{Answering.{Answering}, Offering.{Offering}}}
pub use reaction_model.declared.{ends.Pace.{Pace}, sight.Sight.{Sight}}
use Rattle.due_model.specs.dialogue_model.specs as dialogue_model
pub use dialogue_model.{Arrivals.{policy_of}, DataRuns.{run_by, run_byte, run_in, run_length, runs_in_all}}
pub use dialogue_model.Ends.{answering_by, is_pulsed_phase, lag_by, offering_by, pace_by}
pub use dialogue_model.{Exchange.{bytes_of_messages, one_message, two_messages}, Hearing.{begun, begun_after}}
pub use dialogue_model.NextPhase.{Serving, after_arrival, after_messages, after_offer, after_run, bus_free}
pub use dialogue_model.NextPhase.{command_leaving, data_in_leaving, data_out_leaving, disconnect_messages}
pub use dialogue_model.NextPhase.{disconnection, message_in_entry, message_out_leaving, message_repetition}
pub use dialogue_model.NextPhase.{next_data_phase, phase_entry, phase_leaving, phase_lines, phase_of}
pub use dialogue_model.NextPhase.{pointer_restoration, recovery, recovery_limit, request_or_command, unless_attention}
pub use dialogue_model.{NextPhase.{with_task}, PhaseBytes.{data_byte, follows_in, lines_by, run_length_if}}
pub use dialogue_model.{Sending.{Sending, byte_to_send}, Words.{is_naming, request_by, target_answer}}
pub use dialogue_model.declared.exchange.{Arrival.{Arrival}, Cause.{Cause}, Leaving.{Leaving}, Next.{Next}}
pub use dialogue_model.declared.exchange.{Phase.{Phase}, Task.{Task}}
use Rattle.due_model.proofs as due_model_proofs
pub use due_model_proofs.{Leasts.{some_eq}, Plains.{run_state_plain}, Stills.{keeps_wishes}}
use Rattle.due_model.specs as due_model
pub use due_model.{Connected.{end_due, initiator_end_due, is_receiver, target_end_due}, Defs.{host_of, target_def_of}}
pub use due_model.{Due.{self_of, stage_due}, LastingState.{progress_in}, Least.{IsLeast}, Next.{IsPrompt, due}}
pub use due_model.{Own.{Own, own_after, own_of}, Plain.{AreOfDevices, crossed, crossed_if}, RunState.{RunState}}
pub use due_model.RunState.{array_of, bus_of, carried_here, item_of, or_start, process_here, process_item}
pub use due_model.{RunState.{process_served}, RunSteps.{array_after_events, leaving_of, progress_after}}
pub use due_model.{RunSteps.{progress_by_leaving, run_state, served_after}, Sights.{flip_of, sending_by, sending_of}}
pub use due_model.{Sights.{serving_at, sight_of}, Tasks.{given_if, is_writing, moved_count, reply_now, task_if}}
pub use due_model.{Tasks.{task_with}, Wants.{want_time}, Wishes.{IsStill, Wishes}}
use Rattle.bus_laws.specs.scsi_device.proofs as scsi_device_proofs
pub use scsi_device_proofs.{FitLines.{obeys_fits, unit_fits}, SentBytes.{process_few}}
use Rattle.bus_laws.specs.scsi_device.specs as scsi_device
pub use scsi_device.Lines.{FitsBus, IsTapeLine, IsUnitLine}
use Rattle.bus_laws.proofs as bus_laws_proofs
pub use bus_laws_proofs.Lines.{Apart.{change_plain}, Rows.{change_is, drives_other, drives_own, fault_change}}
pub use bus_laws_proofs.Lines.Rows.{own_time_fault, own_time_other, own_time_own, since_is, stage_is, stands_after}
pub use bus_laws_proofs.{Lines.Rows.{stands_by}, Resets.{Dues.{own_fault, own_other}, Steps.{raises}}}
pub use bus_laws_proofs.Stages.{Dues.{free_due_is, is_at, is_entry, is_there}, Facts.{least_is}}
pub use bus_laws_proofs.Stages.Next.{ahead_with_resets, by_calm, by_reset, from_stage, reset_or_calm, stage_first}
pub use bus_laws_proofs.{Stages.Next.{standing_after, standing_first, standing_next}, Times.Limits.{obeys_latencies}}
pub use bus_laws_proofs.Times.Periods.{offset_is_byte}
use Rattle.bus_laws.specs as bus_laws
pub use bus_laws.Ends.{BeginsConnection, BeginsSelected, EndLines, Linked, by_reselection, by_selection, connected_bus}
pub use bus_laws.{Ends.{ends_selected, initiator_side, target_side}, Reactions.{device_with, own_time, unreset_due}}
pub use bus_laws.{Reactions.{unreset_due_if}, Rows.{Stands, change_to, row_of_fault, row_of_lines}, Stages.{AreAhead}}
pub use bus_laws.Stages.{BusStage, CalmStanding, FreeBus, HasDevice, HasShortLatencies, NextRow, Standing, after_answer}
pub use bus_laws.Stages.{after_arbitration, after_takeover, after_withdrawal, awaiting_answer, in_arbitration}
pub use bus_laws.Stages.{in_connection, in_reset, is_connected, on_free_bus, with_both_ids}
use Rattle.link_laws.specs as link_laws
pub use link_laws.Books.{KeepsBooksIn, free_in_time, frees_in_time, has_odd_byte, has_whole_command, has_whole_messages}
pub use link_laws.Books.{have_odd_bytes, have_whole_commands, have_whole_messages, in_connections, is_row_of_connection}
pub use link_laws.LinkStages.{AnyStage, LinkStage, NextAny, apart, linked, when_offering, when_pulsing, when_selected}
pub use link_laws.{LinkStages.{when_settling, when_shaking, when_turning}, Phases.{HasDriven, HasTurned, InPhase}}
pub use link_laws.Phases.{Offering as OfferingStage, OneSide, Settling, Shaking, Turning, ends, fits_duty, is_owed_out}
pub use link_laws.{Phases.{shaking_time}, Pulses.{EndsAhead, HasDrivenPulsed, NoSooner, PulseFacts, Pulsing, Reached}}
pub use link_laws.Pulses.{answers_at, byte_in_run, drives_at, drives_by, given_here, initiator_next, initiator_next_at}
pub use link_laws.Pulses.{initiator_time, next_bits, offset_here, pulses_of, run_count, target_next, target_next_at}
pub use link_laws.Pulses.{target_time, times_here}
