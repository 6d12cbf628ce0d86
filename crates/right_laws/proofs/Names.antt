-- The names of other crates, and of this crate's definitions, that its proofs speak of, each by its home. A proof takes
-- them by `use proofs.Names.{..}`; tools/checks/imports.py brings in those that a proof imports by their home.
use Rattle.std.proofs as std_proofs
pub use std_proofs.Common.{Bool, Err, List, None, Ok, Option, Result, Some, [], ap, append-nil, append_assoc, arith}
pub use std_proofs.Common.{cond, drop, false, inl, inr, length, length-append, max, not, refl, subst, suc, sym, take}
pub use std_proofs.Common.{true, true≢false, zero, ℕ, ◌%◌, ◌&&◌, ◌*◌, ◌++◌, ◌+◌, ◌-◌, ◌<◌, ◌==◌, ◌^◌, ◌||◌, ◌∙◌, ◌∷◌}
pub use std_proofs.{Common.{◌≡◌, ◌≢◌, ◌≤◌, ◌⊎◌}, lemmas.Bool.{and_from, and_left, and_parts, and_right, cases_eq}}
pub use std_proofs.lemmas.Bool.{eqb-true, ltb-false, ltb-true, ne_eqb, not-false, not-true, or_parts, or_right}
pub use std_proofs.lemmas.{Bool.Decides.{nat_tests}, List.{length-take, reverse-append, reverse-reverse}}
pub use std_proofs.lemmas.Option.{same_Some}
use Rattle.std.specs as std
pub use std.{Int.RustNames.{bit_or, count_ones}, List.{AllByRecursion, find, list_any}, Prelude.{if◌then◌else◌}}
pub use std.Prelude.{is_none, is_some, map, min, nat_le, nat_lt, reverse, slice_index, slice_index_or, slice_set, ⊤}
use Rattle.due_model.specs.bus_base.proofs as bus_base_proofs
pub use bus_base_proofs.Tests.{all_three, and_false, and_first, eq_self, eq_turned, middle, none_number, not_first}
pub use bus_base_proofs.Tests.{nothing_below, plus_none, wrong, wrong', zero_of}
use Rattle.due_model.specs.bus_base.specs as bus_base
pub use bus_base.{Faults.{counted_on}, declared.{AbortKind.{AbortKind}, Event.{Event}, ProcId.{ProcId}}}
use Rattle.due_model.specs.bus_trace.proofs as bus_trace_proofs
pub use bus_trace_proofs.{Buses.{bus_off, bus_on, bus_one}, Connections.{connection_stays}, OddParity.{byte_back}}
pub use bus_trace_proofs.{OneRow.{bus-fault, drives-fault, drives-other}, Sets.{same_eq, same_self, same_set-eq}}
use Rattle.due_model.specs.bus_trace.specs as bus_trace
pub use bus_trace.{Agreements.{fast_times, slow_times, times_of, times_or_slow}, Changes.{change_of, falls, rises}}
pub use bus_trace.LineSet.{LineSet, byte_set, has_id_above, ids_set, none, same, same_set, union}
pub use bus_trace.{Phases.{changes_phase, is_command, is_data, is_message_in, is_message_out}, Terms.{arbitration}}
pub use bus_trace.Terms.{call, call_goes_on, called_goes_on, caller_goes_on, calling_after, connection}
pub use bus_trace.Terms.{connection_after, drives_two_ids, free_since, is_fault, new_calling, receiver, receiver_in}
pub use bus_trace.{Terms.{receiver_of, when}, Trace.{bus, driven_after, drives, last_time, line_times, phase_time}}
pub use bus_trace.{Trace.{since_line}, declared.{Kind.{Kind, TheVariants.{Drives, Fault}}, Row.{Row}}}
pub use bus_trace.declared.{agreements.Agreement.{Agreement}, arbitration.Arbitration.{Arbitration}}
pub use bus_trace.declared.{changes.Change.{Change}, connection.Connection.{Connection}}
pub use bus_trace.declared.delays.TheConstants.{ARBITRATION_DELAY, BUS_SETTLE_DELAY, BUS_SET_DELAY, ENTRY_DELAY}
pub use bus_trace.declared.{delays.TheConstants.{QUIET_TIME, SET_UP_TIME, TWO_DESKEW}, selection.Call.{Call}}
pub use bus_trace.declared.selection.Calling.{Calling}
unfoldable pub use bus_trace.View.{union_below}
use Rattle.due_model.specs.bus_lines.proofs as bus_lines_proofs
pub use bus_lines_proofs.Early.{struck_same}
use Rattle.due_model.specs.bus_lines.specs as bus_lines
pub use bus_lines.Handshakes.{Handshakes, answered_if, asked_if, handshakes, handshakes_after, newest_struck_if}
pub use bus_lines.{Handshakes.{no_handshakes}, Stage.{answer_stage, call_stage, stage, stage_by}}
pub use bus_lines.declared.stage.Stage.{Stage, TheVariants.{InAnswer, InArbitration, InCalling, InReset, OnFreeBus}}
use Rattle.due_model.specs.cdb_codec.proofs as cdb_codec_proofs
pub use cdb_codec_proofs.Readings.{writes_alike}
use Rattle.due_model.specs.cdb_codec.specs as cdb_codec
pub use cdb_codec.{Blocks.{blocks_moved}, Cdb.{command_of, has_group_len}, Replies.{inquiry_data, sense_data}}
pub use cdb_codec.{TapeCdb.{tape_command_of}, declared.{Sense.{Sense}, command.CdbFault.{CdbFault}}}
pub use cdb_codec.declared.{command.Command.{Command}, operation.TheConstants.{INQUIRY}}
pub use cdb_codec.declared.{replies.TheConstants.{INQUIRY_LEN, SENSE_LEN}, sense.TheConstants.{ABORTED_COMMAND}}
pub use cdb_codec.declared.sense.TheConstants.{INITIATOR_DETECTED_ERROR, PARITY_ERROR}
pub use cdb_codec.declared.{status.TheConstants.{CHECK_CONDITION, GOOD}, tape_command.TapeCommand.{TapeCommand}}
use Rattle.due_model.specs.msg_grammar.specs as msg_grammar
pub use msg_grammar.{Messages.{got_in, got_out}, declared.message.{MsgIn.{MsgIn}, MsgOut.{MsgOut}}}
unfoldable pub use msg_grammar.Messages.{form_in}
use Rattle.due_model.specs.bus_phases.specs as bus_phases
pub use bus_phases.Dialogue.{byte_else, byte_in, byte_out, dialogue, fresh_bytes, heard_with_command}
pub use bus_phases.declared.dialogue.Dialogue.{Dialogue}
use Rattle.due_model.specs.bus_rules.proofs as bus_rules_proofs
pub use bus_rules_proofs.First.{row_none}
use Rattle.due_model.specs.bus_rules.specs as bus_rules
pub use bus_rules.{Order.{is_of_device}, Reset.{only_rst}, Rules.{broken_rule}}
use Rattle.due_model.specs.scenario.proofs as scenario_proofs
pub use scenario_proofs.{Steps.{bind_ok, ok_is}, TapeNeeds.{plain_need}, UnitLines.{plain_unit}}
use Rattle.due_model.specs.scenario.specs as scenario
pub use scenario.Forms.{Said, abort_line, cmd_line, end_line, fault_line, fill_line, initiator_line, load_line}
pub use scenario.{Forms.{reset_line, scsi_line, tape_line, target_line, unit_line}, Lookups.{has_target, is_tape}}
pub use scenario.{Lookups.{tape_of, tape_unit, unit_of, units_of}, Needs.{is_write, moved_by, need_at, need_of}}
pub use scenario.{Needs.{tape_moved_by}, Reading.{Progress, abort_def, fault_def, fill_def, fits_version, full_cmd_def}}
pub use scenario.Reading.{guard, host_def, in_order, kind_of, load_def, nothing, rank, reset_def, tape_def, target_def}
pub use scenario.{Reading.{unit_def}, Value.{ScenarioValue}, Writing.{Obeys, built, saids}}
pub use scenario.declared.value.{AbortDef.{AbortDef}, CmdDef.{CmdDef}, FaultDef.{FaultDef}, FillDef.{FillDef}}
pub use scenario.declared.value.{HostDef.{HostDef}, Policy.{Policy}, TapeDef.{TapeDef}, TargetDef.{TargetDef}}
pub use scenario.declared.value.UnitDef.{UnitDef}
unfoldable pub use scenario.Reading.{added, said_after}
use Rattle.due_model.specs.array_model.proofs as array_model_proofs
pub use array_model_proofs.{ArrayReplies.{end_lists, loss_lists}, Executed.{of_all, on_tape, storing}}
pub use array_model_proofs.ExecutionFacts.{HasWholeReel, IsWholeReel, read_gives, reel_whole, sense_block_of}
pub use array_model_proofs.ExecutionFacts.{sense_executed, stored_apart, tape_few, undone, whole_kept}
pub use array_model_proofs.{SeatContexts.{choice_keeps, settled_context}, SeatLaws.{abort_law, accept_law, device_law}}
pub use array_model_proofs.SeatLaws.{end_law, fail_law, loss_law, other_law, refuse_law, reset_law, run_law}
pub use array_model_proofs.{SoundArrays.{history_sound, is_own, step_sound}, TapeObjects.{most_at_tape}}
pub use array_model_proofs.{UnitKinds.{filled_reel}, WholeBlocks.{AreWhole, blank_whole, block_whole}}
use Rattle.due_model.specs.array_model.specs as array_model
pub use array_model.ArrayHistory.{array_after, array_step, disks_of, reply_in, reply_of, shows_run, tapes_of}
pub use array_model.Contents.{Contents, blank_contents, bytes_at, filled_contents, is_reeled, loaded_contents}
pub use array_model.{Contents.{loaded_objects, no_contents, starting_contents, with_block}, Execution.{CommandContext}}
pub use array_model.Execution.{Execution, Reply, check_condition, command_execution, execution, good, invalid_field}
pub use array_model.Execution.{is_good_range, is_opcode, is_request_sense, queue_full, range_of, returned_sense}
pub use array_model.{Execution.{sense_of, tape_in, unit_not_supported}, Order.{choice, range_in, range_named}}
pub use array_model.{Processes.{Process, process_of, same_id}, Reels.{Reel}, Seats.{Seat, contents_of, context_of}}
pub use array_model.Seats.{current_of, guests_at, is_of_other_unit, seat_if, seat_of, settled_seat, settled_seat_if}
pub use array_model.SoundArray.{AllOwn, AllOwnGuests, AllOwnUnits, AreApart, HasSeats, IsOwn, IsOwnRunning, IsOwnUnit}
pub use array_model.{SoundArray.{IsSound}, Steps.{context_at, has_ended, has_tag, is_of_unit, process_count}}
pub use array_model.{Steps.{running_if, step}, TapeExecution.{Tape, end_of_medium_detected, has_room, write_reply}}
pub use array_model.{Tapes.{blocks_taken}, Units.{Array, Nexus, RunningProcess, UnitState, guest_at, has_no_current}}
pub use array_model.Units.{is_held, nexus_of, sense_of_nexus, settled_array, starting_array, starting_unit}
pub use array_model.Units.{starting_units, unit_after_choice, unit_state_at, units_after_choice, with_current}
pub use array_model.Units.{without_reply}
use Rattle.due_model.specs.story_model.proofs as story_model_proofs
pub use story_model_proofs.{CarriedLists.{carried_id, carried_with}, StorySteps.{check_carried, ends_carried}}
pub use story_model_proofs.StorySteps.{free_carried, message_id}
use Rattle.due_model.specs.story_model.specs as story_model
pub use story_model.BusState.{RowReading, message_in, message_out, row_reading, whole_in, whole_out}
pub use story_model.CarriedBytes.{Area, CarriedBytes, area_with, bytes_with, carried_after_byte, carried_after_fault}
pub use story_model.CarriedBytes.{carried_after_message, carried_of, carried_or_nothing, is_status_phase}
pub use story_model.CarriedBytes.{is_whole_block, nothing_carried, with_carried, with_restored_pointers}
pub use story_model.HistoryEvents.{abort_line_at, abort_line_events, bus_free_events, carried_if, connection_events}
pub use story_model.HistoryEvents.{end_events, is_complete, is_completion, is_refuse, item_abort_events}
pub use story_model.HistoryEvents.{item_loss_events, link_events, phase_events, queue_event, queue_events}
pub use story_model.{HistoryEvents.{row_events_by, status_event}, Items.{Item, abort, has_item, process, sense_item}}
pub use story_model.Links.{LastMessage, Link, abortive, complete, disconnect, is_open_sense, last_in, last_out}
pub use story_model.{Links.{link_after_name, link_of, plain}, Outcomes.{outcomes}, Right.{Right, all_carried}}
pub use story_model.{Right.{carried_by, has_run, is_carried, is_run_of, moved_bytes, same_bytes}, Samples.{Sample}}
pub use story_model.Samples.{Strike, expected_strikes, faults_in_order, first_from, host_latency, is_kept_by_reset}
pub use story_model.Samples.{is_sampled_before, kept_samples, latency_of, row_strikes, samples, samples_with_byte}
pub use story_model.Samples.{samples_with_ids, samples_with_ids_after, samples_with_ids_of, strike_of, strikes_by}
pub use story_model.Samples.{target_latency, with_fault, with_first_strike, with_sample, with_strike, without_first}
pub use story_model.Story.{Story, by_abort, by_reset, is_aborted, is_sense_stopped, marked_refused, marked_shown}
pub use story_model.{Story.{story_after_event, story_after_events, story_with_end}, TraceHistory.{aim_of}}
pub use story_model.TraceHistory.{carried_after_byte_if, carried_after_fault_if, carried_after_message_if}
pub use story_model.TraceHistory.{is_parity_error, story, story_after_byte, story_after_connection, story_after_fault}
pub use story_model.TraceHistory.{story_after_in, story_after_message, story_after_out, story_by_change}
pub use story_model.TraceHistory.{story_in_connection, story_on_bus, story_with_carried, story_with_restored}
pub use story_model.TraceHistory.{story_with_sent, trace_history}
use Rattle.disk_unit.proofs as disk_unit_proofs
pub use disk_unit_proofs.Parts.{length_bytes}
use Rattle.disk_unit.specs as disk_unit
pub use disk_unit.{Disk.{blocks_written}, Held.{taken_now, taken_with}}
use Rattle.due_model.specs.reaction_model.specs as reaction_model
pub use reaction_model.Calling.{answer, answer_due, answered_due, bsy_takeover, called_due, caller_due, calling_abort}
pub use reaction_model.Calling.{calling_start, is_called, loser_release, reselection_end, selection_end, unanswered_due}
pub use reaction_model.{Calling.{with_calling_mark, withdrawal}, Ends.{bsy_release, initiator_due, message_out_start}}
pub use reaction_model.{Ends.{owes_release, sample_due, target_due}, FreeBus.{arbitration_due, entry, free_due}}
pub use reaction_model.{FreeBus.{later_entry_if, win}, Initiator.{ack_negation, ack_pulse, ack_pulse_end, byte_release}}
pub use reaction_model.Initiator.{initiator_byte, initiator_handshake, initiator_pulse, initiator_turn, pulsed_byte}
pub use reaction_model.Initiator.{received_byte_ack, received_byte_pulse, rose_with_ack, sent_byte_ack, sent_byte_pulse}
pub use reaction_model.{Linking.{bus_clear, link_due_by}, Reactions.{due_at, due_where, earlier_due, fault_due}}
pub use reaction_model.{Reactions.{fault_or}, Target.{bits_if, byte_bits, byte_change, first_byte, first_req}}
pub use reaction_model.Target.{has_io_turned, next_req, phase_end, pulse_turn, pulsed_phase_end, req_assertion}
pub use reaction_model.Target.{req_negation, req_pulse, req_pulse_end, target_handshake, target_pulse, target_turn}
pub use reaction_model.declared.{due.{Due.{Due}, Myself.{Myself}, Want.{Want}}, ends.Answering.{Answering}}
pub use reaction_model.declared.{ends.{Offering.{Offering}, Pace.{Pace}}, sight.Sight.{Sight}}
use Rattle.due_model.specs.dialogue_model.specs as dialogue_model
pub use dialogue_model.{Arrivals.{policy_of}, DataRuns.{run_at, run_length, runs_in, runs_in_all}, Ends.{follows_by}}
pub use dialogue_model.{Ends.{is_pulsed_phase}, Events.{is_status_next}, Exchange.{Exchange, bytes_of_messages}}
pub use dialogue_model.{Exchange.{from_byte, message_bytes, one_message, plan_anew}, Hearing.{begun, begun_after}}
pub use dialogue_model.NextPhase.{Serving, after_messages, after_run, disconnect_messages, disconnection, leaving_by}
pub use dialogue_model.NextPhase.{phase_entry, phase_leaving, phase_lines, phase_of, unless_attention, with_task}
pub use dialogue_model.PhaseBytes.{data_byte, follows_in, lines_by, one_if, phase_byte, run_length_if}
pub use dialogue_model.Planning.{cause_after, first_plan, plan_in_message_out, plan_in_phase}
pub use dialogue_model.declared.exchange.{Cause.{Cause}, Leaving.{Leaving}, Messages.{Messages}, Next.{Next}}
pub use dialogue_model.declared.exchange.{Phase.{Phase}, Plan.{Plan}, Task.{Task}}
use Rattle.due_model.proofs as due_model_proofs
pub use due_model_proofs.{Leasts.{least_none}, Plains.{run_state_plain}}
use Rattle.due_model.specs as due_model
pub use due_model.{Connected.{is_receiver}, Defs.{host_of, target_def_of}, Due.{reset_from}}
pub use due_model.{LastingState.{ProcessProgress, progress_in}, Least.{IsLeast}, Next.{IsPrompt, due}, Own.{Own}}
pub use due_model.{Plain.{AreOfDevices, IsPlain, crossed, crossed_if}, RunState.{RunState, array_of, bus_of}}
pub use due_model.{RunState.{carried_here, or_start, process_item, process_served}, RunSteps.{array_after_events}}
pub use due_model.RunSteps.{exchange_after, first_exchange, is_for_process, item_if, leaving_of, may_negotiate}
pub use due_model.RunSteps.{naming_of, progress_after, progress_by_leaving, run_state, run_state_after, served_after}
pub use due_model.Sights.{flip_of, hearing_of, leaving, offering_of, serving_at, serving_of, want_of}
pub use due_model.Tasks.{blocks_in, given_if, given_of, is_writing, moved_count, reply_now, size_of, task_if, task_of}
pub use due_model.{Tasks.{task_with}, Telling.{is_true_telling, telling}, Wants.{ready_of}}
use Rattle.trace_laws.specs.scsi_device.proofs as scsi_device_proofs
pub use scsi_device_proofs.{Finds.{all_are, all_more}, FitLines.{each_unit, obeys_fits, seats_are}}
pub use scsi_device_proofs.LineReads.{tape_read, unit_read}
use Rattle.trace_laws.specs.scsi_device.specs as scsi_device
pub use scsi_device.{Heard.{Instructions, instructions, instructions_after}, Lines.{FitsBus, IsTapeLine}}
pub use scsi_device.Writes.{Writer, block_size, is_data_out, is_of_size, start_of_run, writers}
use Rattle.trace_laws.specs.target_units.proofs as target_units_proofs
pub use target_units_proofs.{AbsentReplies.{replies}, ReplySteps.{accept_same, run_replies}, Rooms.{kinds_always}}
pub use target_units_proofs.{Rooms.{lines_always, none_tape, sends}, Starts.{line_filled, start_settled}}
pub use target_units_proofs.UnitTellings.{context_same}
use Rattle.trace_laws.specs.target_units.specs as target_units
pub use target_units.{Absent.{absent_reply_by, data_or_refusal, inquiry_room, sense_room}, Fillings.{AreFilled}}
pub use target_units.Rooms.{AreOfKinds, AreOfLines, IsOfKind, IsOfLine}
use Rattle.trace_laws.specs.book_laws.proofs as book_laws_proofs
pub use book_laws_proofs.Carried.{Areas.{puts}, Blocks.{block_is_all}, Commands.{own_of}, Facts.{process_id}}
pub use book_laws_proofs.{Carried.Steps.{IsKept, no_link, row_carried}, Common.InConnection.{InConnection, dialogue_by}}
pub use book_laws_proofs.Common.{InConnection.{in_connection, reading_is, same_phase_is}, Lookups.{id_is, self_id}}
pub use book_laws_proofs.Given.Rows.{requests_rise, requests_stay}
use Rattle.trace_laws.specs.book_laws.specs as book_laws
pub use book_laws.{Accounts.{is_served_by, policy_for}, Carrying.{IsFilled, TakesBlock}, Giving.{AreGiven, OnMessage}}
pub use book_laws.{Hearing.{LeavesWhole, is_in_phase}, Knowing.{Knows}, Reactions.{IsOver}, Rows.{IsFirstRow, IsRowIn}}
pub use book_laws.{Rows.{RowKind, crosses, reading_in, still, strikes, turns}, Traces.{Begins, Books, GoesOn, RowOf}}
pub use book_laws.Traces.{apart, begins, goes_on, under_reset, RowOf.{apart as row_apart}}
use Rattle.trace_laws.specs.bus_laws.proofs as bus_laws_proofs
pub use bus_laws_proofs.Lines.{Apart.{change_plain}, Rows.{drives_other, drives_own, fault_change, since_is, stage_is}}
pub use bus_laws_proofs.{Lines.Rows.{stands_after}, Resets.Dues.{comes_by, comes_by_first, due_calm, due_holding}}
pub use bus_laws_proofs.Resets.Dues.{due_there, one_of, own_fault, own_other, own_reset_is, released_own, reset_after}
pub use bus_laws_proofs.{Resets.Rows.{off_at, resets_of_own}, Stages.Answer.{from_answered, from_resumed}}
pub use bus_laws_proofs.Stages.{Answer.{from_withdrawn}, Arbitration.{from_arbitration}, CallDues.{answers_due}}
pub use bus_laws_proofs.Stages.{CallDues.{aside_due, asks_due, before_due, flip_at, waits_due}, Calling.{answer_exists}}
pub use bus_laws_proofs.Stages.{Calling.{from_asking, from_calls, ids_not_zero, only_caller}, Dues.{due_in}}
pub use bus_laws_proofs.Stages.{Dues.{due_in_reset, is_at, is_there}, Facts.{least_is}, Free.{from_free, row_is}}
pub use bus_laws_proofs.Stages.{Next.{always_is, by_calm, calm_first, from_stage, reset_or_calm}, Won.{from_won}}
pub use bus_laws_proofs.Times.Limits.{obeys_latencies}
use Rattle.trace_laws.specs.bus_laws.specs as bus_laws
pub use bus_laws.Callings.{answer_lines, awaiting_call, begun_call, both_ids, calling_lines, new_calling_at, won_call}
pub use bus_laws.Ends.{BeginsConnection, EndLines, Linked, by_reselection, by_selection, connected_bus, ends_selected}
pub use bus_laws.{Ends.{initiator_side, target_side}, Reactions.{device_with, own_time, reset_due, unreset_due}}
pub use bus_laws.{Rows.{row_of_fault, row_of_lines}, Stages.{AwaitsAnswer, BusStage, Calls, CalmStanding}}
pub use bus_laws.Stages.{HasShortLatencies, NextRow, Standing, after_answer, after_arbitration, after_takeover}
pub use bus_laws.Stages.{after_withdrawal, awaiting_answer, in_arbitration, in_reset, on_free_bus, with_both_ids}
use Rattle.trace_laws.specs.link_laws.proofs as link_laws_proofs
pub use link_laws_proofs.Dues.Ends.{Mover, answering_with, by_fault, by_initiator, by_target, due_of, initiator_is}
pub use link_laws_proofs.Dues.Ends.{initiator_plain, is_sampling, mover_is, offering_with, pace_with, sight_with}
pub use link_laws_proofs.{Dues.Ends.{target_is, target_plain}, Lines.{Obeys.{same_phases}, Rows.{initiator_in_phase}}}
pub use link_laws_proofs.Lines.Rows.{initiator_moves, no_rise, target_in_phase, target_moves, terms_of}
pub use link_laws_proofs.Phases.{Asks.{counted_some}, Crossings.{initiator_row, target_row}, Ends.{leaves_lines}}
pub use link_laws_proofs.{Phases.{Faults.{linked_fault}, Leavings.{may_leave}}, Runs.Lengths.{runs_are_short}}
pub use link_laws_proofs.Traces.{link_calm, sides_are}
use Rattle.trace_laws.specs.link_laws.specs as link_laws
pub use link_laws.LinkStages.{AnyStage, LinkStage, linked, when_offering, when_pulsing, when_selected, when_settling}
pub use link_laws.{LinkStages.{when_shaking, when_turning}, Phases.{ends}, Pulses.{run_count}}
use Rattle.trace_laws.specs.row_laws.proofs as row_laws_proofs
pub use row_laws_proofs.{Bytes.{Arrays.{IsOf}, Facts.{byte_values}}, Common.Impossible.{none_some, some_none}}
pub use row_laws_proofs.Common.PhaseLines.{command_phase, in_phase, message_line, out_in, out_line, out_lines}
pub use row_laws_proofs.Common.{PhaseLines.{out_no_status, out_phase}, PlanWays.{plan_left, plan_out}}
pub use row_laws_proofs.Common.{StoryWays.{StoryWay, carries, hears, says, story_way}, Tests.{by_bool, by_option}}
pub use row_laws_proofs.{Common.Tests.{none_both, not_unless, risen, zero_below, zero_times}, Events.Answered.{leaves}}
pub use row_laws_proofs.Events.Arriving.{Arrives, arrives, as_guest, in_queue, not_running, queued_rests}
pub use row_laws_proofs.Events.{Kept.{no_array}, Others.{same_after, untouched_at_start}, Processes.{Admits}}
pub use row_laws_proofs.Events.{Processes.{AdmitsEvent, each_after}, Queued.{stays_queued, step_units}}
pub use row_laws_proofs.Events.{Replies.{accepted, listed_on, replies_to, running_id}, Units.{MayWait, StaysSo}}
pub use row_laws_proofs.Events.{Units.{each_settled, events_all}, Writers.{HoldsIt, IsElsewhere, Stands, append_all}}
pub use row_laws_proofs.Events.Writers.{empty_stays, kept_all, map_all, map_units, none_at, stands_each, start_empty}
pub use row_laws_proofs.{Events.Writers.{without_all}, Lines.{Called.{sel_of_call}, Connections.{ConnectionRow}}}
pub use row_laws_proofs.Lines.Connections.{GoingRow, RowKindOf, begins_now, connection_row, goes_now, going_row}
pub use row_laws_proofs.Lines.{Connections.{row_kind, stage_of_connection}, Crossings.{RowFacts, ends_here, leaving_is}}
pub use row_laws_proofs.Lines.{Crossings.{no_answer, no_byte, no_pulse, offering_is}, Driven.{same_ends}}
pub use row_laws_proofs.Lines.{First.{IsFirst, made_is, quiet_sel, under_rst}, Joint.{NextStood, Stood}}
pub use row_laws_proofs.Lines.{Joint.{link_connection, link_phase}, Kept.{initiator_end, target_end}}
pub use row_laws_proofs.Lines.{Plans.{is_directed, writes_of, writes_out, writes_there}, Rows.{LinkRow, is_pulsed}}
pub use row_laws_proofs.Lines.{Rows.{is_unasked, link_row}, Turns.{freed_connection}, UnderRst.{carries_none}}
pub use row_laws_proofs.Lines.{UnderRst.{drives_next, ends_apart, quiet_at_end}, UndoneLeavings.{is_to_message_in}}
use Rattle.trace_laws.specs.row_laws.specs as row_laws
pub use row_laws.DataPointers.{IsPlainIn, IsServedAnew, PointersAsked, PointersIf, PointersIn, PointersOf}
pub use row_laws.DataPointers.{PointersRefused, ServedPointers, calm, closes_again, disconnects_again, is_marked, named}
pub use row_laws.DataPointers.{restores, restores_again, run_policy, run_start, saved, saves_again, step_in, still_calm}
pub use row_laws.{DataPointers.{unnamed}, Ends.{AreEnds, HasEnds}, ItemFacts.{AllP, ItemFacts, RunsP, UnitsP}}
pub use row_laws.{ItemTalks.{frees_bus}, Offers.{OfferFacts}, Places.{AnsweredOpen, Closes, Each, HasPlaces, IsAtRest}}
pub use row_laws.Places.{IsAway, IsOutside, IsTaken, IsUntouched, MayRun, OnGuests, OnUnits, PlaceFacts, PlacedAsked}
pub use row_laws.Places.{PlacedBefore, PlacedIf, PlacedIn, Runs, RunsOpen, Waits, completes, disconnects}
pub use row_laws.{Tells.{AreRepliesShown}, WriteFacts.{AllUnits, IsEmptyUnit, IsOther, IsWrittenUnit}}
use Rattle.trace_laws.specs.story_laws.proofs as story_laws_proofs
pub use story_laws_proofs.{Instructed.Steps.{told_with}, Items.{Facts.{beginning}, Fresh.{data_premises, items_fresh}}}
pub use story_laws_proofs.{Items.{Fresh.{items_open}, Over.{ends_over}, Sent.{sent_grows}}, Last.Rows.{KeptPlan, Stays}}
pub use story_laws_proofs.{Last.{Rows.{stays_as}, Turns.{from_ends}}, Offers.Statuses.{falls_is, left_req, side_is}}
pub use story_laws_proofs.Offers.{Statuses.{unrisen, zero_even, zero_is}, Steps.{stays_out}}
pub use story_laws_proofs.Pointers.{Ends.{command_over, writer_plain}, Steps.{byte_id, byte_moves, byte_story}}
pub use story_laws_proofs.Pointers.{Steps.{fault_id, in_known}, Stories.{story_row}, Turns.{runs_more}}
pub use story_laws_proofs.{Pointers.Waits.{over_row}, Talks.Bytes.{no_completion}, Tells.Facts.{front_length}}
pub use story_laws_proofs.{Tells.Rows.{no_events}, Undone.Facts.{in_of, undo_asks, undo_next, undo_start}}
pub use story_laws_proofs.Undone.{Rows.{IsKeptInside, SameIn, empty_front}, Turns.{not_out}}
use Rattle.trace_laws.specs.story_laws.specs as story_laws
pub use story_laws.{Commands.{CommandFacts, StandsIn}, DataFacts.{DataFacts}, Instructed.{Instructed, InstructedFacts}}
pub use story_laws.{Instructed.{KnownIn}, Items.{IsFresh}, LastTalks.{EndsWell, LastBy, LastFacts, LastGiven, closed}}
pub use story_laws.{LastTalks.{closes, saves, stays, still_stays, to_close, to_save}, Named.{Named, NamedFacts, known}}
pub use story_laws.{Named.{refused, said}, RunCounts.{AreCounted, CountFacts, pulses_here}, RunFacts.{IsServedWell}}
pub use story_laws.{RunFacts.{RunsBy}, RunsWhole.{IsWhole, ends_badly, sends_all, sends_none}, TellFacts.{TellFacts}}
pub use story_laws.WholeRuns.{bytes_come}
use Rattle.trace_laws.proofs as trace_laws_proofs
pub use trace_laws_proofs.{Attended.Asks.{away_guest}, Closes.Stays.{said_then}, Places.Ready.{on_running}}
pub use trace_laws_proofs.Places.{Stays.{stay_shown}, Turns.{command_not_out}, Unshown.{unshown_ready}}
pub use trace_laws_proofs.Runs.{AllSent.{moves_runs, some_total}, Asks.{out_step, rise_of}, Begins.{same_length}}
pub use trace_laws_proofs.Runs.{Begun.{no_more}, Counts.{handshakes_begin, or_left}, Data.{crossing_stands}}
pub use trace_laws_proofs.Runs.Events.{RunsFrom, RunsInPhase, answered, moved_all, reads, run_turn, runs_from, writes}
pub use trace_laws_proofs.Runs.Facts.{LinesOf, active_is, crossing_begun, kind_next, lines_of, raised_rst, task_here}
pub use trace_laws_proofs.Runs.{Facts.{turns_by}, Fits.{FitsRuns, disk_named, fits_runs, kinds_now, lines_now}}
pub use trace_laws_proofs.Runs.{Fits.{named_by, none_sent, plain_contents, policies_most, size_is}, Left.{left_next}}
pub use trace_laws_proofs.Runs.{Left.{left_start}, Parts.{RunsFit, byte_within, has_byte, start_is}, Rows.{runs_first}}
pub use trace_laws_proofs.{Runs.{Rows.{served_id}, Whole.{last_run}}, Sent.Stays.{is_in_next}, Whole.{Whole}}
pub use trace_laws_proofs.{Whole.{row_attendance, standing_next, whole}, Writes.Arrivals.{ArrivesNow, arrives_first}}
pub use trace_laws_proofs.Writes.{Facts.{known_before}, Premises.{write_premises}, Turns.{progress_turns}}
use Rattle.trace_laws.specs as trace_laws
pub use trace_laws.RunsLeft.{HasRunLeft, RunsLeftOf, run_total}
use Rattle.right_laws.specs as right_laws
pub use right_laws.{Asked.{AllMove, GivesAtRun, IsRunning, SendsAtRun}, Awaited.{awaited, awaited_by, awaited_ids}}
pub use right_laws.{Awaited.{byte_at, ids_at, ids_of, is_asked, listed}, Given.{GivenFacts, GivenIn, GivesAsked}}
pub use right_laws.Given.{GivesAtCrossing, GivesNext, HasGiven, HasReplyStill, IsFront, NoneAtArrival}
pub use right_laws.GivenPointers.{AllGiveBy, GivesBy, HasReplyThen, PointsAtCrossing, PointsAtEnd, PointsAtRun}
pub use right_laws.{GivenPointers.{abort_may_change, any_may_change, may_change}, InTurn.{faults_left, left_if}}
pub use right_laws.{InTurn.{strike_if, strikes_in_turn}, Loads.{Load, UndoLoadFacts, UndoesLoads, load}}
pub use right_laws.{Open.{BlockFacts, HasBlock, IfOpen, OnEvents, OnOpen}, Runs.{HasEnded, HasRun, IsEnded, MovesAtRun}}
pub use right_laws.{Runs.{RanBooks, RightFacts, StatusAtEnd}, SoFar.{StrikesSoFar}, Standing.{AllStandIn}}
pub use right_laws.StatusBytes.{HasOne, IsReady, IsSmall, StatusAsked, StatusBy, StatusFacts, StatusSays, StatusTalks}
