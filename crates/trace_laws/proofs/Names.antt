-- The names of other crates, and of this crate's definitions, that its proofs speak of, each by its home. A proof takes
-- them by `use proofs.Names.{..}`; tools/checks/imports.py brings in those that a proof imports by their home.
use Rattle.std.proofs as std_proofs
pub use std_proofs.Common.{Bool, Err, List, None, Ok, Option, Result, Some, [], ap, arith, cond, false, inl, inr}
pub use std_proofs.Common.{length, length-append, not, refl, subst, suc, sym, true, true≢false, zero, ℕ, ◌%◌, ◌&&◌, ◌*◌}
pub use std_proofs.Common.{◌++◌, ◌+◌, ◌/◌, ◌<◌, ◌==◌, ◌^◌, ◌||◌, ◌∙◌, ◌∷◌, ◌≡◌, ◌≢◌, ◌≤◌, ◌⊎◌}
pub use std_proofs.{Math.Nat.{div-mul-le_self, le_antisymm, lt-div-mul-add}, lemmas.Bool.{and_from, and_parts}}
pub use std_proofs.lemmas.Bool.{cases_eq, eq-eqb, eqb-true, leb-true, ltb-false, ltb-true, not-false, not-true, or_from}
pub use std_proofs.lemmas.{Bool.{or_left, or_parts, or_right, Decides.{nat_tests}}, Option.{cond_some, none-some}}
pub use std_proofs.lemmas.Option.{same_Some}
use Rattle.std.specs as std
pub use std.{List.{AllByRecursion, find, list_any}, Prelude.{drop, if◌then◌else◌, is_none, is_some, max, min, nat_le}}
pub use std.Prelude.{nat_lt, slice_index, slice_index_or, slice_set, ⊤, ◌-◌}
use Rattle.due_model.specs.bus_base.proofs as bus_base_proofs
pub use bus_base_proofs.Tests.{all_three, and_second, eq_self, implication, implication_parts, is_nothing, none_number}
pub use bus_base_proofs.Tests.{nothing_below, or_false, or_true, plus_none, suc_some, times_none, unless, wrong, wrong'}
pub use bus_base_proofs.Tests.{zero_of}
use Rattle.due_model.specs.bus_base.specs as bus_base
pub use bus_base.{Faults.{counted_on}, declared.{AbortKind.{AbortKind}, Event.{Event}, ProcId.{ProcId}}}
use Rattle.due_model.specs.bus_trace.proofs as bus_trace_proofs
pub use bus_trace_proofs.{Buses.{bus_off, bus_on}, OddParity.{byte_back}, OneRow.{bus-fault, drives-fault}}
pub use bus_trace_proofs.{OneRow.{drives-other}, Sets.{same_self, same_set-eq}}
use Rattle.due_model.specs.bus_trace.specs as bus_trace
pub use bus_trace.{Changes.{change_of, falls, rises, same_phase}, LineSet.{LineSet, has_odd_parity, none, same}}
pub use bus_trace.{LineSet.{same_set, union}, Phases.{changes_phase, is_command, is_data, is_message_in}}
pub use bus_trace.{Phases.{is_message_out}, Terms.{call, connected, connected_by, connected_of, connection}}
pub use bus_trace.{Terms.{connection_after, connection_of, is_fault, receiver, receiver_in, receiver_of}, Trace.{bus}}
pub use bus_trace.{Trace.{driven_after, drives, last_time, line_times, phase_time}, declared.Kind.{Kind}}
pub use bus_trace.declared.{Kind.TheVariants.{Drives, Fault}, Row.{Row}, agreements.Agreement.{Agreement}}
pub use bus_trace.declared.{changes.Change.{Change}, connection.Connection.{Connection}}
pub use bus_trace.declared.{delays.TheConstants.{BUS_SETTLE_DELAY}, selection.{Call.{Call}, Calling.{Calling}}}
use Rattle.due_model.specs.bus_lines.proofs as bus_lines_proofs
pub use bus_lines_proofs.Early.{struck_same}
use Rattle.due_model.specs.bus_lines.specs as bus_lines
pub use bus_lines.{Effect.{effect}, Handshakes.{Handshakes, answered, answered_if, asked, asked_if, first_of}}
pub use bus_lines.Handshakes.{handshakes, handshakes_after, handshakes_on, is_struck, newest_struck, newest_struck_if}
pub use bus_lines.{Handshakes.{no_handshakes, opened, with_last_struck}, declared.handshakes.Request.{Request}}
use Rattle.due_model.specs.cdb_codec.specs as cdb_codec
pub use cdb_codec.Cdb.{are_zero, command_of, has_group_len, sized_of, spare_room, where_zero}
pub use cdb_codec.{Operations.{operation_of}, declared.command.{CdbFault.{CdbFault}, Command.{Command}}}
pub use cdb_codec.declared.{operation.TheConstants.{INQUIRY}, sense.TheConstants.{INITIATOR_DETECTED_ERROR}}
pub use cdb_codec.declared.{sense.TheConstants.{PARITY_ERROR}, status.TheConstants.{GOOD}}
use Rattle.due_model.specs.msg_grammar.specs as msg_grammar
pub use msg_grammar.{Messages.{got_in, got_out}, declared.message.{MsgIn.{MsgIn}, MsgOut.{MsgOut}}}
use Rattle.due_model.specs.bus_phases.specs as bus_phases
pub use bus_phases.Dialogue.{byte_crosses, byte_else, byte_in, byte_out, dialogue, fresh_bytes, is_of_other}
pub use bus_phases.declared.{dialogue.Dialogue.{Dialogue}, words.End.{End}}
use Rattle.due_model.specs.bus_rules.specs as bus_rules
pub use bus_rules.{Order.{is_of_device}, Reset.{only_rst}, Rules.{broken_rule}}
use Rattle.due_model.specs.scenario.proofs as scenario_proofs
pub use scenario_proofs.Steps.{bind_ok, ok_is, read_policy, within_ok}
use Rattle.due_model.specs.scenario.specs as scenario
pub use scenario.{Forms.{Said, target_line}, Lookups.{has_device, has_target, is_tape, unit_of, units_of}}
pub use scenario.{Needs.{is_write, need_at}, Reading.{guard, in_8, period_in, within}, Value.{ScenarioValue}}
pub use scenario.{Writing.{Obeys, said_policy}, declared.bounds.TheConstants.{BURST_LIMIT, LATENCY_LIMIT, RETRY_LIMIT}}
pub use scenario.declared.{bounds.TheConstants.{SEEK_LIMIT, TARGET_OFFSET_LIMIT}, value.AbortDef.{AbortDef}}
pub use scenario.declared.value.{CmdDef.{CmdDef}, Policy.{Policy}, Tag.{Tag}, TargetDef.{TargetDef}, UnitDef.{UnitDef}}
unfoldable pub use scenario.{Needs.{need_of, sent_of}, Reading.{policy_in, target_def}}
use Rattle.due_model.specs.array_model.proofs as array_model_proofs
pub use array_model_proofs.{Executed.{absent_executed}, ExecutionFacts.{good_range}, NamedBlocks.{named_either}}
pub use array_model_proofs.{NamedBlocks.{none_named, serial_is}, OperationCodes.{write_needs}}
pub use array_model_proofs.{SeatLookups.{found_target, found_unit}, SeatOwn.{own_found}, SeatSteps.{choice_target}}
pub use array_model_proofs.{SeatSteps.{choice_unit}, SoundArrays.{current_process, history_sound, is_own, start_sound}}
pub use array_model_proofs.SoundArrays.{step_sound}
use Rattle.due_model.specs.array_model.specs as array_model
pub use array_model.{ArrayHistory.{array_after, array_step, is_run, reply_in, shows_run}, Contents.{Contents}}
pub use array_model.Execution.{CommandContext, Reply, aborted_reply, execution, is_opcode, is_request_sense, needs_unit}
pub use array_model.{Order.{choice, count_in, range_in, range_named}, Processes.{Process, command_at, process_by}}
pub use array_model.{Processes.{process_if, process_of, same_id}, Reels.{Reel}, Seats.{contents_of, context_of}}
pub use array_model.{Seats.{current_of, is_initiator, seat_of}, SoundArray.{AllOwnUnits, AreApart, HasSeats, IsOwn}}
pub use array_model.{SoundArray.{IsOwnRunning, IsOwnUnit, IsSound}, Steps.{accept_step, accept_step_at, after_status}}
pub use array_model.Steps.{array_without, context_at, end_step, end_step_with, has_ended, is_waiting, process_count}
pub use array_model.Steps.{queue_step, running_if, running_in, running_process, settled_array_if, step, with_guest}
pub use array_model.Units.{Array, Nexus, RunningProcess, UnitState, guest_at, has_no_current, is_held, nexus_of}
pub use array_model.Units.{settled_array, starting_array, unit_after_choice, unit_state_at, units_after_choice}
pub use array_model.Units.{with_current, with_unit, without_reply}
use Rattle.due_model.specs.story_model.proofs as story_model_proofs
pub use story_model_proofs.{CarriedLists.{carried_id, carried_with}, StorySteps.{byte_link, carried_link}}
pub use story_model_proofs.StorySteps.{check_carried, ends_carried, events_link, events_sent, fault_link, free_carried}
pub use story_model_proofs.StorySteps.{message_id, out_link}
use Rattle.due_model.specs.story_model.specs as story_model
pub use story_model.BusState.{RowReading, message_in, message_out, row_reading, whole_in, whole_out}
pub use story_model.CarriedBytes.{Area, CarriedBytes, area_with, carried_after_byte, carried_after_fault}
pub use story_model.CarriedBytes.{carried_after_message, carried_of, carried_or_nothing, is_status_phase}
pub use story_model.{CarriedBytes.{is_whole_block, with_carried, with_restored_pointers}, HistoryEvents.{abort_line_at}}
pub use story_model.HistoryEvents.{abort_line_events, bus_free_events, carried_if, connection_events, end_events}
pub use story_model.HistoryEvents.{is_complete, is_completion, is_refuse, item_abort_events, item_loss_events}
pub use story_model.HistoryEvents.{link_events, phase_events, queue_event, queue_events, row_events_by, status_event}
pub use story_model.{HistoryEvents.{status_events}, Items.{Item, Sent, abort, has_item, process, sense_item}}
pub use story_model.Links.{LastMessage, Link, abortive, complete, disconnect, last_in, last_out, link_after_name}
pub use story_model.{Links.{link_of, plain}, Right.{same_bytes}, Story.{Story, by_abort, is_aborted, is_sense_stopped}}
pub use story_model.{Story.{marked_refused, marked_shown, story_after_event, story_after_events}, TraceHistory.{aim_of}}
pub use story_model.TraceHistory.{carried_after_byte_if, carried_after_fault_if, carried_after_message_if}
pub use story_model.TraceHistory.{is_parity_error, story_after_byte, story_after_connection, story_after_fault}
pub use story_model.TraceHistory.{story_after_in, story_after_message, story_after_out, story_by_change}
pub use story_model.TraceHistory.{story_in_connection, story_on_bus, story_on_free_bus, story_with_carried}
pub use story_model.TraceHistory.{story_with_restored, story_with_sent, trace_history}
use Rattle.disk_unit.specs as disk_unit
pub use disk_unit.{Disk.{blocks_written}, Held.{taken_now, taken_with}}
use Rattle.due_model.specs.reaction_model.specs as reaction_model
pub use reaction_model.{Linking.{bus_clear}, Reactions.{due_at, earlier_due}, declared.due.Due.{Due}}
use Rattle.due_model.specs.dialogue_model.proofs as dialogue_model_proofs
pub use dialogue_model_proofs.Leavings.{recovery_not, task_not}
use Rattle.due_model.specs.dialogue_model.specs as dialogue_model
pub use dialogue_model.{Arrivals.{arrival_by, is_never, policy_of}, DataRuns.{run_at, run_in, run_length, runs_in}}
pub use dialogue_model.{DataRuns.{runs_in_all}, Ends.{follows_by, is_pulsed_phase}, Events.{after_opening_events}}
pub use dialogue_model.Events.{arrival_event, arrival_events, arrival_run_events, connection_end_events}
pub use dialogue_model.Events.{detected_events, has_replied, is_status_next, loss_events, newest_with, reply_events}
pub use dialogue_model.{Events.{turn_events, turn_events_if}, Exchange.{Exchange, Speech, bytes_of_messages, from_byte}}
pub use dialogue_model.Exchange.{message_bytes, no_messages, one_message, plan_after_message, plan_anew}
pub use dialogue_model.{Exchange.{speech_after_byte, speech_after_request, struck_plan}, Hearing.{begun, begun_after}}
pub use dialogue_model.NextPhase.{Serving, after_arrival, after_messages, after_offer, after_run, bus_free}
pub use dialogue_model.NextPhase.{data_in_leaving, data_out_leaving, disconnect_messages, disconnection, leaving_by}
pub use dialogue_model.NextPhase.{message_out_leaving, message_repetition, next_data_phase, phase_entry, phase_leaving}
pub use dialogue_model.NextPhase.{phase_lines, phase_of, pointer_restoration, recovery, recovery_limit}
pub use dialogue_model.{NextPhase.{request_or_command, unless_attention, with_task}, PhaseBytes.{follows_in, lines_by}}
pub use dialogue_model.{PhaseBytes.{one_if, phase_byte, run_length_if, status_byte}, Planning.{cause_after, first_plan}}
pub use dialogue_model.{Planning.{plan_in_message_out, plan_in_phase, plan_with_byte}, Wants.{Ready, first_ready}}
pub use dialogue_model.{Wants.{is_ready_before, ready_in}, Words.{is_naming, parity_error, request_by, tag_named}}
pub use dialogue_model.declared.exchange.{Arrival.{Arrival}, Cause.{Cause}, Hearing.{Hearing}, Leaving.{Leaving}}
pub use dialogue_model.declared.exchange.{Messages.{Messages}, Next.{Next}, Phase.{Phase}, Plan.{Plan}, Room.{Room}}
pub use dialogue_model.declared.exchange.Task.{Task}
use Rattle.due_model.proofs as due_model_proofs
pub use due_model_proofs.Plains.{run_state_plain}
use Rattle.due_model.specs as due_model
pub use due_model.{Allowed.{allowed, is_allowed}, Defs.{host_of, target_def_of}, Faithful.{is_block_of_process}}
pub use due_model.{Faithful.{is_true_leaving}, LastingState.{ProcessProgress, progress_in, progress_with}}
pub use due_model.{Least.{IsLeast}, Next.{IsPrompt, due}, Own.{own_of}, Plain.{AreOfDevices, IsPlain, crossed}}
pub use due_model.{Plain.{crossed_if}, RunState.{RunState, array_of, bus_of, carried_here, drives_of, item_of}}
pub use due_model.{RunState.{or_start, process_here, process_item, process_served}, RunSteps.{array_after_events}}
pub use due_model.RunSteps.{events_of_row, exchange_after, first_exchange, first_run_state, item_if, leaving_of}
pub use due_model.RunSteps.{may_negotiate, messages_if, progress_after, progress_by_leaving, run_state, run_state_after}
pub use due_model.{RunSteps.{served_after}, Sights.{arrival_at, byte_of_phase, hearing_of, leaving, offering_of}}
pub use due_model.{Sights.{serving_at, serving_of}, Tasks.{arrival_if, arrival_of, blocks_in, is_idle_unit, is_writing}}
pub use due_model.Tasks.{moved_count, reply_now, room_of, size_of, status_by, task_if, task_of, task_with}
pub use due_model.Telling.{events_of_ends, events_of_ends_in, id_of, initiator_events, is_true_telling, same_event}
pub use due_model.{Telling.{same_events, target_events, telling}, Wants.{abort_target, initiator_if, ready_among}}
pub use due_model.Wants.{ready_at, ready_of, seek_of, since_of, target_of}
use Rattle.story_laws.specs.scsi_device.proofs as scsi_device_proofs
pub use scsi_device_proofs.{Finds.{none_is}, FitLines.{command_fits, obeys_fits, seats_are, units_are}}
pub use scsi_device_proofs.{LineReads.{target_by}, PhaseLines.{command_is, no_input, phase_is_command}}
use Rattle.story_laws.specs.scsi_device.specs as scsi_device
pub use scsi_device.Heard.{Instructions, gives_status, heard, instructions, instructions_after, instructions_on}
pub use scsi_device.Heard.{instructions_with, is_answered, is_beginning, is_command_phase, is_heard, is_heard_after}
pub use scsi_device.Heard.{is_heard_in, is_heard_on, is_heard_process, is_heard_row, is_instructed, is_known_item}
pub use scsi_device.Heard.{is_message, is_new, is_of_scenario, is_opening, is_opening_in, is_said, is_served, is_to}
pub use scsi_device.Heard.{is_true_end, is_true_turn, is_unanswered, is_uncounted, may_leave, moves_data}
pub use scsi_device.{Lines.{AreUnits, IsCommandLine}, Writes.{Writer, block_size, brings_byte, ends_run, is_data_in}}
pub use scsi_device.Writes.{is_data_out, is_next_byte, is_whole_run, is_writer, is_written, is_written_byte}
pub use scsi_device.Writes.{is_written_in, is_written_on, is_written_run, start_of_run, writer_of, writers}
pub use scsi_device.Writes.{writers_with, written}
use Rattle.target_units.proofs as target_units_proofs
pub use target_units_proofs.Rooms.{by_line, kinds_always, kinds_start, lines_always, lines_start, sends}
pub use target_units_proofs.{Sendings.{written_named}, Starts.{start_settled}, UnitTimes.{running_is}}
use Rattle.target_units.specs as target_units
pub use target_units.Rooms.{AreOfKinds, AreOfLines, IsOfKind, IsOfLine}
use Rattle.story_laws.specs.book_laws.proofs as book_laws_proofs
pub use book_laws_proofs.{Carried.{Commands.{block_own}, Facts.{process_id}}, Common.InConnection.{InConnection}}
pub use book_laws_proofs.Common.InConnection.{SamePhase, dialogue_by, in_connection, reading_is, same_phase_is}
pub use book_laws_proofs.{Common.Lookups.{id_is, put_other, put_own, self_id}, Faith.{same_self as process_same}}
pub use book_laws_proofs.Given.{Heard.{heard_next}, Rows.{few_messages, in_io, in_same, requests_stay}}
pub use book_laws_proofs.{Items.{Facts.{aims_are}, Ready.{or_ready}}, Reactions.{command_over, out_over}}
pub use book_laws_proofs.{Said.Leavings.{opening_named}, Traces.{trace_faithful}}
use Rattle.story_laws.specs.book_laws.specs as book_laws
pub use book_laws.{Accounts.{is_served_by, policy_for}, FullQueues.{is_refusal}, Giving.{AreGiven, Gives, OnMessage}}
pub use book_laws.{Giving.{OnMessages}, Hearing.{HasPhase, LeavesWhole, is_in_phase, is_out_phase}, Items.{IsItem}}
pub use book_laws.{Items.{is_abort, is_process}, Knowing.{Knows}, Reactions.{IsOver}, Rows.{IsFirstRow, IsRowIn}}
pub use book_laws.{Rows.{RowKind, crosses, reading_in, still, strikes, turns}, Speaking.{AreWordsFor, Speaks, answers}}
pub use book_laws.Traces.{AreRowsOf, Begins, Books, Ends, GoesOn, IsReadyFor, RowOf, apart, begins, ends, goes_on}
pub use book_laws.{Traces.{under_reset}, WrongParity.{complains_truly, is_struck_phase, left_as_due}}
use Rattle.story_laws.specs.bus_laws.proofs as bus_laws_proofs
pub use bus_laws_proofs.Lines.{Apart.{change_plain}, Rows.{drives_other, drives_own, fault_change}}
pub use bus_laws_proofs.Resets.{Dues.{due_calm, due_holding, due_there, one_of, own_reset_is}, Rows.{off_at}}
pub use bus_laws_proofs.Stages.{Dues.{due_in_reset, is_at}, Facts.{least_is}, Free.{row_is}, Next.{by_calm, by_reset}}
pub use bus_laws_proofs.{Stages.Next.{from_stage, reset_or_calm}, Times.Limits.{obeys_latencies}}
use Rattle.story_laws.specs.bus_laws.specs as bus_laws
pub use bus_laws.Ends.{BeginsConnection, EndLines, Linked, by_reselection, by_selection, connected_bus, ends_reselected}
pub use bus_laws.{Ends.{initiator_side, target_side}, Reactions.{device_with, own_time, reset_due, unreset_due}}
pub use bus_laws.{Rows.{change_to, row_of_fault, row_of_lines}, Stages.{HoldsReset, IsUnderRst, Standing, UnderRst}}
pub use bus_laws.Stages.{holds, lingers, quiet}
use Rattle.story_laws.specs.link_laws.proofs as link_laws_proofs
pub use link_laws_proofs.Dues.Ends.{Mover, answering_with, by_fault, by_initiator, by_target, due_of, initiator_plain}
pub use link_laws_proofs.Dues.{Ends.{mover_is, offering_with, target_plain}, Facts.{never}, Stages.{handing_initiator}}
pub use link_laws_proofs.{Dues.Stages.{settling_initiator, settling_target}, Lines.Data.{count_stays}}
pub use link_laws_proofs.{Lines.Rows.{initiator_moves, no_rise, phase_same, target_moves}, Phases.Asks.{counted_some}}
pub use link_laws_proofs.{Phases.Faults.{some_device}, Pulses.Dues.{ack_pulse_end_time, answer_time, byte_driven_time}}
pub use link_laws_proofs.Pulses.Dues.{given_bits, leaving_time, pulse_time, pulsed_initiator_out, pulsed_target_out}
pub use link_laws_proofs.{Pulses.{Dues.{release_time}, Steps.{count_more}}, Runs.Lengths.{runs_are_short}}
pub use link_laws_proofs.Traces.{link_calm}
use Rattle.story_laws.specs.link_laws.specs as link_laws
pub use link_laws.LinkStages.{AnyStage, LinkStage, linked, when_offering, when_pulsing, when_selected, when_settling}
pub use link_laws.{LinkStages.{when_shaking, when_turning}, Phases.{Settling}, Pulses.{Pulsing, offset_here, run_count}}
pub use link_laws.Pulses.{times_here}
use Rattle.story_laws.specs.row_laws.proofs as row_laws_proofs
pub use row_laws_proofs.{Bytes.{Blocks.{HasCommands, commands_are}, Facts.{byte_values}}, Common.EachLine.{Any}}
pub use row_laws_proofs.Common.{EachLine.{each_line}, Impossible.{none_some, some_none}, PhaseLines.{command_phase}}
pub use row_laws_proofs.Common.PhaseLines.{data_in_lines, in_out, in_phase, is_data_phase, is_out_next, is_status}
pub use row_laws_proofs.Common.PhaseLines.{message_is, message_line, not_message_in, not_message_out, out_in, out_lines}
pub use row_laws_proofs.Common.{PhaseLines.{out_no_status, out_phase}, PlanWays.{plan_left, plan_out}}
pub use row_laws_proofs.Common.{StoryWays.{StoryWay, story_way}, Tests.{all_four, by_bool, by_option, mul_assoc}}
pub use row_laws_proofs.{Common.Tests.{not_unless, risen, some_count, some_zero, zero_times}, Ends.Facts.{ends_on}}
pub use row_laws_proofs.{Ends.Facts.{left_row}, Events.Answered.{context_same, end_is, fail_answers, fail_is, leaves}}
pub use row_laws_proofs.Events.{Answered.{lost_is, run_answers, run_is}, Arriving.{IsFoundAt, arrives, as_guest}}
pub use row_laws_proofs.Events.Arriving.{at_once_may_run, fails_new, found_at, guest_answered, guest_may_run, in_queue}
pub use row_laws_proofs.Events.Arriving.{no_guest, not_running, not_waiting, queued, queued_rests, refused_array}
pub use row_laws_proofs.Events.{BadReplies.{GiveNoGood, gives_no_good}, Depths.{within_after, within_at_start}}
pub use row_laws_proofs.Events.{Kept.{NoReplyTo, events_keep}, Others.{away_rests, executed, is_of, reply_at}}
pub use row_laws_proofs.Events.Others.{rests_after, untouched_after, untouched_at_start, untouched_rests}
pub use row_laws_proofs.Events.{Processes.{attended_same, each_same}, Queues.{queued_stands, rests_in_queue}}
pub use row_laws_proofs.Events.{Replies.{listed_on, replies_to, running_id}, Units.{Arrives, ArrivesFirst, IfAll}}
pub use row_laws_proofs.Events.{Units.{MayWait, each_settled, events_all, reset_all}, Writers.{Moves, Stands}}
pub use row_laws_proofs.Events.Writers.{dropped_empty, empty_stays, empty_written, last_writer, may_wait, moved_units}
pub use row_laws_proofs.Events.Writers.{same_units, stands_each, start_empty, written_stays}
pub use row_laws_proofs.Lines.{Attention.{attention_row, lines_are}, Called.{IsCalled, IsDueCall, link_none, own_units}}
pub use row_laws_proofs.Lines.Connections.{ConnectionRow, GoingRow, IsGoing, RowKindOf, begins_now, connection_row}
pub use row_laws_proofs.Lines.Connections.{goes_now, going, going_row, link_low, row_kind, stage_of_connection}
pub use row_laws_proofs.Lines.{Crossings.{Goes, RowFacts, Stops, ends_here, row_facts, stays}, Driven.{no_third}}
pub use row_laws_proofs.Lines.{First.{IsFirst, begun_first, made_is, quiet_sel, under_rst}, Joint.{NextStood, Stood}}
pub use row_laws_proofs.Lines.Joint.{apart_connection, here_served, link_connection, link_phase, link_unbegun}
pub use row_laws_proofs.Lines.{Joint.{next_stood, stood_first, values_of}, Kept.{turn}, Plans.{Planned, is_directed}}
pub use row_laws_proofs.Lines.{Plans.{is_in_message, writes_of, writes_out, writes_there}, Rows.{LinkRow, is_pulsed}}
pub use row_laws_proofs.Lines.{Rows.{is_unasked, link_row, row_at}, Turns.{freed_connection}, UnderRst.{bsy_stands}}
pub use row_laws_proofs.Lines.{UnderRst.{none_raised, quiet_at_end}, UndoneLeavings.{is_to_message_in}}
pub use row_laws_proofs.Shown.Facts.{answered_on, change_keeps, replies_first, replies_next}
use Rattle.story_laws.specs.row_laws.specs as row_laws
pub use row_laws.{Asked.{IsAsked}, Attendance.{AbortsBetween, AnswersBadly, AreShown, AttendedFacts, IsNotGood}}
pub use row_laws.Attendance.{IsShown, Shows, ShowsAfterReset, ShowsIn, aborts, accepts, fails, loses, refuses, runs}
pub use row_laws.{Attention.{Attention}, DataPointers.{IsPlainIn, IsServedAnew, IsWaiting, PointersIf, PointersOf}}
pub use row_laws.DataPointers.{RefusesLater, ServedPointers, UndoesServed, is_marked, named, policy_by, run_policy}
pub use row_laws.{DataPointers.{run_start, run_step, step_in, unnamed}, Ends.{AreEnds}, HeardPlaces.{ArePlaced}}
pub use row_laws.{HeardPlaces.{BeginsPlaced, IsPlacedIn}, ItemFacts.{ItemFacts, no_progress}, ItemTalks.{awaits}}
pub use row_laws.{ItemTalks.{frees_bus, is_complete_in}, Offers.{IsHeardOut, OfferFacts, Offers, answers_it, detects}}
pub use row_laws.{Offers.{is_detected, offer_now, opens, repeats}, Places.{AnsweredOpen, AreWithin, Closes, HasPlaces}}
pub use row_laws.Places.{IsAnswered, IsAtRest, IsAway, IsOutside, IsTaken, IsUnanswered, IsUntouched, OnGuests, OnUnits}
pub use row_laws.Places.{PlaceFacts, PlacedAsked, PlacedBefore, PlacedIf, PlacedIn, Runs, RunsOpen, TellNoEnd, Waits}
pub use row_laws.{Places.{completes, disconnects, is_queued}, Tells.{AreRepliesShown, FailsAsLeft, FailsAsked}}
pub use row_laws.Tells.{FailsBefore, FailsIn, IsLeaving, IsServed, LastIn, ServedFacts, Tells, TellsAsLeft}
pub use row_laws.{Tells.{UndoesAnswers, code_if, is_short, of_abort, of_process}, WriteFacts.{AllUnits}}
pub use row_laws.WriteFacts.{IsAnsweredWhole, IsEmptyUnit, IsPresentWriter, IsUnrunServed, IsWriterOf, IsWrittenUnit}
pub use row_laws.WriteFacts.{ReadsUnderRst, WriteFacts, WritesAsked}
use Rattle.story_laws.proofs as story_laws_proofs
pub use story_laws_proofs.Commands.{Asks.{command_asks, command_next, command_start}, Blocks.{undo_of}}
pub use story_laws_proofs.Commands.{Counts.{answer_said, refusal_offers_none}, Facts.{same_process, served_process}}
pub use story_laws_proofs.{Commands.First.{undo_first}, Complaints.Complained.{complained_row}}
pub use story_laws_proofs.Complaints.{Facts.{complaints_next, complaints_start}, Turns.{attended, attended_for}}
pub use story_laws_proofs.Instructed.{Facts.{instructed_next, instructed_start}, Known.{known_after}, Opening.{alone}}
pub use story_laws_proofs.Instructed.Opening.{opening_begun, opening_leads, opening_leaving, out_no_command, status_is}
pub use story_laws_proofs.{Instructed.{Steps.{told_with}, Turns.{known_turned}}, Items.Facts.{rst_raised}}
pub use story_laws_proofs.Items.Fresh.{IsUnshown, calm_after, calm_before, data_premises, items_fresh, items_ready}
pub use story_laws_proofs.Items.{Fresh.{items_sent}, Next.{items_asks}, Row.{LinkAfter, heard_link, hears}}
pub use story_laws_proofs.Items.{Row.{link_crossed, link_still, row_shows, says}, Sent.{carried_of_item, free_keeps}}
pub use story_laws_proofs.{Items.{Sent.{less_has}, Stays.{inside_sent}}, Last.{Bytes.{first_is}, Rows.{KeptPlan}}}
pub use story_laws_proofs.{Last.Rows.{Stays, stays_as}, Named.{Facts.{named_asks, named_at_run}, First.{first_sent}}}
pub use story_laws_proofs.Offers.{Facts.{offers_asks, refuses_later}, Leavings.{all_said, parity_said}}
pub use story_laws_proofs.Offers.{Rows.{request_rises}, Statuses.{Crossing, IsGiven, IsStatusOffered, OfferRow}}
pub use story_laws_proofs.Offers.{Statuses.{offered_by, offered_next, status_crosses}, Steps.{stays_out}}
pub use story_laws_proofs.Pointers.Begins.{begins_served, begins_undoes, first_made, first_served, goes_undoes}
pub use story_laws_proofs.Pointers.{Begins.{none_item}, Crossings.{names_or, phase_served}, Ends.{ends_wait, rst_over}}
pub use story_laws_proofs.Pointers.{Ends.{writer_plain}, Leavings.{MoreRuns, from_start, in_bursts, is_attended}}
pub use story_laws_proofs.Pointers.{Phases.{turns_served}, Rows.{Meets, phase_by, run_lines, struck_answers}}
pub use story_laws_proofs.Pointers.Steps.{IsNot, byte_id, byte_other, fault_id, in_other, out_other}
pub use story_laws_proofs.Pointers.{Stories.{lost_over}, Turns.{TurnsBy, runs_more}, Waits.{SameSaved, apart_same}}
pub use story_laws_proofs.Pointers.Waits.{begins_same, ends_same, goes_other, item_not, over_row, start_other, wait_on}
pub use story_laws_proofs.Talks.{InMoves.{alternating, in_move}, LastMessages.{one_run}, Steps.{Alternates}}
pub use story_laws_proofs.{Talks.Turns.{frees}, Tells.{Ends.{naming_goes_on}, Events.{self_events, whole_block}}}
pub use story_laws_proofs.Tells.{Facts.{all_given, front_length, left_tells, tell_next, tell_start}, Rows.{Here, ended}}
pub use story_laws_proofs.Tells.{Rows.{goes_told, no_events, stops_told, turned, unbegun_lines}, Turns.{status_lines}}
pub use story_laws_proofs.Undone.{Answers.{same_phase_of}, Facts.{in_of, undo_asks}, Rows.{answers_stay}}
pub use story_laws_proofs.Undone.Turns.{TurnOf, not_out}
use Rattle.story_laws.specs as story_laws
pub use story_laws.{Commands.{CommandBooks, CommandFacts, Serves, StandsIn, TakesBlock}, Complaints.{ComplaintFacts}}
pub use story_laws.{Complaints.{ComplaintsBy, any_struck}, DataFacts.{DataAsked, DataFacts, DataPremises}}
pub use story_laws.{Instructed.{Instructed, InstructedFacts, KnownFor, KnownIn, KnownNext}, Items.{IsFresh}}
pub use story_laws.LastTalks.{EndsWell, LastBy, LastFacts, LastGiven, LastTalk, closed, closes, saves, still_stays}
pub use story_laws.{LastTalks.{to_close, to_save}, Named.{Named, NamedFacts, Names, all, known, refused, said}}
pub use story_laws.{Named.{tag_alone}, RowAttendance.{IsAttended, IsCalmTurn}, RunCounts.{AreCounted, CountFacts}}
pub use story_laws.{RunCounts.{pulses_here}, RunFacts.{IsServedWell, IsWriter, RunFacts, RunsBy}, RunsWhole.{IsWhole}}
pub use story_laws.{RunsWhole.{RunsWhole, ends_badly, sends_all, sends_none}, TellFacts.{TellFacts}}
pub use story_laws.WholeRuns.{HasSentAll, MovesInRuns, RunsBlocks, bytes_come, in_blocks, in_one}
use Rattle.trace_laws.specs as trace_laws
pub use trace_laws.AttendanceAsked.{AttendanceAsked, BeginsUnanswered, EndsAsGiven, HasGiven, HasReplyGiven}
pub use trace_laws.{AttendanceAsked.{LeavesAnswered, LeftAnswered, RepliesGiven}, ClearFacts.{ClearBooks, ClearFacts}}
pub use trace_laws.{ClearFacts.{StandsClear}, Closes.{CloseBooks, CloseCounts, CloseFacts, HasClosed, IsCompleting}}
pub use trace_laws.Failures.{ClearIn, ClearOut, FailFacts, FailTalk, FailTalks, FailsBy, GivesFailure, IsClear}
pub use trace_laws.Failures.{RefusesFailure, SaysFailure, SentAsLeft, UndoesClear, clear, restores, restores_again}
pub use trace_laws.{Failures.{still_clear}, ResetLines.{HasNoPhase, OfTarget, ResetFacts}, RunsLeft.{HasRunLeft}}
pub use trace_laws.{RunsLeft.{RunsLeft, RunsLeftOf, run_total}, SentFailures.{IsNewest, SentFacts, SentTalk, WaitsFor}}
pub use trace_laws.Statuses.{AreAll, CarriesBy, HasStatus, IsStatusIn, IsStatusOf, StatusAreas, StatusTalks}
pub use trace_laws.Statuses.{UndoesStatus}
