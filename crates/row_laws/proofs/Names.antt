-- The names of other crates, and of this crate's definitions, that its proofs speak of, each by its home. A proof takes
-- them by `use proofs.Names.{..}`; tools/checks/imports.py brings in those that a proof imports by their home.
use Rattle.std.proofs as std_proofs
pub use std_proofs.Common.{Bool, List, None, Ok, Option, Some, [], ap, arith, false, inl, inr, length, length-append}
pub use std_proofs.Common.{not, refl, replicate, subst, suc, sym, take, true, true≢false, zero, ℕ, ◌%◌, ◌&&◌, ◌*◌, ◌++◌}
pub use std_proofs.{Common.{◌+◌, ◌<◌, ◌==◌, ◌||◌, ◌∙◌, ◌∷◌, ◌≡◌, ◌≢◌, ◌≤◌, ◌⊎◌}, lemmas.Bool.{and_parts, cases_eq}}
pub use std_proofs.lemmas.Bool.{eqb-true, leb-true, ltb-false, ltb-true, not_from_false, or_left, or_right}
pub use std_proofs.lemmas.{Bool.Decides.{nat_tests}, Option.{none-some, same_Some}}
use Rattle.std.specs as std
pub use std.{Int.{Bits.{or_zero_r}, RustNames.{bit_or, count_ones}}, List.{AllByRecursion, find, list_all, list_any}}
pub use std.Prelude.{drop, if◌then◌else◌, is_none, is_some, max, min, nat_le, nat_lt, slice_index_or, ⊤, ◌-◌}
use Rattle.due_model.specs.bus_base.proofs as bus_base_proofs
pub use bus_base_proofs.Tests.{and_false, and_first, and_second, either_stays, eq_self, implication, implication_parts}
pub use bus_base_proofs.Tests.{implied, not_first, or_middle, or_true, wrong, wrong', zero_of}
use Rattle.due_model.specs.bus_base.specs as bus_base
pub use bus_base.declared.{AbortKind.{AbortKind}, Event.{Event}, ProcId.{ProcId}, events.Pick.{Pick}}
use Rattle.due_model.specs.bus_trace.proofs as bus_trace_proofs
pub use bus_trace_proofs.{Buses.{bus_off, bus_on, bus_two}, OddParity.{byte_back, byte_odd}, OneRow.{bus-fault}}
pub use bus_trace_proofs.{OneRow.{drives-fault, drives-other, drives-own}, Sets.{same_self, same_set-eq}}
use Rattle.due_model.specs.bus_trace.specs as bus_trace
pub use bus_trace.{Agreements.{times_of}, Changes.{change_of, falls, implies, is_within, rises}, LineSet.{LineSet}}
pub use bus_trace.{LineSet.{byte_set, has_odd_parity, none, union}, Phases.{changes_phase, is_command, is_data}}
pub use bus_trace.{Phases.{is_message_in, is_message_out}, Terms.{arbitration, call, call_goes_on, called_goes_on}}
pub use bus_trace.Terms.{caller_goes_on, calling_after, connected, connected_by, connected_of, connection}
pub use bus_trace.Terms.{connection_after, connection_of, drives_two_ids, is_fault, new_calling, other_id, raised}
pub use bus_trace.{Terms.{receiver, receiver_in, receiver_of}, Trace.{bus, driven_after, drives, last_time, line_times}}
pub use bus_trace.{Trace.{phase_time}, declared.{Kind.{Kind, TheVariants.{Drives, Fault}}, Row.{Row}}}
pub use bus_trace.declared.{agreements.Agreement.{Agreement}, changes.Change.{Change}}
pub use bus_trace.declared.{connection.Connection.{Connection}, delays.TheConstants.{BUS_CLEAR_DELAY, BUS_SETTLE_DELAY}}
pub use bus_trace.declared.{delays.TheConstants.{TURN_DELAY}, selection.{Call.{Call}, Calling.{Calling}}}
use Rattle.due_model.specs.bus_lines.specs as bus_lines
pub use bus_lines.Handshakes.{Handshakes, answered_if, asked_if, first_of, handshakes, handshakes_after, is_struck}
pub use bus_lines.{Handshakes.{newest_struck_if, no_handshakes}, Stage.{stage}, declared.handshakes.Request.{Request}}
pub use bus_lines.declared.stage.Stage.TheVariants.{InAnswer, InCalling}
use Rattle.text_words.specs as text_words
pub use text_words.{Spelling.{AreBytes}, Words.{Number}}
use Rattle.due_model.specs.cdb_codec.proofs as cdb_codec_proofs
pub use cdb_codec_proofs.Senses.{data_are_bytes, plain_fits}
use Rattle.due_model.specs.cdb_codec.specs as cdb_codec
pub use cdb_codec.{Blocks.{blocks_moved}, Cdb.{command_of, has_group_len}, Replies.{FitsSense, capacity_data}}
pub use cdb_codec.{Replies.{inquiry_data, sense_data}, TapeCdb.{tape_command_of}, declared.command.CdbFault.{CdbFault}}
pub use cdb_codec.declared.{command.{Command.{Command}, Sense.{Sense}}, replies.TheConstants.{INQUIRY_LEN, SENSE_LEN}}
pub use cdb_codec.declared.sense.TheConstants.{ABORTED_COMMAND, INITIATOR_DETECTED_ERROR, PARITY_ERROR}
pub use cdb_codec.declared.{status.TheConstants.{CHECK_CONDITION, GOOD}, tape_command.TapeCommand.{TapeCommand}}
use Rattle.due_model.specs.msg_grammar.proofs as msg_grammar_proofs
pub use msg_grammar_proofs.{Exact.{whole}, Spells.{in_one, out_one}}
use Rattle.due_model.specs.msg_grammar.specs as msg_grammar
pub use msg_grammar.{Grammar.{Begins}, Messages.{got_in, got_out, in_bytes, msg_in_of, msg_out_of, out_bytes}}
pub use msg_grammar.declared.message.{Got.{Got, TheVariants.{More, Unknown, Whole}}, MsgIn.{MsgIn}, MsgOut.{MsgOut}}
unfoldable pub use msg_grammar.Messages.{form_in, form_out}
use Rattle.due_model.specs.bus_phases.specs as bus_phases
pub use bus_phases.Dialogue.{byte_crosses, byte_else, byte_in, byte_out, dialogue, dialogue_after, fresh_bytes}
pub use bus_phases.{Dialogue.{phase_begins}, Half.{left_of}, declared.dialogue.Dialogue.{Dialogue}}
use Rattle.due_model.specs.bus_rules.proofs as bus_rules_proofs
pub use bus_rules_proofs.First.{all_kept}
use Rattle.due_model.specs.bus_rules.specs as bus_rules
pub use bus_rules.{Order.{is_of_device}, Reset.{only_rst}, Rules.{broken_rule, judged_rules}, Seen.{seen}}
pub use bus_rules.declared.seen.Seen.{Seen}
unfoldable pub use bus_rules.Seen.{seen_with}
use Rattle.due_model.specs.scenario.proofs as scenario_proofs
pub use scenario_proofs.Steps.{bind_ok, guard_ok, ok_is, read_tag, read_what, within_ok}
use Rattle.due_model.specs.scenario.specs as scenario
pub use scenario.Forms.{CmdSaid, Said, abort_line, cmd_line, end_line, fault_line, fill_line, initiator_line, load_line}
pub use scenario.{Forms.{reset_line, scsi_line, tape_line, target_line, unit_line}, Lookups.{has_device, is_tape}}
pub use scenario.{Lookups.{units_of}, Reading.{Progress, are_ends, fault_def, fill_def, fits_version, guard}}
pub use scenario.Reading.{has_abort_room, has_room, in_8, in_order, is_block, is_payload, kind_of, load_def, nothing}
pub use scenario.{Reading.{policy_in, rank, reset_def, tape_def, time_in, unit_def, within}, Value.{ScenarioValue}}
pub use scenario.Writing.{IsHex, IsHexLoad, IsHexPayload, Obeys, built, said_tag, said_what, saids}
pub use scenario.declared.bounds.TheConstants.{FACTOR_LIMIT, HOST_OFFSET_LIMIT, LAG_LIMIT, LATENCY_LIMIT, LEAST_FACTOR}
pub use scenario.declared.bounds.TheConstants.{OPEN_LIMIT, RETRY_LIMIT, SEEK_LIMIT, TAG_LIMIT, TARGET_OFFSET_LIMIT}
pub use scenario.declared.value.{AbortDef.{AbortDef}, CmdDef.{CmdDef}, FillDef.{FillDef}, HostDef.{HostDef}}
pub use scenario.declared.value.{Load.{Load}, LoadDef.{LoadDef}, Payload.{Payload}, Policy.{Policy}, Tag.{Tag}}
pub use scenario.declared.value.{TargetDef.{TargetDef}, UnitDef.{UnitDef}}
unfoldable pub use scenario.{Needs.{need_of, sent_of}, Reading.{abort_def, added, cmd_def, full_cmd_def, host_def}}
unfoldable pub use scenario.Reading.{period_in, said_after, tag_in, target_def, what_in}
use Rattle.due_model.specs.array_model.proofs as array_model_proofs
pub use array_model_proofs.ArrayReplies.{abort_lists, accept_lists, end_lists, executed_lists, fail_lists, loss_lists}
pub use array_model_proofs.{ArrayReplies.{refuse_lists, reset_lists, took}, ArrayUnits.{cleared_units}}
pub use array_model_proofs.{ArrayUnits.{unit_reset_units}, Executed.{IsRefused, absent, faulty, faulty_at_tape, of_all}}
pub use array_model_proofs.{Executed.{on_tape, outside, sense_of_fault}, ExecutionFacts.{tape_bytes, tape_fits}}
pub use array_model_proofs.{SeatEvents.{status_units}, SeatLaws.{fail_law, run_law}, SeatOwn.{guest_own, running_unit}}
pub use array_model_proofs.SeatReplies.{first, guest_id, guest_replied, last_waits, no_guest_replied}
pub use array_model_proofs.{SoundArrays.{history_sound, start_sound, start_units, step_sound}, TapeObjects.{AreOfBytes}}
pub use array_model_proofs.{TapeObjects.{IsOfBytes}, TapeReplies.{tape_known}}
use Rattle.due_model.specs.array_model.specs as array_model
pub use array_model.{ArrayHistory.{array_after, array_step, reply_in}, Contents.{Contents, blank_contents, block_at}}
pub use array_model.Contents.{bytes_at, filled_contents, loaded_contents, loaded_objects, object_of, starting_contents}
pub use array_model.Contents.{touched_block, touched_with, with_block, with_bytes, zero_block}
pub use array_model.Execution.{CommandContext, Execution, Reply, aborted_reply, check_condition, command_execution}
pub use array_model.Execution.{commands_cleared, execution, good, is_request_sense, queue_full, reply_execution}
pub use array_model.{Execution.{returned_sense, sense_of, tape_in, write_execution}, Order.{choice, chosen_place}}
pub use array_model.Order.{entries_of, entry_of, has_none_before, has_ordered, is_head, is_held_back, is_ordered}
pub use array_model.{Order.{picked_place, process_at, process_at_if, runnable_by, without_process}, Processes.{Process}}
pub use array_model.Processes.{bytes_from, command_at, command_process, payload_bytes, process_by, process_if}
pub use array_model.{Processes.{process_of, same_id, sense_block, sense_process}, Reels.{Reel}, Seats.{Seat}}
pub use array_model.Seats.{current_of, is_initiator, running_at, seat_if, seat_of, settled_seat, settled_seat_if}
pub use array_model.Seats.{unit_mapped, unit_with_choice, unit_with_contents, unit_with_reply, waits_in}
pub use array_model.SoundArray.{AllOwn, AllOwnGuests, AllOwnUnits, AreApart, HasSeats, IsOwn, IsOwnRunning, IsOwnUnit}
pub use array_model.{SoundArray.{IsSound}, Steps.{accept_step, accept_step_at, after_status, array_without, end_step}}
pub use array_model.Steps.{end_step_with, fail_step, fail_step_of_new, guests_with_reply, has_ended, has_tag}
pub use array_model.Steps.{is_of_unit, is_waiting, process_count, refuse_step, refuse_step_at, running_count}
pub use array_model.Steps.{running_if, running_in, running_process, settled_array_if, step, with_guest}
pub use array_model.{Steps.{with_listed_reply, with_reply}, Units.{Array, Nexus, RunningProcess, UnitState, guest_at}}
pub use array_model.Units.{has_no_current, is_held, nexus_of, nexuses_without, same_nexus, sense_of_nexus}
pub use array_model.Units.{senses_without, settled_array, starting_array, starting_units, unit_after_choice}
pub use array_model.Units.{unit_state_at, units_after_choice, with_current, with_unit, without_guest, without_reply}
use Rattle.due_model.specs.story_model.proofs as story_model_proofs
pub use story_model_proofs.{CarriedLists.{carried_id, carried_with}, StorySteps.{check_carried, ends_carried}}
pub use story_model_proofs.StorySteps.{free_carried}
use Rattle.due_model.specs.story_model.specs as story_model
pub use story_model.BusState.{RowReading, message_in, message_out, row_reading, whole_in, whole_out}
pub use story_model.CarriedBytes.{CarriedBytes, carried_after_byte, carried_after_fault, carried_after_message}
pub use story_model.CarriedBytes.{carried_at, carried_of, carried_or_nothing, is_status_phase, is_whole_block}
pub use story_model.{CarriedBytes.{with_carried, with_restored_pointers}, HistoryEvents.{abort_line_at}}
pub use story_model.HistoryEvents.{abort_line_events, bus_free_events, carried_if, connection_events, end_events}
pub use story_model.HistoryEvents.{is_complete, is_completion, is_refuse, item_abort_events, item_loss_events}
pub use story_model.HistoryEvents.{link_events, phase_events, queue_event, queue_events, row_events_by, status_event}
pub use story_model.{HistoryEvents.{status_events}, Items.{Item, abort, count_item, is_open, process, sense_item}}
pub use story_model.Links.{LastMessage, Link, abortive, complete, disconnect, last_in, last_out, link_after_name}
pub use story_model.{Links.{link_of, plain}, Samples.{host_latency, latency_of, target_latency}, Story.{Story}}
pub use story_model.Story.{by_abort, is_aborted, is_sense_stopped, marked_refused, marked_shown, story_after_event}
pub use story_model.{Story.{story_after_events}, TraceHistory.{aim_of, carried_after_byte_if, carried_after_fault_if}}
pub use story_model.TraceHistory.{carried_after_message_if, is_parity_error, story_after, story_after_byte}
pub use story_model.TraceHistory.{story_after_connection, story_after_fault, story_after_in, story_after_message}
pub use story_model.TraceHistory.{story_after_out, story_by_change, story_in_connection, story_on_bus}
pub use story_model.TraceHistory.{story_on_free_bus, story_with_carried, story_with_restored, story_with_sent}
pub use story_model.TraceHistory.{trace_history}
use Rattle.due_model.specs.reaction_model.specs as reaction_model
pub use reaction_model.{Calling.{answered_due}, Initiator.{attends_by}, Reactions.{due_at}, Target.{bits_if, byte_bits}}
pub use reaction_model.declared.due.Due.{Due}
use Rattle.due_model.specs.dialogue_model.specs as dialogue_model
pub use dialogue_model.{Arrivals.{policy_of}, DataRuns.{run_at}, Ends.{is_pulsed_phase, offering_by}}
pub use dialogue_model.Exchange.{Exchange, Speech, attends_with, bytes_of_messages, from_byte, message_bytes, next_word}
pub use dialogue_model.Exchange.{no_messages, one_message, plan_after_message, plan_anew, plan_anew_if, request_after}
pub use dialogue_model.{Exchange.{said_with, said_with_if, speech_after_byte, struck_plan}, Hearing.{begun}}
pub use dialogue_model.{Hearing.{begun_after}, NextPhase.{Serving, leaving_by, phase_leaving, phase_lines, phase_of}}
pub use dialogue_model.PhaseBytes.{data_byte, follows_in, lines_by, one_if, phase_byte, status_byte}
pub use dialogue_model.Planning.{cause_after, first_plan, plan_after, plan_in_message_out, plan_in_phase}
pub use dialogue_model.{Planning.{plan_with_byte}, Sending.{Sending, byte_to_send}, Speaking.{speech_after}}
pub use dialogue_model.{Speaking.{words_after}, Wants.{Ready, first_ready, is_ready_before, ready_in}}
pub use dialogue_model.Words.{abort_bytes, abort_opening, agreement_answer, answer_bytes, host_answer, offer_if}
pub use dialogue_model.{Words.{process_opening, tag_bytes, tag_named, target_answer}, declared.exchange.Cause.{Cause}}
pub use dialogue_model.declared.exchange.{Hearing.{Hearing}, Leaving.{Leaving}, Messages.{Messages}, Phase.{Phase}}
pub use dialogue_model.declared.exchange.{Plan.{Plan}, Task.{Task}}
use Rattle.due_model.proofs as due_model_proofs
pub use due_model_proofs.{Lookups.{none_stays}, Plains.{run_state_plain}, Stills.{still_talk}}
use Rattle.due_model.specs as due_model
pub use due_model.{Defs.{host_of, opening, target_def_of}, LastingState.{ProcessProgress, progress_in}, Least.{IsLeast}}
pub use due_model.{Next.{IsPrompt, due}, Own.{own_of}, Plain.{AreOfDevices, IsPlain}, RunState.{RunState, array_of}}
pub use due_model.RunState.{bus_of, item_of, or_start, process_here, process_item, process_served}
pub use due_model.RunSteps.{array_after_events, exchange_after, leaving_of, may_negotiate, messages_if, run_state}
pub use due_model.{RunSteps.{run_state_after}, Sights.{answering_of, hearing_of, identify_byte, leaving, offering_of}}
pub use due_model.{Sights.{sending_by, sending_of, serving_at, serving_of}, Tasks.{given_if, is_writing, reply_now}}
pub use due_model.{Tasks.{status_by, task_if, task_of}, Wants.{abort_target, callee, initiator_if, ready_at, ready_of}}
pub use due_model.{Wants.{seek_of, since_of, target_if, target_of}, Wishes.{IsStill}}
use Rattle.scsi_device.proofs as scsi_device_proofs
pub use scsi_device_proofs.{Finds.{all_are, all_more, found_holds}, FitLines.{abort_fits, command_fits, obeys_fits}}
pub use scsi_device_proofs.{FitLines.{seats_are, units_are}, LineReads.{abort_by, host_by, target_by}}
use Rattle.scsi_device.specs as scsi_device
pub use scsi_device.{Heard.{is_command_phase, is_message}, Lines.{AreUnits, FitsBus}, Writes.{Writer, is_data_in}}
pub use scsi_device.Writes.{is_data_out, writer_of}
use Rattle.book_laws.proofs as book_laws_proofs
pub use book_laws_proofs.{Carried.Facts.{process_id}, Common.InConnection.{InConnection, in_connection, same_phase_is}}
pub use book_laws_proofs.{Common.Lookups.{id_is, self_id}, Items.{Facts.{aims_are}, Ready.{reselects_by, selects_for}}}
pub use book_laws_proofs.{Messages.Rules.{end_keeps, row_keeps}, Reactions.{answers_next, answers_own, leaves_by}}
pub use book_laws_proofs.{Reactions.{messages_some}, Traces.{books_are, books_on}}
use Rattle.book_laws.specs as book_laws
pub use book_laws.{Carrying.{SendsOwn}, Giving.{Gives}, Hearing.{HasPhase, LeavesWhole, is_in_phase, is_out_phase}}
pub use book_laws.{Knowing.{Knows}, Reactions.{IsOver}, Rows.{IsRowIn, RowKind, crosses, reading_in, still, strikes}}
pub use book_laws.{Rows.{turns}, Traces.{Books, Ends, GoesOn, IsAimedAt, IsReadyFor, RowOf, apart as row_apart, begins}}
pub use book_laws.{Traces.{ends as row_ends, goes_on, under_reset}, WrongParity.{is_left_as_due, is_left_by}}
use Rattle.link_laws.specs.bus_laws.proofs as bus_laws_proofs
pub use bus_laws_proofs.Lines.{Apart.{KeepsAll, change_plain, still_keeps}, Ids.{is_call}, Rows.{drives_other}}
pub use bus_laws_proofs.{Lines.Rows.{drives_own, fault_change, stage_is}, Resets.Rows.{off_at}}
pub use bus_laws_proofs.Stages.{Answer.{only_caller_acts}, CallDues.{calls_due, goes_on_due, is_calling, want_at}}
pub use bus_laws_proofs.Stages.{Dues.{is_at, is_there}, Facts.{least_is}, Next.{by_calm, by_reset, from_stage}}
pub use bus_laws_proofs.{Stages.Next.{reset_or_calm, stage_first, standing_first}, Times.Limits.{obeys_latencies}}
use Rattle.link_laws.specs.bus_laws.specs as bus_laws
pub use bus_laws.Callings.{answer_lines, answered_calling, both_ids, call_with, calling_lines, resumed_calling}
pub use bus_laws.{Callings.{won_call}, Ends.{BeginsConnection, BeginsSelected, EndLines, Linked, by_reselection}}
pub use bus_laws.Ends.{by_selection, connected_bus, ends_reselected, ends_selected, initiator_side, target_side}
pub use bus_laws.{Reactions.{device_with, own_time, unreset_due}, Rows.{change_to, row_of_fault, row_of_lines}}
pub use bus_laws.Stages.{BusStage, Calls, CalmStanding, HasDevice, HasShortLatencies, IsUnderRst, NextRow, Standing}
pub use bus_laws.Stages.{UnderRst, after_answer, after_arbitration, after_takeover, after_withdrawal, awaiting_answer}
pub use bus_laws.Stages.{holds, in_arbitration, in_reset, is_connected, lingers, on_free_bus, quiet, with_both_ids}
use Rattle.link_laws.proofs as link_laws_proofs
pub use link_laws_proofs.Dues.Ends.{Mover, answering_with, by_fault, by_initiator, by_target, due_of, initiator_plain}
pub use link_laws_proofs.Dues.{Ends.{mover_is, offering_with, target_plain}, Facts.{never}, Stages.{ack_end_time}}
pub use link_laws_proofs.Dues.Stages.{answered_initiator_in, answered_initiator_out, answered_target}
pub use link_laws_proofs.Dues.Stages.{asking_initiator_in, asking_initiator_out, asking_target, between_initiator_in}
pub use link_laws_proofs.Dues.Stages.{between_initiator_out, between_target, ending_initiator_in, ending_initiator_out}
pub use link_laws_proofs.Dues.Stages.{ending_target, giving_initiator_out, handing_initiator, offering_initiator}
pub use link_laws_proofs.Dues.Stages.{offering_target, owing_initiator, selected_initiator, selected_target}
pub use link_laws_proofs.Dues.Stages.{settling_initiator, settling_target, turned_initiator, turning_target}
pub use link_laws_proofs.{FromLink.{some_byte}, Lines.{Data.{DataRow, count_stays, sending_stays}, Obeys.{same_phases}}}
pub use link_laws_proofs.Lines.Rows.{Moves, initiator_in_phase, initiator_moves, no_rise, phase_same, target_in_phase}
pub use link_laws_proofs.{Lines.Rows.{target_moves, terms_after, terms_of}, Phases.Crossings.{initiator_row}}
pub use link_laws_proofs.Phases.{Crossings.{target_row}, Ends.{leaves_lines}, Faults.{linked_fault, none_device}}
pub use link_laws_proofs.{Phases.{First.{enters, no_fall}, Leavings.{may_leave}}, Pulses.Dues.{ack_pulse_end_time}}
pub use link_laws_proofs.Pulses.Dues.{answer_time, byte_driven_time, given_bits, hold_end_time, leaving_time}
pub use link_laws_proofs.Pulses.Dues.{pulse_time, pulsed_initiator_in, pulsed_initiator_out, pulsed_target_in}
pub use link_laws_proofs.{Pulses.Dues.{pulsed_target_out, release_time}, Runs.Lengths.{HasShortRuns}, Traces.{from_any}}
pub use link_laws_proofs.Traces.{link_calm}
use Rattle.link_laws.specs as link_laws
pub use link_laws.{Books.{KeepsBooksIn, has_odd_byte}, LinkStages.{AnyStage, LinkStage, NextAny, apart, linked}}
pub use link_laws.LinkStages.{when_offering, when_pulsing, when_selected, when_settling, when_shaking, when_turning}
pub use link_laws.{Phases.{Offering, Settling, Shaking, Turning, ends}, Pulses.{Pulsing, byte_in_run, next_bits}}
pub use link_laws.Pulses.{offset_here, run_count, times_here}
use Rattle.row_laws.specs as row_laws
pub use row_laws.{Asked.{IsAsked, IsAskedIn}, Attendance.{IsNotGood}, Attention.{Attention, MessageRow, answers, asks}}
pub use row_laws.{Attention.{keeps}, ByteValues.{HasByteValues}, DataPointers.{is_marked}, Ends.{AreEnds, HasEnds}}
pub use row_laws.{ItemFacts.{AllP, RunsP, UnitsP}, Offers.{is_detected}, Places.{AreWithin, Each, IsAnswered, IsAtRest}}
pub use row_laws.Places.{IsAway, IsOutside, IsUnanswered, IsUntouched, MayRun, OnGuests, OnUnit, OnUnits, Runs, Waits}
pub use row_laws.{Places.{is_in_queue, is_queued}, Tells.{AreRepliesShown, UndoesAnswers, is_short}}
pub use row_laws.WriteFacts.{AllUnits, IsEmptyUnit, IsLastWriter, IsOther, IsUnrun, IsWrittenUnit}
