-- The names of other crates, and of this crate's definitions, that its proofs speak of, each by its home. A proof takes
-- them by `use proofs.Names.{..}`; tools/checks/imports.py brings in those that a proof imports by their home.
use Rattle.std.proofs as std_proofs
pub use std_proofs.Common.{Bool, Err, List, None, Ok, Option, Result, Some, [], ap, arith, cond, false, inl, inr}
pub use std_proofs.Common.{length, min, not, refl, subst, suc, sym, true, zero, ℕ, ◌&&◌, ◌++◌, ◌+◌, ◌<◌, ◌^◌, ◌||◌, ◌∙◌}
pub use std_proofs.{Common.{◌∷◌, ◌≡◌, ◌≤◌, ◌⊎◌}, Math.Nat.{min-le_left, min-le_right}, lemmas.Bool.{and_from, and_left}}
pub use std_proofs.lemmas.Bool.{and_parts, and_right, cases_Bool, cases_eq, eq-eqb, eqb-true, ne_eqb, not-false}
pub use std_proofs.lemmas.{Bool.{not-true, or_left, or_parts, or_right, Decides.{nat_tests}}, Option.{same_Some}}
use Rattle.std.specs as std
pub use std.{List.{AllByRecursion, find, list_all, list_any}, Prelude.{if◌then◌else◌, is_none, is_some, nat_le, nat_lt}}
pub use std.Prelude.{slice_index, ⊤, ◌==◌}
use Rattle.due_model.specs.bus_base.proofs as bus_base_proofs
pub use bus_base_proofs.Tests.{and_false, and_first, and_second, and_true, either_stays, eq_self, none_between}
pub use bus_base_proofs.Tests.{or_none_second, plus_none, wrong, wrong'}
use Rattle.due_model.specs.bus_base.specs as bus_base
pub use bus_base.declared.{AbortKind.{AbortKind}, Event.{Event}, ProcId.{ProcId}}
use Rattle.due_model.specs.bus_trace.proofs as bus_trace_proofs
pub use bus_trace_proofs.{Buses.{bus_on}, OneRow.{drives-other}}
use Rattle.due_model.specs.bus_trace.specs as bus_trace
pub use bus_trace.{Changes.{change_of, falls, rises}, LineSet.{LineSet, none}, Phases.{changes_phase, is_command}}
pub use bus_trace.{Phases.{is_message_out}, Terms.{call, called_goes_on, caller_goes_on, calling_after, connection}}
pub use bus_trace.{Terms.{connection_after, drives_two_ids, is_fault, new_calling, receiver_in, when}, Trace.{bus}}
pub use bus_trace.{Trace.{driven_after, drives}, declared.{Kind.{Kind, TheVariants.{Drives, Fault}}, Row.{Row}}}
pub use bus_trace.declared.{agreements.Agreement.{Agreement}, changes.Change.{Change}}
pub use bus_trace.declared.{connection.Connection.{Connection}, selection.{Call.{Call}, Calling.{Calling}}}
unfoldable pub use bus_trace.{LineSet.{line_of}, View.{union_below}}
use Rattle.due_model.specs.bus_lines.specs as bus_lines
pub use bus_lines.Handshakes.{Handshakes}
use Rattle.due_model.specs.cdb_codec.proofs as cdb_codec_proofs
pub use cdb_codec_proofs.Senses.{sense_reads_back}
use Rattle.due_model.specs.cdb_codec.specs as cdb_codec
pub use cdb_codec.{Cdb.{are_zero, command_of, has_group_len, sized_of, spare_room}, Operations.{operation_of}}
pub use cdb_codec.{Replies.{FitsSense, sense_data}, TapeCdb.{tape_command_of}, declared.Sense.{Sense}}
pub use cdb_codec.declared.{command.{CdbFault.{CdbFault}, Command.{Command}}, operation.Operation.{Operation}}
pub use cdb_codec.declared.{operation.TheConstants.{INQUIRY, REQUEST_SENSE}, sense.TheConstants.{ABORTED_COMMAND}}
pub use cdb_codec.declared.{sense.TheConstants.{INITIATOR_DETECTED_ERROR}, status.TheConstants.{CHECK_CONDITION, GOOD}}
pub use cdb_codec.declared.{status.TheConstants.{QUEUE_FULL}, tape_command.TapeCommand.{TapeCommand}}
use Rattle.due_model.specs.msg_grammar.specs as msg_grammar
unfoldable pub use msg_grammar.Messages.{form_in, form_out}
use Rattle.due_model.specs.bus_phases.specs as bus_phases
pub use bus_phases.{Dialogue.{dialogue}, declared.dialogue.Dialogue.{Dialogue}}
use Rattle.due_model.specs.bus_rules.proofs as bus_rules_proofs
pub use bus_rules_proofs.First.{row_none}
use Rattle.due_model.specs.bus_rules.specs as bus_rules
pub use bus_rules.Reset.{only_rst}
use Rattle.due_model.specs.scenario.proofs as scenario_proofs
pub use scenario_proofs.Steps.{bind_ok, guard_ok, ok_is}
use Rattle.due_model.specs.scenario.specs as scenario
pub use scenario.Forms.{Said, abort_line, cmd_line, end_line, fault_line, fill_line, initiator_line, load_line}
pub use scenario.{Forms.{reset_line, scsi_line, tape_line, target_line, unit_line}, Lookups.{has_device, has_host}}
pub use scenario.{Lookups.{has_target, is_tape, unit_of, units_of}, Reading.{Progress, abort_def, fault_def, fill_def}}
pub use scenario.Reading.{fits_version, full_cmd_def, guard, has_abort_room, host_def, in_8, in_order, kind_of}
pub use scenario.{Reading.{load_def, nothing, rank, tape_def, target_def, time_in, unit_def}, Value.{ScenarioValue}}
pub use scenario.{Writing.{Obeys, built, saids}, declared.value.{AbortDef.{AbortDef}, CmdDef.{CmdDef}}}
pub use scenario.declared.value.{HostDef.{HostDef}, ResetDef.{ResetDef}, TargetDef.{TargetDef}, UnitDef.{UnitDef}}
unfoldable pub use scenario.{Needs.{need_of, sent_of}, Reading.{added, reset_def, said_after}}
use Rattle.due_model.specs.array_model.proofs as array_model_proofs
pub use array_model_proofs.ArrayReplies.{abort_lists, end_lists, fail_lists, loss_lists, reset_lists, took}
pub use array_model_proofs.Executed.{Passes, absent_executed, carried_executed, faulty_executed, on_tape}
pub use array_model_proofs.Executed.{outside_executed, sense_of_fault, tape_executed, tape_faulty_executed}
pub use array_model_proofs.ExecutionFacts.{command_good, sense_fetched, status_known}
pub use array_model_proofs.OperationCodes.{inquiry_command, is_inquiry_or_faulty, sense_opcode}
pub use array_model_proofs.{SeatLookups.{same_nexus_is, sense_put_at, senses_without_at}, SeatReplies.{id_turned}}
pub use array_model_proofs.SoundArrays.{history_sound}
use Rattle.due_model.specs.array_model.specs as array_model
pub use array_model.{ArrayHistory.{array_after, array_step, reply_in, reply_of}, Execution.{CommandContext, Execution}}
pub use array_model.Execution.{Reply, aborted_reply, check_condition, commands_cleared, execution, is_good_range}
pub use array_model.Execution.{is_opcode, is_request_sense, needs_unit, queue_full, range_of, returned_sense, sense_of}
pub use array_model.{Execution.{unit_not_supported}, Order.{choice, same_number, without_process}, Processes.{Process}}
pub use array_model.Processes.{command_at, process_by, process_if, process_of, same_bool, same_id, sense_block}
pub use array_model.{Reels.{Reel}, Seats.{is_initiator}, SoundArray.{HasSeats, IsSound}, Steps.{accept_step}}
pub use array_model.Steps.{accept_step_at, event_step, process_count, queue_step, running_process, settled_array_if}
pub use array_model.{Steps.{with_guest}, Units.{Array, Nexus, RunningProcess, UnitState, guest_at, has_no_current}}
pub use array_model.Units.{is_held, nexus_of, nexuses_without, same_nexus, sense_of_nexus, senses_without}
pub use array_model.Units.{settled_array, starting_array, starting_units, unit_after_choice, unit_state_at}
pub use array_model.Units.{with_current, with_unit, without_reply}
use Rattle.due_model.specs.story_model.proofs as story_model_proofs
pub use story_model_proofs.{CarriedLists.{carried_id}, StorySteps.{ends_checks, events_aims, restored_aims, sent_aims}}
use Rattle.due_model.specs.story_model.specs as story_model
pub use story_model.{BusState.{RowReading, row_reading}, CarriedBytes.{CarriedBytes, is_status_phase, is_whole_block}}
pub use story_model.HistoryEvents.{abort_line_at, abort_line_events, bus_free_events, carried_if, end_events}
pub use story_model.HistoryEvents.{is_completion, is_refuse, item_abort_events, item_loss_events, link_events}
pub use story_model.HistoryEvents.{phase_events, queue_events, row_events_by, status_event, status_events}
pub use story_model.Items.{Item, Sent, abort, command_id, command_item, count_item, has_item, is_clash, is_open}
pub use story_model.Items.{may_send, open_from, open_limit_of, process, same_item, sense_id, sense_item}
pub use story_model.{Links.{LastMessage, Link, abortive, complete, disconnect, link_of, plain}, Outcomes.{Outcome}}
pub use story_model.Outcomes.{ended_aborted, ended_check, ended_full, ended_good, ended_lost, ended_reset}
pub use story_model.Outcomes.{ended_unanswered, ending_of, fits_unit, has_end, is_end_of, is_plain_at_tape, is_roomy}
pub use story_model.Outcomes.{is_sound_command, is_valid, most_open, outcome_by_status, outcome_if, outcome_of}
pub use story_model.Outcomes.{outcomes, outcomes_from, reply_bytes, reply_bytes_if, sense_in, sense_of_end}
pub use story_model.{Samples.{host_latency, latency_of, target_latency}, Story.{Ending, Story, by_abort, by_loss}}
pub use story_model.Story.{by_reset, by_status, is_aborted, is_sense_stopped, story_after_event, story_after_events}
pub use story_model.Story.{story_with_end, story_with_end_if, story_with_ends, story_with_over, unanswered, with_check}
pub use story_model.TraceHistory.{aim_of, is_arbitration_entry, retries_of, row_events, story, story_after_calling}
pub use story_model.TraceHistory.{story_after_calling_by, story_after_connection, story_by_change, story_on_bus}
pub use story_model.TraceHistory.{story_on_free_bus, story_with_aim, story_with_restored, story_with_sent}
pub use story_model.TraceHistory.{story_with_try, story_without_answer, trace_history}
use Rattle.due_model.specs.reaction_model.specs as reaction_model
pub use reaction_model.{Reactions.{earlier_due, sooner_time, time_if}, Reset.{rst_assertion}, declared.due.Due.{Due}}
use Rattle.due_model.specs.dialogue_model.specs as dialogue_model
pub use dialogue_model.{Arrivals.{policy_of}, Exchange.{Exchange, bytes_of_messages, one_message, plan_after_message}}
pub use dialogue_model.{Exchange.{plan_anew, plan_anew_if, struck_plan}, Hearing.{begun}, NextPhase.{Serving}}
pub use dialogue_model.NextPhase.{after_arrival, after_offer, after_run, bus_free, leaving_by, message_in_entry}
pub use dialogue_model.NextPhase.{message_out_leaving, message_repetition, phase_entry, phase_leaving, phase_of}
pub use dialogue_model.{NextPhase.{pointer_restoration, recovery, recovery_limit, with_task}, PhaseBytes.{one_if}}
pub use dialogue_model.Planning.{first_plan, plan_after, plan_in_message_out, plan_in_phase, plan_with_byte}
pub use dialogue_model.{Words.{is_naming, reply_to}, declared.exchange.{Cause.{Cause}, Hearing.{Hearing}}}
pub use dialogue_model.declared.exchange.{Leaving.{Leaving}, Messages.{Messages}, Next.{Next}, Phase.{Phase}}
pub use dialogue_model.declared.exchange.{Plan.{Plan}, Task.{Task}}
use Rattle.due_model.proofs as due_model_proofs
pub use due_model_proofs.Cases.{command_given_up_due, command_given_up_due_rows, command_struck_twice_due}
pub use due_model_proofs.Cases.{command_struck_twice_due_rows, data_in_given_up_due, data_in_given_up_due_rows}
pub use due_model_proofs.Cases.{data_out_given_up_due, data_out_given_up_due_rows, device_reset_by_message_due}
pub use due_model_proofs.Cases.{device_reset_by_message_due_rows, field_in_a_command_due, field_in_a_command_due_rows}
pub use due_model_proofs.Cases.{full_queue_due, full_queue_due_rows, hold_of_a_unit_due, hold_of_a_unit_due_rows}
pub use due_model_proofs.Cases.{lost_due, lost_due_rows, offset_255_due, offset_255_due_rows, pulsed_read_struck_due}
pub use due_model_proofs.Cases.{pulsed_read_struck_due_rows, pulsed_write_struck_due, pulsed_write_struck_due_rows}
pub use due_model_proofs.Cases.{reselected_id_struck_due, reselected_id_struck_due_rows, selected_id_struck_due}
pub use due_model_proofs.Cases.{selected_id_struck_due_rows, status_struck_due, status_struck_due_rows}
pub use due_model_proofs.Cases.{struck_names_due, struck_names_due_rows, tag_aborted_due, tag_aborted_due_rows}
pub use due_model_proofs.{Leasts.{least_none}, Plains.{prompt_plain, run_state_plain}, Seams.{onto}}
use Rattle.due_model.specs as due_model
pub use due_model.{Allowed.{allowed}, Defs.{opening, target_def_of}, Due.{is_reset_past, reset_from}}
pub use due_model.{Faithful.{faithful, has_ends}, Goals.{is_good}, Least.{IsLeast}, Next.{IsEnded, IsPrompt, due}}
pub use due_model.{Own.{Own, own_after, own_of}, Plain.{AreOfDevices, IsPlain}, RunState.{RunState, array_of, bus_of}}
pub use due_model.RunState.{carried_here, item_of, or_start, process_item, process_served}
pub use due_model.RunSteps.{array_after_events, exchange_after, item_if, leaving_of, may_negotiate, naming_of}
pub use due_model.{RunSteps.{opening_of, run_state, served_after}, Sights.{hearing_of, leaving, serving_at}}
pub use due_model.{Tasks.{task_of}, Telling.{is_true_telling, same_event, telling}, Wants.{initiator_if, ready_of}}
pub use due_model.Wants.{target_if, target_of}
use Rattle.progress_laws.specs.scsi_device.proofs as scsi_device_proofs
pub use scsi_device_proofs.{Finds.{all_more}, FitLines.{command_fits, obeys_fits, seats_are, units_are}}
pub use scsi_device_proofs.LineReads.{reset_by}
use Rattle.progress_laws.specs.scsi_device.specs as scsi_device
pub use scsi_device.{Lines.{FitsBus, IsHostLine, IsTargetLine}, Writes.{writers}}
use Rattle.progress_laws.specs.target_units.proofs as target_units_proofs
pub use target_units_proofs.Rooms.{kinds_always, lines_always, none_tape}
use Rattle.progress_laws.specs.target_units.specs as target_units
pub use target_units.Rooms.{AreOfKinds, AreOfLines, IsOfKind, IsOfLine}
use Rattle.target_course.proofs as target_course_proofs
pub use target_course_proofs.ServedEnds.{ends_are}
use Rattle.progress_laws.specs.book_laws.proofs as book_laws_proofs
pub use book_laws_proofs.{Carried.Facts.{process_id}, Common.{InConnection.{reading_is}, Lookups.{id_is, self_id}}}
pub use book_laws_proofs.{Items.Facts.{connected_aims}, Replies.Senses.{self_nexus}, Traces.{trace_faithful}}
use Rattle.progress_laws.specs.book_laws.specs as book_laws
pub use book_laws.FullQueues.{finds_full_queue, finds_full_queue_if, has_cause, has_event, was_refused}
pub use book_laws.{Hearing.{LeavesWhole, is_in_phase}, Listening.{nothing_understood, understanding, understood}}
pub use book_laws.{Rows.{IsRowIn, RowKind, crosses, still, strikes, turns}, Speaking.{AreWordsFor, IsSpeaking, opens}}
pub use book_laws.{Traces.{RowOf, apart, begins, ends, goes_on, under_reset}, WrongParity.{fault_rows, gives_up}}
pub use book_laws.WrongParity.{has_more_faults, is_complaint, is_failure, is_fault_of, is_left_as_due, is_left_by}
pub use book_laws.WrongParity.{is_loss, is_struck_phase, is_wrong_phase, left_as_due, serves}
use Rattle.progress_laws.specs.bus_laws.proofs as bus_laws_proofs
pub use bus_laws_proofs.{Lines.{Apart.{change_plain}, Rows.{drives_own}}, Resets.Dues.{due_calm, due_holding}}
pub use bus_laws_proofs.{Resets.{Dues.{due_there, own_reset_is}, Rows.{off_at}}, Stages.Answer.{from_answered}}
pub use bus_laws_proofs.Stages.{Answer.{from_resumed, from_withdrawn}, Arbitration.{from_arbitration}}
pub use bus_laws_proofs.Stages.{Calling.{from_asking, from_calls}, Dues.{is_at}, Facts.{least_is}, Free.{from_free}}
pub use bus_laws_proofs.{Stages.{Next.{by_calm, reset_or_calm}, Won.{from_won}}, Times.Limits.{obeys_latencies}}
use Rattle.progress_laws.specs.bus_laws.specs as bus_laws
pub use bus_laws.{Callings.{calling_lines, won_call}, Reactions.{reset_due, reset_due_if, unreset_due}}
pub use bus_laws.{Rows.{row_of_lines}, Stages.{BusStage, CalmStanding, HasShortLatencies, after_answer}}
pub use bus_laws.Stages.{after_arbitration, after_takeover, after_withdrawal, awaiting_answer, in_arbitration}
pub use bus_laws.Stages.{in_connection, in_reset, is_connected, on_free_bus, with_both_ids}
use Rattle.progress_laws.specs.link_laws.proofs as link_laws_proofs
pub use link_laws_proofs.{FromLink.{from_link}, Phases.Ends.{AfterLink, frees}, Runs.Lengths.{runs_are_short}}
pub use link_laws_proofs.Traces.{link_calm}
use Rattle.progress_laws.specs.link_laws.specs as link_laws
pub use link_laws.{Books.{KeepsBooksIn}, LinkStages.{AnyStage, linked}}
use Rattle.progress_laws.specs.row_laws.proofs as row_laws_proofs
pub use row_laws_proofs.Bytes.{Arrays.{HasByteCode, SendsBytes, StoredFit, stored_fit}, Codes.{row_codes}}
pub use row_laws_proofs.{Bytes.Facts.{Keeps, KeepsIf, keeps, keeps_events, sends_bytes}, Common.Impossible.{none_some}}
pub use row_laws_proofs.Common.{PhaseLines.{command_phase}, PlanWays.{plan_left}, Tests.{by_bool, by_option, plus_one}}
pub use row_laws_proofs.Events.{Arriving.{no_guest, not_running}, Others.{executed, reply_at}, Replies.{accepted}}
pub use row_laws_proofs.Events.{Replies.{refused, running_id, settles}, Units.{MayWait, StaysSo, each_settled}}
pub use row_laws_proofs.Events.{Units.{events_all, unit_has}, Writers.{append_all, kept_all, without_all}}
pub use row_laws_proofs.Lines.{Called.{IsDueCall, sel_of_call}, Connections.{connection_row}, Crossings.{RowFacts}}
pub use row_laws_proofs.Lines.{Crossings.{ends_here, stays}, Joint.{NextStood, Stood}}
use Rattle.progress_laws.specs.row_laws.specs as row_laws
pub use row_laws.{DataPointers.{is_marked}, ItemFacts.{AllP, AreChecked, IsChecked, IsNext, IsQueued, Items, RunsP}}
pub use row_laws.{ItemFacts.{UnitsP, is_abort, is_sense}, Places.{AnsweredOpen, Closes, IsAtRest, IsAway, IsTaken}}
pub use row_laws.Places.{IsUnanswered, IsUntouched, OnGuests, OnUnit, OnUnits, PlacedAsked, PlacedBefore, PlacedIf}
pub use row_laws.{Places.{PlacedIn, Runs, RunsOpen, Waits, completes, disconnects}, WriteFacts.{AllUnits, IsOther}}
pub use row_laws.WriteFacts.{IsWrittenUnit}
use Rattle.progress_laws.specs.story_laws.proofs as story_laws_proofs
pub use story_laws_proofs.Items.{Facts.{aimed_next}, Fresh.{calm_before, items_open}, Open.{item_is, same_process}}
pub use story_laws_proofs.Items.{Over.{ends_over, ends_senses, events_checked, events_grow, in_append}, Sent.{AllOf}}
pub use story_laws_proofs.{Items.Sent.{carried_of_item, process_in, row_of}, Pointers.Waits.{change_over}}
pub use story_laws_proofs.{Pointers.Waits.{connection_sent}, Undone.{Answers.{same_phase_of}, Turns.{not_out}}}
use Rattle.progress_laws.specs.story_laws.specs as story_laws
pub use story_laws.Items.{IsServedOpen}
use Rattle.progress_laws.specs.trace_laws.proofs as trace_laws_proofs
pub use trace_laws_proofs.{Places.Ready.{on_running}, Whole.{Whole, standing_next, whole}, Writes.Arrivals.{ArrivesNow}}
pub use trace_laws_proofs.Writes.Arrivals.{arrives_first}
use Rattle.progress_laws.specs.trace_laws.specs as trace_laws
pub use trace_laws.Statuses.{IsStatusIn, IsStatusOf}
use Rattle.progress_laws.proofs as progress_laws_proofs
pub use progress_laws_proofs.{Callees.First.{WantsAreItems}, Debts.Events.{AllPay, Paid, events_pay}}
pub use progress_laws_proofs.Debts.{Facts.{Indebted, indebted, row_pays}, Next.{sense_is, senses_same}}
pub use progress_laws_proofs.Debts.{Senses.{sense_cdb}, Steps.{debt_before, is_not_over, same_debt, same_debts}}
pub use progress_laws_proofs.Outcomes.{Answered.{AreUnwanted, sense_wanted}, Seats.{target_there}}
pub use progress_laws_proofs.Owed.{Events.{OfCommand, of_command, running_own}, Rows.{Holds, changed}, Steps.{nexus_at}}
pub use progress_laws_proofs.{Queues.Rows.{WasOpen, before, fewer_open, open_before}, Quiet.Facts.{Joined}}
pub use progress_laws_proofs.Quiet.Facts.{free_when_ended, joined, unwanted_when_ended}
use Rattle.progress_laws.specs as progress_laws
pub use progress_laws.Debts.{Debts, IsDebt, PaysWell, is_owed, nexus_of_command}
use Rattle.right_laws.proofs as right_laws_proofs
pub use right_laws_proofs.Ran.{Crossings.{GoesSo, IsNew, here_goes, known_served, new_here}, Facts.{Known, ended_next}}
pub use right_laws_proofs.Ran.{Open.{none_is}, Right.{AreJoined, all_joined, joined_last}, Undone.{load_next}}
pub use right_laws_proofs.{Ran.Undone.{load_start}, Samples.Callings.{asks_row, reset_sel, struck_out, waits_row}}
pub use right_laws_proofs.Samples.{Calls.{GoesOn, call_goes}, Moments.{apart_of}, Resets.{CalmRow, ResetRow, calm_row}}
pub use right_laws_proofs.{Samples.Resets.{lets_go, raises, reacts, resets}, Statuses.Facts.{status_at_end}}
pub use right_laws_proofs.Statuses.Facts.{status_next, status_start}
use Rattle.right_laws.specs as right_laws
pub use right_laws.{Loads.{UndoLoadFacts}, Open.{OnEvents}, Runs.{HasEnded}, StatusBytes.{StatusFacts}}
use Rattle.initiator.specs.initiator_books.proofs as initiator_books_proofs
pub use initiator_books_proofs.StoryEnds.{AreEnded, are_ended, change_keeps, ended_if, ending_after, event_ends}
pub use initiator_books_proofs.StoryEnds.{events_keep, unended_connection, unended_linked, with_ending_at}
use Rattle.initiator.specs as initiator
pub use initiator.Causes.{has_bus_reset, has_command_abort, has_loss, has_sense_abort, has_sense_stop, has_status}
pub use initiator.Causes.{is_bus_reset, is_command_abort, is_loss_of, is_sense_abort, is_status_of}
use Rattle.delivery_laws.specs as delivery_laws
pub use delivery_laws.Delivery.{HasRun, IsDelivered, IsGiven, IsOwnSense, RanSo, calling_faults, checked_sense}
pub use delivery_laws.Delivery.{command_faults, failed, fault_limit, fault_sense, is_call_for, is_calling_fault}
pub use delivery_laws.Delivery.{is_calm_event, is_checked, is_for_item, is_given_up_by, is_selecting, is_tape_fault}
pub use delivery_laws.{Delivery.{limit_with, ran, tape_fault_sense}, Endings.{HasReplyOf, arrive_by_room}}
pub use delivery_laws.Endings.{arrives_by_room, calls_in_vain, ending_outcome_if, event_ending, events_ending}
pub use delivery_laws.Endings.{first_ending, first_of, first_outcome, is_by_status, is_end_in_vain, is_full}
pub use delivery_laws.Endings.{is_sense_stop, is_tried_out, is_unanswered, is_unheard, is_unheard_call, own_sense_of}
pub use delivery_laws.{Endings.{sense_if, status_outcome, was_sense_stopped, was_sent}, Openings.{opening_since}}
pub use delivery_laws.{Openings.{opening_with, plan_at}, Recoveries.{IsLeaving, free_unless, is_named_again}}
pub use delivery_laws.{Recoveries.{is_tried_again, phase_after, phase_after_wrong, status_unless}, Resets.{are_lines}}
pub use delivery_laws.Resets.{are_releases, began_reset, begins_reset, ends_reset, has_line, has_reset, is_line_of}
pub use delivery_laws.Resets.{is_release, is_reset_over, is_reset_row}
