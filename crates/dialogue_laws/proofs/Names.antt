-- The names of other crates, and of this crate's definitions, that its proofs speak of, each by its home. A proof takes
-- them by `use proofs.Names.{..}`; tools/checks/imports.py brings in those that a proof imports by their home.
use Rattle.std.proofs as std_proofs
pub use std_proofs.Common.{Bool, List, None, Option, Some, [], ap, arith, false, inl, inr, length, not, refl, subst}
pub use std_proofs.Common.{suc, sym, true, zero, ℕ, ◌&&◌, ◌++◌, ◌+◌, ◌<◌, ◌||◌, ◌∙◌, ◌∷◌, ◌≡◌, ◌≤◌, ◌⊎◌}
pub use std_proofs.lemmas.Bool.{and_parts, cases_Bool, eqb-true, leb-true, ltb-false, ltb-true, not-true, or_right}
pub use std_proofs.lemmas.Option.{same_Some}
use Rattle.std.specs as std
pub use std.{List.{list_any}, Prelude.{if◌then◌else◌, is_none, is_some, nat_lt, ◌==◌}}
use Rattle.due_model.specs.bus_base.proofs as bus_base_proofs
pub use bus_base_proofs.Tests.{eq_self, or_false, or_true, wrong, wrong'}
use Rattle.due_model.specs.bus_base.specs as bus_base
pub use bus_base.declared.{AbortKind.{AbortKind}, Event.{Event}, ProcId.{ProcId}}
use Rattle.due_model.specs.bus_trace.proofs as bus_trace_proofs
pub use bus_trace_proofs.{OneRow.{bus-fault}, Sets.{same_self}}
use Rattle.due_model.specs.bus_trace.specs as bus_trace
pub use bus_trace.{Changes.{change_of, falls, rises}, LineSet.{LineSet}, Phases.{changes_phase, is_data, is_message_in}}
pub use bus_trace.{Phases.{is_message_out}, Terms.{call, connection, connection_after, is_fault, receiver, receiver_in}}
pub use bus_trace.{Terms.{receiver_of}, Trace.{bus, drives, last_time}, declared.Kind.{Kind, TheVariants.{Drives}}}
pub use bus_trace.declared.{Kind.TheVariants.{Fault}, Row.{Row}, agreements.Agreement.{Agreement}}
pub use bus_trace.declared.{changes.Change.{Change}, connection.Connection.{Connection}, selection.Call.{Call}}
pub use bus_trace.declared.selection.Calling.{Calling}
unfoldable pub use bus_trace.{LineSet.{line_of}, View.{union_below}}
use Rattle.due_model.specs.bus_lines.specs as bus_lines
pub use bus_lines.Handshakes.{Handshakes, answered_if, asked_if, first_of, handshakes, handshakes_after, handshakes_on}
pub use bus_lines.Handshakes.{newest_struck, newest_struck_if, no_handshakes, with_last_struck}
pub use bus_lines.declared.handshakes.Request.{Request}
use Rattle.due_model.specs.cdb_codec.specs as cdb_codec
pub use cdb_codec.declared.sense.TheConstants.{INITIATOR_DETECTED_ERROR, PARITY_ERROR}
pub use cdb_codec.declared.status.TheConstants.{CHECK_CONDITION}
use Rattle.due_model.specs.msg_grammar.specs as msg_grammar
pub use msg_grammar.declared.message.{MsgIn.{MsgIn}, MsgOut.{MsgOut}}
unfoldable pub use msg_grammar.Messages.{form_in, form_out}
use Rattle.due_model.specs.scenario.specs as scenario
pub use scenario.{Value.{ScenarioValue}, Writing.{Obeys}, declared.value.{AbortDef.{AbortDef}, CmdDef.{CmdDef}}}
pub use scenario.declared.value.{HostDef.{HostDef}, Policy.{Policy}, TargetDef.{TargetDef}}
unfoldable pub use scenario.Needs.{need_of, sent_of}
use Rattle.due_model.specs.array_model.proofs as array_model_proofs
pub use array_model_proofs.{SeatLookups.{same_id_is}, SeatReplies.{id_self}}
use Rattle.due_model.specs.array_model.specs as array_model
pub use array_model.{ArrayHistory.{reply_in}, Processes.{Process, process_of, same_id}}
use Rattle.due_model.specs.story_model.proofs as story_model_proofs
pub use story_model_proofs.StorySteps.{events_sent}
use Rattle.due_model.specs.story_model.specs as story_model
pub use story_model.{BusState.{RowReading, row_reading}, HistoryEvents.{abort_line_at, abort_line_events}}
pub use story_model.HistoryEvents.{bus_free_events, connection_events, item_abort_events, link_events, row_events_by}
pub use story_model.Items.{Item, Sent, abort, count_item, has_item, is_done, is_open, process, same_item, sense_item}
pub use story_model.{Links.{Link, abortive}, Story.{Ending, Story, by_abort, by_reset, by_status, is_aborted}}
pub use story_model.Story.{is_sense_stopped, story_after_event, story_after_events, story_with_end, story_with_end_if}
pub use story_model.{Story.{story_with_ends, story_with_over}, TraceHistory.{aim_of, is_arbitration_entry, is_counted}}
pub use story_model.TraceHistory.{retries_of, story_after_calling, story_after_calling_by, story_by_change}
pub use story_model.TraceHistory.{story_on_bus, story_on_free_bus, story_with_aim, story_with_try, story_without_answer}
use Rattle.due_model.specs.reaction_model.specs as reaction_model
pub use reaction_model.Reactions.{sooner_time, time_if}
use Rattle.due_model.specs.dialogue_model.specs as dialogue_model
pub use dialogue_model.{Arrivals.{policy_of}, DataRuns.{run_length, runs_in_all}, Ends.{follows_by}}
pub use dialogue_model.Events.{after_opening_events, arrival_event, arrival_events, arrival_run_events}
pub use dialogue_model.Events.{connection_end_events, detected_events, has_replied, is_status_next, newest_with}
pub use dialogue_model.{Events.{reply_events, turn_events, turn_events_if}, Exchange.{Exchange, Speech}}
pub use dialogue_model.Exchange.{bytes_of_messages, one_message, plan_after_message, plan_anew, speech_after_byte}
pub use dialogue_model.{Exchange.{speech_after_request, speech_of, struck_plan}, Hearing.{begun, begun_after}}
pub use dialogue_model.NextPhase.{Serving, after_arrival, after_messages, after_run, bus_free, command_leaving}
pub use dialogue_model.NextPhase.{data_out_leaving, disconnect_messages, disconnection, leaving_by, message_in_entry}
pub use dialogue_model.NextPhase.{message_out_leaving, message_repetition, next_data_phase, phase_entry, phase_leaving}
pub use dialogue_model.NextPhase.{phase_lines, phase_of, pointer_restoration, recovery, recovery_limit}
pub use dialogue_model.{NextPhase.{unless_attention, with_task}, PhaseBytes.{follows_in, lines_by, one_if}}
pub use dialogue_model.{PhaseBytes.{run_length_if}, Planning.{cause_after, plan_after, plan_in_message_out}}
pub use dialogue_model.{Planning.{plan_in_phase, plan_with_byte}, Speaking.{words_after}, Wants.{abort_since}}
pub use dialogue_model.Words.{answer_bytes, detected_error, is_naming, parity_error}
pub use dialogue_model.declared.exchange.{Arrival.{Arrival}, Cause.{Cause}, Hearing.{Hearing}, Leaving.{Leaving}}
pub use dialogue_model.declared.exchange.{Messages.{Messages}, Next.{Next}, Phase.{Phase}, Plan.{Plan}, Said.{Said}}
pub use dialogue_model.declared.exchange.Task.{Task}
use Rattle.due_model.proofs as due_model_proofs
pub use due_model_proofs.Cases.{absent_unit_due, absent_unit_due_rows, burst_without_tags_due}
pub use due_model_proofs.Cases.{burst_without_tags_due_rows, command_given_up_due, command_given_up_due_rows}
pub use due_model_proofs.Cases.{command_struck_twice_due, command_struck_twice_due_rows, complete_struck_due}
pub use due_model_proofs.Cases.{complete_struck_due_rows, data_in_given_up_due, data_in_given_up_due_rows}
pub use due_model_proofs.Cases.{data_out_given_up_due, data_out_given_up_due_rows, full_queue_due, full_queue_due_rows}
pub use due_model_proofs.Cases.{lost_due, lost_due_rows, own_processes_aborted_due, own_processes_aborted_due_rows}
pub use due_model_proofs.Cases.{pulsed_read_struck_due, pulsed_read_struck_due_rows, pulsed_write_struck_due}
pub use due_model_proofs.Cases.{pulsed_write_struck_due_rows, pulses_out_due, pulses_out_due_rows, queue_orders_due}
pub use due_model_proofs.Cases.{queue_orders_due_rows, read_whole_after_a_part_due, read_whole_after_a_part_due_rows}
pub use due_model_proofs.Cases.{request_of_a_target_struck_due, request_of_a_target_struck_due_rows}
pub use due_model_proofs.Cases.{status_given_up_due, status_given_up_due_rows, status_struck_due}
pub use due_model_proofs.Cases.{status_struck_due_rows, struck_names_due, struck_names_due_rows}
pub use due_model_proofs.Cases.{tagged_opening_struck_due, tagged_opening_struck_due_rows, unanswered_due}
pub use due_model_proofs.{Cases.{unanswered_due_rows}, Plains.{run_state_plain}, Seams.{onto}}
use Rattle.due_model.specs as due_model
pub use due_model.{Defs.{host_of, target_def_of}, LastingState.{ProcessProgress, progress_in, progress_with}}
pub use due_model.{Next.{IsPrompt}, Plain.{IsPlain}, RunState.{RunState, bus_of, carried_here, or_start, process_item}}
pub use due_model.{RunState.{process_served}, RunSteps.{events_of_row, exchange_after, first_run_state, item_if}}
pub use due_model.RunSteps.{leaving_of, progress_after, progress_by_leaving, run_state, run_state_after, served_after}
pub use due_model.{Sights.{arrival_at, hearing_of, leaving, pace_of, serving_at, serving_of}, Tasks.{arrival_of}}
pub use due_model.{Tasks.{is_writing, task_if, task_of}, Telling.{events_of_ends, events_of_ends_in, id_of}}
pub use due_model.Telling.{initiator_events, is_true_telling, same_event, same_events, same_kind, target_events}
pub use due_model.{Telling.{telling}, Wants.{item_want_time, own_abort, own_aborts, ready_of, ready_time, want_time}}
use Rattle.progress_laws.specs.scsi_device.proofs as scsi_device_proofs
pub use scsi_device_proofs.FitLines.{abort_fits, obeys_fits, units_are}
use Rattle.progress_laws.specs.scsi_device.specs as scsi_device
pub use scsi_device.Lines.{IsAbortLine}
use Rattle.progress_laws.specs.book_laws.proofs as book_laws_proofs
pub use book_laws_proofs.Common.InConnection.{InConnection, SamePhase, in_connection, reading_is, same_phase_is}
pub use book_laws_proofs.Failures.{Counts.{struck_is}, GiveUps.{failure_is, loss_by, lost_calm}}
pub use book_laws_proofs.Items.Facts.{aims_are}
use Rattle.progress_laws.specs.book_laws.specs as book_laws
pub use book_laws.{FullQueues.{has_event}, Hearing.{is_out_phase}, Items.{IsItem, is_abort, is_process}}
pub use book_laws.{Knowing.{Knows}, Reactions.{IsOver}, Rows.{IsRowIn, RowKind, crosses, reading_in, still, strikes}}
pub use book_laws.{Rows.{turns}, Traces.{AreRowsOf, Books, RowOf, apart, begins, ends, goes_on, under_reset}}
pub use book_laws.WrongParity.{gives_up, is_complaint, is_failure, is_left_as_due, is_left_by, is_loss}
pub use book_laws.WrongParity.{is_refusal_after, is_refusing, is_struck_after, is_struck_phase, left_as_due}
use Rattle.progress_laws.specs.bus_laws.proofs as bus_laws_proofs
pub use bus_laws_proofs.{Lines.{Apart.{change_plain}, Rows.{fault_change}}, Stages.Facts.{least_is}}
use Rattle.progress_laws.specs.bus_laws.specs as bus_laws
pub use bus_laws.{Ends.{EndLines, Linked, connected_bus, initiator_side, target_side}, Rows.{change_to, row_of_fault}}
pub use bus_laws.Rows.{row_of_lines}
use Rattle.progress_laws.specs.link_laws.proofs as link_laws_proofs
pub use link_laws_proofs.{Dues.Ends.{answering_with, offering_with}, Lines.Rows.{initiator_moves, no_rise, phase_same}}
pub use link_laws_proofs.Lines.Rows.{target_moves}
use Rattle.progress_laws.specs.link_laws.specs as link_laws
pub use link_laws.LinkStages.{AnyStage, LinkStage, linked, when_offering, when_pulsing, when_selected, when_settling}
pub use link_laws.{LinkStages.{when_shaking, when_turning}, Pulses.{run_count}}
use Rattle.progress_laws.specs.row_laws.proofs as row_laws_proofs
pub use row_laws_proofs.Common.{Impossible.{none_some}, PhaseLines.{data_in_lines, in_phase, not_message_in}}
pub use row_laws_proofs.Common.{PhaseLines.{not_message_out, out_phase}, PlanWays.{plan_out}}
pub use row_laws_proofs.Lines.{Attention.{lines_are}, Connections.{ConnectionRow, GoingRow, RowKindOf, begins_now}}
pub use row_laws_proofs.Lines.Connections.{connection_row, goes_now, going_row, row_kind, stage_of_connection}
pub use row_laws_proofs.Lines.{Crossings.{RowFacts, ends_here, stays}, Joint.{NextStood, link_connection, link_phase}}
pub use row_laws_proofs.Lines.{Kept.{turn}, Rows.{LinkRow, is_unasked}, Turns.{freed_connection}}
use Rattle.progress_laws.specs.row_laws.specs as row_laws
pub use row_laws.{DataPointers.{is_marked}, ItemTalks.{awaits}, Places.{PlacedAsked, PlacedIf, PlacedIn}}
pub use row_laws.Tells.{IsLeaving, IsServed, code_if, of_abort, of_process}
use Rattle.progress_laws.specs.story_laws.proofs as story_laws_proofs
pub use story_laws_proofs.Commands.{Messages.{same_item as item_served}, Next.{out_unstruck}}
pub use story_laws_proofs.{Complaints.{Facts.{speech_said}, Turns.{left_for_out}}, Instructed.Turns.{out_is}}
pub use story_laws_proofs.Items.{Facts.{falls_quiet}, First.{next_unended, next_unsent}, Fresh.{items_fresh}}
pub use story_laws_proofs.Items.{Open.{item_is}, Rows.{served_item}, Sent.{free_keeps}, Steps.{free_still}}
pub use story_laws_proofs.{Offers.Leavings.{all_said, parity_said}, Pointers.Leavings.{is_attended}}
pub use story_laws_proofs.{Pointers.Waits.{connection_sent}, Talks.First.{first_sent, sent_with}}
pub use story_laws_proofs.{Tells.{Ends.{none_heard}, Rows.{IsHeard, is_heard}}, Undone.Answers.{same_phase_of}}
pub use story_laws_proofs.Undone.Facts.{in_of, undo_asks}
use Rattle.progress_laws.specs.story_laws.specs as story_laws
pub use story_laws.{Complaints.{any_struck}, Named.{Named, known, refused, said}}
use Rattle.progress_laws.specs.trace_laws.proofs as trace_laws_proofs
pub use trace_laws_proofs.Failures.{Bytes.{SameFail, still_fails}, Crossings.{in_none, out_none, quiet_same}}
pub use trace_laws_proofs.{Failures.Faults.{fault_receives}, Runs.{Counts.{or_left, unasked_low}, Facts.{task_here}}}
pub use trace_laws_proofs.{Sent.{Facts.{sent_asks}, Requests.{last_struck}}, Whole.{Whole, standing_next, steps, whole}}
use Rattle.progress_laws.specs.trace_laws.specs as trace_laws
pub use trace_laws.SentFailures.{SentTalk}
use Rattle.progress_laws.proofs as progress_laws_proofs
pub use progress_laws_proofs.{Outcomes.Seats.{initiator_there}, Quiet.Facts.{free_when_ended, joined}}
use Rattle.right_laws.proofs as right_laws_proofs
pub use right_laws_proofs.{DataIn.Facts.{read_books}, Offers.Steps.{is_data_in}}
use Rattle.dialogue_laws.specs as dialogue_laws
pub use dialogue_laws.AbortLines.{AbortEnd, IsToSend, is_cut, is_cut_by, is_served_for, was_dropped, was_sent}
pub use dialogue_laws.Recoveries.{Complains, FailsWith, HasTakenAll, IsAsked, IsLost, IsWithin, LeavesPhase, Recovers}
pub use dialogue_laws.{Recoveries.{RecoversUnless, Repeats, is_spent, phase_if, present_phase}, Runs.{Arrives}}
pub use dialogue_laws.Runs.{Disconnects, EndsRun, Follows, GoesOnAtOnce, HasSaid, all_runs, data_phase, has_data_left}
pub use dialogue_laws.Runs.{has_run_left, policy_at, runs_of}
