-- The names of other crates, and of this crate's definitions, that its proofs speak of, each by its home. A proof takes
-- them by `use proofs.Names.{..}`; tools/checks/imports.py brings in those that a proof imports by their home.
use Rattle.std.proofs as std_proofs
pub use std_proofs.Common.{Bool, List, None, Option, Some, [], ap, append-nil, append_assoc, arith, false, inl, inr}
pub use std_proofs.Common.{length, length-append, not, refl, subst, suc, sym, true, true≢false, zero, ℕ, ◌&&◌, ◌++◌}
pub use std_proofs.{Common.{◌+◌, ◌<◌, ◌||◌, ◌∙◌, ◌∷◌, ◌≡◌, ◌≤◌, ◌⊎◌}, lemmas.Bool.{and_from, and_parts, cases_Bool}}
pub use std_proofs.lemmas.Bool.{eqb-true, ltb-true, not-false, not-true, or_left, or_parts, or_right}
pub use std_proofs.lemmas.{Bool.Decides.{nat_tests}, Option.{same_Some}}
use Rattle.std.specs as std
pub use std.{List.{list_any}, Prelude.{if◌then◌else◌, is_none, is_some, nat_le, nat_lt, slice_index, slice_index_or}}
pub use std.Prelude.{slice_set, ⊤, ◌%◌, ◌-◌, ◌==◌}
use Rattle.due_model.specs.bus_base.proofs as bus_base_proofs
pub use bus_base_proofs.Tests.{all_three, and_false, and_first, and_second, eq_self, eq_turned, implied, middle, nil_of}
pub use bus_base_proofs.Tests.{none_number, or_none_first, or_second, or_true, plus_none, rises_none, rises_some}
pub use bus_base_proofs.Tests.{suc_some, unless, wrong, wrong', zero_of}
use Rattle.due_model.specs.bus_base.specs as bus_base
pub use bus_base.{Faults.{counted_on}, declared.{AbortKind.{AbortKind}, Event.{Event}, ProcId.{ProcId}}}
use Rattle.due_model.specs.bus_trace.specs as bus_trace
pub use bus_trace.{Changes.{change_of, falls, rises, same_phase}, LineSet.{LineSet, same}, Phases.{changes_phase}}
pub use bus_trace.{Phases.{is_command, is_data, is_message_in, is_message_out}, Terms.{call, connection}}
pub use bus_trace.{Terms.{connection_after, connection_of, is_fault, receiver_in, receiver_of}, Trace.{bus}}
pub use bus_trace.declared.{Kind.{Kind, TheVariants.{Drives, Fault}}, Row.{Row}, agreements.Agreement.{Agreement}}
pub use bus_trace.declared.{agreements.TheConstants.{UNLIMITED_OFFSET}, changes.Change.{Change}}
pub use bus_trace.declared.{connection.Connection.{Connection}, selection.{Call.{Call}, Calling.{Calling}}}
unfoldable pub use bus_trace.{LineSet.{line_of}, View.{union_below}}
use Rattle.due_model.specs.bus_lines.proofs as bus_lines_proofs
pub use bus_lines_proofs.Early.{struck_same}
use Rattle.due_model.specs.bus_lines.specs as bus_lines
pub use bus_lines.Handshakes.{Handshakes, answered_if, asked_if, handshakes_after, handshakes_on, no_handshakes}
use Rattle.due_model.specs.cdb_codec.specs as cdb_codec
pub use cdb_codec.{Cdb.{command_of, group_len, has_group_len, is_len}, declared.Sense.{Sense}}
pub use cdb_codec.declared.sense.TheConstants.{ABORTED_COMMAND, INITIATOR_DETECTED_ERROR, PARITY_ERROR}
pub use cdb_codec.declared.status.TheConstants.{CHECK_CONDITION, GOOD, QUEUE_FULL}
use Rattle.due_model.specs.msg_grammar.specs as msg_grammar
pub use msg_grammar.{Messages.{FitsIn, FitsOut, got_in, got_out, in_bytes, out_bytes}, declared.message.MsgIn.{MsgIn}}
pub use msg_grammar.declared.message.MsgOut.{MsgOut}
unfoldable pub use msg_grammar.Messages.{form_in, form_out}
use Rattle.due_model.specs.bus_phases.specs as bus_phases
pub use bus_phases.Dialogue.{byte_crosses, byte_else, byte_in, byte_out, command_on, dialogue, dialogue_after}
pub use bus_phases.{Dialogue.{fresh_bytes, heard_with_command, opened, phase_begins}, Half.{is_nil, left_of}}
pub use bus_phases.{Reading.{reading_of, reading_out}, declared.dialogue.Dialogue.{Dialogue}}
pub use bus_phases.declared.{reading.Reading.{Reading}, spoken.CommandBytes.{CommandBytes}}
use Rattle.due_model.specs.bus_rules.specs as bus_rules
pub use bus_rules.Messages.{is_below, is_none_or_all, is_opening, is_same_length, is_unknown, keeps_messages}
pub use bus_rules.{Messages.{leaves_message_well, may_take, opens_well, same_bool, settles_offers}, Seen.{seen}}
unfoldable pub use bus_rules.Seen.{seen_with}
use Rattle.due_model.specs.scenario.specs as scenario
pub use scenario.{Lookups.{units_of}, Value.{ScenarioValue}, declared.value.{AbortDef.{AbortDef}, CmdDef.{CmdDef}}}
pub use scenario.declared.value.{HostDef.{HostDef}, Policy.{Policy}, Tag.{Tag}, TargetDef.{TargetDef}}
pub use scenario.declared.value.UnitDef.{UnitDef}
unfoldable pub use scenario.Needs.{need_of, sent_of}
use Rattle.due_model.specs.array_model.proofs as array_model_proofs
pub use array_model_proofs.{ExecutionFacts.{not_aborted, status_known}, SeatLookups.{same_bool_is, same_id_is}}
pub use array_model_proofs.{SeatLookups.{same_nexus_is}, SeatOwn.{guest_process}, SeatReplies.{id_self}}
pub use array_model_proofs.SoundArrays.{current_process, history_sound, id_is}
use Rattle.due_model.specs.array_model.specs as array_model
pub use array_model.{ArrayHistory.{array_after, array_step, reply_in}, Contents.{Contents}, Execution.{CommandContext}}
pub use array_model.Execution.{Execution, Reply, aborted_reply, check_condition, commands_cleared, execution}
pub use array_model.{Execution.{is_request_sense, queue_full, sense_of}, Order.{choice}, Processes.{Process}}
pub use array_model.{Processes.{command_at, process_by, process_if, process_of, same_id}, Seats.{current_of}}
pub use array_model.{Seats.{is_initiator}, SoundArray.{AllOwnUnits, HasSeats, IsOwnRunning, IsOwnUnit, IsSound}}
pub use array_model.{Steps.{event_step, process_count, refuse_step, refuse_step_at}, Units.{Array, Nexus}}
pub use array_model.Units.{RunningProcess, UnitState, guest_at, has_no_current, is_held, nexus_of, nexuses_without}
pub use array_model.Units.{same_nexus, sense_of_nexus, senses_without, settled_array, starting_array, starting_units}
pub use array_model.Units.{unit_state_at, units_after_choice, with_current, with_unit, without_guest}
use Rattle.due_model.specs.story_model.proofs as story_model_proofs
pub use story_model_proofs.{CarriedLists.{carried_id, carried_with}, StorySteps.{begun_aims, byte_link, calling_aims}}
pub use story_model_proofs.StorySteps.{carried_link, check_keeps, ends_keep, events_aims, events_link, fault_link}
pub use story_model_proofs.StorySteps.{first_link, restored_aims}
use Rattle.due_model.specs.story_model.specs as story_model
pub use story_model.BusState.{RowReading, message_in, message_out, row_reading, whole_in, whole_out}
pub use story_model.CarriedBytes.{Area, CarriedBytes, area_with, bytes_with, carried_after_byte, carried_after_fault}
pub use story_model.CarriedBytes.{carried_after_message, carried_at, carried_of, carried_or_nothing, is_status_phase}
pub use story_model.CarriedBytes.{is_whole_block, nothing_carried, with_carried, with_restored_pointers}
pub use story_model.{HistoryEvents.{abort_line_at, carried_if, end_events, is_completion, row_events_by}, Items.{Item}}
pub use story_model.Items.{Sent, abort, abort_from, command_from, command_item, count_item, is_done, is_of_host}
pub use story_model.Items.{is_open, item_at, may_send, open_from, or_else, process, sense_from, sense_item}
pub use story_model.{Links.{Link, last_in, last_out, link_after_name, link_of}, PairAgreements.{agreement_in}}
pub use story_model.{Right.{same_bytes}, Story.{Ending, Story, by_abort, by_reset, by_status, empty_story, is_aborted}}
pub use story_model.Story.{is_sense_stopped, marked_refused, marked_shown, story_after_event, story_after_events}
pub use story_model.Story.{story_with_end, story_with_end_if, story_with_ends, story_with_over, with_check}
pub use story_model.TraceHistory.{aim_of, carried_after_byte_if, carried_after_fault_if, carried_after_message_if}
pub use story_model.TraceHistory.{is_arbitration_entry, is_counted, is_parity_error, retries_of, story}
pub use story_model.TraceHistory.{story_after_byte, story_after_calling, story_after_calling_by, story_after_connection}
pub use story_model.TraceHistory.{story_after_fault, story_after_in, story_after_message, story_after_out}
pub use story_model.TraceHistory.{story_by_change, story_in_connection, story_on_bus, story_on_free_bus, story_with_aim}
pub use story_model.TraceHistory.{story_with_carried, story_with_restored, story_with_sent, story_with_try}
pub use story_model.TraceHistory.{story_without_answer, trace_history}
use Rattle.due_model.specs.dialogue_model.specs as dialogue_model
pub use dialogue_model.{Arrivals.{arrival_by, arrival_in, is_never, policy_of}, DataRuns.{run_at, runs_in_all}}
pub use dialogue_model.{Ends.{follows_by}, Events.{abort_events, after_opening_events, arrival_events}}
pub use dialogue_model.Events.{arrival_run_events, connection_end_events, detected_events, has_replied, is_status_next}
pub use dialogue_model.Events.{leaving_events, loss_events, newest_with, reply_events, turn_events, turn_events_if}
pub use dialogue_model.Exchange.{Exchange, Speech, attends_with, bytes_of_messages, from_byte, message_bytes, next_word}
pub use dialogue_model.Exchange.{no_messages, nothing_heard, one_message, plan_after_message, plan_anew, plan_anew_if}
pub use dialogue_model.Exchange.{request_after, said_with, said_with_if, speech_after_byte, speech_after_request}
pub use dialogue_model.{Exchange.{speech_of, struck_plan}, NextPhase.{Serving, after_arrival, after_messages}}
pub use dialogue_model.NextPhase.{after_offer, after_run, bus_free, command_leaving, data_in_leaving, data_out_leaving}
pub use dialogue_model.NextPhase.{disconnect_messages, disconnection, leaving_by, message_out_leaving}
pub use dialogue_model.NextPhase.{message_repetition, next_data_phase, phase_entry, phase_leaving, phase_of}
pub use dialogue_model.NextPhase.{pointer_restoration, recovery, recovery_limit, request_or_command, with_task}
pub use dialogue_model.{PhaseBytes.{follows_in, has_whole_block, one_if, phase_byte}, Planning.{first_plan, plan_after}}
pub use dialogue_model.{Planning.{plan_in_message_out, plan_in_phase, plan_with_byte}, Sending.{Sending, byte_to_send}}
pub use dialogue_model.{Speaking.{words_after}, Wants.{Ready, first_ready, is_ready_before, ready_in}}
pub use dialogue_model.Words.{abort_bytes, abort_opening, answer_bytes, detected_error, is_name, is_naming, offer_if}
pub use dialogue_model.Words.{parity_error, process_opening, reply_to, request_by, tag_bytes, tag_named, target_answer}
pub use dialogue_model.declared.exchange.{Arrival.{Arrival}, Cause.{Cause}, Hearing.{Hearing}, Leaving.{Leaving}}
pub use dialogue_model.declared.exchange.{Messages.{Messages}, Next.{Next}, Phase.{Phase}, Plan.{Plan}, Room.{Room}}
pub use dialogue_model.declared.exchange.{Said.{Said}, Task.{Task}}
use Rattle.due_model.proofs as due_model_proofs
pub use due_model_proofs.Cases.{full_queue_due, full_queue_due_rows, given_up_due, given_up_due_rows}
pub use due_model_proofs.{Cases.{status_given_up_due, status_given_up_due_rows}, Plains.{IsBusStateOf, bus_state_is}}
pub use due_model_proofs.{Plains.{change_same, run_state_plain}, Seams.{onto}, Stills.{still_talk}}
use Rattle.due_model.specs as due_model
pub use due_model.{Allowed.{allowed, is_allowed}, Defs.{host_of, opening, target_def_of}, Faithful.{faithful, has_ends}}
pub use due_model.Faithful.{is_abort_named, is_block_of_process, is_faithful, is_item_named, is_kind, is_known_process}
pub use due_model.Faithful.{is_opening_named, is_process_named, is_sent_at, is_true_beginning, is_true_crossing}
pub use due_model.Faithful.{is_true_hearing, is_true_leaving, is_unit, same_process, same_tag}
pub use due_model.{LastingState.{ProcessProgress, progress_in, progress_with}, Plain.{AreOfDevices}}
pub use due_model.RunState.{RunState, array_of, bus_of, carried_here, item_of, process_here, process_item}
pub use due_model.{RunState.{process_served}, RunSteps.{array_after_events, exchange_after, first_exchange}}
pub use due_model.RunSteps.{first_run_state, item_if, leaving_of, may_negotiate, messages_if, naming_of, progress_after}
pub use due_model.{RunSteps.{progress_by_leaving, run_state, run_state_after, served_after}, Sights.{hearing_of}}
pub use due_model.{Sights.{leaving, sending_by, sending_of, serving_of}, Tasks.{arrival_if, arrival_of, is_idle_unit}}
pub use due_model.{Tasks.{is_writing, room_of, task_if, task_of}, Telling.{events_of_ends, events_of_ends_in, id_of}}
pub use due_model.Telling.{initiator_events, is_true_telling, same_event, same_events, target_events, telling}
pub use due_model.Wants.{callee, initiator_if, ready_among, ready_at, ready_of, seek_of, since_of, target_if, target_of}
use Rattle.scsi_device.proofs as scsi_device_proofs
pub use scsi_device_proofs.PhaseLines.{in_phase, out_phase}
use Rattle.scsi_device.specs as scsi_device
pub use scsi_device.{Heard.{is_command_phase}, Lines.{AreUnits}, Writes.{is_data_out}}
use Rattle.book_laws.specs as book_laws
pub use book_laws.Carrying.{AllCarryOwn, AllSendOwn, CarriesOwn, IsFilled, IsOwn, SendsNext, SendsOwn, TakesBlock}
pub use book_laws.FirstBytes.{IsUnopened, Opens, OpensBy, before_all, in_names, in_opening}
pub use book_laws.FullQueues.{finds_full_queue, has_cause, has_event, has_failure_at, is_at_nexus, is_failure_at}
pub use book_laws.{FullQueues.{is_refusal, is_refused_at, lacks_room, was_refused}, Giving.{AreGiven, Gives, GivesBy}}
pub use book_laws.{Giving.{GivesNext, IsQuiet, IsQuietBy, OnMessage, OnMessages}, Hearing.{HasPhase, IsAtRun}}
pub use book_laws.{Hearing.{LeavesWhole, MovesRuns, is_in_phase, is_out_phase}, Items.{AimsAreItems, IsItem, is_abort}}
pub use book_laws.{Items.{is_process}, Knowing.{IsNoName, Knows, NamesServed}, Listening.{Understanding, form_messages}}
pub use book_laws.Listening.{form_messages_in, half_after, nothing_understood, understanding, understanding_anew}
pub use book_laws.{Listening.{understood, understood_byte}, Reactions.{HasMessage, IsAnswered, IsOffered, IsOver}}
pub use book_laws.RowTests.{crosses_well, gives_next, has_phase, is_aimed_at, is_at_run, is_between, is_block_whole}
pub use book_laws.RowTests.{is_first_row, is_last_row, is_made_for, is_of_kind, is_of_target, is_phase_whole}
pub use book_laws.RowTests.{is_ready_for, is_row_by, is_row_in, is_row_of, leaves_whole, names_served, same_item_if}
pub use book_laws.{RowTests.{says_next, sends_next}, Rows.{IsFirstRow, IsRowIn, RowKind, crosses, reading_in, still}}
pub use book_laws.{Rows.{strikes, turns}, Speaking.{AreWordsFor, AreWordsHeard, IsAboutToSpeak, IsSpeaking, SaysNext}}
pub use book_laws.Speaking.{Speaks, SpeaksBy, answers, opens, refuses, rejects_data, rejects_status}
pub use book_laws.Strikes.{fails_with, has_failing_byte, has_strike, is_item_of, is_link_of, is_strike}
pub use book_laws.Traces.{AreRowsOf, Begins, Books, Ends, GoesOn, IsAimedAt, IsReadyFor, RowOf, apart, begins, ends}
pub use book_laws.{Traces.{goes_on, under_reset}, WrongParity.{complains_truly, fault_rows, gives_up, has_more_faults}}
pub use book_laws.WrongParity.{has_passed_limit, is_complaining, is_complaint, is_failure, is_fault_of, is_left}
pub use book_laws.WrongParity.{is_left_as_due, is_left_by, is_loss, is_past_limit, is_refusal_after, is_refusing}
pub use book_laws.WrongParity.{is_struck_after, is_struck_phase, is_true_complaint, is_wrong_phase, leaves_wrong_phase}
pub use book_laws.WrongParity.{left_as_due, serves, wrong_phases}
