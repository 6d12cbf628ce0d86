-- The names of other crates, and of this crate's definitions, that its proofs speak of, each by its home. A proof takes
-- them by `use proofs.Names.{..}`; tools/checks/imports.py brings in those that a proof imports by their home.
use Rattle.std.proofs as std_proofs
pub use std_proofs.Common.{Bool, List, None, Option, Some, [], ap, append-nil, arith, false, inl, inr, length}
pub use std_proofs.Common.{length-append, not, one-add, refl, subst, suc, sym, take, true, true≢false, zero, ℕ, ◌%◌}
pub use std_proofs.Common.{◌&&◌, ◌*◌, ◌++◌, ◌+◌, ◌<◌, ◌==◌, ◌^◌, ◌||◌, ◌∙◌, ◌∷◌, ◌≡◌, ◌≢◌, ◌≤◌, ◌⊎◌}
pub use std_proofs.lemmas.Bool.{and_from, and_parts, cases_eq, eqb-true, ltb-true, not-true, or_cases, or_from}
pub use std_proofs.lemmas.{Bool.{or_parts, or_right, Decides.{nat_tests}}, Option.{same_Some}}
use Rattle.std.specs as std
pub use std.{List.{list_any}, Prelude.{drop, if◌then◌else◌, is_none, is_some, nat_le, nat_lt, slice_index}}
pub use std.Prelude.{slice_index_or, slice_set, ⊤, ◌-◌}
unfoldable pub use std.Int.RustNames.{count_ones}
use Rattle.due_model.specs.bus_base.proofs as bus_base_proofs
pub use bus_base_proofs.Tests.{and_false, and_first, and_second, and_true, eq_self, implication, implied, nil_of}
pub use bus_base_proofs.Tests.{none_between, not_first, or_false, or_none_second, or_other, or_true, plus_none}
pub use bus_base_proofs.Tests.{rises_none, suc_some, wrong, wrong', zero_of}
use Rattle.due_model.specs.bus_base.specs as bus_base
pub use bus_base.{Faults.{counted_on}, declared.{AbortKind.{AbortKind}, Event.{Event}, ProcId.{ProcId}}}
use Rattle.due_model.specs.bus_trace.proofs as bus_trace_proofs
pub use bus_trace_proofs.{Buses.{bus_off, bus_on, bus_two}, OneRow.{bus-fault, drives-other, drives-own}}
pub use bus_trace_proofs.Sets.{same_set-eq}
use Rattle.due_model.specs.bus_trace.specs as bus_trace
pub use bus_trace.{Changes.{change_of, falls, implies, is_within, rises}, LineSet.{LineSet, byte_set, none, same}}
pub use bus_trace.{LineSet.{union}, Phases.{changes_phase, is_command, is_data, is_message_in, is_message_out}}
pub use bus_trace.Terms.{arbitration, arbitration_after, call, call_goes_on, connected, connected_by, connected_of}
pub use bus_trace.Terms.{connection, connection_after, connection_of, free_since, is_fault, is_free, raised}
pub use bus_trace.{Terms.{receiver_in, receiver_of}, Trace.{bus, driven_after, drives, last_time}, declared.Kind.{Kind}}
pub use bus_trace.declared.{Kind.TheVariants.{Drives, Fault}, Row.{Row}, agreements.Agreement.{Agreement}}
pub use bus_trace.declared.{arbitration.Arbitration.{Arbitration}, changes.Change.{Change}}
pub use bus_trace.declared.{connection.Connection.{Connection}, delays.TheConstants.{ARBITRATION_DELAY}}
pub use bus_trace.declared.selection.{Call.{Call}, Calling.{Calling}}
use Rattle.due_model.specs.bus_lines.proofs as bus_lines_proofs
pub use bus_lines_proofs.Early.{struck_same}
use Rattle.due_model.specs.bus_lines.specs as bus_lines
pub use bus_lines.Handshakes.{Handshakes, answered_if, asked_if, first_of, handshakes, handshakes_after, handshakes_on}
pub use bus_lines.{Handshakes.{is_struck, newest_struck_if, no_handshakes}, declared.handshakes.Request.{Request}}
use Rattle.due_model.specs.cdb_codec.specs as cdb_codec
pub use cdb_codec.Cdb.{command_of, group_len, has_group_len, is_len}
pub use cdb_codec.declared.sense.TheConstants.{INITIATOR_DETECTED_ERROR, PARITY_ERROR}
pub use cdb_codec.declared.status.TheConstants.{CHECK_CONDITION}
use Rattle.due_model.specs.msg_grammar.specs as msg_grammar
pub use msg_grammar.{Grammar.{is_abort}, Messages.{FitsIn, FitsOut, got_in, got_out, in_bytes, out_bytes}}
pub use msg_grammar.declared.message.{Got.{Got, TheVariants.{More, Unknown, Whole}}, MsgIn.{MsgIn}, MsgOut.{MsgOut}}
unfoldable pub use msg_grammar.Messages.{form_in, form_out}
use Rattle.due_model.specs.bus_phases.specs as bus_phases
pub use bus_phases.Dialogue.{byte_crosses, byte_else, byte_in, byte_out, command_on, dialogue, dialogue_after}
pub use bus_phases.Dialogue.{fresh_bytes, fresh_heard, heard_if_begun, heard_in, heard_out, heard_with_command}
pub use bus_phases.Dialogue.{heard_with_in, heard_with_out, is_of_other, no_command, opened, phase_begins}
pub use bus_phases.Dialogue.{spoken_with_reject, spoken_with_word, void_or_now, without_offset, word_in, word_out}
pub use bus_phases.{Half.{is_nil, left_of}, Reading.{reading_out}, declared.dialogue.Dialogue.{Dialogue}}
pub use bus_phases.declared.{spoken.{CommandBytes.{CommandBytes}, Heard.{Heard}, Spoken.{Spoken}}, words.End.{End}}
pub use bus_phases.declared.words.Word.{Word}
use Rattle.due_model.specs.bus_rules.proofs as bus_rules_proofs
pub use bus_rules_proofs.First.{all_kept}
use Rattle.due_model.specs.bus_rules.specs as bus_rules
pub use bus_rules.{Messages.{is_none_or_all, is_unknown, may_take, settles_offers}, Reset.{only_rst}}
pub use bus_rules.{Rules.{broken_rule, judged_rules}, Seen.{seen}, declared.seen.Seen.{Seen}}
unfoldable pub use bus_rules.Seen.{seen_with}
use Rattle.due_model.specs.scenario.specs as scenario
pub use scenario.{Lookups.{units_of}, Needs.{is_write}, Value.{ScenarioValue}, Writing.{Obeys}}
pub use scenario.declared.value.{AbortDef.{AbortDef}, CmdDef.{CmdDef}, HostDef.{HostDef}, Policy.{Policy}, Tag.{Tag}}
pub use scenario.declared.value.{TargetDef.{TargetDef}, UnitDef.{UnitDef}}
use Rattle.due_model.specs.array_model.proofs as array_model_proofs
pub use array_model_proofs.{NamedBlocks.{none_named}, SeatLookups.{none_at, number_same}, SeatReplies.{id_turned}}
use Rattle.due_model.specs.array_model.specs as array_model
pub use array_model.{ArrayHistory.{array_after, array_step, reply_in}, Execution.{Reply, is_request_sense}}
pub use array_model.{Order.{range_in, same_number, tag_number}, Processes.{Process, command_at, command_process}}
pub use array_model.Processes.{process_by, process_if, process_of, same_bool, same_id, sense_block, sense_process}
pub use array_model.{Seats.{current_of, is_initiator}, Steps.{accept_step, accept_step_at, process_count, queue_step}}
pub use array_model.{Steps.{settled_array_if, with_guest}, Units.{Array, RunningProcess, UnitState, is_held}}
pub use array_model.Units.{starting_units, unit_state_at, with_unit}
use Rattle.due_model.specs.story_model.proofs as story_model_proofs
pub use story_model_proofs.{CarriedLists.{carried_id, carried_with}, SameBytes.{bytes_are}, StorySteps.{byte_link}}
pub use story_model_proofs.StorySteps.{carried_link, check_keeps, ends_checks, ends_keep, event_sent, events_link}
pub use story_model_proofs.StorySteps.{events_sent, fault_link, first_link, message_id, out_link, restored_sent}
pub use story_model_proofs.StorySteps.{sent_carried}
use Rattle.due_model.specs.story_model.specs as story_model
pub use story_model.BusState.{RowReading, message_in, message_out, row_reading, whole_in, whole_out}
pub use story_model.CarriedBytes.{Area, CarriedBytes, area_with, carried_after_byte, carried_after_fault}
pub use story_model.CarriedBytes.{carried_after_message, carried_at, carried_of, carried_or_nothing, is_status_phase}
pub use story_model.{CarriedBytes.{is_whole_block, with_carried, with_restored_pointers}, HistoryEvents.{abort_line_at}}
pub use story_model.HistoryEvents.{abort_line_events, bus_free_events, carried_if, connection_events, end_events}
pub use story_model.HistoryEvents.{is_complete, is_completion, is_refuse, item_abort_events, item_loss_events}
pub use story_model.HistoryEvents.{link_events, phase_events, queue_event, queue_events, row_events_by, status_event}
pub use story_model.{HistoryEvents.{status_events}, Items.{Item, Sent, abort, abort_from, command_from, command_item}}
pub use story_model.Items.{has_item, is_clash, is_done, is_of_host, is_open, is_tag_clash, item_at, may_send, open_from}
pub use story_model.{Items.{open_limit_of, or_else, process, same_item, sense_from, sense_item}, Links.{LastMessage}}
pub use story_model.Links.{Link, abortive, complete, disconnect, is_of_nexus, is_open_sense, last_in, last_out}
pub use story_model.Links.{link_after_name, link_of, named_item, named_item_from, plain}
pub use story_model.{PairAgreements.{agreement_in}, Story.{Ending, Story, by_abort, by_reset, by_status, is_aborted}}
pub use story_model.Story.{is_sense_stopped, marked_refused, marked_shown, story_after_event, story_after_events}
pub use story_model.Story.{story_with_end, story_with_end_if, story_with_ends, story_with_over, with_check}
pub use story_model.TraceHistory.{aim_of, carried_after_byte_if, carried_after_fault_if, carried_after_message_if}
pub use story_model.TraceHistory.{is_arbitration_entry, is_counted, is_parity_error, retries_of, story_after_byte}
pub use story_model.TraceHistory.{story_after_calling, story_after_calling_by, story_after_connection}
pub use story_model.TraceHistory.{story_after_crossing, story_after_fault, story_after_in, story_after_message}
pub use story_model.TraceHistory.{story_after_out, story_by_change, story_in_connection, story_on_bus}
pub use story_model.TraceHistory.{story_on_free_bus, story_with_aim, story_with_carried, story_with_restored}
pub use story_model.TraceHistory.{story_with_sent, story_with_try, story_without_answer}
use Rattle.due_model.specs.reaction_model.specs as reaction_model
pub use reaction_model.Target.{byte_bits}
use Rattle.due_model.specs.dialogue_model.proofs as dialogue_model_proofs
pub use dialogue_model_proofs.Leavings.{recovery_not, task_not}
use Rattle.due_model.specs.dialogue_model.specs as dialogue_model
pub use dialogue_model.{Arrivals.{arrival_by, arrival_in, is_never, policy_of}, DataRuns.{runs_in, runs_in_all}}
pub use dialogue_model.{Ends.{follows_by}, Events.{after_opening_events, arrival_event, arrival_events}}
pub use dialogue_model.Events.{arrival_run_events, connection_end_events, has_replied, is_status_next, newest_with}
pub use dialogue_model.{Events.{reply_events, turn_events, turn_events_if, unit_or_0}, Exchange.{Exchange, Speech}}
pub use dialogue_model.Exchange.{attends_with, bytes_of_messages, from_byte, message_bytes, next_word, no_messages}
pub use dialogue_model.Exchange.{nothing_heard, one_message, plan_after_message, plan_anew, plan_anew_if, request_after}
pub use dialogue_model.Exchange.{said_with_if, speech_after_byte, speech_after_request, speech_of, struck_plan}
pub use dialogue_model.{Exchange.{two_messages}, Hearing.{begun}, NextPhase.{Serving, after_messages, after_offer}}
pub use dialogue_model.NextPhase.{after_refusal, bus_free, disconnect_messages, leaving_by, message_in_entry}
pub use dialogue_model.NextPhase.{message_out_leaving, message_repetition, next_data_phase, phase_entry, phase_leaving}
pub use dialogue_model.NextPhase.{phase_lines, phase_of, recovery, recovery_limit, request_or_command, with_task}
pub use dialogue_model.PhaseBytes.{follows_in, has_whole_block, lines_by, one_if, phase_byte, status_byte}
pub use dialogue_model.Planning.{cause_after, first_plan, plan_in_message_out, plan_in_phase, plan_with_byte}
pub use dialogue_model.{Speaking.{words_after}, Wants.{Ready, first_ready, is_ready_before, ready_in}}
pub use dialogue_model.Words.{abort_bytes, abort_opening, answer_bytes, detected_error, host_answer, is_name, is_naming}
pub use dialogue_model.Words.{naming_messages, offer_if, parity_error, process_opening, request_by, tag_bytes}
pub use dialogue_model.{Words.{tag_named, target_answer}, declared.exchange.{Arrival.{Arrival}, Cause.{Cause}}}
pub use dialogue_model.declared.exchange.{Hearing.{Hearing}, Leaving.{Leaving}, Messages.{Messages}, Next.{Next}}
pub use dialogue_model.declared.exchange.{Phase.{Phase}, Plan.{Plan}, Room.{Room}, Said.{Said}, Task.{Task}}
use Rattle.due_model.proofs as due_model_proofs
pub use due_model_proofs.{Lookups.{named_none, other_kept}, Plains.{run_state_plain}, Stills.{still_talk}}
use Rattle.due_model.specs as due_model
pub use due_model.{Defs.{host_of, target_def_of}, Faithful.{is_abort_named, is_item_named, is_kind, is_opening_named}}
pub use due_model.{Faithful.{is_process_named, is_unit}, LastingState.{ProcessProgress, progress_in, progress_with}}
pub use due_model.{Least.{IsLeast}, Next.{IsPrompt, due}, Plain.{AreOfDevices, IsPlain}, RunState.{RunState}}
pub use due_model.RunState.{agreement_of, array_of, bus_of, carried_here, item_of, or_start, process_here, process_item}
pub use due_model.{RunState.{process_served}, RunSteps.{array_after_events, exchange_after, first_exchange, item_if}}
pub use due_model.RunSteps.{leaving_of, may_negotiate, messages_if, progress_after, progress_by_leaving, run_state}
pub use due_model.{RunSteps.{run_state_after, run_state_with_events, served_after}, Sights.{arrival_at, hearing_of}}
pub use due_model.{Sights.{leaving, serving_at, serving_of}, Tasks.{arrival_if, blocks_in, is_idle_unit, is_writing}}
pub use due_model.{Tasks.{room_of, task_if, task_of}, Telling.{events_of_ends, events_of_ends_in, id_of}}
pub use due_model.Telling.{initiator_events, is_true_telling, same_event, same_events, same_kind, target_events}
pub use due_model.Wants.{abort_target, initiator_if, ready_among, ready_at, ready_of, seek_of, since_of, target_of}
use Rattle.row_laws.specs.scsi_device.proofs as scsi_device_proofs
pub use scsi_device_proofs.{FitLines.{obeys_fits, seats_are, units_are}, PhaseLines.{command_is}}
use Rattle.row_laws.specs.scsi_device.specs as scsi_device
pub use scsi_device.Heard.{Instructions, block_after, instructions, instructions_after, instructions_on}
pub use scsi_device.Heard.{instructions_with, is_command_phase, is_message, is_opening, is_opening_in, is_selected}
pub use scsi_device.{Heard.{no_instructions}, Lines.{AreUnits}, Writes.{is_data_in, is_data_out}}
use Rattle.row_laws.specs.book_laws.proofs as book_laws_proofs
pub use book_laws_proofs.Carried.{Areas.{split_at, takes_byte}, Blocks.{counts_on, may_follow, none_or_all}}
pub use book_laws_proofs.Carried.{Commands.{block_follows, block_own, own_of}, Facts.{process_id}}
pub use book_laws_proofs.Common.InConnection.{InConnection, SamePhase, dialogue_by, in_connection, reading_is}
pub use book_laws_proofs.Common.{InConnection.{same_phase_is}, Lists.{understood_append}, Lookups.{id_is, put_other}}
pub use book_laws_proofs.{Common.Lookups.{put_own, self_id}, Given.{Heard.{heard_next}, Leavings.{IsOfOthers}}}
pub use book_laws_proofs.Given.{Leavings.{left_messages}, Messages.{first_requests}, Rows.{answered_same}}
pub use book_laws_proofs.Given.Rows.{byte_messages, counted, few_messages, in_io, in_same, not_both, requests_rise}
pub use book_laws_proofs.{Given.Rows.{requests_stay}, Items.Facts.{aims_are}, Known.Rows.{from_nameless, link_after}}
pub use book_laws_proofs.{Known.Rows.{nameless_item, others_nameless}, Reactions.{answers_own, command_over}}
pub use book_laws_proofs.{Reactions.{messages_some, out_over}, Said.Crossings.{says_byte, says_more}}
pub use book_laws_proofs.Said.{First.{process_unit}, Leavings.{opening_named}, Messages.{reads_at, reads_end}}
pub use book_laws_proofs.Said.Rows.{asking, heard_byte, opening_exchange, out_same, struck}
use Rattle.row_laws.specs.book_laws.specs as book_laws
pub use book_laws.{Carrying.{CarriesOwn}, Giving.{AreGiven, Gives, GivesNext, OnMessage, OnMessages}}
pub use book_laws.{Hearing.{HasPhase, LeavesWhole, is_in_phase, is_out_phase}, Items.{AimsAreItems, IsItem, is_process}}
pub use book_laws.{Knowing.{IsNoName, Knows, NamesServed}, Listening.{Understanding, form_messages, half_after}}
pub use book_laws.{Listening.{nothing_understood, understood, understood_byte}, Reactions.{IsOver}, Rows.{IsFirstRow}}
pub use book_laws.{Rows.{IsRowIn, RowKind, crosses, reading_in, still, strikes, turns}, Speaking.{AreWordsFor}}
pub use book_laws.Speaking.{AreWordsHeard, IsSpeaking, SaysNext, Speaks, answers, refuses, rejects_data, rejects_status}
pub use book_laws.Traces.{Begins, Books, GoesOn, RowOf, apart as row_apart, begins, goes_on, under_reset}
pub use book_laws.WrongParity.{is_complaining, is_complaint, is_left, is_refusing, is_struck_phase, is_true_complaint}
use Rattle.row_laws.specs.bus_laws.proofs as bus_laws_proofs
pub use bus_laws_proofs.Lines.{Apart.{change_plain, free_by, nothing_shown, on_free}, Rows.{drives_other, drives_own}}
pub use bus_laws_proofs.{Lines.Rows.{fault_change}, Stages.{Facts.{least_is}, Next.{from_stage}}}
pub use bus_laws_proofs.Times.Limits.{obeys_latencies}
use Rattle.row_laws.specs.bus_laws.specs as bus_laws
pub use bus_laws.Ends.{BeginsConnection, EndLines, Linked, by_reselection, by_selection, connected_bus, ends_selected}
pub use bus_laws.{Ends.{initiator_side, target_side}, Rows.{change_to, row_of_fault, row_of_lines}, Stages.{BusStage}}
use Rattle.row_laws.specs.link_laws.proofs as link_laws_proofs
pub use link_laws_proofs.{Dues.Ends.{answering_with, offering_with}, Lines.Obeys.{same_phases}}
pub use link_laws_proofs.Lines.Rows.{initiator_in_phase, initiator_moves, no_rise, target_in_phase, target_moves}
pub use link_laws_proofs.Phases.{Crossings.{initiator_row, target_row}, Ends.{leaves_lines}, Faults.{linked_fault}}
pub use link_laws_proofs.{Phases.Leavings.{may_leave}, Pulses.Steps.{count_more}, Traces.{link_calm}}
use Rattle.row_laws.specs.link_laws.specs as link_laws
pub use link_laws.{Books.{has_whole_command}, LinkStages.{AnyStage, LinkStage, apart, linked, when_offering}}
pub use link_laws.{LinkStages.{when_pulsing, when_selected, when_settling, when_shaking, when_turning}, Phases.{ends}}
use Rattle.row_laws.proofs as row_laws_proofs
pub use row_laws_proofs.{Bytes.Blocks.{HasCommands, commands_are}, Common.Impossible.{none_some, some_none}}
pub use row_laws_proofs.Common.PhaseLines.{data_in_lines, in_out, in_phase, is_out_next, is_status, message_line}
pub use row_laws_proofs.Common.PhaseLines.{not_message_in, not_message_out, out_in, out_line, out_lines, out_phase}
pub use row_laws_proofs.Common.{PhaseLines.{unpulsed}, PlanWays.{plan_by, plan_left, plan_out}, StoryWays.{StoryWay}}
pub use row_laws_proofs.Common.{StoryWays.{carries, hears, says, story_way}, Tests.{all_four, by_bool, by_option}}
pub use row_laws_proofs.Common.Tests.{falls_true, less_apart, not_unless, or_first, plus_one, some_count, some_zero}
pub use row_laws_proofs.{Common.Tests.{zero_below}, Events.Queued.{is_dropped, map_units, settled_units, stays_queued}}
pub use row_laws_proofs.{Events.{Queued.{step_units, unit_at}, Replies.{replies_to}}, Lines.Attention.{attention_row}}
pub use row_laws_proofs.Lines.{Attention.{lines_are}, Called.{IsCalled, IsDueCall, by_answer, callee_at, link_none}}
pub use row_laws_proofs.Lines.{Called.{made_for, sel_of_call}, Connections.{ConnectionRow, GoingRow, RowKindOf}}
pub use row_laws_proofs.Lines.Connections.{begins_now, connection_row, goes_now, going_row, link_low, row_kind}
pub use row_laws_proofs.Lines.{Connections.{stage_of_connection}, Crossings.{Goes, RowFacts, ends_here, stays}}
pub use row_laws_proofs.Lines.{Driven.{same_ends}, First.{IsFirst, made_is, quiet_sel, under_rst}, Joint.{NextStood}}
pub use row_laws_proofs.Lines.{Joint.{Stood, apart_connection, link_connection, link_phase}, Kept.{turn}}
pub use row_laws_proofs.Lines.{Plans.{Planned, is_in_message}, Rows.{LinkRow, answers_pulse, asks_first, asks_next}}
pub use row_laws_proofs.Lines.Rows.{asks_pulse, changes_pulsed, drives_pulsed, ends_ack_in, ends_ack_out}
pub use row_laws_proofs.Lines.Rows.{ends_ack_pulse, ends_req, ends_req_pulse, gives, hands, is_unasked, leaves, offers}
pub use row_laws_proofs.Lines.{Rows.{releases, sends, sends_pulse}, Turns.{freed_connection}, UnderRst.{drives_next}}
pub use row_laws_proofs.Lines.{UnderRst.{line_off, quiet_at_end, reset_rule}, UndoneLeavings.{is_to_message_in}}
pub use row_laws_proofs.{Lines.UndoneLeavings.{leaves_short}, Shown.Facts.{answered_on, change_keeps}}
use Rattle.row_laws.specs as row_laws
pub use row_laws.{Attention.{Attention, MessageRow, asks, keeps}, DataPointers.{IsAt, IsCalm, IsInRun, IsOfStatus}}
pub use row_laws.DataPointers.{IsPlainIn, IsServedAnew, IsSettled, IsUndisturbed, IsUnnamed, IsWaiting, OnUndo}
pub use row_laws.DataPointers.{PointersAsked, PointersBy, PointersIf, PointersIn, PointersOf, PointersRefused}
pub use row_laws.DataPointers.{RefusesLater, ServedPointers, UndoesServed, calm, closes, closes_again, disconnects}
pub use row_laws.DataPointers.{disconnects_again, is_marked, named, restores, restores_again, run_policy, run_start}
pub use row_laws.{DataPointers.{run_step, saved, saves, saves_again, still_calm, unnamed}, ItemFacts.{AimsFit}}
pub use row_laws.ItemFacts.{AreChecked, IsAimed, IsChecked, IsNext, IsQueued, ItemFacts, Items, LinkSent, LinksSent}
pub use row_laws.{ItemFacts.{NoClash, RunsP, SentOnly, UnitsP, is_sense, no_progress}, ItemTalks.{HasEnded, HasNames}}
pub use row_laws.ItemTalks.{IsNameOf, IsTaken, Talk, Talks, TalksBy, awaits, frees_bus, is_complete_in}
pub use row_laws.ItemTalks.{is_disconnect_in, is_plain, is_sense_item, last_well, plans_well, talk_of}
pub use row_laws.Offers.{IsHeardIn, IsHeardOut, IsNoRequest, Negotiates, OfferFacts, Offers, OffersBy, Plans, SaysOne}
pub use row_laws.Offers.{WasOpen, answers_it, detects, in_part, is_detected, negotiates, no_request, offer_now}
pub use row_laws.{Offers.{offer_said, opens, repeats, requests, whole}, Tells.{AreRepliesShown, FailsAsLeft, FailsIn}}
pub use row_laws.Tells.{IsClosing, IsLeaving, IsServed, LastAsked, LastIn, ServedFacts, Tells, TellsAsLeft, UndoAsked}
pub use row_laws.Tells.{UndoBooks, UndoBy, UndoFacts, UndoFits, UndoesAnswers, UndoesSame, code_if, is_short, of_abort}
pub use row_laws.Tells.{of_process}
use Rattle.story_laws.specs as story_laws
pub use story_laws.Commands.{AnswersAtCommand, AnswersBefore, AnswersFor, CommandAsked, CommandBooks, CommandFacts}
pub use story_laws.Commands.{Counts, GivesBefore, GivesFor, GivesOn, HasNoBlock, IsBeforeCommand, IsNone, IsNoneOrAll}
pub use story_laws.Commands.{IsUntaken, ItemServed, RejectsOn, Restores, SaysFor, Serves, StandsIn, TakesBlock}
pub use story_laws.Commands.{UndoesToNone, block_count, dialogue_of, opens_answered, opens_given, restores_answered}
pub use story_laws.{Commands.{restores_given, restores_refused}, Complaints.{ComplaintFacts, ComplaintsBy, Refuses}}
pub use story_laws.{Complaints.{any_struck}, DataFacts.{DataPremises}, Instructed.{Instructed, InstructedFacts}}
pub use story_laws.{Instructed.{KnownFor, KnownIn, KnownNext, Selected}, Items.{AreSent, IsFresh, IsServedOpen}}
pub use story_laws.LastTalks.{AbortTalks, CompletesBy, EndsWell, EndsWellIf, LastBy, LastFacts, LastGiven, LastTalk}
pub use story_laws.{LastTalks.{LastTalks, SaysEnd, closed, still_stays, to_close, to_save}, Named.{AreFound, IsFoundBy}}
pub use story_laws.Named.{IsNaming, Named, NamedBy, NamedFacts, Names, all, known, refused, said, tag_alone}
pub use story_laws.{RowAttendance.{IsCalmTurn}, TellFacts.{TellFacts}}
