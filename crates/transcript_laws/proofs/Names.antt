-- The names of other crates, and of this crate's definitions, that its proofs speak of, each by its home. A proof takes
-- them by `use proofs.Names.{..}`; tools/checks/imports.py brings in those that a proof imports by their home.
use Rattle.std.proofs as std_proofs
pub use std_proofs.Common.{Bool, List, None, Option, Some, [], ap, arith, false, inl, inr, length, not, refl, reverse}
pub use std_proofs.Common.{subst, suc, sym, take, true, zero, ℕ, ◌%◌, ◌&&◌, ◌++◌, ◌+◌, ◌-◌, ◌<◌, ◌==◌, ◌||◌, ◌∙◌, ◌∷◌}
pub use std_proofs.{Common.{◌≡◌, ◌≤◌, ◌⊎◌}, lemmas.Bool.{and_from, and_parts, and_right, eq-eqb, eqb-true, not-true}}
pub use std_proofs.lemmas.{Bool.{or_left, or_parts, or_right, Decides.{nat_tests}}, Grind.{flat_map-append}}
pub use std_proofs.lemmas.List.{append-nil, append_assoc, length-append, length-reverse, reverse-append}
pub use std_proofs.lemmas.Option.{same_Some}
use Rattle.std.specs as std
pub use std.{BTreeMap.{insert_entry, is_at}, List.{flat_map, list_any}, Map.{lookup}, Ordering.{is_eq, match_ordering}}
pub use std.Prelude.{if◌then◌else◌, is_none, is_some, nat_lt, slice_index, slice_index_or, slice_set, ⊤}
pub use std.declared.cmp.Ordering.{Ordering, TheVariants.{Equal, Greater, Less}}
use Rattle.due_model.specs.bus_base.proofs as bus_base_proofs
pub use bus_base_proofs.Tests.{and_false, and_first, and_second, and_true, eq_self, eq_turned, implication, implied}
pub use bus_base_proofs.Tests.{is_nothing, length_more, middle, next_some, nil_of, nothing_below, or_false, or_later}
pub use bus_base_proofs.Tests.{or_middle, or_none_first, or_second, or_true, plus_none, rises_some, second_false, wrong}
pub use bus_base_proofs.Tests.{wrong', zero_of}
use Rattle.due_model.specs.bus_base.specs as bus_base
pub use bus_base.{Faults.{counted_on}, declared.{AbortKind.{AbortKind}, Event.{Event}, ProcId.{ProcId}}}
use Rattle.due_model.specs.bus_trace.specs as bus_trace
pub use bus_trace.{Changes.{change_of, falls, rises}, LineSet.{LineSet}, Phases.{changes_phase, is_command, is_data}}
pub use bus_trace.{Phases.{is_message_in, is_message_out}, Terms.{call, call_after, connection, connection_after}}
pub use bus_trace.{Terms.{is_fault, receiver_in, receiver_of}, Trace.{bus, driven_after, drives, last_time}}
pub use bus_trace.{View.{driven_at, union_all}, declared.{agreements.Agreement.{Agreement}, changes.Change.{Change}}}
pub use bus_trace.declared.{connection.Connection.{Connection}, rows.Kind.{Kind, TheVariants.{Drives, Fault}}}
pub use bus_trace.declared.{rows.Row.{Row}, selection.{Call.{Call}, Calling.{Calling}}}
use Rattle.due_model.specs.bus_lines.specs as bus_lines
pub use bus_lines.Handshakes.{Handshakes, no_handshakes}
use Rattle.due_model.specs.cdb_codec.specs as cdb_codec
pub use cdb_codec.{Cdb.{has_group_len}, declared.sense.TheConstants.{INITIATOR_DETECTED_ERROR, PARITY_ERROR}}
pub use cdb_codec.declared.status.TheConstants.{CHECK_CONDITION}
use Rattle.due_model.specs.msg_grammar.specs as msg_grammar
pub use msg_grammar.{Messages.{FitsOut, got_in, got_out, out_bytes}, declared.message.{Got.{Got}, MsgIn.{MsgIn}}}
pub use msg_grammar.declared.message.MsgOut.{MsgOut}
unfoldable pub use msg_grammar.Messages.{form_in, form_out}
use Rattle.due_model.specs.bus_phases.specs as bus_phases
pub use bus_phases.Dialogue.{asynchronous, byte_crosses, byte_else, byte_in, byte_out, dialogue_after, fresh_bytes}
pub use bus_phases.{Dialogue.{heard_with_command, phase_begins}, Half.{is_nil, left_of}, Reading.{reading_out}}
pub use bus_phases.declared.{dialogue.Dialogue.{Dialogue}, reading.Reading.{Reading}}
use Rattle.due_model.specs.bus_rules.specs as bus_rules
pub use bus_rules.Messages.{is_unknown}
use Rattle.due_model.specs.scenario.specs as scenario
pub use scenario.{Value.{ScenarioValue}, Writing.{Obeys}, declared.value.{AbortDef.{AbortDef}, CmdDef.{CmdDef}}}
pub use scenario.declared.value.{HostDef.{HostDef}, Tag.{Tag}}
use Rattle.due_model.specs.array_model.proofs as array_model_proofs
pub use array_model_proofs.{SeatLookups.{none_at, number_same, same_bool_is}, SeatReplies.{id_turned}}
use Rattle.due_model.specs.array_model.specs as array_model
pub use array_model.{ArrayHistory.{array_after, reply_in}, Execution.{Reply}, Order.{same_number, tag_number}}
pub use array_model.Processes.{command_at, process_by, process_if, process_of, same_bool, same_id}
use Rattle.due_model.specs.story_model.proofs as story_model_proofs
pub use story_model_proofs.{CarriedLists.{carried_id, carried_with}, SameBytes.{bytes_are}, StorySteps.{check_keeps}}
pub use story_model_proofs.StorySteps.{ends_checks, ends_keep, event_sent, events_link, events_sent, first_link}
pub use story_model_proofs.StorySteps.{message_id, out_link}
use Rattle.due_model.specs.story_model.specs as story_model
pub use story_model.BusState.{BusState, RowReading, bus_state_after, change_by, change_to, message_in, message_out}
pub use story_model.{BusState.{row_reading, whole_in, whole_out}, CarriedBytes.{Area, CarriedBytes, area_with}}
pub use story_model.CarriedBytes.{bytes_with, carried_after_byte, carried_after_fault, carried_after_message}
pub use story_model.CarriedBytes.{carried_at, carried_of, carried_or_nothing, is_status_phase, is_whole_block}
pub use story_model.CarriedBytes.{nothing_carried, with_carried, with_restored_pointers}
pub use story_model.HistoryEvents.{abort_line_at, abort_line_events, bus_free_events, carried_if, connection_events}
pub use story_model.HistoryEvents.{end_events, is_refuse, item_abort_events, link_events, phase_events, row_events_by}
pub use story_model.{HistoryEvents.{status_event}, Items.{Item, Sent, abort, command_id, command_item, has_item}}
pub use story_model.Items.{is_clash, is_done, is_open, is_tag_clash, process, same_item, sense_from, sense_id}
pub use story_model.{Items.{sense_item}, Links.{LastMessage, Link, abortive, complete, disconnect, is_of_nexus}}
pub use story_model.Links.{is_open_sense, last_in, last_out, link_after_name, link_of, named_item_from, plain}
pub use story_model.{PairAgreements.{agreement_in}, Right.{same_bytes}, Story.{Ending, Story, by_abort, by_reset}}
pub use story_model.Story.{by_status, is_aborted, is_sense_stopped, marked_refused, marked_shown, story_after_event}
pub use story_model.Story.{story_after_events, story_with_end, story_with_ends, story_with_over}
pub use story_model.TraceHistory.{aim_of, carried_after_byte_if, carried_after_fault_if, carried_after_message_if}
pub use story_model.TraceHistory.{is_parity_error, story, story_after_byte, story_after_connection}
pub use story_model.TraceHistory.{story_after_crossing, story_after_fault, story_after_in, story_after_message}
pub use story_model.TraceHistory.{story_after_out, story_by, story_by_change, story_in_connection, story_on_bus}
pub use story_model.TraceHistory.{story_on_free_bus, story_with, story_with_carried, story_with_history}
pub use story_model.TraceHistory.{story_with_restored, story_with_sent, trace_history}
use Rattle.due_model.specs.dialogue_model.specs as dialogue_model
pub use dialogue_model.{Arrivals.{policy_of}, DataRuns.{run_length}, Exchange.{Exchange, Speech, attends_with}}
pub use dialogue_model.Exchange.{bytes_of_messages, from_byte, message_bytes, no_messages, one_message}
pub use dialogue_model.Exchange.{plan_after_message, plan_anew, speech_after_byte, speech_after_request, speech_of}
pub use dialogue_model.{Exchange.{struck_plan}, Hearing.{begun}, NextPhase.{Serving, after_messages, after_refusal}}
pub use dialogue_model.NextPhase.{bus_free, leaving_by, message_out_leaving, message_repetition, next_data_phase}
pub use dialogue_model.NextPhase.{phase_entry, phase_leaving, phase_of, recovery, with_task}
pub use dialogue_model.{PhaseBytes.{run_length_if}, Planning.{cause_after, first_plan, plan_in_message_out}}
pub use dialogue_model.{Speaking.{speech_in_phase, words_after}, Words.{abort_bytes, abort_opening, host_answer}}
pub use dialogue_model.Words.{is_name, is_naming, naming_messages, offer_if, parity_error, process_opening, tag_bytes}
pub use dialogue_model.{Words.{tag_named}, declared.exchange.{Cause.{Cause}, Hearing.{Hearing}, Leaving.{Leaving}}}
pub use dialogue_model.declared.exchange.{Messages.{Messages}, Next.{Next}, Phase.{Phase}, Plan.{Plan}, Said.{Said}}
pub use dialogue_model.declared.exchange.Task.{Task}
use Rattle.due_model.proofs as due_model_proofs
pub use due_model_proofs.{Plains.{run_state_plain}, SameEvents.{kinds_are}, Stills.{still_talk}}
use Rattle.due_model.specs as due_model
pub use due_model.{Defs.{host_of, opening, target_def_of}, Next.{IsPrompt}, Plain.{AreOfDevices, IsPlain}}
pub use due_model.RunState.{RunState, bus_of, item_of, or_start, process_item, process_served}
pub use due_model.RunSteps.{exchange_after, item_if, leaving_of, may_negotiate, messages_if, run_state, run_state_after}
pub use due_model.{RunSteps.{served_after}, Sights.{hearing_of, leaving, serving_of}, Tasks.{task_if, task_of}}
pub use due_model.{Telling.{same_kind}, Wants.{ready_of}}
use Rattle.progress_laws.specs.scsi_device.proofs as scsi_device_proofs
pub use scsi_device_proofs.{FitLines.{obeys_fits, units_are}, PhaseLines.{command_is}}
use Rattle.progress_laws.specs.scsi_device.specs as scsi_device
pub use scsi_device.{Heard.{is_command_phase}, Lines.{AreUnits}}
use Rattle.progress_laws.specs.book_laws.proofs as book_laws_proofs
pub use book_laws_proofs.Carried.{Areas.{with_command_byte}, Blocks.{same_self}, Facts.{process_id}}
pub use book_laws_proofs.Common.InConnection.{InConnection, SamePhase, in_connection, reading_is, same_phase_is}
pub use book_laws_proofs.{Common.Lookups.{id_is, put_other, put_own, self_id}, Given.Heard.{heard_next}}
pub use book_laws_proofs.Given.{Leavings.{left_messages}, Messages.{in_is_known, in_is_whole}, Rows.{byte_messages}}
pub use book_laws_proofs.{Given.Rows.{counted, few_messages, in_io, not_both}, Items.Facts.{aims_are}}
pub use book_laws_proofs.{Known.Rows.{from_nameless, link_after, nameless_item, others_nameless}, RowTies.{item_if_is}}
pub use book_laws_proofs.Said.{Crossings.{says_byte, says_more}, Messages.{nil_is}}
use Rattle.progress_laws.specs.book_laws.specs as book_laws
pub use book_laws.{Accounts.{is_open_in}, Giving.{AreGiven, Gives, OnMessage, OnMessages}, Hearing.{LeavesWhole}}
pub use book_laws.{Hearing.{is_in_phase, is_out_phase}, Items.{IsItem, is_process}, Knowing.{IsNoName, Knows}}
pub use book_laws.Listening.{Understanding, form_messages, half_after, nothing_understood, understood, understood_byte}
pub use book_laws.{RowTests.{same_item_if}, Rows.{IsRowIn, RowKind, crosses, reading_in, still, strikes, turns}}
pub use book_laws.Speaking.{AreWordsFor, AreWordsHeard, IsAboutToSpeak, IsSpeaking, Speaks, answers, opens, refuses}
pub use book_laws.{Speaking.{rejects_data, rejects_status}, Tests.{is_selected}, Traces.{Begins, IsReadyFor, RowOf}}
pub use book_laws.Traces.{begins}
use Rattle.progress_laws.specs.bus_laws.proofs as bus_laws_proofs
pub use bus_laws_proofs.{Lines.{Apart.{change_plain}, Rows.{fault_change}}, Stages.Facts.{least_is}}
use Rattle.progress_laws.specs.bus_laws.specs as bus_laws
pub use bus_laws.Ends.{BeginsConnection, EndLines, Linked, by_reselection, by_selection, connected_bus, ends_selected}
pub use bus_laws.{Ends.{initiator_side, target_side}, Rows.{row_of_fault, row_of_lines}}
use Rattle.progress_laws.specs.link_laws.proofs as link_laws_proofs
pub use link_laws_proofs.Lines.Rows.{initiator_moves, no_rise, phase_same, target_moves}
use Rattle.progress_laws.specs.link_laws.specs as link_laws
pub use link_laws.{Phases.{ends}, Pulses.{run_count}}
use Rattle.progress_laws.specs.row_laws.proofs as row_laws_proofs
pub use row_laws_proofs.Common.{Impossible.{none_some}, PhaseLines.{command_phase, in_out, in_phase, message_line}}
pub use row_laws_proofs.Common.PhaseLines.{out_in, out_line, out_lines, out_no_status, out_phase}
pub use row_laws_proofs.Common.{PlanWays.{plan_left, plan_out}, StoryWays.{StoryWay, story_way}, Tests.{by_bool}}
pub use row_laws_proofs.{Common.Tests.{by_option, plus_one}, Lines.Connections.{ConnectionRow, GoingRow, RowKindOf}}
pub use row_laws_proofs.Lines.Connections.{begins_now, connection_row, goes_now, going_row, row_kind}
pub use row_laws_proofs.Lines.{Connections.{stage_of_connection}, Crossings.{RowFacts, Stops, ends_here}}
pub use row_laws_proofs.Lines.{Joint.{NextStood, link_phase, link_unbegun}, Plans.{is_in_message}, Rows.{LinkRow}}
pub use row_laws_proofs.Lines.{Rows.{is_unasked}, UnderRst.{raises_or_stands}}
use Rattle.progress_laws.specs.row_laws.specs as row_laws
pub use row_laws.{DataPointers.{is_marked}, ItemFacts.{AreChecked, IsChecked, IsNext, NoClash, is_abort}}
pub use row_laws.{ItemFacts.{is_command as is_next_command, is_sense}, ItemTalks.{IsTaken, TalksBy, talk_of}}
pub use row_laws.{Offers.{IsHeardOut, answers_it, detects, is_detected, repeats}, Places.{IsUntouched, PlacedIf}}
pub use row_laws.{Places.{PlacedIn}, Tells.{IsClosing, IsServed, LastIn, Tells, is_short}}
use Rattle.progress_laws.specs.story_laws.proofs as story_laws_proofs
pub use story_laws_proofs.{Commands.{Messages.{crossed_else}, Turns.{is_command_next}}, Items.Facts.{aimed_next}}
pub use story_laws_proofs.Items.{Facts.{beginning}, Fresh.{calm_after, calm_before, items_found, items_fresh}}
pub use story_laws_proofs.Items.{Fresh.{items_sent}, Open.{item_is, next_free, opened, same_process}, Over.{Grows}}
pub use story_laws_proofs.Items.{Over.{events_grow, grows_same, in_append, not_grown, reset_senses}, Row.{LinkAfter}}
pub use story_laws_proofs.Items.Row.{heard_link, hears, link_crossed, link_still, over_after, says, stays}
pub use story_laws_proofs.Items.Sent.{carried_of_item, free_keeps, more_has, own_has, restored_sent}
pub use story_laws_proofs.{Items.Stays.{inside_sent}, Last.Facts.{last_or}, Named.Bytes.{Tagged, all_bytes, bare}}
pub use story_laws_proofs.Named.{Bytes.{identify_got, names_first, names_left, numbered, tagged_is}, Rows.{in_lines}}
pub use story_laws_proofs.{Named.{Steps.{out_last}, Turns.{refusal_is}}, Offers.Bytes.{take_front}}
pub use story_laws_proofs.Offers.{Leavings.{all_said, parity_said}, Steps.{left_is}, Turns.{out_by_phase}}
pub use story_laws_proofs.Pointers.{Ends.{reset_over}, Steps.{fault_id, in_link, message_byte, named_story}}
pub use story_laws_proofs.{Pointers.{Stories.{story_row}, Waits.{change_over}}, Talks.Bytes.{on_message}}
pub use story_laws_proofs.{Talks.Steps.{last_before}, Tells.Ends.{goes_on, naming_goes_on, none_heard}}
pub use story_laws_proofs.Tells.{Facts.{all_given, front_length, left_tells}, Rows.{IsHeard, is_heard, never_ends}}
pub use story_laws_proofs.{Tells.Rows.{no_events, unbegun_lines}, Undone.Answers.{SamePlan, plan_stays}}
pub use story_laws_proofs.Undone.Facts.{in_of}
use Rattle.progress_laws.specs.story_laws.specs as story_laws
pub use story_laws.{LastTalks.{LastBy, LastGiven, closed, still_stays, to_close, to_save}, Named.{Named, Names, all}}
pub use story_laws.Named.{known, refused, said, tag_alone}
use Rattle.progress_laws.specs.trace_laws.proofs as trace_laws_proofs
pub use trace_laws_proofs.Closes.{Counts.{counted_row, first_handshakes, turn_handshakes}, Stays.{complete_is}}
pub use trace_laws_proofs.{Failures.{Facts.{RestoresNone, is_restore}, Left.{fails_as_left}}, Runs.Asks.{answers_all}}
pub use trace_laws_proofs.{Runs.{Asks.{out_phase as data_out_phase}, Facts.{task_here}}, Sent.Facts.{sent_asks}}
pub use trace_laws_proofs.Statuses.Leavings.{Completes, completes_from, in_status, left_alone, refused as refused_again}
pub use trace_laws_proofs.{Whole.{Whole, standing_next, whole}, Writes.Premises.{some_there}}
use Rattle.progress_laws.specs.trace_laws.specs as trace_laws
pub use trace_laws.Statuses.{CarriesBy, HasStatus}
use Rattle.progress_laws.proofs as progress_laws_proofs
pub use progress_laws_proofs.Debts.{Next.{ends_open, known_served}, Rows.{NoEnds, Shown, completes, no_ends, row_shown}}
pub use progress_laws_proofs.{Outcomes.Answered.{sense_left}, Owed.Rows.{changed}, Queues.Rows.{free_over}}
use Rattle.bus_transcript.proofs as bus_transcript_proofs
pub use bus_transcript_proofs.{Inside.{name_same, status_name}, Nexuses.{by_key}, Resets.{change_same, row_bus}}
use Rattle.bus_transcript.specs as bus_transcript
pub use bus_transcript.Accounts.{AccountValue, account_after, account_after_all, account_of, after_in, arrived}
pub use bus_transcript.{Accounts.{is_whole, restored, with_block, with_cdb, with_item}, Events.{TellsHistory}}
pub use bus_transcript.Events.{event_shown, items_if, items_named, items_told, name_begun, name_sent, named_events}
pub use bus_transcript.{Events.{named_if, names_begun, refused_name, refused_names, same_name}, Keys.{Key, key_cmp}}
pub use bus_transcript.{Keys.{key_of}, Nexus.{departure_out, kind_of, last_abort, named, no_summary, summary_after}}
pub use bus_transcript.Nexus.{summary_in, summary_of, summary_out, tag_in, tag_out, unit_in, unit_out}
pub use bus_transcript.{Numbers.{next_number}, Opened.{OpenedValue, broken_off, data_parts, held_part, incoming_part}}
pub use bus_transcript.Opened.{is_complete, is_completion, messages_of, opened_connection, phase_entered, phase_over}
pub use bus_transcript.Opened.{phase_parts, settled, spoken, with_all_out, with_crossing, with_fault, with_in}
pub use bus_transcript.Opened.{with_in_if, with_out, with_part, with_phase, with_row, with_said, with_still_row}
pub use bus_transcript.{Processes.{IsLast, process_after, same_nexus, with_last, with_process}, Rows.{TranscriberValue}}
pub use bus_transcript.Rows.{abort_item, account_parts, closed_if, closed_with, departed, departed_if, finished_if}
pub use bus_transcript.Rows.{free_items, name_of, on_bus, on_free_bus, reset_items, transcribed, transcript_of}
pub use bus_transcript.Rows.{unanswered_by, unanswered_items, under_reset, with_bus, with_items}
pub use bus_transcript.declared.{item.Name.{Name}, part.{Incoming.{Incoming, TheVariants.{Broken}}, Part.{Part}}}
pub use bus_transcript.declared.part.Part.TheVariants.{Command, Completion, Status, StatusPhase}
pub use bus_transcript.declared.{process.Process.{Process}, summary.Departure.{Departure, TheVariants.{Abortion}}}
pub use bus_transcript.declared.summary.{Departure.TheVariants.{Leave, Loss}, Summary.{Summary}}
unfoldable pub use bus_transcript.Rows.{by_change, closed_by}
use Rattle.transcript_laws.specs as transcript_laws
pub use transcript_laws.{Keeping.{HasProcess, IsKept}, Numbered.{AreDistinct, AreNumbered, AreOther, HasLast, OnNames}}
pub use transcript_laws.Parts.{are_talk, base_parts, held_parts, is_known, is_of, is_talk, is_void, name_process}
pub use transcript_laws.{Parts.{nexus_of, out_parts, parts_now, summary_by}, Past.{AreApart, AreEventsOf}}
pub use transcript_laws.Past.{AreEventsSent, AreOwnEvents, AreRefused, IsEventOf, IsEventSent, IsOwnEvent, IsPast}
pub use transcript_laws.{Past.{items_by}, RowTests.{are_named, arrives_first, closing_parts, ends_all, fit, fits_bus}}
pub use transcript_laws.RowTests.{fits_crossing, fits_end, fits_first, fits_in, fits_linked, fits_on, fits_out}
pub use transcript_laws.RowTests.{fits_reading, fits_row, fits_still, fits_turn, gets_known, has_status, is_abortion}
pub use transcript_laws.RowTests.{is_alike, is_alone, is_broken, is_departure, is_empty, is_fresh, is_line, is_named}
pub use transcript_laws.RowTests.{is_no_abort, is_open_item, is_open_process, leaves_talk, names_item, says_first}
pub use transcript_laws.{RowTests.{shares_nexus, undoes_nothing}, Serving.{IsAsBegun, IsBlank, IsRefused, IsServing}}
pub use transcript_laws.{Serving.{marked_by, marked_with}, Standing.{AreAlike, AreKept, IsAlone, IsBegun, IsFrom}}
pub use transcript_laws.Standing.{Stage, Standing, StandsApart, StandsBy, StandsLinked, again, anew, apart, first, kept}
pub use transcript_laws.{Standing.{linked, no_process, of_abort, of_none, of_process, sent_order}, Told.{IsAccountOf}}
pub use transcript_laws.Told.{IsKeptOf, IsMarked, account_base, first_byte, has_answer, has_refusal, is_answer}
pub use transcript_laws.Told.{is_listed, is_refusal, shown_items}
