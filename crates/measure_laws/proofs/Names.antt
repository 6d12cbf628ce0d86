-- The names of other crates, and of this crate's definitions, that its proofs speak of, each by its home. A proof takes
-- them by `use proofs.Names.{..}`; tools/checks/imports.py brings in those that a proof imports by their home.
use Rattle.std.proofs as std_proofs
pub use std_proofs.Common.{Bool, Err, List, None, Ok, Option, Result, Some, [], ap, arith, false, inl, inr, length}
pub use std_proofs.Common.{length-append, max, refl, subst, suc, sym, true, zero, ℕ, ◌&&◌, ◌<◌, ◌∙◌, ◌∷◌, ◌≡◌, ◌≢◌, ◌≤◌}
pub use std_proofs.{Common.{◌⊎◌}, lemmas.Bool.{and_parts, cases_eq, eqb-true, ltb-true, ne_eqb, or_parts}}
pub use std_proofs.lemmas.{Bool.Decides.{nat_tests}, Grind.{common_steps, elements}, List.Sums.{sum_by-cons}}
pub use std_proofs.lemmas.{Nat.{div_below}, Option.{none-some, same_Some}}
use Rattle.std.specs as std
pub use std.{Int.Bits.{or_zero_r}, List.{AllByRecursion, find, list_any, sum_by}, Prelude.{drop, if◌then◌else◌}}
pub use std.Prelude.{is_none, is_some, min, nat_le, nat_lt, not, slice_index, slice_index_or, slice_set, ⊤, ◌%◌, ◌*◌}
pub use std.Prelude.{◌++◌, ◌+◌, ◌-◌, ◌/◌, ◌==◌, ◌^◌, ◌||◌}
use Rattle.due_model.specs.bus_base.proofs as bus_base_proofs
pub use bus_base_proofs.Tests.{and_false, and_first, and_second, and_true, eq_self, next_some, none_between}
pub use bus_base_proofs.Tests.{none_number, not_first, plus_none, wrong, wrong'}
use Rattle.due_model.specs.bus_base.specs as bus_base
pub use bus_base.{Faults.{counted_on}, declared.{AbortKind.{AbortKind}, Event.{Event}, ProcId.{ProcId}}}
use Rattle.due_model.specs.bus_trace.proofs as bus_trace_proofs
pub use bus_trace_proofs.{Buses.{bus_off, bus_on, bus_one, bus_two}, OneRow.{bus-fault, drives-fault, drives-other}}
pub use bus_trace_proofs.Sets.{same_self, same_set-eq}
use Rattle.due_model.specs.bus_trace.specs as bus_trace
pub use bus_trace.{Changes.{change_of, falls, rises, same_phase}, LineSet.{LineSet, byte_set, none, same, same_set}}
pub use bus_trace.{LineSet.{union}, Phases.{changes_phase, is_data, is_message_in, is_message_out}, Terms.{arbitration}}
pub use bus_trace.Terms.{arbitration_after, call, call_goes_on, connected, connected_by, connected_of, connection}
pub use bus_trace.Terms.{connection_after, connection_of, drives_two_ids, free_since, is_fault, is_free, new_calling}
pub use bus_trace.{Terms.{receiver, receiver_in, when}, Trace.{bus, driven_after, drives, free_time, last_time}}
pub use bus_trace.{Trace.{line_times, since_line}, View.{driven_at}, declared.Kind.{Kind, TheVariants.{Drives, Fault}}}
pub use bus_trace.declared.{Row.{Row}, agreements.Agreement.{Agreement}, arbitration.Arbitration.{Arbitration}}
pub use bus_trace.declared.{changes.Change.{Change}, connection.Connection.{Connection}}
pub use bus_trace.declared.{delays.TheConstants.{BUS_SETTLE_DELAY, QUIET_TIME}, selection.Call.{Call}}
pub use bus_trace.declared.selection.Calling.{Calling}
use Rattle.due_model.specs.bus_lines.proofs as bus_lines_proofs
pub use bus_lines_proofs.Early.{struck_length}
use Rattle.due_model.specs.bus_lines.specs as bus_lines
pub use bus_lines.Handshakes.{Handshakes, answered, answered_if, asked, asked_if, handshakes, handshakes_after}
pub use bus_lines.{Handshakes.{newest_struck_if, no_handshakes, opened}, Stage.{stage, stage_by}}
pub use bus_lines.declared.{handshakes.Request.{Request}, stage.Stage.{Stage, TheVariants.{InAnswer, InArbitration}}}
pub use bus_lines.declared.stage.Stage.TheVariants.{InCalling, InReset, OnFreeBus}
use Rattle.due_model.specs.cdb_codec.specs as cdb_codec
pub use cdb_codec.{Blocks.{blocks_moved}, Cdb.{command_of, has_group_len, is_len}, declared.command.CdbFault.{CdbFault}}
pub use cdb_codec.declared.{command.Command.{Command}, status.TheConstants.{CHECK_CONDITION, GOOD}}
use Rattle.due_model.specs.msg_grammar.specs as msg_grammar
pub use msg_grammar.{Messages.{out_bytes}, declared.message.{MsgIn.{MsgIn}, MsgOut.{MsgOut}}}
use Rattle.due_model.specs.bus_phases.specs as bus_phases
pub use bus_phases.Dialogue.{byte_crosses, byte_else, byte_in, byte_out, dialogue, heard_with_command, phase_begins}
pub use bus_phases.declared.{dialogue.Dialogue.{Dialogue}, spoken.CommandBytes.{CommandBytes}}
use Rattle.due_model.specs.bus_rules.specs as bus_rules
pub use bus_rules.{Order.{is_of_device}, Reset.{only_rst}, Rules.{broken_rule}}
use Rattle.due_model.specs.scenario.proofs as scenario_proofs
pub use scenario_proofs.{Obeying.{all_needs, each_need}, Steps.{bind_ok, guard_ok, ok_is}, TapeNeeds.{need_is}}
pub use scenario_proofs.TapeNeeds.{plain_need}
use Rattle.due_model.specs.scenario.specs as scenario
pub use scenario.Forms.{Said, abort_line, cmd_line, end_line, fault_line, fill_line, initiator_line, load_line}
pub use scenario.{Forms.{reset_line, scsi_line, tape_line, target_line, unit_line}, Lookups.{has_device, has_target}}
pub use scenario.{Lookups.{is_tape, unit_of}, Needs.{block_bytes, is_write, moved, moved_by, need_at}}
pub use scenario.Reading.{Progress, abort_def, fill_def, fits_version, full_cmd_def, guard, has_abort_room, host_def}
pub use scenario.Reading.{in_8, in_order, kind_of, load_def, nothing, rank, tape_def, target_def, time_in, unit_def}
pub use scenario.{Reading.{within}, Value.{ScenarioValue}, Writing.{Obeys, built, saids}}
pub use scenario.declared.value.{AbortDef.{AbortDef}, CmdDef.{CmdDef}, FaultDef.{FaultDef}, HostDef.{HostDef}}
pub use scenario.declared.value.{Policy.{Policy}, ResetDef.{ResetDef}, Tag.{Tag}, TargetDef.{TargetDef}}
pub use scenario.declared.value.UnitDef.{UnitDef}
unfoldable pub use scenario.{Needs.{need_of, sent_of}, Reading.{added, fault_def, reset_def, said_after}}
use Rattle.due_model.specs.array_model.proofs as array_model_proofs
pub use array_model_proofs.{ExecutionFacts.{good_range}, NamedBlocks.{at_disk, none_named, serial_is}}
pub use array_model_proofs.{SeatLookups.{none_at}, SeatReplies.{id_self}}
use Rattle.due_model.specs.array_model.specs as array_model
pub use array_model.{ArrayHistory.{array_after}, Contents.{Contents}, Execution.{execution, is_good_range, range_of}}
pub use array_model.{Order.{range_in, range_named}, Processes.{Process, command_at, command_process, process_by}}
pub use array_model.Processes.{process_if, process_of, same_bool, same_id, sense_block, sense_process}
pub use array_model.{Seats.{is_initiator}, Steps.{context_at, has_ended}, Units.{Array, UnitState, nexus_of}}
pub use array_model.Units.{unit_state_at}
use Rattle.due_model.specs.story_model.proofs as story_model_proofs
pub use story_model_proofs.StorySteps.{ends_checks, event_sent}
use Rattle.due_model.specs.story_model.specs as story_model
pub use story_model.Budget.{budget, bytes_of_all, data_runs, longest_need, runs_at, runs_by, runs_of, runs_of_all}
pub use story_model.{Budget.{runs_over}, BusState.{RowReading, row_reading}, CarriedBytes.{CarriedBytes, carried_of}}
pub use story_model.HistoryEvents.{abort_line_at, abort_line_events, bus_free_events, carried_if, connection_events}
pub use story_model.HistoryEvents.{end_events, is_complete, is_completion, item_abort_events, item_loss_events}
pub use story_model.{HistoryEvents.{link_events, phase_events, row_events_by}, Items.{Item, Sent, abort, command_id}}
pub use story_model.Items.{command_item, count_item, has_item, is_done, is_open, process, same_item, sense_item}
pub use story_model.Links.{LastMessage, Link, abortive, complete, disconnect, link_of, plain}
pub use story_model.{Samples.{faults_in_order, host_latency, latency_of, target_latency, with_fault}, Story.{Ending}}
pub use story_model.Story.{Story, by_abort, by_reset, by_status, is_aborted, is_sense_stopped, story_after_event}
pub use story_model.Story.{story_after_events, story_with_end, story_with_ends, story_with_over, with_check}
pub use story_model.TraceHistory.{aim_of, is_arbitration_entry, is_counted, retries_of, story_after_calling}
pub use story_model.TraceHistory.{story_by_change, story_in_connection, story_on_bus, story_on_free_bus, story_with_aim}
pub use story_model.TraceHistory.{story_with_restored, story_with_sent, story_with_try, story_without_answer}
use Rattle.due_model.specs.reaction_model.specs as reaction_model
pub use reaction_model.{Calling.{answered_due}, Ends.{sample_due}, FreeBus.{contender_lines}, Linking.{bus_clear}}
pub use reaction_model.{Reactions.{due_at, earlier_due, fault_or, sooner_time, time_if}, Target.{bits_if, byte_bits}}
pub use reaction_model.declared.{due.Due.{Due}, ends.{Answering.{Answering}, Offering.{Offering}}}
use Rattle.due_model.specs.dialogue_model.specs as dialogue_model
pub use dialogue_model.{Arrivals.{policy_of}, DataRuns.{DataRun, run_by, run_in, runs_in, runs_in_all}}
pub use dialogue_model.{Ends.{is_pulsed_phase}, Exchange.{Exchange, Speech, attends_with, bytes_of_messages, from_byte}}
pub use dialogue_model.Exchange.{message_bytes, no_messages, nothing_heard, one_message, plan_after_message, plan_anew}
pub use dialogue_model.Exchange.{plan_anew_if, said_with_if, speech_after_byte, speech_after_request, speech_of}
pub use dialogue_model.{Exchange.{struck_plan}, Hearing.{begun, begun_after}, NextPhase.{Serving, after_messages}}
pub use dialogue_model.NextPhase.{bus_free, leaving_by, phase_entry, phase_leaving, phase_lines, phase_of}
pub use dialogue_model.{NextPhase.{unless_attention}, PhaseBytes.{follows_in, has_whole_block, lines_by, one_if}}
pub use dialogue_model.{PhaseBytes.{run_length_if}, Planning.{cause_after, first_plan, plan_after, plan_in_message_out}}
pub use dialogue_model.{Planning.{plan_in_phase, plan_with_byte}, Sending.{Sending}, Speaking.{speech_after}}
pub use dialogue_model.{Speaking.{speech_in_phase, words_after}, Wants.{Ready}, Words.{abort_bytes, abort_opening}}
pub use dialogue_model.Words.{answer_bytes, detected_error, naming_messages, offer_if, parity_error, process_opening}
pub use dialogue_model.{Words.{tag_bytes, tag_named}, declared.exchange.{Cause.{Cause}, Hearing.{Hearing}}}
pub use dialogue_model.declared.exchange.{Leaving.{Leaving}, Messages.{Messages}, Next.{Next}, Phase.{Phase}}
pub use dialogue_model.declared.exchange.{Plan.{Plan}, Task.{Task}}
use Rattle.due_model.proofs as due_model_proofs
pub use due_model_proofs.{Plains.{run_state_plain}, Stills.{keeps_wishes, still_talk}}
use Rattle.due_model.specs as due_model
pub use due_model.{Defs.{host_of, opening, target_def_of}, Due.{is_reset_past, reset_from}, Goals.{RunsEnd}}
pub use due_model.{Goals.{StaysWithin}, LastingState.{ProcessProgress, progress_in, progress_with}, Least.{IsLeast}}
pub use due_model.{Next.{IsEnded, IsPrompt, due, next_by}, Own.{Own, own_after, own_at, own_of}, Plain.{AreOfDevices}}
pub use due_model.{Plain.{IsPlain}, Run.{Run, one_more, run_by_due}, RunState.{RunState, agreement_of, array_of}}
pub use due_model.RunState.{bus_of, carried_here, drives_of, item_of, or_start, process_item, process_served}
pub use due_model.RunSteps.{array_after_events, exchange_after, first_exchange, first_run_state, item_if, leaving_of}
pub use due_model.RunSteps.{may_negotiate, messages_if, progress_after, progress_by_leaving, run_state}
pub use due_model.{RunSteps.{run_state_with_events, served_after}, Sights.{answering_of, flip_of, hearing_of, leaving}}
pub use due_model.{Sights.{offering_of, pace_of, sending_of, serving_at, serving_of}, Tasks.{blocks_in, is_writing}}
pub use due_model.{Tasks.{moved_count, reply_now, size_of, task_if, task_of, task_with}, Wants.{abort_target, callee}}
pub use due_model.{Wants.{initiator_if, ready_of, target_if, target_of, want_time}, Wishes.{IsStill, Wishes, wishes_of}}
unfoldable pub use due_model.Run.{run_from}
use Rattle.progress_laws.specs.scsi_device.proofs as scsi_device_proofs
pub use scsi_device_proofs.{FitLines.{command_fits, obeys_fits}, LineReads.{fault_by, reset_by}}
use Rattle.progress_laws.specs.scsi_device.specs as scsi_device
pub use scsi_device.Lines.{FitsBus, IsCommandLine, IsHostLine}
use Rattle.progress_laws.specs.target_units.proofs as target_units_proofs
pub use target_units_proofs.Rooms.{IsByLine, by_line}
use Rattle.progress_laws.specs.target_units.specs as target_units
pub use target_units.Rooms.{AreOfKinds, AreOfLines, IsOfLine}
use Rattle.progress_laws.specs.book_laws.proofs as book_laws_proofs
pub use book_laws_proofs.{Carried.Blocks.{follows_block}, Common.InConnection.{InConnection, in_connection, reading_is}}
pub use book_laws_proofs.{Common.InConnection.{same_phase_is}, Items.Facts.{aims_are}, Reactions.{out_over}}
use Rattle.progress_laws.specs.book_laws.specs as book_laws
pub use book_laws.{Hearing.{HasPhase, is_in_phase, is_out_phase}, Items.{IsItem, is_process}, Knowing.{Knows}}
pub use book_laws.{Rows.{IsRowIn, RowKind, crosses, reading_in, still, strikes, turns}, Traces.{Begins, Ends, GoesOn}}
pub use book_laws.Traces.{IsAimedAt, RowOf, apart, begins, ends as row_ends, goes_on, under_reset}
pub use book_laws.WrongParity.{complains_truly, is_complaining, is_complaint, is_left, is_refusing, is_struck_phase}
pub use book_laws.WrongParity.{is_true_complaint}
use Rattle.progress_laws.specs.bus_laws.proofs as bus_laws_proofs
pub use bus_laws_proofs.Lines.{Apart.{change_plain, free_by, nothing_shown, on_free}, Held.{entries_is, winner_is}}
pub use bus_laws_proofs.Lines.{Ids.{IsCall, is_call}, Obeys.{reselected_lines, selected, won_lines}}
pub use bus_laws_proofs.Lines.Rows.{drives_other, drives_own, fault_change, stage_is, stands_after, stands_by}
pub use bus_laws_proofs.Resets.Dues.{due_calm, due_holding, due_there, one_of, own_reset_is, released_own, reset_after}
pub use bus_laws_proofs.{Resets.{Dues.{rst_own}, Rows.{off_at}}, Stages.Answer.{from_answered, from_resumed}}
pub use bus_laws_proofs.Stages.{Answer.{from_withdrawn, only_caller_acts}, Arbitration.{from_arbitration}}
pub use bus_laws_proofs.Stages.CallDues.{after_withdrawal_due, answers_due, aside_due, asks_due, before_due, calls_due}
pub use bus_laws_proofs.Stages.CallDues.{flip_at, gives_up_due, goes_on_due, is_calling, loser_due, quiet_due}
pub use bus_laws_proofs.Stages.{CallDues.{struck_due, waits_due, want_at}, Calling.{from_asking, from_calls}}
pub use bus_laws_proofs.Stages.{Calling.{ids_not_zero, only_caller}, Dues.{due_in_reset, free_due_is, idle_due, is_at}}
pub use bus_laws_proofs.Stages.{Dues.{is_entry, is_entry_in, is_there, win_due}, Facts.{least_is}, Free.{from_free}}
pub use bus_laws_proofs.Stages.{Free.{row_is}, Next.{always_is, by_calm, calm_first, reset_or_calm}, Won.{from_won}}
pub use bus_laws_proofs.Times.Limits.{obeys_latencies}
use Rattle.progress_laws.specs.bus_laws.specs as bus_laws
pub use bus_laws.Callings.{answer_lines, answered_calling, arbitration_bus, awaiting_call, begun_call, both_ids}
pub use bus_laws.Callings.{call_with, calling_lines, new_calling_at, resumed_calling, withdrawn_call, won_bus, won_call}
pub use bus_laws.Ends.{BeginsConnection, BeginsSelected, EndLines, Linked, by_reselection, by_selection, connected_bus}
pub use bus_laws.{Ends.{ends_selected, initiator_side, target_side}, Reactions.{device_with, own_time, reset_due}}
pub use bus_laws.{Reactions.{unreset_due}, Rows.{Stands, change_to, row_of_fault, row_of_lines}, Stages.{Arbitrating}}
pub use bus_laws.Stages.{ArbitrationWon, AwaitsAnswer, BusStage, Calls, CalmStanding, FreeBus, HasDevice}
pub use bus_laws.Stages.{HasShortLatencies, HoldsReset, IsAnswered, IsContender, IsLoser, IsUnderRst, NextCalmRow}
pub use bus_laws.Stages.{Standing, UnderRst, after_answer, after_arbitration, after_takeover, after_withdrawal}
pub use bus_laws.Stages.{awaiting_answer, holds, in_arbitration, in_reset, lingers, on_free_bus, quiet, with_both_ids}
use Rattle.progress_laws.specs.link_laws.proofs as link_laws_proofs
pub use link_laws_proofs.Dues.Ends.{answering_with, due_of, initiator_is, initiator_plain, is_sampling, offering_with}
pub use link_laws_proofs.{Dues.Ends.{pace_with, sight_with, target_is, target_plain}, FromLink.{some_byte}}
pub use link_laws_proofs.Lines.{Data.{DataRow, bytes_stay, count_stays, sending_stays}, Obeys.{same_phases}}
pub use link_laws_proofs.Lines.Rows.{InPhaseRow, TermsAfter, initiator_in_phase, initiator_moves, no_rise, phase_same}
pub use link_laws_proofs.Lines.Rows.{target_in_phase, target_moves, terms_after, terms_of}
pub use link_laws_proofs.Phases.{Crossings.{initiator_row, target_row}, Ends.{leaves_lines}, Faults.{linked_fault}}
pub use link_laws_proofs.{Phases.Leavings.{may_leave}, Pulses.Dues.{given_bits}, Runs.Lengths.{runs_are_short}}
pub use link_laws_proofs.Traces.{link_calm, sides_are}
use Rattle.progress_laws.specs.link_laws.specs as link_laws
pub use link_laws.LinkStages.{AnyStage, LinkStage, apart as any_apart, linked, when_offering, when_pulsing}
pub use link_laws.{LinkStages.{when_selected, when_settling, when_shaking, when_turning}, Phases.{Offering as Offered}}
pub use link_laws.{Phases.{Settling, Shaking, Turning, ends}, Pulses.{Pulsing, byte_in_run, next_bits, offset_here}}
pub use link_laws.Pulses.{run_count}
use Rattle.progress_laws.specs.row_laws.proofs as row_laws_proofs
pub use row_laws_proofs.{Bytes.Blocks.{commands_are}, Common.{Impossible.{none_some}, PhaseLines.{in_phase}}}
pub use row_laws_proofs.Common.{PhaseLines.{is_data_phase, is_out_next, out_lines}, Tests.{by_bool, by_option}}
pub use row_laws_proofs.Common.Tests.{falls_true, none_both, not_unless, plus_one, some_count, some_zero, zero_below}
pub use row_laws_proofs.{Common.Tests.{zero_times}, Lines.{Attention.{lines_are}, Called.{IsCalled, IsDueCall}}}
pub use row_laws_proofs.Lines.{Called.{callee_at, link_none}, Connections.{RowKindOf, begins_now, connection_row}}
pub use row_laws_proofs.Lines.{Connections.{goes_now, row_kind, stage_of_connection}, Crossings.{Goes, RowFacts}}
pub use row_laws_proofs.Lines.{Crossings.{byte_is, ends_here, offering_is, stays}, First.{made_is, under_rst}}
pub use row_laws_proofs.Lines.{Joint.{NextStood, Stood, link_connection, link_phase}, Kept.{EndRow, data_row}}
pub use row_laws_proofs.Lines.Kept.{dialogue_stays, initiator_end, row_in, still_row, target_end, turn}
pub use row_laws_proofs.Lines.{Phases.{PhaseRow, phase_row}, Plans.{Planned}, Rows.{LinkRow, is_pulsed, is_unasked}}
pub use row_laws_proofs.Lines.{Rows.{link_row}, Turns.{freed_connection}, UnderRst.{bsy_stands, drives_next}}
pub use row_laws_proofs.Lines.UnderRst.{ends_apart, raises_or_stands}
use Rattle.progress_laws.specs.row_laws.specs as row_laws
pub use row_laws.{ItemFacts.{IsNext, IsQueued, Items, is_abort, is_command, is_sense}, ItemTalks.{TalksBy, frees_bus}}
pub use row_laws.{ItemTalks.{is_plain, talk_of}, Tells.{IsLeaving, IsServed, Tells, TellsAsLeft, of_abort, of_process}}
use Rattle.progress_laws.specs.story_laws.proofs as story_laws_proofs
pub use story_laws_proofs.Commands.{Counts.{refusal_offers_none}, Facts.{same_process, served_process}}
pub use story_laws_proofs.{Complaints.Turns.{IsAttended, attended_for}, Items.Facts.{FallsQuiet, aimed_next, beginning}}
pub use story_laws_proofs.Items.{Facts.{falls_quiet}, First.{next_unended, next_unsent}, Fresh.{calm_after}}
pub use story_laws_proofs.Items.{Fresh.{calm_before, items_open, items_ready}, Open.{item_is}, Over.{events_grow}}
pub use story_laws_proofs.Items.{Over.{in_append, lost_over, sense_apart}, Row.{over_after}, Sent.{AllOf}}
pub use story_laws_proofs.Items.Sent.{carried_of_item, free_keeps, more_has, own_has, process_in, restored_sent, row_of}
pub use story_laws_proofs.Items.{Sent.{self_item, sent_grows}, Stays.{inside_sent}, Steps.{free_still}}
pub use story_laws_proofs.{Offers.Facts.{refuses_later}, Pointers.{Begins.{first_made}, Leavings.{is_attended}}}
pub use story_laws_proofs.{Pointers.Waits.{connection_sent}, Talks.First.{FirstSent, first_sent, sent_with}}
use Rattle.progress_laws.specs.story_laws.specs as story_laws
pub use story_laws.{Commands.{StandsIn, TakesBlock}, Complaints.{ComplaintsBy, Refuses}, Items.{IsServedOpen}}
pub use story_laws.LastTalks.{EndsWell, LastBy, LastGiven, closed, closes, saves, still_stays, to_close, to_save}
pub use story_laws.RunCounts.{pulses_here}
use Rattle.progress_laws.specs.trace_laws.proofs as trace_laws_proofs
pub use trace_laws_proofs.{Closes.Ends.{EndsHere, ends_low, ends_row, lost_by, lost_in}, Places.EndTells.{EndTold}}
pub use trace_laws_proofs.{Places.{EndTells.{end_told}, Ends.{free_shown}}, Runs.Begins.{enters_run}}
pub use trace_laws_proofs.Runs.{Counts.{handshakes_begin, or_left}, Done.{counted_runs, done_in_data, same_runs}}
pub use trace_laws_proofs.Runs.{Facts.{task_here}, Fits.{FitsRuns, disk_named, fits_runs, kinds_now, lines_now}}
pub use trace_laws_proofs.{Runs.{Fits.{named_by, plain_contents}, Rows.{served_id}, Steps.{pulsed_as}}, Whole.{Whole}}
pub use trace_laws_proofs.Whole.{standing_next, steps, whole}
use Rattle.progress_laws.proofs as progress_laws_proofs
pub use progress_laws_proofs.Debts.{Next.{ends_open, known_served}, Rows.{NoEnds, Shown, completes, no_ends, row_shown}}
pub use progress_laws_proofs.{Outcomes.Seats.{initiator_there}, Owed.Rows.{changed}, Queues.Over.{all_over}}
use Rattle.right_laws.proofs as right_laws_proofs
pub use right_laws_proofs.DataIn.{Entries.{enters_read}, Facts.{ReadBooks, read_books}, Runs.{fits_reads, moved_good}}
pub use right_laws_proofs.{DataIn.Runs.{plain_here, whole_now}, Offers.Steps.{is_data_in}, Ran.Lengths.{given_few}}
pub use right_laws_proofs.{Ran.Lengths.{most_given}, Replies.Blocks.{HasWhole}, Samples.Callings.{struck_out}}
pub use right_laws_proofs.Samples.{Ends.{initiator_lines, target_lines}, Moments.{apart_of}, NoFaults.{of_lines}}
use Rattle.measure_laws.specs as measure_laws
pub use measure_laws.Future.{abort_left, aborts_left, awaits_reset, bytes_after, bytes_over, command_left}
pub use measure_laws.Future.{commands_left, cut_bytes, future_left, is_in_data, one_where, open_left, range_at}
pub use measure_laws.{Future.{range_if, resets_left, sense_left, serves_item, size_if, unsent_left}, Measure.{Falls}}
pub use measure_laws.{Measure.{StartsWithin, connection_if, measure, measure_by}, Turns.{after_next, after_refused}}
pub use measure_laws.Turns.{after_words, bytes_if_begun, connection_left, disconnects, has_first_byte, has_next_byte}
pub use measure_laws.Turns.{is_asked, is_disconnect, is_driven, phase_left, phases_in, phases_left, repeated}
pub use measure_laws.Turns.{requests_by, requests_left, reselection_if, sense_bytes_left, struck_left, under_way}
pub use measure_laws.{Turns.{waiting_left, words_left}, Ways.{again_if, answer_left, calling_left, drivers, stage_left}}
pub use measure_laws.{Ways.{way_left}, Weights.{for_byte, for_calling, for_fault, for_free_bus, for_item, for_phase}}
pub use measure_laws.Weights.{for_reselection, for_reset, for_struck_phase}
