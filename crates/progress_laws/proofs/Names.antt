-- The names of other crates, and of this crate's definitions, that its proofs speak of, each by its home. A proof takes
-- them by `use proofs.Names.{..}`; tools/checks/imports.py brings in those that a proof imports by their home.
use Rattle.std.proofs as std_proofs
pub use std_proofs.Common.{Bool, List, None, Ok, Option, Some, [], ap, arith, false, inl, inr, length, not, one-add}
pub use std_proofs.Common.{refl, subst, suc, sym, true, zero, ℕ, ◌%◌, ◌&&◌, ◌++◌, ◌+◌, ◌<◌, ◌^◌, ◌||◌, ◌∙◌, ◌∷◌, ◌≡◌}
pub use std_proofs.{Common.{◌≢◌, ◌≤◌, ◌⊎◌}, Math.Nat.{mod-le}, lemmas.Bool.{and_from, and_right, cases_Bool, cases_eq}}
pub use std_proofs.lemmas.Bool.{eqb-true, le-leb, not-true, or_cases, or_from, or_left, or_parts, or_right, true≢false}
pub use std_proofs.lemmas.{Bool.Decides.{nat_tests}, Nat.{pow_below, pow_pos}, Option.{none-some, same_Some}}
use Rattle.std.specs as std
pub use std.{List.{AllByRecursion, find, list_all, list_any}, Prelude.{cond, if◌then◌else◌, is_none, is_some, map, max}}
pub use std.Prelude.{nat_le, nat_lt, slice_index, slice_set, ⊤, ◌==◌}
use Rattle.due_model.specs.bus_base.proofs as bus_base_proofs
pub use bus_base_proofs.Tests.{and_false, and_first, and_more, and_second, and_true, either_stays, eq_self, implied}
pub use bus_base_proofs.Tests.{none_number, not_later, or_other, or_second, or_true, plus_none, true_by_test, wrong}
pub use bus_base_proofs.Tests.{wrong', zero_of}
use Rattle.due_model.specs.bus_base.specs as bus_base
pub use bus_base.declared.{AbortKind.{AbortKind}, Event.{Event}, ProcId.{ProcId}, events.Pick.{Pick}}
use Rattle.due_model.specs.bus_trace.proofs as bus_trace_proofs
pub use bus_trace_proofs.{Buses.{bus_data_below, bus_none, bus_off, bus_on}, OneRow.{drives-other, drives-own}}
pub use bus_trace_proofs.Sets.{same_set-eq}
use Rattle.due_model.specs.bus_trace.specs as bus_trace
pub use bus_trace.{Changes.{change_of, falls, implies, is_within, rises}, LineSet.{LineSet, has_id_above, none, union}}
pub use bus_trace.{Phases.{changes_phase, is_message_in}, Terms.{arbitration, arbitration_after, call, call_goes_on}}
pub use bus_trace.Terms.{called_goes_on, caller_goes_on, calling_after, connection, connection_after, free_since}
pub use bus_trace.{Terms.{is_free, receiver_in}, Trace.{bus, driven_after, drives, last_time}, declared.Kind.{Kind}}
pub use bus_trace.declared.{Kind.TheVariants.{Drives, Fault}, Row.{Row}, arbitration.Arbitration.{Arbitration}}
pub use bus_trace.declared.{changes.Change.{Change}, connection.Connection.{Connection}}
pub use bus_trace.declared.delays.TheConstants.{ARBITRATION_DELAY, BUS_CLEAR_DELAY, ENTRY_DELAY}
pub use bus_trace.declared.selection.{Call.{Call}, Calling.{Calling}}
use Rattle.due_model.specs.bus_lines.specs as bus_lines
pub use bus_lines.{Handshakes.{handshakes}, Stage.{stage}, declared.stage.Stage.TheVariants.{InArbitration, InCalling}}
pub use bus_lines.declared.stage.Stage.TheVariants.{OnFreeBus}
use Rattle.due_model.specs.cdb_codec.specs as cdb_codec
pub use cdb_codec.{Cdb.{command_of}, declared.sense.TheConstants.{ABORTED_COMMAND}}
pub use cdb_codec.declared.status.TheConstants.{CHECK_CONDITION, GOOD}
use Rattle.due_model.specs.msg_grammar.specs as msg_grammar
pub use msg_grammar.declared.message.{MsgIn.{MsgIn}, MsgOut.{MsgOut}}
use Rattle.due_model.specs.bus_rules.proofs as bus_rules_proofs
pub use bus_rules_proofs.First.{row_none}
use Rattle.due_model.specs.bus_rules.specs as bus_rules
pub use bus_rules.Connected.{initiator_released, initiator_released_of, target_released, target_released_of}
pub use bus_rules.{FreeBus.{is_cleared}, Lawful.{IsLawful}, Order.{is_in_order}, Reset.{is_quiet_in_reset, is_reset}}
pub use bus_rules.{Reset.{only_rst}, Rules.{broken_rule, end_test, judged_rules, keeps_at_end, obeys_at_end}}
pub use bus_rules.{Rules.{stands_in_reset}, Seen.{end_row, seen}, declared.seen.Seen.{Seen}}
unfoldable pub use bus_rules.Seen.{seen_with}
use Rattle.due_model.specs.scenario.proofs as scenario_proofs
pub use scenario_proofs.Steps.{bind_ok, guard_ok, ok_is, within_ok}
use Rattle.due_model.specs.scenario.specs as scenario
pub use scenario.Forms.{Said, abort_line, cmd_line, end_line, fault_line, fill_line, initiator_line, load_line}
pub use scenario.{Forms.{reset_line, scsi_line, tape_line, target_line, unit_line}, Lookups.{has_device, has_target}}
pub use scenario.{Lookups.{tape_unit, unit_of, units_of}, Reading.{Progress, abort_def, fault_def, fill_def}}
pub use scenario.Reading.{fits_version, full_cmd_def, guard, in_8, in_order, kind_of, load_def, nothing, period_in}
pub use scenario.{Reading.{rank, reset_def, size_in, tape_def, target_def, within}, Value.{ScenarioValue}}
pub use scenario.{Writing.{Obeys, built, saids}, declared.bounds.TheConstants.{BLOCK_LIMIT, DEPTH_LIMIT}}
pub use scenario.declared.bounds.TheConstants.{HOST_OFFSET_LIMIT, LAG_LIMIT, LATENCY_LIMIT, OPEN_LIMIT, RETRY_LIMIT}
pub use scenario.declared.value.{AbortDef.{AbortDef}, CmdDef.{CmdDef}, HostDef.{HostDef}, TapeDef.{TapeDef}}
pub use scenario.declared.value.{TargetDef.{TargetDef}, UnitDef.{UnitDef}}
unfoldable pub use scenario.{Needs.{need_of, sent_of}, Reading.{added, host_def, said_after, unit_def}}
use Rattle.due_model.specs.array_model.proofs as array_model_proofs
pub use array_model_proofs.ArrayReplies.{abort_lists, end_lists, fail_lists, loss_lists, reset_lists, took}
pub use array_model_proofs.{ArrayUnits.{cleared_units, unit_reset_units}, ExecutionFacts.{sense_fetched}}
pub use array_model_proofs.SeatLookups.{nexus_put_at, nexuses_without_at, none_at, same_nexus_is}
pub use array_model_proofs.{SeatSteps.{any_none, choice_target}, SoundArrays.{step_sound}}
use Rattle.due_model.specs.array_model.specs as array_model
pub use array_model.{ArrayHistory.{array_after, array_step, reply_in}, Execution.{CommandContext, Execution, Reply}}
pub use array_model.{Execution.{check_condition, execution, is_request_sense, queue_full, sense_of}, Order.{choice}}
pub use array_model.Order.{chosen_place, entries_of, entry_of, is_head, last_head, last_of, may_run_after, picked_place}
pub use array_model.{Order.{process_at, process_at_if, runnable_after, runnable_by}, Processes.{Process, command_at}}
pub use array_model.Processes.{command_process, process_by, process_if, process_of, same_bool, same_id, sense_block}
pub use array_model.{Processes.{sense_process}, Seats.{current_of, in_hold, is_initiator, nexus_at, unit_mapped}}
pub use array_model.{Seats.{unit_with_choice, waits_in}, SoundArray.{AllOwn, AllOwnUnits, AreApart, HasSeats, IsOwn}}
pub use array_model.{SoundArray.{IsOwnRunning, IsOwnUnit, IsSound}, Steps.{has_ended, has_tag, is_of_unit, running_if}}
pub use array_model.Units.{Array, Nexus, RunningProcess, UnitState, guest_at, has_no_current, is_at_unit, is_held}
pub use array_model.Units.{nexus_of, nexuses_without, same_nexus, senses_without, starting_array, starting_units}
pub use array_model.{Units.{unit_state_at, units_after_choice, with_current, with_unit}, declared.entries.Entry.{Entry}}
unfoldable pub use array_model.Seats.{is_any_held}
use Rattle.due_model.specs.story_model.proofs as story_model_proofs
pub use story_model_proofs.StorySteps.{begun_aims, calling_aims, ends_checks, event_sent, events_aims, restored_sent}
use Rattle.due_model.specs.story_model.specs as story_model
pub use story_model.{BusState.{RowReading, row_reading}, CarriedBytes.{CarriedBytes, is_status_phase, is_whole_block}}
pub use story_model.HistoryEvents.{abort_line_at, abort_line_events, bus_free_events, carried_if, end_events}
pub use story_model.HistoryEvents.{is_complete, is_completion, is_refuse, item_abort_events, item_loss_events}
pub use story_model.HistoryEvents.{link_events, phase_events, queue_event, queue_events, row_events_by, status_event}
pub use story_model.{HistoryEvents.{status_events}, Items.{Item, Sent, abort, command_id, command_item, count_item}}
pub use story_model.Items.{has_item, is_done, is_of_host, is_open, item_at, open_limit_of, process, same_item}
pub use story_model.{Items.{sense_from, sense_id, sense_item}, Links.{LastMessage, Link, abortive, complete}}
pub use story_model.{Links.{disconnect, link_after_name, link_of, plain}, Outcomes.{Outcome, ending_of, outcome_if}}
pub use story_model.{Outcomes.{outcome_of, outcomes, outcomes_from}, Samples.{host_latency, latency_of, target_latency}}
pub use story_model.Story.{Ending, Story, by_abort, by_loss, by_reset, by_status, is_aborted, is_ended}
pub use story_model.Story.{is_sense_stopped, story_after_event, story_after_events, story_with_end, story_with_end_if}
pub use story_model.Story.{story_with_ends, story_with_over, unanswered, with_check, with_ending}
pub use story_model.TraceHistory.{aim_of, carried_after_byte_if, carried_after_fault_if, is_arbitration_entry}
pub use story_model.TraceHistory.{is_counted, is_parity_error, retries_of, story, story_after_byte, story_after_calling}
pub use story_model.TraceHistory.{story_after_calling_by, story_after_connection, story_after_fault, story_after_in}
pub use story_model.TraceHistory.{story_after_out, story_by_change, story_in_connection, story_on_bus}
pub use story_model.TraceHistory.{story_on_free_bus, story_with_aim, story_with_carried, story_with_restored}
pub use story_model.TraceHistory.{story_with_sent, story_with_try, story_without_answer}
use Rattle.tag_queue.proofs as tag_queue_proofs
pub use tag_queue_proofs.Chosen.{first_runs}
use Rattle.due_model.specs.reaction_model.specs as reaction_model
pub use reaction_model.{Calling.{answered_due, calling_start}, Ends.{sample_due}, FreeBus.{contender_lines, free_due}}
pub use reaction_model.{Reactions.{due_at, due_where, sooner_time, time_if}, declared.due.{Due.{Due}, Myself.{Myself}}}
pub use reaction_model.declared.due.Want.{Want}
use Rattle.due_model.specs.dialogue_model.specs as dialogue_model
pub use dialogue_model.{Exchange.{one_message}, Hearing.{begun}, NextPhase.{phase_of, recovery_limit}, Wants.{Ready}}
pub use dialogue_model.Wants.{abort_since, command_since, first_ready, is_reached, is_ready_before, may_follow, open_in}
pub use dialogue_model.{Wants.{ready_by, ready_in}, declared.exchange.{Cause.{Cause}, Phase.{Phase}, Task.{Task}}}
use Rattle.due_model.proofs as due_model_proofs
pub use due_model_proofs.{Leasts.{least_none}, Plains.{run_state_plain}}
use Rattle.due_model.specs as due_model
pub use due_model.{Defs.{host_of, target_def_of}, Least.{IsLeast}, Next.{IsEnded, IsPrompt, due}, Plain.{AreOfDevices}}
pub use due_model.{Plain.{IsPlain}, RunState.{RunState, array_of, bus_of, carried_here, item_of, or_start}}
pub use due_model.{RunState.{process_item, process_served}, RunSteps.{array_after_events, item_if, run_state}}
pub use due_model.{RunSteps.{run_state_after, served_after}, Sights.{leaving}, Tasks.{task_if, task_of}}
pub use due_model.{Telling.{is_true_telling, same_event, telling}, Wants.{abort_target, initiator_if, item_want_time}}
pub use due_model.Wants.{own_aborts, own_command, own_commands, ready_among, ready_at, ready_of, ready_time, seek_of}
pub use due_model.Wants.{since_of, target_if, target_of, want_time}
use Rattle.trace_laws.specs.scsi_device.proofs as scsi_device_proofs
pub use scsi_device_proofs.{Finds.{all_are, all_more}, FitLines.{abort_fits, command_fits, each_unit, obeys_fits}}
pub use scsi_device_proofs.{FitLines.{seats_are, units_are}, LineReads.{host_by, tape_read, unit_by}}
use Rattle.trace_laws.specs.scsi_device.specs as scsi_device
pub use scsi_device.Lines.{FitsBus, IsCommandLine}
use Rattle.trace_laws.specs.target_units.proofs as target_units_proofs
pub use target_units_proofs.UnitTimes.{place_found}
use Rattle.trace_laws.specs.book_laws.proofs as book_laws_proofs
pub use book_laws_proofs.{Common.{InConnection.{reading_is}, Lookups.{id_is, self_id}}, Failures.GiveUps.{failure_is}}
pub use book_laws_proofs.{Failures.GiveUps.{loss_by, lost_calm}, Items.Facts.{aims_are, connected_aims}}
pub use book_laws_proofs.{Items.Ready.{reselects_by}, Replies.Senses.{running_own, self_nexus}}
use Rattle.trace_laws.specs.book_laws.specs as book_laws
pub use book_laws.{Accounts.{is_served_by}, FullQueues.{has_event}, Hearing.{is_in_phase}, Items.{IsItem, is_process}}
pub use book_laws.{Knowing.{Knows}, Traces.{Begins, Ends, IsReadyFor, RowOf, begins, ends, goes_on, under_reset}}
pub use book_laws.WrongParity.{gives_up, is_failure, is_left, is_left_as_due, is_left_by, is_loss, is_past_limit}
pub use book_laws.WrongParity.{is_struck_phase, is_wrong_phase, leaves_wrong_phase, left_as_due, serves, wrong_phases}
use Rattle.trace_laws.specs.bus_laws.proofs as bus_laws_proofs
pub use bus_laws_proofs.Lines.{Apart.{GoesApart, KeepsAll, change_plain, entry_keeps, still_keeps}, Rows.{drives_own}}
pub use bus_laws_proofs.{Lines.Rows.{stage_is}, Resets.{Dues.{comes_by, due_calm, due_holding}, Rows.{off_at}}}
pub use bus_laws_proofs.Stages.CallDues.{asks_due, calls_due, gives_up_due, goes_on_due, waits_due, want_at}
pub use bus_laws_proofs.Stages.Dues.{due_in, free_due_is, idle_due, is_at, is_entry, is_entry_in, is_there, win_due}
pub use bus_laws_proofs.Stages.{Facts.{least_is}, Next.{by_calm, not_linked, reset_or_calm}}
use Rattle.trace_laws.specs.bus_laws.specs as bus_laws
pub use bus_laws.{Callings.{answered_calling, calling_lines, resumed_calling, won_call}, Ends.{EndLines, Linked}}
pub use bus_laws.{Reactions.{device_with, own_time, reset_due, unreset_due}, Rows.{row_of_lines}, Stages.{Arbitrating}}
pub use bus_laws.Stages.{ArbitrationWon, BusStage, CalmStanding, FreeBus, HasDevice, IsContender, Standing, UnderRst}
pub use bus_laws.Stages.{after_answer, after_arbitration, after_takeover, after_withdrawal, awaiting_answer}
pub use bus_laws.Stages.{in_arbitration, in_connection, in_reset, is_connected, on_free_bus, with_both_ids}
use Rattle.trace_laws.specs.link_laws.proofs as link_laws_proofs
pub use link_laws_proofs.Dues.{Ends.{initiator_is, initiator_plain, target_is, target_plain}, Stages.{answered_target}}
pub use link_laws_proofs.Dues.Stages.{asking_initiator_in, asking_initiator_out, between_target, ending_initiator_in}
pub use link_laws_proofs.Dues.Stages.{ending_initiator_out, giving_initiator_out, offering_target, selected_target}
pub use link_laws_proofs.{Dues.Stages.{settling_target, turning_target}, Pulses.Dues.{initiator_choice}}
pub use link_laws_proofs.Pulses.Dues.{pulsed_initiator_in, pulsed_initiator_out, pulsed_target_in, pulsed_target_out}
pub use link_laws_proofs.{Pulses.Dues.{target_choice}, Traces.{link_calm, sides_are}}
use Rattle.trace_laws.specs.link_laws.specs as link_laws
pub use link_laws.LinkStages.{AnyStage, LinkStage, apart, linked, when_offering, when_pulsing, when_selected}
pub use link_laws.{LinkStages.{when_settling, when_shaking, when_turning}, Phases.{Shaking}, Pulses.{Pulsing}}
pub use link_laws.Pulses.{offset_here, run_count}
use Rattle.trace_laws.specs.row_laws.proofs as row_laws_proofs
pub use row_laws_proofs.Common.{EachLine.{Any, each_line}, Impossible.{none_some, some_none}, Tests.{plus_one, risen}}
pub use row_laws_proofs.{Ends.Facts.{host_found}, Events.{Others.{executed, reply_at}, Queued.{is_dropped}}}
pub use row_laws_proofs.Events.Queues.{Spares, chosen_all, kept_all, left_all, replied_all, waits_last, with_unit_all}
pub use row_laws_proofs.{Events.Replies.{accepted, running_id, settles}, Lines.Called.{callee_at, own_units}}
pub use row_laws_proofs.Lines.{First.{under_rst}, Joint.{NextStood, Stood, link_connection}, UnderRst.{drives_next}}
pub use row_laws_proofs.Lines.UnderRst.{line_off, quiet_at_end, reset_rule}
use Rattle.trace_laws.specs.row_laws.specs as row_laws
pub use row_laws.{Ends.{AreEnds, HasEnds}, ItemFacts.{AreChecked, IsChecked, IsNext, ItemFacts, Items, is_abort}}
pub use row_laws.{ItemFacts.{is_command, is_sense}, ItemTalks.{TalksBy, awaits, talk_of}, Places.{Closes, HasPlaces}}
pub use row_laws.Places.{IsTaken, PlaceFacts, PlacedBefore, PlacedIf, PlacedIn, completes, disconnects, is_in_queue}
pub use row_laws.{Places.{is_queued}, WriteFacts.{AllUnits}}
use Rattle.trace_laws.specs.story_laws.proofs as story_laws_proofs
pub use story_laws_proofs.Items.{Aims.{set_other}, Facts.{aimed_next, rst_raised}, Fresh.{calm_after, calm_before}}
pub use story_laws_proofs.Items.{Fresh.{items_open}, Open.{item_is, opened, same_process}, Over.{Grows, ends_over}}
pub use story_laws_proofs.Items.Over.{ends_senses, events_checked, events_grow, in_append, later, lost_over, not_grown}
pub use story_laws_proofs.Items.{Over.{sense_apart}, Sent.{AllOf, IsOf, carried_of_item, free_keeps, more_has, own_has}}
pub use story_laws_proofs.{Items.Sent.{row_of, self_item}, Pointers.{Ends.{command_over}, Waits.{change_over}}}
pub use story_laws_proofs.{Pointers.Waits.{connection_sent}, Talks.First.{FirstSent, first_sent, sent_with}}
pub use story_laws_proofs.Talks.InMoves.{alternating}
use Rattle.trace_laws.proofs as trace_laws_proofs
pub use trace_laws_proofs.Places.{EndTells.{end_begun}, Ends.{IsEndAsked, free_shown}, Facts.{end_asked}}
pub use trace_laws_proofs.{Places.Ready.{MayBeReady, ready_runs}, Whole.{RowSteps, Whole, standing_next, steps, whole}}
use Rattle.trace_laws.specs as trace_laws
pub use trace_laws.Statuses.{IsStatusOf}
use Rattle.progress_laws.specs as progress_laws
pub use progress_laws.Debts.{AreFetched, DebtBooks, Debts, IsDebt, NoDebt, PaysWell, is_owed, nexus_of_command}
pub use progress_laws.Queued.{AreOwed, AreQueued, IsOwed}
