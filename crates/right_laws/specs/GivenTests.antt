-- What is asked of a row of what processes give, and of their data pointers, as tests on what is kept before it and
-- after it.
use Rattle.std.specs.Prelude.{ℕ, ◌+◌, Bool, true, false, not, ◌&&◌, ◌||◌, ◌==◌, nat_le, nat_lt, List, [], ◌∷◌, length}
use Rattle.std.specs.Prelude.{Option, Some, None, is_some}
use Rattle.std.specs.List.{list_all}
use Rattle.due_model.specs.bus_base.specs.declared.Event.{Event}
use Rattle.due_model.specs.bus_trace.specs.Phases.{changes_phase, is_command}
use Rattle.due_model.specs.bus_trace.specs.declared.Row.{Row}
use Rattle.due_model.specs.bus_trace.specs.declared.connection.Connection.{Connection}
use Rattle.due_model.specs.scenario.specs.Value.{ScenarioValue}
use Rattle.due_model.specs.scenario.specs.declared.value.CmdDef.{CmdDef}
use Rattle.due_model.specs.array_model.specs.ArrayHistory.{reply_in}
use Rattle.due_model.specs.array_model.specs.Execution.{Reply}
use Rattle.due_model.specs.array_model.specs.Processes.{Process, process_of}
use Rattle.due_model.specs.array_model.specs.Units.{RunningProcess, UnitState}
use Rattle.due_model.specs.story_model.specs.BusState.{row_reading}
use Rattle.due_model.specs.story_model.specs.HistoryEvents.{row_events_by}
use Rattle.due_model.specs.story_model.specs.Items.{Item, process, abort}
use Rattle.due_model.specs.story_model.specs.Links.{Link}
use Rattle.due_model.specs.story_model.specs.Right.{has_run, same_bytes}
use Rattle.due_model.specs.dialogue_model.specs.declared.exchange.Task.{Task}
use Rattle.due_model.specs.dialogue_model.specs.Arrivals.{policy_of}
use Rattle.due_model.specs.dialogue_model.specs.DataRuns.{run_at, run_length}
use Rattle.due_model.specs.dialogue_model.specs.NextPhase.{phase_of}
use Rattle.due_model.specs.Defs.{target_def_of}
use Rattle.due_model.specs.RunState.{RunState, array_of, bus_of, carried_here, process_served}
use Rattle.due_model.specs.RunSteps.{run_state_after}
use Rattle.due_model.specs.Tasks.{is_writing, reply_now, task_of}
use Rattle.trace_laws.specs.scsi_device.specs.Writes.{is_data_in}

-- As a byte of DATA IN crosses for a process that does not write.
abbrev is_at_run : ScenarioValue → RunState → Connection → Process → Option Task → Bool
is_at_run s k n c None = false
is_at_run s k n c (Some t) = (carried_here k c.id).moved.active
    == (run_at (policy_of (target_def_of s n.target)) t t.runs).start + k.handshakes.requests
    && nat_lt k.handshakes.requests (run_length (policy_of (target_def_of s n.target)) t)

abbrev is_read_at : ScenarioValue → RunState → Option Connection → Option Process → Bool
is_read_at s k None c = true
is_read_at s k (Some n) None = true
is_read_at s k (Some n) (Some c) = is_writing c || is_at_run s k n c (task_of s k)

abbrev are_pointed : ScenarioValue → RunState → Row → Bool
are_pointed s k row = not (row_reading k.story.bus_state row).crosses || not (is_data_in (phase_of (bus_of k)))
    || is_read_at s k k.story.bus_state.connection (process_served s k)

-- As COMMAND is left.
abbrev is_unmoved_item : RunState → Option Item → Bool
is_unmoved_item k None = true
is_unmoved_item k (Some (process id)) = length (carried_here k id).moved.bytes == 0
is_unmoved_item k (Some (abort n)) = true

abbrev is_unmoved_link : RunState → Option Link → Bool
is_unmoved_link k None = true
is_unmoved_link k (Some l) = is_unmoved_item k l.item

abbrev are_new : RunState → Row → Bool
are_new k row = not (changes_phase (row_reading k.story.bus_state row).change)
    || not (is_command (row_reading k.story.bus_state row).change.before) || is_unmoved_link k k.story.link

-- As one runs.
abbrev is_past : ScenarioValue → RunState → RunState → Process → Option Reply → Bool
is_past s k j c None = true
is_past s k j c (Some reply) = is_writing c || nat_le (length reply.bytes) (carried_here k c.id).moved.active

abbrev is_past_if : ScenarioValue → RunState → RunState → List Event → Option Process → Bool
is_past_if s k j shown None = true
is_past_if s k j shown (Some c) = not (has_run shown c.id) || is_past s k j c (reply_in (array_of s j).replies c.id)

abbrev are_past : ScenarioValue → RunState → RunState → List Event → ℕ → List CmdDef → Bool
are_past s k j shown m [] = true
are_past s k j shown m (c ∷ commands) = is_past_if s k j shown (process_of s (record { command = m; sense = false }))
    && is_past_if s k j shown (process_of s (record { command = m; sense = true }))
    && are_past s k j shown (m + 1) commands

-- The status and the bytes of the reply of one that has carried some of its data.
abbrev is_same_reply : Reply → Reply → Bool
is_same_reply a b = a.status == b.status && same_bytes a.bytes b.bytes

abbrev has_reply_still : ScenarioValue → RunState → RunState → Process → Bool
has_reply_still s k j c = length (carried_here j c.id).moved.bytes == 0
    || is_same_reply (reply_now (array_of s j) c) (reply_now (array_of s k) c)

abbrev has_reply_still_if : ScenarioValue → RunState → RunState → Option RunningProcess → Bool
has_reply_still_if s k j None = true
has_reply_still_if s k j (Some r) = is_some r.reply || has_reply_still s k j r.process

abbrev have_replies_still : ScenarioValue → RunState → RunState → List UnitState → Bool
have_replies_still s k j [] = true
have_replies_still s k j (u ∷ units) = list_all (λ (c : Process). has_reply_still s k j c) u.waiting
    && has_reply_still_if s k j u.current && have_replies_still s k j units

abbrev pub is_given_by : ScenarioValue → RunState → RunState → Row → Bool
is_given_by s k j row = are_pointed s k row && are_new k row
    && are_past s k j (row_events_by s k.story (row_reading k.story.bus_state row) row) 1 s.commands
    && have_replies_still s k j (array_of s j).units
    && list_all (λ (r : RunningProcess). is_some r.reply || has_reply_still s k j r.process) (array_of s j).guests

-- Of each row of a run, the oldest first.
abbrev pub give_well : ScenarioValue → RunState → List Row → Bool
give_well s k [] = true
give_well s k (row ∷ rows) = is_given_by s k (run_state_after s k row) row && give_well s (run_state_after s k row) rows
