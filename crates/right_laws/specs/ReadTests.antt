-- The same of the bytes, and of the pointers in DATA IN and outside a connection, as tests on what is kept.
use Rattle.std.specs.Prelude.{ℕ, ◌+◌, Bool, true, false, not, ◌&&◌, ◌||◌, ◌==◌, List, [], ◌∷◌, length, Option, Some}
use Rattle.std.specs.Prelude.{None, is_some, nat_le}
use Rattle.std.specs.List.{list_all}
use Rattle.due_model.specs.bus_trace.specs.declared.Row.{Row}
use Rattle.due_model.specs.bus_trace.specs.declared.connection.Connection.{Connection}
use Rattle.due_model.specs.cdb_codec.specs.declared.status.TheConstants.{GOOD}
use Rattle.due_model.specs.scenario.specs.Value.{ScenarioValue}
use Rattle.due_model.specs.scenario.specs.declared.value.CmdDef.{CmdDef}
use Rattle.due_model.specs.array_model.specs.Processes.{Process, process_of}
use Rattle.due_model.specs.array_model.specs.Units.{RunningProcess, UnitState}
use Rattle.due_model.specs.story_model.specs.Items.{process, has_item}
use Rattle.due_model.specs.dialogue_model.specs.NextPhase.{phase_of}
use Rattle.due_model.specs.RunState.{RunState, array_of, bus_of, carried_here, process_served}
use Rattle.due_model.specs.RunSteps.{run_state_after}
use Rattle.due_model.specs.Tasks.{is_writing, reply_now}
use Rattle.trace_laws.specs.book_laws.specs.Accounts.{is_served_by}
use Rattle.trace_laws.specs.book_laws.specs.Tests.{is_front}
use Rattle.trace_laws.specs.row_laws.specs.DataPointers.{is_marked, run_start}
use Rattle.right_laws.specs.Reads.{content_now}
use Rattle.trace_laws.specs.scsi_device.specs.Writes.{is_data_in}

abbrev is_given : ScenarioValue → RunState → Process → Bool
is_given s k c = is_front (carried_here k c.id).moved.bytes (content_now (array_of s k) c)
    && nat_le (carried_here k c.id).moved.active (length (carried_here k c.id).moved.bytes)
    && nat_le (carried_here k c.id).moved.saved (length (carried_here k c.id).moved.bytes)
    && (length (carried_here k c.id).moved.bytes == 0 || not (is_writing c)
    || (reply_now (array_of s k) c).status == GOOD)

abbrev is_given_if : ScenarioValue → RunState → Option RunningProcess → Bool
is_given_if s k None = true
is_given_if s k (Some r) = is_some r.reply || is_given s k r.process

abbrev are_units_given : ScenarioValue → RunState → List UnitState → Bool
are_units_given s k [] = true
are_units_given s k (u ∷ units) = list_all (λ (c : Process). length (carried_here k c.id).moved.bytes == 0) u.waiting
    && is_given_if s k u.current && are_units_given s k units

abbrev is_in_run : ScenarioValue → RunState → Option Process → Bool
is_in_run s k None = true
is_in_run s k (Some q) = is_writing q || ((carried_here k q.id).moved.active == run_start s k q + k.handshakes.requests
    && (carried_here k q.id).moved.saved == run_start s k q)

abbrev are_served_well : ScenarioValue → RunState → Option Connection → Bool
are_served_well s k None = true
are_served_well s k (Some n) = (bus_of k).rst || not k.exchange.begun || not (is_data_in (phase_of (bus_of k)))
    || is_in_run s k (process_served s k)

-- Of each process that does not write, is not served and not over, and has shown no reply.
abbrev is_waiting_if : ScenarioValue → RunState → Option Process → Bool
is_waiting_if s k None = true
is_waiting_if s k (Some q) = is_writing q || is_served_by k.served q.id || has_item k.story.sent.over (process q.id)
    || is_marked (carried_here k q.id) || (carried_here k q.id).moved.saved == run_start s k q

abbrev are_waiting : ScenarioValue → RunState → ℕ → List CmdDef → Bool
are_waiting s k m [] = true
are_waiting s k m (c ∷ commands) = is_waiting_if s k (process_of s (record { command = m; sense = false }))
    && is_waiting_if s k (process_of s (record { command = m; sense = true })) && are_waiting s k (m + 1) commands

abbrev pub is_read_well : ScenarioValue → RunState → Bool
is_read_well s k = are_units_given s k (array_of s k).units
    && list_all (λ (r : RunningProcess). is_some r.reply || is_given s k r.process) (array_of s k).guests
    && are_served_well s k k.story.bus_state.connection && are_waiting s k 1 s.commands

-- After each row of a run, the oldest first.
abbrev pub keep_reads : ScenarioValue → RunState → List Row → Bool
keep_reads s k [] = is_read_well s k
keep_reads s k (row ∷ rows) = is_read_well s k && keep_reads s (run_state_after s k row) rows
