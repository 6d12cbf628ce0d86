-- The data of writes come whole to each unit: from the first byte on, those of one process after those of another.
use Rattle.std.specs.Prelude.{ℕ, Bool, true, false, not, ◌&&◌, ◌||◌, ◌==◌, List, [], ◌∷◌, length, Option, Some, None}
use Rattle.std.specs.Prelude.{nat_le, if◌then◌else◌}
use Rattle.bus_base.specs.declared.ProcId.{ProcId}
use Rattle.bus_trace.specs.declared.Row.{Row}
use Rattle.bus_trace.specs.declared.connection.Connection.{Connection}
use Rattle.bus_trace.specs.Phases.{changes_phase}
use Rattle.scenario.specs.Lookups.{unit_of}
use Rattle.scenario.specs.Value.{ScenarioValue}
use Rattle.scenario.specs.declared.value.UnitDef.{UnitDef}
use Rattle.due_model.specs.array_model.specs.Processes.{Process, same_id}
use Rattle.due_model.specs.array_model.specs.Order.{range_named}
use Rattle.due_model.specs.array_model.specs.Units.{unit_state_at}
use Rattle.due_model.specs.story_model.specs.BusState.{RowReading, row_reading}
use Rattle.due_model.specs.dialogue_model.specs.Arrivals.{policy_of}
use Rattle.due_model.specs.dialogue_model.specs.DataRuns.{run_length, run_in}
use Rattle.due_model.specs.dialogue_model.specs.NextPhase.{phase_of}
use Rattle.due_model.specs.dialogue_model.specs.declared.exchange.Hearing.{Hearing}
use Rattle.due_model.specs.dialogue_model.specs.declared.exchange.Leaving.{Leaving}
use Rattle.due_model.specs.dialogue_model.specs.declared.exchange.Phase.{Phase}
use Rattle.due_model.specs.dialogue_model.specs.declared.exchange.Phase.TheVariants as phases
use Rattle.due_model.specs.dialogue_model.specs.declared.exchange.Task.{Task}
use Rattle.due_model.specs.Defs.{target_def_of}
use Rattle.due_model.specs.LastingState.{progress_in}
use Rattle.due_model.specs.RunState.{RunState, array_of, bus_of, process_served}
use Rattle.due_model.specs.RunSteps.{run_state, leaving_of}
use Rattle.due_model.specs.Sights.{hearing_of}
use Rattle.due_model.specs.Tasks.{size_of, task_of, blocks_in}

-- ---- which process last sent a unit a byte of its data (6.1.5.1)

pub record Writer : Type 0 where
  pub target : ℕ
  pub unit : ℕ
  pub id : ProcId

abbrev pub writer_of : List Writer → ℕ → ℕ → Option ProcId
writer_of [] target unit = None
writer_of (w ∷ all) target unit = if w.target == target && w.unit == unit then Some w.id else writer_of all target unit

abbrev pub is_data_out : Phase → Bool
is_data_out phases.DataOut = true
is_data_out phases.DataIn = false
is_data_out phases.Command = false
is_data_out phases.Status = false
is_data_out phases.MessageOut = false
is_data_out phases.MessageIn = false

abbrev pub is_data_in : Phase → Bool
is_data_in phases.DataIn = true
is_data_in _ = false

-- A byte of DATA OUT crosses, and RST is false after it.
abbrev pub brings_byte : Hearing → Bool
brings_byte w = w.crosses && is_data_out (phase_of w.change.before) && not w.change.after.rst

abbrev pub writers_with : List Writer → Option Process → List Writer
writers_with all None = all
writers_with all (Some p) = record { target = p.target; unit = p.unit; id = p.id } ∷ all

abbrev pub writers_after : ScenarioValue → RunState → Hearing → List Writer → List Writer
writers_after s k w all = if brings_byte w then writers_with all (process_served s k) else all

abbrev pub writers : ScenarioValue → List Row → List Writer
writers s [] = []
writers s (row ∷ rows) = writers_after s (run_state s rows)
    (hearing_of (run_state s rows) row (row_reading (run_state s rows).story.bus_state row)) (writers s rows)

-- ---- a row

-- Blocks have the size that the scenario says.
abbrev pub block_size : Option UnitDef → ℕ
block_size None = 0
block_size (Some u) = u.size

-- Where the n-th run of a process begins, by the size of a block that the scenario says.
abbrev pub start_of_run : ScenarioValue → Process → ℕ → ℕ
start_of_run s p n = (run_in (policy_of (target_def_of s p.target)) (blocks_in (range_named p))
    (block_size (unit_of s p.target p.unit)) 0 n).start

abbrev pub is_of_size : ScenarioValue → RunState → Process → Bool
is_of_size s k p =
    size_of (unit_state_at (array_of s k).units p.target p.unit) == block_size (unit_of s p.target p.unit)

abbrev pub is_writer : Option ProcId → ProcId → Bool
is_writer None id = false
is_writer (Some w) id = same_id w id

-- A byte comes in a phase that has begun, of the process that sent the last one to the unit, or as the first one of a
-- process.
abbrev pub is_next_byte : ScenarioValue → RunState → List Writer → Process → Bool
is_next_byte s k all p = is_writer (writer_of all p.target p.unit) p.id
    || (progress_in k.progress p.id).runs == 0 && k.handshakes.answers == 0

abbrev pub is_written_byte : ScenarioValue → RunState → List Writer → Option Process → Bool
is_written_byte s k all None = false
is_written_byte s k all (Some p) = k.exchange.begun && not (bus_of k).rst && is_of_size s k p && is_next_byte s k all p

-- A data run is done: of DATA OUT all bytes have come, where the command moves all that its process sends; and no other
-- run is one of the process that sent the last byte to the unit.
abbrev pub is_whole_run : ScenarioValue → RunState → Process → Option Task → Bool
is_whole_run s k p None = false
is_whole_run s k p (Some t) = not (bus_of k).rst && is_of_size s k p && t.moved == length p.sent
    && nat_le (run_length (policy_of (target_def_of s p.target)) t) k.handshakes.answers

abbrev pub is_written_run : ScenarioValue → RunState → List Writer → Option Process → Phase → Bool
is_written_run s k all None phase = true
is_written_run s k all (Some p) phase =
    if is_data_out phase then is_whole_run s k p (task_of s k) else not (is_writer (writer_of all p.target p.unit) p.id)

abbrev pub ends_run : RunState → Hearing → Leaving → Bool
ends_run k w l = changes_phase w.change && k.exchange.begun && l.done

abbrev pub is_written_in : ScenarioValue → RunState → Hearing → Leaving → List Writer → Bool
is_written_in s k w l all =
    (not (brings_byte w) || is_written_byte s k all (process_served s k))
    && (not (ends_run k w l) || is_written_run s k all (process_served s k) (phase_of (bus_of k)))

-- A connection does not begin in DATA OUT, and does not outlast RST (6.1.4, 6.2.2).
abbrev pub is_written_on : ScenarioValue → RunState → Hearing → Leaving → List Writer → Option Connection
    → Option Connection → Bool
is_written_on s k w l all None None = true
is_written_on s k w l all None (Some n) = not (n.reselected && is_data_out (phase_of w.change.after))
is_written_on s k w l all (Some m) None = is_written_in s k w l all
is_written_on s k w l all (Some m) (Some n) =
    (not w.change.before.rst || w.change.after.rst) && is_written_in s k w l all

abbrev pub is_written : ScenarioValue → RunState → Row → RowReading → List Writer → Bool
is_written s k row d all = is_written_on s k (hearing_of k row d)
    (leaving_of s k k.story.bus_state.connection) all k.story.bus_state.connection d.next

-- Of all rows.
abbrev pub written : ScenarioValue → List Row → Bool
written s [] = true
written s (row ∷ rows) = written s rows
    && is_written s (run_state s rows) row (row_reading (run_state s rows).story.bus_state row) (writers s rows)
