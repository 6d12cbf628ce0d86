-- What the laws of the books and those of connections ask of a row of a connection beside what is due: each part is
-- proved of the rows of prompt traces.
use Rattle.std.specs.Prelude.{◌+◌, ◌≡◌, ◌<◌, true, false, List, ◌∷◌, length, Some, is_some, ◌&&◌}
use Rattle.due_model.specs.bus_trace.specs.declared.Row.{Row}
use Rattle.due_model.specs.bus_trace.specs.declared.connection.Connection.{Connection}
use Rattle.due_model.specs.bus_trace.specs.Phases.{changes_phase, is_command, is_data}
use Rattle.due_model.specs.bus_trace.specs.Terms.{connection}
use Rattle.due_model.specs.bus_trace.specs.Trace.{bus}
use Rattle.due_model.specs.bus_rules.specs.Seen.{seen}
use Rattle.due_model.specs.bus_rules.specs.Messages.{settles_offers}
use Rattle.due_model.specs.scenario.specs.Value.{ScenarioValue}
use Rattle.due_model.specs.array_model.specs.Processes.{Process}
use Rattle.due_model.specs.story_model.specs.BusState.{row_reading}
use Rattle.due_model.specs.dialogue_model.specs.NextPhase.{phase_of}
use Rattle.due_model.specs.RunState.{RunState, bus_of, item_of, process_here, process_served, carried_here}
use Rattle.due_model.specs.RunSteps.{run_state}
use Rattle.due_model.specs.Tasks.{is_writing, task_of}
use Rattle.due_model.specs.Defs.{target_def_of}
use Rattle.due_model.specs.dialogue_model.specs.declared.exchange.Task.{Task}
use Rattle.due_model.specs.dialogue_model.specs.Arrivals.{policy_of}
use Rattle.due_model.specs.dialogue_model.specs.DataRuns.{run_at}
use Rattle.book_laws.specs.Hearing.{is_in_phase, is_out_phase}
use Rattle.book_laws.specs.Knowing.{NamesServed}
use Rattle.link_laws.specs.Books.{has_whole_command}
use Rattle.due_model.specs.dialogue_model.specs.declared.exchange.Phase.TheVariants as phases

-- The pointers stand in what the process sends, as a byte of it crosses.
pub record PointsInto (k : RunState) (c : Process) : Type 0 where
  pub command : is_command (bus_of k) ≡ true → (carried_here k c.id).command.active < length c.cdb
  pub moved : is_data (bus_of k) ≡ true → is_writing c ≡ true → (carried_here k c.id).moved.active < length c.sent

-- In DATA OUT the initiator of the process knows it, and its pointer stands as many bytes after the beginning of its
-- run as were answered.
pub record StandsAtRun (s : ScenarioValue) (k : RunState) (n : Connection) (c : Process) (t : Task) : Type 0 where
  pub named : n.reselected ≡ true → is_some (item_of k.story.link) ≡ true
  pub active_is : (carried_here k c.id).moved.active
      ≡ (run_at (policy_of (target_def_of s c.target)) t t.runs).start + k.handshakes.answers

abbrev pub MovesAtRun : ScenarioValue → RunState → Connection → Type 0
MovesAtRun s k n = (c : Process) (t : Task) → process_served s k ≡ Some c → task_of s k ≡ Some t
    → phase_of (bus_of k) ≡ phases.DataOut → StandsAtRun s k n c t

-- A row of a connection, before and after which RST is false.
pub record IsAskedIn (s : ScenarioValue) (rows : List Row) (row : Row) (n : Connection) : Type 0 where
  -- a name that is whole with the row is of the process that is served
  pub names : NamesServed s (run_state s rows) row n
  -- as a byte crosses the pointers stand in what is sent, the data pointer where the run does
  pub pointers : (c : Process) → process_here s (run_state s rows) ≡ Some c
      → (row_reading (run_state s rows).story.bus_state row).crosses ≡ true → PointsInto (run_state s rows) c
  pub runs : (row_reading (run_state s rows).story.bus_state row).crosses ≡ true → MovesAtRun s (run_state s rows) n
  -- as a phase is left the initiator knows the process, but after MESSAGE OUT, and MESSAGE IN with ATN true
  pub named : changes_phase (row_reading (run_state s rows).story.bus_state row).change ≡ true
      → n.reselected ≡ true → is_out_phase (phase_of (bus_of (run_state s rows))) ≡ false
      → (is_in_phase (phase_of (bus_of (run_state s rows))) && (bus_of (run_state s rows)).atn) ≡ false
      → is_some (item_of (run_state s rows).story.link) ≡ true
  -- no request is open as data cross; as many bytes of COMMAND cross as the command has
  pub settles : settles_offers (seen rows row) ≡ true
  pub command : has_whole_command rows row ≡ true

abbrev pub IsAsked : ScenarioValue → List Row → Row → Type 0
IsAsked s rows row = (n : Connection) → connection rows ≡ Some n → (bus rows).rst ≡ false
    → (bus (row ∷ rows)).rst ≡ false → IsAskedIn s rows row n
