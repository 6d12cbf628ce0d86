-- A process that runs, and would end GOOD, has sent all that it sends (6.1.5.1, 7.3).
use Rattle.std.specs.Prelude.{◌≡◌, true, false, ◌==◌, List, ◌∷◌, length, Some}
use Rattle.due_model.specs.bus_trace.specs.declared.Row.{Row}
use Rattle.due_model.specs.bus_trace.specs.declared.connection.Connection.{Connection}
use Rattle.due_model.specs.bus_trace.specs.Terms.{connection}
use Rattle.due_model.specs.bus_trace.specs.Trace.{bus}
use Rattle.due_model.specs.cdb_codec.specs.declared.status.TheConstants.{GOOD}
use Rattle.due_model.specs.scenario.specs.Value.{ScenarioValue}
use Rattle.due_model.specs.array_model.specs.Processes.{Process}
use Rattle.due_model.specs.array_model.specs.ArrayHistory.{shows_run}
use Rattle.due_model.specs.RunState.{RunState, array_of, process_served}
use Rattle.due_model.specs.RunSteps.{run_state, events_of_row}
use Rattle.due_model.specs.Tasks.{reply_now}
use Rattle.row_laws.specs.scsi_device.specs.Writes.{Writer, writers}
use Rattle.story_laws.specs.WholeRuns.{HasSentAll}

-- ---- the process that is served

pub data IsWhole (s : ScenarioValue) (k : RunState) (all : List Writer) (c : Process) : Type 0 where
  ends_badly : ((reply_now (array_of s k) c).status == GOOD) ≡ false → IsWhole s k all c
  sends_none : length c.sent ≡ 0 → IsWhole s k all c
  sends_all : HasSentAll s k all c → IsWhole s k all c

-- With a row of a connection, before and after which RST is false.
abbrev pub RunsWhole : ScenarioValue → List Row → Row → Type 0
RunsWhole s rows row = (n : Connection) (c : Process) → connection rows ≡ Some n → (bus rows).rst ≡ false
    → (bus (row ∷ rows)).rst ≡ false → shows_run (events_of_row s rows row) ≡ true
    → process_served s (run_state s rows) ≡ Some c → IsWhole s (run_state s rows) (writers s rows) c
