-- What the target of a connection rests on at a row beside what it hears: which events the row shows, that a process
-- which runs with it has come whole, and that a phase is left while RST is false (6.1.5.1, 6.2.2, 7.3).
use Rattle.std.specs.Prelude.{◌≡◌, ◌⊎◌, true, false, List, is_some}
use Rattle.due_model.specs.bus_trace.specs.declared.Row.{Row}
use Rattle.due_model.specs.bus_trace.specs.Phases.{changes_phase, is_message_in}
use Rattle.due_model.specs.scenario.specs.Value.{ScenarioValue}
use Rattle.due_model.specs.story_model.specs.BusState.{RowReading, row_reading}
use Rattle.due_model.specs.RunSteps.{run_state}
use Rattle.row_laws.specs.Attendance.{Shows}
use Rattle.story_laws.specs.RunsWhole.{RunsWhole}

-- As a phase is left RST is false before and after; but for MESSAGE IN, as a reselection is cut by RST.
abbrev pub IsCalmTurn : RowReading → Type 0
IsCalmTurn d = is_some d.next ≡ true → changes_phase d.change ≡ true
    → ((d.change.before.rst ≡ false) × (d.change.after.rst ≡ false)) ⊎ (is_message_in d.change.before ≡ true)

pub record IsAttended (s : ScenarioValue) (rows : List Row) (row : Row) : Type 0 where
  pub shows : Shows s rows row
  pub whole : RunsWhole s rows row
  pub turn : IsCalmTurn (row_reading (run_state s rows).story.bus_state row)
