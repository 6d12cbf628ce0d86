-- What a row shows.
use Rattle.std.specs.Prelude.{ℕ, Bool, not, ◌||◌, List, [], ◌∷◌, Option, is_some, if◌then◌else◌}
use Rattle.bus_base.specs.declared.Event.{Event}
use Rattle.bus_base.specs.declared.Event.TheVariants as events
use Rattle.bus_trace.specs.declared.Row.{Row}
use Rattle.bus_trace.specs.declared.changes.Change.{Change}
use Rattle.bus_trace.specs.declared.connection.Connection.{Connection}
use Rattle.bus_trace.specs.Changes.{rises}
use Rattle.bus_trace.specs.Phases.{changes_phase}
use Rattle.scenario.specs.Value.{ScenarioValue}
use Rattle.due_model.specs.story_model.specs.BusState.{RowReading, row_reading}
use Rattle.due_model.specs.story_model.specs.HistoryEvents.{row_events_by}
use Rattle.due_model.specs.RunSteps.{run_state}
use Rattle.bus_run.specs.declared.shown.Shown.{Shown}
use Rattle.bus_run.specs.declared.shown.Shown.TheVariants.{Nothing, One, Two}

-- The newest first.
abbrev pub shown_events : Shown → List Event
shown_events Nothing = []
shown_events (One events) = events
shown_events (Two events) = events

-- What a row does after these rows, and the events that it shows, the newest first.
abbrev pub reading : ScenarioValue → List Row → Row → RowReading
reading s rows row = row_reading (run_state s rows).story.bus_state row

abbrev pub events_shown : ScenarioValue → List Row → Row → List Event
events_shown s rows row = row_events_by s (run_state s rows).story (reading s rows row) row

-- A phase is left, or the bus: the target does this, and so tells what the row shows. Else its initiator does.
abbrev pub is_left : Change → Option Connection → Bool
is_left c after = changes_phase c || not (is_some after)

abbrev pub teller : Connection → Change → Option Connection → ℕ
teller n c after = if is_left c after then n.target else n.initiator

-- RST rises at this device.
abbrev pub reset_events : Change → ℕ → List Event
reset_events c dev = if rises c.own.rst c.next.rst then events.Reset dev ∷ [] else []
