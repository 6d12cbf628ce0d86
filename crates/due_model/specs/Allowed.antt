-- The plain disk array permits every event that the rows show.
use Rattle.std.specs.Prelude.{Bool, true, ◌&&◌, List, [], ◌∷◌, is_some}
use Rattle.bus_rules.specs.bus_trace.specs.declared.Row.{Row}
use Rattle.dialogue_model.specs.scenario.specs.Value.{ScenarioValue}
use Rattle.dialogue_model.specs.story_model.specs.BusState.{RowReading, row_reading}
use Rattle.dialogue_model.specs.story_model.specs.HistoryEvents.{row_events_by}
use Rattle.due_model.specs.RunState.{RunState}
use Rattle.due_model.specs.RunSteps.{run_state, array_after_events}

-- The array goes on by those of a row.
abbrev pub is_allowed : ScenarioValue → RunState → Row → RowReading → Bool
is_allowed s k row d = is_some (array_after_events s k.array (row_events_by s k.story d row))

-- Of all rows.
abbrev pub allowed : ScenarioValue → List Row → Bool
allowed s [] = true
allowed s (row ∷ rows) =
    allowed s rows && is_allowed s (run_state s rows) row (row_reading (run_state s rows).story.bus_state row)
