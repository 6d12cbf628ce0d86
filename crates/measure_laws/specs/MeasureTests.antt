-- The measure as a test that is computed on runs: it starts within the budget, and falls with each row.
use Rattle.std.specs.Prelude.{ℕ, ◌/◌, Bool, true, false, ◌&&◌, List, [], ◌∷◌, nat_lt}
use Rattle.due_model.specs.bus_trace.specs.declared.Row.{Row}
use Rattle.due_model.specs.scenario.specs.Value.{ScenarioValue}
use Rattle.due_model.specs.story_model.specs.BusState.{row_reading}
use Rattle.due_model.specs.story_model.specs.Budget.{budget}
use Rattle.due_model.specs.RunState.{RunState}
use Rattle.due_model.specs.RunSteps.{first_run_state, run_state_after}
use Rattle.progress_laws.specs.book_laws.specs.WrongParity.{is_refusal_after, is_struck_after}
use Rattle.measure_laws.specs.Measure.{measure_by}

-- What it is computed from, row by row.
pub record Tally : Type 0 where
  pub state : RunState
  pub struck : Bool
  pub refusing : Bool

abbrev pub first_tally : ScenarioValue → Tally
first_tally s = record { state = first_run_state s; struck = false; refusing = false }

abbrev pub tally_after : ScenarioValue → Tally → Row → Tally
tally_after s t row = record {
  state = run_state_after s t.state row;
  struck = is_struck_after t.state row (row_reading t.state.story.bus_state row) t.struck;
  refusing = is_refusal_after t.state (row_reading t.state.story.bus_state row) t.struck t.refusing;
}

abbrev pub measure_of : ScenarioValue → Tally → ℕ
measure_of s t = measure_by s t.state t.struck t.refusing

-- The rows are given the oldest first.
abbrev pub falls_along : ScenarioValue → Tally → List Row → Bool
falls_along s t [] = true
falls_along s t (row ∷ rows) =
    nat_lt (measure_of s (tally_after s t row)) (measure_of s t) && falls_along s (tally_after s t row) rows

abbrev pub is_measured : ScenarioValue → List Row → Bool
is_measured s rows = nat_lt (measure_of s (first_tally s)) (budget s / 8) && falls_along s (first_tally s) rows
