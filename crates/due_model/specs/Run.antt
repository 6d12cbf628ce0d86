-- A run by what is due: from the scenario alone, row by row.
use Rattle.std.specs.Prelude.{ℕ, zero, suc, Bool, true, false, List, [], ◌∷◌, Option, Some, None, if◌then◌else◌}
use Rattle.bus_rules.specs.bus_base.specs.declared.Event.{Event}
use Rattle.bus_rules.specs.bus_trace.specs.declared.Row.{Row}
use Rattle.dialogue_model.specs.scenario.specs.Value.{ScenarioValue}
use Rattle.due_model.specs.RunState.{RunState}
use Rattle.due_model.specs.RunSteps.{first_run_state, run_state_after}
use Rattle.due_model.specs.Next.{next_by}

-- The rows so far, the newest first, what is kept of them, and whether nothing is due any more.
pub record Run : Type 0 where
  pub rows : List Row
  pub kept : RunState
  pub ended : Bool

abbrev pub one_more : ScenarioValue → Run → Option Row → Run
one_more s r None = record r { ended = true }
one_more s r (Some row) = record { rows = row ∷ r.rows; kept = run_state_after s r.kept row; ended = false }

unfoldable pub run_from : ScenarioValue → ℕ → Run → Run
run_from s zero r = r
run_from s (suc fuel) r = if r.ended then r else run_from s fuel (one_more s r (next_by s r.kept))

-- At most so many rows.
abbrev pub run_by_due : ScenarioValue → ℕ → Run
run_by_due s fuel = run_from s fuel (record { rows = []; kept = first_run_state s; ended = false })

-- The history that the rows of a run show, the newest event first.
abbrev pub history_of : Run → List Event
history_of r = r.kept.story.history
