-- The measure of a run: how many rows are still to come at most, as a natural number that is computed from the scenario
-- and from what is kept of the rows. It falls with each row of a prompt trace, and is within the budget at the start.
use Rattle.std.specs.Prelude.{ℕ, suc, ◌+◌, ◌/◌, ◌≤◌, Bool, true, false, List, [], ◌∷◌, Option, None}
use Rattle.due_model.specs.bus_trace.specs.declared.Row.{Row}
use Rattle.due_model.specs.bus_trace.specs.declared.connection.Connection.{Connection}
use Rattle.due_model.specs.scenario.specs.Value.{ScenarioValue}
use Rattle.due_model.specs.scenario.specs.Writing.{Obeys}
use Rattle.due_model.specs.story_model.specs.Budget.{budget}
use Rattle.due_model.specs.Next.{IsPrompt}
use Rattle.due_model.specs.RunState.{RunState, bus_of}
use Rattle.due_model.specs.RunSteps.{run_state}
use Rattle.progress_laws.specs.book_laws.specs.WrongParity.{is_refusing, is_struck_phase}
use Rattle.measure_laws.specs.Future.{future_left}
use Rattle.measure_laws.specs.Turns.{connection_left}
use Rattle.measure_laws.specs.Ways.{way_left}

-- Under RST nothing is left of a connection.
abbrev pub connection_if : Bool → Option Connection → Option Connection
connection_if true n = None
connection_if false n = n

-- `struck` says that a fault row stands in the present phase, `refusing` that this is MESSAGE OUT after such a phase.
abbrev pub measure_by : ScenarioValue → RunState → Bool → Bool → ℕ
measure_by s k struck refusing = future_left s k + way_left k
    + connection_left s k struck refusing (connection_if (bus_of k).rst k.story.bus_state.connection)

-- After these rows.
abbrev pub measure : ScenarioValue → List Row → ℕ
measure s rows = measure_by s (run_state s rows) (is_struck_phase s rows) (is_refusing s rows)

-- ---- what is proved of it

-- At the start it is less than the eighth part of the budget: of each row eight devices are asked.
abbrev pub StartsWithin : Type 0
StartsWithin = (s : ScenarioValue) → Obeys s → suc (measure s []) ≤ budget s / 8

-- With each row of a prompt trace it falls, with fault rows too.
abbrev pub Falls : Type 0
Falls = (s : ScenarioValue) (rows : List Row) (row : Row) → Obeys s → IsPrompt s (row ∷ rows)
    → suc (measure s (row ∷ rows)) ≤ measure s rows
