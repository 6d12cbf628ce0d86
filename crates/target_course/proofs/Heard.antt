-- What the target of a connection plans goes on by what it hears.
use Rattle.std.proofs.Common.{◌≡◌, ◌∙◌, List, ◌∷◌, Some, None}
use Rattle.bus_trace.specs.declared.Row.{Row}
use Rattle.bus_trace.specs.declared.connection.Connection.{Connection}
use Rattle.bus_trace.specs.Terms.{connection}
use Rattle.scenario.specs.Value.{ScenarioValue}
use Rattle.due_model.specs.story_model.specs.BusState.{RowReading, row_reading}
use Rattle.due_model.specs.dialogue_model.specs.Planning.{plan_after}
use Rattle.due_model.specs.dialogue_model.specs.Hearing.{hearing}
use Rattle.due_model.specs.RunState.{RunState}
use Rattle.due_model.specs.RunSteps.{run_state, exchange_after, leaving_of}
use Rattle.due_model.specs.Sights.{hearing_of, leaving}
use Rattle.due_model.specs.Plain.{IsPlain}
use Rattle.target_course.specs.Plans.{plan_at, leaving_after, plan_begun}

-- A connection stands before the row and after it.
pub plan_goes_on : (s : ScenarioValue) (rows : List Row) (row : Row) (m n : Connection)
    → IsPlain s rows (run_state s rows) → IsPlain s (row ∷ rows) (run_state s (row ∷ rows))
    → hearing_of (run_state s rows) row (row_reading (run_state s rows).story.bus_state row) ≡ hearing rows row
    → connection rows ≡ Some m → connection (row ∷ rows) ≡ Some n
    → plan_at s (row ∷ rows) ≡ plan_after (hearing rows row) (leaving_after s rows m.target) (plan_at s rows)
plan_goes_on s rows row m n p q w x y =
    let k : RunState = run_state s rows in
    let d : RowReading = row_reading k.story.bus_state row in
    (λ i. (exchange_after s k row d ((p.connection ∙ x) i) ((q.connection ∙ y) i)
    (leaving_of s k ((p.connection ∙ x) i))).plan) ∙ (λ i. plan_after (w i) (leaving s k m.target) k.exchange.plan)

-- The row begins the connection.
pub plan_begins : (s : ScenarioValue) (rows : List Row) (row : Row) (n : Connection) → IsPlain s rows (run_state s rows)
    → IsPlain s (row ∷ rows) (run_state s (row ∷ rows)) → connection rows ≡ None → connection (row ∷ rows) ≡ Some n
    → plan_at s (row ∷ rows) ≡ plan_begun s rows n
plan_begins s rows row n p q x y =
    let k : RunState = run_state s rows in
    let d : RowReading = row_reading k.story.bus_state row in
    λ i. (exchange_after s k row d ((p.connection ∙ x) i) ((q.connection ∙ y) i)
    (leaving_of s k ((p.connection ∙ x) i))).plan
