-- What the target of a connection plans in it, over the rows of a trace.
use Rattle.std.specs.Prelude.{ℕ, not, ◌&&◌, List}
use Rattle.bus_trace.specs.declared.Row.{Row}
use Rattle.bus_trace.specs.declared.connection.Connection.{Connection}
use Rattle.scenario.specs.Value.{ScenarioValue}
use Rattle.due_model.specs.story_model.specs.TraceHistory.{aim_of}
use Rattle.due_model.specs.dialogue_model.specs.declared.exchange.Plan.{Plan}
use Rattle.due_model.specs.dialogue_model.specs.declared.exchange.Leaving.{Leaving}
use Rattle.due_model.specs.dialogue_model.specs.Planning.{first_plan}
use Rattle.due_model.specs.RunSteps.{run_state, may_negotiate, naming_of}
use Rattle.due_model.specs.Sights.{leaving}

abbrev pub plan_at : ScenarioValue → List Row → Plan
plan_at s rows = (run_state s rows).exchange.plan

-- How a target leaves the phase that stands.
abbrev pub leaving_after : ScenarioValue → List Row → ℕ → Leaving
leaving_after s rows dev = leaving s (run_state s rows) dev

-- What it plans in the connection that a row begins.
abbrev pub plan_begun : ScenarioValue → List Row → Connection → Plan
plan_begun s rows n =
    first_plan n.reselected
    (not n.reselected && may_negotiate (run_state s rows) n (aim_of (run_state s rows).story.aims n.initiator))
    (naming_of s (run_state s rows) n)
