-- The two ends of a connection are an initiator and a target of the scenario.
use Rattle.std.specs.Prelude.{◌≡◌, true, List, Some, is_some}
use Rattle.due_model.specs.bus_trace.specs.declared.Row.{Row}
use Rattle.due_model.specs.bus_trace.specs.declared.connection.Connection.{Connection}
use Rattle.due_model.specs.bus_trace.specs.Terms.{connection}
use Rattle.due_model.specs.scenario.specs.Value.{ScenarioValue}
use Rattle.due_model.specs.Defs.{host_of, target_def_of}

pub record HasEnds (s : ScenarioValue) (n : Connection) : Type 0 where
  pub initiator : is_some (host_of s n.initiator) ≡ true
  pub target : is_some (target_def_of s n.target) ≡ true

-- Of the connection that stands.
abbrev pub AreEnds : ScenarioValue → List Row → Type 0
AreEnds s rows = (n : Connection) → connection rows ≡ Some n → HasEnds s n
