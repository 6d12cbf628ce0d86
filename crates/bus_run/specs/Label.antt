-- The process of a connection, as its initiator knows it.
use Rattle.std.specs.Prelude.{List}
use Rattle.bus_base.specs.declared.ProcId.{ProcId}
use Rattle.bus_trace.specs.declared.Row.{Row}
use Rattle.scenario.specs.Value.{ScenarioValue}
use Rattle.due_model.specs.RunState.{item_of}
use Rattle.due_model.specs.RunSteps.{run_state}
use Rattle.due_model.specs.Telling.{id_of, id_or_none}

abbrev pub process_known : ScenarioValue → List Row → ProcId
process_known s rows = id_or_none (id_of (item_of (run_state s rows).story.link))
