use Rattle.std.proofs.Common.{◌≡◌, ◌+◌, ◌<◌, true, List, length, drop}
use Rattle.std.specs.List.{AllByRecursion}
use Rattle.bus_trace.specs.declared.Row.{Row}
use Rattle.scenario.specs.declared.value.CmdDef.{CmdDef}
use Rattle.scenario.specs.Value.{ScenarioValue}
use Rattle.due_model.specs.RunSteps.{run_state}
use Rattle.delivery_laws.specs.scsi_device.specs.Lines.{FitsBus}
use Rattle.bus_engine.specs.Answers.{are_answered}
use Rattle.bus_engine.specs.Over.{AreOver}
use Rattle.bus_engine.proofs.Replies.{AreAsked}
use Rattle.bus_engine.proofs.finishing.replies.Given as goal

abbrev pub invariant-loop-index : goal.invariant-loop-index
invariant-loop-index l = record {
  count : length l.replies.items ≡ l.index;
  hosts : AllByRecursion (λ (c : CmdDef). c.host < 8) (drop l.index l.commands);
  over : (s : ScenarioValue) (rows : List Row) → AreOver s rows 1 l.initial.places
      → AreOver s rows (l.index + 1) l.places;
  told : (s : ScenarioValue) (rows : List Row) → FitsBus s → l.commands ≡ s.commands
      → AreOver s rows 1 l.initial.places → are_answered s rows ≡ true
      → AreAsked s (run_state s rows).story l.index l.replies.items (drop l.index l.commands);
}
