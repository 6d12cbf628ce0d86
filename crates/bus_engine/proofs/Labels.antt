-- As which a target is told the process of its connection.
use Rattle.std.proofs.Common.{◌≡◌, List, Option, sym, ap, subst}
use Rattle.std.specs.Prelude.{◌==◌}
use Rattle.bus_base.specs.declared.ProcId.{ProcId}
use Rattle.bus_trace.specs.declared.Row.{Row}
use Rattle.scenario.specs.Value.{ScenarioValue}
use Rattle.due_model.specs.story_model.specs.Items.{Item}
use Rattle.due_model.specs.RunState.{item_of}
use Rattle.due_model.specs.RunSteps.{run_state}
use Rattle.due_model.specs.Telling.{id_of, id_or_none}
use Rattle.disk_target.specs.target_course.specs.Courses.{IsLabelOf}
use Rattle.bus_run.specs.Label.{process_known}

label_of : (item : Option Item) → IsLabelOf item (id_or_none (id_of item))
label_of item = record {
  process_is = λ i e. ap (λ (o : Option Item). id_or_none (id_of o)) e;
  abort_is = λ n e. ap (λ (o : Option Item). (id_or_none (id_of o)).command == 0) e;
}

pub label_is : (s : ScenarioValue) (rows : List Row) (label : ProcId) → label ≡ process_known s rows
    → IsLabelOf (item_of (run_state s rows).story.link) label
label_is s rows label e = subst (λ (id : ProcId). IsLabelOf (item_of (run_state s rows).story.link) id) (sym e)
    (label_of (item_of (run_state s rows).story.link))
