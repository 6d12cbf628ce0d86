-- The items that devices call for are their own, of the scenario.
use Rattle.std.specs.Prelude.{ℕ, ◌≡◌, Some}
use Rattle.due_model.specs.bus_base.specs.declared.ProcId.{ProcId}
use Rattle.due_model.specs.scenario.specs.declared.value.AbortDef.{AbortDef}
use Rattle.due_model.specs.scenario.specs.Value.{ScenarioValue}
use Rattle.due_model.specs.array_model.specs.Processes.{Process, process_of}
use Rattle.due_model.specs.story_model.specs.Items.{Item, process, abort}
use Rattle.due_model.specs.story_model.specs.HistoryEvents.{abort_line_at}
use Rattle.due_model.specs.story_model.specs.TraceHistory.{aim_of}
use Rattle.due_model.specs.RunState.{RunState}

pub data IsItem (s : ScenarioValue) (dev : ℕ) : Item → Type 0 where
  is_process : (id : ProcId) (c : Process) → process_of s id ≡ Some c → c.initiator ≡ dev → IsItem s dev (process id)
  is_abort : (m : ℕ) (a : AbortDef) → abort_line_at s.aborts m ≡ Some a → a.host ≡ dev → IsItem s dev (abort m)

abbrev pub AimsAreItems : ScenarioValue → RunState → Type 0
AimsAreItems s k = (dev : ℕ) (item : Item) → aim_of k.story.aims dev ≡ Some item → IsItem s dev item
