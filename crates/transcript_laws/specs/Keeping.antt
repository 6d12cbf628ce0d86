-- What the transcript keeps of the processes that are open, by the nexus of each (6.5).
use Rattle.std.specs.Prelude.{◌≡◌, List, Some}
use Rattle.due_model.specs.bus_base.specs.declared.ProcId.{ProcId}
use Rattle.due_model.specs.scenario.specs.Value.{ScenarioValue}
use Rattle.due_model.specs.array_model.specs.Processes as array_of
use Rattle.due_model.specs.story_model.specs.CarriedBytes.{CarriedBytes, carried_of}
use Rattle.due_model.specs.story_model.specs.Items.{Item}
use Rattle.bus_transcript.specs.declared.item.Name.{Name}
use Rattle.bus_transcript.specs.declared.process.Process.{Process}
use Rattle.bus_transcript.specs.Events.{name_sent}
use Rattle.bus_transcript.specs.Keys.{Key}
use Rattle.bus_transcript.specs.Processes.{process_of}
use Rattle.transcript_laws.specs.Parts.{nexus_of}
use Rattle.transcript_laws.specs.Told.{IsKeptOf}

-- Its nexus has a last process, which has the name with which it was sent.
pub record HasProcess (s : ScenarioValue) (last : List (Key × Process)) (sent : List Item) (names : List Name)
    (id : ProcId) : Type 0 where
  pub definition : array_of.Process
  pub definition_is : array_of.process_of s id ≡ Some definition
  pub process : Process
  pub last_is : process_of last (nexus_of definition) ≡ Some process
  pub named : name_sent sent names id ≡ Some process.name

-- The last process of its nexus is this one.
pub record IsKept (s : ScenarioValue) (last : List (Key × Process)) (sent : List Item) (names : List Name)
    (carried : List CarriedBytes) (id : ProcId) : Type 0 where
  pub definition : array_of.Process
  pub definition_is : array_of.process_of s id ≡ Some definition
  pub process : Process
  pub last_is : process_of last (nexus_of definition) ≡ Some process
  pub named : name_sent sent names id ≡ Some process.name
  pub kept : IsKeptOf process (carried_of carried id)
