-- All that a device's next row depends on, kept from row to row.
use Rattle.std.specs.Prelude.{ℕ, List, Option, Some, None}
use Rattle.bus_rules.specs.bus_base.specs.declared.ProcId.{ProcId}
use Rattle.bus_rules.specs.bus_trace.specs.LineSet.{LineSet}
use Rattle.bus_rules.specs.bus_trace.specs.View.{driven_at}
use Rattle.bus_rules.specs.bus_trace.specs.declared.agreements.Agreement.{Agreement}
use Rattle.bus_rules.specs.bus_trace.specs.declared.arbitration.Arbitration.{Arbitration}
use Rattle.dialogue_model.specs.scenario.specs.declared.value.FaultDef.{FaultDef}
use Rattle.dialogue_model.specs.scenario.specs.Value.{ScenarioValue}
use Rattle.dialogue_model.specs.array_model.specs.Processes.{Process, process_of}
use Rattle.dialogue_model.specs.array_model.specs.Units.{Array, starting_array}
use Rattle.dialogue_model.specs.story_model.specs.Items.{Item, process, abort}
use Rattle.dialogue_model.specs.story_model.specs.Links.{Link}
use Rattle.dialogue_model.specs.story_model.specs.CarriedBytes.{CarriedBytes, carried_of}
use Rattle.dialogue_model.specs.story_model.specs.Story.{Story}
use Rattle.bus_rules.specs.bus_trace.specs.declared.line_times.LineTimes.{LineTimes}
use Rattle.due_model.specs.Own.{Own}
use Rattle.dialogue_model.specs.bus_lines.specs.Handshakes.{Handshakes}
use Rattle.dialogue_model.specs.Exchange.{Exchange}
use Rattle.due_model.specs.LastingState.{Negotiated, ProcessProgress}

pub record RunState : Type 0 where
  -- what the rows tell, and the plain disk array that their history leaves
  pub story : Story
  pub array : Option Array
  -- since when the current process of each unit is that
  pub current_since : List ℕ
  -- the bus
  pub last : ℕ
  pub ages : LineTimes
  pub owns : List Own
  pub arbitration : Option Arbitration
  -- the connection that stands
  pub handshakes : Handshakes
  pub exchange : Exchange
  -- what its target serves: the initiator knows it by its own item, or by the names that it hears
  pub served : Option Item
  -- what lasts
  pub negotiated : Negotiated
  pub progress : List ProcessProgress
  -- the faults that have not struck yet, in order of time, then of their lines
  pub faults : List FaultDef

-- ---- looking up

abbrev pub bus_of : RunState → LineSet
bus_of k = k.story.bus_state.bus

abbrev pub drives_of : RunState → ℕ → LineSet
drives_of k dev = driven_at k.story.bus_state.driven dev

abbrev pub or_start : ScenarioValue → Option Array → Array
or_start s None = starting_array s
or_start s (Some a) = a

abbrev pub array_of : ScenarioValue → RunState → Array
array_of s k = or_start s k.array

-- The agreement that holds in the connection.
abbrev pub agreement_of : RunState → Agreement
agreement_of k = k.story.bus_state.dialogue.heard.now.agreement

-- The process of the connection.
abbrev pub item_of : Option Link → Option Item
item_of None = None
item_of (Some l) = l.item

abbrev pub process_item : ScenarioValue → Option Item → Option Process
process_item s None = None
process_item s (Some (process id)) = process_of s id
process_item s (Some (abort n)) = None

abbrev pub process_here : ScenarioValue → RunState → Option Process
process_here s k = process_item s (item_of k.story.link)

-- The process that its target serves.
abbrev pub process_served : ScenarioValue → RunState → Option Process
process_served s k = process_item s k.served

abbrev pub carried_here : RunState → ProcId → CarriedBytes
carried_here k id = carried_of k.story.carried id
