-- What is told to all devices, and the rows that it was made from.
use Rattle.std.specs.Prelude.{◌≡◌, Bool, List}
use Rattle.story_model.specs.bus_trace.specs.declared.Row.{Row}
use Rattle.reaction_model.specs.bus_lines.specs.BusView.{BusViewValue, IsBusViewOf}
use Rattle.story_model.specs.bus_phases.specs.declared.agreements.Agreements.{Agreements}
use Rattle.story_model.specs.bus_phases.specs.declared.dialogue.Dialogue.{Dialogue}
use Rattle.story_model.specs.bus_phases.specs.Dialogue.{agreed, dialogue}
use Rattle.story_model.specs.bus_phases.specs.Tables.{AreAgreements}
use Rattle.dialogue_model.specs.declared.exchange.Hearing.{Hearing}
use Rattle.dialogue_model.specs.Hearing.{begun, last_hearing}

pub record ObserverValue : Type 0 where
  -- the view of the bus
  pub view : BusViewValue
  -- the agreements before the connection that stands, and what its messages say
  pub agreed : Agreements
  pub dialogue : Dialogue
  -- whether a phase has begun in it
  pub begun : Bool
  -- what the last row told
  pub hearing : Hearing

-- this is what these rows tell
pub record IsObserverOf (rows : List Row) (o : ObserverValue) : Type 0 where
  pub view_is : IsBusViewOf rows o.view
  pub agreed_are : AreAgreements (agreed rows) o.agreed
  pub dialogue_is : o.dialogue ≡ dialogue rows
  pub begun_is : o.begun ≡ begun rows
  pub hearing_is : o.hearing ≡ last_hearing rows
