-- What holds after any rows of a prompt trace, by which its ends show the events that the rows show.
use Rattle.std.specs.Prelude.{List}
use Rattle.due_model.specs.bus_trace.specs.declared.Row.{Row}
use Rattle.due_model.specs.scenario.specs.Value.{ScenarioValue}
use Rattle.row_laws.specs.DataPointers.{is_marked}
use Rattle.row_laws.specs.ItemFacts.{ItemFacts}
use Rattle.story_laws.specs.LastTalks.{LastFacts}
use Rattle.story_laws.specs.Named.{NamedFacts}
use Rattle.row_laws.specs.Offers.{OfferFacts}
use Rattle.row_laws.specs.Tells.{ServedFacts, UndoFacts}

pub record TellFacts (s : ScenarioValue) (rows : List Row) : Type 0 where
  pub items : ItemFacts s rows
  pub offers : OfferFacts s rows
  pub named : NamedFacts s rows
  pub undo : UndoFacts is_marked s rows
  pub served : ServedFacts s rows
  pub last : LastFacts s rows
