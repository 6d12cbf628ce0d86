-- The initiator of a connection knows the process that the target serves: by its own item after a selection, by its
-- names after a reselection (6.1.4, 6.6.7, 6.6.17).
use Rattle.std.specs.Prelude.{◌≡◌, ◌⊎◌, true, false, Some, None}
use Rattle.due_model.specs.bus_trace.specs.declared.Row.{Row}
use Rattle.due_model.specs.bus_trace.specs.declared.connection.Connection.{Connection}
use Rattle.due_model.specs.msg_grammar.specs.declared.message.MsgIn.{MsgIn}
use Rattle.due_model.specs.scenario.specs.Value.{ScenarioValue}
use Rattle.due_model.specs.story_model.specs.BusState.{row_reading}
use Rattle.due_model.specs.story_model.specs.Links.{Link, link_after_name}
use Rattle.due_model.specs.dialogue_model.specs.Words.{is_name}
use Rattle.due_model.specs.RunState.{RunState}
use Rattle.book_laws.specs.Giving.{OnMessages}

abbrev pub IsNoName : MsgIn → Type 0
IsNoName m = is_name m ≡ false

-- The link is of the ends of the connection. After a selection the target says no name.
pub record Knows (s : ScenarioValue) (k : RunState) (n : Connection) : Type 0 where
  pub link : Link
  pub link_is : k.story.link ≡ Some link
  pub initiator_is : link.initiator ≡ n.initiator
  pub target_is : link.target ≡ n.target
  pub nameless : n.reselected ≡ false → OnMessages IsNoName k.exchange.plan.messages
  pub item_is : (link.item ≡ k.served) ⊎ ((n.reselected ≡ true) × (link.item ≡ None))

-- A name that the row makes whole after a reselection is of the process that is served, or of none.
abbrev pub NamesServed : ScenarioValue → RunState → Row → Connection → Type 0
NamesServed s k row n = (l : Link) (m : MsgIn) → n.reselected ≡ true → k.story.link ≡ Some l
    → (row_reading k.story.bus_state row).into ≡ Some m → is_name m ≡ true
    → ((link_after_name k.story.sent s.commands l m).item ≡ k.served)
    ⊎ ((link_after_name k.story.sent s.commands l m).item ≡ None)
