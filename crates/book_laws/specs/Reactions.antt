-- What the two ends of a connection are due to drive and to do, as facts of a row: by these reactions the bytes that
-- cross are the next ones, and a phase is left whole.
use Rattle.std.specs.Prelude.{◌%◌, ◌≡◌, true, false, not, is_some}
use Rattle.due_model.specs.bus_trace.specs.declared.changes.Change.{Change}
use Rattle.due_model.specs.bus_trace.specs.declared.connection.Connection.{Connection}
use Rattle.due_model.specs.bus_trace.specs.Terms.{receiver_in}
use Rattle.due_model.specs.bus_trace.specs.Phases.{is_message_out, is_message_in}
use Rattle.due_model.specs.scenario.specs.Value.{ScenarioValue}
use Rattle.due_model.specs.dialogue_model.specs.declared.exchange.Phase.TheVariants as phases
use Rattle.due_model.specs.dialogue_model.specs.NextPhase.{phase_of}
use Rattle.due_model.specs.RunState.{RunState, bus_of}
use Rattle.due_model.specs.Sights.{offering_of, answering_of}

-- A byte to the target that crosses in the row is that which the initiator is due to drive before it, in MESSAGE OUT
-- with ATN as it is due with this byte.
pub record IsAnswered (s : ScenarioValue) (k : RunState) (n : Connection) (c : Change) : Type 0 where
  pub byte_is : c.before.io ≡ false → is_some (receiver_in n c) ≡ true
      → c.after.data_bits % 256 ≡ (answering_of s k n.initiator).byte
  pub attends_is : is_message_out c.before ≡ true → is_some (receiver_in n c) ≡ true
      → c.after.atn ≡ (answering_of s k n.initiator).attends

-- A byte of MESSAGE IN that crosses in the row is that which the target is due to drive before it, where one follows.
pub record IsOffered (s : ScenarioValue) (k : RunState) (n : Connection) (c : Change) : Type 0 where
  pub byte_is : is_message_in c.before ≡ true → is_some (receiver_in n c) ≡ true
      → c.after.data_bits % 256 ≡ (offering_of s k n.target).byte
  pub follows : is_message_in c.before ≡ true → is_some (receiver_in n c) ≡ true
      → (offering_of s k n.target).follows ≡ true
  pub begun : is_message_in c.before ≡ true → is_some (receiver_in n c) ≡ true → k.exchange.begun ≡ true

-- A phase is left where no byte follows. In MESSAGE OUT ATN is then as the last byte left it.
pub record IsOver (s : ScenarioValue) (k : RunState) (n : Connection) : Type 0 where
  pub follows : (offering_of s k n.target).follows ≡ false
  pub attention : is_message_out (bus_of k) ≡ true → (bus_of k).atn ≡ not k.story.bus_state.dialogue.is_last

-- In MESSAGE IN there is a message.
abbrev pub HasMessage : RunState → Type 0
HasMessage k = phase_of (bus_of k) ≡ phases.MessageIn → is_some k.exchange.plan.messages.first ≡ true
