-- COMMAND COMPLETE in MESSAGE IN: its byte is asked for and answered once; and with ATN false its process ends as it is
-- (6.1.5.1, 6.6.5).
use Rattle.std.specs.Prelude.{◌≡◌, ◌==◌, true, false, List, Some}
use Rattle.due_model.specs.bus_base.specs.declared.ProcId.{ProcId}
use Rattle.due_model.specs.bus_trace.specs.Phases.{is_message_in}
use Rattle.due_model.specs.bus_trace.specs.declared.Row.{Row}
use Rattle.due_model.specs.bus_trace.specs.declared.connection.Connection.{Connection}
use Rattle.due_model.specs.bus_trace.specs.Terms.{connection}
use Rattle.due_model.specs.bus_trace.specs.Trace.{bus}
use Rattle.due_model.specs.scenario.specs.Value.{ScenarioValue}
use Rattle.due_model.specs.array_model.specs.Steps.{has_ended}
use Rattle.due_model.specs.story_model.specs.Items.{process}
use Rattle.due_model.specs.dialogue_model.specs.Exchange.{one_message}
use Rattle.due_model.specs.RunState.{RunState, array_of, bus_of}
use Rattle.due_model.specs.RunSteps.{run_state}
use Rattle.story_laws.specs.row_laws.specs.ItemTalks.{awaits}
use Rattle.due_model.specs.msg_grammar.specs.declared.message.MsgIn.TheVariants as to_initiator

abbrev pub IsCompleting : RunState → Type 0
IsCompleting k = k.exchange.plan.messages ≡ one_message to_initiator.CommandComplete

-- A byte that awaits its ACK is the first; and one that does not was answered.
pub record CloseCounts (k : RunState) : Type 0 where
  pub asked : is_message_in (bus_of k) ≡ true → IsCompleting k → awaits (bus_of k) ≡ true
      → (k.handshakes.answers == 0) ≡ true
  pub given : is_message_in (bus_of k) ≡ true → (k.handshakes.requests == 0) ≡ false → awaits (bus_of k) ≡ false
      → (k.handshakes.answers == 0) ≡ false

abbrev pub HasClosed : ScenarioValue → RunState → Type 0
HasClosed s k = (id : ProcId) → k.served ≡ Some (process id) → is_message_in (bus_of k) ≡ true → IsCompleting k
    → (k.handshakes.answers == 0) ≡ false → (bus_of k).atn ≡ false → has_ended (array_of s k) id ≡ true

pub record CloseBooks (s : ScenarioValue) (k : RunState) : Type 0 where
  pub counts : CloseCounts k
  pub ended : HasClosed s k

abbrev pub CloseFacts : ScenarioValue → List Row → Type 0
CloseFacts s rows =
    (n : Connection) → connection rows ≡ Some n → (bus rows).rst ≡ false → CloseBooks s (run_state s rows)
