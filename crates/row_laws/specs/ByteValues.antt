-- What the two ends of a connection are due to give: bytes.
use Rattle.std.specs.Prelude.{◌≡◌, ◌<◌, true, Some}
use Rattle.due_model.specs.bus_trace.specs.declared.connection.Connection.{Connection}
use Rattle.due_model.specs.bus_trace.specs.Phases.{is_message_out}
use Rattle.due_model.specs.scenario.specs.Value.{ScenarioValue}
use Rattle.due_model.specs.dialogue_model.specs.declared.exchange.Phase.{Phase}
use Rattle.due_model.specs.dialogue_model.specs.Exchange.{next_word}
use Rattle.due_model.specs.dialogue_model.specs.PhaseBytes.{phase_byte, one_if}
use Rattle.due_model.specs.RunState.{RunState, bus_of}
use Rattle.due_model.specs.Sights.{serving_of, leaving, offering_of}

-- What the target is due to give is a byte, and what the initiator is due to say; and so is the first byte of the phase
-- that comes next.
pub record HasByteValues (s : ScenarioValue) (k : RunState) (n : Connection) : Type 0 where
  pub offered : (offering_of s k n.target).byte < 256
  pub said : is_message_out (bus_of k) ≡ true → next_word k.exchange.speech < 256
  pub entering : (phase : Phase) → (leaving s k n.target).to ≡ Some phase
      → phase_byte (serving_of s k n.target) phase (leaving s k n.target).messages
      (one_if (leaving s k n.target).done) 0 < 256
