-- What an initiator knows beside what all devices are told.
use Rattle.std.specs.Prelude.{ℕ, ◌≡◌, ◌<◌, ◌==◌, true, false, List, Option, Some, None}
use Rattle.bus_trace.specs.LineSet.{LineSet}
use Rattle.bus_trace.specs.Terms.{connection}
use Rattle.bus_trace.specs.declared.Row.{Row}
use Rattle.bus_trace.specs.declared.connection.Connection.{Connection}
use Rattle.scenario.specs.declared.value.HostDef.{HostDef}
use Rattle.scenario.specs.Value.{ScenarioValue}
use Rattle.story_model.specs.TraceHistory.{aim_of}
use Rattle.due_model.specs.dialogue_model.specs.Exchange.{Speech}
use Rattle.due_model.specs.dialogue_model.specs.Sending.{Sending, byte_to_send}
use Rattle.due_model.specs.Own.{Own, own_of}
use Rattle.due_model.specs.Defs.{host_of, target_def_of}
use Rattle.due_model.specs.Wants.{ready_of, item_want_time, target_of}
use Rattle.due_model.specs.Sights.{sending_of}
use Rattle.due_model.specs.RunSteps.{run_state}
use Rattle.due_model.specs.Due.{reset_from}
use Rattle.initiator.specs.declared.due.Knowledge.{Knowledge}
use Rattle.initiator_books.specs.scsi_device.specs.Itself.{ItselfValue}
use Rattle.initiator_books.specs.Intents.{IntentValue}
use Rattle.initiator.specs.OwnBytes.{CommandBytesValue, sending_from}
use Rattle.initiator.specs.Transfers.{TransfersValue, process_of_link, active_at}
use Rattle.due_model.specs.array_model.specs.Seats.{is_initiator}

-- ---- what it knows itself

pub record InitiatorState : Type 0 where
  -- when it made rows, raised ACK and RST, and released RST
  pub own : Own
  -- its next reset
  pub reset : Option ℕ
  -- since when it wants the bus, and whom it calls
  pub since : Option ℕ
  pub callee : Option ℕ
  -- in a connection of its own: what it says in MESSAGE OUT, and what it sends else
  pub speech : Speech
  pub sending : Sending

-- A connection stands of which it is the initiator.
pub record IsOwnConnection (rows : List Row) (dev : ℕ) (n : Connection) : Type 0 where
  pub stands : connection rows ≡ Some n
  pub own : (n.initiator == dev) ≡ true

-- Whatever the phase, these give the same byte.
abbrev pub AreSameBytes : Sending → Sending → Type 0
AreSameBytes a b = (bus : LineSet) (p : Speech) → byte_to_send bus p a ≡ byte_to_send bus p b

-- This is what the initiator of this line of the scenario knows after these rows.
pub record IsInitiatorOf (s : ScenarioValue) (rows : List Row) (h : HostDef) (i : InitiatorState) : Type 0 where
  pub own_is : i.own ≡ own_of rows h.dev
  pub reset_is : i.reset ≡ reset_from h.dev (own_of rows h.dev).released s.resets
  pub since_is : i.since ≡ item_want_time s (run_state s rows).story.sent h.dev
  pub callee_is : i.callee ≡ target_of s (aim_of (run_state s rows).story.aims h.dev)
  pub speech_is : (n : Connection) → IsOwnConnection rows h.dev n → i.speech ≡ (run_state s rows).exchange.speech
  pub sending_is : (n : Connection) → IsOwnConnection rows h.dev n
      → AreSameBytes i.sending (sending_of s (run_state s rows))

-- ---- what the scenario says of it

-- It is an initiator of the scenario, with this line, and no target.
pub record IsHostOf (s : ScenarioValue) (h : HostDef) : Type 0 where
  pub below : h.dev < 8
  pub host_is : host_of s h.dev ≡ Some h
  pub is_one : is_initiator s.hosts h.dev ≡ true
  pub no_target : target_def_of s h.dev ≡ None

-- No process is ready at it, and it is the target of no connection.
pub record IsNoTarget (s : ScenarioValue) (rows : List Row) (dev : ℕ) : Type 0 where
  pub no_process : ready_of s (run_state s rows) dev ≡ None
  pub not_called : (n : Connection) → connection rows ≡ Some n → (n.target == dev) ≡ false

-- What it knows, by its parts.
abbrev pub state_by : ItselfValue → IntentValue → Speech → Sending → InitiatorState
state_by v w speech sending = record {
  own = v.own;
  reset = v.reset;
  since = w.since;
  callee = w.callee;
  speech = speech;
  sending = sending;
}

-- What it sends of the process of its connection.
abbrev pub sending_by : List CommandBytesValue → TransfersValue → Sending
sending_by bytes v = sending_from bytes (process_of_link v.link) (active_at v.held (process_of_link v.link))

-- What the code is told of it.
abbrev pub state_known : Knowledge → InitiatorState
state_known k = record {
  own = k.own.now;
  reset = k.reset;
  since = k.since;
  callee = k.callee;
  speech = k.speech.now;
  sending = sending_by k.bytes.now k.transfers.now;
}
