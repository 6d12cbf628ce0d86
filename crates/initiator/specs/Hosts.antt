-- An initiator of a scenario: its line, and what it knows after some rows.
use Rattle.std.specs.Prelude.{ℕ, ◌≡◌, ◌==◌, ◌&&◌, ◌||◌, not, Bool, true, false, List, ◌∷◌, Option, Some, None}
use Rattle.std.specs.List.{list_all}
use Rattle.due_model.specs.RunSteps.{run_state}
use Rattle.initiator_books.specs.declared.mine.MyAbort.{MyAbort}
use Rattle.initiator_books.specs.Mines.{my_aborts}
use Rattle.bus_trace.specs.declared.Row.{Row}
use Rattle.bus_trace.specs.declared.connection.Connection.{Connection}
use Rattle.bus_trace.specs.Phases.{changes_phase}
use Rattle.bus_trace.specs.Terms.{connection}
use Rattle.due_model.specs.dialogue_model.specs.declared.exchange.Hearing.{Hearing}
use Rattle.scenario.specs.declared.value.HostDef.{HostDef}
use Rattle.scenario.specs.Value.{ScenarioValue}
use Rattle.due_model.specs.dialogue_model.specs.Exchange as exchange
use Rattle.initiator_books.specs.scsi_device.specs.Itself.{ItselfValue, IsItselfOf}
use Rattle.initiator_books.specs.scsi_device.specs.Lines.{IsHostLine}
use Rattle.initiator_books.specs.declared.endings.CommandEnd.{CommandEnd}
use Rattle.initiator_books.specs.Endings.{AreEndingsOf}
use Rattle.initiator.specs.Received.{BufferPairValue, AreReceived, undoes_no_byte}
use Rattle.initiator_books.specs.Intents.{IntentValue, IsIntentOf}
use Rattle.initiator.specs.Negotiations.{NegotiationsValue, IsNegotiationsOf}
use Rattle.initiator.specs.OwnBytes.{CommandBytesValue, own_bytes}
use Rattle.initiator.specs.Speeches.{IsSpeechOf}
use Rattle.initiator.specs.Transfers.{TransfersValue, IsTransfersOf}

pub record HostValue : Type 0 where
  pub def : HostDef
  pub itself : ItselfValue
  pub intent : IntentValue
  pub negotiations : NegotiationsValue
  pub speech : exchange.Speech
  pub transfers : TransfersValue
  pub received : List BufferPairValue
  pub endings : List CommandEnd
  pub bytes : List CommandBytesValue

-- Its parts are of this initiator of the scenario, and each knows what these rows make known.
pub record IsHostAfter (s : ScenarioValue) (rows : List Row) (v : HostValue) : Type 0 where
  pub line : IsHostLine s v.def
  pub itself_dev : v.itself.dev ≡ v.def.dev
  pub intent_dev : v.intent.dev ≡ v.def.dev
  pub intent_retries : v.intent.retries ≡ v.def.retries
  pub negotiations_dev : v.negotiations.dev ≡ v.def.dev
  pub transfers_dev : v.transfers.dev ≡ v.def.dev
  pub itself_is : IsItselfOf s rows v.itself
  pub intent_is : IsIntentOf s rows v.intent
  pub negotiations_are : IsNegotiationsOf s rows v.negotiations
  pub speech_is : IsSpeechOf s rows v.def.dev v.speech
  pub transfers_are : IsTransfersOf s rows v.transfers
  -- where no row takes a byte of data back
  pub received_is : undoes_no_byte s rows ≡ true → AreReceived s rows v.def.dev v.received
  pub endings_are : AreEndingsOf s rows v.def.dev v.endings
  pub bytes_are : v.bytes ≡ own_bytes s v.def.dev

-- What it hears has gone on by a row: what it says, what it holds of its connection and its own processes, what came,
-- and with whom it may negotiate. The rest is that before the row.
pub record HasHeard (s : ScenarioValue) (rows : List Row) (row : Row) (v : HostValue) : Type 0 where
  pub negotiations_dev : v.negotiations.dev ≡ v.def.dev
  pub transfers_dev : v.transfers.dev ≡ v.def.dev
  pub negotiations_are : IsNegotiationsOf s (row ∷ rows) v.negotiations
  pub speech_is : IsSpeechOf s (row ∷ rows) v.def.dev v.speech
  pub transfers_are : IsTransfersOf s (row ∷ rows) v.transfers
  pub received_is : undoes_no_byte s (row ∷ rows) ≡ true → AreReceived s (row ∷ rows) v.def.dev v.received

-- A row in a connection tells an initiator nothing: RST is false, and in a connection of its own no byte crosses and
-- the phase stays.
abbrev pub is_of_others : ℕ → Connection → Connection → Bool
is_of_others dev m n = not (m.initiator == dev) && not (n.initiator == dev)

abbrev pub hears_nothing : ℕ → Hearing → Option Connection → Option Connection → Bool
hears_nothing dev h None after = false
hears_nothing dev h (Some m) None = false
hears_nothing dev h (Some m) (Some n) =
    not h.change.after.rst && (is_of_others dev m n || not (h.crosses || changes_phase h.change))

-- No connection stands of which this device is the target.
abbrev pub IsNeverCalled : List Row → ℕ → Type 0
IsNeverCalled rows dev = (n : Connection) → connection rows ≡ Some n → (n.target == dev) ≡ false

-- Each abort line of this initiator is sent, or dropped.
abbrev pub are_aborts_done : ScenarioValue → List Row → ℕ → Bool
are_aborts_done s rows dev = list_all (λ (a : MyAbort). a.done) (my_aborts (run_state s rows).story.sent dev 1 s.aborts)
