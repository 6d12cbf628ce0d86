-- The last message of a connection, by the phase: it tells that the connection ends where the target means to free the
-- bus, and not before (6.6.1 to 6.6.6).
use Rattle.std.specs.Prelude.{ℕ, ◌≡◌, ◌⊎◌, Bool, true, false, List, length, Some, ⊤}
use Rattle.due_model.specs.bus_base.specs.declared.ProcId.{ProcId}
use Rattle.due_model.specs.bus_trace.specs.declared.Row.{Row}
use Rattle.due_model.specs.bus_trace.specs.declared.connection.Connection.{Connection}
use Rattle.due_model.specs.bus_trace.specs.Terms.{connection}
use Rattle.due_model.specs.bus_trace.specs.Trace.{bus}
use Rattle.due_model.specs.msg_grammar.specs.declared.message.MsgIn.{MsgIn}
use Rattle.due_model.specs.scenario.specs.Value.{ScenarioValue}
use Rattle.due_model.specs.story_model.specs.Items.{process, abort}
use Rattle.due_model.specs.story_model.specs.Links.{Link, LastMessage, plain, complete, abortive}
use Rattle.due_model.specs.dialogue_model.specs.declared.exchange.Cause.{Cause}
use Rattle.due_model.specs.dialogue_model.specs.declared.exchange.Messages.{Messages}
use Rattle.due_model.specs.dialogue_model.specs.declared.exchange.Next.{Next}
use Rattle.due_model.specs.dialogue_model.specs.declared.exchange.Phase.{Phase}
use Rattle.due_model.specs.dialogue_model.specs.declared.exchange.Plan.{Plan}
use Rattle.due_model.specs.dialogue_model.specs.Exchange.{one_message, two_messages, bytes_of_messages}
use Rattle.due_model.specs.dialogue_model.specs.NextPhase.{phase_of}
use Rattle.due_model.specs.RunState.{RunState, bus_of}
use Rattle.due_model.specs.RunSteps.{run_state}
use Rattle.row_laws.specs.book_laws.specs.Giving.{OnMessages}
use Rattle.row_laws.specs.Tells.{IsClosing}
use Rattle.row_laws.specs.ItemTalks.{frees_bus}
use Rattle.row_laws.specs.DataPointers.{IsPlainIn}
use Rattle.due_model.specs.msg_grammar.specs.declared.message.MsgIn.TheVariants as to_initiator
use Rattle.due_model.specs.dialogue_model.specs.declared.exchange.Cause.TheVariants as causes
use Rattle.due_model.specs.dialogue_model.specs.declared.exchange.Phase.TheVariants as phases

-- ---- what is planned in MESSAGE IN

abbrev pub SaysEnd : MsgIn → Type 0
SaysEnd m = (m ≡ to_initiator.CommandComplete) ⊎ (m ≡ to_initiator.Disconnect)

-- No message tells that the connection ends; or the last of one or two does, after which the bus is freed.
pub data EndsWell (m : Messages) (next : Next) : Type 0 where
  stays : frees_bus next ≡ false → OnMessages IsPlainIn m → EndsWell m next
  closes : frees_bus next ≡ true → (x : MsgIn) → m ≡ one_message x → SaysEnd x → EndsWell m next
  saves : frees_bus next ≡ true → m ≡ two_messages to_initiator.SavePointer to_initiator.Disconnect → EndsWell m next

-- The last message tells that the command is complete exactly where COMMAND COMPLETE alone is said.
abbrev pub CompletesBy : Messages → LastMessage → Type 0
CompletesBy m last = (last ≡ complete → m ≡ one_message to_initiator.CommandComplete)
    × (m ≡ one_message to_initiator.CommandComplete → last ≡ complete)

-- So many bytes of them have crossed.
pub data LastGiven (l : Link) (m : Messages) (next : Next) (count : ℕ) : Type 0 where
  still_stays : frees_bus next ≡ false → OnMessages IsPlainIn m → l.last ≡ plain → LastGiven l m next count
  to_close : frees_bus next ≡ true → (x : MsgIn) → m ≡ one_message x → SaysEnd x → count ≡ 0 → l.last ≡ plain
      → LastGiven l m next count
  to_save : frees_bus next ≡ true → m ≡ two_messages to_initiator.SavePointer to_initiator.Disconnect
      → (count ≡ 0) ⊎ (count ≡ 1) → l.last ≡ plain → LastGiven l m next count
  closed : frees_bus next ≡ true → EndsWell m next → count ≡ length (bytes_of_messages m) → IsClosing l.last
      → CompletesBy m l.last → LastGiven l m next count

-- ---- of a process, by the phase

abbrev pub EndsWellIf : Plan → Cause → Type 0
EndsWellIf p causes.InMessage = EndsWell p.messages p.next
EndsWellIf p _ = ⊤

abbrev pub LastBy : Link → Plan → ℕ → Bool → Phase → Type 0
LastBy l p count is_last phases.MessageOut = (is_last ≡ true → l.last ≡ plain) × EndsWellIf p p.cause
LastBy l p count is_last phases.MessageIn = LastGiven l p.messages p.next count
LastBy l p count is_last _ = l.last ≡ plain

pub record LastTalk (k : RunState) (l : Link) : Type 0 where
  pub before : l.before ≡ plain
  pub unbegun : k.exchange.begun ≡ false → l.last ≡ plain
  pub begun : k.exchange.begun ≡ true
      → LastBy l k.exchange.plan k.handshakes.requests k.story.bus_state.dialogue.is_last (phase_of (bus_of k))

abbrev pub LastTalks : RunState → Type 0
LastTalks k = (l : Link) (id : ProcId) → k.story.link ≡ Some l → k.served ≡ Some (process id) → LastTalk k l

-- An abort is told with the last byte of its opening.
abbrev pub AbortTalks : RunState → Type 0
AbortTalks k = (l : Link) (m : ℕ) → k.story.link ≡ Some l → k.served ≡ Some (abort m) → k.exchange.begun ≡ true
    → k.story.bus_state.dialogue.is_last ≡ true → l.last ≡ abortive

abbrev pub LastFacts : ScenarioValue → List Row → Type 0
LastFacts s rows = (n : Connection) → connection rows ≡ Some n → (bus rows).rst ≡ false
    → LastTalks (run_state s rows) × AbortTalks (run_state s rows)
