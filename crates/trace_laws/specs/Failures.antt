-- The code of the failure of the process that is served, by the phase: in COMMAND and DATA OUT it is that of a struck
-- byte, after DATA IN that of the initiator's complaint, and RESTORE POINTERS takes it away (6.6.10, 6.6.19).
use Rattle.std.specs.Prelude.{ℕ, ◌≡◌, ◌⊎◌, true, false, List, Option, Some, None, ⊤}
use Rattle.due_model.specs.bus_base.specs.declared.ProcId.{ProcId}
use Rattle.due_model.specs.bus_trace.specs.declared.Row.{Row}
use Rattle.due_model.specs.bus_trace.specs.declared.connection.Connection.{Connection}
use Rattle.due_model.specs.bus_trace.specs.Terms.{connection}
use Rattle.due_model.specs.bus_trace.specs.Trace.{bus}
use Rattle.due_model.specs.cdb_codec.specs.declared.sense.TheConstants.{PARITY_ERROR, INITIATOR_DETECTED_ERROR}
use Rattle.due_model.specs.scenario.specs.Value.{ScenarioValue}
use Rattle.due_model.specs.story_model.specs.CarriedBytes.{CarriedBytes}
use Rattle.due_model.specs.story_model.specs.Items.{process}
use Rattle.due_model.specs.story_model.specs.Links.{Link}
use Rattle.due_model.specs.dialogue_model.specs.declared.exchange.Cause.{Cause}
use Rattle.due_model.specs.dialogue_model.specs.declared.exchange.Messages.{Messages}
use Rattle.due_model.specs.dialogue_model.specs.declared.exchange.Next.{Next}
use Rattle.due_model.specs.dialogue_model.specs.declared.exchange.Phase.{Phase}
use Rattle.due_model.specs.dialogue_model.specs.declared.exchange.Plan.{Plan}
use Rattle.due_model.specs.dialogue_model.specs.Exchange.{one_message}
use Rattle.due_model.specs.dialogue_model.specs.NextPhase.{phase_of}
use Rattle.due_model.specs.dialogue_model.specs.Words.{parity_error}
use Rattle.due_model.specs.RunState.{RunState, bus_of, carried_here}
use Rattle.due_model.specs.RunSteps.{run_state}
use Rattle.story_laws.specs.row_laws.specs.Tells.{code_if, is_short, IsLeaving}
use Rattle.story_laws.specs.row_laws.specs.DataPointers.{is_marked}
use Rattle.due_model.specs.msg_grammar.specs.declared.message.MsgIn.TheVariants as to_initiator
use Rattle.due_model.specs.dialogue_model.specs.declared.exchange.Cause.TheVariants as causes
use Rattle.due_model.specs.dialogue_model.specs.declared.exchange.Next.TheVariants as nexts
use Rattle.due_model.specs.dialogue_model.specs.declared.exchange.Phase.TheVariants as phases

-- Nothing has struck it.
pub record IsClear (c : CarriedBytes) : Type 0 where
  pub failure : c.failure ≡ None
  pub struck : c.struck ≡ false

abbrev pub UndoesClear : Option CarriedBytes → Type 0
UndoesClear None = ⊤
UndoesClear (Some u) = IsClear u

-- ---- in MESSAGE IN before COMMAND and data, and in MESSAGE OUT that answers it

pub data ClearIn (l : Link) (c : CarriedBytes) (m : Messages) (count : ℕ) : Type 0 where
  clear : IsClear c → UndoesClear l.undo ⊎ ((count ≡ 0) × (is_short m.first ≡ true)) → ClearIn l c m count
  restores : m ≡ one_message to_initiator.RestorePointers → (count ≡ 0) ⊎ IsClear c → ClearIn l c m count

pub data ClearOut (l : Link) (c : CarriedBytes) (m : Messages) (words : List ℕ) : Type 0 where
  still_clear : IsClear c → UndoesClear l.undo → ClearOut l c m words
  restores_again : m ≡ one_message to_initiator.RestorePointers → (words ≡ parity_error) ⊎ IsClear c
      → ClearOut l c m words

-- Before the bus is freed the process is over, or goes on later with nothing that struck it.
abbrev pub GivesFailure : Link → CarriedBytes → Plan → ℕ → Next → Type 0
GivesFailure l c p count nexts.Command = ClearIn l c p.messages count
GivesFailure l c p count nexts.GoOn = ClearIn l c p.messages count
GivesFailure l c p count nexts.Status = is_marked c ≡ true
GivesFailure l c p count nexts.FreeBus = (is_marked c ≡ true) ⊎ ClearIn l c p.messages count

abbrev pub RefusesFailure : Link → CarriedBytes → Plan → List ℕ → Next → Type 0
RefusesFailure l c p words nexts.Command = ClearOut l c p.messages words
RefusesFailure l c p words nexts.GoOn = ClearOut l c p.messages words
RefusesFailure l c p words nexts.Status = is_marked c ≡ true
RefusesFailure l c p words nexts.FreeBus = (is_marked c ≡ true) ⊎ ClearOut l c p.messages words

abbrev pub SaysFailure : Link → CarriedBytes → Plan → List ℕ → Cause → Type 0
SaysFailure l c p words causes.Selected = IsClear c × UndoesClear l.undo
SaysFailure l c p words causes.InMessage = RefusesFailure l c p words p.next
SaysFailure l c p words causes.InData = c.failure ≡ Some INITIATOR_DETECTED_ERROR
SaysFailure l c p words causes.InStatus = is_marked c ≡ true

-- ---- by the phase

abbrev pub FailsBy : Link → CarriedBytes → Plan → List ℕ → ℕ → Phase → Type 0
FailsBy l c p words count phases.MessageOut = SaysFailure l c p words p.cause
FailsBy l c p words count phases.MessageIn = GivesFailure l c p count p.next
FailsBy l c p words count phases.Command = (c.struck ≡ p.struck) × (c.failure ≡ code_if p.struck PARITY_ERROR)
FailsBy l c p words count phases.DataOut = (c.struck ≡ false) × (c.failure ≡ code_if p.struck PARITY_ERROR)
FailsBy l c p words count phases.DataIn = c.struck ≡ false
FailsBy l c p words count phases.Status = is_marked c ≡ true

pub record FailTalk (k : RunState) (l : Link) (c : CarriedBytes) : Type 0 where
  pub unbegun : k.exchange.begun ≡ false → IsClear c × UndoesClear l.undo
  pub begun : k.exchange.begun ≡ true
      → FailsBy l c k.exchange.plan k.exchange.speech.words k.handshakes.requests (phase_of (bus_of k))

abbrev pub FailTalks : RunState → Type 0
FailTalks k =
    (l : Link) (id : ProcId) → k.story.link ≡ Some l → k.served ≡ Some (process id) → FailTalk k l (carried_here k id)

abbrev pub FailFacts : ScenarioValue → List Row → Type 0
FailFacts s rows = (n : Connection) → connection rows ≡ Some n → (bus rows).rst ≡ false → FailTalks (run_state s rows)

-- As DATA IN is left, the initiator has raised ATN where a byte was struck, and only there (6.6.10).
abbrev pub SentAsLeft : ScenarioValue → List Row → Row → Type 0
SentAsLeft s rows row = (n : Connection) (id : ProcId) → IsLeaving s rows row n
    → (run_state s rows).served ≡ Some (process id) → phase_of (bus_of (run_state s rows)) ≡ phases.DataIn
    → (carried_here (run_state s rows) id).failure ≡ code_if (bus_of (run_state s rows)).atn INITIATOR_DETECTED_ERROR
