-- What the target of a connection knows of the process that it serves is what the rows tell of it: whether it has a
-- reply, and by which code it fails; and the last message tells how the connection ends as the target means it. So each
-- end shows the events that the rows show (6.1.6, 6.6, 7.3).
use Rattle.std.specs.Prelude.{ℕ, ◌≡◌, ◌⊎◌, Bool, true, false, List, ◌∷◌, Option, Some, None, is_some, ⊤}
use Rattle.due_model.specs.bus_base.specs.declared.ProcId.{ProcId}
use Rattle.due_model.specs.bus_trace.specs.declared.connection.Connection.{Connection}
use Rattle.due_model.specs.cdb_codec.specs.declared.sense.TheConstants.{PARITY_ERROR, INITIATOR_DETECTED_ERROR}
use Rattle.due_model.specs.scenario.specs.declared.value.AbortDef.{AbortDef}
use Rattle.due_model.specs.scenario.specs.Value.{ScenarioValue}
use Rattle.due_model.specs.array_model.specs.ArrayHistory.{reply_in}
use Rattle.due_model.specs.array_model.specs.Processes.{Process, process_of}
use Rattle.due_model.specs.story_model.specs.CarriedBytes.{CarriedBytes}
use Rattle.due_model.specs.story_model.specs.HistoryEvents.{abort_line_at}
use Rattle.due_model.specs.story_model.specs.Items.{process, abort}
use Rattle.due_model.specs.story_model.specs.Links.{Link, LastMessage, plain, complete, disconnect, abortive}
use Rattle.due_model.specs.dialogue_model.specs.declared.exchange.Cause.{Cause}
use Rattle.due_model.specs.dialogue_model.specs.declared.exchange.Next.{Next}
use Rattle.due_model.specs.dialogue_model.specs.declared.exchange.Phase.{Phase}
use Rattle.due_model.specs.dialogue_model.specs.declared.exchange.Plan.{Plan}
use Rattle.due_model.specs.dialogue_model.specs.NextPhase.{phase_of}
use Rattle.due_model.specs.dialogue_model.specs.Words.{is_naming}
use Rattle.due_model.specs.RunState.{RunState, bus_of, array_of, carried_here, item_of}
use Rattle.due_model.specs.bus_trace.specs.declared.Row.{Row}
use Rattle.due_model.specs.bus_trace.specs.Phases.{changes_phase}
use Rattle.due_model.specs.bus_trace.specs.Terms.{connection}
use Rattle.due_model.specs.bus_trace.specs.Trace.{bus}
use Rattle.due_model.specs.story_model.specs.BusState.{row_reading}
use Rattle.due_model.specs.RunSteps.{run_state}
use Rattle.due_model.specs.msg_grammar.specs.declared.message.MsgOut.{MsgOut}
use Rattle.due_model.specs.story_model.specs.TraceHistory.{is_parity_error}
use Rattle.due_model.specs.msg_grammar.specs.declared.message.MsgIn.{MsgIn}
use Rattle.row_laws.specs.DataPointers.{is_marked}
use Rattle.due_model.specs.dialogue_model.specs.declared.exchange.Cause.TheVariants as causes
use Rattle.due_model.specs.dialogue_model.specs.declared.exchange.Next.TheVariants as nexts
use Rattle.due_model.specs.dialogue_model.specs.declared.exchange.Phase.TheVariants as phases
use Rattle.due_model.specs.msg_grammar.specs.declared.message.MsgIn.TheVariants as to_initiator

-- ---- replies

-- The plain disk array has a reply of a process exactly where the rows have shown one.
abbrev pub AreRepliesShown : ScenarioValue → RunState → Type 0
AreRepliesShown s k = (id : ProcId) → is_some (reply_in (array_of s k).replies id) ≡ is_marked (carried_here k id)

-- ---- the code of a failure, as the present phase is left

abbrev pub code_if : Bool → ℕ → Option ℕ
code_if true code = Some code
code_if false code = None

abbrev pub FailsAsked : CarriedBytes → Cause → Type 0
FailsAsked c causes.InData = c.failure ≡ Some INITIATOR_DETECTED_ERROR
FailsAsked c _ = ⊤

abbrev pub FailsBefore : CarriedBytes → Next → Type 0
FailsBefore c nexts.GoOn = c.failure ≡ None
FailsBefore c nexts.Status = is_marked c ≡ true
FailsBefore c _ = ⊤

-- A struck byte of COMMAND and DATA OUT is known to the target; one of DATA IN to the initiator, which raises ATN
-- (6.6.10).
abbrev pub FailsIn : Plan → Bool → CarriedBytes → Phase → Type 0
FailsIn l attention c phases.Command = (c.struck ≡ l.struck) × (c.failure ≡ code_if l.struck PARITY_ERROR)
FailsIn l attention c phases.DataOut = c.failure ≡ code_if l.struck PARITY_ERROR
FailsIn l attention c phases.DataIn = attention ≡ false → c.failure ≡ None
FailsIn l attention c phases.MessageOut = FailsAsked c l.cause
FailsIn l attention c phases.MessageIn = attention ≡ false → FailsBefore c l.next
FailsIn l attention c phases.Status = ⊤

-- ---- the last message, as the connection ends

abbrev pub IsClosing : LastMessage → Type 0
IsClosing last = (last ≡ complete) ⊎ (last ≡ disconnect)

abbrev pub LastAsked : Plan → LastMessage → Cause → Type 0
LastAsked l last causes.Selected = is_some l.said.aborts ≡ true → last ≡ abortive
LastAsked l last causes.InMessage = last ≡ plain
LastAsked l last causes.InStatus = last ≡ plain
LastAsked l last causes.InData = ⊤

abbrev pub LastIn : Plan → Bool → LastMessage → Phase → Type 0
LastIn l attention last phases.MessageOut = LastAsked l last l.cause
LastIn l attention last phases.MessageIn = attention ≡ false → l.next ≡ nexts.FreeBus → IsClosing last
LastIn l attention last _ = ⊤

-- ---- what is served

-- A process of the scenario; or an abort of the two ends, all of whose connection is MESSAGE OUT.
pub data IsServed (s : ScenarioValue) (k : RunState) (n : Connection) : Type 0 where
  of_process : (id : ProcId) (c : Process) → k.served ≡ Some (process id) → process_of s id ≡ Some c → IsServed s k n
  of_abort : (m : ℕ) (a : AbortDef) → k.served ≡ Some (abort m) → abort_line_at s.aborts m ≡ Some a
      → a.host ≡ n.initiator → a.target ≡ n.target → n.reselected ≡ false → (k.exchange.begun ≡ true
      → (phase_of (bus_of k) ≡ phases.MessageOut) × (k.exchange.plan.cause ≡ causes.Selected)) → IsServed s k n

-- ---- a connection, as its present phase is left

pub record Tells (s : ScenarioValue) (k : RunState) (n : Connection) : Type 0 where
  pub served : IsServed s k n
  pub failure : (id : ProcId) → item_of k.story.link ≡ Some (process id)
      → FailsIn k.exchange.plan (bus_of k).atn (carried_here k id) (phase_of (bus_of k))
  -- names that were struck are said again without limit (6.6.13)
  pub naming : item_of k.story.link ≡ None → ((phase_of (bus_of k) ≡ phases.MessageOut)
      × (k.exchange.plan.cause ≡ causes.InMessage) × (is_naming k.exchange.plan.messages.first ≡ true))
      ⊎ ((phase_of (bus_of k) ≡ phases.MessageIn) × ((bus_of k).atn ≡ true))
  pub last : (l : Link) → k.story.link ≡ Some l → LastIn k.exchange.plan (bus_of k).atn l.last (phase_of (bus_of k))

-- The present phase of a connection, which has begun, is left with the row, or the connection ends.
pub record IsLeaving (s : ScenarioValue) (rows : List Row) (row : Row) (n : Connection) : Type 0 where
  pub stands : connection rows ≡ Some n
  pub calm : (bus rows).rst ≡ false
  pub calm_after : (bus (row ∷ rows)).rst ≡ false
  pub begun : (run_state s rows).exchange.begun ≡ true
  pub leaves : (changes_phase (row_reading (run_state s rows).story.bus_state row).change ≡ true)
      ⊎ ((row_reading (run_state s rows).story.bus_state row).next ≡ None)

abbrev pub TellsAsLeft : ScenarioValue → List Row → Row → Type 0
TellsAsLeft s rows row = (n : Connection) → IsLeaving s rows row n → Tells s (run_state s rows) n

-- What MESSAGE PARITY ERROR brings back with the row agrees in this with what the process has (6.6.13).
abbrev pub UndoesSame : {A : Type 0} → (CarriedBytes → A) → RunState → Row → Type 0
UndoesSame what k row = (l : Link) (m : MsgOut) (u : CarriedBytes) → k.story.link ≡ Some l
    → (row_reading k.story.bus_state row).out ≡ Some m → is_parity_error m ≡ true → l.undo ≡ Some u
    → what u ≡ what (carried_here k u.id)

-- It has an answer exactly where the process has one.
abbrev pub UndoesAnswers : RunState → Row → Type 0
UndoesAnswers k row = UndoesSame is_marked k row

-- ---- what is still asked of a row

-- As a phase is left for which the initiator knows the process, the code of its failure is as the target knows it.
abbrev pub FailsAsLeft : ScenarioValue → List Row → Row → Type 0
FailsAsLeft s rows row =
    (n : Connection) (id : ProcId) → IsLeaving s rows row n → item_of (run_state s rows).story.link ≡ Some (process id)
    → FailsIn (run_state s rows).exchange.plan (bus_of (run_state s rows)).atn (carried_here (run_state s rows) id)
    (phase_of (bus_of (run_state s rows)))

-- ---- where MESSAGE PARITY ERROR may come, what it brings back agrees with what the process has

abbrev pub UndoFits : {A : Type 0} → (CarriedBytes → A) → RunState → Type 0
UndoFits what k =
    (l : Link) (u : CarriedBytes) → k.story.link ≡ Some l → l.undo ≡ Some u → what u ≡ what (carried_here k u.id)

-- After COMMAND the first message is one of one byte, with which nothing older can be brought back.
abbrev pub is_short : Option MsgIn → Bool
is_short (Some to_initiator.CommandComplete) = true
is_short (Some to_initiator.SavePointer) = true
is_short (Some to_initiator.RestorePointers) = true
is_short (Some to_initiator.Disconnect) = true
is_short _ = false

abbrev pub UndoAsked : Type 0 → Cause → Type 0
UndoAsked fits causes.Selected = fits
UndoAsked fits causes.InMessage = fits
UndoAsked fits causes.InData = ⊤
UndoAsked fits causes.InStatus = ⊤

abbrev pub UndoBy : Type 0 → Plan → ℕ → Phase → Type 0
UndoBy fits l requests phases.MessageOut = UndoAsked fits l.cause
UndoBy fits l requests phases.MessageIn = fits ⊎ ((requests ≡ 0) × (is_short l.messages.first ≡ true))
UndoBy fits l requests _ = ⊤

pub record UndoBooks {A : Type 0} (what : CarriedBytes → A) (k : RunState) : Type 0 where
  pub unbegun : k.exchange.begun ≡ false → UndoFits what k
  pub begun : k.exchange.begun ≡ true
      → UndoBy (UndoFits what k) k.exchange.plan k.handshakes.requests (phase_of (bus_of k))

abbrev pub UndoFacts : {A : Type 0} → (CarriedBytes → A) → ScenarioValue → List Row → Type 0
UndoFacts what s rows =
    (n : Connection) → connection rows ≡ Some n → (bus rows).rst ≡ false → UndoBooks what (run_state s rows)

abbrev pub ServedFacts : ScenarioValue → List Row → Type 0
ServedFacts s rows =
    (n : Connection) → connection rows ≡ Some n → (bus rows).rst ≡ false → IsServed s (run_state s rows) n
