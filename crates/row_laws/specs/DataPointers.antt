-- Where the data pointers of processes stand (6.6.6, 6.6.19, 6.6.20): between connections the saved one at the
-- beginning of the next run; in a connection as the messages that are on their way will set it; in DATA OUT as far in
-- the run as bytes were answered, in DATA IN as bytes were asked for.
use Rattle.std.specs.Prelude.{ℕ, ◌+◌, ◌*◌, ◌≡◌, ◌⊎◌, Bool, true, false, ◌||◌, Option, Some, None, ⊤}
use Rattle.due_model.specs.bus_base.specs.declared.ProcId.{ProcId}
use Rattle.due_model.specs.bus_trace.specs.declared.connection.Connection.{Connection}
use Rattle.due_model.specs.msg_grammar.specs.declared.message.MsgIn.{MsgIn}
use Rattle.due_model.specs.scenario.specs.declared.value.Policy.{Policy}
use Rattle.due_model.specs.scenario.specs.Value.{ScenarioValue}
use Rattle.due_model.specs.array_model.specs.Order.{range_named}
use Rattle.due_model.specs.array_model.specs.Processes.{Process}
use Rattle.due_model.specs.array_model.specs.Units.{starting_array, unit_state_at}
use Rattle.due_model.specs.story_model.specs.CarriedBytes.{Area, CarriedBytes}
use Rattle.due_model.specs.story_model.specs.Items.{process, has_item}
use Rattle.due_model.specs.story_model.specs.Links.{Link, plain, last_in}
use Rattle.due_model.specs.dialogue_model.specs.declared.exchange.Cause.{Cause}
use Rattle.due_model.specs.dialogue_model.specs.declared.exchange.Messages.{Messages}
use Rattle.due_model.specs.dialogue_model.specs.declared.exchange.Next.{Next}
use Rattle.due_model.specs.dialogue_model.specs.declared.exchange.Phase.{Phase}
use Rattle.due_model.specs.dialogue_model.specs.declared.exchange.Plan.{Plan}
use Rattle.due_model.specs.dialogue_model.specs.Arrivals.{is_never}
use Rattle.due_model.specs.dialogue_model.specs.Exchange.{Exchange, one_message, two_messages}
use Rattle.due_model.specs.bus_lines.specs.Handshakes.{Handshakes}
use Rattle.due_model.specs.bus_trace.specs.LineSet.{LineSet}
use Rattle.due_model.specs.dialogue_model.specs.NextPhase.{phase_of}
use Rattle.due_model.specs.dialogue_model.specs.Words.{parity_error}
use Rattle.due_model.specs.story_model.specs.TraceHistory.{aim_of}
use Rattle.due_model.specs.dialogue_model.specs.Wants.{Ready}
use Rattle.due_model.specs.Wants.{ready_of}
use Rattle.due_model.specs.LastingState.{progress_in}
use Rattle.due_model.specs.RunState.{RunState, bus_of, carried_here}
use Rattle.due_model.specs.Tasks.{size_of, blocks_in}
use Rattle.book_laws.specs.Giving.{OnMessages}
use Rattle.book_laws.specs.Knowing.{IsNoName}
use Rattle.book_laws.specs.Accounts.{policy_for}
use Rattle.due_model.specs.msg_grammar.specs.declared.message.MsgIn.TheVariants as to_initiator
use Rattle.due_model.specs.scenario.specs.declared.value.Policy.TheVariants as policies
use Rattle.due_model.specs.dialogue_model.specs.declared.exchange.Cause.TheVariants as causes
use Rattle.due_model.specs.dialogue_model.specs.declared.exchange.Next.TheVariants as nexts
use Rattle.due_model.specs.dialogue_model.specs.declared.exchange.Phase.TheVariants as phases

-- ---- the beginning of a run

-- Only reads and writes of blocks are cut into runs by the policy of the target.
abbrev pub policy_by : Policy → Option ℕ → Policy
policy_by policy None = policies.Never
policy_by policy (Some blocks) = policy

abbrev pub run_policy : ScenarioValue → Process → Policy
run_policy s p = policy_by (policy_for s p) (blocks_in (range_named p))

-- How far a run begins after that before it.
abbrev pub step_by : Policy → ℕ → ℕ
step_by policies.Never size = 0
step_by policies.Command size = 0
step_by (policies.Burst most) size = most * size
step_by (policies.NoSave most) size = 0

abbrev pub step_in : Policy → Option ℕ → ℕ → ℕ
step_in policy None size = 0
step_in policy (Some blocks) size = step_by policy size

-- Of a process, by the blocks of its unit.
abbrev pub run_step : ScenarioValue → Process → ℕ
run_step s p = step_in (policy_for s p) (blocks_in (range_named p))
    (size_of (unit_state_at (starting_array s).units p.target p.unit))

-- Where its next run begins.
abbrev pub run_start : ScenarioValue → RunState → Process → ℕ
run_start s k p = (progress_in k.progress p.id).runs * run_step s p

-- ---- what is carried

abbrev pub is_marked : CarriedBytes → Bool
is_marked c = c.shown || c.refused

pub record IsAt (a : Area) (at : ℕ) : Type 0 where
  pub active : a.active ≡ at
  pub saved : a.saved ≡ at

-- So is what MESSAGE PARITY ERROR would bring back, if anything.
abbrev pub OnUndo : (CarriedBytes → Type 0) → Option CarriedBytes → Type 0
OnUndo q None = ⊤
OnUndo q (Some c) = q c

-- ---- messages

abbrev pub IsPlainIn : MsgIn → Type 0
IsPlainIn m = last_in m ≡ plain

-- The target never disconnects, or no message tells that the connection ends.
abbrev pub IsUndisturbed : Policy → Link → Type 0
IsUndisturbed policy l = (is_never policy ≡ true) ⊎ ((l.last ≡ plain) × (l.before ≡ plain))

-- Both pointers stand at the beginning of the run, whatever messages come.
pub record IsCalm (policy : Policy) (l : Link) (c : CarriedBytes) (m : Messages) (next : Next) (start : ℕ) : Type
    0 where
  pub here : IsAt c.moved start
  pub undone : OnUndo (λ (u : CarriedBytes). IsAt u.moved start) l.undo
  pub plain : ((next ≡ nexts.GoOn) × IsUndisturbed policy l × OnMessages IsPlainIn m)
      ⊎ ((next ≡ nexts.GoOn → ⊥) × OnMessages IsNoName m)

abbrev pub IsClosing : Next → Type 0
IsClosing next = (next ≡ nexts.Status) ⊎ (next ≡ nexts.FreeBus)

abbrev pub IsOfStatus : Messages → Type 0
IsOfStatus m = (m ≡ one_message to_initiator.CommandComplete) ⊎ (m ≡ one_message to_initiator.RestorePointers)

-- In MESSAGE IN, so many bytes of which have crossed.
pub data PointersIn (policy : Policy) (l : Link) (c : CarriedBytes) (m : Messages) (next : Next) (count start : ℕ) :
    Type 0 where
  calm : IsCalm policy l c m next start → PointersIn policy l c m next count start
  restores : m ≡ one_message to_initiator.RestorePointers
      → next ≡ nexts.GoOn → IsUndisturbed policy l → c.moved.saved ≡ start
      → (count ≡ 0) ⊎ ((c.moved.active ≡ start) × OnUndo (λ (u : CarriedBytes). u.moved.saved ≡ start) l.undo)
      → PointersIn policy l c m next count start
  saves : m ≡ two_messages to_initiator.SavePointer to_initiator.Disconnect → next ≡ nexts.FreeBus → l.last ≡ plain
      → count ≡ 0 → c.moved.active ≡ start → PointersIn policy l c m next count start
  saved : m ≡ two_messages to_initiator.SavePointer to_initiator.Disconnect → next ≡ nexts.FreeBus → l.last ≡ plain
      → l.before ≡ plain → count ≡ 1 → IsAt c.moved start → OnUndo (λ (u : CarriedBytes). u.moved.active ≡ start) l.undo
      → PointersIn policy l c m next count start
  disconnects : m ≡ one_message to_initiator.Disconnect → next ≡ nexts.FreeBus → c.moved.saved ≡ start
      → (count ≡ 0) ⊎ OnUndo (λ (u : CarriedBytes). u.moved.saved ≡ start) l.undo
      → PointersIn policy l c m next count start
  closes : IsOfStatus m → IsClosing next → is_marked c ≡ true
      → (count ≡ 0) ⊎ OnUndo (λ (u : CarriedBytes). is_marked u ≡ true) l.undo
      → PointersIn policy l c m next count start

-- In a MESSAGE OUT that answers them these messages come again.
pub data PointersRefused (policy : Policy) (l : Link) (c : CarriedBytes) (m : Messages) (next : Next) (start : ℕ) : Type
    0 where
  still_calm : IsCalm policy l c m next start → PointersRefused policy l c m next start
  restores_again : m ≡ one_message to_initiator.RestorePointers → next ≡ nexts.GoOn → IsUndisturbed policy l
      → c.moved.saved ≡ start → OnUndo (λ (u : CarriedBytes). u.moved.saved ≡ start) l.undo
      → PointersRefused policy l c m next start
  saves_again : m ≡ two_messages to_initiator.SavePointer to_initiator.Disconnect
      → next ≡ nexts.FreeBus → l.last ≡ plain → l.before ≡ plain → c.moved.active ≡ start
      → OnUndo (λ (u : CarriedBytes). u.moved.active ≡ start) l.undo → PointersRefused policy l c m next start
  disconnects_again : m ≡ one_message to_initiator.Disconnect → next ≡ nexts.FreeBus → c.moved.saved ≡ start
      → OnUndo (λ (u : CarriedBytes). u.moved.saved ≡ start) l.undo → PointersRefused policy l c m next start
  closes_again : IsOfStatus m → IsClosing next → is_marked c ≡ true
      → OnUndo (λ (u : CarriedBytes). is_marked u ≡ true) l.undo → PointersRefused policy l c m next start

-- ---- in a connection whose initiator knows the process

pub record IsSettled (l : Link) (c : CarriedBytes) (start : ℕ) : Type 0 where
  pub here : IsAt c.moved start
  pub undone : OnUndo (λ (u : CarriedBytes). IsAt u.moved start) l.undo

pub record IsInRun (policy : Policy) (l : Link) (c : CarriedBytes) (count start : ℕ) : Type 0 where
  pub plain : IsUndisturbed policy l
  pub active : c.moved.active ≡ start + count
  pub saved : c.moved.saved ≡ start

-- After DATA IN the run comes again.
abbrev pub PointersAsked : Policy → Link → CarriedBytes → Plan → ℕ → Cause → Type 0
PointersAsked policy l c p start causes.Selected = IsSettled l c start
PointersAsked policy l c p start causes.InMessage = PointersRefused policy l c p.messages p.next start
PointersAsked policy l c p start causes.InData = IsUndisturbed policy l × (c.moved.saved ≡ start)
PointersAsked policy l c p start causes.InStatus = is_marked c ≡ true

abbrev pub PointersOf : Policy → Link → CarriedBytes → Plan → Handshakes → ℕ → Phase → Type 0
PointersOf policy l c p h start phases.Command = IsSettled l c start
PointersOf policy l c p h start phases.DataOut = IsInRun policy l c h.answers start
PointersOf policy l c p h start phases.DataIn = IsInRun policy l c h.requests start
PointersOf policy l c p h start phases.Status = is_marked c ≡ true
PointersOf policy l c p h start phases.MessageIn = PointersIn policy l c p.messages p.next h.requests start
PointersOf policy l c p h start phases.MessageOut = PointersAsked policy l c p start p.cause

-- Once a phase has begun.
abbrev pub PointersIf : Bool → Policy → Link → CarriedBytes → Plan → Handshakes → ℕ → Phase → Type 0
PointersIf false policy l c p h start phase = IsSettled l c start
PointersIf true policy l c p h start phase = PointersOf policy l c p h start phase

abbrev pub PointersBy : Policy → Link → CarriedBytes → Exchange → Handshakes → LineSet → ℕ → Type 0
PointersBy policy l c x h b start = PointersIf x.begun policy l c x.plan h start (phase_of b)

-- ---- before it has heard a name after a reselection

pub record IsUnnamed (policy : Policy) (l : Link) (c : CarriedBytes) (x : Exchange) (b : LineSet) (start : ℕ) : Type
    0 where
  pub begun : x.begun ≡ true
  pub undone : OnUndo (λ (u : CarriedBytes). u.moved.saved ≡ start) l.undo
  pub undisturbed : IsUndisturbed policy l
  pub next : x.plan.next ≡ nexts.GoOn
  pub plain : OnMessages IsPlainIn x.plan.messages
  pub saved : c.moved.saved ≡ start
  pub phase : (phase_of b ≡ phases.MessageIn) ⊎ ((phase_of b ≡ phases.MessageOut) × (x.plan.cause ≡ causes.InMessage))

pub data ServedPointers (s : ScenarioValue) (k : RunState) (q : Process) : Type 0 where
  unnamed : (l : Link) → k.story.link ≡ Some l → l.item ≡ None
      → IsUnnamed (run_policy s q) l (carried_here k q.id) k.exchange (bus_of k) (run_start s k q)
      → ServedPointers s k q
  named : (l : Link) → k.story.link ≡ Some l → l.item ≡ Some (process q.id)
      → PointersBy (run_policy s q) l (carried_here k q.id) k.exchange k.handshakes (bus_of k) (run_start s k q)
      → ServedPointers s k q

-- ---- outside a connection

-- Of a process that is not over and has shown no reply.
pub record IsWaiting (s : ScenarioValue) (k : RunState) (q : Process) : Type 0 where
  pub saved : has_item k.story.sent.over (process q.id) ≡ false → is_marked (carried_here k q.id) ≡ false
      → (carried_here k q.id).moved.saved ≡ run_start s k q

-- ---- in every connection

-- What MESSAGE PARITY ERROR would bring back is of the process that is served.
abbrev pub UndoesServed : RunState → Type 0
UndoesServed k =
    (l : Link) (u : CarriedBytes) → k.story.link ≡ Some l → l.undo ≡ Some u → k.served ≡ Some (process u.id)

-- Where COMMAND does not follow, no request is answered.
abbrev pub RefusesLater : RunState → Type 0
RefusesLater k =
    k.exchange.begun ≡ true → phase_of (bus_of k) ≡ phases.MessageOut → k.exchange.plan.cause ≡ causes.InMessage
    → (k.exchange.plan.next ≡ nexts.Command) ⊎ (k.exchange.speech.words ≡ parity_error)

-- ---- as a connection begins

-- Its process is neither over nor has shown a reply.
pub record IsServedAnew (s : ScenarioValue) (k : RunState) (n : Connection) : Type 0 where
  pub selects : n.reselected ≡ false → (id : ProcId) → aim_of k.story.aims n.initiator ≡ Some (process id)
      → (has_item k.story.sent.over (process id) ≡ false) × (is_marked (carried_here k id) ≡ false)
  pub reselects : n.reselected ≡ true → (r : Ready) → ready_of s k n.target ≡ Some r
      → (has_item k.story.sent.over (process r.process.id) ≡ false) × (is_marked (carried_here k r.process.id) ≡ false)
