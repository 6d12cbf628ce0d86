-- Where the process that a target serves stands in the plain disk array, by the phase of its connection; and where the
-- others stand (6.1.5, 6.6.6, 7.5, 7.8).
use Rattle.std.specs.Prelude.{◌≡◌, ◌⊎◌, ◌≤◌, Bool, true, false, not, ◌||◌, ◌==◌, List, [], ◌∷◌, Option, Some, None}
use Rattle.std.specs.Prelude.{is_some, ⊤}
use Rattle.std.specs.List.{list_any}
use Rattle.due_model.specs.bus_base.specs.declared.ProcId.{ProcId}
use Rattle.due_model.specs.cdb_codec.specs.Cdb.{command_of}
use Rattle.due_model.specs.bus_lines.specs.Handshakes.{Handshakes}
use Rattle.due_model.specs.array_model.specs.ArrayHistory.{reply_in}
use Rattle.due_model.specs.array_model.specs.Execution.{Reply, is_request_sense}
use Rattle.due_model.specs.array_model.specs.Processes.{Process, process_of, same_id}
use Rattle.due_model.specs.array_model.specs.SoundArray.{IsSound}
use Rattle.due_model.specs.array_model.specs.Steps.{process_count, running_if, running_process, has_ended}
use Rattle.due_model.specs.array_model.specs.Units.{RunningProcess, UnitState, Array, unit_state_at, guest_at, is_held}
use Rattle.due_model.specs.array_model.specs.Units.{without_reply}
use Rattle.due_model.specs.dialogue_model.specs.declared.exchange.Cause.{Cause}
use Rattle.due_model.specs.dialogue_model.specs.declared.exchange.Messages.{Messages}
use Rattle.due_model.specs.dialogue_model.specs.declared.exchange.Next.{Next}
use Rattle.due_model.specs.dialogue_model.specs.declared.exchange.Phase.{Phase}
use Rattle.due_model.specs.dialogue_model.specs.declared.exchange.Plan.{Plan}
use Rattle.due_model.specs.dialogue_model.specs.Exchange.{one_message}
use Rattle.due_model.specs.dialogue_model.specs.NextPhase.{phase_of}
use Rattle.due_model.specs.bus_trace.specs.declared.Row.{Row}
use Rattle.due_model.specs.bus_trace.specs.declared.connection.Connection.{Connection}
use Rattle.due_model.specs.scenario.specs.Value.{ScenarioValue}
use Rattle.due_model.specs.story_model.specs.Items.{process, has_item}
use Rattle.due_model.specs.RunState.{RunState, bus_of, process_served}
use Rattle.due_model.specs.RunSteps.{run_state}
use Rattle.book_laws.specs.Accounts.{is_served_by}
use Rattle.row_laws.specs.ItemTalks.{is_complete_in}
use Rattle.due_model.specs.msg_grammar.specs.declared.message.MsgIn.TheVariants as to_initiator
use Rattle.due_model.specs.dialogue_model.specs.declared.exchange.Cause.TheVariants as causes
use Rattle.due_model.specs.dialogue_model.specs.declared.exchange.Next.TheVariants as nexts
use Rattle.due_model.specs.dialogue_model.specs.declared.exchange.Phase.TheVariants as phases

-- ---- of each process that waits, that runs, and that is outside the queues

abbrev pub Waits : (RunningProcess → Type 0) → List Process → Type 0
Waits q [] = ⊤
Waits q (c ∷ waiting) = q (without_reply c) × Waits q waiting

abbrev pub Runs : (RunningProcess → Type 0) → Option RunningProcess → Type 0
Runs q None = ⊤
Runs q (Some r) = q r

abbrev pub OnUnit : (RunningProcess → Type 0) → UnitState → Type 0
OnUnit q u = Waits q u.waiting × Runs q u.current

abbrev pub OnUnits : (RunningProcess → Type 0) → List UnitState → Type 0
OnUnits q [] = ⊤
OnUnits q (u ∷ units) = OnUnit q u × OnUnits q units

abbrev pub OnGuests : (RunningProcess → Type 0) → List RunningProcess → Type 0
OnGuests g [] = ⊤
OnGuests g (r ∷ guests) = g r × OnGuests g guests

pub record Each (q g : RunningProcess → Type 0) (a : Array) : Type 0 where
  pub units : OnUnits q a.units
  pub guests : OnGuests g a.guests

-- ---- of one process

-- It is none of them.
abbrev pub IsAway : ProcId → RunningProcess → Type 0
IsAway id r = same_id r.process.id id ≡ false

-- It has no reply, and this is none, and it has not ended, where it is this one.
abbrev pub IsUnanswered : Option Reply → Bool → ProcId → RunningProcess → Type 0
IsUnanswered given over id r = same_id r.process.id id ≡ true → (r.reply ≡ None) × (given ≡ None) × (over ≡ false)

-- No connection serves it: it waits, or is current, and was neither answered nor ended; or it stands nowhere.
abbrev pub IsAtRest : Array → ProcId → Type 0
IsAtRest a id = Each (IsUnanswered (reply_in a.replies id) (has_ended a id) id) (IsAway id) a

-- It has not arrived: it stands nowhere, and was neither answered nor ended.
pub record IsUntouched (a : Array) (id : ProcId) : Type 0 where
  pub away : Each (IsAway id) (IsAway id) a
  pub reply : reply_in a.replies id ≡ None
  pub open_is : has_ended a id ≡ false

-- A REQUEST SENSE, and any command to a unit that is not there, stays outside the queue.
abbrev pub IsOutside : Array → Process → Type 0
IsOutside a c = (unit_state_at a.units c.target c.unit ≡ None) ⊎ (is_request_sense (command_of c.cdb) ≡ true)

-- It was not answered and may run: outside the queue, or as long as its unit is not held.
pub record MayRun (a : Array) (c : Process) : Type 0 where
  pub running_is : running_process a c.id ≡ Some (without_reply c)
  pub free : (is_some (guest_at a.guests c.id) || not (is_held a.holds c.target c.unit)) ≡ true
  pub reply : reply_in a.replies c.id ≡ None
  pub kind : IsOutside a c ⊎ IsAtRest a c.id

-- It has this reply, which was given.
pub record IsAnswered (a : Array) (id : ProcId) : Type 0 where
  pub running : RunningProcess
  pub running_is : running_process a id ≡ Some running
  pub reply : Reply
  pub reply_is : running.reply ≡ Some reply
  pub given : reply_in a.replies id ≡ Some reply

-- ---- the queue of a unit

-- A process waits at this unit, or is the current one.
abbrev pub is_in_queue : UnitState → ProcId → Bool
is_in_queue u id = list_any (λ (c : Process). same_id c.id id) u.waiting || is_some (running_if u.current id)

abbrev pub is_queued : List UnitState → ProcId → Bool
is_queued units id = list_any (λ (u : UnitState). is_in_queue u id) units

-- No unit has more processes, waiting or current, than its depth (7.8.1).
abbrev pub AreWithin : List UnitState → Type 0
AreWithin [] = ⊤
AreWithin (u ∷ units) = (process_count u ≤ u.depth) × AreWithin units

-- ---- of the process that is served

-- None of them is COMMAND COMPLETE.
pub record TellNoEnd (m : Messages) : Type 0 where
  pub first : is_complete_in m.first ≡ false
  pub second : is_complete_in m.second ≡ false

pub record RunsOpen (a : Array) (c : Process) : Type 0 where
  pub runs : MayRun a c
  pub open_is : has_ended a c.id ≡ false

pub record AnsweredOpen (a : Array) (id : ProcId) : Type 0 where
  pub answered : IsAnswered a id
  pub open_is : has_ended a id ≡ false

-- It will be disconnected, and stands in a queue, or has ended once its initiator takes COMMAND COMPLETE (6.6.5,
-- 6.6.6).
pub data Closes (a : Array) (c : Process) (m : Messages) : Type 0 where
  completes : m ≡ one_message to_initiator.CommandComplete → AnsweredOpen a c.id → Closes a c m
  disconnects : TellNoEnd m → IsAtRest a c.id → has_ended a c.id ≡ false → is_queued a.units c.id ≡ true → Closes a c m

-- Where these messages are said, and this follows.
abbrev pub PlacedBefore : Array → Process → Messages → Next → Type 0
PlacedBefore a c m nexts.Command = IsUntouched a c.id
PlacedBefore a c m nexts.GoOn = RunsOpen a c
PlacedBefore a c m nexts.Status = AnsweredOpen a c.id
PlacedBefore a c m nexts.FreeBus = Closes a c m

-- The initiator has taken COMMAND COMPLETE: ACK rose in the phase, and ATN was false (6.6.5).
pub record IsTaken (a : Array) (c : Process) (plan : Plan) (h : Handshakes) (atn : Bool) : Type 0 where
  pub next_is : plan.next ≡ nexts.FreeBus
  pub messages_are : plan.messages ≡ one_message to_initiator.CommandComplete
  pub answered : (h.answers == 0) ≡ false
  pub attends : atn ≡ false
  pub rests : IsAtRest a c.id

abbrev pub PlacedAsked : Array → Process → Plan → Cause → Type 0
PlacedAsked a c plan causes.Selected = IsUntouched a c.id
PlacedAsked a c plan causes.InMessage = PlacedBefore a c plan.messages plan.next
PlacedAsked a c plan causes.InData = RunsOpen a c
PlacedAsked a c plan causes.InStatus = AnsweredOpen a c.id

abbrev pub PlacedIn : Array → Process → Plan → Handshakes → Bool → Phase → Type 0
PlacedIn a c plan h atn phases.MessageOut = PlacedAsked a c plan plan.cause
PlacedIn a c plan h atn phases.MessageIn = PlacedBefore a c plan.messages plan.next ⊎ IsTaken a c plan h atn
PlacedIn a c plan h atn phases.Command = IsUntouched a c.id
PlacedIn a c plan h atn phases.Status = AnsweredOpen a c.id
PlacedIn a c plan h atn phases.DataIn = RunsOpen a c
PlacedIn a c plan h atn phases.DataOut = RunsOpen a c

-- Once a phase has begun; before it, after a selection, it has not arrived.
abbrev pub PlacedIf : Bool → Array → Process → Plan → Handshakes → Bool → Phase → Type 0
PlacedIf false a c plan h atn phase = IsUntouched a c.id
PlacedIf true a c plan h atn phase = PlacedIn a c plan h atn phase

-- ---- all that is kept

pub record HasPlaces (s : ScenarioValue) (k : RunState) : Type 0 where
  pub array : Array
  pub array_is : k.array ≡ Some array
  pub sound : IsSound s array
  pub within : AreWithin array.units
  pub unsent : (id : ProcId) → has_item k.story.sent.sent (process id) ≡ false → IsUntouched array id
  pub rests : (id : ProcId) → is_served_by k.served id ≡ false → IsAtRest array id
  pub reset : (bus_of k).rst ≡ true → (id : ProcId) → IsAtRest array id
  pub unserved : k.story.bus_state.connection ≡ None → k.served ≡ None
  pub sent : (id : ProcId) → k.served ≡ Some (process id) → has_item k.story.sent.sent (process id) ≡ true
  pub of_scenario : (id : ProcId) → k.served ≡ Some (process id) → (c : Process) × (process_of s id ≡ Some c)
  pub placed : (n : Connection) → k.story.bus_state.connection ≡ Some n
      → (bus_of k).rst ≡ false → (c : Process) → process_served s k ≡ Some c
      → PlacedIf k.exchange.begun array c k.exchange.plan k.handshakes (bus_of k).atn (phase_of (bus_of k))

abbrev pub PlaceFacts : ScenarioValue → List Row → Type 0
PlaceFacts s rows = HasPlaces s (run_state s rows)
