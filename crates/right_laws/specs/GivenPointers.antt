-- Where the data pointer of a process that does not write stands as a byte of DATA IN crosses: as many bytes after the
-- beginning of its run as were asked for, and the run has that byte; and as it runs, past the bytes of its reply
-- (6.1.5.1, 6.6.6, 6.6.20).
use Rattle.std.specs.Prelude.{ℕ, ◌+◌, ◌≡◌, ◌≤◌, ◌<◌, ◌==◌, Bool, true, false, not, ◌&&◌, ◌||◌, is_none, List, [], ◌∷◌}
use Rattle.std.specs.Prelude.{length, Some, ⊤}
use Rattle.due_model.specs.bus_base.specs.declared.AbortKind.{AbortKind}
use Rattle.due_model.specs.bus_base.specs.declared.Event.{Event}
use Rattle.due_model.specs.bus_base.specs.declared.ProcId.{ProcId}
use Rattle.due_model.specs.bus_trace.specs.declared.Row.{Row}
use Rattle.due_model.specs.bus_trace.specs.declared.connection.Connection.{Connection}
use Rattle.due_model.specs.scenario.specs.Value.{ScenarioValue}
use Rattle.due_model.specs.array_model.specs.Execution.{Reply}
use Rattle.due_model.specs.array_model.specs.Processes.{Process, process_of}
use Rattle.due_model.specs.array_model.specs.Seats.{is_elsewhere}
use Rattle.due_model.specs.story_model.specs.BusState.{row_reading}
use Rattle.due_model.specs.story_model.specs.HistoryEvents.{row_events_by}
use Rattle.due_model.specs.dialogue_model.specs.declared.exchange.Task.{Task}
use Rattle.due_model.specs.dialogue_model.specs.Arrivals.{policy_of}
use Rattle.due_model.specs.dialogue_model.specs.DataRuns.{run_at, run_length}
use Rattle.due_model.specs.dialogue_model.specs.NextPhase.{phase_of}
use Rattle.due_model.specs.Defs.{target_def_of}
use Rattle.due_model.specs.RunState.{RunState, array_of, bus_of, carried_here, process_served}
use Rattle.due_model.specs.RunSteps.{run_state, run_state_after}
use Rattle.due_model.specs.Tasks.{is_writing, reply_now, task_of}
use Rattle.right_laws.specs.Asked.{IsRunning}
use Rattle.right_laws.specs.Given.{NoneAtArrival}
use Rattle.right_laws.specs.Open.{OnOpen}
use Rattle.due_model.specs.bus_base.specs.declared.AbortKind.TheVariants as aborts
use Rattle.due_model.specs.bus_base.specs.declared.Event.TheVariants as events
use Rattle.due_model.specs.dialogue_model.specs.declared.exchange.Phase.TheVariants as phases

pub record PointsAtRun (s : ScenarioValue) (k : RunState) (n : Connection) (c : Process) (t : Task) : Type 0 where
  pub active_is : (carried_here k c.id).moved.active
      ≡ (run_at (policy_of (target_def_of s n.target)) t t.runs).start + k.handshakes.requests
  pub more : k.handshakes.requests < run_length (policy_of (target_def_of s n.target)) t

abbrev pub PointsAtCrossing : ScenarioValue → RunState → Row → Type 0
PointsAtCrossing s k row = (n : Connection) (c : Process) (t : Task) → k.story.bus_state.connection ≡ Some n
    → process_served s k ≡ Some c → task_of s k ≡ Some t → is_writing c ≡ false
    → (row_reading k.story.bus_state row).crosses ≡ true → phase_of (bus_of k) ≡ phases.DataIn → PointsAtRun s k n c t

-- As it runs its pointer stands past the bytes of its reply.
abbrev pub PointsAtEnd : ScenarioValue → RunState → Row → Type 0
PointsAtEnd s k row = (c : Process) (reply : Reply) → IsRunning s k row c reply → is_writing c ≡ false
    → length reply.bytes ≤ (carried_here k c.id).moved.active

-- ---- what changes a reply

-- An abort of the processes of one initiator changes nothing for another, and that of one tag nothing for others.
abbrev pub abort_may_change : Process → ℕ → ℕ → ℕ → AbortKind → Bool
abort_may_change c i t m aborts.All = i == c.initiator && (t == c.target && m == c.unit)
abort_may_change c i t m (aborts.Tag x) = false
abort_may_change c i t m aborts.WholeQueue = t == c.target && m == c.unit
abort_may_change c i t m aborts.Device = t == c.target

-- An event with which what a process of the unit would answer may change: another runs or ends, an abort, and a reset.
abbrev pub may_change : ScenarioValue → Process → Event → Bool
may_change s c (events.Accept id) = is_none (process_of s id)
may_change s c (events.Refuse id) = is_none (process_of s id)
may_change s c (events.Fail id code) = is_none (process_of s id)
may_change s c (events.Lost id) = is_none (process_of s id)
may_change s c (events.Run id) = not (is_elsewhere s (events.Run id) c.target c.unit)
may_change s c (events.End id status) = not (is_elsewhere s (events.End id status) c.target c.unit)
may_change s c (events.Aborted i t n what) = abort_may_change c i t n what
may_change s c (events.Reset dev) = true

abbrev pub any_may_change : ScenarioValue → Process → List Event → Bool
any_may_change s c [] = false
any_may_change s c (e ∷ shown) = may_change s c e || any_may_change s c shown

-- With such an event one that has carried some of its data has the reply that it had.
abbrev pub HasReplyThen : ScenarioValue → RunState → Row → ProcId → Type 0
HasReplyThen s k row id =
    (c : Process) → process_of s id ≡ Some c → ((carried_here (run_state_after s k row) id).moved.bytes ≡ [] → ⊥)
    → any_may_change s c (row_events_by s k.story (row_reading k.story.bus_state row) row) ≡ true
    → reply_now (array_of s (run_state_after s k row)) c ≡ reply_now (array_of s k) c

abbrev pub StaysSo : ScenarioValue → RunState → Row → Type 0
StaysSo s k row = OnOpen (HasReplyThen s k row) (array_of s (run_state_after s k row))

-- ---- all that is asked of a row

-- Where its pointers stand; where it arrives it has carried no data; and where it has carried some its reply stays.
pub record GivesBy (s : ScenarioValue) (k : RunState) (row : Row) : Type 0 where
  pub points : PointsAtCrossing s k row
  pub arrives : NoneAtArrival k row
  pub whole : PointsAtEnd s k row
  pub stays : StaysSo s k row

abbrev pub AllGiveBy : ScenarioValue → List Row → Type 0
AllGiveBy s [] = ⊤
AllGiveBy s (row ∷ rows) = AllGiveBy s rows × GivesBy s (run_state s rows) row
