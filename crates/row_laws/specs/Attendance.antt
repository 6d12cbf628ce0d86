-- Which events a row of a connection shows: those of the process that its target serves, or of the abort that comes in
-- it; a process ends GOOD only where the target knows its command; and in the opening after a selection nothing is
-- shown while the connection stands (6.1.6, 6.6, 7.3).
use Rattle.std.specs.Prelude.{ℕ, ◌≡◌, ◌<◌, ◌==◌, Bool, true, false, List, [], ◌∷◌, Option, Some, None, is_some, ⊤}
use Rattle.due_model.specs.bus_base.specs.declared.AbortKind.{AbortKind}
use Rattle.due_model.specs.bus_base.specs.declared.Event.{Event}
use Rattle.due_model.specs.bus_base.specs.declared.ProcId.{ProcId}
use Rattle.due_model.specs.bus_trace.specs.declared.Row.{Row}
use Rattle.due_model.specs.bus_trace.specs.declared.connection.Connection.{Connection}
use Rattle.due_model.specs.bus_trace.specs.Terms.{connection}
use Rattle.due_model.specs.bus_trace.specs.Trace.{bus}
use Rattle.due_model.specs.cdb_codec.specs.declared.status.TheConstants.{GOOD}
use Rattle.due_model.specs.scenario.specs.declared.value.AbortDef.{AbortDef}
use Rattle.due_model.specs.scenario.specs.Value.{ScenarioValue}
use Rattle.due_model.specs.array_model.specs.ArrayHistory.{reply_in}
use Rattle.due_model.specs.array_model.specs.Execution.{Reply}
use Rattle.due_model.specs.story_model.specs.BusState.{row_reading}
use Rattle.due_model.specs.story_model.specs.HistoryEvents.{abort_line_at}
use Rattle.due_model.specs.story_model.specs.Items.{process, abort}
use Rattle.due_model.specs.RunState.{RunState, array_of, process_served}
use Rattle.due_model.specs.RunSteps.{run_state, events_of_row}
use Rattle.scsi_device.specs.Heard.{instructions, is_opening}
use Rattle.due_model.specs.bus_base.specs.declared.Event.TheVariants as events

-- ---- one event, and all of a row

pub data IsShown (k : RunState) (n : Connection) (known : Bool) : Event → Type 0 where
  accepts : (id : ProcId) → k.served ≡ Some (process id) → IsShown k n known (events.Accept id)
  refuses : (id : ProcId) → k.served ≡ Some (process id) → IsShown k n known (events.Refuse id)
  runs : (id : ProcId) → k.served ≡ Some (process id) → IsShown k n known (events.Run id)
  fails : (id : ProcId) (code : ℕ) → k.served ≡ Some (process id) → IsShown k n known (events.Fail id code)
  ends : (id : ProcId) (status : ℕ) → k.served ≡ Some (process id)
      → ((status == GOOD) ≡ true → known ≡ true) → IsShown k n known (events.End id status)
  loses : (id : ProcId) → k.served ≡ Some (process id) → IsShown k n known (events.Lost id)
  aborts : (host target unit : ℕ) (what : AbortKind) → host ≡ n.initiator → target ≡ n.target → unit < 8 → host < 8
      → IsShown k n known (events.Aborted host target unit what)

abbrev pub AreShown : RunState → Connection → Bool → List Event → Type 0
AreShown k n known [] = ⊤
AreShown k n known (e ∷ shown) = IsShown k n known e × AreShown k n known shown

-- ---- a row

-- In a connection, RST being false before it and after it. In the opening a process is not served where the connection
-- ends.
pub record ShowsIn (s : ScenarioValue) (rows : List Row) (row : Row) (n : Connection) : Type 0 where
  pub shown : AreShown (run_state s rows) n (instructions s rows).known (events_of_row s rows row)
  pub silent : n.reselected ≡ false → is_opening (run_state s rows) ≡ true
      → is_some (row_reading (run_state s rows).story.bus_state row).next ≡ true → events_of_row s rows row ≡ []
  pub ends_alone : n.reselected ≡ false → is_opening (run_state s rows) ≡ true
      → (row_reading (run_state s rows).story.bus_state row).next ≡ None → process_served s (run_state s rows) ≡ None

-- As RST falls no connection stands any more, and nothing is shown (6.2.2).
pub record ShowsAfterReset (s : ScenarioValue) (rows : List Row) (row : Row) : Type 0 where
  pub ends : connection (row ∷ rows) ≡ None
  pub none : events_of_row s rows row ≡ []

pub record Shows (s : ScenarioValue) (rows : List Row) (row : Row) : Type 0 where
  pub inside : (n : Connection) → connection rows ≡ Some n → (bus rows).rst ≡ false → (bus (row ∷ rows)).rst ≡ false
      → ShowsIn s rows row n
  pub after_reset : (n : Connection) → connection rows ≡ Some n → (bus rows).rst ≡ true → (bus (row ∷ rows)).rst ≡ false
      → ShowsAfterReset s rows row

-- ---- what holds of the rows so far

-- An abort that is served is of both ends.
abbrev pub AbortsBetween : ScenarioValue → RunState → Connection → Type 0
AbortsBetween s k n =
    (m : ℕ) (a : AbortDef) → k.served ≡ Some (abort m) → abort_line_at s.aborts m ≡ Some a → a.target ≡ n.target

abbrev pub IsNotGood : Option Reply → Type 0
IsNotGood given = (reply : Reply) → given ≡ Some reply → (reply.status == GOOD) ≡ false

-- While its target does not know its command after a selection, a process has no reply but of another status.
abbrev pub AnswersBadly : ScenarioValue → RunState → Type 0
AnswersBadly s k = (id : ProcId) → k.served ≡ Some (process id) → IsNotGood (reply_in (array_of s k).replies id)

pub record AttendedFacts (s : ScenarioValue) (rows : List Row) : Type 0 where
  pub aborts : (n : Connection) → connection rows ≡ Some n → (bus rows).rst ≡ false
      → AbortsBetween s (run_state s rows) n
  pub answers : (n : Connection) → connection rows ≡ Some n → (bus rows).rst ≡ false → n.reselected ≡ false
      → (instructions s rows).known ≡ false → AnswersBadly s (run_state s rows)
