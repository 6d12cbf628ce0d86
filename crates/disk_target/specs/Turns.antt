-- What a target has of a connection of its own before a row.
use Rattle.std.specs.Prelude.{ℕ, ◌≡◌, true, false, List, ◌∷◌, Option, Some, None, slice_get, if◌then◌else◌, Bool, not}
use Rattle.std.specs.Prelude.{◌&&◌, ◌||◌}
use Rattle.bus_base.specs.declared.Event.{Event}
use Rattle.bus_base.specs.declared.Event.TheVariants as events
use Rattle.bus_trace.specs.declared.Row.{Row}
use Rattle.bus_trace.specs.declared.connection.Connection.{Connection}
use Rattle.bus_trace.specs.Terms.{connection}
use Rattle.bus_trace.specs.Trace.{bus}
use Rattle.cdb_codec.specs.Cdb.{command_of}
use Rattle.scenario.specs.declared.value.TargetDef.{TargetDef}
use Rattle.scenario.specs.Needs.{is_write}
use Rattle.scenario.specs.Value.{ScenarioValue}
use Rattle.array_model.specs.Processes.{Process}
use Rattle.array_model.specs.Seats.{context_of, seat_of}
use Rattle.due_model.specs.dialogue_model.specs.declared.exchange.Hearing.{Hearing}
use Rattle.due_model.specs.dialogue_model.specs.Hearing.{begun, hearing}
use Rattle.due_model.specs.dialogue_model.specs.NextPhase.{leaving_by, phase_of}
use Rattle.due_model.specs.Plain.{AreOfDevices}
use Rattle.due_model.specs.RunState.{array_of, process_served}
use Rattle.due_model.specs.RunSteps.{run_state, events_of_row}
use Rattle.due_model.specs.Tasks.{given_of}
use Rattle.target_course.specs.scsi_device.specs.Heard.{is_opening_in}
use Rattle.target_course.specs.Courses.{CourseState, events_of_target, name_of, serving_by, AreToldOf}
use Rattle.target_course.specs.scsi_device.specs.Lines.{FitsBus, IsTargetLine}
use Rattle.target_course.specs.scsi_device.specs.Writes.{brings_byte}
use Rattle.target_course.specs.Gathered.{GatheredValue, IsGatheredOf, AreAllGathered, IsSentSo, IsAtUnit}
use Rattle.target_course.specs.Negotiated.{IsHeardSo}
use Rattle.target_course.specs.Progress.{IsLeftSo}
use Rattle.target_course.specs.Replies.{IsOutlookAt}
use Rattle.target_course.specs.Shown.{shown_list}
use Rattle.target_course.specs.States.{IsOwnConnection}
use Rattle.target_course.specs.declared.course.ProcessState.{ProcessState}
use Rattle.target_course.specs.target_units.specs.Seated.{taken_in}
use Rattle.disk_target.specs.declared.turn.Abort.{Abort}
use Rattle.disk_target.specs.declared.turn.Sent.{Sent}
use Rattle.disk_target.specs.declared.turn.Turn.{Turn}
use Rattle.disk_target.specs.Processes.{ProcessesState, AreKeptOf}
use Rattle.disk_target.specs.Targets.{AreTied, IsCourseIf, IsStandingOf}

-- A row after which RST is true shows a reset, or nothing.
abbrev pub is_reset_event : Event → Bool
is_reset_event (events.Reset dev) = true
is_reset_event (events.Accept id) = false
is_reset_event (events.Refuse id) = false
is_reset_event (events.Run id) = false
is_reset_event (events.Fail id code) = false
is_reset_event (events.End id status) = false
is_reset_event (events.Lost id) = false
is_reset_event (events.Aborted host target unit what) = false

abbrev pub is_reset_if : Option Event → Bool
is_reset_if None = false
is_reset_if (Some e) = is_reset_event e

abbrev pub is_reset : List Event → Bool
is_reset shown = is_reset_if (slice_get shown 0)

-- An abort at a unit, of this kind and by this initiator, where the first event is one.
abbrev pub abort_in : Event → Option Abort
abort_in (events.Aborted host target unit what) = Some (record { unit = unit; kind = what; by = host })
abort_in (events.Accept id) = None
abort_in (events.Refuse id) = None
abort_in (events.Run id) = None
abort_in (events.Fail id code) = None
abort_in (events.End id status) = None
abort_in (events.Lost id) = None
abort_in (events.Reset dev) = None

abbrev pub abort_if : Option Event → Option Abort
abort_if None = None
abort_if (Some e) = abort_in e

abbrev pub abort_of : List Event → Option Abort
abort_of shown = abort_if (slice_get shown 0)

-- The opening after a selection stands in the row that told this, by the course before it.
abbrev pub is_opening_by : Connection → Hearing → CourseState → Bool
is_opening_by n w c = not n.reselected && (not w.begun || is_opening_in (phase_of w.change.before) c.plan.cause)

-- How many bytes its process sends, as its command says.
abbrev pub count_sent : Turn → CourseState → ℕ
count_sent t c = if is_write (command_of c.block) then t.plan.out_len else 0

-- Of this course, in this connection of its own, while RST is false.
pub record IsTurnIn (s : ScenarioValue) (rows : List Row) (row : Row) (d : TargetDef) (n : Connection) (c : CourseState)
    (t : Turn) : Type 0 where
  pub state : ProcessState
  pub told : AreToldOf s rows c state
  pub leaving_is : t.leaving ≡ leaving_by (serving_by d c state (given_of s (run_state s rows))) (begun rows) (bus rows)
  pub opening_is : t.opening ≡ is_opening_by n (hearing rows row) c
  pub from_is : t.from ≡ n.initiator
  pub unit_is : (p : Process) → process_served s (run_state s rows) ≡ Some p → c.named ≡ Some (name_of p)
      → t.unit ≡ p.unit
  pub plan_is : t.plan ≡ state.plan
  pub taken : (p : Process) → process_served s (run_state s rows) ≡ Some p → c.named ≡ Some (name_of p) → t.plan.out_len
      ≡ taken_in (context_of (seat_of (array_of s (run_state s rows)) p.target p.unit) p.initiator) c.block

abbrev pub IsTurnIf : ScenarioValue → List Row → Row → TargetDef → Option CourseState → Turn → Type 0
IsTurnIf s rows row d None t = (n : Connection) → IsOwnConnection rows d.dev n → (bus rows).rst ≡ true
IsTurnIf s rows row d (Some c) t =
    (n : Connection) → IsOwnConnection rows d.dev n → (bus rows).rst ≡ false → IsTurnIn s rows row d n c t

-- With a row in a connection of its own, before and after which RST is false, it shows this, and the process that runs
-- then ends so.
pub record IsTurnShown (s : ScenarioValue) (rows : List Row) (row : Row) (n : Connection) (t : Turn) : Type 0 where
  pub shows : shown_list t.shown ≡ events_of_target s rows row n
  pub outlook : IsOutlookAt s rows (shown_list t.shown) t.plan

-- A byte of DATA OUT that comes with the row is of this process, unit and place.
pub record IsSentOf (s : ScenarioValue) (rows : List Row) (row : Row) (dev : ℕ) (x : Sent) : Type 0 where
  pub sends : IsSentSo s rows dev (hearing rows row) x.process x.place
  pub at_unit : IsAtUnit s rows dev (hearing rows row) x.unit

-- Or none comes.
abbrev pub IsSentIf : ScenarioValue → List Row → Row → ℕ → Option Sent → Type 0
IsSentIf s rows row dev None = brings_byte (hearing rows row) ≡ false
IsSentIf s rows row dev (Some x) = IsSentOf s rows row dev x

-- With it all is gathered that came.
pub record GathersOn (s : ScenarioValue) (rows : List Row) (row : Row) (g : GatheredValue) : Type 0 where
  pub gathered : IsGatheredOf s g
  pub all : AreAllGathered s (row ∷ rows) g

-- Before this row it is as the parts of a target want it.
pub record IsTurnOf (s : ScenarioValue) (rows : List Row) (row : Row) (d : TargetDef) (c : Option CourseState)
    (t : Turn) : Type 0 where
  pub course : IsTurnIf s rows row d c t
  pub left : IsLeftSo s rows d.dev (hearing rows row) (connection (row ∷ rows)) t.process t.leaving
  pub hears : IsHeardSo s rows d.dev t.aborts
  pub sends : IsSentSo s rows d.dev (hearing rows row) t.process t.place
  pub at_unit : IsAtUnit s rows d.dev (hearing rows row) t.unit
  pub shows : (n : Connection) → IsOwnConnection rows d.dev n → (bus rows).rst ≡ false → (bus (row ∷ rows)).rst ≡ false
      → IsTurnShown s rows row n t

-- ---- a row of a scenario, as its units see it

pub record IsRowFor (s : ScenarioValue) (rows : List Row) (row : Row) (d : TargetDef) (c : Option CourseState)
    (t : Turn) (g : GatheredValue) (shown : List Event) (now : ℕ) : Type 0 where
  pub fits : FitsBus s
  pub devices : AreOfDevices (row ∷ rows)
  pub tied : AreTied s (row ∷ rows)
  pub line : IsTargetLine s d
  pub dev_is : g.dev ≡ d.dev
  pub gathered : IsGatheredOf s g
  pub all : AreAllGathered s rows g
  pub course : IsCourseIf s rows d.dev c
  pub turn : IsTurnOf s rows row d c t
  pub shown_is : shown ≡ events_of_row s rows row
  pub now_is : now ≡ row.time

-- The units after some rows, and where the process of a connection stands.
pub record AreAttendedOf (s : ScenarioValue) (rows : List Row) (dev : ℕ) (v : ProcessesState) : Type 0 where
  pub dev_is : v.units.dev ≡ dev
  pub kept : AreKeptOf s rows v.units
  pub standing : IsStandingOf s rows dev v.standing

-- After one row more: of the process only where the connection stood before it.
pub record AreAttendedOn (s : ScenarioValue) (rows : List Row) (row : Row) (dev : ℕ) (v : ProcessesState) : Type 0 where
  pub dev_is : v.units.dev ≡ dev
  pub kept : AreKeptOf s (row ∷ rows) v.units
  pub standing : (m : Connection) → connection rows ≡ Some m → IsStandingOf s (row ∷ rows) dev v.standing
