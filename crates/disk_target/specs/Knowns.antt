-- What a target decides by in a connection of its own, as long as neither its units nor what it has heard of the
-- process change.
use Rattle.std.specs.Prelude.{ℕ, ◌≡◌, ◌<◌, ◌&&◌, Bool, true, false, List, [], length, is_some, Option, Some, None}
use Rattle.bus_base.specs.declared.Event.{Event}
use Rattle.bus_trace.specs.declared.Row.{Row}
use Rattle.bus_trace.specs.declared.connection.Connection.{Connection}
use Rattle.bus_trace.specs.Phases.{changes_phase, is_message_out}
use Rattle.bus_trace.specs.Trace.{bus}
use Rattle.scenario.specs.declared.value.TargetDef.{TargetDef}
use Rattle.scenario.specs.Value.{ScenarioValue}
use Rattle.array_model.specs.Processes.{Process}
use Rattle.array_model.specs.SoundArray.{IsSound}
use Rattle.disk_unit.specs.declared.unit.Reply.{Reply}
use Rattle.due_model.specs.dialogue_model.specs.declared.exchange.Hearing.{Hearing}
use Rattle.due_model.specs.RunState.{array_of, process_served}
use Rattle.due_model.specs.RunSteps.{run_state}
use Rattle.target_course.specs.scsi_device.specs.Lines.{FitsBus}
use Rattle.target_course.specs.Courses.{CourseState, HasEnds, AreToldOf, serving_by}
use Rattle.target_course.specs.Fits.{AreFit}
use Rattle.target_course.specs.Progress.{ProgressValue, IsProgressOf, is_phase_left}
use Rattle.target_course.specs.Replies.{IsReplyOf}
use Rattle.target_course.specs.Servings.{serving_with}
use Rattle.target_course.specs.Shown.{shown_list}
use Rattle.target_course.specs.States.{IsOwnConnection}
use Rattle.target_course.specs.declared.course.Name.{Name}
use Rattle.target_course.specs.target_units.specs.Units.{UnitsState, AreUnitsOf, reply_at, taken_by, unit_in}
use Rattle.disk_target.specs.declared.known.Known.{Known}
use Rattle.disk_target.specs.declared.turn.Turn.{Turn}
use Rattle.disk_target.specs.Targets.{IsServable}

-- These are the units and the counts of this target.
pub record AreSourcesOf (s : ScenarioValue) (rows : List Row) (d : TargetDef) (units : UnitsState)
    (progress : ProgressValue) : Type 0 where
  pub units_dev : units.dev ≡ d.dev
  pub progress_dev : progress.dev ≡ d.dev
  pub units_are : AreUnitsOf s (array_of s (run_state s rows)) (run_state s rows).current_since units.dev units.units
  pub sound : IsSound s (array_of s (run_state s rows))
  pub progress_is : IsProgressOf s rows progress

-- It is what a target of this line decides by that has these units, counts and reply, and has heard that, whichever
-- rows told it so.
pub record IsKnownBy (d : TargetDef) (units : UnitsState) (progress : ProgressValue) (reply : Option Reply)
    (c : CourseState) (k : Known) : Type 0 where
  pub unit : k.unit < 8
  pub device : k.from < 8
  pub named : (name : Name) → c.named ≡ Some name → name.unit < 8 → k.unit ≡ name.unit
  pub told : (s : ScenarioValue) (rows : List Row) (n : Connection) → FitsBus s
      → IsServable s rows d → AreSourcesOf s rows d units progress → IsReplyOf s rows d.dev reply
      → ((p : Process) → process_served s (run_state s rows) ≡ Some p → HasEnds n p) → IsOwnConnection rows d.dev n
      → (bus rows).rst ≡ false → n.initiator ≡ k.from → AreToldOf s rows c k.state
  pub count : k.state.plan.in_len ≡ length (reply_at (unit_in units.units k.unit) k.from c.block).bytes
  pub taken : k.state.plan.out_len ≡ taken_by (unit_in units.units k.unit) k.from c.block
  pub serving : (given : List ℕ) → serving_with k.serving given ≡ serving_by d c k.state given
  pub fits : AreFit k.serving.plan.messages

-- Of the connection in which it has heard something, if it knows anything.
abbrev pub IsKnownIf : TargetDef → UnitsState → ProgressValue → Option Reply → Option CourseState → Option Known
    → Type 0
IsKnownIf d units progress reply course None = Unit {0}
IsKnownIf d units progress reply course (Some k) =
    (c : CourseState) → course ≡ Some c → IsKnownBy d units progress reply c k

-- ---- a row that changes nothing of it but the plan

abbrev pub knows_command : Option CourseState → Bool
knows_command None = false
knows_command (Some c) = c.known

pub record IsStill (t : Turn) (w : Hearing) (before own : Option Connection) (course : Option CourseState)
    (shown : List Event) : Type 0 where
  pub stood : is_some before ≡ true
  pub stands : is_some own ≡ true
  pub knows : knows_command course ≡ true
  pub empty : shown ≡ []
  pub nothing : shown_list t.shown ≡ []
  pub stays : is_phase_left w ≡ false

abbrev pub with_plan : Known → CourseState → Known
with_plan k c = record k { serving = record k.serving { plan = c.plan } }

abbrev pub refreshed : Option Known → Option CourseState → Option Known
refreshed None course = None
refreshed (Some k) None = Some k
refreshed (Some k) (Some c) = Some (with_plan k c)

-- ---- a row that tells a target no more than a byte of data, if anything

abbrev pub hears_message : Hearing → Bool
hears_message w = w.crosses && is_message_out w.change.before

-- In a connection of its own, before and after the row, no byte of a message comes to it, no phase changes, no fault
-- strikes, and nothing is shown; its command is known where any byte crosses.
pub record IsQuiet (w : Hearing) (course : Option CourseState) (shown : List Event) : Type 0 where
  pub knows : w.crosses ≡ true → knows_command course ≡ true
  pub empty : shown ≡ []
  pub changes : changes_phase w.change ≡ false
  pub unsaid : hears_message w ≡ false
  pub fault : w.fault ≡ false
