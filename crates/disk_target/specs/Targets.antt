-- A target of a scenario: its line, and what it knows after some rows.
use Rattle.std.specs.Prelude.{ℕ, ◌≡◌, ◌<◌, ◌+◌, ◌^◌, true, false, List, length, Option, Some, None}
use Rattle.std.specs.List.{AllByRecursion}
use Rattle.bus_trace.specs.declared.Row.{Row}
use Rattle.bus_trace.specs.declared.connection.Connection.{Connection}
use Rattle.bus_trace.specs.Trace.{bus}
use Rattle.bus_lines.specs.Handshakes.{handshakes}
use Rattle.scenario.specs.declared.value.TargetDef.{TargetDef}
use Rattle.scenario.specs.Value.{ScenarioValue}
use Rattle.array_model.specs.Processes.{Process}
use Rattle.array_model.specs.Seats.{seat_of}
use Rattle.array_model.specs.SoundArray.{IsSound}
use Rattle.disk_unit.specs.declared.unit.Reply.{Reply}
use Rattle.due_model.specs.Allowed.{allowed}
use Rattle.due_model.specs.Faithful.{faithful}
use Rattle.due_model.specs.Telling.{telling}
use Rattle.due_model.specs.RunState.{array_of, process_served}
use Rattle.due_model.specs.RunSteps.{run_state}
use Rattle.due_model.specs.Wants.{since_of}
use Rattle.target_course.specs.scsi_device.specs.Heard.{heard}
use Rattle.target_course.specs.scsi_device.specs.Writes.{written}
use Rattle.target_course.specs.scsi_device.specs.Itself.{ItselfValue, IsItselfOf}
use Rattle.target_course.specs.scsi_device.specs.Lines.{IsTargetLine}
use Rattle.target_course.specs.Courses.{CourseState, IsCourseOf}
use Rattle.target_course.specs.Gathered.{GatheredValue, IsGatheredOf, AreAllGathered}
use Rattle.target_course.specs.Negotiated.{NegotiatedValue, IsNegotiatedOf}
use Rattle.target_course.specs.Progress.{ProgressValue, IsProgressOf}
use Rattle.target_course.specs.Replies.{IsReplyOf}
use Rattle.target_course.specs.States.{IsNoInitiator, IsOwnConnection}
use Rattle.target_course.specs.target_units.specs.Units.{UnitsState, AreUnitsOf}
use Rattle.disk_target.specs.declared.standing.Standing.{Standing}
use Rattle.disk_target.specs.Attended.{attended}
use Rattle.disk_target.specs.Standings.{IsStanding}

pub record TargetValue : Type 0 where
  pub def : TargetDef
  pub itself : ItselfValue
  pub units : UnitsState
  -- in a connection of its own: where the process that it serves stands
  pub standing : Standing
  pub progress : ProgressValue
  pub negotiated : NegotiatedValue
  pub gathered : GatheredValue
  -- in a connection of its own: what it has heard in it, and the reply of the process that it serves
  pub course : Option CourseState
  pub reply : Option Reply
  -- how often ACK had risen in the present phase
  pub answers : ℕ

-- Where a connection of its own stands and RST is false it has a course.
abbrev pub IsCourseIf : ScenarioValue → List Row → ℕ → Option CourseState → Type 0
IsCourseIf s rows dev None = (n : Connection) → IsOwnConnection rows dev n → (bus rows).rst ≡ true
IsCourseIf s rows dev (Some c) = IsCourseOf s rows dev c

-- In a connection of its own, while RST is false, the process that it serves stands so at its unit.
abbrev pub IsStandingOf : ScenarioValue → List Row → ℕ → Standing → Type 0
IsStandingOf s rows dev v = (n : Connection) (p : Process) → IsOwnConnection rows dev n → (bus rows).rst ≡ false
    → process_served s (run_state s rows) ≡ Some p → IsStanding (seat_of (array_of s (run_state s rows)) dev p.unit) p v

-- Its parts are of this target of the scenario, and each knows what these rows make known.
pub record KnowsRows (s : ScenarioValue) (rows : List Row) (v : TargetValue) : Type 0 where
  pub line : IsTargetLine s v.def
  pub itself_dev : v.itself.dev ≡ v.def.dev
  pub units_dev : v.units.dev ≡ v.def.dev
  pub units_seek : v.units.seek ≡ v.def.seek
  pub progress_dev : v.progress.dev ≡ v.def.dev
  pub negotiated_dev : v.negotiated.dev ≡ v.def.dev
  pub gathered_dev : v.gathered.dev ≡ v.def.dev
  pub itself_is : IsItselfOf s rows v.itself
  pub units_are : AreUnitsOf s (array_of s (run_state s rows))
      (run_state s rows).current_since v.units.dev v.units.units
  pub sound : IsSound s (array_of s (run_state s rows))
  pub progress_is : IsProgressOf s rows v.progress
  pub negotiated_are : IsNegotiatedOf s rows v.negotiated
  pub gathered_are : IsGatheredOf s v.gathered
  pub all_gathered : AreAllGathered s rows v.gathered
  pub course_is : IsCourseIf s rows v.def.dev v.course
  pub reply_is : IsReplyOf s rows v.def.dev v.reply
  pub standing_is : IsStandingOf s rows v.def.dev v.standing
  pub answers_is : v.answers ≡ (handshakes rows).answers

-- ---- what it rests on beside what it was told

-- Rows are fewer than 2 ^ 64, and each time since which a process is current lies, with the seek time, before 2 ^ 63.
pub record IsServable (s : ScenarioValue) (rows : List Row) (t : TargetDef) : Type 0 where
  pub few : length rows < 2 ^ 64
  pub early : (n : ℕ) → n < 8
      → since_of (array_of s (run_state s rows)).units (run_state s rows).current_since t.dev n + t.seek < 2 ^ 63

-- This is the target of the scenario after these rows: it knows what they make known, what it has heard is what was to
-- be said to it, it is the initiator of no connection, and its times are small.
pub record IsTargetAfter (s : ScenarioValue) (rows : List Row) (v : TargetValue) : Type 0 where
  pub knows : KnowsRows s rows v
  pub heard_are : heard s rows ≡ true
  pub no_initiator : IsNoInitiator rows v.def.dev
  pub servable : IsServable s rows v.def

-- What ties its knowledge to what the rows tell.
pub record AreTied (s : ScenarioValue) (rows : List Row) : Type 0 where
  pub faithful_are : faithful s rows ≡ true
  pub telling_are : telling s rows ≡ true
  pub allowed_are : allowed s rows ≡ true
  pub heard_are : heard s rows ≡ true
  pub written_are : written s rows ≡ true
  pub attended_are : attended s rows ≡ true

-- Rows are few, and each comes before 2 ^ 62.
pub record AreInTime (rows : List Row) : Type 0 where
  pub few : length rows < 2 ^ 64
  pub early : AllByRecursion (λ (row : Row). row.time < 2 ^ 62) rows
