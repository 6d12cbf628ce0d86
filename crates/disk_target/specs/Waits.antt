-- The target of a connection waits for ACK to follow REQ; what it does by REQ and ACK, and by all that it knows.
use Rattle.std.specs.Prelude.{ℕ, ◌≡◌, Bool, true, false, not, ◌&&◌, List, Option, None}
use Rattle.bus_trace.specs.declared.Row.{Row}
use Rattle.reaction_model.specs.declared.due.Due.{Due}
use Rattle.reaction_model.specs.declared.due.Myself.{Myself}
use Rattle.reaction_model.specs.declared.ends.Offering.{Offering}
use Rattle.due_model.specs.RunSteps.{run_state}
use Rattle.due_model.specs.Sights.{serving_of}
use Rattle.due_model.specs.Wants.{ready_of}
use Rattle.scenario.specs.declared.value.TargetDef.{TargetDef}
use Rattle.scenario.specs.Value.{ScenarioValue}
use Rattle.target_course.specs.scsi_device.specs.Told.{Told, told, pace_of}
use Rattle.target_course.specs.Dues.{due_of_offering, myself_by, plain_by}
use Rattle.target_course.specs.States.{TargetState}
use Rattle.target_course.specs.target_units.specs.Readies.{ready_unit}

-- Byte by byte, while REQ is true and ACK false, or the other way round, it does nothing, whatever it has to do in the
-- phase (6.1.5.1).
abbrev pub differ : Bool → Bool → Bool
differ true ack = not ack
differ false ack = ack

abbrev pub waits : Bool → Bool → Bool → Bool → Bool
waits req ack begun pulsed = differ req ack && (begun && not pulsed)

abbrev pub is_waiting : Told → Bool
is_waiting t = waits t.lines.req t.sight.bus.ack t.begun (pace_of t None).pulsed

-- While it drives a REQ pulse it ends that next, whatever it has to do in the phase (6.1.5.2).
abbrev pub drives_pulse : Bool → Bool → Bool → Bool
drives_pulse req begun pulsed = req && (begun && pulsed)

abbrev pub is_in_pulse : Told → Bool
is_in_pulse t = drives_pulse t.lines.req t.begun (pace_of t None).pulsed

-- Where it is this on the bus it does this by REQ and ACK, as the rows have it do.
abbrev pub DoesAs : ScenarioValue → List Row → TargetDef → Myself → Option Due → Type 0
DoesAs s rows t me plain = (i : TargetState) → me ≡ myself_by t (told rows t.dev) i
    → i.serving ≡ serving_of s (run_state s rows) t.dev → plain ≡ plain_by t (told rows t.dev) i

-- It does the same, whichever of these two it has to do in the phase.
abbrev pub DoesAlike : List Row → TargetDef → Offering → Offering → Type 0
DoesAlike rows t g h = (i : TargetState) → due_of_offering t (told rows t.dev) i (pace_of (told rows t.dev) None) g
    ≡ due_of_offering t (told rows t.dev) i (pace_of (told rows t.dev) None) h

-- Beside its own times it knows all that the rows tell: the unit that is ready first, and what it decides by.
pub record KnowsAll (s : ScenarioValue) (rows : List Row) (dev : ℕ) (i : TargetState) : Type 0 where
  pub ready_is : i.ready ≡ ready_unit (ready_of s (run_state s rows) dev)
  pub serving_is : i.serving ≡ serving_of s (run_state s rows) dev
