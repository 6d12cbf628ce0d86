-- What a target knows beside what all devices are told.
use Rattle.std.specs.Prelude.{ℕ, ◌≡◌, ◌<◌, ◌^◌, ◌==◌, true, false, List, Option, Some, None}
use Rattle.bus_trace.specs.Terms.{connection}
use Rattle.bus_trace.specs.declared.Row.{Row}
use Rattle.bus_trace.specs.declared.connection.Connection.{Connection}
use Rattle.scenario.specs.declared.value.TargetDef.{TargetDef}
use Rattle.scenario.specs.Value.{ScenarioValue}
use Rattle.bus_trace.specs.Trace.{bus, drives}
use Rattle.bus_lines.specs.Handshakes.{handshakes}
use Rattle.reaction_model.specs.declared.ends.Offering.{Offering}
use Rattle.due_model.specs.dialogue_model.specs.Ends.{offering_by}
use Rattle.due_model.specs.dialogue_model.specs.Hearing.{begun}
use Rattle.target_units.specs.scsi_device.specs.Told.{told, pace_of}
use Rattle.target_course.specs.Alike.{AreAlike}
use Rattle.due_model.specs.dialogue_model.specs.NextPhase as next_phase
use Rattle.due_model.specs.Own.{Own, own_of}
use Rattle.due_model.specs.Defs.{host_of, target_def_of}
use Rattle.due_model.specs.Wants.{ready_of}
use Rattle.due_model.specs.Sights.{serving_of}
use Rattle.due_model.specs.RunSteps.{run_state}
use Rattle.due_model.specs.Due.{reset_from}
use Rattle.target_units.specs.Readies.{ready_unit}
use Rattle.target_units.specs.declared.ready.Ready.{Ready}
use Rattle.array_model.specs.Seats.{is_initiator}

-- ---- what it knows itself

pub record TargetState : Type 0 where
  -- when it made rows, raised and released RST; and its next reset
  pub own : Own
  pub reset : Option ℕ
  -- the unit that is ready first
  pub ready : Option Ready
  -- in a connection of its own: what it decides by
  pub serving : next_phase.Serving

-- A connection stands of which it is the target.
pub record IsOwnConnection (rows : List Row) (dev : ℕ) (n : Connection) : Type 0 where
  pub stands : connection rows ≡ Some n
  pub own : (n.target == dev) ≡ true

-- What it has to do in the phase by what it decides by, and what the rows have it do.
abbrev pub offering_in : List Row → next_phase.Serving → Offering
offering_in rows v =
    offering_by v (begun rows) (pace_of (told rows 0) None).pulsed (bus rows) (handshakes rows)

-- Nothing that it does next tells between these two.
abbrev pub AreAlikeIn : List Row → ℕ → Offering → Offering → Type 0
AreAlikeIn rows dev g h = AreAlike (begun rows) (pace_of (told rows 0) None).pulsed (drives rows dev).req (bus rows).io
    (handshakes rows).requests g h

-- This is what the target of this line of the scenario knows after these rows. In a connection of its own, while RST is
-- false, it may know less than the rows tell of the process, as long as nothing that it does next tells between them.
pub record IsTargetOf (s : ScenarioValue) (rows : List Row) (t : TargetDef) (i : TargetState) : Type 0 where
  pub own_is : i.own ≡ own_of rows t.dev
  pub reset_is : i.reset ≡ reset_from t.dev (own_of rows t.dev).released s.resets
  pub ready_is : i.ready ≡ ready_unit (ready_of s (run_state s rows) t.dev)
  pub serving_is : (n : Connection) → IsOwnConnection rows t.dev n → (bus rows).rst ≡ false
      → AreAlikeIn rows t.dev (offering_in rows i.serving) (offering_in rows (serving_of s (run_state s rows) t.dev))

-- ---- what the scenario says of it

-- It is a target of the scenario, with this line, and no initiator.
pub record IsTargetLine (s : ScenarioValue) (t : TargetDef) : Type 0 where
  pub below : t.dev < 8
  pub target_is : target_def_of s t.dev ≡ Some t
  pub no_host : host_of s t.dev ≡ None
  pub is_none : is_initiator s.hosts t.dev ≡ false

-- It is the initiator of no connection.
pub record IsNoInitiator (rows : List Row) (dev : ℕ) : Type 0 where
  pub not_calling : (n : Connection) → connection rows ≡ Some n → (n.initiator == dev) ≡ false

-- ---- bounds: ready before 2 ^ 63, at one of eight logical units

abbrev pub IsReadyWithin : Option Ready → Type 0
IsReadyWithin None = Unit {0}
IsReadyWithin (Some r) = (r.time < 2 ^ 63) × (r.unit < 8)
