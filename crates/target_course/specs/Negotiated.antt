-- With which initiators a target has had the connection in which the two may negotiate (6.6.21).
use Rattle.std.specs.Prelude.{ℕ, ◌≡◌, ◌<◌, ⊤, Bool, true, false, not, ◌==◌, ◌&&◌, ◌||◌, List, [], ◌∷◌, length, Option}
use Rattle.std.specs.Prelude.{Some, None, is_some, replicate, slice_set, slice_index_or, if◌then◌else◌}
use Rattle.bus_base.specs.declared.AbortKind.{AbortKind}
use Rattle.bus_base.specs.declared.AbortKind.TheVariants as aborts
use Rattle.bus_base.specs.declared.Event.{Event}
use Rattle.bus_base.specs.declared.Event.TheVariants as events
use Rattle.bus_trace.specs.Trace.{bus}
use Rattle.bus_trace.specs.Terms.{connection}
use Rattle.bus_trace.specs.declared.Row.{Row}
use Rattle.bus_trace.specs.declared.connection.Connection.{Connection}
use Rattle.scenario.specs.Value.{ScenarioValue}
use Rattle.due_model.specs.dialogue_model.specs.NextPhase.{phase_of}
use Rattle.due_model.specs.dialogue_model.specs.declared.exchange.Cause.TheVariants as causes
use Rattle.due_model.specs.dialogue_model.specs.declared.exchange.Hearing.{Hearing}
use Rattle.due_model.specs.dialogue_model.specs.declared.exchange.Phase.TheVariants as phases
use Rattle.due_model.specs.LastingState.{Negotiated, has_negotiated}
use Rattle.due_model.specs.RunState.{bus_of}
use Rattle.due_model.specs.RunSteps.{run_state, is_for_process}
use Rattle.target_course.specs.Plans.{plan_at}
use Rattle.target_course.specs.Progress.{is_phase_left}
use Rattle.target_course.specs.States.{IsOwnConnection}

pub record NegotiatedValue : Type 0 where
  pub dev : ℕ
  -- of the text of the scenario
  pub version : ℕ
  -- by initiator, 0 to 7; but for the one whose opening lasts
  pub had : List Bool
  -- the initiator of the connection whose opening lasts
  pub opening : Option ℕ

abbrev pub nobody_met : ℕ → ℕ → NegotiatedValue
nobody_met dev version = record { dev = dev; version = version; had = replicate 8 false; opening = None }

-- ---- a row that tells this, before and after which these connections stand

-- An initiator selects this target: its opening begins.
abbrev pub opened_in : NegotiatedValue → Connection → NegotiatedValue
opened_in v n = if not n.reselected && n.target == v.dev then record v { opening = Some n.initiator } else v

-- The opening is over, in which an abort was heard or not: without one the connection is for a process.
abbrev pub met_by_opening : NegotiatedValue → Bool → Option ℕ → NegotiatedValue
met_by_opening v aborts None = v
met_by_opening v aborts (Some initiator) =
    record v { had = if aborts then v.had else slice_set v.had initiator true; opening = None }

-- The phase is left that had begun, or the connection.
abbrev pub is_opening_left : Hearing → Option Connection → Bool
is_opening_left w None = true
is_opening_left w (Some n) = is_phase_left w

abbrev pub met_by_connection : NegotiatedValue → Bool → Hearing → Option Connection → Option Connection
    → NegotiatedValue
met_by_connection v aborts w None None = v
met_by_connection v aborts w None (Some n) = opened_in v n
met_by_connection v aborts w (Some m) after = if is_opening_left w after then met_by_opening v aborts v.opening else v

-- Version 1: after a reset nobody negotiates any more.
abbrev pub met_after_reset : NegotiatedValue → NegotiatedValue
met_after_reset v = record v { had = replicate 8 (v.version == 1); opening = None }

abbrev pub met_after_abort : NegotiatedValue → ℕ → AbortKind → NegotiatedValue
met_after_abort v target aborts.Device = if target == v.dev then met_after_reset v else v
met_after_abort v target aborts.All = v
met_after_abort v target (aborts.Tag n) = v
met_after_abort v target aborts.WholeQueue = v

abbrev pub met_after_event : NegotiatedValue → Event → NegotiatedValue
met_after_event v (events.Aborted host target unit what) = met_after_abort v target what
met_after_event v (events.Reset dev) = met_after_reset v
met_after_event v (events.Accept id) = v
met_after_event v (events.Refuse id) = v
met_after_event v (events.Run id) = v
met_after_event v (events.Fail id code) = v
met_after_event v (events.End id status) = v
met_after_event v (events.Lost id) = v

-- The newest first.
abbrev pub met_after_events : NegotiatedValue → List Event → NegotiatedValue
met_after_events v [] = v
met_after_events v (e ∷ shown) = met_after_event (met_after_events v shown) e

abbrev pub negotiated_seen : NegotiatedValue → Bool → Hearing → Option Connection → Option Connection → List Event
    → NegotiatedValue
negotiated_seen v aborts w before after shown = met_after_events (met_by_connection v aborts w before after) shown

-- ---- what the rows tell

abbrev pub is_open_to : Option ℕ → ℕ → Bool
is_open_to None initiator = false
is_open_to (Some i) initiator = i == initiator

-- What is kept of all pairs is, of this target, what it keeps; and while an opening lasts the pair has had the
-- connection also where that is for a process. In version 2 no pair is barred for good.
pub record HasMet (m : Negotiated) (process : Bool) (v : NegotiatedValue) : Type 0 where
  pub eight : length v.had ≡ 8
  pub met : (i : ℕ) → i < 8
      → has_negotiated m i v.dev ≡ (slice_index_or v.had i false || is_open_to v.opening i && process)
  pub unbarred : (v.version == 1) ≡ false → (m.all ≡ false) × (m.targets ≡ [])

-- An opening is that of a connection of this target that began by a selection, under which RST is false; no phase but
-- the first, MESSAGE OUT, has begun in it.
pub record IsOpening (s : ScenarioValue) (rows : List Row) (dev initiator : ℕ) (n : Connection) : Type 0 where
  pub stands : connection rows ≡ Some n
  pub own : (n.target == dev) ≡ true
  pub by : n.initiator ≡ initiator
  pub calm : (bus rows).rst ≡ false
  pub cause : (plan_at s rows).cause ≡ causes.Selected
  pub first : (run_state s rows).exchange.begun ≡ true → phase_of (bus_of (run_state s rows)) ≡ phases.MessageOut

abbrev pub IsOpeningIf : ScenarioValue → List Row → ℕ → Option ℕ → Type 0
IsOpeningIf s rows dev None = ⊤
IsOpeningIf s rows dev (Some initiator) = (n : Connection) × IsOpening s rows dev initiator n

-- After these rows.
pub record IsNegotiatedOf (s : ScenarioValue) (rows : List Row) (v : NegotiatedValue) : Type 0 where
  pub version_is : v.version ≡ s.version
  pub kept : HasMet (run_state s rows).negotiated (is_for_process (run_state s rows).served) v
  pub opens : IsOpeningIf s rows v.dev v.opening

-- In a connection of its own, while RST is false, whether the target has heard an abort in the present MESSAGE OUT
-- phase.
abbrev pub IsHeardSo : ScenarioValue → List Row → ℕ → Bool → Type 0
IsHeardSo s rows dev aborts = (n : Connection) → IsOwnConnection rows dev n → (bus rows).rst ≡ false
    → aborts ≡ is_some (plan_at s rows).said.aborts
