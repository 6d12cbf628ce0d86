-- With which targets an initiator has had the connection in which the two may negotiate (6.6.21).
use Rattle.std.specs.Prelude.{ℕ, ◌≡◌, ◌<◌, Bool, true, false, ◌==◌, List, [], ◌∷◌, length, Option, Some, None}
use Rattle.std.specs.Prelude.{replicate, slice_set, slice_index_or, if◌then◌else◌}
use Rattle.bus_base.specs.declared.AbortKind.{AbortKind}
use Rattle.bus_base.specs.declared.AbortKind.TheVariants as aborts
use Rattle.bus_base.specs.declared.Event.{Event}
use Rattle.bus_base.specs.declared.Event.TheVariants as events
use Rattle.bus_trace.specs.declared.Row.{Row}
use Rattle.bus_trace.specs.declared.connection.Connection.{Connection}
use Rattle.scenario.specs.Value.{ScenarioValue}
use Rattle.due_model.specs.LastingState.{Negotiated, has_negotiated}
use Rattle.due_model.specs.RunSteps.{run_state}

pub record NegotiationsValue : Type 0 where
  pub dev : ℕ
  -- of the text of the scenario
  pub version : ℕ
  -- by target, 0 to 7
  pub had : List Bool

abbrev pub no_negotiations : ℕ → ℕ → NegotiationsValue
no_negotiations dev version = record { dev = dev; version = version; had = replicate 8 false }

-- ---- a row; `process` says whether the initiator last entered arbitration for a process

abbrev pub had_in : NegotiationsValue → Bool → Connection → NegotiationsValue
had_in v process n =
    if n.reselected then v
    else if n.initiator == v.dev then (if process then record v { had = slice_set v.had n.target true } else v) else v

abbrev pub had_by_connection : NegotiationsValue → Bool → Option Connection → Option Connection → NegotiationsValue
had_by_connection v process None None = v
had_by_connection v process None (Some n) = had_in v process n
had_by_connection v process (Some m) after = v

-- Version 1: after a reset nobody negotiates any more.
abbrev pub had_after_abort : NegotiationsValue → ℕ → AbortKind → NegotiationsValue
had_after_abort v target aborts.Device = record v { had = slice_set v.had target (v.version == 1) }
had_after_abort v target aborts.All = v
had_after_abort v target (aborts.Tag n) = v
had_after_abort v target aborts.WholeQueue = v

abbrev pub had_after_event : NegotiationsValue → Event → NegotiationsValue
had_after_event v (events.Aborted host target unit what) = had_after_abort v target what
had_after_event v (events.Reset dev) = record v { had = replicate 8 (v.version == 1) }
had_after_event v (events.Accept id) = v
had_after_event v (events.Refuse id) = v
had_after_event v (events.Run id) = v
had_after_event v (events.Fail id code) = v
had_after_event v (events.End id status) = v
had_after_event v (events.Lost id) = v

-- The newest first.
abbrev pub had_after_events : NegotiationsValue → List Event → NegotiationsValue
had_after_events v [] = v
had_after_events v (e ∷ shown) = had_after_event (had_after_events v shown) e

abbrev pub negotiations_after : NegotiationsValue → Bool → Option Connection → Option Connection → List Event
    → NegotiationsValue
negotiations_after v process before after shown = had_after_events (had_by_connection v process before after) shown

-- What is kept of all pairs is, of this initiator, what it keeps. In version 2 no pair is barred for good.
pub record HasHad (m : Negotiated) (v : NegotiationsValue) : Type 0 where
  pub eight : length v.had ≡ 8
  pub had_is : (target : ℕ) → target < 8 → slice_index_or v.had target false ≡ has_negotiated m v.dev target
  pub unbarred : (v.version == 1) ≡ false → (m.all ≡ false) × (m.targets ≡ [])

-- After these rows.
pub record IsNegotiationsOf (s : ScenarioValue) (rows : List Row) (v : NegotiationsValue) : Type 0 where
  pub version_is : v.version ≡ s.version
  pub kept : HasHad (run_state s rows).negotiated v
