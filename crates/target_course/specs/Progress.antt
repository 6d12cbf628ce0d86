-- How far the processes of a target have come: the data runs that each has made, and the recoveries that were counted
-- for it (6.6.10, 6.6.13, 6.6.19, 6.6.20).
use Rattle.std.specs.Prelude.{ℕ, min, ◌≡◌, ◌⊎◌, ◌+◌, ◌-◌, ◌^◌, ◌==◌, ◌&&◌, Bool, true, false, List, length, replicate}
use Rattle.std.specs.Prelude.{Option, Some, None, slice_set, slice_index_or, if◌then◌else◌}
use Rattle.bus_base.specs.declared.ProcId.{ProcId}
use Rattle.bus_trace.specs.declared.Row.{Row}
use Rattle.bus_trace.specs.declared.connection.Connection.{Connection}
use Rattle.bus_trace.specs.Phases.{changes_phase}
use Rattle.scenario.specs.Value.{ScenarioValue}
use Rattle.array_model.specs.Processes.{Process, process_of}
use Rattle.due_model.specs.dialogue_model.specs.declared.exchange.Hearing.{Hearing}
use Rattle.due_model.specs.dialogue_model.specs.declared.exchange.Leaving.{Leaving}
use Rattle.due_model.specs.LastingState.{ProcessProgress, progress_in}
use Rattle.due_model.specs.RunSteps.{run_state}
use Rattle.due_model.specs.Telling.{id_of}
use Rattle.target_course.specs.Plans.{leaving_after}
use Rattle.target_course.specs.States.{IsOwnConnection}
use Rattle.target_course.specs.declared.progress.Counts.{Counts}
use Rattle.target_course.specs.declared.progress.CountsPair.{CountsPair}
use Rattle.bus_phases.specs.Phases.{count_after}

-- ---- of one process; a count stays at the last u64

abbrev pub no_counts : Counts
no_counts = record { runs = 0; recoveries = 0 }

-- A phase is left so.
abbrev pub counts_after : Counts → Leaving → Counts
counts_after c l = record { runs = count_after l.done c.runs; recoveries = count_after l.counts c.recoveries }

-- ---- of each command its own, and those of its automatic REQUEST SENSE

abbrev pub no_pair : CountsPair
no_pair = record { command = no_counts; sense = no_counts }

abbrev pub half_of : CountsPair → Bool → Counts
half_of p true = p.sense
half_of p false = p.command

abbrev pub pair_after : CountsPair → Bool → Leaving → CountsPair
pair_after p true l = record p { sense = counts_after p.sense l }
pair_after p false l = record p { command = counts_after p.command l }

abbrev pub pair_at : List CountsPair → ℕ → CountsPair
pair_at pairs n = slice_index_or pairs n no_pair

abbrev pub counts_at : List CountsPair → ProcId → Counts
counts_at pairs id = half_of (pair_at pairs id.command) id.sense

abbrev pub pairs_after : List CountsPair → ProcId → Leaving → List CountsPair
pairs_after pairs id l = slice_set pairs id.command (pair_after (pair_at pairs id.command) id.sense l)

-- ---- of a target

pub record ProgressValue : Type 0 where
  pub dev : ℕ
  -- by the number of the command, from 1
  pub pairs : List CountsPair

abbrev pub no_progress : ℕ → ℕ → ProgressValue
no_progress dev count = record { dev = dev; pairs = replicate count no_pair }

-- ---- a row that tells this, before and after which these connections stand

-- A phase that had begun is left.
abbrev pub is_phase_left : Hearing → Bool
is_phase_left w = changes_phase w.change && w.begun

-- The process that is served, if there is one, leaves a phase so.
abbrev pub progress_counted : ProgressValue → Option ProcId → Leaving → ProgressValue
progress_counted v None l = v
progress_counted v (Some id) l = record v { pairs = pairs_after v.pairs id l }

-- In a connection of its own that stays, the target serves this process, and leaves a phase so.
abbrev pub progress_seen : ProgressValue → Option ProcId → Leaving → Hearing → Option Connection → Option Connection
    → ProgressValue
progress_seen v process l w None after = v
progress_seen v process l w (Some m) None = v
progress_seen v process l w (Some m) (Some n) =
    if m.target == v.dev && is_phase_left w then progress_counted v process l else v

-- ---- what the rows tell

abbrev pub counts_of : ProcessProgress → Counts
counts_of p = record { runs = min p.runs (2 ^ 64 - 1); recoveries = min p.recoveries (2 ^ 64 - 1) }

-- It has what was counted of each process of this target.
pub record AreCounted (s : ScenarioValue) (all : List ProcessProgress) (v : ProgressValue) : Type 0 where
  pub long : length v.pairs ≡ length s.commands + 1
  pub counts : (id : ProcId) (p : Process) → process_of s id ≡ Some p → p.target ≡ v.dev
      → counts_at v.pairs id ≡ counts_of (progress_in all id)

abbrev pub IsProgressOf : ScenarioValue → List Row → ProgressValue → Type 0
IsProgressOf s rows v = AreCounted s (run_state s rows).progress v

-- No run is made, and no recovery counted, as a phase is left so.
pub record IsUncounted (l : Leaving) : Type 0 where
  pub done : l.done ≡ false
  pub counts : l.counts ≡ false

-- Where a row that tells this, after which this connection stands, leaves a phase of this target, which process is
-- served there, and how the phase is left; or nothing is counted then, as in MESSAGE IN.
abbrev pub IsLeftSo : ScenarioValue → List Row → ℕ → Hearing → Option Connection → Option ProcId → Leaving → Type 0
IsLeftSo s rows dev w after process l =
    (n m : Connection) → IsOwnConnection rows dev n → after ≡ Some m → is_phase_left w ≡ true
    → ((process ≡ id_of (run_state s rows).served) × (l ≡ leaving_after s rows dev))
    ⊎ (IsUncounted l × IsUncounted (leaving_after s rows dev))

-- This was counted, exactly.
pub record AreExactly (p : ProcessProgress) (c : Counts) : Type 0 where
  pub runs : c.runs ≡ p.runs
  pub recoveries : c.recoveries ≡ p.recoveries
