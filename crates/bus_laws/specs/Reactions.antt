-- What a device does but for RST, and when it made its last row of lines.
use Rattle.std.specs.Prelude.{ℕ, List, Option, Some, None}
use Rattle.due_model.specs.bus_trace.specs.LineSet.{LineSet}
use Rattle.due_model.specs.bus_trace.specs.declared.Row.{Row}
use Rattle.due_model.specs.scenario.specs.Value.{ScenarioValue}
use Rattle.due_model.specs.story_model.specs.Samples.{latency_of}
use Rattle.due_model.specs.reaction_model.specs.declared.due.Due.{Due}
use Rattle.due_model.specs.reaction_model.specs.declared.due.Myself.{Myself}
use Rattle.due_model.specs.Own.{own_of}
use Rattle.due_model.specs.RunState.{RunState}
use Rattle.due_model.specs.reaction_model.specs.Reset.{rst_assertion}
use Rattle.due_model.specs.Due.{self_of, calm_due, reset_from}
use Rattle.due_model.specs.RunSteps.{run_state}

-- A device that drives these lines, its last row having been at this time.
abbrev pub device_with : ℕ → ℕ → LineSet → ℕ → Myself
device_with dev latency own since = record { dev = dev; latency = latency; own = own; since = since }

abbrev pub own_time : List Row → ℕ → ℕ
own_time rows dev = (own_of rows dev).row

abbrev pub unreset_due_if : ScenarioValue → RunState → ℕ → Option ℕ → Option Due
unreset_due_if s k dev None = None
unreset_due_if s k dev (Some latency) = calm_due s k (self_of k dev latency)

-- What is due of a device after these rows, no reset of its own being counted.
abbrev pub unreset_due : ScenarioValue → List Row → ℕ → Option Due
unreset_due s rows dev = unreset_due_if s (run_state s rows) dev (latency_of s dev)

-- The next reset of its own that a device makes, where it does not drive RST.
abbrev pub reset_due_if : ScenarioValue → List Row → ℕ → Option ℕ → Option Due
reset_due_if s rows dev None = None
reset_due_if s rows dev (Some latency) = rst_assertion (reset_from dev (own_of rows dev).released s.resets)

abbrev pub reset_due : ScenarioValue → List Row → ℕ → Option Due
reset_due s rows dev = reset_due_if s rows dev (latency_of s dev)
