-- A process that writes, and has no reply, has a data run left, or has made none (6.6.6, 7.3).
use Rattle.std.specs.Prelude.{ℕ, ◌≡◌, ◌⊎◌, ◌<◌, List, Some, None}
use Rattle.due_model.specs.bus_trace.specs.declared.Row.{Row}
use Rattle.due_model.specs.scenario.specs.Value.{ScenarioValue}
use Rattle.due_model.specs.array_model.specs.ArrayHistory.{reply_in}
use Rattle.due_model.specs.array_model.specs.Order.{range_named}
use Rattle.due_model.specs.array_model.specs.Processes.{Process, process_of}
use Rattle.due_model.specs.dialogue_model.specs.DataRuns.{runs_in}
use Rattle.due_model.specs.LastingState.{progress_in}
use Rattle.due_model.specs.RunState.{array_of}
use Rattle.due_model.specs.RunSteps.{run_state}
use Rattle.due_model.specs.Tasks.{blocks_in}
use Rattle.story_laws.specs.book_laws.specs.Accounts.{policy_for}
use Rattle.story_laws.specs.RunFacts.{IsWriter}

-- In how many runs its data are moved, if any are.
abbrev pub run_total : ScenarioValue → Process → ℕ
run_total s c = runs_in (policy_for s c) (blocks_in (range_named c))

-- Of so many runs in all it has made so many.
abbrev pub HasRunLeft : ℕ → ℕ → Type 0
HasRunLeft total made = (made ≡ 0) ⊎ (made < total)

-- So those of this kind.
abbrev pub RunsLeftOf : (Process → Type 0) → ScenarioValue → List Row → Type 0
RunsLeftOf kind s rows =
    (c : Process) → process_of s c.id ≡ Some c → kind c → reply_in (array_of s (run_state s rows)).replies c.id ≡ None
    → HasRunLeft (run_total s c) (progress_in (run_state s rows).progress c.id).runs

abbrev pub RunsLeft : ScenarioValue → List Row → Type 0
RunsLeft s rows = RunsLeftOf IsWriter s rows
