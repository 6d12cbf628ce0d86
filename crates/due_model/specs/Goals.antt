-- Statements of prompt traces as a whole, for the contracts of the laws above.
use Rattle.std.specs.Prelude.{ℕ, ◌≡◌, ◌≤◌, Bool, true, false, List, reverse, length, Option, Some, None, is_some}
use Rattle.std.specs.List.{list_all}
use Rattle.bus_rules.specs.bus_trace.specs.LineSet.{none}
use Rattle.bus_rules.specs.bus_trace.specs.Trace.{bus, last_time}
use Rattle.bus_rules.specs.bus_trace.specs.declared.Row.{Row}
use Rattle.bus_rules.specs.Lawful.{IsLawful}
use Rattle.dialogue_model.specs.scenario.specs.Value.{ScenarioValue}
use Rattle.dialogue_model.specs.scenario.specs.Writing.{Obeys}
use Rattle.dialogue_model.specs.array_model.specs.ArrayHistory.{array_after, disks_of, tapes_of}
use Rattle.dialogue_model.specs.story_model.specs.TraceHistory.{story, trace_history}
use Rattle.dialogue_model.specs.story_model.specs.Outcomes.{Outcome, ended_good, outcomes}
use Rattle.dialogue_model.specs.story_model.specs.Right.{Right}
use Rattle.dialogue_model.specs.story_model.specs.Samples.{expected_strikes, row_strikes}
use Rattle.dialogue_model.specs.story_model.specs.Budget.{budget}
use Rattle.dialogue_model.specs.reaction_model.specs.declared.due.Due.{Due}
use Rattle.due_model.specs.Next.{due, IsPrompt, IsEnded}
use Rattle.due_model.specs.Run.{run_by_due}

-- What is right of a trace that has ended: every row obeys every rule of the bus, and so does the end; no line is true;
-- it tells a history that the plain disk array permits, in which each command has its outcome and each that ran and
-- ended carried exactly its own bytes; and its fault rows are those of the scenario.
pub record IsRight (s : ScenarioValue) (rows : List Row) : Type 0 where
  pub lawful : IsLawful rows (last_time rows)
  pub quiet : bus rows ≡ none
  pub told : Right s (reverse rows) (reverse (trace_history s rows)) (outcomes s (story s rows))
      (disks_of (array_after s (trace_history s rows))) (tapes_of (array_after s (trace_history s rows)))
  pub answered : list_all (λ (o : Option Outcome). is_some o) (outcomes s (story s rows)) ≡ true
  pub faults : expected_strikes s rows ≡ row_strikes (reverse rows)

-- Of every scenario that obeys the rules of its text: a prompt trace that has ended is right.
abbrev pub EndsRight : Type 0
EndsRight = (s : ScenarioValue) (rows : List Row) → Obeys s → IsPrompt s rows → IsEnded s rows → IsRight s rows

-- In a prompt trace nothing that is due lies in the past.
abbrev pub GoesForward : Type 0
GoesForward = (s : ScenarioValue) (rows : List Row) (dev : ℕ) (x : Due) → Obeys s → IsPrompt s rows
    → due s rows dev ≡ Some x → last_time rows ≤ x.time

-- A prompt trace has no more rows than the budget of its scenario; so a run ends.
abbrev pub StaysWithin : Type 0
StaysWithin = (s : ScenarioValue) (rows : List Row) → Obeys s → IsPrompt s rows → length rows ≤ budget s

abbrev pub RunsEnd : Type 0
RunsEnd = (s : ScenarioValue) → Obeys s → IsEnded s (run_by_due s (budget s)).rows

-- A command ended GOOD.
abbrev pub is_good : Option Outcome → Bool
is_good None = false
is_good (Some (ended_good bytes)) = true
is_good (Some _) = false
