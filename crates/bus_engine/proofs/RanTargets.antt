-- The target of each process that ran is one of the scenario, after any rows of a prompt trace: the ends of the
-- connection in which it ran are an initiator and a target of it (6.1.4, 6.1.5).
use Rattle.std.proofs.Common.{◌≡◌, ◌⊎◌, inl, inr, true, ◌∙◌, List, [], ◌∷◌, Some, sym}
use Rattle.bus_base.specs.declared.ProcId.{ProcId}
use Rattle.bus_base.proofs.Tests.{wrong'}
use Rattle.bus_trace.specs.declared.Row.{Row}
use Rattle.bus_trace.specs.Terms.{connection}
use Rattle.scenario.specs.Lookups.{has_target}
use Rattle.scenario.specs.Value.{ScenarioValue}
use Rattle.scenario.specs.Writing.{Obeys}
use Rattle.array_model.specs.Processes.{Process, process_of}
use Rattle.due_model.specs.story_model.specs.BusState.{row_reading}
use Rattle.due_model.specs.story_model.specs.HistoryEvents.{row_events_by}
use Rattle.due_model.specs.story_model.specs.Right.{has_run}
use Rattle.due_model.specs.Next.{IsPrompt}
use Rattle.due_model.specs.Plain.{IsPlain}
use Rattle.due_model.specs.RunState.{RunState}
use Rattle.due_model.specs.RunSteps.{run_state}
use Rattle.due_model.proofs.Plains.{run_state_plain}
use Rattle.delivery_laws.specs.trace_laws.proofs.Whole.{Whole, whole}
use Rattle.delivery_laws.specs.right_laws.proofs.Ran.Crossings.{GoesSo, here_goes, known_served}
use Rattle.delivery_laws.specs.right_laws.proofs.Ran.Sent.{answer_of}
use Rattle.delivery_laws.specs.right_laws.proofs.Ran.Shown.{IsAnswer}
use Rattle.delivery_laws.specs.right_laws.proofs.Ran.Facts.{run_either}
use Rattle.delivery_laws.proofs.Callings.Present.{served_there}

-- It runs with a row of a connection, whose target is there.
runs_there : (s : ScenarioValue) (p : List Row) (row : Row) → Obeys s
    → IsPrompt s (row ∷ p) → (id : ProcId) (q : Process) → process_of s id ≡ Some q
    → has_run (row_events_by s (run_state s p).story (row_reading (run_state s p).story.bus_state row) row) id ≡ true
    → has_target s q.target ≡ true
runs_there s p row o prompt id q own has =
    by (here_goes s k row answer.link id (λ e. (was.facts.items.items.apart e).0) next.rows_are.1 answer.here)
  where
    k : RunState
    k = run_state s p

    was : Whole s p
    was = whole s p o prompt.0

    next : Whole s (row ∷ p)
    next = whole s (row ∷ p) o prompt

    pl : IsPlain s p k
    pl = run_state_plain s p was.stood.standing.devices

    answer : IsAnswer k (row_reading k.story.bus_state row) id
    answer = answer_of s k row id has

    by : GoesSo s k row → has_target s q.target ≡ true
    by v = served_there s p v.connection o prompt.0 (sym pl.connection ∙ v.goes.row_is.connection_is) id q own
        (known_served s k row v.connection v.change answer.link id was.stood.books v.goes answer.here.link_is
        answer.here.item_is)

pub ran_there : (s : ScenarioValue) (p : List Row) → Obeys s → IsPrompt s p → (id : ProcId) (q : Process)
    → process_of s id ≡ Some q → has_run (run_state s p).story.history id ≡ true → has_target s q.target ≡ true
ran_there s [] o prompt id q own e = wrong' e
ran_there s (row ∷ p) o prompt id q own e = go (λ z. ran_there s p o prompt.0 id q own z)
    (run_either (row_events_by s (run_state s p).story (row_reading (run_state s p).story.bus_state row) row)
    (run_state s p).story.history id e)
  where
    k : RunState
    k = run_state s p

    go : (has_run k.story.history id ≡ true → has_target s q.target ≡ true)
        → (has_run (row_events_by s k.story (row_reading k.story.bus_state row) row) id ≡ true)
        ⊎ (has_run k.story.history id ≡ true)
        → has_target s q.target ≡ true
    go before (inl z) = runs_there s p row o prompt id q own z
    go before (inr z) = before z
