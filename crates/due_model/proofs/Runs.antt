-- A run by what is due is a prompt trace.
use Rattle.std.proofs.Common.{ℕ, zero, suc, ◌≡◌, Bool, true, false, ◌∙◌, refl, sym, ap, Option, Some, None}
use Rattle.std.specs.Prelude.{if◌then◌else◌}
use Rattle.bus_rules.specs.bus_trace.specs.declared.Row.{Row}
use Rattle.dialogue_model.specs.scenario.specs.Value.{ScenarioValue}
use Rattle.due_model.specs.RunState.{RunState}
use Rattle.due_model.specs.RunSteps.{run_state, run_state_after}
use Rattle.due_model.specs.Next.{next, next_by, IsPrompt, IsEnded}
use Rattle.due_model.specs.Run.{Run, one_more, run_from, run_by_due}

pub record IsRun (s : ScenarioValue) (r : Run) : Type 0 where
  pub kept : r.kept ≡ run_state s r.rows
  pub prompt : IsPrompt s r.rows
  pub ended : r.ended ≡ true → IsEnded s r.rows

next_is : (s : ScenarioValue) (r : Run) → IsRun s r → next_by s r.kept ≡ next s r.rows
next_is s r h = ap (next_by s) h.kept

more : (s : ScenarioValue) (r : Run) → IsRun s r → r.ended ≡ false → (x : Option Row) → next_by s r.kept ≡ x
    → IsRun s (one_more s r x)
more s r h open_ None e = record { kept = h.kept; prompt = h.prompt; ended = λ z. sym (next_is s r h) ∙ e }
more s r h open_ (Some row) e = record {
  kept = ap (λ (k : RunState). run_state_after s k row) h.kept;
  prompt = (h.prompt, sym (next_is s r h) ∙ e);
  ended = λ z. cc;
}

from : (s : ScenarioValue) (fuel : ℕ) (r : Run) → IsRun s r → IsRun s (run_from s fuel r)
unfolding run_from
from s zero r h = h
from s (suc fuel) r h = go r.ended refl (λ z k. from s fuel z k)
  where
    go : (b : Bool) → r.ended ≡ b → ((z : Run) → IsRun s z → IsRun s (run_from s fuel z))
        → IsRun s (if b then r else run_from s fuel (one_more s r (next_by s r.kept)))
    go true e again = h
    go false e again = again (one_more s r (next_by s r.kept)) (more s r h e (next_by s r.kept) refl)

pub run_is : (s : ScenarioValue) (fuel : ℕ) → IsRun s (run_by_due s fuel)
run_is s fuel = from s fuel _ (record { kept = refl; prompt = tt; ended = λ z. cc })
