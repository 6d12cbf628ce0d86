-- What is looked up: the process that an opening names, the progress of another process, an array that is none.
use Rattle.std.proofs.Common.{true, ap, ◌+◌, ◌≡◌, Option, None, false, Some, refl, ◌∷◌, Bool, List, []}
use Rattle.due_model.specs.Faithful.{same_tag, is_unit, is_process_named}
use Rattle.std.specs.Prelude.{◌&&◌, is_some, is_none, if◌then◌else◌, ◌||◌}
use Rattle.bus_rules.specs.bus_base.specs.declared.AbortKind.{AbortKind}
use Rattle.std.proofs.lemmas.Bool.{and_parts}
use Rattle.dialogue_model.specs.array_model.specs.Processes.{Process, same_id}
use Rattle.dialogue_model.specs.declared.exchange.Said.{Said}
use Rattle.dialogue_model.specs.PhaseBytes.{one_if}
use Rattle.due_model.specs.LastingState.{progress_with, progress_in, ProcessProgress}
use Rattle.bus_rules.specs.bus_base.specs.declared.ProcId.{ProcId}
use Rattle.dialogue_model.specs.scenario.specs.Value.{ScenarioValue}
use Rattle.due_model.specs.RunSteps.{array_after_events}
use Rattle.bus_rules.specs.bus_base.specs.declared.Event.{Event}
use Rattle.dialogue_model.specs.array_model.specs.ArrayHistory as Play

pub named_none : (said : Said) (p : Process) → is_process_named said (Some p) ≡ true → is_some said.aborts ≡ false
named_none said p e = go said.aborts (and_parts (is_none said.aborts) (is_unit said.unit p.unit)
    (and_parts (is_none said.aborts && is_unit said.unit p.unit) (same_tag said.tag p.tag) e).0).0
  where
    go : (a : Option AbortKind) → is_none a ≡ true → is_some a ≡ false
    go None f = refl
    go (Some x) f = cc

pub other_kept : (all : List ProcessProgress) (p id : ProcId) (runs recovers : Bool) → same_id p id ≡ false
    → progress_in (progress_with all p runs recovers) id ≡ progress_in all id
other_kept all p id runs recovers e = go (runs || recovers)
  where
    new : ProcessProgress
    new = record {
      id = p;
      runs = (progress_in all p).runs + one_if runs;
      recoveries = (progress_in all p).recoveries + one_if recovers;
    }

    go : (q : Bool) → progress_in (if q then new ∷ all else all) id ≡ progress_in all id
    go true = ap (λ (x : Bool). if x then new else progress_in all id) e
    go false = refl

pub none_stays : (s : ScenarioValue) (l : List Event) → array_after_events s None l ≡ None
none_stays s [] = refl
none_stays s (e ∷ l) =
    let rest : array_after_events s None l ≡ None = none_stays s l in
    λ i. Play.array_step s e (rest i)
