-- The runs that are counted of a process, as one is made or a recovery is counted.
use Rattle.trace_laws.proofs
use proofs.Names.{◌≡◌, ◌+◌, Bool, true, false, ◌||◌, ◌∙◌, List, ◌∷◌, refl, sym, ap, ◌⊎◌, inl, inr, Some, if◌then◌else◌}
use proofs.Names.{is_some, plus_none, wrong', ProcId, same_id, Serving, phase_leaving, data_out_leaving, one_if}
use proofs.Names.{Leaving, Phase, Task, ProcessProgress, progress_in, progress_with, id_is}
use Rattle.story_laws.specs.link_laws.proofs.LeavingWays as ways

pub counted_runs : (made : List ProcessProgress) (id : ProcId) (runs recovers : Bool) (other : ProcId)
    → (other ≡ id → ⊥) → (progress_in (progress_with made id runs recovers) other).runs ≡ (progress_in made other).runs
counted_runs made id runs recovers other ne = by (runs || recovers)
  where
    by : (q : Bool) → (progress_in (if q then record {
      id = id;
      runs = (progress_in made id).runs + one_if runs;
      recoveries = (progress_in made id).recoveries + one_if recovers;
    } ∷ made else made) other).runs ≡ (progress_in made other).runs
    by false = refl
    by true = at (same_id id other) refl
      where
        at : (q : Bool) → same_id id other ≡ q → (if q then record {
          id = id;
          runs = (progress_in made id).runs + one_if runs;
          recoveries = (progress_in made id).recoveries + one_if recovers;
        } else progress_in made other).runs ≡ (progress_in made other).runs
        at false e = refl
        at true e = absurd (ne (sym (id_is id other e)))

pub same_runs : (made : List ProcessProgress) (id : ProcId) (recovers : Bool) (other : ProcId)
    → (progress_in (progress_with made id false recovers) other).runs ≡ (progress_in made other).runs
same_runs made id false other = refl
same_runs made id true other = at (same_id id other) refl
  where
    at : (q : Bool) → same_id id other ≡ q → (if q then record {
      id = id;
      runs = (progress_in made id).runs + 0;
      recoveries = (progress_in made id).recoveries + 1;
    } else progress_in made other).runs ≡ (progress_in made other).runs
    at false e = refl
    at true e = plus_none (progress_in made id).runs ∙ ap (λ (x : ProcId). (progress_in made x).runs) (id_is id other e)

-- ---- A data run is done as a data phase is left.

-- In DATA OUT no byte was struck.
pub record DoneOut (v : Serving) : Type 0 where
  pub struck : v.plan.struck ≡ false
  pub task : Task
  pub task_is : v.task ≡ Some task

out : {v : Serving} {l : Leaving} → ways.Leaves v false Phase.DataOut l → l.done ≡ true → DoneOut v
out (ways.saves _ t (ways.sent s) r _) e = record { struck = s; task = t; task_is = r.task_is }
out (ways.disconnects _ t (ways.sent s) r _) e = record { struck = s; task = t; task_is = r.task_is }
out (ways.ends_runs _ t (ways.sent s) r) e = record { struck = s; task = t; task_is = r.task_is }
out _ e = wrong' e

pub out_done : (v : Serving) → (data_out_leaving v).done ≡ true → DoneOut v
out_done v = out (ways.leaves v false Phase.DataOut)

moved : {v : Serving} {atn : Bool} {phase : Phase} → ways.IsMoved v atn phase
    → (phase ≡ Phase.DataIn) ⊎ (phase ≡ Phase.DataOut)
moved (ways.given _) = inl refl
moved (ways.sent _) = inr refl

-- It is a data phase, and another phase follows.
done : {v : Serving} {atn : Bool} {phase : Phase} {l : Leaving} → ways.Leaves v atn phase l → l.done ≡ true
    → ((phase ≡ Phase.DataIn) ⊎ (phase ≡ Phase.DataOut)) × (is_some l.to ≡ true)
done (ways.saves _ _ m _ _) e = (moved m, refl)
done (ways.disconnects _ _ m _ _) e = (moved m, refl)
done (ways.ends_runs _ _ m _) e = (moved m, refl)
done _ e = wrong' e

pub done_in_data : (v : Serving) (atn : Bool) (phase : Phase) → (phase_leaving v atn phase).done ≡ true
    → (phase ≡ Phase.DataIn) ⊎ (phase ≡ Phase.DataOut)
done_in_data v atn phase e = (done (ways.leaves v atn phase) e).0

pub done_goes : (v : Serving) (atn : Bool) (phase : Phase) → (phase_leaving v atn phase).done ≡ true
    → is_some (phase_leaving v atn phase).to ≡ true
done_goes v atn phase e = (done (ways.leaves v atn phase) e).1
