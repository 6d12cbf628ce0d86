-- DATA IN is entered from MESSAGE IN, or from COMMAND, for a process that does not write, while a run of its data is
-- left (6.1.5.1, 6.6.6).
use Rattle.right_laws.proofs
use proofs.Names.{◌≡◌, Bool, true, false, Some, refl, ap, nat_lt, wrong', policy_of, runs_in_all, Serving}
use proofs.Names.{phase_leaving, Leaving, Phase, Task, is_in_next}
use Rattle.trace_laws.specs.link_laws.proofs.LeavingWays as ways

pub record EntersRead (v : Serving) (l : Leaving) : Type 0 where
  pub task : Task
  pub task_is : v.task ≡ Some task
  pub reads : task.writes ≡ false
  pub more : nat_lt task.runs (runs_in_all (policy_of v.def) task) ≡ true
  pub done : l.done ≡ false

enters : {v : Serving} {atn : Bool} {x : Phase} {l : Leaving} → ways.Leaves v atn x l → is_in_next l.to ≡ true
    → EntersRead v l
enters (ways.reads _ t _ r) e =
    record { task = t; task_is = r.task_is; reads = r.writes_is; more = r.more; done = refl }
enters _ e = wrong' e

pub enters_read : (v : Serving) (atn : Bool) (x : Phase) → (phase_leaving v atn x).to ≡ Some Phase.DataIn
    → EntersRead v (phase_leaving v atn x)
enters_read v atn x e = enters (ways.leaves v atn x) (ap is_in_next e)
