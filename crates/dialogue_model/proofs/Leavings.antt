-- What a target does as it leaves a phase, and what it shows.
use Rattle.std.proofs.Common.{refl, true, None, Bool, ◌≡◌, Some, Option, false, List, [], ◌∷◌}
use Rattle.std.specs.Prelude.{if◌then◌else◌, nat_lt}
use Rattle.dialogue_model.specs.NextPhase.{recovery, with_task, recovery_limit}
use Rattle.dialogue_model.specs.Events.{is_status_next, is_empty}
use Rattle.dialogue_model.specs.declared.exchange.Task.{Task}
use Rattle.scenario.specs.declared.value.TargetDef.{TargetDef}
use Rattle.dialogue_model.specs.declared.exchange.Leaving.{Leaving}
use Rattle.scenario.specs.bus_base.specs.declared.Event.{Event}

pub task_not : (x : Option Task) (f : Task → Leaving) → ((t : Task) → is_status_next (f t).to ≡ false)
    → is_status_next (with_task x f).to ≡ false
task_not None f h = refl
task_not (Some t) f h = h t

pub recovery_not : (def : Option TargetDef) (t : Task) (again gives : Leaving) → is_status_next again.to ≡ false
    → is_status_next gives.to ≡ false → is_status_next (recovery def t again gives).to ≡ false
recovery_not def t again gives e f = go t.in_hold
  where
    limited : (y : Bool) → is_status_next (if y then record again { counts = true } else gives).to ≡ false
    limited true = e
    limited false = f

    go : (y : Bool) → is_status_next (recovery def (record t { in_hold = y }) again gives).to ≡ false
    go true = e
    go false = limited (nat_lt t.recoveries (recovery_limit def))

pub empty_is : (shown : List Event) → is_empty shown ≡ true → shown ≡ []
empty_is [] e = refl
empty_is (x ∷ shown) e = absurd cc
