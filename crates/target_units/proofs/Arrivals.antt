-- A command that arrives gives no reply.
use Rattle.std.proofs.Common.{◌≡◌, Bool, true, false, [], ◌∷◌, ◌++◌, ◌∙◌, refl, sym, Option, Some, None}
use Rattle.std.specs.Prelude.{if◌then◌else◌, nat_lt}
use Rattle.bus_base.specs.declared.Event.TheVariants as events
use Rattle.bus_base.specs.declared.ProcId.{ProcId}
use Rattle.cdb_codec.specs.Cdb.{command_of}
use Rattle.scenario.specs.Value.{ScenarioValue}
use Rattle.array_model.specs.Execution.{is_request_sense}
use Rattle.array_model.specs.Processes.{Process, process_of}
use Rattle.array_model.specs.Units.{UnitState, Array, unit_state_at, with_unit, settled_array}
use Rattle.array_model.specs.Steps
use Rattle.array_model.specs.Steps.{step, settled_array_if}

took : (c d b : Array) → Some d ≡ Some b → d.replies ≡ c.replies → b.replies ≡ c.replies
took c d b e f = let same : d ≡ b = cc in (λ i. (sym same i).replies) ∙ f

pub arrival_replies : (s : ScenarioValue) (a b : Array) (id : ProcId) → step s (events.Accept id) a ≡ Some b
    → b.replies ≡ a.replies
arrival_replies s a b id e = of (process_of s id) e
  where
    never : None ≡ Some b → b.replies ≡ a.replies
    never k = cc

    at : (p : Process) (u : Option UnitState) → settled_array_if (Steps.accept_step_at a p u) ≡ Some b
        → b.replies ≡ a.replies
    at p None k = took a (settled_array (Steps.with_guest a p None)) b k refl
    at p (Some u) k = sense (is_request_sense (command_of p.cdb)) k
      where
        next : Array
        next = record a { units = with_unit a.units (record u { waiting = u.waiting ++ p ∷ [] }) }

        room : (y : Bool) → settled_array_if (if y then Some next else None) ≡ Some b → b.replies ≡ a.replies
        room true m = took a (settled_array next) b m refl
        room false m = never m

        sense : (y : Bool)
            → settled_array_if (if y then Some (Steps.with_guest a p None) else Steps.queue_step a p u) ≡ Some b
            → b.replies ≡ a.replies
        sense true m = took a (settled_array (Steps.with_guest a p None)) b m refl
        sense false m = room (nat_lt (Steps.process_count u) u.depth) m

    of : (x : Option Process) → settled_array_if (Steps.accept_step a x) ≡ Some b → b.replies ≡ a.replies
    of None k = never k
    of (Some p) k = at p (unit_state_at a.units p.target p.unit) k
