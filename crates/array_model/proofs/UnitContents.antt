-- A statement about the contents of a unit, its target and its number: it holds of every unit after every history,
-- where it does at the start, and no command ends it.
use Rattle.std.proofs.Common.{ℕ, ◌≡◌, Bool, true, false, List, [], ◌∷◌, ◌++◌, Option, Some, None, subst, sym}
use Rattle.std.specs.Prelude.{not, ◌&&◌, ◌||◌, ◌==◌, is_some, is_none, nat_lt, if◌then◌else◌}
use Rattle.std.specs.List.{AllByRecursion}
use Rattle.bus_base.specs.declared.AbortKind.{AbortKind}
use Rattle.bus_base.specs.declared.AbortKind.TheVariants as aborts
use Rattle.bus_base.specs.declared.Event.{Event}
use Rattle.bus_base.specs.declared.Event.TheVariants as events
use Rattle.bus_base.specs.declared.ProcId.{ProcId}
use Rattle.cdb_codec.specs.declared.sense.TheConstants.{ABORTED_COMMAND}
use Rattle.cdb_codec.specs.declared.status.TheConstants.{CHECK_CONDITION, GOOD}
use Rattle.cdb_codec.specs.Cdb.{command_of}
use Rattle.scenario.specs.Lookups.{units_of}
use Rattle.scenario.specs.Value.{ScenarioValue}
use Rattle.array_model.specs.ArrayHistory.{array_after, array_step}
use Rattle.array_model.specs.Contents.{Contents}
use Rattle.array_model.specs.Execution.{CommandContext, Execution, Reply, check_condition, execution, is_request_sense}
use Rattle.array_model.specs.Execution.{queue_full, sense_of}
use Rattle.array_model.specs.Order.{choice}
use Rattle.array_model.specs.Processes.{Process, process_of}
use Rattle.array_model.specs.Steps
use Rattle.array_model.specs.Units.{Array, Nexus, RunningProcess, UnitState, guest_at, has_no_current, is_held}
use Rattle.array_model.specs.Units.{nexus_of}
use Rattle.array_model.specs.Units.{nexuses_without, senses_without, settled_array, starting_array, starting_units}
use Rattle.array_model.specs.Units.{unit_state_at, units_after_choice, with_current, with_unit}
use Rattle.array_model.proofs.ArrayUnits.{cleared_units, unit_reset_units}

-- No command ends it.
pub record IsKept (Is : ℕ → ℕ → Contents → Type 0) : Type 0 where
  pub runs : (m : CommandContext) (cdb sent : List ℕ) (target unit : ℕ) → Is target unit m.contents
      → Is target unit (execution m cdb sent).contents

abbrev pub IsAt : (ℕ → ℕ → Contents → Type 0) → UnitState → Type 0
IsAt Is u = Is u.target u.unit u.contents

abbrev pub AreAt : (ℕ → ℕ → Contents → Type 0) → List UnitState → Type 0
AreAt Is units = AllByRecursion (IsAt Is) units

abbrev pub IsAtIf : (ℕ → ℕ → Contents → Type 0) → Option UnitState → Type 0
IsAtIf Is None = Unit {0}
IsAtIf Is (Some u) = IsAt Is u

abbrev pub AreAtIf : (ℕ → ℕ → Contents → Type 0) → Option Array → Type 0
AreAtIf Is None = Unit {0}
AreAtIf Is (Some a) = AreAt Is a.units

-- ---- of all units, of one, and of one in the place of another

if_so : (Is : ℕ → ℕ → Contents → Type 0) (q : Bool) (a : Array) → AreAt Is a.units
    → AreAtIf Is (if q then Some a else None)
if_so Is true a h = h
if_so Is false a h = tt

unit_put : (Is : ℕ → ℕ → Contents → Type 0) (units : List UnitState) (new : UnitState) → AreAt Is units → IsAt Is new
    → AreAt Is (with_unit units new)
unit_put Is [] new h k = tt
unit_put Is (u ∷ units) new h k =
    go (u.target == new.target && u.unit == new.unit) (unit_put Is units new h.1 k)
  where
    go : (q : Bool) → AreAt Is (with_unit units new) → AreAt Is (if q then new ∷ units else u ∷ with_unit units new)
    go true more = (k, h.1)
    go false more = (h.0, more)

pub unit_found : (Is : ℕ → ℕ → Contents → Type 0) (units : List UnitState) (target unit : ℕ) → AreAt Is units
    → IsAtIf Is (unit_state_at units target unit)
unit_found Is [] target unit h = tt
unit_found Is (u ∷ units) target unit h =
    go (u.target == target && u.unit == unit) (unit_found Is units target unit h.1)
  where
    go : (q : Bool) → IsAtIf Is (unit_state_at units target unit)
        → IsAtIf Is (if q then Some u else unit_state_at units target unit)
    go true more = h.0
    go false more = more

pub at_unit : (Is : ℕ → ℕ → Contents → Type 0) (units : List UnitState) (target unit : ℕ) (u : UnitState)
    → AreAt Is units → unit_state_at units target unit ≡ Some u → IsAt Is u
at_unit Is units target unit u h e = subst (IsAtIf Is) e (unit_found Is units target unit h)

-- ---- the choice

choices : (Is : ℕ → ℕ → Contents → Type 0) (holds : List Nexus) (units : List UnitState) → AreAt Is units
    → AreAt Is (units_after_choice holds units)
choices Is holds [] h = tt
choices Is holds (u ∷ units) h = (
  go (has_no_current u.current && not (is_held holds u.target u.unit)) (choice u.pick u.waiting),
  choices Is holds units h.1,
)
  where
    go : (q : Bool) (o : Option Process) → IsAt Is (if q then with_current u o else u)
    go true None = h.0
    go true (Some p) = h.0
    go false o = h.0

pub settles : (Is : ℕ → ℕ → Contents → Type 0) (a : Array) → AreAt Is a.units → AreAt Is (settled_array a).units
settles Is a h = choices Is a.holds a.units h

-- ---- a command arrives

accepts : (Is : ℕ → ℕ → Contents → Type 0) (a : Array) (o : Option Process) → AreAt Is a.units
    → AreAtIf Is (Steps.accept_step a o)
accepts Is a None h = tt
accepts Is a (Some p) h = at (unit_state_at a.units p.target p.unit) (unit_found Is a.units p.target p.unit h)
  where
    either : (u : UnitState) → IsAt Is u → (q : Bool)
        → AreAtIf Is (if q then Some (Steps.with_guest a p None) else Steps.queue_step a p u)
    either u k true = h
    either u k false = if_so Is (nat_lt (Steps.process_count u) u.depth)
        (record a { units = with_unit a.units (record u { waiting = u.waiting ++ p ∷ [] }) })
        (unit_put Is a.units (record u { waiting = u.waiting ++ p ∷ [] }) h k)

    at : (x : Option UnitState) → IsAtIf Is x → AreAtIf Is (Steps.accept_step_at a p x)
    at None k = h
    at (Some u) k = either u k (is_request_sense (command_of p.cdb))

refuses : (Is : ℕ → ℕ → Contents → Type 0) (a : Array) (o : Option Process) → AreAt Is a.units
    → AreAtIf Is (Steps.refuse_step a o)
refuses Is a None h = tt
refuses Is a (Some p) h = at (unit_state_at a.units p.target p.unit)
  where
    at : (x : Option UnitState) → AreAtIf Is (Steps.refuse_step_at a p x)
    at None = tt
    at (Some u) = if_so Is (not (is_request_sense (command_of p.cdb)) && Steps.process_count u == u.depth)
        (Steps.with_listed_reply (Steps.with_guest a p (Some queue_full)) p.id queue_full) h

-- ---- a command runs, fails, ends

replied : (Is : ℕ → ℕ → Contents → Type 0) (units : List UnitState) (id : ProcId) (r : Reply) → AreAt Is units
    → AreAt Is (Steps.units_with_reply units id r)
replied Is [] id r h = tt
replied Is (u ∷ units) id r h = (h.0, replied Is units id r h.1)

told : (Is : ℕ → ℕ → Contents → Type 0) (a : Array) (q : Bool) (x : Nexus) → AreAt Is a.units
    → AreAt Is (Steps.without_attention a q x).units
told Is a true x h = h
told Is a false x h = h

runs : (Is : ℕ → ℕ → Contents → Type 0) → IsKept Is → (a : Array) (guest : Bool) (o : Option RunningProcess)
    → AreAt Is a.units → AreAtIf Is (Steps.run_step a guest o)
runs Is k a guest None h = tt
runs Is k a guest (Some r) h =
    if_so Is (is_none r.reply && (guest || not (is_held a.holds r.process.target r.process.unit)))
    (Steps.after_execution_at a r.process (unit_state_at a.units r.process.target r.process.unit))
    (at (unit_state_at a.units r.process.target r.process.unit)
    (unit_found Is a.units r.process.target r.process.unit h))
  where
    x : Nexus
    x = nexus_of r.process

    done : Option UnitState → Execution
    done u = execution (Steps.context_at a x u) r.process.cdb r.process.sent

    at : (u : Option UnitState) → IsAtIf Is u → AreAt Is (Steps.after_execution_at a r.process u).units
    at None b = replied Is (Steps.without_attention a (done None).reported x).units r.process.id (done None).reply
        (told Is a (done None).reported x h)
    at (Some u) b =
        let before : Array = Steps.without_attention a (done (Some u)).reported x in
        let next : UnitState = record u { contents = (done (Some u)).contents } in
        replied Is (with_unit before.units next) r.process.id (done (Some u)).reply
        (unit_put Is before.units next (told Is a (done (Some u)).reported x h)
        (k.runs (Steps.context_at a x (Some u)) r.process.cdb r.process.sent u.target u.unit b))

fails : (Is : ℕ → ℕ → Contents → Type 0) (s : ScenarioValue) (a : Array) (id : ProcId) (r : Reply)
    (o : Option RunningProcess) → AreAt Is a.units → AreAtIf Is (Steps.fail_step s a id r o)
fails Is s a id r (Some x) h = if_so Is (is_none x.reply) (Steps.with_reply a id r) (replied Is a.units id r h)
fails Is s a id r None h = go (process_of s id)
  where
    came : (q : Bool) (p : Process)
        → AreAtIf Is (if q then None else Some (Steps.with_listed_reply (Steps.with_guest a p (Some r)) id r))
    came true p = tt
    came false p = h

    go : (x : Option Process) → AreAtIf Is (Steps.fail_step_of_new a id r x)
    go None = tt
    go (Some p) = came (Steps.is_waiting a.units id || Steps.has_ended a id) p

left : (Is : ℕ → ℕ → Contents → Type 0) (units : List UnitState) (id : ProcId) → AreAt Is units
    → AreAt Is (Steps.units_without units id)
left Is [] id h = tt
left Is (u ∷ units) id h = (h.0, left Is units id h.1)

after_status : (Is : ℕ → ℕ → Contents → Type 0) (a : Array) (p : Process) (r : Reply) → AreAt Is a.units
    → AreAt Is (Steps.after_status a p r).units
after_status Is a p r h = go (r.status == CHECK_CONDITION) (r.status == GOOD && is_request_sense (command_of p.cdb))
  where
    z : Nexus
    z = nexus_of p

    go : (x y : Bool) → AreAt Is
        (if x then record a { senses = (z, r.sense) ∷ senses_without a.senses z; holds = z ∷ nexuses_without a.holds z }
        else if y then record a { senses = senses_without a.senses z; holds = nexuses_without a.holds z } else a).units
    go true y = h
    go false true = h
    go false false = h

ends : (Is : ℕ → ℕ → Contents → Type 0) (a : Array) (status : ℕ) (o : Option RunningProcess) → AreAt Is a.units
    → AreAtIf Is (Steps.end_step a status o)
ends Is a status None h = tt
ends Is a status (Some r) h = go r.reply
  where
    go : (x : Option Reply) → AreAtIf Is (Steps.end_step_with a r.process status x)
    go None = tt
    go (Some y) = if_so Is (y.status == status) (Steps.array_without (Steps.after_status a r.process y) r.process.id)
        (left Is (Steps.after_status a r.process y).units r.process.id (after_status Is a r.process y h))

loses : (Is : ℕ → ℕ → Contents → Type 0) (a : Array) (id : ProcId) → AreAt Is a.units
    → AreAtIf Is (Steps.loss_step a id)
loses Is a id h = go (Steps.has_ended a id)
  where
    go : (q : Bool) → AreAtIf Is (if q then None else Some (Steps.array_without a id))
    go true = tt
    go false = left Is a.units id h

-- ---- aborts and resets

kept : (Is : ℕ → ℕ → Contents → Type 0) (drops : Process → Bool) (units : List UnitState) → AreAt Is units
    → AreAt Is (Steps.kept_units drops units)
kept Is drops [] h = tt
kept Is drops (u ∷ units) h = (h.0, kept Is drops units h.1)

-- Attentions are no part of them.
with_attentions : (Is : ℕ → ℕ → Contents → Type 0) (before after : List UnitState) → after ≡ before → AreAt Is before
    → AreAt Is after
with_attentions Is before after e h = subst (AreAt Is) (sym e) h

aborted : (Is : ℕ → ℕ → Contents → Type 0) (s : ScenarioValue) (a : Array) (i t n : ℕ) (what : AbortKind)
    → AreAt Is a.units → AreAt Is (Steps.abort_step s a i t n what).units
aborted Is s a i t n aborts.All h = kept Is (λ p. p.initiator == i && Steps.is_of_unit p t n) a.units h
aborted Is s a i t n (aborts.Tag tag) h =
    kept Is (λ p. p.initiator == i && Steps.is_of_unit p t n && Steps.has_tag p.tag tag) a.units h
aborted Is s a i t n aborts.WholeQueue h =
    let drops : Process → Bool = λ p. Steps.is_of_unit p t n in
    let next : Array = Steps.without_dropped a drops in
    let lost : List Process = Steps.unit_processes (unit_state_at a.units t n) in
    with_attentions Is next.units (Steps.cleared_attentions i lost next).units (cleared_units i lost next)
    (kept Is drops a.units h)
aborted Is s a i t n aborts.Device h =
    let next : Array = record (Steps.without_dropped a (λ p. p.target == t)) {
      senses = Steps.kept_senses (λ q. q.target == t) a.senses;
      holds = Steps.kept_nexuses (λ q. q.target == t) a.holds;
    } in
    with_attentions Is next.units (Steps.unit_reset_attentions s.hosts a.units (λ u. u.target == t) next).units
    (unit_reset_units s.hosts a.units (λ u. u.target == t) next) (kept Is (λ p. p.target == t) a.units h)

resets : (Is : ℕ → ℕ → Contents → Type 0) (s : ScenarioValue) (a : Array) → AreAt Is a.units
    → AreAt Is (Steps.reset_step s a).units
resets Is s a h =
    let next : Array = record (Steps.without_dropped a (λ p. true)) { senses = []; holds = [] } in
    with_attentions Is next.units (Steps.unit_reset_attentions s.hosts a.units (λ u. true) next).units
    (unit_reset_units s.hosts a.units (λ u. true) next) (kept Is (λ p. true) a.units h)

-- ---- any event, and any history

by_event : (Is : ℕ → ℕ → Contents → Type 0) → IsKept Is → (s : ScenarioValue) (a : Array) (event : Event)
    → AreAt Is a.units → AreAtIf Is (Steps.event_step s a event)
by_event Is k s a (events.Accept id) h = accepts Is a (process_of s id) h
by_event Is k s a (events.Refuse id) h = refuses Is a (process_of s id) h
by_event Is k s a (events.Run id) h = runs Is k a (is_some (guest_at a.guests id)) (Steps.running_process a id) h
by_event Is k s a (events.Fail id code) h =
    fails Is s a id (check_condition (sense_of ABORTED_COMMAND code 0x00)) (Steps.running_process a id) h
by_event Is k s a (events.End id status) h = ends Is a status (Steps.running_process a id) h
by_event Is k s a (events.Lost id) h = loses Is a id h
by_event Is k s a (events.Aborted i t n what) h = aborted Is s a i t n what h
by_event Is k s a (events.Reset dev) h = resets Is s a h

pub step_keeps : (Is : ℕ → ℕ → Contents → Type 0) → IsKept Is → (s : ScenarioValue) (event : Event) (o : Option Array)
    → AreAtIf Is o → AreAtIf Is (array_step s event o)
step_keeps Is k s event None h = tt
step_keeps Is k s event (Some a) h = settled (Steps.event_step s a event) (by_event Is k s a event h)
  where
    settled : (o : Option Array) → AreAtIf Is o → AreAtIf Is (Steps.settled_array_if o)
    settled None b = tt
    settled (Some b) c = settles Is b c

pub history_keeps : (Is : ℕ → ℕ → Contents → Type 0) → IsKept Is → (s : ScenarioValue) (history : List Event)
    → AreAt Is (starting_units s (units_of s)) → AreAtIf Is (array_after s history)
history_keeps Is k s [] h = settles Is (starting_array s) h
history_keeps Is k s (event ∷ history) h =
    step_keeps Is k s event (array_after s history) (history_keeps Is k s history h)
