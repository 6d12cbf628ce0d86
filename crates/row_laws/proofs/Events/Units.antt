-- What holds of each unit of the plain disk array holds after an event, where it is kept by all that events make of a
-- unit.
use Rattle.row_laws.proofs
use proofs.Names.{ℕ, ◌≡◌, Bool, true, false, not, ◌&&◌, ◌||◌, ◌==◌, List, [], ◌∷◌, ◌++◌, Option, Some, None, refl, sym}
use proofs.Names.{subst, same_Some, if◌then◌else◌, is_some, is_none, nat_lt, ⊤, AbortKind, Event, ProcId, command_of}
use proofs.Names.{ABORTED_COMMAND, ScenarioValue, unit_reset_units, cleared_units, status_units, array_step, Contents}
use proofs.Names.{Reply, Execution, execution, is_request_sense, check_condition, queue_full, sense_of, Process}
use proofs.Names.{process_of, is_of_unit, has_tag, RunningProcess, UnitState, Nexus, Array, is_held, unit_state_at}
use proofs.Names.{with_unit, nexus_of, guest_at, unit_after_choice, units_after_choice, settled_array, starting_array}
use proofs.{Names.{none_stays, or_start, array_after_events, AllUnits}, Common.Impossible.{none_some}}
use Rattle.due_model.specs.array_model.specs.Steps

-- It is kept by all that events make of a unit, but for the arrival of a command.
pub record StaysSo (q : UnitState → Type 0) : Type 0 where
  pub contents : (u : UnitState) (c : Contents) → q u → q (record u { contents = c })
  pub replied : (u : UnitState) (id : ProcId) (reply : Reply) → q u
      → q (record u { current = Steps.current_with_reply u.current id reply })
  pub without : (u : UnitState) (id : ProcId) → q u → q (Steps.unit_without u id)
  pub kept : (u : UnitState) (drops : Process → Bool) → q u
      → q (record u { waiting = Steps.kept_processes drops u.waiting; current = Steps.kept_running drops u.current })
  pub chosen : (u : UnitState) (holds : List Nexus) → q u → q (unit_after_choice holds u)

-- And a command that arrives may wait in its unit.
abbrev pub MayWait : ScenarioValue → (UnitState → Type 0) → Array → ProcId → Type 0
MayWait s q a id = (c : Process) (u : UnitState) → process_of s id ≡ Some c
    → unit_state_at a.units c.target c.unit ≡ Some u → q u → q (record u { waiting = u.waiting ++ c ∷ [] })

abbrev pub Admits : ScenarioValue → (UnitState → Type 0) → Array → Event → Type 0
Admits s q a (Event.Accept id) = MayWait s q a id
Admits s q a _ = ⊤

-- ---- lists

with_units : (q : UnitState → Type 0) (units : List UnitState) (new : UnitState) → AllUnits q units → q new
    → AllUnits q (with_unit units new)
with_units q [] new h g = tt
with_units q (u ∷ units) new h g = go (u.target == new.target && u.unit == new.unit) (with_units q units new h.1 g)
  where
    go : (x : Bool) → AllUnits q (with_unit units new) → AllUnits q (if x then new ∷ units else u ∷ with_unit units new)
    go true e = (g, h.1)
    go false e = (h.0, e)

pub unit_has : (q : UnitState → Type 0) (units : List UnitState) (t m : ℕ) (u : UnitState)
    → unit_state_at units t m ≡ Some u → AllUnits q units → q u
unit_has q [] t m u e h = absurd (none_some u e)
unit_has q (v ∷ units) t m u e h = go (v.target == t && v.unit == m) e (λ f. unit_has q units t m u f h.1)
  where
    go : (x : Bool) → (if x then Some v else unit_state_at units t m) ≡ Some u
        → (unit_state_at units t m ≡ Some u → q u) → q u
    go true f rest = subst q (same_Some v u f) h.0
    go false f rest = rest f

settled_units : (q : UnitState → Type 0) (holds : List Nexus) (units : List UnitState) → StaysSo q → AllUnits q units
    → AllUnits q (units_after_choice holds units)
settled_units q holds [] f h = tt
settled_units q holds (u ∷ units) f h = (f.chosen u holds h.0, settled_units q holds units f h.1)

replied_units : (q : UnitState → Type 0) (units : List UnitState) (id : ProcId) (reply : Reply) → StaysSo q
    → AllUnits q units → AllUnits q (Steps.units_with_reply units id reply)
replied_units q [] id reply f h = tt
replied_units q (u ∷ units) id reply f h = (f.replied u id reply h.0, replied_units q units id reply f h.1)

left_units : (q : UnitState → Type 0) (units : List UnitState) (id : ProcId) → StaysSo q → AllUnits q units
    → AllUnits q (Steps.units_without units id)
left_units q [] id f h = tt
left_units q (u ∷ units) id f h = (f.without u id h.0, left_units q units id f h.1)

pub kept_units : (q : UnitState → Type 0) (drops : Process → Bool) (units : List UnitState) → StaysSo q
    → AllUnits q units → AllUnits q (Steps.kept_units drops units)
kept_units q drops [] f h = tt
kept_units q drops (u ∷ units) f h = (f.kept u drops h.0, kept_units q drops units f h.1)

-- ---- an event

abbrev pub IfAll : (UnitState → Type 0) → Option Array → Type 0
IfAll q None = ⊤
IfAll q (Some a) = AllUnits q a.units

all_if : (q : UnitState → Type 0) (x : Bool) (a : Array) → AllUnits q a.units → IfAll q (if x then Some a else None)
all_if q true a h = h
all_if q false a h = tt

accepted : (s : ScenarioValue) (q : UnitState → Type 0) (a : Array) (id : ProcId) → MayWait s q a id
    → AllUnits q a.units → IfAll q (Steps.accept_step a (process_of s id))
accepted s q a id own h = go (process_of s id) refl
  where
    by : (c : Process) → process_of s id ≡ Some c → (u : Option UnitState) → unit_state_at a.units c.target c.unit ≡ u
        → IfAll q (Steps.accept_step_at a c u)
    by c e None f = h
    by c e (Some u) f = senses (is_request_sense (command_of c.cdb))
      where
        senses : (x : Bool) → IfAll q (if x then Some (Steps.with_guest a c None) else Steps.queue_step a c u)
        senses true = h
        senses false = all_if q (nat_lt (Steps.process_count u) u.depth)
            (record a { units = with_unit a.units (record u { waiting = u.waiting ++ c ∷ [] }) }) (with_units q a.units
            (record u { waiting = u.waiting ++ c ∷ [] }) h (own c u e f (unit_has q a.units c.target c.unit u f h)))

    go : (c : Option Process) → process_of s id ≡ c → IfAll q (Steps.accept_step a c)
    go None e = tt
    go (Some c) e = by c e (unit_state_at a.units c.target c.unit) refl

refused : (s : ScenarioValue) (q : UnitState → Type 0) (a : Array) (id : ProcId) → AllUnits q a.units
    → IfAll q (Steps.refuse_step a (process_of s id))
refused s q a id h = go (process_of s id)
  where
    by : (c : Process) (u : Option UnitState) → IfAll q (Steps.refuse_step_at a c u)
    by c None = tt
    by c (Some u) = all_if q (not (is_request_sense (command_of c.cdb)) && Steps.process_count u == u.depth)
        (Steps.with_listed_reply (Steps.with_guest a c (Some queue_full)) c.id queue_full) h

    go : (c : Option Process) → IfAll q (Steps.refuse_step a c)
    go None = tt
    go (Some c) = by c (unit_state_at a.units c.target c.unit)

executed : (q : UnitState → Type 0) (a : Array) (c : Process) → StaysSo q → AllUnits q a.units
    → AllUnits q (Steps.after_execution_at a c (unit_state_at a.units c.target c.unit)).units
executed q a c f h = go (unit_state_at a.units c.target c.unit) refl
  where
    inner : (done : Execution) (u : Option UnitState) → unit_state_at a.units c.target c.unit ≡ u
        → (x : Bool) → AllUnits q (Steps.with_contents (Steps.without_attention a x (nexus_of c)) u done.contents).units
    inner done None e true = h
    inner done None e false = h
    inner done (Some u) e true = with_units q a.units (record u { contents = done.contents }) h
        (f.contents u done.contents (unit_has q a.units c.target c.unit u e h))
    inner done (Some u) e false = with_units q a.units (record u { contents = done.contents }) h
        (f.contents u done.contents (unit_has q a.units c.target c.unit u e h))

    by : (done : Execution) (u : Option UnitState) → unit_state_at a.units c.target c.unit ≡ u
        → AllUnits q (Steps.after_execution a c u done).units
    by done u e = replied_units q (Steps.with_contents (Steps.without_attention a done.reported (nexus_of c)) u
        done.contents).units c.id done.reply f (inner done u e done.reported)

    go : (u : Option UnitState) → unit_state_at a.units c.target c.unit ≡ u
        → AllUnits q (Steps.after_execution_at a c u).units
    go u e = by (execution (Steps.context_at a (nexus_of c) u) c.cdb c.sent) u e

run_all : (q : UnitState → Type 0) (a : Array) (guest : Bool) (o : Option RunningProcess) → StaysSo q
    → AllUnits q a.units → IfAll q (Steps.run_step a guest o)
run_all q a guest None f h = tt
run_all q a guest (Some r) f h = all_if q
    (is_none r.reply && (guest || not (is_held a.holds r.process.target r.process.unit)))
    (Steps.after_execution_at a r.process (unit_state_at a.units r.process.target r.process.unit))
    (executed q a r.process f h)

failed :
    (s : ScenarioValue) (q : UnitState → Type 0) (a : Array) (id : ProcId) (reply : Reply) (o : Option RunningProcess)
    → StaysSo q → AllUnits q a.units → IfAll q (Steps.fail_step s a id reply o)
failed s q a id reply (Some r) f h =
    all_if q (is_none r.reply) (Steps.with_reply a id reply) (replied_units q a.units id reply f h)
failed s q a id reply None f h = go (process_of s id)
  where
    go : (c : Option Process) → IfAll q (Steps.fail_step_of_new a id reply c)
    go None = tt
    go (Some c) = by (Steps.is_waiting a.units id || Steps.has_ended a id)
      where
        by : (x : Bool)
            → IfAll q (if x then None else Some (Steps.with_listed_reply (Steps.with_guest a c (Some reply)) id reply))
        by true = tt
        by false = h

ended : (q : UnitState → Type 0) (a : Array) (status : ℕ) (o : Option RunningProcess) → StaysSo q → AllUnits q a.units
    → IfAll q (Steps.end_step a status o)
ended q a status None f h = tt
ended q a status (Some r) f h = by r.reply
  where
    by : (o : Option Reply) → IfAll q (Steps.end_step_with a r.process status o)
    by None = tt
    by (Some reply) = all_if q (reply.status == status)
        (Steps.array_without (Steps.after_status a r.process reply) r.process.id)
        (left_units q (Steps.after_status a r.process reply).units r.process.id f
        (subst (λ (x : List UnitState). AllUnits q x) (sym (status_units a r.process reply)) h))

pub lost : (q : UnitState → Type 0) (a : Array) (id : ProcId) → StaysSo q → AllUnits q a.units
    → IfAll q (Steps.loss_step a id)
lost q a id f h = go (Steps.has_ended a id)
  where
    go : (x : Bool) → IfAll q (if x then None else Some (Steps.array_without a id))
    go true = tt
    go false = left_units q a.units id f h

dropped : (q : UnitState → Type 0) (a b : Array) (drops : Process → Bool) → StaysSo q
    → b.units ≡ Steps.kept_units drops a.units → AllUnits q a.units → AllUnits q b.units
dropped q a b drops f same h = subst (λ (x : List UnitState). AllUnits q x) (sym same) (kept_units q drops a.units f h)

aborted : (s : ScenarioValue) (q : UnitState → Type 0) (a : Array) (i t m : ℕ) (what : AbortKind) → StaysSo q
    → AllUnits q a.units → AllUnits q (Steps.abort_step s a i t m what).units
aborted s q a i t m AbortKind.All f h =
    dropped q a (Steps.abort_step s a i t m AbortKind.All) (λ p. p.initiator == i && is_of_unit p t m) f refl h
aborted s q a i t m (AbortKind.Tag tag) f h = dropped q a (Steps.abort_step s a i t m (AbortKind.Tag tag))
    (λ p. p.initiator == i && is_of_unit p t m && has_tag p.tag tag) f refl h
aborted s q a i t m AbortKind.WholeQueue f h =
    dropped q a (Steps.abort_step s a i t m AbortKind.WholeQueue) (λ p. is_of_unit p t m) f (cleared_units i
    (Steps.unit_processes (unit_state_at a.units t m)) (Steps.without_dropped a (λ p. is_of_unit p t m))) h
aborted s q a i t m AbortKind.Device f h = dropped q a
    (Steps.abort_step s a i t m AbortKind.Device) (λ p. p.target == t) f
    (unit_reset_units s.hosts a.units (λ u. u.target == t) (record (Steps.without_dropped a (λ p. p.target == t)) {
      senses = Steps.kept_senses (λ r. r.target == t) a.senses;
      holds = Steps.kept_nexuses (λ r. r.target == t) a.holds;
    })) h

reset : (s : ScenarioValue) (q : UnitState → Type 0) (a : Array) → StaysSo q → AllUnits q a.units
    → AllUnits q (Steps.reset_step s a).units
reset s q a f h = dropped q a (Steps.reset_step s a) (λ p. true) f (unit_reset_units s.hosts a.units (λ u. true)
    (record (Steps.without_dropped a (λ p. true)) { senses = []; holds = [] })) h

-- By RST, whatever held before.
pub reset_all : (s : ScenarioValue) (q : UnitState → Type 0) (a : Array) (dev : ℕ) → StaysSo q
    → AllUnits q (Steps.kept_units (λ p. true) a.units) → IfAll q (Steps.step s (Event.Reset dev) a)
reset_all s q a dev f h =
    let kept : Array = record (Steps.without_dropped a (λ p. true)) { senses = []; holds = [] } in
    settled_units q (Steps.reset_step s a).holds (Steps.reset_step s a).units f
    (subst (λ (x : List UnitState). AllUnits q x) (sym (unit_reset_units s.hosts a.units (λ u. true) kept)) h)

event_all : (s : ScenarioValue) (q : UnitState → Type 0) (a : Array) (event : Event) → StaysSo q → Admits s q a event
    → AllUnits q a.units → IfAll q (Steps.event_step s a event)
event_all s q a (Event.Accept id) f own h = accepted s q a id own h
event_all s q a (Event.Refuse id) f own h = refused s q a id h
event_all s q a (Event.Run id) f own h = run_all q a (is_some (guest_at a.guests id)) (Steps.running_process a id) f h
event_all s q a (Event.Fail id code) f own h =
    failed s q a id (check_condition (sense_of ABORTED_COMMAND code 0x00)) (Steps.running_process a id) f h
event_all s q a (Event.End id status) f own h = ended q a status (Steps.running_process a id) f h
event_all s q a (Event.Lost id) f own h = lost q a id f h
event_all s q a (Event.Aborted i t n what) f own h = aborted s q a i t n what f h
event_all s q a (Event.Reset dev) f own h = reset s q a f h

-- After the event, and the choice.
step_all : (s : ScenarioValue) (q : UnitState → Type 0) (a : Array) (event : Event) → StaysSo q → Admits s q a event
    → AllUnits q a.units → IfAll q (Steps.step s event a)
step_all s q a event f own h = go (Steps.event_step s a event) (event_all s q a event f own h)
  where
    go : (o : Option Array) → IfAll q o → IfAll q (Steps.settled_array_if o)
    go None e = tt
    go (Some b) e = settled_units q b.holds b.units f e

-- ---- the events of a row: a command arrives with the first of them alone

abbrev pub Arrives : (ProcId → Type 0) → Event → Type 0
Arrives q (Event.Accept id) = q id
Arrives q _ = ⊤

abbrev pub ArrivesFirst : (ProcId → Type 0) → List Event → Type 0
ArrivesFirst q [] = ⊤
ArrivesFirst q (event ∷ []) = Arrives q event
ArrivesFirst q (event ∷ (other ∷ shown)) = Arrives (λ id. ⊥) event × ArrivesFirst q (other ∷ shown)

arrives_so : (s : ScenarioValue) (q : UnitState → Type 0) (a : Array) (event : Event) → Arrives (MayWait s q a) event
    → Admits s q a event
arrives_so s q a (Event.Accept id) h = h
arrives_so s q a _ h = tt

arrives_none : (s : ScenarioValue) (q : UnitState → Type 0) (a : Array) (event : Event) → Arrives (λ id. ⊥) event
    → Admits s q a event
arrives_none s q a (Event.Accept id) h = absurd h
arrives_none s q a _ h = tt

shown_all : (s : ScenarioValue) (q : UnitState → Type 0) (a : Array) (shown : List Event) → StaysSo q
    → ArrivesFirst (MayWait s q a) shown → AllUnits q a.units → IfAll q (array_after_events s (Some a) shown)
shown_all s q a [] f own h = h
shown_all s q a (event ∷ []) f own h = step_all s q a event f (arrives_so s q a event own) h
shown_all s q a (event ∷ (other ∷ shown)) f own h =
    go (array_after_events s (Some a) (other ∷ shown)) (shown_all s q a (other ∷ shown) f own.1 h)
  where
    go : (o : Option Array) → IfAll q o → IfAll q (array_step s event o)
    go None e = tt
    go (Some b) e = step_all s q b event f (arrives_none s q b event own.0) e

-- The array after them.
pub events_all : (s : ScenarioValue) (q : UnitState → Type 0) (o : Option Array) (shown : List Event)
    → StaysSo q → ArrivesFirst (MayWait s q (or_start s o)) shown → AllUnits q (starting_array s).units
    → AllUnits q (or_start s o).units → AllUnits q (or_start s (array_after_events s o shown)).units
events_all s q None shown f own start h =
    subst (λ (x : Option Array). AllUnits q (or_start s x).units) (sym (none_stays s shown)) h
events_all s q (Some a) shown f own start h = go (array_after_events s (Some a) shown) (shown_all s q a shown f own h)
  where
    go : (o : Option Array) → IfAll q o → AllUnits q (or_start s o).units
    go None e = start
    go (Some b) e = e

pub each_settled : (q : UnitState → Type 0) (a : Array) → StaysSo q → AllUnits q a.units
    → AllUnits q (settled_array a).units
each_settled q a f h = settled_units q a.holds a.units f h
