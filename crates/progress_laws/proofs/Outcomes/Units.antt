-- The units of the plain disk array are of targets that are there, after any rows: no event moves a unit.
use Rattle.progress_laws.proofs
use proofs.Names.{ℕ, ◌≡◌, Bool, true, false, not, ◌&&◌, ◌||◌, ◌∙◌, List, [], ◌∷◌, ◌++◌, Option, Some, None, refl, sym}
use proofs.Names.{ap, subst, eqb-true, AllByRecursion, if◌then◌else◌, ◌==◌, is_none, is_some, nat_lt, ⊤, and_first}
use proofs.Names.{AbortKind, Event, ProcId, Row, command_of, ABORTED_COMMAND, GOOD, CHECK_CONDITION, units_of}
use proofs.Names.{ScenarioValue, Obeys, UnitDef, unit_reset_units, cleared_units, choice_target, array_step, Execution}
use proofs.Names.{Reply, check_condition, execution, is_request_sense, sense_of, Process, process_of, has_tag}
use proofs.Names.{is_of_unit, Array, Nexus, RunningProcess, UnitState, guest_at, is_held, nexus_of, nexuses_without}
use proofs.Names.{senses_without, starting_array, starting_units, unit_state_at, units_after_choice, with_unit}
use proofs.Names.{row_reading, row_events_by, RunState, array_of, or_start, array_after_events, run_state, HasDevice}
use proofs.{Names.{AllUnits}, Outcomes.Seats.{IsOfTarget, are_of_targets, target_there}}
use Rattle.due_model.specs.array_model.specs.Steps

abbrev pub targets : List UnitState → List ℕ
targets [] = []
targets (u ∷ units) = u.target ∷ targets units

-- ---- lists

with_unit_same : (units : List UnitState) (new : UnitState) → targets (with_unit units new) ≡ targets units
with_unit_same [] new = refl
with_unit_same (u ∷ units) new = go (u.target == new.target && u.unit == new.unit) refl (with_unit_same units new)
  where
    go : (q : Bool) → (u.target == new.target && u.unit == new.unit) ≡ q → targets (with_unit units new) ≡ targets units
        → targets (if q then new ∷ units else u ∷ with_unit units new) ≡ u.target ∷ targets units
    go true e more = ap (λ (t : ℕ). t ∷ targets units)
        (sym (eqb-true u.target new.target (and_first (u.target == new.target) (u.unit == new.unit) e)))
    go false e more = ap (λ (ts : List ℕ). u.target ∷ ts) more

replied_same : (units : List UnitState) (id : ProcId) (reply : Reply)
    → targets (Steps.units_with_reply units id reply) ≡ targets units
replied_same [] id reply = refl
replied_same (u ∷ units) id reply = ap (λ (ts : List ℕ). u.target ∷ ts) (replied_same units id reply)

left_same : (units : List UnitState) (id : ProcId) → targets (Steps.units_without units id) ≡ targets units
left_same [] id = refl
left_same (u ∷ units) id = ap (λ (ts : List ℕ). u.target ∷ ts) (left_same units id)

kept_same : (drops : Process → Bool) (units : List UnitState) → targets (Steps.kept_units drops units) ≡ targets units
kept_same drops [] = refl
kept_same drops (u ∷ units) = ap (λ (ts : List ℕ). u.target ∷ ts) (kept_same drops units)

chosen_same : (holds : List Nexus) (units : List UnitState) → targets (units_after_choice holds units) ≡ targets units
chosen_same holds [] = refl
chosen_same holds (u ∷ units) = λ i. choice_target holds u i ∷ chosen_same holds units i

-- ---- events

abbrev IfSame : List ℕ → Option Array → Type 0
IfSame ts None = ⊤
IfSame ts (Some b) = targets b.units ≡ ts

if_some : (ts : List ℕ) (q : Bool) (b : Array) → targets b.units ≡ ts → IfSame ts (if q then Some b else None)
if_some ts true b e = e
if_some ts false b e = tt

if_none : (ts : List ℕ) (q : Bool) (b : Array) → targets b.units ≡ ts → IfSame ts (if q then None else Some b)
if_none ts true b e = tt
if_none ts false b e = e

accepted : (a : Array) (o : Option Process) → IfSame (targets a.units) (Steps.accept_step a o)
accepted a None = tt
accepted a (Some c) = at (unit_state_at a.units c.target c.unit)
  where
    at : (u : Option UnitState) → IfSame (targets a.units) (Steps.accept_step_at a c u)
    at None = refl
    at (Some u) = go (is_request_sense (command_of c.cdb))
      where
        go : (q : Bool)
            → IfSame (targets a.units) (if q then Some (Steps.with_guest a c None) else Steps.queue_step a c u)
        go true = refl
        go false = if_some (targets a.units) (nat_lt (Steps.process_count u) u.depth) _
            (with_unit_same a.units (record u { waiting = u.waiting ++ c ∷ [] }))

refused : (a : Array) (o : Option Process) → IfSame (targets a.units) (Steps.refuse_step a o)
refused a None = tt
refused a (Some c) = at (unit_state_at a.units c.target c.unit)
  where
    at : (u : Option UnitState) → IfSame (targets a.units) (Steps.refuse_step_at a c u)
    at None = tt
    at (Some u) =
        if_some (targets a.units) (not (is_request_sense (command_of c.cdb)) && Steps.process_count u == u.depth) _ refl

executed : (a : Array) (c : Process) (u : Option UnitState) (done : Execution)
    → targets (Steps.after_execution a c u done).units ≡ targets a.units
executed a c u done = replied_same
    (Steps.with_contents (Steps.without_attention a done.reported (nexus_of c)) u done.contents).units c.id done.reply
    ∙ filled u ∙ attended done.reported
  where
    filled : (o : Option UnitState)
        → targets (Steps.with_contents (Steps.without_attention a done.reported (nexus_of c)) o done.contents).units
        ≡ targets (Steps.without_attention a done.reported (nexus_of c)).units
    filled None = refl
    filled (Some v) = with_unit_same (Steps.without_attention a done.reported (nexus_of c)).units
        (record v { contents = done.contents })

    attended : (q : Bool) → targets (Steps.without_attention a q (nexus_of c)).units ≡ targets a.units
    attended true = refl
    attended false = refl

run : (a : Array) (guest : Bool) (o : Option RunningProcess) → IfSame (targets a.units) (Steps.run_step a guest o)
run a guest None = tt
run a guest (Some r) = if_some (targets a.units)
    (is_none r.reply && (guest || not (is_held a.holds r.process.target r.process.unit))) _
    (executed a r.process (unit_state_at a.units r.process.target r.process.unit)
    (execution (Steps.context_at a (nexus_of r.process) (unit_state_at a.units r.process.target r.process.unit))
    r.process.cdb r.process.sent))

failed : (s : ScenarioValue) (a : Array) (id : ProcId) (reply : Reply) (o : Option RunningProcess)
    → IfSame (targets a.units) (Steps.fail_step s a id reply o)
failed s a id reply (Some r) = if_some (targets a.units) (is_none r.reply) _ (replied_same a.units id reply)
failed s a id reply None = new (process_of s id)
  where
    new : (c : Option Process) → IfSame (targets a.units) (Steps.fail_step_of_new a id reply c)
    new None = tt
    new (Some c) = if_none (targets a.units) (Steps.is_waiting a.units id || Steps.has_ended a id) _ refl

ended : (a : Array) (status : ℕ) (o : Option RunningProcess) → IfSame (targets a.units) (Steps.end_step a status o)
ended a status None = tt
ended a status (Some r) = by r.reply
  where
    same : (reply : Reply) (q t : Bool) → (if q then record a {
      senses = (nexus_of r.process, reply.sense) ∷ senses_without a.senses (nexus_of r.process);
      holds = nexus_of r.process ∷ nexuses_without a.holds (nexus_of r.process);
    } else if t then record a {
      senses = senses_without a.senses (nexus_of r.process);
      holds = nexuses_without a.holds (nexus_of r.process);
    } else a).units ≡ a.units
    same reply true t = refl
    same reply false true = refl
    same reply false false = refl

    by : (reply : Option Reply) → IfSame (targets a.units) (Steps.end_step_with a r.process status reply)
    by None = tt
    by (Some reply) = if_some (targets a.units) (reply.status == status) _
        (left_same (Steps.after_status a r.process reply).units r.process.id ∙ ap targets (same reply
        (reply.status == CHECK_CONDITION) (reply.status == GOOD && is_request_sense (command_of r.process.cdb))))

aborted : (s : ScenarioValue) (a : Array) (i t m : ℕ) (what : AbortKind)
    → targets (Steps.abort_step s a i t m what).units ≡ targets a.units
aborted s a i t m AbortKind.All = kept_same (λ p. p.initiator == i && is_of_unit p t m) a.units
aborted s a i t m (AbortKind.Tag tag) =
    kept_same (λ p. p.initiator == i && is_of_unit p t m && has_tag p.tag tag) a.units
aborted s a i t m AbortKind.WholeQueue = ap targets (cleared_units i
    (Steps.unit_processes (unit_state_at a.units t m)) (Steps.without_dropped a (λ p. is_of_unit p t m)))
    ∙ kept_same (λ p. is_of_unit p t m) a.units
aborted s a i t m AbortKind.Device = ap targets
    (unit_reset_units s.hosts a.units (λ u. u.target == t) (record (Steps.without_dropped a (λ p. p.target == t)) {
      senses = Steps.kept_senses (λ r. r.target == t) a.senses;
      holds = Steps.kept_nexuses (λ r. r.target == t) a.holds;
    })) ∙ kept_same (λ p. p.target == t) a.units

event_same : (s : ScenarioValue) (a : Array) (event : Event) → IfSame (targets a.units) (Steps.event_step s a event)
event_same s a (Event.Accept id) = accepted a (process_of s id)
event_same s a (Event.Refuse id) = refused a (process_of s id)
event_same s a (Event.Run id) = run a (is_some (guest_at a.guests id)) (Steps.running_process a id)
event_same s a (Event.Fail id code) =
    failed s a id (check_condition (sense_of ABORTED_COMMAND code 0x00)) (Steps.running_process a id)
event_same s a (Event.End id status) = ended a status (Steps.running_process a id)
event_same s a (Event.Lost id) = if_none (targets a.units) (Steps.has_ended a id) _ (left_same a.units id)
event_same s a (Event.Aborted i t n what) = aborted s a i t n what
event_same s a (Event.Reset dev) = ap targets (unit_reset_units s.hosts a.units
    (λ u. true) (record (Steps.without_dropped a (λ p. true)) { senses = []; holds = [] }))
    ∙ kept_same (λ p. true) a.units

step_same : (s : ScenarioValue) (a : Array) (event : Event) → IfSame (targets a.units) (Steps.step s event a)
step_same s a event = go (Steps.event_step s a event) (event_same s a event)
  where
    go : (o : Option Array) → IfSame (targets a.units) o → IfSame (targets a.units) (Steps.settled_array_if o)
    go None e = tt
    go (Some b) e = chosen_same b.holds b.units ∙ e

-- ---- rows

abbrev pub Keeps : ScenarioValue → Option Array → Type 0
Keeps s o = targets (or_start s o).units ≡ targets (starting_array s).units

events_keep : (s : ScenarioValue) (o : Option Array) (shown : List Event) → Keeps s o
    → Keeps s (array_after_events s o shown)
events_keep s o [] h = h
events_keep s o (event ∷ shown) h = go (array_after_events s o shown) (events_keep s o shown h)
  where
    next : (a : Array) (b : Option Array) → targets a.units ≡ targets (starting_array s).units
        → IfSame (targets a.units) b → Keeps s b
    next a None h e = refl
    next a (Some b) h e = e ∙ h

    go : (x : Option Array) → Keeps s x → Keeps s (array_step s event x)
    go None e = e
    go (Some a) e = next a (Steps.step s event a) e (step_same s a event)

pub targets_kept : (s : ScenarioValue) (p : List Row)
    → targets (array_of s (run_state s p)).units ≡ targets (starting_array s).units
targets_kept s [] = chosen_same (starting_array s).holds (starting_array s).units
targets_kept s (row ∷ p) =
    let k : RunState = run_state s p in
    events_keep s k.array (row_events_by s k.story (row_reading k.story.bus_state row) row) (targets_kept s p)

abbrev AllThere : ScenarioValue → List ℕ → Type 0
AllThere s [] = ⊤
AllThere s (t ∷ ts) = HasDevice s t × AllThere s ts

start_there : (s : ScenarioValue) (units : List UnitDef) → AllByRecursion (IsOfTarget s.targets) units
    → AllThere s (targets (starting_units s units))
start_there s [] h = tt
start_there s (u ∷ units) h = (target_there s u.target h.0, start_there s units h.1)

each_there : (s : ScenarioValue) (units : List UnitState) → AllThere s (targets units)
    → AllUnits (λ u. HasDevice s u.target) units
each_there s [] h = tt
each_there s (u ∷ units) h = (h.0, each_there s units h.1)

-- The target of each unit is there.
pub targets_there : (s : ScenarioValue) (p : List Row) → Obeys s
    → AllUnits (λ u. HasDevice s u.target) (array_of s (run_state s p)).units
targets_there s p o = each_there s (array_of s (run_state s p)).units
    (subst (AllThere s) (sym (targets_kept s p)) (start_there s (units_of s) (are_of_targets s o)))
