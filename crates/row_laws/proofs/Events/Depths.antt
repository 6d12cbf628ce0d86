-- No unit of the plain disk array has more processes than its depth, whatever events are allowed (7.8.1).
use Rattle.row_laws.proofs
use proofs.Names.{ℕ, zero, suc, ◌≡◌, ◌≤◌, ◌<◌, ◌+◌, Bool, true, false, not, ◌&&◌, ◌||◌, ◌==◌, ◌∙◌, List, [], ◌∷◌, ◌++◌}
use proofs.Names.{length, length-append, Option, Some, None, refl, sym, subst, arith, true≢false, nat_tests, same_Some}
use proofs.Names.{if◌then◌else◌, is_some, is_none, nat_lt, ⊤, AbortKind, Event, ProcId, command_of, ABORTED_COMMAND}
use proofs.Names.{units_of, ScenarioValue, UnitDef, Reply, Execution, execution, is_request_sense, check_condition}
use proofs.Names.{queue_full, sense_of, without_process, choice, chosen_place, entries_of, process_at, process_at_if}
use proofs.Names.{Process, process_of, same_id, process_count, running_count, is_of_unit, has_tag, RunningProcess}
use proofs.Names.{UnitState, Nexus, Array, is_held, unit_state_at, with_unit, guest_at, nexus_of, has_no_current}
use proofs.Names.{with_current, unit_after_choice, units_after_choice, settled_array, starting_array, starting_units}
use proofs.{Names.{self_id, AreWithin}, Common.Impossible.{none_some}, Events.Processes.{IsSameIn, status_same}}
use proofs.Events.Processes.{attended_same, cleared_same}
use Rattle.due_model.specs.array_model.specs.Steps

-- ---- one unit

abbrev IsWithin : UnitState → Type 0
IsWithin u = process_count u ≤ u.depth

fewer_left : (waiting : List Process) (id : ProcId) → length (without_process waiting id) ≤ length waiting
fewer_left [] id = omega arith
fewer_left (c ∷ waiting) id = go (same_id c.id id) (fewer_left waiting id)
  where
    go : (x : Bool) → length (without_process waiting id) ≤ length waiting
        → length (if x then without_process waiting id else c ∷ without_process waiting id) ≤ length (c ∷ waiting)
    go true e = omega arith
    go false e = omega arith

one_fewer : (waiting : List Process) (place : ℕ) (c : Process) → process_at waiting place ≡ Some c
    → length (without_process waiting c.id) < length waiting
one_fewer [] place c e = absurd (none_some c e)
one_fewer (w ∷ waiting) zero c e =
    let same : w ≡ c = same_Some w c e in
    subst (λ (x : Bool). length (if x then without_process waiting c.id else w ∷ without_process waiting c.id)
    < length (w ∷ waiting)) (sym ((λ i. same_id (same i).id c.id) ∙ self_id c.id))
    (let h : length (without_process waiting c.id) ≤ length waiting = fewer_left waiting c.id in omega arith)
one_fewer (w ∷ waiting) (suc place) c e = go (same_id w.id c.id) (fewer_left waiting c.id) (one_fewer waiting place c e)
  where
    go : (x : Bool) → length (without_process waiting c.id) ≤ length waiting
        → length (without_process waiting c.id) < length waiting
        → length (if x then without_process waiting c.id else w ∷ without_process waiting c.id) < length (w ∷ waiting)
    go true h m = omega arith
    go false h m = omega arith

chosen_fewer : (u : UnitState) (c : Process) → choice u.pick u.waiting ≡ Some c
    → length (without_process u.waiting c.id) < length u.waiting
chosen_fewer u c e = go (chosen_place u.pick (entries_of u.waiting)) e
  where
    go : (x : Option ℕ) → process_at_if u.waiting x ≡ Some c
        → length (without_process u.waiting c.id) < length u.waiting
    go None h = absurd (none_some c h)
    go (Some place) h = one_fewer u.waiting place c h

none_counts : (o : Option RunningProcess) → has_no_current o ≡ true → running_count o ≡ 0
none_counts None e = refl
none_counts (Some r) e = absurd (true≢false (sym e))

chosen_within : (holds : List Nexus) (u : UnitState) → IsWithin u → IsWithin (unit_after_choice holds u)
chosen_within holds u h =
    go (has_no_current u.current) refl (not (is_held holds u.target u.unit)) (choice u.pick u.waiting) refl
  where
    go : (x : Bool) → has_no_current u.current ≡ x → (y : Bool) (c : Option Process) → choice u.pick u.waiting ≡ c
        → IsWithin (if x && y then with_current u c else u)
    go false f y c z = h
    go true f false c z = h
    go true f true None z = h
    go true f true (Some c) z =
        let one : length (without_process u.waiting c.id) < length u.waiting = chosen_fewer u c z in
        let two : running_count u.current ≡ 0 = none_counts u.current f in
        let three : length u.waiting + running_count u.current ≤ u.depth = h in
        let four : length (without_process u.waiting c.id) + 1 ≤ u.depth = omega arith in
        four

settled_within : (holds : List Nexus) (units : List UnitState) → AreWithin units
    → AreWithin (units_after_choice holds units)
settled_within holds [] h = tt
settled_within holds (u ∷ units) h = (chosen_within holds u h.0, settled_within holds units h.1)

-- ---- lists of units

with_within : (units : List UnitState) (new : UnitState) → AreWithin units → IsWithin new
    → AreWithin (with_unit units new)
with_within [] new h g = tt
with_within (u ∷ units) new h g = go (u.target == new.target && u.unit == new.unit) (with_within units new h.1 g)
  where
    go : (x : Bool) → AreWithin (with_unit units new) → AreWithin (if x then new ∷ units else u ∷ with_unit units new)
    go true e = (g, h.1)
    go false e = (h.0, e)

pub unit_within : (units : List UnitState) (t m : ℕ) (u : UnitState) → unit_state_at units t m ≡ Some u
    → AreWithin units → process_count u ≤ u.depth
unit_within [] t m u e h = absurd (none_some u e)
unit_within (v ∷ units) t m u e h = go (v.target == t && v.unit == m) e (λ f. unit_within units t m u f h.1)
  where
    go : (x : Bool) → (if x then Some v else unit_state_at units t m) ≡ Some u
        → (unit_state_at units t m ≡ Some u → IsWithin u) → IsWithin u
    go true f rest = subst (λ (w : UnitState). IsWithin w) (same_Some v u f) h.0
    go false f rest = rest f

replied_count : (o : Option RunningProcess) (id : ProcId) (reply : Reply)
    → running_count (Steps.current_with_reply o id reply) ≡ running_count o
replied_count None id reply = refl
replied_count (Some r) id reply = go (same_id r.process.id id)
  where
    go : (x : Bool) → running_count (if x then Some (record r { reply = Some reply }) else Some r) ≡ 1
    go true = refl
    go false = refl

replied_within : (units : List UnitState) (id : ProcId) (reply : Reply) → AreWithin units
    → AreWithin (Steps.units_with_reply units id reply)
replied_within [] id reply h = tt
replied_within (u ∷ units) id reply h = (
  subst (λ (m : ℕ). length u.waiting + m ≤ u.depth) (sym (replied_count u.current id reply)) h.0,
  replied_within units id reply h.1,
)

-- Of fewer that wait, and of the same current process or none.
fewer_within : (u : UnitState) (waiting : List Process) (o : Option RunningProcess) → length waiting ≤ length u.waiting
    → running_count o ≤ running_count u.current → IsWithin u → IsWithin (record u { waiting = waiting; current = o })
fewer_within u waiting o e f h =
    let g : length u.waiting + running_count u.current ≤ u.depth = h in
    let z : length waiting + running_count o ≤ u.depth = omega arith in
    z

fewer_runs : (x : Bool) (o : Option RunningProcess) → running_count (if x then None else o) ≤ running_count o
fewer_runs true o = omega arith
fewer_runs false o = omega arith

left_within : (units : List UnitState) (id : ProcId) → AreWithin units → AreWithin (Steps.units_without units id)
left_within [] id h = tt
left_within (u ∷ units) id h = (
  fewer_within u (without_process u.waiting id) (if is_some (Steps.running_if u.current id) then None else u.current)
      (fewer_left u.waiting id) (fewer_runs (is_some (Steps.running_if u.current id)) u.current) h.0,
  left_within units id h.1,
)

fewer_kept : (drops : Process → Bool) (waiting : List Process)
    → length (Steps.kept_processes drops waiting) ≤ length waiting
fewer_kept drops [] = omega arith
fewer_kept drops (c ∷ waiting) = go (drops c) (fewer_kept drops waiting)
  where
    go : (x : Bool) → length (Steps.kept_processes drops waiting) ≤ length waiting
        → length (if x then Steps.kept_processes drops waiting else c ∷ Steps.kept_processes drops waiting)
        ≤ length (c ∷ waiting)
    go true e = omega arith
    go false e = omega arith

runs_kept : (drops : Process → Bool) (o : Option RunningProcess)
    → running_count (Steps.kept_running drops o) ≤ running_count o
runs_kept drops None = omega arith
runs_kept drops (Some r) = fewer_runs (drops r.process) (Some r)

dropped_within : (drops : Process → Bool) (units : List UnitState) → AreWithin units
    → AreWithin (Steps.kept_units drops units)
dropped_within drops [] h = tt
dropped_within drops (u ∷ units) h = (
  fewer_within u (Steps.kept_processes drops u.waiting) (Steps.kept_running drops u.current)
      (fewer_kept drops u.waiting) (runs_kept drops u.current) h.0,
  dropped_within drops units h.1,
)

same_within : (a b : Array) → IsSameIn a b → AreWithin a.units → AreWithin b.units
same_within a b same h = subst (λ (us : List UnitState). AreWithin us) (sym same.units) h

-- ---- an event

abbrev IfWithin : Option Array → Type 0
IfWithin None = ⊤
IfWithin (Some a) = AreWithin a.units

within_if : (x : Bool) (a : Array) → (x ≡ true → AreWithin a.units) → IfWithin (if x then Some a else None)
within_if true a h = h refl
within_if false a h = tt

joins : (u : UnitState) (c : Process) → nat_lt (process_count u) u.depth ≡ true
    → IsWithin (record u { waiting = u.waiting ++ c ∷ [] })
joins u c e =
    let one : length (u.waiting ++ c ∷ []) ≡ length u.waiting + 1 = length-append u.waiting (c ∷ []) in
    let two : length u.waiting + running_count u.current < u.depth = grind (arith, nat_tests) in
    let three : length (u.waiting ++ c ∷ []) + running_count u.current ≤ u.depth = omega arith in
    three

accepted : (a : Array) (o : Option Process) → AreWithin a.units → IfWithin (Steps.accept_step a o)
accepted a None h = tt
accepted a (Some c) h = go (unit_state_at a.units c.target c.unit)
  where
    go : (u : Option UnitState) → IfWithin (Steps.accept_step_at a c u)
    go None = h
    go (Some u) = senses (is_request_sense (command_of c.cdb))
      where
        senses : (x : Bool) → IfWithin (if x then Some (Steps.with_guest a c None) else Steps.queue_step a c u)
        senses true = h
        senses false = within_if (nat_lt (process_count u) u.depth) (record a {
          units = with_unit a.units (record u { waiting = u.waiting ++ c ∷ [] });
        }) (λ e. with_within a.units (record u { waiting = u.waiting ++ c ∷ [] }) h (joins u c e))

refused : (a : Array) (o : Option Process) → AreWithin a.units → IfWithin (Steps.refuse_step a o)
refused a None h = tt
refused a (Some c) h = go (unit_state_at a.units c.target c.unit)
  where
    go : (u : Option UnitState) → IfWithin (Steps.refuse_step_at a c u)
    go None = tt
    go (Some u) = within_if (not (is_request_sense (command_of c.cdb)) && process_count u == u.depth)
        (Steps.with_listed_reply (Steps.with_guest a c (Some queue_full)) c.id queue_full) (λ e. h)

executed : (a : Array) (c : Process) → AreWithin a.units
    → AreWithin (Steps.after_execution_at a c (unit_state_at a.units c.target c.unit)).units
executed a c h = go (unit_state_at a.units c.target c.unit) refl
  where
    inner : (done : Execution) (u : Option UnitState) → unit_state_at a.units c.target c.unit ≡ u
        → (x : Bool) → AreWithin (Steps.with_contents (Steps.without_attention a x (nexus_of c)) u done.contents).units
    inner done None f true = h
    inner done None f false = h
    inner done (Some u) f true =
        with_within a.units (record u { contents = done.contents }) h (unit_within a.units c.target c.unit u f h)
    inner done (Some u) f false =
        with_within a.units (record u { contents = done.contents }) h (unit_within a.units c.target c.unit u f h)

    by : (done : Execution) (u : Option UnitState) → unit_state_at a.units c.target c.unit ≡ u
        → AreWithin (Steps.after_execution a c u done).units
    by done u f = replied_within (Steps.with_contents (Steps.without_attention a done.reported (nexus_of c)) u
        done.contents).units c.id done.reply (inner done u f done.reported)

    go : (u : Option UnitState) → unit_state_at a.units c.target c.unit ≡ u
        → AreWithin (Steps.after_execution_at a c u).units
    go u f = by (execution (Steps.context_at a (nexus_of c) u) c.cdb c.sent) u f

run_within : (a : Array) (guest : Bool) (o : Option RunningProcess) → AreWithin a.units
    → IfWithin (Steps.run_step a guest o)
run_within a guest None h = tt
run_within a guest (Some r) h = within_if
    (is_none r.reply && (guest || not (is_held a.holds r.process.target r.process.unit)))
    (Steps.after_execution_at a r.process (unit_state_at a.units r.process.target r.process.unit))
    (λ e. executed a r.process h)

failed : (s : ScenarioValue) (a : Array) (id : ProcId) (reply : Reply) (o : Option RunningProcess) → AreWithin a.units
    → IfWithin (Steps.fail_step s a id reply o)
failed s a id reply (Some r) h =
    within_if (is_none r.reply) (Steps.with_reply a id reply) (λ e. replied_within a.units id reply h)
failed s a id reply None h = go (process_of s id)
  where
    by : (c : Process) (x : Bool)
        → IfWithin (if x then None else Some (Steps.with_listed_reply (Steps.with_guest a c (Some reply)) id reply))
    by c true = tt
    by c false = h

    go : (c : Option Process) → IfWithin (Steps.fail_step_of_new a id reply c)
    go None = tt
    go (Some c) = by c (Steps.is_waiting a.units id || Steps.has_ended a id)

ended : (a : Array) (status : ℕ) (o : Option RunningProcess) → AreWithin a.units → IfWithin (Steps.end_step a status o)
ended a status None h = tt
ended a status (Some r) h = by r.reply
  where
    by : (o : Option Reply) → IfWithin (Steps.end_step_with a r.process status o)
    by None = tt
    by (Some reply) = within_if (reply.status == status)
        (Steps.array_without (Steps.after_status a r.process reply) r.process.id)
        (λ e. left_within (Steps.after_status a r.process reply).units r.process.id
        (same_within a (Steps.after_status a r.process reply) (status_same a r.process reply) h))

lost : (a : Array) (id : ProcId) → AreWithin a.units → IfWithin (Steps.loss_step a id)
lost a id h = go (Steps.has_ended a id)
  where
    go : (x : Bool) → IfWithin (if x then None else Some (Steps.array_without a id))
    go true = tt
    go false = left_within a.units id h

aborted : (s : ScenarioValue) (a : Array) (i t m : ℕ) (what : AbortKind) → AreWithin a.units
    → AreWithin (Steps.abort_step s a i t m what).units
aborted s a i t m AbortKind.All h = dropped_within (λ p. p.initiator == i && is_of_unit p t m) a.units h
aborted s a i t m (AbortKind.Tag tag) h =
    dropped_within (λ p. p.initiator == i && is_of_unit p t m && has_tag p.tag tag) a.units h
aborted s a i t m AbortKind.WholeQueue h =
    let kept : Array = Steps.without_dropped a (λ p. is_of_unit p t m) in
    same_within kept (Steps.abort_step s a i t m AbortKind.WholeQueue)
    (cleared_same i (Steps.unit_processes (unit_state_at a.units t m)) kept)
    (dropped_within (λ p. is_of_unit p t m) a.units h)
aborted s a i t m AbortKind.Device h =
    let kept : Array = record (Steps.without_dropped a (λ p. p.target == t)) {
      senses = Steps.kept_senses (λ r. r.target == t) a.senses;
      holds = Steps.kept_nexuses (λ r. r.target == t) a.holds;
    } in
    same_within kept (Steps.abort_step s a i t m AbortKind.Device)
    (attended_same s.hosts a.units (λ u. u.target == t) kept) (dropped_within (λ p. p.target == t) a.units h)

reset : (s : ScenarioValue) (a : Array) → AreWithin a.units → AreWithin (Steps.reset_step s a).units
reset s a h =
    let kept : Array = record (Steps.without_dropped a (λ p. true)) { senses = []; holds = [] } in
    same_within kept (Steps.reset_step s a) (attended_same s.hosts a.units (λ u. true) kept)
    (dropped_within (λ p. true) a.units h)

event_within : (s : ScenarioValue) (a : Array) (event : Event) → AreWithin a.units
    → IfWithin (Steps.event_step s a event)
event_within s a (Event.Accept id) h = accepted a (process_of s id) h
event_within s a (Event.Refuse id) h = refused a (process_of s id) h
event_within s a (Event.Run id) h = run_within a (is_some (guest_at a.guests id)) (Steps.running_process a id) h
event_within s a (Event.Fail id code) h =
    failed s a id (check_condition (sense_of ABORTED_COMMAND code 0x00)) (Steps.running_process a id) h
event_within s a (Event.End id status) h = ended a status (Steps.running_process a id) h
event_within s a (Event.Lost id) h = lost a id h
event_within s a (Event.Aborted i t n what) h = aborted s a i t n what h
event_within s a (Event.Reset dev) h = reset s a h

pub within_after : (s : ScenarioValue) (a b : Array) (event : Event) → AreWithin a.units → Steps.step s event a ≡ Some b
    → AreWithin b.units
within_after s a b event h e = go (Steps.event_step s a event) (event_within s a event h) e
  where
    no_array : (x : Array) → (let y : Option Array = None in y) ≡ Some x → ⊥
    no_array x z = absurd cc

    go : (o : Option Array) → IfWithin o → Steps.settled_array_if o ≡ Some b → AreWithin b.units
    go None f z = absurd (no_array b z)
    go (Some c) f z =
        subst (λ (x : Array). AreWithin x.units) (same_Some (settled_array c) b z) (settled_within c.holds c.units f)

pub within_at_start : (s : ScenarioValue) → AreWithin (settled_array (starting_array s)).units
within_at_start s = settled_within [] (starting_units s (units_of s)) (go (units_of s))
  where
    go : (units : List UnitDef) → AreWithin (starting_units s units)
    go [] = tt
    go (u ∷ units) = (omega arith, go units)
