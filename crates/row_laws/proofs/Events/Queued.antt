-- What holds of the processes in the queues of the plain disk array holds after an event, of those that it leaves
-- there.
use Rattle.row_laws.proofs
use proofs.Names.{ℕ, ◌≡◌, Bool, true, false, not, ◌&&◌, ◌||◌, ◌==◌, List, [], ◌∷◌, ◌++◌, Option, Some, None, refl, sym}
use proofs.Names.{subst, not_from_false, same_Some, if◌then◌else◌, is_some, is_none, nat_lt, ⊤, AbortKind, Event}
use proofs.Names.{ProcId, command_of, ABORTED_COMMAND, GOOD, CHECK_CONDITION, ScenarioValue, unit_reset_units}
use proofs.Names.{cleared_units, Reply, Execution, execution, is_request_sense, check_condition, queue_full, sense_of}
use proofs.Names.{without_process, choice, Process, process_of, same_id, is_of_unit, has_tag, RunningProcess, UnitState}
use proofs.Names.{Nexus, Array, is_held, unit_state_at, with_unit, guest_at, nexus_of, has_no_current, with_current}
use proofs.Names.{unit_after_choice, units_after_choice, settled_array, senses_without, nexuses_without, AllP, RunsP}
use proofs.{Names.{UnitsP}, Common.Impossible.{none_some}, Events.{Replies.{running_id}, Writers.{append_all}}}
use proofs.Events.Writers.{choice_all}
use Rattle.due_model.specs.array_model.specs.Steps

-- ---- the processes that wait, and the current ones

abbrev And : (Process → Type 0) → (Process → Bool) → Process → Type 0
And q stays c = q c × (stays c ≡ true)

map_all : (q r : Process → Type 0) → ((c : Process) → q c → r c) → (waiting : List Process) → AllP q waiting
    → AllP r waiting
map_all q r f [] h = tt
map_all q r f (c ∷ waiting) h = (f c h.0, map_all q r f waiting h.1)

map_runs : (q r : Process → Type 0) → ((c : Process) → q c → r c) → (x : Option RunningProcess) → RunsP q x → RunsP r x
map_runs q r f None h = tt
map_runs q r f (Some x) h = f x.process h

pub map_units : (q r : Process → Type 0) → ((c : Process) → q c → r c) → (units : List UnitState) → UnitsP q units
    → UnitsP r units
map_units q r f [] h = tt
map_units q r f (u ∷ units) h =
    ((map_all q r f u.waiting h.0.0, map_runs q r f u.current h.0.1), map_units q r f units h.1)

-- ---- lists

without_all : (q : Process → Type 0) (waiting : List Process) (id : ProcId) → AllP q waiting
    → AllP (And q (λ c. not (same_id c.id id))) (without_process waiting id)
without_all q [] id h = tt
without_all q (c ∷ waiting) id h = go (same_id c.id id) refl (without_all q waiting id h.1)
  where
    go : (x : Bool) → same_id c.id id ≡ x → AllP (And q (λ w. not (same_id w.id id))) (without_process waiting id)
        → AllP (And q (λ w. not (same_id w.id id)))
        (if x then without_process waiting id else c ∷ without_process waiting id)
    go true e f = f
    go false e f = ((h.0, not_from_false (same_id c.id id) e), f)

kept_all : (q : Process → Type 0) (drops : Process → Bool) (waiting : List Process) → AllP q waiting
    → AllP (And q (λ c. not (drops c))) (Steps.kept_processes drops waiting)
kept_all q drops [] h = tt
kept_all q drops (c ∷ waiting) h = go (drops c) refl (kept_all q drops waiting h.1)
  where
    go : (x : Bool) → drops c ≡ x → AllP (And q (λ w. not (drops w))) (Steps.kept_processes drops waiting)
        → AllP (And q (λ w. not (drops w)))
        (if x then Steps.kept_processes drops waiting else c ∷ Steps.kept_processes drops waiting)
    go true e f = f
    go false e f = ((h.0, not_from_false (drops c) e), f)

with_units : (q : Process → Type 0) (units : List UnitState) (new : UnitState) → UnitsP q units
    → AllP q new.waiting × RunsP q new.current → UnitsP q (with_unit units new)
with_units q [] new h g = tt
with_units q (u ∷ units) new h g = go (u.target == new.target && u.unit == new.unit) (with_units q units new h.1 g)
  where
    go : (x : Bool) → UnitsP q (with_unit units new) → UnitsP q (if x then new ∷ units else u ∷ with_unit units new)
    go true e = (g, h.1)
    go false e = (h.0, e)

pub unit_at : (q : Process → Type 0) (units : List UnitState) (t m : ℕ) (u : UnitState)
    → unit_state_at units t m ≡ Some u → UnitsP q units → AllP q u.waiting × RunsP q u.current
unit_at q [] t m u e h = absurd (none_some u e)
unit_at q (v ∷ units) t m u e h = go (v.target == t && v.unit == m) e (λ f. unit_at q units t m u f h.1)
  where
    go : (x : Bool) → (if x then Some v else unit_state_at units t m) ≡ Some u
        → (unit_state_at units t m ≡ Some u → AllP q u.waiting × RunsP q u.current)
        → AllP q u.waiting × RunsP q u.current
    go true f rest = subst (λ (w : UnitState). AllP q w.waiting × RunsP q w.current) (same_Some v u f) h.0
    go false f rest = rest f

-- ---- the choice

fst_all : (q : Process → Type 0) (stays : Process → Bool) (waiting : List Process) → AllP (And q stays) waiting
    → AllP q waiting
fst_all q stays waiting h = map_all (And q stays) q (λ p x. x.0) waiting h

chosen : (q : Process → Type 0) (holds : List Nexus) (u : UnitState) → AllP q u.waiting × RunsP q u.current
    → AllP q (unit_after_choice holds u).waiting × RunsP q (unit_after_choice holds u).current
chosen q holds u h = go (has_no_current u.current && not (is_held holds u.target u.unit)) (choice u.pick u.waiting) refl
  where
    go : (x : Bool) (c : Option Process) → choice u.pick u.waiting ≡ c
        → AllP q (if x then with_current u c else u).waiting × RunsP q (if x then with_current u c else u).current
    go true None z = h
    go true (Some c) z = (
      fst_all q (λ w. not (same_id w.id c.id)) (without_process u.waiting c.id) (without_all q u.waiting c.id h.0),
      choice_all q u c h.0 z,
    )
    go false c z = h

pub settled_units : (q : Process → Type 0) (holds : List Nexus) (units : List UnitState) → UnitsP q units
    → UnitsP q (units_after_choice holds units)
settled_units q holds [] h = tt
settled_units q holds (u ∷ units) h = (chosen q holds u h.0, settled_units q holds units h.1)

-- ---- replies, ends and aborts

replied_units : (q : Process → Type 0) (units : List UnitState) (id : ProcId) (reply : Reply) → UnitsP q units
    → UnitsP q (Steps.units_with_reply units id reply)
replied_units q [] id reply h = tt
replied_units q (u ∷ units) id reply h = ((h.0.0, go u.current h.0.1), replied_units q units id reply h.1)
  where
    inner : (r : RunningProcess) → q r.process
        → (x : Bool) → RunsP q (if x then Some (record r { reply = Some reply }) else Some r)
    inner r e true = e
    inner r e false = e

    go : (x : Option RunningProcess) → RunsP q x → RunsP q (Steps.current_with_reply x id reply)
    go None e = tt
    go (Some r) e = inner r e (same_id r.process.id id)

left_units : (q : Process → Type 0) (units : List UnitState) (id : ProcId) → UnitsP q units
    → UnitsP (And q (λ p. not (same_id p.id id))) (Steps.units_without units id)
left_units q [] id h = tt
left_units q (u ∷ units) id h = ((without_all q u.waiting id h.0.0, go u.current h.0.1), left_units q units id h.1)
  where
    inner : (r : RunningProcess) → q r.process → (x : Bool) → same_id r.process.id id ≡ x
        → RunsP (And q (λ p. not (same_id p.id id)))
        (if is_some {T = RunningProcess} (if x then Some r else None) then None else Some r)
    inner r f true e = tt
    inner r f false e = (f, not_from_false (same_id r.process.id id) e)

    go : (x : Option RunningProcess) → RunsP q x
        → RunsP (And q (λ p. not (same_id p.id id))) (if is_some (Steps.running_if x id) then None else x)
    go None f = tt
    go (Some r) f = inner r f (same_id r.process.id id) refl

dropped_units : (q : Process → Type 0) (drops : Process → Bool) (units : List UnitState) → UnitsP q units
    → UnitsP (And q (λ p. not (drops p))) (Steps.kept_units drops units)
dropped_units q drops [] h = tt
dropped_units q drops (u ∷ units) h =
    ((kept_all q drops u.waiting h.0.0, go u.current h.0.1), dropped_units q drops units h.1)
  where
    inner : (r : RunningProcess) → q r.process → (x : Bool) → drops r.process ≡ x
        → RunsP (And q (λ p. not (drops p))) (if x then None else Some r)
    inner r f true e = tt
    inner r f false e = (f, not_from_false (drops r.process) e)

    go : (x : Option RunningProcess) → RunsP q x → RunsP (And q (λ p. not (drops p))) (Steps.kept_running drops x)
    go None f = tt
    go (Some r) f = inner r f (drops r.process) refl

-- ---- an event

-- Which processes it drops.
abbrev pub is_dropped : ℕ → ℕ → ℕ → AbortKind → Process → Bool
is_dropped i t m AbortKind.All c = c.initiator == i && is_of_unit c t m
is_dropped i t m (AbortKind.Tag tag) c = c.initiator == i && is_of_unit c t m && has_tag c.tag tag
is_dropped i t m AbortKind.WholeQueue c = is_of_unit c t m
is_dropped i t m AbortKind.Device c = c.target == t

abbrev pub stays_queued : Event → Process → Bool
stays_queued (Event.End id status) c = not (same_id c.id id)
stays_queued (Event.Lost id) c = not (same_id c.id id)
stays_queued (Event.Aborted i t n what) c = not (is_dropped i t n what c)
stays_queued (Event.Reset dev) c = false
stays_queued _ c = true

abbrev IfArray : (Process → Type 0) → Option Array → Type 0
IfArray q None = ⊤
IfArray q (Some a) = UnitsP q a.units

aborted_units : (s : ScenarioValue) (q : Process → Type 0) (a : Array) (i t m : ℕ) (what : AbortKind) → UnitsP q a.units
    → UnitsP (And q (λ p. not (is_dropped i t m what p))) (Steps.abort_step s a i t m what).units
aborted_units s q a i t m AbortKind.All h = dropped_units q (λ p. p.initiator == i && is_of_unit p t m) a.units h
aborted_units s q a i t m (AbortKind.Tag tag) h =
    dropped_units q (λ p. p.initiator == i && is_of_unit p t m && has_tag p.tag tag) a.units h
aborted_units s q a i t m AbortKind.WholeQueue h = subst (λ (us : List UnitState). UnitsP
    (And q (λ p. not (is_of_unit p t m))) us) (sym (cleared_units i (Steps.unit_processes (unit_state_at a.units t m))
    (Steps.without_dropped a (λ p. is_of_unit p t m)))) (dropped_units q (λ p. is_of_unit p t m) a.units h)
aborted_units s q a i t m AbortKind.Device h = subst
    (λ (us : List UnitState). UnitsP (And q (λ p. not (p.target == t))) us)
    (sym (unit_reset_units s.hosts a.units (λ u. u.target == t) (record (Steps.without_dropped a (λ p. p.target == t)) {
      senses = Steps.kept_senses (λ r. r.target == t) a.senses;
      holds = Steps.kept_nexuses (λ r. r.target == t) a.holds;
    }))) (dropped_units q (λ p. p.target == t) a.units h)

if_units : (q : Process → Type 0) (x : Bool) (a : Array) → UnitsP q a.units → IfArray q (if x then Some a else None)
if_units q true a h = h
if_units q false a h = tt

accepted_units : (s : ScenarioValue) (q : Process → Type 0) (a : Array) (id : ProcId)
    → ((c : Process) → process_of s id ≡ Some c → is_request_sense (command_of c.cdb) ≡ false → q c) → UnitsP q a.units
    → IfArray q (Steps.accept_step a (process_of s id))
accepted_units s q a id own h = go (process_of s id) refl
  where
    by : (c : Process) → process_of s id ≡ Some c → (u : Option UnitState) → unit_state_at a.units c.target c.unit ≡ u
        → IfArray q (Steps.accept_step_at a c u)
    by c e None f = h
    by c e (Some u) f = senses (is_request_sense (command_of c.cdb)) refl
      where
        senses : (x : Bool) → is_request_sense (command_of c.cdb) ≡ x
            → IfArray q (if x then Some (Steps.with_guest a c None) else Steps.queue_step a c u)
        senses true z = h
        senses false z =
            let k = unit_at q a.units c.target c.unit u f h in
            if_units q (nat_lt (Steps.process_count u) u.depth)
            (record a { units = with_unit a.units (record u { waiting = u.waiting ++ c ∷ [] }) }) (with_units q a.units
            (record u { waiting = u.waiting ++ c ∷ [] }) h (append_all q u.waiting c k.0 (own c e z), k.1))

    go : (c : Option Process) → process_of s id ≡ c → IfArray q (Steps.accept_step a c)
    go None e = tt
    go (Some c) e = by c e (unit_state_at a.units c.target c.unit) refl

refused_units : (s : ScenarioValue) (q : Process → Type 0) (a : Array) (o : Option Process) → UnitsP q a.units
    → IfArray q (Steps.refuse_step a o)
refused_units s q a None h = tt
refused_units s q a (Some c) h = go (unit_state_at a.units c.target c.unit)
  where
    go : (u : Option UnitState) → IfArray q (Steps.refuse_step_at a c u)
    go None = tt
    go (Some u) = if_units q (not (is_request_sense (command_of c.cdb)) && Steps.process_count u == u.depth)
        (Steps.with_listed_reply (Steps.with_guest a c (Some queue_full)) c.id queue_full) h

run_units : (q : Process → Type 0) (a : Array) (guest : Bool) (o : Option RunningProcess) → UnitsP q a.units
    → IfArray q (Steps.run_step a guest o)
run_units q a guest None h = tt
run_units q a guest (Some r) h = if_units q
    (is_none r.reply && (guest || not (is_held a.holds r.process.target r.process.unit)))
    (Steps.after_execution_at a r.process (unit_state_at a.units r.process.target r.process.unit))
    (go (unit_state_at a.units r.process.target r.process.unit) refl)
  where
    go : (u : Option UnitState) → unit_state_at a.units r.process.target r.process.unit ≡ u
        → UnitsP q (Steps.after_execution_at a r.process u).units
    go None f = by (execution (Steps.context_at a (nexus_of r.process) None) r.process.cdb r.process.sent)
      where
        inner : (done : Execution) (x : Bool) → UnitsP q (Steps.with_reply
            (Steps.with_contents (Steps.without_attention a x (nexus_of r.process)) None done.contents) r.process.id
            done.reply).units
        inner done true = replied_units q a.units r.process.id done.reply h
        inner done false = replied_units q a.units r.process.id done.reply h

        by : (done : Execution) → UnitsP q (Steps.after_execution a r.process None done).units
        by done = inner done done.reported
    go (Some u) f = by (execution (Steps.context_at a (nexus_of r.process) (Some u)) r.process.cdb r.process.sent)
      where
        inner : (done : Execution) (x : Bool) → UnitsP q (Steps.with_reply
            (Steps.with_contents (Steps.without_attention a x (nexus_of r.process)) (Some u) done.contents) r.process.id
            done.reply).units
        inner done true = replied_units q (with_unit a.units (record u { contents = done.contents }))
            r.process.id done.reply (with_units q a.units (record u { contents = done.contents }) h
            (unit_at q a.units r.process.target r.process.unit u f h))
        inner done false = replied_units q
            (with_unit a.units (record u { contents = done.contents })) r.process.id done.reply (with_units q a.units
            (record u { contents = done.contents }) h (unit_at q a.units r.process.target r.process.unit u f h))

        by : (done : Execution) → UnitsP q (Steps.after_execution a r.process (Some u) done).units
        by done = inner done done.reported

failed_units :
    (s : ScenarioValue) (q : Process → Type 0) (a : Array) (id : ProcId) (reply : Reply) (o : Option RunningProcess)
    → UnitsP q a.units → IfArray q (Steps.fail_step s a id reply o)
failed_units s q a id reply (Some r) h =
    if_units q (is_none r.reply) (Steps.with_reply a id reply) (replied_units q a.units id reply h)
failed_units s q a id reply None h = go (process_of s id)
  where
    by : (c : Process) (x : Bool)
        → IfArray q (if x then None else Some (Steps.with_listed_reply (Steps.with_guest a c (Some reply)) id reply))
    by c true = tt
    by c false = h

    go : (c : Option Process) → IfArray q (Steps.fail_step_of_new a id reply c)
    go None = tt
    go (Some c) = by c (Steps.is_waiting a.units id || Steps.has_ended a id)

ended_units : (q : Process → Type 0) (a : Array) (id : ProcId) (status : ℕ) → UnitsP q a.units
    → IfArray (And q (λ t. not (same_id t.id id))) (Steps.end_step a status (Steps.running_process a id))
ended_units q a id status h = go (Steps.running_process a id) refl
  where
    pick : (x y : Bool) (b c : Array) → b.units ≡ a.units → c.units ≡ a.units
        → (if x then b else if y then c else a).units ≡ a.units
    pick true y b c eb ec = eb
    pick false true b c eb ec = ec
    pick false false b c eb ec = refl

    status_same : (t : Process) (reply : Reply) → (Steps.after_status a t reply).units ≡ a.units
    status_same t reply = pick (reply.status == CHECK_CONDITION)
        (reply.status == GOOD && is_request_sense (command_of t.cdb)) (record a {
          senses = (nexus_of t, reply.sense) ∷ senses_without a.senses (nexus_of t);
          holds = nexus_of t ∷ nexuses_without a.holds (nexus_of t);
        }) (record a { senses = senses_without a.senses (nexus_of t); holds = nexuses_without a.holds (nexus_of t) })
        refl refl

    by : (r : RunningProcess) → r.process.id ≡ id
        → (o : Option Reply) → IfArray (And q (λ t. not (same_id t.id id))) (Steps.end_step_with a r.process status o)
    by r e None = tt
    by r e (Some reply) = if_units (And q (λ t. not (same_id t.id id))) (reply.status == status)
        (Steps.array_without (Steps.after_status a r.process reply) r.process.id)
        (subst (λ (x : ProcId). UnitsP (And q (λ t. not (same_id t.id x)))
        (Steps.units_without (Steps.after_status a r.process reply).units r.process.id)) e
        (left_units q (Steps.after_status a r.process reply).units r.process.id
        (subst (λ (us : List UnitState). UnitsP q us) (sym (status_same r.process reply)) h)))

    go : (o : Option RunningProcess) → Steps.running_process a id ≡ o
        → IfArray (And q (λ t. not (same_id t.id id))) (Steps.end_step a status o)
    go None e = tt
    go (Some r) e = by r (running_id a id r e) r.reply

lost_units : (q : Process → Type 0) (a : Array) (id : ProcId) → UnitsP q a.units
    → IfArray (And q (λ p. not (same_id p.id id))) (Steps.loss_step a id)
lost_units q a id h = go (Steps.has_ended a id)
  where
    go : (x : Bool) → IfArray (And q (λ p. not (same_id p.id id))) (if x then None else Some (Steps.array_without a id))
    go true = tt
    go false = left_units q a.units id h

reset_units : (s : ScenarioValue) (q : Process → Type 0) (a : Array) → UnitsP q a.units
    → UnitsP (And q (λ p. false)) (Steps.reset_step s a).units
reset_units s q a h =
    subst (λ (us : List UnitState). UnitsP (And q (λ p. false)) us) (sym (unit_reset_units s.hosts a.units (λ u. true)
    (record (Steps.without_dropped a (λ p. true)) { senses = []; holds = [] }))) (dropped_units q (λ p. true) a.units h)

plain_if : (q : Process → Type 0) (o : Option Array) → IfArray q o → IfArray (And q (λ p. true)) o
plain_if q None h = tt
plain_if q (Some a) h = map_units q (And q (λ p. true)) (λ p x. (x, refl)) a.units h

event_units : (s : ScenarioValue) (q : Process → Type 0) (a : Array) (event : Event) → ((id : ProcId) (c : Process)
    → event ≡ Event.Accept id → process_of s id ≡ Some c → is_request_sense (command_of c.cdb) ≡ false → q c)
    → UnitsP q a.units → IfArray (And q (stays_queued event)) (Steps.event_step s a event)
event_units s q a (Event.Accept id) own h =
    plain_if q (Steps.accept_step a (process_of s id)) (accepted_units s q a id (λ c e z. own id c refl e z) h)
event_units s q a (Event.Refuse id) own h =
    plain_if q (Steps.refuse_step a (process_of s id)) (refused_units s q a (process_of s id) h)
event_units s q a (Event.Run id) own h = plain_if q (Steps.run_step a (is_some (guest_at a.guests id))
    (Steps.running_process a id)) (run_units q a (is_some (guest_at a.guests id)) (Steps.running_process a id) h)
event_units s q a (Event.Fail id code) own h = plain_if q (Steps.event_step s a (Event.Fail id code))
    (failed_units s q a id (check_condition (sense_of ABORTED_COMMAND code 0x00)) (Steps.running_process a id) h)
event_units s q a (Event.End id status) own h = ended_units q a id status h
event_units s q a (Event.Lost id) own h = lost_units q a id h
event_units s q a (Event.Aborted i t n what) own h = aborted_units s q a i t n what h
event_units s q a (Event.Reset dev) own h = reset_units s q a h

-- Of what was in the queues, what stays; and what is accepted.
pub step_units : (s : ScenarioValue) (q : Process → Type 0) (a b : Array) (event : Event) → ((id : ProcId) (t : Process)
    → event ≡ Event.Accept id → process_of s id ≡ Some t → is_request_sense (command_of t.cdb) ≡ false → q t)
    → UnitsP q a.units → Steps.step s event a ≡ Some b → UnitsP (λ t. q t × (stays_queued event t ≡ true)) b.units
step_units s q a b event own h e = go (Steps.event_step s a event) (event_units s q a event own h) e
  where
    no_array : (x : Array) → (let y : Option Array = None in y) ≡ Some x → ⊥
    no_array x z = absurd cc

    go : (o : Option Array) → IfArray (And q (stays_queued event)) o → Steps.settled_array_if o ≡ Some b
        → UnitsP (And q (stays_queued event)) b.units
    go None f z = absurd (no_array b z)
    go (Some c) f z = subst (λ (x : Array). UnitsP (And q (stays_queued event)) x.units)
        (same_Some (settled_array c) b z) (settled_units (And q (stays_queued event)) c.holds c.units f)
