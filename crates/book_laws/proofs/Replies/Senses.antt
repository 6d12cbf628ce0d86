-- After every history a sense that is stored with the key ABORTED COMMAND is of a process that failed there.
use Rattle.book_laws.proofs
use proofs.Names.{ℕ, ◌≡◌, Bool, true, false, List, [], ◌∷◌, ◌∙◌, refl, sym, subst, Option, Some, None, not, ◌&&◌, ◌||◌}
use proofs.Names.{inl, inr, eqb-true, and_parts, and_from, or_right, cases_Bool, or_left, if◌then◌else◌, ◌==◌, is_some}
use proofs.Names.{is_none, nat_lt, eq_self, AbortKind, Event, ProcId, command_of, Sense, ABORTED_COMMAND, GOOD}
use proofs.Names.{CHECK_CONDITION, QUEUE_FULL, ScenarioValue, HostDef, same_id_is, same_nexus_is, guest_process}
use proofs.Names.{history_sound, current_process, array_step, array_after, Contents, Reply, Execution, execution}
use proofs.Names.{is_request_sense, check_condition, sense_of, commands_cleared, Process, process_of, same_id, IsSound}
use proofs.Names.{HasSeats, RunningProcess, UnitState, Nexus, Array, same_nexus, sense_of_nexus, senses_without}
use proofs.Names.{nexuses_without, is_held, unit_state_at, guest_at, nexus_of, same_event, has_event, was_refused}
use proofs.{Names.{has_cause, is_at_nexus, is_failure_at, has_failure_at}, Replies.Facts.{IsCaused, Caused, caused}}
use proofs.Replies.Facts.{process_runs}
use Rattle.due_model.specs.array_model.specs.Steps

-- ---- a failure of a process is one at its nexus

pub self_nexus : (q : Nexus) → same_nexus q q ≡ true
self_nexus q = λ i. eq_self q.initiator i && (eq_self q.target i && eq_self q.unit i)

here : (s : ScenarioValue) (e : Event) (c : Process) (code : ℕ) → process_of s c.id ≡ Some c
    → same_event e (Event.Fail c.id code) ≡ true → is_failure_at s e (nexus_of c) code ≡ true
here s (Event.Fail id x) c code own h =
    let two = and_parts (same_id id c.id) (x == code) h in
    and_from _ _ two.1 ((λ i. is_at_nexus (process_of s (same_id_is id c.id two.0 i)) (nexus_of c))
    ∙ (λ i. is_at_nexus (own i) (nexus_of c)) ∙ self_nexus (nexus_of c))
here s _ c code own h = cc

failed_at : (s : ScenarioValue) (h : List Event) (c : Process) (code : ℕ) → process_of s c.id ≡ Some c
    → has_event h (Event.Fail c.id code) ≡ true → has_failure_at s h (nexus_of c) code ≡ true
failed_at s [] c code own f = cc
failed_at s (e ∷ h) c code own f = go (λ z. failed_at s h c code own z) (same_event e (Event.Fail c.id code)) refl f
  where
    go : (has_event h (Event.Fail c.id code) ≡ true → has_failure_at s h (nexus_of c) code ≡ true) → (q : Bool)
        → same_event e (Event.Fail c.id code) ≡ q → (q || has_event h (Event.Fail c.id code)) ≡ true
        → has_failure_at s (e ∷ h) (nexus_of c) code ≡ true
    go later true w z =
        or_left (is_failure_at s e (nexus_of c) code) (has_failure_at s h (nexus_of c) code) (here s e c code own w)
    go later false w z = or_right (is_failure_at s e (nexus_of c) code) (has_failure_at s h (nexus_of c) code) (later z)

-- ---- the senses that are stored

abbrev IsSense : ScenarioValue → List Event → Nexus → Sense → Type 0
IsSense s h q sense = (sense.key == ABORTED_COMMAND) ≡ true → has_failure_at s h q sense.asc ≡ true

abbrev AreSenses : ScenarioValue → List Event → List (Nexus × Sense) → Type 0
AreSenses s h [] = Unit {0}
AreSenses s h (e ∷ entries) = IsSense s h e.0 e.1 × AreSenses s h entries

abbrev AreSensesIf : ScenarioValue → List Event → Option Array → Type 0
AreSensesIf s h None = Unit {0}
AreSensesIf s h (Some a) = AreSenses s h a.senses

senses_more : (s : ScenarioValue) (h : List Event) (e : Event) (entries : List (Nexus × Sense)) → AreSenses s h entries
    → AreSenses s (e ∷ h) entries
senses_more s h e [] b = tt
senses_more s h e (x ∷ entries) b = (
  (λ k. or_right (is_failure_at s e x.0 x.1.asc) (has_failure_at s h x.0 x.1.asc) (b.0 k)),
  senses_more s h e entries b.1,
)

without_is : (s : ScenarioValue) (h : List Event) (entries : List (Nexus × Sense)) (q : Nexus) → AreSenses s h entries
    → AreSenses s h (senses_without entries q)
without_is s h [] q b = tt
without_is s h (x ∷ entries) q b =
    elim (cases_Bool (same_nexus x.0 q)) [
      | inl e ↦ rw e (without_is s h entries q b.1)
      | inr e ↦ rw e (b.0, (without_is s h entries q b.1))
    ]

kept_is : (s : ScenarioValue) (h : List Event) (drops : Nexus → Bool) (entries : List (Nexus × Sense))
    → AreSenses s h entries → AreSenses s h (Steps.kept_senses drops entries)
kept_is s h drops [] b = tt
kept_is s h drops (x ∷ entries) b =
    elim (cases_Bool (drops x.0)) [
      | inl e ↦ rw e (kept_is s h drops entries b.1)
      | inr e ↦ rw e (b.0, (kept_is s h drops entries b.1))
    ]

if_is : (s : ScenarioValue) (h : List Event) (q : Bool) (a : Array) → AreSenses s h a.senses
    → AreSensesIf s h (if q then Some a else None)
if_is s h true a b = b
if_is s h false a b = tt

-- ---- each step

accept_is : (s : ScenarioValue) (h : List Event) (a : Array) (o : Option Process) → AreSenses s h a.senses
    → AreSensesIf s h (Steps.accept_step a o)
accept_is s h a None b = tt
accept_is s h a (Some c) b = at (unit_state_at a.units c.target c.unit)
  where
    either : (u : UnitState) (q : Bool)
        → AreSensesIf s h (if q then Some (Steps.with_guest a c None) else Steps.queue_step a c u)
    either u true = b
    either u false = if_is s h (nat_lt (Steps.process_count u) u.depth) _ b

    at : (x : Option UnitState) → AreSensesIf s h (Steps.accept_step_at a c x)
    at None = b
    at (Some u) = either u (is_request_sense (command_of c.cdb))

refuse_is : (s : ScenarioValue) (h : List Event) (a : Array) (o : Option Process) → AreSenses s h a.senses
    → AreSensesIf s h (Steps.refuse_step a o)
refuse_is s h a None b = tt
refuse_is s h a (Some c) b = at (unit_state_at a.units c.target c.unit)
  where
    at : (x : Option UnitState) → AreSensesIf s h (Steps.refuse_step_at a c x)
    at None = tt
    at (Some u) = if_is s h (not (is_request_sense (command_of c.cdb)) && Steps.process_count u == u.depth) _ b

contents_is :
    (s : ScenarioValue) (h : List Event) (a : Array) (q : Nexus) (r : Bool) (o : Option UnitState) (contents : Contents)
    → AreSenses s h a.senses → AreSenses s h (Steps.with_contents (Steps.without_attention a r q) o contents).senses
contents_is s h a q true None contents b = b
contents_is s h a q false None contents b = b
contents_is s h a q true (Some u) contents b = b
contents_is s h a q false (Some u) contents b = b

run_is : (s : ScenarioValue) (h : List Event) (a : Array) (guest : Bool) (r : Option RunningProcess)
    → AreSenses s h a.senses → AreSensesIf s h (Steps.run_step a guest r)
run_is s h a guest None b = tt
run_is s h a guest (Some r) b =
    let u : Option UnitState = unit_state_at a.units r.process.target r.process.unit in
    let done : Execution = execution (Steps.context_at a (nexus_of r.process) u) r.process.cdb r.process.sent in
    if_is s h (is_none r.reply && (guest || not (is_held a.holds r.process.target r.process.unit)))
    (Steps.after_execution_at a r.process u) (contents_is s h a (nexus_of r.process) done.reported u done.contents b)

fail_is : (s : ScenarioValue) (h : List Event) (a : Array) (id : ProcId) (reply : Reply) (r : Option RunningProcess)
    → AreSenses s h a.senses → AreSensesIf s h (Steps.fail_step s a id reply r)
fail_is s h a id reply (Some r) b = if_is s h (is_none r.reply) (Steps.with_reply a id reply) b
fail_is s h a id reply None b = new (process_of s id)
  where
    came : (q : Bool) (c : Process) → AreSensesIf s h
        (if q then None else Some (Steps.with_listed_reply (Steps.with_guest a c (Some reply)) id reply))
    came true c = tt
    came false c = b

    new : (x : Option Process) → AreSensesIf s h (Steps.fail_step_of_new a id reply x)
    new None = tt
    new (Some c) = came (Steps.is_waiting a.units id || Steps.has_ended a id) c

lost_is : (s : ScenarioValue) (h : List Event) (a : Array) (id : ProcId) → AreSenses s h a.senses
    → AreSensesIf s h (Steps.loss_step a id)
lost_is s h a id b = elim (cases_Bool (Steps.has_ended a id)) [ inl e ↦ rw e tt | inr e ↦ rw e b ]

hosts_same : (hosts : List HostDef) (t m : ℕ) (a : Array) → (Steps.reset_attentions hosts t m a).senses ≡ a.senses
hosts_same [] t m a = refl
hosts_same (d ∷ hosts) t m a =
    hosts_same hosts t m (Steps.reset_attention a (record { initiator = d.dev; target = t; unit = m }))

units_same : (hosts : List HostDef) (units : List UnitState) (is_one : UnitState → Bool) (a : Array)
    → (Steps.unit_reset_attentions hosts units is_one a).senses ≡ a.senses
units_same hosts [] is_one a = refl
units_same hosts (u ∷ units) is_one a =
    units_same hosts units is_one (if is_one u then Steps.reset_attentions hosts u.target u.unit a else a)
    ∙ go (is_one u)
  where
    go : (q : Bool)
        → (let b : Array = if q then Steps.reset_attentions hosts u.target u.unit a else a in b.senses) ≡ a.senses
    go true = hosts_same hosts u.target u.unit a
    go false = refl

cleared_same : (by : ℕ) (gone : List Process) (a : Array) → (Steps.cleared_attentions by gone a).senses ≡ a.senses
cleared_same by [] a = refl
cleared_same by (q ∷ gone) a =
    cleared_same by gone (if q.initiator == by then a else Steps.cleared_attention a (nexus_of q))
    ∙ go (q.initiator == by) (Steps.is_reset_pending (sense_of_nexus a.attentions (nexus_of q)))
  where
    go : (x y : Bool) → (let b : Array = if x then a else if y then a else record a {
      attentions = (nexus_of q, commands_cleared) ∷ senses_without a.attentions (nexus_of q);
    } in b.senses) ≡ a.senses
    go true y = refl
    go false true = refl
    go false false = refl

abort_is : (s : ScenarioValue) (h : List Event) (a : Array) (i t m : ℕ) (what : AbortKind) → AreSenses s h a.senses
    → AreSenses s h (Steps.abort_step s a i t m what).senses
abort_is s h a i t m AbortKind.All b = without_is s h a.senses (record { initiator = i; target = t; unit = m }) b
abort_is s h a i t m (AbortKind.Tag tag) b = b
abort_is s h a i t m AbortKind.WholeQueue b = subst (λ (x : List (Nexus × Sense)). AreSenses s h x) (sym (cleared_same i
    (Steps.unit_processes (unit_state_at a.units t m)) (Steps.without_dropped a (λ p. Steps.is_of_unit p t m)))) b
abort_is s h a i t m AbortKind.Device b = subst (λ (x : List (Nexus × Sense)). AreSenses s h x)
    (sym (units_same s.hosts a.units (λ u. u.target == t) (record (Steps.without_dropped a (λ p. p.target == t)) {
      senses = Steps.kept_senses (λ q. q.target == t) a.senses;
      holds = Steps.kept_nexuses (λ q. q.target == t) a.holds;
    }))) (kept_is s h (λ q. q.target == t) a.senses b)

reset_is : (s : ScenarioValue) (h : List Event) (a : Array) → AreSenses s h (Steps.reset_step s a).senses
reset_is s h a = subst (λ (x : List (Nexus × Sense)). AreSenses s h x) (sym
    (units_same s.hosts a.units (λ u. true) (record (Steps.without_dropped a (λ p. true)) { senses = []; holds = [] })))
    tt

-- ---- a command ends

pub running_own : (s : ScenarioValue) (a : Array) (id : ProcId) (r : RunningProcess) → IsSound s a
    → Steps.running_process a id ≡ Some r → process_of s r.process.id ≡ Some r.process
running_own s a id r b h = go (guest_at a.guests id) refl h
  where
    go : (x : Option RunningProcess) → guest_at a.guests id ≡ x
        → (if is_some x then x else Steps.running_in a.units id) ≡ Some r → process_of s r.process.id ≡ Some r.process
    go None z e = current_process s a.units id r b.units e
    go (Some g) z e = guest_process s a.guests id r b.guests (z ∙ e)

end_is : (s : ScenarioValue) (h : List Event) (a : Array) (id : ProcId) (status : ℕ) → IsSound s a → Caused s h a
    → AreSenses s h a.senses → AreSensesIf s h (Steps.end_step a status (Steps.running_process a id))
end_is s h a id status sound b senses = go (Steps.running_process a id) refl
  where
    stored : (r : RunningProcess) → process_of s r.process.id ≡ Some r.process
        → (reply : Reply) → has_cause s h r.process.id reply ≡ true → IsSense s h (nexus_of r.process) reply.sense
    stored r own reply c k =
        let two = and_parts (not (reply.status == QUEUE_FULL) || was_refused s h r.process.id)
        (not (reply.sense.key == ABORTED_COMMAND) || has_event h (Event.Fail r.process.id reply.sense.asc)) c in
        failed_at s h r.process reply.sense.asc own
        ((λ i. not (sym k i) || has_event h (Event.Fail r.process.id reply.sense.asc)) ∙ two.1)

    after : (r : RunningProcess) → process_of s r.process.id ≡ Some r.process → (reply : Reply)
        → has_cause s h r.process.id reply ≡ true → (x y : Bool) → AreSenses s h (let c : Array = if x then record a {
          senses = (nexus_of r.process, reply.sense) ∷ senses_without a.senses (nexus_of r.process);
          holds = nexus_of r.process ∷ nexuses_without a.holds (nexus_of r.process);
        } else if y then record a {
          senses = senses_without a.senses (nexus_of r.process);
          holds = nexuses_without a.holds (nexus_of r.process);
        } else a in c.senses)
    after r own reply c true y = (stored r own reply c, without_is s h a.senses (nexus_of r.process) senses)
    after r own reply c false true = without_is s h a.senses (nexus_of r.process) senses
    after r own reply c false false = senses

    with_reply : (r : RunningProcess) → process_of s r.process.id ≡ Some r.process
        → (x : Option Reply) → IsCaused s h r.process.id x → AreSensesIf s h (Steps.end_step_with a r.process status x)
    with_reply r own None c = tt
    with_reply r own (Some reply) c = if_is s h (reply.status == status)
        (Steps.array_without (Steps.after_status a r.process reply) r.process.id) (after r own reply c
        (reply.status == CHECK_CONDITION) (reply.status == GOOD && is_request_sense (command_of r.process.cdb)))

    go : (x : Option RunningProcess) → Steps.running_process a id ≡ x → AreSensesIf s h (Steps.end_step a status x)
    go None z = tt
    go (Some r) z = with_reply r (running_own s a id r sound z) r.reply (process_runs s h a id r b z).cause

-- ---- every event, and every history

lifted : (s : ScenarioValue) (h : List Event) (e : Event) (o : Option Array) → AreSensesIf s h o
    → AreSensesIf s (e ∷ h) o
lifted s h e None b = tt
lifted s h e (Some a) b = senses_more s h e a.senses b

event_is : (s : ScenarioValue) (h : List Event) (a : Array) (e : Event) → IsSound s a → Caused s h a
    → AreSenses s h a.senses → AreSensesIf s h (Steps.event_step s a e)
event_is s h a (Event.Accept id) sound c b = accept_is s h a (process_of s id) b
event_is s h a (Event.Refuse id) sound c b = refuse_is s h a (process_of s id) b
event_is s h a (Event.Run id) sound c b = run_is s h a (is_some (guest_at a.guests id)) (Steps.running_process a id) b
event_is s h a (Event.Fail id code) sound c b =
    fail_is s h a id (check_condition (sense_of ABORTED_COMMAND code 0x00)) (Steps.running_process a id) b
event_is s h a (Event.End id status) sound c b = end_is s h a id status sound c b
event_is s h a (Event.Lost id) sound c b = lost_is s h a id b
event_is s h a (Event.Aborted i t n what) sound c b = abort_is s h a i t n what b
event_is s h a (Event.Reset dev) sound c b = reset_is s h a

settled_is : (s : ScenarioValue) (h : List Event) (o : Option Array) → AreSensesIf s h o
    → AreSensesIf s h (Steps.settled_array_if o)
settled_is s h None b = tt
settled_is s h (Some a) b = b

senses_after : (s : ScenarioValue) (h : List Event) → HasSeats s → AreSensesIf s h (array_after s h)
senses_after s [] f = tt
senses_after s (e ∷ h) f = go (array_after s h) refl (senses_after s h f)
  where
    go : (o : Option Array) → array_after s h ≡ o → AreSensesIf s h o → AreSensesIf s (e ∷ h) (array_step s e o)
    go None z b = tt
    go (Some a) z b = lifted s h e (Steps.settled_array_if (Steps.event_step s a e))
        (settled_is s h (Steps.event_step s a e) (event_is s h a e (history_sound s h a f z) (caused s h a z) b))

sense_at : (s : ScenarioValue) (h : List Event) (entries : List (Nexus × Sense)) (q : Nexus) (sense : Sense)
    → AreSenses s h entries → sense_of_nexus entries q ≡ Some sense → IsSense s h q sense
sense_at s h [] q sense b e = cc
sense_at s h (x ∷ entries) q sense b e = go (λ f. sense_at s h entries q sense b.1 f) (same_nexus x.0 q) refl e
  where
    go : (sense_of_nexus entries q ≡ Some sense → IsSense s h q sense) → (y : Bool) → same_nexus x.0 q ≡ y
        → (if y then Some x.1 else sense_of_nexus entries q) ≡ Some sense → IsSense s h q sense
    go later true w f =
        let same : x.1 ≡ sense = cc in
        λ z. (λ i. has_failure_at s h (sym (same_nexus_is x.0 q w) i) (sym same i).asc)
        ∙ b.0 ((λ i. (same i).key == ABORTED_COMMAND) ∙ z)
    go later false w f = later f

pub sense_caused : (s : ScenarioValue) (h : List Event) (a : Array) (q : Nexus) (sense : Sense) → HasSeats s
    → array_after s h ≡ Some a → sense_of_nexus a.senses q ≡ Some sense → (sense.key == ABORTED_COMMAND) ≡ true
    → has_failure_at s h q sense.asc ≡ true
sense_caused s h a q sense f z e g =
    sense_at s h a.senses q sense (subst (λ (o : Option Array). AreSensesIf s h o) z (senses_after s h f)) e g
