-- What holds of each process of the plain disk array holds after an event, where it holds of the process that arrives,
-- and is kept as a reply is given.
use Rattle.row_laws.proofs
use proofs.Names.{ℕ, zero, suc, ◌≡◌, Bool, true, false, not, ◌&&◌, ◌||◌, ◌==◌, ◌∙◌, List, [], ◌∷◌, ◌++◌, Option, Some}
use proofs.Names.{None, refl, sym, subst, same_Some, if◌then◌else◌, is_some, is_none, nat_lt, ⊤, AbortKind, Event}
use proofs.Names.{ProcId, command_of, ABORTED_COMMAND, GOOD, CHECK_CONDITION, ScenarioValue, HostDef, Reply, Execution}
use proofs.Names.{execution, is_request_sense, commands_cleared, check_condition, queue_full, sense_of, without_process}
use proofs.Names.{choice, chosen_place, entries_of, process_at, process_at_if, Process, process_of, same_id, is_of_unit}
use proofs.Names.{has_tag, RunningProcess, UnitState, Nexus, Array, is_held, unit_state_at, with_unit, guest_at}
use proofs.Names.{without_guest, nexus_of, has_no_current, with_current, unit_after_choice, units_after_choice}
use proofs.Names.{settled_array, senses_without, nexuses_without, sense_of_nexus, without_reply, Waits, Runs, OnUnit}
use proofs.{Names.{OnUnits, OnGuests, Each}, Common.Impossible.{none_some}, Events.Replies.{running_id}}
use Rattle.due_model.specs.array_model.specs.Steps

-- ---- lists

pub append_waits : (q : RunningProcess → Type 0) (waiting : List Process) (c : Process) → Waits q waiting
    → q (without_reply c) → Waits q (waiting ++ c ∷ [])
append_waits q [] c h g = (g, tt)
append_waits q (w ∷ waiting) c h g = (h.0, append_waits q waiting c h.1 g)

pub without_waits : (q : RunningProcess → Type 0) (waiting : List Process) (id : ProcId) → Waits q waiting
    → Waits q (without_process waiting id)
without_waits q [] id h = tt
without_waits q (c ∷ waiting) id h = go (same_id c.id id) (without_waits q waiting id h.1)
  where
    go : (x : Bool) → Waits q (without_process waiting id)
        → Waits q (if x then without_process waiting id else c ∷ without_process waiting id)
    go true e = e
    go false e = (h.0, e)

kept_waits : (q : RunningProcess → Type 0) (drops : Process → Bool) (waiting : List Process) → Waits q waiting
    → Waits q (Steps.kept_processes drops waiting)
kept_waits q drops [] h = tt
kept_waits q drops (c ∷ waiting) h = go (drops c) (kept_waits q drops waiting h.1)
  where
    go : (x : Bool) → Waits q (Steps.kept_processes drops waiting)
        → Waits q (if x then Steps.kept_processes drops waiting else c ∷ Steps.kept_processes drops waiting)
    go true e = e
    go false e = (h.0, e)

at_waits : (q : RunningProcess → Type 0) (waiting : List Process) (place : ℕ) (c : Process) → Waits q waiting
    → process_at waiting place ≡ Some c → q (without_reply c)
at_waits q [] place c h e = absurd (none_some c e)
at_waits q (w ∷ waiting) zero c h e = subst (λ (x : Process). q (without_reply x)) (same_Some w c e) h.0
at_waits q (w ∷ waiting) (suc place) c h e = at_waits q waiting place c h.1 e

choice_waits : (q : RunningProcess → Type 0) (u : UnitState) (c : Process) → Waits q u.waiting
    → choice u.pick u.waiting ≡ Some c → q (without_reply c)
choice_waits q u c h e = go (chosen_place u.pick (entries_of u.waiting)) e
  where
    go : (x : Option ℕ) → process_at_if u.waiting x ≡ Some c → q (without_reply c)
    go None f = absurd (none_some c f)
    go (Some place) f = at_waits q u.waiting place c h f

pub with_units : (q : RunningProcess → Type 0) (units : List UnitState) (new : UnitState) → OnUnits q units
    → OnUnit q new → OnUnits q (with_unit units new)
with_units q [] new h g = tt
with_units q (u ∷ units) new h g = go (u.target == new.target && u.unit == new.unit) (with_units q units new h.1 g)
  where
    go : (x : Bool) → OnUnits q (with_unit units new) → OnUnits q (if x then new ∷ units else u ∷ with_unit units new)
    go true e = (g, h.1)
    go false e = (h.0, e)

pub unit_has : (q : RunningProcess → Type 0) (units : List UnitState) (t m : ℕ) (u : UnitState)
    → unit_state_at units t m ≡ Some u → OnUnits q units → OnUnit q u
unit_has q [] t m u e h = absurd (none_some u e)
unit_has q (v ∷ units) t m u e h = go (v.target == t && v.unit == m) e (λ f. unit_has q units t m u f h.1)
  where
    go : (x : Bool) → (if x then Some v else unit_state_at units t m) ≡ Some u
        → (unit_state_at units t m ≡ Some u → OnUnit q u) → OnUnit q u
    go true f rest = subst (λ (w : UnitState). OnUnit q w) (same_Some v u f) h.0
    go false f rest = rest f

pub append_guests : (g : RunningProcess → Type 0) (guests : List RunningProcess) (r : RunningProcess)
    → OnGuests g guests → g r → OnGuests g (guests ++ r ∷ [])
append_guests g [] r h e = (e, tt)
append_guests g (x ∷ guests) r h e = (h.0, append_guests g guests r h.1 e)

left_guests : (g : RunningProcess → Type 0) (guests : List RunningProcess) (id : ProcId) → OnGuests g guests
    → OnGuests g (without_guest guests id)
left_guests g [] id h = tt
left_guests g (r ∷ guests) id h = go (same_id r.process.id id) (left_guests g guests id h.1)
  where
    go : (x : Bool) → OnGuests g (without_guest guests id)
        → OnGuests g (if x then without_guest guests id else r ∷ without_guest guests id)
    go true e = e
    go false e = (h.0, e)

kept_guests : (g : RunningProcess → Type 0) (drops : Process → Bool) (guests : List RunningProcess) → OnGuests g guests
    → OnGuests g (Steps.kept_guests drops guests)
kept_guests g drops [] h = tt
kept_guests g drops (r ∷ guests) h = go (drops r.process) (kept_guests g drops guests h.1)
  where
    go : (x : Bool) → OnGuests g (Steps.kept_guests drops guests)
        → OnGuests g (if x then Steps.kept_guests drops guests else r ∷ Steps.kept_guests drops guests)
    go true e = e
    go false e = (h.0, e)

-- ---- the choice

pub chosen : (q : RunningProcess → Type 0) (holds : List Nexus) (u : UnitState) → OnUnit q u
    → OnUnit q (unit_after_choice holds u)
chosen q holds u h = go (has_no_current u.current && not (is_held holds u.target u.unit)) (choice u.pick u.waiting) refl
  where
    go : (x : Bool) (c : Option Process) → choice u.pick u.waiting ≡ c → OnUnit q (if x then with_current u c else u)
    go true None z = h
    go true (Some c) z = (without_waits q u.waiting c.id h.0, choice_waits q u c h.0 z)
    go false c z = h

settled_units : (q : RunningProcess → Type 0) (holds : List Nexus) (units : List UnitState) → OnUnits q units
    → OnUnits q (units_after_choice holds units)
settled_units q holds [] h = tt
settled_units q holds (u ∷ units) h = (chosen q holds u h.0, settled_units q holds units h.1)

-- ---- replies

abbrev pub KeptAsReplied : ProcId → (RunningProcess → Type 0) → Type 0
KeptAsReplied id q =
    (r : RunningProcess) (reply : Reply) → same_id r.process.id id ≡ true → q r → q (record r { reply = Some reply })

replied_units : (q : RunningProcess → Type 0) (units : List UnitState) (id : ProcId) (reply : Reply)
    → KeptAsReplied id q → OnUnits q units → OnUnits q (Steps.units_with_reply units id reply)
replied_units q [] id reply f h = tt
replied_units q (u ∷ units) id reply f h = ((h.0.0, go u.current h.0.1), replied_units q units id reply f h.1)
  where
    inner : (r : RunningProcess) → q r → (x : Bool) → same_id r.process.id id ≡ x
        → Runs q (if x then Some (record r { reply = Some reply }) else Some r)
    inner r e true z = f r reply z e
    inner r e false z = e

    go : (x : Option RunningProcess) → Runs q x → Runs q (Steps.current_with_reply x id reply)
    go None e = tt
    go (Some r) e = inner r e (same_id r.process.id id) refl

replied_guests : (g : RunningProcess → Type 0) (guests : List RunningProcess) (id : ProcId) (reply : Reply)
    → KeptAsReplied id g → OnGuests g guests → OnGuests g (Steps.guests_with_reply guests id reply)
replied_guests g [] id reply f h = tt
replied_guests g (r ∷ guests) id reply f h = go (same_id r.process.id id) refl (replied_guests g guests id reply f h.1)
  where
    go : (x : Bool) → same_id r.process.id id ≡ x → OnGuests g (Steps.guests_with_reply guests id reply) → OnGuests g
        (if x then record r { reply = Some reply } ∷ guests else r ∷ Steps.guests_with_reply guests id reply)
    go true z e = (f r reply z h.0, h.1)
    go false z e = (h.0, e)

-- ---- ends and aborts

left_units : (q : RunningProcess → Type 0) (units : List UnitState) (id : ProcId) → OnUnits q units
    → OnUnits q (Steps.units_without units id)
left_units q [] id h = tt
left_units q (u ∷ units) id h = (
  (without_waits q u.waiting id h.0.0, go (is_some (Steps.running_if u.current id)) u.current h.0.1),
  left_units q units id h.1,
)
  where
    go : (x : Bool) (o : Option RunningProcess) → Runs q o → Runs q (if x then None else o)
    go true o e = tt
    go false o e = e

dropped_units : (q : RunningProcess → Type 0) (drops : Process → Bool) (units : List UnitState) → OnUnits q units
    → OnUnits q (Steps.kept_units drops units)
dropped_units q drops [] h = tt
dropped_units q drops (u ∷ units) h =
    ((kept_waits q drops u.waiting h.0.0, go u.current h.0.1), dropped_units q drops units h.1)
  where
    inner : (r : RunningProcess) → q r → (x : Bool) → Runs q (if x then None else Some r)
    inner r e true = tt
    inner r e false = e

    go : (x : Option RunningProcess) → Runs q x → Runs q (Steps.kept_running drops x)
    go None e = tt
    go (Some r) e = inner r e (drops r.process)

-- ---- what leaves the units and the guests as they are

pub record IsSameIn (a b : Array) : Type 0 where
  pub units : b.units ≡ a.units
  pub guests : b.guests ≡ a.guests
  pub replies : b.replies ≡ a.replies
  pub ended : b.ended ≡ a.ended

pub same_in : (a : Array) → IsSameIn a a
same_in a = record { units = refl; guests = refl; replies = refl; ended = refl }

pub same_on : (a b c : Array) → IsSameIn a b → IsSameIn b c → IsSameIn a c
same_on a b c h g = record {
  units = g.units ∙ h.units;
  guests = g.guests ∙ h.guests;
  replies = g.replies ∙ h.replies;
  ended = g.ended ∙ h.ended;
}

pub each_same : (q g : RunningProcess → Type 0) (a b : Array) → IsSameIn a b → Each q g a → Each q g b
each_same q g a b same h = record {
  units = subst (λ (us : List UnitState). OnUnits q us) (sym same.units) h.units;
  guests = subst (λ (gs : List RunningProcess). OnGuests g gs) (sym same.guests) h.guests;
}

hosts_same : (hosts : List HostDef) (t m : ℕ) (a : Array) → IsSameIn a (Steps.reset_attentions hosts t m a)
hosts_same [] t m a = same_in a
hosts_same (h ∷ hosts) t m a =
    let next : Array = Steps.reset_attention a (record { initiator = h.dev; target = t; unit = m }) in
    same_on a next (Steps.reset_attentions hosts t m next)
    (record { units = refl; guests = refl; replies = refl; ended = refl }) (hosts_same hosts t m next)

pub attended_same : (hosts : List HostDef) (units : List UnitState) (is_one : UnitState → Bool) (a : Array)
    → IsSameIn a (Steps.unit_reset_attentions hosts units is_one a)
attended_same hosts [] is_one a = same_in a
attended_same hosts (u ∷ units) is_one a =
    let next : Array = if is_one u then Steps.reset_attentions hosts u.target u.unit a else a in
    same_on a next (Steps.unit_reset_attentions hosts units is_one next) (go (is_one u))
    (attended_same hosts units is_one next)
  where
    go : (x : Bool) → IsSameIn a (if x then Steps.reset_attentions hosts u.target u.unit a else a)
    go true = hosts_same hosts u.target u.unit a
    go false = same_in a

pub cleared_same : (initiator : ℕ) (lost : List Process) (a : Array)
    → IsSameIn a (Steps.cleared_attentions initiator lost a)
cleared_same initiator [] a = same_in a
cleared_same initiator (c ∷ lost) a =
    let next : Array = if c.initiator == initiator then a else Steps.cleared_attention a (nexus_of c) in
    same_on a next (Steps.cleared_attentions initiator lost next)
    (go (c.initiator == initiator) (Steps.is_reset_pending (sense_of_nexus a.attentions (nexus_of c))))
    (cleared_same initiator lost next)
  where
    go : (x y : Bool) → IsSameIn a (if x then a else (if y then a else record a {
      attentions = (nexus_of c, commands_cleared) ∷ senses_without a.attentions (nexus_of c);
    }))
    go true y = same_in a
    go false true = same_in a
    go false false = record { units = refl; guests = refl; replies = refl; ended = refl }

pub status_same : (a : Array) (c : Process) (reply : Reply) → IsSameIn a (Steps.after_status a c reply)
status_same a c reply =
    go (reply.status == CHECK_CONDITION) (reply.status == GOOD && is_request_sense (command_of c.cdb))
  where
    go : (x y : Bool) → IsSameIn a (if x then record a {
      senses = (nexus_of c, reply.sense) ∷ senses_without a.senses (nexus_of c);
      holds = nexus_of c ∷ nexuses_without a.holds (nexus_of c);
    } else if y then record a {
      senses = senses_without a.senses (nexus_of c);
      holds = nexuses_without a.holds (nexus_of c);
    } else a)
    go true y = record { units = refl; guests = refl; replies = refl; ended = refl }
    go false true = record { units = refl; guests = refl; replies = refl; ended = refl }
    go false false = same_in a

-- ---- an event

pub record Admits (s : ScenarioValue) (q g : RunningProcess → Type 0) (id : ProcId) : Type 0 where
  pub waits : (c : Process) → process_of s id ≡ Some c → q (without_reply c)
  pub comes : (c : Process) (reply : Option Reply) → process_of s id ≡ Some c
      → g (record { process = c; reply = reply })
  pub runs : KeptAsReplied id q
  pub is_guest : KeptAsReplied id g

abbrev pub AdmitsEvent : ScenarioValue → (RunningProcess → Type 0) → (RunningProcess → Type 0) → Event → Type 0
AdmitsEvent s q g (Event.Accept id) = Admits s q g id
AdmitsEvent s q g (Event.Refuse id) = Admits s q g id
AdmitsEvent s q g (Event.Run id) = Admits s q g id
AdmitsEvent s q g (Event.Fail id code) = Admits s q g id
AdmitsEvent s q g _ = ⊤

abbrev IfEach : (RunningProcess → Type 0) → (RunningProcess → Type 0) → Option Array → Type 0
IfEach q g None = ⊤
IfEach q g (Some a) = Each q g a

each_if : (q g : RunningProcess → Type 0) (x : Bool) (a : Array) → Each q g a → IfEach q g (if x then Some a else None)
each_if q g true a h = h
each_if q g false a h = tt

accepted : (s : ScenarioValue) (q g : RunningProcess → Type 0) (a : Array) (id : ProcId) → Admits s q g id → Each q g a
    → IfEach q g (Steps.accept_step a (process_of s id))
accepted s q g a id own h = go (process_of s id) refl
  where
    guest : (c : Process) → process_of s id ≡ Some c → Each q g (Steps.with_guest a c None)
    guest c e =
        record { units = h.units; guests = append_guests g a.guests (without_reply c) h.guests (own.comes c None e) }

    by : (c : Process) → process_of s id ≡ Some c → (u : Option UnitState) → unit_state_at a.units c.target c.unit ≡ u
        → IfEach q g (Steps.accept_step_at a c u)
    by c e None f = guest c e
    by c e (Some u) f = senses (is_request_sense (command_of c.cdb))
      where
        senses : (x : Bool) → IfEach q g (if x then Some (Steps.with_guest a c None) else Steps.queue_step a c u)
        senses true = guest c e
        senses false =
            let k = unit_has q a.units c.target c.unit u f h.units in
            each_if q g (nat_lt (Steps.process_count u) u.depth)
            (record a { units = with_unit a.units (record u { waiting = u.waiting ++ c ∷ [] }) }) (record {
              units = with_units q a.units (record u { waiting = u.waiting ++ c ∷ [] }) h.units
                  (append_waits q u.waiting c k.0 (own.waits c e), k.1);
              guests = h.guests;
            })

    go : (c : Option Process) → process_of s id ≡ c → IfEach q g (Steps.accept_step a c)
    go None e = tt
    go (Some c) e = by c e (unit_state_at a.units c.target c.unit) refl

refused : (s : ScenarioValue) (q g : RunningProcess → Type 0) (a : Array) (id : ProcId) → Admits s q g id → Each q g a
    → IfEach q g (Steps.refuse_step a (process_of s id))
refused s q g a id own h = go (process_of s id) refl
  where
    by : (c : Process) → process_of s id ≡ Some c → (u : Option UnitState) → IfEach q g (Steps.refuse_step_at a c u)
    by c e None = tt
    by c e (Some u) = each_if q g (not (is_request_sense (command_of c.cdb)) && Steps.process_count u == u.depth)
        (Steps.with_listed_reply (Steps.with_guest a c (Some queue_full)) c.id queue_full) (record {
          units = h.units;
          guests = append_guests g a.guests (record { process = c; reply = Some queue_full }) h.guests
              (own.comes c (Some queue_full) e);
        })

    go : (c : Option Process) → process_of s id ≡ c → IfEach q g (Steps.refuse_step a c)
    go None e = tt
    go (Some c) e = by c e (unit_state_at a.units c.target c.unit)

replied_each : (q g : RunningProcess → Type 0) (a : Array) (id : ProcId) (reply : Reply) → KeptAsReplied id q
    → KeptAsReplied id g → Each q g a → Each q g (Steps.with_reply a id reply)
replied_each q g a id reply f e h = record {
  units = replied_units q a.units id reply f h.units;
  guests = replied_guests g a.guests id reply e h.guests;
}

executed : (q g : RunningProcess → Type 0) (a : Array) (c : Process) → KeptAsReplied c.id q → KeptAsReplied c.id g
    → Each q g a → Each q g (Steps.after_execution_at a c (unit_state_at a.units c.target c.unit))
executed q g a c fq fg h = go (unit_state_at a.units c.target c.unit) refl
  where
    inner : (done : Execution) (u : Option UnitState) → unit_state_at a.units c.target c.unit ≡ u
        → (x : Bool) → Each q g (Steps.with_contents (Steps.without_attention a x (nexus_of c)) u done.contents)
    inner done None f true = record { units = h.units; guests = h.guests }
    inner done None f false = h
    inner done (Some u) f true = record {
      units = with_units q a.units (record u { contents = done.contents }) h.units
          (unit_has q a.units c.target c.unit u f h.units);
      guests = h.guests;
    }
    inner done (Some u) f false = record {
      units = with_units q a.units (record u { contents = done.contents }) h.units
          (unit_has q a.units c.target c.unit u f h.units);
      guests = h.guests;
    }

    by : (done : Execution) (u : Option UnitState) → unit_state_at a.units c.target c.unit ≡ u
        → Each q g (Steps.after_execution a c u done)
    by done u f = replied_each q g (Steps.with_contents (Steps.without_attention a done.reported (nexus_of c)) u
        done.contents) c.id done.reply fq fg (inner done u f done.reported)

    go : (u : Option UnitState) → unit_state_at a.units c.target c.unit ≡ u → Each q g (Steps.after_execution_at a c u)
    go u f = by (execution (Steps.context_at a (nexus_of c) u) c.cdb c.sent) u f

run_each : (q g : RunningProcess → Type 0) (a : Array) (id : ProcId) → KeptAsReplied id q → KeptAsReplied id g
    → Each q g a → IfEach q g (Steps.run_step a (is_some (guest_at a.guests id)) (Steps.running_process a id))
run_each q g a id fq fg h = go (is_some (guest_at a.guests id)) (Steps.running_process a id) refl
  where
    go : (guest : Bool) (o : Option RunningProcess) → Steps.running_process a id ≡ o
        → IfEach q g (Steps.run_step a guest o)
    go guest None e = tt
    go guest (Some r) e =
        let same : id ≡ r.process.id = sym (running_id a id r e) in
        each_if q g (is_none r.reply && (guest || not (is_held a.holds r.process.target r.process.unit)))
        (Steps.after_execution_at a r.process (unit_state_at a.units r.process.target r.process.unit))
        (executed q g a r.process (subst (λ (x : ProcId). KeptAsReplied x q) same fq)
        (subst (λ (x : ProcId). KeptAsReplied x g) same fg) h)

failed : (s : ScenarioValue) (q g : RunningProcess → Type 0) (a : Array) (id : ProcId) (reply : Reply)
    (o : Option RunningProcess) → Admits s q g id → Each q g a → IfEach q g (Steps.fail_step s a id reply o)
failed s q g a id reply (Some r) own h =
    each_if q g (is_none r.reply) (Steps.with_reply a id reply) (replied_each q g a id reply own.runs own.is_guest h)
failed s q g a id reply None own h = go (process_of s id) refl
  where
    by : (c : Process) → process_of s id ≡ Some c → (x : Bool)
        → IfEach q g (if x then None else Some (Steps.with_listed_reply (Steps.with_guest a c (Some reply)) id reply))
    by c e true = tt
    by c e false = record {
      units = h.units;
      guests =
          append_guests g a.guests (record { process = c; reply = Some reply }) h.guests (own.comes c (Some reply) e);
    }

    go : (c : Option Process) → process_of s id ≡ c → IfEach q g (Steps.fail_step_of_new a id reply c)
    go None e = tt
    go (Some c) e = by c e (Steps.is_waiting a.units id || Steps.has_ended a id)

left : (q g : RunningProcess → Type 0) (a : Array) (id : ProcId) → Each q g a → Each q g (Steps.array_without a id)
left q g a id h = record { units = left_units q a.units id h.units; guests = left_guests g a.guests id h.guests }

pub ended : (q g : RunningProcess → Type 0) (a : Array) (status : ℕ) (o : Option RunningProcess) → Each q g a
    → IfEach q g (Steps.end_step a status o)
ended q g a status None h = tt
ended q g a status (Some r) h = by r.reply
  where
    by : (o : Option Reply) → IfEach q g (Steps.end_step_with a r.process status o)
    by None = tt
    by (Some reply) = each_if q g (reply.status == status)
        (Steps.array_without (Steps.after_status a r.process reply) r.process.id)
        (left q g (Steps.after_status a r.process reply) r.process.id
        (each_same q g a (Steps.after_status a r.process reply) (status_same a r.process reply) h))

pub lost : (q g : RunningProcess → Type 0) (a : Array) (id : ProcId) → Each q g a → IfEach q g (Steps.loss_step a id)
lost q g a id h = go (Steps.has_ended a id)
  where
    go : (x : Bool) → IfEach q g (if x then None else Some (Steps.array_without a id))
    go true = tt
    go false = left q g a id h

dropped : (q g : RunningProcess → Type 0) (a b : Array) (drops : Process → Bool)
    → IsSameIn (Steps.without_dropped a drops) b → Each q g a → Each q g b
dropped q g a b drops same h =
    each_same q g (Steps.without_dropped a drops) b same
    (record { units = dropped_units q drops a.units h.units; guests = kept_guests g drops a.guests h.guests })

aborted : (s : ScenarioValue) (q g : RunningProcess → Type 0) (a : Array) (i t m : ℕ) (what : AbortKind) → Each q g a
    → Each q g (Steps.abort_step s a i t m what)
aborted s q g a i t m AbortKind.All h = dropped q g a (Steps.abort_step s a i t m AbortKind.All)
    (λ p. p.initiator == i && is_of_unit p t m) (record { units = refl; guests = refl; replies = refl; ended = refl }) h
aborted s q g a i t m (AbortKind.Tag tag) h = dropped q g a (Steps.abort_step s a i t m (AbortKind.Tag tag))
    (λ p. p.initiator == i && is_of_unit p t m && has_tag p.tag tag)
    (record { units = refl; guests = refl; replies = refl; ended = refl }) h
aborted s q g a i t m AbortKind.WholeQueue h =
    dropped q g a (Steps.abort_step s a i t m AbortKind.WholeQueue) (λ p. is_of_unit p t m) (cleared_same i
    (Steps.unit_processes (unit_state_at a.units t m)) (Steps.without_dropped a (λ p. is_of_unit p t m))) h
aborted s q g a i t m AbortKind.Device h =
    let kept : Array = record (Steps.without_dropped a (λ p. p.target == t)) {
      senses = Steps.kept_senses (λ r. r.target == t) a.senses;
      holds = Steps.kept_nexuses (λ r. r.target == t) a.holds;
    } in
    dropped q g a (Steps.abort_step s a i t m AbortKind.Device) (λ p. p.target == t)
    (same_on (Steps.without_dropped a (λ p. p.target == t)) kept (Steps.abort_step s a i t m AbortKind.Device) (record {
      units = refl;
      guests = refl;
      replies = refl;
      ended = refl;
    }) (attended_same s.hosts a.units (λ u. u.target == t) kept)) h

reset : (s : ScenarioValue) (q g : RunningProcess → Type 0) (a : Array) → Each q g a → Each q g (Steps.reset_step s a)
reset s q g a h =
    let kept : Array = record (Steps.without_dropped a (λ p. true)) { senses = []; holds = [] } in
    dropped q g a (Steps.reset_step s a) (λ p. true) (same_on (Steps.without_dropped a (λ p. true)) kept
    (Steps.reset_step s a) (record { units = refl; guests = refl; replies = refl; ended = refl })
    (attended_same s.hosts a.units (λ u. true) kept)) h

event_each : (s : ScenarioValue) (q g : RunningProcess → Type 0) (a : Array) (event : Event) → AdmitsEvent s q g event
    → Each q g a → IfEach q g (Steps.event_step s a event)
event_each s q g a (Event.Accept id) own h = accepted s q g a id own h
event_each s q g a (Event.Refuse id) own h = refused s q g a id own h
event_each s q g a (Event.Run id) own h = run_each q g a id own.runs own.is_guest h
event_each s q g a (Event.Fail id code) own h =
    failed s q g a id (check_condition (sense_of ABORTED_COMMAND code 0x00)) (Steps.running_process a id) own h
event_each s q g a (Event.End id status) own h = ended q g a status (Steps.running_process a id) h
event_each s q g a (Event.Lost id) own h = lost q g a id h
event_each s q g a (Event.Aborted i t n what) own h = aborted s q g a i t n what h
event_each s q g a (Event.Reset dev) own h = reset s q g a h

pub each_settled : (q g : RunningProcess → Type 0) (a : Array) → Each q g a → Each q g (settled_array a)
each_settled q g a h = record { units = settled_units q a.holds a.units h.units; guests = h.guests }

-- After the event, and the choice.
pub each_after : (s : ScenarioValue) (q g : RunningProcess → Type 0) (a b : Array) (event : Event)
    → AdmitsEvent s q g event → Each q g a → Steps.step s event a ≡ Some b → Each q g b
each_after s q g a b event own h e = go (Steps.event_step s a event) (event_each s q g a event own h) e
  where
    no_array : (x : Array) → (let y : Option Array = None in y) ≡ Some x → ⊥
    no_array x z = absurd cc

    go : (o : Option Array) → IfEach q g o → Steps.settled_array_if o ≡ Some b → Each q g b
    go None f z = absurd (no_array b z)
    go (Some c) f z = subst (λ (x : Array). Each q g x) (same_Some (settled_array c) b z) (each_settled q g c f)
