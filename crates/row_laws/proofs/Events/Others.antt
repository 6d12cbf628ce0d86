-- The guest or current process of a number is that of its seat.
use Rattle.row_laws.proofs
use proofs.Names.{◌≡◌, Some, ℕ, Bool, true, false, not, ◌&&◌, ◌||◌, ◌==◌, ◌∙◌, List, [], ◌∷◌, ◌++◌, Option, None, refl}
use proofs.Names.{sym, ap, subst, same_Some, if◌then◌else◌, is_some, is_none, nat_lt, ⊤, wrong, AbortKind, Event}
use proofs.Names.{ProcId, command_of, ABORTED_COMMAND, units_of, ScenarioValue, UnitDef, running_unit, guest_own}
use proofs.Names.{reply_in, Reply, Execution, execution, is_request_sense, check_condition, queue_full, sense_of}
use proofs.Names.{Process, process_of, same_id, seat_of, running_at, IsSound, running_process, has_ended, is_of_unit}
use proofs.Names.{Array, RunningProcess, UnitState, is_held, unit_state_at, with_unit, guest_at, nexus_of}
use proofs.Names.{settled_array, starting_array, starting_units, id_is as ids_are, IsAway, IsUnanswered, Waits, Runs}
use proofs.{Names.{OnUnits, Each, IsAtRest, IsUntouched}, Events.Processes.{AdmitsEvent, Admits, status_same}}
use proofs.Events.{Processes.{attended_same, cleared_same, each_after, each_settled}, Replies.{running_id}}
use Rattle.due_model.specs.array_model.proofs.SoundArrays.{id_is}
use Rattle.due_model.specs.array_model.specs.Steps

-- ---- the units

pub running_own : (s : ScenarioValue) (a : Array) (id : ProcId) (c : Process) → IsSound s a → process_of s id ≡ Some c
    → running_process a id ≡ running_at (seat_of a c.target c.unit) id
running_own s a id c h e =
    let g = guest_own s a.guests id c h.guests e in
    let u = running_unit s a.units id c h.units h.apart e in
    λ i. if is_some (g i) then g i else u i

-- ---- An event leaves the processes of which it is not: one that has not arrived has not arrived after it, and one at
-- rest is at rest.

-- ---- the process of an event

abbrev pub is_of : Event → ProcId → Bool
is_of (Event.Accept id) other = same_id id other
is_of (Event.Refuse id) other = same_id id other
is_of (Event.Run id) other = same_id id other
is_of (Event.Fail id code) other = same_id id other
is_of (Event.End id status) other = same_id id other
is_of (Event.Lost id) other = same_id id other
is_of (Event.Aborted initiator target unit what) other = false
is_of (Event.Reset dev) other = false

-- ---- what is admitted

away_of : (s : ScenarioValue) (id other : ProcId) (c : Process) → process_of s id ≡ Some c → same_id id other ≡ false
    → same_id c.id other ≡ false
away_of s id other c e f = ap (λ (x : ProcId). same_id x other) (id_is s id c e) ∙ f

rest_admits : (s : ScenarioValue) (given : Option Reply) (over : Bool) (id other : ProcId) → same_id id other ≡ false
    → Admits s (IsUnanswered given over other) (IsAway other) id
rest_admits s given over id other f = record {
  waits = λ p e z. wrong (sym z ∙ away_of s id other p e f);
  comes = λ p reply e. away_of s id other p e f;
  runs = λ r reply e h z. wrong (sym z ∙ ap (λ (x : ProcId). same_id x other) (ids_are r.process.id id e) ∙ f);
  is_guest = λ r reply e h. h;
}

away_admits : (s : ScenarioValue) (id other : ProcId) → same_id id other ≡ false
    → Admits s (IsAway other) (IsAway other) id
away_admits s id other f = record {
  waits = λ p e. away_of s id other p e f;
  comes = λ p reply e. away_of s id other p e f;
  runs = λ r reply e h. h;
  is_guest = λ r reply e h. h;
}

rest_event : (s : ScenarioValue) (given : Option Reply) (over : Bool) (event : Event) (other : ProcId)
    → is_of event other ≡ false → AdmitsEvent s (IsUnanswered given over other) (IsAway other) event
rest_event s given over (Event.Accept id) other f = rest_admits s given over id other f
rest_event s given over (Event.Refuse id) other f = rest_admits s given over id other f
rest_event s given over (Event.Run id) other f = rest_admits s given over id other f
rest_event s given over (Event.Fail id code) other f = rest_admits s given over id other f
rest_event s given over _ other f = tt

away_event : (s : ScenarioValue) (event : Event) (other : ProcId) → is_of event other ≡ false
    → AdmitsEvent s (IsAway other) (IsAway other) event
away_event s (Event.Accept id) other f = away_admits s id other f
away_event s (Event.Refuse id) other f = away_admits s id other f
away_event s (Event.Run id) other f = away_admits s id other f
away_event s (Event.Fail id code) other f = away_admits s id other f
away_event s _ other f = tt

-- ---- its replies, and whether it has ended

pub record IsSameOf (id : ProcId) (a b : Array) : Type 0 where
  pub reply : reply_in b.replies id ≡ reply_in a.replies id
  pub ended : has_ended b id ≡ has_ended a id

abbrev IfSame : ProcId → Array → Option Array → Type 0
IfSame id a None = ⊤
IfSame id a (Some b) = IsSameOf id a b

if_same : (id : ProcId) (a : Array) (x : Bool) (b : Array) → IsSameOf id a b → IfSame id a (if x then Some b else None)
if_same id a true b h = h
if_same id a false b h = tt

replied : (id other : ProcId) (a b : Array) (reply : Reply) → same_id id other ≡ false
    → b.replies ≡ (id, reply) ∷ a.replies → b.ended ≡ a.ended → IsSameOf other a b
replied id other a b reply f e g = record {
  reply = ap (λ (x : List (ProcId × Reply)). reply_in x other) e
      ∙ ap (λ (x : Bool). if x then Some reply else reply_in a.replies other) f;
  ended = λ i. has_ended (record a { ended = g i }) other;
}

ends : (id other : ProcId) (a b : Array) → same_id id other ≡ false → b.replies ≡ a.replies → b.ended ≡ id ∷ a.ended
    → IsSameOf other a b
ends id other a b f e g = record {
  reply = ap (λ (x : List (ProcId × Reply)). reply_in x other) e;
  ended = (λ i. has_ended (record a { ended = g i }) other) ∙ ap (λ (x : Bool). x || has_ended a other) f;
}

accepted : (id : ProcId) (a : Array) (o : Option Process) → IfSame id a (Steps.accept_step a o)
accepted id a None = tt
accepted id a (Some c) = go (unit_state_at a.units c.target c.unit)
  where
    go : (u : Option UnitState) → IfSame id a (Steps.accept_step_at a c u)
    go None = record { reply = refl; ended = refl }
    go (Some u) = senses (is_request_sense (command_of c.cdb))
      where
        senses : (x : Bool) → IfSame id a (if x then Some (Steps.with_guest a c None) else Steps.queue_step a c u)
        senses true = record { reply = refl; ended = refl }
        senses false = if_same id a (nat_lt (Steps.process_count u) u.depth) (record a {
          units = with_unit a.units (record u { waiting = u.waiting ++ c ∷ [] });
        }) (record { reply = refl; ended = refl })

refused : (s : ScenarioValue) (id other : ProcId) (a : Array) → same_id id other ≡ false
    → IfSame other a (Steps.refuse_step a (process_of s id))
refused s id other a f = go (process_of s id) refl
  where
    by : (c : Process) → same_id c.id other ≡ false
        → (u : Option UnitState) → IfSame other a (Steps.refuse_step_at a c u)
    by c z None = tt
    by c z (Some u) = if_same other a (not (is_request_sense (command_of c.cdb)) && Steps.process_count u == u.depth)
        (Steps.with_listed_reply (Steps.with_guest a c (Some queue_full)) c.id queue_full) (replied c.id other a
        (Steps.with_listed_reply (Steps.with_guest a c (Some queue_full)) c.id queue_full) queue_full z refl refl)

    go : (o : Option Process) → process_of s id ≡ o → IfSame other a (Steps.refuse_step a o)
    go None e = tt
    go (Some c) e = by c (away_of s id other c e f) (unit_state_at a.units c.target c.unit)

-- What it answers.
abbrev pub reply_at : Array → Process → Option UnitState → Reply
reply_at a c u = (execution (Steps.context_at a (nexus_of c) u) c.cdb c.sent).reply

pub record IsExecuted (a : Array) (c : Process) (reply : Reply) (b : Array) : Type 0 where
  pub replies : b.replies ≡ (c.id, reply) ∷ a.replies
  pub ended : b.ended ≡ a.ended
  pub holds : b.holds ≡ a.holds

pub executed : (a : Array) (c : Process) (u : Option UnitState)
    → IsExecuted a c (reply_at a c u) (Steps.after_execution_at a c u)
executed a c u = by (execution (Steps.context_at a (nexus_of c) u) c.cdb c.sent)
  where
    inner : (done : Execution) (x : Bool) (v : Option UnitState) → IsExecuted a c done.reply (Steps.with_reply
        (Steps.with_contents (Steps.without_attention a x (nexus_of c)) v done.contents) c.id done.reply)
    inner done true None = record { replies = refl; ended = refl; holds = refl }
    inner done false None = record { replies = refl; ended = refl; holds = refl }
    inner done true (Some w) = record { replies = refl; ended = refl; holds = refl }
    inner done false (Some w) = record { replies = refl; ended = refl; holds = refl }

    by : (done : Execution) → IsExecuted a c done.reply (Steps.after_execution a c u done)
    by done = inner done done.reported u

run_same : (a : Array) (guest : Bool) (id other : ProcId) → same_id id other ≡ false
    → IfSame other a (Steps.run_step a guest (Steps.running_process a id))
run_same a guest id other f = go (Steps.running_process a id) refl
  where
    go : (o : Option RunningProcess) → Steps.running_process a id ≡ o → IfSame other a (Steps.run_step a guest o)
    go None e = tt
    go (Some r) e =
        let b : Array = Steps.after_execution_at a r.process (unit_state_at a.units r.process.target r.process.unit) in
        let x = executed a r.process (unit_state_at a.units r.process.target r.process.unit) in
        if_same other a (is_none r.reply && (guest || not (is_held a.holds r.process.target r.process.unit))) b
        (replied r.process.id other a b (reply_at a r.process (unit_state_at a.units r.process.target r.process.unit))
        (ap (λ (y : ProcId). same_id y other) (running_id a id r e) ∙ f) x.replies x.ended)

failed : (s : ScenarioValue) (a : Array) (id other : ProcId) (reply : Reply) (o : Option RunningProcess)
    → same_id id other ≡ false → IfSame other a (Steps.fail_step s a id reply o)
failed s a id other reply (Some r) f = if_same other a (is_none r.reply) (Steps.with_reply a id reply)
    (replied id other a (Steps.with_reply a id reply) reply f refl refl)
failed s a id other reply None f = go (process_of s id)
  where
    by : (c : Process) (x : Bool) → IfSame other a
        (if x then None else Some (Steps.with_listed_reply (Steps.with_guest a c (Some reply)) id reply))
    by c true = tt
    by c false =
        replied id other a (Steps.with_listed_reply (Steps.with_guest a c (Some reply)) id reply) reply f refl refl

    go : (c : Option Process) → IfSame other a (Steps.fail_step_of_new a id reply c)
    go None = tt
    go (Some c) = by c (Steps.is_waiting a.units id || has_ended a id)

pub ended : (a : Array) (id other : ProcId) (status : ℕ) → same_id id other ≡ false
    → IfSame other a (Steps.end_step a status (Steps.running_process a id))
ended a id other status f = go (Steps.running_process a id) refl
  where
    by : (r : RunningProcess) → r.process.id ≡ id
        → (o : Option Reply) → IfSame other a (Steps.end_step_with a r.process status o)
    by r e None = tt
    by r e (Some reply) =
        let c : Array = Steps.after_status a r.process reply in
        let same = status_same a r.process reply in
        if_same other a (reply.status == status) (Steps.array_without c r.process.id)
        (ends r.process.id other a (Steps.array_without c r.process.id) (ap (λ (y : ProcId). same_id y other) e ∙ f)
        same.replies (ap (λ (x : List ProcId). r.process.id ∷ x) same.ended))

    go : (o : Option RunningProcess) → Steps.running_process a id ≡ o → IfSame other a (Steps.end_step a status o)
    go None e = tt
    go (Some r) e = by r (running_id a id r e) r.reply

lost : (a : Array) (id other : ProcId) → same_id id other ≡ false → IfSame other a (Steps.loss_step a id)
lost a id other f = go (has_ended a id)
  where
    go : (x : Bool) → IfSame other a (if x then None else Some (Steps.array_without a id))
    go true = tt
    go false = ends id other a (Steps.array_without a id) f refl refl

aborted : (s : ScenarioValue) (a : Array) (i t m : ℕ) (what : AbortKind) (id : ProcId)
    → IsSameOf id a (Steps.abort_step s a i t m what)
aborted s a i t m AbortKind.All id = record { reply = refl; ended = refl }
aborted s a i t m (AbortKind.Tag tag) id = record { reply = refl; ended = refl }
aborted s a i t m AbortKind.WholeQueue id =
    let kept : Array = Steps.without_dropped a (λ p. is_of_unit p t m) in
    let same = cleared_same i (Steps.unit_processes (unit_state_at a.units t m)) kept in
    record {
      reply = ap (λ (x : List (ProcId × Reply)). reply_in x id) same.replies;
      ended = λ j. has_ended (record a { ended = same.ended j }) id;
    }
aborted s a i t m AbortKind.Device id =
    let kept : Array = record (Steps.without_dropped a (λ p. p.target == t)) {
      senses = Steps.kept_senses (λ r. r.target == t) a.senses;
      holds = Steps.kept_nexuses (λ r. r.target == t) a.holds;
    } in
    let same = attended_same s.hosts a.units (λ u. u.target == t) kept in
    record {
      reply = ap (λ (x : List (ProcId × Reply)). reply_in x id) same.replies;
      ended = λ j. has_ended (record a { ended = same.ended j }) id;
    }

reset : (s : ScenarioValue) (a : Array) (id : ProcId) → IsSameOf id a (Steps.reset_step s a)
reset s a id =
    let kept : Array = record (Steps.without_dropped a (λ p. true)) { senses = []; holds = [] } in
    let same = attended_same s.hosts a.units (λ u. true) kept in
    record {
      reply = ap (λ (x : List (ProcId × Reply)). reply_in x id) same.replies;
      ended = λ j. has_ended (record a { ended = same.ended j }) id;
    }

event_same : (s : ScenarioValue) (a : Array) (event : Event) (other : ProcId) → is_of event other ≡ false
    → IfSame other a (Steps.event_step s a event)
event_same s a (Event.Accept id) other f = accepted other a (process_of s id)
event_same s a (Event.Refuse id) other f = refused s id other a f
event_same s a (Event.Run id) other f = run_same a (is_some (guest_at a.guests id)) id other f
event_same s a (Event.Fail id code) other f =
    failed s a id other (check_condition (sense_of ABORTED_COMMAND code 0x00)) (Steps.running_process a id) f
event_same s a (Event.End id status) other f = ended a id other status f
event_same s a (Event.Lost id) other f = lost a id other f
event_same s a (Event.Aborted i t n what) other f = aborted s a i t n what other
event_same s a (Event.Reset dev) other f = reset s a other

pub same_after : (s : ScenarioValue) (a b : Array) (event : Event) (other : ProcId) → is_of event other ≡ false
    → Steps.step s event a ≡ Some b → IsSameOf other a b
same_after s a b event other f e = go (Steps.event_step s a event) (event_same s a event other f) e
  where
    no_array : (x : Array) → (let y : Option Array = None in y) ≡ Some x → ⊥
    no_array x z = absurd cc

    go : (o : Option Array) → IfSame other a o → Steps.settled_array_if o ≡ Some b → IsSameOf other a b
    go None h z = absurd (no_array b z)
    go (Some c) h z = subst (λ (x : Array). IsSameOf other a x) (same_Some (settled_array c) b z)
        (record { reply = h.reply; ended = h.ended })

pub rests_after : (s : ScenarioValue) (a b : Array) (event : Event) (other : ProcId) → is_of event other ≡ false
    → Steps.step s event a ≡ Some b → IsAtRest a other → IsAtRest b other
rests_after s a b event other f e h =
    let same = same_after s a b event other f e in
    let given : Option Reply = reply_in a.replies other in
    let over : Bool = has_ended a other in
    subst (λ (x : Option Reply). Each (IsUnanswered x (has_ended b other) other) (IsAway other) b) (sym same.reply)
    (subst (λ (x : Bool). Each (IsUnanswered given x other) (IsAway other) b) (sym same.ended)
    (each_after s (IsUnanswered given over other) (IsAway other) a b event (rest_event s given over event other f) h e))

pub untouched_after : (s : ScenarioValue) (a b : Array) (event : Event) (other : ProcId) → is_of event other ≡ false
    → Steps.step s event a ≡ Some b → IsUntouched a other → IsUntouched b other
untouched_after s a b event other f e h =
    let same = same_after s a b event other f e in
    record {
      away = each_after s (IsAway other) (IsAway other) a b event (away_event s event other f) h.away e;
      reply = same.reply ∙ h.reply;
      open_is = same.ended ∙ h.open_is;
    }

-- ---- the start

pub untouched_at_start : (s : ScenarioValue) (id : ProcId) → IsUntouched (settled_array (starting_array s)) id
untouched_at_start s id = record {
  away = each_settled (IsAway id) (IsAway id) (starting_array s)
      (record { units = go (units_of s); guests = tt });
  reply = refl;
  open_is = refl;
}
  where
    go : (units : List UnitDef) → OnUnits (IsAway id) (starting_units s units)
    go [] = tt
    go (u ∷ units) = ((tt, tt), go units)

-- Who stands nowhere is at rest.
away_waits : (given : Option Reply) (over : Bool) (id : ProcId) (waiting : List Process) → Waits (IsAway id) waiting
    → Waits (IsUnanswered given over id) waiting
away_waits given over id [] h = tt
away_waits given over id (c ∷ waiting) h = (λ z. wrong (sym z ∙ h.0), away_waits given over id waiting h.1)

away_runs : (given : Option Reply) (over : Bool) (id : ProcId) (o : Option RunningProcess) → Runs (IsAway id) o
    → Runs (IsUnanswered given over id) o
away_runs given over id None h = tt
away_runs given over id (Some r) h = λ z. wrong (sym z ∙ h)

pub away_units : (given : Option Reply) (over : Bool) (id : ProcId) (units : List UnitState) → OnUnits (IsAway id) units
    → OnUnits (IsUnanswered given over id) units
away_units given over id [] h = tt
away_units given over id (u ∷ units) h = (
  (away_waits given over id u.waiting h.0.0, away_runs given over id u.current h.0.1),
  away_units given over id units h.1,
)

pub away_rests : (a : Array) (id : ProcId) → Each (IsAway id) (IsAway id) a → IsAtRest a id
away_rests a id h =
    record { units = away_units (reply_in a.replies id) (has_ended a id) id a.units h.units; guests = h.guests }

pub untouched_rests : (a : Array) (id : ProcId) → IsUntouched a id → IsAtRest a id
untouched_rests a id h = away_rests a id h.away
