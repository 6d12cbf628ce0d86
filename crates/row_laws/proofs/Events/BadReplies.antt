-- A process that has no reply of status GOOD is given none but as it runs.
use Rattle.row_laws.proofs
use proofs.Names.{ℕ, ◌≡◌, Bool, true, false, not, ◌&&◌, ◌||◌, ◌==◌, ◌∙◌, List, [], ◌∷◌, ◌++◌, Option, Some, None, refl}
use proofs.Names.{sym, ap, subst, same_Some, ⊤, if◌then◌else◌, is_none, nat_lt, wrong', Event, ProcId, command_of}
use proofs.Names.{ABORTED_COMMAND, GOOD, CHECK_CONDITION, ScenarioValue, array_step, reply_in, Reply, check_condition}
use proofs.Names.{is_request_sense, queue_full, sense_of, Process, process_of, same_id, accept_step, accept_step_at}
use proofs.Names.{after_status, array_without, end_step, end_step_with, fail_step, fail_step_of_new, has_ended}
use proofs.Names.{is_waiting, process_count, refuse_step, refuse_step_at, running_process, settled_array_if, with_guest}
use proofs.Names.{with_listed_reply, with_reply, Array, RunningProcess, UnitState, nexus_of, nexuses_without}
use proofs.Names.{senses_without, settled_array, unit_state_at, with_unit, array_after_events, IsNotGood}
use proofs.Common.Impossible.{none_some}

-- ---- what is listed

abbrev HasNone : List (ProcId × Reply) → ProcId → Type 0
HasNone replies id = IsNotGood (reply_in replies id)

one_more : (replies : List (ProcId × Reply)) (d id : ProcId) (reply : Reply) → (reply.status == GOOD) ≡ false
    → HasNone replies id → HasNone ((d, reply) ∷ replies) id
one_more replies d id reply bad h = go (same_id d id)
  where
    go : (q : Bool) → IsNotGood (if q then Some reply else reply_in replies id)
    go true = λ other e. ap (λ (x : Reply). x.status == GOOD) (sym (same_Some reply other e)) ∙ bad
    go false = h

-- The array after the step of an event.
abbrev Keeps : Array → ProcId → Option Array → Type 0
Keeps a id o = (c : Array) → o ≡ Some c → HasNone a.replies id → HasNone c.replies id

took : (a d : Array) (id : ProcId) → (HasNone a.replies id → HasNone d.replies id) → Keeps a id (Some d)
took a d id f c e h = subst (λ (x : Array). HasNone x.replies id) (same_Some d c e) (f h)

none_taken : (a : Array) (id : ProcId) → Keeps a id None
none_taken a id c e h = none_some c e

either : (a : Array) (id : ProcId) (q : Bool) (x y : Option Array) → Keeps a id x → Keeps a id y
    → Keeps a id (if q then x else y)
either a id true x y f g = f
either a id false x y f g = g

accepts : (a : Array) (id : ProcId) (o : Option Process) → Keeps a id (accept_step a o)
accepts a id None = none_taken a id
accepts a id (Some c) = go (unit_state_at a.units c.target c.unit)
  where
    guest : Keeps a id (Some (with_guest a c None))
    guest = took a (with_guest a c None) id (λ h. h)

    go : (u : Option UnitState) → Keeps a id (accept_step_at a c u)
    go None = guest
    go (Some u) =
        let next : Array = record a { units = with_unit a.units (record u { waiting = u.waiting ++ c ∷ [] }) } in
        either a id (is_request_sense (command_of c.cdb)) (Some (with_guest a c None))
        (if nat_lt (process_count u) u.depth then Some next else None) guest
        (either a id (nat_lt (process_count u) u.depth) (Some next) None (took a next id (λ h. h)) (none_taken a id))

refuses : (a : Array) (id : ProcId) (o : Option Process) → Keeps a id (refuse_step a o)
refuses a id None = none_taken a id
refuses a id (Some c) = go (unit_state_at a.units c.target c.unit)
  where
    next : Array
    next = with_listed_reply (with_guest a c (Some queue_full)) c.id queue_full

    go : (u : Option UnitState) → Keeps a id (refuse_step_at a c u)
    go None = none_taken a id
    go (Some u) = either a id (not (is_request_sense (command_of c.cdb)) && process_count u == u.depth) (Some next) None
        (took a next id (one_more a.replies c.id id queue_full refl)) (none_taken a id)

fails : (s : ScenarioValue) (a : Array) (id d : ProcId) (reply : Reply) → (reply.status == GOOD) ≡ false
    → (o : Option RunningProcess) → Keeps a id (fail_step s a d reply o)
fails s a id d reply bad (Some r) = either a id (is_none r.reply) (Some (with_reply a d reply)) None
    (took a (with_reply a d reply) id (one_more a.replies d id reply bad)) (none_taken a id)
fails s a id d reply bad None = go (process_of s d)
  where
    go : (o : Option Process) → Keeps a id (fail_step_of_new a d reply o)
    go None = none_taken a id
    go (Some x) =
        let next : Array = with_listed_reply (with_guest a x (Some reply)) d reply in
        either a id (is_waiting a.units d || has_ended a d) None (Some next) (none_taken a id)
        (took a next id (one_more a.replies d id reply bad))

ended : (a : Array) (id : ProcId) (status : ℕ) (o : Option RunningProcess) → Keeps a id (end_step a status o)
ended a id status None = none_taken a id
ended a id status (Some r) = go r.reply
  where
    kept : (reply : Reply) (x y : Bool) → (if x then record a {
      senses = (nexus_of r.process, reply.sense) ∷ senses_without a.senses (nexus_of r.process);
      holds = nexus_of r.process ∷ nexuses_without a.holds (nexus_of r.process);
    } else if y then record a {
      senses = senses_without a.senses (nexus_of r.process);
      holds = nexuses_without a.holds (nexus_of r.process);
    } else a).replies ≡ a.replies
    kept reply true y = refl
    kept reply false true = refl
    kept reply false false = refl

    go : (o : Option Reply) → Keeps a id (end_step_with a r.process status o)
    go None = none_taken a id
    go (Some reply) =
        let next : Array = array_without (after_status a r.process reply) r.process.id in
        either a id (reply.status == status) (Some next) None
        (took a next id (subst (λ (x : List (ProcId × Reply)). HasNone x id) (sym (kept reply
        (reply.status == CHECK_CONDITION) (reply.status == GOOD && is_request_sense (command_of r.process.cdb))))))
        (none_taken a id)

-- ---- the events of a row

-- A command arrives, fails or ends.
abbrev pub gives_no_good : Event → Bool
gives_no_good (Event.Accept id) = true
gives_no_good (Event.Refuse id) = true
gives_no_good (Event.Fail id code) = true
gives_no_good (Event.End id status) = true
gives_no_good _ = false

abbrev pub GiveNoGood : List Event → Type 0
GiveNoGood [] = ⊤
GiveNoGood (e ∷ shown) = (gives_no_good e ≡ true) × GiveNoGood shown

-- The choices that follow an event give no reply.
settles : (a : Array) (id : ProcId) (o : Option Array) → Keeps a id o → Keeps a id (settled_array_if o)
settles a id None f c e h = none_some c e
settles a id (Some d) f c e h =
    subst (λ (x : Array). HasNone x.replies id) (same_Some (settled_array d) c e) (f d refl h)

event_keeps : (s : ScenarioValue) (a : Array) (id : ProcId) (e : Event) → gives_no_good e ≡ true
    → Keeps a id (array_step s e (Some a))
event_keeps s a id (Event.Accept p) g = settles a id (accept_step a (process_of s p)) (accepts a id (process_of s p))
event_keeps s a id (Event.Refuse p) g = settles a id (refuse_step a (process_of s p)) (refuses a id (process_of s p))
event_keeps s a id (Event.Fail p code) g = settles a id
    (fail_step s a p (check_condition (sense_of ABORTED_COMMAND code 0x00)) (running_process a p))
    (fails s a id p (check_condition (sense_of ABORTED_COMMAND code 0x00)) refl (running_process a p))
event_keeps s a id (Event.End p status) g =
    settles a id (end_step a status (running_process a p)) (ended a id status (running_process a p))
event_keeps s a id _ g = wrong' g

pub events_keep : (s : ScenarioValue) (o : Option Array) (id : ProcId) (shown : List Event)
    → GiveNoGood shown → ((a : Array) → o ≡ Some a → IsNotGood (reply_in a.replies id)) → (c : Array)
    → array_after_events s o shown ≡ Some c → IsNotGood (reply_in c.replies id)
events_keep s o id [] g h c e = h c e
events_keep s o id (x ∷ shown) g h c e =
    go (λ y f. events_keep s o id shown g.1 h y f) (array_after_events s o shown) refl e
  where
    go : ((y : Array) → array_after_events s o shown ≡ Some y → HasNone y.replies id) → (t : Option Array)
        → array_after_events s o shown ≡ t → array_step s x t ≡ Some c → HasNone c.replies id
    go before None f z = none_some c z
    go before (Some y) f z = event_keeps s y id x g.0 c z (before y f)
