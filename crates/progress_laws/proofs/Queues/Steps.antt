-- A command that is open after an event, and stood in a queue before it, stands there after it.
use Rattle.progress_laws.proofs
use proofs.Names.{ℕ, zero, suc, ◌≡◌, ◌+◌, Bool, true, false, not, ◌&&◌, ◌||◌, ◌∙◌, List, [], ◌∷◌, ◌++◌, Option, Some}
use proofs.Names.{None, refl, sym, ap, arith, same_Some, list_any, if◌then◌else◌, ◌==◌, is_none, is_some, nat_lt, ⊤}
use proofs.Names.{either_stays, AbortKind, Event, ProcId, command_of, ABORTED_COMMAND, GOOD, CHECK_CONDITION}
use proofs.Names.{ScenarioValue, CmdDef, unit_reset_units, cleared_units, Execution, Reply, check_condition, execution}
use proofs.Names.{is_request_sense, sense_of, Process, command_at, process_of, same_id, waits_in, AllOwnUnits, has_tag}
use proofs.Names.{is_of_unit, running_if, Array, RunningProcess, UnitState, guest_at, is_held, nexus_of}
use proofs.Names.{nexuses_without, senses_without, unit_state_at, with_unit, command_item, has_item, is_open}
use proofs.Names.{sense_item, Ending, Story, story_with_end, story_with_ends, story_with_over, place_found, none_some}
use proofs.Names.{is_dropped, Spares, chosen_all, kept_all, left_all, replied_all, waits_last, with_unit_all}
use proofs.Names.{running_id, is_in_queue, is_queued, more_has, own_has}
use Rattle.trace_laws.specs.story_laws.proofs.Pointers.Stories.{ends_over}
use Rattle.due_model.specs.array_model.specs.Steps

abbrev pub IfQueued : ProcId → Option Array → Type 0
IfQueued id None = ⊤
IfQueued id (Some a) = is_queued a.units id ≡ true

-- The event does not end the process.
abbrev pub IsNotEnded : ScenarioValue → Event → ProcId → Type 0
IsNotEnded s (Event.End i status) id = same_id i id ≡ false
IsNotEnded s (Event.Lost i) id = same_id i id ≡ false
IsNotEnded s (Event.Aborted i t n what) id = Spares s (λ p. is_dropped i t n what p) id
IsNotEnded s (Event.Reset dev) id = ⊥
IsNotEnded s _ id = ⊤

-- ---- the array

if_some : (id : ProcId) (q : Bool) (b : Array) → is_queued b.units id ≡ true → IfQueued id (if q then Some b else None)
if_some id true b e = e
if_some id false b e = tt

if_none : (id : ProcId) (q : Bool) (b : Array) → is_queued b.units id ≡ true → IfQueued id (if q then None else Some b)
if_none id true b e = tt
if_none id false b e = e

arriving : (u : UnitState) (c : Process) (id : ProcId) → is_in_queue u id ≡ true
    → is_in_queue (record u { waiting = u.waiting ++ c ∷ [] }) id ≡ true
arriving u c id e = either_stays (waits_in u.waiting id) (is_some (running_if u.current id)) _ _
    (λ z. waits_last u.waiting c id z) (λ z. z) e

accepted : (a : Array) (o : Option Process) (id : ProcId) → is_queued a.units id ≡ true
    → IfQueued id (Steps.accept_step a o)
accepted a None id e = tt
accepted a (Some c) id e = at (unit_state_at a.units c.target c.unit) refl
  where
    at : (u : Option UnitState) → unit_state_at a.units c.target c.unit ≡ u → IfQueued id (Steps.accept_step_at a c u)
    at None z = e
    at (Some u) z = go (is_request_sense (command_of c.cdb))
      where
        go : (q : Bool) → IfQueued id (if q then Some (Steps.with_guest a c None) else Steps.queue_step a c u)
        go true = e
        go false = if_some id (nat_lt (Steps.process_count u) u.depth) (record a {
          units = with_unit a.units (record u { waiting = u.waiting ++ c ∷ [] });
        }) (with_unit_all a.units (record u { waiting = u.waiting ++ c ∷ [] }) u id
            (place_found a.units c.target c.unit u z) (λ y. arriving u c id y) e)

refused : (a : Array) (o : Option Process) (id : ProcId) → is_queued a.units id ≡ true
    → IfQueued id (Steps.refuse_step a o)
refused a None id e = tt
refused a (Some c) id e = at (unit_state_at a.units c.target c.unit)
  where
    at : (u : Option UnitState) → IfQueued id (Steps.refuse_step_at a c u)
    at None = tt
    at (Some u) = if_some id (not (is_request_sense (command_of c.cdb)) && Steps.process_count u == u.depth) _ e

executed : (a : Array) (c : Process) (u : Option UnitState) (done : Execution) (id : ProcId)
    → unit_state_at a.units c.target c.unit ≡ u → is_queued a.units id ≡ true
    → is_queued (Steps.after_execution a c u done).units id ≡ true
executed a c u done id at e = replied_all (Steps.with_contents (Steps.without_attention a done.reported (nexus_of c)) u
    done.contents).units id c.id done.reply (filled done.reported u at)
  where
    filled : (q : Bool) (o : Option UnitState) → unit_state_at a.units c.target c.unit ≡ o
        → is_queued (Steps.with_contents (Steps.without_attention a q (nexus_of c)) o done.contents).units id ≡ true
    filled true None z = e
    filled false None z = e
    filled true (Some v) z = with_unit_all a.units (record v { contents = done.contents }) v id
        (place_found a.units c.target c.unit v z) (λ y. y) e
    filled false (Some v) z = with_unit_all a.units (record v { contents = done.contents }) v id
        (place_found a.units c.target c.unit v z) (λ y. y) e

run : (a : Array) (guest : Bool) (o : Option RunningProcess) (id : ProcId) → is_queued a.units id ≡ true
    → IfQueued id (Steps.run_step a guest o)
run a guest None id e = tt
run a guest (Some r) id e = if_some id
    (is_none r.reply && (guest || not (is_held a.holds r.process.target r.process.unit))) _
    (executed a r.process (unit_state_at a.units r.process.target r.process.unit)
    (execution (Steps.context_at a (nexus_of r.process) (unit_state_at a.units r.process.target r.process.unit))
    r.process.cdb r.process.sent) id refl e)

failed : (s : ScenarioValue) (a : Array) (i : ProcId) (reply : Reply) (o : Option RunningProcess) (id : ProcId)
    → is_queued a.units id ≡ true → IfQueued id (Steps.fail_step s a i reply o)
failed s a i reply (Some r) id e = if_some id (is_none r.reply) _ (replied_all a.units id i reply e)
failed s a i reply None id e = new (process_of s i)
  where
    new : (c : Option Process) → IfQueued id (Steps.fail_step_of_new a i reply c)
    new None = tt
    new (Some c) = if_none id (Steps.is_waiting a.units i || Steps.has_ended a i) _ e

ended : (a : Array) (i : ProcId) (status : ℕ) (id : ProcId) → same_id i id ≡ false → is_queued a.units id ≡ true
    → IfQueued id (Steps.end_step a status (Steps.running_process a i))
ended a i status id ne e = go (Steps.running_process a i) refl
  where
    same : (r : RunningProcess) (reply : Reply) (q t : Bool) → (if q then record a {
      senses = (nexus_of r.process, reply.sense) ∷ senses_without a.senses (nexus_of r.process);
      holds = nexus_of r.process ∷ nexuses_without a.holds (nexus_of r.process);
    } else if t then record a {
      senses = senses_without a.senses (nexus_of r.process);
      holds = nexuses_without a.holds (nexus_of r.process);
    } else a).units ≡ a.units
    same r reply true t = refl
    same r reply false true = refl
    same r reply false false = refl

    by : (r : RunningProcess) → r.process.id ≡ i
        → (reply : Option Reply) → IfQueued id (Steps.end_step_with a r.process status reply)
    by r f None = tt
    by r f (Some reply) =
        if_some id (reply.status == status) _ (left_all (Steps.after_status a r.process reply).units id r.process.id
        (ap (λ (w : ProcId). same_id w id) f ∙ ne) (ap (λ (us : List UnitState). is_queued us id) (same r reply
        (reply.status == CHECK_CONDITION) (reply.status == GOOD && is_request_sense (command_of r.process.cdb))) ∙ e))

    go : (o : Option RunningProcess) → Steps.running_process a i ≡ o → IfQueued id (Steps.end_step a status o)
    go None z = tt
    go (Some r) z = by r (running_id a i r z) r.reply

aborted : (s : ScenarioValue) (a : Array) (i t m : ℕ) (what : AbortKind) (id : ProcId)
    → Spares s (λ p. is_dropped i t m what p) id → AllOwnUnits s a.units → is_queued a.units id ≡ true
    → is_queued (Steps.abort_step s a i t m what).units id ≡ true
aborted s a i t m AbortKind.All id spares own e =
    kept_all s (λ p. p.initiator == i && is_of_unit p t m) a.units id spares own e
aborted s a i t m (AbortKind.Tag tag) id spares own e =
    kept_all s (λ p. p.initiator == i && is_of_unit p t m && has_tag p.tag tag) a.units id spares own e
aborted s a i t m AbortKind.WholeQueue id spares own e = ap (λ (us : List UnitState). is_queued us id) (cleared_units i
    (Steps.unit_processes (unit_state_at a.units t m)) (Steps.without_dropped a (λ p. is_of_unit p t m)))
    ∙ kept_all s (λ p. is_of_unit p t m) a.units id spares own e
aborted s a i t m AbortKind.Device id spares own e = ap (λ (us : List UnitState). is_queued us id)
    (unit_reset_units s.hosts a.units (λ u. u.target == t) (record (Steps.without_dropped a (λ p. p.target == t)) {
      senses = Steps.kept_senses (λ r. r.target == t) a.senses;
      holds = Steps.kept_nexuses (λ r. r.target == t) a.holds;
    })) ∙ kept_all s (λ p. p.target == t) a.units id spares own e

event_stays : (s : ScenarioValue) (a : Array) (event : Event) (id : ProcId) → AllOwnUnits s a.units
    → IsNotEnded s event id → is_queued a.units id ≡ true → IfQueued id (Steps.event_step s a event)
event_stays s a (Event.Accept i) id own h e = accepted a (process_of s i) id e
event_stays s a (Event.Refuse i) id own h e = refused a (process_of s i) id e
event_stays s a (Event.Run i) id own h e = run a (is_some (guest_at a.guests i)) (Steps.running_process a i) id e
event_stays s a (Event.Fail i code) id own h e =
    failed s a i (check_condition (sense_of ABORTED_COMMAND code 0x00)) (Steps.running_process a i) id e
event_stays s a (Event.End i status) id own h e = ended a i status id h e
event_stays s a (Event.Lost i) id own h e = if_none id (Steps.has_ended a i) _ (left_all a.units id i h e)
event_stays s a (Event.Aborted i t n what) id own h e = aborted s a i t n what id h own e
event_stays s a (Event.Reset dev) id own h e = absurd h

pub step_stays : (s : ScenarioValue) (a : Array) (event : Event) (id : ProcId) → AllOwnUnits s a.units
    → IsNotEnded s event id → is_queued a.units id ≡ true → IfQueued id (Steps.step s event a)
step_stays s a event id own h e = go (Steps.event_step s a event) (event_stays s a event id own h e)
  where
    go : (o : Option Array) → IfQueued id o → IfQueued id (Steps.settled_array_if o)
    go None f = tt
    go (Some b) f = chosen_all b.holds b.units id f

-- ---- what is open after an event was not ended by it

pub ends_close : (drops stops : CmdDef → Bool) (e : Ending) (l w : ℕ) (commands : List CmdDef) (b : Story) (c : CmdDef)
    → command_at commands (suc w) ≡ Some c → drops c ≡ true → has_item b.sent.sent (command_item (suc (l + w))) ≡ true
    → has_item (story_with_ends drops stops e (suc l) commands b).sent.over (command_item (suc (l + w))) ≡ true
ends_close drops stops e l w [] b c at d sent = none_some c at
ends_close drops stops e l zero (x ∷ commands) b c at d sent =
    let same : suc (l + 0) ≡ suc l = omega arith in
    let there : has_item b.sent.sent (command_item (suc l)) ≡ true =
    ap (λ (m : ℕ). has_item b.sent.sent (command_item m)) (sym same) ∙ sent in
    let next : Story =
    if is_open b.sent (suc l) && drops x then story_with_end b (record { command = suc l; sense = false }) e
    else if stops x && list_any (λ m. m == suc l) b.sent.checks then story_with_over b (sense_item (suc l)) else b in
    ap (λ (m : ℕ). has_item (story_with_ends drops stops e (suc l) (x ∷ commands) b).sent.over (command_item m)) same
    ∙ ends_over drops stops e (suc l + 1) commands next (command_item (suc l))
    (by there (ap drops (same_Some x c at) ∙ d) (has_item b.sent.over (command_item (suc l))) refl)
  where
    after : Bool → Story
    after q =
        if q then story_with_end b (record { command = suc l; sense = false }) e
        else if stops x && list_any (λ m. m == suc l) b.sent.checks then story_with_over b (sense_item (suc l))
        else b

    still : (q r : Bool) → has_item b.sent.over (command_item (suc l)) ≡ true
        → has_item (if q then story_with_end b (record { command = suc l; sense = false }) e
        else if r then story_with_over b (sense_item (suc l)) else b).sent.over (command_item (suc l)) ≡ true
    still true r h = more_has (command_item (suc l)) (command_item (suc l)) b.sent.over h
    still false true h = more_has (sense_item (suc l)) (command_item (suc l)) b.sent.over h
    still false false h = h

    by : has_item b.sent.sent (command_item (suc l)) ≡ true → drops x ≡ true
        → (o : Bool) → has_item b.sent.over (command_item (suc l)) ≡ o
        → has_item (after (is_open b.sent (suc l) && drops x)).sent.over (command_item (suc l)) ≡ true
    by there dx true f =
        still (is_open b.sent (suc l) && drops x) (stops x && list_any (λ m. m == suc l) b.sent.checks) f
    by there dx false f = (λ i. has_item (after ((there i && not (f i)) && dx i)).sent.over (command_item (suc l)))
        ∙ own_has (command_item (suc l)) b.sent.over
ends_close drops stops e l (suc w) (x ∷ commands) b c at d sent =
    let next : Story =
    if is_open b.sent (suc l) && drops x then story_with_end b (record { command = suc l; sense = false }) e
    else if stops x && list_any (λ m. m == suc l) b.sent.checks then story_with_over b (sense_item (suc l)) else b in
    let moved : suc (l + suc w) ≡ suc (suc l + w) = omega arith in
    let one_more : suc (suc l) ≡ suc l + 1 = omega arith in
    (λ i. has_item (story_with_ends drops stops e (sym one_more i) commands next).sent.over (command_item (moved i)))
    ∙ ends_close drops stops e (suc l) w commands next c at d
    (same_sent (is_open b.sent (suc l) && drops x) (stops x && list_any (λ m. m == suc l) b.sent.checks)
    ∙ ap (λ (m : ℕ). has_item b.sent.sent (command_item m)) (sym moved) ∙ sent)
  where
    same_sent : (q r : Bool) → has_item (if q then story_with_end b (record { command = suc l; sense = false }) e
        else if r then story_with_over b (sense_item (suc l)) else b).sent.sent (command_item (suc (suc l + w)))
        ≡ has_item b.sent.sent (command_item (suc (suc l + w)))
    same_sent true r = refl
    same_sent false true = refl
    same_sent false false = refl
