-- As a command enters the queue of its unit the reply that it would have stays (7.8).
use Rattle.trace_laws.proofs
use proofs.Names.{ℕ, ◌≡◌, Bool, true, false, not, ◌&&◌, ◌==◌, ◌∙◌, List, [], ◌∷◌, Option, Some, None, refl, sym, ap}
use proofs.Names.{◌⊎◌, inl, inr, subst, ◌++◌, not-false, same_Some, list_any, if◌then◌else◌, nat_lt, is_some, ◌-◌}
use proofs.Names.{eq_self, wrong', nothing_below, Event, rises, LineSet, changes_phase, is_command, Row, Connection}
use proofs.Names.{command_of, ScenarioValue, Policy, write_needs, found_target, found_unit, choice_target, choice_unit}
use proofs.Names.{array_after, array_step, Contents, CommandContext, execution, is_request_sense, choice, Process}
use proofs.Names.{process_of, context_at, step, settled_array_if, accept_step, accept_step_at, queue_step, with_guest}
use proofs.Names.{process_count, UnitState, Nexus, Array, unit_state_at, with_unit, with_current, has_no_current}
use proofs.Names.{is_held, unit_after_choice, units_after_choice, settled_array, nexus_of, RowReading, CarriedBytes}
use proofs.Names.{is_whole_block, is_status_phase, row_events_by, link_events, connection_events, bus_free_events}
use proofs.Names.{phase_events, queue_event, queue_events, is_refuse, status_event, is_completion, end_events}
use proofs.Names.{carried_if, Link, Story, policy_of, is_never, arrival_by, runs_in_all, run_in, run_length, runs_in}
use proofs.Names.{Serving, phase_leaving, phase_of, leaving_by, Arrival, Leaving, Phase, Room, Task, target_def_of}
use proofs.Names.{progress_in, RunState, or_start, array_of, bus_of, process_served, array_after_events, leaving}
use proofs.Names.{serving_of, moved_count, reply_now, size_of, is_writing, task_of, task_if, room_of, is_idle_unit}
use proofs.{Names.{none_some, run_lines}, Runs.{Facts.{task_here, write_no_sense}, Fits.{absent_moves}}}
use proofs.Runs.Parts.{RunsFit}
use Rattle.story_laws.specs.link_laws.proofs.LeavingWays as ways

-- ---- the unit

-- Another stands in its place.
put_there : (units : List UnitState) (t m : ℕ) (u new : UnitState) → new.target ≡ u.target → new.unit ≡ u.unit
    → unit_state_at units t m ≡ Some u → unit_state_at (with_unit units new) t m ≡ Some new
put_there [] t m u new et en e = none_some u e
put_there (v ∷ units) t m u new et en e =
    go (λ z. put_there units t m u new et en z) (v.target == t && v.unit == m) refl e
  where
    of : (u.target ≡ t) × (u.unit ≡ m)
    of = (found_target (v ∷ units) t m u e, found_unit (v ∷ units) t m u e)

    test : (v.target == new.target && v.unit == new.unit) ≡ (v.target == t && v.unit == m)
    test = λ i. v.target == (et ∙ of.0) i && v.unit == (en ∙ of.1) i

    is : (new.target == t && new.unit == m) ≡ true
    is = (λ i. (et ∙ of.0) i == t && (en ∙ of.1) i == m) ∙ (λ i. eq_self t i && eq_self m i)

    go : (unit_state_at units t m ≡ Some u → unit_state_at (with_unit units new) t m ≡ Some new) → (q : Bool)
        → (v.target == t && v.unit == m) ≡ q → (if q then Some v else unit_state_at units t m) ≡ Some u
        → unit_state_at (if v.target == new.target && v.unit == new.unit then new ∷ units else v ∷ with_unit units new)
        t m ≡ Some new
    go more true f z = (λ i. unit_state_at (if (test ∙ f) i then new ∷ units else v ∷ with_unit units new) t m)
        ∙ ap (λ (q : Bool). if q then Some new else unit_state_at units t m) is
    go more false f z = (λ i. unit_state_at (if (test ∙ f) i then new ∷ units else v ∷ with_unit units new) t m)
        ∙ ap (λ (q : Bool). if q then Some v else unit_state_at (with_unit units new) t m) f ∙ more z

-- ---- the choice of the current process

chosen_contents : (holds : List Nexus) (u : UnitState) → (unit_after_choice holds u).contents ≡ u.contents
chosen_contents holds u = go (has_no_current u.current && not (is_held holds u.target u.unit)) (choice u.pick u.waiting)
  where
    go : (q : Bool) (c : Option Process) → (if q then with_current u c else u).contents ≡ u.contents
    go true None = refl
    go true (Some c) = refl
    go false c = refl

chosen_there :
    (holds : List Nexus) (units : List UnitState) (t m : ℕ) (u : UnitState) → unit_state_at units t m ≡ Some u
    → unit_state_at (units_after_choice holds units) t m ≡ Some (unit_after_choice holds u)
chosen_there holds [] t m u e = none_some u e
chosen_there holds (v ∷ units) t m u e =
    go (λ z. chosen_there holds units t m u z) (v.target == t && v.unit == m) refl e
  where
    test : ((unit_after_choice holds v).target == t && (unit_after_choice holds v).unit == m)
        ≡ (v.target == t && v.unit == m)
    test = λ i. choice_target holds v i == t && choice_unit holds v i == m

    go : (unit_state_at units t m ≡ Some u
        → unit_state_at (units_after_choice holds units) t m ≡ Some (unit_after_choice holds u))
        → (q : Bool) → (v.target == t && v.unit == m) ≡ q → (if q then Some v else unit_state_at units t m) ≡ Some u
        → unit_state_at (unit_after_choice holds v ∷ units_after_choice holds units) t m
        ≡ Some (unit_after_choice holds u)
    go more true f z = (λ i. if (test ∙ f) i then Some (unit_after_choice holds v)
        else unit_state_at (units_after_choice holds units) t m)
        ∙ ap (λ (x : UnitState). Some (unit_after_choice holds x)) (same_Some v u z)
    go more false f z = (λ i. if (test ∙ f) i then Some (unit_after_choice holds v)
        else unit_state_at (units_after_choice holds units) t m)
        ∙ more z

-- ---- the command waits

abbrev pub unit_waited : UnitState → Process → UnitState
unit_waited u q = record u { waiting = u.waiting ++ q ∷ [] }

abbrev pub array_waited : Array → UnitState → Process → Array
array_waited a u q = settled_array (record a { units = with_unit a.units (unit_waited u q) })

pub record SameRun (a b : Array) (q : Process) : Type 0 where
  pub size : size_of (unit_state_at b.units q.target q.unit) ≡ size_of (unit_state_at a.units q.target q.unit)
  pub moved : moved_count q (reply_now b q) ≡ moved_count q (reply_now a q)

pub waits_same : (a : Array) (u : UnitState) (q : Process) → unit_state_at a.units q.target q.unit ≡ Some u
    → SameRun a (array_waited a u q) q
waits_same a u q e = record {
  size = ap size_of there ∙ ap (λ (x : Contents). x.size) contents ∙ sym (ap size_of e);
  moved = ap (λ (x : CommandContext). moved_count q (execution x q.cdb q.sent).reply) context;
}
  where
    b : Array
    b = array_waited a u q

    new : UnitState
    new = unit_after_choice a.holds (unit_waited u q)

    there : unit_state_at b.units q.target q.unit ≡ Some new
    there = chosen_there a.holds (with_unit a.units (unit_waited u q)) q.target q.unit (unit_waited u q)
        (put_there a.units q.target q.unit u (unit_waited u q) refl refl e)

    contents : new.contents ≡ u.contents
    contents = chosen_contents a.holds (unit_waited u q)

    at : Option UnitState → CommandContext
    at x = context_at a (nexus_of q) x

    of : Contents → CommandContext
    of x = record { present = true; contents = x; stored = (at None).stored; attention = (at None).attention }

    context : context_at b (nexus_of q) (unit_state_at b.units q.target q.unit)
        ≡ context_at a (nexus_of q) (unit_state_at a.units q.target q.unit)
    context = ap (λ (x : Option UnitState). context_at b (nexus_of q) x) there ∙ ap of contents ∙ sym (ap at e)

-- ---- DATA OUT is entered from MESSAGE IN and from COMMAND alone, and for a process that writes and has made fewer
-- runs than all (6.6.6, 6.6.20).

-- From COMMAND the command was neither refused nor disconnected.
abbrev pub IsRunEntry : Serving → Phase → Type 0
IsRunEntry v x =
    (x ≡ Phase.MessageIn) ⊎ ((x ≡ Phase.Command) × ((v.arrival ≡ Arrival.Guest) ⊎ (v.arrival ≡ Arrival.AtOnce)))

pub record EntersRun (v : Serving) (x : Phase) (l : Leaving) : Type 0 where
  pub task : Task
  pub task_is : v.task ≡ Some task
  pub writes : task.writes ≡ true
  pub more : nat_lt task.runs (runs_in_all (policy_of v.def) task) ≡ true
  pub done : l.done ≡ false
  pub from : IsRunEntry v x

entry : {v : Serving} {atn : Bool} {x : Phase} → ways.GoesOn v atn x → IsRunEntry v x
entry (ways.planned _ _) = inl refl
entry (ways.at_once _ a) = inr (refl, inr a)
entry (ways.guest _ a) = inr (refl, inl a)

abbrev is_run : Option Phase → Bool
is_run (Some Phase.DataOut) = true
is_run _ = false

enters : {v : Serving} {atn : Bool} {x : Phase} {l : Leaving} → ways.Leaves v atn x l → is_run l.to ≡ true
    → EntersRun v x l
enters (ways.writes _ t g r) e =
    record { task = t; task_is = r.task_is; writes = r.writes_is; more = r.more; done = refl; from = entry g }
enters _ e = wrong' e

pub enters_run : (v : Serving) (atn : Bool) (x : Phase) → (phase_leaving v atn x).to ≡ Some Phase.DataOut
    → EntersRun v x (phase_leaving v atn x)
enters_run v atn x e = enters (ways.leaves v atn x) (ap is_run e)

-- ---- A run that is begun has a byte.

-- ---- the row tells no event

pub status_none : (b : LineSet) → phase_of b ≡ Phase.DataOut → is_status_phase b ≡ false
status_none b e = let l = run_lines b e in λ i. not (l.0 i) && (l.1 i) && (l.2 i)

-- DATA OUT begins: the row tells at most that a command arrives.
abbrev pub queued : ScenarioValue → Story → Option Link → LineSet → List Event
queued s b None before = []
queued s b (Some l) before = queue_events s b (carried_if b l.item) before

pub row_queues : (s : ScenarioValue) (b : Story) (row : Row) (d : RowReading) (n : Connection) → d.next ≡ Some n
    → d.change.after.rst ≡ false → changes_phase d.change ≡ true → is_status_phase d.change.after ≡ false
    → row_events_by s b d row ≡ queued s b b.link d.change.before
row_queues s b row d n next calm ep after =
    ap (λ (q : Bool). if q then (if rises d.change.own.rst d.change.next.rst then Event.Reset row.dev ∷ [] else [])
    else link_events s b b.link d) calm ∙ go b.link
  where
    none : (o : Option CarriedBytes) → phase_events s b o d.change ≡ queue_events s b o d.change.before
    none None = refl
    none (Some c) = ap (λ (q : Bool). if q && not c.shown && not c.refused
        && not (list_any (λ e. is_refuse e) (queue_events s b (Some c) d.change.before))
        then status_event c.id c.failure ∷ queue_events s b (Some c) d.change.before
        else queue_events s b (Some c) d.change.before) after

    go : (o : Option Link) → link_events s b o d ≡ queued s b o d.change.before
    go None = refl
    go (Some l) =
        ap (λ (x : Option Connection). if is_some x then connection_events s b l d else bus_free_events s l l.last) next
        ∙ ap (λ (q : Bool). if q then phase_events s b (carried_if b l.item) d.change
        else if is_completion l d.change then end_events (carried_if b l.item) else []) ep
        ∙ none (carried_if b l.item)

-- Not as MESSAGE IN is left.
pub none_queued : (s : ScenarioValue) (b : Story) (o : Option Link) (before : LineSet) → is_command before ≡ false
    → queued s b o before ≡ []
none_queued s b None before e = refl
none_queued s b (Some l) before e = go (carried_if b l.item)
  where
    go : (x : Option CarriedBytes) → queue_events s b x before ≡ []
    go None = refl
    go (Some c) = ap (λ (q : Bool). if q && is_whole_block c then queue_event s b.history c.id ∷ [] else []) e

-- ---- the run is the same after it

pub same_length : (policy : Policy) (a b : Task) → b.blocks ≡ a.blocks → b.size ≡ a.size → b.moved ≡ a.moved
    → b.runs ≡ a.runs → run_length policy b ≡ run_length policy a
same_length policy a b eb es em er =
    λ i. (run_in policy (eb i) (es i) (em i) (er i)).end - (run_in policy (eb i) (es i) (em i) (er i)).start

pub run_kept : (s : ScenarioValue) (k j : RunState) (policy : Policy) (q : Process)
    → SameRun (array_of s k) (array_of s j) q → (progress_in j.progress q.id).runs ≡ (progress_in k.progress q.id).runs
    → run_length policy (task_here s j q) ≡ run_length policy (task_here s k q)
run_kept s k j policy q a er = same_length policy (task_here s k q) (task_here s j q) refl a.size a.moved er

-- ---- what is known as DATA OUT is entered

pub record BeginsRun (s : ScenarioValue) (k : RunState) (n : Connection) : Type 0 where
  pub process : Process
  pub served_is : process_served s k ≡ Some process
  pub writes : is_writing process ≡ true
  pub more :
      nat_lt (task_here s k process).runs (runs_in_all (policy_of (target_def_of s n.target)) (task_here s k process))
      ≡ true
  pub done : (leaving s k n.target).done ≡ false
  pub from : IsRunEntry (serving_of s k n.target) (phase_of (bus_of k))

begins_by : (s : ScenarioValue) (k : RunState) (n : Connection)
    → (leaving s k n.target).done ≡ false → (t : Task) → task_of s k ≡ Some t → t.writes ≡ true
    → nat_lt t.runs (runs_in_all (policy_of (target_def_of s n.target)) t) ≡ true
    → IsRunEntry (serving_of s k n.target) (phase_of (bus_of k)) → BeginsRun s k n
begins_by s k n done t task writes more from = go (process_served s k) refl
  where
    go : (o : Option Process) → process_served s k ≡ o → BeginsRun s k n
    go None e = none_some t (sym (ap (task_if s k) e) ∙ task)
    go (Some q) e =
        let same : t ≡ task_here s k q = sym (same_Some (task_here s k q) t (sym (ap (task_if s k) e) ∙ task)) in
        record {
          process = q;
          served_is = e;
          writes = ap (λ (x : Task). x.writes) (sym same) ∙ writes;
          more = subst (λ (x : Task). nat_lt x.runs (runs_in_all (policy_of (target_def_of s n.target)) x) ≡ true) same
              more;
          done = done;
          from = from;
        }

pub begins_run : (s : ScenarioValue) (k : RunState) (n : Connection) → k.exchange.begun ≡ true
    → (leaving s k n.target).to ≡ Some Phase.DataOut → BeginsRun s k n
begins_run s k n b to =
    let v = serving_of s k n.target in
    let by : leaving s k n.target ≡ phase_leaving v (bus_of k).atn (phase_of (bus_of k)) = ap
    (λ (q : Bool). leaving_by v q (bus_of k)) b in
    let r = enters_run v (bus_of k).atn (phase_of (bus_of k)) (ap (λ (x : Leaving). x.to) (sym by) ∙ to) in
    begins_by s k n (ap (λ (x : Leaving). x.done) by ∙ r.done) r.task r.task_is r.writes r.more r.from

-- ---- a command arrives

-- There is room in the queue.
none_full : (policy : Policy) (r : Room)
    → (arrival_by policy false (Some r) ≡ Arrival.Guest) ⊎ (arrival_by policy false (Some r) ≡ Arrival.AtOnce)
    → r.full ≡ false
none_full policy r h = go r.full (is_never policy && r.idle) h
  where
    go : (f q : Bool)
        → ((let a : Arrival = if f then Arrival.Refused else if q then Arrival.AtOnce else Arrival.Queued in a)
        ≡ Arrival.Guest)
        ⊎ ((let a : Arrival = if f then Arrival.Refused else if q then Arrival.AtOnce else Arrival.Queued in a)
        ≡ Arrival.AtOnce) → f ≡ false
    go true q (inl z) = absurd cc
    go true q (inr z) = absurd cc
    go false q z = refl

enters_queue : (s : ScenarioValue) (a : Array) (q : Process) (u : UnitState) → process_of s q.id ≡ Some q
    → unit_state_at a.units q.target q.unit ≡ Some u → is_request_sense (command_of q.cdb) ≡ false
    → nat_lt (process_count u) u.depth ≡ true → step s (Event.Accept q.id) a ≡ Some (array_waited a u q)
enters_queue s a q u own e senses room = ap (λ (o : Option Process). settled_array_if (accept_step a o)) own
    ∙ ap (λ (x : Option UnitState). settled_array_if (accept_step_at a q x)) e
    ∙ ap (λ (b : Bool). settled_array_if (if b then Some (with_guest a q None) else queue_step a q u)) senses
    ∙ ap (λ (b : Bool). settled_array_if
    (if b then Some (record a { units = with_unit a.units (unit_waited u q) }) else None)) room

-- What the array is after the event of it.
pub arrives : (s : ScenarioValue) (k : RunState) (q : Process) (policy : Policy) → process_of s q.id ≡ Some q
    → is_writing q ≡ true → k.array ≡ array_after s k.story.history → RunsFit policy (task_here s k q)
    → nat_lt (task_here s k q).runs (runs_in_all policy (task_here s k q)) ≡ true
    → (arrival_by policy (is_request_sense (command_of q.cdb))
    (room_of (array_of s k) (unit_state_at (array_of s k).units q.target q.unit)) ≡ Arrival.Guest)
    ⊎ (arrival_by policy (is_request_sense (command_of q.cdb))
    (room_of (array_of s k) (unit_state_at (array_of s k).units q.target q.unit)) ≡ Arrival.AtOnce)
    → SameRun (array_of s k) (or_start s (array_after_events s k.array (queue_event s k.story.history q.id ∷ []))) q
arrives s k q policy own w is fit more arrival = go k.array refl
  where
    senses : is_request_sense (command_of q.cdb) ≡ false
    senses = write_no_sense (command_of q.cdb) w

    go : (o : Option Array) → k.array ≡ o
        → SameRun (array_of s k) (or_start s (array_after_events s k.array (queue_event s k.story.history q.id ∷ []))) q
    go None e = subst (λ (x : Option Array). SameRun (or_start s x)
        (or_start s (array_after_events s x (queue_event s k.story.history q.id ∷ []))) q) (sym e)
        (record { size = refl; moved = refl })
    go (Some a) e = by (unit_state_at a.units q.target q.unit) refl
      where
        here : array_of s k ≡ a
        here = ap (or_start s) e

        by : (x : Option UnitState) → unit_state_at a.units q.target q.unit ≡ x → SameRun (array_of s k)
            (or_start s (array_after_events s k.array (queue_event s k.story.history q.id ∷ []))) q
        by None z =
            let zero : (task_here s k q).moved ≡ 0 = (λ i. moved_count q (reply_now (here i) q))
            ∙ absent_moves a q z (write_needs q.cdb w) in
            let none : runs_in_all policy (task_here s k q) ≡ 0 = ap
            (λ (m : ℕ). if m == 0 then 0 else runs_in policy (task_here s k q).blocks) zero in
            wrong'
            (sym (ap (λ (m : ℕ). nat_lt (task_here s k q).runs m) none ∙ nothing_below (task_here s k q).runs) ∙ more)
        by (Some u) z =
            let arrived : (arrival_by policy false (room_of a (Some u)) ≡ Arrival.Guest)
            ⊎ (arrival_by policy false (room_of a (Some u)) ≡ Arrival.AtOnce) = subst
            (λ (b : Array). (arrival_by policy false (room_of b (Some u)) ≡ Arrival.Guest)
            ⊎ (arrival_by policy false (room_of b (Some u)) ≡ Arrival.AtOnce)) here
            (subst (λ (x : Option UnitState). (arrival_by policy false (room_of (array_of s k) x) ≡ Arrival.Guest)
            ⊎ (arrival_by policy false (room_of (array_of s k) x) ≡ Arrival.AtOnce))
            (ap (λ (b : Array). unit_state_at b.units q.target q.unit) here ∙ z)
            (subst (λ (x : Bool). (arrival_by policy x (room_of (array_of s k)
            (unit_state_at (array_of s k).units q.target q.unit)) ≡ Arrival.Guest) ⊎ (arrival_by policy x (room_of
            (array_of s k) (unit_state_at (array_of s k).units q.target q.unit)) ≡ Arrival.AtOnce)) senses arrival)) in
            let room = not-false (nat_lt (process_count u) u.depth) (none_full policy
            (record { full = not (nat_lt (process_count u) u.depth); idle = is_idle_unit a u }) arrived) in
            let stepped = enters_queue s a q u own z senses room in
            let event : queue_event s k.story.history q.id ≡ Event.Accept q.id = ap (λ (x : Option Array).
            if is_some (array_step s (Event.Accept q.id) x) then Event.Accept q.id else Event.Refuse q.id) (sym is ∙ e)
            ∙ ap (λ (x : Option Array). if is_some x then Event.Accept q.id else Event.Refuse q.id) stepped in
            let after : array_after_events s k.array (queue_event s k.story.history q.id ∷ [])
            ≡ Some (array_waited a u q) = (λ i. array_step s (event i) (e i)) ∙ stepped in
            subst (λ (x : Option Array). SameRun (array_of s k) (or_start s x) q) (sym after)
            (subst (λ (b : Array). SameRun b (array_waited a u q) q) (sym here) (waits_same a u q z))
