-- The events of a process as its connection turns to another phase: the plain disk array permits them, and where the
-- process stands then (6.1.6, 7.3, 7.8).
use Rattle.trace_laws.proofs
use proofs.Names.{inl, inr, ℕ, suc, ◌≡◌, Bool, true, false, not, ◌&&◌, ◌||◌, ◌∙◌, List, [], ◌∷◌, length, Option, Some}
use proofs.Names.{None, refl, sym, ap, subst, arith, ◌==◌, eqb-true, list_any, if◌then◌else◌, nat_lt, wrong, and_second}
use proofs.Names.{Event, ProcId, LineSet, command_of, ScenarioValue, Policy, step_sound, is_request_sense}
use proofs.Names.{aborted_reply, Process, process_of, same_id, IsSound, HasSeats, process_count, has_ended, UnitState}
use proofs.Names.{Array, unit_state_at, is_held, has_no_current, settled_array, CarriedBytes, is_whole_block}
use proofs.Names.{queue_event, queue_events, is_refuse, status_event, status_events, Story, arrival_by, is_never}
use proofs.Names.{phase_of, Arrival, Phase, array_after_events, is_idle_unit, room_of, is_command_phase, is_refusal}
use proofs.Names.{some_none, is_status, by_bool, run_is, run_answers, fail_is, fail_answers, queued, queued_rests}
use proofs.Names.{guest_may_run, at_once_may_run, guest_answered, as_guest, in_queue, arrives, refused_array, fails_new}
use proofs.Names.{within_after, is_of, untouched_after, rests_after, executed, queued_stands, AreWithin, IsUntouched}
use proofs.Names.{IsAtRest, IsOutside, RunsOpen, AnsweredOpen, is_queued}
use Rattle.story_laws.specs.row_laws.proofs.Events.Arriving.{Arrives, refuses}
use Rattle.due_model.specs.array_model.specs.Steps

-- ---- what events of one process leave of the array

pub record Passes (s : ScenarioValue) (a b : Array) (id : ProcId) : Type 0 where
  pub sound : IsSound s b
  pub within : AreWithin b.units
  pub untouched : (other : ProcId) → same_id id other ≡ false → IsUntouched a other → IsUntouched b other
  pub rests : (other : ProcId) → same_id id other ≡ false → IsAtRest a other → IsAtRest b other

pub passes_same : (s : ScenarioValue) (a : Array) (id : ProcId) → IsSound s a → AreWithin a.units → Passes s a a id
passes_same s a id sound within =
    record { sound = sound; within = within; untouched = λ other e h. h; rests = λ other e h. h }

pub passes_step : (s : ScenarioValue) (a b : Array) (event : Event) (id : ProcId) → HasSeats s → IsSound s a
    → AreWithin a.units → ((other : ProcId) → same_id id other ≡ false → is_of event other ≡ false)
    → Steps.step s event a ≡ Some b → Passes s a b id
passes_step s a b event id seats sound within of e = record {
  sound = step_sound s a b event seats sound e;
  within = within_after s a b event within e;
  untouched = λ other f h. untouched_after s a b event other (of other f) e h;
  rests = λ other f h. rests_after s a b event other (of other f) e h;
}

pub passes_on : (s : ScenarioValue) (a b c : Array) (id : ProcId) → Passes s a b id → Passes s b c id → Passes s a c id
passes_on s a b c id h g = record {
  sound = g.sound;
  within = g.within;
  untouched = λ other f x. g.untouched other f (h.untouched other f x);
  rests = λ other f x. g.rests other f (h.rests other f x);
}

-- These events are permitted, and leave an array of which this holds.
pub record Turned (s : ScenarioValue) (a : Array) (id : ProcId) (shown : List Event) (q : Array → Type 0) : Type 0 where
  pub next : Array
  pub next_is : array_after_events s (Some a) shown ≡ Some next
  pub passes : Passes s a next id
  pub holds : q next

pub turned_none : (s : ScenarioValue) (a : Array) (id : ProcId) (q : Array → Type 0) → IsSound s a → AreWithin a.units
    → q a → Turned s a id [] q
turned_none s a id q sound within h =
    record { next = a; next_is = refl; passes = passes_same s a id sound within; holds = h }

-- ---- a process that runs is answered

pub turned_reply : (s : ScenarioValue) (a : Array) (c : Process) (failure : Option ℕ)
    → HasSeats s → IsSound s a → AreWithin a.units → process_of s c.id ≡ Some c → RunsOpen a c
    → Turned s a c.id (status_event c.id failure ∷ []) (λ b. AnsweredOpen b c.id)
turned_reply s a c None seats sound within e h =
    let b : Array = settled_array (Steps.after_execution_at a c (unit_state_at a.units c.target c.unit)) in
    let is = run_is s a c h.runs in
    let same : has_ended b c.id ≡ has_ended a c.id = λ i. has_ended
    (record a { ended = (executed a c (unit_state_at a.units c.target c.unit)).ended i }) c.id in
    record {
      next = b;
      next_is = is;
      passes = passes_step s a b (Event.Run c.id) c.id seats sound within (λ other f. f) is;
      holds = record { answered = run_answers s a b c seats sound e h.runs is; open_is = same ∙ h.open_is };
    }
turned_reply s a c (Some code) seats sound within e h =
    let b : Array = settled_array (Steps.with_reply a c.id (aborted_reply code)) in
    let is = fail_is s a c code h.runs in
    record {
      next = b;
      next_is = is;
      passes = passes_step s a b (Event.Fail c.id code) c.id seats sound within (λ other f. f) is;
      holds = record { answered = fail_answers s a b c code seats sound e h.runs is; open_is = h.open_is };
    }

-- One that has not arrived fails.
pub turned_fails : (s : ScenarioValue) (a : Array) (c : Process) (code : ℕ) → HasSeats s
    → IsSound s a → AreWithin a.units → process_of s c.id ≡ Some c → IsUntouched a c.id
    → Turned s a c.id (status_event c.id (Some code) ∷ []) (λ b. AnsweredOpen b c.id)
turned_fails s a c code seats sound within e h =
    let b : Array = settled_array
    (Steps.with_listed_reply (Steps.with_guest a c (Some (aborted_reply code))) c.id (aborted_reply code)) in
    let is = fails_new s a c code e h in
    record {
      next = b;
      next_is = is;
      passes = passes_step s a b (Event.Fail c.id code) c.id seats sound within (λ other f. f) is;
      holds = record { answered = guest_answered a c (aborted_reply code) h; open_is = h.open_is };
    }

-- ---- a command arrives

-- As it is planned, so it arrives.
abbrev pub ArrivesAs : Array → Process → Arrival → Type 0
ArrivesAs b c Arrival.Refused = AnsweredOpen b c.id
ArrivesAs b c Arrival.Guest = RunsOpen b c
ArrivesAs b c Arrival.AtOnce = RunsOpen b c × IsAtRest b c.id
ArrivesAs b c Arrival.Queued = IsAtRest b c.id × (has_ended b c.id ≡ false) × (is_queued b.units c.id ≡ true)

abbrev pub plan_for : Policy → Array → Process → Arrival
plan_for policy a c =
    arrival_by policy (is_request_sense (command_of c.cdb)) (room_of a (unit_state_at a.units c.target c.unit))

guest_planned : (policy : Policy) (a : Array) (c : Process) → IsOutside a c → plan_for policy a c ≡ Arrival.Guest
guest_planned policy a c (inl e) = λ i. arrival_by policy (is_request_sense (command_of c.cdb)) (room_of a (e i))
guest_planned policy a c (inr e) = (λ i. arrival_by policy (e i) (room_of a (unit_state_at a.units c.target c.unit)))
    ∙ go (unit_state_at a.units c.target c.unit)
  where
    go : (u : Option UnitState) → arrival_by policy true (room_of a u) ≡ Arrival.Guest
    go None = refl
    go (Some u) = refl

in_queue_planned : (policy : Policy) (a : Array) (c : Process) (u : UnitState) (q : Bool)
    → unit_state_at a.units c.target c.unit ≡ Some u → is_request_sense (command_of c.cdb) ≡ false
    → nat_lt (process_count u) u.depth ≡ q → plan_for policy a c ≡ (if not q then Arrival.Refused
    else if is_never policy && is_idle_unit a u then Arrival.AtOnce else Arrival.Queued)
in_queue_planned policy a c u q e f g = (λ i. arrival_by policy (f i) (room_of a (e i)))
    ∙ (λ i. if not (g i) then Arrival.Refused
    else if is_never policy && is_idle_unit a u then Arrival.AtOnce else Arrival.Queued)

record IsIdle (a : Array) (u : UnitState) : Type 0 where
  none_waits : u.waiting ≡ []
  none_runs : has_no_current u.current ≡ true
  free : is_held a.holds u.target u.unit ≡ false

no_length : (m : ℕ) → (suc m == 0) ≡ true → ⊥
no_length m e = let z : suc m ≡ 0 = eqb-true (suc m) 0 e in omega arith

idle_is : (a : Array) (u : UnitState) → is_idle_unit a u ≡ true → IsIdle a u
idle_is a u e = go (has_no_current u.current) refl (is_held a.holds u.target u.unit) refl u.waiting refl e
  where
    go : (x : Bool) → has_no_current u.current ≡ x → (y : Bool) → is_held a.holds u.target u.unit ≡ y
        → (w : List Process) → u.waiting ≡ w → (x && not y && length w == 0) ≡ true → IsIdle a u
    go true f false g [] h z = record { none_waits = h; none_runs = f; free = g }
    go true f false g (c ∷ w) h z = absurd (no_length (length w) z)
    go true f true g w h z = wrong (sym z)
    go false f y g w h z = wrong (sym z)

-- It is accepted, and planned so.
pub record Accepted (s : ScenarioValue) (a : Array) (c : Process) (policy : Policy) (b : Array) : Type 0 where
  pub passes : Passes s a b c.id
  pub planned : is_refusal (plan_for policy a c) ≡ false
  pub arrived : ArrivesAs b c (plan_for policy a c)

pub accepts : (s : ScenarioValue) (a b : Array) (c : Process) (policy : Policy) → HasSeats s → IsSound s a
    → AreWithin a.units → process_of s c.id ≡ Some c → IsUntouched a c.id → Steps.step s (Event.Accept c.id) a ≡ Some b
    → Accepted s a c policy b
accepts s a b c policy seats sound within e h f = go (arrives s a b c e f)
  where
    passes : Passes s a b c.id
    passes = passes_step s a b (Event.Accept c.id) c.id seats sound within (λ other z. z) f

    made : (x : Arrival) → plan_for policy a c ≡ x → is_refusal x ≡ false → ArrivesAs b c x → Accepted s a c policy b
    made x z w g = record {
      passes = passes;
      planned = ap is_refusal z ∙ w;
      arrived = subst (λ (y : Arrival). ArrivesAs b c y) (sym z) g;
    }

    go : Arrives a c b → Accepted s a c policy b
    go (as_guest out z) =
        made Arrival.Guest (guest_planned policy a c out) refl
        (subst (λ (x : Array). RunsOpen x c) (sym z) (record { runs = guest_may_run a c out h; open_is = h.open_is }))
    go (in_queue u at senses room z) = by_bool (is_never policy && is_idle_unit a u)
        (λ w. let i = idle_is a u (and_second (is_never policy) (is_idle_unit a u) w) in
        made Arrival.AtOnce (planned ∙ ap (λ (q : Bool). if q then Arrival.AtOnce else Arrival.Queued) w) refl
        (subst (λ (x : Array). RunsOpen x c × IsAtRest x c.id) (sym z) (
          record { runs = at_once_may_run a c u at i.none_waits i.none_runs i.free h; open_is = h.open_is },
          queued_rests a c u at h,
        ))) (λ w. made Arrival.Queued (planned ∙ ap (λ (q : Bool). if q then Arrival.AtOnce else Arrival.Queued) w) refl
        (subst (λ (x : Array). IsAtRest x c.id × (has_ended x c.id ≡ false) × (is_queued x.units c.id ≡ true)) (sym z)
        (queued_rests a c u at h, h.open_is, queued_stands a c u at)))
      where
        planned : plan_for policy a c ≡ (if is_never policy && is_idle_unit a u then Arrival.AtOnce else Arrival.Queued)
        planned = in_queue_planned policy a c u true at senses room

-- It is refused, and planned so.
pub refusal_planned : (s : ScenarioValue) (a : Array) (c : Process) (policy : Policy) → process_of s c.id ≡ Some c
    → Steps.step s (Event.Accept c.id) a ≡ None → plan_for policy a c ≡ Arrival.Refused
refusal_planned s a c policy e f =
    go (unit_state_at a.units c.target c.unit) refl ((λ i. Steps.settled_array_if (Steps.accept_step a (sym e i))) ∙ f)
  where
    go : (u : Option UnitState) → unit_state_at a.units c.target c.unit ≡ u
        → Steps.settled_array_if (Steps.accept_step_at a c u) ≡ None → plan_for policy a c ≡ Arrival.Refused
    go None z h = absurd (some_none (settled_array (Steps.with_guest a c None)) h)
    go (Some u) z h = senses (is_request_sense (command_of c.cdb)) refl h
      where
        room : (y : Bool) → nat_lt (process_count u) u.depth ≡ y → is_request_sense (command_of c.cdb) ≡ false
            → Steps.settled_array_if (if y then Some (queued a c u) else None) ≡ None
            → plan_for policy a c ≡ Arrival.Refused
        room true w x l = absurd (some_none (settled_array (queued a c u)) l)
        room false w x l = in_queue_planned policy a c u false z x w

        senses : (x : Bool) → is_request_sense (command_of c.cdb) ≡ x
            → Steps.settled_array_if (if x then Some (Steps.with_guest a c None) else Steps.queue_step a c u) ≡ None
            → plan_for policy a c ≡ Arrival.Refused
        senses true x l = absurd (some_none (settled_array (Steps.with_guest a c None)) l)
        senses false x l = room (nat_lt (process_count u) u.depth) refl x l

pub refused_so : (s : ScenarioValue) (a : Array) (c : Process) → HasSeats s → IsSound s a → AreWithin a.units
    → process_of s c.id ≡ Some c → IsUntouched a c.id → Steps.step s (Event.Accept c.id) a ≡ None
    → Turned s a c.id (Event.Refuse c.id ∷ []) (λ b. AnsweredOpen b c.id)
refused_so s a c seats sound within e h f =
    let is = refuses s a c within e f in
    record {
      next = refused_array a c;
      next_is = is;
      passes = passes_step s a (refused_array a c) (Event.Refuse c.id) c.id seats sound within (λ other z. z) is;
      holds = record { answered = guest_answered a c _ h; open_is = h.open_is };
    }

-- ---- the events of a turn

status_lines : (m c i : Bool)
    → (not m && c && i) ≡ is_status (if m then (if i then Phase.MessageIn else Phase.MessageOut)
    else if c then (if i then Phase.Status else Phase.Command) else if i then Phase.DataIn else Phase.DataOut)
status_lines true c true = refl
status_lines true c false = refl
status_lines false true true = refl
status_lines false true false = refl
status_lines false false true = refl
status_lines false false false = refl

command_lines : (m c i : Bool)
    → (not m && c && not i) ≡ is_command_phase (if m then (if i then Phase.MessageIn else Phase.MessageOut)
    else if c then (if i then Phase.Status else Phase.Command) else if i then Phase.DataIn else Phase.DataOut)
command_lines true c true = refl
command_lines true c false = refl
command_lines false true true = refl
command_lines false true false = refl
command_lines false false true = refl
command_lines false false false = refl

-- Its reply is shown with STATUS, where none was given.
pub status_events_are : (c : CarriedBytes) (after : LineSet) (arrived : List Event)
    → status_events (Some c) after arrived
    ≡ (if is_status (phase_of after) && not (c.shown || c.refused) && not (list_any (λ e. is_refuse e) arrived)
    then status_event c.id c.failure ∷ arrived else arrived)
status_events_are c after arrived = (λ i. if status_lines after.msg after.cd after.io i && not c.shown && not c.refused
    && not (list_any (λ e. is_refuse e) arrived) then status_event c.id c.failure ∷ arrived else arrived)
    ∙ go (is_status (phase_of after)) c.shown c.refused (list_any (λ e. is_refuse e) arrived)
  where
    go : (x y z w : Bool) → (if x && not y && not z && not w then status_event c.id c.failure ∷ arrived else arrived)
        ≡ (if x && not (y || z) && not w then status_event c.id c.failure ∷ arrived else arrived)
    go true true z w = refl
    go true false true w = refl
    go true false false w = refl
    go false y z w = refl

pub queue_events_are : (s : ScenarioValue) (b : Story) (c : CarriedBytes) (before : LineSet)
    → queue_events s b (Some c) before
    ≡ (if is_command_phase (phase_of before) && is_whole_block c then queue_event s b.history c.id ∷ [] else [])
queue_events_are s b c before = λ i.
    if command_lines before.msg before.cd before.io i && is_whole_block c then queue_event s b.history c.id ∷ [] else []
