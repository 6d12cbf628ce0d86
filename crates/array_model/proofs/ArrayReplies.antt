-- The replies of the processes that run, after each event of a history.
use Rattle.std.proofs.Common.{ℕ, ◌≡◌, Bool, true, false, List, [], ◌∷◌, ◌++◌, ◌∙◌, refl, sym, subst, Option, Some}
use Rattle.std.proofs.Common.{None}
use Rattle.std.specs.Prelude.{if◌then◌else◌, not, ◌&&◌, ◌||◌, ◌==◌, is_some, is_none, nat_lt}
use Rattle.std.proofs.lemmas.Bool.{eqb-true}
use Rattle.bus_base.specs.declared.AbortKind.{AbortKind}
use Rattle.bus_base.specs.declared.AbortKind.TheVariants as aborts
use Rattle.bus_base.specs.declared.Event.{Event}
use Rattle.bus_base.specs.declared.Event.TheVariants as events
use Rattle.bus_base.specs.declared.ProcId.{ProcId}
use Rattle.cdb_codec.specs.declared.sense.TheConstants.{ABORTED_COMMAND}
use Rattle.cdb_codec.specs.declared.status.TheConstants.{GOOD, CHECK_CONDITION}
use Rattle.cdb_codec.specs.Cdb.{command_of}
use Rattle.scenario.specs.declared.value.HostDef.{HostDef}
use Rattle.scenario.specs.Lookups.{units_of}
use Rattle.scenario.specs.Value.{ScenarioValue}
use Rattle.array_model.specs.ArrayHistory.{reply_in}
use Rattle.array_model.specs.Execution.{Reply, Execution, execution, is_request_sense, queue_full, check_condition}
use Rattle.array_model.specs.Execution.{sense_of}
use Rattle.array_model.specs.Processes.{Process, process_of, same_id}
use Rattle.array_model.specs.Units.{RunningProcess, UnitState, Nexus, Array, unit_state_at, guest_at, nexus_of}
use Rattle.array_model.specs.Units.{settled_array, starting_array, sense_of_nexus}
use Rattle.array_model.specs.Steps
use Rattle.array_model.specs.Steps.{step, settled_array_if, is_of_unit, running_if, running_process}
use Rattle.array_model.specs.Seats
use Rattle.array_model.specs.Seats.{Seat, seat_of, seat_if, settled_seat, settled_seat_if, guests_at, is_elsewhere}
use Rattle.array_model.specs.Seats.{is_of_other_unit}
use Rattle.array_model.specs.SoundArray.{IsSound, HasSeats, AllOwnGuests, IsOwnRunning}
use Rattle.array_model.specs.SeatReplies.{HasReplies, HaveReplies, ArrivesOnce, IsNowhere, AreOfScenario}
use Rattle.array_model.proofs.SeatLookups.{found_target, found_unit}
use Rattle.array_model.proofs.SeatOwn.{own_place, own_found, none_running, waits_other}
use Rattle.array_model.proofs.SeatEvents.{turned, context_same, running_process_is, running_own}
use Rattle.array_model.proofs.SeatLaws as laws
use Rattle.array_model.proofs.SeatSteps.{seat_settled}
use Rattle.array_model.proofs.SoundArrays.{id_is, is_own}
use Rattle.array_model.proofs.SeatReplies as seats
use Rattle.bus_base.proofs.Tests.{and_first, and_second}

-- ---- what the array lists after an event

listed : (x : Option Array) (b : Array) (rs : List (ProcId × Reply))
    → ((c : Array) → x ≡ Some c → c.replies ≡ rs) → settled_array_if x ≡ Some b → b.replies ≡ rs
listed None b rs f e = cc
listed (Some c) b rs f e = let same : settled_array c ≡ b = cc in (λ i. (sym same i).replies) ∙ f c refl

pub took : (d c : Array) (rs : List (ProcId × Reply)) → Some d ≡ Some c → d.replies ≡ rs → c.replies ≡ rs
took d c rs e f = let same : d ≡ c = cc in (λ i. (sym same i).replies) ∙ f

pub accept_lists : (a c : Array) (p : Process) (x : Option UnitState) → Steps.accept_step_at a p x ≡ Some c
    → c.replies ≡ a.replies
accept_lists a c p None e = took (Steps.with_guest a p None) c a.replies e refl
accept_lists a c p (Some u) e = either (is_request_sense (command_of p.cdb)) e
  where
    queue : (y : Bool) → (if y then Some (record a {
      units = Rattle.array_model.specs.Units.with_unit a.units (record u { waiting = u.waiting ++ p ∷ [] });
    }) else None) ≡ Some c → c.replies ≡ a.replies
    queue false k = cc
    queue true k = took (record a {
      units = Rattle.array_model.specs.Units.with_unit a.units (record u { waiting = u.waiting ++ p ∷ [] });
    }) c a.replies k refl

    either : (y : Bool) → (if y then Some (Steps.with_guest a p None) else Steps.queue_step a p u) ≡ Some c
        → c.replies ≡ a.replies
    either true k = took (Steps.with_guest a p None) c a.replies k refl
    either false k = queue (nat_lt (Steps.process_count u) u.depth) k

pub refuse_lists : (a c : Array) (p : Process) (x : Option UnitState) → Steps.refuse_step_at a p x ≡ Some c
    → c.replies ≡ (p.id, queue_full) ∷ a.replies
refuse_lists a c p None e = cc
refuse_lists a c p (Some u) e = either (not (is_request_sense (command_of p.cdb)) && Steps.process_count u == u.depth) e
  where
    either : (y : Bool)
        → (if y then Some (Steps.with_listed_reply (Steps.with_guest a p (Some queue_full)) p.id queue_full) else None)
        ≡ Some c → c.replies ≡ (p.id, queue_full) ∷ a.replies
    either false k = cc
    either true k = took (Steps.with_listed_reply (Steps.with_guest a p (Some queue_full)) p.id queue_full) c
        ((p.id, queue_full) ∷ a.replies) k refl

pub executed_lists : (a : Array) (p : Process) (u : Option UnitState) (done : Execution)
    → (Steps.after_execution a p u done).replies ≡ (p.id, done.reply) ∷ a.replies
executed_lists a p u done = λ i. (p.id, done.reply) ∷ go u done.reported i
  where
    go : (x : Option UnitState) (r : Bool)
        → (Steps.with_contents (Steps.without_attention a r (nexus_of p)) x done.contents).replies ≡ a.replies
    go None true = refl
    go None false = refl
    go (Some u) true = refl
    go (Some u) false = refl

run_lists : (a c : Array) (guest : Bool) (r : RunningProcess) → Steps.run_step a guest (Some r) ≡ Some c → c.replies ≡ (
  r.process.id,
  (execution (Seats.context_of (seat_of a r.process.target r.process.unit) r.process.initiator) r.process.cdb
      r.process.sent).reply,
) ∷ a.replies
run_lists a c guest r e = go (is_none r.reply
    && (guest || not (Rattle.array_model.specs.Units.is_held a.holds r.process.target r.process.unit))) e
  where
    next : Array
    next = Steps.after_execution_at a r.process (unit_state_at a.units r.process.target r.process.unit)

    go : (y : Bool) → (if y then Some next else None) ≡ Some c → c.replies ≡ (
      r.process.id,
      (execution (Seats.context_of (seat_of a r.process.target r.process.unit) r.process.initiator) r.process.cdb
          r.process.sent).reply,
    ) ∷ a.replies
    go false k = cc
    go true k = took next c ((
      r.process.id,
      (execution (Seats.context_of (seat_of a r.process.target r.process.unit) r.process.initiator) r.process.cdb
          r.process.sent).reply,
    ) ∷ a.replies) k (executed_lists a r.process (unit_state_at a.units r.process.target r.process.unit)
        (execution (Steps.context_at a (nexus_of r.process) (unit_state_at a.units r.process.target r.process.unit))
        r.process.cdb r.process.sent)
        ∙ (λ i. (r.process.id, (execution (context_same a r.process i) r.process.cdb r.process.sent).reply)
        ∷ a.replies))

pub fail_lists : (s : ScenarioValue) (a c : Array) (id : ProcId) (reply : Reply) (x : Option RunningProcess)
    → Steps.fail_step s a id reply x ≡ Some c → c.replies ≡ (id, reply) ∷ a.replies
fail_lists s a c id reply (Some r) e = given (is_none r.reply) e
  where
    given : (y : Bool) → (if y then Some (Steps.with_reply a id reply) else None) ≡ Some c
        → c.replies ≡ (id, reply) ∷ a.replies
    given false k = cc
    given true k = took (Steps.with_reply a id reply) c ((id, reply) ∷ a.replies) k refl
fail_lists s a c id reply None e = new (process_of s id) e
  where
    fresh : (p : Process) (y : Bool)
        → (if y then None else Some (Steps.with_listed_reply (Steps.with_guest a p (Some reply)) id reply)) ≡ Some c
        → c.replies ≡ (id, reply) ∷ a.replies
    fresh p true k = cc
    fresh p false k =
        took (Steps.with_listed_reply (Steps.with_guest a p (Some reply)) id reply) c ((id, reply) ∷ a.replies) k refl

    new : (o : Option Process) → Steps.fail_step_of_new a id reply o ≡ Some c → c.replies ≡ (id, reply) ∷ a.replies
    new None k = cc
    new (Some p) k = fresh p (Steps.is_waiting a.units id || Steps.has_ended a id) k

pub end_lists : (a c : Array) (status : ℕ) (x : Option RunningProcess) → Steps.end_step a status x ≡ Some c
    → c.replies ≡ a.replies
end_lists a c status None e = cc
end_lists a c status (Some r) e = given r.reply e
  where
    kept : (reply : Reply) (y z : Bool) → (if y then record a {
      senses = (nexus_of r.process, reply.sense)
          ∷ Rattle.array_model.specs.Units.senses_without a.senses (nexus_of r.process);
      holds = nexus_of r.process ∷ Rattle.array_model.specs.Units.nexuses_without a.holds (nexus_of r.process);
    } else if z then record a {
      senses = Rattle.array_model.specs.Units.senses_without a.senses (nexus_of r.process);
      holds = Rattle.array_model.specs.Units.nexuses_without a.holds (nexus_of r.process);
    } else a).replies ≡ a.replies
    kept reply true z = refl
    kept reply false true = refl
    kept reply false false = refl

    ended : (reply : Reply) (y : Bool)
        → (if y then Some (Steps.array_without (Steps.after_status a r.process reply) r.process.id) else None) ≡ Some c
        → c.replies ≡ a.replies
    ended reply false k = cc
    ended reply true k =
        took (Steps.array_without (Steps.after_status a r.process reply) r.process.id) c a.replies k (kept reply
        (reply.status == CHECK_CONDITION) (reply.status == GOOD && is_request_sense (command_of r.process.cdb)))

    given : (o : Option Reply) → Steps.end_step_with a r.process status o ≡ Some c → c.replies ≡ a.replies
    given None k = cc
    given (Some reply) k = ended reply (reply.status == status) k

pub loss_lists : (a c : Array) (id : ProcId) → Steps.loss_step a id ≡ Some c → c.replies ≡ a.replies
loss_lists a c id e = go (Steps.has_ended a id) e
  where
    go : (y : Bool) → (if y then None else Some (Steps.array_without a id)) ≡ Some c → c.replies ≡ a.replies
    go true k = cc
    go false k = took (Steps.array_without a id) c a.replies k refl

pub hosts_list : (hosts : List HostDef) (t n : ℕ) (a : Array) → (Steps.reset_attentions hosts t n a).replies ≡ a.replies
hosts_list [] t n a = refl
hosts_list (h ∷ hosts) t n a =
    hosts_list hosts t n (Steps.reset_attention a (record { initiator = h.dev; target = t; unit = n }))

pub units_list : (hosts : List HostDef) (units : List UnitState) (is_one : UnitState → Bool) (a : Array)
    → (Steps.unit_reset_attentions hosts units is_one a).replies ≡ a.replies
units_list hosts [] is_one a = refl
units_list hosts (u ∷ units) is_one a =
    units_list hosts units is_one (if is_one u then Steps.reset_attentions hosts u.target u.unit a else a)
    ∙ go (is_one u)
  where
    go : (y : Bool) → (if y then Steps.reset_attentions hosts u.target u.unit a else a).replies ≡ a.replies
    go true = hosts_list hosts u.target u.unit a
    go false = refl

cleared_list : (by : ℕ) (lost : List Process) (a : Array) → (Steps.cleared_attentions by lost a).replies ≡ a.replies
cleared_list by [] a = refl
cleared_list by (q ∷ lost) a =
    cleared_list by lost (if q.initiator == by then a else Steps.cleared_attention a (nexus_of q))
    ∙ go (q.initiator == by) (Steps.is_reset_pending (sense_of_nexus a.attentions (nexus_of q)))
  where
    told : (z : Bool) → (if z then a else record a {
      attentions = (nexus_of q, Rattle.array_model.specs.Execution.commands_cleared)
          ∷ Rattle.array_model.specs.Units.senses_without a.attentions (nexus_of q);
    }).replies ≡ a.replies
    told true = refl
    told false = refl

    go : (y z : Bool) → (if y then a else Steps.cleared_attention a (nexus_of q)).replies ≡ a.replies
    go true z = refl
    go false z = told (Steps.is_reset_pending (sense_of_nexus a.attentions (nexus_of q)))

pub abort_lists : (s : ScenarioValue) (a : Array) (i t n : ℕ) (what : AbortKind)
    → (Steps.abort_step s a i t n what).replies ≡ a.replies
abort_lists s a i t n aborts.All = refl
abort_lists s a i t n (aborts.Tag tag) = refl
abort_lists s a i t n aborts.WholeQueue =
    cleared_list i (Steps.unit_processes (unit_state_at a.units t n)) (Steps.without_dropped a (λ p. is_of_unit p t n))
abort_lists s a i t n aborts.Device =
    units_list s.hosts a.units (λ u. u.target == t) (record (Steps.without_dropped a (λ p. p.target == t)) {
      senses = Steps.kept_senses (λ q. q.target == t) a.senses;
      holds = Steps.kept_nexuses (λ q. q.target == t) a.holds;
    })

pub reset_lists : (s : ScenarioValue) (a : Array) → (Steps.reset_step s a).replies ≡ a.replies
reset_lists s a =
    units_list s.hosts a.units (λ u. true) (record (Steps.without_dropped a (λ p. true)) { senses = []; holds = [] })

-- ---- the seats of a sound array

guests_own : (s : ScenarioValue) (gs : List RunningProcess) (t n : ℕ) → AllOwnGuests s gs
    → AllOwnGuests s (guests_at gs t n)
guests_own s [] t n b = tt
guests_own s (g ∷ gs) t n b = go (guests_own s gs t n b.1) (is_of_unit g.process t n)
  where
    go : AllOwnGuests s (guests_at gs t n)
        → (y : Bool) → AllOwnGuests s (if y then g ∷ guests_at gs t n else guests_at gs t n)
    go more true = (b.0, more)
    go more false = more

of_scenario : (s : ScenarioValue) (a : Array) (t n : ℕ) → IsSound s a → AreOfScenario s (seat_of a t n)
of_scenario s a t n b =
    record { guests = guests_own s a.guests t n b.guests; current = λ r e. go r (unit_state_at a.units t n) refl e }
  where
    inner : (r : RunningProcess) (u : UnitState) (c : Option RunningProcess) → IsOwnRunning s u.target u.unit c
        → c ≡ Some r → process_of s r.process.id ≡ Some r.process
    inner r u None o k = cc
    inner r u (Some q) o k =
        let same : q ≡ r = cc in
        subst (λ (z : RunningProcess). process_of s z.process.id ≡ Some z.process) same o.is

    go : (r : RunningProcess) (x : Option UnitState) → unit_state_at a.units t n ≡ x → Seats.current_of x ≡ Some r
        → process_of s r.process.id ≡ Some r.process
    go r None f k = cc
    go r (Some u) f k = inner r u u.current (own_found s a.units t n u b.units f).current k

guest_nowhere : (s : ScenarioValue) (gs : List RunningProcess) (id : ProcId) (p : Process) (t n : ℕ) → AllOwnGuests s gs
    → process_of s id ≡ Some p → is_of_unit p t n ≡ false → guest_at (guests_at gs t n) id ≡ None
guest_nowhere s [] id p t n b e o = refl
guest_nowhere s (g ∷ gs) id p t n b e o =
    go (guest_nowhere s gs id p t n b.1 e o) (is_of_unit g.process t n) refl (same_id g.process.id id) refl
  where
    go : guest_at (guests_at gs t n) id ≡ None → (x : Bool) → is_of_unit g.process t n ≡ x → (y : Bool)
        → same_id g.process.id id ≡ y → guest_at (if x then g ∷ guests_at gs t n else guests_at gs t n) id ≡ None
    go more false w y z = more
    go more true w true z = let bad : true ≡ false = sym w ∙ own_place s g.process p id b.0 z e t n ∙ o in cc
    go more true w false z = (λ i. if z i then Some g else guest_at (guests_at gs t n) id) ∙ more

nowhere : (s : ScenarioValue) (a : Array) (id : ProcId) (p : Process) (t n : ℕ) → IsSound s a → process_of s id ≡ Some p
    → is_of_unit p t n ≡ false → IsNowhere (seat_of a t n) id
nowhere s a id p t n b e o = record {
  not_waiting = waits (unit_state_at a.units t n) refl;
  not_running = (λ i. if is_some (guest_nowhere s a.guests id p t n b.guests e o i)
      then guest_nowhere s a.guests id p t n b.guests e o i
      else running_if (Seats.current_of (unit_state_at a.units t n)) id)
      ∙ runs (unit_state_at a.units t n) refl;
}
  where
    waits : (x : Option UnitState) → unit_state_at a.units t n ≡ x → Seats.is_waiting_at x id ≡ false
    waits None f = refl
    waits (Some u) f = waits_other s u u.waiting id p (own_found s a.units t n u b.units f).waiting e
        (turned p t n u (found_target a.units t n u f) (found_unit a.units t n u f) o)

    runs : (x : Option UnitState) → unit_state_at a.units t n ≡ x → running_if (Seats.current_of x) id ≡ None
    runs None f = refl
    runs (Some u) f = none_running s u id p (own_found s a.units t n u b.units f) e
        (turned p t n u (found_target a.units t n u f) (found_unit a.units t n u f) o)

-- ---- the seat of the process of an event, and all others

own_seat :
    (s : ScenarioValue) (a b : Array) (event : Event) (p : Process) (rs : List (ProcId × Reply)) (x : Option Seat)
    → seat_if (step s event a) p.target p.unit ≡ settled_seat_if x → step s event a ≡ Some b → b.replies ≡ rs
    → ((after : Seat) → x ≡ Some after → HasReplies rs after) → HasReplies b.replies (seat_of b p.target p.unit)
own_seat s a b event p rs x law st lists f = go x ((λ i. seat_if (sym st i) p.target p.unit) ∙ law) f
  where
    go : (x : Option Seat) → Some (seat_of b p.target p.unit) ≡ settled_seat_if x
        → ((after : Seat) → x ≡ Some after → HasReplies rs after) → HasReplies b.replies (seat_of b p.target p.unit)
    go None k f = cc
    go (Some after) k f =
        let same : seat_of b p.target p.unit ≡ settled_seat after = cc in
        subst (λ (r : List (ProcId × Reply)). HasReplies r (seat_of b p.target p.unit)) (sym lists)
        (subst (λ (q : Seat). HasReplies rs q) (sym same) (seats.chooses rs after (f after refl)))

everywhere : (s : ScenarioValue) (a b : Array) (event : Event) (p : Process) → HasSeats s
    → IsSound s a → process_of s p.id ≡ Some p → step s event a ≡ Some b → HaveReplies a
    → ((t n : ℕ) → is_of_unit p t n ≡ false → is_elsewhere s event t n ≡ true)
    → HasReplies b.replies (seat_of b p.target p.unit)
    → ((seat : Seat) → HasReplies a.replies seat → IsNowhere seat p.id → HasReplies b.replies seat) → HaveReplies b
everywhere s a b event p f c e st h elsewhere own others = λ t n. go t n (is_of_unit p t n) refl
  where
    go : (t n : ℕ) (y : Bool) → is_of_unit p t n ≡ y → HasReplies b.replies (seat_of b t n)
    go t n true z =
        let one : p.target ≡ t = eqb-true p.target t (and_first (p.target == t) (p.unit == n) z) in
        let two : p.unit ≡ n = eqb-true p.unit n (and_second (p.target == t) (p.unit == n) z) in
        subst (λ (k : ℕ). HasReplies b.replies (seat_of b t k)) two
        (subst (λ (k : ℕ). HasReplies b.replies (seat_of b k p.unit)) one own)
    go t n false z =
        subst (λ (q : Seat). HasReplies b.replies q) (sym (laws.other_law s a b event t n f c (elsewhere t n z) st))
        (others (seat_of a t n) (h t n) (nowhere s a p.id p t n c e z))

of_other : (s : ScenarioValue) (p : Process) (t n : ℕ) → process_of s p.id ≡ Some p → is_of_unit p t n ≡ false
    → is_of_other_unit (process_of s p.id) t n ≡ true
of_other s p t n e z = (λ i. is_of_other_unit (e i) t n) ∙ (λ i. not (z i))

-- Nothing is listed, or one reply more.
same_list : (a b : Array) (seat : Seat) → b.replies ≡ a.replies → HasReplies a.replies seat → HasReplies b.replies seat
same_list a b seat lists h = subst (λ (r : List (ProcId × Reply)). HasReplies r seat) (sym lists) h

longer_list : (a b : Array) (id : ProcId) (reply : Reply) (seat : Seat) → b.replies ≡ (id, reply) ∷ a.replies
    → HasReplies a.replies seat → IsNowhere seat id → HasReplies b.replies seat
longer_list a b id reply seat lists h new = subst (λ (r : List (ProcId × Reply)). HasReplies r seat) (sym lists)
    (seats.reply_elsewhere a.replies seat id reply h new)

-- ---- each event of a process

accepted : (s : ScenarioValue) (a b : Array) (p : Process) → HasSeats s → IsSound s a
    → process_of s p.id ≡ Some p → IsNowhere (seat_of a p.target p.unit) p.id → reply_in a.replies p.id ≡ None
    → step s (events.Accept p.id) a ≡ Some b → HaveReplies a → HaveReplies b
accepted s a b p f c e new free st h =
    let lists : b.replies ≡ a.replies = listed (Steps.accept_step a (process_of s p.id)) b a.replies
    (λ d k. accept_lists a d p (unit_state_at a.units p.target p.unit) ((λ i. Steps.accept_step a (sym e i)) ∙ k)) st in
    everywhere s a b (events.Accept p.id) p f c e st h
    (λ t n z. of_other s p t n e z) (own_seat s a b (events.Accept p.id) p a.replies
    (Seats.seat_after_accept p (seat_of a p.target p.unit)) (laws.accept_law s a p f c e) st lists
    (λ after k. seats.accepts a.replies (seat_of a p.target p.unit) after p (h p.target p.unit) new free k))
    (λ seat k w. same_list a b seat lists k)

refused : (s : ScenarioValue) (a b : Array) (p : Process) → HasSeats s → IsSound s a → process_of s p.id ≡ Some p
    → IsNowhere (seat_of a p.target p.unit) p.id → step s (events.Refuse p.id) a ≡ Some b → HaveReplies a
    → HaveReplies b
refused s a b p f c e new st h =
    let lists : b.replies ≡ (p.id, queue_full) ∷ a.replies = listed
    (Steps.refuse_step a (process_of s p.id)) b ((p.id, queue_full) ∷ a.replies)
    (λ d k. refuse_lists a d p (unit_state_at a.units p.target p.unit) ((λ i. Steps.refuse_step a (sym e i)) ∙ k)) st in
    everywhere s a b (events.Refuse p.id) p f c e st h (λ t n z. of_other s p t n e z)
    (own_seat s a b (events.Refuse p.id) p ((p.id, queue_full) ∷ a.replies)
    (Seats.seat_after_refuse p (seat_of a p.target p.unit)) (laws.refuse_law s a p f c e) st lists
    (λ after k. seats.refuses a.replies (seat_of a p.target p.unit) after p (h p.target p.unit) new k))
    (λ seat k w. longer_list a b p.id queue_full seat lists k w)

ran : (s : ScenarioValue) (a b : Array) (p : Process) → HasSeats s → IsSound s a → process_of s p.id ≡ Some p
    → step s (events.Run p.id) a ≡ Some b → HaveReplies a → HaveReplies b
ran s a b p f c e st h = go (running_process a p.id) refl
  where
    reply_of : RunningProcess → Reply
    reply_of r = (execution (Seats.context_of (seat_of a p.target p.unit) r.process.initiator) r.process.cdb
        r.process.sent).reply

    go : (x : Option RunningProcess) → running_process a p.id ≡ x → HaveReplies b
    go None k =
        let bad : None ≡ Some b =
        (λ i. settled_array_if (Steps.run_step a (is_some (guest_at a.guests p.id)) (sym k i))) ∙ st in
        cc
    go (Some r) k =
        let is : r.process ≡ p = sym (running_process_is s a p.id p r c e k) in
        let lists : b.replies ≡ (r.process.id, reply_of r) ∷ a.replies = listed
        (Steps.run_step a (is_some (guest_at a.guests p.id)) (running_process a p.id)) b
        ((r.process.id, reply_of r) ∷ a.replies) (λ d l. run_lists a d (is_some (guest_at a.guests p.id)) r
        ((λ i. Steps.run_step a (is_some (guest_at a.guests p.id)) (sym k i)) ∙ l) ∙ (λ i. (
          r.process.id,
          (execution (Seats.context_of (seat_of a (is i).target (is i).unit) r.process.initiator) r.process.cdb
              r.process.sent).reply,
        ) ∷ a.replies)) st in
        everywhere s a b (events.Run p.id) p f c e st h (λ t n z. of_other s p t n e z)
        (own_seat s a b (events.Run p.id) p ((r.process.id, reply_of r) ∷ a.replies)
        (Seats.seat_after_run p.id (seat_of a p.target p.unit)) (laws.run_law s a p f c e) st lists
        (λ after l. seats.runs a.replies (seat_of a p.target p.unit) after p.id r (h p.target p.unit)
        (sym (running_own s a p.id p c e) ∙ k) l)) (λ seat l w. longer_list a b r.process.id (reply_of r) seat lists l
        (subst (λ (q : Process). IsNowhere seat q.id) (sym is) w))

failed : (s : ScenarioValue) (a b : Array) (p : Process) (code : ℕ) → HasSeats s → IsSound s a
    → process_of s p.id ≡ Some p → step s (events.Fail p.id code) a ≡ Some b → HaveReplies a → HaveReplies b
failed s a b p code f c e st h =
    let reply : Reply = check_condition (sense_of ABORTED_COMMAND code 0x00) in
    let lists : b.replies ≡ (p.id, reply) ∷ a.replies = listed (Steps.fail_step s a p.id reply (running_process a p.id))
    b ((p.id, reply) ∷ a.replies) (λ d k. fail_lists s a d p.id reply (running_process a p.id) k) st in
    everywhere s a b (events.Fail p.id code) p f c e st h (λ t n z. of_other s p t n e z)
    (own_seat s a b (events.Fail p.id code) p ((p.id, reply) ∷ a.replies)
    (Seats.seat_after_failure (Steps.has_ended a p.id) p reply (seat_of a p.target p.unit))
    (laws.fail_law s a p code f c e) st lists (λ after k. seats.fails a.replies (seat_of a p.target p.unit) after
    (Steps.has_ended a p.id) p reply (h p.target p.unit) k)) (λ seat k w. longer_list a b p.id reply seat lists k w)

ended : (s : ScenarioValue) (a b : Array) (p : Process) (status : ℕ) → HasSeats s → IsSound s a
    → process_of s p.id ≡ Some p → step s (events.End p.id status) a ≡ Some b → HaveReplies a → HaveReplies b
ended s a b p status f c e st h =
    let lists : b.replies ≡ a.replies = listed (Steps.end_step a status (running_process a p.id)) b a.replies
    (λ d k. end_lists a d status (running_process a p.id) k) st in
    everywhere s a b (events.End p.id status) p f c e st h
    (λ t n z. of_other s p t n e z) (own_seat s a b (events.End p.id status) p a.replies
    (Seats.seat_after_end p.id status (seat_of a p.target p.unit)) (laws.end_law s a p status f c e) st lists
    (λ after k. seats.ends a.replies (seat_of a p.target p.unit) after p.id status (h p.target p.unit) k))
    (λ seat k w. same_list a b seat lists k)

lost : (s : ScenarioValue) (a b : Array) (p : Process) → HasSeats s → IsSound s a → process_of s p.id ≡ Some p
    → step s (events.Lost p.id) a ≡ Some b → HaveReplies a → HaveReplies b
lost s a b p f c e st h =
    let lists : b.replies ≡ a.replies = listed (Steps.loss_step a p.id) b a.replies (λ d k. loss_lists a d p.id k) st in
    everywhere s a b (events.Lost p.id) p f c e st h (λ t n z. of_other s p t n e z) (own_seat s a b
    (events.Lost p.id) p a.replies (Seats.seat_after_loss (Steps.has_ended a p.id) p.id (seat_of a p.target p.unit))
    (laws.loss_law s a p f c e) st lists (λ after k. seats.loses a.replies (seat_of a p.target p.unit) after
    (Steps.has_ended a p.id) p.id (h p.target p.unit) k)) (λ seat k w. same_list a b seat lists k)

-- ---- aborts and resets

cut_seat : (s : ScenarioValue) (a b : Array) (event : Event) (t n : ℕ) (next : Seat)
    → seat_if (step s event a) t n ≡ Some (settled_seat next) → step s event a ≡ Some b → b.replies ≡ a.replies
    → HasReplies a.replies next → HasReplies b.replies (seat_of b t n)
cut_seat s a b event t n next law st lists k =
    let both : Some (seat_of b t n) ≡ Some (settled_seat next) = (λ i. seat_if (sym st i) t n) ∙ law in
    let same : seat_of b t n ≡ settled_seat next = cc in
    same_list a b (seat_of b t n) lists
    (subst (λ (q : Seat). HasReplies a.replies q) (sym same) (seats.chooses a.replies next k))

other_seat : (s : ScenarioValue) (a b : Array) (event : Event) (t n : ℕ) → HasSeats s → IsSound s a
    → step s event a ≡ Some b → b.replies ≡ a.replies → is_elsewhere s event t n ≡ true → HaveReplies a
    → HasReplies b.replies (seat_of b t n)
other_seat s a b event t n f c st lists o h = same_list a b (seat_of b t n) lists
    (subst (λ (q : Seat). HasReplies a.replies q) (sym (laws.other_law s a b event t n f c o st)) (h t n))

-- An abort of one unit.
cut_one : (s : ScenarioValue) (a b : Array) (i target unit : ℕ) (what : AbortKind) → HasSeats s
    → IsSound s a → step s (events.Aborted i target unit what) a ≡ Some b → b.replies ≡ a.replies
    → ((t n : ℕ) → (target == t && unit == n) ≡ false → is_elsewhere s (events.Aborted i target unit what) t n ≡ true)
    → HaveReplies a → HaveReplies b
cut_one s a b i target unit what f c st lists elsewhere h = λ t n. go t n (target == t && unit == n) refl
  where
    here : HasReplies b.replies (seat_of b target unit)
    here = cut_seat s a b (events.Aborted i target unit what) target unit (Seats.seat_after_aborted s.hosts i what
        (seat_of a target unit)) (laws.abort_law s a i target unit what f c) st lists (seats.aborted s a.replies s.hosts
        (seat_of a target unit) i what (of_scenario s a target unit c) (h target unit))

    go : (t n : ℕ) (y : Bool) → (target == t && unit == n) ≡ y → HasReplies b.replies (seat_of b t n)
    go t n true z =
        let one : target ≡ t = eqb-true target t (and_first (target == t) (unit == n) z) in
        let two : unit ≡ n = eqb-true unit n (and_second (target == t) (unit == n) z) in
        subst (λ (k : ℕ). HasReplies b.replies (seat_of b t k)) two
        (subst (λ (k : ℕ). HasReplies b.replies (seat_of b k unit)) one here)
    go t n false z = other_seat s a b (events.Aborted i target unit what) t n f c st lists (elsewhere t n z) h

cut : (s : ScenarioValue) (a b : Array) (i target unit : ℕ) (what : AbortKind) → HasSeats s → IsSound s a
    → step s (events.Aborted i target unit what) a ≡ Some b → HaveReplies a → HaveReplies b
cut s a b i target unit aborts.All f c st h = cut_one s a b i target unit aborts.All f c st
    (listed (Some (Steps.abort_step s a i target unit aborts.All)) b a.replies (λ d k. took
    (Steps.abort_step s a i target unit aborts.All) d a.replies k (abort_lists s a i target unit aborts.All)) st)
    (λ t n z j. not (z j)) h
cut s a b i target unit (aborts.Tag tag) f c st h = cut_one s a b i target unit (aborts.Tag tag) f c st
    (listed (Some (Steps.abort_step s a i target unit (aborts.Tag tag))) b a.replies
    (λ d k. took (Steps.abort_step s a i target unit (aborts.Tag tag)) d a.replies k
    (abort_lists s a i target unit (aborts.Tag tag))) st) (λ t n z j. not (z j)) h
cut s a b i target unit aborts.WholeQueue f c st h = cut_one s a b i target unit aborts.WholeQueue f c st
    (listed (Some (Steps.abort_step s a i target unit aborts.WholeQueue)) b a.replies
    (λ d k. took (Steps.abort_step s a i target unit aborts.WholeQueue) d a.replies k
    (abort_lists s a i target unit aborts.WholeQueue)) st) (λ t n z j. not (z j)) h
cut s a b i target unit aborts.Device f c st h = λ t n. go t n (target == t) refl
  where
    lists : b.replies ≡ a.replies
    lists = listed (Some (Steps.abort_step s a i target unit aborts.Device)) b a.replies
        (λ d k. took (Steps.abort_step s a i target unit aborts.Device) d a.replies k
        (abort_lists s a i target unit aborts.Device)) st

    go : (t n : ℕ) (y : Bool) → (target == t) ≡ y → HasReplies b.replies (seat_of b t n)
    go t n true z = subst (λ (k : ℕ). HasReplies b.replies (seat_of b k n)) (eqb-true target t z)
        (cut_seat s a b (events.Aborted i target unit aborts.Device) target n
        (Seats.seat_after_reset s.hosts (seat_of a target n)) (laws.device_law s a i target unit n f c) st lists
        (seats.resets s a.replies s.hosts (seat_of a target n) (of_scenario s a target n c) (h target n)))
    go t n false z = other_seat s a b (events.Aborted i target unit aborts.Device) t n f c st lists (λ j. not (z j)) h

reset : (s : ScenarioValue) (a b : Array) (dev : ℕ) → HasSeats s → IsSound s a → step s (events.Reset dev) a ≡ Some b
    → HaveReplies a → HaveReplies b
reset s a b dev f c st h = λ t n. cut_seat s a b (events.Reset dev) t n (Seats.seat_after_reset s.hosts (seat_of a t n))
    (laws.reset_law s a dev t n f c) st (listed (Some (Steps.reset_step s a)) b a.replies
    (λ d k. took (Steps.reset_step s a) d a.replies k (reset_lists s a)) st)
    (seats.resets s a.replies s.hosts (seat_of a t n) (of_scenario s a t n c) (h t n))

-- ---- every event

pub goes_on : (s : ScenarioValue) (a b : Array) (event : Event) → HasSeats s → IsSound s a → ArrivesOnce s a event
    → step s event a ≡ Some b → HaveReplies a → HaveReplies b
goes_on s a b (events.Accept id) f c once st h =
    let same : once.0.id ≡ id = id_is s id once.0 once.1 in
    accepted s a b once.0 f c (is_own s id once.0 once.1)
    (subst (λ (k : ProcId). IsNowhere (seat_of a once.0.target once.0.unit) k) (sym same) once.2)
    (subst (λ (k : ProcId). reply_in a.replies k ≡ None) (sym same) once.3)
    (subst (λ (k : ProcId). step s (events.Accept k) a ≡ Some b) (sym same) st) h
goes_on s a b (events.Refuse id) f c once st h =
    let same : once.0.id ≡ id = id_is s id once.0 once.1 in
    refused s a b once.0 f c (is_own s id once.0 once.1)
    (subst (λ (k : ProcId). IsNowhere (seat_of a once.0.target once.0.unit) k) (sym same) once.2)
    (subst (λ (k : ProcId). step s (events.Refuse k) a ≡ Some b) (sym same) st) h
goes_on s a b (events.Run id) f c once st h = ran s a b once.0 f c (is_own s id once.0 once.1)
    (subst (λ (k : ProcId). step s (events.Run k) a ≡ Some b) (sym (id_is s id once.0 once.1)) st) h
goes_on s a b (events.Fail id code) f c once st h = failed s a b once.0 code f c (is_own s id once.0 once.1)
    (subst (λ (k : ProcId). step s (events.Fail k code) a ≡ Some b) (sym (id_is s id once.0 once.1)) st) h
goes_on s a b (events.End id status) f c once st h = ended s a b once.0 status f c (is_own s id once.0 once.1)
    (subst (λ (k : ProcId). step s (events.End k status) a ≡ Some b) (sym (id_is s id once.0 once.1)) st) h
goes_on s a b (events.Lost id) f c once st h = lost s a b once.0 f c (is_own s id once.0 once.1)
    (subst (λ (k : ProcId). step s (events.Lost k) a ≡ Some b) (sym (id_is s id once.0 once.1)) st) h
goes_on s a b (events.Aborted i target unit what) f c once st h = cut s a b i target unit what f c st h
goes_on s a b (events.Reset dev) f c once st h = reset s a b dev f c st h

-- ---- the start

start_empty :
    (s : ScenarioValue) (us : List Rattle.scenario.specs.declared.value.UnitDef.UnitDef) (t n : ℕ) (u : UnitState)
    → unit_state_at (Rattle.array_model.specs.Units.starting_units s us) t n ≡ Some u
    → (u.waiting ≡ []) × (u.current ≡ None)
start_empty s [] t n u e = cc
start_empty s (d ∷ us) t n u e = go (λ k. start_empty s us t n u k) (d.target == t && d.unit == n) e
  where
    go : (unit_state_at (Rattle.array_model.specs.Units.starting_units s us) t n ≡ Some u
        → (u.waiting ≡ []) × (u.current ≡ None)) → (y : Bool)
        → (if y then Some (Rattle.array_model.specs.Units.starting_unit s d)
        else unit_state_at (Rattle.array_model.specs.Units.starting_units s us) t n) ≡ Some u
        → (u.waiting ≡ []) × (u.current ≡ None)
    go more true k =
        let same : Rattle.array_model.specs.Units.starting_unit s d ≡ u = cc in
        ((λ i. (sym same i).waiting), (λ i. (sym same i).current))
    go more false k = more k

start_seat : (s : ScenarioValue) (t n : ℕ) → HasReplies [] (seat_of (starting_array s) t n)
start_seat s t n = record {
  running = λ id r e. let bad : None ≡ Some r = sym (nobody id) ∙ e in cc;
  waiting = λ id e. refl;
  apart = λ id e. nobody id;
}
  where
    go : (id : ProcId) (x : Option UnitState)
        → unit_state_at (Rattle.array_model.specs.Units.starting_units s (units_of s)) t n ≡ x
        → running_if (Seats.current_of x) id ≡ None
    go id None f = refl
    go id (Some u) f = λ i. running_if ((start_empty s (units_of s) t n u f).1 i) id

    nobody : (id : ProcId) → Seats.running_at (seat_of (starting_array s) t n) id ≡ None
    nobody id = go id (unit_state_at (Rattle.array_model.specs.Units.starting_units s (units_of s)) t n) refl

pub starts : (s : ScenarioValue) → HaveReplies (settled_array (starting_array s))
starts s = λ t n. subst (λ (q : Seat). HasReplies [] q) (sym (seat_settled (starting_array s) t n tt))
    (seats.chooses [] (seat_of (starting_array s) t n) (start_seat s t n))
