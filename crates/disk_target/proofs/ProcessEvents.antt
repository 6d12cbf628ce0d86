-- The units of a target and the process of its connection after each event of that.
use Rattle.std.proofs.Common.{ℕ, ◌≡◌, Bool, true, false, List, ◌∙◌, refl, sym, subst, Option, Some, None}
use Rattle.std.specs.Prelude.{if◌then◌else◌, not, ◌||◌, ◌==◌, is_some}
use Rattle.std.proofs.lemmas.Bool.{eqb-true}
use Rattle.bus_base.specs.declared.AbortKind.{AbortKind}
use Rattle.bus_base.specs.declared.AbortKind.TheVariants as aborts
use Rattle.bus_base.specs.declared.Event.TheVariants as events
use Rattle.due_model.specs.dialogue_model.specs.declared.exchange.Room.{Room}
use Rattle.cdb_codec.specs.Cdb.{command_of}
use Rattle.cdb_codec.specs.declared.status.TheConstants.{GOOD}
use Rattle.scenario.specs.declared.value.HostDef.{HostDef}
use Rattle.scenario.specs.Value.{ScenarioValue}
use Rattle.array_model.specs.Execution.{Reply, execution, is_request_sense, queue_full, aborted_reply}
use Rattle.array_model.specs.Processes.{Process}
use Rattle.array_model.specs.Seats
use Rattle.array_model.specs.Seats.{Seat, seat_of, is_initiator}
use Rattle.array_model.specs.SoundArray.{IsOwn}
use Rattle.array_model.specs.Steps.{has_ended, running_if}
use Rattle.array_model.specs.Processes.{same_id}
use Rattle.array_model.specs.Units.{RunningProcess, UnitState, Array, unit_state_at, guest_at}
use Rattle.array_model.proofs.SeatLookups.{same_id_is}
use Rattle.disk_unit.specs.declared.media.Plan.{Plan}
use Rattle.disk_unit.specs.declared.unit.Reply as unit
use Rattle.disk_unit.specs.Plans.{plan_of}
use Rattle.disk_unit.specs.Units.{told_of, planned_reply}
use Rattle.due_model.specs.Tasks.{room_of, reply_now}
use Rattle.target_course.specs.target_units.specs.Seated.{IsNew, reply_told}
use Rattle.target_course.specs.target_units.specs.Units.{IsStep, AreUnitsAfter, is_of_one}
use Rattle.target_course.specs.target_units.proofs.UnitSteps.{accept_left, refuse_left, run_left, fail_left, end_left}
use Rattle.target_course.specs.target_units.proofs.UnitSteps.{loss_left, running_own}
use Rattle.target_course.specs.target_units.proofs.UnitTellings.{reply_same}
use Rattle.disk_target.specs.declared.standing.Standing.{Standing}
use Rattle.disk_target.specs.declared.standing.Standing.TheVariants as standings
use Rattle.disk_target.specs.Standings.{is_inside, IsGuest, IsNoGuest, IsStanding, standing_on_arrival}
use Rattle.disk_target.specs.Standings.{standing_on_failure, is_guest, outcome_of, standing_at_first}
use Rattle.disk_target.specs.Processes.{ProcessesState, AreProcessesAfter}
use Rattle.disk_target.proofs.StandingEvents

pub made : (s : ScenarioValue) (a b : Array) (times : List ℕ) (now : ℕ) (p : Process) (n dev : ℕ) (w : ProcessesState)
    → w.units.dev ≡ dev → AreUnitsAfter s a b times now dev w.units.units → IsStanding (seat_of b dev n) p w.standing
    → AreProcessesAfter s a b times now p n w
made s a b times now p n dev w same units standing = record {
  units = subst (λ (d : ℕ). AreUnitsAfter s a b times now d w.units.units) (sym same) units;
  standing = subst (λ (d : ℕ). IsStanding (seat_of b d n) p w.standing) (sym same) standing;
}

is_standing_inside : (seat : Seat) (p : Process) (inside : Bool) → IsNoGuest seat p inside
    → IsStanding seat p (standing_at_first inside)
is_standing_inside seat p true h = h
is_standing_inside seat p false h = h

-- ---- arrival

nothing : (x : Option RunningProcess) → is_some x ≡ false → x ≡ None
nothing None k = refl
nothing (Some r) k = cc

not_waiting : (x : Option UnitState) (p : Process) → is_inside x p.id ≡ false → Seats.is_waiting_at x p.id ≡ false
not_waiting None p k = refl
not_waiting (Some u) p k = go (Seats.is_waiting_at (Some u) p.id) k
  where
    go : (y : Bool) → (y || is_some (running_if u.current p.id)) ≡ false → y ≡ false
    go true l = l
    go false l = refl

not_current : (x : Option UnitState) (p : Process) → is_inside x p.id ≡ false
    → running_if (Seats.current_of x) p.id ≡ None
not_current None p k = refl
not_current (Some u) p k = go (Seats.is_waiting_at (Some u) p.id) k
  where
    go : (y : Bool) → (y || is_some (running_if u.current p.id)) ≡ false → running_if u.current p.id ≡ None
    go true l = cc
    go false l = nothing (running_if u.current p.id) l

pub new_of : (hosts : List HostDef) (seat : Seat) (p : Process) → is_initiator hosts p.initiator ≡ true
    → IsNoGuest seat p false → IsNew hosts seat p
new_of hosts seat p host h = record {
  host = host;
  not_waiting = not_waiting seat.unit p h.inside_is;
  not_current = not_current seat.unit p h.inside_is;
  no_guest = h.none;
}

room_there : (a : Array) (x : Option UnitState) → is_some (room_of a x) ≡ is_some x
room_there a None = refl
room_there a (Some u) = refl

pub accepted_standing : (s : ScenarioValue) (a b : Array) (p : Process) (dev n : ℕ) (room : Option Room)
    (cdb : List ℕ) (outside : Bool) (v : Standing) → IsStep s (events.Accept p.id) a b → IsOwn s dev n p
    → IsNoGuest (seat_of a dev n) p false → room ≡ room_of a (unit_state_at a.units dev n) → p.cdb ≡ cdb
    → outside ≡ (not (is_some room) || is_request_sense (command_of cdb)) → v ≡ standing_on_arrival outside
    → IsStanding (seat_of b dev n) p v
accepted_standing s a b p dev n room cdb outside v st own h room_is block outside_is e =
    let left = accept_left s a b p dev n st own in
    subst (λ (x : Standing). IsStanding (seat_of b dev n) p x) (sym (e ∙ (λ i. standing_on_arrival (outside_is i))
    ∙ (λ i. standing_on_arrival (not (is_some (room_is i)) || is_request_sense (command_of (sym block i)))) ∙ (λ i.
    standing_on_arrival (not (room_there a (unit_state_at a.units dev n) i) || is_request_sense (command_of p.cdb)))))
    (StandingEvents.after_choice left.seat (seat_of b dev n) p _ left.settles
    (StandingEvents.accepts (seat_of a dev n) left.seat p (unit_state_at a.units dev n) refl h.none left.is))

pub refused_standing : (s : ScenarioValue) (a b : Array) (p : Process) (dev n : ℕ) (reply : unit.Reply)
    → IsStep s (events.Refuse p.id) a b → IsOwn s dev n p → IsNoGuest (seat_of a dev n) p false
    → reply ≡ told_of queue_full → IsStanding (seat_of b dev n) p (standings.Guest (Some reply))
refused_standing s a b p dev n reply st own h e =
    let left = refuse_left s a b p dev n st own in
    subst (λ (x : unit.Reply). IsStanding (seat_of b dev n) p (standings.Guest (Some x))) (sym e)
    (StandingEvents.after_choice left.seat (seat_of b dev n) p (standings.Guest (Some (told_of queue_full)))
    left.settles (StandingEvents.refuses (seat_of a dev n) left.seat p h.none left.is))

-- ---- failure

pub failed_standing : (s : ScenarioValue) (a b : Array) (p : Process) (code dev n : ℕ) (old v : Standing)
    → IsStep s (events.Fail p.id code) a b → IsOwn s dev n p → IsStanding (seat_of a dev n) p old
    → v ≡ standing_on_failure old (told_of (aborted_reply code)) → IsStanding (seat_of b dev n) p v
failed_standing s a b p code dev n old v st own h e =
    let left = fail_left s a b p code dev n st own in
    subst (λ (x : Standing). IsStanding (seat_of b dev n) p x) (sym e)
    (StandingEvents.after_choice left.seat (seat_of b dev n) p _ left.settles
    (StandingEvents.fails (seat_of a dev n) left.seat p (has_ended a p.id) (aborted_reply code) old h left.is))

-- ---- it runs

inside_ran : (s : ScenarioValue) (a b : Array) (p : Process) (dev n : ℕ) (v : Standing) (inside : Bool)
    → standing_at_first inside ≡ v → IsStep s (events.Run p.id) a b → IsOwn s dev n p
    → IsNoGuest (seat_of a dev n) p inside → IsStanding (seat_of b dev n) p v
inside_ran s a b p dev n v inside e st own h =
    let left = run_left s a b p dev n st own in
    StandingEvents.after_choice left.seat (seat_of b dev n) p v left.settles (subst
    (λ (x : Standing). IsStanding left.seat p x) e (is_standing_inside left.seat p inside (StandingEvents.runs_inside
    (seat_of a dev n) left.seat p inside h (running_own s a dev n p left.seat st.sound own h.none left.is) left.is)))

pub no_guest_ran : (s : ScenarioValue) (a b : Array) (p : Process) (dev n : ℕ) (v : Standing)
    → is_guest v ≡ false → IsStep s (events.Run p.id) a b → IsOwn s dev n p → IsStanding (seat_of a dev n) p v
    → IsStanding (seat_of b dev n) p v
no_guest_ran s a b p dev n standings.Nowhere e st own h = inside_ran s a b p dev n standings.Nowhere false refl st own h
no_guest_ran s a b p dev n standings.Queued e st own h = inside_ran s a b p dev n standings.Queued true refl st own h
no_guest_ran s a b p dev n (standings.Guest reply) e st own h = cc

pub none_outside : (seat : Seat) (p : Process) (v : Standing) → is_guest v ≡ false → IsStanding seat p v
    → guest_at seat.guests p.id ≡ None
none_outside seat p standings.Nowhere e h = h.none
none_outside seat p standings.Queued e h = h.none
none_outside seat p (standings.Guest reply) e h = cc

pub record IsGuestWith (v : Standing) : Type 0 where
  pub reply : Option unit.Reply
  pub is : v ≡ standings.Guest reply

pub guest_of : (v : Standing) → is_guest v ≡ true → IsGuestWith v
guest_of standings.Nowhere e = cc
guest_of standings.Queued e = cc
guest_of (standings.Guest reply) e = record { reply = reply; is = refl }

pub guest_sense : (s : ScenarioValue) (a b : Array) (p : Process) (dev n : ℕ) (old : Option unit.Reply)
    → IsStep s (events.Run p.id) a b → IsOwn s dev n p → (h : IsGuest (seat_of a dev n) p old)
    → is_some (unit_state_at a.units dev n) ≡ true → is_request_sense (command_of h.guest.process.cdb) ≡ true
guest_sense s a b p dev n old st own h there =
    let left = run_left s a b p dev n st own in
    (λ i. is_request_sense (command_of (h.process_is i).cdb))
    ∙ h.sense (StandingEvents.guest_unanswered (seat_of a dev n) left.seat p old h left.is) there

pub guest_ran : (s : ScenarioValue) (a b : Array) (p : Process) (dev n out : ℕ) (old : Option unit.Reply)
    (plan : Plan) (reply : unit.Reply) → IsStep s (events.Run p.id) a b → IsOwn s dev n p
    → IsGuest (seat_of a dev n) p old → plan ≡ plan_of (reply_now a p) out → reply ≡ planned_reply plan
    → IsStanding (seat_of b dev n) p (standings.Guest (Some reply))
guest_ran s a b p dev n out old plan reply st own h plan_is e =
    let left = run_left s a b p dev n st own in
    subst (λ (x : unit.Reply). IsStanding (seat_of b dev n) p (standings.Guest (Some x)))
    (sym (e ∙ (λ i. planned_reply (plan_is i))
    ∙ (λ i. told_of (sym (reply_same a dev n p.initiator p.cdb p own.target_is own.unit_is refl refl) i))))
    (StandingEvents.after_choice left.seat (seat_of b dev n) p
    (standings.Guest (Some (told_of (execution (Seats.context_of (seat_of a dev n) p.initiator) p.cdb p.sent).reply)))
    left.settles (StandingEvents.runs_guest (seat_of a dev n) left.seat p old h left.is))

-- ---- it leaves

pub lost : (s : ScenarioValue) (a b : Array) (p : Process) (dev n : ℕ) → IsStep s (events.Lost p.id) a b
    → IsOwn s dev n p → IsNoGuest (seat_of b dev n) p false
lost s a b p dev n st own =
    let left = loss_left s a b p dev n st own in
    StandingEvents.after_choice left.seat (seat_of b dev n) p standings.Nowhere left.settles
    (StandingEvents.loses (seat_of a dev n) left.seat p (has_ended a p.id) left.is)

-- What ends runs.
current_id : (c : Option RunningProcess) (p : Process) (r : RunningProcess) → running_if c p.id ≡ Some r
    → r.process.id ≡ p.id
current_id None p r e = cc
current_id (Some q) p r e = go (same_id q.process.id p.id) refl e
  where
    go : (y : Bool) → same_id q.process.id p.id ≡ y → (if y then Some q else None) ≡ Some r → r.process.id ≡ p.id
    go false f k = cc
    go true f k = let same : q ≡ r = cc in (λ i. (sym same i).process.id) ∙ same_id_is q.process.id p.id f

inside_ends : (seat after : Seat) (p : Process) (status : ℕ) → guest_at seat.guests p.id ≡ None
    → Seats.seat_after_end p.id status seat ≡ Some after → IsNoGuest after p false
inside_ends seat after p status none e =
    go (running_if (Seats.current_of seat.unit) p.id) refl ((λ i. Seats.seat_after_end_of seat status (sym at i)) ∙ e)
  where
    at : Seats.running_at seat p.id ≡ running_if (Seats.current_of seat.unit) p.id
    at = λ i. if is_some (none i) then none i else running_if (Seats.current_of seat.unit) p.id

    go : (x : Option RunningProcess) → running_if (Seats.current_of seat.unit) p.id ≡ x
        → Seats.seat_after_end_of seat status x ≡ Some after → IsNoGuest after p false
    go None f k = cc
    go (Some r) f k =
        StandingEvents.ends seat after p status r (at ∙ f) (current_id (Seats.current_of seat.unit) p r f) e

pub inside_ended : (s : ScenarioValue) (a b : Array) (p : Process) (status dev n : ℕ)
    → IsStep s (events.End p.id status) a b → IsOwn s dev n p → guest_at (seat_of a dev n).guests p.id ≡ None
    → IsNoGuest (seat_of b dev n) p false
inside_ended s a b p status dev n st own none =
    let left = end_left s a b p status dev n st own in
    StandingEvents.after_choice left.seat (seat_of b dev n) p standings.Nowhere left.settles
    (inside_ends (seat_of a dev n) left.seat p status none left.is)

-- A guest without a reply does not end.
guest_stays : (seat after : Seat) (p : Process) (status : ℕ) (h : IsGuest seat p None)
    → Seats.seat_after_end p.id status seat ≡ Some after → {A : Type 0} → A
guest_stays seat after p status h e = go h.guest.reply refl h.reply_is
    ((λ i. Seats.seat_after_end_of seat status (sym (StandingEvents.guest_runs_at seat p None h) i)) ∙ e)
  where
    go : (x : Option Reply) → h.guest.reply ≡ x → None ≡ reply_told x
        → Seats.seat_after_end_with seat h.guest.process status x ≡ Some after → {A : Type 0} → A
    go None f k l = cc
    go (Some r) f k l = cc

pub outcome_is : (v : Standing) (reply : unit.Reply) → outcome_of v ≡ Some reply → v ≡ standings.Guest (Some reply)
outcome_is standings.Nowhere reply e = cc
outcome_is standings.Queued reply e = cc
outcome_is (standings.Guest given) reply e = λ i. standings.Guest (e i)

pub ends_inside : (s : ScenarioValue) (a b : Array) (p : Process) (status dev n : ℕ) (v : Standing)
    → outcome_of v ≡ None → IsStep s (events.End p.id status) a b → IsOwn s dev n p → IsStanding (seat_of a dev n) p v
    → guest_at (seat_of a dev n).guests p.id ≡ None
ends_inside s a b p status dev n standings.Nowhere e st own h = h.none
ends_inside s a b p status dev n standings.Queued e st own h = h.none
ends_inside s a b p status dev n (standings.Guest None) e st own h =
    let left = end_left s a b p status dev n st own in
    guest_stays (seat_of a dev n) left.seat p status h left.is
ends_inside s a b p status dev n (standings.Guest (Some reply)) e st own h = cc

-- The reply of a guest that has one.
pub record IsReplied (seat : Seat) (p : Process) (reply : unit.Reply) : Type 0 where
  pub given : Reply
  pub at : guest_at seat.guests p.id ≡ Some (record { process = p; reply = Some given })
  pub told : reply ≡ told_of given

pub replied : (seat : Seat) (p : Process) (reply : unit.Reply) → IsGuest seat p (Some reply) → IsReplied seat p reply
replied seat p reply h = go h.guest.reply refl h.reply_is
  where
    go : (x : Option Reply) → h.guest.reply ≡ x → Some reply ≡ reply_told x → IsReplied seat p reply
    go None f k = cc
    go (Some given) f k =
        record { given = given; at = h.at ∙ (λ i. Some (record { process = h.process_is i; reply = f i })); told = cc }

pub guest_ended : (s : ScenarioValue) (a b : Array) (p : Process) (status dev n : ℕ) (reply : unit.Reply)
    → IsStep s (events.End p.id status) a b → IsOwn s dev n p → IsGuest (seat_of a dev n) p (Some reply)
    → IsNoGuest (seat_of b dev n) p false
guest_ended s a b p status dev n reply st own h =
    let left = end_left s a b p status dev n st own in
    StandingEvents.after_choice left.seat (seat_of b dev n) p standings.Nowhere left.settles
    (StandingEvents.ends (seat_of a dev n) left.seat p status h.guest
    (StandingEvents.guest_runs_at (seat_of a dev n) p (Some reply) h) (λ i. (h.process_is i).id) left.is)

ends_so : {A : Type 0} (y : Bool) (x after : A) → (if y then Some x else None) ≡ Some after → y ≡ true
ends_so true x after e = refl
ends_so false x after e = cc

-- A guest ends with the status of its reply.
pub good_end : (s : ScenarioValue) (a b : Array) (p : Process) (status dev n : ℕ) (given : Reply)
    → IsStep s (events.End p.id status) a b → IsOwn s dev n p
    → guest_at (seat_of a dev n).guests p.id ≡ Some (record { process = p; reply = Some given })
    → (given.status == GOOD) ≡ true → (status == GOOD) ≡ true
good_end s a b p status dev n given st own at good =
    let left = end_left s a b p status dev n st own in
    let seat : Seat = seat_of a dev n in
    let seen : Seats.seat_after_end_with seat p status (Some given) ≡ Some left.seat = (λ i. Seats.seat_after_end_of
    seat status (if is_some (sym at i) then sym at i else running_if (Seats.current_of seat.unit) p.id)) ∙ left.is in
    let same : given.status ≡ status = eqb-true given.status status (ends_so (given.status == status)
    (Seats.seat_without (Seats.seat_after_status seat p given) p.id) left.seat seen) in
    (λ i. sym same i == GOOD) ∙ good

-- ---- aborts

pub device_is : (kind : AbortKind) → is_of_one kind ≡ false → kind ≡ aborts.Device
device_is aborts.All e = cc
device_is (aborts.Tag n) e = cc
device_is aborts.WholeQueue e = cc
device_is aborts.Device e = refl
