-- A command runs, fails, ends or is lost in the plain disk array: that it may, and where its process stands then (7.3,
-- 7.5).
use Rattle.row_laws.proofs
use proofs.Names.{ℕ, ◌≡◌, Bool, true, false, not, ◌&&◌, ◌||◌, ◌==◌, ◌∙◌, List, [], ◌∷◌, Option, Some, None, refl, sym}
use proofs.Names.{ap, same_Some, if◌then◌else◌, is_some, Event, ProcId, ScenarioValue, run_law, fail_law, first}
use proofs.Names.{guest_replied, no_guest_replied, step_sound, reply_in, Contents, Reply, CommandContext, Execution}
use proofs.Names.{execution, aborted_reply, choice, without_process, Process, process_of, same_id, Seat, seat_of}
use proofs.Names.{seat_if, settled_seat, settled_seat_if, current_of, running_at, unit_mapped, unit_with_choice}
use proofs.Names.{unit_with_reply, unit_with_contents, IsSound, HasSeats, running_if, guests_with_reply, has_ended}
use proofs.Names.{RunningProcess, UnitState, Array, unit_state_at, guest_at, without_guest, nexus_of, has_no_current}
use proofs.Names.{with_current, settled_array, without_reply, self_id, Waits, Runs, OnUnits, OnGuests, IsAway, IsAtRest}
use proofs.{Names.{MayRun, IsAnswered}, Common.Impossible.{none_some, some_none}, Events.Others.{reply_at, executed}}
use proofs.Events.{Others.{away_rests, running_own}, Processes.{each_settled}, Replies.{running_id}}
use Rattle.due_model.specs.array_model.specs.Seats
use Rattle.due_model.specs.array_model.specs.Steps

-- ---- a reply is given at a seat

-- The process of this number is found, and has this reply.
record HasIt (guests : List RunningProcess) (current : Option RunningProcess) (id : ProcId) (reply : Reply) : Type
    0 where
  found : RunningProcess
  found_is : first (guest_at guests id) (running_if current id) ≡ Some found
  reply_is : found.reply ≡ Some reply

-- The current process stays, and has the reply.
abbrev next_current : Bool → ProcId → Reply → Option UnitState → Option RunningProcess
next_current held id reply o =
    current_of (unit_mapped (unit_with_choice held) (unit_mapped (unit_with_reply id reply) o))

unit_replied : (held : Bool) (o : Option UnitState) (id : ProcId) (reply : Reply) (r : RunningProcess)
    → running_if (current_of o) id ≡ Some r
    → running_if (next_current held id reply o) id ≡ Some (record r { reply = Some reply })
unit_replied held None id reply r e = absurd (none_some r e)
unit_replied held (Some u) id reply r e = go u.current refl e
  where
    by : (q : RunningProcess) → u.current ≡ Some q
        → (x : Bool) → same_id q.process.id id ≡ x → (if x then Some q else None) ≡ Some r
        → running_if (next_current held id reply (Some u)) id ≡ Some (record r { reply = Some reply })
    by q z false w h = absurd (none_some r h)
    by q z true w h =
        ap (λ (c : Option RunningProcess). running_if c id) (stay ∙ after)
        ∙ (λ i. if w i then Some (record q { reply = Some reply }) else None)
        ∙ ap (λ (y : RunningProcess). Some (record y { reply = Some reply })) (same_Some q r h)
      where
        given : (if same_id q.process.id id then Some (record q { reply = Some reply }) else Some q)
            ≡ Some (record q { reply = Some reply })
        given = λ i. if w i then Some (record q { reply = Some reply }) else Some q

        after : (unit_with_reply id reply u).current ≡ Some (record q { reply = Some reply })
        after = (λ i. Steps.current_with_reply (z i) id reply) ∙ given

        chooses : Bool → UnitState
        chooses x =
            if x then with_current (unit_with_reply id reply u) (choice u.pick u.waiting)
            else unit_with_reply id reply u

        stay : (unit_with_choice held (unit_with_reply id reply u)).current ≡ (unit_with_reply id reply u).current
        stay = ap (λ (c : Option RunningProcess). (chooses (has_no_current c && not held)).current) after

    go : (c : Option RunningProcess) → u.current ≡ c → running_if c id ≡ Some r
        → running_if (next_current held id reply (Some u)) id ≡ Some (record r { reply = Some reply })
    go None z h = absurd (none_some r h)
    go (Some q) z h = by q z (same_id q.process.id id) refl h

replied_has : (guests : List RunningProcess) (held : Bool) (o : Option UnitState) (id : ProcId)
    (reply : Reply) (r : RunningProcess) → first (guest_at guests id) (running_if (current_of o) id) ≡ Some r
    → HasIt (guests_with_reply guests id reply) (next_current held id reply o) id reply
replied_has guests held o id reply r e = go (guest_at guests id) refl e
  where
    go : (x : Option RunningProcess) → guest_at guests id ≡ x → first x (running_if (current_of o) id) ≡ Some r
        → HasIt (guests_with_reply guests id reply) (next_current held id reply o) id reply
    go (Some g) z h =
        let there = guest_replied guests id reply g z in
        record {
          found = record g { reply = Some reply };
          found_is = λ i. first (there i) (running_if (next_current held id reply o) id);
          reply_is = refl;
        }
    go None z h =
        let gone = no_guest_replied guests id reply z in
        record {
          found = record r { reply = Some reply };
          found_is =
              (λ i. first (gone i) (running_if (next_current held id reply o) id)) ∙ unit_replied held o id reply r h;
          reply_is = refl;
        }

same_current : (contents : Contents) (o : Option UnitState)
    → current_of (unit_mapped (unit_with_contents contents) o) ≡ current_of o
same_current contents None = refl
same_current contents (Some u) = refl

-- ---- it runs

pub run_is : (s : ScenarioValue) (a : Array) (c : Process) → MayRun a c → Steps.step s (Event.Run c.id) a
    ≡ Some (settled_array (Steps.after_execution_at a c (unit_state_at a.units c.target c.unit)))
run_is s a c h = (λ i. Steps.settled_array_if (Steps.run_step a (is_some (guest_at a.guests c.id)) (h.running_is i)))
    ∙ (λ i. Steps.settled_array_if
    (if true && h.free i then Some (Steps.after_execution_at a c (unit_state_at a.units c.target c.unit)) else None))

pub context_same : (a : Array) (c : Process) → Steps.context_at a (nexus_of c) (unit_state_at a.units c.target c.unit)
    ≡ Seats.context_of (seat_of a c.target c.unit) c.initiator
context_same a c = go (unit_state_at a.units c.target c.unit)
  where
    go : (u : Option UnitState) → Steps.context_at a (nexus_of c) u ≡ record {
      present = is_some u;
      contents = Seats.contents_of u;
      stored = (seat_of a c.target c.unit).senses c.initiator;
      attention = (seat_of a c.target c.unit).attentions c.initiator;
    }
    go None = refl
    go (Some u) = refl

if_seat : (x : Bool) (b c : Seat) → Some b ≡ settled_seat_if (if x then Some c else None) → b ≡ settled_seat c
if_seat true b c e = same_Some b (settled_seat c) e
if_seat false b c e = absurd (some_none b e)

pub run_answers : (s : ScenarioValue) (a b : Array) (t : Process) → HasSeats s → IsSound s a
    → process_of s t.id ≡ Some t → MayRun a t → Steps.step s (Event.Run t.id) a ≡ Some b → IsAnswered b t.id
run_answers s a b t seats sound e h f = answered
  where
    seat : Seat
    seat = seat_of a t.target t.unit

    done : Execution
    done = execution (Seats.context_of seat t.initiator) t.cdb t.sent

    there : running_at seat t.id ≡ Some (without_reply t)
    there = sym (running_own s a t.id t sound e) ∙ h.running_is

    ran : Seat
    ran = Seats.seat_with_execution seat t done

    after : seat_of b t.target t.unit ≡ settled_seat ran
    after = if_seat (is_some (guest_at seat.guests t.id) || not (Seats.is_any_held seat.hold))
        (seat_of b t.target t.unit) ran (sym (ap (λ (x : Option Array). seat_if x t.target t.unit) f)
        ∙ run_law s a t seats sound e ∙ ap (λ (x : Option RunningProcess). settled_seat_if
        (Seats.seat_after_run_of seat (is_some (guest_at seat.guests t.id)) x)) there)

    it : HasIt (settled_seat ran).guests (current_of (settled_seat ran).unit) t.id done.reply
    it = replied_has seat.guests (Seats.is_any_held ran.hold)
        (unit_mapped (unit_with_contents done.contents) seat.unit) t.id done.reply (without_reply t)
        (ap (λ (c : Option RunningProcess). first (guest_at seat.guests t.id) (running_if c t.id))
        (same_current done.contents seat.unit) ∙ there)

    reply_same : reply_at a t (unit_state_at a.units t.target t.unit) ≡ done.reply
    reply_same = ap (λ (m : CommandContext). (execution m t.cdb t.sent).reply) (context_same a t)

    ran_array : b ≡ settled_array (Steps.after_execution_at a t (unit_state_at a.units t.target t.unit))
    ran_array = sym (same_Some (settled_array (Steps.after_execution_at a t (unit_state_at a.units t.target t.unit))) b
        (sym (run_is s a t h) ∙ f))

    given : reply_in b.replies t.id ≡ Some done.reply
    given = (λ i. reply_in (ran_array i).replies t.id) ∙ ap (λ (x : List (ProcId × Reply)). reply_in x t.id)
        (executed a t (unit_state_at a.units t.target t.unit)).replies
        ∙ (λ i. if self_id t.id i then Some (reply_same i) else reply_in a.replies t.id)

    answered : IsAnswered b t.id
    answered = record {
      running = it.found;
      running_is = running_own s b t.id t (step_sound s a b (Event.Run t.id) seats sound f) e
          ∙ (λ i. running_at (after i) t.id) ∙ it.found_is;
      reply = done.reply;
      reply_is = it.reply_is;
      given = given;
    }

-- ---- it fails

pub fail_is : (s : ScenarioValue) (a : Array) (c : Process) (code : ℕ) → MayRun a c
    → Steps.step s (Event.Fail c.id code) a ≡ Some (settled_array (Steps.with_reply a c.id (aborted_reply code)))
fail_is s a c code h = λ i. Steps.settled_array_if (Steps.fail_step s a c.id (aborted_reply code) (h.running_is i))

pub fail_answers : (s : ScenarioValue) (a b : Array) (c : Process) (code : ℕ) → HasSeats s → IsSound s a
    → process_of s c.id ≡ Some c → MayRun a c → Steps.step s (Event.Fail c.id code) a ≡ Some b → IsAnswered b c.id
fail_answers s a b c code seats sound e h f = answered
  where
    seat : Seat
    seat = seat_of a c.target c.unit

    there : running_at seat c.id ≡ Some (without_reply c)
    there = sym (running_own s a c.id c sound e) ∙ h.running_is

    failed : Seat
    failed = Seats.seat_with_reply seat c.id (aborted_reply code)

    after : seat_of b c.target c.unit ≡ settled_seat failed
    after = same_Some (seat_of b c.target c.unit) (settled_seat failed)
        (sym (ap (λ (x : Option Array). seat_if x c.target c.unit) f) ∙ fail_law s a c code seats sound e
        ∙ ap (λ (x : Option RunningProcess). settled_seat_if
        (Seats.seat_after_failure_of seat (has_ended a c.id) c (aborted_reply code) x)) there)

    it : HasIt (settled_seat failed).guests (current_of (settled_seat failed).unit) c.id (aborted_reply code)
    it = replied_has seat.guests (Seats.is_any_held seat.hold) seat.unit c.id (aborted_reply code)
        (without_reply c) there

    failed_array : b ≡ settled_array (Steps.with_reply a c.id (aborted_reply code))
    failed_array = sym
        (same_Some (settled_array (Steps.with_reply a c.id (aborted_reply code))) b (sym (fail_is s a c code h) ∙ f))

    answered : IsAnswered b c.id
    answered = record {
      running = it.found;
      running_is = running_own s b c.id c (step_sound s a b (Event.Fail c.id code) seats sound f) e
          ∙ (λ i. running_at (after i) c.id) ∙ it.found_is;
      reply = aborted_reply code;
      reply_is = it.reply_is;
      given = (λ i. reply_in (failed_array i).replies c.id)
          ∙ (λ i. if self_id c.id i then Some (aborted_reply code) else reply_in a.replies c.id);
    }

-- ---- it leaves

waits_away : (waiting : List Process) (id : ProcId) → Waits (IsAway id) (without_process waiting id)
waits_away [] id = tt
waits_away (c ∷ waiting) id = go (same_id c.id id) refl (waits_away waiting id)
  where
    go : (x : Bool) → same_id c.id id ≡ x → Waits (IsAway id) (without_process waiting id)
        → Waits (IsAway id) (if x then without_process waiting id else c ∷ without_process waiting id)
    go true z e = e
    go false z e = (z, e)

units_away : (units : List UnitState) (id : ProcId) → OnUnits (IsAway id) (Steps.units_without units id)
units_away [] id = tt
units_away (u ∷ units) id = ((waits_away u.waiting id, go u.current), units_away units id)
  where
    by : (r : RunningProcess) (x : Bool) → same_id r.process.id id ≡ x
        → Runs (IsAway id) (if is_some {T = RunningProcess} (if x then Some r else None) then None else Some r)
    by r true z = tt
    by r false z = z

    go : (o : Option RunningProcess) → Runs (IsAway id) (if is_some (running_if o id) then None else o)
    go None = tt
    go (Some r) = by r (same_id r.process.id id) refl

guests_away : (guests : List RunningProcess) (id : ProcId) → OnGuests (IsAway id) (without_guest guests id)
guests_away [] id = tt
guests_away (g ∷ guests) id = go (same_id g.process.id id) refl (guests_away guests id)
  where
    go : (x : Bool) → same_id g.process.id id ≡ x → OnGuests (IsAway id) (without_guest guests id)
        → OnGuests (IsAway id) (if x then without_guest guests id else g ∷ without_guest guests id)
    go true z e = e
    go false z e = (z, e)

-- It stands nowhere, and has ended.
pub record HasLeft (a : Array) (id : ProcId) : Type 0 where
  pub rests : IsAtRest a id
  pub ended : has_ended a id ≡ true

pub leaves : (a : Array) (id : ProcId) → HasLeft (settled_array (Steps.array_without a id)) id
leaves a id = record {
  rests = away_rests (settled_array (Steps.array_without a id)) id (each_settled (IsAway id) (IsAway id)
      (Steps.array_without a id) (record { units = units_away a.units id; guests = guests_away a.guests id }));
  ended = λ i. self_id id i || has_ended a id;
}

pub end_is : (s : ScenarioValue) (a : Array) (id : ProcId) (status : ℕ) (h : IsAnswered a id)
    → (h.reply.status == status) ≡ true → Steps.step s (Event.End id status) a
    ≡ Some (settled_array (Steps.array_without (Steps.after_status a h.running.process h.reply) id))
end_is s a id status h e = (λ i. Steps.settled_array_if (Steps.end_step a status (h.running_is i)))
    ∙ (λ i. Steps.settled_array_if (Steps.end_step_with a h.running.process status (h.reply_is i)))
    ∙ (λ i. Steps.settled_array_if
    (if e i then Some (Steps.array_without (Steps.after_status a h.running.process h.reply) h.running.process.id)
    else None))
    ∙ (λ i. Some (settled_array
    (Steps.array_without (Steps.after_status a h.running.process h.reply) (running_id a id h.running h.running_is i))))

pub lost_is : (s : ScenarioValue) (a : Array) (id : ProcId) → has_ended a id ≡ false
    → Steps.step s (Event.Lost id) a ≡ Some (settled_array (Steps.array_without a id))
lost_is s a id e = λ i. Steps.settled_array_if (if e i then None else Some (Steps.array_without a id))
