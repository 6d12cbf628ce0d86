-- What an event leaves of the replies of the array.
use Rattle.std.proofs.Common.{ℕ, ◌≡◌, ◌∙◌, ◌==◌, Bool, true, false, List, [], ◌∷◌, ◌++◌, refl, sym, subst, Option, Some}
use Rattle.std.proofs.Common.{None}
use Rattle.std.specs.Prelude.{if◌then◌else◌, not, ◌&&◌, ◌||◌, nat_lt, is_some, is_none}
use Rattle.bus_base.specs.declared.Event.{Event}
use Rattle.bus_base.specs.declared.Event.TheVariants as events
use Rattle.bus_base.specs.declared.ProcId.{ProcId}
use Rattle.cdb_codec.specs.Cdb.{command_of}
use Rattle.scenario.specs.Value.{ScenarioValue}
use Rattle.array_model.proofs.SeatLaws.{accept_law}
use Rattle.array_model.specs.ArrayHistory.{reply_in}
use Rattle.array_model.specs.Execution.{Reply, execution, is_request_sense, queue_full, aborted_reply}
use Rattle.array_model.specs.Processes.{Process, process_of, same_id}
use Rattle.array_model.specs.Seats
use Rattle.array_model.specs.Seats.{Seat, seat_of, seat_if, context_of, settled_seat, settled_seat_if}
use Rattle.array_model.specs.Seats.{seat_after_accept}
use Rattle.array_model.specs.Seats.{seat_after_accept_at, seat_with_waiting}
use Rattle.array_model.specs.SoundArray.{HasSeats, IsSound, AllOwnUnits, AllOwnGuests, IsOwnRunning}
use Rattle.array_model.specs.Steps
use Rattle.array_model.specs.Steps.{process_count, refuse_step_at, refuse_step, context_at, after_execution_at}
use Rattle.array_model.specs.Steps.{run_step}
use Rattle.array_model.specs.Steps.{running_if, running_in, running_process, fail_step_of_new, fail_step, has_ended}
use Rattle.array_model.specs.Steps.{is_waiting, event_step, settled_array_if, step, with_guest}
use Rattle.array_model.specs.Units.{RunningProcess, UnitState, Array, guest_at, is_held, nexus_of, settled_array}
use Rattle.array_model.specs.Units.{unit_state_at}
use Rattle.array_model.proofs.ArrayReplies.{end_lists}
use Rattle.array_model.proofs.SeatReplies.{id_self}
use Rattle.array_model.proofs.SeatLookups.{same_id_is}
use Rattle.due_model.specs.Tasks.{reply_now}
use Rattle.target_units.proofs.UnitTellings.{context_same}
use Rattle.array_model.proofs.SeatContexts.{settled_context}

-- ---- a step, before the choice

settled_is : (s : ScenarioValue) (e : Event) (a b : Array) → step s e a ≡ Some b
    → (y : Array) × (event_step s a e ≡ Some y) × (b.replies ≡ y.replies)
settled_is s e a b h = go (event_step s a e) refl h
  where
    go : (x : Option Array) → event_step s a e ≡ x → settled_array_if x ≡ Some b
        → (y : Array) × (event_step s a e ≡ Some y) × (b.replies ≡ y.replies)
    go None f g = absurd cc
    go (Some y) f g = let same : settled_array y ≡ b = cc in (y, f, λ i. (sym same i).replies)

-- ---- a command arrives

-- At a full queue it is refused.
refuse_gives : (a y : Array) (x : Option Process) (p : Process) → x ≡ Some p → refuse_step a x ≡ Some y
    → reply_in y.replies p.id ≡ Some queue_full
refuse_gives a y None p e h = cc
refuse_gives a y (Some q) p e h =
    (λ i. reply_in y.replies (sym same i).id) ∙ go (unit_state_at a.units q.target q.unit) h
  where
    same : q ≡ p
    same = cc

    by : (t : Bool)
        → (if t then Some (record (with_guest a q (Some queue_full)) { replies = (q.id, queue_full) ∷ a.replies })
        else None) ≡ Some y → reply_in y.replies q.id ≡ Some queue_full
    by true g =
        let made : record (with_guest a q (Some queue_full)) { replies = (q.id, queue_full) ∷ a.replies } ≡ y = cc in
        (λ i. reply_in (sym made i).replies q.id)
        ∙ (λ i. if id_self q.id i then Some queue_full else reply_in a.replies q.id)
    by false g = cc

    go : (u : Option UnitState) → refuse_step_at a q u ≡ Some y → reply_in y.replies q.id ≡ Some queue_full
    go None g = cc
    go (Some u) g = by (not (is_request_sense (command_of q.cdb)) && process_count u == u.depth) g

-- ---- it runs

abbrev IsRunningOf : ScenarioValue → ProcId → RunningProcess → Type 0
IsRunningOf s id r = (process_of s r.process.id ≡ Some r.process) × (same_id r.process.id id ≡ true)

guest_own : (s : ScenarioValue) (guests : List RunningProcess) (id : ProcId) (r : RunningProcess)
    → AllOwnGuests s guests → guest_at guests id ≡ Some r → IsRunningOf s id r
guest_own s [] id r own h = absurd cc
guest_own s (g ∷ guests) id r own h = go (same_id g.process.id id) refl (λ f. guest_own s guests id r own.1 f) h
  where
    go : (y : Bool) → same_id g.process.id id ≡ y → (guest_at guests id ≡ Some r → IsRunningOf s id r)
        → (if y then Some g else guest_at guests id) ≡ Some r → IsRunningOf s id r
    go true e next f = let same : g ≡ r = cc in subst (λ (q : RunningProcess). IsRunningOf s id q) same (own.0, e)
    go false e next f = next f

current_own : (s : ScenarioValue) (t n : ℕ) (c : Option RunningProcess) (id : ProcId) (r : RunningProcess)
    → IsOwnRunning s t n c → running_if c id ≡ Some r → IsRunningOf s id r
current_own s t n None id r own h = absurd cc
current_own s t n (Some q) id r own h = go (same_id q.process.id id) refl h
  where
    go : (y : Bool) → same_id q.process.id id ≡ y → (if y then Some q else None) ≡ Some r → IsRunningOf s id r
    go true e f = let same : q ≡ r = cc in subst (λ (x : RunningProcess). IsRunningOf s id x) same (own.is, e)
    go false e f = absurd cc

units_own : (s : ScenarioValue) (units : List UnitState) (id : ProcId) (r : RunningProcess) → AllOwnUnits s units
    → running_in units id ≡ Some r → IsRunningOf s id r
units_own s [] id r own h = absurd cc
units_own s (u ∷ units) id r own h = go (is_some (running_if u.current id)) (λ f. units_own s units id r own.1 f) h
  where
    go : (y : Bool) → (running_in units id ≡ Some r → IsRunningOf s id r)
        → (if y then running_if u.current id else running_in units id) ≡ Some r → IsRunningOf s id r
    go true next f = current_own s u.target u.unit u.current id r own.0.current f
    go false next f = next f

running_own : (s : ScenarioValue) (a : Array) (id : ProcId) (r : RunningProcess) → IsSound s a
    → running_process a id ≡ Some r → IsRunningOf s id r
running_own s a id r sound h = go (is_some (guest_at a.guests id)) h
  where
    go : (y : Bool) → (if y then guest_at a.guests id else running_in a.units id) ≡ Some r → IsRunningOf s id r
    go true f = guest_own s a.guests id r sound.guests f
    go false f = units_own s a.units id r sound.units f

found : (id : ProcId) (reply : Reply) (rest : List (ProcId × Reply)) → reply_in ((id, reply) ∷ rest) id ≡ Some reply
found id reply rest = λ i. if id_self id i then Some reply else reply_in rest id

run_gives : (a y : Array) (guest : Bool) (x : Option RunningProcess) (p : Process)
    → ((r : RunningProcess) → x ≡ Some r → r.process ≡ p) → run_step a guest x ≡ Some y
    → reply_in y.replies p.id ≡ Some (reply_now a p)
run_gives a y guest None p own h = cc
run_gives a y guest (Some r) p own h =
    go (is_none r.reply && (guest || not (is_held a.holds r.process.target r.process.unit))) h
  where
    same : r.process ≡ p
    same = own r refl

    go : (t : Bool)
        → (if t then Some (after_execution_at a r.process (unit_state_at a.units r.process.target r.process.unit))
        else None) ≡ Some y → reply_in y.replies p.id ≡ Some (reply_now a p)
    go true g =
        let made : after_execution_at a r.process (unit_state_at a.units r.process.target r.process.unit) ≡ y = cc in
        (λ i. reply_in (sym made i).replies p.id) ∙ (λ i. reply_in
        (after_execution_at a (same i) (unit_state_at a.units (same i).target (same i).unit)).replies p.id)
        ∙ found p.id (reply_now a p) (Steps.with_contents (Steps.without_attention a
        (execution (context_at a (nexus_of p) (unit_state_at a.units p.target p.unit)) p.cdb p.sent).reported
        (nexus_of p)) (unit_state_at a.units p.target p.unit)
        (execution (context_at a (nexus_of p) (unit_state_at a.units p.target p.unit)) p.cdb p.sent).contents).replies
    go false g = cc

-- ---- it fails

fail_gives : (s : ScenarioValue) (a y : Array) (id : ProcId) (reply : Reply) (x : Option RunningProcess)
    → fail_step s a id reply x ≡ Some y → reply_in y.replies id ≡ Some reply
fail_gives s a y id reply (Some r) h = go (is_none r.reply) h
  where
    go : (t : Bool) → (if t then Some (Steps.with_reply a id reply) else None) ≡ Some y
        → reply_in y.replies id ≡ Some reply
    go true g =
        let made : Steps.with_reply a id reply ≡ y = cc in
        (λ i. reply_in (sym made i).replies id) ∙ (λ i. if id_self id i then Some reply else reply_in a.replies id)
    go false g = cc
fail_gives s a y id reply None h = by (process_of s id) h
  where
    go : (p : Process) (t : Bool)
        → (if t then None else Some (Steps.with_listed_reply (with_guest a p (Some reply)) id reply)) ≡ Some y
        → reply_in y.replies id ≡ Some reply
    go p true g = cc
    go p false g =
        let made : Steps.with_listed_reply (with_guest a p (Some reply)) id reply ≡ y = cc in
        (λ i. reply_in (sym made i).replies id) ∙ (λ i. if id_self id i then Some reply else reply_in a.replies id)

    by : (x : Option Process) → fail_step_of_new a id reply x ≡ Some y → reply_in y.replies id ≡ Some reply
    by None g = cc
    by (Some p) g = go p (is_waiting a.units id || has_ended a id) g

-- ---- what a command would answer does not change as one arrives

accept_context : (seat after : Seat) (p : Process) (initiator : ℕ)
    → settled_seat_if (seat_after_accept p seat) ≡ Some after → context_of after initiator ≡ context_of seat initiator
accept_context seat after p initiator h = go seat.unit refl h
  where
    done : (x : Seat) → settled_seat_if (Some x) ≡ Some after → context_of x initiator ≡ context_of seat initiator
        → context_of after initiator ≡ context_of seat initiator
    done x e f =
        let same : settled_seat x ≡ after = cc in
        (λ i. context_of (sym same i) initiator) ∙ settled_context x initiator ∙ f

    queued : (u : UnitState) → seat.unit ≡ Some u → (y : Bool) → settled_seat_if
        (if y then Some (record seat { unit = Some (record u { waiting = u.waiting ++ p ∷ [] }) }) else None)
        ≡ Some after → context_of after initiator ≡ context_of seat initiator
    queued u e true f = done (record seat { unit = Some (record u { waiting = u.waiting ++ p ∷ [] }) }) f (λ i. record {
      present = is_some (sym e i);
      contents = Seats.contents_of (sym e i);
      stored = seat.senses initiator;
      attention = seat.attentions initiator;
    })
    queued u e false f = cc

    by : (u : UnitState) → seat.unit ≡ Some u → (y : Bool)
        → settled_seat_if (if y then Some (Seats.seat_with_guest seat p None) else seat_with_waiting seat p u)
        ≡ Some after → context_of after initiator ≡ context_of seat initiator
    by u e true f = done (Seats.seat_with_guest seat p None) f refl
    by u e false f = queued u e (nat_lt (process_count u) u.depth) f

    go : (x : Option UnitState) → seat.unit ≡ x → settled_seat_if (seat_after_accept_at seat p x) ≡ Some after
        → context_of after initiator ≡ context_of seat initiator
    go None e f = done (Seats.seat_with_guest seat p None) f refl
    go (Some u) e f = by u e (is_request_sense (command_of p.cdb)) f

pub accept_same : (s : ScenarioValue) (a b : Array) (p : Process) → HasSeats s → IsSound s a
    → process_of s p.id ≡ Some p → step s (events.Accept p.id) a ≡ Some b → reply_now b p ≡ reply_now a p
accept_same s a b p seats sound own h =
    let after : settled_seat_if (seat_after_accept p (seat_of a p.target p.unit)) ≡ Some (seat_of b p.target p.unit) =
    sym (accept_law s a p seats sound own) ∙ (λ i. seat_if (h i) p.target p.unit) in
    let context : context_of (seat_of b p.target p.unit) p.initiator
    ≡ context_of (seat_of a p.target p.unit) p.initiator = accept_context
    (seat_of a p.target p.unit) (seat_of b p.target p.unit) p p.initiator after in
    (λ i. (execution (context_same b p.target p.unit p.initiator i) p.cdb p.sent).reply)
    ∙ (λ i. (execution (context i) p.cdb p.sent).reply)
    ∙ (λ i. (execution (sym (context_same a p.target p.unit p.initiator) i) p.cdb p.sent).reply)

-- ---- by the event

pub end_replies : (s : ScenarioValue) (a b : Array) (id : ProcId) (status : ℕ)
    → step s (events.End id status) a ≡ Some b → b.replies ≡ a.replies
end_replies s a b id status h =
    let y = settled_is s (events.End id status) a b h in
    y.2 ∙ end_lists a y.0 status (running_process a id) y.1

pub refuse_replies : (s : ScenarioValue) (a b : Array) (p : Process) → process_of s p.id ≡ Some p
    → step s (events.Refuse p.id) a ≡ Some b → reply_in b.replies p.id ≡ Some queue_full
refuse_replies s a b p own h =
    let y = settled_is s (events.Refuse p.id) a b h in
    (λ i. reply_in (y.2 i) p.id) ∙ refuse_gives a y.0 (process_of s p.id) p own y.1

pub fail_replies : (s : ScenarioValue) (a b : Array) (id : ProcId) (code : ℕ) → step s (events.Fail id code) a ≡ Some b
    → reply_in b.replies id ≡ Some (aborted_reply code)
fail_replies s a b id code h =
    let y = settled_is s (events.Fail id code) a b h in
    (λ i. reply_in (y.2 i) id) ∙ fail_gives s a y.0 id (aborted_reply code) (running_process a id) y.1

pub run_replies : (s : ScenarioValue) (a b : Array) (p : Process) → IsSound s a → process_of s p.id ≡ Some p
    → step s (events.Run p.id) a ≡ Some b → reply_in b.replies p.id ≡ Some (reply_now a p)
run_replies s a b p sound own h =
    let y = settled_is s (events.Run p.id) a b h in
    (λ i. reply_in (y.2 i) p.id)
    ∙ run_gives a y.0 (is_some (guest_at a.guests p.id)) (running_process a p.id) p process y.1
  where
    process : (r : RunningProcess) → running_process a p.id ≡ Some r → r.process ≡ p
    process r e =
        let running : IsRunningOf s p.id r = running_own s a p.id r sound e in
        let found_one : Some r.process ≡ Some p = sym running.0
        ∙ (λ i. process_of s (same_id_is r.process.id p.id running.1 i)) ∙ own in
        cc
