-- A REQUEST SENSE that runs leaves the contents and the attentions of its unit; so another process there would answer
-- the same (7.2, 7.5).
use Rattle.right_laws.proofs
use proofs.Names.{ℕ, ◌≡◌, ◌⊎◌, inl, inr, Bool, true, false, not, ◌&&◌, ◌||◌, ◌∙◌, Option, Some, None, refl, subst}
use proofs.Names.{same_Some, if◌then◌else◌, is_none, is_some, ProcId, command_of, sense_block_of, sense_executed}
use proofs.Names.{settled_context, Execution, execution, is_request_sense, choice, Process, same_id, Seat, context_of}
use proofs.Names.{current_of, settled_seat, settled_seat_if, running_if, RunningProcess, UnitState, guest_at}
use proofs.Names.{has_no_current, with_current, none_some}
use Rattle.due_model.specs.array_model.specs.Seats
use Rattle.due_model.specs.array_model.specs.Steps

-- ---- at its seat

still_context : (seat : Seat) (c : Process) (done : Execution) (from : ℕ) → done.contents ≡ Seats.contents_of seat.unit
    → done.reported ≡ false → context_of (Seats.seat_with_execution seat c done) from ≡ context_of seat from
still_context seat c done from same quiet =
    (λ i. context_of (Seats.seat_with_reply (record seat {
      unit = Seats.unit_mapped (Seats.unit_with_contents (same i)) seat.unit;
      attentions = if quiet i then Seats.with_sense_of seat.attentions c.initiator None else seat.attentions;
    }) c.id done.reply) from)
    ∙ go seat.unit
  where
    go : (x : Option UnitState) → context_of (Seats.seat_with_reply (record seat {
      unit = Seats.unit_mapped (Seats.unit_with_contents (Seats.contents_of x)) x;
    }) c.id done.reply) from ≡ context_of (record seat { unit = x }) from
    go None = refl
    go (Some u) = refl

-- It runs outside the queue, and the context stays; or it is current then.
pub record IsCurrentAt (seat : Seat) (id : ProcId) : Type 0 where
  pub running : RunningProcess
  pub current_is : current_of seat.unit ≡ Some running
  pub id_is : same_id running.process.id id ≡ true

pub run_seat : (seat after : Seat) (id : ProcId) (from : ℕ)
    → ((g : RunningProcess) → guest_at seat.guests id ≡ Some g → is_request_sense (command_of g.process.cdb) ≡ true)
    → settled_seat_if (Seats.seat_after_run id seat) ≡ Some after
    → (context_of after from ≡ context_of seat from) ⊎ IsCurrentAt after id
run_seat seat after id from senses e = go (guest_at seat.guests id) refl e
  where
    Is : Seat → Type 0
    Is x = (context_of x from ≡ context_of seat from) ⊎ IsCurrentAt x id

    as_guest : (g : RunningProcess) → guest_at seat.guests id ≡ Some g → (q : Bool)
        → settled_seat_if (if q then Some (Seats.seat_with_execution seat g.process
        (execution (context_of seat g.process.initiator) g.process.cdb g.process.sent)) else None) ≡ Some after
        → Is after
    as_guest g eg false z = none_some after z
    as_guest g eg true z =
        let done : Execution = execution (context_of seat g.process.initiator) g.process.cdb g.process.sent in
        let w = sense_executed (context_of seat g.process.initiator) g.process.cdb g.process.sent
        (sense_block_of g.process.cdb (senses g eg)) in
        subst Is (same_Some (settled_seat (Seats.seat_with_execution seat g.process done)) after z)
        (inl (settled_context (Seats.seat_with_execution seat g.process done) from
        ∙ still_context seat g.process done from (λ i. (w i).contents) (λ i. (w i).reported)))

    chosen : (held : Bool) (u : UnitState) (r : RunningProcess) → u.current ≡ Some r
        → (Seats.unit_with_choice held u).current ≡ Some r
    chosen held u r eu =
        (λ i. (if has_no_current (eu i) && not held then with_current u (choice u.pick u.waiting) else u).current) ∙ eu

    current : (u : UnitState) → seat.unit ≡ Some u
        → (r : RunningProcess) → u.current ≡ Some r → same_id r.process.id id ≡ true
        → (done : Execution) → IsCurrentAt (settled_seat (Seats.seat_with_execution seat r.process done)) id
    current u eu r er same done =
        record { running = record r { reply = Some done.reply }; current_is = there; id_is = same }
      where
        new : UnitState
        new = Seats.unit_with_reply r.process.id done.reply (Seats.unit_with_contents done.contents u)

        replied : new.current ≡ Some (record r { reply = Some done.reply })
        replied = (λ i. Steps.current_with_reply (er i) r.process.id done.reply)
            ∙ (λ i. if Rattle.trace_laws.specs.book_laws.proofs.Common.Lookups.self_id r.process.id i
            then Some (record r { reply = Some done.reply }) else Some r)

        there : current_of (settled_seat (Seats.seat_with_execution seat r.process done)).unit
            ≡ Some (record r { reply = Some done.reply })
        there = (λ i. current_of (Seats.unit_mapped (Seats.unit_with_choice (Seats.is_any_held seat.hold))
            (Seats.unit_mapped (Seats.unit_with_reply r.process.id done.reply)
            (Seats.unit_mapped (Seats.unit_with_contents done.contents) (eu i)))))
            ∙ chosen (Seats.is_any_held seat.hold) new (record r { reply = Some done.reply }) replied

    queued : (x : Option UnitState) → seat.unit ≡ x
        → settled_seat_if (Seats.seat_after_run_of seat false (running_if (current_of x) id)) ≡ Some after → Is after
    queued None eu z = none_some after z
    queued (Some u) eu z = by u.current refl z
      where
        by : (o : Option RunningProcess) → u.current ≡ o
            → settled_seat_if (Seats.seat_after_run_of seat false (running_if o id)) ≡ Some after → Is after
        by None er z = none_some after z
        by (Some r) er z = is (same_id r.process.id id) refl z
          where
            runs : same_id r.process.id id ≡ true → (q : Bool)
                → settled_seat_if (if q then Some (Seats.seat_with_execution seat r.process
                (execution (context_of seat r.process.initiator) r.process.cdb r.process.sent)) else None) ≡ Some after
                → Is after
            runs same false y = none_some after y
            runs same true y =
                let done : Execution = execution (context_of seat r.process.initiator) r.process.cdb r.process.sent in
                subst Is (same_Some (settled_seat (Seats.seat_with_execution seat r.process done)) after y)
                (inr (current u eu r er same done))

            is : (q : Bool) → same_id r.process.id id ≡ q
                → settled_seat_if (Seats.seat_after_run_of seat false (if q then Some r else None)) ≡ Some after
                → Is after
            is false same y = none_some after y
            is true same y = runs same (is_none r.reply && (false || not (Seats.is_any_held seat.hold))) y

    go : (o : Option RunningProcess) → guest_at seat.guests id ≡ o → settled_seat_if
        (Seats.seat_after_run_of seat (is_some o) (if is_some o then o else running_if (current_of seat.unit) id))
        ≡ Some after → Is after
    go (Some g) eg z = as_guest g eg (is_none g.reply && (true || not (Seats.is_any_held seat.hold))) z
    go None eg z = queued seat.unit refl z
