-- What a process that has carried data would answer stays as another of its unit ends, and with aborts and RST (7.3,
-- 7.5, 7.8).
use Rattle.right_laws.proofs
use proofs.Names.{ℕ, ◌≡◌, Bool, true, false, ◌&&◌, ◌==◌, ◌∙◌, Option, Some, None, refl, sym, ap, subst, same_Some}
use proofs.Names.{if◌then◌else◌, Event, ProcId, command_of, Sense, GOOD, CHECK_CONDITION, ScenarioValue, storing}
use proofs.Names.{stored_apart, settled_context, end_law, Reply, execution, is_request_sense, Process, process_of, Seat}
use proofs.Names.{context_of, seat_if, seat_of, settled_seat, settled_seat_if, HasSeats, IsSound, is_of_unit, step}
use proofs.{Names.{Array, RunningProcess, UnitState, reply_now, context_same, none_some}, Replies.Same.{place_of}}
use Rattle.due_model.specs.array_model.specs.Seats

-- ---- only REQUEST SENSE answers by the stored sense

by_sensing : (a b : Array) (q : Process) (x : Option Sense) → context_of (seat_of b q.target q.unit) q.initiator
    ≡ storing (context_of (seat_of a q.target q.unit) q.initiator) x
    → is_request_sense (command_of q.cdb) ≡ false → reply_now b q ≡ reply_now a q
by_sensing a b q x e none =
    (λ i. (execution (context_same b q.target q.unit q.initiator i) q.cdb q.sent).reply)
    ∙ (λ i. (execution (e i) q.cdb q.sent).reply)
    ∙ (λ i. (stored_apart (context_of (seat_of a q.target q.unit) q.initiator) x q.cdb q.sent none i).reply)
    ∙ (λ i. (execution (sym (context_same a q.target q.unit q.initiator) i) q.cdb q.sent).reply)

-- ---- as another of its unit ends

abbrev SensesOnly : Seat → ℕ → Option Seat → Type 0
SensesOnly seat from o = (after : Seat) → settled_seat_if o ≡ Some after
    → context_of after from ≡ storing (context_of seat from) (after.senses from)

senses_none : (seat : Seat) (from : ℕ) → SensesOnly seat from None
senses_none seat from after e = none_some after e

senses_some : (seat x : Seat) (from : ℕ) → context_of x from ≡ storing (context_of seat from) (x.senses from)
    → SensesOnly seat from (Some x)
senses_some seat x from same after e = subst
    (λ (z : Seat). context_of z from ≡ storing (context_of seat from) (z.senses from))
    (same_Some (settled_seat x) after e) (settled_context x from ∙ same)

end_context : (seat : Seat) (id : ProcId) (status from : ℕ) → SensesOnly seat from (Seats.seat_after_end id status seat)
end_context seat id status from = go (Seats.running_at seat id)
  where
    without : (x : Option UnitState) (senses : ℕ → Option Sense) (hold : ℕ → Bool) (i : ProcId)
        → context_of (Seats.seat_without (record seat { unit = x; senses = senses; hold = hold }) i) from
        ≡ storing (context_of (record seat { unit = x }) from) (senses from)
    without None senses hold i = refl
    without (Some u) senses hold i = refl

    stated : (c : Process) (reply : Reply) (x y : Bool)
        → SensesOnly seat from (Some (Seats.seat_without (if x then record seat {
          senses = Seats.with_sense_of seat.senses c.initiator (Some reply.sense);
          hold = Seats.with_hold_of seat.hold c.initiator true;
        } else if y then record seat {
          senses = Seats.with_sense_of seat.senses c.initiator None;
          hold = Seats.with_hold_of seat.hold c.initiator false;
        } else seat) c.id))
    stated c reply true y =
        senses_some seat _ from (without seat.unit (Seats.with_sense_of seat.senses c.initiator (Some reply.sense))
        (Seats.with_hold_of seat.hold c.initiator true) c.id)
    stated c reply false true = senses_some seat _ from (without seat.unit
        (Seats.with_sense_of seat.senses c.initiator None) (Seats.with_hold_of seat.hold c.initiator false) c.id)
    stated c reply false false = senses_some seat _ from (without seat.unit seat.senses seat.hold c.id)

    ended : (c : Process) (reply : Reply) (x : Bool) → SensesOnly seat from
        (if x then Some (Seats.seat_without (Seats.seat_after_status seat c reply) c.id) else None)
    ended c reply true =
        stated c reply (reply.status == CHECK_CONDITION) (reply.status == GOOD && is_request_sense (command_of c.cdb))
    ended c reply false = senses_none seat from

    with : (c : Process) (o : Option Reply) → SensesOnly seat from (Seats.seat_after_end_with seat c status o)
    with c None = senses_none seat from
    with c (Some reply) = ended c reply (reply.status == status)

    go : (o : Option RunningProcess) → SensesOnly seat from (Seats.seat_after_end_of seat status o)
    go None = senses_none seat from
    go (Some r) = with r.process r.reply

-- Where this one ends at the unit of another that is no REQUEST SENSE.
pub end_same : (s : ScenarioValue) (a b : Array) (x q : Process) (status : ℕ) → HasSeats s → IsSound s a
    → process_of s x.id ≡ Some x → is_of_unit x q.target q.unit ≡ true → is_request_sense (command_of q.cdb) ≡ false
    → step s (Event.End x.id status) a ≡ Some b → reply_now b q ≡ reply_now a q
end_same s a b x q status seats sound own place none st =
    let at = place_of x q.target q.unit place in
    let law : settled_seat_if (Seats.seat_after_end x.id status (seat_of a x.target x.unit))
    ≡ Some (seat_of b x.target x.unit) = sym (end_law s a x status seats sound own)
    ∙ ap (λ (o : Option Array). seat_if o x.target x.unit) st in
    let same : context_of (seat_of b x.target x.unit) q.initiator
    ≡ storing (context_of (seat_of a x.target x.unit) q.initiator) ((seat_of b x.target x.unit).senses q.initiator) =
    end_context (seat_of a x.target x.unit) x.id status q.initiator (seat_of b x.target x.unit) law in
    by_sensing a b q ((seat_of b q.target q.unit).senses q.initiator)
    (subst (λ (t : ℕ). context_of (seat_of b t q.unit) q.initiator
    ≡ storing (context_of (seat_of a t q.unit) q.initiator) ((seat_of b t q.unit).senses q.initiator)) at.0
    (subst (λ (m : ℕ). context_of (seat_of b x.target m) q.initiator
    ≡ storing (context_of (seat_of a x.target m) q.initiator) ((seat_of b x.target m).senses q.initiator)) at.1 same))
    none
