-- What each event leaves at a seat where no unit is.
use Rattle.std.proofs.Common.{ℕ, ◌≡◌, ◌<◌, Bool, true, false, List, ◌∙◌, refl, sym, subst, Option, Some, None}
use Rattle.std.specs.Prelude.{if◌then◌else◌, ◌&&◌, ◌||◌, ◌==◌, not, is_some, is_none}
use Rattle.std.proofs.lemmas.List.{get_or-replicate}
use Rattle.bus_base.specs.declared.AbortKind.{AbortKind}
use Rattle.bus_base.specs.declared.AbortKind.TheVariants as aborts
use Rattle.bus_base.specs.declared.ProcId.{ProcId}
use Rattle.cdb_codec.specs.declared.Sense.{Sense}
use Rattle.cdb_codec.specs.declared.status.TheConstants.{GOOD, CHECK_CONDITION}
use Rattle.cdb_codec.specs.Cdb.{command_of}
use Rattle.scenario.specs.declared.value.HostDef.{HostDef}
use Rattle.scenario.specs.Value.{ScenarioValue}
use Rattle.array_model.specs.Execution.{Reply, execution, is_request_sense}
use Rattle.array_model.specs.Processes.{Process}
use Rattle.array_model.specs.Units.{RunningProcess, guest_at, starting_array}
use Rattle.array_model.specs.Steps.{running_if, unit_without}
use Rattle.array_model.specs.Seats
use Rattle.array_model.specs.Seats.{Seat, settled_seat}
use Rattle.disk_unit.specs.Plans.{sense_if}
use Rattle.disk_unit.specs.Units.{told_of}
use Rattle.disk_unit.specs.declared.unit.Reply.{Reply as UnitReply}
use Rattle.disk_unit.proofs.Keeping.{set_at, length_set}
use Rattle.target_units.specs.Seated.{IsSensing}
use Rattle.target_units.specs.Absent.{AbsentState, IsAbsentAt, nothing_kept, absent_with, absent_by_guest}
use Rattle.target_units.specs.Absent.{absent_after_guest, absent_after_abort}

-- ---- the choice

settles : (seat : Seat) (v : AbsentState) → IsAbsentAt seat v → IsAbsentAt (settled_seat seat) v
settles seat v h = record {
  none = λ i. Seats.unit_mapped (Seats.unit_with_choice (Seats.is_any_held seat.hold)) (h.none i);
  eight_senses = h.eight_senses;
  eight_held = h.eight_held;
  senses = h.senses;
  held = h.held;
}

by_after : (next after : Seat) (v : AbsentState) → Some next ≡ Some after → IsAbsentAt next v
    → IsAbsentAt (settled_seat after) v
by_after next after v e h =
    let same : next ≡ after = cc in
    settles after v (subst (λ (q : Seat). IsAbsentAt q v) same h)

-- ---- what changes the guests alone

-- A seat with the same senses and hold.
like : (seat next : Seat) (v : AbsentState) → IsAbsentAt seat v → next.unit ≡ None → next.senses ≡ seat.senses
    → next.hold ≡ seat.hold → IsAbsentAt next v
like seat next v h none senses hold = record {
  none = none;
  eight_senses = h.eight_senses;
  eight_held = h.eight_held;
  senses = λ dev lt. h.senses dev lt ∙ (λ i. sym senses i dev);
  held = λ dev lt. h.held dev lt ∙ (λ i. sym hold i dev);
}

pub accepts : (seat after : Seat) (v : AbsentState) (p : Process) → IsAbsentAt seat v
    → Seats.seat_after_accept p seat ≡ Some after → IsAbsentAt (settled_seat after) v
accepts seat after v p h e =
    by_after (Seats.seat_with_guest seat p None) after v ((λ i. Seats.seat_after_accept_at seat p (sym h.none i)) ∙ e)
    (like seat (Seats.seat_with_guest seat p None) v h h.none refl refl)

pub refuses : {A : Type 0} (seat after : Seat) (v : AbsentState) (p : Process) → IsAbsentAt seat v
    → Seats.seat_after_refuse p seat ≡ Some after → A
refuses seat after v p h e =
    let bad : None ≡ Some after = (λ i. Seats.seat_after_refuse_at seat p (sym h.none i)) ∙ e in
    cc

pub runs : (seat after : Seat) (v : AbsentState) (id : ProcId) → IsAbsentAt seat v
    → Seats.seat_after_run id seat ≡ Some after → IsAbsentAt (settled_seat after) v
runs seat after v id h e = go (Seats.running_at seat id) e
  where
    go : (x : Option RunningProcess) → Seats.seat_after_run_of seat (is_some (guest_at seat.guests id)) x ≡ Some after
        → IsAbsentAt (settled_seat after) v
    go None k = cc
    go (Some r) k = ran (is_none r.reply && (is_some (guest_at seat.guests id) || not (Seats.is_any_held seat.hold))) k
      where
        next : Seat
        next = Seats.seat_with_execution seat r.process
            (execution (Seats.context_of seat r.process.initiator) r.process.cdb r.process.sent)

        ran : (y : Bool) → (if y then Some next else None) ≡ Some after → IsAbsentAt (settled_seat after) v
        ran false m = cc
        ran true m = by_after next after v m (like seat next v h (λ i. Seats.unit_mapped (Seats.unit_with_reply
            r.process.id (execution (Seats.context_of seat r.process.initiator) r.process.cdb r.process.sent).reply)
            (Seats.unit_mapped (Seats.unit_with_contents
            (execution (Seats.context_of seat r.process.initiator) r.process.cdb r.process.sent).contents) (h.none i)))
            refl refl)

pub fails : (seat after : Seat) (v : AbsentState) (over : Bool) (p : Process) (reply : Reply) → IsAbsentAt seat v
    → Seats.seat_after_failure over p reply seat ≡ Some after → IsAbsentAt (settled_seat after) v
fails seat after v over p reply h e = go (Seats.running_at seat p.id) e
  where
    given : (y : Bool) → (if y then Some (Seats.seat_with_reply seat p.id reply) else None) ≡ Some after
        → IsAbsentAt (settled_seat after) v
    given false m = cc
    given true m =
        by_after (Seats.seat_with_reply seat p.id reply) after v m (like seat (Seats.seat_with_reply seat p.id reply) v
        h (λ i. Seats.unit_mapped (Seats.unit_with_reply p.id reply) (h.none i)) refl refl)

    fresh : (y : Bool) → (if y then None else Some (Seats.seat_with_guest seat p (Some reply))) ≡ Some after
        → IsAbsentAt (settled_seat after) v
    fresh true m = cc
    fresh false m =
        by_after (Seats.seat_with_guest seat p (Some reply)) after v m
        (like seat (Seats.seat_with_guest seat p (Some reply)) v h h.none refl refl)

    go : (x : Option RunningProcess) → Seats.seat_after_failure_of seat over p reply x ≡ Some after
        → IsAbsentAt (settled_seat after) v
    go (Some r) k = given (is_none r.reply) k
    go None k = fresh (Seats.is_waiting_at seat.unit p.id || over) k

pub loses : (seat after : Seat) (v : AbsentState) (over : Bool) (id : ProcId) → IsAbsentAt seat v
    → Seats.seat_after_loss over id seat ≡ Some after → IsAbsentAt (settled_seat after) v
loses seat after v true id h e = cc
loses seat after v false id h e =
    by_after (Seats.seat_without seat id) after v e
    (like seat (Seats.seat_without seat id) v h (λ i. Seats.unit_mapped (λ u. unit_without u id) (h.none i)) refl refl)

-- No process is current, so none ends but a guest.
pub ends : {A : Type 0} (seat after : Seat) (v : AbsentState) (id : ProcId) (status : ℕ) → IsAbsentAt seat v
    → guest_at seat.guests id ≡ None → Seats.seat_after_end id status seat ≡ Some after → A
ends seat after v id status h none e =
    let bad : None ≡ Some after = (λ i. Seats.seat_after_end_of seat status
    (if is_some (sym none i) then sym none i else running_if (Seats.current_of (sym h.none i)) id)) ∙ e in
    cc

-- ---- a sense and the hold of one initiator

put : (seat next : Seat) (v : AbsentState) (dev : ℕ) (sense : Option Sense) (held : Bool) → IsAbsentAt seat v
    → dev < 8 → next.unit ≡ None → next.senses ≡ Seats.with_sense_of seat.senses dev sense
    → next.hold ≡ Seats.with_hold_of seat.hold dev held → IsAbsentAt next (absent_with v dev sense held)
put seat next v dev sense held h lt none senses hold = record {
  none = none;
  eight_senses = length_set v.senses dev sense h.eight_senses;
  eight_held = length_set v.held dev held h.eight_held;
  senses = λ other m. set_at v.senses dev other sense (seat.senses other) None h.eight_senses lt (h.senses other m)
      ∙ (λ i. sym senses i other);
  held = λ other m. set_at v.held dev other held (seat.hold other) false h.eight_held lt (h.held other m)
      ∙ (λ i. sym hold i other);
}

after_status : (seat : Seat) (v : AbsentState) (p : Process) (reply : Reply) → IsAbsentAt seat v → p.initiator < 8
    → IsAbsentAt (Seats.seat_after_status seat p reply)
    (absent_after_guest v p.initiator (told_of reply) (is_request_sense (command_of p.cdb)))
after_status seat v p reply h lt = go (reply.status == CHECK_CONDITION)
  where
    without : (z : Bool) → IsAbsentAt (if z then record seat {
      senses = Seats.with_sense_of seat.senses p.initiator None;
      hold = Seats.with_hold_of seat.hold p.initiator false;
    } else seat) (if z then absent_with v p.initiator None false else v)
    without true = put seat (record seat {
      senses = Seats.with_sense_of seat.senses p.initiator None;
      hold = Seats.with_hold_of seat.hold p.initiator false;
    }) v p.initiator None false h lt h.none refl refl
    without false = h

    go : (y : Bool) → IsAbsentAt (if y then record seat {
      senses = Seats.with_sense_of seat.senses p.initiator (Some reply.sense);
      hold = Seats.with_hold_of seat.hold p.initiator true;
    } else if reply.status == GOOD && is_request_sense (command_of p.cdb) then record seat {
      senses = Seats.with_sense_of seat.senses p.initiator None;
      hold = Seats.with_hold_of seat.hold p.initiator false;
    } else seat) (absent_by_guest v p.initiator (is_request_sense (command_of p.cdb)) reply.status
        (if y then Some reply.sense else None))
    go true = put seat (record seat {
      senses = Seats.with_sense_of seat.senses p.initiator (Some reply.sense);
      hold = Seats.with_hold_of seat.hold p.initiator true;
    }) v p.initiator (Some reply.sense) true h lt h.none refl refl
    go false = without (reply.status == GOOD && is_request_sense (command_of p.cdb))

absent_sensing : (v : AbsentState) (dev : ℕ) (p : Process) (reply : Reply) (senses : Bool) → IsSensing reply p senses
    → absent_after_guest v dev (told_of reply) (is_request_sense (command_of p.cdb))
    ≡ absent_after_guest v dev (told_of reply) senses
absent_sensing v dev p reply senses h = go (sense_if reply)
  where
    good : (y : Bool) → (y ≡ true → is_request_sense (command_of p.cdb) ≡ senses)
        → (if y && is_request_sense (command_of p.cdb) then absent_with v dev None false else v)
        ≡ (if y && senses then absent_with v dev None false else v)
    good true k = λ i. if k refl i then absent_with v dev None false else v
    good false k = refl

    go : (x : Option Sense) → absent_by_guest v dev (is_request_sense (command_of p.cdb)) reply.status x
        ≡ absent_by_guest v dev senses reply.status x
    go (Some sense) = refl
    go None = good (reply.status == GOOD) h

pub guest_ends : (seat after : Seat) (v : AbsentState) (status : ℕ) (id : ProcId) (p : Process)
    (given : Reply) (from : ℕ) (reply : UnitReply) (senses : Bool) → from < 8 → IsAbsentAt seat v
    → guest_at seat.guests id ≡ Some (record { process = p; reply = Some given }) → p.initiator ≡ from
    → reply ≡ told_of given → IsSensing given p senses → Seats.seat_after_end id status seat ≡ Some after
    → IsAbsentAt (settled_seat after) (absent_after_guest v from reply senses)
guest_ends seat after v status id p given from reply senses lt h g same told sense e =
    let seen :
    (if given.status == status then Some (Seats.seat_without (Seats.seat_after_status seat p given) p.id) else None)
    ≡ Some after = (λ i. Seats.seat_after_end_of seat status
    (if is_some (sym g i) then sym g i else running_if (Seats.current_of seat.unit) id)) ∙ e in
    let kept : IsAbsentAt (Seats.seat_after_status seat p given) (absent_after_guest v from reply senses) = subst
    (λ (w : AbsentState). IsAbsentAt (Seats.seat_after_status seat p given) w)
    ((λ i. absent_after_guest v (same i) (told_of given) (is_request_sense (command_of p.cdb)))
    ∙ absent_sensing v from p given senses sense ∙ (λ i. absent_after_guest v from (sym told i) senses))
    (after_status seat v p given h (subst (λ (n : ℕ). n < 8) (sym same) lt)) in
    go (given.status == status) seen kept
  where
    go : (y : Bool)
        → (if y then Some (Seats.seat_without (Seats.seat_after_status seat p given) p.id) else None) ≡ Some after
        → IsAbsentAt (Seats.seat_after_status seat p given) (absent_after_guest v from reply senses)
        → IsAbsentAt (settled_seat after) (absent_after_guest v from reply senses)
    go false k kept = cc
    go true k kept = by_after (Seats.seat_without (Seats.seat_after_status seat p given) p.id) after
        (absent_after_guest v from reply senses) k (like (Seats.seat_after_status seat p given)
        (Seats.seat_without (Seats.seat_after_status seat p given) p.id) (absent_after_guest v from reply senses) kept
        (λ i. Seats.unit_mapped (λ u. unit_without u p.id) (kept.none i)) refl refl)

-- ---- aborts and resets

all_gone : (seat : Seat) → seat.unit ≡ None → ((dev : ℕ) → seat.senses dev ≡ None) → ((dev : ℕ) → seat.hold dev ≡ false)
    → IsAbsentAt seat nothing_kept
all_gone seat none senses hold = record {
  none = none;
  eight_senses = refl;
  eight_held = refl;
  senses = λ dev lt. get_or-replicate 8 dev None None lt ∙ sym (senses dev);
  held = λ dev lt. get_or-replicate 8 dev false false lt ∙ sym (hold dev);
}

pub resets : (hosts : List HostDef) (seat : Seat) (v : AbsentState) → IsAbsentAt seat v
    → IsAbsentAt (settled_seat (Seats.seat_after_reset hosts seat)) nothing_kept
resets hosts seat v h =
    settles (Seats.seat_after_reset hosts seat) nothing_kept (all_gone (Seats.seat_after_reset hosts seat)
    (λ i. Seats.unit_mapped (Seats.unit_kept (λ p. true)) (h.none i)) (λ dev. refl) (λ dev. refl))

pub aborted :
    (hosts : List HostDef) (seat : Seat) (v : AbsentState) (kind : AbortKind) (by : ℕ) → by < 8 → IsAbsentAt seat v
    → IsAbsentAt (settled_seat (Seats.seat_after_aborted hosts by kind seat)) (absent_after_abort kind by v)
aborted hosts seat v aborts.All by lt h = settles (Seats.seat_after_abort by seat)
    (absent_with v by None false) (put seat (Seats.seat_after_abort by seat) v by None false h lt
    (λ i. Seats.unit_mapped (Seats.unit_kept (λ p. p.initiator == by)) (h.none i)) refl refl)
aborted hosts seat v (aborts.Tag n) by lt h = settles (Seats.seat_after_abort_tag by n seat) v
    (like seat (Seats.seat_after_abort_tag by n seat) v h (λ i. Seats.unit_mapped
    (Seats.unit_kept (λ p. p.initiator == by && Rattle.array_model.specs.Steps.has_tag p.tag n)) (h.none i)) refl refl)
aborted hosts seat v aborts.WholeQueue by lt h =
    settles (Seats.seat_after_clear_queue by seat) v (like seat (Seats.seat_after_clear_queue by seat) v h
    (λ i. Seats.unit_mapped (Seats.unit_kept (λ p. true)) (h.none i)) refl refl)
aborted hosts seat v aborts.Device by lt h = resets hosts seat v h

-- ---- the start

pub starts : (s : ScenarioValue) (dev n : ℕ) → (Seats.seat_of (starting_array s) dev n).unit ≡ None
    → IsAbsentAt (Seats.seat_of (starting_array s) dev n) nothing_kept
starts s dev n none = all_gone (Seats.seat_of (starting_array s) dev n) none (λ other. refl) (λ other. refl)
