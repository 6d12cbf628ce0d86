-- What the step of each event leaves of the seat of its process, and of any other.
use Rattle.std.proofs.Common.{ℕ, ◌≡◌, Bool, true, false, List, [], ◌∷◌, ◌++◌, ◌∙◌, refl, sym, ap, subst, Option, Some}
use Rattle.std.proofs.Common.{None}
use Rattle.std.specs.Prelude.{if◌then◌else◌, not, ◌&&◌, ◌||◌, ◌==◌, is_some, is_none, nat_lt}
use Rattle.bus_base.specs.declared.ProcId.{ProcId}
use Rattle.cdb_codec.specs.declared.status.TheConstants.{GOOD, CHECK_CONDITION}
use Rattle.cdb_codec.specs.Cdb.{command_of}
use Rattle.scenario.specs.Value.{ScenarioValue}
use Rattle.array_model.specs.Contents.{Contents}
use Rattle.array_model.specs.Processes.{Process, process_of}
use Rattle.array_model.specs.Execution.{Reply, Execution, execution, is_request_sense, queue_full}
use Rattle.array_model.specs.Units.{RunningProcess, UnitState, Nexus, Array, same_nexus, sense_of_nexus, senses_without}
use Rattle.array_model.specs.Units.{nexuses_without, is_held, unit_state_at, with_unit, guest_at, nexus_of}
use Rattle.array_model.specs.Steps.{process_count, with_guest, with_listed_reply, accept_step_at, refuse_step_at}
use Rattle.array_model.specs.Steps.{context_at, with_contents, without_attention, with_reply, after_execution}
use Rattle.array_model.specs.Steps.{after_execution_at, run_step, running_process, fail_step, fail_step_of_new}
use Rattle.array_model.specs.Steps.{units_with_reply, units_without, guests_with_reply, array_without, after_status}
use Rattle.array_model.specs.Steps.{end_step, end_step_with, loss_step, has_ended, is_waiting, unit_without, is_of_unit}
use Rattle.array_model.specs.Steps.{settled_array_if}
use Rattle.array_model.specs.Seats
use Rattle.array_model.specs.SoundArray.{IsOwnUnit, AllOwnGuests, AllOfEight, IsSound}
use Rattle.array_model.proofs.SeatLookups.{senses_without_at, sense_put_at, nexuses_without_at, nexus_put_at, mapped_at}
use Rattle.array_model.proofs.SeatLookups.{replies_map, without_map, is_place, found_target, found_unit, place_is}
use Rattle.array_model.proofs.SeatLookups.{with_unit_at, guests_at_append, guests_at_without}
use Rattle.array_model.proofs.SeatSteps.{held_at, seat_settled}
use Rattle.array_model.proofs.SeatOwn.{of_own, guest_own, guest_is, guests_replied_own, guests_replied_other}
use Rattle.array_model.proofs.SeatOwn.{guests_without_other, own_found, running_unit, running_is, replied_other}
use Rattle.array_model.proofs.SeatOwn.{without_other, waiting_unit}

-- ---- a seat after the choice

pub settled_if : (x : Option Array) (t n : ℕ) → ((b : Array) → x ≡ Some b → AllOfEight b.holds)
    → Seats.seat_if (settled_array_if x) t n ≡ Seats.settled_seat_if (Seats.seat_if x t n)
settled_if None t n h = refl
settled_if (Some b) t n h = ap (λ (seat : Seats.Seat). Some seat) (seat_settled b t n (h b refl))

-- ---- parts of a seat

guest_added : (a : Array) (p : Process) (reply : Option Reply)
    → Seats.seat_of (with_guest a p reply) p.target p.unit
    ≡ Seats.seat_with_guest (Seats.seat_of a p.target p.unit) p reply
guest_added a p reply = λ i. record (Seats.seat_of a p.target p.unit) { guests = one i }
  where
    one : Seats.guests_at (a.guests ++ record { process = p; reply = reply } ∷ []) p.target p.unit
        ≡ Seats.guests_at a.guests p.target p.unit ++ record { process = p; reply = reply } ∷ []
    one = guests_at_append a.guests (record { process = p; reply = reply }) p.target p.unit ∙ (λ i.
        if of_own p i then Seats.guests_at a.guests p.target p.unit ++ record { process = p; reply = reply } ∷ []
        else Seats.guests_at a.guests p.target p.unit)

guest_elsewhere : (a : Array) (p : Process) (reply : Option Reply) (t n : ℕ) → is_of_unit p t n ≡ false
    → Seats.seat_of (with_guest a p reply) t n ≡ Seats.seat_of a t n
guest_elsewhere a p reply t n o = λ i. record (Seats.seat_of a t n) { guests = one i }
  where
    one : Seats.guests_at (a.guests ++ record { process = p; reply = reply } ∷ []) t n ≡ Seats.guests_at a.guests t n
    one = guests_at_append a.guests (record { process = p; reply = reply }) t n
        ∙ (λ i. if o i then Seats.guests_at a.guests t n ++ record { process = p; reply = reply } ∷ []
        else Seats.guests_at a.guests t n)

-- A unit is replaced.
unit_replaced : (units : List UnitState) (new : UnitState) (t n : ℕ) (u : UnitState) → unit_state_at units t n ≡ Some u
    → new.target ≡ u.target → new.unit ≡ u.unit → unit_state_at (with_unit units new) t n ≡ Some new
unit_replaced units new t n u z a b =
    let place : is_place new t n ≡ true = place_is new t n
    (a ∙ found_target units t n u z) (b ∙ found_unit units t n u z) in
    with_unit_at units new t n
    ∙ (λ i. if place i then (if is_some (z i) then Some new else None) else unit_state_at units t n)

is_other : (p : Process) (t n : ℕ) (u : UnitState) → u.target ≡ p.target → u.unit ≡ p.unit → is_of_unit p t n ≡ false
    → is_place u t n ≡ false
is_other p t n u a b o = (λ i. a i == t && b i == n) ∙ o

unit_unchanged : (units : List UnitState) (new : UnitState) (t n : ℕ) → is_place new t n ≡ false
    → unit_state_at (with_unit units new) t n ≡ unit_state_at units t n
unit_unchanged units new t n o = with_unit_at units new t n
    ∙ (λ i. if o i then (if is_some (unit_state_at units t n) then Some new else None) else unit_state_at units t n)

-- ---- a command arrives

pub accepted_own : (a : Array) (p : Process)
    → Seats.seat_if (accept_step_at a p (unit_state_at a.units p.target p.unit)) p.target p.unit
    ≡ Seats.seat_after_accept p (Seats.seat_of a p.target p.unit)
accepted_own a p = go (unit_state_at a.units p.target p.unit) refl
  where
    seat : Seats.Seat
    seat = Seats.seat_of a p.target p.unit

    waits : (u : UnitState) → unit_state_at a.units p.target p.unit ≡ Some u → (y : Bool) → Seats.seat_if
        (if y then Some (record a { units = with_unit a.units (record u { waiting = u.waiting ++ p ∷ [] }) }) else None)
        p.target p.unit ≡ (if y then Some (record (Seats.seat_of a p.target p.unit) {
          unit = Some (record u { waiting = u.waiting ++ p ∷ [] });
        }) else None)
    waits u z true = λ i. Some (record (Seats.seat_of a p.target p.unit) {
      unit = unit_replaced a.units (record u { waiting = u.waiting ++ p ∷ [] }) p.target p.unit u z refl refl i;
    })
    waits u z false = refl

    either : (u : UnitState) → unit_state_at a.units p.target p.unit ≡ Some u → (x : Bool) → Seats.seat_if
        (if x then Some (with_guest a p None) else (if nat_lt (process_count u) u.depth then Some (record a {
          units = with_unit a.units (record u { waiting = u.waiting ++ p ∷ [] });
        }) else None)) p.target p.unit
        ≡ (if x then Some (Seats.seat_with_guest (Seats.seat_of a p.target p.unit) p None)
        else Seats.seat_with_waiting (Seats.seat_of a p.target p.unit) p u)
    either u z true = ap (λ (s : Seats.Seat). Some s) (guest_added a p None)
    either u z false = waits u z (nat_lt (process_count u) u.depth)

    go : (x : Option UnitState) → unit_state_at a.units p.target p.unit ≡ x
        → Seats.seat_if (accept_step_at a p x) p.target p.unit
        ≡ Seats.seat_after_accept_at (Seats.seat_of a p.target p.unit) p x
    go None z = ap (λ (s : Seats.Seat). Some s) (guest_added a p None)
    go (Some u) z = either u z (is_request_sense (command_of p.cdb))

pub accepted_other : (a b : Array) (p : Process) (t n : ℕ) → is_of_unit p t n ≡ false
    → accept_step_at a p (unit_state_at a.units p.target p.unit) ≡ Some b → Seats.seat_of b t n ≡ Seats.seat_of a t n
accepted_other a b p t n o h = go (unit_state_at a.units p.target p.unit) refl h
  where
    took : (c : Array) → Some c ≡ Some b → Seats.seat_of c t n ≡ Seats.seat_of a t n
        → Seats.seat_of b t n ≡ Seats.seat_of a t n
    took c e k = let same : c ≡ b = cc in (λ i. Seats.seat_of (sym same i) t n) ∙ k

    waits : (u : UnitState) → unit_state_at a.units p.target p.unit ≡ Some u → (y : Bool)
        → (if y then Some (record a { units = with_unit a.units (record u { waiting = u.waiting ++ p ∷ [] }) })
        else None) ≡ Some b → Seats.seat_of b t n ≡ Seats.seat_of a t n
    waits u z true e = took (record a {
      units = with_unit a.units (record u { waiting = u.waiting ++ p ∷ [] });
    }) e (λ i. record (Seats.seat_of a t n) {
      unit = unit_unchanged a.units (record u { waiting = u.waiting ++ p ∷ [] }) t n
          (is_other p t n u (found_target a.units p.target p.unit u z) (found_unit a.units p.target p.unit u z) o) i;
    })
    waits u z false e = cc

    either : (u : UnitState) → unit_state_at a.units p.target p.unit ≡ Some u → (x : Bool)
        → (if x then Some (with_guest a p None) else (if nat_lt (process_count u) u.depth then Some (record a {
          units = with_unit a.units (record u { waiting = u.waiting ++ p ∷ [] });
        }) else None)) ≡ Some b → Seats.seat_of b t n ≡ Seats.seat_of a t n
    either u z true e = took (with_guest a p None) e (guest_elsewhere a p None t n o)
    either u z false e = waits u z (nat_lt (process_count u) u.depth) e

    go : (x : Option UnitState) → unit_state_at a.units p.target p.unit ≡ x → accept_step_at a p x ≡ Some b
        → Seats.seat_of b t n ≡ Seats.seat_of a t n
    go None z e = took (with_guest a p None) e (guest_elsewhere a p None t n o)
    go (Some u) z e = either u z (is_request_sense (command_of p.cdb)) e

pub refused_own : (a : Array) (p : Process)
    → Seats.seat_if (refuse_step_at a p (unit_state_at a.units p.target p.unit)) p.target p.unit
    ≡ Seats.seat_after_refuse p (Seats.seat_of a p.target p.unit)
refused_own a p = go (unit_state_at a.units p.target p.unit)
  where
    either : (x : Bool) → Seats.seat_if
        (if x then Some (with_listed_reply (with_guest a p (Some queue_full)) p.id queue_full) else None)
        p.target p.unit
        ≡ (if x then Some (Seats.seat_with_guest (Seats.seat_of a p.target p.unit) p (Some queue_full)) else None)
    either true = ap (λ (s : Seats.Seat). Some s) (guest_added a p (Some queue_full))
    either false = refl

    go : (x : Option UnitState) → Seats.seat_if (refuse_step_at a p x) p.target p.unit
        ≡ Seats.seat_after_refuse_at (Seats.seat_of a p.target p.unit) p x
    go None = refl
    go (Some u) = either (not (is_request_sense (command_of p.cdb)) && process_count u == u.depth)

pub refused_other : (a b : Array) (p : Process) (t n : ℕ) → is_of_unit p t n ≡ false
    → refuse_step_at a p (unit_state_at a.units p.target p.unit) ≡ Some b → Seats.seat_of b t n ≡ Seats.seat_of a t n
refused_other a b p t n o h = go (unit_state_at a.units p.target p.unit) h
  where
    either : (x : Bool)
        → (if x then Some (with_listed_reply (with_guest a p (Some queue_full)) p.id queue_full) else None) ≡ Some b
        → Seats.seat_of b t n ≡ Seats.seat_of a t n
    either true e =
        let same : with_listed_reply (with_guest a p (Some queue_full)) p.id queue_full ≡ b = cc in
        (λ i. Seats.seat_of (sym same i) t n) ∙ guest_elsewhere a p (Some queue_full) t n o
    either false e = cc

    go : (x : Option UnitState) → refuse_step_at a p x ≡ Some b → Seats.seat_of b t n ≡ Seats.seat_of a t n
    go None e = cc
    go (Some u) e = either (not (is_request_sense (command_of p.cdb)) && process_count u == u.depth) e

-- ---- the process of a number

pub running_own : (s : ScenarioValue) (a : Array) (id : ProcId) (p : Process) → IsSound s a → process_of s id ≡ Some p
    → running_process a id ≡ Seats.running_at (Seats.seat_of a p.target p.unit) id
running_own s a id p b e =
    λ i. if is_some (guest_own s a.guests id p b.guests e i) then guest_own s a.guests id p b.guests e i
    else running_unit s a.units id p b.units b.apart e i

pub running_process_is : (s : ScenarioValue) (a : Array) (id : ProcId) (p : Process) (r : RunningProcess) → IsSound s a
    → process_of s id ≡ Some p → running_process a id ≡ Some r → p ≡ r.process
running_process_is s a id p r b e h = go (guest_at a.guests id) refl h
  where
    go : (x : Option RunningProcess) → guest_at a.guests id ≡ x
        → (if is_some x then x else Rattle.array_model.specs.Steps.running_in a.units id) ≡ Some r → p ≡ r.process
    go None z k = running_is s a.units id p r b.units e k
    go (Some g) z k = guest_is s a.guests id p r b.guests e (z ∙ k)

-- ---- a reply

replied_own : (s : ScenarioValue) (a : Array) (id : ProcId) (p : Process) (reply : Reply)
    → AllOwnGuests s a.guests → process_of s id ≡ Some p → Seats.seat_of (with_reply a id reply) p.target p.unit
    ≡ Seats.seat_with_reply (Seats.seat_of a p.target p.unit) id reply
replied_own s a id p reply b e = λ i. record (Seats.seat_of a p.target p.unit) {
  unit = ((λ j. unit_state_at (replies_map a.units id reply j) p.target p.unit)
      ∙ mapped_at (Seats.unit_with_reply id reply) (λ u. refl) (λ u. refl) a.units p.target p.unit) i;
  guests = guests_replied_own s a.guests id p reply b e i;
}

pub turned : (p : Process) (t n : ℕ) (u : UnitState) → u.target ≡ t → u.unit ≡ n → is_of_unit p t n ≡ false
    → is_place u p.target p.unit ≡ false
turned p t n u a b o = go (is_place u p.target p.unit) refl
  where
    go : (x : Bool) → is_place u p.target p.unit ≡ x → is_place u p.target p.unit ≡ false
    go false z = z
    go true z =
        let one : u.target ≡ p.target = found_target (u ∷ []) p.target p.unit u (λ i. if z i then Some u else None) in
        let two : u.unit ≡ p.unit = found_unit (u ∷ []) p.target p.unit u (λ i. if z i then Some u else None) in
        let yes : is_of_unit p t n ≡ true = (λ i. p.target == (sym a ∙ one) i && p.unit == (sym b ∙ two) i)
        ∙ of_own p in
        let no : true ≡ false = sym yes ∙ o in
        cc

replied_elsewhere : (s : ScenarioValue) (a : Array) (id : ProcId) (p : Process) (reply : Reply) (t n : ℕ)
    → ((u : UnitState) → unit_state_at a.units t n ≡ Some u → IsOwnUnit s u) → AllOwnGuests s a.guests
    → process_of s id ≡ Some p → is_of_unit p t n ≡ false
    → Seats.seat_of (with_reply a id reply) t n ≡ Seats.seat_of a t n
replied_elsewhere s a id p reply t n c b e o = λ i. record (Seats.seat_of a t n) {
  unit = ((λ j. unit_state_at (replies_map a.units id reply j) t n)
      ∙ mapped_at (Seats.unit_with_reply id reply) (λ u. refl) (λ u. refl) a.units t n
      ∙ go (unit_state_at a.units t n) refl) i;
  guests = guests_replied_other s a.guests id p reply t n b e o i;
}
  where
    go : (x : Option UnitState) → unit_state_at a.units t n ≡ x
        → Seats.unit_mapped (Seats.unit_with_reply id reply) x ≡ x
    go None z = refl
    go (Some u) z = ap (λ (v : UnitState). Some v) (replied_other s u id p reply (c u z) e
        (turned p t n u (found_target a.units t n u z) (found_unit a.units t n u z) o))

-- ---- by initiator

nexus_own : (p : Process) (k : ℕ) → same_nexus (nexus_of p) (Seats.nexus_at p.target p.unit k) ≡ (p.initiator == k)
nexus_own p k = (λ i. (p.initiator == k) && of_own p i) ∙ go (p.initiator == k)
  where
    go : (x : Bool) → (x && true) ≡ x
    go true = refl
    go false = refl

nexus_elsewhere : (p : Process) (t n k : ℕ) → is_of_unit p t n ≡ false
    → same_nexus (nexus_of p) (Seats.nexus_at t n k) ≡ false
nexus_elsewhere p t n k o = (λ i. (p.initiator == k) && o i) ∙ go (p.initiator == k)
  where
    go : (x : Bool) → (x && false) ≡ false
    go true = refl
    go false = refl

-- ---- a command runs

contents_put : (a : Array) (p : Process) (contents : Contents) (reported : Bool) → Seats.seat_of
    (with_contents (without_attention a reported (nexus_of p)) (unit_state_at a.units p.target p.unit) contents)
    p.target p.unit ≡ record (Seats.seat_of a p.target p.unit) {
      unit = Seats.unit_mapped (Seats.unit_with_contents contents) (unit_state_at a.units p.target p.unit);
      attentions =
          if reported then Seats.with_sense_of (Seats.seat_of a p.target p.unit).attentions p.initiator None
          else (Seats.seat_of a p.target p.unit).attentions;
    }
contents_put a p contents reported = go reported (unit_state_at a.units p.target p.unit) refl
  where
    gone : (k : ℕ) → sense_of_nexus (senses_without a.attentions (nexus_of p)) (Seats.nexus_at p.target p.unit k)
        ≡ (if p.initiator == k then None else sense_of_nexus a.attentions (Seats.nexus_at p.target p.unit k))
    gone k = senses_without_at a.attentions (nexus_of p) (Seats.nexus_at p.target p.unit k)
        ∙ (λ i. if nexus_own p k i then None else sense_of_nexus a.attentions (Seats.nexus_at p.target p.unit k))

    go : (r : Bool) (x : Option UnitState) → unit_state_at a.units p.target p.unit ≡ x
        → Seats.seat_of (with_contents (without_attention a r (nexus_of p)) x contents) p.target p.unit
        ≡ record (Seats.seat_of a p.target p.unit) {
          unit = Seats.unit_mapped (Seats.unit_with_contents contents) x;
          attentions =
              if r then Seats.with_sense_of (Seats.seat_of a p.target p.unit).attentions p.initiator None
              else (Seats.seat_of a p.target p.unit).attentions;
        }
    go true None z = λ i. record (Seats.seat_of a p.target p.unit) { unit = z i; attentions = λ k. gone k i }
    go false None z = λ i. record (Seats.seat_of a p.target p.unit) { unit = z i }
    go true (Some u) z = λ i. record (Seats.seat_of a p.target p.unit) {
      unit = unit_replaced a.units (record u { contents = contents }) p.target p.unit u z refl refl i;
      attentions = λ k. gone k i;
    }
    go false (Some u) z = λ i. record (Seats.seat_of a p.target p.unit) {
      unit = unit_replaced a.units (record u { contents = contents }) p.target p.unit u z refl refl i;
    }

contents_elsewhere : (a : Array) (p : Process) (contents : Contents) (reported : Bool) (t n : ℕ)
    → is_of_unit p t n ≡ false → Seats.seat_of
    (with_contents (without_attention a reported (nexus_of p)) (unit_state_at a.units p.target p.unit) contents) t n
    ≡ Seats.seat_of a t n
contents_elsewhere a p contents reported t n o = go reported (unit_state_at a.units p.target p.unit) refl
  where
    kept : (k : ℕ) → sense_of_nexus (senses_without a.attentions (nexus_of p)) (Seats.nexus_at t n k)
        ≡ sense_of_nexus a.attentions (Seats.nexus_at t n k)
    kept k = senses_without_at a.attentions (nexus_of p) (Seats.nexus_at t n k)
        ∙ (λ i. if nexus_elsewhere p t n k o i then None else sense_of_nexus a.attentions (Seats.nexus_at t n k))

    go : (r : Bool) (x : Option UnitState) → unit_state_at a.units p.target p.unit ≡ x
        → Seats.seat_of (with_contents (without_attention a r (nexus_of p)) x contents) t n ≡ Seats.seat_of a t n
    go true None z = λ i. record (Seats.seat_of a t n) { attentions = λ k. kept k i }
    go false None z = refl
    go true (Some u) z = λ i. record (Seats.seat_of a t n) {
      unit = unit_unchanged a.units (record u { contents = contents }) t n
          (is_other p t n u (found_target a.units p.target p.unit u z) (found_unit a.units p.target p.unit u z) o) i;
      attentions = λ k. kept k i;
    }
    go false (Some u) z = λ i. record (Seats.seat_of a t n) {
      unit = unit_unchanged a.units (record u { contents = contents }) t n
          (is_other p t n u (found_target a.units p.target p.unit u z) (found_unit a.units p.target p.unit u z) o) i;
    }

pub guests_kept : (a : Array) (p : Process) (contents : Contents) (r : Bool) (x : Option UnitState)
    → (with_contents (without_attention a r (nexus_of p)) x contents).guests ≡ a.guests
guests_kept a p contents true None = refl
guests_kept a p contents false None = refl
guests_kept a p contents true (Some u) = refl
guests_kept a p contents false (Some u) = refl

pub context_same : (a : Array) (p : Process) → context_at a (nexus_of p) (unit_state_at a.units p.target p.unit)
    ≡ Seats.context_of (Seats.seat_of a p.target p.unit) p.initiator
context_same a p = go (unit_state_at a.units p.target p.unit)
  where
    go : (x : Option UnitState) → context_at a (nexus_of p) x ≡ record {
      present = is_some x;
      contents = Seats.contents_of x;
      stored = sense_of_nexus a.senses (nexus_of p);
      attention = sense_of_nexus a.attentions (nexus_of p);
    }
    go None = refl
    go (Some u) = refl

executed_own : (s : ScenarioValue) (a : Array) (p : Process) (done : Execution)
    → AllOwnGuests s a.guests → process_of s p.id ≡ Some p
    → Seats.seat_of (after_execution a p (unit_state_at a.units p.target p.unit) done) p.target p.unit
    ≡ Seats.seat_with_execution (Seats.seat_of a p.target p.unit) p done
executed_own s a p done b e =
    let u : Option UnitState = unit_state_at a.units p.target p.unit in
    replied_own s (with_contents (without_attention a done.reported (nexus_of p)) u done.contents) p.id p done.reply
    (subst (λ (gs : List RunningProcess). AllOwnGuests s gs) (sym (guests_kept a p done.contents done.reported u)) b) e
    ∙ ap (λ (seat : Seats.Seat). Seats.seat_with_reply seat p.id done.reply)
    (contents_put a p done.contents done.reported)

pub run_own : (s : ScenarioValue) (a : Array) (id : ProcId) (p : Process)
    → IsSound s a → process_of s id ≡ Some p → process_of s p.id ≡ Some p
    → Seats.seat_if (run_step a (is_some (guest_at a.guests id)) (running_process a id)) p.target p.unit
    ≡ Seats.seat_after_run id (Seats.seat_of a p.target p.unit)
run_own s a id p b e f = go (running_process a id) (running_process_is s a id p) (is_some (guest_at a.guests id))
    ∙ (λ i. Seats.seat_after_run_of (Seats.seat_of a p.target p.unit) (is_some (guest_own s a.guests id p b.guests e i))
    (running_own s a id p b e i))
  where
    tested : (x : Bool) → Seats.seat_if
        (if x then Some (after_execution_at a p (unit_state_at a.units p.target p.unit)) else None) p.target p.unit
        ≡ (if x then Some (Seats.seat_with_execution (Seats.seat_of a p.target p.unit) p
        (execution (Seats.context_of (Seats.seat_of a p.target p.unit) p.initiator) p.cdb p.sent)) else None)
    tested true = ap (λ (seat : Seats.Seat). Some seat) (executed_own s a p
        (execution (context_at a (nexus_of p) (unit_state_at a.units p.target p.unit)) p.cdb p.sent) b.guests f
        ∙ (λ i. Seats.seat_with_execution (Seats.seat_of a p.target p.unit) p
        (execution (context_same a p i) p.cdb p.sent)))
    tested false = refl

    with_own : (guest : Bool) (reply : Option Reply)
        → Seats.seat_if (run_step a guest (Some (record { process = p; reply = reply }))) p.target p.unit
        ≡ Seats.seat_after_run_of (Seats.seat_of a p.target p.unit) guest (Some (record { process = p; reply = reply }))
    with_own guest reply = tested (is_none reply && (guest || not (is_held a.holds p.target p.unit)))
        ∙ (λ i. if is_none reply && (guest || not (held_at a.holds p.target p.unit b.holds i))
        then Some (Seats.seat_with_execution (Seats.seat_of a p.target p.unit) p
        (execution (Seats.context_of (Seats.seat_of a p.target p.unit) p.initiator) p.cdb p.sent)) else None)

    go : (x : Option RunningProcess)
        → ((r : RunningProcess) → IsSound s a → process_of s id ≡ Some p → x ≡ Some r → p ≡ r.process) → (guest : Bool)
        → Seats.seat_if (run_step a guest x) p.target p.unit
        ≡ Seats.seat_after_run_of (Seats.seat_of a p.target p.unit) guest x
    go None k guest = refl
    go (Some r) k guest = subst (λ (q : Process).
        Seats.seat_if (run_step a guest (Some (record { process = q; reply = r.reply }))) p.target p.unit
        ≡ Seats.seat_after_run_of (Seats.seat_of a p.target p.unit) guest
        (Some (record { process = q; reply = r.reply }))) (k r b e refl) (with_own guest r.reply)

run_own_of : (s : ScenarioValue) (a : Array) (p : Process) → IsSound s a → process_of s p.id ≡ Some p
    → Seats.seat_if (run_step a (is_some (guest_at a.guests p.id)) (running_process a p.id)) p.target p.unit
    ≡ Seats.seat_after_run p.id (Seats.seat_of a p.target p.unit)
run_own_of s a p b e = run_own s a p.id p b e e

executed_elsewhere : (s : ScenarioValue) (a : Array) (p : Process) (done : Execution) (t n : ℕ)
    → IsSound s a → process_of s p.id ≡ Some p → is_of_unit p t n ≡ false
    → Seats.seat_of (after_execution a p (unit_state_at a.units p.target p.unit) done) t n ≡ Seats.seat_of a t n
executed_elsewhere s a p done t n b e o =
    let x : Option UnitState = unit_state_at a.units p.target p.unit in
    let c : Array = with_contents (without_attention a done.reported (nexus_of p)) x done.contents in
    let same : Seats.seat_of c t n ≡ Seats.seat_of a t n = contents_elsewhere a p done.contents done.reported t n o in
    replied_elsewhere s c p.id p done.reply t n (λ u z. own_found s a.units t n u b.units
    ((λ i. (sym same i).unit) ∙ z)) (subst (λ (gs : List RunningProcess). AllOwnGuests s gs)
    (sym (guests_kept a p done.contents done.reported x)) b.guests) e o
    ∙ same

pub run_other : (s : ScenarioValue) (a b : Array) (p : Process) (t n : ℕ) → IsSound s a → process_of s p.id ≡ Some p
    → is_of_unit p t n ≡ false → run_step a (is_some (guest_at a.guests p.id)) (running_process a p.id) ≡ Some b
    → Seats.seat_of b t n ≡ Seats.seat_of a t n
run_other s a b p t n c e o h =
    go (running_process a p.id) (running_process_is s a p.id p) (is_some (guest_at a.guests p.id)) h
  where
    tested : (x : Bool)
        → (if x then Some (after_execution_at a p (unit_state_at a.units p.target p.unit)) else None) ≡ Some b
        → Seats.seat_of b t n ≡ Seats.seat_of a t n
    tested true k =
        let same : after_execution_at a p (unit_state_at a.units p.target p.unit) ≡ b = cc in
        (λ i. Seats.seat_of (sym same i) t n) ∙ executed_elsewhere s a p
        (execution (context_at a (nexus_of p) (unit_state_at a.units p.target p.unit)) p.cdb p.sent) t n c e o
    tested false k = cc

    go : (x : Option RunningProcess)
        → ((r : RunningProcess) → IsSound s a → process_of s p.id ≡ Some p → x ≡ Some r → p ≡ r.process)
        → (guest : Bool) → run_step a guest x ≡ Some b → Seats.seat_of b t n ≡ Seats.seat_of a t n
    go None k guest l = cc
    go (Some r) k guest l = tested (is_none r.reply && (guest || not (is_held a.holds p.target p.unit)))
        (subst (λ (q : Process). run_step a guest (Some (record { process = q; reply = r.reply })) ≡ Some b)
        (sym (k r c e refl)) l)

-- ---- a command fails

pub failed_own : (s : ScenarioValue) (a : Array) (p : Process) (reply : Reply) → IsSound s a
    → process_of s p.id ≡ Some p → Seats.seat_if (fail_step s a p.id reply (running_process a p.id)) p.target p.unit
    ≡ Seats.seat_after_failure (has_ended a p.id) p reply (Seats.seat_of a p.target p.unit)
failed_own s a p reply b e = go (running_process a p.id) ∙ (λ i. Seats.seat_after_failure_of
    (Seats.seat_of a p.target p.unit) (has_ended a p.id) p reply (running_own s a p.id p b e i))
  where
    replied : (x : Bool) → Seats.seat_if (if x then Some (with_reply a p.id reply) else None) p.target p.unit
        ≡ (if x then Some (Seats.seat_with_reply (Seats.seat_of a p.target p.unit) p.id reply) else None)
    replied true = ap (λ (seat : Seats.Seat). Some seat) (replied_own s a p.id p reply b.guests e)
    replied false = refl

    came : (x : Bool)
        → Seats.seat_if (if x then None else Some (with_listed_reply (with_guest a p (Some reply)) p.id reply)) p.target
        p.unit ≡ (if x then None else Some (Seats.seat_with_guest (Seats.seat_of a p.target p.unit) p (Some reply)))
    came true = refl
    came false = ap (λ (seat : Seats.Seat). Some seat) (guest_added a p (Some reply))

    go : (x : Option RunningProcess) → Seats.seat_if (fail_step s a p.id reply x) p.target p.unit
        ≡ Seats.seat_after_failure_of (Seats.seat_of a p.target p.unit) (has_ended a p.id) p reply x
    go (Some r) = replied (is_none r.reply)
    go None = (λ i. Seats.seat_if (fail_step_of_new a p.id reply (e i)) p.target p.unit)
        ∙ came (is_waiting a.units p.id || has_ended a p.id)
        ∙ (λ i. if waiting_unit s a.units p.id p b.units b.apart e i || has_ended a p.id then None
        else Some (Seats.seat_with_guest (Seats.seat_of a p.target p.unit) p (Some reply)))

pub failed_other : (s : ScenarioValue) (a b : Array) (p : Process) (reply : Reply) (t n : ℕ) → IsSound s a
    → process_of s p.id ≡ Some p → is_of_unit p t n ≡ false → fail_step s a p.id reply (running_process a p.id) ≡ Some b
    → Seats.seat_of b t n ≡ Seats.seat_of a t n
failed_other s a b p reply t n c e o h = go (running_process a p.id) h
  where
    replied : (x : Bool) → (if x then Some (with_reply a p.id reply) else None) ≡ Some b
        → Seats.seat_of b t n ≡ Seats.seat_of a t n
    replied true k =
        let same : with_reply a p.id reply ≡ b = cc in
        (λ i. Seats.seat_of (sym same i) t n)
        ∙ replied_elsewhere s a p.id p reply t n (λ u z. own_found s a.units t n u c.units z) c.guests e o
    replied false k = cc

    came : (x : Bool) → (if x then None else Some (with_listed_reply (with_guest a p (Some reply)) p.id reply)) ≡ Some b
        → Seats.seat_of b t n ≡ Seats.seat_of a t n
    came true k = cc
    came false k =
        let same : with_listed_reply (with_guest a p (Some reply)) p.id reply ≡ b = cc in
        (λ i. Seats.seat_of (sym same i) t n) ∙ guest_elsewhere a p (Some reply) t n o

    go : (x : Option RunningProcess) → fail_step s a p.id reply x ≡ Some b → Seats.seat_of b t n ≡ Seats.seat_of a t n
    go (Some r) k = replied (is_none r.reply) k
    go None k = came (is_waiting a.units p.id || has_ended a p.id) ((λ i. fail_step_of_new a p.id reply (sym e i)) ∙ k)

-- ---- a command ends or is lost

pub without_at : (a : Array) (id : ProcId) (t n : ℕ)
    → Seats.seat_of (array_without a id) t n ≡ Seats.seat_without (Seats.seat_of a t n) id
without_at a id t n = λ i. record (Seats.seat_of a t n) {
  unit = ((λ j. unit_state_at (without_map a.units id j) t n)
      ∙ mapped_at (λ u. unit_without u id) (λ u. refl) (λ u. refl) a.units t n) i;
  guests = guests_at_without a.guests id t n i;
}

without_elsewhere : (s : ScenarioValue) (a : Array) (p : Process) (t n : ℕ) → IsSound s a → process_of s p.id ≡ Some p
    → is_of_unit p t n ≡ false → Seats.seat_of (array_without a p.id) t n ≡ Seats.seat_of a t n
without_elsewhere s a p t n b e o = λ i. record (Seats.seat_of a t n) {
  unit = ((λ j. unit_state_at (without_map a.units p.id j) t n)
      ∙ mapped_at (λ u. unit_without u p.id) (λ u. refl) (λ u. refl) a.units t n ∙ go (unit_state_at a.units t n) refl)
      i;
  guests = guests_without_other s a.guests p.id p t n b.guests e o i;
}
  where
    go : (x : Option UnitState) → unit_state_at a.units t n ≡ x → Seats.unit_mapped (λ u. unit_without u p.id) x ≡ x
    go None z = refl
    go (Some u) z = ap (λ (v : UnitState). Some v) (without_other s u p.id p (own_found s a.units t n u b.units z) e
        (turned p t n u (found_target a.units t n u z) (found_unit a.units t n u z) o))

status_own : (a : Array) (p : Process) (reply : Reply) → Seats.seat_of (after_status a p reply) p.target p.unit
    ≡ Seats.seat_after_status (Seats.seat_of a p.target p.unit) p reply
status_own a p reply =
    go (reply.status == CHECK_CONDITION) (reply.status == GOOD && is_request_sense (command_of p.cdb))
  where
    at : ℕ → Nexus
    at k = Seats.nexus_at p.target p.unit k

    go : (x y : Bool) → Seats.seat_of (if x then record a {
      senses = (nexus_of p, reply.sense) ∷ senses_without a.senses (nexus_of p);
      holds = nexus_of p ∷ nexuses_without a.holds (nexus_of p);
    } else if y then record a {
      senses = senses_without a.senses (nexus_of p);
      holds = nexuses_without a.holds (nexus_of p);
    } else a) p.target p.unit ≡ (if x then record (Seats.seat_of a p.target p.unit) {
      senses = Seats.with_sense_of (Seats.seat_of a p.target p.unit).senses p.initiator (Some reply.sense);
      hold = Seats.with_hold_of (Seats.seat_of a p.target p.unit).hold p.initiator true;
    } else if y then record (Seats.seat_of a p.target p.unit) {
      senses = Seats.with_sense_of (Seats.seat_of a p.target p.unit).senses p.initiator None;
      hold = Seats.with_hold_of (Seats.seat_of a p.target p.unit).hold p.initiator false;
    } else Seats.seat_of a p.target p.unit)
    go true y = λ i. record (Seats.seat_of a p.target p.unit) {
      senses = λ k. (sense_put_at a.senses (nexus_of p) reply.sense (Seats.nexus_at p.target p.unit k) ∙ (λ j.
          if nexus_own p k j then Some reply.sense else sense_of_nexus a.senses (Seats.nexus_at p.target p.unit k))) i;
      hold = λ k. (nexus_put_at a.holds (nexus_of p) (Seats.nexus_at p.target p.unit k)
          ∙ (λ j. if nexus_own p k j then true else Seats.in_hold a.holds (Seats.nexus_at p.target p.unit k))) i;
    }
    go false true = λ i. record (Seats.seat_of a p.target p.unit) {
      senses = λ k. (senses_without_at a.senses (nexus_of p) (Seats.nexus_at p.target p.unit k)
          ∙ (λ j. if nexus_own p k j then None else sense_of_nexus a.senses (Seats.nexus_at p.target p.unit k))) i;
      hold = λ k. (nexuses_without_at a.holds (nexus_of p) (Seats.nexus_at p.target p.unit k)
          ∙ (λ j. if nexus_own p k j then false else Seats.in_hold a.holds (Seats.nexus_at p.target p.unit k))) i;
    }
    go false false = refl

status_elsewhere : (a : Array) (p : Process) (reply : Reply) (t n : ℕ) → is_of_unit p t n ≡ false
    → Seats.seat_of (after_status a p reply) t n ≡ Seats.seat_of a t n
status_elsewhere a p reply t n o =
    go (reply.status == CHECK_CONDITION) (reply.status == GOOD && is_request_sense (command_of p.cdb))
  where
    go : (x y : Bool) → Seats.seat_of (if x then record a {
      senses = (nexus_of p, reply.sense) ∷ senses_without a.senses (nexus_of p);
      holds = nexus_of p ∷ nexuses_without a.holds (nexus_of p);
    } else if y then record a {
      senses = senses_without a.senses (nexus_of p);
      holds = nexuses_without a.holds (nexus_of p);
    } else a) t n ≡ Seats.seat_of a t n
    go true y = λ i. record (Seats.seat_of a t n) {
      senses = λ k. (sense_put_at a.senses (nexus_of p) reply.sense (Seats.nexus_at t n k) ∙ (λ j.
          if nexus_elsewhere p t n k o j then Some reply.sense else sense_of_nexus a.senses (Seats.nexus_at t n k))) i;
      hold = λ k. (nexus_put_at a.holds (nexus_of p) (Seats.nexus_at t n k)
          ∙ (λ j. if nexus_elsewhere p t n k o j then true else Seats.in_hold a.holds (Seats.nexus_at t n k))) i;
    }
    go false true = λ i. record (Seats.seat_of a t n) {
      senses = λ k. (senses_without_at a.senses (nexus_of p) (Seats.nexus_at t n k)
          ∙ (λ j. if nexus_elsewhere p t n k o j then None else sense_of_nexus a.senses (Seats.nexus_at t n k))) i;
      hold = λ k. (nexuses_without_at a.holds (nexus_of p) (Seats.nexus_at t n k)
          ∙ (λ j. if nexus_elsewhere p t n k o j then false else Seats.in_hold a.holds (Seats.nexus_at t n k))) i;
    }
    go false false = refl

pub status_units : (a : Array) (p : Process) (reply : Reply) → (after_status a p reply).units ≡ a.units
status_units a p reply =
    go (reply.status == CHECK_CONDITION) (reply.status == GOOD && is_request_sense (command_of p.cdb))
  where
    go : (x y : Bool) → (if x then record a {
      senses = (nexus_of p, reply.sense) ∷ senses_without a.senses (nexus_of p);
      holds = nexus_of p ∷ nexuses_without a.holds (nexus_of p);
    } else if y then record a {
      senses = senses_without a.senses (nexus_of p);
      holds = nexuses_without a.holds (nexus_of p);
    } else a).units ≡ a.units
    go true y = refl
    go false true = refl
    go false false = refl

pub status_guests : (a : Array) (p : Process) (reply : Reply) → (after_status a p reply).guests ≡ a.guests
status_guests a p reply =
    go (reply.status == CHECK_CONDITION) (reply.status == GOOD && is_request_sense (command_of p.cdb))
  where
    go : (x y : Bool) → (if x then record a {
      senses = (nexus_of p, reply.sense) ∷ senses_without a.senses (nexus_of p);
      holds = nexus_of p ∷ nexuses_without a.holds (nexus_of p);
    } else if y then record a {
      senses = senses_without a.senses (nexus_of p);
      holds = nexuses_without a.holds (nexus_of p);
    } else a).guests ≡ a.guests
    go true y = refl
    go false true = refl
    go false false = refl

pub ended_own : (s : ScenarioValue) (a : Array) (p : Process) (status : ℕ) → IsSound s a → process_of s p.id ≡ Some p
    → Seats.seat_if (end_step a status (running_process a p.id)) p.target p.unit
    ≡ Seats.seat_after_end p.id status (Seats.seat_of a p.target p.unit)
ended_own s a p status b e =
    go (running_process a p.id) (running_process_is s a p.id p)
    ∙ (λ i. Seats.seat_after_end_of (Seats.seat_of a p.target p.unit) status (running_own s a p.id p b e i))
  where
    tested : (reply : Reply) (x : Bool)
        → Seats.seat_if (if x then Some (array_without (after_status a p reply) p.id) else None) p.target p.unit
        ≡ (if x then Some (Seats.seat_without (Seats.seat_after_status (Seats.seat_of a p.target p.unit) p reply) p.id)
        else None)
    tested reply true = ap (λ (seat : Seats.Seat). Some seat) (without_at (after_status a p reply) p.id p.target p.unit
        ∙ (λ i. Seats.seat_without (status_own a p reply i) p.id))
    tested reply false = refl

    with_own : (reply : Option Reply) → Seats.seat_if (end_step_with a p status reply) p.target p.unit
        ≡ Seats.seat_after_end_with (Seats.seat_of a p.target p.unit) p status reply
    with_own None = refl
    with_own (Some reply) = tested reply (reply.status == status)

    go : (x : Option RunningProcess)
        → ((r : RunningProcess) → IsSound s a → process_of s p.id ≡ Some p → x ≡ Some r → p ≡ r.process)
        → Seats.seat_if (end_step a status x) p.target p.unit
        ≡ Seats.seat_after_end_of (Seats.seat_of a p.target p.unit) status x
    go None k = refl
    go (Some r) k = subst (λ (q : Process). Seats.seat_if (end_step_with a q status r.reply) p.target p.unit
        ≡ Seats.seat_after_end_with (Seats.seat_of a p.target p.unit) q status r.reply) (k r b e refl)
        (with_own r.reply)

-- What a status changes is nothing of the processes.
without_status_elsewhere : (s : ScenarioValue) (a : Array) (p : Process) (reply : Reply) (t n : ℕ)
    → IsSound s a → process_of s p.id ≡ Some p → is_of_unit p t n ≡ false
    → Seats.seat_of (array_without (after_status a p reply) p.id) t n ≡ Seats.seat_of a t n
without_status_elsewhere s a p reply t n b e o =
    without_at (after_status a p reply) p.id t n
    ∙ (λ i. Seats.seat_without (status_elsewhere a p reply t n o i) p.id)
    ∙ sym (without_at a p.id t n)
    ∙ without_elsewhere s a p t n b e o

pub ended_other : (s : ScenarioValue) (a b : Array) (p : Process) (status t n : ℕ) → IsSound s a
    → process_of s p.id ≡ Some p → is_of_unit p t n ≡ false → end_step a status (running_process a p.id) ≡ Some b
    → Seats.seat_of b t n ≡ Seats.seat_of a t n
ended_other s a b p status t n c e o h = go (running_process a p.id) (running_process_is s a p.id p) h
  where
    tested :
        (reply : Reply) (x : Bool) → (if x then Some (array_without (after_status a p reply) p.id) else None) ≡ Some b
        → Seats.seat_of b t n ≡ Seats.seat_of a t n
    tested reply true k =
        let same : array_without (after_status a p reply) p.id ≡ b = cc in
        (λ i. Seats.seat_of (sym same i) t n) ∙ without_status_elsewhere s a p reply t n c e o
    tested reply false k = cc

    with_own : (reply : Option Reply) → end_step_with a p status reply ≡ Some b
        → Seats.seat_of b t n ≡ Seats.seat_of a t n
    with_own None k = cc
    with_own (Some reply) k = tested reply (reply.status == status) k

    go : (x : Option RunningProcess)
        → ((r : RunningProcess) → IsSound s a → process_of s p.id ≡ Some p → x ≡ Some r → p ≡ r.process)
        → end_step a status x ≡ Some b → Seats.seat_of b t n ≡ Seats.seat_of a t n
    go None k l = cc
    go (Some r) k l =
        with_own r.reply (subst (λ (q : Process). end_step_with a q status r.reply ≡ Some b) (sym (k r c e refl)) l)

pub lost_at : (a : Array) (id : ProcId) (t n : ℕ)
    → Seats.seat_if (loss_step a id) t n ≡ Seats.seat_after_loss (has_ended a id) id (Seats.seat_of a t n)
lost_at a id t n = go (has_ended a id)
  where
    go : (x : Bool) → Seats.seat_if (if x then None else Some (array_without a id)) t n
        ≡ (if x then None else Some (Seats.seat_without (Seats.seat_of a t n) id))
    go true = refl
    go false = ap (λ (seat : Seats.Seat). Some seat) (without_at a id t n)

pub lost_other : (s : ScenarioValue) (a b : Array) (p : Process) (t n : ℕ) → IsSound s a → process_of s p.id ≡ Some p
    → is_of_unit p t n ≡ false → loss_step a p.id ≡ Some b → Seats.seat_of b t n ≡ Seats.seat_of a t n
lost_other s a b p t n c e o h = go (has_ended a p.id) h
  where
    go : (x : Bool) → (if x then None else Some (array_without a p.id)) ≡ Some b
        → Seats.seat_of b t n ≡ Seats.seat_of a t n
    go true k = cc
    go false k =
        let same : array_without a p.id ≡ b = cc in
        (λ i. Seats.seat_of (sym same i) t n) ∙ without_elsewhere s a p t n c e o
