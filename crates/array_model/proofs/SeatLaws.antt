-- Each event at a seat, with the choice that follows it.
use Rattle.std.proofs.Common.{ℕ, ◌≡◌, true, false, ◌∙◌, refl, sym, ap, Option, Some, None}
use Rattle.std.specs.Prelude.{◌&&◌, ◌==◌, is_some}
use Rattle.bus_base.specs.declared.AbortKind.{AbortKind}
use Rattle.bus_base.specs.declared.AbortKind.TheVariants as aborts
use Rattle.bus_base.specs.declared.Event.{Event}
use Rattle.bus_base.specs.declared.Event.TheVariants as events
use Rattle.bus_base.specs.declared.ProcId.{ProcId}
use Rattle.cdb_codec.specs.declared.sense.TheConstants.{ABORTED_COMMAND}
use Rattle.scenario.specs.Value.{ScenarioValue}
use Rattle.array_model.specs.Processes.{Process, process_of}
use Rattle.array_model.specs.Execution.{check_condition, sense_of}
use Rattle.array_model.specs.Units.{Array, guest_at, settled_array}
use Rattle.array_model.specs.Steps.{accept_step, refuse_step, run_step, running_process, fail_step, end_step, loss_step}
use Rattle.array_model.specs.Steps.{has_ended, abort_step, event_step, settled_array_if, step, is_of_unit}
use Rattle.array_model.specs.Seats
use Rattle.array_model.specs.SoundArray.{IsSound, HasSeats}
use Rattle.array_model.proofs.SeatSteps.{seat_settled}
use Rattle.array_model.proofs.SeatEvents.{settled_if, accepted_own, accepted_other, refused_own, refused_other, run_own}
use Rattle.array_model.proofs.SeatEvents.{run_other, failed_own, failed_other, ended_own, ended_other, lost_at}
use Rattle.array_model.proofs.SeatEvents.{lost_other}
use Rattle.array_model.proofs.SeatAborts.{abort_own, abort_other, tag_own, tag_other, queue_own, queue_other}
use Rattle.array_model.proofs.SeatAborts.{device_own}
use Rattle.array_model.proofs.SeatAborts.{device_other, reset_at}
use Rattle.array_model.proofs.SoundArrays.{id_is, is_own, eight_after}
use Rattle.std.proofs.lemmas.Bool.{not-true}

-- The choice follows what the event leaves.
settled_event : (s : ScenarioValue) (a : Array) (event : Event) (t n : ℕ) (x : Option Seats.Seat)
    → HasSeats s → IsSound s a → Seats.seat_if (event_step s a event) t n ≡ x
    → Seats.seat_if (step s event a) t n ≡ Seats.settled_seat_if x
settled_event s a event t n x f b h =
    settled_if (event_step s a event) t n (λ d k. eight_after s a d event f b k) ∙ ap Seats.settled_seat_if h

pub accept_law : (s : ScenarioValue) (a : Array) (p : Process) → HasSeats s → IsSound s a → process_of s p.id ≡ Some p
    → Seats.seat_if (step s (events.Accept p.id) a) p.target p.unit
    ≡ Seats.settled_seat_if (Seats.seat_after_accept p (Seats.seat_of a p.target p.unit))
accept_law s a p f b e = settled_event s a (events.Accept p.id) p.target p.unit
    (Seats.seat_after_accept p (Seats.seat_of a p.target p.unit)) f b
    ((λ i. Seats.seat_if (accept_step a (e i)) p.target p.unit) ∙ accepted_own a p)

pub refuse_law : (s : ScenarioValue) (a : Array) (p : Process) → HasSeats s → IsSound s a → process_of s p.id ≡ Some p
    → Seats.seat_if (step s (events.Refuse p.id) a) p.target p.unit
    ≡ Seats.settled_seat_if (Seats.seat_after_refuse p (Seats.seat_of a p.target p.unit))
refuse_law s a p f b e = settled_event s a (events.Refuse p.id) p.target p.unit
    (Seats.seat_after_refuse p (Seats.seat_of a p.target p.unit)) f b
    ((λ i. Seats.seat_if (refuse_step a (e i)) p.target p.unit) ∙ refused_own a p)

pub run_law : (s : ScenarioValue) (a : Array) (p : Process) → HasSeats s → IsSound s a → process_of s p.id ≡ Some p
    → Seats.seat_if (step s (events.Run p.id) a) p.target p.unit
    ≡ Seats.settled_seat_if (Seats.seat_after_run p.id (Seats.seat_of a p.target p.unit))
run_law s a p f b e = settled_event s a (events.Run p.id) p.target p.unit
    (Seats.seat_after_run p.id (Seats.seat_of a p.target p.unit)) f b (run_own s a p.id p b e e)

pub fail_law : (s : ScenarioValue) (a : Array) (p : Process) (code : ℕ)
    → HasSeats s → IsSound s a → process_of s p.id ≡ Some p
    → Seats.seat_if (step s (events.Fail p.id code) a) p.target p.unit ≡ Seats.settled_seat_if (Seats.seat_after_failure
    (has_ended a p.id) p (check_condition (sense_of ABORTED_COMMAND code 0x00)) (Seats.seat_of a p.target p.unit))
fail_law s a p code f b e = settled_event s a (events.Fail p.id code) p.target p.unit (Seats.seat_after_failure
    (has_ended a p.id) p (check_condition (sense_of ABORTED_COMMAND code 0x00)) (Seats.seat_of a p.target p.unit)) f b
    (failed_own s a p (check_condition (sense_of ABORTED_COMMAND code 0x00)) b e)

pub end_law : (s : ScenarioValue) (a : Array) (p : Process) (status : ℕ) → HasSeats s → IsSound s a
    → process_of s p.id ≡ Some p → Seats.seat_if (step s (events.End p.id status) a) p.target p.unit
    ≡ Seats.settled_seat_if (Seats.seat_after_end p.id status (Seats.seat_of a p.target p.unit))
end_law s a p status f b e = settled_event s a (events.End p.id status) p.target p.unit
    (Seats.seat_after_end p.id status (Seats.seat_of a p.target p.unit)) f b (ended_own s a p status b e)

pub loss_law : (s : ScenarioValue) (a : Array) (p : Process) → HasSeats s → IsSound s a → process_of s p.id ≡ Some p
    → Seats.seat_if (step s (events.Lost p.id) a) p.target p.unit
    ≡ Seats.settled_seat_if (Seats.seat_after_loss (has_ended a p.id) p.id (Seats.seat_of a p.target p.unit))
loss_law s a p f b e = settled_event s a (events.Lost p.id) p.target p.unit
    (Seats.seat_after_loss (has_ended a p.id) p.id (Seats.seat_of a p.target p.unit)) f b
    (lost_at a p.id p.target p.unit)

pub abort_law : (s : ScenarioValue) (a : Array) (i t n : ℕ) (what : AbortKind) → HasSeats s → IsSound s a
    → Seats.seat_if (step s (events.Aborted i t n what) a) t n
    ≡ Some (Seats.settled_seat (Seats.seat_after_aborted s.hosts i what (Seats.seat_of a t n)))
abort_law s a i t n aborts.All f b = settled_event s a (events.Aborted i t n aborts.All) t n
    (Some (Seats.seat_after_abort i (Seats.seat_of a t n))) f b
    (ap (λ (x : Seats.Seat). Some x) (abort_own s a i t n b))
abort_law s a i t n (aborts.Tag tag) f b = settled_event s a (events.Aborted i t n (aborts.Tag tag)) t n
    (Some (Seats.seat_after_abort_tag i tag (Seats.seat_of a t n))) f b
    (ap (λ (x : Seats.Seat). Some x) (tag_own s a i t n tag b))
abort_law s a i t n aborts.WholeQueue f b = settled_event s a (events.Aborted i t n aborts.WholeQueue) t n
    (Some (Seats.seat_after_clear_queue i (Seats.seat_of a t n))) f b
    (ap (λ (x : Seats.Seat). Some x) (queue_own s a i t n b))
abort_law s a i t n aborts.Device f b = settled_event s a (events.Aborted i t n aborts.Device) t n
    (Some (Seats.seat_after_reset s.hosts (Seats.seat_of a t n))) f b
    (ap (λ (x : Seats.Seat). Some x) (device_own s a i t n n b))

pub device_law : (s : ScenarioValue) (a : Array) (i t unit n : ℕ) → HasSeats s → IsSound s a
    → Seats.seat_if (step s (events.Aborted i t unit aborts.Device) a) t n
    ≡ Some (Seats.settled_seat (Seats.seat_after_reset s.hosts (Seats.seat_of a t n)))
device_law s a i t unit n f b = settled_event s a (events.Aborted i t unit aborts.Device) t n
    (Some (Seats.seat_after_reset s.hosts (Seats.seat_of a t n))) f b
    (ap (λ (x : Seats.Seat). Some x) (device_own s a i t unit n b))

pub reset_law : (s : ScenarioValue) (a : Array) (dev t n : ℕ) → HasSeats s → IsSound s a
    → Seats.seat_if (step s (events.Reset dev) a) t n
    ≡ Some (Seats.settled_seat (Seats.seat_after_reset s.hosts (Seats.seat_of a t n)))
reset_law s a dev t n f b = settled_event s a (events.Reset dev) t n
    (Some (Seats.seat_after_reset s.hosts (Seats.seat_of a t n))) f b
    (ap (λ (x : Seats.Seat). Some x) (reset_at s a t n))

-- ---- other seats

-- A process of the scenario that is of another unit.
other_of : (s : ScenarioValue) (a b : Array) (id : ProcId) (t n : ℕ)
    → Seats.is_of_other_unit (process_of s id) t n ≡ true
    → ((p : Process) → process_of s id ≡ Some p → is_of_unit p t n ≡ false → Seats.seat_of b t n ≡ Seats.seat_of a t n)
    → Seats.seat_of b t n ≡ Seats.seat_of a t n
other_of s a b id t n o h = go (process_of s id) refl o
  where
    go : (x : Option Process) → process_of s id ≡ x → Seats.is_of_other_unit x t n ≡ true
        → Seats.seat_of b t n ≡ Seats.seat_of a t n
    go None z k = cc
    go (Some p) z k = h p z (not-true (is_of_unit p t n) k)

-- An event before the choice.
event_other : (s : ScenarioValue) (a b : Array) (event : Event) (t n : ℕ) → IsSound s a
    → Seats.is_elsewhere s event t n ≡ true → event_step s a event ≡ Some b → Seats.seat_of b t n ≡ Seats.seat_of a t n
event_other s a b (events.Accept id) t n c o h =
    other_of s a b id t n o (λ p e k. accepted_other a b p t n k ((λ i. accept_step a (sym e i)) ∙ h))
event_other s a b (events.Refuse id) t n c o h =
    other_of s a b id t n o (λ p e k. refused_other a b p t n k ((λ i. refuse_step a (sym e i)) ∙ h))
event_other s a b (events.Run id) t n c o h =
    other_of s a b id t n o (λ p e k. run_other s a b p t n c (is_own s id p e) k
    ((λ i. run_step a (is_some (guest_at a.guests (id_is s id p e i))) (running_process a (id_is s id p e i))) ∙ h))
event_other s a b (events.Fail id code) t n c o h =
    other_of s a b id t n o (λ p e k. failed_other s a b p (check_condition (sense_of ABORTED_COMMAND code 0x00)) t n c
    (is_own s id p e) k ((λ i. fail_step s a (id_is s id p e i) (check_condition (sense_of ABORTED_COMMAND code 0x00))
    (running_process a (id_is s id p e i))) ∙ h))
event_other s a b (events.End id status) t n c o h = other_of s a b id t n o (λ p e k. ended_other s a b p status t n c
    (is_own s id p e) k ((λ i. end_step a status (running_process a (id_is s id p e i))) ∙ h))
event_other s a b (events.Lost id) t n c o h = other_of s a b id t n o
    (λ p e k. lost_other s a b p t n c (is_own s id p e) k ((λ i. loss_step a (id_is s id p e i)) ∙ h))
event_other s a b (events.Aborted i target unit aborts.All) t n c o h =
    let same : abort_step s a i target unit aborts.All ≡ b = cc in
    (λ j. Seats.seat_of (sym same j) t n) ∙ abort_other s a i target unit t n c (not-true (target == t && unit == n) o)
event_other s a b (events.Aborted i target unit (aborts.Tag tag)) t n c o h =
    let same : abort_step s a i target unit (aborts.Tag tag) ≡ b = cc in
    (λ j. Seats.seat_of (sym same j) t n)
    ∙ tag_other s a i target unit t n tag c (not-true (target == t && unit == n) o)
event_other s a b (events.Aborted i target unit aborts.WholeQueue) t n c o h =
    let same : abort_step s a i target unit aborts.WholeQueue ≡ b = cc in
    (λ j. Seats.seat_of (sym same j) t n) ∙ queue_other s a i target unit t n c (not-true (target == t && unit == n) o)
event_other s a b (events.Aborted i target unit aborts.Device) t n c o h =
    let same : abort_step s a i target unit aborts.Device ≡ b = cc in
    (λ j. Seats.seat_of (sym same j) t n) ∙ device_other s a i target unit t n c (not-true (target == t) o)
event_other s a b (events.Reset dev) t n c o h = cc

pub other_law : (s : ScenarioValue) (a b : Array) (event : Event) (t n : ℕ) → HasSeats s → IsSound s a
    → Seats.is_elsewhere s event t n ≡ true → step s event a ≡ Some b → Seats.seat_of b t n ≡ Seats.seat_of a t n
other_law s a b event t n f c o h = go (event_step s a event) refl h
  where
    go : (x : Option Array) → event_step s a event ≡ x → settled_array_if x ≡ Some b
        → Seats.seat_of b t n ≡ Seats.seat_of a t n
    go None z k = cc
    go (Some d) z k =
        let same : settled_array d ≡ b = cc in
        let before : Seats.seat_of d t n ≡ Seats.seat_of a t n = event_other s a d event t n c o z in
        (λ i. Seats.seat_of (sym same i) t n)
        ∙ seat_settled d t n (eight_after s a d event f c z)
        ∙ (λ i. Seats.settled_seat (before i))
        ∙ c.settled t n
