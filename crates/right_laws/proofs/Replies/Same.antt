-- What a process would answer does not change as another unit changes, nor as a process arrives, is refused, fails or
-- is lost (7.3, 7.8).
use Rattle.right_laws.proofs
use proofs.Names.{ℕ, ◌≡◌, Bool, true, false, not, ◌&&◌, ◌||◌, ◌==◌, ◌∙◌, List, [], ◌∷◌, ◌++◌, Option, Some, None, refl}
use proofs.Names.{sym, ap, subst, true≢false, not-false, eqb-true, or_parts, and_parts, same_Some, if◌then◌else◌}
use proofs.Names.{is_none, is_some, nat_lt, wrong', AbortKind, Event, ProcId, Row, command_of, ABORTED_COMMAND}
use proofs.Names.{ScenarioValue, settled_context, abort_law, accept_law, fail_law, loss_law, other_law, refuse_law}
use proofs.Names.{step_sound, is_own, array_step, Reply, check_condition, execution, is_request_sense, queue_full}
use proofs.Names.{sense_of, Process, process_of, Seat, seat_of, seat_if, context_of, settled_seat, settled_seat_if}
use proofs.Names.{HasSeats, IsSound, has_ended, has_tag, is_of_unit, process_count, step, Array, RunningProcess}
use proofs.Names.{UnitState, row_reading, row_events_by, RunState, array_of, run_state, run_state_after}
use proofs.Names.{array_after_events, reply_now, context_same, process_id, none_some, by_bool, by_option, HasReplyStill}
use proofs.{Names.{abort_may_change, may_change, any_may_change, HasReplyThen, IfOpen, OnOpen}, Ran.Facts.{Known}}
use proofs.Ran.{Facts.{here_is, steps_of, then_is}, Open.{each_map}}
use Rattle.due_model.specs.array_model.specs.Seats

no_process : {A : Type 0} (o : Option Process) → o ≡ None → is_some o ≡ true → A
no_process o e some = wrong' (sym (ap is_some e) ∙ some)

-- ---- by the seat of the process

pub by_context : (a b : Array) (q : Process)
    → context_of (seat_of b q.target q.unit) q.initiator ≡ context_of (seat_of a q.target q.unit) q.initiator
    → reply_now b q ≡ reply_now a q
by_context a b q e =
    (λ i. (execution (context_same b q.target q.unit q.initiator i) q.cdb q.sent).reply)
    ∙ (λ i. (execution (e i) q.cdb q.sent).reply)
    ∙ (λ i. (execution (sym (context_same a q.target q.unit q.initiator) i) q.cdb q.sent).reply)

pub elsewhere_same : (s : ScenarioValue) (a b : Array) (e : Event) (q : Process) → HasSeats s → IsSound s a
    → Seats.is_elsewhere s e q.target q.unit ≡ true → step s e a ≡ Some b → reply_now b q ≡ reply_now a q
elsewhere_same s a b e q seats sound other st = by_context a b q
    (ap (λ (x : Seat). context_of x q.initiator) (other_law s a b e q.target q.unit seats sound other st))

-- ---- what an event leaves of a seat, before the choice

-- After these of the seat its context is the same.
abbrev pub SameAfter : Seat → ℕ → Option Seat → Type 0
SameAfter seat from o = (after : Seat) → settled_seat_if o ≡ Some after → context_of after from ≡ context_of seat from

pub same_none : (seat : Seat) (from : ℕ) → SameAfter seat from None
same_none seat from after e = none_some after e

pub same_some : (seat x : Seat) (from : ℕ) → context_of x from ≡ context_of seat from → SameAfter seat from (Some x)
same_some seat x from same after e =
    ap (λ (z : Seat). context_of z from) (sym (same_Some (settled_seat x) after e)) ∙ settled_context x from ∙ same

accept_context : (seat : Seat) (c : Process) (from : ℕ) → SameAfter seat from (Seats.seat_after_accept c seat)
accept_context seat c from = go seat.unit refl
  where
    queued : (u : UnitState) → seat.unit ≡ Some u → (y : Bool) → SameAfter seat from
        (if y then Some (record seat { unit = Some (record u { waiting = u.waiting ++ c ∷ [] }) }) else None)
    queued u e true =
        same_some seat (record seat { unit = Some (record u { waiting = u.waiting ++ c ∷ [] }) }) from (λ i. record {
          present = is_some (sym e i);
          contents = Seats.contents_of (sym e i);
          stored = seat.senses from;
          attention = seat.attentions from;
        })
    queued u e false = same_none seat from

    by : (u : UnitState) → seat.unit ≡ Some u → (y : Bool)
        → SameAfter seat from (if y then Some (Seats.seat_with_guest seat c None) else Seats.seat_with_waiting seat c u)
    by u e true = same_some seat (Seats.seat_with_guest seat c None) from refl
    by u e false = queued u e (nat_lt (process_count u) u.depth)

    go : (x : Option UnitState) → seat.unit ≡ x → SameAfter seat from (Seats.seat_after_accept_at seat c x)
    go None e = same_some seat (Seats.seat_with_guest seat c None) from refl
    go (Some u) e = by u e (is_request_sense (command_of c.cdb))

refuse_context : (seat : Seat) (c : Process) (from : ℕ) → SameAfter seat from (Seats.seat_after_refuse c seat)
refuse_context seat c from = go seat.unit
  where
    by : (y : Bool) → SameAfter seat from (if y then Some (Seats.seat_with_guest seat c (Some queue_full)) else None)
    by true = same_some seat (Seats.seat_with_guest seat c (Some queue_full)) from refl
    by false = same_none seat from

    go : (x : Option UnitState) → SameAfter seat from (Seats.seat_after_refuse_at seat c x)
    go None = same_none seat from
    go (Some u) = by (not (is_request_sense (command_of c.cdb)) && process_count u == u.depth)

replied_context : (seat : Seat) (id : ProcId) (reply : Reply) (from : ℕ)
    → context_of (Seats.seat_with_reply seat id reply) from ≡ context_of seat from
replied_context seat id reply from = go seat.unit
  where
    go : (x : Option UnitState) → context_of (Seats.seat_with_reply (record seat { unit = x }) id reply) from
        ≡ context_of (record seat { unit = x }) from
    go None = refl
    go (Some u) = refl

fail_context : (seat : Seat) (over : Bool) (c : Process) (reply : Reply) (from : ℕ)
    → SameAfter seat from (Seats.seat_after_failure over c reply seat)
fail_context seat over c reply from = go (Seats.running_at seat c.id)
  where
    replied : (y : Bool) → SameAfter seat from (if y then Some (Seats.seat_with_reply seat c.id reply) else None)
    replied true = same_some seat (Seats.seat_with_reply seat c.id reply) from (replied_context seat c.id reply from)
    replied false = same_none seat from

    fresh : (y : Bool) → SameAfter seat from (if y then None else Some (Seats.seat_with_guest seat c (Some reply)))
    fresh true = same_none seat from
    fresh false = same_some seat (Seats.seat_with_guest seat c (Some reply)) from refl

    go : (o : Option RunningProcess) → SameAfter seat from (Seats.seat_after_failure_of seat over c reply o)
    go (Some r) = replied (is_none r.reply)
    go None = fresh (Seats.is_waiting_at seat.unit c.id || over)

loss_context : (seat : Seat) (over : Bool) (id : ProcId) (from : ℕ)
    → SameAfter seat from (Seats.seat_after_loss over id seat)
loss_context seat over id from = go over
  where
    without : (x : Option UnitState) → context_of (Seats.seat_without (record seat { unit = x }) id) from
        ≡ context_of (record seat { unit = x }) from
    without None = refl
    without (Some u) = refl

    go : (y : Bool) → SameAfter seat from (if y then None else Some (Seats.seat_without seat id))
    go true = same_none seat from
    go false = same_some seat (Seats.seat_without seat id) from (without seat.unit)

-- ---- an event of a process

pub place_of : (c : Process) (t m : ℕ) → is_of_unit c t m ≡ true → (c.target ≡ t) × (c.unit ≡ m)
place_of c t m e =
    let two = and_parts (c.target == t) (c.unit == m) e in
    (eqb-true c.target t two.0, eqb-true c.unit m two.1)

-- At this seat.
abbrev pub SameContext : Array → Array → ℕ → ℕ → ℕ → Type 0
SameContext a b t m from = context_of (seat_of b t m) from ≡ context_of (seat_of a t m) from

pub elsewhere_context : (s : ScenarioValue) (a b : Array) (e : Event) (t m from : ℕ) → HasSeats s → IsSound s a
    → Seats.is_elsewhere s e t m ≡ true → step s e a ≡ Some b → SameContext a b t m from
elsewhere_context s a b e t m from seats sound other st =
    ap (λ (x : Seat). context_of x from) (other_law s a b e t m seats sound other st)

-- Of this unit, or of another.
pub of_process : (s : ScenarioValue) (a b : Array) (e : Event) (id : ProcId) (t m from : ℕ)
    → HasSeats s → IsSound s a → step s e a ≡ Some b
    → Seats.is_elsewhere s e t m ≡ Seats.is_of_other_unit (process_of s id) t m → is_some (process_of s id) ≡ true
    → ((c : Process) → process_of s id ≡ Some c → SameContext a b c.target c.unit from) → SameContext a b t m from
of_process s a b e id t m from seats sound st place some here = by_option
    (process_of s id) (λ z. no_process (process_of s id) z some)
    (λ c z. by_bool (is_of_unit c t m) (λ x. let w = place_of c t m x in subst (λ (y : ℕ). SameContext a b y m from) w.0
    (subst (λ (y : ℕ). SameContext a b c.target y from) w.1 (here c z))) (λ x. elsewhere_context s a b e t m from seats
    sound (place ∙ ap (λ (o : Option Process). Seats.is_of_other_unit o t m) z ∙ ap not x) st))

pub seat_is : (s : ScenarioValue) (a b : Array) (e : Event) (t m from : ℕ) (o : Option Seat)
    → step s e a ≡ Some b → seat_if (step s e a) t m ≡ settled_seat_if o → SameAfter (seat_of a t m) from o
    → context_of (seat_of b t m) from ≡ context_of (seat_of a t m) from
seat_is s a b e t m from o st law same = same (seat_of b t m) (sym law ∙ ap (λ (x : Option Array). seat_if x t m) st)

pub accept_at : (s : ScenarioValue) (a b : Array) (id : ProcId) (t m from : ℕ) → HasSeats s → IsSound s a
    → is_some (process_of s id) ≡ true → step s (Event.Accept id) a ≡ Some b → SameContext a b t m from
accept_at s a b id t m from seats sound some st = of_process s a b (Event.Accept id) id t m from seats sound st
    refl some (λ p z. let same = process_id s id p z in seat_is s a b (Event.Accept p.id) p.target p.unit from
    (Seats.seat_after_accept p (seat_of a p.target p.unit)) (ap (λ (x : ProcId). step s (Event.Accept x) a) same ∙ st)
    (accept_law s a p seats sound (is_own s id p z)) (accept_context (seat_of a p.target p.unit) p from))

pub refuse_at : (s : ScenarioValue) (a b : Array) (id : ProcId) (t m from : ℕ) → HasSeats s → IsSound s a
    → is_some (process_of s id) ≡ true → step s (Event.Refuse id) a ≡ Some b → SameContext a b t m from
refuse_at s a b id t m from seats sound some st = of_process s a b (Event.Refuse id) id t m from seats sound st
    refl some (λ p z. let same = process_id s id p z in seat_is s a b (Event.Refuse p.id) p.target p.unit from
    (Seats.seat_after_refuse p (seat_of a p.target p.unit)) (ap (λ (x : ProcId). step s (Event.Refuse x) a) same ∙ st)
    (refuse_law s a p seats sound (is_own s id p z)) (refuse_context (seat_of a p.target p.unit) p from))

pub fail_at : (s : ScenarioValue) (a b : Array) (id : ProcId) (code t m from : ℕ) → HasSeats s → IsSound s a
    → is_some (process_of s id) ≡ true → step s (Event.Fail id code) a ≡ Some b → SameContext a b t m from
fail_at s a b id code t m from seats sound some st = of_process s a b (Event.Fail id code) id t m from seats sound
    st refl some (λ p z. let same = process_id s id p z in seat_is s a b (Event.Fail p.id code) p.target p.unit from
    (Seats.seat_after_failure (has_ended a p.id) p (check_condition (sense_of ABORTED_COMMAND code 0x00))
    (seat_of a p.target p.unit)) (ap (λ (x : ProcId). step s (Event.Fail x code) a) same ∙ st)
    (fail_law s a p code seats sound (is_own s id p z)) (fail_context (seat_of a p.target p.unit) (has_ended a p.id) p
    (check_condition (sense_of ABORTED_COMMAND code 0x00)) from))

pub loss_at : (s : ScenarioValue) (a b : Array) (id : ProcId) (t m from : ℕ) → HasSeats s → IsSound s a
    → is_some (process_of s id) ≡ true → step s (Event.Lost id) a ≡ Some b → SameContext a b t m from
loss_at s a b id t m from seats sound some st = of_process s a b (Event.Lost id) id t m from seats sound st refl some
    (λ p z. let same = process_id s id p z in seat_is s a b (Event.Lost p.id) p.target p.unit from
    (Seats.seat_after_loss (has_ended a p.id) p.id (seat_of a p.target p.unit))
    (ap (λ (x : ProcId). step s (Event.Lost x) a) same ∙ st) (loss_law s a p seats sound (is_own s id p z))
    (loss_context (seat_of a p.target p.unit) (has_ended a p.id) p.id from))

-- ---- the events of a row

pub not_none : (s : ScenarioValue) (id : ProcId) → is_none (process_of s id) ≡ false → is_some (process_of s id) ≡ true
not_none s id e = go (process_of s id) e
  where
    go : (o : Option Process) → is_none o ≡ false → is_some o ≡ true
    go None z = absurd (true≢false z)
    go (Some c) z = refl

pub kept_context : (seat : Seat) (drops : Process → Bool) (from : ℕ)
    → context_of (Seats.seat_kept drops seat) from ≡ context_of seat from
kept_context seat drops from = go seat.unit
  where
    go : (x : Option UnitState) → context_of (Seats.seat_kept drops (record seat { unit = x })) from
        ≡ context_of (record seat { unit = x }) from
    go None = refl
    go (Some u) = refl

other_context : (seat : Seat) (i from : ℕ) → (i == from) ≡ false
    → context_of (Seats.seat_after_abort i seat) from ≡ context_of seat from
other_context seat i from e = (λ z. record (context_of (Seats.seat_kept (λ p. p.initiator == i) seat) from) {
  stored =
      if e z then None else seat.senses from;
}) ∙ kept_context seat (λ p. p.initiator == i) from

-- At the unit of the process.
abort_here : (s : ScenarioValue) (a b : Array) (i t m : ℕ) (what : AbortKind) (q : Process) → HasSeats s → IsSound s a
    → (t == q.target && m == q.unit) ≡ true → step s (Event.Aborted i t m what) a ≡ Some b → ((seat : Seat)
    → context_of (Seats.seat_after_aborted s.hosts i what seat) q.initiator ≡ context_of seat q.initiator)
    → reply_now b q ≡ reply_now a q
abort_here s a b i t m what q seats sound place st same =
    let two = and_parts (t == q.target) (m == q.unit) place in
    let here : context_of (seat_of b t m) q.initiator ≡ context_of (seat_of a t m) q.initiator = seat_is s a b
    (Event.Aborted i t m what) t m q.initiator (Some (Seats.seat_after_aborted s.hosts i what (seat_of a t m))) st
    (abort_law s a i t m what seats sound) (same_some (seat_of a t m)
    (Seats.seat_after_aborted s.hosts i what (seat_of a t m)) q.initiator (same (seat_of a t m))) in
    by_context a b q
    (subst (λ (x : ℕ). context_of (seat_of b x q.unit) q.initiator ≡ context_of (seat_of a x q.unit) q.initiator)
    (eqb-true t q.target two.0)
    (subst (λ (x : ℕ). context_of (seat_of b t x) q.initiator ≡ context_of (seat_of a t x) q.initiator)
    (eqb-true m q.unit two.1) here))

abort_same : (s : ScenarioValue) (a b : Array) (i t m : ℕ) (what : AbortKind) (q : Process) → HasSeats s
    → IsSound s a → abort_may_change q i t m what ≡ false → step s (Event.Aborted i t m what) a ≡ Some b
    → reply_now b q ≡ reply_now a q
abort_same s a b i t m AbortKind.WholeQueue q seats sound f st =
    elsewhere_same s a b (Event.Aborted i t m AbortKind.WholeQueue) q seats sound (ap not f) st
abort_same s a b i t m AbortKind.Device q seats sound f st =
    elsewhere_same s a b (Event.Aborted i t m AbortKind.Device) q seats sound (ap not f) st
abort_same s a b i t m (AbortKind.Tag x) q seats sound f st = by_bool
    (t == q.target && m == q.unit) (λ e. abort_here s a b i t m (AbortKind.Tag x) q seats sound e st
    (λ seat. kept_context seat (λ p. p.initiator == i && has_tag p.tag x) q.initiator))
    (λ e. elsewhere_same s a b (Event.Aborted i t m (AbortKind.Tag x)) q seats sound (ap not e) st)
abort_same s a b i t m AbortKind.All q seats sound f st =
    go (i == q.initiator) refl (t == q.target && m == q.unit) refl f
  where
    go : (x : Bool) → (i == q.initiator) ≡ x → (y : Bool) → (t == q.target && m == q.unit) ≡ y → (x && y) ≡ false
        → reply_now b q ≡ reply_now a q
    go x ex false ey z = elsewhere_same s a b (Event.Aborted i t m AbortKind.All) q seats sound (ap not ey) st
    go true ex true ey z = absurd (true≢false z)
    go false ex true ey z =
        abort_here s a b i t m AbortKind.All q seats sound ey st (λ seat. other_context seat i q.initiator ex)

event_same : (s : ScenarioValue) (a b : Array) (e : Event) (q : Process) → HasSeats s → IsSound s a
    → may_change s q e ≡ false → step s e a ≡ Some b → reply_now b q ≡ reply_now a q
event_same s a b (Event.Accept id) q seats sound f st =
    by_context a b q (accept_at s a b id q.target q.unit q.initiator seats sound (not_none s id f) st)
event_same s a b (Event.Refuse id) q seats sound f st =
    by_context a b q (refuse_at s a b id q.target q.unit q.initiator seats sound (not_none s id f) st)
event_same s a b (Event.Fail id code) q seats sound f st =
    by_context a b q (fail_at s a b id code q.target q.unit q.initiator seats sound (not_none s id f) st)
event_same s a b (Event.Lost id) q seats sound f st =
    by_context a b q (loss_at s a b id q.target q.unit q.initiator seats sound (not_none s id f) st)
event_same s a b (Event.Run id) q seats sound f st = elsewhere_same s a b (Event.Run id) q seats sound
    (not-false (Seats.is_elsewhere s (Event.Run id) q.target q.unit) f) st
event_same s a b (Event.End id status) q seats sound f st = elsewhere_same s a b (Event.End id status) q seats sound
    (not-false (Seats.is_elsewhere s (Event.End id status) q.target q.unit) f) st
event_same s a b (Event.Aborted i t n what) q seats sound f st = abort_same s a b i t n what q seats sound f st
event_same s a b (Event.Reset dev) q seats sound f st = absurd (true≢false f)

pub record SameReply (s : ScenarioValue) (a b : Array) (q : Process) : Type 0 where
  pub sound : IsSound s b
  pub same : reply_now b q ≡ reply_now a q

pub events_same : (s : ScenarioValue) (a b : Array) (shown : List Event) (q : Process) → HasSeats s → IsSound s a
    → any_may_change s q shown ≡ false → array_after_events s (Some a) shown ≡ Some b → SameReply s a b q
events_same s a b [] q seats sound f st = record {
  sound = subst (IsSound s) (same_Some a b st) sound;
  same = ap (λ (x : Array). reply_now x q) (sym (same_Some a b st));
}
events_same s a b (e ∷ shown) q seats sound f st =
    go (array_after_events s (Some a) shown) refl st (λ c z. events_same s a c shown q seats sound parts.1 z)
  where
    parts : (may_change s q e ≡ false) × (any_may_change s q shown ≡ false)
    parts = or_parts (may_change s q e) (any_may_change s q shown) f

    go : (o : Option Array) → array_after_events s (Some a) shown ≡ o → array_step s e o ≡ Some b
        → ((c : Array) → array_after_events s (Some a) shown ≡ Some c → SameReply s a c q) → SameReply s a b q
    go None z w rest = none_some b w
    go (Some c) z w rest =
        let v = rest c z in
        record {
          sound = step_sound s c b e seats v.sound w;
          same = event_same s c b e q seats v.sound parts.0 w ∙ v.same;
        }

-- The reply of one that has carried some of its data stays, where it does with such an event.
pub reply_stays_by : (s : ScenarioValue) (p : List Row) (row : Row) → HasSeats s → Known s p row
    → OnOpen (HasReplyThen s (run_state s p) row) (array_of s (run_state s (row ∷ p)))
    → OnOpen (HasReplyStill s (run_state s p) (run_state_after s (run_state s p) row))
    (array_of s (run_state s (row ∷ p)))
reply_stays_by s p row seats h stays = each_map (IfOpen (HasReplyThen s k row) b)
    (IfOpen (HasReplyStill s k (run_state_after s k row)) b) b (λ r v none. still r.process.id (v none)) stays
  where
    k : RunState
    k = run_state s p

    b : Array
    b = array_of s (run_state s (row ∷ p))

    shown : List Event
    shown = row_events_by s k.story (row_reading k.story.bus_state row) row

    still : (id : ProcId) → HasReplyThen s k row id → HasReplyStill s k (run_state_after s k row) id
    still id has q own some =
        by_bool (any_may_change s q shown)
        (λ e. has q own some e)
        (λ e.
        ap (λ (x : Array). reply_now x q) (then_is s p row h)
        ∙ (events_same s h.places.array h.later.array shown q seats h.places.sound e (steps_of s p row h)).same
        ∙ ap (λ (x : Array). reply_now x q) (sym (here_is s p row h)))
