-- As a process runs with a row, the current process of its unit, another one, would answer the same (7.2, 7.5, 7.8).
use Rattle.right_laws.proofs
use proofs.Names.{ℕ, ◌≡◌, ◌⊎◌, inl, inr, Bool, true, false, not, ◌&&◌, ◌||◌, ◌∙◌, List, [], ◌∷◌, Option, Some, None}
use proofs.Names.{refl, sym, ap, subst, same_Some, if◌then◌else◌, is_none, is_some, wrong, wrong', Event, ProcId}
use proofs.Names.{LineSet, is_command, is_message_out, Row, Change, Handshakes, command_of, ScenarioValue, accept_law}
use proofs.Names.{run_law, step_sound, array_step, reply_in, Execution, Reply, execution, is_request_sense, Process}
use proofs.Names.{process_of, same_id, Seat, context_of, current_of, guests_at, seat_if, seat_of, settled_seat}
use proofs.Names.{settled_seat_if, AllOwnGuests, HasSeats, IsSound, is_of_unit, step, Array, RunningProcess, UnitState}
use proofs.Names.{guest_at, unit_state_at, RowReading, row_reading, is_status_phase, row_events_by, process, has_run}
use proofs.Names.{phase_of, Cause, Messages, Next, Phase, Plan, RunState, bus_of, run_state, array_after_events}
use proofs.Names.{reply_now, run_replies as run_gives, id_is, none_some, by_bool, Arrives, arrives, as_guest, in_queue}
use proofs.Names.{not_running, queued_rests, AnsweredOpen, Closes, IsAtRest, IsAway, IsOutside, IsTaken, IsUntouched}
use proofs.Names.{OnGuests, PlacedAsked, PlacedBefore, PlacedIn, RunsOpen, completes, disconnects, OnEvents}
use proofs.Ran.Crossings.{GoesSo, InBytes, IsPlaced, byte_phase, here_goes, in_command, in_data, in_status}
use proofs.Ran.{Crossings.{known_served, new_here, placed_here}, Facts.{IsFound, Known, apart_of, here_is, run_found}}
use proofs.Ran.{Facts.{steps_of}, Open.{none_is}, Shown.{IsAnswer, IsArrival, RunsAs, ShownAs, row_runs, row_shown}}
use proofs.{Ran.Shown.{runs_alone, runs_arrived}, Replies.Same.{SameContext, accept_at, by_context, place_of}}
use proofs.Replies.Senses.{IsCurrentAt, run_seat}
use Rattle.due_model.specs.array_model.specs.Seats

-- ---- a unit that is not there

none_run : (seat after : Seat) (id : ProcId) → seat.unit ≡ None
    → settled_seat_if (Seats.seat_after_run id seat) ≡ Some after → after.unit ≡ None
none_run seat after id e = go (Seats.running_at seat id)
  where
    done_at : (r : RunningProcess) (done : Execution)
        → (settled_seat (Seats.seat_with_execution seat r.process done)).unit ≡ None
    done_at r done = λ i. Seats.unit_mapped (Seats.unit_with_choice (Seats.is_any_held seat.hold))
        (Seats.unit_mapped (Seats.unit_with_reply r.process.id done.reply)
        (Seats.unit_mapped (Seats.unit_with_contents done.contents) (e i)))

    runs : (r : RunningProcess) (q : Bool) → settled_seat_if (if q then Some (Seats.seat_with_execution seat r.process
        (execution (context_of seat r.process.initiator) r.process.cdb r.process.sent)) else None) ≡ Some after
        → after.unit ≡ None
    runs r false z = none_some after z
    runs r true z =
        let done : Execution = execution (context_of seat r.process.initiator) r.process.cdb r.process.sent in
        ap (λ (x : Seat). x.unit)
        (sym (same_Some (settled_seat (Seats.seat_with_execution seat r.process done)) after z))
        ∙ done_at r done

    go : (o : Option RunningProcess)
        → settled_seat_if (Seats.seat_after_run_of seat (is_some (guest_at seat.guests id)) o) ≡ Some after
        → after.unit ≡ None
    go None z = none_some after z
    go (Some r) z =
        runs r (is_none r.reply && (is_some (guest_at seat.guests id) || not (Seats.is_any_held seat.hold))) z

none_accept : (seat after : Seat) (x : Process) → seat.unit ≡ None
    → settled_seat_if (Seats.seat_after_accept x seat) ≡ Some after → after.unit ≡ None
none_accept seat after x e z =
    let is : settled_seat (Seats.seat_with_guest seat x None) ≡ after = same_Some
    (settled_seat (Seats.seat_with_guest seat x None)) after
    ((λ i. settled_seat_if (Seats.seat_after_accept_at seat x (sym e i))) ∙ z) in
    ap (λ (y : Seat). y.unit) (sym is)
    ∙ (λ i. Seats.unit_mapped (Seats.unit_with_choice (Seats.is_any_held seat.hold)) (e i))

-- ---- where it stands as it runs

abbrev HasKind : Array → Process → Type 0
HasKind a x = IsOutside a x ⊎ IsAtRest a x.id

kind_of : (a : Array) (x : Process) (plan : Plan) (h : Handshakes) (atn : Bool) (phase : Phase)
    → reply_in a.replies x.id ≡ None → IsFound a x.id → PlacedIn a x plan h atn phase → HasKind a x
kind_of a x plan h atn phase none stands placed = go phase placed
  where
    untouched : IsUntouched a x.id → HasKind a x
    untouched u = none_some stands.running (sym (not_running a x.id u.away) ∙ stands.running_is)

    answered : AnsweredOpen a x.id → HasKind a x
    answered w = none_some w.answered.reply (sym none ∙ w.answered.given)

    runs : RunsOpen a x → HasKind a x
    runs w = w.runs.kind

    closing : (m : Messages) → Closes a x m → HasKind a x
    closing m (completes e w) = answered w
    closing m (disconnects t rest o queued) = inr rest

    before : (m : Messages) (z : Next) → PlacedBefore a x m z → HasKind a x
    before m Next.Command w = untouched w
    before m Next.GoOn w = runs w
    before m Next.Status w = answered w
    before m Next.FreeBus w = closing m w

    asked : (c : Cause) → PlacedAsked a x plan c → HasKind a x
    asked Cause.Selected w = untouched w
    asked Cause.InMessage w = before plan.messages plan.next w
    asked Cause.InData w = runs w
    asked Cause.InStatus w = answered w

    said : PlacedBefore a x plan.messages plan.next ⊎ IsTaken a x plan h atn → HasKind a x
    said (inl w) = before plan.messages plan.next w
    said (inr w) = inr w.rests

    go : (y : Phase) → PlacedIn a x plan h atn y → HasKind a x
    go Phase.MessageOut w = asked plan.cause w
    go Phase.MessageIn w = said w
    go Phase.Command w = untouched w
    go Phase.Status w = answered w
    go Phase.DataIn w = runs w
    go Phase.DataOut w = runs w

-- ---- the step

pub record IsCurrent (b : Array) (q : Process) : Type 0 where
  pub unit : UnitState
  pub unit_is : unit_state_at b.units q.target q.unit ≡ Some unit
  pub running : RunningProcess
  pub current_is : unit.current ≡ Some running
  pub process_is : running.process ≡ q
  pub unanswered : reply_in b.replies q.id ≡ None

pub guest_there : (s : ScenarioValue) (guests : List RunningProcess) (t m : ℕ) (x : Process) (g : RunningProcess)
    → AllOwnGuests s guests → process_of s x.id ≡ Some x → guest_at (guests_at guests t m) x.id ≡ Some g → g.process ≡ x
guest_there s [] t m x g own is e = none_some g e
guest_there s (y ∷ guests) t m x g own is e =
    go (is_of_unit y.process t m) (same_id y.process.id x.id) refl e (λ z. guest_there s guests t m x g own.1 is z)
  where
    go : (q r : Bool) → same_id y.process.id x.id ≡ r
        → guest_at (if q then y ∷ guests_at guests t m else guests_at guests t m) x.id ≡ Some g
        → (guest_at (guests_at guests t m) x.id ≡ Some g → g.process ≡ x) → g.process ≡ x
    go false r er z rest = rest z
    go true false er z rest = rest ((λ i. if sym er i then Some y else guest_at (guests_at guests t m) x.id) ∙ z)
    go true true er z rest = ap (λ (r : RunningProcess). r.process)
        (sym (same_Some y g ((λ i. if sym er i then Some y else guest_at (guests_at guests t m) x.id) ∙ z)))
        ∙ same_Some y.process x (sym own.0 ∙ ap (process_of s) (id_is y.process.id x.id er) ∙ is)

guest_away : (guests : List RunningProcess) (t m : ℕ) (id : ProcId) (g : RunningProcess) → OnGuests (IsAway id) guests
    → guest_at (guests_at guests t m) id ≡ Some g → ⊥
guest_away [] t m id g h e = none_some g e
guest_away (y ∷ guests) t m id g h e = go (is_of_unit y.process t m) e (λ z. guest_away guests t m id g h.1 z)
  where
    go : (q : Bool) → guest_at (if q then y ∷ guests_at guests t m else guests_at guests t m) id ≡ Some g
        → (guest_at (guests_at guests t m) id ≡ Some g → ⊥) → ⊥
    go false z rest = rest z
    go true z rest = rest ((λ i. if sym h.0 i then Some y else guest_at (guests_at guests t m) id) ∙ z)

run_step_same : (s : ScenarioValue) (c b : Array) (x q : Process) → HasSeats s → IsSound s c
    → process_of s x.id ≡ Some x → is_of_unit x q.target q.unit ≡ true → HasKind c x → IsCurrent b q
    → step s (Event.Run x.id) c ≡ Some b → reply_now b q ≡ reply_now c q
run_step_same s c b x q seats sound own place kind w st =
    by (run_seat (seat_of c x.target x.unit) (seat_of b x.target x.unit) x.id q.initiator senses law)
  where
    at : (x.target ≡ q.target) × (x.unit ≡ q.unit)
    at = place_of x q.target q.unit place

    law : settled_seat_if (Seats.seat_after_run x.id (seat_of c x.target x.unit)) ≡ Some (seat_of b x.target x.unit)
    law = sym (run_law s c x seats sound own) ∙ ap (λ (o : Option Array). seat_if o x.target x.unit) st

    there : unit_state_at b.units x.target x.unit ≡ Some w.unit
    there = (λ i. unit_state_at b.units (at.0 i) (at.1 i)) ∙ w.unit_is

    senses : (g : RunningProcess) → guest_at (guests_at c.guests x.target x.unit) x.id ≡ Some g
        → is_request_sense (command_of g.process.cdb) ≡ true
    senses g eg = of kind
      where
        of : HasKind c x → is_request_sense (command_of g.process.cdb) ≡ true
        of (inl (inl none)) = none_some w.unit
            (sym (none_run (seat_of c x.target x.unit) (seat_of b x.target x.unit) x.id none law) ∙ there)
        of (inl (inr e)) = ap (λ (y : Process). is_request_sense (command_of y.cdb))
            (guest_there s c.guests x.target x.unit x g sound.guests own eg)
            ∙ e
        of (inr rests) = absurd (guest_away c.guests x.target x.unit x.id g rests.guests eg)

    by : (context_of (seat_of b x.target x.unit) q.initiator ≡ context_of (seat_of c x.target x.unit) q.initiator)
        ⊎ IsCurrentAt (seat_of b x.target x.unit) x.id
        → reply_now b q ≡ reply_now c q
    by (inl e) = by_context c b q (subst (λ (t : ℕ). SameContext c b t q.unit q.initiator) at.0
        (subst (λ (m : ℕ). SameContext c b x.target m q.initiator) at.1 e))
    by (inr cur) =
        none_some (reply_now c x) (sym w.unanswered ∙ ap (reply_in b.replies) same ∙ run_gives s c b x sound own st)
      where
        one : w.running ≡ cur.running
        one = same_Some w.running cur.running (sym w.current_is ∙ ap current_of (sym there) ∙ cur.current_is)

        same : q.id ≡ x.id
        same = ap (λ (y : Process). y.id) (sym w.process_is) ∙ ap (λ (r : RunningProcess). r.process.id) one
            ∙ id_is cur.running.process.id x.id cur.id_is

-- ---- the row

pub answer_here : (s : ScenarioValue) (k : RunState) (row : Row) (id : ProcId)
    → RunsAs id (row_events_by s k.story (row_reading k.story.bus_state row) row)
    → IsAnswer k (row_reading k.story.bus_state row) id
answer_here s k row id (runs_alone e) =
    (subst (OnEvents (ShownAs s k (row_reading k.story.bus_state row) row)) e (row_shown s k row)).0
answer_here s k row id (runs_arrived e) =
    (subst (OnEvents (ShownAs s k (row_reading k.story.bus_state row) row)) e (row_shown s k row)).0

-- It has a reply then.
pub run_replies : (s : ScenarioValue) (p : List Row) (row : Row) (h : Known s p row) (x : Process)
    → HasSeats s → process_of s x.id ≡ Some x
    → has_run (row_events_by s (run_state s p).story (row_reading (run_state s p).story.bus_state row) row) x.id ≡ true
    → is_some (reply_in h.later.array.replies x.id) ≡ true
run_replies s p row h x seats own ran = by (row_runs s (run_state s p) row x.id ran)
  where
    a : Array
    a = h.places.array

    b : Array
    b = h.later.array

    by : RunsAs x.id (row_events_by s (run_state s p).story (row_reading (run_state s p).story.bus_state row) row)
        → is_some (reply_in b.replies x.id) ≡ true
    by (runs_alone e) = ap (λ (o : Option Reply). is_some o)
        (run_gives s a b x h.places.sound own (sym (ap (array_after_events s (Some a)) e) ∙ steps_of s p row h))
    by (runs_arrived e) = go (array_step s (Event.Accept x.id) (Some a)) refl
        (sym (ap (array_after_events s (Some a)) e) ∙ steps_of s p row h)
      where
        go : (o : Option Array) → array_step s (Event.Accept x.id) (Some a) ≡ o
            → array_step s (Event.Run x.id) o ≡ Some b → is_some (reply_in b.replies x.id) ≡ true
        go None z w = none_some b w
        go (Some c) z w = ap (λ (o : Option Reply). is_some o)
            (run_gives s c b x (step_sound s a c (Event.Accept x.id) seats h.places.sound z) own w)

pub run_same : (s : ScenarioValue) (p : List Row) (row : Row) (h : Known s p row) (x q : Process)
    → HasSeats s → process_of s x.id ≡ Some x → is_of_unit x q.target q.unit ≡ true
    → has_run (row_events_by s (run_state s p).story (row_reading (run_state s p).story.bus_state row) row) x.id ≡ true
    → IsCurrent h.later.array q → reply_now h.later.array q ≡ reply_now h.places.array q
run_same s p row h x q seats own place ran w = by shape
  where
    k : RunState
    k = run_state s p

    d : RowReading
    d = row_reading k.story.bus_state row

    a : Array
    a = h.places.array

    b : Array
    b = h.later.array

    shape : RunsAs x.id (row_events_by s k.story d row)
    shape = row_runs s k row x.id ran

    answer : IsAnswer k d x.id
    answer = answer_here s k row x.id shape

    g : GoesSo s k row
    g = here_goes s k row answer.link x.id (apart_of s p row h) h.next.row_is answer.here

    served : k.served ≡ Some (process x.id)
    served = known_served s k row g.connection g.change answer.link x.id h.was.books g.goes answer.here.link_is
        answer.here.item_is

    none : reply_in a.replies x.id ≡ None
    none = none_is (reply_in a.replies x.id)
        (ap (λ (y : Array). is_some (reply_in y.replies x.id)) (sym (here_is s p row h)) ∙ h.shown x.id
        ∙ answer.unanswered)

    no_out : (c : LineSet) → is_status_phase c ≡ true → is_message_out c ≡ false
    no_out c e = of c.msg c.cd c.io e
      where
        of : (m t i : Bool) → (not m && t && i) ≡ true → (m && t && not i) ≡ false
        of false t i z = refl
        of true t i z = wrong' z

    begun : k.exchange.begun ≡ true
    begun =
        by_bool k.exchange.begun
        (λ e. e)
        (λ e. wrong' (sym (no_out d.change.after answer.status) ∙ g.goes.first answer.turns e))

    alone : step s (Event.Run x.id) a ≡ Some b → reply_now b q ≡ reply_now a q
    alone st = run_step_same s a b x q seats h.places.sound own place kind w st
      where
        v : IsPlaced s k a x.id
        v = placed_here s k row g.connection g.change x.id h.places g.goes served begun

        it : v.process ≡ x
        it = same_Some v.process x (sym v.process_is ∙ own)

        kind : HasKind a x
        kind = kind_of a x k.exchange.plan k.handshakes (bus_of k).atn
            (phase_of (bus_of k)) none (run_found s a b x.id st)
            (subst (λ (y : Process). PlacedIn a y k.exchange.plan k.handshakes (bus_of k).atn (phase_of (bus_of k))) it
            v.placed)

    arrived : IsArrival k d x.id → (c : Array) → step s (Event.Accept x.id) a ≡ Some c
        → step s (Event.Run x.id) c ≡ Some b → reply_now b q ≡ reply_now a q
    arrived z c sa sb = run_step_same s c b x q seats
        (step_sound s a c (Event.Accept x.id) seats h.places.sound sa) own place (kind (arrives s a c x own sa)) w sb
        ∙ by_context a c q (accept_at s a c x.id q.target q.unit q.initiator seats h.places.sound
        (ap (λ (o : Option Process). is_some o) own) sa)
      where
        line : is_command (bus_of k) ≡ true
        line = ap is_command g.goes.row_is.bus_is
            ∙ ap (λ (y : Change). is_command y.before) (sym g.goes.row_is.change_is) ∙ z.command

        said : (bus_of k).msg ≡ false
        said = of (bus_of k).msg (bus_of k).cd (bus_of k).io line
          where
            of : (m t i : Bool) → (not m && t && not i) ≡ true → m ≡ false
            of true t i y = wrong' y
            of false t i y = refl

        in_phase : InBytes (bus_of k) → phase_of (bus_of k) ≡ Phase.Command
        in_phase (in_command e f) = e
        in_phase (in_data e f y) = wrong (sym line ∙ f)
        in_phase (in_status e f y u) = wrong (sym line ∙ f)

        untouched : IsUntouched a x.id
        untouched =
            let fresh = new_here s k row g.connection g.change x.id h.places g.goes served
            (in_phase (byte_phase (bus_of k) said)) in
            subst (IsUntouched a) fresh.id_is fresh.untouched

        kind : Arrives a x c → HasKind c x
        kind (as_guest (inl e) f) = inl (inl (none_accept (seat_of a x.target x.unit)
            (seat_of c x.target x.unit) x e (sym (accept_law s a x seats h.places.sound own)
            ∙ ap (λ (o : Option Array). seat_if o x.target x.unit) sa)))
        kind (as_guest (inr e) f) = inl (inr e)
        kind (in_queue u e senses room f) =
            inr (subst (λ (y : Array). IsAtRest y x.id) (sym f) (queued_rests a x u e untouched))

    by : RunsAs x.id (row_events_by s k.story d row) → reply_now b q ≡ reply_now a q
    by (runs_alone e) = alone (sym (ap (array_after_events s (Some a)) e) ∙ steps_of s p row h)
    by (runs_arrived e) = go (array_step s (Event.Accept x.id) (Some a)) refl
        (sym (ap (array_after_events s (Some a)) e) ∙ steps_of s p row h)
      where
        go : (o : Option Array) → array_step s (Event.Accept x.id) (Some a) ≡ o
            → array_step s (Event.Run x.id) o ≡ Some b → reply_now b q ≡ reply_now a q
        go None z y = none_some b y
        go (Some c) z y = arrived (subst (OnEvents (ShownAs s k d row)) e (row_shown s k row)).1.0 c z y
