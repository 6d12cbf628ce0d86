-- The events that a row shows of the process that a target serves.
use Rattle.std.proofs.Common.{ℕ, ◌≡◌, ◌≤◌, ◌∙◌, ◌==◌, Bool, true, false, List, [], ◌∷◌, refl, sym, subst, length}
use Rattle.std.proofs.Common.{Option, Some, None}
use Rattle.std.specs.Prelude.{not, ◌&&◌, ◌||◌, is_none, is_some}
use Rattle.std.proofs.lemmas.Bool.{and_parts}
use Rattle.bus_base.specs.declared.Event.{Event}
use Rattle.bus_base.specs.declared.Event.TheVariants as events
use Rattle.bus_base.specs.declared.ProcId.{ProcId}
use Rattle.bus_trace.specs.declared.Row.{Row}
use Rattle.bus_trace.specs.declared.connection.Connection.{Connection}
use Rattle.bus_trace.specs.Phases.{changes_phase}
use Rattle.cdb_codec.specs.declared.status.TheConstants.{GOOD}
use Rattle.scenario.specs.Value.{ScenarioValue}
use Rattle.array_model.specs.Processes.{Process, process_of, same_id}
use Rattle.array_model.specs.Seats.{Seat, seat_of}
use Rattle.array_model.specs.SoundArray.{HasSeats, IsSound}
use Rattle.array_model.specs.ArrayHistory.{reply_in, shows_run}
use Rattle.array_model.specs.Steps.{is_waiting, running_process}
use Rattle.array_model.specs.Units.{Array}
use Rattle.due_model.specs.story_model.specs.BusState.{RowReading, row_reading}
use Rattle.due_model.specs.story_model.specs.Items.{Item, process, abort}
use Rattle.due_model.specs.dialogue_model.specs.declared.exchange.Phase.{Phase}
use Rattle.due_model.specs.dialogue_model.specs.declared.exchange.Phase.TheVariants as phases
use Rattle.due_model.specs.dialogue_model.specs.declared.exchange.Cause.{Cause}
use Rattle.due_model.specs.dialogue_model.specs.declared.exchange.Next.{Next}
use Rattle.due_model.specs.dialogue_model.specs.Events.{has_replied}
use Rattle.due_model.specs.dialogue_model.specs.NextPhase.{phase_of}
use Rattle.due_model.specs.RunState.{RunState, array_of, bus_of, process_served}
use Rattle.due_model.specs.RunSteps.{run_state, events_of_row}
use Rattle.due_model.specs.Sights.{serving_of}
use Rattle.due_model.specs.Tasks.{reply_now, task_if}
use Rattle.due_model.specs.Telling.{id_of}
use Rattle.target_course.specs.scsi_device.specs.Heard.{Instructions, instructions, is_heard_process, is_instructed}
use Rattle.target_course.specs.scsi_device.specs.Heard.{is_new, is_command_phase, is_opening, is_opening_in, is_placed}
use Rattle.target_course.specs.scsi_device.specs.Heard.{is_unanswered, is_answered, gives_status, may_leave, moves_data}
use Rattle.target_course.specs.target_units.specs.Seated.{HasSent}
use Rattle.target_course.specs.target_units.specs.Units.{IsStep}
use Rattle.target_course.specs.target_units.proofs.Arrivals.{arrival_replies}
use Rattle.target_course.specs.target_units.proofs.UnitTellings.{reply_same}
use Rattle.target_course.specs.Courses.{CourseState, IsCourse, IsOfProcess, name_of}
use Rattle.target_course.proofs.CourseAgrees.{IsFront, IsServed, served_is}
use Rattle.target_course.proofs.ReplyRows.{Shape, shown_of, number_is}
use Rattle.target_course.proofs.ReplyRows as shapes
use Rattle.target_course.specs.target_units.proofs.ReplySteps.{accept_same}
use Rattle.disk_target.specs.Attended.{are_in, are_known_ends}
use Rattle.disk_target.specs.Processes.{AreOwnEvents}
use Rattle.disk_target.specs.Standings.{HasBlock, IsNoGuest, IsStanding}
use Rattle.disk_target.specs.Turns.{abort_of}
use Rattle.target_course.specs.target_units.specs.declared.served.Served.{Served}
use Rattle.disk_target.specs.declared.standing.Standing.{Standing}
use Rattle.disk_target.specs.declared.standing.Standing.TheVariants as standings
use Rattle.disk_target.proofs.Beginnings.{new_nowhere}
use Rattle.disk_target.proofs.Data.{id_is}
use Rattle.disk_target.proofs.RowKnown.{IsKnown, arriving, moving, giving, arrives_in, block_known, is_arrival}
use Rattle.disk_target.proofs.RowKnown.{is_known, needs_command, placed_new}
use Rattle.disk_target.proofs.RowOutside.{IsAttended}
use Rattle.disk_target.proofs.RowShapes.{ShowsIn, nothing, turned, lost, aborted, ended}
use Rattle.bus_base.proofs.Tests.{is_nothing}
use Rattle.array_model.proofs.SeatLookups.{same_id_is}
use Rattle.target_course.specs.scsi_device.proofs.Finds.{none_is}

-- ---- which process: one that is served, where any event is shown but an abort

pub record IsItem (served : Option Item) : Type 0 where
  pub id : ProcId
  pub is : served ≡ Some (process id)

abbrev pub is_any : List Event → Bool
is_any [] = false
is_any (e ∷ shown) = true

none_item : (item : Option Item) (i : ProcId) → id_of item ≡ Some i → IsItem item
none_item None i e = absurd cc
none_item (Some (abort m)) i e = absurd cc
none_item (Some (process id)) i e = record { id = id; is = refl }

end_item : (n : Connection) (item : Option Item) (i : ProcId) (status : ℕ)
    → are_in n item (events.End i status ∷ []) ≡ true → IsItem item
end_item n None i status e = absurd cc
end_item n (Some (abort m)) i status e = absurd cc
end_item n (Some (process id)) i status e = record { id = id; is = refl }

pub shown_item : (s : ScenarioValue) (k : RunState) (d : RowReading) (n : Connection) (shown : List Event)
    → ShowsIn s k d n shown → are_in n k.served shown ≡ true → abort_of shown ≡ None → is_any shown ≡ true
    → IsItem k.served
shown_item s k d n shown (nothing e) f g h = let bad : false ≡ true = sym (λ i. is_any (e i)) ∙ h in absurd cc
shown_item s k d n shown (turned i x e a b c z t) f g h = none_item k.served i e
shown_item s k d n shown (lost i e a b) f g h = none_item k.served i e
shown_item s k d n shown (aborted unit what e b) f g h =
    let bad : None ≡ Some _ = sym g ∙ (λ i. abort_of (e i)) in
    absurd cc
shown_item s k d n shown (ended i status e b) f g h =
    end_item n k.served i status ((λ j. are_in n k.served (sym e j)) ∙ f)

-- ---- what its target knows of it

pub record Knows (s : ScenarioValue) (rows : List Row) (n : Connection) (c : CourseState) (p : Process) : Type 0 where
  pub is : process_served s (run_state s rows) ≡ Some p
  pub id : c.id ≡ p.id
  pub named : c.named ≡ Some (name_of p)
  pub known : (instructions s rows).known ≡ true → c.block ≡ p.cdb
  pub turns : may_leave s (run_state s rows) n ≡ true
      → IsKnown (serving_of s (run_state s rows) n.target) (phase_of (bus_of (run_state s rows))) → c.block ≡ p.cdb

pub knows : (s : ScenarioValue) (rows : List Row) (n : Connection) (c : CourseState) (p : Process)
    → IsFront s (run_state s rows) n (instructions s rows) → IsCourse s rows n c
    → process_served s (run_state s rows) ≡ Some p → length p.cdb ≤ 10
    → (n.reselected ≡ false → is_opening (run_state s rows) ≡ false) → Knows s rows n c p
knows s rows n c p front course is few closed = go n.reselected refl
  where
    k : RunState
    k = run_state s rows

    by : (q : Process) → IsServed s k n (instructions s rows) c q → q ≡ p → Knows s rows n c p
    by q v same =
        let w : IsServed s k n (instructions s rows) c p = subst
        (λ (x : Process). IsServed s k n (instructions s rows) c x) same v in
        record {
          is = is;
          id = w.id;
          named = w.named;
          known = w.block;
          turns = λ may t. block_known s rows n c p front w may few t;
        }

    go : (y : Bool) → n.reselected ≡ y → Knows s rows n c p
    go true r =
        let t : IsOfProcess (instructions s rows) p c = course.current r p is in
        record {
          is = is;
          id = id_is s rows n c p course is;
          named = t.named;
          known = λ z. t.block;
          turns = λ may z. t.block;
        }
    go false r =
        let w : (q : Process) × IsServed s k n (instructions s rows) c q = served_is s rows n c front
        (closed r) course in
        let both : Some w.0 ≡ Some p = sym w.1.is ∙ is in
        let same : w.0 ≡ p = cc in
        by w.0 w.1 same

-- ---- where it stands as its command arrives

pub nowhere_of : (seat : Seat) (p : Process) (v : Standing) → IsNoGuest seat p false → IsStanding seat p v
    → v ≡ standings.Nowhere
nowhere_of seat p standings.Nowhere h st = refl
nowhere_of seat p standings.Queued h st = let bad : false ≡ true = sym h.inside_is ∙ st.inside_is in absurd cc
nowhere_of seat p (standings.Guest reply) h st = let bad : None ≡ Some st.guest = sym h.none ∙ st.at in absurd cc

command_closed : (phase : Phase) → phase ≡ phases.Command → (b : Bool) (k : RunState) → b ≡ true
    → (not b || is_opening_in phase k.exchange.plan.cause) ≡ false
command_closed phase e b k f = λ i. not (f i) || is_opening_in (e i) k.exchange.plan.cause

pub arrives_new : (s : ScenarioValue) (rows : List Row) (n : Connection) (p : Process)
    → IsFront s (run_state s rows) n (instructions s rows) → process_served s (run_state s rows) ≡ Some p
    → (run_state s rows).exchange.begun ≡ true → phase_of (bus_of (run_state s rows)) ≡ phases.Command
    → is_new (array_of s (run_state s rows)) p ≡ true
arrives_new s rows n p front is begins command =
    let k : RunState = run_state s rows in
    let i : Instructions = instructions s rows in
    let phase : Phase = phase_of (bus_of k) in
    let closed : is_opening k ≡ false = command_closed phase command k.exchange.begun k begins in
    let heard : is_heard_process s k n i (Some p) phase ≡ true = (λ j. is_heard_process s k n i (sym is j) phase)
    ∙ front.heard closed in
    let both = and_parts (n.reselected || is_instructed k i p phase)
    (is_placed (array_of s k) p phase k.exchange.plan.next i.known) heard in
    placed_new (array_of s k) p phase k.exchange.plan.next i.known both.1 command

-- ---- as it runs it has no reply

moving_closed : (phase : Phase) (next : Next) (cause : Cause) (b : Bool) → moves_data phase next ≡ true → b ≡ true
    → (not b || is_opening_in phase cause) ≡ false
moving_closed phases.DataIn next cause b e f = λ i. not (f i) || false
moving_closed phases.DataOut next cause b e f = λ i. not (f i) || false
moving_closed phases.MessageIn next cause b e f = λ i. not (f i) || false
moving_closed phases.MessageOut next cause b e f = cc
moving_closed phases.Command next cause b e f = cc
moving_closed phases.Status next cause b e f = cc

new_unanswered : (a : Array) (p : Process) → is_new a p ≡ true → reply_in a.replies p.id ≡ None
new_unanswered a p e = is_nothing (reply_in a.replies p.id) (and_parts
    (not (is_waiting a.units p.id) && is_none (running_process a p.id)) (is_none (reply_in a.replies p.id)) e).1

moving_unanswered : (s : ScenarioValue) (rows : List Row) (n : Connection) (p : Process)
    → IsFront s (run_state s rows) n (instructions s rows)
    → process_served s (run_state s rows) ≡ Some p → (run_state s rows).exchange.begun ≡ true
    → moves_data (phase_of (bus_of (run_state s rows))) (run_state s rows).exchange.plan.next ≡ true
    → reply_in (array_of s (run_state s rows)).replies p.id ≡ None
moving_unanswered s rows n p front is begins moves =
    let k : RunState = run_state s rows in
    let i : Instructions = instructions s rows in
    let a : Array = array_of s k in
    let phase : Phase = phase_of (bus_of k) in
    let closed : is_opening k ≡ false = moving_closed phase
    k.exchange.plan.next k.exchange.plan.cause k.exchange.begun moves begins in
    let heard : is_heard_process s k n i (Some p) phase ≡ true = (λ j. is_heard_process s k n i (sym is j) phase)
    ∙ front.heard closed in
    let both = and_parts (n.reselected || is_instructed k i p phase)
    (is_placed a p phase k.exchange.plan.next i.known) heard in
    let last = and_parts
    ((not (is_command_phase phase) || (not i.known && is_new a p)) && (not (moves_data phase k.exchange.plan.next)
    || (i.known && is_unanswered (running_process a p.id) && is_none (reply_in a.replies p.id))))
    (not (gives_status phase k.exchange.plan.next)
    || (is_answered (running_process a p.id) && is_some (reply_in a.replies p.id))) both.1 in
    let two = and_parts (not (is_command_phase phase) || (not i.known && is_new a p))
    (not (moves_data phase k.exchange.plan.next)
    || (i.known && is_unanswered (running_process a p.id) && is_none (reply_in a.replies p.id))) last.0 in
    let three : (i.known && is_unanswered (running_process a p.id) && is_none (reply_in a.replies p.id)) ≡ true =
    (λ j. not (sym moves j) || (i.known && is_unanswered (running_process a p.id) && is_none (reply_in a.replies p.id)))
    ∙ two.1 in
    is_nothing (reply_in a.replies p.id)
    (and_parts (i.known && is_unanswered (running_process a p.id)) (is_none (reply_in a.replies p.id)) three).1

pub unanswered : (s : ScenarioValue) (rows : List Row) (n : Connection) (p : Process)
    → IsFront s (run_state s rows) n (instructions s rows) → process_served s (run_state s rows) ≡ Some p
    → (run_state s rows).exchange.begun ≡ true → may_leave s (run_state s rows) n ≡ true
    → IsKnown (serving_of s (run_state s rows) n.target) (phase_of (bus_of (run_state s rows)))
    → reply_in (array_of s (run_state s rows)).replies p.id ≡ None
unanswered s rows n p front is begins may (arriving same unstruck) =
    new_unanswered (array_of s (run_state s rows)) p (arrives_new s rows n p front is begins same)
unanswered s rows n p front is begins may (moving m) = moving_unanswered s rows n p front is begins m
unanswered s rows n p front is begins may (giving g none) = none_is (reply_in
    (array_of s (run_state s rows)).replies p.id) ((λ j. has_replied (task_if s (run_state s rows) (sym is j))) ∙ none)

-- ---- the events

pub has_sent : (a : Array) (p : Process) (dev unit : ℕ) (sent : List ℕ) → p.target ≡ dev → p.unit ≡ unit
    → ((reply_now a p).status ≡ GOOD → sent ≡ p.sent) → HasSent (seat_of a dev unit) p sent
has_sent a p dev unit sent at in_unit f good =
    f ((λ i. (sym (reply_same a dev unit p.initiator p.cdb p at in_unit refl refl) i).status) ∙ good)

ended_id : (n : Connection) (item : Option Item) (p : Process) (i : ProcId) (status : ℕ) → id_of item ≡ Some p.id
    → are_in n item (events.End i status ∷ []) ≡ true → i ≡ p.id
ended_id n None p i status e f = absurd cc
ended_id n (Some (abort m)) p i status e f = absurd cc
ended_id n (Some (process id)) p i status e f =
    let one = and_parts (same_id i id || false) true f in
    let same : id ≡ p.id = cc in
    same_id_is i id (left (same_id i id) one.0) ∙ same
  where
    left : (x : Bool) → (x || false) ≡ true → x ≡ true
    left true g = refl
    left false g = cc

known_end : (i : ProcId) (status : ℕ) (known : Bool) → are_known_ends known (events.End i status ∷ []) ≡ true
    → (status == GOOD) ≡ true → known ≡ true
known_end i status true e f = refl
known_end i status false e f = let bad : (not true && true) ≡ true = (λ j. not (sym f j) && true) ∙ e in absurd cc

pub own_events : (s : ScenarioValue) (rows : List Row) (row : Row) (n : Connection) (c : CourseState) (p : Process)
    (x : Served) (v : Standing) (dev unit : ℕ) → HasSeats s → IsSound s (array_of s (run_state s rows))
    → IsFront s (run_state s rows) n (instructions s rows) → IsAttended s rows row n
    → ShowsIn s (run_state s rows) (row_reading (run_state s rows).story.bus_state row) n (events_of_row s rows row)
    → (changes_phase (row_reading (run_state s rows).story.bus_state row).change ≡ true
    → is_some (row_reading (run_state s rows).story.bus_state row).next ≡ true
    → (run_state s rows).exchange.begun ≡ true → may_leave s (run_state s rows) n ≡ true) → Knows s rows n c p
    → process_of s p.id ≡ Some p → p.target ≡ dev → p.unit ≡ unit → (c.block ≡ p.cdb → HasBlock p x)
    → (shows_run (events_of_row s rows row) ≡ true → (run_state s rows).exchange.begun ≡ true
    → c.block ≡ p.cdb → (reply_now (array_of s (run_state s rows)) p).status ≡ GOOD → x.sent.now ≡ p.sent)
    → IsStanding (seat_of (array_of s (run_state s rows)) dev unit) p v → abort_of (events_of_row s rows row) ≡ None
    → AreOwnEvents s (array_of s (run_state s rows)) dev unit p x v (events_of_row s rows row)
own_events s rows row n c p x v dev unit seats sound front attended shows may h there at in_unit block sent standing
    calm = go shows
  where
    k : RunState
    k = run_state s rows

    a : Array
    a = array_of s k

    d : RowReading
    d = row_reading k.story.bus_state row

    shown : List Event
    shown = events_of_row s rows row

    goal : List Event → Type 0
    goal l = AreOwnEvents s a dev unit p x v l

    number : id_of k.served ≡ Some p.id
    number = (number_is s k.served p h.is).0

    same : (i : ProcId) → id_of k.served ≡ Some i → i ≡ p.id
    same i e = let both : Some i ≡ Some p.id = sym e ∙ number in cc

    -- as a phase is left
    turn : (i : ProcId) (y : Shape) → i ≡ p.id → shown ≡ shown_of i y → k.exchange.begun ≡ true
        → (needs_command y ≡ true → (c.block ≡ p.cdb) × (reply_in a.replies p.id ≡ None))
        → (is_arrival y ≡ true → v ≡ standings.Nowhere) → goal (shown_of i y)
    turn i shapes.nothing e f b needs new = tt
    turn i shapes.accepts e f b needs new = (e, new refl, block (needs refl).0)
    turn i shapes.refuses e f b needs new = (e, new refl, block (needs refl).0)
    turn i shapes.runs e f b needs new = (
      e,
      block (needs refl).0,
      λ out. record {
        sent =
            has_sent a p dev unit x.sent.now at in_unit (λ good. sent ((λ j. shows_run (f j))) b (needs refl).0 good);
        unanswered = (needs refl).1;
      },
    )
    turn i (shapes.fails code) e f b needs new = e
    turn i shapes.accepts_and_runs e f b needs new = (
      (λ j. events.Accept (e j)),
      new refl,
      block (needs refl).0,
      λ z w st. (
        e,
        block (needs refl).0,
        λ out. record {
          sent = has_sent z p dev unit x.sent.now at in_unit
              (λ good. sent ((λ j. shows_run (f j))) b (needs refl).0 (kept z st good));
          unanswered = (λ j. reply_in (arrival_replies s a z i st.step_is j) p.id) ∙ (needs refl).1;
        },
      ),
    )
      where
        kept : (z : Array) → IsStep s (events.Accept i) a z → (reply_now z p).status ≡ GOOD
            → (reply_now a p).status ≡ GOOD
        kept z st good =
            let step : IsStep s (events.Accept p.id) a z = subst
            (λ (y : ProcId). IsStep s (events.Accept y) a z) e st in
            (λ j. (sym (accept_same s a z p seats sound there step.step_is) j).status) ∙ good

    go : ShowsIn s k d n shown → goal shown
    go (nothing e) = subst goal (sym e) tt
    go (turned i y e f b st ch t) = subst goal (sym f)
        (turn i y (same i e) f b (λ z. let known : IsKnown (serving_of s k n.target) (phase_of (bus_of k)) = is_known
        (serving_of s k n.target) (bus_of k).atn (phase_of (bus_of k)) i y t z in (
          h.turns (may ch st b) known,
          unanswered s rows n p front h.is b (may ch st b) known,
        )) (λ z. nowhere_of (seat_of a dev unit) p v (new_nowhere a p dev unit (arrives_new s rows n p front h.is b
        (arrives_in (serving_of s k n.target) (bus_of k).atn (phase_of (bus_of k)) i y t z))) standing))
    go (lost i e f st) = subst goal (sym f) (same i e)
    go (aborted u what f st) = let bad : None ≡ Some _ = sym calm ∙ (λ j. abort_of (f j)) in absurd cc
    go (ended i status f st) = subst goal (sym f) (
      ended_id n k.served p i status number ((λ j. are_in n k.served (sym f j)) ∙ attended.within),
      λ good. block (h.known (known_end i status (instructions s rows).known
          ((λ j. are_known_ends (instructions s rows).known (sym f j)) ∙ attended.known) good)),
    )
