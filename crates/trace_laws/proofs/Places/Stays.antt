-- A row of a connection with which its phase stays: as the initiator takes COMMAND COMPLETE the process ends, and else
-- nothing is shown (6.6.5).
use Rattle.trace_laws.proofs
use proofs.Names.{inl, inr, ℕ, ◌≡◌, ◌⊎◌, Bool, true, false, not, ◌&&◌, ◌==◌, ◌∙◌, [], ◌∷◌, Option, Some, None, refl}
use proofs.Names.{sym, ap, subst, if◌then◌else◌, is_some, slice_index, wrong, wrong', counted_on, Event, ProcId, rises}
use proofs.Names.{LineSet, changes_phase, is_message_out, is_message_in, receiver_in, is_fault, Row, Change, Connection}
use proofs.Names.{Handshakes, no_handshakes, handshakes_after, answered_if, asked_if, newest_struck_if, MsgIn}
use proofs.Names.{ScenarioValue, reply_in, Reply, Process, HasSeats, Array, settled_array, carried_id, row_reading}
use proofs.Names.{carried_if, is_complete, is_completion, end_events, phase_events, link_events, row_events_by, Item}
use proofs.Names.{process, abort, Link, Exchange, one_message, plan_after_message, plan_anew, struck_plan, phase_of}
use proofs.Names.{plan_with_byte, Cause, Hearing, Leaving, Messages, Next, Phase, Plan, RunState, array_of, or_start}
use proofs.Names.{bus_of, process_item, process_served, carried_here, run_state_after, hearing_of, leaving}
use proofs.Names.{InConnection, in_connection, reading_is, same_phase_is, is_in_phase, IsRowIn, reading_in, GoesOn}
use proofs.Names.{counted_some, in_phase, end_is, leaves, is_complete_in, AnsweredOpen, Closes, completes, disconnects}
use proofs.{Names.{PlacedBefore, IsTaken, PlacedAsked, PlacedIn, PlacedIf, HasPlaces}, Places.Events.{turned_none}}
use proofs.Places.{Events.{passes_step}, TurnRows.{RowPlaced}, Turned.{row_turned, row_none}}
use Rattle.story_laws.proofs.Commands.Stays.{phase_same}
use Rattle.due_model.specs.array_model.proofs.SoundArrays.{id_is}
use Rattle.due_model.specs.array_model.specs.Steps

-- ---- what it shows

pub stay_shown : (s : ScenarioValue) (k : RunState) (row : Row) (n : Connection) (c : Change) (l : Link) (now : Bool)
    → IsRowIn k row n c → changes_phase c ≡ false → is_some (receiver_in n c) ≡ now → k.story.link ≡ Some l
    → row_events_by s k.story (row_reading k.story.bus_state row) row
    ≡ (if is_completion l c then end_events (carried_if k.story l.item) else [])
stay_shown s k row n c l now r ep en link = (λ i. row_events_by s k.story (reading_is k row n c now r en i) row)
    ∙ (λ i. if r.calm i then (if rises c.own.rst c.next.rst then Event.Reset row.dev ∷ [] else [])
    else link_events s k.story (link i) (reading_in k.story.bus_state n c now))
    ∙ ap (λ (q : Bool). if q then phase_events s k.story (carried_if k.story l.item) c
    else (if is_completion l c then end_events (carried_if k.story l.item) else [])) ep

-- ---- what is asked of it

-- COMMAND COMPLETE is the only message that is planned where the initiator takes it, once, with the status of the
-- reply; and with ATN false it stays false.
pub record IsStayAsked (s : ScenarioValue) (k : RunState) (c : Change) (l : Link) : Type 0 where
  pub messages : is_completion l c ≡ true → k.exchange.plan.messages ≡ one_message MsgIn.CommandComplete
  pub next : is_completion l c ≡ true → k.exchange.plan.next ≡ Next.FreeBus
  pub once : is_completion l c ≡ true → (k.handshakes.answers == 0) ≡ true
  pub status : is_completion l c ≡ true → (id : ProcId) (reply : Reply)
      → k.served ≡ Some (process id) → reply_in (array_of s k).replies id ≡ Some reply
      → (reply.status == slice_index (carried_here k id).status.bytes 0) ≡ true
  pub attends : is_message_in c.before ≡ true → k.exchange.plan.messages ≡ one_message MsgIn.CommandComplete
      → (k.handshakes.answers == 0) ≡ false → c.before.atn ≡ false → c.after.atn ≡ false

-- ---- the plan and the handshakes after it

record SamePlan (a b : Plan) : Type 0 where
  messages : b.messages ≡ a.messages
  next : b.next ≡ a.next
  cause : b.cause ≡ a.cause

same_plan : (w : Hearing) (l : Leaving) (a : Plan) (now fault : Bool)
    → SamePlan a (if now then plan_with_byte w a else if fault && not w.change.before.io then struck_plan a else a)
same_plan w l a true fault = go (is_message_out w.change.before)
  where
    by : (q : Bool)
        → SamePlan a (record (if q then plan_anew a else a) { said = (plan_after_message a w.is_last w.out).said })
    by true = record { messages = refl; next = refl; cause = refl }
    by false = record { messages = refl; next = refl; cause = refl }

    go : (q : Bool) → SamePlan a (if q then plan_after_message a w.is_last w.out else a)
    go true = by w.is_last
    go false = record { messages = refl; next = refl; cause = refl }
same_plan w l a false fault = go (fault && not w.change.before.io)
  where
    go : (q : Bool) → SamePlan a (if q then struck_plan a else a)
    go true = record { messages = refl; next = refl; cause = refl }
    go false = record { messages = refl; next = refl; cause = refl }

-- How often ACK rose.
answers_after : (fault : Bool) (n : Connection) (c : Change) (t : ℕ) (h : Handshakes) → changes_phase c ≡ false
    → (handshakes_after fault (Some n) c t h).answers
    ≡ (if not fault && rises c.before.ack c.after.ack then counted_on h.answers else h.answers)
answers_after true n c t h e =
    elim c.before.io as (λ q. (newest_struck_if q h).answers ≡ h.answers) [ true ↦ refl | false ↦ refl ]
answers_after false n c t h e = (λ i. (if e i then no_handshakes
    else answered_if (rises c.before.ack c.after.ack) t (asked_if (rises c.before.req c.after.req) t h)).answers)
    ∙ go (rises c.before.ack c.after.ack) (rises c.before.req c.after.req)
  where
    go : (q r : Bool) → (answered_if q t (asked_if r t h)).answers ≡ (if q then counted_on h.answers else h.answers)
    go true true = refl
    go true false = refl
    go false true = refl
    go false false = refl

still_answered : (q : Bool) (i m : ℕ) → m ≡ (if q then counted_on i else i) → (i == 0) ≡ false → (m == 0) ≡ false
still_answered true i m e f = ap (λ (x : ℕ). x == 0) e ∙ counted_some i
still_answered false i m e f = ap (λ (x : ℕ). x == 0) e ∙ f

-- ---- the place stays

before_same : (a : Array) (c : Process) (x y : Plan) → SamePlan x y → PlacedBefore a c x.messages x.next
    → PlacedBefore a c y.messages y.next
before_same a c x y e h = subst (λ (m : Messages). PlacedBefore a c m y.next) (sym e.messages)
    (subst (λ (m : Next). PlacedBefore a c x.messages m) (sym e.next) h)

asked_same : (a : Array) (c : Process) (x y : Plan) (cause : Cause) → SamePlan x y → PlacedAsked a c x cause
    → PlacedAsked a c y cause
asked_same a c x y Cause.InMessage e h = before_same a c x y e h
asked_same a c x y _ e h = h

in_same : (a : Array) (b : Process) (x y : Plan) (h g : Handshakes) (atn atn' : Bool) (phase : Phase)
    → SamePlan x y → ((h.answers == 0) ≡ false → (g.answers == 0) ≡ false) → (phase ≡ Phase.MessageIn
    → x.messages ≡ one_message MsgIn.CommandComplete → (h.answers == 0) ≡ false → atn ≡ false → atn' ≡ false)
    → PlacedIn a b x h atn phase → PlacedIn a b y g atn' phase
in_same a b x y h g atn atn' Phase.MessageOut e f t z =
    subst (λ (c : Cause). PlacedAsked a b y c) (sym e.cause) (asked_same a b x y x.cause e z)
in_same a b x y h g atn atn' Phase.MessageIn e f t (inl z) = inl (before_same a b x y e z)
in_same a b x y h g atn atn' Phase.MessageIn e f t (inr z) = inr (record {
  next_is = e.next ∙ z.next_is;
  messages_are = e.messages ∙ z.messages_are;
  answered = f z.answered;
  attends = t refl z.messages_are z.answered z.attends;
  rests = z.rests;
})
in_same a b x y h g atn atn' Phase.Command e f t z = z
in_same a b x y h g atn atn' Phase.Status e f t z = z
in_same a b x y h g atn atn' Phase.DataIn e f t z = z
in_same a b x y h g atn atn' Phase.DataOut e f t z = z

-- ---- the row

pub stay_row : (s : ScenarioValue) (k : RunState) (row : Row) (n : Connection)
    (c : Change) (l : Link) (now fault : Bool) (h : HasPlaces s k)
    → HasSeats s → GoesOn s k row n c → changes_phase c ≡ false → is_some (receiver_in n c) ≡ now
    → is_fault row.kind ≡ fault → (is_completion l c ≡ true → fault ≡ false) → k.story.link ≡ Some l
    → (l.item ≡ k.served) ⊎ (l.item ≡ None) → IsStayAsked s k c l → RowPlaced s k row h.array
stay_row s k row n c l now fault h seats g ep en ef drives link item asked = by_served k.served refl
  where
    a : Array
    a = h.array

    r : IsRowIn k row n c
    r = g.row_is

    i : InConnection s k row n c false now fault
    i = in_connection s k row n c false now fault r ep en ef

    j : RunState
    j = run_state_after s k row

    w : Hearing
    w = hearing_of k row (reading_in k.story.bus_state n c now)

    plan : Plan
    plan =
        if now then plan_with_byte w k.exchange.plan
        else if fault && not w.change.before.io then struck_plan k.exchange.plan else k.exchange.plan

    same_phase : phase_of c.after ≡ phase_of (bus_of k)
    same_phase = phase_same c.before c.after (same_phase_is c ep) ∙ ap phase_of (sym r.bus_is)

    answers : j.handshakes.answers
        ≡ (if not fault && rises c.before.ack c.after.ack then counted_on k.handshakes.answers
        else k.handshakes.answers)
    answers = ap (λ (x : Handshakes). x.answers)
        (i.handshakes_is ∙ ap (λ (q : Bool). handshakes_after q (Some n) c row.time k.handshakes) ef)
        ∙ answers_after fault n c row.time k.handshakes ep

    shown : row_events_by s k.story (row_reading k.story.bus_state row) row
        ≡ (if is_completion l c then end_events (carried_if k.story l.item) else [])
    shown = stay_shown s k row n c l now r ep en link

    -- where it stands after the row
    after :
        (b : Array) (u : Process) → PlacedIf k.exchange.begun b u plan j.handshakes c.after.atn (phase_of (bus_of k))
        → PlacedIf j.exchange.begun b u j.exchange.plan j.handshakes (bus_of j).atn (phase_of (bus_of j))
    after b u z = subst (λ (x : Exchange). PlacedIf x.begun b u x.plan j.handshakes
        (bus_of j).atn (phase_of (bus_of j))) (sym i.exchange_is)
        (subst (λ (y : LineSet). PlacedIf k.exchange.begun b u plan j.handshakes y.atn (phase_of y)) (sym i.bus_is)
        (subst (λ (y : Phase). PlacedIf k.exchange.begun b u plan j.handshakes c.after.atn y) (sym same_phase) z))

    in_lines : phase_of (bus_of k) ≡ Phase.MessageIn → is_message_in c.before ≡ true
    in_lines e =
        ap is_message_in (sym r.bus_is) ∙ lines (bus_of k).msg (bus_of k).cd (bus_of k).io (λ m. (g.phase m).0) e
      where
        lines : (m d o : Bool) → (m ≡ true → d ≡ true) → (if m then (if o then Phase.MessageIn else Phase.MessageOut)
            else if d then (if o then Phase.Status else Phase.Command) else if o then Phase.DataIn else Phase.DataOut)
            ≡ Phase.MessageIn → (m && d && o) ≡ true
        lines true true true f z = refl
        lines true true false f z = wrong' (ap is_in_phase z)
        lines true false o f z = wrong' (f refl)
        lines false true true f z = wrong' (ap is_in_phase z)
        lines false true false f z = wrong' (ap is_in_phase z)
        lines false false true f z = wrong' (ap is_in_phase z)
        lines false false false f z = wrong' (ap is_in_phase z)

    stays : (b : Array) (u : Process) → (y : Bool) → k.exchange.begun ≡ y
        → PlacedIf y b u k.exchange.plan k.handshakes (bus_of k).atn (phase_of (bus_of k))
        → PlacedIf y b u plan j.handshakes c.after.atn (phase_of (bus_of k))
    stays b u false e z = z
    stays b u true e z = in_same b u k.exchange.plan plan k.handshakes j.handshakes (bus_of k).atn c.after.atn
        (phase_of (bus_of k)) (same_plan w (leaving s k n.target) k.exchange.plan now fault)
        (still_answered (not fault && rises c.before.ack c.after.ack) k.handshakes.answers j.handshakes.answers answers)
        (λ o m x t. asked.attends (in_lines o) m x (ap (λ (b : LineSet). b.atn) (sym r.bus_is) ∙ t)) z

    quiet : (u : Process) → k.served ≡ Some (process u.id) → process_served s k ≡ Some u
        → row_events_by s k.story (row_reading k.story.bus_state row) row ≡ [] → RowPlaced s k row a
    quiet u e here none = row_turned s k row a u [] (λ b. PlacedIf k.exchange.begun b u k.exchange.plan k.handshakes
        (bus_of k).atn (phase_of (bus_of k))) h.array_is e here none (turned_none s a u.id
        (λ b. PlacedIf k.exchange.begun b u k.exchange.plan k.handshakes (bus_of k).atn (phase_of (bus_of k))) h.sound
        h.within (h.placed n r.connection_is g.calm u here)) (λ b z. after b u (stays b u k.exchange.begun refl z))

    -- the initiator takes COMMAND COMPLETE
    ends : (u : Process) → k.served ≡ Some (process u.id) → process_served s k ≡ Some u → is_completion l c ≡ true
        → l.item ≡ k.served → RowPlaced s k row a
    ends u e here done it = close place
      where
        parts : (x y z t : Bool) → (x && y && z && not t) ≡ true → (x ≡ true) × (y ≡ true) × (t ≡ false)
        parts true true true false q = (refl, refl, refl)
        parts true true true true q = wrong' q
        parts true true false t q = wrong' q
        parts true false z t q = wrong' q
        parts false y z t q = wrong' q

        how : (rises c.before.ack c.after.ack ≡ true) × (is_message_in c.before ≡ true) × (c.after.atn ≡ false)
        how = parts (rises c.before.ack c.after.ack) (is_message_in c.before) (is_complete l.last) c.after.atn done

        here_in : phase_of (bus_of k) ≡ Phase.MessageIn
        here_in = in_phase (bus_of k) (ap is_message_in r.bus_is ∙ how.1)

        began : k.exchange.begun ≡ true
        began =
            (g.phase (message_line (bus_of k).msg (bus_of k).cd (bus_of k).io (ap is_message_in r.bus_is ∙ how.1))).1
          where
            message_line : (m d o : Bool) → (m && d && o) ≡ true → m ≡ true
            message_line true d o q = refl
            message_line false d o q = wrong' q

        place : PlacedBefore a u k.exchange.plan.messages k.exchange.plan.next
            ⊎ IsTaken a u k.exchange.plan k.handshakes (bus_of k).atn
        place = subst (λ (x : Phase). PlacedIn a u k.exchange.plan k.handshakes (bus_of k).atn x) here_in
            (subst (λ (x : Bool). PlacedIf x a u k.exchange.plan k.handshakes (bus_of k).atn (phase_of (bus_of k)))
            began (h.placed n r.connection_is g.calm u here))

        status : ℕ
        status = slice_index (carried_here k u.id).status.bytes 0

        event_is : row_events_by s k.story (row_reading k.story.bus_state row) row ≡ Event.End u.id status ∷ []
        event_is =
            shown ∙ ap (λ (q : Bool). if q then end_events (carried_if k.story l.item) else []) done
            ∙ ap (λ (x : Option Item). end_events (carried_if k.story x)) (it ∙ e)
            ∙ (λ x. Event.End (carried_id k.story.carried u.id x) status ∷ [])

        answered : AnsweredOpen a u.id → RowPlaced s k row a
        answered o =
            let right : (o.answered.reply.status == status) ≡ true = asked.status done u.id o.answered.reply e
            (ap (λ (x : Array). reply_in x.replies u.id) (ap (or_start s) h.array_is) ∙ o.answered.given) in
            let gone : Array = Steps.array_without
            (Steps.after_status a o.answered.running.process o.answered.reply) u.id in
            let is = end_is s a u.id status o.answered right in
            let has = leaves (Steps.after_status a o.answered.running.process o.answered.reply) u.id in
            let f = drives done in
            let rose : (j.handshakes.answers == 0) ≡ false = ap (λ (x : ℕ). x == 0)
            (answers ∙ (λ x. if not (f x) && how.0 x then counted_on k.handshakes.answers else k.handshakes.answers))
            ∙ counted_some k.handshakes.answers in
            let same = same_plan w (leaving s k n.target) k.exchange.plan now fault in
            let taken : IsTaken (settled_array gone) u plan j.handshakes c.after.atn = record {
              next_is = same.next ∙ asked.next done;
              messages_are = same.messages ∙ asked.messages done;
              answered = rose;
              attends = how.2;
              rests = has.rests;
            } in
            row_turned s k row a u (Event.End u.id status ∷ [])
            (λ b. IsTaken b u plan j.handshakes c.after.atn) h.array_is e here event_is (record {
              next = settled_array gone;
              next_is = is;
              passes = passes_step s a (settled_array gone) (Event.End u.id status) u.id seats h.sound h.within
                  (λ other q. q) is;
              holds = taken;
            })
            (λ b z. after b u (subst (λ (x : Bool). PlacedIf x b u plan j.handshakes c.after.atn (phase_of (bus_of k)))
            (sym began) (subst (λ (x : Phase). PlacedIn b u plan j.handshakes c.after.atn x) (sym here_in) (inr z))))

        closes : Closes a u k.exchange.plan.messages → RowPlaced s k row a
        closes (completes z o) = answered o
        closes (disconnects z x y q) =
            wrong (ap (λ (m : Messages). is_complete_in m.first) (sym (asked.messages done)) ∙ z.first)

        close : PlacedBefore a u k.exchange.plan.messages k.exchange.plan.next
            ⊎ IsTaken a u k.exchange.plan k.handshakes (bus_of k).atn
            → RowPlaced s k row a
        close (inl z) = closes (subst (λ (x : Next). PlacedBefore a u k.exchange.plan.messages x) (asked.next done) z)
        close (inr z) = wrong (sym (asked.once done) ∙ z.answered)

    if_none : (q : Bool) (x : Option Item) → l.item ≡ x → carried_if k.story x ≡ None
        → (if q then end_events (carried_if k.story l.item) else []) ≡ []
    if_none true x e f = ap (λ (y : Option Item). end_events (carried_if k.story y)) e ∙ ap end_events f
    if_none false x e f = refl

    of_process : (u : Process) → k.served ≡ Some (process u.id) → process_served s k ≡ Some u → RowPlaced s k row a
    of_process u e here = by item (is_completion l c) refl
      where
        by : (l.item ≡ k.served) ⊎ (l.item ≡ None) → (q : Bool) → is_completion l c ≡ q → RowPlaced s k row a
        by (inl z) true f = ends u e here f z
        by (inl z) false f =
            quiet u e here (shown ∙ ap (λ (x : Bool). if x then end_events (carried_if k.story l.item) else []) f)
        by (inr z) q f = quiet u e here (shown ∙ if_none (is_completion l c) None z refl)

    no_carried : (x : Option Item) → k.served ≡ x → carried_if k.story x ≡ None
        → row_events_by s k.story (row_reading k.story.bus_state row) row ≡ []
    no_carried x e f = shown ∙ by item
      where
        by : (l.item ≡ k.served) ⊎ (l.item ≡ None)
            → (if is_completion l c then end_events (carried_if k.story l.item) else []) ≡ []
        by (inl z) = if_none (is_completion l c) x (z ∙ e) f
        by (inr z) = if_none (is_completion l c) None z refl

    by_served : (x : Option Item) → k.served ≡ x → RowPlaced s k row a
    by_served None e = row_none s k row h (no_carried None e refl) (ap (process_item s) e)
    by_served (Some (abort m)) e = row_none s k row h (no_carried (Some (abort m)) e refl) (ap (process_item s) e)
    by_served (Some (process id)) e =
        let u = h.of_scenario id e in
        let own : u.0.id ≡ id = id_is s id u.0 u.1 in
        of_process u.0 (e ∙ ap (λ (y : ProcId). Some (process y)) (sym own)) (ap (process_item s) e ∙ u.1)
