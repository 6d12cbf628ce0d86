-- Row by row of a prompt trace the sense that is owed of a command is that of its own reply, and its automatic REQUEST
-- SENSE brings it (7.6, 8.2.14).
use Rattle.delivery_laws.proofs
use proofs.Names.{inl, inr, ℕ, ◌≡◌, ◌⊎◌, ◌<◌, Bool, true, false, not, ◌&&◌, ◌||◌, ◌∙◌, List, [], ◌∷◌, Option, Some}
use proofs.Names.{None, refl, sym, ap, subst, and_parts, same_Some, list_any, AllByRecursion, if◌then◌else◌, ◌==◌}
use proofs.Names.{is_some, ⊤, wrong, wrong', Event, ProcId, rises, changes_phase, is_command, connection}
use proofs.Names.{connection_after, Row, Change, Connection, Handshakes, ScenarioValue, Obeys, AbortDef, array_after}
use proofs.Names.{array_step, reply_in, Reply, Process, process_of, same_id, HasSeats, IsSound, running_process, Array}
use proofs.Names.{RunningProcess, guest_at, without_reply, RowReading, row_reading, CarriedBytes, is_status_phase}
use proofs.Names.{is_whole_block, abort_line_at, abort_line_events, bus_free_events, carried_if, end_events}
use proofs.Names.{is_completion, is_refuse, item_abort_events, item_loss_events, link_events, phase_events}
use proofs.Names.{row_events_by, status_event, status_events, Item, Sent, abort, command_item, has_item, process}
use proofs.Names.{LastMessage, Link, abortive, complete, disconnect, plain, Story, story_after_event}
use proofs.Names.{story_after_events, story_by_change, phase_of, Cause, Messages, Next, Phase, Plan, run_state_plain}
use proofs.Names.{IsPrompt, IsPlain, RunState, array_of, bus_of, carried_here, or_start, process_item}
use proofs.Names.{array_after_events, run_state, served_after, obeys_fits, seats_are, self_id, is_in_phase, apart, ends}
use proofs.Names.{change_plain, least_is, HasByteCode, SendsBytes, stored_fit, row_codes, Keeps, KeepsIf, keeps}
use proofs.Names.{keeps_events, sends_bytes, none_some, not_running, no_guest, accepted, running_id, settles, NextStood}
use proofs.Names.{is_marked, IsChecked, AnsweredOpen, Closes, IsAtRest, IsAway, IsTaken, IsUnanswered, IsUntouched}
use proofs.Names.{OnGuests, PlacedAsked, PlacedBefore, PlacedIf, PlacedIn, RunsOpen, completes, disconnects, items_open}
use proofs.Names.{events_grow, carried_of_item, change_over, on_running, Whole, standing_next, whole, AllPay, Paid}
use proofs.Names.{events_pay, Indebted, indebted, row_pays, sense_is, senses_same, same_debt, same_debts, changed}
use proofs.{Names.{Debts, is_owed, GoesSo, here_goes, known_served, none_is}, Queues.Facts.{Arriving, arriving}}
use proofs.Senses.Events.{IfBooks, OwnSenses, Tells, fewer_owned, step_own}
use Rattle.due_model.specs.array_model.proofs.SoundArrays.{id_is}
use Rattle.due_model.specs.array_model.specs.Steps

-- ---- the events of a row, one after the other

abbrev pub AllTell : ScenarioValue → Story → Option Array → List Event → Type 0
AllTell s b o [] = ⊤
AllTell s b o (event ∷ shown) =
    ((a : Array) → array_after_events s o shown ≡ Some a → Tells (story_after_events s b shown).sent a event)
    × AllTell s b o shown

events_own : (s : ScenarioValue) (b : Story) (o : Option Array) (shown : List Event) → HasSeats s → SendsBytes s
    → AllByRecursion HasByteCode shown → AllPay s b shown → AllTell s b o shown → Paid s b o → KeepsIf s o
    → IfBooks (OwnSenses s b.sent) o
    → IfBooks (OwnSenses s (story_after_events s b shown).sent) (array_after_events s o shown)
events_own s b o [] seats sends codes well tell paid kept h = h
events_own s b o (event ∷ shown) seats sends codes well tell paid kept h = go (array_after_events s o shown) refl
    (events_pay s b o shown seats well.1 paid) (keeps_events s shown o sends seats codes.1 kept)
    (events_own s b o shown seats sends codes.1 well.1 tell.1 paid kept h)
  where
    was : Story
    was = story_after_events s b shown

    go : (x : Option Array) → array_after_events s o shown ≡ x → Paid s was x → KeepsIf s x
        → IfBooks (OwnSenses s was.sent) x
        → IfBooks (OwnSenses s (story_after_event s was event).sent) (array_step s event x)
    go None e f g w = tt
    go (Some a) e f g w = by (Steps.step s event a) refl
      where
        by : (x : Option Array) → Steps.step s event a ≡ x
            → IfBooks (OwnSenses s (story_after_event s was event).sent) x
        by None z = tt
        by (Some d) z = step_own s was a d event (f.sound a refl) f.checked (f.debts a refl) well.0 (tell.0 a e)
            (stored_fit a g.1) w z

-- ---- a process that ends has the reply that is listed

abbrev Listed : Array → ProcId → Type 0
Listed a id = (r : RunningProcess) (reply : Reply) → running_process a id ≡ Some r → r.reply ≡ Some reply
    → reply_in a.replies id ≡ Some reply

untouched_listed : (a : Array) (id : ProcId) → IsUntouched a id → Listed a id
untouched_listed a id h = λ r reply e f. none_some r (sym (not_running a id h.away) ∙ e)

fresh_listed : (a : Array) (c : Process) → RunsOpen a c → Listed a c.id
fresh_listed a c h = λ r reply e f. none_some reply
    (ap (λ (x : RunningProcess). x.reply) (same_Some (without_reply c) r (sym h.runs.running_is ∙ e)) ∙ f)

answered_listed : (a : Array) (id : ProcId) → AnsweredOpen a id → Listed a id
answered_listed a id h = λ r reply e f. h.answered.given ∙ sym h.answered.reply_is
    ∙ ap (λ (x : RunningProcess). x.reply) (same_Some h.answered.running r (sym h.answered.running_is ∙ e)) ∙ f

rests_listed : (a : Array) (id : ProcId) → IsAtRest a id → Listed a id
rests_listed a id h = λ r reply e f. none_some reply (sym (unanswered r e).0 ∙ f)
  where
    elsewhere : guest_at a.guests id ≡ None
    elsewhere = no_guest a.guests id h.guests

    unanswered : (r : RunningProcess) → running_process a id ≡ Some r
        → (r.reply ≡ None) × (reply_in a.replies id ≡ None) × (Steps.has_ended a id ≡ false)
    unanswered r e = on_running (IsUnanswered (reply_in a.replies id) (Steps.has_ended a id) id) a.units id r h.units
        (sym (λ i. if is_some (elsewhere i) then elsewhere i else Steps.running_in a.units id) ∙ e)
        (ap (λ (x : ProcId). same_id x id) (running_id a id r e) ∙ self_id id)

before_listed : (a : Array) (c : Process) (m : Messages) (next : Next) → PlacedBefore a c m next → Listed a c.id
before_listed a c m Next.Command h = untouched_listed a c.id h
before_listed a c m Next.GoOn h = fresh_listed a c h
before_listed a c m Next.Status h = answered_listed a c.id h
before_listed a c m Next.FreeBus h = by h
  where
    by : Closes a c m → Listed a c.id
    by (completes e o) = answered_listed a c.id o
    by (disconnects e rests x y) = rests_listed a c.id rests

asked_listed : (a : Array) (c : Process) (plan : Plan) (cause : Cause) → PlacedAsked a c plan cause → Listed a c.id
asked_listed a c plan Cause.Selected h = untouched_listed a c.id h
asked_listed a c plan Cause.InMessage h = before_listed a c plan.messages plan.next h
asked_listed a c plan Cause.InData h = fresh_listed a c h
asked_listed a c plan Cause.InStatus h = answered_listed a c.id h

in_listed : (a : Array) (c : Process) (plan : Plan) (h : Handshakes) (atn : Bool) (phase : Phase)
    → PlacedIn a c plan h atn phase → Listed a c.id
in_listed a c plan h atn Phase.MessageOut w = asked_listed a c plan plan.cause w
in_listed a c plan h atn Phase.MessageIn w = by w
  where
    by : PlacedBefore a c plan.messages plan.next ⊎ IsTaken a c plan h atn → Listed a c.id
    by (inl x) = before_listed a c plan.messages plan.next x
    by (inr x) = rests_listed a c.id x.rests
in_listed a c plan h atn Phase.Command w = untouched_listed a c.id w
in_listed a c plan h atn Phase.Status w = answered_listed a c.id w
in_listed a c plan h atn Phase.DataIn w = fresh_listed a c w
in_listed a c plan h atn Phase.DataOut w = fresh_listed a c w

if_listed : (x : Bool) (a : Array) (c : Process) (plan : Plan) (h : Handshakes) (atn : Bool) (phase : Phase)
    → PlacedIf x a c plan h atn phase → Listed a c.id
if_listed false a c plan h atn phase w = untouched_listed a c.id w
if_listed true a c plan h atn phase w = in_listed a c plan h atn phase w

-- ---- what a row tells

status_phase : (m d o : Bool) → (not m && d && o) ≡ true
    → is_in_phase (if m then (if o then Phase.MessageIn else Phase.MessageOut)
    else if d then (if o then Phase.Status else Phase.Command) else if o then Phase.DataIn else Phase.DataOut) ≡ false
status_phase false true true e = refl
status_phase _ _ _ e = wrong' e

-- What is known as the row comes in a connection.
pub record Coming (s : ScenarioValue) (p : List Row) (row : Row) : Type 0 where
  pub lt : row.dev < 8
  pub was : Whole s p
  pub next : Whole s (row ∷ p)
  pub stood : NextStood s p row

pub row_tells : (s : ScenarioValue) (p : List Row) (row : Row) → Coming s p row
    → AllTell s (story_by_change s (run_state s p).story (row_reading (run_state s p).story.bus_state row) row)
    (run_state s p).array (row_events_by s (run_state s p).story (row_reading (run_state s p).story.bus_state row) row)
row_tells s p row v = go d.change.after.rst refl
  where
    k : RunState
    k = run_state s p

    j : RunState
    j = run_state s (row ∷ p)

    d : RowReading
    d = row_reading k.story.bus_state row

    b : Story
    b = story_by_change s k.story d row

    w : Whole s p
    w = v.was

    pl : IsPlain s p k
    pl = run_state_plain s p w.stood.standing.devices

    array_is : (a : Array) → k.array ≡ Some a → w.places.array ≡ a
    array_is a e = same_Some w.places.array a (sym w.places.array_is ∙ e)

    here_is : array_of s k ≡ w.places.array
    here_is = ap (or_start s) w.places.array_is

    -- in a connection
    goes : (l : Link) (id : ProcId) → k.story.link ≡ Some l → l.item ≡ Some (process id) → d.change.after.rst ≡ false
        → is_some d.next ≡ true → GoesSo s k row
    goes l id e f calm stands = here_goes s k row l id (λ z. (w.facts.items.items.apart z).0) v.stood.row_is
        (record { link_is = e; item_is = f; calm = calm; stands = stands })

    serves : (l : Link) (id : ProcId) → k.story.link ≡ Some l → l.item ≡ Some (process id) → d.change.after.rst ≡ false
        → is_some d.next ≡ true → k.served ≡ Some (process id)
    serves l id e f calm stands =
        let g = goes l id e f calm stands in
        known_served s k row g.connection g.change l id w.stood.books g.goes e f

    carried_is : (l : Link) (c : CarriedBytes) → carried_if k.story l.item ≡ Some c → carried_here k c.id ≡ c
    carried_is l c e =
        same_Some (carried_here k c.id) c (sym (ap (carried_if k.story) (carried_of_item k.story l.item c e)) ∙ e)

    -- it is not over where STATUS follows
    opens : (l : Link) (id : ProcId) → k.story.link ≡ Some l → l.item ≡ Some (process id)
        → d.change.after.rst ≡ false → is_some d.next ≡ true → is_status_phase d.change.after ≡ true
        → has_item k.story.sent.over (process id) ≡ false
    opens l id e f calm stands status = by_next d.next refl stands
      where
        g : GoesSo s k row
        g = goes l id e f calm stands

        change : d.change ≡ Rattle.due_model.specs.bus_trace.specs.Changes.change_of p row
        change = change_plain s row p w.stood.standing.devices v.lt

        reads : d.next ≡ connection (row ∷ p)
        reads = λ i. connection_after (pl.connection i) (pl.call i) (change i) row

        by_next : (x : Option Connection) → d.next ≡ x → is_some x ≡ true
            → has_item k.story.sent.over (process id) ≡ false
        by_next None z some = wrong' some
        by_next (Some n) z some = by (has_item k.story.sent.over (process id)) refl
          where
            served : j.served ≡ Some (process id)
            served = (λ i. served_after s k (g.goes.row_is.connection_is i) (z i)) ∙ serves l id e f calm stands

            later : has_item j.story.sent.over (process id) ≡ false
            later = (items_open s (row ∷ p) n v.next.stood v.next.facts.items (sym reads ∙ z)
                (ap (λ (x : Change). x.after.rst) (sym change) ∙ calm)).open_is (process id) served
                (status_phase d.change.after.msg d.change.after.cd d.change.after.io status)

            by : (q : Bool) → has_item k.story.sent.over (process id) ≡ q
                → has_item k.story.sent.over (process id) ≡ false
            by false y = y
            by true y = wrong (sym ((events_grow s b (row_events_by s k.story d row)).over (process id)
                (change_over s k.story d row (process id) y)) ∙ later)

    -- an automatic REQUEST SENSE that is not over is owed
    owes : (id : ProcId) → id.sense ≡ true → k.served ≡ Some (process id)
        → has_item k.story.sent.over (process id) ≡ false → is_owed b.sent id.command ≡ true
    owes id e served open_is = (λ i. list_any (λ m. m == id.command) ((changed s k.story d row).checks i)
        && not (senses_same s k.story d row id.command i))
        ∙ (λ i. own.checked i && not ((ap (has_item k.story.sent.over) (sym (sense_is id e)) ∙ open_is) i))
      where
        own : IsChecked s k.story.sent id.command
        own = w.facts.items.items.checks id.command
            (ap (has_item k.story.sent.sent) (sym (sense_is id e)) ∙ w.facts.items.items.served (process id) served)

    ends : (l : Link) (c : Option CarriedBytes) → k.story.link ≡ Some l → d.change.after.rst ≡ false
        → is_some d.next ≡ true → carried_if k.story l.item ≡ c → AllTell s b k.array (end_events c)
    ends l None e calm stands f = tt
    ends l (Some c) e calm stands f = (λ a z. subst (λ (x : Array). Listed x c.id) (array_is a z) listed, tt)
      where
        g : GoesSo s k row
        g = goes l c.id e (carried_of_item k.story l.item c f) calm stands

        served : k.served ≡ Some (process c.id)
        served = serves l c.id e (carried_of_item k.story l.item c f) calm stands

        named : (x : Process) × (process_of s c.id ≡ Some x)
        named = w.places.of_scenario c.id served

        listed : Listed w.places.array c.id
        listed = subst (λ (x : ProcId). Listed w.places.array x) (id_is s c.id named.0 named.1)
            (if_listed k.exchange.begun w.places.array named.0 k.exchange.plan k.handshakes (bus_of k).atn
            (phase_of (bus_of k)) (w.places.placed g.connection g.goes.row_is.connection_is g.goes.calm named.0
            (ap (process_item s) served ∙ named.1)))

    phase : (l : Link) (c : Option CarriedBytes) → k.story.link ≡ Some l → d.change.after.rst ≡ false
        → is_some d.next ≡ true → changes_phase d.change ≡ true → carried_if k.story l.item ≡ c
        → AllTell s b k.array (phase_events s k.story c d.change)
    phase l None e calm stands turns f = tt
    phase l (Some c) e calm stands turns f = queue (is_command d.change.before && is_whole_block c) refl
        (is_some (array_after s (Event.Accept c.id ∷ k.story.history)))
      where
        item : l.item ≡ Some (process c.id)
        item = carried_of_item k.story l.item c f

        none_yet : is_marked c ≡ false → reply_in (array_of s k).replies c.id ≡ None
        none_yet z = none_is (reply_in (array_of s k).replies c.id) (w.shown c.id ∙ ap is_marked (carried_is l c f) ∙ z)

        parts : (x y z t : Bool) → (x && not y && not z && not t) ≡ true → (x ≡ true) × ((y || z) ≡ false)
        parts true false false false q = (refl, refl)
        parts _ _ _ _ q = wrong' q

        status : (arrived : List Event)
            → ((a : Array) → array_after_events s k.array arrived ≡ Some a → a.replies ≡ (array_of s k).replies)
            → (story_after_events s b arrived).sent ≡ b.sent → AllTell s b k.array arrived
            → AllTell s b k.array (status_events (Some c) d.change.after arrived)
        status arrived same still h = by (is_status_phase d.change.after && not c.shown && not c.refused
            && not (list_any (λ x. is_refuse x) arrived)) refl
          where
            told : (is_status_phase d.change.after && not c.shown && not c.refused
                && not (list_any (λ x. is_refuse x) arrived)) ≡ true
                → (o : Option ℕ) → (a : Array) → array_after_events s k.array arrived ≡ Some a
                → Tells (story_after_events s b arrived).sent a (status_event c.id o)
            told q None a z =
                let two = parts (is_status_phase d.change.after) c.shown c.refused
                (list_any (λ x. is_refuse x) arrived) q in (
                  ap (λ (x : List (ProcId × Reply)). reply_in x c.id) (same a z) ∙ none_yet two.1,
                  λ y. ap (λ (x : Sent). is_owed x c.id.command) still
                      ∙ owes c.id y (serves l c.id e item calm stands) (opens l c.id e item calm stands two.0),
                )
            told q (Some code) a z =
                let two = parts (is_status_phase d.change.after) c.shown c.refused
                (list_any (λ x. is_refuse x) arrived) q in
                ap (λ (x : List (ProcId × Reply)). reply_in x c.id) (same a z) ∙ none_yet two.1

            by : (q : Bool) → (is_status_phase d.change.after && not c.shown
                && not c.refused && not (list_any (λ x. is_refuse x) arrived)) ≡ q
                → AllTell s b k.array (if q then status_event c.id c.failure ∷ arrived else arrived)
            by true z = (told z c.failure, h)
            by false z = h

        after_refusal : (q : Bool) → AllTell s b k.array (Event.Refuse c.id ∷ []) → AllTell s b k.array
            (if q && not true then status_event c.id c.failure ∷ (Event.Refuse c.id ∷ []) else Event.Refuse c.id ∷ [])
        after_refusal true h = h
        after_refusal false h = h

        accepts : (a : Array) → array_step s (Event.Accept c.id) k.array ≡ Some a → a.replies ≡ (array_of s k).replies
        accepts a z = with_array k.array refl z
          where
            with_array : (o : Option Array) → k.array ≡ o → array_step s (Event.Accept c.id) o ≡ Some a
                → a.replies ≡ (array_of s k).replies
            with_array None y step = none_some a step
            with_array (Some x) y step = settles (Steps.accept_step x (process_of s c.id)) a
                (λ (q : Array). q.replies ≡ x.replies) (λ q m. accepted x q (process_of s c.id) m) step
                ∙ ap (λ (q : Option Array). (or_start s q).replies) (sym y)

        queue : (q : Bool) → (is_command d.change.before && is_whole_block c) ≡ q → (x : Bool)
            → AllTell s b k.array (status_events (Some c) d.change.after
            (if q then (if x then Event.Accept c.id else Event.Refuse c.id) ∷ [] else []))
        queue true z true = status (Event.Accept c.id ∷ []) accepts refl (λ a y. tt, tt)
        queue true z false =
            let two = and_parts (is_command d.change.before) (is_whole_block c) z in
            let here : Arriving s k w.places.array c.id = arriving s p row w v.stood pl l c (record {
              link_is = e;
              carried_is = f;
              whole = two.1;
              calm = calm;
              stands = stands;
              turns = turns;
              command = two.0;
            }) in
            after_refusal (is_status_phase d.change.after && not c.shown && not c.refused)
            (λ a y. ap (λ (x : Array). reply_in x.replies c.id) (sym (array_is a y)) ∙ here.untouched.reply, tt)
        queue false z x = status [] (λ a y. ap (λ (q : Option Array). (or_start s q).replies) (sym y)) refl tt

    free : (l : Link) (last : LastMessage) → AllTell s b k.array (bus_free_events s l last)
    free l plain = go_item l.item
      where
        go_item : (o : Option Item) → AllTell s b k.array (item_loss_events o)
        go_item None = tt
        go_item (Some (process id)) = (λ a y. tt, tt)
        go_item (Some (abort n)) = tt
    free l complete = tt
    free l disconnect = tt
    free l abortive = go_item l.item
      where
        line : (a : Option AbortDef) → AllTell s b k.array (abort_line_events a)
        line None = tt
        line (Some x) = (λ a y. tt, tt)

        go_item : (o : Option Item) → AllTell s b k.array (item_abort_events s o)
        go_item None = tt
        go_item (Some (process id)) = tt
        go_item (Some (abort n)) = line (abort_line_at s.aborts n)

    linked : d.change.after.rst ≡ false → (o : Option Link) → k.story.link ≡ o
        → AllTell s b k.array (link_events s k.story o d)
    linked calm None e = tt
    linked calm (Some l) e = by (is_some d.next) refl (changes_phase d.change) refl (is_completion l d.change)
      where
        by : (x : Bool) → is_some d.next ≡ x → (y : Bool) → changes_phase d.change ≡ y → (z : Bool)
            → AllTell s b k.array (if x then (if y then phase_events s k.story (carried_if k.story l.item) d.change
            else if z then end_events (carried_if k.story l.item) else []) else bus_free_events s l l.last)
        by true f true g z = phase l (carried_if k.story l.item) e calm f g refl
        by true f false g true = ends l (carried_if k.story l.item) e calm f refl
        by true f false g false = tt
        by false f y g z = free l l.last

    reset : (y : Bool) → AllTell s b k.array (if y then Event.Reset row.dev ∷ [] else [])
    reset true = (λ a z. tt, tt)
    reset false = tt

    go : (x : Bool) → d.change.after.rst ≡ x → AllTell s b k.array
        (if x then (if rises d.change.own.rst d.change.next.rst then Event.Reset row.dev ∷ [] else [])
        else link_events s k.story k.story.link d)
    go true e = reset (rises d.change.own.rst d.change.next.rst)
    go false e = linked e k.story.link refl

-- ---- after any rows

abbrev pub AreOwn : ScenarioValue → List Row → Type 0
AreOwn s p =
    OwnSenses s (run_state s p).story.sent (array_of s (run_state s p)).senses (array_of s (run_state s p)).replies

own_next : (s : ScenarioValue) (p : List Row) (row : Row) → Obeys s → IsPrompt s (row ∷ p) → AreOwn s p
    → AreOwn s (row ∷ p)
own_next s p row o prompt h = subst (λ (x : Array). OwnSenses s j.story.sent x.senses x.replies) (sym after_is) now
  where
    k : RunState
    k = run_state s p

    j : RunState
    j = run_state s (row ∷ p)

    d : RowReading
    d = row_reading k.story.bus_state row

    b : Story
    b = story_by_change s k.story d row

    shown : List Event
    shown = row_events_by s k.story d row

    due : Indebted s p
    due = indebted s p o prompt.0

    w : Whole s p
    w = due.whole

    seats : HasSeats s
    seats = seats_are s (obeys_fits s o)

    sends : SendsBytes s
    sends = sends_bytes s o

    keep : Keeps s k
    keep = keeps s p o sends seats

    v : Coming s p row
    v = record {
      lt = (least_is s p row prompt.1).inside;
      was = w;
      next = whole s (row ∷ p) o prompt;
      stood = standing_next s p row o prompt w;
    }

    before_is : array_of s k ≡ w.places.array
    before_is = ap (λ (x : Option Array). or_start s x) w.places.array_is

    after_is : array_of s j ≡ v.next.places.array
    after_is = ap (λ (x : Option Array). or_start s x) v.next.places.array_is

    had : (a : Array) → k.array ≡ Some a → w.places.array ≡ a
    had a e = same_Some w.places.array a (sym w.places.array_is ∙ e)

    checks : b.sent.checks ≡ k.story.sent.checks
    checks = (changed s k.story d row).checks

    paid : Paid s b k.array
    paid = record {
      checked = λ n z. change_over s k.story d row (command_item n)
          (w.facts.items.items.checked n (ap (λ (x : List ℕ). list_any (λ m. m == n) x) (sym checks) ∙ z));
      sound = λ a e. subst (λ (x : Array). IsSound s x) (had a e) w.places.sound;
      debts = λ a e. subst (λ (x : Array). Debts s b.sent x.holds) (before_is ∙ had a e) (same_debts s k.story.sent
          b.sent (array_of s k).holds checks (λ n. senses_same s k.story d row n) due.books.debts);
      fetched = λ a e. subst (λ (x : Array). Rattle.progress_laws.specs.Debts.AreFetched x.replies)
          (before_is ∙ had a e) due.books.fetched;
    }

    start : IfBooks (OwnSenses s b.sent) (Some (array_of s k))
    start =
        fewer_owned s k.story.sent b.sent (array_of s k).senses (array_of s k).replies
        (λ n q x. same_debt s k.story.sent b.sent n q checks (λ m z. senses_same s k.story d row m ∙ z) x) h

    now : OwnSenses s j.story.sent v.next.places.array.senses v.next.places.array.replies
    now = subst (IfBooks (OwnSenses s j.story.sent)) v.next.places.array_is (events_own s b k.array shown seats sends
        (row_codes s k.story d row keep.codes) (row_pays s p row v.lt v.was v.next v.stood due.books)
        (row_tells s p row v) paid keep.array
        (subst (IfBooks (OwnSenses s b.sent)) (ap (λ (x : Array). Some x) before_is ∙ sym w.places.array_is) start))

pub all_own : (s : ScenarioValue) (p : List Row) → Obeys s → IsPrompt s p → AreOwn s p
all_own s [] o prompt = record { owned = λ n q d. wrong' d.owed; brought = λ n r e. none_some r e }
all_own s (row ∷ p) o prompt = own_next s p row o prompt (all_own s p o prompt.0)
