-- A row keeps each reply that was given; and as STATUS follows a phase to the initiator, the status that the target
-- drives with it is that of the reply (6.1.5, 7.3).
use Rattle.trace_laws.proofs
use proofs.Names.{inl, inr, ℕ, ◌≡◌, Bool, true, false, not, ◌&&◌, ◌||◌, ◌∙◌, List, [], ◌∷◌, Option, Some, None, refl}
use proofs.Names.{sym, ap, subst, same_Some, list_any, if◌then◌else◌, is_some, wrong, wrong', Event, ProcId, rises}
use proofs.Names.{changes_phase, is_command, Row, Change, Connection, ScenarioValue, array_after, reply_in, Reply}
use proofs.Names.{Process, same_id, Array, carried_id, RowReading, row_reading, CarriedBytes, is_whole_block}
use proofs.Names.{is_status_phase, carried_if, queue_event, queue_events, is_refuse, status_event, status_events}
use proofs.Names.{phase_events, is_completion, end_events, abort_line_at, abort_line_events, bus_free_events}
use proofs.Names.{connection_events, link_events, row_events_by, item_loss_events, item_abort_events, Item, process}
use proofs.Names.{abort, Link, LastMessage, plain, complete, disconnect, abortive, Story, phase_of, Phase, RunState}
use proofs.Names.{array_of, or_start, bus_of, process_item, process_served, carried_here, run_state, array_after_events}
use proofs.Names.{id_is as ids_are, Knows, GoesOn, RowOf, apart as row_apart, begins, goes_on as row_goes_on}
use proofs.Names.{ends as row_ends, under_reset, AnyStage, linked, none_some, command_phase, by_bool, NoReplyTo}
use proofs.Names.{events_keep, link_none, Stood, link_connection, is_marked, IsUntouched, PlacedIf, PlaceFacts}
use proofs.Names.{AreRepliesShown}
use Rattle.story_laws.specs.link_laws.specs.LinkStages.{apart}
use Rattle.due_model.specs.array_model.proofs.SoundArrays.{id_is}

-- ---- events that show no reply

ended_none : (id : ProcId) (o : Option CarriedBytes) → NoReplyTo id (end_events o)
ended_none id None = tt
ended_none id (Some c) = (refl, tt)

freed_none : (s : ScenarioValue) (id : ProcId) (l : Link) (last : LastMessage) → NoReplyTo id (bus_free_events s l last)
freed_none s id l complete = tt
freed_none s id l disconnect = tt
freed_none s id l plain = go l.item
  where
    go : (item : Option Item) → NoReplyTo id (item_loss_events item)
    go None = tt
    go (Some (process p)) = (refl, tt)
    go (Some (abort m)) = tt
freed_none s id l abortive = go l.item
  where
    go : (item : Option Item) → NoReplyTo id (item_abort_events s item)
    go None = tt
    go (Some (process p)) = tt
    go (Some (abort m)) =
        elim (abort_line_at s.aborts m) as (λ o. NoReplyTo id (abort_line_events o)) [ None ↦ tt | Some a ↦ (refl, tt) ]

-- A phase follows another: of a process with an answer, which has not been in COMMAND, none is shown.
phase_none : (s : ScenarioValue) (b : Story) (c : CarriedBytes) (g : Change) (id : ProcId)
    → (c.id ≡ id → is_marked c ≡ true) → (c.id ≡ id → is_command g.before ≡ false)
    → NoReplyTo id (phase_events s b (Some c) g)
phase_none s b c g id marked there = by_bool (same_id c.id id) (λ e. own (ids_are c.id id e)) (λ e. other e)
  where
    other : same_id c.id id ≡ false → NoReplyTo id (phase_events s b (Some c) g)
    other f = by (is_status_phase g.after && not c.shown && not c.refused
        && not (list_any (λ e. is_refuse e) (queue_events s b (Some c) g.before)))
      where
        queued : NoReplyTo id (queue_events s b (Some c) g.before)
        queued = at (is_command g.before && is_whole_block c) (is_some (array_after s (Event.Accept c.id ∷ b.history)))
          where
            at : (q r : Bool)
                → NoReplyTo id (if q then (if r then Event.Accept c.id else Event.Refuse c.id) ∷ [] else [])
            at true true = (refl, tt)
            at true false = (f, tt)
            at false r = tt

        event : (failure : Option ℕ) → NoReplyTo id (status_event c.id failure ∷ queue_events s b (Some c) g.before)
        event None = (f, queued)
        event (Some code) = (f, queued)

        by : (q : Bool) → NoReplyTo id (if q then status_event c.id c.failure ∷ queue_events s b (Some c) g.before
            else queue_events s b (Some c) g.before)
        by true = event c.failure
        by false = queued

    own : c.id ≡ id → NoReplyTo id (phase_events s b (Some c) g)
    own e = subst (λ (x : Bool). NoReplyTo id
        (status_events (Some c) g.after (if x && is_whole_block c then queue_event s b.history c.id ∷ [] else [])))
        (sym (there e)) (by (is_status_phase g.after) c.shown c.refused (marked e))
      where
        by : (z x y : Bool) → (x || y) ≡ true
            → NoReplyTo id (if z && not x && not y && true then status_event c.id c.failure ∷ [] else [])
        by true true y f = tt
        by true false true f = tt
        by true false false f = wrong' f
        by false x y f = tt

-- ---- the events of a row

-- Where no connection stands there is no link.
pub no_link : (s : ScenarioValue) (p : List Row) → Stood s p → (run_state s p).story.bus_state.connection ≡ None
    → (run_state s p).story.link ≡ None
no_link s p was none = go was.here
  where
    go : AnyStage s p → (run_state s p).story.link ≡ None
    go (linked n h) = none_some n (sym none ∙ was.plain.connection ∙ link_connection s p n h)
    go (apart h alone) = link_none s p h (sym was.plain.connection ∙ none)

-- In COMMAND the process has no reply.
unanswered_in : (s : ScenarioValue) (p : List Row) (n : Connection) (c : Change) (id : ProcId) (row : Row)
    → PlaceFacts s p → GoesOn s (run_state s p) row n c → (run_state s p).served ≡ Some (process id)
    → is_command c.before ≡ true → reply_in (array_of s (run_state s p)).replies id ≡ None
unanswered_in s p n c id row places g served here =
    let k : RunState = run_state s p in
    let pr = places.of_scenario id served in
    let own : pr.0.id ≡ id = id_is s id pr.0 pr.1 in
    let at : process_served s k ≡ Some pr.0 = ap (process_item s) served ∙ pr.1 in
    let in_command : phase_of (bus_of k) ≡ Phase.Command = command_phase
    (bus_of k) (ap is_command g.row_is.bus_is ∙ here) in
    ap (λ (x : Array). reply_in x.replies id) (ap (or_start s) places.array_is)
    ∙ ap (λ (x : ProcId). reply_in places.array.replies x) (sym own) ∙ (by k.exchange.begun pr.0
    (subst (λ (x : Phase). PlacedIf k.exchange.begun places.array pr.0 k.exchange.plan k.handshakes (bus_of k).atn x)
    in_command (places.placed n g.row_is.connection_is g.calm pr.0 at))).reply
  where
    by : (q : Bool) (x : Process) → PlacedIf q places.array x (run_state s p).exchange.plan
        (run_state s p).handshakes (bus_of (run_state s p)).atn Phase.Command
        → IsUntouched places.array x.id
    by true x h = h
    by false x h = h

-- A row shows no reply of a process that has one.
pub none_again : (s : ScenarioValue) (p : List Row) (row : Row) → Stood s p
    → RowOf s (run_state s p) row → AreRepliesShown s (run_state s p) → PlaceFacts s p
    → (id : ProcId) → is_some (reply_in (array_of s (run_state s p)).replies id) ≡ true
    → NoReplyTo id (row_events_by s (run_state s p).story (row_reading (run_state s p).story.bus_state row) row)
none_again s p row was of shown places id some = by_rst d.change.after.rst refl
  where
    k : RunState
    k = run_state s p

    d : RowReading
    d = row_reading k.story.bus_state row

    turned : (n : Connection) (c : Change) (l : Link) → GoesOn s k row n c → k.story.link ≡ Some l
        → NoReplyTo id (phase_events s k.story (carried_if k.story l.item) d.change)
    turned n c l g el = by_item l.item refl
      where
        w : Knows s k n
        w = was.books.knows n g.row_is.connection_is g.calm

        served : (x : ProcId) → l.item ≡ Some (process x) → k.served ≡ Some (process x)
        served x e = elim w.item_is [ inl z ↦ sym z ∙ same | inr z ↦ no_item (sym z.1 ∙ same) ]
          where
            same : w.link.item ≡ Some (process x)
            same = ap (λ (y : Link). y.item) (same_Some w.link l (sym w.link_is ∙ el)) ∙ e

            no_item : (let o : Option Item = None in o) ≡ Some (process x) → k.served ≡ Some (process x)
            no_item z = absurd cc

        by_process : (x : ProcId) → l.item ≡ Some (process x)
            → NoReplyTo id (phase_events s k.story (Some (carried_here k x)) d.change)
        by_process x e = phase_none s k.story (carried_here k x) d.change id marked there
          where
            same : (carried_here k x).id ≡ id → x ≡ id
            same f = sym (carried_id k.story.carried x) ∙ f

            marked : (carried_here k x).id ≡ id → is_marked (carried_here k x) ≡ true
            marked f = ap (λ (y : ProcId). is_marked (carried_here k y)) (same f) ∙ sym (shown id) ∙ some

            there : (carried_here k x).id ≡ id → is_command d.change.before ≡ false
            there f = by_bool (is_command d.change.before) (λ z. wrong' (sym (ap (λ (o : Option Reply). is_some o)
                (unanswered_in s p n c id row places g (served x e ∙ ap (λ (y : ProcId). Some (process y)) (same f))
                (ap (λ (y : Change). is_command y.before) (sym g.row_is.change_is) ∙ z))) ∙ some)) (λ z. z)

        by_item : (item : Option Item) → l.item ≡ item
            → NoReplyTo id (phase_events s k.story (carried_if k.story item) d.change)
        by_item None e = tt
        by_item (Some (abort m)) e = tt
        by_item (Some (process x)) e = by_process x e

    connected : (l : Link) (n : Connection) → k.story.link ≡ Some l → d.next ≡ Some n → d.change.after.rst ≡ false
        → RowOf s k row → NoReplyTo id (connection_events s k.story l d)
    connected l n el en er (row_apart e f) = none_some n (sym f ∙ en)
    connected l n el en er (begins m b) = none_some l (sym (no_link s p was b.first.connection_is) ∙ el)
    connected l n el en er (row_ends m g) = none_some n (sym g.next_is ∙ en)
    connected l n el en er (under_reset r e) = wrong (sym r ∙ er)
    connected l n el en er (row_goes_on m c g) = at (changes_phase d.change) (is_completion l d.change)
      where
        at : (q r : Bool) → NoReplyTo id (if q then phase_events s k.story (carried_if k.story l.item) d.change
            else if r then end_events (carried_if k.story l.item) else [])
        at true r = turned m c l g el
        at false true = ended_none id (carried_if k.story l.item)
        at false false = tt

    by_next : (l : Link) → k.story.link ≡ Some l → d.change.after.rst ≡ false → (x : Option Connection) → d.next ≡ x
        → NoReplyTo id (if is_some x then connection_events s k.story l d else bus_free_events s l l.last)
    by_next l el er None e = freed_none s id l l.last
    by_next l el er (Some n) e = connected l n el e er of

    by_link : d.change.after.rst ≡ false → (x : Option Link) → k.story.link ≡ x
        → NoReplyTo id (link_events s k.story x d)
    by_link er None e = tt
    by_link er (Some l) e = by_next l e er d.next refl

    by_rst : (q : Bool) → d.change.after.rst ≡ q
        → NoReplyTo id (if q then (if rises d.change.own.rst d.change.next.rst then Event.Reset row.dev ∷ [] else [])
        else link_events s k.story k.story.link d)
    by_rst true e = at (rises d.change.own.rst d.change.next.rst)
      where
        at : (q : Bool) → NoReplyTo id (if q then Event.Reset row.dev ∷ [] else [])
        at true = (refl, tt)
        at false = tt
    by_rst false e = by_link e k.story.link refl

-- ---- the replies after it

-- The events of the row, on the array that stands before it.
array_on : (s : ScenarioValue) (p : List Row) (row : Row) (before : PlaceFacts s p) (after : PlaceFacts s (row ∷ p))
    → array_after_events s (Some before.array)
    (row_events_by s (run_state s p).story (row_reading (run_state s p).story.bus_state row) row) ≡ Some after.array
array_on s p row before after = (λ i. array_after_events s (sym before.array_is i)
    (row_events_by s (run_state s p).story (row_reading (run_state s p).story.bus_state row) row))
    ∙ after.array_is

pub reply_stays : (s : ScenarioValue) (p : List Row) (row : Row)
    → PlaceFacts s p → PlaceFacts s (row ∷ p) → (id : ProcId)
    → NoReplyTo id (row_events_by s (run_state s p).story (row_reading (run_state s p).story.bus_state row) row)
    → reply_in (array_of s (run_state s (row ∷ p))).replies id ≡ reply_in (array_of s (run_state s p)).replies id
reply_stays s p row before after id none = ap (λ (x : Array). reply_in x.replies id) (ap (or_start s) after.array_is)
    ∙ events_keep s before.array (row_events_by s (run_state s p).story
    (row_reading (run_state s p).story.bus_state row) row) after.array id (array_on s p row before after) none
    ∙ ap (λ (x : Array). reply_in x.replies id) (sym (ap (or_start s) before.array_is))

-- A reply that was given stays.
pub reply_kept : (s : ScenarioValue) (p : List Row) (row : Row) → Stood s p → RowOf s (run_state s p) row
    → AreRepliesShown s (run_state s p) → PlaceFacts s p → PlaceFacts s (row ∷ p)
    → (id : ProcId) (reply : Reply) → reply_in (array_of s (run_state s p)).replies id ≡ Some reply
    → reply_in (array_of s (run_state s (row ∷ p))).replies id ≡ Some reply
reply_kept s p row was of shown before after id reply e = reply_stays s p row before after id
    (none_again s p row was of shown before id (ap (λ (o : Option Reply). is_some o) e))
    ∙ e
