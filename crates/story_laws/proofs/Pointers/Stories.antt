-- What the story after a row of a connection has of a process: what it carried, and whether it is over.
use Rattle.story_laws.proofs
use proofs.Names.{ℕ, ◌≡◌, ◌+◌, Bool, true, false, not, ◌&&◌, ◌||◌, ◌∙◌, List, [], ◌∷◌, ◌++◌, Option, Some, None, refl}
use proofs.Names.{sym, ap, subst, ◌==◌, list_any, if◌then◌else◌, is_some, or_true, Event, ProcId, rises, LineSet}
use proofs.Names.{is_command, receiver_in, Row, Change, Connection, CHECK_CONDITION, ScenarioValue, CmdDef, array_after}
use proofs.Names.{same_id, carried_id, ends_keep, check_keeps, row_reading, CarriedBytes, carried_of, with_carried}
use proofs.Names.{is_whole_block, is_status_phase, row_events_by, link_events, queue_events, status_events}
use proofs.Names.{status_event, is_refuse, Item, process, same_item, has_item, sense_item, is_open, Story, Ending}
use proofs.Names.{by_abort, by_reset, is_aborted, is_sense_stopped, marked_refused, marked_shown, story_with_over}
use proofs.Names.{story_with_end, with_check, story_with_ends, story_after_event, story_after_events, story_with_end_if}
use proofs.Names.{story_in_connection, story_on_bus, story_by_change, RunState, reading_is, put_own, put_other, self_id}
use proofs.Names.{IsRowIn, reading_in, by_bool, is_marked}

-- ---- what stays of what a process carried

-- The data pointers are the same, and a mark stays.
pub record SamePointers (a b : CarriedBytes) : Type 0 where
  pub moved : a.moved ≡ b.moved
  pub marked : is_marked b ≡ true → is_marked a ≡ true

pub same_self : (c : CarriedBytes) → SamePointers c c
same_self c = record { moved = refl; marked = λ e. e }

pub same_on : (a b c : CarriedBytes) → SamePointers a b → SamePointers b c → SamePointers a c
same_on a b c h g = record { moved = h.moved ∙ g.moved; marked = λ e. h.marked (g.marked e) }

refused_same : (c : CarriedBytes) → SamePointers (marked_refused c) c
refused_same c = record { moved = refl; marked = λ e. or_true c.shown }

shown_same : (c : CarriedBytes) → SamePointers (marked_shown c) c
shown_same c = record { moved = refl; marked = λ e. refl }

-- One that is put there changes no other, and itself to what it is.
pub put_same : (all : List CarriedBytes) (c : CarriedBytes) (id x : ProcId) → c.id ≡ x
    → SamePointers c (carried_of all x) → SamePointers (carried_of (with_carried all c) id) (carried_of all id)
put_same all c id x e h = by_bool (same_id x id)
    (λ f. let own : carried_of (with_carried all c) id ≡ c = put_own all c id (e ∙ id_is x id f) in
    subst (λ (y : CarriedBytes). SamePointers y (carried_of all id)) (sym own)
    (subst (λ (y : ProcId). SamePointers c (carried_of all y)) (id_is x id f) h))
    (λ f. subst (λ (y : CarriedBytes). SamePointers y (carried_of all id)) (sym (put_other all c x id e f))
    (same_self (carried_of all id)))
  where
    id_is : (a b : ProcId) → same_id a b ≡ true → a ≡ b
    id_is = Rattle.row_laws.specs.book_laws.proofs.Common.Lookups.id_is

-- ---- events

event_same : (s : ScenarioValue) (b : Story) (event : Event) (id : ProcId)
    → SamePointers (carried_of (story_after_event s b event).carried id) (carried_of b.carried id)
event_same s b (Event.Accept x) id = same_self (carried_of b.carried id)
event_same s b (Event.Refuse x) id = put_same b.carried (marked_refused (carried_of b.carried x)) id x
    (carried_id b.carried x) (refused_same (carried_of b.carried x))
event_same s b (Event.Run x) id = put_same b.carried (marked_shown (carried_of b.carried x)) id x
    (carried_id b.carried x) (shown_same (carried_of b.carried x))
event_same s b (Event.Fail x code) id = put_same b.carried (marked_shown (carried_of b.carried x)) id x
    (carried_id b.carried x) (shown_same (carried_of b.carried x))
event_same s b (Event.End x status) id = subst
    (λ (y : List CarriedBytes). SamePointers (carried_of y id) (carried_of b.carried id))
    (sym (check_keeps (story_with_end b x _) x status).0) (same_self (carried_of b.carried id))
event_same s b (Event.Lost x) id = same_self (carried_of b.carried id)
event_same s b (Event.Aborted host target unit what) id = subst
    (λ (y : List CarriedBytes). SamePointers (carried_of y id) (carried_of b.carried id)) (sym
    (ends_keep (is_aborted host target unit what) (is_sense_stopped host target unit what) by_abort 1 s.commands b).0)
    (same_self (carried_of b.carried id))
event_same s b (Event.Reset dev) id = subst
    (λ (y : List CarriedBytes). SamePointers (carried_of y id) (carried_of b.carried id))
    (sym (ends_keep (λ c. true) (λ c. true) by_reset 1 s.commands b).0) (same_self (carried_of b.carried id))

pub events_same : (s : ScenarioValue) (b : Story) (shown : List Event) (id : ProcId)
    → SamePointers (carried_of (story_after_events s b shown).carried id) (carried_of b.carried id)
events_same s b [] id = same_self (carried_of b.carried id)
events_same s b (event ∷ shown) id = same_on
    (carried_of (story_after_event s (story_after_events s b shown) event).carried id)
    (carried_of (story_after_events s b shown).carried id) (carried_of b.carried id)
    (event_same s (story_after_events s b shown) event id) (events_same s b shown id)

-- ---- what is over stays so

pub over_more : (i : Item) (items : List Item) (x : Item) → has_item items x ≡ true → has_item (i ∷ items) x ≡ true
over_more i items x e = ap (λ (q : Bool). same_item i x || q) e ∙ or_true (same_item i x)

pub over_put : (items : List Item) (x : Item) → same_item x x ≡ true → has_item (x ∷ items) x ≡ true
over_put items x e = ap (λ (q : Bool). q || has_item items x) e

check_sent : (b : Story) (x : ProcId) (status : ℕ) → (with_check b x status).sent.over ≡ b.sent.over
check_sent b x status = go (not x.sense && status == CHECK_CONDITION)
  where
    go : (q : Bool)
        → (if q then record b { sent = record b.sent { checks = b.sent.checks ++ x.command ∷ [] } } else b).sent.over
        ≡ b.sent.over
    go true = refl
    go false = refl

pub ends_over : (drops stops : CmdDef → Bool) (e : Ending) (m : ℕ) (commands : List CmdDef) (b : Story) (x : Item)
    → has_item b.sent.over x ≡ true → has_item (story_with_ends drops stops e m commands b).sent.over x ≡ true
ends_over drops stops e m [] b x h = h
ends_over drops stops e m (c ∷ commands) b x h = ends_over drops stops e
    (m + 1) commands (story_with_end_if drops stops e m c b) x
    (go (is_open b.sent m && drops c) (stops c && list_any (λ k. k == m) b.sent.checks))
  where
    go : (q r : Bool) → has_item (if q then story_with_end b (record { command = m; sense = false }) e
        else if r then story_with_over b (sense_item m) else b).sent.over x ≡ true
    go true r = over_more (process (record { command = m; sense = false })) b.sent.over x h
    go false true = over_more (sense_item m) b.sent.over x h
    go false false = h

event_over : (s : ScenarioValue) (b : Story) (event : Event) (x : Item) → has_item b.sent.over x ≡ true
    → has_item (story_after_event s b event).sent.over x ≡ true
event_over s b (Event.End id status) x h =
    ap (λ (y : List Item). has_item y x) (check_sent (story_with_end b id _) id status)
    ∙ over_more (process id) b.sent.over x h
event_over s b (Event.Lost id) x h = over_more (process id) b.sent.over x h
event_over s b (Event.Aborted host target unit what) x h =
    ends_over (is_aborted host target unit what) (is_sense_stopped host target unit what) by_abort 1 s.commands b x h
event_over s b (Event.Reset dev) x h = ends_over (λ c. true) (λ c. true) by_reset 1 s.commands b x h
event_over s b _ x h = h

pub events_over : (s : ScenarioValue) (b : Story) (shown : List Event) (x : Item) → has_item b.sent.over x ≡ true
    → has_item (story_after_events s b shown).sent.over x ≡ true
events_over s b [] x h = h
events_over s b (event ∷ shown) x h = event_over s (story_after_events s b shown) event x (events_over s b shown x h)

-- A process that is lost is over.
pub lost_over : (s : ScenarioValue) (b : Story) (id : ProcId)
    → has_item (story_after_events s b (Event.Lost id ∷ [])).sent.over (process id) ≡ true
lost_over s b id = over_put b.sent.over (process id) (self_id id)

-- ---- the first STATUS phase marks its process

marks_put : (all : List CarriedBytes) (c : CarriedBytes) (id : ProcId) → c.id ≡ id → is_marked c ≡ true
    → is_marked (carried_of (with_carried all c) id) ≡ true
marks_put all c id e m = ap is_marked (put_own all c id e) ∙ m

refuse_marks : (s : ScenarioValue) (b : Story) (id : ProcId)
    → is_marked (carried_of (story_after_event s b (Event.Refuse id)).carried id) ≡ true
refuse_marks s b id = marks_put b.carried (marked_refused (carried_of b.carried id)) id (carried_id b.carried id)
    (or_true (carried_of b.carried id).shown)

status_marked : (s : ScenarioValue) (b : Story) (id : ProcId) (code : Option ℕ)
    → is_marked (carried_of (story_after_event s b (status_event id code)).carried id) ≡ true
status_marked s b id None =
    marks_put b.carried (marked_shown (carried_of b.carried id)) id (carried_id b.carried id) refl
status_marked s b id (Some code) =
    marks_put b.carried (marked_shown (carried_of b.carried id)) id (carried_id b.carried id) refl

-- With the row that begins a STATUS phase the process is marked, unless it was before.
abbrev arrived_if : ProcId → Bool → Bool → List Event
arrived_if id q r = if q then (if r then Event.Accept id else Event.Refuse id) ∷ [] else []

abbrev shown_if : CarriedBytes → Bool → List Event → List Event
shown_if c q arrived = if q then status_event c.id c.failure ∷ arrived else arrived

pub status_marks : (s : ScenarioValue) (b c : Story) (z : CarriedBytes) (id : ProcId) (before after : LineSet)
    → z.id ≡ id → carried_of c.carried id ≡ z → is_status_phase after ≡ true → is_marked
    (carried_of (story_after_events s c (status_events (Some z) after (queue_events s b (Some z) before))).carried id)
    ≡ true
status_marks s b c z id before after same same_k status = go z.shown z.refused refl refl
    (is_command before && is_whole_block z) (is_some (array_after s (Event.Accept z.id ∷ b.history)))
  where
    stays : (shown : List Event) → is_marked z ≡ true
        → is_marked (carried_of (story_after_events s c shown).carried id) ≡ true
    stays shown m = (events_same s c shown id).marked (ap is_marked same_k ∙ m)

    new : (shown : List Event)
        → is_marked (carried_of (story_after_events s c (status_event z.id z.failure ∷ shown)).carried id) ≡ true
    new shown = subst (λ (x : ProcId). is_marked
        (carried_of (story_after_event s (story_after_events s c shown) (status_event z.id z.failure)).carried x)
        ≡ true) same (status_marked s (story_after_events s c shown) z.id z.failure)

    refused : is_marked (carried_of (story_after_events s c (Event.Refuse z.id ∷ [])).carried id) ≡ true
    refused = subst (λ (x : ProcId). is_marked (carried_of (story_after_event s c (Event.Refuse z.id)).carried x)
        ≡ true) same (refuse_marks s c z.id)

    fresh : (q r : Bool) → is_marked (carried_of (story_after_events s c
        (shown_if z (not (list_any (λ e. is_refuse e) (arrived_if z.id q r))) (arrived_if z.id q r))).carried id) ≡ true
    fresh true true = new (Event.Accept z.id ∷ [])
    fresh true false = refused
    fresh false r = new []

    go : (h f : Bool) → z.shown ≡ h → z.refused ≡ f → (q r : Bool)
        → is_marked (carried_of (story_after_events s c (shown_if z (is_status_phase after && not z.shown
        && not z.refused && not (list_any (λ e. is_refuse e) (arrived_if z.id q r))) (arrived_if z.id q r))).carried id)
        ≡ true
    go true f eh ef q r = stays (shown_if z (is_status_phase after && not z.shown && not z.refused
        && not (list_any (λ e. is_refuse e) (arrived_if z.id q r))) (arrived_if z.id q r))
        (ap (λ (y : Bool). y || z.refused) eh)
    go false true eh ef q r = stays (shown_if z (is_status_phase after && not z.shown && not z.refused
        && not (list_any (λ e. is_refuse e) (arrived_if z.id q r))) (arrived_if z.id q r)) (λ i. eh i || ef i)
    go false false eh ef q r = (λ i. is_marked (carried_of (story_after_events s c
        (shown_if z (status i && not (eh i) && not (ef i) && not (list_any (λ e. is_refuse e) (arrived_if z.id q r)))
        (arrived_if z.id q r))).carried id)) ∙ fresh q r

-- ---- a row of a connection

-- What it makes of the story, but for the history and the bus.
pub story_row : (s : ScenarioValue) (k : RunState) (row : Row) (n : Connection) (c : Change) (now : Bool)
    → IsRowIn k row n c → is_some (receiver_in n c) ≡ now
    → story_after_events s (story_by_change s k.story (row_reading k.story.bus_state row) row)
    (row_events_by s k.story (row_reading k.story.bus_state row) row)
    ≡ story_after_events s (story_in_connection s k.story k.story.link (reading_in k.story.bus_state n c now) row)
    (link_events s k.story k.story.link (reading_in k.story.bus_state n c now))
story_row s k row n c now h e =
    let r = reading_in k.story.bus_state n c now in
    let d = reading_is k row n c now h e in
    (λ i. story_after_events s (story_by_change s k.story (d i) row) (row_events_by s k.story (d i) row))
    ∙ ap (λ (q : Bool). story_after_events s
    (if q then record k.story { link = None } else story_on_bus s k.story k.story.bus_state.connection (Some n) r row)
    (if q then (if rises c.own.rst c.next.rst then Event.Reset row.dev ∷ [] else [])
    else link_events s k.story k.story.link r)) h.calm
    ∙ ap (λ (x : Option Connection). story_after_events s (story_on_bus s k.story x (Some n) r row)
    (link_events s k.story k.story.link r)) h.connection_is
