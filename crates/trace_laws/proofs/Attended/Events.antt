-- The events of a row in a connection are of the process that its target serves, or of the abort that comes in it.
use Rattle.trace_laws.proofs
use proofs.Names.{inl, inr, ℕ, ◌≡◌, ◌⊎◌, ◌<◌, Bool, true, false, not, ◌&&◌, ◌==◌, ◌∙◌, List, [], ◌∷◌, Option, Some}
use proofs.Names.{None, refl, sym, ap, list_any, slice_index, if◌then◌else◌, is_some, Event, ProcId, rises, is_command}
use proofs.Names.{Row, Change, Connection, GOOD, ScenarioValue, AbortDef, array_after, carried_id, RowReading}
use proofs.Names.{CarriedBytes, carried_of, is_status_phase, is_whole_block, abort_line_at, abort_line_events}
use proofs.Names.{bus_free_events, carried_if, connection_events, end_events, is_refuse, item_loss_events, link_events}
use proofs.Names.{phase_events, queue_event, queue_events, row_events_by, status_event, Item, process, abort, Link}
use proofs.Names.{LastMessage, plain, complete, disconnect, abortive, Story, RunState, AreShown, IsShown, accepts, runs}
use proofs.Names.{fails, loses, aborts, refuses}
use Rattle.story_laws.specs.row_laws.specs.Attendance.{ends}

-- What the row shows where the connection has a link.
pub row_shows : (s : ScenarioValue) (b : Story) (row : Row) (d : RowReading) (l : Link)
    → b.link ≡ Some l → d.change.after.rst ≡ false
    → row_events_by s b d row ≡ (if is_some d.next then connection_events s b l d else bus_free_events s l l.last)
row_shows s b row d l link calm =
    ap (λ (q : Bool). if q then (if rises d.change.own.rst d.change.next.rst then Event.Reset row.dev ∷ [] else [])
    else link_events s b b.link d) calm ∙ ap (λ (o : Option Link). link_events s b o d) link

-- ---- a phase is left for another

-- Of a process.
pub record IsOf (k : RunState) (o : Option CarriedBytes) : Type 0 where
  pub own : (c : CarriedBytes) → o ≡ Some c → k.served ≡ Some (process c.id)

arrived_shown : (s : ScenarioValue) (k : RunState) (n : Connection) (known : Bool) (id : ProcId)
    → k.served ≡ Some (process id) → IsShown k n known (queue_event s k.story.history id)
arrived_shown s k n known id e = go (is_some (array_after s (Event.Accept id ∷ k.story.history)))
  where
    go : (q : Bool) → IsShown k n known (if q then Event.Accept id else Event.Refuse id)
    go true = accepts id e
    go false = refuses id e

answer_shown : (k : RunState) (n : Connection) (known : Bool) (id : ProcId) (failure : Option ℕ)
    → k.served ≡ Some (process id) → IsShown k n known (status_event id failure)
answer_shown k n known id None e = runs id e
answer_shown k n known id (Some code) e = fails id code e

of_process : (s : ScenarioValue) (k : RunState) (n : Connection) (known : Bool) (c : CarriedBytes) (g : Change)
    → k.served ≡ Some (process c.id) → AreShown k n known (phase_events s k.story (Some c) g)
of_process s k n known c g e = last (is_status_phase g.after && not c.shown && not c.refused
    && not (list_any (λ x. is_refuse x) (queue_events s k.story (Some c) g.before)))
    (queue_events s k.story (Some c) g.before) (first (is_command g.before && is_whole_block c))
  where
    first : (q : Bool) → AreShown k n known (if q then queue_event s k.story.history c.id ∷ [] else [])
    first true = (arrived_shown s k n known c.id e, tt)
    first false = tt

    last : (q : Bool) (arrived : List Event) → AreShown k n known arrived
        → AreShown k n known (if q then status_event c.id c.failure ∷ arrived else arrived)
    last true arrived h = (answer_shown k n known c.id c.failure e, h)
    last false arrived h = h

-- The initiator knows what is served, or does not know it yet.
abbrev pub Of : RunState → Option Item → Type 0
Of k item = (item ≡ k.served) ⊎ (item ≡ None)

served_carried : (k : RunState) (id : ProcId) → k.served ≡ Some (process id)
    → k.served ≡ Some (process (carried_of k.story.carried id).id)
served_carried k id e = e ∙ ap (λ (x : ProcId). Some (process x)) (sym (carried_id k.story.carried id))

pub turn_shown : (s : ScenarioValue) (k : RunState) (n : Connection) (known : Bool) (item : Option Item) (g : Change)
    → Of k item → AreShown k n known (phase_events s k.story (carried_if k.story item) g)
turn_shown s k n known None g h = tt
turn_shown s k n known (Some (abort m)) g h = tt
turn_shown s k n known (Some (process id)) g (inl e) =
    of_process s k n known (carried_of k.story.carried id) g (served_carried k id (sym e))
turn_shown s k n known (Some (process id)) g (inr e) = absurd cc

-- ---- the initiator takes COMMAND COMPLETE

-- The status that came.
abbrev pub EndsKnown : RunState → Bool → Option Item → Type 0
EndsKnown k known item = (id : ProcId) → item ≡ Some (process id)
    → (slice_index (carried_of k.story.carried id).status.bytes 0 == GOOD) ≡ true → known ≡ true

pub end_shown : (k : RunState) (n : Connection) (known : Bool) (item : Option Item) → Of k item → EndsKnown k known item
    → AreShown k n known (end_events (carried_if k.story item))
end_shown k n known None h good = tt
end_shown k n known (Some (abort m)) h good = tt
end_shown k n known (Some (process id)) (inl e) good =
    (ends (carried_of k.story.carried id).id _ (served_carried k id (sym e)) (good id refl), tt)
end_shown k n known (Some (process id)) (inr e) good = absurd cc

-- ---- the connection ends

-- An abort that is served is of both ends.
abbrev pub AreOfEnds : ScenarioValue → RunState → Connection → Type 0
AreOfEnds s k n = (m : ℕ) (a : AbortDef) → k.served ≡ Some (abort m) → abort_line_at s.aborts m ≡ Some a
    → (a.host ≡ n.initiator) × (a.target ≡ n.target) × (a.unit < 8) × (a.host < 8)

line_shown : (k : RunState) (n : Connection) (known : Bool) (o : Option AbortDef)
    → ((a : AbortDef) → o ≡ Some a → (a.host ≡ n.initiator) × (a.target ≡ n.target) × (a.unit < 8) × (a.host < 8))
    → AreShown k n known (abort_line_events o)
line_shown k n known None h = tt
line_shown k n known (Some a) h = let w = h a refl in (aborts a.host a.target a.unit a.what w.0 w.1 w.2 w.3, tt)

pub stop_shown : (s : ScenarioValue) (k : RunState) (n : Connection) (known : Bool) (l : Link) → Of k l.item
    → AreOfEnds s k n → AreShown k n known (bus_free_events s l l.last)
stop_shown s k n known l h between = go l.last
  where
    lost : (item : Option Item) → Of k item → AreShown k n known (item_loss_events item)
    lost None w = tt
    lost (Some (abort m)) w = tt
    lost (Some (process id)) (inl e) = (loses id (sym e), tt)
    lost (Some (process id)) (inr e) = absurd cc

    stopped : (item : Option Item) → Of k item
        → AreShown k n known (Rattle.due_model.specs.story_model.specs.HistoryEvents.item_abort_events s item)
    stopped None w = tt
    stopped (Some (process id)) w = tt
    stopped (Some (abort m)) (inl e) = line_shown k n known (abort_line_at s.aborts m) (λ a f. between m a (sym e) f)
    stopped (Some (abort m)) (inr e) = absurd cc

    go : (last : LastMessage) → AreShown k n known (bus_free_events s l last)
    go plain = lost l.item h
    go complete = tt
    go disconnect = tt
    go abortive = stopped l.item h
