-- A command arrives with the first event of a row alone, as COMMAND is left.
use Rattle.trace_laws.proofs
use proofs.Names.{◌≡◌, Bool, true, false, not, ◌&&◌, List, [], ◌∷◌, Option, Some, None, refl, ℕ, list_any}
use proofs.Names.{if◌then◌else◌, is_some, Event, ProcId, rises, LineSet, changes_phase, is_command, Row, ScenarioValue}
use proofs.Names.{array_after, RowReading, CarriedBytes, is_whole_block, is_status_phase, carried_if, queue_event}
use proofs.Names.{queue_events, is_refuse, status_event, status_events, phase_events, is_completion, end_events}
use proofs.Names.{item_loss_events, abort_line_at, abort_line_events, item_abort_events, bus_free_events, link_events}
use proofs.Names.{row_events_by, Item, process, abort, Link, LastMessage, plain, complete, disconnect, abortive, Story}
use proofs.Names.{Arrives, ArrivesFirst}

-- A command that arrives with the row is that of the connection; its block stands whole as COMMAND is left.
pub record ArrivesNow (b : Story) (d : RowReading) (l : Link) (c : CarriedBytes) : Type 0 where
  pub link_is : b.link ≡ Some l
  pub carried_is : carried_if b l.item ≡ Some c
  pub whole : is_whole_block c ≡ true
  pub calm : d.change.after.rst ≡ false
  pub stands : is_some d.next ≡ true
  pub turns : changes_phase d.change ≡ true
  pub command : is_command d.change.before ≡ true

arrived : (s : ScenarioValue) (history : List Event) (q : ProcId → Type 0) (id : ProcId) → q id
    → Arrives q (queue_event s history id)
arrived s history q id h = go (is_some (array_after s (Event.Accept id ∷ history)))
  where
    go : (x : Bool) → Arrives q (if x then Event.Accept id else Event.Refuse id)
    go true = h
    go false = tt

status_none : (q : ProcId → Type 0) (id : ProcId) (code : Option ℕ) → Arrives q (status_event id code)
status_none q id None = tt
status_none q id (Some code) = tt

with_status : (q : ProcId → Type 0) (c : CarriedBytes) (x : Bool) (event : Event) → Arrives q event
    → ArrivesFirst q (if x then status_event c.id c.failure ∷ (event ∷ []) else event ∷ [])
with_status q c true event h = (status_none (λ id. ⊥) c.id c.failure, h)
with_status q c false event h = h

with_status_alone : (q : ProcId → Type 0) (c : CarriedBytes) (x : Bool)
    → ArrivesFirst q (if x then status_event c.id c.failure ∷ [] else [])
with_status_alone q c true = status_none q c.id c.failure
with_status_alone q c false = tt

turned : (s : ScenarioValue) (b : Story) (c : Option CarriedBytes) (before after : LineSet) (q : ProcId → Type 0)
    → ((x : CarriedBytes) → c ≡ Some x → is_whole_block x ≡ true → is_command before ≡ true → q x.id)
    → ArrivesFirst q (status_events c after (queue_events s b c before))
turned s b None before after q h = tt
turned s b (Some c) before after q h = go (is_command before && is_whole_block c) refl
  where
    both : (x y : Bool) → (x && y) ≡ true → (x ≡ true) × (y ≡ true)
    both true y e = (refl, e)
    both false y e = absurd (no e)
      where
        no : false ≡ true → ⊥
        no z = absurd cc

    go : (x : Bool) → (is_command before && is_whole_block c) ≡ x
        → ArrivesFirst q (status_events (Some c) after (if x then queue_event s b.history c.id ∷ [] else []))
    go true e =
        let w = both (is_command before) (is_whole_block c) e in
        with_status q c (is_status_phase after && not c.shown && not c.refused
        && not (list_any (λ v. is_refuse v) (queue_event s b.history c.id ∷ []))) (queue_event s b.history c.id)
        (arrived s b.history q c.id (h c refl w.1 w.0))
    go false e = with_status_alone q c
        (is_status_phase after && not c.shown && not c.refused && not (list_any (λ v. is_refuse v) []))

ended : (q : ProcId → Type 0) (c : Option CarriedBytes) → ArrivesFirst q (end_events c)
ended q None = tt
ended q (Some c) = tt

lost : (q : ProcId → Type 0) (item : Option Item) → ArrivesFirst q (item_loss_events item)
lost q None = tt
lost q (Some (process p)) = tt
lost q (Some (abort k)) = tt

aborted : (s : ScenarioValue) (q : ProcId → Type 0) (item : Option Item) → ArrivesFirst q (item_abort_events s item)
aborted s q None = tt
aborted s q (Some (process p)) = tt
aborted s q (Some (abort k)) =
    elim (abort_line_at s.aborts k) as (λ a. ArrivesFirst q (abort_line_events a)) [ None ↦ tt | Some a ↦ tt ]

freed : (s : ScenarioValue) (q : ProcId → Type 0) (l : Link) (last : LastMessage)
    → ArrivesFirst q (bus_free_events s l last)
freed s q l plain = lost q l.item
freed s q l complete = tt
freed s q l disconnect = tt
freed s q l abortive = aborted s q l.item

pub arrives_first : (s : ScenarioValue) (b : Story) (d : RowReading) (row : Row) (q : ProcId → Type 0)
    → ((l : Link) (c : CarriedBytes) → ArrivesNow b d l c → q c.id) → ArrivesFirst q (row_events_by s b d row)
arrives_first s b d row q h = go d.change.after.rst refl
  where
    linked : d.change.after.rst ≡ false → (o : Option Link) → b.link ≡ o → ArrivesFirst q (link_events s b o d)
    linked calm None e = tt
    linked calm (Some l) e = by (is_some d.next) refl (changes_phase d.change) refl (is_completion l d.change)
      where
        by : (x : Bool) → is_some d.next ≡ x → (y : Bool) → changes_phase d.change ≡ y → (z : Bool)
            → ArrivesFirst q (if x then (if y then phase_events s b (carried_if b l.item) d.change
            else if z then end_events (carried_if b l.item) else []) else bus_free_events s l l.last)
        by true f true g z = turned s b (carried_if b l.item) d.change.before d.change.after q (λ c i w m. h l c
            (record { link_is = e; carried_is = i; whole = w; calm = calm; stands = f; turns = g; command = m }))
        by true f false g true = ended q (carried_if b l.item)
        by true f false g false = tt
        by false f y g z = freed s q l l.last

    reset : (y : Bool) → ArrivesFirst q (if y then Event.Reset row.dev ∷ [] else [])
    reset true = tt
    reset false = tt

    go : (x : Bool) → d.change.after.rst ≡ x
        → ArrivesFirst q (if x then (if rises d.change.own.rst d.change.next.rst then Event.Reset row.dev ∷ [] else [])
        else link_events s b b.link d)
    go true e = reset (rises d.change.own.rst d.change.next.rst)
    go false e = linked e b.link refl
