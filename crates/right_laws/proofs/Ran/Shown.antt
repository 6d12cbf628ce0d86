-- The events that a row shows, each with what is known of the row (6.1.6, 6.6.5, 7.3, 7.8).
use Rattle.right_laws.proofs
use proofs.Names.{ℕ, ◌≡◌, Bool, true, false, not, ◌&&◌, ◌||◌, ◌∙◌, List, [], ◌∷◌, Option, Some, None, refl, sym, ap}
use proofs.Names.{subst, and_parts, not-true, list_any, if◌then◌else◌, is_some, slice_index, wrong, wrong', Event}
use proofs.Names.{ProcId, rises, changes_phase, is_command, Row, ScenarioValue, AbortDef, array_after, same_id}
use proofs.Names.{carried_id, RowReading, row_reading, CarriedBytes, is_whole_block, is_status_phase, carried_if}
use proofs.Names.{queue_event, queue_events, is_refuse, status_event, phase_events, is_completion, end_events}
use proofs.Names.{item_loss_events, abort_line_at, abort_line_events, item_abort_events, bus_free_events}
use proofs.Names.{connection_events, link_events, row_events_by, Item, process, abort, Link, LastMessage, plain}
use proofs.Names.{complete, disconnect, abortive, has_run, RunState, carried_here, id_is, is_marked, OnEvents}

-- ---- what is known

-- RST is false after the row, a connection stands, and its initiator knows this process.
pub record IsHere (k : RunState) (d : RowReading) (link : Link) (id : ProcId) : Type 0 where
  pub link_is : k.story.link ≡ Some link
  pub item_is : link.item ≡ Some (process id)
  pub calm : d.change.after.rst ≡ false
  pub stands : is_some d.next ≡ true

-- COMMAND is left with its whole block.
pub record IsArrival (k : RunState) (d : RowReading) (id : ProcId) : Type 0 where
  pub link : Link
  pub here : IsHere k d link id
  pub turns : changes_phase d.change ≡ true
  pub command : is_command d.change.before ≡ true
  pub whole : is_whole_block (carried_here k id) ≡ true

-- STATUS begins, and it has no answer yet.
pub record IsAnswer (k : RunState) (d : RowReading) (id : ProcId) : Type 0 where
  pub link : Link
  pub here : IsHere k d link id
  pub turns : changes_phase d.change ≡ true
  pub status : is_status_phase d.change.after ≡ true
  pub unanswered : is_marked (carried_here k id) ≡ false

-- COMMAND COMPLETE is taken.
pub record IsEnding (s : ScenarioValue) (k : RunState) (d : RowReading) (row : Row) (id : ProcId) (status : ℕ) : Type
    0 where
  pub link : Link
  pub here : IsHere k d link id
  pub stays : changes_phase d.change ≡ false
  pub done : is_completion link d.change ≡ true
  pub status_is : status ≡ slice_index (carried_here k id).status.bytes 0
  pub alone : row_events_by s k.story d row ≡ Event.End id status ∷ []

abbrev pub ShownAs : ScenarioValue → RunState → RowReading → Row → Event → Type 0
ShownAs s k d row (Event.Accept id) = IsArrival k d id
ShownAs s k d row (Event.Refuse id) = IsArrival k d id
ShownAs s k d row (Event.Run id) = IsAnswer k d id
ShownAs s k d row (Event.Fail id code) = IsAnswer k d id
ShownAs s k d row (Event.End id status) = IsEnding s k d row id status
ShownAs s k d row (Event.Lost id) = is_some d.next ≡ false
ShownAs s k d row (Event.Aborted i t n what) = is_some d.next ≡ false
ShownAs s k d row (Event.Reset dev) = d.change.after.rst ≡ true

-- The process runs with the row, and may have arrived with it.
pub data RunsAs (id : ProcId) (shown : List Event) : Type 0 where
  runs_alone : shown ≡ Event.Run id ∷ [] → RunsAs id shown
  runs_arrived : shown ≡ Event.Run id ∷ Event.Accept id ∷ [] → RunsAs id shown

-- ---- a phase is left

turn_shown : (s : ScenarioValue) (k : RunState) (d : RowReading) (row : Row) (l : Link) (x : ProcId)
    → IsHere k d l x → changes_phase d.change ≡ true
    → OnEvents (ShownAs s k d row) (phase_events s k.story (Some (carried_here k x)) d.change)
turn_shown s k d row l x here turns = status
    (is_status_phase d.change.after && not c.shown && not c.refused && not (list_any (λ e. is_refuse e) arrived)) refl
  where
    c : CarriedBytes
    c = carried_here k x

    arrived : List Event
    arrived = queue_events s k.story (Some c) d.change.before

    own : c.id ≡ x
    own = carried_id k.story.carried x

    arrives : (is_command d.change.before && is_whole_block c) ≡ true → IsArrival k d c.id
    arrives e =
        let w = and_parts (is_command d.change.before) (is_whole_block c) e in
        subst (IsArrival k d) (sym own) (record { link = l; here = here; turns = turns; command = w.0; whole = w.1 })

    queued : (q : Bool) → (is_command d.change.before && is_whole_block c) ≡ q
        → OnEvents (ShownAs s k d row) (if q then queue_event s k.story.history c.id ∷ [] else [])
    queued false e = tt
    queued true e = (by (is_some (array_after s (Event.Accept c.id ∷ k.story.history))), tt)
      where
        by : (r : Bool) → ShownAs s k d row (if r then Event.Accept c.id else Event.Refuse c.id)
        by true = arrives e
        by false = arrives e

    answers :
        (is_status_phase d.change.after && not c.shown && not c.refused && not (list_any (λ e. is_refuse e) arrived))
        ≡ true → (failure : Option ℕ) → ShownAs s k d row (status_event c.id failure)
    answers e failure = elim failure as (λ f. ShownAs s k d row (status_event c.id f)) [ None ↦ of | Some code ↦ of ]
      where
        of : IsAnswer k d c.id
        of =
            let three = and_parts (is_status_phase d.change.after && not c.shown && not c.refused)
            (not (list_any (λ y. is_refuse y) arrived)) e in
            let two = and_parts (is_status_phase d.change.after && not c.shown) (not c.refused) three.0 in
            let one = and_parts (is_status_phase d.change.after) (not c.shown) two.0 in
            subst (IsAnswer k d) (sym own) (record {
              link = l;
              here = here;
              turns = turns;
              status = one.0;
              unanswered = λ i. not-true c.shown one.1 i || not-true c.refused two.1 i;
            })

    status : (q : Bool)
        → (is_status_phase d.change.after && not c.shown && not c.refused && not (list_any (λ e. is_refuse e) arrived))
        ≡ q → OnEvents (ShownAs s k d row) (if q then status_event c.id c.failure ∷ arrived else arrived)
    status true e = (answers e c.failure, queued (is_command d.change.before && is_whole_block c) refl)
    status false e = queued (is_command d.change.before && is_whole_block c) refl

-- ---- any row

pub row_shown : (s : ScenarioValue) (k : RunState) (row : Row)
    → OnEvents (ShownAs s k (row_reading k.story.bus_state row) row)
    (row_events_by s k.story (row_reading k.story.bus_state row) row)
row_shown s k row = go d.change.after.rst refl
  where
    d : RowReading
    d = row_reading k.story.bus_state row

    All : List Event → Type 0
    All shown = OnEvents (ShownAs s k d row) shown

    reset : d.change.after.rst ≡ true → (q : Bool) → All (if q then Event.Reset row.dev ∷ [] else [])
    reset on true = (on, tt)
    reset on false = tt

    lost : is_some d.next ≡ false → (item : Option Item) → All (item_loss_events item)
    lost free None = tt
    lost free (Some (process id)) = (free, tt)
    lost free (Some (abort n)) = tt

    line : is_some d.next ≡ false → (o : Option AbortDef) → All (abort_line_events o)
    line free None = tt
    line free (Some a) = (free, tt)

    aborted : is_some d.next ≡ false → (item : Option Item) → All (item_abort_events s item)
    aborted free None = tt
    aborted free (Some (process id)) = tt
    aborted free (Some (abort n)) = line free (abort_line_at s.aborts n)

    freed : is_some d.next ≡ false → (l : Link) (last : LastMessage) → All (bus_free_events s l last)
    freed free l plain = lost free l.item
    freed free l complete = tt
    freed free l disconnect = tt
    freed free l abortive = aborted free l.item

    in_connection : (l : Link) → k.story.link ≡ Some l → d.change.after.rst ≡ false → is_some d.next ≡ true
        → All (connection_events s k.story l d)
    in_connection l link calm stands = by (changes_phase d.change) refl l.item refl
      where
        here : (id : ProcId) → l.item ≡ Some (process id) → IsHere k d l id
        here id e = record { link_is = link; item_is = e; calm = calm; stands = stands }

        ends : (id : ProcId) (c : CarriedBytes) → IsHere k d l id → changes_phase d.change ≡ false
            → is_completion l d.change ≡ true → c ≡ carried_here k id
            → row_events_by s k.story d row ≡ end_events (Some c) → All (end_events (Some c))
        ends id c w stays done e shown =
            let own : id ≡ c.id = sym (ap (λ (x : CarriedBytes). x.id) e ∙ carried_id k.story.carried id) in (
              record {
                link = l;
                here = subst (IsHere k d l) own w;
                stays = stays;
                done = done;
                status_is = ap (λ (x : CarriedBytes). slice_index x.status.bytes 0) (e ∙ ap (carried_here k) own);
                alone = shown;
              },
              tt,
            )

        by : (q : Bool) → changes_phase d.change ≡ q → (item : Option Item) → l.item ≡ item
            → All (if q then phase_events s k.story (carried_if k.story item) d.change
            else if is_completion l d.change then end_events (carried_if k.story item) else [])
        by true e None f = tt
        by true e (Some (abort n)) f = tt
        by true e (Some (process id)) f = turn_shown s k d row l id (here id f) e
        by false e item f = completes (is_completion l d.change) refl item f
          where
            completes : (r : Bool) → is_completion l d.change ≡ r → (x : Option Item) → l.item ≡ x
                → All (if r then end_events (carried_if k.story x) else [])
            completes false done x g = tt
            completes true done None g = tt
            completes true done (Some (abort n)) g = tt
            completes true done (Some (process id)) g = ends id (carried_here k id) (here id g) e done refl ((λ i.
                if calm i then (if rises d.change.own.rst d.change.next.rst then Event.Reset row.dev ∷ [] else [])
                else link_events s k.story (link i) d)
                ∙ (λ i. if stands i then connection_events s k.story l d else bus_free_events s l l.last)
                ∙ (λ i. if e i then phase_events s k.story (carried_if k.story l.item) d.change
                else if done i then end_events (carried_if k.story (g i)) else []))

    linked : (o : Option Link) → k.story.link ≡ o → d.change.after.rst ≡ false → All (link_events s k.story o d)
    linked None e calm = tt
    linked (Some l) e calm = by (is_some d.next) refl
      where
        by : (q : Bool) → is_some d.next ≡ q
            → All (if q then connection_events s k.story l d else bus_free_events s l l.last)
        by true f = in_connection l e calm f
        by false f = freed f l l.last

    go : (q : Bool) → d.change.after.rst ≡ q
        → All (if q then (if rises d.change.own.rst d.change.next.rst then Event.Reset row.dev ∷ [] else [])
        else link_events s k.story k.story.link d)
    go true e = reset e (rises d.change.own.rst d.change.next.rst)
    go false e = linked k.story.link refl e

-- ---- where a process runs with it

turn_runs : (s : ScenarioValue) (k : RunState) (d : RowReading) (id : ProcId) (c : CarriedBytes)
    → has_run (phase_events s k.story (Some c) d.change) id ≡ true
    → RunsAs id (phase_events s k.story (Some c) d.change)
turn_runs s k d id c = status (is_command d.change.before && is_whole_block c)
    (is_some (array_after s (Event.Accept c.id ∷ k.story.history)))
  where
    arrived : (q r : Bool) → List Event
    arrived q r = if q then (if r then Event.Accept c.id else Event.Refuse c.id) ∷ [] else []

    none : (q r : Bool) → has_run (arrived q r) id ≡ false
    none true true = refl
    none true false = refl
    none false r = refl

    alone : (failure : Option ℕ) → has_run (status_event c.id failure ∷ []) id ≡ true
        → RunsAs id (status_event c.id failure ∷ [])
    alone (Some code) e = wrong' e
    alone None e = runs_alone (ap (λ (x : ProcId). Event.Run x ∷ []) (id_is c.id id (first (same_id c.id id) e)))
      where
        first : (q : Bool) → (q || false) ≡ true → q ≡ true
        first true z = refl
        first false z = wrong' z

    with_arrival : (failure : Option ℕ) → has_run (status_event c.id failure ∷ Event.Accept c.id ∷ []) id ≡ true
        → RunsAs id (status_event c.id failure ∷ Event.Accept c.id ∷ [])
    with_arrival (Some code) e = wrong' e
    with_arrival None e = runs_arrived
        (ap (λ (x : ProcId). Event.Run x ∷ Event.Accept x ∷ []) (id_is c.id id (first (same_id c.id id) e)))
      where
        first : (q : Bool) → (q || false) ≡ true → q ≡ true
        first true z = refl
        first false z = wrong' z

    last_false : (a b e : Bool) → (a && not b && not e && false) ≡ false
    last_false true true e = refl
    last_false true false true = refl
    last_false true false false = refl
    last_false false b e = refl

    by : (t q r : Bool) → (q ≡ true → r ≡ false → t ≡ false)
        → has_run (if t then status_event c.id c.failure ∷ arrived q r else arrived q r) id ≡ true
        → RunsAs id (if t then status_event c.id c.failure ∷ arrived q r else arrived q r)
    by false q r f e = wrong' (sym (none q r) ∙ e)
    by true true true f e = with_arrival c.failure e
    by true true false f e = wrong (f refl refl)
    by true false r f e = alone c.failure e

    status : (q r : Bool) → has_run (if is_status_phase d.change.after && not c.shown && not c.refused
        && not (list_any (λ e. is_refuse e) (arrived q r)) then status_event c.id c.failure ∷ arrived q r
        else arrived q r) id ≡ true
        → RunsAs id (if is_status_phase d.change.after && not c.shown && not c.refused
        && not (list_any (λ e. is_refuse e) (arrived q r)) then status_event c.id c.failure ∷ arrived q r
        else arrived q r)
    status q r = by (is_status_phase d.change.after && not c.shown && not c.refused
        && not (list_any (λ e. is_refuse e) (arrived q r))) q r (λ z w. ap2 z w)
      where
        ap2 : q ≡ true → r ≡ false → (is_status_phase d.change.after && not c.shown && not c.refused
            && not (list_any (λ e. is_refuse e) (arrived q r))) ≡ false
        ap2 z w = (λ i. is_status_phase d.change.after && not c.shown && not c.refused
            && not (list_any (λ e. is_refuse e) (arrived (z i) (w i))))
            ∙ last_false (is_status_phase d.change.after) c.shown c.refused

pub row_runs : (s : ScenarioValue) (k : RunState) (row : Row) (id : ProcId)
    → has_run (row_events_by s k.story (row_reading k.story.bus_state row) row) id ≡ true
    → RunsAs id (row_events_by s k.story (row_reading k.story.bus_state row) row)
row_runs s k row id = go d.change.after.rst
  where
    d : RowReading
    d = row_reading k.story.bus_state row

    Has : List Event → Type 0
    Has shown = has_run shown id ≡ true → RunsAs id shown

    reset : (q : Bool) → Has (if q then Event.Reset row.dev ∷ [] else [])
    reset true e = wrong' e
    reset false e = wrong' e

    lost : (item : Option Item) → Has (item_loss_events item)
    lost None e = wrong' e
    lost (Some (process x)) e = wrong' e
    lost (Some (abort n)) e = wrong' e

    line : (o : Option AbortDef) → Has (abort_line_events o)
    line None e = wrong' e
    line (Some a) e = wrong' e

    aborted : (item : Option Item) → Has (item_abort_events s item)
    aborted None e = wrong' e
    aborted (Some (process x)) e = wrong' e
    aborted (Some (abort n)) e = line (abort_line_at s.aborts n) e

    freed : (l : Link) (last : LastMessage) → Has (bus_free_events s l last)
    freed l plain e = lost l.item e
    freed l complete e = wrong' e
    freed l disconnect e = wrong' e
    freed l abortive e = aborted l.item e

    turned : (item : Option Item) → Has (phase_events s k.story (carried_if k.story item) d.change)
    turned None e = wrong' e
    turned (Some (abort n)) e = wrong' e
    turned (Some (process x)) e = turn_runs s k d id (carried_here k x) e

    completed : (q : Bool) (item : Option Item) → Has (if q then end_events (carried_if k.story item) else [])
    completed false item e = wrong' e
    completed true None e = wrong' e
    completed true (Some (abort n)) e = wrong' e
    completed true (Some (process x)) e = wrong' e

    in_connection : (l : Link) (q : Bool) → Has (if q then phase_events s k.story (carried_if k.story l.item) d.change
        else if is_completion l d.change then end_events (carried_if k.story l.item) else [])
    in_connection l true = turned l.item
    in_connection l false = completed (is_completion l d.change) l.item

    linked : (o : Option Link) → Has (link_events s k.story o d)
    linked None e = wrong' e
    linked (Some l) e = by (is_some d.next) e
      where
        by : (q : Bool) → Has (if q then connection_events s k.story l d else bus_free_events s l l.last)
        by true = in_connection l (changes_phase d.change)
        by false = freed l l.last

    go : (q : Bool) → Has (if q then (if rises d.change.own.rst d.change.next.rst then Event.Reset row.dev ∷ [] else [])
        else link_events s k.story k.story.link d)
    go true = reset (rises d.change.own.rst d.change.next.rst)
    go false = linked k.story.link
