-- Which events a row shows in a connection.
use Rattle.std.proofs.Common.{ℕ, ◌≡◌, ◌∙◌, Bool, true, false, List, [], ◌∷◌, refl, sym, subst, Option, Some, None}
use Rattle.std.specs.Prelude.{if◌then◌else◌, not, ◌||◌, is_some}
use Rattle.std.proofs.lemmas.Bool.{and_parts}
use Rattle.bus_base.specs.declared.AbortKind.{AbortKind}
use Rattle.bus_base.specs.declared.Event.{Event}
use Rattle.bus_base.specs.declared.Event.TheVariants as events
use Rattle.bus_base.specs.declared.ProcId.{ProcId}
use Rattle.bus_trace.specs.declared.Row.{Row}
use Rattle.bus_trace.specs.declared.connection.Connection.{Connection}
use Rattle.bus_trace.specs.Changes.{rises}
use Rattle.bus_trace.specs.Phases.{changes_phase}
use Rattle.scenario.specs.Value.{ScenarioValue}
use Rattle.due_model.specs.story_model.specs.BusState.{RowReading, row_reading}
use Rattle.due_model.specs.story_model.specs.CarriedBytes.{CarriedBytes}
use Rattle.due_model.specs.story_model.specs.HistoryEvents.{carried_if, end_events, is_completion, link_events}
use Rattle.due_model.specs.story_model.specs.Links.{Link}
use Rattle.due_model.specs.dialogue_model.specs.declared.exchange.Phase.{Phase}
use Rattle.due_model.specs.dialogue_model.specs.declared.exchange.Phase.TheVariants as phases
use Rattle.due_model.specs.dialogue_model.specs.declared.exchange.Plan.{Plan}
use Rattle.due_model.specs.dialogue_model.specs.Events.{after_opening_events, connection_end_events, leaving_events}
use Rattle.due_model.specs.dialogue_model.specs.Events.{loss_events, turn_events, unit_or_0}
use Rattle.due_model.specs.dialogue_model.specs.NextPhase.{phase_of}
use Rattle.due_model.specs.RunState.{RunState, bus_of}
use Rattle.due_model.specs.RunSteps.{run_state, events_of_row}
use Rattle.due_model.specs.Sights.{serving_of}
use Rattle.due_model.specs.Telling.{events_of_ends, events_of_ends_in, id_of, initiator_events, is_true_telling}
use Rattle.due_model.specs.Telling.{target_events, telling}
use Rattle.due_model.proofs.SameEvents.{events_are}
use Rattle.target_course.proofs.ReplyRows.{Shape, HasShape, served_shape, shown_of}

-- What a row shows in this connection, of which this process is served.
pub data ShowsIn (s : ScenarioValue) (k : RunState) (d : RowReading) (n : Connection) (shown : List Event) : Type
    0 where
  nothing : shown ≡ [] → ShowsIn s k d n shown
  -- a phase that had begun is left
  turned : (i : ProcId) (x : Shape) → id_of k.served ≡ Some i → shown ≡ shown_of i x
      → k.exchange.begun ≡ true → is_some d.next ≡ true → changes_phase d.change ≡ true
      → turn_events (serving_of s k n.target) (bus_of k).atn (phase_of (bus_of k)) i ≡ shown_of i x
      → ShowsIn s k d n shown
  lost : (i : ProcId) → id_of k.served ≡ Some i → shown ≡ events.Lost i ∷ [] → is_some d.next ≡ false
      → ShowsIn s k d n shown
  aborted : (unit : ℕ) (what : AbortKind) → shown ≡ events.Aborted n.initiator n.target unit what ∷ []
      → is_some d.next ≡ false → ShowsIn s k d n shown
  ended : (i : ProcId) (status : ℕ) → shown ≡ events.End i status ∷ [] → is_some d.next ≡ true → ShowsIn s k d n shown

loss_shows : (s : ScenarioValue) (k : RunState) (d : RowReading) (n : Connection) (id : Option ProcId)
    → id_of k.served ≡ id → is_some d.next ≡ false → ShowsIn s k d n (loss_events id)
loss_shows s k d n None e f = nothing refl
loss_shows s k d n (Some i) e f = lost i e refl f

opening_shows : (s : ScenarioValue) (k : RunState) (d : RowReading)
    (n : Connection) (plan : Plan) (id : Option ProcId) (x : Option AbortKind)
    → id_of k.served ≡ id → is_some d.next ≡ false → ShowsIn s k d n (after_opening_events n plan.said x id)
opening_shows s k d n plan id None e f = loss_shows s k d n id e f
opening_shows s k d n plan id (Some what) e f = aborted (unit_or_0 plan.said.unit) what refl f

end_shows : (s : ScenarioValue) (k : RunState) (d : RowReading)
    (n : Connection) (plan : Plan) (phase : Phase) (id : Option ProcId)
    → id_of k.served ≡ id → is_some d.next ≡ false → ShowsIn s k d n (connection_end_events n plan phase id)
end_shows s k d n plan phases.MessageOut id e f = opening_shows s k d n plan id plan.said.aborts e f
end_shows s k d n plan phases.MessageIn id e f = nothing refl
end_shows s k d n plan phases.Command id e f = loss_shows s k d n id e f
end_shows s k d n plan phases.Status id e f = loss_shows s k d n id e f
end_shows s k d n plan phases.DataIn id e f = loss_shows s k d n id e f
end_shows s k d n plan phases.DataOut id e f = loss_shows s k d n id e f

left_and : (x y : Bool) → (x || not y) ≡ true → y ≡ true → x ≡ true
left_and true y e f = refl
left_and false true e f = cc
left_and false false e f = cc

leaving_shows : (s : ScenarioValue) (k : RunState) (d : RowReading) (n : Connection) (begun : Bool)
    → k.exchange.begun ≡ begun → (stands : Bool) → is_some d.next ≡ stands
    → (changes_phase d.change || not (is_some d.next)) ≡ true → (id : Option ProcId) → id_of k.served ≡ id
    → ShowsIn s k d n (leaving_events (serving_of s k n.target) n begun stands (bus_of k).atn (phase_of (bus_of k)) id)
leaving_shows s k d n false b stands f l id e = nothing refl
leaving_shows s k d n true b true f l None e = nothing refl
leaving_shows s k d n true b true f l (Some i) e =
    let x : HasShape i
    (leaving_events (serving_of s k n.target) n true true (bus_of k).atn (phase_of (bus_of k)) (Some i)) = served_shape
    (serving_of s k n.target) n true (bus_of k).atn (phase_of (bus_of k)) i in
    turned i x.0 e x.1 b f (left_and (changes_phase d.change) (is_some d.next) l f) x.1
leaving_shows s k d n true b false f l id e =
    end_shows s k d n (serving_of s k n.target).plan (phase_of (bus_of k)) id e f

completion_shows : (s : ScenarioValue) (k : RunState) (d : RowReading) (n : Connection) (x : Option CarriedBytes)
    → is_some d.next ≡ true → ShowsIn s k d n (end_events x)
completion_shows s k d n None f = nothing refl
completion_shows s k d n (Some c) f = ended c.id _ refl f

initiator_shows : (s : ScenarioValue) (k : RunState) (d : RowReading) (n : Connection) (x : Option Link)
    → is_some d.next ≡ true → ShowsIn s k d n (initiator_events k x d)
initiator_shows s k d n None f = nothing refl
initiator_shows s k d n (Some l) f = go (is_completion l d.change)
  where
    go : (y : Bool) → ShowsIn s k d n (if y then end_events (carried_if k.story l.item) else [])
    go true = completion_shows s k d n (carried_if k.story l.item) f
    go false = nothing refl

-- ---- a row

pub told_is : (s : ScenarioValue) (rows : List Row) (row : Row) → telling s (row ∷ rows) ≡ true
    → events_of_row s rows row
    ≡ events_of_ends s (run_state s rows) row (row_reading (run_state s rows).story.bus_state row)
told_is s rows row e =
    let k : RunState = run_state s rows in
    let d : RowReading = row_reading k.story.bus_state row in
    sym (events_are (events_of_ends s k row d) (events_of_row s rows row)
    (and_parts (telling s rows) (is_true_telling s k row d) e).1)

-- After it RST is true.
pub reset_is : (s : ScenarioValue) (rows : List Row) (row : Row)
    → (row_reading (run_state s rows).story.bus_state row).change.after.rst ≡ true
    → events_of_row s rows row ≡ (if rises (row_reading (run_state s rows).story.bus_state row).change.own.rst
    (row_reading (run_state s rows).story.bus_state row).change.next.rst then events.Reset row.dev ∷ [] else [])
reset_is s rows row r =
    let k : RunState = run_state s rows in
    let d : RowReading = row_reading k.story.bus_state row in
    λ i. if r i then (if rises d.change.own.rst d.change.next.rst then events.Reset row.dev ∷ [] else [])
    else link_events s k.story k.story.link d

calm_is : (s : ScenarioValue) (rows : List Row) (row : Row) → telling s (row ∷ rows) ≡ true
    → (row_reading (run_state s rows).story.bus_state row).change.after.rst ≡ false
    → events_of_row s rows row ≡ events_of_ends_in s (run_state s rows) (run_state s rows).story.bus_state.connection
    (row_reading (run_state s rows).story.bus_state row)
calm_is s rows row e r =
    let k : RunState = run_state s rows in
    let d : RowReading = row_reading k.story.bus_state row in
    told_is s rows row e
    ∙ (λ i. if r i then (if rises d.change.own.rst d.change.next.rst then events.Reset row.dev ∷ [] else [])
    else events_of_ends_in s k k.story.bus_state.connection d)

-- Before it no connection stands.
pub none_shown : (s : ScenarioValue) (rows : List Row) (row : Row) → telling s (row ∷ rows) ≡ true
    → (row_reading (run_state s rows).story.bus_state row).change.after.rst ≡ false
    → (run_state s rows).story.bus_state.connection ≡ None → events_of_row s rows row ≡ []
none_shown s rows row e r x = calm_is s rows row e r
    ∙ (λ i. events_of_ends_in s (run_state s rows) (x i) (row_reading (run_state s rows).story.bus_state row))

-- Before it this connection stands.
pub shown_in : (s : ScenarioValue) (rows : List Row) (row : Row) (n : Connection) → telling s (row ∷ rows) ≡ true
    → (row_reading (run_state s rows).story.bus_state row).change.after.rst ≡ false
    → (run_state s rows).story.bus_state.connection ≡ Some n → events_of_row s rows row
    ≡ events_of_ends_in s (run_state s rows) (Some n) (row_reading (run_state s rows).story.bus_state row)
shown_in s rows row n e r x = calm_is s rows row e r
    ∙ (λ i. events_of_ends_in s (run_state s rows) (x i) (row_reading (run_state s rows).story.bus_state row))

pub row_shows : (s : ScenarioValue) (rows : List Row) (row : Row) (n : Connection) → telling s (row ∷ rows) ≡ true
    → (row_reading (run_state s rows).story.bus_state row).change.after.rst ≡ false
    → (run_state s rows).story.bus_state.connection ≡ Some n
    → ShowsIn s (run_state s rows) (row_reading (run_state s rows).story.bus_state row) n (events_of_row s rows row)
row_shows s rows row n e r x = subst (λ (l : List Event). ShowsIn s k d n l) (sym (shown_in s rows row n e r x))
    (go (changes_phase d.change || not (is_some d.next)) refl)
  where
    k : RunState
    k = run_state s rows

    d : RowReading
    d = row_reading k.story.bus_state row

    stands : (y z : Bool) → (y || not z) ≡ false → z ≡ true
    stands true z f = cc
    stands false true f = refl
    stands false false f = cc

    go : (y : Bool) → (changes_phase d.change || not (is_some d.next)) ≡ y
        → ShowsIn s k d n (if y then target_events s k n (is_some d.next) else initiator_events k k.story.link d)
    go true f = leaving_shows s k d n k.exchange.begun refl (is_some d.next) refl f (id_of k.served) refl
    go false f = initiator_shows s k d n k.story.link (stands (changes_phase d.change) (is_some d.next) f)
