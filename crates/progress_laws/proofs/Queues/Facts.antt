-- After any rows of a prompt trace each command that was sent, is not over and has no connection stands in a queue: as
-- its connection ended it was disconnected (6.6.6, 7.8).
use Rattle.progress_laws.proofs
use proofs.Names.{ℕ, ◌≡◌, ◌<◌, Bool, true, false, ◌∙◌, List, [], ◌∷◌, Some, refl, sym, ap, is_some, wrong, wrong'}
use proofs.Names.{Event, receiver_in, Row, Change, Connection, ScenarioValue, Obeys, Array, RowReading, row_reading}
use proofs.Names.{row_events_by, is_open, command_id, Story, story_after_events, story_by_change, IsPrompt, RunState}
use proofs.Names.{array_of, or_start, process_item, run_state, run_state_after, obeys_fits, seats_are, reading_is}
use proofs.Names.{Knows, Ends, RowOf, begins, ends, goes_on, under_reset, change_plain, least_is, some_none, PlaceFacts}
use proofs.Names.{is_queued, events_grow, end_begun, end_asked, RowSteps, Whole, steps, whole, AreQueued}
use proofs.{Outcomes.Facts.{place_array}, Queues.{Ends.{left_calm}, Over.{all_over}, Resets.{none_under_rst}}}
use proofs.Queues.Rows.{IsLeftQueued, queued_next, WasOpen, before, begins as begins_new, fewer_open, open_before}
use Rattle.due_model.specs.array_model.proofs.SoundArrays.{id_is}
use Rattle.trace_laws.specs.book_laws.specs.Traces.{apart}

-- ---- as a connection ends

-- A command that is open after a row of a connection was open before it.
was_open : (s : ScenarioValue) (k : RunState) (row : Row) (m : Connection) (i : ℕ)
    → k.story.bus_state.connection ≡ Some m → is_open (run_state_after s k row).story.sent i ≡ true
    → is_open k.story.sent i ≡ true
was_open s k row m i con e = by (open_before s k d row i
    (let g = events_grow s b shown in fewer_open b.sent (story_after_events s b shown).sent i g.sent g.over e))
  where
    d : RowReading
    d = row_reading k.story.bus_state row

    b : Story
    b = story_by_change s k.story d row

    shown : List Event
    shown = row_events_by s k.story d row

    by : WasOpen k d i → is_open k.story.sent i ≡ true
    by (before z) = z
    by (begins_new x none next new aim) = some_none m (sym con ∙ none)

left_queued : (s : ScenarioValue) (p : List Row) (row : Row) → Obeys s → IsPrompt s (row ∷ p) → Whole s p
    → IsLeftQueued s p row
left_queued s p row o prompt was m n c at con none served opens = go g.stood.row_is
  where
    k : RunState
    k = run_state s p

    d : RowReading
    d = row_reading k.story.bus_state row

    g : RowSteps s p row
    g = steps s p row o prompt was

    lt : row.dev < 8
    lt = (least_is s p row prompt.1).inside

    Left : Type 0
    Left = is_queued (array_of s k).units (command_id n) ≡ true

    under_rst : d.change.after.rst ≡ true → Left
    under_rst on =
        let change = change_plain s row p was.stood.standing.devices lt in
        wrong (sym opens ∙ none_under_rst s (row ∷ p) (
          lt,
          was.stood.standing.devices,
        ) (ap (λ (x : Change). x.after.rst) (sym change) ∙ on) n c at)

    calm : (x : Connection) → Ends s k row x → d.change.after.rst ≡ false → Left
    calm x e off =
        let w : Knows s k x = was.stood.books.knows x e.connection_is e.calm in
        let own = was.places.of_scenario (command_id n) served in
        let begun = end_begun s p row x o prompt was.stood e off in
        let asked = end_asked s p row x w.link o prompt was.stood
        was.facts was.places was.closes g.tells e off w.link_is in
        ap (λ (a : Array). is_queued a.units (command_id n)) (ap (or_start s) was.places.array_is)
        ∙ left_calm s k row x w.link n own.0 was.places e.connection_is e.calm begun served
        (ap (process_item s) served ∙ own.1) (id_is s (command_id n) own.0 own.1) w.link_is off e.next_is asked
        (all_over s p was.places.array was.places.array_is) (was_open s k row m n con opens) opens

    by_rst : (x : Connection) → Ends s k row x → (q : Bool) → d.change.after.rst ≡ q → Left
    by_rst x e true z = under_rst z
    by_rst x e false z = calm x e z

    go : RowOf s k row → Left
    go (apart e f) = some_none m (sym con ∙ e)
    go (begins x b) = some_none m (sym con ∙ b.first.connection_is)
    go (goes_on x y b) = some_none x
        (sym (ap (λ (z : RowReading). z.next) (reading_is k row x y (is_some (receiver_in x y)) b.row_is refl)) ∙ none)
    go (ends x e) = by_rst x e d.change.after.rst refl
    go (under_reset e f) = under_rst e

-- ---- after any rows

queued_start : (s : ScenarioValue) → AreQueued s (run_state s [])
queued_start s n c at e away = wrong' e

pub all_queued : (s : ScenarioValue) (p : List Row) → Obeys s → IsPrompt s p → AreQueued s (run_state s p)
all_queued s [] o prompt = queued_start s
all_queued s (row ∷ p) o prompt =
    let was : Whole s p = whole s p o prompt.0 in
    let places : PlaceFacts s (row ∷ p) = (steps s p row o prompt was).places in
    queued_next s p row (seats_are s (obeys_fits s o)) was.facts.items.items (place_array s p was.places)
    (place_array s (row ∷ p) places) (left_queued s p row o prompt was) (all_queued s p o prompt.0)
