-- In a connection a row ends only items that were not over: COMMAND COMPLETE is taken of a process that is open. So
-- what is sent and over only lowers what is still to come.
use Rattle.measure_laws.proofs
use proofs.Names.{◌≡◌, ◌<◌, ◌∙◌, Bool, true, false, List, [], ◌∷◌, Option, Some, None, refl, sym, ap, subst}
use proofs.Names.{if◌then◌else◌, Event, LineSet, connection, bus, Row, Change, Connection, ScenarioValue, RowReading}
use proofs.Names.{row_reading, CarriedBytes, carried_if, is_completion, row_events_by, has_item, process, Link, Story}
use proofs.Names.{story_by_change, story_on_bus, RunState, bus_of, item_of, run_state, Knows, change_plain, NextStood}
use proofs.Names.{carried_of_item, Whole, ends_open, known_served, NoEnds, Shown, completes, no_ends, row_shown}
use proofs.Lines.{Lowers.{EndFirst, Lowers, events_lower, lowers_on, lowers_same}, Shifts.{inside}}

-- Each event of the row that ends a command is the first that does.
abbrev pub TellsFirst : ScenarioValue → List Row → Row → Type 0
TellsFirst s p row =
    EndFirst s (story_by_change s (run_state s p).story (row_reading (run_state s p).story.bus_state row) row)
    (row_events_by s (run_state s p).story (row_reading (run_state s p).story.bus_state row) row)

-- With the change of the bus nothing is sent or over.
pub changed_sent : (s : ScenarioValue) (k : RunState) (row : Row) (n : Connection)
    → k.story.bus_state.connection ≡ Some n → (row_reading k.story.bus_state row).change.after.rst ≡ false
    → (story_by_change s k.story (row_reading k.story.bus_state row) row).sent ≡ k.story.sent
changed_sent s k row n con calm =
    let d : RowReading = row_reading k.story.bus_state row in
    ap (λ (q : Bool). (if q then record k.story { link = None }
    else story_on_bus s k.story k.story.bus_state.connection d.next d row).sent) calm
    ∙ ap (λ (o : Option Connection). (story_on_bus s k.story o d.next d row).sent) con ∙ on d d.next
  where
    on : (d : RowReading) (o : Option Connection) → (story_on_bus s k.story (Some n) o d row).sent ≡ k.story.sent
    on d None = refl
    on d (Some m) = inside s k.story k.story.link d row

-- So what is sent and over only lowers what is to come.
pub row_lowers : (s : ScenarioValue) (p : List Row) (row : Row) (n : Connection)
    → (run_state s p).story.bus_state.connection ≡ Some n
    → (row_reading (run_state s p).story.bus_state row).change.after.rst ≡ false → TellsFirst s p row
    → Lowers (run_state s p).story.sent (run_state s (row ∷ p)).story.sent
row_lowers s p row n con calm first =
    let k = run_state s p in
    let d : RowReading = row_reading k.story.bus_state row in
    let b : Story = story_by_change s k.story d row in
    lowers_on k.story.sent b.sent (run_state s (row ∷ p)).story.sent (lowers_same k.story.sent b.sent
    (changed_sent s k row n con calm)) (events_lower s b (row_events_by s k.story d row) first)

-- Where none ends.
none_first : (s : ScenarioValue) (b : Story) (shown : List Event) → NoEnds shown → EndFirst s b shown
none_first s b [] h = tt
none_first s b (Event.Accept id ∷ shown) h = (tt, none_first s b shown h)
none_first s b (Event.Refuse id ∷ shown) h = (tt, none_first s b shown h)
none_first s b (Event.Run id ∷ shown) h = (tt, none_first s b shown h)
none_first s b (Event.Fail id code ∷ shown) h = (tt, none_first s b shown h)
none_first s b (Event.End id status ∷ shown) h = absurd h
none_first s b (Event.Lost id ∷ shown) h = (tt, none_first s b shown h)
none_first s b (Event.Aborted i t n what ∷ shown) h = (tt, none_first s b shown h)
none_first s b (Event.Reset dev ∷ shown) h = (tt, none_first s b shown h)

-- Any row before which a connection stands, RST being false before and after it.
pub row_first : (s : ScenarioValue) (p : List Row) (row : Row) (n : Connection) → row.dev < 8 → Whole s p
    → NextStood s p row → connection p ≡ Some n → (bus p).rst ≡ false → (bus (row ∷ p)).rst ≡ false → TellsFirst s p row
row_first s p row n lt was st con off calm = go (row_shown s k.story d row knows.link knows.link_is)
  where
    k : RunState
    k = run_state s p

    d : RowReading
    d = row_reading k.story.bus_state row

    b : Story
    b = story_by_change s k.story d row

    con_is : k.story.bus_state.connection ≡ Some n
    con_is = was.stood.plain.connection ∙ con

    off_is : (bus_of k).rst ≡ false
    off_is = ap (λ (l : LineSet). l.rst) was.stood.plain.bus ∙ off

    calm_is : d.change.after.rst ≡ false
    calm_is = ap (λ (x : Change). x.after.rst) (change_plain s row p was.stood.standing.devices lt) ∙ calm

    knows : Knows s k n
    knows = was.stood.books.knows n con_is off_is

    same : b.sent ≡ k.story.sent
    same = changed_sent s k row n con_is calm_is

    -- The process that COMMAND COMPLETE ends.
    opens : (c : CarriedBytes) → carried_if k.story knows.link.item ≡ Some c → is_completion knows.link d.change ≡ true
        → has_item b.sent.over (process c.id) ≡ false
    opens c carried done =
        let item = carried_of_item k.story knows.link.item c carried in
        let served = known_served s k n (process c.id) knows
        (ap (λ (o : Option Link). item_of o) knows.link_is ∙ item) in
        (λ i. has_item (same i).over (process c.id))
        ∙ ends_open s p row n c.id lt was st con_is off_is calm_is knows done served

    go : Shown k.story knows.link d (row_events_by s k.story d row) → EndFirst s b (row_events_by s k.story d row)
    go (no_ends none) = none_first s b (row_events_by s k.story d row) none
    go (completes c carried done is) = subst (EndFirst s b) (sym is) (λ e. opens c carried done, tt)
