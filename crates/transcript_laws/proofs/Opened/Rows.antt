-- What holds of the connection of a transcript, row by row of a prompt trace, while RST is false.
use Rattle.transcript_laws.proofs
use proofs.Names.{ℕ, ◌≡◌, ◌∙◌, ◌<◌, Bool, true, false, List, [], ◌∷◌, Option, Some, None, sym, ap, subst, same_Some}
use proofs.Names.{is_some, if◌then◌else◌, change_of, changes_phase, is_message_in, is_message_out, is_fault, connection}
use proofs.Names.{connection_after, receiver_in, bus, Change, Connection, Row, no_handshakes, ScenarioValue, Obeys}
use proofs.Names.{BusState, RowReading, row_reading, run_state_plain, IsPrompt, IsPlain, RunState, bus_of, run_state}
use proofs.Names.{reading_is, Knows, RowKind, still, strikes, crosses, turns, reading_in, change_plain, least_is}
use proofs.Names.{BeginsConnection, by_selection, by_reselection, none_some, ConnectionRow, connection_row, GoingRow}
use proofs.Names.{going_row, RowKindOf, begins_now, goes_now, row_kind, first_handshakes, Whole, whole, standing_next}
use proofs.Names.{OpenedValue, opened_connection, with_crossing, phase_entered, phase_over, with_still_row, with_row}
use proofs.{Names.{transcribed}, Standing.Opened.{opened_first, was_opened}}

-- ---- a row with which a connection goes on

pub record Going (s : ScenarioValue) (p : List Row) (row : Row) (n : Connection) : Type 0 where
  pub obeys : Obeys s
  pub prompt : IsPrompt s (row ∷ p)
  pub was : Whole s p
  pub now : Whole s (row ∷ p)
  pub stands : connection p ≡ Some n
  pub calm : (bus p).rst ≡ false
  pub after : connection (row ∷ p) ≡ Some n
  pub calm_after : (bus (row ∷ p)).rst ≡ false
  pub inside : row.dev < 8
  pub link : ConnectionRow s p row n
  pub going : GoingRow s p row n

pub going_at : (s : ScenarioValue) (p : List Row) (row : Row) (n : Connection) → Obeys s → IsPrompt s (row ∷ p)
    → connection p ≡ Some n → (bus p).rst ≡ false → connection (row ∷ p) ≡ Some n → (bus (row ∷ p)).rst ≡ false
    → Going s p row n
going_at s p row n o prompt con off after calm =
    let was = whole s p o prompt.0 in
    let next = standing_next s p row o prompt was in
    let lt = (least_is s p row prompt.1).inside in
    let link = connection_row s p row n o prompt was.stood con off calm in
    record {
      obeys = o;
      prompt = prompt;
      was = was;
      now = whole s (row ∷ p) o prompt;
      stands = con;
      calm = off;
      after = after;
      calm_after = calm;
      inside = lt;
      link = link;
      going = going_row s p row n was.stood.standing.devices lt con after calm next.row_is link.facts;
    }

-- What is known of the states before it and after it.
pub plain_before : (s : ScenarioValue) (p : List Row) (row : Row) (n : Connection) → Going s p row n
    → IsPlain s p (run_state s p)
plain_before s p row n g = g.was.stood.plain

pub knows_before : (s : ScenarioValue) (p : List Row) (row : Row) (n : Connection) → Going s p row n
    → Knows s (run_state s p) n
knows_before s p row n g = g.was.stood.books.knows n g.going.goes.row_is.connection_is g.going.goes.calm

-- ---- what it makes of what was there

pub data RowMade (k : RunState) (row : Row) (n : Connection) (c : Change) (o after : OpenedValue) : Type 0 where
  made_still : changes_phase c ≡ false → is_some (receiver_in n c) ≡ false
      → after ≡ with_still_row o k.story.bus_state c row.kind → RowMade k row n c o after
  made_crossing : (dev : ℕ) → changes_phase c ≡ false → receiver_in n c ≡ Some dev
      → after ≡ with_crossing o k.story.bus_state.dialogue.is_last (reading_in k.story.bus_state n c true)
      → RowMade k row n c o after
  made_turn : changes_phase c ≡ true → is_some (receiver_in n c) ≡ false → is_fault row.kind ≡ false
      → after ≡ phase_entered (phase_over o c.before k.story.bus_state.dialogue.half true) c.after
      → RowMade k row n c o after

pub row_made : (s : ScenarioValue) (p : List Row) (row : Row) (n : Connection) (g : Going s p row n) (o : OpenedValue)
    → RowMade (run_state s p) row n g.going.change o
    (with_row o (run_state s p).story.bus_state (row_reading (run_state s p).story.bus_state row) row.kind)
row_made s p row n g o = go g.going.goes.row_is.kind
  where
    k : RunState
    k = run_state s p

    w : BusState
    w = k.story.bus_state

    c : Change
    c = g.going.change

    silent : changes_phase c ≡ false → receiver_in n c ≡ None
        → RowMade k row n c o (with_row o w (row_reading w row) row.kind)
    silent ep er =
        let none : is_some (receiver_in n c) ≡ false = ap (λ (x : Option ℕ). is_some x) er in
        made_still ep none
        (ap (λ (d : RowReading). with_row o w d row.kind) (reading_is k row n c false g.going.goes.row_is none)
        ∙ ap (λ (q : Bool). if q then phase_entered (phase_over o c.before w.dialogue.half true) c.after
        else with_still_row o w c row.kind) ep)

    go : RowKind row n c → RowMade k row n c o (with_row o w (row_reading w row) row.kind)
    go (still ef ep er) = silent ep er
    go (strikes ef ep er) = silent ep er
    go (crosses dev ef ep er) = made_crossing dev ep er (ap (λ (d : RowReading). with_row o w d row.kind)
        (reading_is k row n c true g.going.goes.row_is (ap (λ (x : Option ℕ). is_some x) er)))
    go (turns ef ep er) =
        let none : is_some (receiver_in n c) ≡ false = ap (λ (x : Option ℕ). is_some x) er in
        made_turn ep none ef
        (ap (λ (d : RowReading). with_row o w d row.kind) (reading_is k row n c false g.going.goes.row_is none)
        ∙ ap (λ (q : Bool). if q then phase_entered (phase_over o c.before w.dialogue.half true) c.after
        else with_still_row o w c row.kind) ep)

-- ---- row by row

-- As a connection begins.
pub record Starts (s : ScenarioValue) (p : List Row) (row : Row) (n : Connection) : Type 0 where
  pub obeys : Obeys s
  pub prompt : IsPrompt s (row ∷ p)
  pub free : connection p ≡ None
  pub was : Whole s p
  pub off : (row_reading (run_state s p).story.bus_state row).change.after.rst ≡ false
  pub alone : (run_state s p).story.bus_state.connection ≡ None
  pub next : (row_reading (run_state s p).story.bus_state row).next ≡ Some n

-- It holds as a connection begins, and with each row that it goes on with.
pub record Holds (s : ScenarioValue) (q : RunState → Connection → OpenedValue → Type 0) : Type 0 where
  pub begins : (p : List Row) (row : Row) (n : Connection) → Starts s p row n
      → Whole s (row ∷ p) → connection (row ∷ p) ≡ Some n → (bus (row ∷ p)).rst ≡ false
      → (run_state s (row ∷ p)).exchange.begun ≡ n.reselected → is_message_out (bus_of (run_state s (row ∷ p))) ≡ false
      → (is_message_in (bus_of (run_state s (row ∷ p))) ≡ true → (run_state s (row ∷ p)).handshakes ≡ no_handshakes)
      → q (run_state s (row ∷ p)) n (opened_connection n)
  pub goes_on : (p : List Row) (row : Row) (n : Connection) (g : Going s p row n) (o after : OpenedValue)
      → RowMade (run_state s p) row n g.going.change o after → q (run_state s p) n o → q (run_state s (row ∷ p)) n after

pub always : (s : ScenarioValue) (q : RunState → Connection → OpenedValue → Type 0) → Obeys s → Holds s q
    → (p : List Row) → IsPrompt s p → (n : Connection) → connection p ≡ Some n → (bus p).rst ≡ false
    → (o : OpenedValue) → (transcribed p).opened ≡ Some o → q (run_state s p) n o
always s q o h [] prompt n con calm k there = none_some n con
always s q o h (row ∷ p) prompt n con calm k there = go (row_kind s p row n o prompt was.stood con calm)
    (λ stands quiet x there'. always s q o h p prompt.0 n stands quiet x there')
  where
    was : Whole s p
    was = whole s p o prompt.0

    now : Whole s (row ∷ p)
    now = whole s (row ∷ p) o prompt

    pl : IsPlain s p (run_state s p)
    pl = was.stood.plain

    d : RowReading
    d = row_reading (run_state s p).story.bus_state row

    c : d.change ≡ change_of p row
    c = change_plain s row p was.stood.standing.devices (least_is s p row prompt.1).inside

    off : d.change.after.rst ≡ false
    off = ap (λ (x : Change). x.after.rst) c ∙ calm

    next : d.next ≡ Some n
    next = (λ i. connection_after (pl.connection i) (pl.call i) (c i) row) ∙ con

    no_out : BeginsConnection (row ∷ p) n → is_message_out (bus (row ∷ p)) ≡ false
    no_out (by_selection x) = ap is_message_out x.linked.stands.bus_is
    no_out (by_reselection y x) = ap is_message_out x.linked.stands.bus_is

    go : RowKindOf s p row n → (connection p ≡ Some n → (bus p).rst ≡ false → (x : OpenedValue)
        → (transcribed p).opened ≡ Some x → q (run_state s p) n x) → q (run_state s (row ∷ p)) n k
    go (begins_now alone f) before = subst
        (λ (x : OpenedValue). q (run_state s (row ∷ p)) n x) (same_Some (opened_connection n) k
        (sym (opened_first s p row (run_state s p).story n pl.story off (pl.connection ∙ alone) next) ∙ there))
        (h.begins p row n (record {
          obeys = o;
          prompt = prompt;
          free = alone;
          was = was;
          off = off;
          alone = pl.connection ∙ alone;
          next = next;
        }) now con calm ((run_state_plain s (row ∷ p) now.stood.standing.devices).begun ∙ f.begun_is)
        (ap is_message_out (run_state_plain s (row ∷ p) now.stood.standing.devices).bus ∙ no_out f.begins)
        (λ here. first_handshakes s p row n was.stood.standing.devices (least_is s p row prompt.1).inside f here))
    go (goes_now stands quiet) before =
        let w = was_opened s p row (run_state s p).story n n k pl.story off (pl.connection ∙ stands) next there in
        let g = going_at s p row n o prompt stands quiet con calm in
        subst (λ (x : OpenedValue). q (run_state s (row ∷ p)) n x) (sym w.after_is)
        (h.goes_on p row n g w.before (with_row w.before (run_state s p).story.bus_state d row.kind)
        (row_made s p row n g w.before) (before stands quiet w.before w.before_is))
