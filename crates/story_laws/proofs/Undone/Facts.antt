-- What MESSAGE PARITY ERROR brings back agrees with what the process has, after any rows of a prompt trace (6.6.13).
use Rattle.story_laws.proofs
use proofs.Names.{inl, inr, ℕ, ◌≡◌, ◌<◌, Bool, true, false, ◌&&◌, ◌%◌, ◌∙◌, List, [], ◌∷◌, ◌++◌, Option, Some, None}
use proofs.Names.{refl, sym, ap, if◌then◌else◌, is_some, wrong', change_of, LineSet, changes_phase, is_command}
use proofs.Names.{is_message_in, is_fault, connection, connection_after, receiver_in, bus, Row, Change, Connection}
use proofs.Names.{struck_same, Handshakes, handshakes_after, got_out, fresh_bytes, ScenarioValue, Obeys, events_link}
use proofs.Names.{RowReading, row_reading, whole_out, CarriedBytes, row_events_by, story_on_bus, story_by_change}
use proofs.Names.{phase_of, Cause, Phase, Plan, run_state_plain, IsPrompt, IsPlain, AreOfDevices, RunState, bus_of}
use proofs.Names.{run_state, run_state_after, in_connection, reading_is, requests_stay, in_io, Knows, RowKind, still}
use proofs.Names.{strikes, crosses, turns, GoesOn, change_plain, least_is, none_some, message_line, out_in}
use proofs.Names.{ConnectionRow, GoingRow, connection_row, going_row, stage_of_connection, RowKindOf, begins_now}
use proofs.Names.{goes_now, row_kind, Stood, NextStood, link_phase, UndoesSame, UndoFits, UndoAsked, UndoBy, UndoBooks}
use proofs.{Names.{UndoFacts}, Commands.{Blocks.{undo_of}, First.{undo_first}}, Tells.Rows.{unbegun_lines}}
use proofs.Undone.{Answers.{row_undoes, stays_by}, Rows.{IsKeptInside, fits_heard, first_whole}, Turns.{turn_keeps}}

-- ---- before any row, and the first row of a connection

pub undo_start : {A : Type 0} (what : CarriedBytes → A) (s : ScenarioValue) → UndoFacts what s []
undo_start what s n e calm = none_some n e

pub all_by : (fits : Type 0) (l : Plan) (x : ℕ) (phase : Phase) → fits → UndoBy fits l x phase
all_by fits l x Phase.MessageOut h = asked l.cause
  where
    asked : (cause : Cause) → UndoAsked fits cause
    asked Cause.Selected = h
    asked Cause.InMessage = h
    asked Cause.InData = tt
    asked Cause.InStatus = tt
all_by fits l x Phase.MessageIn h = inl h
all_by fits l x _ h = tt

undo_begins : {A : Type 0} (what : CarriedBytes → A) (s : ScenarioValue) (p : List Row) (row : Row) (n : Connection)
    → AreOfDevices p → row.dev < 8 → connection p ≡ None → connection (row ∷ p) ≡ Some n → (bus (row ∷ p)).rst ≡ false
    → UndoBooks what (run_state s (row ∷ p))
undo_begins what s p row n dv lt alone after calm = record {
  unbegun = λ b. fits;
  begun = λ b. all_by (UndoFits what j) j.exchange.plan j.handshakes.requests (phase_of (bus_of j)) fits;
}
  where
    k : RunState
    k = run_state s p

    j : RunState
    j = run_state s (row ∷ p)

    pl : IsPlain s p k
    pl = run_state_plain s p dv

    change : (row_reading k.story.bus_state row).change ≡ change_of p row
    change = change_plain s row p dv lt

    con : k.story.bus_state.connection ≡ None
    con = pl.connection ∙ alone

    next : (row_reading k.story.bus_state row).next ≡ Some n
    next = (λ i. connection_after (pl.connection i) (pl.call i) (change i) row) ∙ after

    off : (row_reading k.story.bus_state row).change.after.rst ≡ false
    off = ap (λ (x : Change). x.after.rst) change ∙ calm

    none : undo_of j.story.link ≡ None
    none = ap undo_of (events_link s (story_by_change s k.story (row_reading k.story.bus_state row) row)
        (row_events_by s k.story (row_reading k.story.bus_state row) row))
        ∙ ap (λ (q : Bool). undo_of
        (if q then record k.story { link = None } else story_on_bus s k.story k.story.bus_state.connection
        (row_reading k.story.bus_state row).next (row_reading k.story.bus_state row) row).link) off
        ∙ (λ i. undo_of (story_on_bus s k.story (con i) (next i) (row_reading k.story.bus_state row) row).link)
        ∙ undo_first k.story n

    fits : UndoFits what j
    fits l u el eu = none_some u (sym (sym (ap undo_of el) ∙ none) ∙ eu)

-- ---- a row of a connection

pub in_of : (b : LineSet) → phase_of b ≡ Phase.MessageIn → (b.msg ≡ true → b.cd ≡ true) → is_message_in b ≡ true
in_of b e known = go b.msg b.cd b.io e known
  where
    is_in : Phase → Bool
    is_in Phase.MessageIn = true
    is_in _ = false

    go : (m d i : Bool) → (if m then (if i then Phase.MessageIn else Phase.MessageOut)
        else if d then (if i then Phase.Status else Phase.Command) else if i then Phase.DataIn else Phase.DataOut)
        ≡ Phase.MessageIn → (m ≡ true → d ≡ true) → (m && d && i) ≡ true
    go true true true z f = refl
    go true true false z f = wrong' (ap is_in z)
    go true false i z f = wrong' (f refl)
    go false true true z f = wrong' (ap is_in z)
    go false true false z f = wrong' (ap is_in z)
    go false false true z f = wrong' (ap is_in z)
    go false false false z f = wrong' (ap is_in z)

goes_keeps : {A : Type 0} (what : CarriedBytes → A) → IsKeptInside what
    → (s : ScenarioValue) (p : List Row) (row : Row) (n : Connection) → AreOfDevices p → row.dev < 8 → Stood s p
    → NextStood s p row → ConnectionRow s p row n → GoingRow s p row n → UndoesSame what (run_state s p) row
    → connection (row ∷ p) ≡ Some n → (bus (row ∷ p)).rst ≡ false → UndoBooks what (run_state s p)
    → UndoBooks what (run_state s (row ∷ p))
goes_keeps what kept s p row n dv lt was next r g undoes after calm h = go g.goes.row_is.kind
  where
    k : RunState
    k = run_state s p

    j : RunState
    j = run_state_after s k row

    c : Change
    c = g.change

    pl : IsPlain s p k
    pl = run_state_plain s p dv

    of : GoesOn s k row n c
    of = g.goes

    knows : Knows s k n
    knows = was.books.knows n of.row_is.connection_is of.calm

    here : phase_of (bus_of k) ≡ Phase.MessageIn → is_message_in c.before ≡ true
    here e = ap is_message_in (sym of.row_is.bus_is) ∙ in_of (bus_of k) e (λ m. (of.phase m).0)

    go : RowKind row n c → UndoBooks what j
    go (still ef ep er) =
        let none : is_some (receiver_in n c) ≡ false = ap (λ (z : Option ℕ). is_some z) er in
        let i = in_connection s k row n c false false (is_fault row.kind) of.row_is ep none refl in
        stays_by what kept s k row n c false knows.link of.row_is ep none knows.link_is undoes
        (λ z. wrong' z) (λ b e zero short. inr (ap (λ (x : Handshakes). x.requests) i.handshakes_is
        ∙ ap (λ (q : Bool). (handshakes_after q (Some n) c row.time k.handshakes).requests) ef
        ∙ requests_stay n c row.time k.handshakes ep (in_io c.before (here e)) er ∙ zero)) h
    go (strikes ef ep er) =
        let none : is_some (receiver_in n c) ≡ false = ap (λ (z : Option ℕ). is_some z) er in
        let i = in_connection s k row n c false false (is_fault row.kind) of.row_is ep none refl in
        stays_by what kept s k row n c false knows.link of.row_is ep none knows.link_is undoes
        (λ z. wrong' z) (λ b e zero short. inr (ap (λ (x : Handshakes). x.requests) i.handshakes_is
        ∙ ap (λ (q : Bool). (handshakes_after q (Some n) c row.time k.handshakes).requests) ef
        ∙ struck_same c.before.io k.handshakes ∙ zero)) h
    go (crosses dev ef ep er) =
        let there : is_some (receiver_in n c) ≡ true = ap (λ (z : Option ℕ). is_some z) er in
        stays_by what kept s k row n c true knows.link of.row_is ep there knows.link_is undoes
        (λ z. of.begun (ap (λ (d : RowReading). d.crosses) (reading_is k row n c true of.row_is there)))
        (λ b e zero short. let given = (was.books.gives n of.row_is.connection_is of.calm).in_message_in b
        (ap is_message_in of.row_is.bus_is ∙ here e) in
        let m = first_whole k c given zero short (of.gives (here e) there).0 (here e) in
        let same = kept.stays s k row n c true knows.link of.row_is there knows.link_is undoes
        (λ z. wrong' (sym ep ∙ z)) (λ z. message_line c.before (here e)) in
        inl (fits_heard what s k row n c knows.link m.message of.row_is there knows.link_is same (ap (λ (q : Bool).
        if q then whole_out (got_out (fresh_bytes k.story.bus_state.dialogue ++ c.after.data_bits % 256 ∷ []))
        else None) (out_in c.before (here e))) m.is)) h
    go (turns ef ep er) =
        let stage = stage_of_connection s (row ∷ p) n next.stood after calm in
        let is = g.lines_are in
        turn_keeps what kept s k row n c knows.link
        (record {
          goes = of;
          lines = ef;
          turns = ep;
          silent = er;
          link_is = knows.link_is;
          known = λ z. ap (λ (x : Change). x.after.cd) g.change_is
              ∙ (link_phase s (row ∷ p) n stage (ap (λ (x : Change). x.after.msg) (sym g.change_is) ∙ z)).0;
          idle = λ b. ap is_command pl.bus ∙ unbegun_lines s p n r.stage (sym pl.begun ∙ b);
          whereto = λ b. g.lines.whereto (ap changes_phase is ∙ ep) (sym pl.begun ∙ b)
              ∙ ap (λ (x : Change). Some (phase_of x.after)) is;
          speaks = was.books.speaks n of.row_is.connection_is of.calm;
        }) undoes h

-- ---- any row

books_of : {A : Type 0} (what : CarriedBytes → A) (s : ScenarioValue) (p : List Row) → AreOfDevices p
    → UndoFacts what s p → (n : Connection) → (run_state s p).story.bus_state.connection ≡ Some n
    → (bus_of (run_state s p)).rst ≡ false → UndoBooks what (run_state s p)
books_of what s p dv h n con calm =
    let pl = run_state_plain s p dv in
    h n (sym pl.connection ∙ con) (ap (λ (l : LineSet). l.rst) (sym pl.bus) ∙ calm)

pub undo_asks : {A : Type 0} (what : CarriedBytes → A) (s : ScenarioValue) (p : List Row) (row : Row) → Stood s p
    → NextStood s p row → UndoFacts what s p → UndoesSame what (run_state s p) row
undo_asks what s p row was next h =
    row_undoes what s (run_state s p) row was.books (books_of what s p was.standing.devices h) next.row_is

pub undo_next : {A : Type 0} (what : CarriedBytes → A) → IsKeptInside what
    → (s : ScenarioValue) (p : List Row) (row : Row) → Obeys s → IsPrompt s (row ∷ p) → Stood s p → NextStood s p row
    → UndoFacts what s p → UndoFacts what s (row ∷ p)
undo_next what kept s p row o prompt was next h n after calm = go (row_kind s p row n o prompt was after calm)
  where
    dv : AreOfDevices p
    dv = was.standing.devices

    lt : row.dev < 8
    lt = (least_is s p row prompt.1).inside

    go : RowKindOf s p row n → UndoBooks what (run_state s (row ∷ p))
    go (begins_now alone f) = undo_begins what s p row n dv lt alone after calm
    go (goes_now con off) =
        let r = connection_row s p row n o prompt was con off calm in
        let g = going_row s p row n dv lt con after calm next.row_is r.facts in
        goes_keeps what kept s p row n dv lt was next r g (undo_asks what s p row was next h) after calm (h n con off)
