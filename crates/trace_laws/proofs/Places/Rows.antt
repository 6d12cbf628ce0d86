-- After each row of a prompt trace the processes stand where they should in the plain disk array; so it permits every
-- event that the rows show.
use Rattle.trace_laws.proofs
use proofs.Names.{inl, inr, ℕ, ◌≡◌, ◌⊎◌, ◌<◌, Bool, true, false, ◌∙◌, List, [], ◌∷◌, Option, Some, None, refl, sym, ap}
use proofs.Names.{is_some, ProcId, LineSet, changes_phase, connection, receiver_in, is_fault, bus, Row, Change}
use proofs.Names.{Connection, ScenarioValue, Obeys, start_sound, HasSeats, Array, settled_array, starting_array}
use proofs.Names.{RowReading, row_reading, is_completion, process, Link, phase_of, run_state_plain, is_allowed}
use proofs.Names.{IsPrompt, IsPlain, RunState, bus_of, run_state, leaving, obeys_fits, seats_are, in_connection}
use proofs.Names.{reading_is, Knows, IsRowIn, RowKind, still, strikes, crosses, turns, GoesOn, Begins, Ends, RowOf}
use proofs.Names.{apart as row_apart, begins, goes_on, ends, under_reset, change_plain, least_is, AnyStage, linked}
use proofs.Names.{some_none, none_some, within_at_start, untouched_at_start, untouched_rests, link_none, ConnectionRow}
use proofs.Names.{connection_row, stage_of_connection, RowFacts, stays, ends_here, Stood, NextStood, link_connection}
use proofs.{Names.{link_phase, IsAtRest, PlaceFacts}, Places.{Ends.{IsEndAsked, end_row}, First.{IsSelectedFor}}}
use proofs.Places.{First.{selected_on, reselected_on}, Next.{SendsNone, placed_on, freed_on, apart_on, IsResetAsked}}
use proofs.Places.{Next.{reset_on}, Stays.{IsStayAsked, stay_row}, TurnRows.{IsTurnAsked}, Turned.{turn_row}}
use Rattle.story_laws.specs.link_laws.specs.LinkStages.{apart}

-- ---- what is asked of a row

-- Of the items, of what the rows tell of the process that is served, and of messages and lines.
pub record PlaceAsked (s : ScenarioValue) (k : RunState) (row : Row) (a : Array) : Type 0 where
  -- a selection is for an item of the scenario that was not sent; nothing else is sent
  pub selects : (n : Connection) → Begins s k row n → n.reselected ≡ false → IsSelectedFor s k n
  pub sends : (k.story.bus_state.connection ≡ None → (row_reading k.story.bus_state row).next ≡ None)
      ⊎ ((row_reading k.story.bus_state row).change.after.rst ≡ true)
      → SendsNone s k row
  pub turns : (n : Connection) (c : Change) (l : Link) → GoesOn s k row n c → changes_phase c ≡ true
      → k.story.link ≡ Some l → IsTurnAsked s k n c l
  pub stays : (n : Connection) (c : Change) (l : Link) → GoesOn s k row n c → changes_phase c ≡ false
      → k.story.link ≡ Some l → IsStayAsked s k c l
  pub drives : (n : Connection) (c : Change) (l : Link) → GoesOn s k row n c → is_completion l c ≡ true
      → is_fault row.kind ≡ false
  pub ends : (n : Connection) (l : Link) → Ends s k row n → (row_reading k.story.bus_state row).change.after.rst ≡ false
      → k.story.link ≡ Some l → IsEndAsked k l a
  pub reset : (row_reading k.story.bus_state row).change.after.rst ≡ true → IsResetAsked k row

-- ---- before any row

pub places_start : (s : ScenarioValue) → HasSeats s → PlaceFacts s []
places_start s seats =
    let rests : (id : ProcId) → IsAtRest (settled_array (starting_array s)) id = λ id. untouched_rests
    (settled_array (starting_array s)) id (untouched_at_start s id) in
    record {
      array = settled_array (starting_array s);
      array_is = refl;
      sound = start_sound s seats;
      within = within_at_start s;
      unsent = λ id e. untouched_at_start s id;
      rests = λ id e. rests id;
      reset = λ e id. rests id;
      unserved = λ e. refl;
      sent = λ id e. none_some (process id) e;
      of_scenario = λ id e. none_some (process id) e;
      placed = λ n e f p z. some_none n (sym e);
    }

-- ---- a row

pub places_next : (s : ScenarioValue) (p : List Row) (row : Row) → Obeys s → IsPrompt s (row ∷ p) → Stood s p
    → NextStood s p row → (h : PlaceFacts s p) → PlaceAsked s (run_state s p) row h.array → PlaceFacts s (row ∷ p)
places_next s p row o prompt was next h asked = go next.row_is
  where
    k : RunState
    k = run_state s p

    d : RowReading
    d = row_reading k.story.bus_state row

    q : List Row
    q = row ∷ p

    seats : HasSeats s
    seats = seats_are s (obeys_fits s o)

    lt : row.dev < 8
    lt = (least_is s p row prompt.1).inside

    pl2 : IsPlain s q (run_state s q)
    pl2 = run_state_plain s q (lt, was.standing.devices)

    after_rst : d.change.after.rst ≡ (bus q).rst
    after_rst = ap (λ (x : Change). x.after.rst) (change_plain s row p was.standing.devices lt)

    under : d.change.after.rst ≡ true → PlaceFacts s q
    under e = reset_on s k row h seats e (asked.reset e) (asked.sends (inr e))

    no_link : connection p ≡ None → k.story.link ≡ None
    no_link e = by was.here
      where
        by : AnyStage s p → k.story.link ≡ None
        by (linked m x) = some_none m (sym (link_connection s p m x) ∙ e)
        by (apart x z) = link_none s p x e

    alone : k.story.bus_state.connection ≡ None → d.next ≡ None → (r : Bool) → d.change.after.rst ≡ r → PlaceFacts s q
    alone con none true e = under e
    alone con none false e =
        apart_on s k row h con none (no_link (sym was.plain.connection ∙ con)) e (asked.sends (inl (λ z. none)))

    first : (n : Connection) → Begins s k row n → (r : Bool) → n.reselected ≡ r → PlaceFacts s q
    first n b true e = reselected_on s k row n h b (no_link (sym was.plain.connection ∙ b.first.connection_is)) e
    first n b false e =
        selected_on s k row n h b (no_link (sym was.plain.connection ∙ b.first.connection_is)) e (asked.selects n b e)

    item_of : (n : Connection) (w : Knows s k n) → (w.link.item ≡ k.served) ⊎ (w.link.item ≡ None)
    item_of n w = elim w.item_is [ inl z ↦ inl z | inr z ↦ inr z.1 ]

    facts : (n : Connection) → k.story.bus_state.connection ≡ Some n → (bus_of k).rst ≡ false
        → d.change.after.rst ≡ false → ConnectionRow s p row n
    facts n con off calm = connection_row s p row n o prompt was (sym was.plain.connection ∙ con)
        (sym (ap (λ (l : LineSet). l.rst) was.plain.bus) ∙ off) (sym after_rst ∙ calm)

    on : (n : Connection) (c : Change) → GoesOn s k row n c → PlaceFacts s q
    on n c g = by_kind r.kind
      where
        r : IsRowIn k row n c
        r = g.row_is

        calm : d.change.after.rst ≡ false
        calm = ap (λ (x : Change). x.after.rst) r.change_is ∙ r.calm

        w : Knows s k n
        w = was.books.knows n r.connection_is g.calm

        sends : SendsNone s k row
        sends = asked.sends (inl (λ z. some_none n (sym r.connection_is ∙ z)))

        none_crosses : receiver_in n c ≡ None → is_some (receiver_in n c) ≡ false
        none_crosses e = ap (λ (x : Option ℕ). is_some x) e

        whereto : changes_phase c ≡ true → k.exchange.begun ≡ true → (run_state s q).story.bus_state.connection ≡ Some n
            → RowFacts s p row n → (leaving s k n.target).to ≡ Some (phase_of c.after)
        whereto ep b con (stays f) =
            let is : f.change ≡ c = sym f.row_is.change_is ∙ r.change_is in
            f.whereto (ap changes_phase is ∙ ep) (sym was.plain.begun ∙ b)
            ∙ ap (λ (x : Change). Some (phase_of x.after)) is
        whereto ep b con (ends_here f) = some_none n (sym con ∙ pl2.connection ∙ f.stopped)

        there : (run_state s q).story.bus_state.connection ≡ Some n → (run_state s q).story.bus_state.bus ≡ c.after
            → c.after.msg ≡ true → c.after.cd ≡ true
        there con b z =
            let lines : bus q ≡ c.after = sym pl2.bus ∙ b in
            let stage = stage_of_connection s q n next.stood (sym pl2.connection ∙ con) (sym after_rst ∙ calm) in
            ap (λ (x : LineSet). x.cd) (sym lines) ∙ (link_phase s q n stage (ap (λ (x : LineSet). x.msg) lines ∙ z)).0

        stayed : (now fault : Bool) → changes_phase c ≡ false → is_some (receiver_in n c) ≡ now
            → is_fault row.kind ≡ fault → PlaceFacts s q
        stayed now fault ep en ef =
            let i = in_connection s k row n c false now fault r ep en ef in
            placed_on s k row n c false now fault h i r.calm sends
            (stay_row s k row n c w.link now fault h seats g ep en ef
            (λ z. sym ef ∙ asked.drives n c w.link g z) w.link_is (item_of n w) (asked.stays n c w.link g ep w.link_is))

        by_kind : RowKind row n c → PlaceFacts s q
        by_kind (still ef ep er) = stayed false false ep (none_crosses er) ef
        by_kind (strikes ef ep er) = stayed false true ep (none_crosses er) ef
        by_kind (crosses dev ef ep er) = stayed true false ep (ap (λ (x : Option ℕ). is_some x) er) ef
        by_kind (turns ef ep er) =
            let i = in_connection s k row n c true false false r ep (none_crosses er) ef in
            placed_on s k row n c true false false h i r.calm sends (turn_row s k row n c w.link h seats g ep
            (none_crosses er) ef w.link_is (item_of n w) (there i.connection_is i.bus_is)
            (λ b. whereto ep b i.connection_is (facts n r.connection_is g.calm calm).facts)
            (asked.turns n c w.link g ep w.link_is))

    over : (n : Connection) → Ends s k row n → (r : Bool) → d.change.after.rst ≡ r → PlaceFacts s q
    over n g true e = under e
    over n g false e =
        let w = was.books.knows n g.connection_is g.calm in
        freed_on s k row n h g.connection_is g.next_is (asked.sends (inl (λ z. g.next_is)))
        (end_row s k row n w.link h seats g.connection_is g.calm (begun (facts n g.connection_is g.calm e).facts) e
        g.next_is w.link_is (item_of n w) (asked.ends n w.link g e w.link_is))
      where
        begun : RowFacts s p row n → k.exchange.begun ≡ true
        begun (ends_here f) = was.plain.begun ∙ f.begun_is
        begun (stays f) =
            let some : d.next ≡ Some n = ap (λ (x : RowReading). x.next)
            (reading_is k row n f.change (is_some (receiver_in n f.change)) f.row_is refl) in
            some_none n (sym some ∙ g.next_is)

    go : RowOf s k row → PlaceFacts s q
    go (row_apart e f) = alone e f d.change.after.rst refl
    go (begins n b) = first n b n.reselected refl
    go (goes_on n c g) = on n c g
    go (ends n g) = over n g d.change.after.rst refl
    go (under_reset e z) = under e

-- ---- so every event is permitted

pub allowed_row : (s : ScenarioValue) (p : List Row) (row : Row) → PlaceFacts s (row ∷ p)
    → is_allowed s (run_state s p) row (row_reading (run_state s p).story.bus_state row) ≡ true
allowed_row s p row h = ap is_some h.array_is
