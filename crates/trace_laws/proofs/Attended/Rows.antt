-- What a row of a prompt trace shows in a connection.
use Rattle.trace_laws.proofs
use proofs.Names.{inl, inr, ℕ, ◌≡◌, ◌<◌, Bool, true, false, not, ◌&&◌, ◌==◌, ◌∙◌, List, [], ◌∷◌, Option, Some, None}
use proofs.Names.{refl, sym, ap, subst, same_Some, slice_index, if◌then◌else◌, is_some, wrong, wrong', Event, ProcId}
use proofs.Names.{change_of, rises, LineSet, changes_phase, is_command, is_message_in, is_message_out, connection}
use proofs.Names.{connection_after, bus, Row, Change, Connection, GOOD, ScenarioValue, Obeys, AbortDef, carried_id}
use proofs.Names.{RowReading, row_reading, CarriedBytes, carried_of, is_status_phase, abort_line_at, bus_free_events}
use proofs.Names.{carried_if, connection_events, end_events, is_complete, is_completion, phase_events, Item, process}
use proofs.Names.{abort, Link, is_status_next, Leaving, IsPrompt, RunState, bus_of, run_state, events_of_row}
use proofs.Names.{serving_of, obeys_fits, units_are, Instructions, instructions, is_opening, AreUnits, IsItem}
use proofs.Names.{is_process, is_abort, Knows, change_plain, least_is, LinkStage, when_selected, when_settling}
use proofs.Names.{when_turning, when_offering, when_shaking, when_pulsing, out_lines, out_no_status, ConnectionRow}
use proofs.Names.{connection_row, Goes, RowFacts, Stops, stays, ends_here, Stood, link_phase, AbortsBetween, AreShown}
use proofs.Names.{AttendedFacts, ShowsIn, alone, opening_begun, opening_leads, opening_leaving, out_no_command}
use proofs.Names.{status_is, no_events, unbegun_lines, CommandBooks, CommandFacts, Serves, Instructed, InstructedFacts}
use proofs.{Names.{EndsAsGiven}, Attended.Events.{AreOfEnds, EndsKnown, Of, end_shown, row_shows, stop_shown}}
use proofs.Attended.Events.{turn_shown}

pub no_item : {A : Type 0} (id : ProcId) (m : ℕ) → Some (process id) ≡ Some (abort m) → A
no_item id m e = absurd cc

initiator_below : (s : ScenarioValue) (p : List Row) (n : Connection) → LinkStage s p n → n.initiator < 8
initiator_below s p n (when_selected h) = h.linked.initiator_below
initiator_below s p n (when_settling bsy atn msg cd io y h) = h.linked.initiator_below
initiator_below s p n (when_turning atn x msg cd h) = h.linked.initiator_below
initiator_below s p n (when_offering atn msg cd y h) = h.linked.initiator_below
initiator_below s p n (when_shaking msg cd io req ack atn x y h) = h.linked.initiator_below
initiator_below s p n (when_pulsing io req ack atn x y h a) = h.linked.initiator_below

-- An abort that is served is of the ends of the connection.
between : (s : ScenarioValue) (k : RunState) (n : Connection) → AreUnits s → n.initiator < 8 → CommandBooks s k n
    → (n.reselected ≡ true → Serves s k) → AbortsBetween s k n → AreOfEnds s k n
between s k n u below books again target m a served line =
    (host, target m a served line, u.aborts m a line, subst (λ (x : ℕ). x < 8) (sym host) below)
  where
    same_abort : (b : AbortDef) → abort_line_at s.aborts m ≡ Some b → b.host ≡ n.initiator → a.host ≡ n.initiator
    same_abort b e own = ap (λ (x : AbortDef). x.host) (same_Some a b (sym line ∙ e)) ∙ own

    of_item : (item : Item) → item ≡ abort m → IsItem s n.initiator item → a.host ≡ n.initiator
    of_item _ e (is_process id p ep own) = no_item id m (ap (λ (x : Item). Some x) e)
    of_item _ e (is_abort x b eb own) = same_abort b (ap (abort_line_at s.aborts) (sym (number x e)) ∙ eb) own
      where
        number : (y : ℕ) → abort y ≡ abort m → y ≡ m
        number y z = cc

    go : (q : Bool) → n.reselected ≡ q → a.host ≡ n.initiator
    go true e = let v = again e in no_item v.id m (sym v.served_is ∙ served)
    go false e =
        let h = books.serves e in
        of_item h.item (same_Some h.item (abort m) (sym h.served_is ∙ served)) h.item_is

    host : a.host ≡ n.initiator
    host = go n.reselected refl

-- Its initiator knows what is served, or does not know it yet.
item_of_link : (s : ScenarioValue) (k : RunState) (n : Connection) (w : Knows s k n) → Of k w.link.item
item_of_link s k n w = elim w.item_is [ inl z ↦ inl z | inr z ↦ inr z.1 ]

-- ---- a row of a connection, before and after which RST is false

pub record Here (s : ScenarioValue) (p : List Row) (row : Row) (n : Connection) : Type 0 where
  pub obeys : Obeys s
  pub prompt : IsPrompt s (row ∷ p)
  pub stood : Stood s p
  pub commands : CommandFacts s p
  pub told : InstructedFacts s p
  pub facts : AttendedFacts s p
  pub ends : EndsAsGiven s p row
  pub stands : connection p ≡ Some n
  pub calm : (bus p).rst ≡ false
  pub calm_after : (bus (row ∷ p)).rst ≡ false

pub shows_in : (s : ScenarioValue) (p : List Row) (row : Row) (n : Connection) → Here s p row n → ShowsIn s p row n
shows_in s p row n h = go r.facts
  where
    k : RunState
    k = run_state s p

    d : RowReading
    d = row_reading k.story.bus_state row

    i : Instructions
    i = instructions s p

    c : d.change ≡ change_of p row
    c = change_plain s row p h.stood.standing.devices (least_is s p row h.prompt.1).inside

    u : AreUnits s
    u = units_are s (obeys_fits s h.obeys)

    r : ConnectionRow s p row n
    r = connection_row s p row n h.obeys h.prompt h.stood h.stands h.calm h.calm_after

    here : k.story.bus_state.connection ≡ Some n
    here = h.stood.plain.connection ∙ h.stands

    quiet : (bus_of k).rst ≡ false
    quiet = ap (λ (l : LineSet). l.rst) h.stood.plain.bus ∙ h.calm

    knows : Knows s k n
    knows = h.stood.books.knows n here quiet

    l : Link
    l = knows.link

    told : Instructed s k i n
    told = h.told n h.stands h.calm

    of : Of k l.item
    of = item_of_link s k n knows

    known : (bus_of k).msg ≡ true → (bus_of k).cd ≡ true
    known z = ap (λ (b : LineSet). b.cd) h.stood.plain.bus
        ∙ (link_phase s p n r.stage (ap (λ (b : LineSet). b.msg) (sym h.stood.plain.bus) ∙ z)).0

    shows : events_of_row s p row
        ≡ (if is_some d.next then connection_events s k.story l d else bus_free_events s l l.last)
    shows = row_shows s k.story row d l knows.link_is (ap (λ (x : Change). x.after.rst) c ∙ h.calm_after)

    -- it goes on
    goes_next : Goes s p row n → d.next ≡ Some n
    goes_next g = (λ i. connection_after (g.row_is.connection_is i) k.story.bus_state.call (g.row_is.change_is i) row)
        ∙ ap (λ (y : Bool). if y then Some n else None) g.row_is.stands

    goes_shows : Goes s p row n → events_of_row s p row ≡ connection_events s k.story l d
    goes_shows g =
        shows ∙ (λ i. if is_some (goes_next g i) then connection_events s k.story l d else bus_free_events s l l.last)

    -- the status that came, where the command is not known
    good : events_of_row s p row ≡ end_events (carried_if k.story l.item) → EndsKnown k i.known l.item
    good e id is same = by i.known refl n.reselected refl
      where
        own : CarriedBytes
        own = carried_of k.story.carried id

        served_by : Of k l.item → k.served ≡ Some (process own.id)
        served_by (inl z) = sym z ∙ is ∙ ap (λ (x : ProcId). Some (process x)) (sym (carried_id k.story.carried id))
        served_by (inr z) = absurd (no_here (sym z ∙ is))
          where
            no_here : (let o : Option Item = None in o) ≡ Some (process id) → ⊥
            no_here z = absurd cc

        status : ℕ
        status = slice_index own.status.bytes 0

        ended : events_of_row s p row ≡ (Event.End own.id status ∷ [])
        ended = e ∙ ap (λ (x : Option Item). end_events (carried_if k.story x)) is

        by : (q : Bool) → i.known ≡ q → (t : Bool) → n.reselected ≡ t → i.known ≡ true
        by true f t g = f
        by false f true g = (told.again g).0
        by false f false g =
            let served = served_by of in
            let w = h.ends n own.id status h.stands h.calm served ended in
            let bad = h.facts.answers n h.stands h.calm g f own.id served w.reply w.given in
            wrong (sym same ∙ ap (λ (x : ℕ). x == GOOD) (sym w.status_is) ∙ bad)

    shown_goes : Goes s p row n → AreShown k n i.known (events_of_row s p row)
    shown_goes g = subst (λ (x : List Event). AreShown k n i.known x) (sym (goes_shows g))
        (by (changes_phase d.change) refl (is_completion l d.change) refl)
      where
        by : (q : Bool) → changes_phase d.change ≡ q → (t : Bool) → is_completion l d.change ≡ t
            → AreShown k n i.known (if q then phase_events s k.story (carried_if k.story l.item) d.change
            else if t then end_events (carried_if k.story l.item) else [])
        by true e t f = turn_shown s k n i.known l.item d.change of
        by false e true f = end_shown k n i.known l.item of
            (good (goes_shows g ∙ (λ j. if e j then phase_events s k.story (carried_if k.story l.item) d.change
            else if f j then end_events (carried_if k.story l.item) else [])))
        by false e false f = tt

    -- in the opening
    silent : Goes s p row n → is_opening k ≡ true → events_of_row s p row ≡ []
    silent g opens = goes_shows g ∙ by (changes_phase d.change) refl k.exchange.begun refl
      where
        before : bus_of k ≡ d.change.before
        before = g.row_is.bus_is ∙ ap (λ (x : Change). x.before) (sym g.row_is.change_is)

        turned : changes_phase d.change ≡ true → changes_phase g.change ≡ true
        turned e = ap changes_phase (sym g.row_is.change_is) ∙ e

        after : d.change.after ≡ g.change.after
        after = ap (λ (x : Change). x.after) g.row_is.change_is

        unended : is_message_in d.change.before ≡ false → is_completion l d.change ≡ false
        unended e =
            (λ j. rises d.change.before.ack d.change.after.ack && e j && is_complete l.last && not d.change.after.atn)
            ∙ none (rises d.change.before.ack d.change.after.ack)
          where
            none : (q : Bool) → (q && false && is_complete l.last && not d.change.after.atn) ≡ false
            none true = refl
            none false = refl

        stays_at : changes_phase d.change ≡ false → is_message_in d.change.before ≡ false
            → connection_events s k.story l d ≡ []
        stays_at e f = λ j. if e j then phase_events s k.story (carried_if k.story l.item) d.change
            else if unended f j then end_events (carried_if k.story l.item) else []

        turns_at : changes_phase d.change ≡ true → is_command d.change.before ≡ false
            → is_status_phase d.change.after ≡ false → connection_events s k.story l d ≡ []
        turns_at e f z = ap (λ (q : Bool). if q then phase_events s k.story (carried_if k.story l.item) d.change
            else if is_completion l d.change then end_events (carried_if k.story l.item) else []) e
            ∙ no_events s k.story (carried_if k.story l.item) d.change f z

        unbegun_in : k.exchange.begun ≡ false → (q : Bool) → is_message_in d.change.before ≡ q
            → is_message_in d.change.before ≡ false
        unbegun_in b false e = e
        unbegun_in b true e =
            let msg : (bus p).msg ≡ true = ap (λ (x : LineSet). x.msg) (sym h.stood.plain.bus ∙ before)
            ∙ first d.change.before.msg d.change.before.cd d.change.before.io e in
            wrong (sym (link_phase s p n r.stage msg).1 ∙ sym h.stood.plain.begun ∙ b)
          where
            first : (x y z : Bool) → (x && y && z) ≡ true → x ≡ true
            first true y z f = refl
            first false y z f = wrong' f

        out : k.exchange.begun ≡ true → is_message_out d.change.before ≡ true
        out b = ap is_message_out (sym before) ∙ out_lines (bus_of k) (opening_begun k opens b).0 known

        to : changes_phase d.change ≡ true → k.exchange.begun ≡ true → is_status_phase d.change.after ≡ false
        to e b = ap is_status_phase after ∙ status_is g.change.after
            ∙ ap is_status_next (sym (g.whereto (turned e) (sym h.stood.plain.begun ∙ b)))
            ∙ ap (λ (x : Leaving). is_status_next x.to) (opening_leaving s k n.target opens b)
            ∙ opening_leads (serving_of s k n.target)

        by : (q : Bool) → changes_phase d.change ≡ q → (b : Bool) → k.exchange.begun ≡ b
            → connection_events s k.story l d ≡ []
        by false e true b = stays_at e (out_no_command d.change.before (out b)).1
        by false e false b = stays_at e (unbegun_in b (is_message_in d.change.before) refl)
        by true e true b = turns_at e (out_no_command d.change.before (out b)).0 (to e b)
        by true e false b = turns_at e
            (ap is_command (sym before ∙ h.stood.plain.bus) ∙ unbegun_lines s p n r.stage (sym h.stood.plain.begun ∙ b))
            (ap is_status_phase after ∙ out_no_status g.change.after (g.first (turned e) (sym h.stood.plain.begun ∙ b)))

    -- it ends
    stops_next : Stops s p row n → d.next ≡ None
    stops_next g = (λ i. connection_after (h.stood.plain.connection i) (h.stood.plain.call i) (c i) row) ∙ g.stopped

    shown_stops : Stops s p row n → AreShown k n i.known (events_of_row s p row)
    shown_stops g = subst (λ (x : List Event). AreShown k n i.known x) (sym (shows
        ∙ (λ i. if is_some (stops_next g i) then connection_events s k.story l d else bus_free_events s l l.last)))
        (stop_shown s k n i.known l of (between s k n u (initiator_below s p n r.stage)
        (h.commands.books n h.stands h.calm) (λ e. (told.again e).1) (h.facts.aborts n h.stands h.calm)))

    go : RowFacts s p row n → ShowsIn s p row n
    go (stays g) = record {
      shown = shown_goes g;
      silent = λ e opens z. silent g opens;
      ends_alone = λ e opens z. wrong
          (sym (ap (λ (o : Option Connection). is_some o) (goes_next g)) ∙ ap (λ (o : Option Connection). is_some o) z);
    }
    go (ends_here g) = record {
      shown = shown_stops g;
      silent = λ e opens z. wrong' (ap (λ (o : Option Connection). is_some o) (sym (stops_next g)) ∙ z);
      ends_alone = λ e opens z. alone s k n u (h.stood.books.speaks n here quiet)
          (h.stood.plain.begun ∙ g.begun_is) known g.over opens g.whereto;
    }
