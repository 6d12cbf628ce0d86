-- Of a prompt trace: as DATA IN is left, its initiator has raised ATN where a byte was struck, and only there (6.6.10).
use Rattle.trace_laws.proofs
use proofs.Names.{inl, inr, ℕ, ◌≡◌, ◌⊎◌, ◌<◌, Bool, true, false, not, ◌&&◌, ◌||◌, ◌∙◌, List, [], ◌∷◌, Option, Some}
use proofs.Names.{None, refl, sym, ap, subst, same_Some, is_some, wrong, wrong', ProcId, change_of, LineSet}
use proofs.Names.{changes_phase, is_message_out, connection, connection_after, is_fault, receiver_in, receiver_of, bus}
use proofs.Names.{Row, Change, Connection, Handshakes, handshakes, no_handshakes, INITIATOR_DETECTED_ERROR, dialogue}
use proofs.Names.{is_of_other, End, ScenarioValue, Obeys, RowReading, row_reading, Item, process, Link, begun}
use proofs.Names.{begun_after, Serving, leaving_by, phase_of, Phase, IsPrompt, IsPlain, AreOfDevices, RunState, bus_of}
use proofs.Names.{carried_here, run_state, serving_of, in_connection, Knows, IsRowIn, RowKind, still, strikes, crosses}
use proofs.Names.{turns, is_struck_phase, change_plain, least_is, BeginsConnection, by_selection, by_reselection}
use proofs.Names.{none_some, data_in_lines, not_message_out, not_message_in, by_bool, ConnectionRow, GoingRow}
use proofs.Names.{RowKindOf, begins_now, connection_row, goes_now, going_row, row_kind, stage_of_connection, NextStood}
use proofs.Names.{Stood, LinkRow, is_marked, awaits, OfferFacts, offer_now, code_if, complaints_next, same_phase_of}
use proofs.Names.{undo_asks, ComplaintFacts, ComplaintsBy, any_struck, Named, known, refused, said, pulses_here}
use proofs.{Names.{TellFacts, FailFacts, IsClear, SentAsLeft, SentFacts, SentTalk, WaitsFor}, Failures.Bytes.{clear_as}}
use proofs.{Failures.{Bytes.{still_fails}, Crossed.{CrossedFacts}}, Runs.Counts.{handshakes_begin, unasked_low}}
use proofs.{Runs.Counts.{or_left}, Sent.{Requests.{none_struck}, Rows.{in_row}, Stays.{enters_clear, DataRow}}}
use proofs.Sent.Stays.{drives_on, strikes_on}

-- ---- in DATA IN

-- No request of the target for a synchronous data transfer is open.
no_offer : (s : ScenarioValue) (p : List Row) (n : Connection) → IsPlain s p (run_state s p) → OfferFacts s p
    → connection p ≡ Some n → (bus p).rst ≡ false → begun p ≡ true → phase_of (bus p) ≡ Phase.DataIn
    → is_of_other (dialogue p).heard.now.offer End.Initiator ≡ false
no_offer s p n pl offers con calm b here =
    ap (λ (o : Option End). is_of_other o End.Initiator) (ap offer_now (sym pl.dialogue)
    ∙ (offers n con calm).settled (pl.begun ∙ b) (ap (λ (l : LineSet). l.msg) pl.bus ∙ (data_in_lines (bus p) here).0))

-- The initiator knows the process.
item_known : (s : ScenarioValue) (p : List Row) (n : Connection) (w : Knows s (run_state s p) n) → TellFacts s p
    → connection p ≡ Some n → (bus p).rst ≡ false → phase_of (bus_of (run_state s p)) ≡ Phase.DataIn
    → (id : ProcId) → (run_state s p).served ≡ Some (process id) → w.link.item ≡ Some (process id)
item_known s p n w told con calm here id served =
    elim w.item_is [ inl e ↦ e ∙ served | inr e ↦ unnamed e.1 (told.named n con calm e.0) ]
  where
    k : RunState
    k = run_state s p

    msg : (bus_of k).msg ≡ false
    msg = (data_in_lines (bus_of k) here).0

    unnamed : {A : Type 0} → w.link.item ≡ None → Named s k n → A
    unnamed e (known l el f g) = wrong' (sym (ap (λ (o : Option Item). is_some o) e)
        ∙ ap (λ (x : Link). is_some x.item) (same_Some w.link l (sym w.link_is ∙ el)) ∙ f)
    unnamed e (said q l y on names whole) = wrong' (sym (not_message_in (bus_of k) msg) ∙ on)
    unnamed e (refused q l y on cause names) = wrong' (sym (not_message_out (bus_of k) msg) ∙ on)

-- ---- before any row

pub sent_start : (s : ScenarioValue) → SentFacts s []
sent_start s n e calm b here = none_some n e

-- ---- as it is left

pub sent_asks : (s : ScenarioValue) (p : List Row) (row : Row) → Obeys s → IsPrompt s (row ∷ p) → Stood s p
    → TellFacts s p → SentFacts s p → SentAsLeft s p row
sent_asks s p row o prompt was told facts n id w served here = t.code id served
    ∙ ap (λ (q : Bool). code_if q INITIATOR_DETECTED_ERROR) (none_struck (handshakes p) (bus p).atn
    (by_bool (pulses_here p) (λ z. over.1 z) (λ z. subst (WaitsFor (handshakes p)) over.0 (t.waits z)))
    ∙ ap (λ (l : LineSet). l.atn) (sym was.plain.bus))
  where
    k : RunState
    k = run_state s p

    d : RowReading
    d = row_reading k.story.bus_state row

    phase : phase_of (bus p) ≡ Phase.DataIn
    phase = ap phase_of (sym was.plain.bus) ∙ here

    started : begun p ≡ true
    started = sym was.plain.begun ∙ w.begun

    t : SentTalk s p
    t = facts n w.stands w.calm started phase

    r : ConnectionRow s p row n
    r = connection_row s p row n o prompt was w.stands w.calm w.calm_after

    change : d.change ≡ change_of p row
    change = change_plain s row p was.standing.devices (least_is s p row prompt.1).inside

    next_is : d.next ≡ connection (row ∷ p)
    next_is = λ i. connection_after (was.plain.connection i) (was.plain.call i) (change i) row

    ended : (changes_phase d.change ≡ true) ⊎ (d.next ≡ None)
        → (changes_phase (change_of p row) ≡ true) ⊎ (connection (row ∷ p) ≡ None)
    ended (inl z) = inl (ap changes_phase (sym change) ∙ z)
    ended (inr z) = inr (sym next_is ∙ z)

    over : (awaits (bus p) ≡ false) × (pulses_here p ≡ true → (handshakes p).waiting ≡ [])
    over = (in_row s p row n (data_in_lines (bus p) phase).2
        (no_offer s p n was.plain told.offers w.stands w.calm started phase) r.link).over (ended w.leaves)

-- ---- any row

unstruck : (a b q c : Bool) → q ≡ true → (a && b && not q && c) ≡ false
unstruck a b q c e = ap (λ (x : Bool). a && b && not x && c) e ∙ go a b
  where
    go : (x y : Bool) → (x && y && false && c) ≡ false
    go true true = refl
    go true false = refl
    go false y = refl

pub sent_next : (s : ScenarioValue) (p : List Row) (row : Row) → Obeys s → IsPrompt s (row ∷ p) → Stood s p
    → NextStood s p row → TellFacts s p → FailFacts s p → CrossedFacts s p → ComplaintFacts s p → SentFacts s p
    → SentFacts s (row ∷ p)
sent_next s p row o prompt was next told fails crossed complaints facts n after calm b here =
    by (row_kind s p row n o prompt was after calm)
  where
    q : List Row
    q = row ∷ p

    k : RunState
    k = run_state s p

    j : RunState
    j = run_state s q

    c : Change
    c = change_of p row

    dv : AreOfDevices p
    dv = was.standing.devices

    lt : row.dev < 8
    lt = (least_is s p row prompt.1).inside

    lines : ((bus q).msg ≡ false) × ((bus q).cd ≡ false) × ((bus q).io ≡ true)
    lines = data_in_lines (bus q) here

    -- A connection does not begin in DATA IN.
    none_first : BeginsConnection q n → SentTalk s q
    none_first (by_selection h) = wrong' (sym h.begun_is ∙ b)
    none_first (by_reselection y h) = wrong (sym (ap (λ (l : LineSet). l.msg) h.linked.stands.bus_is) ∙ lines.0)

    knows : connection p ≡ Some n → (bus p).rst ≡ false → Knows s k n
    knows con off = was.books.knows n (was.plain.connection ∙ con) (ap (λ (l : LineSet). l.rst) was.plain.bus ∙ off)

    going : connection p ≡ Some n → (bus p).rst ≡ false → GoingRow s p row n
    going con off =
        going_row s p row n dv lt con after calm next.row_is (connection_row s p row n o prompt was con off calm).facts

    row_in : connection p ≡ Some n → (bus p).rst ≡ false → IsRowIn k row n c
    row_in con off = let g = going con off in subst (λ (x : Change). IsRowIn k row n x) g.change_is g.goes.row_is

    -- ---- it goes on

    stays : connection p ≡ Some n → (bus p).rst ≡ false → changes_phase c ≡ false → SentTalk s q
    stays con off ep =
        by_bool (is_fault row.kind)
        (λ ef. strikes_on s p row n of ef (facts n con off started phase))
        (λ ef. drives_on s p row n of ef (facts n con off started phase))
      where
        phase : phase_of (bus p) ≡ Phase.DataIn
        phase = sym (same_phase_of c ep) ∙ here

        started : begun p ≡ true
        started = or_left (begun p)
            ((λ i. sym ep i || begun p) ∙ (λ i. begun_after (begun p) (sym con i) (sym after i) c) ∙ b)

        w : Knows s k n
        w = knows con off

        link : LinkRow s p n row
        link = (connection_row s p row n o prompt was con off calm).link

        of : DataRow s p row n
        of = record {
          before = con;
          after = after;
          devices = dv;
          below = lt;
          stays = ep;
          row_is = row_in con off;
          phase = phase;
          link = w.link;
          link_is = w.link_is;
          item_is = item_known s p n w told con off (ap phase_of was.plain.bus ∙ phase);
          undoes = undo_asks is_marked s p row was next told.undo;
          crossed = crossed n con off;
          moves = link;
          step = (in_row s p row n (data_in_lines (bus p) phase).2
              (no_offer s p n was.plain told.offers con off started phase) link).step after;
        }

    -- ---- it is entered

    -- With ATN true it does not begin.
    attends : changes_phase c ≡ true → (x : Bool) → (bus q).atn ≡ x → (bus q).atn ≡ false
    attends ep false e = e
    attends ep true e = wrong' (sym none ∙ w.attends (ap (λ (l : LineSet). l.io) next.stood.plain.bus ∙ lines.2)
        (ap (λ (l : LineSet). l.msg) next.stood.plain.bus ∙ lines.0)
        (ap (λ (l : LineSet). l.atn) next.stood.plain.bus ∙ e))
      where
        w : ComplaintsBy s q j
        w = complaints_next s p row o prompt was next told.offers complaints n after calm (next.stood.plain.begun ∙ b)

        d : RowReading
        d = row_reading k.story.bus_state row

        none : is_struck_phase s q ≡ false
        none = unstruck (is_some k.story.bus_state.connection) (is_some d.next) (changes_phase d.change)
            (is_fault row.kind || is_struck_phase s p) (ap changes_phase (change_plain s row p dv lt) ∙ ep)

    entered : connection p ≡ Some n → (bus p).rst ≡ false → changes_phase c ≡ true → SentTalk s q
    entered con off ep = on (row_in con off).kind
      where
        g : GoingRow s p row n
        g = going con off

        w : Knows s k n
        w = knows con off

        change : g.lines.change ≡ c
        change = g.lines_are ∙ g.change_is

        none : handshakes q ≡ no_handshakes
        none = handshakes_begin p row n after ep

        low : (bus q).req ≡ false
        low = unasked_low s q n (stage_of_connection s q n next.stood after calm)
            (ap (λ (x : Handshakes). x.requests) none)

        v : Serving
        v = serving_of s k n.target

        clear : (id : ProcId) → k.served ≡ Some (process id) → (x : Bool) → begun p ≡ x → IsClear (carried_here k id)
        clear id served false z = wrong' (sym (not_message_out (bus q) lines.0)
            ∙ ap (λ (x : Change). is_message_out x.after) (sym change) ∙ g.lines.first (ap changes_phase change ∙ ep) z)
        clear id served true z = enters_clear w.link
            (carried_here k id) v k.exchange.speech.words k.handshakes.requests (bus_of k).atn (phase_of (bus_of k))
            (g.goes.leaves (ap changes_phase (g.goes.row_is.change_is ∙ g.change_is) ∙ ep)).some
            ((fails n con off w.link id w.link_is served).begun (was.plain.begun ∙ z))
            (sym (λ i. (leaving_by v ((was.plain.begun ∙ z) i) (bus_of k)).to)
            ∙ g.lines.whereto (ap changes_phase change ∙ ep) z ∙ ap (λ (x : Change). Some (phase_of x.after)) change
            ∙ ap (λ (x : Phase). Some x) here)

        served_is : (ph now fault : Bool) → changes_phase c ≡ ph → is_some (receiver_in n c) ≡ now
            → is_fault row.kind ≡ fault → j.served ≡ k.served
        served_is ph now fault x y z = (in_connection s k row n c ph now fault (row_in con off) x y z).served_is

        on : RowKind row n c → SentTalk s q
        on (still ef e er) = wrong (sym ep ∙ e)
        on (strikes ef e er) = wrong (sym ep ∙ e)
        on (crosses dev ef e er) = wrong (sym ep ∙ e)
        on (turns ef e er) =
            let silent : is_some (receiver_in n c) ≡ false = ap (λ (z : Option ℕ). is_some z) er in
            record {
              received =
                  λ z. wrong' (sym silent ∙ sym (ap (λ (x : Option Connection). is_some (receiver_of x c)) con) ∙ z);
              waits = λ u. subst (WaitsFor (handshakes q)) (λ i. sym low i && not (bus q).ack)
                  (ap (λ (x : Handshakes). x.waiting) none);
              code = λ id served.
                  let own = sym (served_is true false false ep silent ef) ∙ served in
                  (clear_as (carried_here k id) (carried_here j id)
                  (still_fails s k row n c w.link (row_in con off) silent w.link_is ef id)
                  (clear id own (begun p) refl)).failure
                  ∙ sym (λ i. code_if (attends ep (bus q).atn refl i || any_struck (none i).waiting)
                  INITIATOR_DETECTED_ERROR);
            }

    on : connection p ≡ Some n → (bus p).rst ≡ false → (x : Bool) → changes_phase c ≡ x → SentTalk s q
    on con off true ep = entered con off ep
    on con off false ep = stays con off ep

    by : RowKindOf s p row n → SentTalk s q
    by (begins_now alone f) = none_first f.begins
    by (goes_now con off) = on con off (changes_phase c) refl
