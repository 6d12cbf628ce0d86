-- STATUS and MESSAGE IN in which a byte was struck are left with ATN true (6.6.10, 6.6.13): that byte was the last, and
-- with its ACK the initiator raises ATN.
use Rattle.dialogue_laws.proofs
use proofs.Names.{inl, inr, ℕ, ◌≡◌, ◌⊎◌, ◌<◌, Bool, true, false, not, ◌&&◌, ◌||◌, ◌∙◌, List, [], ◌∷◌, Option, Some}
use proofs.Names.{None, refl, sym, ap, subst, eqb-true, if◌then◌else◌, is_some, or_false, or_true, wrong, wrong'}
use proofs.Names.{bus-fault, change_of, rises, LineSet, changes_phase, connection, connection_after, is_fault, receiver}
use proofs.Names.{receiver_in, receiver_of, bus, Kind, Drives, Fault, Row, Change, Connection, Handshakes, answered_if}
use proofs.Names.{asked_if, handshakes, handshakes_after, no_handshakes, newest_struck_if, newest_struck, ScenarioValue}
use proofs.Names.{Obeys, RowReading, row_reading, begun, begun_after, phase_of, Phase, run_state_plain, IsPrompt}
use proofs.Names.{IsPlain, run_state, RowKind, crosses, still, strikes as fault_strikes, turns, is_struck_phase}
use proofs.Names.{change_plain, least_is, none_some, RowKindOf, begins_now, connection_row, goes_now, going_row}
use proofs.Names.{row_kind, stage_of_connection, link_phase, LinkRow, is_unasked, awaits, IsLeaving, same_phase_of}
use proofs.{Names.{fault_receives, or_left, unasked_low, Whole, standing_next, whole}, Struck.Rows.{Stays, owes}}
use proofs.Struck.Rows.{struck_row}

-- ---- STATUS, or MESSAGE IN

abbrev pub is_talk : Phase → Bool
is_talk Phase.Status = true
is_talk Phase.MessageIn = true
is_talk _ = false

-- C/D and I/O are true in it.
talk_lines : (b : LineSet) → (b.msg ≡ true → b.cd ≡ true) → is_talk (phase_of b) ≡ true → (b.cd ≡ true) × (b.io ≡ true)
talk_lines b known e = go b.msg b.cd b.io known e
  where
    go : (m c i : Bool) → (m ≡ true → c ≡ true) → is_talk (if m then (if i then Phase.MessageIn else Phase.MessageOut)
        else if c then (if i then Phase.Status else Phase.Command) else if i then Phase.DataIn else Phase.DataOut)
        ≡ true → (c ≡ true) × (i ≡ true)
    go true c true k f = (k refl, refl)
    go true c false k f = wrong' f
    go false true true k f = (refl, refl)
    go false true false k f = wrong' f
    go false false true k f = wrong' f
    go false false false k f = wrong' f

fault_bus : (p : List Row) (row : Row) → is_fault row.kind ≡ true → bus (row ∷ p) ≡ bus p
fault_bus p row e = go row.kind refl e
  where
    go : (kind : Kind) → row.kind ≡ kind → is_fault kind ≡ true → bus (row ∷ p) ≡ bus p
    go (Drives l) f z = wrong' z
    go (Fault bit) f z = bus-fault row p bit f

known : (s : ScenarioValue) (p : List Row) (n : Connection) → Whole s p → connection p ≡ Some n → (bus p).rst ≡ false
    → (bus p).msg ≡ true → (bus p).cd ≡ true
known s p n was con off z = (link_phase s p n (stage_of_connection s p n was.stood con off) z).0

-- Where a byte waits for its ACK one was asked for.
asked : (s : ScenarioValue) (p : List Row) (n : Connection) → Whole s p → connection p ≡ Some n → (bus p).rst ≡ false
    → awaits (bus p) ≡ true → is_unasked p ≡ false
asked s p n was con off z = go (is_unasked p) refl
  where
    go : (x : Bool) → is_unasked p ≡ x → is_unasked p ≡ false
    go false e = e
    go true e = wrong' (sym (ap (λ (x : Bool). x && not (bus p).ack)
        (unasked_low s p n (stage_of_connection s p n was.stood con off) (eqb-true (handshakes p).requests 0 e))) ∙ z)

-- ---- in it

record Struck (s : ScenarioValue) (p : List Row) : Type 0 where
  -- a byte that crossed in the last row, which a fault may strike, waits for its ACK
  received : is_some (receiver p) ≡ true → awaits (bus p) ≡ true
  -- the byte that was struck is that of the newest request
  newest : is_struck_phase s p ≡ true → (handshakes p).struck ≡ true
  owing : is_struck_phase s p ≡ true → owes (bus p) ≡ true

abbrev StruckFacts : ScenarioValue → List Row → Type 0
StruckFacts s p = (n : Connection) → connection p ≡ Some n → (bus p).rst ≡ false → begun p ≡ true
    → is_talk (phase_of (bus p)) ≡ true → Struck s p

struck_next : (s : ScenarioValue) (p : List Row) (row : Row) → Obeys s → IsPrompt s (row ∷ p) → Whole s p
    → Whole s (row ∷ p) → StruckFacts s p → StruckFacts s (row ∷ p)
struck_next s p row o prompt was now facts n after calm b here = by (row_kind s p row n o prompt was.stood after calm)
  where
    q : List Row
    q = row ∷ p

    c : Change
    c = change_of p row

    d : RowReading
    d = row_reading (run_state s p).story.bus_state row

    lt : row.dev < 8
    lt = (least_is s p row prompt.1).inside

    pl : IsPlain s p (run_state s p)
    pl = run_state_plain s p was.stood.standing.devices

    change : d.change ≡ c
    change = change_plain s row p was.stood.standing.devices lt

    -- no fault row stands in a phase that this row begins
    unstruck : (is_struck_phase s q ≡ false) → is_some (receiver q) ≡ false → Struck s q
    unstruck u r = record {
      received = λ z. wrong' (sym r ∙ z);
      newest = λ z. wrong' (sym u ∙ z);
      owing = λ z. wrong' (sym u ∙ z);
    }

    alone_first : connection p ≡ None → Struck s q
    alone_first alone =
        unstruck (λ i. is_some ((pl.connection ∙ alone) i) && is_some d.next && not (changes_phase d.change)
        && (is_fault row.kind || is_struck_phase s p)) (ap (λ (x : Option Connection). is_some (receiver_of x c)) alone)

    entered : connection p ≡ Some n → (bus p).rst ≡ false → changes_phase c ≡ true → Struck s q
    entered con off ep = unstruck (fresh (is_some (run_state s p).story.bus_state.connection)
        (is_some d.next) (is_fault row.kind || is_struck_phase s p) (ap changes_phase change ∙ ep))
        (ap (λ (x : Option Connection). is_some (receiver_of x c)) con ∙ silent kind)
      where
        kind : RowKind row n c
        kind =
            let g = going_row s p row n was.stood.standing.devices lt con after calm
            (standing_next s p row o prompt was).row_is
            (connection_row s p row n o prompt was.stood con off calm).facts in
            subst (λ (x : Change). RowKind row n x) g.change_is g.goes.row_is.kind

        silent : RowKind row n c → is_some (receiver_in n c) ≡ false
        silent (still ef e er) = wrong (sym ep ∙ e)
        silent (fault_strikes ef e er) = wrong (sym ep ∙ e)
        silent (crosses dev ef e er) = wrong (sym ep ∙ e)
        silent (turns ef e er) = ap (λ (z : Option ℕ). is_some z) er

        fresh : (x y w : Bool) → changes_phase d.change ≡ true → (x && y && not (changes_phase d.change) && w) ≡ false
        fresh x y w e = ap (λ (z : Bool). x && y && not z && w) e ∙ go x y
          where
            go : (u v : Bool) → (u && v && false && w) ≡ false
            go true true = refl
            go _ _ = refl

    stays : connection p ≡ Some n → (bus p).rst ≡ false → changes_phase c ≡ false → Struck s q
    stays con off ep = on (is_fault row.kind) refl
      where
        phase : is_talk (phase_of (bus p)) ≡ true
        phase = ap is_talk (sym (same_phase_of c ep)) ∙ here

        started : begun p ≡ true
        started = or_left (begun p)
            ((λ i. sym ep i || begun p) ∙ (λ i. begun_after (begun p) (sym con i) (sym after i) c) ∙ b)

        link : LinkRow s p n row
        link = (connection_row s p row n o prompt was.stood con off calm).link

        t : Struck s p
        t = facts n con off started phase

        lines : ((bus p).cd ≡ true) × ((bus p).io ≡ true)
        lines = talk_lines (bus p) (known s p n was con off) phase

        step : Stays p c
        step = (struck_row s p row n lines.1 lines.0 link).stays after

        was_struck : is_struck_phase s q ≡ true → (is_fault row.kind || is_struck_phase s p) ≡ true
        was_struck z = last (is_some (run_state s p).story.bus_state.connection) (is_some d.next)
            (not (changes_phase d.change)) (is_fault row.kind || is_struck_phase s p) z
          where
            last : (x y w u : Bool) → (x && y && w && u) ≡ true → u ≡ true
            last true true true u e = e
            last true true false u e = wrong' e
            last true false w u e = wrong' e
            last false y w u e = wrong' e

        on : (x : Bool) → is_fault row.kind ≡ x → Struck s q
        on true ef = record {
          received = λ z. ap awaits (fault_bus p row ef) ∙ waits;
          newest = λ z. ap (λ (x : Handshakes). x.struck) hand ∙ ap not some;
          owing = λ z. ap owes (fault_bus p row ef) ∙ ap (λ (x : Bool). (bus p).atn || x) waits ∙ or_true (bus p).atn;
        }
          where
            waits : awaits (bus p) ≡ true
            waits = t.received (fault_receives s p row n ef link)

            some : is_unasked p ≡ false
            some = asked s p n was con off waits

            hand : handshakes q ≡ newest_struck (handshakes p)
            hand = ap (λ (x : Bool). handshakes_after x (connection q) c row.time (handshakes p)) ef
                ∙ ap (λ (x : Bool). newest_struck_if x (handshakes p)) lines.1
        on false ef = record {
          received = λ z. step.asks (rose (rises c.before.req c.after.req) refl (sym receives ∙ z));
          newest = λ z.
              let u = before z in
              ap (λ (x : Handshakes). x.struck) hand ∙ ap (λ (x : Bool).
              (answered_if (rises c.before.ack c.after.ack) row.time (asked_if x row.time (handshakes p))).struck)
              (step.owing (t.newest u) (t.owing u)).0 ∙ kept (rises c.before.ack c.after.ack) ∙ t.newest u;
          owing = λ z. let u = before z in (step.owing (t.newest u) (t.owing u)).1;
        }
          where
            before : is_struck_phase s q ≡ true → is_struck_phase s p ≡ true
            before z = ap (λ (x : Bool). x || is_struck_phase s p) (sym ef) ∙ was_struck z

            hand : handshakes q ≡ answered_if (rises c.before.ack c.after.ack) row.time
                (asked_if (rises c.before.req c.after.req) row.time (handshakes p))
            hand = (λ i. handshakes_after (ef i) (after i) c row.time (handshakes p))
                ∙ ap (λ (x : Bool). if x then no_handshakes else answered_if (rises c.before.ack c.after.ack) row.time
                (asked_if (rises c.before.req c.after.req) row.time (handshakes p))) ep

            kept : (a : Bool) → (answered_if a row.time (handshakes p)).struck ≡ (handshakes p).struck
            kept true = refl
            kept false = refl

            receives : is_some (receiver q)
                ≡ is_some (if rises c.before.req c.after.req then Some n.initiator else None)
            receives = ap (λ (x : Option Connection). is_some (receiver_of x c)) con ∙ ap
                (λ (x : Bool). is_some (if x then (if rises c.before.req c.after.req then Some n.initiator else None)
                else (if rises c.before.ack c.after.ack then Some n.target else None))) lines.1

            rose : (x : Bool) → rises c.before.req c.after.req ≡ x
                → is_some (if rises c.before.req c.after.req then Some n.initiator else None) ≡ true
                → rises c.before.req c.after.req ≡ true
            rose true e z = e
            rose false e z = wrong' (sym (ap (λ (x : Bool). is_some (if x then Some n.initiator else None)) e) ∙ z)

    on : connection p ≡ Some n → (bus p).rst ≡ false → (x : Bool) → changes_phase c ≡ x → Struck s q
    on con off true ep = entered con off ep
    on con off false ep = stays con off ep

    by : RowKindOf s p row n → Struck s q
    by (begins_now alone f) = alone_first alone
    by (goes_now con off) = on con off (changes_phase c) refl

struck_all : (s : ScenarioValue) (p : List Row) → Obeys s → IsPrompt s p → StruckFacts s p
struck_all s [] o prompt = λ n e off b here. none_some n e
struck_all s (row ∷ p) o prompt =
    struck_next s p row o prompt (whole s p o prompt.0) (whole s (row ∷ p) o prompt) (struck_all s p o prompt.0)

-- As the phase is left ATN is true, and the byte that crossed last was struck.
pub struck_attends : (s : ScenarioValue) (p : List Row) (row : Row) (n : Connection) → Obeys s
    → IsPrompt s (row ∷ p) → IsLeaving s p row n → is_talk (phase_of (bus p)) ≡ true → is_struck_phase s p ≡ true
    → ((bus p).atn ≡ true) × ((handshakes p).struck ≡ true)
struck_attends s p row n o prompt w phase struck =
    (sym (or_false (bus p).atn) ∙ ap (λ (x : Bool). (bus p).atn || x) (sym over) ∙ t.owing struck, t.newest struck)
  where
    was : Whole s p
    was = whole s p o prompt.0

    pl : IsPlain s p (run_state s p)
    pl = run_state_plain s p was.stood.standing.devices

    t : Struck s p
    t = struck_all s p o prompt.0 n w.stands w.calm (sym pl.begun ∙ w.begun) phase

    change : (row_reading (run_state s p).story.bus_state row).change ≡ change_of p row
    change = change_plain s row p was.stood.standing.devices (least_is s p row prompt.1).inside

    next_is : (row_reading (run_state s p).story.bus_state row).next ≡ connection (row ∷ p)
    next_is = λ i. connection_after (pl.connection i) (pl.call i) (change i) row

    ended : (changes_phase (row_reading (run_state s p).story.bus_state row).change ≡ true)
        ⊎ ((row_reading (run_state s p).story.bus_state row).next ≡ None)
        → (changes_phase (change_of p row) ≡ true) ⊎ (connection (row ∷ p) ≡ None)
    ended (inl z) = inl (ap changes_phase (sym change) ∙ z)
    ended (inr z) = inr (sym next_is ∙ z)

    lines : ((bus p).cd ≡ true) × ((bus p).io ≡ true)
    lines = talk_lines (bus p) (known s p n was w.stands w.calm) phase

    over : awaits (bus p) ≡ false
    over = (struck_row s p row n lines.1 lines.0
        (connection_row s p row n o prompt was.stood w.stands w.calm w.calm_after).link).over (ended w.leaves)
