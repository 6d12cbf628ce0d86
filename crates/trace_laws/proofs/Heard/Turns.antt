-- A phase is left, and a connection, only where its target may leave it and as it means to; and not under RST.
use Rattle.trace_laws.proofs
use proofs.Names.{◌≡◌, ◌<◌, Bool, true, false, not, ◌&&◌, ◌||◌, ◌∙◌, List, ◌∷◌, Some, None, refl, sym, ap}
use proofs.Names.{if◌then◌else◌, is_none, or_true, change_of, LineSet, changes_phase, is_message_out, connection}
use proofs.Names.{connection_after, bus, drives, Row, Change, Connection, ScenarioValue, Obeys, RowReading, row_reading}
use proofs.Names.{begun, phase_of, leaving_by, Phase, IsPrompt, RunState, bus_of, drives_of, run_state, offering_of}
use proofs.Names.{serving_of, is_heard_on, is_to, is_true_turn, may_leave, change_plain, LinkStage, when_selected}
use proofs.Names.{when_settling, when_turning, when_offering, when_shaking, when_pulsing, out_phase, attention_row}
use proofs.Names.{ConnectionRow, connection_row, link_low, Goes, RowFacts, stays, ends_here, Stood, Attention}
use Rattle.story_laws.specs.scsi_device.specs.Heard.{same_phase}

-- ---- REQ is that of the target

pub target_req : (s : ScenarioValue) (p : List Row) (n : Connection) → LinkStage s p n
    → (drives p n.target).req ≡ (bus p).req
target_req s p n (when_selected h) =
    ap (λ (l : LineSet). l.req) h.linked.target ∙ ap (λ (l : LineSet). l.req) (sym h.linked.stands.bus_is)
target_req s p n (when_settling bsy atn msg cd io y h) =
    ap (λ (l : LineSet). l.req) h.linked.target ∙ ap (λ (l : LineSet). l.req) (sym h.linked.stands.bus_is)
target_req s p n (when_turning atn x msg cd h) =
    ap (λ (l : LineSet). l.req) h.linked.target ∙ ap (λ (l : LineSet). l.req) (sym h.linked.stands.bus_is)
target_req s p n (when_offering atn msg cd y h) =
    ap (λ (l : LineSet). l.req) h.linked.target ∙ ap (λ (l : LineSet). l.req) (sym h.linked.stands.bus_is)
target_req s p n (when_shaking msg cd io req ack atn x y h) =
    ap (λ (l : LineSet). l.req) h.linked.target ∙ ap (λ (l : LineSet). l.req) (sym h.linked.stands.bus_is)
target_req s p n (when_pulsing io req ack atn x y h a) =
    ap (λ (l : LineSet). l.req) h.linked.target ∙ ap (λ (l : LineSet). l.req) (sym h.linked.stands.bus_is)

-- ---- small facts

same_self : (x : Phase) → same_phase x x ≡ true
same_self Phase.MessageOut = refl
same_self _ = refl

all_3 : (a b c : Bool) → a ≡ true → b ≡ false → c ≡ false → (a && not b && not c) ≡ true
all_3 a b c e f g = λ i. e i && not (f i) && not (g i)

-- ---- the row

pub heard_goes : (s : ScenarioValue) (p : List Row) (row : Row) (n : Connection) → Obeys s → IsPrompt s (row ∷ p)
    → Stood s p → row.dev < 8 → n.target < 8 → connection p ≡ Some n → (bus p).rst ≡ false → (bus (row ∷ p)).rst ≡ false
    → is_heard_on s (run_state s p) (run_state s (row ∷ p)) (row_reading (run_state s p).story.bus_state row) (Some n)
    (row_reading (run_state s p).story.bus_state row).next ≡ true
heard_goes s p row n o prompt was lt below con calm off = by r.facts
  where
    k : RunState
    k = run_state s p

    d : RowReading
    d = row_reading k.story.bus_state row

    r : ConnectionRow s p row n
    r = connection_row s p row n o prompt was con calm off

    c : d.change ≡ change_of p row
    c = change_plain s row p was.standing.devices lt

    next : d.next ≡ connection (row ∷ p)
    next = λ i. connection_after (was.plain.connection i) (was.plain.call i) (c i) row

    quiet : d.change.before.rst ≡ false
    quiet = ap (λ (x : Change). x.before.rst) c ∙ calm

    may : begun p ≡ true → (bus p).req ≡ false → (offering_of s k n.target).follows ≡ false → may_leave s k n ≡ true
    may b low none = all_3 k.exchange.begun (drives_of k n.target).req
        (offering_of s k n.target).follows (was.plain.begun ∙ b)
        (ap (λ (l : LineSet). l.req) (was.plain.drives n.target below) ∙ target_req s p n r.stage ∙ low) none

    turn : (g : Goes s p row n) → connection (row ∷ p) ≡ Some n → g.change ≡ d.change → changes_phase d.change ≡ true
        → (b : Bool) → begun p ≡ b → is_true_turn s k n d ≡ true
    turn g after same ep false b = (λ i. (not ((was.plain.begun ∙ b) i) || may_leave s k n) && is_to
        (leaving_by (serving_of s k n.target) ((was.plain.begun ∙ b) i) (bus_of k)).to (phase_of d.change.after))
        ∙ ap (λ (x : Phase). is_to (Some Phase.MessageOut) x) (out_phase d.change.after
        (ap (λ (x : Change). is_message_out x.after) (sym same) ∙ g.first (ap changes_phase same ∙ ep) b))
    turn g after same ep true b =
        let gone = ap changes_phase same ∙ ep in
        let attention : Attention _ _ (begun p) n (change_of p row) = attention_row s p row n
        (link_low s p n r.stage) after r.link in
        let low = (attention.turns (ap changes_phase (sym c) ∙ ep) b).1 in
        let to = g.whereto gone b in
        (λ i. (not k.exchange.begun || may b low (g.over gone b).follows i) && is_to (to i) (phase_of d.change.after))
        ∙ (λ i. or_true (not k.exchange.begun) i && is_to (Some (phase_of (same i).after)) (phase_of d.change.after))
        ∙ same_self (phase_of d.change.after)

    either : (g : Goes s p row n) → connection (row ∷ p) ≡ Some n → g.change ≡ d.change
        → (q : Bool) → changes_phase d.change ≡ q → (not (changes_phase d.change) || is_true_turn s k n d) ≡ true
    either g after same false ep = ap (λ (q : Bool). not q || is_true_turn s k n d) ep
    either g after same true ep =
        ap (λ (q : Bool). not (changes_phase d.change) || q) (turn g after same ep (begun p) refl)
        ∙ or_true (not (changes_phase d.change))

    by : RowFacts s p row n → is_heard_on s k (run_state s (row ∷ p)) d (Some n) d.next ≡ true
    by (stays g) =
        let goes : d.next ≡ Some n =
        (λ i. connection_after (g.row_is.connection_is i) k.story.bus_state.call (g.row_is.change_is i) row)
        ∙ ap (λ (q : Bool). if q then Some n else None) g.row_is.stands in
        (λ i. is_heard_on s k (run_state s (row ∷ p)) d (Some n) (goes i))
        ∙ (λ i. not (quiet i) && either g (sym next ∙ goes) (sym g.row_is.change_is) (changes_phase d.change) refl i)
    by (ends_here g) =
        (λ i. is_heard_on s k (run_state s (row ∷ p)) d (Some n) ((next ∙ g.stopped) i))
        ∙ (λ i. quiet i || (may g.begun_is g.low g.over.follows i && is_none (g.whereto i)))
