-- Row by row: what an initiator has said, and its target has understood, as the first phase of its connection is left
-- (6.6.7, 6.6.17, 6.6.21).
use Rattle.delivery_laws.proofs
use proofs.Names.{ℕ, ◌≡◌, Bool, true, false, not, ◌&&◌, ◌∙◌, List, [], ◌∷◌, Option, Some, None, refl, sym, ap, subst}
use proofs.Names.{same_Some, if◌then◌else◌, wrong, wrong', change_of, LineSet, changes_phase, is_message_out, call}
use proofs.Names.{connection, connection_after, bus, Row, Change, Connection, dialogue, Dialogue, ScenarioValue, Obeys}
use proofs.Names.{RowReading, row_reading, Item, aim_of, Exchange, plan_after_message, plan_anew, plan_anew_if}
use proofs.Names.{struck_plan, begun, phase_of, first_plan, plan_after, plan_in_message_out, plan_in_phase}
use proofs.Names.{plan_with_byte, Cause, Hearing, Leaving, Phase, Plan, prompt_plain, run_state_plain, opening}
use proofs.Names.{IsPrompt, IsPlain, RunState, bus_of, exchange_after, item_if, leaving_of, may_negotiate, naming_of}
use proofs.Names.{opening_of, run_state, served_after, hearing_of, ready_of, LeavesWhole, nothing_understood}
use proofs.Names.{understanding, understood, AreWordsFor, IsSpeaking, opens, RowOf, apart, begins, ends, goes_on}
use proofs.Names.{under_reset, change_plain, least_is, none_some, Whole, standing_next, whole, opening_since}
use proofs.Names.{opening_with, IsLeaving}

-- ---- whether its ends may negotiate stays as the connection began

plan_keeps : (w : Hearing) (l : Leaving) (f : Plan) → (plan_after w l f).negotiates ≡ f.negotiates
plan_keeps w l f = go (changes_phase w.change) w.crosses (w.fault && not w.change.before.io)
  where
    anew : (q : Bool) → (plan_anew_if q f).negotiates ≡ f.negotiates
    anew true = refl
    anew false = refl

    by_phase : (q r : Bool) → (if q then record (plan_anew f) { messages = l.messages; next = l.next }
        else if r then plan_in_message_out w f else plan_anew f).negotiates ≡ f.negotiates
    by_phase true r = refl
    by_phase false true = refl
    by_phase false false = refl

    by_byte : (q : Bool) → (if q then plan_after_message f w.is_last w.out else f).negotiates ≡ f.negotiates
    by_byte true = anew w.is_last
    by_byte false = refl

    go : (a b c : Bool) → (if a then plan_in_phase w l f
        else if b then plan_with_byte w f else if c then struck_plan f else f).negotiates ≡ f.negotiates
    go true b c = by_phase (not (is_message_out w.change.after)) w.begun
    go false true c = by_byte (is_message_out w.change.before)
    go false false true = refl
    go false false false = refl

-- What the initiator of this connection says first, by what is kept.
abbrev kept_opening : ScenarioValue → RunState → Connection → List ℕ
kept_opening s k n = opening s n.initiator k.exchange.plan.negotiates k.served

begun_opening : (s : ScenarioValue) (k : RunState) (row : Row) (d : RowReading) (l : Leaving) (n : Connection)
    → n.reselected ≡ false
    → opening s n.initiator (exchange_after s k row d None (Some n) l).plan.negotiates (served_after s k None (Some n))
    ≡ opening_of s k n (aim_of k.story.aims n.initiator)
begun_opening s k row d l n e = (λ i. opening s n.initiator
    (first_plan (e i) (not (e i) && may_negotiate k n (aim_of k.story.aims n.initiator)) (naming_of s k n)).negotiates
    (if e i then item_if (ready_of s k n.target) else aim_of k.story.aims n.initiator))
    ∙ (λ i. if sym e i then []
    else opening s n.initiator (may_negotiate k n (aim_of k.story.aims n.initiator)) (aim_of k.story.aims n.initiator))

opening_next : (s : ScenarioValue) (p : List Row) (row : Row) (n : Connection) → Obeys s
    → IsPrompt s (row ∷ p) → connection (row ∷ p) ≡ Some n → n.reselected ≡ false → ((m : Connection)
    → connection p ≡ Some m → m.reselected ≡ false → kept_opening s (run_state s p) m ≡ opening_since s p)
    → kept_opening s (run_state s (row ∷ p)) n ≡ opening_since s (row ∷ p)
opening_next s p row n o prompt e selects before = by (connection p) refl
  where
    k : RunState
    k = run_state s p

    d : RowReading
    d = row_reading k.story.bus_state row

    l : Leaving
    l = leaving_of s k k.story.bus_state.connection

    pl : IsPlain s p k
    pl = run_state_plain s p (whole s p o prompt.0).stood.standing.devices

    change : d.change ≡ change_of p row
    change = change_plain s row p (whole s p o prompt.0).stood.standing.devices (least_is s p row prompt.1).inside

    next : d.next ≡ Some n
    next = (λ i. connection_after (pl.connection i) (pl.call i) (change i) row) ∙ e

    told : (x : Option Connection) → connection p ≡ x → kept_opening s (run_state s (row ∷ p)) n
        ≡ opening s n.initiator (exchange_after s k row d x (Some n) l).plan.negotiates (served_after s k x (Some n))
    told x f = λ i. opening s n.initiator (exchange_after s k row d ((pl.connection ∙ f) i) (next i) l).plan.negotiates
        (served_after s k ((pl.connection ∙ f) i) (next i))

    same : (m : Connection) → connection p ≡ Some m → m ≡ n
    same m f = go (change_of p row).after.bsy
        (sym (ap (λ (x : Option Connection). connection_after x (call p) (change_of p row) row) f) ∙ e)
      where
        go : (q : Bool) → (if q then Some m else None) ≡ Some n → m ≡ n
        go true z = same_Some m n z
        go false z = none_some n z

    by : (x : Option Connection) → connection p ≡ x
        → kept_opening s (run_state s (row ∷ p)) n ≡ opening_since s (row ∷ p)
    by None f =
        told None f ∙ begun_opening s k row d l n selects
        ∙ (λ i. opening_of s k n (aim_of ((prompt_plain s p prompt.0).story i).aims n.initiator))
        ∙ (λ i. opening_with s p (sym f i) (sym e i) (opening_since s p))
    by (Some m) f =
        told (Some m) f
        ∙ (λ i. opening s (sym (same m f) i).initiator (plan_keeps (hearing_of k row d) l k.exchange.plan i) k.served)
        ∙ before m f (ap (λ (x : Connection). x.reselected) (same m f) ∙ selects)
        ∙ (λ i. opening_with s p (sym f i) (sym e i) (opening_since s p))

pub all_openings : (s : ScenarioValue) (p : List Row) (n : Connection) → Obeys s → IsPrompt s p → connection p ≡ Some n
    → n.reselected ≡ false → kept_opening s (run_state s p) n ≡ opening_since s p
all_openings s [] n o prompt e selects = none_some n e
all_openings s (row ∷ p) n o prompt e selects =
    opening_next s p row n o prompt e selects (λ m f g. all_openings s p m o prompt.0 f g)

-- ---- as MESSAGE OUT is left

out_phase : (l : LineSet) → is_message_out l ≡ true → phase_of l ≡ Phase.MessageOut
out_phase l e = go l.msg l.cd l.io e
  where
    go : (m c i : Bool) → (m && c && not i) ≡ true → (if m then (if i then Phase.MessageIn else Phase.MessageOut)
        else if c then (if i then Phase.Status else Phase.Command) else if i then Phase.DataIn else Phase.DataOut)
        ≡ Phase.MessageOut
    go true true false z = refl
    go _ _ _ z = wrong' z

said_first : (s : ScenarioValue) (n : Connection) (served : Option Item) (x : Exchange)
    → AreWordsFor s n served x Cause.Selected → x.speech.words ≡ opening s n.initiator x.plan.negotiates served
said_first s n served x (opens e) = e

-- The phase is left by its last byte.
left_whole : (s : ScenarioValue) (p : List Row) (row : Row) (n : Connection) → Obeys s → IsPrompt s (row ∷ p)
    → IsLeaving p row n → changes_phase (change_of p row) ≡ true → LeavesWhole s (run_state s p) n
left_whole s p row n o prompt w turns = of (standing_next s p row o prompt (whole s p o prompt.0)).row_is
  where
    k : RunState
    k = run_state s p

    pl : IsPlain s p k
    pl = run_state_plain s p (whole s p o prompt.0).stood.standing.devices

    change : (row_reading k.story.bus_state row).change ≡ change_of p row
    change = change_plain s row p (whole s p o prompt.0).stood.standing.devices (least_is s p row prompt.1).inside

    turned : changes_phase (row_reading k.story.bus_state row).change ≡ true
    turned = ap changes_phase change ∙ turns

    here : k.story.bus_state.connection ≡ Some n
    here = pl.connection ∙ w.stands

    this : (m : Connection) → k.story.bus_state.connection ≡ Some m → m ≡ n
    this m e = same_Some m n (sym e ∙ here)

    of : RowOf s k row → LeavesWhole s k n
    of (apart e f) = none_some n (sym e ∙ here)
    of (begins m g) = none_some n (sym g.first.connection_is ∙ here)
    of (goes_on m c g) = subst (λ (x : Connection). LeavesWhole s k x) (this m g.row_is.connection_is) (g.leaves turned)
    of (ends m g) = subst (λ (x : Connection). LeavesWhole s k x) (this m g.connection_is) (g.leaves turned)
    of (under_reset on e) = wrong (sym on ∙ ap (λ (c : Change). c.after.rst) change ∙ w.calm_after)

pub opening_told : (s : ScenarioValue) (p : List Row) (row : Row) (n : Connection) → Obeys s
    → IsPrompt s (row ∷ p) → IsLeaving p row n → changes_phase (change_of p row) ≡ true → n.reselected ≡ false
    → is_message_out (bus p) ≡ true → (run_state s p).exchange.plan.cause ≡ Cause.Selected
    → understanding (run_state s p).exchange.plan (run_state s p).story.bus_state.dialogue
    ≡ understood nothing_understood (opening_since s p)
opening_told s p row n o prompt w turns selects out cause =
    let k : RunState = run_state s p in
    let was : Whole s p = whole s p o prompt.0 in
    let pl : IsPlain s p k = run_state_plain s p was.stood.standing.devices in
    let lines : is_message_out (bus_of k) ≡ true = ap is_message_out pl.bus ∙ out in
    let speaks : IsSpeaking s n k.served k.exchange k.story.bus_state.dialogue =
    (was.stood.books.speaks n (pl.connection ∙ w.stands) (ap (λ (l : LineSet). l.rst) pl.bus ∙ w.calm)).in_message_out
    (pl.begun ∙ w.begun_is) lines in
    let last : k.story.bus_state.dialogue.is_last ≡ true = (left_whole s p row n o prompt w turns).out
    (out_phase (bus_of k) lines) in
    speaks.heard.last last ∙ ap (λ (x : List ℕ). understood nothing_understood x) (said_first s n k.served k.exchange
    (subst (λ (c : Cause). AreWordsFor s n k.served k.exchange c) cause speaks.words_for)
    ∙ all_openings s p n o prompt.0 w.stands selects)

-- ---- requests

pub offers_settled : (s : ScenarioValue) (p : List Row) (n : Connection) → Obeys s → IsPrompt s p
    → connection p ≡ Some n → (bus p).rst ≡ false → begun p ≡ true → (bus p).msg ≡ false
    → (dialogue p).heard.now.offer ≡ None
offers_settled s p n o prompt con off b low =
    let w : Whole s p = whole s p o prompt in
    let pl : IsPlain s p (run_state s p) = run_state_plain s p w.stood.standing.devices in
    ap (λ (d : Dialogue). d.heard.now.offer) (sym pl.dialogue)
    ∙ (w.facts.offers n con off).settled (pl.begun ∙ b) (ap (λ (l : LineSet). l.msg) pl.bus ∙ low)
