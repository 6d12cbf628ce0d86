-- MESSAGE OUT that follows a phase to the initiator in which a byte was struck is left with the complaint heard
-- (6.6.10, 6.6.13): it is not the answer to a request of the target (6.6.21).
use Rattle.dialogue_laws.proofs
use proofs.Names.{inl, ◌≡◌, ◌<◌, Bool, true, false, not, ◌&&◌, ◌||◌, ◌∙◌, List, [], ◌∷◌, Option, Some, None, refl, sym}
use proofs.Names.{ap, subst, if◌then◌else◌, is_none, is_some, wrong', change_of, LineSet, changes_phase, is_message_in}
use proofs.Names.{is_message_out, connection, is_fault, receiver_in, bus, Row, Agreement, Change, Connection}
use proofs.Names.{Handshakes, MsgIn, MsgOut, ScenarioValue, Obeys, HostDef, Process, RowReading, row_reading, Exchange}
use proofs.Names.{Speech, plan_after_message, speech_after_byte, speech_after_request, struck_plan, begun, begun_after}
use proofs.Names.{phase_of, cause_after, answer_bytes, detected_error, parity_error, Cause, Phase, Plan, Said}
use proofs.Names.{run_state_plain, host_of, IsPrompt, IsPlain, RunState, bus_of, run_state, run_state_after}
use proofs.Names.{InConnection, in_connection, is_out_phase, reading_in, is_complaint, is_refusing, is_struck_phase}
use proofs.Names.{change_plain, least_is, LinkStage, when_offering, when_pulsing, when_selected, when_settling}
use proofs.Names.{when_shaking, when_turning, none_some, in_phase, out_phase, GoingRow, RowKindOf, begins_now}
use proofs.Names.{connection_row, goes_now, going_row, row_kind, stage_of_connection, IsLeaving, speech_said, out_is}
use proofs.Names.{all_said, parity_said, or_left, Whole, standing_next, whole, IsWithin, phase_if, present_phase}
use proofs.{Leavings.{Recoveries.{Left, phase_is, taken_all}, Rows.{phase_end, words_by}}, Struck.Phases.{is_talk}}
use proofs.Struck.Phases.{struck_attends}

-- The initiator has a complaint to say.
abbrev Refuses : Exchange → Cause → Type 0
Refuses x Cause.Selected = false ≡ true
Refuses x Cause.InMessage = x.speech.words ≡ parity_error
Refuses x Cause.InData = true ≡ true
Refuses x Cause.InStatus = true ≡ true

abbrev RefusalFacts : ScenarioValue → List Row → Type 0
RefusalFacts s p = (n : Connection) → connection p ≡ Some n → (bus p).rst ≡ false → begun p ≡ true
    → is_refusing s p ≡ true → Refuses (run_state s p).exchange (run_state s p).exchange.plan.cause

refuses_as : (x y : Exchange) (cause : Cause) → y.speech.words ≡ x.speech.words → Refuses x cause → Refuses y cause
refuses_as x y Cause.InMessage e h = e ∙ h
refuses_as x y _ e h = h

-- ---- the phase stays

cause_said : (q last : Bool) (m : Option MsgOut) (l : Plan)
    → (if q then plan_after_message l last m else l).cause ≡ l.cause
cause_said true true m l = refl
cause_said _ _ m l = refl

cause_struck : (q : Bool) (l : Plan) → (if q then struck_plan l else l).cause ≡ l.cause
cause_struck true l = refl
cause_struck false l = refl

-- What the initiator says, and why, stays.
record SameWords (x y : Exchange) : Type 0 where
  words : y.speech.words ≡ x.speech.words
  cause : y.plan.cause ≡ x.plan.cause

same_words : (s : ScenarioValue) (k : RunState) (row : Row) (n : Connection) (c : Change) (now fault : Bool)
    → InConnection s k row n c false now fault → SameWords k.exchange (run_state_after s k row).exchange
same_words s k row n c true fault at =
    let d = reading_in k.story.bus_state n c true in
    record {
      words = ap (λ (x : Exchange). x.speech.words) at.exchange_is
          ∙ speech_said (is_message_out c.before) d.into k.exchange.speech;
      cause = ap (λ (x : Exchange). x.plan.cause) at.exchange_is
          ∙ cause_said (is_message_out c.before) k.story.bus_state.dialogue.is_last d.out k.exchange.plan;
    }
same_words s k row n c false fault at = record {
  words = ap (λ (x : Exchange). x.speech.words) at.exchange_is;
  cause = ap (λ (x : Exchange). x.plan.cause) at.exchange_is ∙ cause_struck (fault && not c.before.io) k.exchange.plan;
}

words_stay : (s : ScenarioValue) (p : List Row) (row : Row) (n : Connection) → Obeys s → IsPrompt s (row ∷ p)
    → Whole s p → IsWithin p row n → SameWords (run_state s p).exchange (run_state s (row ∷ p)).exchange
words_stay s p row n o prompt was w =
    let k : RunState = run_state s p in
    let lt = (least_is s p row prompt.1).inside in
    let g : GoingRow s p row n = going_row s p row n was.stood.standing.devices lt w.before w.after w.calm_after
    (standing_next s p row o prompt was).row_is
    (connection_row s p row n o prompt was.stood w.before w.calm w.calm_after).facts in
    same_words s k row n g.change (is_some (receiver_in n g.change)) (is_fault row.kind)
    (in_connection s k row n g.change false (is_some (receiver_in n g.change)) (is_fault row.kind) g.goes.row_is
    (ap changes_phase g.change_is ∙ w.lasts) refl refl)

pub cause_stays : (s : ScenarioValue) (p : List Row) (row : Row) (n : Connection) → Obeys s → IsPrompt s (row ∷ p)
    → IsWithin p row n → (run_state s (row ∷ p)).exchange.plan.cause ≡ (run_state s p).exchange.plan.cause
cause_stays s p row n o prompt w = (words_stay s p row n o prompt (whole s p o prompt.0) w).cause

-- ---- it begins

-- I/O is true in phases alone.
begun_with_io : (s : ScenarioValue) (p : List Row) (n : Connection) → LinkStage s p n → (bus p).io ≡ true
    → begun p ≡ true
begun_with_io s p n (when_selected h) io = wrong' (sym (ap (λ (l : LineSet). l.io) h.linked.stands.bus_is) ∙ io)
begun_with_io s p n (when_settling bsy atn msg cd i y h) io = h.phase.begun_is
begun_with_io s p n (when_turning atn x msg cd h) io = h.phase.begun_is
begun_with_io s p n (when_offering atn msg cd y h) io = h.phase.begun_is
begun_with_io s p n (when_shaking msg cd i req ack atn x y h) io = h.phase.begun_is
begun_with_io s p n (when_pulsing i req ack atn x y h a) io = h.phase.begun_is

begins_refusing : (x : Exchange) (h : Option HostDef) (b : LineSet) (struck : Bool) (asked : Agreement)
    → x.plan.cause ≡ cause_after b → x.speech.words ≡ words_by h b struck asked
    → (is_message_in b ≡ true → struck ≡ true) → Refuses x x.plan.cause
begins_refusing x h b struck asked cause words told =
    subst (λ (y : Cause). Refuses x y) (sym cause) (go (is_message_in b) refl b.cd)
  where
    go : (m : Bool) → is_message_in b ≡ m
        → (c : Bool) → Refuses x (if m then Cause.InMessage else if c then Cause.InStatus else Cause.InData)
    go true e c =
        words ∙ (λ i. if not (e i) then detected_error else if told e i then parity_error else answer_bytes h asked)
    go false e true = refl
    go false e false = refl

three : (a b c : Bool) → (a && b && c) ≡ true → (a ≡ true) × (b ≡ true) × (c ≡ true)
three true true true e = (refl, refl, refl)
three _ _ _ e = wrong' e

-- ---- any row

refusal_next : (s : ScenarioValue) (p : List Row) (row : Row) → Obeys s → IsPrompt s (row ∷ p) → Whole s p
    → RefusalFacts s p → RefusalFacts s (row ∷ p)
refusal_next s p row o prompt was facts n after calm b here = by (row_kind s p row n o prompt was.stood after calm)
  where
    q : List Row
    q = row ∷ p

    k : RunState
    k = run_state s p

    c : Change
    c = change_of p row

    d : RowReading
    d = row_reading k.story.bus_state row

    lt : row.dev < 8
    lt = (least_is s p row prompt.1).inside

    pl : IsPlain s p k
    pl = run_state_plain s p was.stood.standing.devices

    change : d.change ≡ c
    change = change_plain s row p was.stood.standing.devices lt

    refusing :
        (if changes_phase c then c.before.io && is_struck_phase s p && is_message_out c.after else is_refusing s p)
        ≡ true
    refusing = (λ i. if changes_phase (sym change i)
        then (sym change i).before.io && is_struck_phase s p && is_message_out (sym change i).after
        else is_refusing s p) ∙ (three (is_some k.story.bus_state.connection) (is_some d.next) _ here).2

    entered : connection p ≡ Some n → (bus p).rst ≡ false → changes_phase c ≡ true
        → Refuses (run_state s q).exchange (run_state s q).exchange.plan.cause
    entered con off ep = begins_refusing (run_state s q).exchange (host_of s n.initiator)
        (bus_of k) k.handshakes.struck k.exchange.speech.asked says.0 says.1 told
      where
        begins : (c.before.io ≡ true) × (is_struck_phase s p ≡ true) × (is_message_out c.after ≡ true)
        begins = three c.before.io (is_struck_phase s p) (is_message_out c.after) (ap
            (λ (x : Bool). if x then c.before.io && is_struck_phase s p && is_message_out c.after else is_refusing s p)
            (sym ep) ∙ refusing)

        w : IsLeaving s p row n
        w = record {
          stands = con;
          calm = off;
          calm_after = calm;
          begun = pl.begun ∙ begun_with_io s p n (stage_of_connection s p n was.stood con off) begins.0;
          leaves = inl (ap changes_phase change ∙ ep);
        }

        present : present_phase q ≡ Some Phase.MessageOut
        present = ap (λ (x : Option Connection). phase_if x (bus q)) after
            ∙ ap (λ (x : Phase). Some x) (out_phase c.after begins.2)

        says : ((run_state s q).exchange.plan.cause ≡ cause_after (bus_of k)) × ((run_state s q).exchange.speech.words
            ≡ words_by (host_of s n.initiator) (bus_of k) k.handshakes.struck k.exchange.speech.asked)
        says = (phase_end s p row n o prompt w).says present

        told : is_message_in (bus_of k) ≡ true → k.handshakes.struck ≡ true
        told m = ap (λ (x : Handshakes). x.struck) pl.handshakes ∙ (struck_attends s p row n o prompt w
            (ap is_talk (in_phase (bus p) (ap is_message_in (sym pl.bus) ∙ m))) begins.1).1

    stays : connection p ≡ Some n → (bus p).rst ≡ false → changes_phase c ≡ false
        → Refuses (run_state s q).exchange (run_state s q).exchange.plan.cause
    stays con off ep = subst (λ (x : Cause). Refuses (run_state s q).exchange x) (sym words.cause) (refuses_as
        k.exchange (run_state s q).exchange k.exchange.plan.cause words.words (facts n con off started before))
      where
        started : begun p ≡ true
        started = or_left (begun p)
            ((λ i. sym ep i || begun p) ∙ (λ i. begun_after (begun p) (sym con i) (sym after i) c) ∙ b)

        before : is_refusing s p ≡ true
        before = ap
            (λ (x : Bool). if x then c.before.io && is_struck_phase s p && is_message_out c.after else is_refusing s p)
            (sym ep) ∙ refusing

        words : SameWords k.exchange (run_state s q).exchange
        words = words_stay s p row n o prompt was
            (record { before = con; after = after; calm = off; calm_after = calm; lasts = ep })

    on : connection p ≡ Some n → (bus p).rst ≡ false → (x : Bool) → changes_phase c ≡ x
        → Refuses (run_state s q).exchange (run_state s q).exchange.plan.cause
    on con off true ep = entered con off ep
    on con off false ep = stays con off ep

    none : connection p ≡ None → false ≡ true
    none alone = (λ i. is_some (sym (pl.connection ∙ alone) i) && is_some d.next
        && (if changes_phase d.change then d.change.before.io && is_struck_phase s p && is_message_out d.change.after
        else is_refusing s p)) ∙ here

    by : RowKindOf s p row n → Refuses (run_state s q).exchange (run_state s q).exchange.plan.cause
    by (begins_now alone f) = wrong' (none alone)
    by (goes_now con off) = on con off (changes_phase c) refl

refusals : (s : ScenarioValue) (p : List Row) → Obeys s → IsPrompt s p → RefusalFacts s p
refusals s [] o prompt = λ n e off b here. none_some n e
refusals s (row ∷ p) o prompt = refusal_next s p row o prompt (whole s p o prompt.0) (refusals s p o prompt.0)

-- ---- MESSAGE OUT is left

complains : (x : Exchange) (cause : Cause) → x.plan.cause ≡ cause → Refuses x cause
    → (x.speech.words ≡ parity_error → x.plan.said.offer ≡ None) → is_complaint x.plan cause ≡ true
complains x Cause.Selected e h f = wrong' h
complains x Cause.InMessage e h f = ap (λ (a : Option Agreement). is_none a) (f h)
complains x Cause.InData e h f = refl
complains x Cause.InStatus e h f = refl

-- The target has heard the complaint.
pub refused_out : (s : ScenarioValue) (p : List Row) (row : Row) (n : Connection) (q : Process) → Obeys s
    → IsPrompt s (row ∷ p) → Left s p row n q → phase_of (bus p) ≡ Phase.MessageOut → is_refusing s p ≡ true
    → is_complaint (run_state s p).exchange.plan (run_state s p).exchange.plan.cause ≡ true
refused_out s p row n q o prompt h e refusing = complains k.exchange k.exchange.plan.cause refl
    (refusals s p o prompt.0 n h.leaving_row.stands h.leaving_row.calm (sym pl.begun ∙ h.leaving_row.begun) refusing)
    unasked
  where
    k : RunState
    k = run_state s p

    pl : IsPlain s p k
    pl = run_state_plain s p h.end.was.stood.standing.devices

    out : is_message_out (bus_of k) ≡ true
    out = out_is (bus_of k) h.end.known ∙ ap is_out_phase (phase_is s p row n q h Phase.MessageOut e)

    -- of MESSAGE PARITY ERROR alone no request is heard
    unasked : k.exchange.speech.words ≡ parity_error → k.exchange.plan.said.offer ≡ None
    unasked words =
        let speaks = h.end.was.stood.books.speaks n (pl.connection ∙ h.leaving_row.stands)
        (ap (λ (x : LineSet). x.rst) pl.bus ∙ h.leaving_row.calm) in
        let heard = (speaks.in_message_out h.leaving_row.begun out).heard in
        ap (λ (z : Said). z.offer) (all_said k.exchange k.story.bus_state.dialogue parity_error heard
        (taken_all s p row n o h.end h.leaving_row e).last words ∙ parity_said)
