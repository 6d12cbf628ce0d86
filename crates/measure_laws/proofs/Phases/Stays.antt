-- The phases that are to come stay with each row in a phase, whatever crosses with it.
use Rattle.measure_laws.proofs
use proofs.Names.{ℕ, ◌≡◌, ◌∙◌, Bool, true, false, List, ◌∷◌, refl, sym, ap, Option, Some, None, ◌+◌, ◌*◌, if◌then◌else◌}
use proofs.Names.{is_some, LineSet, is_message_out, receiver_in, Row, Connection, MsgOut, ScenarioValue, Exchange}
use proofs.Names.{nothing_heard, plan_after_message, said_with_if, phase_of, plan_with_byte, Cause, Hearing, Phase}
use proofs.Names.{Plan, run_state_plain, still_talk, host_of, bus_of, run_state, hearing_of, leaving, in_connection}
use proofs.Names.{crosses, reading_in, still, EndLines, row_of_lines, row_in, turn, after_words, phases_in, phases_left}
use proofs.{Names.{for_phase, for_reselection}, Lines.Shifts.{Shifts}}
use Rattle.due_model.specs.dialogue_model.specs.declared.exchange.Said.{Said}

-- ---- what is heard and struck is no matter to them

heard_words : (b : Bool) (l : Plan) (x : Said) (y : Bool) (c : Cause)
    → after_words b (record l { said = x; struck = y }) c ≡ after_words b l c
heard_words b l x y Cause.Selected = refl
heard_words true l x y Cause.InMessage = refl
heard_words false l x y Cause.InMessage = refl
heard_words true l x y Cause.InData = refl
heard_words false l x y Cause.InData = refl
heard_words true l x y Cause.InStatus = refl
heard_words false l x y Cause.InStatus = refl

heard_phases : (b : Bool) (l : Plan) (x : Said) (y : Bool) (phase : Phase)
    → phases_in b (record l { said = x; struck = y }) phase ≡ phases_in b l phase
heard_phases b l x y Phase.MessageOut = heard_words b l x y l.cause
heard_phases b l x y _ = refl

byte_phases : (b : Bool) (l : Plan) (last : Bool) (m : Option MsgOut) (out : Bool) (phase : Phase)
    → phases_in b (if out then plan_after_message l last m else l) phase ≡ phases_in b l phase
byte_phases b l true m true phase = heard_phases b l (said_with_if m nothing_heard) false phase
byte_phases b l false m true phase = heard_phases b l (said_with_if m l.said) l.struck phase
byte_phases b l last m false phase = refl

-- ---- a row

-- What is said and planned, by whether a byte crosses.
pub shift_exchange : (s : ScenarioValue) (p : List Row) (t d : ℕ) (l : LineSet) (n : Connection) (e f : EndLines)
    (o : LineSet) (u : Bool) → Shifts s p t d l n e f o u → (r : Option ℕ) → receiver_in n (turn e f o l) ≡ r
    → (run_state s (row_of_lines t d l ∷ p)).exchange
    ≡ still_talk false (is_some r) false (host_of s n.initiator) (hearing_of (run_state s p) (row_of_lines t d l)
    (reading_in (run_state s p).story.bus_state n (turn e f o l) (is_some r))) (leaving s (run_state s p) n.target)
    (run_state s p).exchange
shift_exchange s p t d l n e f o u h None er = (in_connection s (run_state s p) (row_of_lines t d l) n
    (turn e f o l) false false false (row_in s p t d l n e f o h.row (still refl h.phase er)) h.phase
    (ap (λ (x : Option ℕ). is_some x) er) refl).exchange_is
shift_exchange s p t d l n e f o u h (Some dev) er = (in_connection s (run_state s p) (row_of_lines t d l) n
    (turn e f o l) false true false (row_in s p t d l n e f o h.row (crosses dev refl h.phase er)) h.phase
    (ap (λ (x : Option ℕ). is_some x) er) refl).exchange_is

talk_phases : (b : Bool) (w : Hearing) (x : Exchange) (now : Bool) (phase : Phase)
    → phases_in b (if now then plan_with_byte w x.plan else x.plan) phase ≡ phases_in b x.plan phase
talk_phases b w x true phase = byte_phases b x.plan w.is_last w.out (is_message_out w.change.before) phase
talk_phases b w x false phase = refl

pub phases_stay : (s : ScenarioValue) (p : List Row) (t d : ℕ) (l : LineSet)
    (n : Connection) (e f : EndLines) (o : LineSet) (u : Bool) → Shifts s p t d l n e f o u
    → (b : Bool) → phases_left b (run_state s (row_of_lines t d l ∷ p)) ≡ phases_left b (run_state s p)
phases_stay s p t d l n e f o u h b =
    let row : Row = row_of_lines t d l in
    let k = run_state s p in
    let j = run_state s (row ∷ p) in
    let r = receiver_in n (turn e f o l) in
    let w = hearing_of k row (reading_in k.story.bus_state n (turn e f o l) (is_some r)) in
    let pk = run_state_plain s p h.row.devices in
    let pj = run_state_plain s (row ∷ p) (h.row.below, h.row.devices) in
    let exchange = shift_exchange s p t d l n e f o u h r refl in
    let phase : phase_of (bus_of j) ≡ phase_of (bus_of k) = ap phase_of (pj.bus ∙ h.row.moves.linked.stands.bus_is)
    ∙ h.same_phase ∙ sym (ap phase_of (pk.bus ∙ h.row.was.stands.bus_is)) in
    (λ i. if (exchange i).begun then phases_in b (exchange i).plan (phase i) else for_reselection + 8 * for_phase)
    ∙ (λ i. if k.exchange.begun then talk_phases b w k.exchange (is_some r) (phase_of (bus_of k)) i
    else for_reselection + 8 * for_phase)

-- So do the messages.
byte_messages : (l : Plan) (last : Bool) (m : Option MsgOut) (out : Bool)
    → (if out then plan_after_message l last m else l).messages ≡ l.messages
byte_messages l true m true = refl
byte_messages l false m true = refl
byte_messages l last m false = refl

talk_messages : (w : Hearing) (x : Exchange) (now : Bool)
    → (if now then plan_with_byte w x.plan else x.plan).messages ≡ x.plan.messages
talk_messages w x true = byte_messages x.plan w.is_last w.out (is_message_out w.change.before)
talk_messages w x false = refl

pub messages_stay : (s : ScenarioValue) (p : List Row) (t d : ℕ) (l : LineSet)
    (n : Connection) (e f : EndLines) (o : LineSet) (u : Bool) → Shifts s p t d l n e f o u
    → (run_state s (row_of_lines t d l ∷ p)).exchange.plan.messages ≡ (run_state s p).exchange.plan.messages
messages_stay s p t d l n e f o u h =
    let k = run_state s p in
    let r = receiver_in n (turn e f o l) in
    ap (λ (x : Exchange). x.plan.messages) (shift_exchange s p t d l n e f o u h r refl)
    ∙ talk_messages (hearing_of k (row_of_lines t d l) (reading_in k.story.bus_state n (turn e f o l) (is_some r)))
    k.exchange (is_some r)
