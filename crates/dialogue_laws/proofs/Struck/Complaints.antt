-- As the target leaves a phase to the initiator with ATN true MESSAGE OUT follows, and the initiator says what it
-- complains of.
use Rattle.dialogue_laws.proofs
use proofs.Names.{ℕ, ◌≡◌, Bool, true, false, not, ◌∙◌, List, ◌∷◌, Option, Some, refl, sym, ap, ◌&&◌, same_Some}
use proofs.Names.{if◌then◌else◌, wrong', LineSet, is_message_in, bus, Row, Connection, Handshakes, handshakes}
use proofs.Names.{INITIATOR_DETECTED_ERROR, ScenarioValue, Obeys, Process, phase_of, cause_after, answer_bytes}
use proofs.Names.{detected_error, parity_error, Cause, Phase, run_state_plain, host_of, IsPrompt, IsPlain, RunState}
use proofs.Names.{bus_of, carried_here, run_state, code_if, left_for_out, is_attended, in_of, sent_asks, Complains}
use proofs.{Names.{present_phase}, Leavings.{Recoveries.{Left, id_served, phase_is}, Rows.{words_by}}}

-- ---- lines of a phase

data_in_is : (b : LineSet) → phase_of b ≡ Phase.DataIn → (is_message_in b ≡ false) × (b.cd ≡ false)
data_in_is b e = go b.msg b.cd b.io (ap of e)
  where
    of : Phase → Bool
    of Phase.DataIn = true
    of _ = false

    go : (m c i : Bool) → of (if m then (if i then Phase.MessageIn else Phase.MessageOut)
        else if c then (if i then Phase.Status else Phase.Command) else if i then Phase.DataIn else Phase.DataOut)
        ≡ true → ((m && c && i) ≡ false) × (c ≡ false)
    go true c true f = wrong' f
    go true c false f = wrong' f
    go false true true f = wrong' f
    go false true false f = wrong' f
    go false false true f = (refl, refl)
    go false false false f = wrong' f

status_is : (b : LineSet) → phase_of b ≡ Phase.Status → (is_message_in b ≡ false) × (b.cd ≡ true)
status_is b e = go b.msg b.cd b.io (ap of e)
  where
    of : Phase → Bool
    of Phase.Status = true
    of _ = false

    go : (m c i : Bool) → of (if m then (if i then Phase.MessageIn else Phase.MessageOut)
        else if c then (if i then Phase.Status else Phase.Command) else if i then Phase.DataIn else Phase.DataOut)
        ≡ true → ((m && c && i) ≡ false) × (c ≡ true)
    go true c true f = wrong' f
    go true c false f = wrong' f
    go false true true f = (refl, refl)
    go false true false f = wrong' f
    go false false true f = wrong' f
    go false false false f = wrong' f

-- ---- MESSAGE OUT follows

out_follows : (s : ScenarioValue) (p : List Row) (row : Row) (n : Connection) (q : Process) → Left s p row n q
    → (phase : Phase) → phase_of (bus p) ≡ phase → is_attended phase ≡ true → (bus p).atn ≡ true
    → present_phase (row ∷ p) ≡ Some Phase.MessageOut
out_follows s p row n q h phase e there atn =
    let k : RunState = run_state s p in
    let pl : IsPlain s p k = run_state_plain s p h.end.was.stood.standing.devices in
    sym h.end.whereto ∙ left_for_out s k n.target h.leaving_row.begun
    (ap is_attended (phase_is s p row n q h phase e) ∙ there) (ap (λ (l : LineSet). l.atn) pl.bus ∙ atn)

complains :
    (s : ScenarioValue) (p : List Row) (row : Row) (n : Connection) (q : Process) (cause : Cause) (words : List ℕ)
    → Left s p row n q → (phase : Phase) → phase_of (bus p) ≡ phase → is_attended phase ≡ true
    → (bus p).atn ≡ true → cause_after (bus_of (run_state s p)) ≡ cause → words_by (host_of s n.initiator)
    (bus_of (run_state s p)) (run_state s p).handshakes.struck (run_state s p).exchange.speech.asked ≡ words
    → Complains s p row cause words
complains s p row n q cause words h phase e there atn is said =
    let out = out_follows s p row n q h phase e there atn in
    let w = h.end.says out in
    record { asked = (here out, w.0 ∙ is); stands = out; words_are = w.1 ∙ said }
  where
    here : present_phase (row ∷ p) ≡ Some Phase.MessageOut → phase_of (bus (row ∷ p)) ≡ Phase.MessageOut
    here out = same_Some (phase_of (bus (row ∷ p))) Phase.MessageOut
        (sym (ap (λ (x : Option Connection). Rattle.dialogue_laws.specs.Recoveries.phase_if x (bus (row ∷ p)))
        (h.end.stands Phase.MessageOut out).0) ∙ out)

pub data_in_complains : (s : ScenarioValue) (p : List Row) (row : Row) (n : Connection) (q : Process) → Left s p row n q
    → phase_of (bus p) ≡ Phase.DataIn → (bus p).atn ≡ true → Complains s p row Cause.InData detected_error
data_in_complains s p row n q h e atn =
    let k : RunState = run_state s p in
    let l = data_in_is (bus_of k) (phase_is s p row n q h Phase.DataIn e) in
    complains s p row n q Cause.InData detected_error h Phase.DataIn e refl atn (λ i. if l.0 i then Cause.InMessage
    else if l.1 i then Cause.InStatus else Cause.InData) (λ i. if not (l.0 i) then detected_error
    else if k.handshakes.struck then parity_error else answer_bytes (host_of s n.initiator) k.exchange.speech.asked)

pub status_complains : (s : ScenarioValue) (p : List Row) (row : Row) (n : Connection) (q : Process) → Left s p row n q
    → phase_of (bus p) ≡ Phase.Status → (bus p).atn ≡ true → Complains s p row Cause.InStatus detected_error
status_complains s p row n q h e atn =
    let k : RunState = run_state s p in
    let l = status_is (bus_of k) (phase_is s p row n q h Phase.Status e) in
    complains s p row n q Cause.InStatus detected_error h Phase.Status e refl atn (λ i. if l.0 i then Cause.InMessage
    else if l.1 i then Cause.InStatus else Cause.InData) (λ i. if not (l.0 i) then detected_error
    else if k.handshakes.struck then parity_error else answer_bytes (host_of s n.initiator) k.exchange.speech.asked)

pub message_complains : (s : ScenarioValue) (p : List Row) (row : Row) (n : Connection) (q : Process)
    → Left s p row n q → phase_of (bus p) ≡ Phase.MessageIn → (bus p).atn ≡ true → (handshakes p).struck ≡ true
    → Complains s p row Cause.InMessage parity_error
message_complains s p row n q h e atn struck =
    let k : RunState = run_state s p in
    let pl : IsPlain s p k = run_state_plain s p h.end.was.stood.standing.devices in
    let l = in_of (bus_of k) (phase_is s p row n q h Phase.MessageIn e) h.end.known in
    complains s p row n q Cause.InMessage parity_error h Phase.MessageIn e refl atn (λ i. if l i then Cause.InMessage
    else if (bus_of k).cd then Cause.InStatus else Cause.InData) (λ i. if not (l i) then detected_error
    else if (ap (λ (x : Handshakes). x.struck) pl.handshakes ∙ struck) i then parity_error
    else answer_bytes (host_of s n.initiator) k.exchange.speech.asked)

-- In DATA IN ATN is true then exactly where a byte of the run was struck.
pub data_in_attends : (s : ScenarioValue) (p : List Row) (row : Row) (n : Connection) (q : Process)
    → Obeys s → IsPrompt s (row ∷ p) → Left s p row n q → phase_of (bus p) ≡ Phase.DataIn
    → (carried_here (run_state s p) q.id).failure ≡ code_if (bus p).atn INITIATOR_DETECTED_ERROR
data_in_attends s p row n q o prompt h e =
    let k : RunState = run_state s p in
    let pl : IsPlain s p k = run_state_plain s p h.end.was.stood.standing.devices in
    sent_asks s p row o prompt h.end.was.stood h.end.was.facts h.end.was.sent n q.id h.leaving_row
    (id_served s p row n q h) (phase_is s p row n q h Phase.DataIn e)
    ∙ ap (λ (l : LineSet). code_if l.atn INITIATOR_DETECTED_ERROR) pl.bus
