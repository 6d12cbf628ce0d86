-- Row by row in MESSAGE OUT: what is kept of the place of the next byte.
use Rattle.measure_laws.proofs
use proofs.Names.{ℕ, ◌≡◌, ◌<◌, ◌∙◌, Bool, true, false, List, ◌∷◌, refl, sym, ap, subst, Option, Some, None, ◌&&◌, ◌+◌}
use proofs.Names.{◌%◌, if◌then◌else◌, is_some, not, wrong', counted_on, change_of, rises, LineSet, changes_phase}
use proofs.Names.{is_message_out, is_message_in, connection, is_fault, receiver, bus, Row, Change, Connection}
use proofs.Names.{Handshakes, answered_if, asked_if, handshakes, handshakes_after, no_handshakes, newest_struck_if}
use proofs.Names.{byte_crosses, byte_else, byte_in, byte_out, dialogue, phase_begins, Dialogue, ScenarioValue, Exchange}
use proofs.Names.{attends_with, speech_after_byte, speech_after_request, host_of, AreOfDevices, run_state, hearing_of}
use proofs.Names.{leaving, in_connection, same_phase_is, RowKind, crosses, reading_in, still, strikes, turns}
use proofs.{Names.{change_plain, TermsAfter, terms_after, none_some, Goes}, Words.Voices.{IsVoiced, VoicedAt}}
use proofs.Words.Voices.{begins_place, begins_unstruck, begun_voiced, heard_voiced, still_voiced, struck_voiced}
use proofs.Words.Voices.{voiced_by}

-- The lines of MESSAGE OUT.
pub record InWords (b : LineSet) : Type 0 where
  pub msg : b.msg ≡ true
  pub cd : b.cd ≡ true
  pub io : b.io ≡ false

answers_asked : (b : Bool) (t : ℕ) (h : Handshakes) → (asked_if b t h).answers ≡ h.answers
answers_asked true t h = refl
answers_asked false t h = refl

answers_struck : (b : Bool) (h : Handshakes) → (newest_struck_if b h).answers ≡ h.answers
answers_struck true h = refl
answers_struck false h = refl

-- To the target a byte crosses as ACK rises.
no_ack : (n : Connection) (io a b : Bool) → io ≡ false
    → (if io then (if a then Some n.initiator else None) else if b then Some n.target else None) ≡ None → b ≡ false
no_ack n true a b e z = wrong' (sym e)
no_ack n false a true e z = absurd (none_some n.target (sym z))
no_ack n false a false e z = refl

one_ack : (n : Connection) (io a b : Bool) (dev : ℕ) → io ≡ false
    → (if io then (if a then Some n.initiator else None) else if b then Some n.target else None) ≡ Some dev → b ≡ true
one_ack n true a b dev e z = wrong' (sym e)
one_ack n false a true dev e z = refl
one_ack n false a false dev e z = absurd (none_some dev z)

pub voice_step : (s : ScenarioValue) (p : List Row) (row : Row) (n : Connection) → AreOfDevices p
    → row.dev < 8 → connection p ≡ Some n → connection (row ∷ p) ≡ Some n → Goes s p row n
    → InWords (bus (row ∷ p)) → (is_fault row.kind ≡ true → is_some (receiver p) ≡ true)
    → (changes_phase (change_of p row) ≡ false → InWords (bus p) → VoicedAt s p) → VoicedAt s (row ∷ p)
voice_step s p row n dv lt con after g here struck was = go g.row_is.kind
  where
    c : Change
    c = g.change

    change : change_of p row ≡ c
    change = sym (change_plain s row p dv lt) ∙ g.row_is.change_is

    z : TermsAfter p row n c
    z = terms_after p row n c change con after

    -- Within the phase.
    words : changes_phase c ≡ false → InWords c.before
    words ep =
        let e = same_phase_is c ep in
        record {
          msg = sym e.msg ∙ ap (λ (x : Change). x.after.msg) (sym change) ∙ here.msg;
          cd = sym e.cd ∙ ap (λ (x : Change). x.after.cd) (sym change) ∙ here.cd;
          io = sym e.io ∙ ap (λ (x : Change). x.after.io) (sym change) ∙ here.io;
        }

    before : changes_phase c ≡ false → VoicedAt s p
    before ep =
        let w = words ep in
        was (ap changes_phase change ∙ ep) (record {
          msg = ap (λ (x : Change). x.before.msg) change ∙ w.msg;
          cd = ap (λ (x : Change). x.before.cd) change ∙ w.cd;
          io = ap (λ (x : Change). x.before.io) change ∙ w.io;
        })

    go : RowKind row n c → VoicedAt s (row ∷ p)
    go (turns el ep er) =
        let k = run_state s p in
        let ic = in_connection s k row n c true false false g.row_is ep (ap (λ (x : Option ℕ). is_some x) er) el in
        let place = ap (λ (x : Exchange). x.speech.place) ic.exchange_is ∙ begins_place (host_of s n.initiator)
        (hearing_of k row (reading_in k.story.bus_state n c false)) k.exchange.speech in
        let plain = ap (λ (x : Exchange). x.plan.struck) ic.exchange_is ∙ begins_unstruck
        (hearing_of k row (reading_in k.story.bus_state n c false)) (leaving s k n.target) k.exchange.plan in
        let answers : (handshakes (row ∷ p)).answers ≡ 0 = ap (λ (h : Handshakes). h.answers) z.handshakes_are
        ∙ (λ i. (handshakes_after (el i) (Some n) c row.time (handshakes p)).answers)
        ∙ ap (λ (b : Bool). (if b then no_handshakes else answered_if (rises c.before.ack c.after.ack) row.time
        (asked_if (rises c.before.req c.after.req) row.time (handshakes p))).answers) ep in
        let none : is_some (receiver (row ∷ p)) ≡ false = ap (λ (x : Option ℕ). is_some x) (z.receiver_is ∙ er) in
        voiced_by _ _ _ _ _ _ _ _ refl refl answers none
        (begun_voiced (run_state s (row ∷ p)).exchange (dialogue (row ∷ p)).is_last place plain)
    go (still el ep er) =
        let k = run_state s p in
        let ic = in_connection s k row n c false false false g.row_is ep (ap (λ (x : Option ℕ). is_some x) er) el in
        let low = no_ack n c.before.io (rises c.before.req c.after.req)
        (rises c.before.ack c.after.ack) (words ep).io er in
        let answers : (handshakes (row ∷ p)).answers ≡ (handshakes p).answers =
        ap (λ (h : Handshakes). h.answers) z.handshakes_are
        ∙ (λ i. (handshakes_after (el i) (Some n) c row.time (handshakes p)).answers)
        ∙ (λ i. (if ep i then no_handshakes
        else answered_if (low i) row.time (asked_if (rises c.before.req c.after.req) row.time (handshakes p))).answers)
        ∙ answers_asked (rises c.before.req c.after.req) row.time (handshakes p) in
        let last : (dialogue (row ∷ p)).is_last ≡ (dialogue p).is_last = ap (λ (d : Dialogue). d.is_last) z.dialogue_is
        ∙ (λ i. (if is_some (er i) then byte_crosses (dialogue p) c
        else if ep i then phase_begins (dialogue p) else dialogue p).is_last) in
        let none : is_some (receiver (row ∷ p)) ≡ false = ap (λ (x : Option ℕ). is_some x) (z.receiver_is ∙ er) in
        voiced_by _ _ _ _ _ _ _ _ ic.exchange_is last answers none
        (still_voiced k.exchange (dialogue p).is_last (handshakes p).answers (is_some (receiver p)) (before ep))
    go (strikes el ep er) =
        let k = run_state s p in
        let ic = in_connection s k row n c false false true g.row_is ep (ap (λ (x : Option ℕ). is_some x) er) el in
        let place = ap (λ (x : Exchange). x.speech.place) ic.exchange_is in
        let answers : (handshakes (row ∷ p)).answers ≡ (handshakes p).answers =
        ap (λ (h : Handshakes). h.answers) z.handshakes_are
        ∙ (λ i. (handshakes_after (el i) (Some n) c row.time (handshakes p)).answers)
        ∙ answers_struck c.before.io (handshakes p) in
        let last : (dialogue (row ∷ p)).is_last ≡ (dialogue p).is_last = ap (λ (d : Dialogue). d.is_last) z.dialogue_is
        ∙ (λ i. (if is_some (er i) then byte_crosses (dialogue p) c
        else if ep i then phase_begins (dialogue p) else dialogue p).is_last) in
        voiced_by _ _ _ _ _ _ _ _ refl last answers refl (struck_voiced k.exchange (run_state s (row ∷ p)).exchange
        (dialogue p).is_last (handshakes p).answers (is_some (receiver (row ∷ p))) place
        (subst (λ r. IsVoiced k.exchange (dialogue p).is_last (handshakes p).answers r) (struck el) (before ep)))
    go (crosses dev el ep er) =
        let k = run_state s p in
        let w = words ep in
        let d = dialogue p in
        let byte = c.after.data_bits % 256 in
        let out : is_message_out c.before ≡ true = λ i. w.msg i && w.cd i && not (w.io i) in
        let ic = in_connection s k row n c false true false g.row_is ep (ap (λ (x : Option ℕ). is_some x) er) el in
        let up = one_ack n c.before.io (rises c.before.req c.after.req) (rises c.before.ack c.after.ack) dev w.io er in
        let place : (run_state s (row ∷ p)).exchange.speech.place
        ≡ (if attends_with k.exchange.speech then k.exchange.speech.place + 1 else 0) =
        ap (λ (x : Exchange). x.speech.place) ic.exchange_is
        ∙ ap (λ (q : Bool). (if q then speech_after_byte k.exchange.speech else speech_after_request k.exchange.speech
        (hearing_of k row (reading_in k.story.bus_state n c true)).into).place) out in
        let answers : (handshakes (row ∷ p)).answers ≡ counted_on (handshakes p).answers =
        ap (λ (h : Handshakes). h.answers) z.handshakes_are
        ∙ (λ i. (handshakes_after (el i) (Some n) c row.time (handshakes p)).answers)
        ∙ (λ i. (if ep i then no_handshakes
        else answered_if (up i) row.time (asked_if (rises c.before.req c.after.req) row.time (handshakes p))).answers)
        ∙ ap counted_on (answers_asked (rises c.before.req c.after.req) row.time (handshakes p)) in
        let atn : c.after.atn ≡ attends_with k.exchange.speech = g.answered.attends_is out
        (ap (λ (x : Option ℕ). is_some x) er) in
        let last : (dialogue (row ∷ p)).is_last ≡ not (attends_with k.exchange.speech) =
        ap (λ (d : Dialogue). d.is_last) z.dialogue_is
        ∙ (λ i. (if is_some (er i) then (if out i then byte_out d byte (not (atn i)) else if is_message_in c.before
        then byte_in d byte else byte_else d c.before byte) else if ep i then phase_begins d else d).is_last) in
        voiced_by _ _ _ _ _ _ _ _ refl refl answers refl
        (heard_voiced (run_state s (row ∷ p)).exchange (dialogue (row ∷ p)).is_last (attends_with k.exchange.speech)
        k.exchange.speech.place (handshakes p).answers (is_some (receiver (row ∷ p))) place last)
