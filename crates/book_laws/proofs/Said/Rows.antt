-- What is said in a connection goes on with each of its rows.
use Rattle.book_laws.proofs
use proofs.Names.{ℕ, ◌≡◌, Bool, true, false, not, ◌&&◌, ◌∙◌, List, [], ◌∷◌, ◌++◌, Option, Some, None, refl, sym, ap}
use proofs.Names.{subst, true≢false, if◌then◌else◌, is_some, ◌%◌, LineSet, changes_phase, is_message_out, is_message_in}
use proofs.Names.{receiver_in, Row, Agreement, Change, Connection, got_out, MsgOut, fresh_bytes, byte_out, byte_in}
use proofs.Names.{byte_else, byte_crosses, phase_begins, Dialogue, ScenarioValue, HostDef, whole_out, message_out}
use proofs.Names.{message_in, Item, Speech, Exchange, next_word, attends_with, speech_after_byte, plan_after_message}
use proofs.Names.{plan_anew, plan_anew_if, struck_plan, speech_of, speech_after_request, request_after}
use proofs.Names.{plan_in_message_out, words_after, parity_error, detected_error, answer_bytes, Cause, Hearing, Leaving}
use proofs.Names.{Messages, Plan, still_talk, host_of, opening, RunState, bus_of, run_state_after, hearing_of, leaving}
use proofs.Names.{nothing_understood, form_messages, RowKind, still, strikes, crosses, turns, IsRowIn, reading_in}
use proofs.Names.{AreWordsHeard, AreWordsFor, opens, refuses, answers, rejects_data, rejects_status, IsAboutToSpeak}
use proofs.{Names.{IsSpeaking, SpeaksBy, Speaks, SaysNext}, Common.InConnection.{dialogue_by, InConnection}}
use proofs.{Common.InConnection.{in_connection, SamePhase, same_phase_is}, Said.Crossings.{says_on}}
use proofs.Said.Messages.{reads_on, errors_read, answer_reads}

-- ---- what is kept is known otherwise

speaks_as :
    (s : ScenarioValue) (n : Connection) (v v' : Option Item) (x x' : Exchange) (d d' : Dialogue) (b b' : LineSet)
    → v ≡ v' → x ≡ x' → d ≡ d' → b ≡ b' → SpeaksBy s n v' x' d' b' → SpeaksBy s n v x d b
speaks_as s n v v' x x' d d' b b' ev ex ed eb h = subst (λ (z : Option Item). SpeaksBy s n z x d b) (sym ev)
    (subst (λ (z : Exchange). SpeaksBy s n v' z d b) (sym ex) (subst (λ (z : Dialogue). SpeaksBy s n v' x' z b) (sym ed)
    (subst (λ (z : LineSet). SpeaksBy s n v' x' d' z) (sym eb) h)))

pub out_same : (a b : LineSet) → SamePhase a b → is_message_out b ≡ is_message_out a
out_same a b h = λ i. h.msg i && h.cd i && not (h.io i)

-- ---- lines change, or a byte is struck

abbrev said_part : Exchange → Exchange
said_part x = record { begun = x.begun; speech = x.speech; plan = x.plan }

stays_on : (s : ScenarioValue) (n : Connection) (v : Option Item) (x : Exchange) (d : Dialogue) (a b : LineSet)
    → SamePhase a b → SpeaksBy s n v x d a → SpeaksBy s n v x d b
stays_on s n v x d a b same h = record {
  before_all = h.before_all;
  in_message_out = λ e f. h.in_message_out e (sym (out_same a b same) ∙ f);
}

abbrev pub struck : Exchange → Exchange
struck x = record x { plan = struck_plan x.plan }

words_struck : (s : ScenarioValue) (n : Connection) (v : Option Item) (x : Exchange) (cause : Cause)
    → AreWordsFor s n v x cause → AreWordsFor s n v (struck x) cause
words_struck s n v x _ (opens e) = opens e
words_struck s n v x _ (refuses e) = refuses e
words_struck s n v x _ (answers e) = answers e
words_struck s n v x _ (rejects_data e) = rejects_data e
words_struck s n v x _ (rejects_status e) = rejects_status e

still_said : (q : Bool) (l : Plan) → (plan_anew_if q (struck_plan l)).said ≡ (plan_anew_if q l).said
still_said true l = refl
still_said false l = refl

heard_struck : (v : Speech) (l : Plan) (d : Dialogue) → AreWordsHeard v l d → AreWordsHeard v (struck_plan l) d
heard_struck v l d h = record {
  before = h.before;
  byte = h.byte;
  rest = h.rest;
  words_are = h.words_are;
  place_is = h.place_is;
  anew = (λ i. record { said = still_said d.is_last l i; half = fresh_bytes d }) ∙ h.anew;
  last = h.last;
}

struck_on : (s : ScenarioValue) (n : Connection) (v : Option Item) (x : Exchange) (d : Dialogue) (b : LineSet)
    → SpeaksBy s n v x d b → SpeaksBy s n v (struck x) d b
struck_on s n v x d b h = record {
  before_all = λ e.
      let a = h.before_all e in
      record {
        cause_is = a.cause_is;
        words_are = a.words_are;
        first = a.first;
        rest = a.rest;
        some = a.some;
        whole = a.whole;
      };
  in_message_out = λ e f.
      let a = h.in_message_out e f in
      record {
        words_for = words_struck s n v x x.plan.cause a.words_for;
        heard = heard_struck x.speech x.plan d a.heard;
        whole = a.whole;
        half = a.half;
      };
}

-- ---- a byte crosses

-- Of another phase: the words stay.
abbrev other_byte : Exchange → Agreement → Exchange
other_byte x asked = record x { speech = record x.speech { asked = asked } }

other_on : (s : ScenarioValue) (n : Connection) (v : Option Item) (x : Exchange) (asked : Agreement) (d d' : Dialogue)
    (a b : LineSet) → is_message_out b ≡ false → SpeaksBy s n v x d a → SpeaksBy s n v (other_byte x asked) d' b
other_on s n v x asked d d' a b none h = record {
  before_all = λ e.
      let w = h.before_all e in
      record {
        cause_is = w.cause_is;
        words_are = w.words_are;
        first = w.first;
        rest = w.rest;
        some = w.some;
        whole = w.whole;
      };
  in_message_out = λ e f. absurd (true≢false (sym f ∙ none));
}

abbrev pub heard_byte : Exchange → Bool → Option MsgOut → Exchange
heard_byte x is_last m = record x { speech = speech_after_byte x.speech; plan = plan_after_message x.plan is_last m }

kept_cause : (q : Bool) (l : Plan) → (plan_anew_if q l).cause ≡ l.cause
kept_cause true l = refl
kept_cause false l = refl

kept_negotiates : (q : Bool) (l : Plan) → (plan_anew_if q l).negotiates ≡ l.negotiates
kept_negotiates true l = refl
kept_negotiates false l = refl

words_on :
    (s : ScenarioValue) (n : Connection) (v : Option Item) (x : Exchange) (q : Bool) (m : Option MsgOut) (cause : Cause)
    → AreWordsFor s n v x cause → AreWordsFor s n v (heard_byte x q m) cause
words_on s n v x q m _ (opens e) =
    opens (e ∙ ap (λ (r : Bool). opening s n.initiator r v) (sym (kept_negotiates q x.plan)))
words_on s n v x q m _ (refuses e) = refuses e
words_on s n v x q m _ (answers e) = answers e
words_on s n v x q m _ (rejects_data e) = rejects_data e
words_on s n v x q m _ (rejects_status e) = rejects_status e

heard_on : (s : ScenarioValue) (n : Connection) (v : Option Item) (x : Exchange) (d : Dialogue) (byte : ℕ)
    → byte ≡ next_word x.speech → IsSpeaking s n v x d
    → IsSpeaking s n v (heard_byte x d.is_last (whole_out (got_out (fresh_bytes d ++ byte ∷ []))))
    (byte_out d byte (not (attends_with x.speech)))
heard_on s n v x d byte e h =
    let m : Option MsgOut = whole_out (got_out (fresh_bytes d ++ byte ∷ [])) in
    let r = reads_on x.speech x.plan d byte h.heard (record { whole = h.whole; half_is = h.half }) e in
    record {
      words_for = subst (λ (z : Cause). AreWordsFor s n v (heard_byte x d.is_last m) z)
          (sym (kept_cause d.is_last x.plan)) (words_on s n v x d.is_last m x.plan.cause h.words_for);
      heard = says_on x.speech x.plan d byte m h.heard e refl;
      whole = r.whole;
      half = r.half_is;
    }

byte_on :
    (s : ScenarioValue) (n : Connection) (v : Option Item) (x : Exchange) (d : Dialogue) (byte : ℕ) (a b : LineSet)
    → SamePhase a b → is_message_out a ≡ true → byte ≡ next_word x.speech → SpeaksBy s n v x d a
    → SpeaksBy s n v (heard_byte x d.is_last (whole_out (got_out (fresh_bytes d ++ byte ∷ []))))
    (byte_out d byte (not (attends_with x.speech))) b
byte_on s n v x d byte a b same out e h = record {
  before_all = λ f. let w = h.before_all f in record {
    cause_is = kept_cause d.is_last x.plan ∙ w.cause_is;
    words_are = w.words_are ∙ ap (λ (r : Bool). opening s n.initiator r v) (sym (kept_negotiates d.is_last x.plan));
    first = w.first;
    rest = w.rest;
    some = w.some;
    whole = w.whole;
  };
  in_message_out = λ f g. heard_on s n v x d byte e (h.in_message_out f out);
}

-- ---- a phase begins

abbrev pub asked_plan : Plan → Cause → Messages → Plan
asked_plan l cause messages = record (plan_anew l) { cause = cause; messages = messages }

abbrev pub asking : Exchange → List ℕ → Cause → Messages → Exchange
asking x words cause messages =
    record { begun = true; speech = speech_of x.speech words; plan = asked_plan x.plan cause messages }

speaks_anew : (s : ScenarioValue) (n : Connection) (v : Option Item) (x : Exchange) (d : Dialogue)
    (words : List ℕ) (cause : Cause) (messages : Messages) (b : ℕ) (rest : List ℕ) → words ≡ b ∷ rest
    → form_messages nothing_understood words ≡ true → AreWordsFor s n v (asking x words cause messages) cause
    → IsSpeaking s n v (asking x words cause messages) (phase_begins d)
speaks_anew s n v x d words cause messages b rest e whole for = record {
  words_for = for;
  heard = record {
    before = [];
    byte = b;
    rest = rest;
    words_are = e;
    place_is = refl;
    anew = refl;
    last = λ f. absurd (true≢false (sym f));
  };
  whole = whole;
  half = refl;
}

-- The first phase is the MESSAGE OUT of the opening.
abbrev pub opening_exchange : Exchange → Exchange
opening_exchange x = record { begun = true; speech = record x.speech { place = 0 }; plan = plan_anew x.plan }

opens_on : (s : ScenarioValue) (n : Connection) (v : Option Item) (x : Exchange) (d : Dialogue) → IsAboutToSpeak s n v x
    → IsSpeaking s n v (opening_exchange x) (phase_begins d)
opens_on s n v x d h = record {
  words_for = subst (λ (z : Cause). AreWordsFor s n v (opening_exchange x) z) (sym h.cause_is) (opens h.words_are);
  heard = record {
    before = [];
    byte = h.first;
    rest = h.rest;
    words_are = h.some;
    place_is = refl;
    anew = refl;
    last = λ f. absurd (true≢false (sym f));
  };
  whole = h.whole;
  half = refl;
}

-- A later one is asked for.
abbrev words_by : Bool → Bool → Option HostDef → Agreement → List ℕ
words_by into struck h asked =
    if not into then detected_error else if struck then parity_error else answer_bytes h asked

abbrev cause_by : Bool → Bool → Cause
cause_by into cd = if into then Cause.InMessage else if cd then Cause.InStatus else Cause.InData

asks_on : (s : ScenarioValue) (n : Connection) (v : Option Item)
    (x : Exchange) (d : Dialogue) (messages : Messages) (into cd struck : Bool)
    → IsSpeaking s n v (asking x (words_by into struck (host_of s n.initiator) x.speech.asked)
    (cause_by into cd) messages) (phase_begins d)
asks_on s n v x d messages true cd true =
    speaks_anew s n v x d parity_error Cause.InMessage messages _ _ refl errors_read.0 (refuses refl)
asks_on s n v x d messages true cd false = speaks_anew s n v x d (answer_bytes (host_of s n.initiator) x.speech.asked)
    Cause.InMessage messages _ _ refl (answer_reads (host_of s n.initiator) x.speech.asked) (answers refl)
asks_on s n v x d messages false true struck =
    speaks_anew s n v x d detected_error Cause.InStatus messages _ _ refl errors_read.1 (rejects_status refl)
asks_on s n v x d messages false false struck =
    speaks_anew s n v x d detected_error Cause.InData messages _ _ refl errors_read.1 (rejects_data refl)

turn_on : (s : ScenarioValue) (n : Connection) (v : Option Item) (x : Exchange) (d : Dialogue)
    (a : LineSet) (w : Hearing) (l : Leaving) (now fault : Bool) → w.begun ≡ x.begun → SpeaksBy s n v x d a
    → SpeaksBy s n v (still_talk true now fault (host_of s n.initiator) w l x) (phase_begins d) w.change.after
turn_on s n v x d a w l now fault eb h = record {
  before_all = λ e. absurd (true≢false e);
  in_message_out = λ e f. go x.begun refl f;
}
  where
    go : (g : Bool) → x.begun ≡ g → is_message_out w.change.after ≡ true
        → IsSpeaking s n v (still_talk true now fault (host_of s n.initiator) w l x) (phase_begins d)
    go false e f =
        subst (λ (z : Exchange). IsSpeaking s n v z (phase_begins d))
        (sym (λ i. record {
          begun = true;
          speech =
              if f i && (eb ∙ e) i then speech_of x.speech (words_after (host_of s n.initiator) w x.speech.asked)
              else record x.speech { place = 0 };
          plan =
              if not (f i) then record (plan_anew x.plan) { messages = l.messages; next = l.next }
              else if (eb ∙ e) i then plan_in_message_out w x.plan else plan_anew x.plan;
        }))
        (opens_on s n v x d (h.before_all e))
    go true e f = subst (λ (z : Exchange). IsSpeaking s n v z (phase_begins d)) (sym (λ i. record {
      begun = true;
      speech =
          if f i && (eb ∙ e) i then speech_of x.speech (words_after (host_of s n.initiator) w x.speech.asked)
          else record x.speech { place = 0 };
      plan =
          if not (f i) then record (plan_anew x.plan) { messages = l.messages; next = l.next }
          else if (eb ∙ e) i then plan_in_message_out w x.plan else plan_anew x.plan;
    })) (asks_on s n v x d (plan_in_message_out w x.plan).messages
        (is_message_in w.change.before) w.change.before.cd w.struck)

-- ---- any row of a connection

cross_on : (s : ScenarioValue) (k : RunState) (row : Row) (n : Connection) (c : Change) (dev : ℕ) (fault : Bool)
    → k.story.bus_state.bus ≡ c.before → SaysNext k n c → changes_phase c ≡ false → receiver_in n c ≡ Some dev
    → Speaks s k n → SpeaksBy s n k.served (still_talk false true fault (host_of s n.initiator)
    (hearing_of k row (reading_in k.story.bus_state n c true)) (leaving s k n.target) k.exchange)
    (byte_crosses k.story.bus_state.dialogue c) c.after
cross_on s k row n c dev fault eb says ep er h = go (is_message_out c.before) refl
  where
    x : Exchange
    x = k.exchange

    d : Dialogue
    d = k.story.bus_state.dialogue

    byte : ℕ
    byte = c.after.data_bits % 256

    go : (q : Bool) → is_message_out c.before ≡ q
        → SpeaksBy s n k.served (still_talk false true fault (host_of s n.initiator)
        (hearing_of k row (reading_in k.story.bus_state n c true)) (leaving s k n.target) k.exchange)
        (byte_crosses k.story.bus_state.dialogue c) c.after
    go true e =
        let next = says e (ap (λ (z : Option ℕ). is_some z) er) in
        speaks_as s n k.served k.served (still_talk false true fault (host_of s n.initiator)
        (hearing_of k row (reading_in k.story.bus_state n c true)) (leaving s k n.target) k.exchange)
        (heard_byte k.exchange k.story.bus_state.dialogue.is_last
        (whole_out (got_out (fresh_bytes k.story.bus_state.dialogue ++ c.after.data_bits % 256 ∷ []))))
        (byte_crosses k.story.bus_state.dialogue c) (byte_out k.story.bus_state.dialogue (c.after.data_bits % 256)
        (not (attends_with k.exchange.speech))) c.after c.after refl (λ i. record {
          begun = k.exchange.begun;
          speech =
              if e i then speech_after_byte k.exchange.speech
              else speech_after_request k.exchange.speech (message_in k.story.bus_state.dialogue c true);
          plan =
              if e i then plan_after_message k.exchange.plan k.story.bus_state.dialogue.is_last
              (if e i then whole_out (got_out (fresh_bytes k.story.bus_state.dialogue ++ c.after.data_bits % 256 ∷ []))
              else None) else k.exchange.plan;
        }) ((λ i. if e i then byte_out k.story.bus_state.dialogue (c.after.data_bits % 256) (not c.after.atn)
        else if is_message_in c.before then byte_in k.story.bus_state.dialogue (c.after.data_bits % 256)
        else byte_else k.story.bus_state.dialogue c.before (c.after.data_bits % 256))
        ∙ ap (λ (z : Bool). byte_out k.story.bus_state.dialogue (c.after.data_bits % 256) (not z)) next.1) refl
        (byte_on s n k.served k.exchange k.story.bus_state.dialogue
        (c.after.data_bits % 256) c.before c.after (same_phase_is c ep) e next.0
        (subst (λ (z : LineSet). SpeaksBy s n k.served k.exchange k.story.bus_state.dialogue z) eb h))
    go false e = speaks_as s n k.served k.served (still_talk false true fault (host_of s n.initiator)
        (hearing_of k row (reading_in k.story.bus_state n c true)) (leaving s k n.target) k.exchange)
        (other_byte k.exchange (request_after k.exchange.speech.asked (message_in k.story.bus_state.dialogue c true)))
        (byte_crosses k.story.bus_state.dialogue c) (byte_crosses k.story.bus_state.dialogue c) c.after c.after refl
        (λ i. record {
          begun = k.exchange.begun;
          speech =
              if e i then speech_after_byte k.exchange.speech
              else speech_after_request k.exchange.speech (message_in k.story.bus_state.dialogue c true);
          plan =
              if e i then plan_after_message k.exchange.plan k.story.bus_state.dialogue.is_last
              (message_out k.story.bus_state.dialogue c true) else k.exchange.plan;
        }) refl refl (other_on s n k.served k.exchange
        (request_after k.exchange.speech.asked (message_in k.story.bus_state.dialogue c true))
        k.story.bus_state.dialogue (byte_crosses k.story.bus_state.dialogue c) (bus_of k) c.after
        (out_same c.before c.after (same_phase_is c ep) ∙ e) h)

strike_by :
    (s : ScenarioValue) (n : Connection) (v : Option Item) (x : Exchange) (d : Dialogue) (b : LineSet) (io : Bool)
    → SpeaksBy s n v x d b → SpeaksBy s n v
    (record { begun = x.begun; speech = x.speech; plan = if true && not io then struck_plan x.plan else x.plan }) d b
strike_by s n v x d b true h = h
strike_by s n v x d b false h = struck_on s n v x d b h

pub speaks_on : (s : ScenarioValue) (k : RunState) (row : Row) (n : Connection) (c : Change) → IsRowIn k row n c
    → SaysNext k n c → Speaks s k n → Speaks s (run_state_after s k row) n
speaks_on s k row n c r says h = go r.kind
  where
    d : Dialogue
    d = k.story.bus_state.dialogue

    was : SpeaksBy s n k.served k.exchange k.story.bus_state.dialogue c.before
    was = subst (λ (z : LineSet). SpeaksBy s n k.served k.exchange k.story.bus_state.dialogue z) r.bus_is h

    to : (phase now fault : Bool) → InConnection s k row n c phase now fault → SpeaksBy s n k.served
        (still_talk phase now fault (host_of s n.initiator) (hearing_of k row (reading_in k.story.bus_state n c now))
        (leaving s k n.target) k.exchange) (dialogue_by phase now c k.story.bus_state.dialogue) c.after
        → Speaks s (run_state_after s k row) n
    to phase now fault i = speaks_as s n (run_state_after s k row).served k.served
        (run_state_after s k row).exchange (still_talk phase now fault (host_of s n.initiator)
        (hearing_of k row (reading_in k.story.bus_state n c now)) (leaving s k n.target) k.exchange)
        (run_state_after s k row).story.bus_state.dialogue (dialogue_by phase now c k.story.bus_state.dialogue)
        (bus_of (run_state_after s k row)) c.after i.served_is i.exchange_is i.dialogue_is i.bus_is

    none_crosses : receiver_in n c ≡ None → is_some (receiver_in n c) ≡ false
    none_crosses e = ap (λ (z : Option ℕ). is_some z) e

    go : RowKind row n c → Speaks s (run_state_after s k row) n
    go (still ef ep er) = to false false false (in_connection s k row n c false false false r ep (none_crosses er) ef)
        (stays_on s n k.served k.exchange k.story.bus_state.dialogue c.before c.after (same_phase_is c ep) was)
    go (strikes ef ep er) = to false false true (in_connection s k row n c false false true r ep (none_crosses er) ef)
        (strike_by s n k.served k.exchange k.story.bus_state.dialogue c.after c.before.io
        (stays_on s n k.served k.exchange k.story.bus_state.dialogue c.before c.after (same_phase_is c ep) was))
    go (crosses dev ef ep er) = to false true false (in_connection s k row n c false true false r ep
        (ap (λ (z : Option ℕ). is_some z) er) ef) (cross_on s k row n c dev false r.bus_is says ep er h)
    go (turns ef ep er) = to true false false (in_connection s k row n c true false false r ep (none_crosses er) ef)
        (turn_on s n k.served k.exchange k.story.bus_state.dialogue (bus_of k)
        (hearing_of k row (reading_in k.story.bus_state n c false)) (leaving s k n.target) false false refl h)
