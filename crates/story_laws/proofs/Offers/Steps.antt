-- Whose synchronous data transfer request is open goes on with each row of a connection (6.6.21).
use Rattle.story_laws.proofs
use proofs.Names.{inl, inr, ℕ, ◌≡◌, ◌+◌, Bool, true, false, not, ◌&&◌, ◌%◌, ◌∙◌, [], ◌∷◌, ◌++◌, Option, Some, None}
use proofs.Names.{refl, sym, ap, subst, ◌-◌, if◌then◌else◌, is_some, wrong, wrong', and_second, rises, LineSet, same}
use proofs.Names.{changes_phase, is_message_out, is_message_in, receiver_in, receiver_of, Row, Change, Connection}
use proofs.Names.{struck_same, Handshakes, no_handshakes, handshakes_after, handshakes_on, answered_if, asked_if}
use proofs.Names.{newest_struck_if, got_out, fresh_bytes, byte_in, byte_out, byte_else, byte_crosses, phase_begins}
use proofs.Names.{Dialogue, End, ScenarioValue, HostDef, row_reading, whole_out, message_in, message_out, Exchange}
use proofs.Names.{from_byte, plan_after_message, plan_anew, request_after, speech_after_byte, speech_after_request}
use proofs.Names.{speech_of, attends_with, Serving, phase_of, phase_leaving, leaving_by, plan_in_message_out}
use proofs.Names.{words_after, parity_error, detected_error, answer_bytes, Cause, Hearing, Leaving, Phase, still_talk}
use proofs.Names.{host_of, RunState, bus_of, run_state_after, serving_of, hearing_of, leaving, InConnection}
use proofs.Names.{in_connection, dialogue_by, same_phase_is, requests_stay, few_messages, heard_byte, opening_exchange}
use proofs.Names.{asking, Gives, LeavesWhole, is_out_phase, IsOver, RowKind, still, strikes, crosses, turns, IsRowIn}
use proofs.Names.{reading_in, Speaks, GoesOn, in_phase, out_phase, not_message_out, not_message_in, Attention}
use proofs.{Names.{offer_now, IsHeardIn, is_detected, OffersBy, Offers}, Offers.Bytes.{heard_in_on, heard_out_on}}
use proofs.Offers.{Leavings.{HeadsTo, Heads, heads_none, heads_attended, heads_out, attends}, Rows.{offers_as}}
use proofs.Offers.Rows.{offers_still, offers_struck, struck_stays, struck_by_fault, request_rises, offers_said}
use proofs.Offers.{Rows.{offers_given, offers_else}, Turns.{out_by_phase, Lines, says, gives, others, lines_of}}
use proofs.Offers.Turns.{entering, offers_enter, offers_open, offers_detect, offers_answer, none_open, unattended}
use proofs.Offers.Turns.{in_direction, low_line}

-- ---- small facts

record OutLines (b : LineSet) : Type 0 where
  msg : b.msg ≡ true
  cd : b.cd ≡ true
  io : b.io ≡ false

out_lines : (b : LineSet) → is_message_out b ≡ true → OutLines b
out_lines b e = by b.msg refl b.cd refl b.io refl
  where
    by : (m : Bool) → b.msg ≡ m → (c : Bool) → b.cd ≡ c → (i : Bool) → b.io ≡ i → OutLines b
    by true em true ec false ei = record { msg = em; cd = ec; io = ei }
    by true em true ec true ei = wrong' (sym (λ j. em j && ec j && not (ei j)) ∙ e)
    by true em false ec i ei = wrong' (sym (λ j. em j && ec j && not (ei j)) ∙ e)
    by false em c ec i ei = wrong' (sym (λ j. em j && ec j && not (ei j)) ∙ e)

-- From MESSAGE OUT no row leads to MESSAGE OUT.
pub stays_out : (c : Change) → is_message_out c.before ≡ true → is_message_out c.after ≡ true → changes_phase c ≡ false
stays_out c e f =
    let a = out_lines c.before e in
    let b = out_lines c.after f in
    λ i. not (same (a.msg i) (b.msg i) && same (a.cd i) (b.cd i) && same (a.io i) (b.io i))

-- ---- a byte crosses

crosses_on : (s : ScenarioValue) (k : RunState) (row : Row) (n : Connection) (c : Change) (dev : ℕ)
    → GoesOn s k row n c → Speaks s k n → Gives k
    → Attention k.handshakes k.story.bus_state.dialogue k.exchange.begun n c → changes_phase c ≡ false
    → receiver_in n c ≡ Some dev → OffersBy k.exchange k.story.bus_state.dialogue k.handshakes c.before
    → OffersBy (still_talk false true false (host_of s n.initiator)
    (hearing_of k row (reading_in k.story.bus_state n c true)) (leaving s k n.target) k.exchange)
    (byte_crosses k.story.bus_state.dialogue c) (handshakes_on (Some n) c row.time k.handshakes) c.after
crosses_on s k row n c dev g sp gv att ep er o = go (is_message_out c.before) refl (is_message_in c.before) refl
  where
    there : is_some (receiver_in n c) ≡ true
    there = ap (λ (z : Option ℕ). is_some z) er

    begun : k.exchange.begun ≡ true
    begun = g.begun ((λ i. is_some (receiver_of (g.row_is.connection_is i) (g.row_is.change_is i))) ∙ there)

    go : (q : Bool) → is_message_out c.before ≡ q → (r : Bool) → is_message_in c.before ≡ r
        → OffersBy (still_talk false true false (host_of s n.initiator)
        (hearing_of k row (reading_in k.story.bus_state n c true)) (leaving s k n.target) k.exchange)
        (byte_crosses k.story.bus_state.dialogue c) (handshakes_on (Some n) c row.time k.handshakes) c.after
    go true e r f =
        let next = g.says e there in
        let w = sp.in_message_out begun (ap is_message_out g.row_is.bus_is ∙ e) in
        offers_as (still_talk false true false (host_of s n.initiator)
        (hearing_of k row (reading_in k.story.bus_state n c true)) (leaving s k n.target) k.exchange)
        (heard_byte k.exchange k.story.bus_state.dialogue.is_last
        (whole_out (got_out (fresh_bytes k.story.bus_state.dialogue ++ c.after.data_bits % 256 ∷ []))))
        (byte_crosses k.story.bus_state.dialogue c) (byte_out k.story.bus_state.dialogue (c.after.data_bits % 256)
        (not (attends_with k.exchange.speech))) (handshakes_on (Some n) c row.time k.handshakes)
        (handshakes_on (Some n) c row.time k.handshakes) c.after c.after (λ i. record {
          begun = k.exchange.begun;
          speech =
              if e i then speech_after_byte k.exchange.speech
              else speech_after_request k.exchange.speech (message_in k.story.bus_state.dialogue c true);
          plan =
              if e i then plan_after_message k.exchange.plan k.story.bus_state.dialogue.is_last
              (if e i then whole_out (got_out (fresh_bytes k.story.bus_state.dialogue ++ c.after.data_bits % 256 ∷ []))
              else None) else k.exchange.plan;
        }) ((λ i. if e i then byte_out k.story.bus_state.dialogue (c.after.data_bits % 256) (not c.after.atn)
        else if is_message_in c.before then byte_in k.story.bus_state.dialogue (c.after.data_bits % 256)
        else byte_else k.story.bus_state.dialogue c.before (c.after.data_bits % 256))
        ∙ ap (λ (z : Bool). byte_out k.story.bus_state.dialogue (c.after.data_bits % 256) (not z)) next.1) refl refl
        (offers_said c _ _ (handshakes_on (Some n) c row.time k.handshakes) (same_phase_is c ep) begun e
        (heard_out_on k.exchange k.story.bus_state.dialogue (c.after.data_bits % 256) w.heard next.0 (o.out begun e)))
    go false e true f =
        let y = g.gives f there in
        let given = gv.in_message_in begun (ap is_message_in g.row_is.bus_is ∙ f) in
        let count : (handshakes_on (Some n) c row.time k.handshakes).requests ≡ k.handshakes.requests + 1 =
        request_rises n c row.time dev k.handshakes ep
        (in_line c.before f) er _ y.1 (few_messages k.exchange.plan.messages) in
        let heard = heard_in_on k.exchange.plan.messages k.exchange.plan.next k.story.bus_state.dialogue
        k.handshakes.requests (c.after.data_bits % 256) gv.fit given y.0 y.1 (o.into begun f) in
        offers_as (still_talk false true false (host_of s n.initiator)
        (hearing_of k row (reading_in k.story.bus_state n c true)) (leaving s k n.target) k.exchange)
        (record k.exchange {
          speech = record k.exchange.speech {
            asked = request_after k.exchange.speech.asked (message_in k.story.bus_state.dialogue c true);
          };
        }) (byte_crosses k.story.bus_state.dialogue c) (byte_in k.story.bus_state.dialogue (c.after.data_bits % 256))
        (handshakes_on (Some n) c row.time k.handshakes)
        (handshakes_on (Some n) c row.time k.handshakes) c.after c.after (λ i. record {
          begun = k.exchange.begun;
          speech =
              if e i then speech_after_byte k.exchange.speech
              else speech_after_request k.exchange.speech (message_in k.story.bus_state.dialogue c true);
          plan =
              if e i then plan_after_message k.exchange.plan k.story.bus_state.dialogue.is_last
              (message_out k.story.bus_state.dialogue c true) else k.exchange.plan;
        }) (λ i. if e i then byte_out k.story.bus_state.dialogue (c.after.data_bits % 256) (not c.after.atn)
        else if f i then byte_in k.story.bus_state.dialogue (c.after.data_bits % 256)
        else byte_else k.story.bus_state.dialogue c.before (c.after.data_bits % 256)) refl refl (offers_given n
        c k.exchange _ k.story.bus_state.dialogue _ k.handshakes (handshakes_on (Some n) c row.time k.handshakes)
        (same_phase_is c ep) begun begun f there (att.into ep f) o (subst (λ (z : ℕ). IsHeardIn k.exchange.plan.messages
        k.exchange.plan.next (byte_in k.story.bus_state.dialogue (c.after.data_bits % 256)) z) (sym count) heard))
      where
        in_line : (b : LineSet) → is_message_in b ≡ true → b.io ≡ true
        in_line b z = and_second (b.msg && b.cd) b.io z
    go false e false f = offers_as (still_talk false true false (host_of s n.initiator)
        (hearing_of k row (reading_in k.story.bus_state n c true)) (leaving s k n.target) k.exchange)
        (record k.exchange {
          speech = record k.exchange.speech {
            asked = request_after k.exchange.speech.asked (message_in k.story.bus_state.dialogue c true);
          };
        }) (byte_crosses k.story.bus_state.dialogue c) (byte_else k.story.bus_state.dialogue c.before
        (c.after.data_bits % 256)) (handshakes_on (Some n) c row.time k.handshakes)
        (handshakes_on (Some n) c row.time k.handshakes) c.after c.after (λ i. record {
          begun = k.exchange.begun;
          speech =
              if e i then speech_after_byte k.exchange.speech
              else speech_after_request k.exchange.speech (message_in k.story.bus_state.dialogue c true);
          plan =
              if e i then plan_after_message k.exchange.plan k.story.bus_state.dialogue.is_last
              (message_out k.story.bus_state.dialogue c true) else k.exchange.plan;
        }) (λ i. if e i then byte_out k.story.bus_state.dialogue (c.after.data_bits % 256) (not c.after.atn)
        else if f i then byte_in k.story.bus_state.dialogue (c.after.data_bits % 256)
        else byte_else k.story.bus_state.dialogue c.before (c.after.data_bits % 256)) refl refl (offers_else c
        k.exchange _ k.story.bus_state.dialogue k.handshakes (handshakes_on (Some n) c row.time k.handshakes)
        (c.after.data_bits % 256) (same_phase_is c ep) begun begun e f o)

-- ---- a phase is left

-- How it is left, once one has begun.
pub left_is : (s : ScenarioValue) (k : RunState) (n : Connection) (c : Change)
    → bus_of k ≡ c.before → k.exchange.begun ≡ true
    → leaving s k n.target ≡ phase_leaving (serving_of s k n.target) c.before.atn (phase_of c.before)
left_is s k n c eb f = (λ i. leaving_by (serving_of s k n.target) (f i) (bus_of k))
    ∙ (λ i. phase_leaving (serving_of s k n.target) (eb i).atn (phase_of (eb i)))

heads_left : (s : ScenarioValue) (k : RunState) (n : Connection) (c : Change) → bus_of k ≡ c.before
    → (c.before.msg ≡ true → c.before.cd ≡ true) → k.exchange.begun ≡ true → Speaks s k n → LeavesWhole s k n
    → c.before.req ≡ false → OffersBy k.exchange k.story.bus_state.dialogue k.handshakes c.before
    → Heads (offer_now k.story.bus_state.dialogue) (leaving s k n.target)
heads_left s k n c eb known f sp lv req o = subst (λ (l : Leaving). Heads (offer_now k.story.bus_state.dialogue) l)
    (sym (left_is s k n c eb f)) (go (lines_of c.before known))
  where
    d : Dialogue
    d = k.story.bus_state.dialogue

    v : Serving
    v = serving_of s k n.target

    in_it : (phase : Phase) → phase_of c.before ≡ phase → Heads (offer_now d) (phase_leaving v c.before.atn phase)
        → Heads (offer_now d) (phase_leaving v c.before.atn (phase_of c.before))
    in_it phase e h = subst (λ (x : Phase). Heads (offer_now d) (phase_leaving v c.before.atn x)) (sym e) h

    here : (phase : Phase) → phase_of c.before ≡ phase → phase_of (bus_of k) ≡ phase
    here phase e = ap phase_of eb ∙ e

    unasked : is_message_in c.before ≡ true → c.before.atn ≡ false → offer_now d ≡ Some End.Target → ⊥
    unasked m a t =
        elim (o.asks f m t) [ inl z ↦ wrong (sym z ∙ a) | inr z ↦ wrong' (sym (λ i. req i && not c.before.ack) ∙ z) ]

    by_attention : is_message_in c.before ≡ true → (q : Bool) → c.before.atn ≡ q
        → Heads (offer_now d) (phase_leaving v c.before.atn Phase.MessageIn)
    by_attention m true a = subst (λ (q : Bool). Heads (offer_now d) (phase_leaving v q Phase.MessageIn)) (sym a)
        (heads_attended v (offer_now d))
    by_attention m false a = heads_none v (offer_now d) c.before.atn Phase.MessageIn refl
        (none_open k.exchange.plan.messages k.exchange.plan.next d k.handshakes.requests (o.into f m)
        (lv.given (here Phase.MessageIn (in_phase c.before m)) (ap (λ (l : LineSet). l.atn) eb ∙ a)) (unasked m a))

    go : Lines c.before → Heads (offer_now d) (phase_leaving v c.before.atn (phase_of c.before))
    go (says m) = in_it Phase.MessageOut (out_phase c.before m)
        (heads_out v k.exchange d refl (sp.in_message_out f (ap is_message_out eb ∙ m)).heard
        (lv.out (here Phase.MessageOut (out_phase c.before m))) (o.out f m))
    go (gives m) = in_it Phase.MessageIn (in_phase c.before m) (by_attention m c.before.atn refl)
    go (others m) = heads_none v (offer_now d) c.before.atn (phase_of c.before)
        (out_by_phase c.before known ∙ not_message_out c.before m) (o.settled f m)

-- ATN is false then, where it is left for another phase than MESSAGE OUT.
quiet_left : (s : ScenarioValue) (k : RunState) (n : Connection) (c : Change) (to : Phase)
    → bus_of k ≡ c.before → (c.before.msg ≡ true → c.before.cd ≡ true) → k.exchange.begun ≡ true
    → LeavesWhole s k n → IsOver s k n → (leaving s k n.target).to ≡ Some to → is_out_phase to ≡ false
    → Attention k.handshakes k.story.bus_state.dialogue k.exchange.begun n c → c.before.atn ≡ false
quiet_left s k n c to eb known f lv over e other att = go c.before.io refl c.before.msg refl
  where
    go : (i : Bool) → c.before.io ≡ i → (m : Bool) → c.before.msg ≡ m → c.before.atn ≡ false
    go true ei m em = unattended (serving_of s k n.target) c.before.atn (phase_of c.before) to
        (in_direction c.before ei) (ap (λ (l : Leaving). l.to) (sym (left_is s k n c eb f)) ∙ e) other
    go false ei true em =
        let out : is_message_out c.before ≡ true = λ i. em i && known em i && not (ei i) in
        let here : is_message_out (bus_of k) ≡ true = ap is_message_out eb ∙ out in
        sym (ap (λ (l : LineSet). l.atn) eb) ∙ over.attention here
        ∙ ap not (lv.out (ap phase_of eb ∙ out_phase c.before out))
    go false ei false em = low_line c.before.atn c.before.io c.before.msg (att.low f) ei em

-- ---- another phase begins

turns_on : (s : ScenarioValue) (k : RunState) (row : Row) (n : Connection) (c : Change)
    → GoesOn s k row n c → (c.after.msg ≡ true → c.after.cd ≡ true) → Speaks s k n
    → Attention k.handshakes k.story.bus_state.dialogue k.exchange.begun n c
    → changes_phase c ≡ true → (k.exchange.begun ≡ true → IsOver s k n)
    → (k.exchange.begun ≡ true → (leaving s k n.target).to ≡ Some (phase_of c.after))
    → OffersBy k.exchange k.story.bus_state.dialogue k.handshakes c.before
    → OffersBy (still_talk true false false (host_of s n.initiator)
    (hearing_of k row (reading_in k.story.bus_state n c false)) (leaving s k n.target) k.exchange)
    (phase_begins k.story.bus_state.dialogue) no_handshakes c.after
turns_on s k row n c g there sp att ep over whereto o = by k.exchange.begun refl (is_message_out c.after) refl
  where
    d : Dialogue
    d = k.story.bus_state.dialogue

    h : Handshakes
    h = k.handshakes

    host : Option HostDef
    host = host_of s n.initiator

    l : Leaving
    l = leaving s k n.target

    w : Hearing
    w = hearing_of k row (reading_in k.story.bus_state n c false)

    eb : bus_of k ≡ c.before
    eb = g.row_is.bus_is

    turning : changes_phase (row_reading k.story.bus_state row).change ≡ true
    turning = ap changes_phase g.row_is.change_is ∙ ep

    known : c.before.msg ≡ true → c.before.cd ≡ true
    known z = ap (λ (b : LineSet). b.cd) (sym eb) ∙ (g.phase (ap (λ (b : LineSet). b.msg) eb ∙ z)).0

    is : (x : Exchange) → still_talk true false false host w l k.exchange ≡ x
        → OffersBy x (phase_begins d) no_handshakes c.after
        → OffersBy (still_talk true false false host w l k.exchange) (phase_begins d) no_handshakes c.after
    is x e z = subst (λ (y : Exchange). OffersBy y (phase_begins d) no_handshakes c.after) (sym e) z

    to_out : k.exchange.begun ≡ true → is_message_out c.after ≡ true → Lines c.before
        → OffersBy (still_talk true false false host w l k.exchange) (phase_begins d) no_handshakes c.after
    to_out f e (says m) = wrong (sym ep ∙ stays_out c m e)
    to_out f e (gives m) =
        let to : (phase_leaving (serving_of s k n.target) c.before.atn Phase.MessageIn).to ≡ Some Phase.MessageOut =
        (λ i. (phase_leaving (serving_of s k n.target) c.before.atn (sym (in_phase c.before m) i)).to)
        ∙ ap (λ (z : Leaving). z.to) (sym (left_is s k n c eb f))
        ∙ whereto f ∙ ap (λ (r : Phase). Some r) (out_phase c.after e) in
        let z = o.why f m (attends (serving_of s k n.target) c.before.atn to) in
        is (asking k.exchange (if h.struck then parity_error else answer_bytes host k.exchange.speech.asked)
        Cause.InMessage (from_byte k.exchange.plan.messages (h.requests - 1))) (λ i. record {
          begun = true;
          speech =
              if e i && f i then speech_of k.exchange.speech (if not (m i) then detected_error
              else if h.struck then parity_error else answer_bytes host k.exchange.speech.asked)
              else record k.exchange.speech { place = 0 };
          plan =
              if not (e i) then record (plan_anew k.exchange.plan) { messages = l.messages; next = l.next }
              else if f i then record (plan_anew k.exchange.plan) {
                cause =
                    if m i then Cause.InMessage else if c.before.cd then Cause.InStatus else Cause.InData;
                messages =
                    if m i then from_byte k.exchange.plan.messages (h.requests - 1) else k.exchange.plan.messages;
              } else plan_anew k.exchange.plan;
        }) (offers_answer k.exchange d h c.after host h.struck e z.0 z.1 (o.into f m))
    to_out f e (others m) =
        let ni : is_message_in c.before ≡ false = not_message_in c.before m in
        is (asking k.exchange detected_error
        (if c.before.cd then Cause.InStatus else Cause.InData) k.exchange.plan.messages) (λ i. record {
          begun = true;
          speech =
              if e i && f i then speech_of k.exchange.speech (if not (ni i) then detected_error
              else if h.struck then parity_error else answer_bytes host k.exchange.speech.asked)
              else record k.exchange.speech { place = 0 };
          plan =
              if not (e i) then record (plan_anew k.exchange.plan) { messages = l.messages; next = l.next }
              else if f i then record (plan_anew k.exchange.plan) {
                cause =
                    if ni i then Cause.InMessage else if c.before.cd then Cause.InStatus else Cause.InData;
                messages =
                    if ni i then from_byte k.exchange.plan.messages (h.requests - 1) else k.exchange.plan.messages;
              } else plan_anew k.exchange.plan;
        }) (offers_detect k.exchange d c.after (if c.before.cd then Cause.InStatus else Cause.InData)
        k.exchange.plan.messages e (detected c.before.cd) (o.settled f m))
      where
        detected : (q : Bool) → is_detected (if q then Cause.InStatus else Cause.InData) ≡ true
        detected true = refl
        detected false = refl

    by : (f : Bool) → k.exchange.begun ≡ f → (e : Bool) → is_message_out c.after ≡ e
        → OffersBy (still_talk true false false host w l k.exchange) (phase_begins d) no_handshakes c.after
    by false f q e =
        let m : is_message_out c.after ≡ true = ap (λ (x : Change). is_message_out x.after) (sym g.row_is.change_is)
        ∙ g.first turning f in
        is (opening_exchange k.exchange) (λ i. record {
          begun = true;
          speech =
              if m i && f i then speech_of k.exchange.speech (words_after host w k.exchange.speech.asked)
              else record k.exchange.speech { place = 0 };
          plan =
              if not (m i) then record (plan_anew k.exchange.plan) { messages = l.messages; next = l.next }
              else if f i then plan_in_message_out w k.exchange.plan else plan_anew k.exchange.plan;
        }) (offers_open k.exchange d c.after m (sp.before_all f).cause_is (o.unbegun f))
    by true f true e = to_out f e (lines_of c.before known)
    by true f false e =
        let a = att.turns ep f in
        let lv = g.leaves turning in
        let goes : HeadsTo (offer_now d) (Some (phase_of c.after)) l.messages l.next = subst
        (λ (z : Option Phase). HeadsTo (offer_now d) z l.messages l.next)
        (whereto f) (heads_left s k n c eb known f sp lv a.1 o) in
        let other : is_out_phase (phase_of c.after) ≡ false = out_by_phase c.after there ∙ e in
        is (entering k.exchange (record k.exchange.speech { place = 0 }) l.messages l.next) (λ i. record {
          begun = true;
          speech =
              if e i && k.exchange.begun then speech_of k.exchange.speech (words_after host w k.exchange.speech.asked)
              else record k.exchange.speech { place = 0 };
          plan =
              if not (e i) then record (plan_anew k.exchange.plan) { messages = l.messages; next = l.next }
              else if k.exchange.begun then plan_in_message_out w k.exchange.plan else plan_anew k.exchange.plan;
        }) (offers_enter k.exchange (record k.exchange.speech { place = 0 }) d c.after l.messages l.next e
        (a.0 ∙ quiet_left s k n c (phase_of c.after) eb known f lv (over f) (whereto f) other att) goes)

-- ---- any row of a connection

pub offers_on : (s : ScenarioValue) (k : RunState) (row : Row) (n : Connection) (c : Change)
    → GoesOn s k row n c → (c.after.msg ≡ true → c.after.cd ≡ true) → Speaks s k n
    → Gives k → Attention k.handshakes k.story.bus_state.dialogue k.exchange.begun n c
    → (changes_phase c ≡ true → k.exchange.begun ≡ true → IsOver s k n)
    → (changes_phase c ≡ true → k.exchange.begun ≡ true → (leaving s k n.target).to ≡ Some (phase_of c.after))
    → Offers k → Offers (run_state_after s k row)
offers_on s k row n c g there sp gv att over whereto h = go r.kind
  where
    r : IsRowIn k row n c
    r = g.row_is

    d : Dialogue
    d = k.story.bus_state.dialogue

    was : OffersBy k.exchange k.story.bus_state.dialogue k.handshakes c.before
    was = subst (λ (z : LineSet). OffersBy k.exchange k.story.bus_state.dialogue k.handshakes z) r.bus_is h

    to : (phase now fault : Bool) → (handshakes_are : Handshakes)
        → (run_state_after s k row).handshakes ≡ handshakes_are → InConnection s k row n c phase now fault → OffersBy
        (still_talk phase now fault (host_of s n.initiator) (hearing_of k row (reading_in k.story.bus_state n c now))
        (leaving s k n.target) k.exchange) (dialogue_by phase now c k.story.bus_state.dialogue) handshakes_are c.after
        → Offers (run_state_after s k row)
    to phase now fault y ey i = offers_as (run_state_after s k row).exchange
        (still_talk phase now fault (host_of s n.initiator) (hearing_of k row (reading_in k.story.bus_state n c now))
        (leaving s k n.target) k.exchange) (run_state_after s k row).story.bus_state.dialogue
        (dialogue_by phase now c k.story.bus_state.dialogue) (run_state_after s k row).handshakes y
        (bus_of (run_state_after s k row)) c.after i.exchange_is i.dialogue_is ey i.bus_is

    none_crosses : receiver_in n c ≡ None → is_some (receiver_in n c) ≡ false
    none_crosses e = ap (λ (z : Option ℕ). is_some z) e

    go : RowKind row n c → Offers (run_state_after s k row)
    go (still ef ep er) =
        let i = in_connection s k row n c false false false r ep (none_crosses er) ef in
        to false false false (handshakes_on (Some n) c row.time k.handshakes)
        (i.handshakes_is ∙ ap (λ (q : Bool). handshakes_after q (Some n) c row.time k.handshakes) ef) i
        (offers_still n c k.exchange d k.handshakes (handshakes_on (Some n) c row.time k.handshakes)
        (same_phase_is c ep) er (att.into ep) (λ io. requests_stay n c row.time k.handshakes ep io er)
        (λ io some z. struck_stays n c row.time k.handshakes ep io er ∙ z) was)
    go (strikes ef ep er) =
        let i = in_connection s k row n c false false true r ep (none_crosses er) ef in
        to false false true (newest_struck_if c.before.io k.handshakes)
        (i.handshakes_is ∙ ap (λ (q : Bool). handshakes_after q (Some n) c row.time k.handshakes) ef) i
        (offers_struck k.exchange d (newest_struck_if c.before.io k.handshakes) c.after c.before.io
        (offers_still n c k.exchange d k.handshakes (newest_struck_if c.before.io k.handshakes)
        (same_phase_is c ep) er (att.into ep) (λ io. struck_same c.before.io k.handshakes)
        (λ io some z. struck_by_fault c.before.io k.handshakes some z) was))
    go (crosses dev ef ep er) =
        let i = in_connection s k row n c false true false r ep (ap (λ (z : Option ℕ). is_some z) er) ef in
        to false true false (handshakes_on (Some n) c row.time k.handshakes)
        (i.handshakes_is ∙ ap (λ (q : Bool). handshakes_after q (Some n) c row.time k.handshakes) ef) i
        (crosses_on s k row n c dev g sp gv att ep er was)
    go (turns ef ep er) =
        let i = in_connection s k row n c true false false r ep (none_crosses er) ef in
        to true false false no_handshakes
        (i.handshakes_is ∙ ap (λ (q : Bool). handshakes_after q (Some n) c row.time k.handshakes) ef
        ∙ ap (λ (q : Bool). if q then no_handshakes else answered_if (rises c.before.ack c.after.ack) row.time
        (asked_if (rises c.before.req c.after.req) row.time k.handshakes)) ep) i
        (turns_on s k row n c g there sp att ep (over ep) (whereto ep) was)
