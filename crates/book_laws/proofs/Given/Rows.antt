-- What is given in MESSAGE IN goes on with each row of a connection.
use Rattle.book_laws.proofs
use proofs.Names.{ℕ, ◌≡◌, ◌<◌, ◌+◌, Bool, true, false, not, ◌&&◌, ◌∙◌, List, [], ◌∷◌, ◌++◌, length, Option, Some, None}
use proofs.Names.{refl, sym, ap, subst, arith, append_assoc, length-append, inl, inr, not-true, cases_Bool}
use proofs.Names.{if◌then◌else◌, is_some, slice_index_or, nat_lt, ◌-◌, ◌%◌, and_second, rises_none, rises_some, wrong}
use proofs.Names.{counted_on, rises, LineSet, changes_phase, is_message_out, is_message_in, receiver_in, Row, Change}
use proofs.Names.{Connection, struck_same, Handshakes, no_handshakes, handshakes_on, handshakes_after, asked_if}
use proofs.Names.{answered_if, FitsIn, got_in, in_bytes, MsgIn, MsgOut, byte_out, byte_in, byte_else, byte_crosses}
use proofs.Names.{phase_begins, left_of, Dialogue, ScenarioValue, HostDef, Exchange, bytes_of_messages, message_bytes}
use proofs.Names.{from_byte, plan_anew, plan_anew_if, plan_after_message, struck_plan, plan_in_phase}
use proofs.Names.{plan_in_message_out, Hearing, Leaving, Messages, Plan, still_talk, host_of, RunState, bus_of}
use proofs.Names.{run_state_after, hearing_of, leaving, serving_of, AreGiven, OnMessages, GivesBy, Gives, GivesNext}
use proofs.{Names.{half_after, RowKind, still, strikes, crosses, turns, IsRowIn, reading_in}, Carried.Areas.{split_at}}
use proofs.Common.{InConnection.{dialogue_by, InConnection, in_connection, SamePhase, same_phase_is}, Lists.{word_at}}
use proofs.Given.Leavings.{IsOfOthers, left_messages}

-- ---- bytes

half_append : (half xs ys : List ℕ) → half_after half (xs ++ ys) ≡ half_after (half_after half xs) ys
half_append half [] ys = refl
half_append half (x ∷ xs) ys = half_append (left_of (got_in (half ++ x ∷ [])) (half ++ x ∷ [])) xs ys

pub given_on : (bytes half : List ℕ) (count byte : ℕ) → AreGiven bytes half count → byte ≡ slice_index_or bytes count 0
    → count < length bytes → AreGiven bytes (left_of (got_in (half ++ byte ∷ [])) (half ++ byte ∷ [])) (count + 1)
given_on bytes half count byte h e lt =
    let n = h.count_is in
    let sp = split_at h.before h.rest bytes (sym h.bytes_are) (omega arith) in
    let whole : bytes ≡ h.before ++ sp.0 ∷ sp.1 = h.bytes_are ∙ ap (λ (r : List ℕ). h.before ++ r) sp.2 in
    let is : byte ≡ sp.0 = e ∙ (λ i. slice_index_or (whole i) (n i) 0) ∙ word_at h.before sp.0 sp.1 in
    record {
      before = h.before ++ sp.0 ∷ [];
      rest = sp.1;
      bytes_are = whole ∙ sym (append_assoc h.before (sp.0 ∷ []) sp.1);
      count_is = ap (λ (x : ℕ). x + 1) n ∙ sym (length-append h.before (sp.0 ∷ []));
      half_is = (λ i. left_of (got_in (h.half_is i ++ is i ∷ [])) (h.half_is i ++ is i ∷ []))
          ∙ sym (half_append [] h.before (sp.0 ∷ []));
    }

-- The messages of a phase are few bytes.
pub few_bytes : (m : MsgIn) → length (in_bytes m) < 6
few_bytes MsgIn.CommandComplete = omega arith
few_bytes _ = omega arith

pub few_of : (m : Option MsgIn) → length (message_bytes m) < 6
few_of None = omega arith
few_of (Some m) = few_bytes m

pub few_messages : (m : Messages) → length (bytes_of_messages m) < 12
few_messages m =
    let a = few_of m.first in
    let b = few_of m.second in
    let c = length-append (message_bytes m.first) (message_bytes m.second) in
    omega arith

pub counted : (i m : ℕ) → i < m → m < 12 → counted_on i ≡ i + 1
counted i m a b = omega (arith, a, b)

-- ---- handshakes

pub answered_same : (q : Bool) (t : ℕ) (h : Handshakes) → (answered_if q t h).requests ≡ h.requests
answered_same true t h = refl
answered_same false t h = refl

pub requests_stay : (n : Connection) (c : Change) (t : ℕ) (h : Handshakes) → changes_phase c ≡ false
    → c.before.io ≡ true → receiver_in n c ≡ None → (handshakes_on (Some n) c t h).requests ≡ h.requests
requests_stay n c t h ep io er = (λ i. (if ep i then no_handshakes
    else answered_if (rises c.before.ack c.after.ack) t (asked_if (rises_none c.before.io (rises c.before.req
    c.after.req) n.initiator 0 (if rises c.before.ack c.after.ack then Some n.target else None) io er i) t h)).requests)
    ∙ answered_same (rises c.before.ack c.after.ack) t h

pub requests_rise : (n : Connection) (c : Change) (t dev : ℕ) (h : Handshakes) → changes_phase c ≡ false
    → c.before.io ≡ true → receiver_in n c ≡ Some dev → (handshakes_on (Some n) c t h).requests ≡ counted_on h.requests
requests_rise n c t dev h ep io er = (λ i. (if ep i then no_handshakes else answered_if
    (rises c.before.ack c.after.ack) t (asked_if (rises_some c.before.io (rises c.before.req c.after.req)
    n.initiator dev (if rises c.before.ack c.after.ack then Some n.target else None) io er i) t h)).requests)
    ∙ answered_same (rises c.before.ack c.after.ack) t (asked_if true t h)

-- ---- what is kept is known otherwise

pub gives_as : (x x' : Exchange) (d d' : Dialogue) (h : Handshakes) (b b' : LineSet) → x ≡ x' → d ≡ d' → b ≡ b'
    → GivesBy x' d' h b' → GivesBy x d h b
gives_as x x' d d' h b b' ex ed eb g = subst (λ (z : Exchange). GivesBy z d h b) (sym ex)
    (subst (λ (z : Dialogue). GivesBy x' z h b) (sym ed) (subst (λ (z : LineSet). GivesBy x' d' h z) (sym eb) g))

pub in_same : (a b : LineSet) → SamePhase a b → is_message_in b ≡ is_message_in a
in_same a b h = λ i. h.msg i && h.cd i && h.io i

pub in_io : (b : LineSet) → is_message_in b ≡ true → b.io ≡ true
in_io b e = and_second (b.msg && b.cd) b.io e

-- MESSAGE IN is not MESSAGE OUT.
pub not_both : {A : Type 0} (b : LineSet) → is_message_in b ≡ true → is_message_out b ≡ true → A
not_both b i o = wrong (sym (in_io b i) ∙ not-true b.io (and_second (b.msg && b.cd) (not b.io) o))

-- ---- the rows

count_as : (bytes half : List ℕ) (a b : ℕ) → a ≡ b → AreGiven bytes half b → AreGiven bytes half a
count_as bytes half a b e h = subst (λ (x : ℕ). AreGiven bytes half x) (sym e) h

kept_messages : (q : Bool) (l : Plan) → (plan_anew_if q l).messages ≡ l.messages
kept_messages true l = refl
kept_messages false l = refl

-- Lines change, or a byte is struck.
gives_still : (n : Connection) (c : Change) (x : Exchange) (d : Dialogue) (h h' : Handshakes)
    → SamePhase c.before c.after → (c.before.io ≡ true → h'.requests ≡ h.requests) → GivesBy x d h c.before
    → GivesBy x d h' c.after
gives_still n c x d h h' same e g = record {
  fit = g.fit;
  in_message_in = λ f i.
      let was : is_message_in c.before ≡ true = sym (in_same c.before c.after same) ∙ i in
      count_as (bytes_of_messages x.plan.messages) d.half h'.requests h.requests (e (in_io c.before was))
      (g.in_message_in f was);
}

gives_struck : (x : Exchange) (d : Dialogue) (h : Handshakes) (b : LineSet) (io : Bool) → GivesBy x d h b → GivesBy
    (record { begun = x.begun; speech = x.speech; plan = if true && not io then struck_plan x.plan else x.plan }) d h b
gives_struck x d h b true g = g
gives_struck x d h b false g = record { fit = g.fit; in_message_in = g.in_message_in }

-- A byte crosses, in MESSAGE IN or else.
gives_byte : (k : RunState) (n : Connection) (c : Change) (dev : ℕ) (x : Exchange) (t : ℕ) → x.begun ≡ k.exchange.begun
    → x.plan.messages ≡ k.exchange.plan.messages → changes_phase c ≡ false → receiver_in n c ≡ Some dev
    → GivesNext k n c → GivesBy k.exchange k.story.bus_state.dialogue k.handshakes c.before
    → GivesBy x (byte_crosses k.story.bus_state.dialogue c) (handshakes_on (Some n) c t k.handshakes) c.after
gives_byte k n c dev x t eb em ep er next g = record {
  fit = subst (λ (m : Messages). OnMessages FitsIn m) (sym em) g.fit;
  in_message_in = λ f i.
      let was : is_message_in c.before ≡ true = sym (in_same c.before c.after (same_phase_is c ep)) ∙ i in
      let y = next was (ap (λ (z : Option ℕ). is_some z) er) in
      let d : Dialogue = k.story.bus_state.dialogue in
      let count : ℕ = k.handshakes.requests in
      let byte : ℕ = c.after.data_bits % 256 in
      let half : (byte_crosses d c).half ≡ left_of (got_in (d.half ++ byte ∷ [])) (d.half ++ byte ∷ []) = by d byte
      (not c.after.atn) (is_message_out c.before) (is_message_in c.before) refl was was in
      let more : counted_on count ≡ count + 1 = counted count
      (length (bytes_of_messages k.exchange.plan.messages)) y.1 (few_messages k.exchange.plan.messages) in
      let one = given_on (bytes_of_messages k.exchange.plan.messages) d.half count byte
      (g.in_message_in (sym eb ∙ f) was) y.0 y.1 in
      subst (λ (m : Messages). AreGiven (bytes_of_messages m) (byte_crosses d c).half
      (handshakes_on (Some n) c t k.handshakes).requests) (sym em) (subst (λ (z : List ℕ). AreGiven
      (bytes_of_messages k.exchange.plan.messages) z (handshakes_on (Some n) c t k.handshakes).requests)
      (sym half) (count_as (bytes_of_messages k.exchange.plan.messages)
      (left_of (got_in (d.half ++ byte ∷ [])) (d.half ++ byte ∷ [])) (handshakes_on (Some n) c t k.handshakes).requests
      (count + 1) (requests_rise n c t dev k.handshakes ep (in_io c.before was) er ∙ more) one));
}
  where
    by : (d : Dialogue) (byte : ℕ) (last : Bool) (o r : Bool)
        → is_message_out c.before ≡ o → is_message_in c.before ≡ true → r ≡ true
        → (if o then byte_out d byte last else if r then byte_in d byte else byte_else d c.before byte).half
        ≡ left_of (got_in (d.half ++ byte ∷ [])) (d.half ++ byte ∷ [])
    by d byte last true r eo ei e = not_both c.before ei eo
    by d byte last false r eo ei e = ap (λ (q : Bool). (if q then byte_in d byte else byte_else d c.before byte).half) e

pub byte_messages : (o last : Bool) (m : Option MsgOut) (l : Plan)
    → (if o then plan_after_message l last m else l).messages ≡ l.messages
byte_messages true last m l = kept_messages last l
byte_messages false last m l = refl

-- A phase begins.
from_fit : (m : Messages) (i : ℕ) → OnMessages FitsIn m → OnMessages FitsIn (from_byte m i)
from_fit m i h =
    elim (cases_Bool (nat_lt i (length (message_bytes m.first)))) [ inl e ↦ rw e h | inr e ↦ rw e (h.1, tt) ]

others_fit : IsOfOthers FitsIn
others_fit = record { complete = tt; save = tt; restore = tt; disconnect = tt; sdtr = λ a. tt; reject = tt }

gives_turn :
    (x : Exchange) (w : Hearing) (l : Leaving) (h : Option HostDef) (now fault : Bool) (d : Dialogue) (y : Handshakes)
    → OnMessages FitsIn x.plan.messages → OnMessages FitsIn l.messages → y.requests ≡ 0
    → GivesBy (still_talk true now fault h w l x) (phase_begins d) y w.change.after
gives_turn x w l h now fault d y was next zero = record {
  fit = go (is_message_out w.change.after) w.begun;
  in_message_in = λ f i. record {
    before = [];
    rest = bytes_of_messages (plan_in_phase w l x.plan).messages;
    bytes_are = refl;
    count_is = zero;
    half_is = refl;
  };
}
  where
    refused : (q : Bool) → OnMessages FitsIn (if q then from_byte x.plan.messages (w.offered - 1) else x.plan.messages)
    refused true = from_fit x.plan.messages (w.offered - 1) was
    refused false = was

    go : (o b : Bool)
        → OnMessages FitsIn (if not o then record (plan_anew x.plan) { messages = l.messages; next = l.next }
        else if b then plan_in_message_out w x.plan else plan_anew x.plan).messages
    go false b = next
    go true true = refused (is_message_in w.change.before)
    go true false = was

pub gives_on : (s : ScenarioValue) (k : RunState) (row : Row) (n : Connection) (c : Change) → IsRowIn k row n c
    → GivesNext k n c → Gives k → Gives (run_state_after s k row)
gives_on s k row n c r next g = go r.kind
  where
    was : GivesBy k.exchange k.story.bus_state.dialogue k.handshakes c.before
    was = subst (λ (z : LineSet). GivesBy k.exchange k.story.bus_state.dialogue k.handshakes z) r.bus_is g

    to : (phase now fault : Bool) → InConnection s k row n c phase now fault
        → GivesBy (still_talk phase now fault (host_of s n.initiator)
        (hearing_of k row (reading_in k.story.bus_state n c now)) (leaving s k n.target) k.exchange)
        (dialogue_by phase now c k.story.bus_state.dialogue) (run_state_after s k row).handshakes c.after
        → Gives (run_state_after s k row)
    to phase now fault i = gives_as (run_state_after s k row).exchange
        (still_talk phase now fault (host_of s n.initiator) (hearing_of k row (reading_in k.story.bus_state n c now))
        (leaving s k n.target) k.exchange) (run_state_after s k row).story.bus_state.dialogue
        (dialogue_by phase now c k.story.bus_state.dialogue) (run_state_after s k row).handshakes
        (bus_of (run_state_after s k row)) c.after i.exchange_is i.dialogue_is i.bus_is

    none_crosses : receiver_in n c ≡ None → is_some (receiver_in n c) ≡ false
    none_crosses e = ap (λ (z : Option ℕ). is_some z) e

    go : RowKind row n c → Gives (run_state_after s k row)
    go (still ef ep er) =
        let i = in_connection s k row n c false false false r ep (none_crosses er) ef in
        to false false false i (gives_still n c k.exchange k.story.bus_state.dialogue k.handshakes
        (run_state_after s k row).handshakes (same_phase_is c ep) (λ io. ap (λ (z : Handshakes). z.requests)
        (i.handshakes_is ∙ ap (λ (q : Bool). handshakes_after q (Some n) c row.time k.handshakes) ef)
        ∙ requests_stay n c row.time k.handshakes ep io er) was)
    go (strikes ef ep er) =
        let i = in_connection s k row n c false false true r ep (none_crosses er) ef in
        to false false true i (gives_struck k.exchange k.story.bus_state.dialogue (run_state_after s k row).handshakes
        c.after c.before.io (gives_still n c k.exchange k.story.bus_state.dialogue k.handshakes
        (run_state_after s k row).handshakes (same_phase_is c ep) (λ io. ap (λ (z : Handshakes). z.requests)
        (i.handshakes_is ∙ ap (λ (q : Bool). handshakes_after q (Some n) c row.time k.handshakes) ef)
        ∙ struck_same c.before.io k.handshakes) was))
    go (crosses dev ef ep er) =
        let i = in_connection s k row n c false true false r ep (ap (λ (z : Option ℕ). is_some z) er) ef in
        to false true false i (subst (λ (z : Handshakes). GivesBy
        (still_talk false true false (host_of s n.initiator) (hearing_of k row (reading_in k.story.bus_state n c true))
        (leaving s k n.target) k.exchange) (byte_crosses k.story.bus_state.dialogue c) z c.after)
        (sym (i.handshakes_is ∙ ap (λ (q : Bool). handshakes_after q (Some n) c row.time k.handshakes) ef))
        (gives_byte k n c dev (still_talk false true false (host_of s n.initiator)
        (hearing_of k row (reading_in k.story.bus_state n c true)) (leaving s k n.target) k.exchange) row.time refl
        (byte_messages (is_message_out c.before) k.story.bus_state.dialogue.is_last
        (hearing_of k row (reading_in k.story.bus_state n c true)).out k.exchange.plan) ep er next was))
    go (turns ef ep er) =
        let i = in_connection s k row n c true false false r ep (none_crosses er) ef in
        to true false false i
        (gives_turn k.exchange (hearing_of k row (reading_in k.story.bus_state n c false)) (leaving s k n.target)
        (host_of s n.initiator) false false k.story.bus_state.dialogue (run_state_after s k row).handshakes g.fit
        (left_messages FitsIn others_fit (serving_of s k n.target) k.exchange.begun (bus_of k) g.fit)
        (ap (λ (z : Handshakes). z.requests)
        (i.handshakes_is ∙ ap (λ (q : Bool). handshakes_after q (Some n) c row.time k.handshakes) ef)
        ∙ ap (λ (q : Bool). (if q then no_handshakes else answered_if (rises c.before.ack c.after.ack) row.time
        (asked_if (rises c.before.req c.after.req) row.time k.handshakes)).requests) ep))
