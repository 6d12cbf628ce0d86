-- In MESSAGE OUT of a prompt trace: fewer requests are left as REQ rises, and no more as ACK does.
use Rattle.measure_laws.proofs
use proofs.Names.{inl, inr, ℕ, suc, ◌≡◌, ◌≤◌, ◌<◌, ◌⊎◌, ◌∙◌, Bool, true, false, List, [], ◌∷◌, length, refl, sym, ap}
use proofs.Names.{subst, arith, Some, None, ◌&&◌, nat_tests, ◌+◌, ◌++◌, ◌==◌, if◌then◌else◌, not, ◌||◌, wrong'}
use proofs.Names.{counted_on, LineSet, is_message_out, bus, Row, Connection, Handshakes, answered, handshakes, dialogue}
use proofs.Names.{Dialogue, ScenarioValue, Obeys, Exchange, attends_with, plan_anew_if, begun, Plan, run_state_plain}
use proofs.Names.{IsPrompt, run_state, EndLines, Linked, initiator_side, target_side, offering_with, initiator_in_phase}
use proofs.Names.{initiator_row, target_row, Settling, Shaking, ends, some_count, is_pulsed, pulsed_as, whole}
use proofs.{Names.{requests_left, words_left}, Balances.Facts.{all_answered}, Phases.Asks.{asked_hand}}
use proofs.Phases.{Bytes.{quiet_other, shift_initiator, shift_target}, Rows.{requests_said}, Stays.{shift_exchange}}
use proofs.Words.{Steps.{hears_by, said_left, says_by, words_said}, VoiceRows.{InWords}, Voiced.{voiced}}
use proofs.Words.Voices.{VoicedAt}

struck_anew : (l : Bool) (a : Plan) → (plan_anew_if l a).struck ≡ (if l then false else a.struck)
struck_anew true a = refl
struck_anew false a = refl

words_of : (p : List Row) (n : Connection) (e : EndLines) → Linked p n e → e.msg ≡ true → e.cd ≡ true → e.io ≡ false
    → InWords (bus p)
words_of p n e h m c i = record {
  msg = ap (λ (l : LineSet). l.msg) h.stands.bus_is ∙ m;
  cd = ap (λ (l : LineSet). l.cd) h.stands.bus_is ∙ c;
  io = ap (λ (l : LineSet). l.io) h.stands.bus_is ∙ i;
}

voice_here : (s : ScenarioValue) (p : List Row) (n : Connection) (bsy ack atn req : Bool) (x y : ℕ) → Obeys s
    → IsPrompt s p → Linked p n (ends bsy ack atn x true true false req y) → (begun p) ≡ true → VoicedAt s p
voice_here s p n bsy ack atn req x y o prompt h b = voiced s p o prompt n h.stands.connection_is
    (ap (λ (l : LineSet). l.rst) h.stands.bus_is) b
    (words_of p n (ends bsy ack atn x true true false req y) h refl refl refl)

length_more : (a : List ℕ) (b : ℕ) (c : List ℕ) → length a < length (a ++ b ∷ c)
length_more [] b c = omega arith
length_more (x ∷ a) b c = let z = length_more a b c in omega (arith, z)

-- The place stands in the words.
place_there : (s : ScenarioValue) (p : List Row) (n : Connection) (bsy ack atn req : Bool) (x y : ℕ)
    → Obeys s → IsPrompt s p → Linked p n (ends bsy ack atn x true true false req y) → (begun p) ≡ true
    → (run_state s p).exchange.speech.place < length (run_state s p).exchange.speech.words
place_there s p n bsy ack atn req x y o prompt h b =
    let w = whole s p o prompt in
    let k = run_state s p in
    let pl = w.stood.plain in
    let on = pl.bus ∙ h.stands.bus_is in
    let v = (w.stood.books.speaks n (pl.connection ∙ h.stands.connection_is)
    (ap (λ (l : LineSet). l.rst) on)).in_message_out (pl.begun ∙ b) (ap is_message_out on) in
    let more = length_more v.heard.before v.heard.byte v.heard.rest in
    let words = ap length v.heard.words_are in
    let place = v.heard.place_is in
    omega (arith, more, words, place)

-- ---- ACK rises

says : (s : ScenarioValue) (p : List Row) (t : ℕ) (n : Connection) (atn : Bool) (x : ℕ)
    → Obeys s → IsPrompt s p → Shaking p n true true false true false atn x 0
    → requests_left s (run_state s (initiator_row t n (ends false true atn x true true false true 0) ∷ p)) n.target
    ≤ requests_left s (run_state s p) n.target
says s p t n atn x o prompt h =
    let e : EndLines = ends false false atn x true true false true 0 in
    let f : EndLines = ends false true atn x true true false true 0 in
    let q : List Row = initiator_row t n f ∷ p in
    let k = run_state s p in
    let j = run_state s q in
    let dv = (whole s p o prompt).stood.standing.devices in
    let pl = run_state_plain s p dv in
    let c = shift_initiator s p t n e false true atn x false dv h.linked h.phase.begun_is h.unpulsed
    (quiet_other e f (initiator_side e) (initiator_side f) refl) in
    let talk = shift_exchange s p t n.initiator (initiator_side f) n e f
    (initiator_side e) false c (Some n.target) refl in
    let last : k.story.bus_state.dialogue.is_last ≡ (dialogue p).is_last = ap
    (λ (d : Dialogue). d.is_last) pl.dialogue in
    let struck : j.exchange.plan.struck ≡ (if (dialogue p).is_last then false else k.exchange.plan.struck) =
    ap (λ (z : Exchange). z.plan.struck) talk ∙ struck_anew k.story.bus_state.dialogue.is_last k.exchange.plan
    ∙ ap (λ (l : Bool). if l then false else k.exchange.plan.struck) last in
    let place : j.exchange.speech.place ≡ (if attends_with k.exchange.speech then k.exchange.speech.place + 1 else 0) =
    ap (λ (z : Exchange). z.speech.place) talk in
    let words : length j.exchange.speech.words ≡ length k.exchange.speech.words = ap
    (λ (z : Exchange). length z.speech.words) talk in
    let hand : handshakes q ≡ answered t (handshakes p) =
    (initiator_in_phase p n e false true atn x t h.linked).handshakes_are in
    let some : ((handshakes q).requests == 0) ≡ false = ap (λ (z : Handshakes). z.requests == 0) hand ∙ h.asked in
    let is = requests_said s q n false true atn true true x 0 (c.row.below, dv) c.row.moves.linked
    ∙ words_said j.exchange.plan.struck false (handshakes q) j.exchange.speech some
    ∙ (λ i. said_left (struck i) false (place i) (words i)) in
    let was = requests_said s p n false false atn true true x 0 dv h.linked
    ∙ words_said k.exchange.plan.struck true (handshakes p) k.exchange.speech h.asked in
    let v = voice_here s p n false false atn true x 0 o prompt h.linked h.phase.begun_is in
    subst (λ a. a ≤ requests_left s k n.target) (sym is)
    (subst (λ b. said_left (if (dialogue p).is_last then false else k.exchange.plan.struck) false
    (if attends_with k.exchange.speech then k.exchange.speech.place + 1 else 0) (length k.exchange.speech.words) ≤ b)
    (sym was) (says_by k.exchange.plan.struck (dialogue p).is_last (attends_with k.exchange.speech)
    k.exchange.speech.place (length k.exchange.speech.words) (λ z. either (v.again z))))
  where
    either : {r : Bool} → ((dialogue p).is_last ≡ true) ⊎ (((run_state s p).exchange.plan.struck ≡ false) × (r ≡ false))
        → ((dialogue p).is_last ≡ true) ⊎ ((run_state s p).exchange.plan.struck ≡ false)
    either (inl z) = inl z
    either (inr (z, r)) = inr z

pub words_say : (s : ScenarioValue) (p : List Row) (t : ℕ) (n : Connection) (atn cd : Bool) (x : ℕ)
    → Obeys s → IsPrompt s p → Shaking p n true cd false true false atn x 0
    → requests_left s (run_state s (initiator_row t n (ends false true atn x true cd false true 0) ∷ p)) n.target
    ≤ requests_left s (run_state s p) n.target
words_say s p t n atn true x o prompt h = says s p t n atn x o prompt h
words_say s p t n atn false x o prompt h = wrong' (sym h.phase.known)

-- ---- REQ rises

counted_some : (m : ℕ) → (counted_on m == 0) ≡ false
counted_some m = grind (arith, nat_tests)

-- The words after it.
asked_words : (s : ScenarioValue) (p : List Row) (t : ℕ) (n : Connection) (bsy atn : Bool) (y : ℕ)
    → Obeys s → IsPrompt s p → Linked p n (ends bsy false atn 0 true true false false y) → (begun p) ≡ true
    → requests_left s (run_state s (target_row t n (ends bsy false atn 0 true true false true y) ∷ p)) n.target
    ≡ said_left (run_state s p).exchange.plan.struck true (run_state s p).exchange.speech.place
    (length (run_state s p).exchange.speech.words)
asked_words s p t n bsy atn y o prompt h b =
    let e : EndLines = ends bsy false atn 0 true true false false y in
    let f : EndLines = ends bsy false atn 0 true true false true y in
    let q : List Row = target_row t n f ∷ p in
    let j = run_state s q in
    let dv = (whole s p o prompt).stood.standing.devices in
    let c = shift_target s p t n e true y (is_pulsed p e) dv h b refl in
    let talk = shift_exchange s p t n.target (target_side f) n e f (target_side e) (is_pulsed p e) c None refl in
    let hand = asked_hand p t n bsy atn true true false y h in
    let some : ((handshakes q).requests == 0) ≡ false = ap (λ (z : Handshakes). z.requests == 0) hand
    ∙ counted_some (handshakes p).requests in
    requests_said s q n bsy false atn true true 0 y (c.row.below, dv) c.row.moves.linked
    ∙ words_said j.exchange.plan.struck true (handshakes q) j.exchange.speech some
    ∙ (λ i. said_left (talk i).plan.struck true (talk i).speech.place (length (talk i).speech.words))

first_one : (place words : ℕ) (struck : Bool) → place ≡ 0 → place < words
    → suc (said_left struck true place words) ≤ words
first_one place words struck none there =
    subst (λ x. suc (said_left struck true x words) ≤ words) (sym none) (omega (arith, there, none))

pub words_first : (s : ScenarioValue) (p : List Row) (t : ℕ) (n : Connection) (bsy atn cd : Bool) (y : ℕ)
    → Obeys s → IsPrompt s p → Settling p n bsy atn true cd false y
    → suc (requests_left s (run_state s (target_row t n (ends bsy false atn 0 true cd false true y) ∷ p)) n.target)
    ≤ requests_left s (run_state s p) n.target
words_first s p t n bsy atn false y o prompt h = wrong' (sym h.phase.known)
words_first s p t n bsy atn true y o prompt h =
    let k = run_state s p in
    let dv = (whole s p o prompt).stood.standing.devices in
    let was : requests_left s k n.target ≡ length k.exchange.speech.words =
    requests_said s p n bsy false atn true false 0 y dv h.linked
    ∙ ap (λ (z : Handshakes). words_left k.exchange.plan.struck false z k.exchange.speech) h.quiet in
    let v = voice_here s p n bsy false atn false 0 y o prompt h.linked h.phase.begun_is in
    let place = v.first (ap (λ (z : Handshakes). z.answers) h.quiet) in
    let there = place_there s p n bsy false atn false 0 y o prompt h.linked h.phase.begun_is in
    subst (λ a. suc a ≤ requests_left s k n.target)
    (sym (asked_words s p t n bsy atn y o prompt h.linked h.phase.begun_is)) (subst
    (λ b. suc (said_left k.exchange.plan.struck true k.exchange.speech.place (length k.exchange.speech.words)) ≤ b)
    (sym was) (first_one k.exchange.speech.place (length k.exchange.speech.words) k.exchange.plan.struck place there))

is_some_count : (m : ℕ) → 1 ≤ m → (m == 0) ≡ false
is_some_count m e = grind (arith, nat_tests)

third : (a b c : Bool) → (a || b || c) ≡ true → a ≡ false → b ≡ false → c ≡ true
third a b c e f g = (λ i. sym f i || sym g i || c) ∙ e

pub words_next : (s : ScenarioValue) (p : List Row) (t : ℕ) (n : Connection) (atn cd : Bool) (y : ℕ)
    → Obeys s → IsPrompt s p → Shaking p n true cd false false false atn 0 y
    → (offering_with s p n true (ends false false atn 0 true cd false false y)).follows ≡ true
    → suc (requests_left s (run_state s (target_row t n (ends false false atn 0 true cd false true y) ∷ p)) n.target)
    ≤ requests_left s (run_state s p) n.target
words_next s p t n atn false y o prompt h follows = wrong' (sym h.phase.known)
words_next s p t n atn true y o prompt h follows =
    let e : EndLines = ends false false atn 0 true true false false y in
    let w = whole s p o prompt in
    let k = run_state s p in
    let dv = w.stood.standing.devices in
    let con = h.linked.stands.connection_is in
    let on = h.linked.stands.bus_is in
    let calm : (bus p).rst ≡ false = ap (λ (l : LineSet). l.rst) on in
    let was = requests_said s p n false false atn true false 0 y dv h.linked
    ∙ words_said k.exchange.plan.struck false (handshakes p) k.exchange.speech h.asked in
    let v = voice_here s p n false false atn false 0 y o prompt h.linked h.phase.begun_is in
    let there = place_there s p n false false atn false 0 y o prompt h.linked h.phase.begun_is in
    let all = all_answered s p o prompt n con calm h.phase.begun_is
    (sym (pulsed_as p n e h.linked) ∙ h.unpulsed) (ap (λ (l : LineSet). l.req && not l.ack) on) in
    let rose = some_count (handshakes p).requests h.asked in
    let some : ((handshakes p).answers == 0) ≡ false = is_some_count
    (handshakes p).answers (omega (arith, all, rose)) in
    let attention : atn ≡ not (dialogue p).is_last = (w.stood.driven n con calm e h.linked h.phase.begun_is).attention
    refl refl in
    let struck : (k.exchange.speech.place == 0) ≡ true → k.exchange.plan.struck ≡ true = λ z. third
    ((handshakes p).answers == 0) atn k.exchange.plan.struck follows some (attention ∙ ap not (v.fresh z some)) in
    subst (λ a. suc a ≤ requests_left s k n.target)
    (sym (asked_words s p t n false atn y o prompt h.linked h.phase.begun_is)) (subst
    (λ b. suc (said_left k.exchange.plan.struck true k.exchange.speech.place (length k.exchange.speech.words)) ≤ b)
    (sym was) (hears_by k.exchange.plan.struck k.exchange.speech.place (length k.exchange.speech.words) struck there))
