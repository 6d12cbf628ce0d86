-- What the target has heard as MESSAGE OUT is left, and what a byte of it makes.
use Rattle.book_laws.proofs
use proofs.Names.{ℕ, ◌≡◌, Bool, true, false, ◌||◌, ◌∙◌, List, [], ◌∷◌, ◌++◌, Option, Some, None, refl, ap}
use proofs.Names.{if◌then◌else◌, is_some, ◌%◌, or_true, is_message_out, is_message_in, receiver_in, Change, Connection}
use proofs.Names.{got_out, got_in, reading_out, reading_of, Dialogue, Reading, is_unknown, ScenarioValue, AbortDef}
use proofs.Names.{Process, process_of, abort_line_at, Item, process, abort, Exchange, process_opening, abort_opening}
use proofs.Names.{Cause, Said, host_of, opening, is_process_named, is_abort_named, is_item_named, is_opening_named}
use proofs.Names.{RunState, bus_of, AreUnits, Understanding, nothing_understood, understood, understanding, AreWordsFor}
use proofs.{Names.{opens, refuses, answers, rejects_data, rejects_status, Speaks, SaysNext}, Said.First.{process_unit}}
use proofs.Said.{Messages.{reads_byte}, Openings.{opening_heard, abort_heard}}
use Rattle.due_model.specs.bus_phases.specs.Reading.{reading_in}

item_named : (s : ScenarioValue) (dev : ℕ) (negotiates : Bool) (said : Said) (item : Option Item) → AreUnits s
    → (x : List ℕ) → x ≡ opening s dev negotiates item → said ≡ (understood nothing_understood x).said
    → is_item_named s said item ≡ true
item_named s dev negotiates said None u x e f = refl
item_named s dev negotiates said (Some (process id)) u x e f = go (process_of s id) refl
  where
    go : (c : Option Process) → process_of s id ≡ c → is_process_named said (process_of s id) ≡ true
    go None ep = ap (is_process_named said) ep
    go (Some c) ep =
        let o = opening_heard (host_of s dev) negotiates c (process_unit s id c u ep) in
        let words : x ≡ process_opening (host_of s dev) negotiates (Some c) = e
        ∙ ap (process_opening (host_of s dev) negotiates) ep in
        let heard : said ≡ o.0 = f ∙ ap (λ (y : List ℕ). (understood nothing_understood y).said) words
        ∙ ap (λ (y : Understanding). y.said) o.1 in
        (λ i. is_process_named (heard i) (ep i)) ∙ o.2
item_named s dev negotiates said (Some (abort n)) u x e f = go (abort_line_at s.aborts n) refl
  where
    go : (a : Option AbortDef) → abort_line_at s.aborts n ≡ a → is_abort_named said (abort_line_at s.aborts n) ≡ true
    go None ea = ap (is_abort_named said) ea
    go (Some a) ea =
        let o = abort_heard a (u.aborts n a ea) in
        let words : x ≡ abort_opening (Some a) = e ∙ ap abort_opening ea in
        let heard : said ≡ o.0 = f ∙ ap (λ (y : List ℕ). (understood nothing_understood y).said) words
        ∙ ap (λ (y : Understanding). y.said) o.1 in
        (λ i. is_abort_named (heard i) (ea i)) ∙ o.2

named_by : (s : ScenarioValue) (n : Connection) (v : Option Item) (x : Exchange) (d : Dialogue) (cause : Cause)
    → AreUnits s → AreWordsFor s n v x cause → understanding x.plan d ≡ understood nothing_understood x.speech.words
    → is_opening_named s x.plan v cause ≡ true
named_by s n v x d _ u (opens e) h = ap (λ (q : Bool). x.plan.struck || q)
    (item_named s n.initiator x.plan.negotiates x.plan.said v u x.speech.words e (ap (λ (y : Understanding). y.said) h))
    ∙ or_true x.plan.struck
named_by s n v x d _ u _ h = refl

-- After the last byte the target has heard what was to be said.
pub opening_named : (s : ScenarioValue) (k : RunState) (n : Connection) → AreUnits s → Speaks s k n
    → k.exchange.begun ≡ true → is_message_out (bus_of k) ≡ true → k.story.bus_state.dialogue.is_last ≡ true
    → is_opening_named s k.exchange.plan k.served k.exchange.plan.cause ≡ true
opening_named s k n u h eb eo el =
    let w = h.in_message_out eb eo in
    named_by s n k.served k.exchange k.story.bus_state.dialogue k.exchange.plan.cause u w.words_for (w.heard.last el)

-- And no message is heard half.
pub out_is_whole : (s : ScenarioValue) (k : RunState) (n : Connection) → Speaks s k n
    → k.exchange.begun ≡ true → is_message_out (bus_of k) ≡ true → k.story.bus_state.dialogue.is_last ≡ true
    → k.story.bus_state.dialogue.half ≡ []
out_is_whole s k n h eb eo el =
    (h.in_message_out eb eo).half ∙ ap (λ (q : Bool). if q then [] else k.story.bus_state.dialogue.fresh) el

-- No byte makes an unknown message.
pub out_is_known : (s : ScenarioValue) (k : RunState) (n : Connection) (c : Change) → Speaks s k n
    → k.exchange.begun ≡ true → bus_of k ≡ c.before → is_message_out c.before ≡ true → SaysNext k n c
    → is_unknown (reading_of k.story.bus_state.dialogue.half (Some n) c) ≡ false
out_is_known s k n c h eb ec eo says = go (is_some (receiver_in n c)) refl
  where
    half : List ℕ
    half = k.story.bus_state.dialogue.half

    go : (q : Bool) → is_some (receiver_in n c) ≡ q
        → is_unknown (reading_of k.story.bus_state.dialogue.half (Some n) c) ≡ false
    go false e = ap (λ (q : Bool). is_unknown (if q then if is_message_out c.before
        then reading_out (got_out (k.story.bus_state.dialogue.half ++ c.after.data_bits % 256 ∷ []))
        else if is_message_in c.before
        then reading_in (got_in (k.story.bus_state.dialogue.half ++ c.after.data_bits % 256 ∷ []))
        else Reading.NoMessage else Reading.NoMessage)) e
    go true e =
        let w = h.in_message_out eb (ap is_message_out ec ∙ eo) in
        (λ i. is_unknown (if e i
        then if eo i then reading_out (got_out (k.story.bus_state.dialogue.half ++ c.after.data_bits % 256 ∷ []))
        else if is_message_in c.before then reading_in (got_in (k.story.bus_state.dialogue.half
        ++ c.after.data_bits % 256 ∷ [])) else Reading.NoMessage else Reading.NoMessage))
        ∙ reads_byte k.exchange.speech k.exchange.plan k.story.bus_state.dialogue (c.after.data_bits % 256) w.heard
        (record { whole = w.whole; half_is = w.half }) (says eo e).0
