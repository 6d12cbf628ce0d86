-- Whose synchronous data transfer request is open as another phase begins (6.6.21).
use Rattle.story_laws.proofs
use proofs.Names.{inl, inr, ℕ, ◌≡◌, ◌⊎◌, ◌<◌, ◌≤◌, Bool, true, false, not, ◌&&◌, ◌||◌, ◌==◌, ◌∙◌, List, length}
use proofs.Names.{append-nil, Option, Some, None, refl, sym, ap, subst, arith, nat_tests, ◌-◌, if◌then◌else◌, nat_lt}
use proofs.Names.{wrong, wrong', implies, LineSet, is_message_out, is_message_in, Handshakes, no_handshakes, in_bytes}
use proofs.Names.{out_bytes, MsgIn, MsgOut, phase_begins, Dialogue, End, HostDef, Speech, Exchange, bytes_of_messages}
use proofs.Names.{message_bytes, from_byte, one_message, plan_anew, speech_of, Serving, phase_of, phase_leaving}
use proofs.Names.{parity_error, detected_error, answer_bytes, host_answer, Cause, Messages, Next, Phase, not_both}
use proofs.Names.{opening_exchange, asking, OnMessages, is_out_phase, in_phase, IsNoRequest, Negotiates, requests}
use proofs.Names.{Plans, negotiates, WasOpen, offer_now, IsHeardIn, no_request, in_part, whole, SaysOne, is_detected}
use proofs.{Names.{IsHeardOut, opens, repeats, answers_it, detects, OffersBy}, Offers.Leavings.{HeadsTo}}
use proofs.{Offers.Statuses.{zero_is}, Pointers.Leavings.{is_attended}}
use Rattle.row_laws.specs.Offers.{answers, refuses, plain}

-- ---- phases and their lines

pub out_by_phase : (b : LineSet) → (b.msg ≡ true → b.cd ≡ true) → is_out_phase (phase_of b) ≡ is_message_out b
out_by_phase b h = go b.msg b.cd b.io h
  where
    go : (m c i : Bool) → (m ≡ true → c ≡ true)
        → is_out_phase (if m then (if i then Phase.MessageIn else Phase.MessageOut)
        else if c then (if i then Phase.Status else Phase.Command) else if i then Phase.DataIn else Phase.DataOut)
        ≡ (m && c && not i)
    go true true true h = refl
    go true true false h = refl
    go true false i h = wrong' (h refl)
    go false true true h = refl
    go false true false h = refl
    go false false true h = refl
    go false false false h = refl

-- A phase of messages, or another.
pub data Lines (b : LineSet) : Type 0 where
  says : is_message_out b ≡ true → Lines b
  gives : is_message_in b ≡ true → Lines b
  others : b.msg ≡ false → Lines b

pub lines_of : (b : LineSet) → (b.msg ≡ true → b.cd ≡ true) → Lines b
lines_of b h = go b.msg refl b.io refl
  where
    go : (m : Bool) → b.msg ≡ m → (i : Bool) → b.io ≡ i → Lines b
    go true e true f = gives (λ j. e j && h e j && f j)
    go true e false f = says (λ j. e j && h e j && not (f j))
    go false e i f = others e

-- ---- in another phase than MESSAGE OUT

settled_in : (b : LineSet) (o : Option End) (messages : Messages) (next : Next)
    → HeadsTo o (Some (phase_of b)) messages next → b.msg ≡ false → o ≡ None
settled_in b o messages next h e =
    by b.cd b.io (subst (λ (m : Bool). HeadsTo o (Some (if m then (if b.io then Phase.MessageIn else Phase.MessageOut)
    else if b.cd then (if b.io then Phase.Status else Phase.Command) else if b.io then Phase.DataIn else Phase.DataOut))
    messages next) e h)
  where
    by : (c i : Bool) → HeadsTo o
        (Some (if c then (if i then Phase.Status else Phase.Command) else if i then Phase.DataIn else Phase.DataOut))
        messages next → o ≡ None
    by true true z = z
    by true false z = z
    by false true z = z
    by false false z = z

planned_in : (b : LineSet) (o : Option End) (messages : Messages) (next : Next)
    → HeadsTo o (Some (phase_of b)) messages next → is_message_in b ≡ true → Plans o messages next
planned_in b o messages next h e = subst (λ (f : Phase). HeadsTo o (Some f) messages next) (in_phase b e) h

some_bytes : (before after : Option End) (m : MsgIn) → Negotiates before after m → 0 < length (in_bytes m)
some_bytes before after m (answers a eb ea em) = subst (λ (z : MsgIn). 0 < length (in_bytes z)) (sym em) (omega arith)
some_bytes before after m (refuses eb ea em) = subst (λ (z : MsgIn). 0 < length (in_bytes z)) (sym em) (omega arith)
some_bytes before after m (requests a eb ea em) = subst (λ (z : MsgIn). 0 < length (in_bytes z)) (sym em) (omega arith)

begins_in : (messages : Messages) (next : Next) (d : Dialogue) → Plans (offer_now d) messages next
    → IsHeardIn messages next d 0
begins_in messages next d (plain e h) = no_request h e (inl refl)
begins_in messages next d (negotiates after m ng em en) =
    in_part (offer_now d) after m ng em en refl (inl refl) (some_bytes (offer_now d) after m ng)

abbrev is_targets : Option End → Bool
is_targets None = false
is_targets (Some End.Initiator) = false
is_targets (Some End.Target) = true

not_target : (o : Option End) (messages : Messages) (next : Next) → Plans o messages next → o ≡ Some End.Target → ⊥
not_target o messages next (plain e h) f = wrong' (sym (ap is_targets e) ∙ ap is_targets f)
not_target o messages next (negotiates after m (answers a eb ea em) ex en) f =
    wrong' (sym (ap is_targets eb) ∙ ap is_targets f)
not_target o messages next (negotiates after m (refuses eb ea em) ex en) f =
    wrong' (sym (ap is_targets eb) ∙ ap is_targets f)
not_target o messages next (negotiates after m (requests a eb ea em) ex en) f =
    wrong' (sym (ap is_targets eb) ∙ ap is_targets f)

-- A phase begins, with these messages and this after them.
abbrev pub entering : Exchange → Speech → Messages → Next → Exchange
entering x v messages next =
    record { begun = true; speech = v; plan = record (plan_anew x.plan) { messages = messages; next = next } }

pub offers_enter : (x : Exchange) (v : Speech) (d : Dialogue) (b : LineSet) (messages : Messages) (next : Next)
    → is_message_out b ≡ false → b.atn ≡ false → HeadsTo (offer_now d) (Some (phase_of b)) messages next
    → OffersBy (entering x v messages next) (phase_begins d) no_handshakes b
offers_enter x v d b messages next other quiet h = record {
  unbegun = λ f. wrong f;
  settled = λ f e. settled_in b (offer_now d) messages next h e;
  out = λ f e. wrong (sym e ∙ other);
  into = λ f i. begins_in messages next (phase_begins d) (planned_in b (offer_now d) messages next h i);
  why = λ f i a. wrong (sym a ∙ quiet);
  asks = λ f i t. absurd (not_target (offer_now d) messages next (planned_in b (offer_now d) messages next h i) t);
}

-- ---- in MESSAGE OUT

in_out : (x : Exchange) (d : Dialogue) (h : Handshakes) (b : LineSet) → x.begun ≡ true → is_message_out b ≡ true
    → IsHeardOut x d → OffersBy x d h b
in_out x d h b g m w = record {
  unbegun = λ f. wrong (sym g ∙ f);
  settled = λ f z. wrong (sym (first b.msg b.cd b.io m) ∙ z);
  out = λ f z. w;
  into = λ f i. not_both b i m;
  why = λ f i. not_both b i m;
  asks = λ f i. not_both b i m;
}
  where
    first : (q r i : Bool) → (q && r && not i) ≡ true → q ≡ true
    first true r i e = refl
    first false r i e = wrong' e

pub offers_open : (x : Exchange) (d : Dialogue) (b : LineSet) → is_message_out b ≡ true → x.plan.cause ≡ Cause.Selected
    → (offer_now d ≡ None) × (d.heard.void ≡ None) → OffersBy (opening_exchange x) (phase_begins d) no_handshakes b
offers_open x d b m c w = in_out (opening_exchange x) (phase_begins d) no_handshakes b refl m (opens c w.0 w.1 w.1 w.0)

one_anew : (m : MsgOut) (v : Speech) (d : Dialogue) → v.words ≡ out_bytes m → SaysOne m v (phase_begins d)
one_anew m v d e = record { words_are = e; fresh = refl; last = λ f. wrong' f }

-- After data or status.
pub offers_detect : (x : Exchange) (d : Dialogue) (b : LineSet) (cause : Cause) (messages : Messages)
    → is_message_out b ≡ true → is_detected cause ≡ true → offer_now d ≡ None
    → OffersBy (asking x detected_error cause messages) (phase_begins d) no_handshakes b
offers_detect x d b cause messages m c e = in_out (asking x detected_error cause messages) (phase_begins d)
    no_handshakes b refl m (detects c (one_anew MsgOut.DetectedError (speech_of x.speech detected_error) d refl) e)

-- What is left of the messages of MESSAGE IN.
from_plain : (m : Messages) (i : ℕ) → OnMessages IsNoRequest m → OnMessages IsNoRequest (from_byte m i)
from_plain m i h = go (nat_lt i (length (message_bytes m.first)))
  where
    go : (q : Bool) → OnMessages IsNoRequest (if q then m else record { first = m.second; second = None })
    go true = h
    go false = (h.1, tt)

before_last : (i m : ℕ) → (i == 0) ≡ false → i ≤ m → nat_lt (i - 1) m ≡ true
before_last i m e h = grind (arith, nat_tests)

from_one : (messages : Messages) (m : MsgIn) (i : ℕ) → messages ≡ one_message m → (i == 0) ≡ false
    → i ≤ length (in_bytes m) → from_byte messages (i - 1) ≡ one_message m
from_one messages m i e some h = ap (λ (z : Messages). from_byte z (i - 1)) e
    ∙ ap (λ (q : Bool). if q then one_message m else record { first = None; second = None })
    (before_last i (length (in_bytes m)) some h)

record Left (d : Dialogue) (messages : Messages) (next : Next) : Type 0 where
  before : Option End
  was : WasOpen d.heard before
  plans : Plans before messages next

left_of_messages : (messages : Messages) (next : Next) (d : Dialogue) (count : ℕ) → (count == 0) ≡ false
    → IsHeardIn messages next d count → Left d (from_byte messages (count - 1)) next
left_of_messages messages next d count some (no_request q o (inl z)) = absurd (zero_is count z some)
left_of_messages messages next d count some (no_request q o (inr w)) =
    record { before = None; was = w; plans = plain refl (from_plain messages (count - 1) q) }
left_of_messages messages next d count some (in_part before after m ng em en o (inl z) l) =
    absurd (zero_is count z some)
left_of_messages messages next d count some (in_part before after m ng em en o (inr w) l) = record {
  before = before;
  was = w;
  plans = negotiates after m ng (from_one messages m count em some (omega arith)) en;
}
left_of_messages messages next d count some (whole before after m ng em en o w l) = record {
  before = before;
  was = w;
  plans = negotiates after m ng (from_one messages m count em some (omega arith)) en;
}

-- The target has requested, so COMMAND follows.
pub asked_at_command : (messages : Messages) (next : Next) (d : Dialogue) (count : ℕ) → IsHeardIn messages next d count
    → offer_now d ≡ Some End.Target → next ≡ Next.Command
asked_at_command messages next d count (no_request q o w) t = wrong' (sym (ap is_targets o) ∙ ap is_targets t)
asked_at_command messages next d count (in_part before after m ng em en o w l) t = en
asked_at_command messages next d count (whole before after m ng em en o w l) t = en

-- After MESSAGE IN with ATN true: a byte was struck, or the target has requested.
pub offers_answer : (x : Exchange) (d : Dialogue) (h : Handshakes) (b : LineSet) (host : Option HostDef) (struck : Bool)
    → is_message_out b ≡ true → (h.requests == 0) ≡ false
    → (struck ≡ true) ⊎ (offer_now d ≡ Some End.Target) → IsHeardIn x.plan.messages x.plan.next d h.requests
    → OffersBy (asking x (if struck then parity_error else answer_bytes host x.speech.asked) Cause.InMessage
    (from_byte x.plan.messages (h.requests - 1))) (phase_begins d) no_handshakes b
offers_answer x d h b host true m some w i =
    let l = left_of_messages x.plan.messages x.plan.next d h.requests some i in
    in_out (asking x parity_error Cause.InMessage (from_byte x.plan.messages (h.requests - 1))) (phase_begins d)
    no_handshakes b refl m (repeats l.before refl (one_anew MsgOut.ParityError (speech_of x.speech parity_error) d refl)
    (record { void = l.was.void; void_is = l.was.void_is; offer_is = l.was.offer_is }) l.plans)
offers_answer x d h b host false m some w i = in_out
    (asking x (answer_bytes host x.speech.asked) Cause.InMessage (from_byte x.plan.messages (h.requests - 1)))
    (phase_begins d) no_handshakes b refl m (answers_it (host_answer host x.speech.asked) refl
    (asked_at_command x.plan.messages x.plan.next d h.requests i (unstruck w)) (one_anew
    (MsgOut.Sdtr (host_answer host x.speech.asked)) (speech_of x.speech (answer_bytes host x.speech.asked)) d refl)
    (unstruck w))
  where
    unstruck : (false ≡ true) ⊎ (offer_now d ≡ Some End.Target) → offer_now d ≡ Some End.Target
    unstruck (inl z) = wrong' z
    unstruck (inr z) = z

-- ---- MESSAGE IN left with ATN false

pub none_open : (messages : Messages) (next : Next) (d : Dialogue) (count : ℕ) → IsHeardIn messages next d count
    → count ≡ length (bytes_of_messages messages) → (offer_now d ≡ Some End.Target → ⊥) → offer_now d ≡ None
none_open messages next d count (no_request q o w) e t = o
none_open messages next d count (in_part before after m ng em en o w l) e t =
    let bytes = ap (λ (z : Messages). length (bytes_of_messages z)) em in
    let alone = ap (λ (z : List ℕ). length z) (append-nil (in_bytes m)) in
    absurd (omega arith)
none_open messages next d count (whole before after m (answers a eb ea ex) em en o w l) e t = o ∙ ea
none_open messages next d count (whole before after m (refuses eb ea ex) em en o w l) e t = o ∙ ea
none_open messages next d count (whole before after m (requests a eb ea ex) em en o w l) e t = absurd (t (o ∙ ea))

-- ---- ATN as a phase is left for another than MESSAGE OUT

abbrev pub goes_out : Option Phase → Bool
goes_out None = false
goes_out (Some f) = is_out_phase f

pub unattended : (v : Serving) (attention : Bool) (phase : Phase) (to : Phase) → is_attended phase ≡ true
    → (phase_leaving v attention phase).to ≡ Some to → is_out_phase to ≡ false → attention ≡ false
unattended v false phase to g e o = refl
unattended v true Phase.MessageOut to g e o = wrong' g
unattended v true Phase.Command to g e o = wrong' g
unattended v true Phase.DataOut to g e o = wrong' g
unattended v true _ to g e o = wrong (ap goes_out e ∙ o)

pub in_direction : (b : LineSet) → b.io ≡ true → is_attended (phase_of b) ≡ true
in_direction b e = go b.msg b.cd b.io e
  where
    go : (m c i : Bool) → i ≡ true → is_attended (if m then (if i then Phase.MessageIn else Phase.MessageOut)
        else if c then (if i then Phase.Status else Phase.Command) else if i then Phase.DataIn else Phase.DataOut)
        ≡ true
    go true c true z = refl
    go true c false z = wrong' z
    go false true true z = refl
    go false true false z = wrong' z
    go false false true z = refl
    go false false false z = wrong' z

pub low_line : (a i m : Bool) → implies a (i || m) ≡ true → i ≡ false → m ≡ false → a ≡ false
low_line false i m e f g = refl
low_line true i m e f g = wrong' (sym (λ j. f j || g j) ∙ e)
