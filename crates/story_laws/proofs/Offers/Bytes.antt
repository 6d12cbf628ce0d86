-- One message, byte by byte: it is heard with its last byte, and not before (6.6).
use Rattle.story_laws.proofs
use proofs.Names.{ℕ, zero, suc, ◌≡◌, ◌<◌, ◌+◌, Bool, true, false, not, ◌∙◌, List, [], ◌∷◌, ◌++◌, length, length-append}
use proofs.Names.{refl, sym, ap, arith, true≢false, inl, inr, ◌⊎◌, append-nil, Option, Some, None, subst, take}
use proofs.Names.{nat_tests, if◌then◌else◌, nat_lt, slice_index_or, is_some, Agreement, form_in, form_out, got_in}
use proofs.Names.{got_out, in_bytes, out_bytes, FitsIn, Got, Whole, More, Unknown, MsgIn, MsgOut, fresh_bytes}
use proofs.Names.{fresh_heard, heard_out, heard_in, heard_with_out, heard_with_in, word_out, word_in, byte_out}
use proofs.Names.{heard_if_begun, void_or_now, is_of_other, without_offset, spoken_with_reject, byte_in, Dialogue}
use proofs.Names.{Heard, Spoken, End, whole_out, whole_in, Speech, next_word, attends_with, speech_after_byte, Exchange}
use proofs.Names.{bytes_of_messages, plan_anew_if, said_with_if, Messages, Next, Plan, Said, heard_next, heard_byte}
use proofs.Names.{AreGiven, OnMessage, OnMessages, Understanding, nothing_understood, understood, half_after}
use proofs.Names.{AreWordsHeard, by_bool, SaysOne, IsNoRequest, Negotiates, requests, WasOpen, offer_now, IsHeardIn}
use proofs.Names.{no_request, in_part, whole, offer_said, Plans, is_detected, IsHeardOut, opens, repeats, answers_it}
use proofs.Names.{detects}
use Rattle.row_laws.specs.Offers.{answers, refuses}

pub take_front : (xs ys : List ℕ) → take (length xs) (xs ++ ys) ≡ xs
take_front [] ys = refl
take_front (x ∷ xs) ys = ap (λ (zs : List ℕ). x ∷ zs) (take_front xs ys)

-- ---- to the target

abbrev pub IsHeardOnce : MsgOut → Type 0
IsHeardOnce m = (h : Heard) (i : ℕ) → i < length (out_bytes m) → heard_out h
    (got_out ((understood nothing_understood (take i (out_bytes m))).half ++ slice_index_or (out_bytes m) i 0 ∷ []))
    ≡ (if nat_lt (i + 1) (length (out_bytes m)) then h else heard_with_out h (word_out m))

pub parity_once : IsHeardOnce MsgOut.ParityError
unfolding form_out
parity_once h zero lt = refl
parity_once h (suc n) lt = absurd omega (arith, lt)

pub detected_once : IsHeardOnce MsgOut.DetectedError
unfolding form_out
detected_once h zero lt = refl
detected_once h (suc n) lt = absurd omega (arith, lt)

pub answer_once : (a : Agreement) → IsHeardOnce (MsgOut.Sdtr a)
unfolding form_out
answer_once a h zero lt = refl
answer_once a h (suc zero) lt = refl
answer_once a h (suc (suc zero)) lt = refl
answer_once a h (suc (suc (suc zero))) lt = refl
answer_once a h (suc (suc (suc (suc zero)))) lt = refl
answer_once a h (suc (suc (suc (suc (suc n))))) lt = absurd omega (arith, lt)

-- The next byte of it crosses.
pub says_one_on : (m : MsgOut) (v : Speech) (l : Plan) (d : Dialogue) (byte : ℕ) → IsHeardOnce m → AreWordsHeard v l d
    → byte ≡ next_word v → SaysOne m v d → SaysOne m (speech_after_byte v) (byte_out d byte (not (attends_with v)))
says_one_on m v l d byte once h e o = go (attends_with v) refl
  where
    front : take v.place v.words ≡ h.before
    front = (λ i. take (h.place_is i) (h.words_are i)) ∙ take_front h.before (h.byte ∷ h.rest)

    half : fresh_bytes d ≡ (understood nothing_understood (take v.place (out_bytes m))).half
    half = ap (λ (u : Understanding). u.half) (h.anew ∙ ap (understood nothing_understood) (sym front))
        ∙ (λ i. (understood nothing_understood (take v.place (o.words_are i))).half)

    is : byte ≡ slice_index_or (out_bytes m) v.place 0
    is = e ∙ (λ i. slice_index_or (o.words_are i) v.place 0)

    within : v.place < length (out_bytes m)
    within =
        let all : length (out_bytes m) ≡ length (h.before ++ h.byte ∷ h.rest) = ap
        (λ (x : List ℕ). length x) (sym o.words_are ∙ h.words_are) in
        let two = length-append h.before (h.byte ∷ h.rest) in
        let at = h.place_is in
        omega arith

    now : heard_out (fresh_heard d) (got_out (fresh_bytes d ++ byte ∷ []))
        ≡ (if attends_with v then d.at_phase else heard_with_out d.at_phase (word_out m))
    now = (λ i. heard_out (o.fresh i) (got_out (half i ++ is i ∷ []))) ∙ once d.at_phase v.place within
        ∙ (λ i. if nat_lt (v.place + 1) (length (sym o.words_are i)) then d.at_phase
        else heard_with_out d.at_phase (word_out m))

    go : (q : Bool) → attends_with v ≡ q → SaysOne m (speech_after_byte v) (byte_out d byte (not (attends_with v)))
    go true f = record {
      words_are = o.words_are;
      fresh = ap
          (λ (q : Bool). if not q then d.at_phase else heard_out (fresh_heard d) (got_out (fresh_bytes d ++ byte ∷ [])))
          f ∙ now ∙ ap (λ (q : Bool). if q then d.at_phase else heard_with_out d.at_phase (word_out m)) f;
      last = λ z. absurd (true≢false (sym z ∙ ap not f));
    }
    go false f = record {
      words_are = o.words_are;
      fresh = ap
          (λ (q : Bool). if not q then d.at_phase else heard_out (fresh_heard d) (got_out (fresh_bytes d ++ byte ∷ [])))
          f;
      last = λ z. now ∙ ap (λ (q : Bool). if q then d.at_phase else heard_with_out d.at_phase (word_out m)) f;
    }

-- ---- to the initiator

abbrev pub IsGivenOnce : MsgIn → Type 0
IsGivenOnce m = (h : Heard) (i : ℕ) → i < length (in_bytes m)
    → heard_in h (got_in (half_after [] (take i (in_bytes m)) ++ slice_index_or (in_bytes m) i 0 ∷ []))
    ≡ (if nat_lt (i + 1) (length (in_bytes m)) then h else heard_with_in h (word_in m))

pub reject_once : IsGivenOnce MsgIn.Reject
unfolding form_in
reject_once h zero lt = refl
reject_once h (suc n) lt = absurd omega (arith, lt)

pub request_once : (a : Agreement) → IsGivenOnce (MsgIn.Sdtr a)
unfolding form_in
request_once a h zero lt = refl
request_once a h (suc zero) lt = refl
request_once a h (suc (suc zero)) lt = refl
request_once a h (suc (suc (suc zero))) lt = refl
request_once a h (suc (suc (suc (suc zero)))) lt = refl
request_once a h (suc (suc (suc (suc (suc n))))) lt = absurd omega (arith, lt)

-- ---- A byte of a message crosses: whose synchronous data transfer request is open then (6.6.21).

-- ---- MESSAGE IN

rejects_none : (x : Spoken) → x.offer ≡ None → (spoken_with_reject x End.Target).offer ≡ None
rejects_none x e = go (is_of_other x.offer End.Target) (is_of_other x.answered End.Target)
  where
    go : (q r : Bool) → (if q then record x { agreement = without_offset x.agreement; offer = None; answered = None }
        else if r then record x { agreement = without_offset x.agreement; answered = None }
        else record x { answered = None }).offer ≡ None
    go true r = refl
    go false true = e
    go false false = e

message_settles : (h : Heard) (m : MsgIn) → IsNoRequest m → h.now.offer ≡ None
    → (heard_with_in h (word_in m)).now.offer ≡ None
message_settles h (MsgIn.Sdtr offer) q e = absurd (true≢false q)
message_settles h MsgIn.Reject q e = rejects_none h.now e
message_settles h _ q e = e

-- What it is where a message begins, or one has begun.
was_open_on : (half : List ℕ) (h : Heard) (count : ℕ) (before : Option End)
    → h.now.offer ≡ before → (count ≡ 0 → half ≡ []) → (count ≡ 0) ⊎ WasOpen h before
    → (WasOpen (heard_if_begun half h) before) × ((heard_if_begun half h).now.offer ≡ before)
was_open_on [] h count before e none w = (record { void = h.now; void_is = refl; offer_is = e }, e)
was_open_on (b ∷ half) h count before e none (inl z) = absurd (nil_some (none z))
  where
    nil_some : b ∷ half ≡ [] → ⊥
    nil_some z = cc
was_open_on (b ∷ half) h count before e none (inr w) = (w, e)

void_same : (h : Heard) (g : Got MsgIn) (before : Option End) → WasOpen h before → WasOpen (heard_in h g) before
void_same h (Whole m n) before w = record { void = w.void; void_is = w.void_is; offer_is = w.offer_is }
void_same h More before w = w
void_same h Unknown before w = w

settles : (h : Heard) (g : Got MsgIn) → OnMessage IsNoRequest (whole_in g) → h.now.offer ≡ None
    → (heard_in h g).now.offer ≡ None
settles h (Whole m n) q e = message_settles h m q e
settles h More q e = e
settles h Unknown q e = e

none_given : (bytes half : List ℕ) (count : ℕ) → AreGiven bytes half count → count ≡ 0 → half ≡ []
none_given bytes half count g z = go g.before g.half_is g.count_is
  where
    go : (before : List ℕ) → half ≡ half_after [] before → count ≡ length before → half ≡ []
    go [] e l = e
    go (b ∷ before) e l = absurd (omega arith)

negotiates_on : (before after : Option End) (m : MsgIn) (h : Heard) → Negotiates before after m → h.now.offer ≡ before
    → (heard_with_in h (word_in m)).now.offer ≡ after
negotiates_on before after m h (answers a eb ea em) e = (λ i. (heard_with_in h (word_in (em i))).now.offer)
    ∙ (λ i. (if is_of_other ((e ∙ eb) i) End.Target then record h.now {
      agreement = a;
      offer = None;
      answered = Some End.Target;
    } else record h.now { offer = Some End.Target; answered = None }).offer)
    ∙ sym ea
negotiates_on before after m h (refuses eb ea em) e = (λ i. (heard_with_in h (word_in (em i))).now.offer)
    ∙ (λ i. (if is_of_other ((e ∙ eb) i) End.Target then record h.now {
      agreement = without_offset h.now.agreement;
      offer = None;
      answered = None;
    } else if is_of_other h.now.answered End.Target then record h.now {
      agreement = without_offset h.now.agreement;
      answered = None;
    } else record h.now { answered = None }).offer) ∙ sym ea
negotiates_on before after m h (requests a eb ea em) e = (λ i. (heard_with_in h (word_in (em i))).now.offer)
    ∙ (λ i. (if is_of_other ((e ∙ eb) i) End.Target then record h.now {
      agreement = a;
      offer = None;
      answered = Some End.Target;
    } else record h.now { offer = Some End.Target; answered = None }).offer)
    ∙ sym ea

given_once : (before after : Option End) (m : MsgIn) → Negotiates before after m → IsGivenOnce m
given_once before after m (answers a eb ea em) = subst IsGivenOnce (sym em) (request_once a)
given_once before after m (refuses eb ea em) = subst IsGivenOnce (sym em) reject_once
given_once before after m (requests a eb ea em) = subst IsGivenOnce (sym em) (request_once a)

last_count : (i m : ℕ) → i < m → nat_lt (i + 1) m ≡ false → i + 1 ≡ m
last_count i m lt e = grind (arith, nat_tests)

next_count : (i m : ℕ) → nat_lt (i + 1) m ≡ true → i + 1 < m
next_count i m e = grind (arith, nat_tests)

-- The next byte of the message that negotiates.
one_on : (messages : Messages) (next : Next) (d : Dialogue) (count byte : ℕ) (before after : Option End) (m : MsgIn)
    → AreGiven (in_bytes m) d.half count → byte ≡ slice_index_or (in_bytes m) count 0
    → count < length (in_bytes m) → Negotiates before after m → IsHeardIn messages next d count
    → ((z : heard_in (heard_if_begun d.half d.heard) (got_in (d.half ++ byte ∷ [])) ≡ heard_if_begun d.half d.heard)
    → count + 1 < length (in_bytes m) → IsHeardIn messages next (byte_in d byte) (count + 1))
    → ((z : heard_in (heard_if_begun d.half d.heard) (got_in (d.half ++ byte ∷ []))
    ≡ heard_with_in (heard_if_begun d.half d.heard) (word_in m))
    → count + 1 ≡ length (in_bytes m) → IsHeardIn messages next (byte_in d byte) (count + 1))
    → IsHeardIn messages next (byte_in d byte) (count + 1)
one_on messages next d count byte before after m g e lt ng h part all =
    by_bool (nat_lt (count + 1) (length (in_bytes m)))
    (λ f. part (now ∙ ap (λ (q : Bool). if q then h0 else heard_with_in h0 (word_in m)) f) (next_count count _ f))
    (λ f. all (now ∙ ap (λ (q : Bool). if q then h0 else heard_with_in h0 (word_in m)) f) (last_count count _ lt f))
  where
    h0 : Heard
    h0 = heard_if_begun d.half d.heard

    front : take count (in_bytes m) ≡ g.before
    front = (λ i. take (g.count_is i) (g.bytes_are i)) ∙ take_front g.before g.rest

    half : d.half ≡ half_after [] (take count (in_bytes m))
    half = g.half_is ∙ ap (half_after []) (sym front)

    now : heard_in h0 (got_in (d.half ++ byte ∷ []))
        ≡ (if nat_lt (count + 1) (length (in_bytes m)) then h0 else heard_with_in h0 (word_in m))
    now = (λ i. heard_in h0 (got_in (half i ++ e i ∷ []))) ∙ given_once before after m ng h0 count lt

lone_bytes : (messages : Messages) (m : MsgIn) → messages ≡ record { first = Some m; second = None }
    → bytes_of_messages messages ≡ in_bytes m
lone_bytes messages m e = ap bytes_of_messages e ∙ append-nil (in_bytes m)

was_as : (a b : Heard) (before : Option End) → a ≡ b → WasOpen b before → WasOpen a before
was_as a b before e w = subst (λ (h : Heard). WasOpen h before) (sym e) w

pub heard_in_on : (messages : Messages) (next : Next) (d : Dialogue) (count byte : ℕ) → OnMessages FitsIn messages
    → AreGiven (bytes_of_messages messages) d.half count → byte ≡ slice_index_or (bytes_of_messages messages) count 0
    → count < length (bytes_of_messages messages) → IsHeardIn messages next d count
    → IsHeardIn messages next (byte_in d byte) (count + 1)
heard_in_on messages next d count byte fit g e lt (no_request q o w) =
    let on = was_open_on d.half d.heard count None o (none_given _ d.half count g) w in
    let next_message = heard_next IsNoRequest messages d.half count byte fit q g e lt in
    no_request q (settles (heard_if_begun d.half d.heard) (got_in (d.half ++ byte ∷ [])) next_message on.1)
    (inr (void_same (heard_if_begun d.half d.heard) (got_in (d.half ++ byte ∷ [])) None on.0))
heard_in_on messages next d count byte fit g e lt (in_part before after m ng em en o w l) =
    let bytes = lone_bytes messages m em in
    let on = was_open_on d.half d.heard count before o (none_given _ d.half count g) w in
    one_on messages next d count byte before after m (subst (λ (x : List ℕ). AreGiven x d.half count) bytes g)
    (e ∙ ap (λ (x : List ℕ). slice_index_or x count 0) bytes) l ng (in_part before after m ng em en o w l)
    (λ z more. in_part before after m ng em en (ap (λ (h : Heard). h.now.offer) z ∙ on.1)
    (inr (was_as _ _ before z on.0)) more) (λ z all. whole before after m ng em en
    (ap (λ (h : Heard). h.now.offer) z ∙ negotiates_on before after m (heard_if_begun d.half d.heard) ng on.1)
    (was_as _ _ before z (record { void = on.0.void; void_is = on.0.void_is; offer_is = on.0.offer_is })) all)
heard_in_on messages next d count byte fit g e lt (whole before after m ng em en o w l) =
    let bytes = ap (λ (x : List ℕ). length x) (lone_bytes messages m em) in
    absurd (omega arith)

-- ---- MESSAGE OUT

abbrev is_initiators : Option Agreement → Option End
is_initiators o = if is_some o then Some End.Initiator else None

not_other : (o : Option Agreement) → is_of_other (is_initiators o) End.Initiator ≡ false
not_other None = refl
not_other (Some a) = refl

-- A message of the opening counts at the target as it does of the rules.
opening_message : (m : MsgOut) (h : Heard) (said : Said) → h.void ≡ None → h.now.offer ≡ offer_said said
    → ((heard_with_out h (word_out m)).void ≡ None)
    × ((heard_with_out h (word_out m)).now.offer ≡ offer_said (said_with_if (Some m) said))
opening_message (MsgOut.Sdtr a) h said v e = (
  refl,
  ap (λ (q : Bool). (if q then record h.now { agreement = a; offer = None; answered = Some End.Initiator }
      else record h.now { offer = Some End.Initiator; answered = None }).offer)
      (ap (λ (o : Option End). is_of_other o End.Initiator) e ∙ not_other said.offer),
)
opening_message MsgOut.ParityError h said v e = (refl, ap (λ (o : Option Spoken). (void_or_now o h.now).offer) v ∙ e)
opening_message MsgOut.Reject h said v e = (
  refl,
  ap (λ (q : Bool).
      (if q then record h.now { agreement = without_offset h.now.agreement; offer = None; answered = None }
      else if is_of_other h.now.answered End.Initiator then record h.now {
        agreement = without_offset h.now.agreement;
        answered = None;
      } else record h.now { answered = None }).offer)
      (ap (λ (o : Option End). is_of_other o End.Initiator) e ∙ not_other said.offer)
      ∙ go (is_of_other h.now.answered End.Initiator),
)
  where
    go : (q : Bool) → (if q then record h.now { agreement = without_offset h.now.agreement; answered = None }
        else record h.now { answered = None }).offer ≡ offer_said said
    go true = e
    go false = e
opening_message _ h said v e = (refl, e)

opening_got : (g : Got MsgOut) (h : Heard) (said : Said) → h.void ≡ None → h.now.offer ≡ offer_said said
    → ((heard_out h g).void ≡ None) × ((heard_out h g).now.offer ≡ offer_said (said_with_if (whole_out g) said))
opening_got (Whole m n) h said v e = opening_message m h said v e
opening_got More h said v e = (v, e)
opening_got Unknown h said v e = (v, e)

-- As the bytes begin anew, or go on.
opening_anew : (d : Dialogue) (l : Plan) → d.at_phase.now.offer ≡ None
    → d.at_phase.void ≡ None → d.heard.void ≡ None → offer_now d ≡ offer_said l.said
    → ((fresh_heard d).void ≡ None) × ((fresh_heard d).now.offer ≡ offer_said (plan_anew_if d.is_last l).said)
opening_anew d l ao av v e = go d.is_last
  where
    go : (q : Bool) → ((if q then d.at_phase else d.heard).void ≡ None)
        × ((if q then d.at_phase else d.heard).now.offer ≡ offer_said (plan_anew_if q l).said)
    go true = (av, ao)
    go false = (v, e)

kept : (q : Bool) (l : Plan) → ((plan_anew_if q l).cause ≡ l.cause) × ((plan_anew_if q l).messages ≡ l.messages)
    × ((plan_anew_if q l).next ≡ l.next)
kept true l = (refl, refl, refl)
kept false l = (refl, refl, refl)

pub heard_out_on : (x : Exchange) (d : Dialogue) (byte : ℕ)
    → AreWordsHeard x.speech x.plan d → byte ≡ next_word x.speech → IsHeardOut x d
    → IsHeardOut (heard_byte x d.is_last (whole_out (got_out (fresh_bytes d ++ byte ∷ []))))
    (byte_out d byte (not (attends_with x.speech)))
heard_out_on x d byte w e (opens c ao av v o) =
    let an = opening_anew d x.plan ao av v o in
    let on = opening_got (got_out (fresh_bytes d ++ byte ∷ []))
    (fresh_heard d) (plan_anew_if d.is_last x.plan).said an.0 an.1 in
    opens ((kept d.is_last x.plan).0 ∙ c) ao av on.0 on.1
heard_out_on x d byte w e (repeats before c one v p) =
    let k = kept d.is_last x.plan in
    repeats before (k.0 ∙ c) (says_one_on _ x.speech x.plan d byte parity_once w e one) v
    (subst (λ (z : Next). Plans before (plan_anew_if d.is_last x.plan).messages z) (sym k.2)
    (subst (λ (z : Messages). Plans before z x.plan.next) (sym k.1) p))
heard_out_on x d byte w e (answers_it a c next one o) = answers_it a ((kept d.is_last x.plan).0 ∙ c)
    ((kept d.is_last x.plan).2 ∙ next) (says_one_on _ x.speech x.plan d byte (answer_once a) w e one) o
heard_out_on x d byte w e (detects c one o) = detects (ap is_detected (kept d.is_last x.plan).0 ∙ c)
    (says_one_on _ x.speech x.plan d byte detected_once w e one) o
