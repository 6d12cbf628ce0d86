-- The messages of what an initiator says in MESSAGE OUT: MESSAGE PARITY ERROR is said alone, or not at all.
use Rattle.transcript_laws.proofs
use proofs.Names.{ℕ, zero, suc, ◌≡◌, ◌∙◌, ◌<◌, Bool, true, false, not, ◌&&◌, List, [], ◌∷◌, ◌++◌, Option, Some, None}
use proofs.Names.{refl, sym, ap, arith, append-nil, nat_lt, if◌then◌else◌, AbortKind, Connection, FitsOut, form_out}
use proofs.Names.{out_bytes, MsgOut, ScenarioValue, AbortDef, HostDef, Tag, process_of, abort_line_at, Item, process}
use proofs.Names.{abort, is_parity_error, Exchange, offer_if, tag_bytes, abort_bytes, process_opening, abort_opening}
use proofs.Names.{parity_error, host_answer, Cause, host_of, opening, AreUnits, AreWordsFor, opens, refuses, answers}
use proofs.{Names.{rejects_data, rejects_status}, Said.Words.{said_of}}
use Rattle.due_model.specs.array_model.specs.Processes.{Process}
pub use Rattle.progress_laws.specs.book_laws.proofs.Said.First.{process_unit as unit_small}

-- ---- one message after another

pub said_message : (m : MsgOut) → FitsOut m → (rest : List ℕ) → said_of [] (out_bytes m ++ rest) ≡ m ∷ said_of [] rest
unfolding form_out
said_message (MsgOut.Identify disc lun) fits rest = go disc lun fits
  where
    go : (disc : Bool) (lun : ℕ) → lun < 8
        → said_of [] (out_bytes (MsgOut.Identify disc lun) ++ rest) ≡ MsgOut.Identify disc lun ∷ said_of [] rest
    go true zero lt = refl
    go true (suc zero) lt = refl
    go true (suc (suc zero)) lt = refl
    go true (suc (suc (suc zero))) lt = refl
    go true (suc (suc (suc (suc zero)))) lt = refl
    go true (suc (suc (suc (suc (suc zero))))) lt = refl
    go true (suc (suc (suc (suc (suc (suc zero)))))) lt = refl
    go true (suc (suc (suc (suc (suc (suc (suc zero))))))) lt = refl
    go false zero lt = refl
    go false (suc zero) lt = refl
    go false (suc (suc zero)) lt = refl
    go false (suc (suc (suc zero))) lt = refl
    go false (suc (suc (suc (suc zero)))) lt = refl
    go false (suc (suc (suc (suc (suc zero))))) lt = refl
    go false (suc (suc (suc (suc (suc (suc zero)))))) lt = refl
    go false (suc (suc (suc (suc (suc (suc (suc zero))))))) lt = refl
    go disc (suc (suc (suc (suc (suc (suc (suc (suc n)))))))) lt = absurd omega (arith, lt)
said_message (MsgOut.SimpleTag n) fits rest = refl
said_message (MsgOut.HeadTag n) fits rest = refl
said_message (MsgOut.OrderedTag n) fits rest = refl
said_message (MsgOut.Sdtr offer) fits rest = refl
said_message MsgOut.Abort fits rest = refl
said_message MsgOut.AbortTag fits rest = refl
said_message MsgOut.ClearQueue fits rest = refl
said_message MsgOut.DeviceReset fits rest = refl
said_message MsgOut.DetectedError fits rest = refl
said_message MsgOut.ParityError fits rest = refl
said_message MsgOut.Reject fits rest = refl
said_message MsgOut.Nop fits rest = refl

pub said_one : (m : MsgOut) → FitsOut m → said_of [] (out_bytes m) ≡ m ∷ []
said_one m fits = ap (λ (x : List ℕ). said_of [] x) (sym (append-nil (out_bytes m))) ∙ said_message m fits []

-- ---- the openings

abbrev pub tag_messages : Tag → List MsgOut → List MsgOut
tag_messages Tag.Untagged more = more
tag_messages (Tag.Simple n) more = MsgOut.SimpleTag n ∷ more
tag_messages (Tag.Ordered n) more = MsgOut.OrderedTag n ∷ more
tag_messages (Tag.Head n) more = MsgOut.HeadTag n ∷ more

tag_said : (tag : Tag) (rest : List ℕ) → said_of [] (tag_bytes tag ++ rest) ≡ tag_messages tag (said_of [] rest)
tag_said Tag.Untagged rest = refl
tag_said (Tag.Simple n) rest = said_message (MsgOut.SimpleTag n) tt rest
tag_said (Tag.Ordered n) rest = said_message (MsgOut.OrderedTag n) tt rest
tag_said (Tag.Head n) rest = said_message (MsgOut.HeadTag n) tt rest

abbrev pub offer_messages : Option HostDef → List MsgOut
offer_messages None = []
offer_messages (Some h) =
    if h.offers && nat_lt 0 h.period then MsgOut.Sdtr (record { period = h.period; offset = h.offset }) ∷ [] else []

abbrev pub offers_if : Bool → Option HostDef → List MsgOut
offers_if true h = offer_messages h
offers_if false h = []

offer_said : (negotiates : Bool) (h : Option HostDef) → said_of [] (offer_if negotiates h) ≡ offers_if negotiates h
offer_said false h = refl
offer_said true None = refl
offer_said true (Some h) = go (h.offers && nat_lt 0 h.period)
  where
    go : (q : Bool)
        → said_of [] (if q then out_bytes (MsgOut.Sdtr (record { period = h.period; offset = h.offset })) else [])
        ≡ (if q then MsgOut.Sdtr (record { period = h.period; offset = h.offset }) ∷ [] else [])
    go true = said_one (MsgOut.Sdtr (record { period = h.period; offset = h.offset })) tt
    go false = refl

pub process_said : (h : Option HostDef) (negotiates : Bool) (c : Process) → c.unit < 8
    → said_of [] (process_opening h negotiates (Some c))
    ≡ MsgOut.Identify (not c.id.sense) c.unit ∷ tag_messages c.tag (offers_if negotiates h)
process_said h negotiates c lt =
    said_message (MsgOut.Identify (not c.id.sense) c.unit) lt (tag_bytes c.tag ++ offer_if negotiates h)
    ∙ ap (λ (x : List MsgOut). MsgOut.Identify (not c.id.sense) c.unit ∷ x)
    (tag_said c.tag (offer_if negotiates h) ∙ ap (tag_messages c.tag) (offer_said negotiates h))

abbrev pub abort_messages : AbortKind → List MsgOut
abort_messages AbortKind.All = MsgOut.Abort ∷ []
abort_messages (AbortKind.Tag n) = MsgOut.SimpleTag n ∷ MsgOut.AbortTag ∷ []
abort_messages AbortKind.WholeQueue = MsgOut.ClearQueue ∷ []
abort_messages AbortKind.Device = MsgOut.DeviceReset ∷ []

what_said : (what : AbortKind) → said_of [] (abort_bytes what) ≡ abort_messages what
what_said AbortKind.All = said_one MsgOut.Abort tt
what_said (AbortKind.Tag n) = said_message (MsgOut.SimpleTag n) tt (out_bytes MsgOut.AbortTag)
    ∙ ap (λ (x : List MsgOut). MsgOut.SimpleTag n ∷ x) (said_one MsgOut.AbortTag tt)
what_said AbortKind.WholeQueue = said_one MsgOut.ClearQueue tt
what_said AbortKind.Device = said_one MsgOut.DeviceReset tt

pub abort_said : (a : AbortDef) → a.unit < 8
    → said_of [] (abort_opening (Some a)) ≡ MsgOut.Identify false a.unit ∷ abort_messages a.what
abort_said a lt = said_message (MsgOut.Identify false a.unit) lt (abort_bytes a.what)
    ∙ ap (λ (x : List MsgOut). MsgOut.Identify false a.unit ∷ x) (what_said a.what)

-- ---- MESSAGE PARITY ERROR

abbrev pub is_plain_said : List MsgOut → Bool
is_plain_said [] = true
is_plain_said (m ∷ ms) = not (is_parity_error m) && is_plain_said ms

plain_offer : (negotiates : Bool) (h : Option HostDef) → is_plain_said (offers_if negotiates h) ≡ true
plain_offer false h = refl
plain_offer true None = refl
plain_offer true (Some h) = go (h.offers && nat_lt 0 h.period)
  where
    go : (q : Bool)
        → is_plain_said (if q then MsgOut.Sdtr (record { period = h.period; offset = h.offset }) ∷ [] else []) ≡ true
    go true = refl
    go false = refl

plain_tag : (tag : Tag) (more : List MsgOut) → is_plain_said more ≡ true → is_plain_said (tag_messages tag more) ≡ true
plain_tag Tag.Untagged more e = e
plain_tag _ more e = e

plain_abort : (what : AbortKind) → is_plain_said (abort_messages what) ≡ true
plain_abort AbortKind.All = refl
plain_abort _ = refl

pub opening_plain : (s : ScenarioValue) (dev : ℕ) (negotiates : Bool) (served : Option Item) → AreUnits s
    → is_plain_said (said_of [] (opening s dev negotiates served)) ≡ true
opening_plain s dev negotiates None u = refl
opening_plain s dev negotiates (Some (process id)) u = go (process_of s id) refl
  where
    go : (o : Option Process) → process_of s id ≡ o
        → is_plain_said (said_of [] (process_opening (host_of s dev) negotiates o)) ≡ true
    go None e = refl
    go (Some c) e =
        ap is_plain_said (process_said (host_of s dev) negotiates c (unit_small s id c u e))
        ∙ plain_tag c.tag (offers_if negotiates (host_of s dev)) (plain_offer negotiates (host_of s dev))
opening_plain s dev negotiates (Some (abort n)) u = go (abort_line_at s.aborts n) refl
  where
    go : (o : Option AbortDef) → abort_line_at s.aborts n ≡ o → is_plain_said (said_of [] (abort_opening o)) ≡ true
    go None e = refl
    go (Some a) e = ap is_plain_said (abort_said a (u.aborts n a e)) ∙ plain_abort a.what

-- What is said is MESSAGE PARITY ERROR after a message, or has none of it.
pub data SaysParity (words : List ℕ) (cause : Cause) : Type 0 where
  refusing : cause ≡ Cause.InMessage → words ≡ parity_error → SaysParity words cause
  plain_words : is_plain_said (said_of [] words) ≡ true → SaysParity words cause

pub says_parity : (s : ScenarioValue) (n : Connection) (served : Option Item) (x : Exchange) (cause : Cause)
    → AreUnits s → AreWordsFor s n served x cause → SaysParity x.speech.words cause
says_parity s n served x _ u (opens e) = plain_words
    (ap (λ (w : List ℕ). is_plain_said (said_of [] w)) e ∙ opening_plain s n.initiator x.plan.negotiates served u)
says_parity s n served x _ u (refuses e) = refusing refl e
says_parity s n served x _ u (answers e) = plain_words (ap (λ (w : List ℕ). is_plain_said (said_of [] w)) e
    ∙ ap is_plain_said (said_one (MsgOut.Sdtr (host_answer (host_of s n.initiator) x.speech.asked)) tt))
says_parity s n served x _ u (rejects_data e) = plain_words
    (ap (λ (w : List ℕ). is_plain_said (said_of [] w)) e ∙ ap is_plain_said (said_one MsgOut.DetectedError tt))
says_parity s n served x _ u (rejects_status e) = plain_words
    (ap (λ (w : List ℕ). is_plain_said (said_of [] w)) e ∙ ap is_plain_said (said_one MsgOut.DetectedError tt))
