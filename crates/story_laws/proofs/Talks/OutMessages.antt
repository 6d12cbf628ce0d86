-- The messages that a target hears: after the last byte one is whole, and of a process none is an abort.
use Rattle.story_laws.proofs
use proofs.Names.{ℕ, zero, suc, ◌≡◌, ◌<◌, Bool, true, false, not, ◌&&◌, ◌∙◌, List, [], ◌∷◌, ◌++◌, Option, Some, None}
use proofs.Names.{refl, sym, ap, subst, arith, append-nil, if◌then◌else◌, is_some, nat_lt, ⊤, wrong, wrong', ProcId}
use proofs.Names.{Connection, is_abort, form_out, FitsOut, got_out, out_bytes, Got, Whole, More, Unknown, MsgOut}
use proofs.Names.{fresh_bytes, left_of, is_nil, reading_out, Dialogue, is_unknown, ScenarioValue, HostDef, Tag, Process}
use proofs.Names.{process_of, whole_out, Item, process, Speech, Exchange, next_word, attends_with, offer_if, tag_bytes}
use proofs.Names.{process_opening, host_answer, Cause, Plan, host_of, AreUnits, understood_append, says_byte, says_more}
use proofs.Names.{process_unit, reads_at, reads_end, Understanding, nothing_understood, understood, understood_byte}
use proofs.Names.{form_messages, AreWordsHeard, AreWordsFor, refuses, answers, rejects_data, rejects_status, IsSpeaking}
use proofs.Names.{by_option}
use Rattle.row_laws.specs.book_laws.specs.Speaking.{opens}

abbrev pub NoAbort : Option MsgOut → Type 0
NoAbort None = ⊤
NoAbort (Some m) = is_abort m ≡ false

-- ---- the messages that bytes make whole

abbrev pub next_half : List ℕ → ℕ → List ℕ
next_half half b = left_of (got_out (half ++ b ∷ [])) (half ++ b ∷ [])

abbrev AbortNone : List ℕ → List ℕ → Type 0
AbortNone half [] = ⊤
AbortNone half (b ∷ bytes) = NoAbort (whole_out (got_out (half ++ b ∷ []))) × AbortNone (next_half half b) bytes

one_said : (m : MsgOut) (rest : List ℕ) → FitsOut m → is_abort m ≡ false → AbortNone [] rest
    → AbortNone [] (out_bytes m ++ rest)
unfolding form_out
one_said (MsgOut.Identify disc lun) rest fits e h = go disc lun fits
  where
    go : (disc : Bool) (lun : ℕ) → lun < 8 → AbortNone [] (out_bytes (MsgOut.Identify disc lun) ++ rest)
    go true zero lt = (refl, h)
    go true (suc zero) lt = (refl, h)
    go true (suc (suc zero)) lt = (refl, h)
    go true (suc (suc (suc zero))) lt = (refl, h)
    go true (suc (suc (suc (suc zero)))) lt = (refl, h)
    go true (suc (suc (suc (suc (suc zero))))) lt = (refl, h)
    go true (suc (suc (suc (suc (suc (suc zero)))))) lt = (refl, h)
    go true (suc (suc (suc (suc (suc (suc (suc zero))))))) lt = (refl, h)
    go false zero lt = (refl, h)
    go false (suc zero) lt = (refl, h)
    go false (suc (suc zero)) lt = (refl, h)
    go false (suc (suc (suc zero))) lt = (refl, h)
    go false (suc (suc (suc (suc zero)))) lt = (refl, h)
    go false (suc (suc (suc (suc (suc zero))))) lt = (refl, h)
    go false (suc (suc (suc (suc (suc (suc zero)))))) lt = (refl, h)
    go false (suc (suc (suc (suc (suc (suc (suc zero))))))) lt = (refl, h)
    go disc (suc (suc (suc (suc (suc (suc (suc (suc n)))))))) lt = absurd omega (arith, lt)
one_said (MsgOut.SimpleTag n) rest fits e h = (tt, (refl, h))
one_said (MsgOut.HeadTag n) rest fits e h = (tt, (refl, h))
one_said (MsgOut.OrderedTag n) rest fits e h = (tt, (refl, h))
one_said (MsgOut.Sdtr offer) rest fits e h = (tt, (tt, (tt, (tt, (refl, h)))))
one_said MsgOut.Abort rest fits e h = wrong e
one_said MsgOut.AbortTag rest fits e h = wrong e
one_said MsgOut.ClearQueue rest fits e h = wrong e
one_said MsgOut.DeviceReset rest fits e h = wrong e
one_said MsgOut.DetectedError rest fits e h = (refl, h)
one_said MsgOut.ParityError rest fits e h = (refl, h)
one_said MsgOut.Reject rest fits e h = (refl, h)
one_said MsgOut.Nop rest fits e h = (refl, h)

tag_said : (tag : Tag) (rest : List ℕ) → AbortNone [] rest → AbortNone [] (tag_bytes tag ++ rest)
tag_said Tag.Untagged rest h = h
tag_said (Tag.Simple n) rest h = one_said (MsgOut.SimpleTag n) rest tt refl h
tag_said (Tag.Ordered n) rest h = one_said (MsgOut.OrderedTag n) rest tt refl h
tag_said (Tag.Head n) rest h = one_said (MsgOut.HeadTag n) rest tt refl h

alone_said : (m : MsgOut) → FitsOut m → is_abort m ≡ false → AbortNone [] (out_bytes m)
alone_said m fits e = subst (λ (x : List ℕ). AbortNone [] x) (append-nil (out_bytes m)) (one_said m [] fits e tt)

offer_said : (negotiates : Bool) (h : Option HostDef) → AbortNone [] (offer_if negotiates h)
offer_said false h = tt
offer_said true None = tt
offer_said true (Some h) = go (h.offers && nat_lt 0 h.period)
  where
    go : (q : Bool)
        → AbortNone [] (if q then out_bytes (MsgOut.Sdtr (record { period = h.period; offset = h.offset })) else [])
    go true = alone_said (MsgOut.Sdtr (record { period = h.period; offset = h.offset })) tt refl
    go false = tt

opening_said : (h : Option HostDef) (negotiates : Bool) (c : Process) → c.unit < 8
    → AbortNone [] (process_opening h negotiates (Some c))
opening_said h negotiates c lt = one_said (MsgOut.Identify (not c.id.sense) c.unit) (tag_bytes c.tag
    ++ offer_if negotiates h) lt refl (tag_said c.tag (offer_if negotiates h) (offer_said negotiates h))

words_said : (s : ScenarioValue) (n : Connection) (id : ProcId) (x : Exchange) (c : Cause) → AreUnits s
    → AreWordsFor s n (Some (process id)) x c → AbortNone [] x.speech.words
words_said s n id x _ u (opens e) =
    subst (λ (w : List ℕ). AbortNone [] w) (sym e) (by_option (process_of s id) (λ f. subst
    (λ (y : Option Process). AbortNone [] (process_opening (host_of s n.initiator) x.plan.negotiates y)) (sym f) tt)
    (λ p f. subst (λ (y : Option Process). AbortNone [] (process_opening (host_of s n.initiator) x.plan.negotiates y))
    (sym f) (opening_said (host_of s n.initiator) x.plan.negotiates p (process_unit s id p u f))))
words_said s n id x _ u (refuses e) =
    subst (λ (w : List ℕ). AbortNone [] w) (sym e) (alone_said MsgOut.ParityError tt refl)
words_said s n id x _ u (answers e) = subst (λ (w : List ℕ). AbortNone [] w) (sym e)
    (alone_said (MsgOut.Sdtr (host_answer (host_of s n.initiator) x.speech.asked)) tt refl)
words_said s n id x _ u (rejects_data e) =
    subst (λ (w : List ℕ). AbortNone [] w) (sym e) (alone_said MsgOut.DetectedError tt refl)
words_said s n id x _ u (rejects_status e) =
    subst (λ (w : List ℕ). AbortNone [] w) (sym e) (alone_said MsgOut.DetectedError tt refl)

said_at : (h : Understanding) (xs : List ℕ) (b : ℕ) (ys : List ℕ) → AbortNone h.half (xs ++ b ∷ ys)
    → NoAbort (whole_out (got_out ((understood h xs).half ++ b ∷ [])))
said_at h [] b ys e = e.0
said_at h (x ∷ xs) b ys e = said_at (understood_byte h x) xs b ys e.1

-- ---- a byte crosses

half_is : (v : Speech) (l : Plan) (d : Dialogue) (h : AreWordsHeard v l d)
    → fresh_bytes d ≡ (understood nothing_understood h.before).half
half_is v l d h = ap (λ (x : Understanding). x.half) h.anew

-- Of a process it makes no abort.
pub out_is_no_abort : (s : ScenarioValue) (n : Connection) (id : ProcId) (x : Exchange) (d : Dialogue) (byte : ℕ)
    → AreUnits s → IsSpeaking s n (Some (process id)) x d → byte ≡ next_word x.speech
    → NoAbort (whole_out (got_out (fresh_bytes d ++ byte ∷ [])))
out_is_no_abort s n id x d byte u w e =
    let h = w.heard in
    subst (λ (y : List ℕ). NoAbort (whole_out (got_out y))) (λ i. sym (half_is x.speech x.plan d h) i
    ++ sym (e ∙ says_byte x.speech x.plan d h) i ∷ []) (said_at nothing_understood h.before h.byte h.rest
    (subst (λ (y : List ℕ). AbortNone [] y) h.words_are (words_said s n id x x.plan.cause u w.words_for)))

whole_some : (g : Got MsgOut) (bytes : List ℕ) (b : ℕ) → is_unknown (reading_out g) ≡ false
    → left_of g (bytes ++ b ∷ []) ≡ [] → is_some (whole_out g) ≡ true
whole_some (Whole m n) bytes b u e = refl
whole_some More bytes b u e = absurd (some_left bytes e)
  where
    some_left : (xs : List ℕ) → xs ++ b ∷ [] ≡ [] → ⊥
    some_left [] z = absurd cc
    some_left (x ∷ xs) z = absurd cc
whole_some Unknown bytes b u e = wrong u

-- With the last one a message is whole.
pub last_is_whole : (s : ScenarioValue) (n : Connection) (served : Option Item) (x : Exchange) (d : Dialogue) (byte : ℕ)
    → IsSpeaking s n served x d → byte ≡ next_word x.speech → attends_with x.speech ≡ false
    → is_some (whole_out (got_out (fresh_bytes d ++ byte ∷ []))) ≡ true
last_is_whole s n served x d byte w e last = go h.rest h.words_are (says_more x.speech x.plan d h)
  where
    h : AreWordsHeard x.speech x.plan d
    h = w.heard

    flip : (q : Bool) → not q ≡ true → q ≡ false
    flip true z = wrong' z
    flip false z = refl

    go : (rest : List ℕ) → x.speech.words ≡ h.before ++ h.byte ∷ rest → attends_with x.speech ≡ not (is_nil h.rest)
        → is_some (whole_out (got_out (fresh_bytes d ++ byte ∷ []))) ≡ true
    go rest words more = by h.rest refl
      where
        by : (r : List ℕ) → h.rest ≡ r → is_some (whole_out (got_out (fresh_bytes d ++ byte ∷ []))) ≡ true
        by (c ∷ r) er = wrong (sym (more ∙ ap (λ (y : List ℕ). not (is_nil y)) er) ∙ last)
        by [] er =
            let all : x.speech.words ≡ h.before ++ h.byte ∷ [] = h.words_are
            ∙ ap (λ (y : List ℕ). h.before ++ h.byte ∷ y) er in
            let half = (understood nothing_understood h.before).half in
            let same : half ++ h.byte ∷ [] ≡ fresh_bytes d ++ byte ∷ [] = λ i. sym (half_is x.speech x.plan d h) i
            ++ sym (e ∙ says_byte x.speech x.plan d h) i ∷ [] in
            let known = flip (is_unknown (reading_out (got_out (half ++ h.byte ∷ [])))) (reads_at
            nothing_understood h.before h.byte [] (ap (form_messages nothing_understood) (sym all) ∙ w.whole)) in
            let left : left_of (got_out (half ++ h.byte ∷ [])) (half ++ h.byte ∷ []) ≡ [] =
            ap (λ (y : Understanding). y.half) (sym (understood_append nothing_understood h.before (h.byte ∷ [])))
            ∙ reads_end nothing_understood (h.before ++ h.byte ∷ [])
            (ap (form_messages nothing_understood) (sym all) ∙ w.whole) in
            ap (λ (y : List ℕ). is_some (whole_out (got_out y))) (sym same)
            ∙ whole_some (got_out (half ++ h.byte ∷ [])) half h.byte known left
