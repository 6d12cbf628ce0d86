-- Rule 25 in MESSAGE OUT: the bytes form messages, and none is half sent as the phase is left.
use Rattle.book_laws.proofs
use proofs.Names.{ℕ, ◌≡◌, ◌<◌, zero, suc, Bool, true, false, not, ◌&&◌, ◌∙◌, List, [], ◌∷◌, ◌++◌, Option, Some, None}
use proofs.Names.{refl, sym, ap, arith, true≢false, inl, inr, cases_Bool, not-true, if◌then◌else◌, nat_lt, and_first}
use proofs.Names.{and_second, AbortKind, Agreement, form_out, out_bytes, got_out, FitsOut, MsgOut, fresh_bytes}
use proofs.Names.{byte_out, is_nil, left_of, reading_out, Dialogue, is_unknown, AbortDef, HostDef, Tag, Process, Speech}
use proofs.Names.{next_word, attends_with, speech_after_byte, nothing_heard, said_with, process_opening, abort_opening}
use proofs.Names.{abort_bytes, tag_bytes, offer_if, parity_error, detected_error, answer_bytes, Plan, Said}
use proofs.Names.{Understanding, nothing_understood, understood_byte, understood, form_messages, AreWordsHeard}
use proofs.{Common.Lists.{understood_append}, Said.Crossings.{says_byte, says_more}}

-- ---- lists

pub nil_is : (xs : List ℕ) → is_nil xs ≡ true → xs ≡ []
nil_is [] e = refl
nil_is (x ∷ xs) e = absurd (true≢false (sym e))

pub reads_at : (h : Understanding) (xs : List ℕ) (b : ℕ) (ys : List ℕ) → form_messages h (xs ++ b ∷ ys) ≡ true
    → not (is_unknown (reading_out (got_out ((understood h xs).half ++ b ∷ [])))) ≡ true
reads_at h [] b ys e =
    and_first (not (is_unknown (reading_out (got_out (h.half ++ b ∷ []))))) (form_messages (understood_byte h b) ys) e
reads_at h (x ∷ xs) b ys e =
    reads_at (understood_byte h x) xs b ys (and_second (not (is_unknown (reading_out (got_out (h.half ++ x ∷ [])))))
    (form_messages (understood_byte h x) (xs ++ b ∷ ys)) e)

pub reads_end : (h : Understanding) (xs : List ℕ) → form_messages h xs ≡ true → (understood h xs).half ≡ []
reads_end h [] e = nil_is h.half e
reads_end h (x ∷ xs) e = reads_end (understood_byte h x) xs (and_second
    (not (is_unknown (reading_out (got_out (h.half ++ x ∷ []))))) (form_messages (understood_byte h x) xs) e)

-- ---- a byte crosses

pub record Reads (v : Speech) (d : Dialogue) : Type 0 where
  pub whole : form_messages nothing_understood v.words ≡ true
  pub half_is : d.half ≡ fresh_bytes d

-- rule 25: it makes no unknown message
pub reads_byte : (v : Speech) (l : Plan) (d : Dialogue) (byte : ℕ) → AreWordsHeard v l d → Reads v d
    → byte ≡ next_word v → is_unknown (reading_out (got_out (d.half ++ byte ∷ []))) ≡ false
reads_byte v l d byte h r e =
    let at = reads_at nothing_understood h.before h.byte h.rest
    (ap (form_messages nothing_understood) (sym h.words_are) ∙ r.whole) in
    not-true (is_unknown (reading_out (got_out (d.half ++ byte ∷ [])))) ((λ i. not (is_unknown (reading_out
    (got_out ((r.half_is ∙ ap (λ (x : Understanding). x.half) h.anew) i ++ (e ∙ says_byte v l d h) i ∷ []))))) ∙ at)

pub reads_on : (v : Speech) (l : Plan) (d : Dialogue) (byte : ℕ) → AreWordsHeard v l d → Reads v d → byte ≡ next_word v
    → Reads (speech_after_byte v) (byte_out d byte (not (attends_with v)))
reads_on v l d byte h r e = record { whole = r.whole; half_is = go h.rest (says_more v l d h) h.words_are }
  where
    half_next : left_of (got_out (d.half ++ byte ∷ [])) (d.half ++ byte ∷ [])
        ≡ left_of (got_out (fresh_bytes d ++ byte ∷ [])) (fresh_bytes d ++ byte ∷ [])
    half_next = λ i. left_of (got_out (r.half_is i ++ byte ∷ [])) (r.half_is i ++ byte ∷ [])

    go : (rest : List ℕ) → attends_with v ≡ not (is_nil rest) → v.words ≡ h.before ++ h.byte ∷ rest
        → left_of (got_out (d.half ++ byte ∷ [])) (d.half ++ byte ∷ [])
        ≡ fresh_bytes (byte_out d byte (not (attends_with v)))
    go [] more words = half_next
        ∙ (λ i. left_of (got_out (ap (λ (x : Understanding). x.half) h.anew i ++ (e ∙ says_byte v l d h) i ∷ []))
        (ap (λ (x : Understanding). x.half) h.anew i ++ (e ∙ says_byte v l d h) i ∷ []))
        ∙ ap (λ (x : Understanding). x.half) (sym (understood_append nothing_understood h.before (h.byte ∷ []))
        ∙ ap (understood nothing_understood) (sym words))
        ∙ reads_end nothing_understood v.words r.whole ∙ (λ i. fresh_bytes (byte_out d byte (not (sym more i))))
    go (c ∷ rest) more words = half_next ∙ (λ i. fresh_bytes (byte_out d byte (not (sym more i))))

-- ---- what is said forms messages

pub whole_message : (m : MsgOut) (rest : List ℕ) → FitsOut m
    → (said : Said) → form_messages (record { said = said_with m said; half = [] }) rest ≡ true
    → form_messages (record { said = said; half = [] }) (out_bytes m ++ rest) ≡ true
unfolding form_out
whole_message (MsgOut.Identify disc lun) rest fits said e = go disc lun fits e
  where
    go : (disc : Bool) (lun : ℕ) → lun < 8
        → form_messages (record { said = said_with (MsgOut.Identify disc lun) said; half = [] }) rest ≡ true
        → form_messages (record { said = said; half = [] }) (out_bytes (MsgOut.Identify disc lun) ++ rest) ≡ true
    go true zero lt e = e
    go true (suc zero) lt e = e
    go true (suc (suc zero)) lt e = e
    go true (suc (suc (suc zero))) lt e = e
    go true (suc (suc (suc (suc zero)))) lt e = e
    go true (suc (suc (suc (suc (suc zero))))) lt e = e
    go true (suc (suc (suc (suc (suc (suc zero)))))) lt e = e
    go true (suc (suc (suc (suc (suc (suc (suc zero))))))) lt e = e
    go false zero lt e = e
    go false (suc zero) lt e = e
    go false (suc (suc zero)) lt e = e
    go false (suc (suc (suc zero))) lt e = e
    go false (suc (suc (suc (suc zero)))) lt e = e
    go false (suc (suc (suc (suc (suc zero))))) lt e = e
    go false (suc (suc (suc (suc (suc (suc zero)))))) lt e = e
    go false (suc (suc (suc (suc (suc (suc (suc zero))))))) lt e = e
    go disc (suc (suc (suc (suc (suc (suc (suc (suc n)))))))) lt e = absurd omega (arith, lt)
whole_message _ rest fits said e = e

pub tag_reads : (tag : Tag) (rest : List ℕ) (said : Said)
    → ((x : Said) → form_messages (record { said = x; half = [] }) rest ≡ true)
    → form_messages (record { said = said; half = [] }) (tag_bytes tag ++ rest) ≡ true
tag_reads Tag.Untagged rest said e = e said
tag_reads (Tag.Simple n) rest said e =
    whole_message (MsgOut.SimpleTag n) rest tt said (e (said_with (MsgOut.SimpleTag n) said))
tag_reads (Tag.Ordered n) rest said e =
    whole_message (MsgOut.OrderedTag n) rest tt said (e (said_with (MsgOut.OrderedTag n) said))
tag_reads (Tag.Head n) rest said e =
    whole_message (MsgOut.HeadTag n) rest tt said (e (said_with (MsgOut.HeadTag n) said))

pub offer_reads : (negotiates : Bool) (h : Option HostDef) (said : Said)
    → form_messages (record { said = said; half = [] }) (offer_if negotiates h) ≡ true
unfolding form_out
offer_reads false h said = refl
offer_reads true None said = refl
offer_reads true (Some h) said = elim (cases_Bool (h.offers && nat_lt 0 h.period)) [ inl e ↦ rw e | inr e ↦ rw e ]

pub opening_reads : (h : Option HostDef) (negotiates : Bool) (c : Process) → c.unit < 8
    → form_messages nothing_understood (process_opening h negotiates (Some c)) ≡ true
opening_reads h negotiates c lt = whole_message (MsgOut.Identify (not c.id.sense) c.unit)
    (tag_bytes c.tag ++ offer_if negotiates h) lt nothing_heard (tag_reads c.tag (offer_if negotiates h)
    (said_with (MsgOut.Identify (not c.id.sense) c.unit) nothing_heard) (λ x. offer_reads negotiates h x))

abort_reads : (what : AbortKind) (said : Said)
    → form_messages (record { said = said; half = [] }) (abort_bytes what) ≡ true
unfolding form_out
abort_reads AbortKind.All said = refl
abort_reads _ said = refl

pub abort_opening_reads : (a : AbortDef) → a.unit < 8 → form_messages nothing_understood (abort_opening (Some a)) ≡ true
abort_opening_reads a lt = whole_message (MsgOut.Identify false a.unit) (abort_bytes a.what) lt nothing_heard
    (abort_reads a.what (said_with (MsgOut.Identify false a.unit) nothing_heard))

pub errors_read : (form_messages nothing_understood parity_error ≡ true)
    × (form_messages nothing_understood detected_error ≡ true)
unfolding form_out
errors_read = (refl, refl)

pub answer_reads : (h : Option HostDef) (asked : Agreement)
    → form_messages nothing_understood (answer_bytes h asked) ≡ true
unfolding form_out
answer_reads h asked = refl
