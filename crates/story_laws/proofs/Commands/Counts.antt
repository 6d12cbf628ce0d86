-- What the rules count of COMMAND, as messages are heard and taken back (6.6.13, 6.6.19).
use Rattle.story_laws.proofs
use proofs.Names.{ℕ, ◌≡◌, Bool, true, false, not, ◌&&◌, ◌∙◌, List, [], ◌∷◌, ◌++◌, Option, Some, None, refl, sym, ap}
use proofs.Names.{subst, not-true, and_parts, same_Some, if◌then◌else◌, wrong, Agreement, form_out, got_out, got_in}
use proofs.Names.{Got, Whole, More, Unknown, MsgIn, MsgOut, no_command, is_of_other, without_offset, spoken_with_word}
use proofs.Names.{word_out, word_in, void_or_now, heard_with_out, heard_if_begun, heard_out, heard_in, fresh_heard}
use proofs.Names.{fresh_bytes, byte_out, byte_in, Dialogue, CommandBytes, Heard, Spoken, End, Word, HostDef, whole_out}
use proofs.Names.{whole_in, is_parity_error, Speech, next_word, parity_error, detected_error, answer_bytes, Plan}
use proofs.Names.{says_byte, Understanding, nothing_understood, understood_byte, understood, AreWordsHeard, none_some}
use proofs.Names.{IsNone, Counts}

-- ---- a message

word_keeps : (q : CommandBytes → Type 0) → q no_command → (x : Spoken) (e : End) (w : Word) → q x.command
    → q (spoken_with_word x e w).command
word_keeps q none x e (Word.Offer a) h = go (is_of_other x.offer e)
  where
    go : (r : Bool) → q (if r then record x { agreement = a; offer = None; answered = Some e } else record x {
      offer = Some e;
      answered = None;
    }).command
    go true = h
    go false = h
word_keeps q none x e Word.Reject h = go (is_of_other x.offer e) (is_of_other x.answered e)
  where
    go : (r t : Bool) → q (if r then record x { agreement = without_offset x.agreement; offer = None; answered = None }
        else if t then record x { agreement = without_offset x.agreement; answered = None }
        else record x { answered = None }).command
    go true t = h
    go false true = h
    go false false = h
word_keeps q none x e Word.Restore h = none
word_keeps q none x e _ h = h

voided : (q : CommandBytes → Type 0) (h : Heard) → Counts q h → q (void_or_now h.void h.now).command
voided q h c = go h.void refl
  where
    go : (o : Option Spoken) → h.void ≡ o → q (void_or_now o h.now).command
    go None e = c.now
    go (Some x) e = c.void x e

-- ---- MESSAGE OUT

said_counts : (q : CommandBytes → Type 0) → q no_command → (h : Heard) (w : Word) → Counts q h
    → Counts q (heard_with_out h w)
said_counts q none h Word.ParityError c = record { now = voided q h c; void = λ x e. none_some x e }
said_counts q none h (Word.Offer a) c =
    record { now = word_keeps q none h.now End.Initiator (Word.Offer a) c.now; void = λ x e. none_some x e }
said_counts q none h Word.Reject c =
    record { now = word_keeps q none h.now End.Initiator Word.Reject c.now; void = λ x e. none_some x e }
said_counts q none h Word.Restore c = record { now = none; void = λ x e. none_some x e }
said_counts q none h Word.DeviceReset c = record { now = c.now; void = λ x e. none_some x e }
said_counts q none h Word.Other c = record { now = c.now; void = λ x e. none_some x e }

out_counts : (q : CommandBytes → Type 0) → q no_command → (h : Heard) (g : Got MsgOut) → Counts q h
    → Counts q (heard_out h g)
out_counts q none h (Whole m n) c = said_counts q none h (word_out m) c
out_counts q none h More c = c
out_counts q none h Unknown c = c

pub byte_out_counts : (q : CommandBytes → Type 0) → q no_command → (d : Dialogue) (byte : ℕ) (last : Bool)
    → Counts q d.heard → Counts q d.at_phase → Counts q (byte_out d byte last).heard
byte_out_counts q none d byte last h e =
    out_counts q none (fresh_heard d) (got_out (fresh_bytes d ++ byte ∷ [])) (go d.is_last)
  where
    go : (r : Bool) → Counts q (if r then d.at_phase else d.heard)
    go true = e
    go false = h

-- Any message but MESSAGE PARITY ERROR takes nothing back.
abbrev pub is_refusal : Option MsgOut → Bool
is_refusal None = false
is_refusal (Some m) = is_parity_error m

out_now : (q : CommandBytes → Type 0) → q no_command → (h : Heard) (g : Got MsgOut) → is_refusal (whole_out g) ≡ false
    → q h.now.command → q (heard_out h g).now.command
out_now q none h More e c = c
out_now q none h Unknown e c = c
out_now q none h (Whole m n) e c = go m e
  where
    go : (m : MsgOut) → is_parity_error m ≡ false → q (heard_with_out h (word_out m)).now.command
    go (MsgOut.Sdtr offer) f = word_keeps q none h.now End.Initiator (Word.Offer offer) c
    go MsgOut.ParityError f = wrong f
    go MsgOut.Reject f = word_keeps q none h.now End.Initiator Word.Reject c
    go _ f = c

pub byte_out_now : (q : CommandBytes → Type 0) → q no_command → (d : Dialogue) (byte : ℕ) (last : Bool)
    → is_refusal (whole_out (got_out (fresh_bytes d ++ byte ∷ []))) ≡ false → q d.heard.now.command
    → q d.at_phase.now.command → q (byte_out d byte last).heard.now.command
byte_out_now q none d byte last e h f =
    out_now q none (fresh_heard d) (got_out (fresh_bytes d ++ byte ∷ [])) e (go d.is_last)
  where
    go : (r : Bool) → q (if r then d.at_phase else d.heard).now.command
    go true = f
    go false = h

-- ---- what is said in MESSAGE OUT

abbrev no_refusals : Understanding → List ℕ → Bool
no_refusals u [] = true
no_refusals u (b ∷ bytes) =
    not (is_refusal (whole_out (got_out (u.half ++ b ∷ [])))) && no_refusals (understood_byte u b) bytes

none_at : (u : Understanding) (before : List ℕ) (byte : ℕ) (rest : List ℕ)
    → no_refusals u (before ++ byte ∷ rest) ≡ true
    → is_refusal (whole_out (got_out ((understood u before).half ++ byte ∷ []))) ≡ false
none_at u [] byte rest e = not-true _ (and_parts (not (is_refusal (whole_out (got_out (u.half ++ byte ∷ [])))))
    (no_refusals (understood_byte u byte) rest) e).0
none_at u (b ∷ before) byte rest e = none_at (understood_byte u b) before byte rest
    (and_parts (not (is_refusal (whole_out (got_out (u.half ++ b ∷ [])))))
    (no_refusals (understood_byte u b) (before ++ byte ∷ rest)) e).1

answers_nothing_back : (h : Option HostDef) (a : Agreement) → no_refusals nothing_understood (answer_bytes h a) ≡ true
unfolding form_out
answers_nothing_back h a = refl

detects_nothing_back : no_refusals nothing_understood detected_error ≡ true
unfolding form_out
detects_nothing_back = refl

said_by : (v : Speech) (l : Plan) (d : Dialogue) (byte : ℕ) → AreWordsHeard v l d
    → byte ≡ next_word v → no_refusals nothing_understood v.words ≡ true
    → is_refusal (whole_out (got_out (fresh_bytes d ++ byte ∷ []))) ≡ false
said_by v l d byte h e none =
    let half : fresh_bytes d ≡ (understood nothing_understood h.before).half = ap
    (λ (u : Understanding). u.half) h.anew in
    let is : byte ≡ h.byte = e ∙ says_byte v l d h in
    (λ i. is_refusal (whole_out (got_out (half i ++ is i ∷ []))))
    ∙ none_at nothing_understood h.before h.byte h.rest (ap (no_refusals nothing_understood) (sym h.words_are) ∙ none)

-- The answer to a request takes nothing back, and so INITIATOR DETECTED ERROR.
pub answer_said : (v : Speech) (l : Plan) (d : Dialogue) (byte : ℕ) (h : Option HostDef) (a : Agreement)
    → AreWordsHeard v l d → byte ≡ next_word v → v.words ≡ answer_bytes h a
    → is_refusal (whole_out (got_out (fresh_bytes d ++ byte ∷ []))) ≡ false
answer_said v l d byte h a heard e w =
    said_by v l d byte heard e (ap (no_refusals nothing_understood) w ∙ answers_nothing_back h a)

pub error_said : (v : Speech) (l : Plan) (d : Dialogue) (byte : ℕ) → AreWordsHeard v l d → byte ≡ next_word v
    → v.words ≡ detected_error → is_refusal (whole_out (got_out (fresh_bytes d ++ byte ∷ []))) ≡ false
error_said v l d byte heard e w =
    said_by v l d byte heard e (ap (no_refusals nothing_understood) w ∙ detects_nothing_back)

nothing_offered : (understood nothing_understood parity_error).said.offer ≡ None
unfolding form_out
nothing_offered = refl

-- With MESSAGE PARITY ERROR no offer is heard.
pub refusal_offers_none : (v : Speech) (l : Plan) (d : Dialogue) → AreWordsHeard v l d → d.is_last ≡ true
    → v.words ≡ parity_error → l.said.offer ≡ None
refusal_offers_none v l d h e w = ap (λ (u : Understanding). u.said.offer) (h.last e)
    ∙ ap (λ (x : List ℕ). (understood nothing_understood x).said.offer) w ∙ nothing_offered

-- ---- MESSAGE IN

in_counts : (q : CommandBytes → Type 0) → q no_command → (h : Heard) (g : Got MsgIn) → Counts q h
    → Counts q (heard_in h g)
in_counts q none h (Whole m n) c = record { now = word_keeps q none h.now End.Target (word_in m) c.now; void = c.void }
in_counts q none h More c = c
in_counts q none h Unknown c = c

-- Once a byte has crossed what is taken back counted before it.
pub byte_in_counts : (q : CommandBytes → Type 0) → q no_command → (d : Dialogue) (byte : ℕ) → Counts q d.heard
    → Counts q (byte_in d byte).heard
byte_in_counts q none d byte h =
    in_counts q none (heard_if_begun d.half d.heard) (got_in (d.half ++ byte ∷ [])) (go d.half)
  where
    go : (half : List ℕ) → Counts q (heard_if_begun half d.heard)
    go [] = record { now = h.now; void = λ x e. subst (λ (y : Spoken). q y.command) (same_Some d.heard.now x e) h.now }
    go (b ∷ half) = h

pub byte_in_first : (q : CommandBytes → Type 0) → q no_command → (d : Dialogue) (byte : ℕ) → d.half ≡ []
    → q d.heard.now.command → Counts q (byte_in d byte).heard
byte_in_first q none d byte e h = in_counts q none (heard_if_begun d.half d.heard)
    (got_in (d.half ++ byte ∷ [])) (subst (λ (half : List ℕ). Counts q (heard_if_begun half d.heard)) (sym e)
    (record { now = h; void = λ x f. subst (λ (y : Spoken). q y.command) (same_Some d.heard.now x f) h }))

pub byte_in_now : (q : CommandBytes → Type 0) → q no_command → (d : Dialogue) (byte : ℕ) → q d.heard.now.command
    → q (byte_in d byte).heard.now.command
byte_in_now q none d byte h = go (got_in (d.half ++ byte ∷ []))
  where
    before : (half : List ℕ) → (heard_if_begun half d.heard).now ≡ d.heard.now
    before [] = refl
    before (b ∷ half) = refl

    here : q (heard_if_begun d.half d.heard).now.command
    here = subst (λ (x : Spoken). q x.command) (sym (before d.half)) h

    go : (g : Got MsgIn) → q (heard_in (heard_if_begun d.half d.heard) g).now.command
    go (Whole m n) = word_keeps q none (heard_if_begun d.half d.heard).now End.Target (word_in m) here
    go More = here
    go Unknown = here

-- RESTORE POINTERS.
restored : (h : Heard) (g : Got MsgIn) → whole_in g ≡ Some MsgIn.RestorePointers
    → (heard_in h g).now.command ≡ no_command
restored h (Whole m n) e =
    ap (λ (x : MsgIn). (spoken_with_word h.now End.Target (word_in x)).command) (ap (λ (o : Option MsgIn). or_in o) e)
  where
    or_in : Option MsgIn → MsgIn
    or_in None = m
    or_in (Some x) = x
restored h More e = absurd (no_message e)
  where
    no_message : (let o : Option MsgIn = None in o) ≡ Some MsgIn.RestorePointers → ⊥
    no_message z = cc
restored h Unknown e = absurd (no_message e)
  where
    no_message : (let o : Option MsgIn = None in o) ≡ Some MsgIn.RestorePointers → ⊥
    no_message z = cc

pub byte_in_restores : (d : Dialogue) (byte : ℕ) → whole_in (got_in (d.half ++ byte ∷ [])) ≡ Some MsgIn.RestorePointers
    → IsNone (byte_in d byte).heard.now.command
byte_in_restores d byte e = restored (heard_if_begun d.half d.heard) (got_in (d.half ++ byte ∷ [])) e
