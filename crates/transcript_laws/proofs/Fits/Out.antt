-- A byte of MESSAGE OUT: MESSAGE PARITY ERROR comes right after the message that it refuses, and alone (6.6.13).
use Rattle.transcript_laws.proofs
use proofs.Names.{ℕ, ◌≡◌, ◌∙◌, Bool, true, false, not, ◌&&◌, ◌%◌, List, [], ◌∷◌, ◌++◌, Option, Some, None, refl, sym}
use proofs.Names.{ap, ◌||◌, is_some, if◌then◌else◌, wrong', and_first, and_second, is_message_out, receiver_in, Change}
use proofs.Names.{Connection, Row, form_out, got_out, MsgOut, fresh_bytes, left_of, Dialogue, ScenarioValue, whole_out}
use proofs.Names.{message_out, Link, is_parity_error, parity_error, RunState, bus_of, run_state, obeys_fits, units_are}
use proofs.Names.{says_byte, Understanding, nothing_understood, AreWordsHeard, IsSpeaking, OpenedValue, messages_of}
use proofs.{Names.{is_void, is_known, is_empty, says_first, is_broken, fits_out}, Held.Since.{IsAnswering, HeldSince}}
use proofs.{Opened.{Bytes.{begun_crossing}, Rows.{Going}}, Said.Out.{is_plain_said, SaysParity, refusing, plain_words}}
use proofs.Said.{Out.{says_parity}, Words.{SaidWords, left_half, said_of, said_append, half_heard}}

-- ---- words without it

plain_first : (xs ys : List MsgOut) → is_plain_said (xs ++ ys) ≡ true → is_plain_said xs ≡ true
plain_first [] ys e = refl
plain_first (m ∷ xs) ys e = λ i. and_first (not (is_parity_error m)) (is_plain_said (xs ++ ys)) e i
    && plain_first xs ys (and_second (not (is_parity_error m)) (is_plain_said (xs ++ ys)) e) i

plain_rest : (xs ys : List MsgOut) → is_plain_said (xs ++ ys) ≡ true → is_plain_said ys ≡ true
plain_rest [] ys e = e
plain_rest (m ∷ xs) ys e = plain_rest xs ys (and_second (not (is_parity_error m)) (is_plain_said (xs ++ ys)) e)

plain_void : (xs : List MsgOut) → is_plain_said xs ≡ true → is_void xs ≡ false
plain_void [] e = refl
plain_void (m ∷ xs) e = go (is_parity_error m) (and_first (not (is_parity_error m)) (is_plain_said xs) e)
  where
    go : (q : Bool) → not q ≡ true → q ≡ false
    go true z = wrong' z
    go false z = refl

plain_out : (o : OpenedValue) (backs anew : Bool) (out : Option MsgOut) → is_plain_said (messages_of out) ≡ true
    → is_void o.said ≡ false → fits_out o backs out anew ≡ true
plain_out o backs anew None e v = ap not v
plain_out o backs anew (Some m) e v =
    ap (λ (q : Bool). if q then says_first anew o.said && is_some o.held && is_empty o.since && backs
    else not (is_void o.said)) (plain_void (m ∷ []) e) ∙ ap not v

-- ---- MESSAGE PARITY ERROR

-- Its bytes are one.
alone : (before : List ℕ) (byte : ℕ) (rest : List ℕ) → before ++ byte ∷ rest ≡ parity_error
    → (before ≡ []) × (byte ≡ 0x09)
alone [] byte rest e = (refl, first e)
  where
    head : List ℕ → ℕ
    head [] = 0
    head (x ∷ xs) = x

    first : byte ∷ rest ≡ parity_error → byte ≡ 0x09
    first z = ap head z
alone (x ∷ before) byte rest e = absurd (longer before byte rest (ap tail e))
  where
    tail : List ℕ → List ℕ
    tail [] = []
    tail (y ∷ ys) = ys

    longer : (xs : List ℕ) (b : ℕ) (ys : List ℕ) → xs ++ b ∷ ys ≡ [] → ⊥
    longer [] b ys z = not_nil b ys z
      where
        not_nil : (v : ℕ) (zs : List ℕ) → v ∷ zs ≡ [] → ⊥
        not_nil v zs w = cc
    longer (y ∷ xs) b ys z = not_nil y (xs ++ b ∷ ys) z
      where
        not_nil : (v : ℕ) (zs : List ℕ) → v ∷ zs ≡ [] → ⊥
        not_nil v zs w = cc

parity_whole : whole_out (got_out (0x09 ∷ [])) ≡ Some MsgOut.ParityError
unfolding form_out
parity_whole = refl

refused_out : (o : OpenedValue) (backs anew : Bool) (out : Option MsgOut) → out ≡ Some MsgOut.ParityError
    → says_first anew o.said ≡ true → is_some o.held ≡ true → o.since ≡ [] → backs ≡ true
    → fits_out o backs out anew ≡ true
refused_out o backs anew out e first held since back =
    ap (λ (x : Option MsgOut). fits_out o backs x anew) e ∙ (λ i. first i && held i && is_empty (since i) && back i)

-- ---- a byte of MESSAGE OUT

pub out_fits : (s : ScenarioValue) (p : List Row) (row : Row) (n : Connection)
    (g : Going s p row n) (o : OpenedValue) (l : Link) (dev : ℕ)
    → SaidWords (run_state s p) n o → HeldSince (run_state s p) o → (run_state s p).story.link ≡ Some l
    → receiver_in n g.going.change ≡ Some dev → is_message_out g.going.change.before ≡ true
    → fits_out o (not (is_known o (bus_of (run_state s p))) || is_some l.undo || is_broken o.held)
    (message_out (run_state s p).story.bus_state.dialogue g.going.change true)
    (run_state s p).story.bus_state.dialogue.is_last ≡ true
out_fits s p row n g o l dev words since el er x =
    go (says_parity s n k.served k.exchange k.exchange.plan.cause (units_are s (obeys_fits s g.obeys)) speaks.words_for)
  where
    k : RunState
    k = run_state s p

    c : Change
    c = g.going.change

    d : Dialogue
    d = k.story.bus_state.dialogue

    byte : ℕ
    byte = c.after.data_bits % 256

    here : is_message_out (bus_of k) ≡ true
    here = ap is_message_out g.going.goes.row_is.bus_is ∙ x

    begun : k.exchange.begun ≡ true
    begun = begun_crossing s p row n g dev er

    speaks : IsSpeaking s n k.served k.exchange d
    speaks = (g.was.stood.books.speaks n g.going.goes.row_is.connection_is g.going.goes.calm).in_message_out begun here

    a : AreWordsHeard k.exchange.speech k.exchange.plan d
    a = speaks.heard

    there : is_some (receiver_in n c) ≡ true
    there = ap (λ (y : Option ℕ). is_some y) er

    out_is : message_out d c true ≡ whole_out (got_out (left_half [] a.before ++ a.byte ∷ []))
    out_is = ap (λ (q : Bool). if q then whole_out (got_out (fresh_bytes d ++ byte ∷ [])) else None) x ∙ (λ i. whole_out
        (got_out ((ap (λ (u : Understanding). u.half) a.anew ∙ half_heard nothing_understood a.before) i
        ++ ((g.going.goes.says x there).0 ∙ says_byte k.exchange.speech k.exchange.plan d a) i ∷ [])))

    all : said_of [] k.exchange.speech.words ≡ said_of [] a.before ++ (messages_of (message_out d c true) ++ said_of
        (left_of (got_out (left_half [] a.before ++ a.byte ∷ [])) (left_half [] a.before ++ a.byte ∷ [])) a.rest)
    all = ap (λ (y : List ℕ). said_of [] y) a.words_are ∙ said_append [] a.before (a.byte ∷ a.rest)
        ∙ (λ i. said_of [] a.before ++ (messages_of (sym out_is i) ++ said_of
        (left_of (got_out (left_half [] a.before ++ a.byte ∷ [])) (left_half [] a.before ++ a.byte ∷ [])) a.rest))

    void : is_plain_said (said_of [] k.exchange.speech.words) ≡ true → (q : Bool) → d.is_last ≡ q
        → is_void o.said ≡ false
    void e true f = ap is_void (words.whole here f) ∙ plain_void (said_of [] k.exchange.speech.words) e
    void e false f =
        ap is_void (words.upto here f a.before (a.byte ∷ a.rest) a.words_are a.place_is)
        ∙ plain_void (said_of [] a.before) (plain_first (said_of [] a.before) _ (ap is_plain_said (sym all) ∙ e))

    first : a.before ≡ [] → (q : Bool) → d.is_last ≡ q → says_first d.is_last o.said ≡ true
    first e true f = ap (λ (q : Bool). says_first q o.said) f ∙ any o.said
      where
        any : (xs : List MsgOut) → says_first true xs ≡ true
        any [] = refl
        any (m ∷ xs) = refl
    first e false f = ap (λ (y : List MsgOut). says_first d.is_last y)
        (words.upto here f a.before (a.byte ∷ a.rest) a.words_are a.place_is ∙ ap (λ (y : List ℕ). said_of [] y) e)

    backed : IsAnswering k → (q : Bool) → is_known o (bus_of k) ≡ q
        → (not (is_known o (bus_of k)) || is_some l.undo || is_broken o.held) ≡ true
    backed z false f = ap (λ (q : Bool). not q || is_some l.undo || is_broken o.held) f
    backed z true f = ap (λ (q : Bool). not q || is_some l.undo || is_broken o.held) f ∙ since.out_backed z f l el

    go : SaysParity k.exchange.speech.words k.exchange.plan.cause
        → fits_out o (not (is_known o (bus_of k)) || is_some l.undo || is_broken o.held)
        (message_out d c true) d.is_last ≡ true
    go (plain_words e) =
        let rest = plain_rest (said_of [] a.before) (messages_of (message_out d c true) ++ said_of
        (left_of (got_out (left_half [] a.before ++ a.byte ∷ [])) (left_half [] a.before ++ a.byte ∷ [])) a.rest)
        (ap is_plain_said (sym all) ∙ e) in
        plain_out o (not (is_known o (bus_of k)) || is_some l.undo || is_broken o.held) d.is_last (message_out d c true)
        (plain_first (messages_of (message_out d c true)) _ rest) (void e d.is_last refl)
    go (refusing cause e) =
        let one = alone a.before a.byte a.rest (sym a.words_are ∙ e) in
        let z : IsAnswering k = record { begun = begun; here = here; cause = cause } in
        refused_out o (not (is_known o (bus_of k)) || is_some l.undo || is_broken o.held) d.is_last
        (message_out d c true)
        (out_is ∙ (λ i. whole_out (got_out (left_half [] (one.0 i) ++ one.1 i ∷ []))) ∙ parity_whole)
        (first one.0 d.is_last refl) (since.out_held z) (since.out_since z) (backed z (is_known o (bus_of k)) refl)
