-- In MESSAGE OUT the messages that a transcript has said are those of the words that crossed.
use Rattle.transcript_laws.proofs
use proofs.Names.{ℕ, ◌≡◌, ◌∙◌, ◌+◌, Bool, true, false, not, ◌&&◌, ◌%◌, List, [], ◌∷◌, ◌++◌, length, take, Option, None}
use proofs.Names.{refl, sym, ap, append_assoc, append-nil, is_some, if◌then◌else◌, wrong, wrong', length_more, nil_of}
use proofs.Names.{is_message_in, is_message_out, is_fault, receiver_in, Change, Connection, Row, got_out, MsgOut}
use proofs.Names.{fresh_bytes, byte_out, byte_in, byte_else, left_of, is_nil, Dialogue, ScenarioValue, HostDef}
use proofs.Names.{whole_out, message_in, message_out, Speech, Exchange, attends_with, speech_after_byte}
use proofs.Names.{speech_after_request, speech_of, words_after, speech_in_phase, Hearing, host_of, RunState, bus_of}
use proofs.Names.{run_state, hearing_of, in_connection, says_byte, says_more, Understanding, nothing_understood}
use proofs.Names.{understood, understood_byte, reading_in, AreWordsHeard, IsSpeaking, take_front, OpenedValue}
use proofs.{Names.{messages_of, phase_over}, Opened.Bytes.{still_keeps, turned, CrossingMade, crossed_out, crossed_in}}
use proofs.Opened.Bytes.{crossed_status, crossed_else, crossing_made, lines_same, out_same, begun_crossing}
use proofs.{Opened.Rows.{Going, RowMade, made_still, made_crossing, made_turn, Holds}, Parts.Lists.{over_keeps}}

-- ---- the messages of some bytes

abbrev pub left_half : List ℕ → List ℕ → List ℕ
left_half half [] = half
left_half half (b ∷ bytes) = left_half (left_of (got_out (half ++ b ∷ [])) (half ++ b ∷ [])) bytes

abbrev pub said_of : List ℕ → List ℕ → List MsgOut
said_of half [] = []
said_of half (b ∷ bytes) = messages_of (whole_out (got_out (half ++ b ∷ [])))
    ++ said_of (left_of (got_out (half ++ b ∷ [])) (half ++ b ∷ [])) bytes

pub said_append : (half xs ys : List ℕ) → said_of half (xs ++ ys) ≡ said_of half xs ++ said_of (left_half half xs) ys
said_append half [] ys = refl
said_append half (b ∷ xs) ys =
    let m : List MsgOut = messages_of (whole_out (got_out (half ++ b ∷ []))) in
    let next : List ℕ = left_of (got_out (half ++ b ∷ [])) (half ++ b ∷ []) in
    ap (λ (x : List MsgOut). m ++ x) (said_append next xs ys)
    ∙ sym (append_assoc m (said_of next xs) (said_of (left_half next xs) ys))

pub half_heard : (u : Understanding) (xs : List ℕ) → (understood u xs).half ≡ left_half u.half xs
half_heard u [] = refl
half_heard u (b ∷ xs) = half_heard (understood_byte u b) xs

pub split_same : (xs ys us vs : List ℕ) → xs ++ ys ≡ us ++ vs → length xs ≡ length us → xs ≡ us
split_same xs ys us vs e n = sym (take_front xs ys) ∙ (λ i. take (n i) (e i)) ∙ take_front us vs

-- ---- what is kept

pub record SaidWords (k : RunState) (n : Connection) (o : OpenedValue) : Type 0 where
  pub upto : is_message_out (bus_of k) ≡ true → k.story.bus_state.dialogue.is_last ≡ false → (before rest : List ℕ)
      → k.exchange.speech.words ≡ before ++ rest → k.exchange.speech.place ≡ length before → o.said ≡ said_of [] before
  pub place : is_message_out (bus_of k) ≡ true → k.story.bus_state.dialogue.is_last ≡ true → k.exchange.speech.place ≡ 0
  pub whole : is_message_out (bus_of k) ≡ true → k.story.bus_state.dialogue.is_last ≡ true
      → o.said ≡ said_of [] k.exchange.speech.words

-- ---- a byte of it

old_said : (k : RunState) (n : Connection) (o : OpenedValue) (before rest : List ℕ)
    → SaidWords k n o → is_message_out (bus_of k) ≡ true
    → k.exchange.speech.words ≡ before ++ rest → k.exchange.speech.place ≡ length before
    → (if k.story.bus_state.dialogue.is_last then [] else o.said) ≡ said_of [] before
old_said k n o before rest h here words place = go k.story.bus_state.dialogue.is_last refl
  where
    go : (q : Bool) → k.story.bus_state.dialogue.is_last ≡ q → (if q then [] else o.said) ≡ said_of [] before
    go true e = ap (λ (x : List ℕ). said_of [] x) (sym (nil_of before (sym place ∙ h.place here e)))
    go false e = h.upto here e before rest words place

-- The messages that are said then.
now_said : (d : Dialogue) (old : List MsgOut) (before : List ℕ) (byte : ℕ) (out : Option MsgOut)
    → old ≡ said_of [] before → fresh_bytes d ≡ left_half [] before
    → out ≡ whole_out (got_out (fresh_bytes d ++ byte ∷ [])) → old ++ messages_of out ≡ said_of [] (before ++ byte ∷ [])
now_said d old before byte out e f g =
    (λ i. e i ++ messages_of ((g ∙ ap (λ (x : List ℕ). whole_out (got_out (x ++ byte ∷ []))) f) i))
    ∙ ap (λ (x : List MsgOut). said_of [] before ++ x)
    (sym (append-nil (messages_of (whole_out (got_out (left_half [] before ++ byte ∷ []))))))
    ∙ sym (said_append [] before (byte ∷ []))

record SpeechOn (v w : Speech) (rest : List ℕ) (last : Bool) : Type 0 where
  words : w.words ≡ v.words
  goes : last ≡ false → w.place ≡ v.place + 1
  begins : last ≡ true → w.place ≡ 0
  ends : last ≡ true → rest ≡ []

speech_on : (v : Speech) (rest : List ℕ) (last : Bool) → attends_with v ≡ not (is_nil rest)
    → last ≡ not (attends_with v) → SpeechOn v (speech_after_byte v) rest last
speech_on v rest last more is = record {
  words = refl;
  goes = λ e. ap (λ (q : Bool). if q then v.place + 1 else 0) (turned_true (attends_with v) (sym is ∙ e));
  begins = λ e. ap (λ (q : Bool). if q then v.place + 1 else 0) (turned_false (attends_with v) (sym is ∙ e));
  ends = λ e. none rest (sym more ∙ turned_false (attends_with v) (sym is ∙ e));
}
  where
    turned_true : (q : Bool) → not q ≡ false → q ≡ true
    turned_true true z = refl
    turned_true false z = wrong z

    turned_false : (q : Bool) → not q ≡ true → q ≡ false
    turned_false true z = wrong' z
    turned_false false z = refl

    none : (xs : List ℕ) → not (is_nil xs) ≡ false → xs ≡ []
    none [] z = refl
    none (x ∷ xs) z = wrong z

-- ---- row by row

on_row : (s : ScenarioValue) (p : List Row) (row : Row) (n : Connection) (g : Going s p row n) (o after : OpenedValue)
    → RowMade (run_state s p) row n g.going.change o after → SaidWords (run_state s p) n o
    → SaidWords (run_state s (row ∷ p)) n after
on_row s p row n g o after (made_still ep none e) h =
    let k : RunState = run_state s p in
    let j : RunState = run_state s (row ∷ p) in
    let c : Change = g.going.change in
    let i = in_connection s k row n c false false (is_fault row.kind) g.going.goes.row_is ep none refl in
    let said : after.said ≡ o.said = ap (λ (x : OpenedValue). x.said) e
    ∙ (still_keeps o k.story.bus_state c row).said in
    let speech : j.exchange.speech ≡ k.exchange.speech = ap (λ (x : Exchange). x.speech) i.exchange_is in
    let last : j.story.bus_state.dialogue.is_last ≡ k.story.bus_state.dialogue.is_last = ap
    (λ (x : Dialogue). x.is_last) i.dialogue_is in
    let lines = out_same (bus_of k) (bus_of j) (lines_same s p row n g ep) in
    record {
      upto = λ here z before rest words place. said ∙ h.upto (sym lines ∙ here) (sym last ∙ z) before rest
          (ap (λ (x : Speech). x.words) (sym speech) ∙ words) (ap (λ (x : Speech). x.place) (sym speech) ∙ place);
      place = λ here z. ap (λ (x : Speech). x.place) speech ∙ h.place (sym lines ∙ here) (sym last ∙ z);
      whole = λ here z. said ∙ h.whole (sym lines ∙ here) (sym last ∙ z)
          ∙ ap (λ (x : Speech). said_of [] x.words) (sym speech);
    }
on_row s p row n g o after (made_crossing dev ep er e) h = go (crossing_made o after k.story.bus_state n c e)
  where
    k : RunState
    k = run_state s p

    j : RunState
    j = run_state s (row ∷ p)

    c : Change
    c = g.going.change

    d : Dialogue
    d = k.story.bus_state.dialogue

    byte : ℕ
    byte = c.after.data_bits % 256

    there : is_some (receiver_in n c) ≡ true
    there = ap (λ (x : Option ℕ). is_some x) er

    lines : is_message_out (bus_of j) ≡ is_message_out (bus_of k)
    lines = out_same (bus_of k) (bus_of j) (lines_same s p row n g ep)

    on : bus_of k ≡ c.before
    on = g.going.goes.row_is.bus_is

    other : is_message_out c.before ≡ false → SaidWords j n after
    other x =
        let no : is_message_out (bus_of j) ≡ false = lines ∙ ap is_message_out on ∙ x in
        record {
          upto = λ here z before rest words place. wrong (sym here ∙ no);
          place = λ here z. wrong (sym here ∙ no);
          whole = λ here z. wrong (sym here ∙ no);
        }

    go : CrossingMade o after d.is_last c.before byte (message_out d c true) (message_in d c true) → SaidWords j n after
    go (crossed_in x y f) = other x
    go (crossed_status x y z f) = other x
    go (crossed_else x y z f) = other x
    go (crossed_out x f) =
        let i = in_connection s k row n c false true (is_fault row.kind) g.going.goes.row_is ep there refl in
        let speaks : IsSpeaking s n k.served k.exchange d =
        (g.was.stood.books.speaks n g.going.goes.row_is.connection_is g.going.goes.calm).in_message_out
        (begun_crossing s p row n g dev er) (ap is_message_out on ∙ x) in
        let a : AreWordsHeard k.exchange.speech k.exchange.plan d = speaks.heard in
        let says = g.going.goes.says x there in
        let b : byte ≡ a.byte = says.0 ∙ says_byte k.exchange.speech k.exchange.plan d a in
        let speech : j.exchange.speech ≡ speech_after_byte k.exchange.speech =
        ap (λ (y : Exchange). y.speech) i.exchange_is ∙ ap (λ (q : Bool). if q then speech_after_byte k.exchange.speech
        else speech_after_request k.exchange.speech (message_in d c true)) x in
        let last : j.story.bus_state.dialogue.is_last ≡ not (attends_with k.exchange.speech) =
        ap (λ (y : Dialogue). y.is_last) i.dialogue_is ∙ ap (λ (q : Bool). (if q then byte_out d byte (not c.after.atn)
        else if is_message_in c.before then byte_in d byte else byte_else d c.before byte).is_last) x ∙ ap not says.1 in
        let said : after.said ≡ said_of [] (a.before ++ byte ∷ []) = ap (λ (y : OpenedValue). y.said) f
        ∙ now_said d (if d.is_last then [] else o.said) a.before byte (message_out d c true)
        (old_said k n o a.before (a.byte ∷ a.rest) h (ap is_message_out on ∙ x) a.words_are a.place_is)
        (ap (λ (u : Understanding). u.half) a.anew ∙ half_heard nothing_understood a.before)
        (ap (λ (q : Bool). if q then whole_out (got_out (fresh_bytes d ++ byte ∷ [])) else None) x) in
        let v = speech_on k.exchange.speech a.rest j.story.bus_state.dialogue.is_last
        (says_more k.exchange.speech k.exchange.plan d a) last in
        let words : j.exchange.speech.words ≡ (a.before ++ byte ∷ []) ++ a.rest = ap (λ (y : Speech). y.words) speech
        ∙ a.words_are ∙ (λ i. a.before ++ sym b i ∷ a.rest) ∙ sym (append_assoc a.before (byte ∷ []) a.rest) in
        record {
          upto = λ here z before rest words' place. said
              ∙ ap (λ (y : List ℕ). said_of [] y) (split_same (a.before ++ byte ∷ []) a.rest before rest
              (sym words ∙ words') (length_more a.before byte ∙ ap (λ (m : ℕ). m + 1) (sym a.place_is) ∙ sym (v.goes z)
              ∙ ap (λ (y : Speech). y.place) (sym speech) ∙ place));
          place = λ here z. ap (λ (y : Speech). y.place) speech ∙ v.begins z;
          whole = λ here z. said ∙ ap (λ (y : List ℕ). said_of [] y) (sym (append-nil (a.before ++ byte ∷ []))
              ∙ ap (λ (y : List ℕ). (a.before ++ byte ∷ []) ++ y) (sym (v.ends z)) ∙ sym words);
        }
on_row s p row n g o after (made_turn ep none ef e) h =
    let k : RunState = run_state s p in
    let j : RunState = run_state s (row ∷ p) in
    let c : Change = g.going.change in
    let i = in_connection s k row n c true false (is_fault row.kind) g.going.goes.row_is ep none refl in
    let m : OpenedValue = phase_over o c.before k.story.bus_state.dialogue.half true in
    let said : after.said ≡ [] = ap (λ (x : OpenedValue). x.said) e ∙ (turned m c.after).said
    ∙ (over_keeps o c.before k.story.bus_state.dialogue.half true).said in
    let last : j.story.bus_state.dialogue.is_last ≡ false = ap (λ (x : Dialogue). x.is_last) i.dialogue_is in
    let place : j.exchange.speech.place ≡ 0 = ap (λ (x : Exchange). x.speech.place) i.exchange_is
    ∙ anew (host_of s n.initiator) (hearing_of k row (reading_in k.story.bus_state n c false)) k.exchange.speech in
    record {
      upto = λ here z before rest words at. said
          ∙ ap (λ (y : List ℕ). said_of [] y) (sym (nil_of before (sym at ∙ place)));
      place = λ here z. place;
      whole = λ here z. wrong' (sym last ∙ z);
    }
  where
    anew : (h : Option HostDef) (w : Hearing) (v : Speech) → (speech_in_phase h w v).place ≡ 0
    anew h w v = by (is_message_out w.change.after && w.begun)
      where
        by : (q : Bool) → (if q then speech_of v (words_after h w v.asked) else record v { place = 0 }).place ≡ 0
        by true = refl
        by false = refl

pub words_hold : (s : ScenarioValue) → Holds s SaidWords
words_hold s = record {
  begins = λ p row n starts now con calm b out fresh. record {
    upto = λ here z before rest words place. wrong (sym here ∙ out);
    place = λ here z. wrong (sym here ∙ out);
    whole = λ here z. wrong (sym here ∙ out);
  };
  goes_on = λ p row n g o after made h. on_row s p row n g o after made h;
}
