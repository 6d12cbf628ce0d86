-- MESSAGE OUT: a byte crosses.
use Rattle.book_laws.proofs
use proofs.Names.{ℕ, ◌≡◌, ◌+◌, Bool, not, List, [], ◌∷◌, ◌++◌, ◌∙◌, length, Option, refl, sym, ap, append_assoc}
use proofs.Names.{length-append, true≢false, slice_index_or, nat_lt, if◌then◌else◌, got_out, MsgOut, fresh_bytes}
use proofs.Names.{byte_out, is_nil, left_of, Dialogue, whole_out, Speech, next_word, attends_with, speech_after_byte}
use proofs.Names.{plan_after_message, said_with_if, plan_anew_if, Plan, Understanding, nothing_understood}
use proofs.Names.{understood_byte, understood, understanding, understanding_anew, AreWordsHeard}
use proofs.Common.Lists.{word_at, more_after, understood_append}

-- the byte that it says is that at its place, and ATN is true with it while one follows
pub says_byte : (v : Speech) (l : Plan) (d : Dialogue) (h : AreWordsHeard v l d) → next_word v ≡ h.byte
says_byte v l d h = (λ i. slice_index_or (h.words_are i) (h.place_is i) 0) ∙ word_at h.before h.byte h.rest

pub says_more : (v : Speech) (l : Plan) (d : Dialogue) (h : AreWordsHeard v l d) → attends_with v ≡ not (is_nil h.rest)
says_more v l d h = (λ i. nat_lt (h.place_is i + 1) (length (h.words_are i))) ∙ more_after h.before h.byte h.rest

-- what it makes of the hearing
heard_next : (l : Plan) (d : Dialogue) (byte : ℕ) (last : Bool) (m : Option MsgOut)
    → m ≡ whole_out (got_out (fresh_bytes d ++ byte ∷ []))
    → understanding (plan_after_message l d.is_last m) (byte_out d byte last)
    ≡ understood_byte (understanding_anew l d) byte
heard_next l d byte last m e = λ i. record {
  said = said_with_if (e i) (plan_anew_if d.is_last l).said;
  half = left_of (got_out (fresh_bytes d ++ byte ∷ [])) (fresh_bytes d ++ byte ∷ []);
}

hears_front : (l : Plan) (d : Dialogue) (before : List ℕ) (byte : ℕ) (last : Bool) (m : Option MsgOut)
    → m ≡ whole_out (got_out (fresh_bytes d ++ byte ∷ []))
    → understanding_anew l d ≡ understood nothing_understood before
    → understanding (plan_after_message l d.is_last m) (byte_out d byte last)
    ≡ understood nothing_understood (before ++ byte ∷ [])
hears_front l d before byte last m e h =
    heard_next l d byte last m e ∙ ap (λ (x : Understanding). understood_byte x byte) h
    ∙ sym (understood_append nothing_understood before (byte ∷ []))

pub says_on : (v : Speech) (l : Plan) (d : Dialogue) (byte : ℕ) (m : Option MsgOut) (h : AreWordsHeard v l d)
    → byte ≡ next_word v → m ≡ whole_out (got_out (fresh_bytes d ++ byte ∷ []))
    → AreWordsHeard (speech_after_byte v) (plan_after_message l d.is_last m) (byte_out d byte (not (attends_with v)))
says_on v l d byte m h eb em = go h.rest refl
  where
    go : (rest : List ℕ) → h.rest ≡ rest → AreWordsHeard (speech_after_byte v) (plan_after_message l d.is_last m)
        (byte_out d byte (not (attends_with v)))
    go rest er =
        let b : byte ≡ h.byte = eb ∙ says_byte v l d h in
        let more : attends_with v ≡ not (is_nil rest) = says_more v l d h ∙ ap (λ (r : List ℕ). not (is_nil r)) er in
        let words : v.words ≡ h.before ++ byte ∷ rest = h.words_are ∙ (λ i. h.before ++ sym b i ∷ er i) in
        by h.before rest (ap not more) more words
        (hears_front l d h.before byte (not (attends_with v)) m em h.anew) h.place_is
      where
        by : (before rest : List ℕ) → not (attends_with v) ≡ not (not (is_nil rest))
            → attends_with v ≡ not (is_nil rest) → v.words ≡ before ++ byte ∷ rest
            → understanding (plan_after_message l d.is_last m) (byte_out d byte (not (attends_with v)))
            ≡ understood nothing_understood (before ++ byte ∷ []) → v.place ≡ length before
            → AreWordsHeard (speech_after_byte v) (plan_after_message l d.is_last m)
            (byte_out d byte (not (attends_with v)))
        by [] [] last more words carried_after_message place = record {
          before = [];
          byte = byte;
          rest = [];
          words_are = words;
          place_is = ap (λ (q : Bool). if q then v.place + 1 else 0) more;
          anew = λ i. understanding_anew (plan_after_message l d.is_last m) (byte_out d byte (last i));
          last = λ e. carried_after_message ∙ ap (understood nothing_understood) (sym words);
        }
        by (x ∷ before) [] last more words carried_after_message place = record {
          before = [];
          byte = x;
          rest = before ++ byte ∷ [];
          words_are = words;
          place_is = ap (λ (q : Bool). if q then v.place + 1 else 0) more;
          anew = λ i. understanding_anew (plan_after_message l d.is_last m) (byte_out d byte (last i));
          last = λ e. carried_after_message ∙ ap (understood nothing_understood) (sym words);
        }
        by before (c ∷ rest) last more words carried_after_message place = record {
          before = before ++ byte ∷ [];
          byte = c;
          rest = rest;
          words_are = words ∙ sym (append_assoc before (byte ∷ []) (c ∷ rest));
          place_is = ap (λ (q : Bool). if q then v.place + 1 else 0) more ∙ ap (λ (x : ℕ). x + 1) place
              ∙ sym (length-append before (byte ∷ []));
          anew = (λ i. understanding_anew (plan_after_message l d.is_last m) (byte_out d byte (last i)))
              ∙ carried_after_message;
          last = λ e. absurd (true≢false (sym e ∙ last));
        }
