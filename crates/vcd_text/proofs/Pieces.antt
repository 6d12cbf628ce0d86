-- What a reader has taken, byte by byte and piece by piece.
use Rattle.std.proofs.Common.{◌≡◌, ℕ, ◌+◌, ◌-◌, ◌<◌, Bool, true, false, cond, get_or, List, [], ◌∷◌, ◌++◌, length, take}
use Rattle.std.proofs.Common.{take_all, drop, append-nil, append_assoc, refl, sym, ap, ◌∙◌, arith, Some, None, Option}
use Rattle.std.specs.Prelude.{not, if◌then◌else◌}
use Rattle.std.specs.List.{prefix_len}
use Rattle.std.specs.Option.{is_some}
use Rattle.std.proofs.Math.Seq.{take-add}
use Rattle.std.proofs.lemmas.List.{take_more, length-drop}
use Rattle.std.proofs.lemmas.List.Sums.{prefix_len_stops}
use Rattle.vcd_text.specs.declared.dump.Dump.{Dump}
use Rattle.vcd_text.specs.declared.reader.VcdReader.{VcdReader}
use Rattle.vcd_text.specs.Tokens.{is_space, is_token}
use Rattle.vcd_text.specs.Steps.{step}
use Rattle.vcd_text.specs.Reading.{stepped, token_ended, spaced, taken_by, taken}
use Rattle.std.proofs.lemmas.Bool.{not-false}

pub taken_append : (xs ys : List ℕ) (r : VcdReader) → taken r (xs ++ ys) ≡ taken (taken r xs) ys
taken_append [] ys r = refl
taken_append (x ∷ xs) ys r = taken_append xs ys (taken_by r.bad r x)

pub taken_bad : (xs : List ℕ) (r : VcdReader) (line : ℕ) → r.bad ≡ Some line → taken r xs ≡ r
taken_bad [] r line is = refl
taken_bad (x ∷ xs) r line is =
    let same : taken_by r.bad r x ≡ r = ap (λ (bad : Option ℕ). taken_by bad r x) is in
    ap (λ (s : VcdReader). taken s xs) same ∙ taken_bad xs r line is

pub byte_inner : (r : VcdReader) (b : ℕ) → r.bad ≡ None → is_space b ≡ false
    → taken_by r.bad r b ≡ record r { word = r.word ++ b ∷ [] }
byte_inner r b fine is = ap (λ (bad : Option ℕ). taken_by bad r b) fine
    ∙ ap (λ (q : Bool). if q then spaced (token_ended r r.word) b else record r { word = r.word ++ b ∷ [] }) is

pub byte_space : (r : VcdReader) (b : ℕ) → r.bad ≡ None → is_space b ≡ true
    → taken_by r.bad r b ≡ spaced (token_ended r r.word) b
byte_space r b fine is = ap (λ (bad : Option ℕ). taken_by bad r b) fine
    ∙ ap (λ (q : Bool). if q then spaced (token_ended r r.word) b else record r { word = r.word ++ b ∷ [] }) is

-- bytes within a token
inner_more : (r : VcdReader) (b : ℕ) (text : List ℕ) → r.bad ≡ None → is_space b ≡ false
    → ((s : VcdReader) → s.bad ≡ None → taken s text ≡ record s { word = s.word ++ text })
    → taken r (b ∷ text) ≡ record r { word = r.word ++ b ∷ text }
inner_more r b text fine is more =
    ap (λ (s : VcdReader). taken s text) (byte_inner r b fine is) ∙ more (record r { word = r.word ++ b ∷ [] }) fine
    ∙ ap (λ (word : List ℕ). record r { word = word }) (append_assoc r.word (b ∷ []) text)

pub text_inner : (piece : List ℕ) (r : VcdReader) → r.bad ≡ None
    → taken r (take (prefix_len (λ b. not (is_space b)) piece) piece)
    ≡ record r { word = r.word ++ take (prefix_len (λ b. not (is_space b)) piece) piece }
text_inner [] r fine = ap (λ (word : List ℕ). record r { word = word }) (sym (append-nil r.word))
text_inner (b ∷ piece) r fine = go (λ s h. text_inner piece s h) (is_space b) refl where
  go : ((s : VcdReader) → s.bad ≡ None → taken s (take (prefix_len (λ b. not (is_space b)) piece) piece)
      ≡ record s { word = s.word ++ take (prefix_len (λ b. not (is_space b)) piece) piece })
      → (q : Bool) → is_space b ≡ q
      → taken r (take (cond (not (is_space b)) (1 + prefix_len (λ b. not (is_space b)) piece) 0) (b ∷ piece))
      ≡ record r {
        word = r.word ++ take (cond (not (is_space b)) (1 + prefix_len (λ b. not (is_space b)) piece) 0) (b ∷ piece);
      }
  go more true e =
      let front : take (cond (not (is_space b)) (1 + prefix_len (λ b. not (is_space b)) piece) 0) (b ∷ piece) ≡ [] = ap
      (λ (q : Bool). take (cond (not q) (1 + prefix_len (λ b. not (is_space b)) piece) 0) (b ∷ piece)) e in
      ap (taken r) front ∙ ap (λ (word : List ℕ). record r { word = word }) (sym (append-nil r.word))
      ∙ ap (λ (text : List ℕ). record r { word = r.word ++ text }) (sym front)
  go more false e =
      let one : take (1 + prefix_len (λ b. not (is_space b)) piece) (b ∷ piece)
      ≡ b ∷ take (prefix_len (λ b. not (is_space b)) piece) piece = take-add 1
      (prefix_len (λ b. not (is_space b)) piece) (b ∷ piece) in
      let front : take (cond (not (is_space b)) (1 + prefix_len (λ b. not (is_space b)) piece) 0) (b ∷ piece)
      ≡ b ∷ take (prefix_len (λ b. not (is_space b)) piece) piece =
      ap (λ (q : Bool). take (cond (not q) (1 + prefix_len (λ b. not (is_space b)) piece) 0) (b ∷ piece)) e ∙ one in
      ap (taken r) front ∙ inner_more r b (take (prefix_len (λ b. not (is_space b)) piece) piece) fine e more
      ∙ ap (λ (text : List ℕ). record r { word = r.word ++ text }) (sym front)

-- what a token made does not depend on the word that stands
pub word_free_by : (r : VcdReader) (x y : List ℕ) (made : Option Dump) (b : ℕ)
    → spaced (stepped (record r { word = x }) made) b ≡ spaced (stepped (record r { word = y }) made) b
word_free_by r x y None b = refl
word_free_by r x y (Some d) b = refl

pub word_free : (r : VcdReader) (x y token : List ℕ) (b : ℕ)
    → spaced (token_ended (record r { word = x }) token) b ≡ spaced (token_ended (record r { word = y }) token) b
word_free r x y [] b = refl
word_free r x y (t ∷ token) b = word_free_by r x y (if is_token (t ∷ token) then step r.dump (t ∷ token) else None) b

-- all of the piece is within a token
pub piece_inner : (r : VcdReader) (piece : List ℕ) (len : ℕ) → r.bad ≡ None
    → len ≡ prefix_len (λ b. not (is_space b)) piece → length piece ≡ len
    → record r { word = r.word ++ piece } ≡ taken r (take len piece)
piece_inner r piece len fine is whole =
    let all : take len piece ≡ piece = ap (λ (n : ℕ). take n piece) (sym whole)
    ∙ take_all (length piece) piece (omega arith) in
    let text : take len piece ≡ take (prefix_len (λ b. not (is_space b)) piece) piece = ap
    (λ (n : ℕ). take n piece) is in
    ap (λ (t : List ℕ). record r { word = r.word ++ t }) (sym all ∙ text) ∙ sym (text_inner piece r fine)
    ∙ ap (taken r) (sym text)

-- a token has ended within the piece
pub piece_ended : (r s n : VcdReader) (piece : List ℕ) (len b d : ℕ) → r.bad ≡ None
    → len ≡ prefix_len (λ b. not (is_space b)) piece → len < length piece → b ≡ get_or piece len d
    → s ≡ token_ended (record r { word = s.word }) (r.word ++ take len piece) → n ≡ spaced s b
    → n ≡ taken r (take (len + 1) piece)
piece_ended r s n piece len b d fine is below at ended spaced_is =
    let stops : not (is_space b) ≡ false = ap (λ (x : ℕ). not (is_space x)) (at ∙ ap (λ (k : ℕ). get_or piece k d) is)
    ∙ prefix_len_stops (λ b. not (is_space b)) piece d (omega (arith, is)) in
    let text : take len piece ≡ take (prefix_len (λ b. not (is_space b)) piece) piece = ap
    (λ (k : ℕ). take k piece) is in
    let read : taken r (take len piece) ≡ record r { word = r.word ++ take len piece } = ap (taken r) text
    ∙ text_inner piece r fine ∙ ap (λ (t : List ℕ). record r { word = r.word ++ t }) (sym text) in
    let more : take (len + 1) piece ≡ take len piece ++ b ∷ [] = take_more piece len d below
    ∙ ap (λ (x : ℕ). take len piece ++ x ∷ []) (sym at) in
    spaced_is ∙ ap (λ (t : VcdReader). spaced t b) ended
    ∙ word_free r s.word (r.word ++ take len piece) (r.word ++ take len piece) b
    ∙ sym (byte_space (record r { word = r.word ++ take len piece }) b fine (not-false (is_space b) stops))
    ∙ sym (ap (λ (t : VcdReader). taken t (b ∷ [])) read) ∙ sym (taken_append (take len piece) (b ∷ []) r)
    ∙ ap (taken r) (sym more)

pub open_none : (bad : Option ℕ) → false ≡ is_some bad → bad ≡ None
open_none None h = refl
open_none (Some line) h = cc

-- what is left of a piece
pub rest_whole : (piece : List ℕ) (at : ℕ) → take (length piece - at) (drop at piece) ≡ drop at piece
rest_whole piece at = take_all (length piece - at) (drop at piece) (omega (arith, length-drop at piece))
