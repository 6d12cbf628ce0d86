-- The first line of a piece, and what the bytes before it and it tell.
use Rattle.std.proofs.Common.{◌≡◌, ℕ, suc, ◌+◌, ◌<◌, ◌≤◌, Bool, true, false, List, [], ◌∷◌, ◌++◌, length, take, reverse}
use Rattle.std.proofs.Common.{refl, sym, ap, ◌∙◌, subst, arith, append_assoc}
use Rattle.std.specs.Prelude.{◌==◌}
use Rattle.std.specs.List.{prefix_len}
use Rattle.std.proofs.lemmas.Bool.Decides.{nat_tests}
use Rattle.std.proofs.lemmas.List.{append-nil, reverse-append}
use Rattle.bus_trace.specs.declared.Row.{Row}
use Rattle.trace_text.specs.declared.stages.State.{State}
use Rattle.trace_text.specs.declared.stages.State.TheVariants as states
use Rattle.trace_text.specs.declared.stages.Told.{Told}
use Rattle.trace_text.specs.Lines.{stepped, state_of}
use Rattle.trace_text.specs.Pieces.{is_inner, text_of, line_len}
use Rattle.trace_text.specs.Bytes.{Cut, cut_next, cut_of, quiet, told_at, told_of, rows_next, rows_of}

-- ---- where the first line ends

is_feed : (b : ℕ) → (b == 10) ≡ true → b ≡ 10
is_feed b e = grind (arith, nat_tests)

abbrev HasFeed : List ℕ → Type 0
HasFeed piece = prefix_len is_inner piece < length piece

text_on : (b : ℕ) (piece : List ℕ) → (b == 10) ≡ false → text_of (b ∷ piece) ≡ b ∷ text_of piece
text_on b piece e =
    let one : 1 + prefix_len is_inner piece ≡ suc (prefix_len is_inner piece) = omega arith in
    rw (e, one) refl

text_none : (b : ℕ) (piece : List ℕ) → (b == 10) ≡ true → text_of (b ∷ piece) ≡ []
text_none b piece e = rw e refl

feed_on : (b : ℕ) (piece : List ℕ) → (b == 10) ≡ false → HasFeed (b ∷ piece) → HasFeed piece
feed_on b piece e h =
    let len : prefix_len is_inner (b ∷ piece) ≡ 1 + prefix_len is_inner piece = rw e refl in
    omega arith

none_on : (b : ℕ) (piece : List ℕ) → (b == 10) ≡ false → length (b ∷ piece) ≤ prefix_len is_inner (b ∷ piece)
    → length piece ≤ prefix_len is_inner piece
none_on b piece e h =
    let len : prefix_len is_inner (b ∷ piece) ≡ 1 + prefix_len is_inner piece = rw e refl in
    omega arith

none_feed : (b : ℕ) (piece : List ℕ) → (b == 10) ≡ true → length (b ∷ piece) ≤ prefix_len is_inner (b ∷ piece) → ⊥
none_feed b piece e h = let len : prefix_len is_inner (b ∷ piece) ≡ 0 = rw e refl in omega arith

pub line_len_fed : (piece : List ℕ) → HasFeed piece → line_len piece ≡ prefix_len is_inner piece + 1
line_len_fed [] h = absurd (omega arith)
line_len_fed (b ∷ piece) h = step (b == 10) refl (line_len_fed piece) where
  step : (q : Bool) → (b == 10) ≡ q → (HasFeed piece → line_len piece ≡ prefix_len is_inner piece + 1)
      → line_len (b ∷ piece) ≡ prefix_len is_inner (b ∷ piece) + 1
  step true e ih = rw e refl
  step false e ih = let more = ih (feed_on b piece e h) in rw e (omega arith)

pub line_len_unfed : (piece : List ℕ) → length piece ≤ prefix_len is_inner piece → line_len piece ≡ length piece
line_len_unfed [] h = refl
line_len_unfed (b ∷ piece) h = step (b == 10) refl (line_len_unfed piece) where
  step : (q : Bool) → (b == 10) ≡ q → (length piece ≤ prefix_len is_inner piece → line_len piece ≡ length piece)
      → line_len (b ∷ piece) ≡ length (b ∷ piece)
  step true e ih = absurd (none_feed b piece e h)
  step false e ih = let more = ih (none_on b piece e h) in rw e (omega arith)

pub line_len_some : (piece : List ℕ) → 0 < length piece → 0 < line_len piece
line_len_some [] h = absurd (omega arith)
line_len_some (b ∷ piece) h = step (b == 10) refl where
  step : (q : Bool) → (b == 10) ≡ q → 0 < line_len (b ∷ piece)
  step true e = rw e (omega arith)
  step false e = rw e (omega arith)

pub line_len_within : (piece : List ℕ) → line_len piece ≤ length piece
line_len_within [] = omega arith
line_len_within (b ∷ piece) = step (b == 10) refl (line_len_within piece) where
  step : (q : Bool) → (b == 10) ≡ q → line_len piece ≤ length piece → line_len (b ∷ piece) ≤ length (b ∷ piece)
  step true e more = rw e (omega arith)
  step false e more = rw e (omega arith)

take_on : (b n : ℕ) (piece : List ℕ) → take (1 + n) (b ∷ piece) ≡ b ∷ take n piece
take_on b n piece = let one : 1 + n ≡ suc n = omega arith in rw one refl

line_on : (b : ℕ) (piece : List ℕ) → (b == 10) ≡ false
    → take (line_len (b ∷ piece)) (b ∷ piece) ≡ b ∷ take (line_len piece) piece
line_on b piece e = rw e (take_on b (line_len piece) piece)

line_one : (b : ℕ) (piece : List ℕ) → (b == 10) ≡ true → take (line_len (b ∷ piece)) (b ∷ piece) ≡ b ∷ []
line_one b piece e = rw e refl

pub line_text : (piece : List ℕ) → HasFeed piece → take (line_len piece) piece ≡ text_of piece ++ 10 ∷ []
line_text [] h = absurd (omega arith)
line_text (b ∷ piece) h = step (b == 10) refl (line_text piece) where
  step : (q : Bool) → (b == 10) ≡ q → (HasFeed piece → take (line_len piece) piece ≡ text_of piece ++ 10 ∷ [])
      → take (line_len (b ∷ piece)) (b ∷ piece) ≡ text_of (b ∷ piece) ++ 10 ∷ []
  step true e ih = line_one b piece e ∙ ap (λ (x : ℕ). x ∷ []) (is_feed b e)
      ∙ ap (λ (l : List ℕ). l ++ 10 ∷ []) (sym (text_none b piece e))
  step false e ih = line_on b piece e ∙ ap (λ (l : List ℕ). b ∷ l) (ih (feed_on b piece e h))
      ∙ ap (λ (l : List ℕ). l ++ 10 ∷ []) (sym (text_on b piece e))

-- ---- the bytes of the piece after others, newest first

pub newest : (b : ℕ) (piece bytes : List ℕ) → reverse (b ∷ piece) ++ bytes ≡ reverse piece ++ (b ∷ bytes)
newest b piece bytes =
    ap (λ (l : List ℕ). l ++ bytes) (reverse-append (b ∷ []) piece) ∙ append_assoc (reverse piece) (b ∷ []) bytes

cut_in : (b : ℕ) (bytes : List ℕ) → (b == 10) ≡ false
    → cut_of (b ∷ bytes) ≡ record { lines = (cut_of bytes).lines; rest = (cut_of bytes).rest ++ b ∷ [] }
cut_in b bytes e = rw e refl

abbrev cut_with : List ℕ → List ℕ → Cut
cut_with bytes text = record { lines = (cut_of bytes).lines; rest = (cut_of bytes).rest ++ text }

with_more : (b : ℕ) (bytes text : List ℕ) → (b == 10) ≡ false → cut_with (b ∷ bytes) text ≡ cut_with bytes (b ∷ text)
with_more b bytes text e =
    ap (λ (c : Cut). let d : Cut = record { lines = c.lines; rest = c.rest ++ text } in d) (cut_in b bytes e)
    ∙ ap (λ (l : List ℕ). let d : Cut = record { lines = (cut_of bytes).lines; rest = l } in d)
    (append_assoc (cut_of bytes).rest (b ∷ []) text)

pub cut_text : (piece bytes : List ℕ) → cut_of (reverse (text_of piece) ++ bytes) ≡ cut_with bytes (text_of piece)
cut_text [] bytes = ap (λ (l : List ℕ). let d : Cut = record { lines = (cut_of bytes).lines; rest = l } in d)
    (sym (append-nil (cut_of bytes).rest))
cut_text (b ∷ piece) bytes = step (b == 10) refl (cut_text piece (b ∷ bytes)) where
  step : (q : Bool) → (b == 10) ≡ q
      → cut_of (reverse (text_of piece) ++ (b ∷ bytes)) ≡ cut_with (b ∷ bytes) (text_of piece)
      → cut_of (reverse (text_of (b ∷ piece)) ++ bytes) ≡ cut_with bytes (text_of (b ∷ piece))
  step true e ih = subst (λ (l : List ℕ). cut_of (reverse l ++ bytes) ≡ cut_with bytes l) (sym (text_none b piece e))
      (ap (λ (l : List ℕ). let d : Cut = record { lines = (cut_of bytes).lines; rest = l } in d)
      (sym (append-nil (cut_of bytes).rest)))
  step false e ih = subst (λ (l : List ℕ). cut_of (reverse l ++ bytes) ≡ cut_with bytes l) (sym (text_on b piece e))
      (ap cut_of (newest b (text_of piece) bytes) ∙ ih ∙ with_more b bytes (text_of piece) e)

pub cut_line : (piece bytes : List ℕ) → HasFeed piece → cut_of (reverse (take (line_len piece) piece) ++ bytes)
    ≡ record { lines = ((cut_of bytes).rest ++ text_of piece) ∷ (cut_of bytes).lines; rest = [] }
cut_line piece bytes h =
    ap (λ (l : List ℕ). cut_of (reverse l ++ bytes)) (line_text piece h)
    ∙ ap (λ (l : List ℕ). cut_of (l ++ bytes)) (reverse-append (text_of piece) (10 ∷ []))
    ∙ ap (λ (c : Cut). cut_next c 10) (cut_text piece bytes)

-- ---- what they tell

abbrev told_by_cut : Cut → Told
told_by_cut c = (stepped (state_of c.lines) c.rest).1

pub told_line : (piece bytes : List ℕ) → HasFeed piece
    → told_of bytes piece ≡ (stepped (state_of (cut_of bytes).lines) ((cut_of bytes).rest ++ text_of piece)).1
told_line [] bytes h = absurd (omega arith)
told_line (b ∷ piece) bytes h = step (b == 10) refl (told_line piece (b ∷ bytes)) where
  step : (q : Bool) → (b == 10) ≡ q
      → (HasFeed piece → told_of (b ∷ bytes) piece ≡ told_by_cut (cut_with (b ∷ bytes) (text_of piece)))
      → told_of bytes (b ∷ piece) ≡ told_by_cut (cut_with bytes (text_of (b ∷ piece)))
  step true e ih =
      let one : told_of bytes (b ∷ piece) ≡ told_by_cut (cut_of bytes) = rw e refl in
      one ∙ ap (λ (l : List ℕ). (stepped (state_of (cut_of bytes).lines) l).1) (sym (append-nil (cut_of bytes).rest))
      ∙ ap (λ (l : List ℕ). told_by_cut (cut_with bytes l)) (sym (text_none b piece e))
  step false e ih =
      let one : told_of bytes (b ∷ piece) ≡ told_of (b ∷ bytes) piece = rw e refl in
      one ∙ ih (feed_on b piece e h) ∙ ap told_by_cut (with_more b bytes (text_of piece) e)
      ∙ ap (λ (l : List ℕ). told_by_cut (cut_with bytes l)) (sym (text_on b piece e))

pub told_part : (piece bytes : List ℕ) → length piece ≤ prefix_len is_inner piece
    → told_of bytes piece ≡ quiet (state_of (cut_of bytes).lines)
told_part [] bytes h = refl
told_part (b ∷ piece) bytes h = step (b == 10) refl (told_part piece (b ∷ bytes)) where
  step : (q : Bool) → (b == 10) ≡ q → (length piece ≤ prefix_len is_inner piece
      → told_of (b ∷ bytes) piece ≡ quiet (state_of (cut_of (b ∷ bytes)).lines))
      → told_of bytes (b ∷ piece) ≡ quiet (state_of (cut_of bytes).lines)
  step true e ih = absurd (none_feed b piece e h)
  step false e ih =
      let one : told_of bytes (b ∷ piece) ≡ told_of (b ∷ bytes) piece = rw e refl in
      one ∙ ih (none_on b piece e h) ∙ ap (λ (c : Cut). quiet (state_of c.lines)) (cut_in b bytes e)

rows_quiet : (s : State) (rows : List Row) → rows_next (quiet s) rows ≡ rows
rows_quiet (states.Bad at) rows = refl
rows_quiet (states.Open stage count) rows = refl

pub rows_told : (piece bytes : List ℕ)
    → rows_of (reverse (take (line_len piece) piece) ++ bytes) ≡ rows_next (told_of bytes piece) (rows_of bytes)
rows_told [] bytes = sym (rows_quiet (state_of (cut_of bytes).lines) (rows_of bytes))
rows_told (b ∷ piece) bytes = step (b == 10) refl (rows_told piece (b ∷ bytes)) where
  step : (q : Bool) → (b == 10) ≡ q → rows_of (reverse (take (line_len piece) piece) ++ (b ∷ bytes))
      ≡ rows_next (told_of (b ∷ bytes) piece) (rows_of (b ∷ bytes))
      → rows_of (reverse (take (line_len (b ∷ piece)) (b ∷ piece)) ++ bytes)
      ≡ rows_next (told_of bytes (b ∷ piece)) (rows_of bytes)
  step true e ih =
      let told : told_of bytes (b ∷ piece) ≡ told_at bytes b = rw e refl in
      ap (λ (l : List ℕ). rows_of (reverse l ++ bytes)) (line_one b piece e)
      ∙ ap (λ (t : Told). rows_next t (rows_of bytes)) (sym told)
  step false e ih =
      let told : told_of bytes (b ∷ piece) ≡ told_of (b ∷ bytes) piece = rw e refl in
      let still : told_at bytes b ≡ quiet (state_of (cut_of bytes).lines) = rw e refl in
      ap (λ (l : List ℕ). rows_of (reverse l ++ bytes)) (line_on b piece e)
      ∙ ap rows_of (newest b (take (line_len piece) piece) bytes) ∙ ih
      ∙ ap (λ (rows : List Row). rows_next (told_of (b ∷ bytes) piece) rows)
      (ap (λ (t : Told). rows_next t (rows_of bytes)) still
      ∙ rows_quiet (state_of (cut_of bytes).lines) (rows_of bytes))
      ∙ ap (λ (t : Told). rows_next t (rows_of bytes)) (sym told)
