-- What the reader has taken of a piece.
use Rattle.std.proofs.Common.{◌≡◌, ℕ, ◌+◌, ◌^◌, ◌<◌, ◌≤◌, List, [], ◌∷◌, ◌++◌, length, take, reverse, take_all, refl}
use Rattle.std.proofs.Common.{sym, ap, ◌∙◌, arith, inl, inr, Some}
use Rattle.std.specs.List.{prefix_len}
use Rattle.std.proofs.lemmas.Bool.{cases_lt}
use Rattle.std.proofs.lemmas.List.{length-take, take-append-le}
use Rattle.trace_text.specs.declared.limit.TheConstants.{LIMIT as TRACE_LIMIT}
use Rattle.bus_trace.specs.declared.Row.{Row}
use Rattle.trace_text.specs.declared.stages.Stage.TheVariants as stages
use Rattle.trace_text.specs.declared.stages.State.{State}
use Rattle.trace_text.specs.declared.stages.State.TheVariants as states
use Rattle.trace_text.specs.declared.stages.Told.{Told}
use Rattle.trace_text.specs.declared.stages.Told.TheVariants as tolds
use Rattle.trace_text.specs.declared.reader.TraceReader.{TraceReader}
use Rattle.trace_text.specs.declared.rows_reader.RowsReader.{RowsReader}
use Rattle.trace_text.specs.Lines.{row_or_end, row_at, end_at, moved, stepped, count_of, state_of}
use Rattle.trace_text.specs.Pieces.{is_inner, text_of, line_len, StartsWithRow}
use Rattle.trace_text.specs.Bytes.{Cut, cut_of, quiet, told_of, rows_next, rows_of, reader_of, IsReaderOf, IsRowTaken}
use Rattle.trace_text.proofs.Front.{stepped_front, count_bytes, reader}
use Rattle.trace_text.proofs.Pieces.{cut_text, cut_line, told_line, told_part, rows_told}

-- the front of a line says as much as the line, however it is put together
front_more : (line text : List ℕ) → take 28 (take 28 line ++ text) ≡ take 28 (line ++ text)
front_more line text =
    elim (cases_lt (length line) 28) [
      | inl lt ↦ ap (λ (l : List ℕ). take 28 (l ++ text)) (take_all 28 line (omega arith))
      | inr le ↦
          let len : length (take 28 line) ≡ 28 = omega (arith, length-take 28 line) in
          take-append-le 28 (take 28 line) text (omega arith)
          ∙ (take_all 28 (take 28 line) (omega arith) ∙ sym (take-append-le 28 line text le))
    ]

-- the state and what is told after a line of which these bytes are the last
abbrev pub EndsLine : TraceReader → List ℕ → State × Told → Type 0
EndsLine r text p = count_of r.state + 1 < 2 ^ 32 → p ≡ stepped r.state (take 28 (r.line ++ text))

line_is : (r : TraceReader) (text bytes : List ℕ) (p : State × Told) → EndsLine r text p → IsReaderOf bytes r
    → length bytes ≤ TRACE_LIMIT → p ≡ stepped (state_of (cut_of bytes).lines) ((cut_of bytes).rest ++ text)
line_is r text bytes p ends h few =
    let count = count_bytes bytes r h in
    ends (omega arith)
    ∙ (λ i. stepped (h.state i) (take 28 (h.line i ++ text)))
    ∙ ap (stepped (state_of (cut_of bytes).lines)) (front_more (cut_of bytes).rest text)
    ∙ stepped_front (state_of (cut_of bytes).lines) ((cut_of bytes).rest ++ text)

-- ---- a piece with a line feed

pub fed_kept : (r : TraceReader) (piece line : List ℕ) (p : State × Told) (len : ℕ)
    → len ≡ line_len piece → prefix_len is_inner piece < length piece → EndsLine r (text_of piece) p
    → line ≡ [] → (bytes : List ℕ) → IsReaderOf bytes r → length bytes + length piece ≤ TRACE_LIMIT
    → IsReaderOf (reverse (take len piece) ++ bytes) (reader line p.0)
fed_kept r piece line p len len-is fed ends empty bytes h few =
    let cut = ap (λ (n : ℕ). cut_of (reverse (take n piece) ++ bytes)) len-is ∙ cut_line piece bytes fed in
    record {
      line = empty ∙ sym (ap (λ (c : Cut). take 28 c.rest) cut);
      state = ap (λ (x : State × Told). x.0) (line_is r (text_of piece) bytes p ends h (omega arith))
          ∙ sym (ap (λ (c : Cut). state_of c.lines) cut);
    }

pub fed_told : (r : TraceReader) (piece : List ℕ) (p : State × Told) → prefix_len is_inner piece < length piece
    → EndsLine r (text_of piece) p → (bytes : List ℕ) → IsReaderOf bytes r → length bytes + length piece ≤ TRACE_LIMIT
    → p.1 ≡ told_of bytes piece
fed_told r piece p fed ends bytes h few =
    ap (λ (x : State × Told). x.1) (line_is r (text_of piece) bytes p ends h (omega arith))
    ∙ sym (told_line piece bytes fed)

-- ---- a piece with none

pub unfed_kept : (r : TraceReader) (piece line : List ℕ) (len : ℕ) → len ≡ length piece
    → length piece ≤ prefix_len is_inner piece → line ≡ take 28 (r.line ++ text_of piece)
    → (bytes : List ℕ) → IsReaderOf bytes r → IsReaderOf (reverse (take len piece) ++ bytes) (reader line r.state)
unfed_kept r piece line len len-is unfed more bytes h =
    let whole : take len piece ≡ text_of piece = take_all len piece (omega arith)
    ∙ sym (take_all (prefix_len is_inner piece) piece unfed) in
    let cut = ap (λ (l : List ℕ). cut_of (reverse l ++ bytes)) whole ∙ cut_text piece bytes in
    record {
      line = more ∙ ap (λ (l : List ℕ). take 28 (l ++ text_of piece)) h.line
          ∙ front_more (cut_of bytes).rest (text_of piece) ∙ sym (ap (λ (c : Cut). take 28 c.rest) cut);
      state = h.state ∙ sym (ap (λ (c : Cut). state_of c.lines) cut);
    }

pub unfed_told : (r : TraceReader) (piece : List ℕ) (told : Told) → length piece ≤ prefix_len is_inner piece
    → told ≡ quiet r.state → (bytes : List ℕ) → IsReaderOf bytes r → told ≡ told_of bytes piece
unfed_told r piece told unfed is bytes h = is ∙ ap quiet h.state ∙ sym (told_part piece bytes unfed)

-- ---- a line that came whole

pub whole_line : (line text : List ℕ) (s : State) (p : State × Told) → line ≡ [] → p ≡ stepped s text
    → p ≡ stepped s (take 28 (line ++ text))
whole_line line text s p empty is =
    is ∙ sym (stepped_front s text) ∙ ap (λ (l : List ℕ). stepped s (take 28 (l ++ text))) (sym empty)

pub row_ends : (old new : TraceReader) (piece : List ℕ) (row : Row) (len : ℕ) → IsRowTaken old new piece row len
    → EndsLine old (text_of piece) (new.state, tolds.RowRead row)
row_ends old new piece row len h count =
    let few : h.count + 1 < 2 ^ 32 = let same = ap count_of h.before in omega arith in
    let told : row_or_end (row_at (text_of piece)) (end_at (text_of piece)) ≡ Some (stages.Rows, Some row) = ap
    (λ o. row_or_end o (end_at (text_of piece))) h.starts.is in
    whole_line old.line (text_of piece) old.state (new.state, tolds.RowRead row) h.nothing
    ((λ i. (h.after few i, tolds.RowRead row)) ∙ sym (ap (moved (h.count + 1)) told)
    ∙ ap (λ (s : State). stepped s (text_of piece)) (sym h.before))

pub row_kept : (old new : TraceReader) (piece : List ℕ) (row : Row) (len : ℕ) → IsRowTaken old new piece row len
    → (bytes : List ℕ) → IsReaderOf bytes old → length bytes + length piece ≤ TRACE_LIMIT
    → IsReaderOf (reverse (take len piece) ++ bytes) new
row_kept old new piece row len h = fed_kept old piece new.line
    (new.state, tolds.RowRead row) len h.starts.whole h.starts.ended (row_ends old new piece row len h) h.line

pub row_said : (old new : TraceReader) (piece : List ℕ) (row : Row) (len : ℕ) → IsRowTaken old new piece row len
    → (bytes : List ℕ) → IsReaderOf bytes old → length bytes + length piece ≤ TRACE_LIMIT
    → tolds.RowRead row ≡ told_of bytes piece
row_said old new piece row len h =
    fed_told old piece (new.state, tolds.RowRead row) h.starts.ended (row_ends old new piece row len h)

-- ---- the rows so far

pub rows_are : (piece bytes : List ℕ) (len : ℕ) (told : Told) → len ≡ line_len piece → told ≡ told_of bytes piece
    → rows_of (reverse (take len piece) ++ bytes) ≡ rows_next told (rows_of bytes)
rows_are piece bytes len told len-is is = ap (λ (n : ℕ). rows_of (reverse (take n piece) ++ bytes)) len-is
    ∙ rows_told piece bytes ∙ ap (λ (t : Told). rows_next t (rows_of bytes)) (sym is)

-- ---- one row more, where a line begins among the rows

one_taken : (old new : RowsReader) (piece : List ℕ) (row : Row) (len : ℕ) → StartsWithRow piece row len → row.dev < 8
    → (old.count + 1 < 2 ^ 32 → new.count ≡ old.count + 1) → IsRowTaken (reader_of old) (reader_of new) piece row len
one_taken old new piece row len starts device next = record {
  starts = starts;
  nothing = refl;
  line = refl;
  count = old.count;
  before = refl;
  after = λ few. ap (states.Open stages.Rows) (next few);
  device = device;
}

pub one_kept : (old new : RowsReader) (piece : List ℕ) (row : Row) (len : ℕ) → StartsWithRow piece row len → row.dev < 8
    → (old.count + 1 < 2 ^ 32 → new.count ≡ old.count + 1) → (bytes : List ℕ) → IsReaderOf bytes (reader_of old)
    → length bytes + length piece ≤ TRACE_LIMIT → IsReaderOf (reverse (take len piece) ++ bytes) (reader_of new)
one_kept old new piece row len starts device next =
    row_kept (reader_of old) (reader_of new) piece row len (one_taken old new piece row len starts device next)

pub one_told : (old new : RowsReader) (piece : List ℕ) (row : Row) (len : ℕ) → StartsWithRow piece row len → row.dev < 8
    → (old.count + 1 < 2 ^ 32 → new.count ≡ old.count + 1) → (bytes : List ℕ) → IsReaderOf bytes (reader_of old)
    → length bytes + length piece ≤ TRACE_LIMIT → rows_of (reverse (take len piece) ++ bytes) ≡ row ∷ rows_of bytes
one_told old new piece row len starts device next bytes h few =
    rows_are piece bytes len (tolds.RowRead row) starts.whole (row_said (reader_of old) (reader_of new) piece row len
    (one_taken old new piece row len starts device next) bytes h few)
