-- The bytes of a trace text, newest first: the lines that they make, and what each byte tells.
use Rattle.std.specs.Prelude.{◌≡◌, ℕ, ◌+◌, ◌^◌, ◌<◌, List, [], ◌∷◌, ◌++◌, take, Result, Ok, Err, ◌==◌, if◌then◌else◌}
use Rattle.bus_trace.specs.declared.Row.{Row}
use Rattle.trace_text.specs.declared.stages.Stage.TheVariants as stages
use Rattle.trace_text.specs.declared.stages.State.{State}
use Rattle.trace_text.specs.declared.stages.State.TheVariants as states
use Rattle.trace_text.specs.declared.stages.Told.{Told}
use Rattle.trace_text.specs.declared.stages.Told.TheVariants as tolds
use Rattle.trace_text.specs.declared.reader.TraceReader.{TraceReader}
use Rattle.trace_text.specs.declared.rows_reader.RowsReader.{RowsReader}
use Rattle.trace_text.specs.Lines.{stepped, state_of}
use Rattle.trace_text.specs.Pieces.{StartsWithRow}

-- The lines that have ended, newest first, and what has come of the next.
pub record Cut : Type 0 where
  pub lines : List (List ℕ)
  pub rest : List ℕ

abbrev pub cut_next : Cut → ℕ → Cut
cut_next c b = if b == 10 then record { lines = c.rest ∷ c.lines; rest = [] } else record c { rest = c.rest ++ b ∷ [] }

abbrev pub cut_of : List ℕ → Cut
cut_of [] = record { lines = []; rest = [] }
cut_of (b ∷ bytes) = cut_next (cut_of bytes) b

-- What a byte within a line tells.
abbrev pub quiet : State → Told
quiet (states.Bad at) = tolds.Bad at
quiet (states.Open stage count) = tolds.Quiet

abbrev pub told_next : Cut → ℕ → Told
told_next c b = if b == 10 then (stepped (state_of c.lines) c.rest).1 else quiet (state_of c.lines)

-- What a byte after these tells.
abbrev pub told_at : List ℕ → ℕ → Told
told_at bytes b = told_next (cut_of bytes) b

-- What the first line of a piece tells after these, or all of the piece where it has none: what its last byte does.
abbrev pub told_of : List ℕ → List ℕ → Told
told_of bytes [] = quiet (state_of (cut_of bytes).lines)
told_of bytes (b ∷ piece) = if b == 10 then told_at bytes b else told_of (b ∷ bytes) piece

-- What the end tells after these lines, where these bytes have come of one more: the time of the end, or
-- the first line that breaks the form. A line that has not ended breaks it; a text that is over too early
-- breaks it in the line after its last.
abbrev pub end_told : State → List ℕ → Result ℕ ℕ
end_told (states.Bad at) rest = Err at
end_told (states.Open (stages.History t) count) rest = Ok t
end_told (states.Open (stages.Ended t) count) [] = Ok t
end_told (states.Open stage count) rest = Err (count + 1)

-- What the bytes are at their end.
abbrev pub end_of : List ℕ → Result ℕ ℕ
end_of bytes = end_told (state_of (cut_of bytes).lines) (cut_of bytes).rest

-- The rows that these bytes told, newest first.
abbrev pub rows_next : Told → List Row → List Row
rows_next (tolds.RowRead row) rows = row ∷ rows
rows_next tolds.Quiet rows = rows
rows_next (tolds.Bad at) rows = rows

abbrev pub rows_of : List ℕ → List Row
rows_of [] = []
rows_of (b ∷ bytes) = rows_next (told_at bytes b) (rows_of bytes)

-- The reader has taken these bytes.
pub record IsReaderOf (bytes : List ℕ) (r : TraceReader) : Type 0 where
  pub line : r.line ≡ take 28 (cut_of bytes).rest
  pub state : r.state ≡ state_of (cut_of bytes).lines

-- The reader among the rows, where a line begins.
abbrev pub reader_of : RowsReader → TraceReader
reader_of r = record { line = []; state = states.Open stages.Rows r.count }

-- Where a line begins among the rows, the reader has taken the line of this row from the front of the piece.
pub record IsRowTaken (old new : TraceReader) (piece : List ℕ) (row : Row) (len : ℕ) : Type 0 where
  pub starts : StartsWithRow piece row len
  pub nothing : old.line ≡ []
  pub line : new.line ≡ []
  pub count : ℕ
  pub before : old.state ≡ states.Open stages.Rows count
  pub after : count + 1 < 2 ^ 32 → new.state ≡ states.Open stages.Rows (count + 1)
  pub device : row.dev < 8
