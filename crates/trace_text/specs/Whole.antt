-- What a whole trace text says.
use Rattle.std.specs.Prelude.{◌≡◌, ℕ, List, length, reverse, Result, Ok, Err, nat_lt, if◌then◌else◌}
use Rattle.trace_text.specs.declared.limit.TheConstants.{LIMIT as TRACE_LIMIT}
use Rattle.bus_trace.specs.declared.Row.{Row}
use Rattle.trace_text.specs.declared.kept_trace.KeptTrace.{KeptTrace}
use Rattle.trace_text.specs.declared.whole.Trace.{Trace}
use Rattle.trace_text.specs.declared.whole.TraceBad.{TraceBad}
use Rattle.trace_text.specs.declared.whole.TraceBad.TheVariants as bads
use Rattle.trace_text.specs.Bytes.{IsReaderOf, end_of, rows_of}

-- These rows, where the text has an end.
abbrev pub with_rows : List Row → Result ℕ ℕ → Result (List Row × ℕ) ℕ
with_rows rows (Ok end) = Ok (rows, end)
with_rows rows (Err line) = Err line

-- What bytes, the newest first, are at their end: their rows and its time, or the first line that breaks the form.
abbrev pub kept_of : List ℕ → Result (List Row × ℕ) ℕ
kept_of bytes = with_rows (reverse (rows_of bytes)) (end_of bytes)

-- The rows and the end that a text says, or its first line that breaks the form; line 0 where it has more
-- than 1,073,741,824 bytes.
abbrev pub trace_of : List ℕ → Result (List Row × ℕ) ℕ
trace_of bytes =
    if nat_lt TRACE_LIMIT (length bytes) then Err 0 else kept_of (reverse bytes)

-- What was read is this; want of memory is free.
abbrev pub Answers : Result Trace TraceBad → Result (List Row × ℕ) ℕ → Type 0
Answers (Ok t) read = read ≡ Ok (t.rows, t.end)
Answers (Err (bads.At line)) read = read ≡ Err line
Answers (Err bads.NoMemory) read = Unit {0}

-- The same, where a line that breaks the form is all that may be wrong.
abbrev pub trace_told : Result Trace ℕ → Result (List Row × ℕ) ℕ
trace_told (Ok t) = Ok (t.rows, t.end)
trace_told (Err line) = Err line

-- These bytes, the newest first, have been taken, and their rows are kept.
pub record IsKeptOf (bytes : List ℕ) (k : KeptTrace) : Type 0 where
  pub reader : IsReaderOf bytes k.reader
  pub rows : reverse k.rows ≡ rows_of bytes
