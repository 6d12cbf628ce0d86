-- The lines of a trace text, and what stands after some of them.
use Rattle.std.specs.Prelude.{ℕ, ◌<◌, ◌+◌, ◌-◌, ◌*◌, ◌^◌, Bool, ◌&&◌, List, [], ◌∷◌, Option, Some, None, nat_lt, nat_le}
use Rattle.std.specs.Prelude.{nat_eq, ◌==◌, codes, if◌then◌else◌}
use Rattle.std.specs.Cmp.Lexicographic.{pointwise}
use Rattle.text_words.specs.Words.{Number, ◌>>=◌, after, number_at, digit_at, is_hex, hex_value, is_whole}
use Rattle.bus_trace.specs.LineSet.{set_of}
use Rattle.bus_trace.specs.declared.Kind.{Kind}
use Rattle.bus_trace.specs.declared.Kind.TheVariants.{Drives, Fault}
use Rattle.bus_trace.specs.declared.Row.{Row}
use Rattle.trace_text.specs.declared.stages.Stage.{Stage}
use Rattle.trace_text.specs.declared.stages.Stage.TheVariants as stages
use Rattle.trace_text.specs.declared.stages.State.{State}
use Rattle.trace_text.specs.declared.stages.State.TheVariants as states
use Rattle.trace_text.specs.declared.stages.Told.{Told}
use Rattle.trace_text.specs.declared.stages.Told.TheVariants as tolds

-- Times end at 63 bits.
abbrev pub below : Number → Option ℕ
below None = None
below (Some t) = if nat_lt t (2 ^ 63) then Some t else None

abbrev pub value_of : ℕ → ℕ → ℕ → ℕ → ℕ → ℕ
value_of a b c d e = (hex_value a * 16 + hex_value b) * 4096 + ((hex_value c * 16 + hex_value d) * 16 + hex_value e)

-- `HHHHH`, at most 3ffff: the lines that are driven; or `fB`, a fault on bit 0 to 8.
abbrev pub kind_at : List ℕ → Option Kind
kind_at (f ∷ bit ∷ []) = if f == 102 && nat_le 48 bit && nat_le bit 56 then Some (Fault (bit - 48)) else None
kind_at (a ∷ b ∷ c ∷ d ∷ e ∷ []) =
    if ((((is_hex a && is_hex b) && is_hex c) && is_hex d) && is_hex e) && nat_lt (value_of a b c d e) 0x40000
    then Some (Drives (set_of (value_of a b c d e))) else None
kind_at _ = None

-- The line of a row: `T D HHHHH` or `T D fB`.
unfoldable pub row_at : List ℕ → Option Row
row_at line = do
  number ← number_at line
  time ← below number.0
  a ← after (codes " ") number.1
  device ← digit_at a
  b ← after (codes " ") device.1
  kind ← kind_at b
  Some (record { time = time; dev = device.0; kind = kind })

-- The line of the end: `end T`.
unfoldable pub end_at : List ℕ → Option ℕ
end_at line = do
  a ← after (codes "end ") line
  number ← number_at a
  done ← is_whole number.1
  below number.0

abbrev pub is_first : List ℕ → Bool
is_first line = pointwise nat_eq line (codes "trace 1")

abbrev pub is_history : List ℕ → Bool
is_history line = pointwise nat_eq line (codes "history")

abbrev pub ended : Option ℕ → Option (Stage × Option Row)
ended None = None
ended (Some t) = Some (stages.Ended t, None)

abbrev pub row_or_end : Option Row → Option ℕ → Option (Stage × Option Row)
row_or_end (Some row) end = Some (stages.Rows, Some row)
row_or_end None end = ended end

-- Where the text stands after a line, and the row of that line: first `trace 1`, then rows, then the end;
-- after it `history`, and then any line.
abbrev pub stage_after : Stage → List ℕ → Option (Stage × Option Row)
stage_after stages.Start line = if is_first line then Some (stages.Rows, None) else None
stage_after stages.Rows line = row_or_end (row_at line) (end_at line)
stage_after (stages.Ended t) line = if is_history line then Some (stages.History t, None) else None
stage_after (stages.History t) line = Some (stages.History t, None)

abbrev pub row_told : Option Row → Told
row_told None = tolds.Quiet
row_told (Some row) = tolds.RowRead row

abbrev pub moved : ℕ → Option (Stage × Option Row) → State × Told
moved count None = (states.Bad count, tolds.Bad count)
moved count (Some s) = (states.Open s.0 count, row_told s.1)

-- The state after a line, and what its line feed tells: a bad line stays.
abbrev pub stepped : State → List ℕ → State × Told
stepped (states.Bad at) line = (states.Bad at, tolds.Bad at)
stepped (states.Open stage count) line = moved (count + 1) (stage_after stage line)

-- How many lines were read, up to a bad one.
abbrev pub count_of : State → ℕ
count_of (states.Bad at) = at
count_of (states.Open stage count) = count

-- The state after these lines, the newest first.
abbrev pub state_of : List (List ℕ) → State
state_of [] = states.Open stages.Start 0
state_of (line ∷ lines) = (stepped (state_of lines) line).0

-- A row is of one of the eight devices, where there is one.
abbrev pub IsOfBus : Option Row → Type 0
IsOfBus None = Unit {0}
IsOfBus (Some row) = row.dev < 8

abbrev pub SaysOfBus : Option (Stage × Option Row) → Type 0
SaysOfBus None = Unit {0}
SaysOfBus (Some s) = IsOfBus s.1

abbrev pub TellsOfBus : Told → Type 0
TellsOfBus tolds.Quiet = Unit {0}
TellsOfBus (tolds.RowRead row) = row.dev < 8
TellsOfBus (tolds.Bad at) = Unit {0}
