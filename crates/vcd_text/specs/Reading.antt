-- A dump byte by byte: the tokens, and the first that breaks the form.
use Rattle.std.specs.Prelude.{◌≡◌, ℕ, ◌+◌, ◌-◌, ◌^◌, Bool, true, false, List, [], ◌∷◌, ◌++◌, reverse, Option, Some}
use Rattle.std.specs.Prelude.{None, Result, Ok, Err, min, ◌==◌, if◌then◌else◌}
use Rattle.bus_trace.specs.declared.rows.Row.{Row}
use Rattle.vcd_text.specs.declared.awaits.Awaits.{Awaits}
use Rattle.vcd_text.specs.declared.awaits.Awaits.TheVariants.{Declaration, Change}
use Rattle.vcd_text.specs.declared.dump.Dump.{Dump}
use Rattle.vcd_text.specs.declared.reader.VcdReader.{VcdReader}
use Rattle.vcd_text.specs.declared.whole.VcdRows.{VcdRows}
use Rattle.vcd_text.specs.declared.whole.VcdBad.{VcdBad}
use Rattle.vcd_text.specs.declared.whole.VcdBad.TheVariants as bads
use Rattle.vcd_text.specs.Tokens.{is_space, is_token}
use Rattle.vcd_text.specs.Steps.{step}

-- before any token, and before any byte
abbrev pub no_dump : Dump
no_dump =
    record { awaits = Declaration; has_timescale = false; code = []; codes = []; devices = []; time = 0; rows = [] }

abbrev pub no_bytes : VcdReader
no_bytes = record { dump = no_dump; bad = None; word = []; line = 1 }

-- a token that has ended, in this line: what it made, or that it is the first that breaks the form
abbrev pub stepped : VcdReader → Option Dump → VcdReader
stepped r (Some dump) = record r { dump = dump }
stepped r None = record r { bad = Some r.line }

abbrev pub token_ended : VcdReader → List ℕ → VcdReader
token_ended r [] = r
token_ended r (b ∷ bytes) = stepped r (if is_token (b ∷ bytes) then step r.dump (b ∷ bytes) else None)

-- Lines are counted up to the last u32.
abbrev pub line_after : ℕ → ℕ → ℕ
line_after line b = if b == 10 then min (line + 1) (2 ^ 32 - 1) else line

abbrev pub spaced : VcdReader → ℕ → VcdReader
spaced r b = record r { word = []; line = line_after r.line b }

abbrev pub byte_read : VcdReader → ℕ → VcdReader
byte_read r b =
    if is_space b then spaced (token_ended r r.word) b else record r { word = r.word ++ b ∷ [] }

-- One byte more; after a token that breaks the form none is looked at.
abbrev pub taken_by : Option ℕ → VcdReader → ℕ → VcdReader
taken_by None r b = byte_read r b
taken_by (Some line) r b = r

abbrev pub taken : VcdReader → List ℕ → VcdReader
taken r [] = r
taken r (b ∷ bytes) = taken (taken_by r.bad r b) bytes

-- The text is over: its last token may end with it, and all declarations have to be there, and no value or comment
-- without its end.
abbrev pub is_whole : Awaits → Bool
is_whole Change = true
is_whole _ = false

abbrev pub read_by : Option ℕ → VcdReader → Result (List Row × ℕ) ℕ
read_by (Some line) r = Err line
read_by None r = if is_whole r.dump.awaits then Ok (reverse r.dump.rows, r.dump.time) else Err r.line

abbrev pub over : Option ℕ → VcdReader → VcdReader
over None r = token_ended r r.word
over (Some line) r = r

abbrev pub read_of : VcdReader → Result (List Row × ℕ) ℕ
read_of r = read_by (over r.bad r).bad (over r.bad r)

-- The rows, the oldest first, and the end that these bytes say; or the line of the first token that breaks the form,
-- and where the text is over too early one more than its line feeds.
abbrev pub vcd_of : List ℕ → Result (List Row × ℕ) ℕ
vcd_of bytes = read_of (taken no_bytes bytes)

-- What was read is this; want of memory is free.
abbrev pub Answers : Result VcdRows VcdBad → Result (List Row × ℕ) ℕ → Type 0
Answers (Ok t) read = read ≡ Ok (t.rows, t.end)
Answers (Err (bads.At line)) read = read ≡ Err line
Answers (Err bads.NoMemory) read = Unit {0}
