-- The word `unvcd`: what each status says of the input, and what is written.
use Rattle.std.specs.Prelude.{ℕ, ◌≡◌, ◌≤◌, List, [], length, Option, Some, None, option_map, IfSome, Result, Ok, Err}
use Rattle.std.specs.Prelude.{nat_lt, if◌then◌else◌}
use Rattle.bus_base.specs.Pieces.{TakesBeyond}
use Rattle.bus_base.specs.declared.reading.ReadEnd.{ReadEnd}
use Rattle.bus_base.specs.declared.reading.ReadEnd.TheVariants as ends
use Rattle.bus_trace.specs.declared.rows.Row.{Row}
use Rattle.trace_text.specs.RowText.{trace_text}
use Rattle.vcd_text.specs.declared.limit.TheConstants.{LIMIT as DUMP_LIMIT}
use Rattle.vcd_text.specs.declared.reader.VcdReader.{VcdReader}
use Rattle.vcd_text.specs.Reading.{read_of, vcd_of}
use Rattle.bus_cli.specs.Lines.{usage_line, fault_line, memory_line, dump_line, Writing, Adds, AddsFront, SaysLine}
use Rattle.bus_cli.specs.declared.status.Status.{Status}
use Rattle.bus_cli.specs.declared.status.Status.TheVariants.{Done, Words, Refused, Read, Write, Memory, Broken}
use Rattle.bus_cli.specs.declared.status.Status.TheVariants.{BadTrace, BadDump}

-- The rows and the end of the dump that these bytes are, or the line of the first token that breaks its form; line 0
-- where there are more than 1,073,741,824 bytes.
abbrev pub dump_on : List ℕ → Result (List Row × ℕ) ℕ
dump_on bytes = if nat_lt DUMP_LIMIT (length bytes) then Err 0 else vcd_of bytes

-- This is what was read, where it is told.
abbrev pub IsRead : Option (Result (List Row × ℕ) ℕ) → Result (List Row × ℕ) ℕ → Type 0
IsRead None read = Unit {0}
IsRead (Some told) read = told ≡ read

-- What was written with this status, by what was read: the text of its trace, or with Write a front of it; or the
-- status' own line.
abbrev pub SaysRead : Status → Option (Result (List Row × ℕ) ℕ) → Writing → Type 0
SaysRead Done told w = (rows : List Row) × (end : ℕ) × IsRead told (Ok (rows, end)) × Adds (trace_text rows end) w
SaysRead Write told w =
    (rows : List Row) × (end : ℕ) × IsRead told (Ok (rows, end)) × AddsFront (trace_text rows end) w
SaysRead BadDump told w = (line : ℕ) × IsRead told (Err line) × SaysLine (dump_line line) w
SaysRead Words told w = SaysLine usage_line w
SaysRead Read told w = SaysLine fault_line w
SaysRead Memory told w = SaysLine memory_line w
SaysRead Broken told w = ⊥
SaysRead BadTrace told w = ⊥
SaysRead Refused told w = ⊥

-- the same, by the bytes that the input had left
abbrev pub UnvcdSays : Status → Option (List ℕ) → Writing → Type 0
UnvcdSays status input w = SaysRead status (option_map dump_on input) w

-- what the status says of what was read
abbrev pub TellsRead : Status → Result (List Row × ℕ) ℕ → Type 0
TellsRead Done read = (rows : List Row) × (end : ℕ) × (read ≡ Ok (rows, end))
TellsRead Write read = (rows : List Row) × (end : ℕ) × (read ≡ Ok (rows, end))
TellsRead BadDump read = (line : ℕ) × (read ≡ Err line)
TellsRead Words read = Unit {0}
TellsRead Read read = Unit {0}
TellsRead Memory read = Unit {0}
TellsRead Broken read = ⊥
TellsRead BadTrace read = ⊥
TellsRead Refused read = ⊥

abbrev pub UnvcdTells : Status → List ℕ → Type 0
UnvcdTells status bytes = TellsRead status (dump_on bytes)

-- The reader has taken all bytes of the input. At TooLong it has more bytes than the limit, and one more than the limit
-- was read.
abbrev pub TakesDump : Option (List ℕ) → Option (List ℕ) → Result VcdReader ReadEnd → Type 0
TakesDump old left (Ok reader) =
    IfSome old (λ xs. (read_of reader ≡ vcd_of xs) × (length xs ≤ DUMP_LIMIT) × (left ≡ Some []))
TakesDump old left (Err ends.TooLong) = TakesBeyond old left DUMP_LIMIT
TakesDump old left (Err ends.Fault) = Unit {0}
TakesDump old left (Err ends.NoMemory) = Unit {0}

-- the status that a dump asks for
abbrev pub dump_status : Result (List Row × ℕ) ℕ → Status
dump_status (Ok trace) = Done
dump_status (Err line) = BadDump
