-- The word `vcd`: what each status says of the input, and what is written.
use Rattle.std.specs.Prelude.{ℕ, ◌≡◌, List, reverse, Option, Some, None, option_map, Ok, Err}
use Rattle.bus_trace.specs.LineSet.{LineSet}
use Rattle.bus_trace.specs.declared.rows.Row.{Row}
use Rattle.bus_trace.specs.declared.rows.Kind.TheVariants.{Drives}
use Rattle.bus_rules.specs.declared.verdict.Verdict.TheVariants as verdicts
use Rattle.bus_rules.specs.Rules.{judged_whole}
use Rattle.trace_text.specs.Whole.{trace_of}
use Rattle.vcd_text.specs.DumpText.{dump_text}
use Rattle.bus_cli.specs.Lines.{usage_line, fault_line, memory_line, broken_line, trace_line, Writing, Adds, AddsFront}
use Rattle.bus_cli.specs.Lines.{SaysLine}
use Rattle.bus_cli.specs.Judging.{verdict_on, IsVerdict, JudgeTells}
use Rattle.bus_cli.specs.declared.status.Status.{Status}
use Rattle.bus_cli.specs.declared.status.Status.TheVariants.{Done, Words, Refused, Read, Write, Memory, Broken}
use Rattle.bus_cli.specs.declared.status.Status.TheVariants.{BadTrace, BadDump}

-- these bytes say these rows and this end, and the trace is lawful
abbrev pub IsLawful : List ℕ → List Row → ℕ → Type 0
IsLawful bytes rows end = (trace_of bytes ≡ Ok (rows, end)) × (verdict_on bytes ≡ Ok verdicts.Lawful)

-- a row of lines, and no fault
abbrev pub IsOfLines : Row → Type 0
IsOfLines row = (lines : LineSet) × (row.kind ≡ Drives lines)

-- This is the dump of the lawful trace that the input says; where nothing is told of the bytes, of any trace.
abbrev pub IsDumpOf : Option (List ℕ) → List ℕ → Type 0
IsDumpOf None text = (rows : List Row) × (end : ℕ) × (text ≡ dump_text rows end)
IsDumpOf (Some bytes) text = (rows : List Row) × (end : ℕ) × IsLawful bytes rows end × (text ≡ dump_text rows end)

-- What was written with this status of a trace that was read: its dump, or with Write a front of it; or the rule that
-- it breaks.
abbrev pub SaysTrace : Status → List Row → ℕ → Writing → Type 0
SaysTrace Done rows end w = Adds (dump_text rows end) w
SaysTrace Write rows end w = AddsFront (dump_text rows end) w
SaysTrace Broken rows end w = (row : ℕ) × (rule : ℕ) × (judged_whole (reverse rows) end ≡ verdicts.Broken row rule)
    × SaysLine (broken_line row rule) w
SaysTrace _ rows end w = ⊥

-- What was written with this status, by the bytes that the input had left: the dump of the trace that they say, or with
-- Write a front of it; or the status' own line.
abbrev pub VcdSays : Status → Option (List ℕ) → Writing → Type 0
VcdSays Done input w = (text : List ℕ) × IsDumpOf input text × Adds text w
VcdSays Write input w = (text : List ℕ) × IsDumpOf input text × AddsFront text w
VcdSays Broken input w = (row : ℕ) × (rule : ℕ)
    × IsVerdict (option_map verdict_on input) (Ok (verdicts.Broken row rule)) × SaysLine (broken_line row rule) w
VcdSays BadTrace input w =
    (line : ℕ) × IsVerdict (option_map verdict_on input) (Err line) × SaysLine (trace_line line) w
VcdSays Words input w = SaysLine usage_line w
VcdSays Read input w = SaysLine fault_line w
VcdSays Memory input w = SaysLine memory_line w
VcdSays Refused input w = ⊥
VcdSays BadDump input w = ⊥

-- what the status says of the input's bytes: what it says with the word `judge`
abbrev pub VcdTells : Status → List ℕ → Type 0
VcdTells Memory bytes = Unit {0}
VcdTells status bytes = JudgeTells status bytes
