-- The word `transcript`: what is written, by each status. What a status says of the input is what it says with `vcd`.
use Rattle.std.specs.Prelude.{ℕ, ◌≡◌, List, reverse, Option, Some, None, option_map, Result, Ok, Err}
use Rattle.bus_trace.specs.declared.rows.Row.{Row}
use Rattle.bus_rules.specs.declared.verdict.Verdict.{Verdict}
use Rattle.bus_rules.specs.declared.verdict.Verdict.TheVariants as verdicts
use Rattle.bus_rules.specs.Rules.{judged_whole}
use Rattle.bus_transcript.specs.Rows.{transcript_of}
use Rattle.bus_transcript.specs.Text.{transcript_text}
use Rattle.bus_cli.specs.Lines.{usage_line, fault_line, memory_line, broken_line, trace_line, Writing, Adds, AddsFront}
use Rattle.bus_cli.specs.Lines.{SaysLine}
use Rattle.bus_cli.specs.Judging.{verdict_on, IsVerdict, TellsVerdict}
use Rattle.bus_cli.specs.Vcd.{IsLawful}
use Rattle.bus_cli.specs.declared.status.Status.{Status}
use Rattle.bus_cli.specs.declared.status.Status.TheVariants.{Done, Words, Refused, Read, Write, Memory, Broken}
use Rattle.bus_cli.specs.declared.status.Status.TheVariants.{BadTrace, BadDump}

-- the text of the transcript of these rows, the oldest first
abbrev pub text_of_rows : List Row → List ℕ
text_of_rows rows = transcript_text (transcript_of (reverse rows))

-- This is the transcript of the lawful trace that the input says; where nothing is told of the bytes, of any trace.
abbrev pub IsTranscriptOf : Option (List ℕ) → List ℕ → Type 0
IsTranscriptOf None text = (rows : List Row) × (text ≡ text_of_rows rows)
IsTranscriptOf (Some bytes) text = (rows : List Row) × (end : ℕ) × IsLawful bytes rows end × (text ≡ text_of_rows rows)

-- What was written with this status of a trace: its transcript, or with Write a front of it; that there was no memory;
-- or the rule that it breaks.
abbrev pub SaysTranscript : Status → List Row → ℕ → Writing → Type 0
SaysTranscript Done rows end w = Adds (text_of_rows rows) w
SaysTranscript Write rows end w = AddsFront (text_of_rows rows) w
SaysTranscript Memory rows end w = SaysLine memory_line w
SaysTranscript Broken rows end w = (row : ℕ) × (rule : ℕ) × (judged_whole (reverse rows) end ≡ verdicts.Broken row rule)
    × SaysLine (broken_line row rule) w
SaysTranscript _ rows end w = ⊥

-- What was written with this status, by the bytes that the input had left: the transcript of the trace that they say,
-- or with Write a front of it; or the status' own line.
abbrev pub TranscriptSays : Status → Option (List ℕ) → Writing → Type 0
TranscriptSays Done input w = (text : List ℕ) × IsTranscriptOf input text × Adds text w
TranscriptSays Write input w = (text : List ℕ) × IsTranscriptOf input text × AddsFront text w
TranscriptSays Broken input w = (row : ℕ) × (rule : ℕ)
    × IsVerdict (option_map verdict_on input) (Ok (verdicts.Broken row rule)) × SaysLine (broken_line row rule) w
TranscriptSays BadTrace input w =
    (line : ℕ) × IsVerdict (option_map verdict_on input) (Err line) × SaysLine (trace_line line) w
TranscriptSays Words input w = SaysLine usage_line w
TranscriptSays Read input w = SaysLine fault_line w
TranscriptSays Memory input w = SaysLine memory_line w
TranscriptSays Refused input w = ⊥
TranscriptSays BadDump input w = ⊥

-- what the status says of the verdict on a trace: memory may be wanting
abbrev pub TellsTrace : Status → Result Verdict ℕ → Type 0
TellsTrace Memory verdict = Unit {0}
TellsTrace status verdict = TellsVerdict status verdict
