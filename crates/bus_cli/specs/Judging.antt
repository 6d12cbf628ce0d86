-- The word `judge`: the verdict on the input, what each status says of it, and what is written.
use Rattle.std.specs.Prelude.{ℕ, ◌≡◌, List, [], reverse, Option, Some, None, option_map, IfSome, Result, Ok, Err}
use Rattle.trace_text.specs.declared.limit.TheConstants.{LIMIT as TRACE_LIMIT}
use Rattle.bus_trace.specs.declared.Row.{Row}
use Rattle.bus_rules.specs.Rules.{judged_whole}
use Rattle.bus_rules.specs.declared.verdict.Verdict.{Verdict}
use Rattle.bus_rules.specs.declared.verdict.Verdict.TheVariants as verdicts
use Rattle.trace_text.specs.Whole.{trace_of}
use Rattle.bus_base.specs.Pieces.{TakesBeyond}
use Rattle.bus_base.specs.declared.reading.Cut.{Cut}
use Rattle.bus_base.specs.declared.reading.Cut.TheVariants as cuts
use Rattle.bus_cli.specs.Lines.{usage_line, fault_line, lawful_line, broken_line, trace_line, Writing, Adds, AddsFront}
use Rattle.bus_cli.specs.Lines.{SaysLine}
use Rattle.bus_cli.specs.declared.status.Status.{Status}
use Rattle.bus_cli.specs.declared.status.Status.TheVariants.{Done, Words, Refused, Read, Write, Memory, Broken}
use Rattle.bus_cli.specs.declared.status.Status.TheVariants.{BadTrace, BadDump}

-- what is judged of a text that was read
abbrev pub verdict_of : Result (List Row × ℕ) ℕ → Result Verdict ℕ
verdict_of (Ok trace) = Ok (judged_whole (reverse trace.0) trace.1)
verdict_of (Err line) = Err line

-- The verdict on the trace that these bytes say, or their first line that breaks the form of a trace text.
abbrev pub verdict_on : List ℕ → Result Verdict ℕ
verdict_on bytes = verdict_of (trace_of bytes)

-- This is the verdict, where one is told.
abbrev pub IsVerdict : Option (Result Verdict ℕ) → Result Verdict ℕ → Type 0
IsVerdict None verdict = Unit {0}
IsVerdict (Some told) verdict = told ≡ verdict

-- What was written with this status, by the verdict: the answer that says it, with Write a front of the answer
-- `lawful`; or the status' own line.
abbrev pub SaysVerdict : Status → Option (Result Verdict ℕ) → Writing → Type 0
SaysVerdict Done told w =
    IsVerdict told (Ok verdicts.Lawful) × Adds lawful_line w
SaysVerdict Write told w =
    IsVerdict told (Ok verdicts.Lawful) × AddsFront lawful_line w
SaysVerdict Broken told w =
    (row : ℕ) × (rule : ℕ) × IsVerdict told (Ok (verdicts.Broken row rule)) × SaysLine (broken_line row rule) w
SaysVerdict BadTrace told w =
    (line : ℕ) × IsVerdict told (Err line) × SaysLine (trace_line line) w
SaysVerdict Words told w = SaysLine usage_line w
SaysVerdict Read told w = SaysLine fault_line w
SaysVerdict Memory told w = ⊥
SaysVerdict Refused told w = ⊥
SaysVerdict BadDump told w = ⊥

-- the same, by the bytes that the input had left
abbrev pub JudgeSays : Status → Option (List ℕ) → Writing → Type 0
JudgeSays status input w =
    SaysVerdict status (option_map verdict_on input) w

-- what the status says of the verdict
abbrev pub TellsVerdict : Status → Result Verdict ℕ → Type 0
TellsVerdict Done verdict = verdict ≡ Ok verdicts.Lawful
TellsVerdict Write verdict = verdict ≡ Ok verdicts.Lawful
TellsVerdict Broken verdict = (row : ℕ) × (rule : ℕ) × (verdict ≡ Ok (verdicts.Broken row rule))
TellsVerdict BadTrace verdict = (line : ℕ) × (verdict ≡ Err line)
TellsVerdict Words verdict = Unit {0}
TellsVerdict Read verdict = Unit {0}
TellsVerdict Memory verdict = ⊥
TellsVerdict Refused verdict = ⊥
TellsVerdict BadDump verdict = ⊥

-- what the status says of the input's bytes
abbrev pub JudgeTells : Status → List ℕ → Type 0
JudgeTells status bytes = TellsVerdict status (verdict_on bytes)

-- The input was heard to its end, with this verdict. At TooLong it has more bytes than the limit, and one more
-- than the limit was read.
abbrev pub HearsAll : Option (List ℕ) → Option (List ℕ) → Result (Result Verdict ℕ) Cut → Type 0
HearsAll old left (Ok verdict) = IfSome old (λ xs. (verdict_on xs ≡ verdict) × (left ≡ Some []))
HearsAll old left (Err cuts.TooLong) = TakesBeyond old left TRACE_LIMIT
HearsAll old left (Err cuts.Fault) = Unit {0}

-- the status that a verdict asks for
abbrev pub verdict_status : Result Verdict ℕ → Status
verdict_status (Ok verdicts.Lawful) = Done
verdict_status (Ok (verdicts.Broken row rule)) = Broken
verdict_status (Err line) = BadTrace
