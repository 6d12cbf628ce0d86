-- The word `run`: what each status says of the input, and what is written.
use Rattle.std.specs.Prelude.{ℕ, ◌≡◌, ◌≤◌, ◌+◌, List, Option, Some, None, Result, Ok, Err}
use Rattle.scenario.specs.Value.{ScenarioValue}
use Rattle.scenario.specs.Reading.{scenario_of}
use Rattle.story_model.specs.Budget.{budget}
use Rattle.run_record.specs.Value.{RunValue}
use Rattle.bus_engine.specs.Runs.{IsRunOf}
use Rattle.trace_text.specs.ReportText.{report_of}
use Rattle.trace_text.specs.ShortText.{short_text}
use Rattle.bus_cli.specs.Transcripts.{text_of_rows}
use Rattle.bus_cli.specs.declared.words.Extent.{Extent}
use Rattle.bus_cli.specs.declared.words.Extent.TheVariants.{Whole, Short, Transcript}
use Rattle.bus_cli.specs.Lines.{usage_line, fault_line, memory_line, refusal_line, Writing, Adds, AddsFront, SaysLine}
use Rattle.bus_cli.specs.declared.status.Status.{Status}
use Rattle.bus_cli.specs.declared.status.Status.TheVariants.{Done, Words, Refused, Read, Write, Memory, Broken}
use Rattle.bus_cli.specs.declared.status.Status.TheVariants.{BadTrace, BadDump}

-- the scenario that the input says; where nothing is told of the bytes, any
abbrev pub IsSaid : Option (List ℕ) → ScenarioValue → Type 0
IsSaid None s = Unit {0}
IsSaid (Some bytes) s = scenario_of bytes ≡ Ok s

-- the report of a run, or the short one, or the transcript of its rows
abbrev pub run_text : Extent → ScenarioValue → RunValue → List ℕ
run_text Whole s run = report_of s run
run_text Short s run = short_text run
run_text Transcript s run = text_of_rows run.rows

-- this is what is written of the run of the scenario that the input says
abbrev pub IsReport : Extent → Option (List ℕ) → List ℕ → Type 0
IsReport extent input text =
    (s : ScenarioValue) × (run : RunValue) × IsSaid input s × IsRunOf s run × (text ≡ run_text extent s run)

-- the first line with a reason, and its lowest reason, that refuse the input
abbrev pub IsRefused : Option (List ℕ) → ℕ → ℕ → Type 0
IsRefused None line reason = Unit {0}
IsRefused (Some bytes) line reason = scenario_of bytes ≡ Err (line, reason)

-- What was written with this status, by the bytes that the input had left: what was asked of the run of
-- the scenario that they say, or with Write a front of it; or the status' own line.
abbrev pub RunSays : Extent → Status → Option (List ℕ) → Writing → Type 0
RunSays extent Done input w = (text : List ℕ) × IsReport extent input text × Adds text w
RunSays extent Write input w = (text : List ℕ) × IsReport extent input text × AddsFront text w
RunSays extent Words input w = SaysLine usage_line w
RunSays extent Refused input w =
    (line : ℕ) × (reason : ℕ) × IsRefused input line reason × SaysLine (refusal_line line reason) w
RunSays extent Read input w = SaysLine fault_line w
RunSays extent Memory input w = SaysLine memory_line w
RunSays extent Broken input w = ⊥
RunSays extent BadTrace input w = ⊥
RunSays extent BadDump input w = ⊥

-- what the status says of the input's bytes
abbrev pub RunTells : Status → List ℕ → Type 0
RunTells Done bytes = (s : ScenarioValue) × (scenario_of bytes ≡ Ok s)
RunTells Write bytes = (s : ScenarioValue) × (scenario_of bytes ≡ Ok s)
RunTells Refused bytes = (line : ℕ) × (reason : ℕ) × (scenario_of bytes ≡ Err (line, reason))
RunTells Words bytes = Unit {0}
RunTells Read bytes = Unit {0}
RunTells Memory bytes = Unit {0}
RunTells Broken bytes = ⊥
RunTells BadTrace bytes = ⊥
RunTells BadDump bytes = ⊥

-- the status that a scenario asks for
abbrev pub scenario_status : Result ScenarioValue (ℕ × ℕ) → Status
scenario_status (Ok s) = Done
scenario_status (Err reason) = Refused

-- The steps that a run takes: at most those of its budget. What is no scenario takes none.
abbrev pub StepsBy : Result ScenarioValue (ℕ × ℕ) → ℕ → ℕ → Type 0
StepsBy (Ok s) before after = after ≤ before + budget s
StepsBy (Err reason) before after = after ≡ before
