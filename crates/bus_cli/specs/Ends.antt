-- How the program ends: what it wrote, how far it read, and what the input was.
use Rattle.std.specs.Prelude.{ℕ, ◌≡◌, ◌+◌, ◌<◌, ◌≤◌, ◌⊎◌, List, [], length, drop, Option, Some, None, IfSome, map}
use Rattle.std.specs.Prelude.{String, string_bytes}
use Rattle.std.specs.declared.alloc.Global.{Global}
use Rattle.scenario.specs.declared.bounds.TheConstants.{COMMAND_LIMIT}
use Rattle.scenario.specs.Reading.{scenario_of}
use Rattle.bus_cli.specs.Lines.{Writing, usage_line, SaysLine}
use Rattle.bus_base.specs.Whole.{TakesAtMost}
use Rattle.bus_cli.specs.Words.{word_of, limit_of}
use Rattle.bus_cli.specs.Making.{MakeSays, MakeTells}
use Rattle.bus_cli.specs.Running.{RunSays, RunTells, StepsBy, scenario_status}
use Rattle.bus_cli.specs.Judging.{JudgeSays, JudgeTells, verdict_on, verdict_status}
use Rattle.bus_cli.specs.Vcd.{VcdSays, VcdTells}
use Rattle.bus_cli.specs.Transcripts.{TranscriptSays}
use Rattle.bus_cli.specs.Unvcd.{UnvcdSays, UnvcdTells, dump_on, dump_status}
use Rattle.bus_cli.specs.declared.status.Status.{Status}
use Rattle.bus_cli.specs.declared.status.Status.TheVariants.{Done, Words, Refused, Read, Write, Memory, Broken}
use Rattle.bus_cli.specs.declared.status.Status.TheVariants.{BadTrace, BadDump}
use Rattle.bus_cli.specs.declared.words.Word.{Word}
use Rattle.bus_cli.specs.declared.words.Word.TheVariants as words

-- the exit status
abbrev pub code_of : Status → ℕ
code_of Done = 0
code_of Words = 1
code_of Refused = 2
code_of Read = 3
code_of Write = 4
code_of Memory = 5
code_of Broken = 6
code_of BadTrace = 7
code_of BadDump = 10

-- what the words of the program ask
abbrev pub word_in : List (String Global) → Option Word
word_in words = word_of (map string_bytes words)

-- what was written, by the word, by the status and by the bytes that the input had left
abbrev pub Says : Option Word → Status → Option (List ℕ) → Writing → Type 0
Says None status input w = SaysLine usage_line w
Says (Some (words.Run extent)) status input w = RunSays extent status input w
Says (Some words.Judge) status input w = JudgeSays status input w
Says (Some (words.Make seed n)) status input w = MakeSays seed n status w
Says (Some words.Vcd) status input w = VcdSays status input w
Says (Some words.Unvcd) status input w = UnvcdSays status input w
Says (Some words.Transcript) status input w = TranscriptSays status input w

-- what the status says of the input's bytes
abbrev pub TellsForm : Word → Status → List ℕ → Type 0
TellsForm (words.Run extent) status bytes = RunTells status bytes
TellsForm words.Judge status bytes = JudgeTells status bytes
TellsForm (words.Make seed n) status bytes = MakeTells status
TellsForm words.Vcd status bytes = VcdTells status bytes
TellsForm words.Unvcd status bytes = UnvcdTells status bytes
TellsForm words.Transcript status bytes = VcdTells status bytes

-- All bytes were read; or they are more than the limit, and one more than the limit was read.
abbrev pub ReadsOut : ℕ → List ℕ → Option (List ℕ) → Type 0
ReadsOut limit bytes left =
    (left ≡ Some []) ⊎ ((limit < length bytes) × (left ≡ Some (drop (limit + 1) bytes)))

-- how far the bytes of the input were read with this status, where this is the limit
abbrev pub Reads : ℕ → Status → List ℕ → Option (List ℕ) → Type 0
Reads limit Done bytes left = left ≡ Some []
Reads limit Write bytes left = left ≡ Some []
Reads limit Broken bytes left = left ≡ Some []
Reads limit Refused bytes left = ReadsOut limit bytes left
Reads limit BadTrace bytes left = ReadsOut limit bytes left
Reads limit BadDump bytes left = ReadsOut limit bytes left
Reads limit Words bytes left = left ≡ Some bytes
Reads limit Read bytes left = Unit {0}
Reads limit Memory bytes left = Unit {0}

-- the status that the bytes of the input ask for
abbrev pub status_of : Word → List ℕ → Status
status_of (words.Run extent) bytes = scenario_status (scenario_of bytes)
status_of words.Judge bytes = verdict_status (verdict_on bytes)
status_of (words.Make seed n) bytes = Done
status_of words.Vcd bytes = verdict_status (verdict_on bytes)
status_of words.Unvcd bytes = dump_status (dump_on bytes)
status_of words.Transcript bytes = verdict_status (verdict_on bytes)

-- The status is the one that is asked for; or memory ran out, or in place of Done a write failed.
abbrev pub IsMet : Status → Status → Type 0
IsMet asked status = (status ≡ asked) ⊎ ((status ≡ Memory) ⊎ ((asked ≡ Done) × (status ≡ Write)))

-- ---- the same by what the words ask, where this is known, and the bytes that the input had left, where they are told

-- With the word `make` nothing is read.
abbrev pub IsMaking : Option Word → Type 0
IsMaking (Some (words.Make seed n)) = Unit {0}
IsMaking _ = ⊥

-- It makes at most so many commands as a scenario may have.
abbrev pub MakesFew : Option Word → Type 0
MakesFew (Some (words.Make seed n)) = n ≤ COMMAND_LIMIT
MakesFew _ = Unit {0}

abbrev pub ReadsBy : Word → Status → List ℕ → Option (List ℕ) → Type 0
ReadsBy (words.Make seed n) status bytes left = left ≡ Some bytes
ReadsBy word status bytes left = Reads (limit_of word) status bytes left

abbrev pub ReadsFar : Option Word → Status → Option (List ℕ) → Option (List ℕ) → Type 0
ReadsFar asked status old left = IfSome asked (λ word. IfSome old (λ bytes. ReadsBy word status bytes left))

-- the most bytes that are taken: one more than the limit
abbrev pub most_of : Word → ℕ
most_of (words.Make seed n) = 0
most_of word = limit_of word + 1

abbrev pub TakesWithin : Option Word → Option (List ℕ) → Option (List ℕ) → Type 0
TakesWithin asked old left = IfSome asked (λ word. TakesAtMost old left (most_of word))

abbrev pub TellsBy : Word → Status → Option (List ℕ) → Type 0
TellsBy (words.Make seed n) status old = MakeTells status
TellsBy word status old = IfSome old (λ bytes. TellsForm word status bytes)

abbrev pub TellsInput : Option Word → Status → Option (List ℕ) → Type 0
TellsInput asked status old = IfSome asked (λ word. TellsBy word status old)

-- Only a run takes steps.
abbrev pub TakesStepsBy : Word → Option (List ℕ) → ℕ → ℕ → Type 0
TakesStepsBy (words.Run extent) old before after = IfSome old (λ bytes. StepsBy (scenario_of bytes) before after)
TakesStepsBy _ old before after = after ≡ before

abbrev pub TakesSteps : Option Word → Option (List ℕ) → ℕ → ℕ → Type 0
TakesSteps None old before after = after ≡ before
TakesSteps (Some word) old before after = TakesStepsBy word old before after

abbrev pub MeetsBy : Word → Status → Option (List ℕ) → Type 0
MeetsBy (words.Make seed n) status old = IsMet Done status
MeetsBy word status old = IfSome old (λ bytes. IsMet (status_of word bytes) status)

abbrev pub MeetsInput : Option Word → Status → Option (List ℕ) → Type 0
MeetsInput asked status old = IfSome asked (λ word. MeetsBy word status old)
