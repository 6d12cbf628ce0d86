-- What the word `run` says of an input that is refused.
use Rattle.std.proofs.Common.{ℕ, ◌≡◌, ◌<◌, List, Option, Some, None, length, subst, ◌∙◌}
use Rattle.std.specs.Prelude.{Result, Ok, Err, IfSome, Vec}
use Rattle.std.proofs.lemmas.Bool.{lt-ltb}
use Rattle.std.specs.declared.alloc.Global.{Global}
use Rattle.scenario.specs.declared.bounds.TheConstants.{LIMIT as SCENARIO_LIMIT}
use Rattle.bus_base.specs.Whole.{ReadsAll}
use Rattle.bus_base.specs.declared.reading.ReadEnd.{ReadEnd}
use Rattle.bus_base.specs.declared.reading.ReadEnd.TheVariants.{TooLong}
use Rattle.scenario.specs.Value.{ScenarioValue}
use Rattle.scenario.specs.Reading.{scenario_of, Answers}
use Rattle.scenario.specs.declared.fault.Bad.{Bad}
use Rattle.scenario.specs.declared.fault.Bad.TheVariants.{At}
use Rattle.bus_cli.proofs.TooLong.{map_some, first_of, IsLong, is_long}
use Rattle.bus_cli.specs.Lines.{Writing, writing, SaysLine, refusal_line}
use Rattle.bus_cli.specs.Running.{RunSays, RunTells, IsReport}
use Rattle.bus_cli.specs.declared.words.Extent.{Extent}
use Rattle.bus_cli.specs.declared.status.Status.{Status}
use Rattle.bus_cli.specs.declared.status.Status.TheVariants.{Done, Words, Refused, Read, Write, Memory, Broken}
use Rattle.bus_cli.specs.declared.status.Status.TheVariants.{BadTrace, BadDump}

-- ---- a text that is too long

too_long : (bytes : List ℕ) → SCENARIO_LIMIT < length bytes → scenario_of bytes ≡ Err (0, 9)
too_long bytes h = first_of _ _ _ (lt-ltb SCENARIO_LIMIT (length bytes) h)

pub refused_long : (input left : Option (List ℕ)) (end : ReadEnd) → end ≡ TooLong
    → ReadsAll input left SCENARIO_LIMIT (Err end) → IfSome input (λ xs. RunTells Refused xs)
refused_long input left end e h = map_some input (λ xs. SCENARIO_LIMIT < length xs) (λ xs. RunTells Refused xs)
    (λ xs long. (0, 9, too_long xs long)) (is_long SCENARIO_LIMIT input left end e h)

-- ---- a line that is refused

pub refused_at : (bad : Bad) (line reason : ℕ) (read : Result ScenarioValue (ℕ × ℕ)) → bad ≡ At line reason
    → Answers (Err bad) read → read ≡ Err (line, reason)
refused_at bad line reason read e h = subst (λ (b : Bad). Answers (Err b) read) e h

-- ---- what is written

said_refused : (extent : Extent) (bytes text : List ℕ) (w : Writing) (line reason : ℕ)
    → scenario_of bytes ≡ Err (line, reason) → text ≡ refusal_line line reason → SaysLine text w
    → RunSays extent Refused (Some bytes) w
said_refused extent bytes text w line reason e same says =
    (line, reason, e, subst (λ (x : List ℕ). SaysLine x w) same says)

pub said_at : (extent : Extent) (bytes text : List ℕ) (old written : Option (List ℕ)) (line reason f g : ℕ)
    → scenario_of bytes ≡ Err (line, reason) → text ≡ refusal_line line reason
    → IfSome old (λ before. SaysLine text (writing before written f g))
    → IfSome old (λ before. RunSays extent Refused (Some bytes) (writing before written f g))
said_at extent bytes text old written line reason f g e same says = map_some old (λ before. SaysLine text
    (writing before written f g)) (λ before. RunSays extent Refused (Some bytes) (writing before written f g))
    (λ before. said_refused extent bytes text (writing before written f g) line reason e same) says

said_beyond : (extent : Extent) (input : Option (List ℕ)) (text : List ℕ) (w : Writing) → IsLong SCENARIO_LIMIT input
    → text ≡ refusal_line 0 9 → SaysLine text w → RunSays extent Refused input w
said_beyond extent None text w long same says =
    (0, 9, tt, subst (λ (x : List ℕ). SaysLine x w) same says)
said_beyond extent (Some xs) text w long same says =
    said_refused extent xs text w 0 9 (too_long xs long) same says

pub said_long : (extent : Extent) (input left : Option (List ℕ)) (end : ReadEnd) (text : List ℕ)
    (old written : Option (List ℕ)) (f g : ℕ) → end ≡ TooLong → ReadsAll input left SCENARIO_LIMIT (Err end)
    → text ≡ refusal_line 0 9 → IfSome old (λ before. SaysLine text (writing before written f g))
    → IfSome old (λ before. RunSays extent Refused input (writing before written f g))
said_long extent input left end text old written f g e h same says = map_some old
    (λ before. SaysLine text (writing before written f g))
    (λ before. RunSays extent Refused input (writing before written f g)) (λ before. said_beyond extent input text
    (writing before written f g) (is_long SCENARIO_LIMIT input left end e h) same) says

-- ---- what is said of bytes is said of the input that they are

report_of_any : (extent : Extent) (bytes text : List ℕ) → IsReport extent (Some bytes) text → IsReport extent None text
report_of_any extent bytes text r = (r.0, r.1, tt, r.3, r.4)

of_input : (extent : Extent) (status : Status) (input : Option (List ℕ)) (bytes : List ℕ) (w : Writing)
    → IfSome input (λ xs. bytes ≡ xs) → RunSays extent status (Some bytes) w → RunSays extent status input w
of_input extent status (Some xs) bytes w same says = subst (λ (b : List ℕ). RunSays extent status (Some b) w) same says
of_input extent Done None bytes w same says = (says.0, report_of_any extent bytes says.0 says.1, says.2)
of_input extent Write None bytes w same says = (says.0, report_of_any extent bytes says.0 says.1, says.2)
of_input extent Broken None bytes w same says = elim says [ ]
of_input extent BadTrace None bytes w same says = elim says [ ]
of_input extent BadDump None bytes w same says = elim says [ ]
of_input extent Refused None bytes w same says = (says.0, says.1, tt, says.3)
of_input extent Words None bytes w same says = says
of_input extent Read None bytes w same says = says
of_input extent Memory None bytes w same says = says

all_of : (input left : Option (List ℕ)) (v : Vec ℕ Global) (bytes : List ℕ) → bytes ≡ v.items
    → ReadsAll input left SCENARIO_LIMIT (Ok v) → IfSome input (λ xs. bytes ≡ xs)
all_of None left v bytes same h = tt
all_of (Some xs) left v bytes same h = same ∙ h.0

pub said_of_all : (extent : Extent) (status : Status) (input left old written : Option (List ℕ))
    (v : Vec ℕ Global) (bytes : List ℕ) (f g : ℕ) → bytes ≡ v.items → ReadsAll input left SCENARIO_LIMIT (Ok v)
    → IfSome old (λ before. RunSays extent status (Some bytes) (writing before written f g))
    → IfSome old (λ before. RunSays extent status input (writing before written f g))
said_of_all extent status input left old written v bytes f g same h says = map_some old (λ before. RunSays extent status
    (Some bytes) (writing before written f g)) (λ before. RunSays extent status input (writing before written f g))
    (λ before. of_input extent status input bytes (writing before written f g) (all_of input left v bytes same h)) says
