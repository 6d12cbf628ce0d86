-- A text that was written to its end, or not.
use Rattle.std.proofs.Common.{ℕ, ◌≡◌, List, reverse, Option, Some, None, refl, sym, subst}
use Rattle.std.specs.Prelude.{Result, Ok, Err, IfSome}
use Rattle.bus_base.specs.declared.failures.Failed.{Failed}
use Rattle.bus_base.specs.Whole.{WritesAll}
use Rattle.bus_trace.specs.declared.rows.Row.{Row}
use Rattle.scenario.specs.Value.{ScenarioValue}
use Rattle.scenario.specs.Reading.{scenario_of}
use Rattle.run_record.specs.Value.{RunValue}
use Rattle.bus_engine.specs.Runs.{IsRunOf}
use Rattle.bus_transcript.specs.declared.item.Item.{Item}
use Rattle.bus_transcript.specs.Rows.{transcript_of}
use Rattle.bus_transcript.specs.Text.{transcript_text}
use Rattle.bus_cli.proofs.TooLong.{map_some}
use Rattle.bus_cli.specs.Lines.{Writing, writing}
use Rattle.bus_cli.specs.Texts.{SaysText, status_written}
use Rattle.bus_cli.specs.Transcripts.{text_of_rows}
use Rattle.bus_cli.specs.Running.{run_text, RunSays}
use Rattle.bus_cli.specs.declared.words.Extent.{Extent}
use Rattle.bus_cli.specs.declared.status.Status.{Status}
use Rattle.bus_cli.specs.declared.status.Status.TheVariants.{Done, Words, Refused, Read, Write, Memory, Broken}
use Rattle.bus_cli.specs.declared.status.Status.TheVariants.{BadTrace, BadDump}

says_of : (text : Result (Unit {0}) Failed) (old written : Option (List ℕ)) (bytes : List ℕ) (f g : ℕ)
    → WritesAll old written bytes text
    → IfSome old (λ before. SaysText (status_written text) bytes (writing before written f g))
says_of (Ok x) None written bytes f g all = tt
says_of (Ok x) (Some before) written bytes f g all = all
says_of (Err bad) None written bytes f g all = tt
says_of (Err bad) (Some before) written bytes f g all = all

says_written :
    (status : Status) (text : Result (Unit {0}) Failed) (old written : Option (List ℕ)) (bytes : List ℕ) (f g : ℕ)
    → status ≡ status_written text → WritesAll old written bytes text
    → IfSome old (λ before. SaysText status bytes (writing before written f g))
says_written status text old written bytes f g is all = subst
    (λ (a : Status). IfSome old (λ before. SaysText a bytes (writing before written f g))) (sym is)
    (says_of text old written bytes f g all)

pub says_transcript : (status : Status) (text : Result (Unit {0}) Failed) (old written : Option (List ℕ))
    (items : List Item) (rows : List Row) (f g : ℕ) → status ≡ status_written text
    → items ≡ transcript_of (reverse rows) → WritesAll old written (transcript_text items) text
    → IfSome old (λ before. SaysText status (text_of_rows rows) (writing before written f g))
says_transcript status text old written items rows f g is same all = says_written status text old written
    (text_of_rows rows) f g is
    (subst (λ (shown : List Item). WritesAll old written (transcript_text shown) text) same all)

-- ---- what is written of a run

says_run_by : (extent : Extent) (status : Status) (bytes : List ℕ) (s : ScenarioValue) (run : RunValue) (w : Writing)
    → scenario_of bytes ≡ Ok s → IsRunOf s run → SaysText status (run_text extent s run) w
    → RunSays extent status (Some bytes) w
says_run_by extent Done bytes s run w is made says = (run_text extent s run, (s, run, is, made, refl), says)
says_run_by extent Write bytes s run w is made says = (run_text extent s run, (s, run, is, made, refl), says)
says_run_by extent Memory bytes s run w is made says = says
says_run_by extent Words bytes s run w is made says = elim says [ ]
says_run_by extent Refused bytes s run w is made says = elim says [ ]
says_run_by extent Read bytes s run w is made says = elim says [ ]
says_run_by extent Broken bytes s run w is made says = elim says [ ]
says_run_by extent BadTrace bytes s run w is made says = elim says [ ]
says_run_by extent BadDump bytes s run w is made says = elim says [ ]

pub says_run : (extent : Extent) (status : Status) (bytes : List ℕ) (s : ScenarioValue) (run : RunValue)
    (old written : Option (List ℕ)) (f g : ℕ) → scenario_of bytes ≡ Ok s → IsRunOf s run
    → IfSome old (λ before. SaysText status (run_text extent s run) (writing before written f g))
    → IfSome old (λ before. RunSays extent status (Some bytes) (writing before written f g))
says_run extent status bytes s run old written f g is made says = map_some old
    (λ before. SaysText status (run_text extent s run) (writing before written f g))
    (λ before. RunSays extent status (Some bytes) (writing before written f g))
    (λ before. says_run_by extent status bytes s run (writing before written f g) is made) says
