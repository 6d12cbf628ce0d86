-- What the word `transcript` says of the bytes that were read.
use Rattle.std.proofs.Common.{ℕ, ◌≡◌, List, [], Option, Some, None, Result, Ok, Err, reverse, refl, sym, ap, subst, ◌∙◌}
use Rattle.std.specs.Prelude.{IfSome}
use Rattle.trace_text.specs.declared.limit.TheConstants.{LIMIT as TRACE_LIMIT}
use Rattle.bus_trace.specs.declared.rows.Row.{Row}
use Rattle.bus_rules.specs.declared.verdict.Verdict.{Verdict}
use Rattle.bus_rules.specs.declared.verdict.Verdict.TheVariants.{Lawful}
use Rattle.bus_rules.specs.Rules.{judged_whole}
use Rattle.trace_text.specs.Whole.{trace_of}
use Rattle.bus_cli.specs.Lines.{Writing, writing, SaysLine, trace_line}
use Rattle.bus_cli.specs.Judging.{verdict_of}
use Rattle.bus_cli.specs.Vcd.{VcdTells}
use Rattle.bus_cli.specs.Texts.{SaysText, TellsText}
use Rattle.bus_cli.specs.Transcripts.{text_of_rows, SaysTranscript, TranscriptSays, TellsTrace}
use Rattle.bus_cli.specs.declared.status.Status.{Status}
use Rattle.bus_cli.specs.declared.status.Status.TheVariants.{Done, Words, Refused, Read, Write, Memory, Broken}
use Rattle.bus_cli.specs.declared.status.Status.TheVariants.{BadTrace, BadDump}
use Rattle.bus_cli.proofs.TooLong.{map_some, IsLong}
use Rattle.bus_cli.proofs.Judged.{too_long}
use Rattle.bus_cli.proofs.Dumped.{verdict_is, told_of}

-- ---- a lawful trace

pub told_lawful : (status : Status) (verdict : Result Verdict ℕ) → Ok Lawful ≡ verdict → TellsText status
    → TellsTrace status verdict
told_lawful Done verdict is tells = sym is
told_lawful Write verdict is tells = sym is
told_lawful Memory verdict is tells = tt
told_lawful Words verdict is tells = elim tells [ ]
told_lawful Refused verdict is tells = elim tells [ ]
told_lawful Read verdict is tells = elim tells [ ]
told_lawful Broken verdict is tells = elim tells [ ]
told_lawful BadTrace verdict is tells = elim tells [ ]
told_lawful BadDump verdict is tells = elim tells [ ]

says_lawful : (status : Status) (rows : List Row) (end : ℕ) (w : Writing) → SaysText status (text_of_rows rows) w
    → SaysTranscript status rows end w
says_lawful Done rows end w says = says
says_lawful Write rows end w says = says
says_lawful Memory rows end w says = says
says_lawful Words rows end w says = elim says [ ]
says_lawful Refused rows end w says = elim says [ ]
says_lawful Read rows end w says = elim says [ ]
says_lawful Broken rows end w says = elim says [ ]
says_lawful BadTrace rows end w says = elim says [ ]
says_lawful BadDump rows end w says = elim says [ ]

pub said_lawful : (status : Status) (rows : List Row) (end : ℕ) (old written : Option (List ℕ)) (f g : ℕ)
    → IfSome old (λ before. SaysText status (text_of_rows rows) (writing before written f g))
    → IfSome old (λ before. SaysTranscript status rows end (writing before written f g))
said_lawful status rows end old written f g says = map_some old (λ before. SaysText status (text_of_rows rows)
    (writing before written f g)) (λ before. SaysTranscript status rows end (writing before written f g))
    (λ before. says_lawful status rows end (writing before written f g)) says

-- ---- a trace that was read

pub told_trace : (status : Status) (bytes : List ℕ) (rows : List Row) (end : ℕ) → trace_of bytes ≡ Ok (rows, end)
    → TellsTrace status (Ok (judged_whole (reverse rows) end)) → VcdTells status bytes
told_trace Done bytes rows end is tells = told_of Done bytes rows end is tells
told_trace Words bytes rows end is tells = tt
told_trace Refused bytes rows end is tells = elim tells [ ]
told_trace Read bytes rows end is tells = tt
told_trace Write bytes rows end is tells = told_of Write bytes rows end is tells
told_trace Memory bytes rows end is tells = tt
told_trace Broken bytes rows end is tells = told_of Broken bytes rows end is tells
told_trace BadTrace bytes rows end is tells = told_of BadTrace bytes rows end is tells
told_trace BadDump bytes rows end is tells = elim tells [ ]

says_of : (status : Status) (bytes : List ℕ) (rows : List Row) (end : ℕ) (w : Writing) → trace_of bytes ≡ Ok (rows, end)
    → TellsTrace status (Ok (judged_whole (reverse rows) end)) → SaysTranscript status rows end w
    → TranscriptSays status (Some bytes) w
says_of Done bytes rows end w is tells says =
    (text_of_rows rows, (rows, end, (is, sym (verdict_is bytes rows end is) ∙ tells), refl), says)
says_of Write bytes rows end w is tells says =
    (text_of_rows rows, (rows, end, (is, sym (verdict_is bytes rows end is) ∙ tells), refl), says)
says_of Broken bytes rows end w is tells says = (
  says.0,
  says.1,
  sym (verdict_is bytes rows end is) ∙ ap (λ (v : Verdict). let r : Result Verdict ℕ = Ok v in r) says.2,
  says.3,
)
says_of Memory bytes rows end w is tells says = says
says_of Words bytes rows end w is tells says = elim says [ ]
says_of Refused bytes rows end w is tells says = elim says [ ]
says_of Read bytes rows end w is tells says = elim says [ ]
says_of BadTrace bytes rows end w is tells says = elim says [ ]
says_of BadDump bytes rows end w is tells says = elim says [ ]

-- of any trace, where nothing is told of the bytes
says_any : (status : Status) (rows : List Row) (end : ℕ) (w : Writing) → SaysTranscript status rows end w
    → TranscriptSays status None w
says_any Done rows end w says = (text_of_rows rows, (rows, refl), says)
says_any Write rows end w says = (text_of_rows rows, (rows, refl), says)
says_any Broken rows end w says = (says.0, says.1, tt, says.3)
says_any Memory rows end w says = says
says_any Words rows end w says = elim says [ ]
says_any Refused rows end w says = elim says [ ]
says_any Read rows end w says = elim says [ ]
says_any BadTrace rows end w says = elim says [ ]
says_any BadDump rows end w says = elim says [ ]

says_input : (status : Status) (input : Option (List ℕ)) (rows : List Row) (end : ℕ) (w : Writing)
    → IfSome input (λ bytes. trace_of bytes ≡ Ok (rows, end)) → TellsTrace status (Ok (judged_whole (reverse rows) end))
    → SaysTranscript status rows end w → TranscriptSays status input w
says_input status None rows end w is tells says = says_any status rows end w says
says_input status (Some bytes) rows end w is tells says = says_of status bytes rows end w is tells says

pub said_of :
    (status : Status) (input : Option (List ℕ)) (rows : List Row) (end : ℕ) (old written : Option (List ℕ)) (f g : ℕ)
    → IfSome input (λ bytes. trace_of bytes ≡ Ok (rows, end)) → TellsTrace status (Ok (judged_whole (reverse rows) end))
    → IfSome old (λ before. SaysTranscript status rows end (writing before written f g))
    → IfSome old (λ before. TranscriptSays status input (writing before written f g))
said_of status input rows end old written f g is tells says = map_some old (λ before. SaysTranscript status rows end
    (writing before written f g)) (λ before. TranscriptSays status input (writing before written f g))
    (λ before. says_input status input rows end (writing before written f g) is tells) says

-- ---- a line that breaks the form

says_bad : (input : Option (List ℕ)) (text : List ℕ) (line : ℕ) (w : Writing)
    → IfSome input (λ bytes. trace_of bytes ≡ Err line) → text ≡ trace_line line → SaysLine text w
    → TranscriptSays BadTrace input w
says_bad None text line w is same says = (line, tt, subst (λ (x : List ℕ). SaysLine x w) same says)
says_bad (Some bytes) text line w is same says =
    (line, ap verdict_of is, subst (λ (x : List ℕ). SaysLine x w) same says)

pub said_bad : (input : Option (List ℕ)) (text : List ℕ) (line : ℕ) (old written : Option (List ℕ)) (f g : ℕ)
    → IfSome input (λ bytes. trace_of bytes ≡ Err line) → text ≡ trace_line line
    → IfSome old (λ before. SaysLine text (writing before written f g))
    → IfSome old (λ before. TranscriptSays BadTrace input (writing before written f g))
said_bad input text line old written f g is same says =
    map_some old (λ before. SaysLine text (writing before written f g)) (λ before. TranscriptSays BadTrace input
    (writing before written f g)) (λ before. says_bad input text line (writing before written f g) is same) says

-- ---- more bytes than the limit

said_beyond : (input : Option (List ℕ)) (text : List ℕ) (w : Writing) → IsLong TRACE_LIMIT input → text ≡ trace_line 0
    → SaysLine text w → TranscriptSays BadTrace input w
said_beyond None text w long same says = (0, tt, subst (λ (x : List ℕ). SaysLine x w) same says)
said_beyond (Some xs) text w long same says = (0, too_long xs long, subst (λ (x : List ℕ). SaysLine x w) same says)

pub said_long : (input : Option (List ℕ)) (text : List ℕ) (old written : Option (List ℕ)) (f g : ℕ)
    → IsLong TRACE_LIMIT input → text ≡ trace_line 0 → IfSome old (λ before. SaysLine text (writing before written f g))
    → IfSome old (λ before. TranscriptSays BadTrace input (writing before written f g))
said_long input text old written f g long same says =
    map_some old (λ before. SaysLine text (writing before written f g)) (λ before. TranscriptSays BadTrace input
    (writing before written f g)) (λ before. said_beyond input text (writing before written f g) long same) says
