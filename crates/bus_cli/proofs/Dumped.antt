-- What the word `vcd` says of the bytes that were read.
use Rattle.std.proofs.Common.{ℕ, ◌≡◌, ◌<◌, List, Option, Some, None, Result, Ok, Err, length, reverse, refl, sym, ap}
use Rattle.std.proofs.Common.{subst, ◌∙◌}
use Rattle.std.specs.Prelude.{IfSome}
use Rattle.trace_text.specs.declared.limit.TheConstants.{LIMIT as TRACE_LIMIT}
use Rattle.bus_trace.specs.declared.rows.Row.{Row}
use Rattle.bus_rules.specs.declared.verdict.Verdict.{Verdict}
use Rattle.bus_rules.specs.Rules.{judged_whole}
use Rattle.trace_text.specs.Whole.{trace_of}
use Rattle.vcd_text.specs.DumpText.{dump_text}
use Rattle.bus_cli.specs.Lines.{Writing, writing, SaysLine, trace_line}
use Rattle.bus_cli.specs.Judging.{verdict_of, verdict_on, TellsVerdict}
use Rattle.bus_cli.specs.Vcd.{SaysTrace, VcdSays, VcdTells}
use Rattle.bus_cli.specs.declared.status.Status.{Status}
use Rattle.bus_cli.specs.declared.status.Status.TheVariants.{Done, Words, Refused, Read, Write, Memory, Broken}
use Rattle.bus_cli.specs.declared.status.Status.TheVariants.{BadTrace, BadDump}
use Rattle.bus_cli.proofs.TooLong.{map_some, IsLong}
use Rattle.bus_cli.proofs.Judged.{too_long}

-- ---- a trace that was read

pub verdict_is : (bytes : List ℕ) (rows : List Row) (end : ℕ) → trace_of bytes ≡ Ok (rows, end)
    → Ok (judged_whole (reverse rows) end) ≡ verdict_on bytes
verdict_is bytes rows end is = sym (ap verdict_of is)

with_memory : (status : Status) (bytes : List ℕ) → TellsVerdict status (verdict_on bytes) → VcdTells status bytes
with_memory Done bytes h = h
with_memory Words bytes h = h
with_memory Refused bytes h = h
with_memory Read bytes h = h
with_memory Write bytes h = h
with_memory Memory bytes h = tt
with_memory Broken bytes h = h
with_memory BadTrace bytes h = h
with_memory BadDump bytes h = h

pub told_of : (status : Status) (bytes : List ℕ) (rows : List Row) (end : ℕ) → trace_of bytes ≡ Ok (rows, end)
    → TellsVerdict status (Ok (judged_whole (reverse rows) end)) → VcdTells status bytes
told_of status bytes rows end is tells = with_memory status bytes
    (subst (λ (v : Result Verdict ℕ). TellsVerdict status v) (verdict_is bytes rows end is) tells)

says_of : (status : Status) (bytes : List ℕ) (rows : List Row) (end : ℕ) (w : Writing) → trace_of bytes ≡ Ok (rows, end)
    → TellsVerdict status (Ok (judged_whole (reverse rows) end)) → SaysTrace status rows end w
    → VcdSays status (Some bytes) w
says_of Done bytes rows end w is tells says =
    (dump_text rows end, (rows, end, (is, sym (verdict_is bytes rows end is) ∙ tells), refl), says)
says_of Write bytes rows end w is tells says =
    (dump_text rows end, (rows, end, (is, sym (verdict_is bytes rows end is) ∙ tells), refl), says)
says_of Broken bytes rows end w is tells says = (
  says.0,
  says.1,
  sym (verdict_is bytes rows end is) ∙ ap (λ (v : Verdict). let r : Result Verdict ℕ = Ok v in r) says.2,
  says.3,
)
says_of Words bytes rows end w is tells says = elim says [ ]
says_of Refused bytes rows end w is tells says = elim says [ ]
says_of Read bytes rows end w is tells says = elim says [ ]
says_of Memory bytes rows end w is tells says = elim says [ ]
says_of BadTrace bytes rows end w is tells says = elim says [ ]
says_of BadDump bytes rows end w is tells says = elim says [ ]

-- of any trace, where nothing is told of the bytes
says_any : (status : Status) (rows : List Row) (end : ℕ) (w : Writing) → SaysTrace status rows end w
    → VcdSays status None w
says_any Done rows end w says = (dump_text rows end, (rows, end, refl), says)
says_any Write rows end w says = (dump_text rows end, (rows, end, refl), says)
says_any Broken rows end w says = (says.0, says.1, tt, says.3)
says_any Words rows end w says = elim says [ ]
says_any Refused rows end w says = elim says [ ]
says_any Read rows end w says = elim says [ ]
says_any Memory rows end w says = elim says [ ]
says_any BadTrace rows end w says = elim says [ ]
says_any BadDump rows end w says = elim says [ ]

says_input : (status : Status) (input : Option (List ℕ)) (rows : List Row) (end : ℕ) (w : Writing)
    → IfSome input (λ bytes. trace_of bytes ≡ Ok (rows, end))
    → TellsVerdict status (Ok (judged_whole (reverse rows) end)) → SaysTrace status rows end w → VcdSays status input w
says_input status None rows end w is tells says = says_any status rows end w says
says_input status (Some bytes) rows end w is tells says = says_of status bytes rows end w is tells says

pub said_of :
    (status : Status) (input : Option (List ℕ)) (rows : List Row) (end : ℕ) (old written : Option (List ℕ)) (f g : ℕ)
    → IfSome input (λ bytes. trace_of bytes ≡ Ok (rows, end))
    → TellsVerdict status (Ok (judged_whole (reverse rows) end))
    → IfSome old (λ before. SaysTrace status rows end (writing before written f g))
    → IfSome old (λ before. VcdSays status input (writing before written f g))
said_of status input rows end old written f g is tells says = map_some old (λ before. SaysTrace status rows end
    (writing before written f g)) (λ before. VcdSays status input (writing before written f g))
    (λ before. says_input status input rows end (writing before written f g) is tells) says

-- ---- a line that breaks the form

says_bad : (input : Option (List ℕ)) (text : List ℕ) (line : ℕ) (w : Writing)
    → IfSome input (λ bytes. trace_of bytes ≡ Err line) → text ≡ trace_line line → SaysLine text w
    → VcdSays BadTrace input w
says_bad None text line w is same says = (line, tt, subst (λ (x : List ℕ). SaysLine x w) same says)
says_bad (Some bytes) text line w is same says =
    (line, ap verdict_of is, subst (λ (x : List ℕ). SaysLine x w) same says)

pub said_bad : (input : Option (List ℕ)) (text : List ℕ) (line : ℕ) (old written : Option (List ℕ)) (f g : ℕ)
    → IfSome input (λ bytes. trace_of bytes ≡ Err line) → text ≡ trace_line line
    → IfSome old (λ before. SaysLine text (writing before written f g))
    → IfSome old (λ before. VcdSays BadTrace input (writing before written f g))
said_bad input text line old written f g is same says =
    map_some old (λ before. SaysLine text (writing before written f g)) (λ before. VcdSays BadTrace input
    (writing before written f g)) (λ before. says_bad input text line (writing before written f g) is same) says

pub told_bad : (bytes : List ℕ) (line : ℕ) → trace_of bytes ≡ Err line → VcdTells BadTrace bytes
told_bad bytes line is = (line, ap verdict_of is)

-- what was read is this trace, or has this line
pub read_as : (input : Option (List ℕ)) (one other : Result (List Row × ℕ) ℕ) → one ≡ other
    → IfSome input (λ bytes. trace_of bytes ≡ one) → IfSome input (λ bytes. trace_of bytes ≡ other)
read_as input one other same is =
    map_some input (λ bytes. trace_of bytes ≡ one) (λ bytes. trace_of bytes ≡ other) (λ bytes e. e ∙ same) is

-- ---- more bytes than the limit

pub told_long : (input : Option (List ℕ)) → IsLong TRACE_LIMIT input → IfSome input (λ xs. VcdTells BadTrace xs)
told_long input long =
    map_some input (λ xs. TRACE_LIMIT < length xs) (λ xs. VcdTells BadTrace xs) (λ xs l. (0, too_long xs l)) long

said_beyond : (input : Option (List ℕ)) (text : List ℕ) (w : Writing) → IsLong TRACE_LIMIT input → text ≡ trace_line 0
    → SaysLine text w → VcdSays BadTrace input w
said_beyond None text w long same says = (0, tt, subst (λ (x : List ℕ). SaysLine x w) same says)
said_beyond (Some xs) text w long same says = (0, too_long xs long, subst (λ (x : List ℕ). SaysLine x w) same says)

pub said_long : (input : Option (List ℕ)) (text : List ℕ) (old written : Option (List ℕ)) (f g : ℕ)
    → IsLong TRACE_LIMIT input → text ≡ trace_line 0 → IfSome old (λ before. SaysLine text (writing before written f g))
    → IfSome old (λ before. VcdSays BadTrace input (writing before written f g))
said_long input text old written f g long same says =
    map_some old (λ before. SaysLine text (writing before written f g)) (λ before. VcdSays BadTrace input
    (writing before written f g)) (λ before. said_beyond input text (writing before written f g) long same) says
