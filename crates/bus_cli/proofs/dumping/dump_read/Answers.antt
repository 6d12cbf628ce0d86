use Rattle.std.proofs.Common.{◌∙◌, ap}
use Rattle.trace_text.specs.Whole.{trace_told}
use Rattle.bus_cli.specs.Lines.{trace_line}
use Rattle.bus_cli.proofs.Dumped.{told_of, said_of, told_bad, said_bad, read_as}
use Rattle.bus_cli.proofs.dumping.dump_read.Goals as goal

pub returns-in-Ok-clause-form : goal.returns-in-Ok-clause-form
returns-in-Ok-clause-form g c =
    λ bytes is. told_of c.dump.result bytes _ _ (is ∙ ap trace_told c.in-Ok.is) c.dump.ensures.form

pub returns-in-Ok-clause-said : goal.returns-in-Ok-clause-said
returns-in-Ok-clause-said g c = λ input is. said_of c.dump.result input _ _ _ _ _ _
    (read_as input _ _ (ap trace_told c.in-Ok.is) is) c.dump.ensures.form c.dump.ensures.said

pub returns-in-Err-clause-form : goal.returns-in-Err-clause-form
returns-in-Err-clause-form g c = λ bytes is. told_bad bytes _ (is ∙ ap trace_told c.in-Err.is)

pub returns-in-Err-clause-said : goal.returns-in-Err-clause-said
returns-in-Err-clause-said g c = λ input is. said_bad input _ c.in-Err.line _ _ _ _
    (read_as input _ _ (ap trace_told c.in-Err.is) is)
    (c.as_bytes.ensures.value ∙ c.as_str.ensures.value ∙ c.trace_line.ensures) c.say.ensures.said
