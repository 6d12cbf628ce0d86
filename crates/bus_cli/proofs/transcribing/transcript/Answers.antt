use Rattle.std.proofs.Common.{◌≡◌, ◌∙◌}
use Rattle.trace_text.specs.Whole.{trace_of, trace_told}
use Rattle.bus_cli.specs.Vcd.{VcdTells}
use Rattle.bus_cli.proofs.Dumped.{told_long}
use Rattle.bus_cli.proofs.Transcribed.{said_long}
use Rattle.bus_cli.proofs.KeptRead.{kept_is, long_of}
use Rattle.bus_cli.proofs.TooLong.{map_some}
use Rattle.bus_cli.proofs.transcribing.transcript.Goals as goal

pub returns-in-Ok-clause-form : goal.returns-in-Ok-clause-form
returns-in-Ok-clause-form g c = map_some _ (λ bytes. trace_of bytes ≡ trace_told c.in-Ok.read)
    (λ bytes. VcdTells c.transcribe_read.result bytes) c.transcribe_read.ensures.form
    (kept_is _ _ c.in-Ok.read c.in-Ok.ensures.whole)

pub returns-in-Ok-clause-said : goal.returns-in-Ok-clause-said
returns-in-Ok-clause-said g c =
    c.transcribe_read.ensures.said (g.S.Source.left c.args.input.now) (kept_is _ _ c.in-Ok.read c.in-Ok.ensures.whole)

pub returns-in-Err-TooLong-clause-form : goal.returns-in-Err-TooLong-clause-form
returns-in-Err-TooLong-clause-form g c =
    told_long _ (long_of _ _ _ c.in-Err-TooLong.field-0-is c.in-Err-TooLong.ensures.whole)

pub returns-in-Err-TooLong-clause-said : goal.returns-in-Err-TooLong-clause-said
returns-in-Err-TooLong-clause-said g c = said_long _ _ _ _ _ _
    (long_of _ _ _ c.in-Err-TooLong.field-0-is c.in-Err-TooLong.ensures.whole)
    (c.as_bytes.ensures.value ∙ c.as_str.ensures.value ∙ c.trace_line.ensures) c.say.ensures.said
