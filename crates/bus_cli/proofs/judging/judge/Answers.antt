-- More bytes than the limit are no trace text.
use Rattle.std.proofs.Common.{◌∙◌}
use Rattle.bus_cli.proofs.Judged.{long_of, told_long, said_long}
use Rattle.bus_cli.proofs.judging.judge.Goals as goal

pub returns-in-Err-TooLong-clause-form : goal.returns-in-Err-TooLong-clause-form
returns-in-Err-TooLong-clause-form g c =
    told_long _ (long_of _ _ _ c.in-Err-TooLong.field-0-is c.in-Err-TooLong.ensures.whole)

pub returns-in-Err-TooLong-clause-said : goal.returns-in-Err-TooLong-clause-said
returns-in-Err-TooLong-clause-said g c = said_long _ _ _ _ _ _
    (long_of _ _ _ c.in-Err-TooLong.field-0-is c.in-Err-TooLong.ensures.whole)
    (c.as_bytes.ensures.value ∙ c.as_str.ensures.value ∙ c.trace_line.ensures) c.say.ensures.said
