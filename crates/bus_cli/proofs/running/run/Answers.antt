-- What is said of the bytes that were read is said of the input; more bytes than the limit are refused.
use Rattle.std.proofs.Common.{◌∙◌}
use Rattle.bus_cli.proofs.Refusals.{said_of_all, refused_long, said_long}
use Rattle.bus_cli.proofs.running.run.Goals as goal

pub returns-in-Ok-clause-said : goal.returns-in-Ok-clause-said
returns-in-Ok-clause-said g c = said_of_all c.args.extent _ _ _ _ _ c.in-Ok.bytes _ _ _ c.deref.ensures.value
    c.in-Ok.ensures.whole c.run_bytes.ensures.said

pub returns-in-Err-TooLong-clause-form : goal.returns-in-Err-TooLong-clause-form
returns-in-Err-TooLong-clause-form g c = refused_long _ _ _ c.in-Err-TooLong.field-0-is c.in-Err-TooLong.ensures.whole

pub returns-in-Err-TooLong-clause-said : goal.returns-in-Err-TooLong-clause-said
returns-in-Err-TooLong-clause-said g c =
    said_long c.args.extent _ _ _ _ _ _ _ _ c.in-Err-TooLong.field-0-is c.in-Err-TooLong.ensures.whole
    (c.as_bytes.ensures.value ∙ c.as_str.ensures.value ∙ c.refusal_line.ensures) c.say.ensures.said
