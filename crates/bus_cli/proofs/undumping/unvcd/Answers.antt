use Rattle.std.proofs.Common.{◌∙◌}
use Rattle.bus_cli.proofs.Undumped.{told_of_all, said_of_all, long_of, told_long, said_long}
use Rattle.bus_cli.proofs.undumping.unvcd.Goals as goal

pub returns-in-Ok-clause-form : goal.returns-in-Ok-clause-form
returns-in-Ok-clause-form g c =
    told_of_all _ _ (g.S.Source.left c.take_dump.new.input) c.in-Ok.reader c.in-Ok.ensures.whole c.answer.ensures.form

pub returns-in-Ok-clause-said : goal.returns-in-Ok-clause-said
returns-in-Ok-clause-said g c = said_of_all _ _
    (g.S.Source.left c.take_dump.new.input) c.in-Ok.reader _ _ _ _ c.in-Ok.ensures.whole c.answer.ensures.said

pub returns-in-Err-TooLong-clause-form : goal.returns-in-Err-TooLong-clause-form
returns-in-Err-TooLong-clause-form g c =
    told_long _ (long_of _ _ _ c.in-Err-TooLong.field-0-is c.in-Err-TooLong.ensures.whole)

pub returns-in-Err-TooLong-clause-said : goal.returns-in-Err-TooLong-clause-said
returns-in-Err-TooLong-clause-said g c = said_long _ _ _ _ _ _
    (long_of _ _ _ c.in-Err-TooLong.field-0-is c.in-Err-TooLong.ensures.whole)
    (c.as_bytes.ensures.value ∙ c.as_str.ensures.value ∙ c.dump_line.ensures) c.say.ensures.said
