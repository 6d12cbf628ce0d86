use Rattle.std.proofs.Common.{◌∙◌, ap}
use Rattle.bus_cli.specs.Lines.{dump_line}
use Rattle.bus_cli.proofs.Undumped.{bad_at, said_bad}
use Rattle.bus_cli.proofs.undumping.answer.Goals as goal

pub returns-in-Err-At-clause-said : goal.returns-in-Err-At-clause-said
returns-in-Err-At-clause-said g c =
    said_bad _ _ _ _ _ _ _ (bad_at _ _ _ c.in-Err-At.field-0-is c.in-Err-At.ensures.exact) (c.as_bytes.ensures.value
    ∙ c.as_str.ensures.value ∙ c.dump_line.ensures ∙ ap dump_line c.in-Err-At.line-is) c.say.ensures.said
