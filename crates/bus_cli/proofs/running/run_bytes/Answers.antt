-- The line of a refusal tells of the first line with a reason; what is written is of the run of the bytes.
use Rattle.std.proofs.Common.{◌∙◌}
use Rattle.bus_cli.specs.Lines.{refusal_line}
use Rattle.bus_cli.proofs.Refusals.{refused_at, said_at}
use Rattle.bus_cli.proofs.Written.{says_run}
use Rattle.bus_cli.proofs.running.run_bytes.Goals as goal

pub returns-in-Err-At-clause-said : goal.returns-in-Err-At-clause-said
returns-in-Err-At-clause-said g c = said_at c.args.extent _ _ _ _ _ _ _ _
    (refused_at _ _ _ _ c.in-Err-At.field-0-is c.in-Err-At.ensures.exact)
    (c.as_bytes.ensures.value ∙ c.as_str.ensures.value ∙ c.refusal_line.ensures
    ∙ (λ j. refusal_line (c.in-Err-At.line-is j) (c.in-Err-At.reason-is j))) c.say.ensures.said

pub returns-clause-said : goal.returns-clause-said
returns-clause-said g c = says_run c.args.extent c.write_run.result c.args.bytes.now c.in-Ok.scenario c.in-Ok-run.run'
    (g.K.Sink.written c.args.out.now) (g.K.Sink.written c.write_run.new.out) (g.K.Sink.faults c.args.out.now)
    (g.K.Sink.faults c.write_run.new.out) c.in-Ok.ensures.exact c.in-Ok-run.ensures.exact c.write_run.ensures.said
