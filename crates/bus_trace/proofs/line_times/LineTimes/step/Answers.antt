use Rattle.std.proofs.Common.{◌∙◌, sym}
use Rattle.bus_trace.proofs.Views.{times_kept}
use Rattle.bus_trace.proofs.line_times.LineTimes.step.Goals as goal

pub returns-then-same_stage-clause-exact : goal.returns-then-same_stage-clause-exact
returns-then-same_stage-clause-exact c = c.transfer.ensures.exact
    ∙ times_kept c.args.self.now c.args.before c.args.after c.args.time
    (sym c.same_stage.ensures ∙ c.if-same_stage.true)
