use Rattle.std.proofs.Common.{refl, ap, ◌∙◌}
use Rattle.bus_trace.specs.LineSet.{LineSet}
use Rattle.bus_trace.specs.Trace.{driven_after}
use Rattle.bus_trace.proofs.line_view.LineView.step.Goals as goal

pub returns-clause-trace : goal.returns-clause-trace
returns-clause-trace c = λ rows v.
    let row = c.args.row.now in
    let lines = c.driven_after-driven.ensures
    ∙ ap (λ (x : LineSet). driven_after row.kind x) (c.drives.ensures.trace rows v) in
    c.step_to.ensures.trace rows v (c.bus_with-after.ensures rows row v refl lines)
