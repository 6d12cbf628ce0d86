use Rattle.std.proofs.Common.{◌≤◌, ap, sym, ◌∙◌, arith}
use Rattle.bus_trace.specs.View.{View, time_by_number}
use Rattle.bus_trace.proofs.Views.{other_time, time_of_line_is}
use Rattle.bus_trace.proofs.line_view.LineView.since.Goals as goal

pub returns-clause-trace : goal.returns-clause-trace
returns-clause-trace c = λ rows v.
    let line = c.args.line in
    let high : 9 ≤ line = omega arith in
    let is = c.by_number.ensures.value ∙ ap (λ (x : View). time_by_number x.times line) c.self.view_is in
    is ∙ (sym (other_time c.args.self.now line high) ∙ time_of_line_is rows c.args.self.now v line (omega arith))
