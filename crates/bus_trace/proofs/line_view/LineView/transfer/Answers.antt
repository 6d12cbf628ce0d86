use Rattle.std.proofs.Common.{ap, subst, sym, ◌∙◌}
use Rattle.bus_trace.specs.LineSet.{LineSet}
use Rattle.bus_trace.specs.View.{View}
use Rattle.bus_trace.specs.Changes.{same_stage}
use Rattle.bus_trace.specs.Trace.{IsViewOf, driven_after, times_after_transfer}
use Rattle.bus_trace.proofs.Views.{IsViewOf-step, times_kept}
use Rattle.bus_trace.proofs.line_view.LineView.transfer.Goals as goal

pub returns-clause-trace : goal.returns-clause-trace
returns-clause-trace c = λ rows v stage next now.
    let row = c.args.row.now in
    let w = subst (λ (x : View). IsViewOf rows x) (sym c.self.view_is) v in
    let lines = next ∙ ap (λ (x : LineSet). driven_after row.kind x) (sym (w.drives_are row.dev c.requires)) in
    let same = (λ i. same_stage (c.self.view_is i).present c.args.after) ∙ stage in
    let times = c.transfer.ensures.exact
    ∙ times_kept c.self.inside.times c.self.inside.present c.args.after row.time same in
    IsViewOf-step row rows _ w c.requires _ lines _ now _ c.renew.ensures _ c.renewed-self-inside.ensures _ times

pub returns-clause-times : goal.returns-clause-times
returns-clause-times c = c.transfer.ensures.exact
    ∙ ap (λ (x : View). times_after_transfer x.times x.present c.args.after c.args.row.now.time) c.self.view_is
