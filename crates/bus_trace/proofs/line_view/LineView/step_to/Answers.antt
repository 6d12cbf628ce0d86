use Rattle.std.proofs.Common.{suc, subst, sym, ap, ◌∙◌, arith}
use Rattle.bus_trace.specs.LineSet.{LineSet}
use Rattle.bus_trace.specs.View.{View, driven_at, IsUpTo}
use Rattle.bus_trace.specs.Trace.{IsViewOf, driven_after}
use Rattle.bus_trace.proofs.Views.{IsViewOf-step, AreBefore-step, time_of_line-step}
use Rattle.bus_trace.proofs.line_view.LineView.step_to.Goals as goal

pub returns-clause-trace : goal.returns-clause-trace
returns-clause-trace c = λ rows v now.
    let row = c.args.row.now in
    let v' = subst (λ (x : View). IsViewOf rows x) (sym c.self.view_is) v in
    let before = c.drives.ensures.value ∙ ap (λ (x : View). driven_at x.driven row.dev) (sym c.self.view_is) in
    let lines = c.driven_after-driven.ensures ∙ ap (λ (x : LineSet). driven_after row.kind x) before in
    IsViewOf-step row rows _ v' c.requires _ lines _ now _ c.renew.ensures _ c.renewed-self-inside.ensures _
    c.step.ensures.exact

pub returns-clause-up_to : goal.returns-clause-up_to
returns-clause-up_to c = λ u.
    let time = c.args.row.now.time in
    let u' = subst (λ (x : View). IsUpTo time x) (sym c.self.view_is) u in
    AreBefore-step (suc time) time _ u' (omega arith) _ _ _ c.renew.ensures _ c.renewed-self-inside.ensures _
    (c.step.ensures.timely (suc time) u'.times (omega arith))

pub returns-clause-lines : goal.returns-clause-lines
returns-clause-lines c = λ line lt h.
    let new : View = record {
      driven = c.self.inside.driven;
      present = c.args.after;
      data_lines = c.renew.new.data_lines;
      data_changed = c.renewed-self-inside.result;
      times = c.step.new.self;
      last = c.args.row.now.time;
    } in
    time_of_line-step c.args.row.now.time _ _ c.self.view_is new c.renew.ensures c.step.ensures.exact line lt h
