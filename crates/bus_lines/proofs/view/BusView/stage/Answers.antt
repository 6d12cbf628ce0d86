use Rattle.std.proofs.Common.{◌∙◌, sym, ap, subst, Option}
use Rattle.bus_trace.specs.declared.selection.Call.{Call}
use Rattle.bus_lines.specs.BusView.{BusViewValue}
use Rattle.bus_lines.specs.Timely.{IsCallBefore}
use Rattle.bus_lines.proofs.view.BusView.stage.Goals as goal

pub returns-in-Some-call-clause-timely : goal.returns-in-Some-call-clause-timely
returns-in-Some-call-clause-timely c =
    λ end h. c.call_stage.ensures.timely end (subst (λ (x : Option Call). IsCallBefore end x)
    (sym (ap (λ (v : BusViewValue). v.call) c.self.view_is) ∙ c.in-Some-call.is) h.call)
