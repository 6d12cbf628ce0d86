use Rattle.std.proofs.Common.{refl, ap, ◌∙◌}
use Rattle.bus_trace.specs.LineSet.{LineSet}
use Rattle.bus_trace.specs.Trace.{driven_after}
use Rattle.bus_lines.proofs.Stands.{changes}
use Rattle.bus_lines.proofs.view.change_by.Goals as goal

pub returns : goal.returns
returns c = λ rows v.
    let row = c.args.row.now in
    let own = c.drives-own.ensures.trace rows v in
    let next = c.driven_after-next.ensures ∙ ap (λ (x : LineSet). driven_after row.kind x) own in
    changes rows row _ _ _ _ (c.bus.ensures.trace rows v)
    (c.bus_with.ensures rows row v refl next) own c.driven_after-next.ensures
