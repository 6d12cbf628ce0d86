use Rattle.std.proofs.Common.{◌≡◌, ◌∙◌, false, sym, ap}
use Rattle.bus_trace.specs.LineSet.{LineSet}
use Rattle.bus_trace.specs.Trace.{bus}
use Rattle.bus_run.proofs.Others.{linked_if}
use Rattle.bus_run.proofs.asking.linked.Goals as goal

pub returns-else-rst : goal.returns-else-rst
returns-else-rst c = λ rows o.
    let view = c.view-view.ensures.trace rows o in
    let rst : (bus rows).rst ≡ false = sym (ap (λ (b : LineSet). b.rst) (c.bus.ensures.trace rows view))
    ∙ sym c.rst.ensures ∙ c.if-rst.false in
    linked_if rows c.connection.result (c.connection.ensures.trace rows view) rst
