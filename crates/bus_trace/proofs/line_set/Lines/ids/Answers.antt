use Rattle.bus_trace.proofs.Sets.{ids_of}
use Rattle.std.proofs.Common.{◌∙◌}
use Rattle.bus_trace.proofs.line_set.Lines.ids.Goals as goal

pub returns : goal.returns
returns c = ids_of c.result.inside.bits c.result-2.inside.bits c.args.a c.args.b c.requires.a c.requires.b
    c.requires.apart c.result.invariant c.result-2.invariant (c.result.view_is ∙ c.id.ensures)
    (c.result-2.view_is ∙ c.id-2.ensures)
