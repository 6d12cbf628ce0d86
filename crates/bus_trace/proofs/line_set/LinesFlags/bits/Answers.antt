use Rattle.std.proofs.Common.{ap, sym, ◌∙◌}
use Rattle.bus_trace.specs.LineSet.{LineSet, number_of}
use Rattle.bus_trace.specs.Numbers.{number_back}
use Rattle.bus_trace.proofs.line_set.LinesFlags.bits.Goals as goal

pub returns-clause-number : goal.returns-clause-number
returns-clause-number c =
    sym (number_back c.self.inside.bits c.self.invariant) ∙ ap (λ (s : LineSet). number_of s) c.self.view_is
