use Rattle.std.proofs.Common.{ap, ◌∙◌}
use Rattle.bus_trace.specs.LineSet.{LineSet}
use Rattle.bus_trace.proofs.Bits.{bit_test}
use Rattle.bus_trace.proofs.line_set.Lines.atn.Goals as goal

pub returns : goal.returns
returns c = bit_test c.self.inside.bits 16 ∙ ap (λ (s : LineSet). s.atn) c.self.view_is
