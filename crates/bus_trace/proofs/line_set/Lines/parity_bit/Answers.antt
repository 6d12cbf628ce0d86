use Rattle.std.proofs.Common.{ap, ◌∙◌, ◌==◌, arith}
use Rattle.std.specs.Int.{bit_at}
use Rattle.bus_trace.specs.LineSet.{LineSet}
use Rattle.bus_trace.proofs.Bits.{bit_test, bit_at_mod}
use Rattle.bus_trace.proofs.line_set.Lines.parity_bit.Goals as goal

pub returns : goal.returns
returns c = bit_test c.self.inside.bits 8 ∙ (ap (λ x. x == 1) (bit_at_mod c.self.inside.bits 9 8 (omega arith))
    ∙ ap (λ (s : LineSet). bit_at s.data_bits 8 == 1) c.self.view_is)
