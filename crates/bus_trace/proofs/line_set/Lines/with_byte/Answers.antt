use Rattle.std.proofs.Common.{◌∙◌, ap, ℕ}
use Rattle.std.specs.Int.Bits.{or_zero_r}
use Rattle.bus_trace.specs.LineSet.{union, byte_set}
use Rattle.bus_trace.proofs.line_set.Lines.with_byte.Goals as goal

pub returns : goal.returns
returns c =
    c.with.ensures
    ∙ (λ i. union (c.byte_lines.ensures i) (c.without_data.ensures i))
    ∙ ap (λ (x : ℕ). record c.args.self { data_bits = x }) (or_zero_r (byte_set c.args.byte).data_bits)
