use Rattle.std.proofs.Common.{◌≡◌, ◌-◌, ◌∙◌, ap, ℕ, arith}
use Rattle.bus_trace.specs.LineSet.{set_of, number_of}
use Rattle.bus_trace.proofs.Sets.{set_back}
use Rattle.bus_trace.proofs.Without.{data_off}
use Rattle.bus_trace.proofs.line_set.Lines.without_data.Goals as goal

pub returns : goal.returns
returns c =
    let s = c.args.self in
    let n : c.bits.result - c.data_bits.result ≡ number_of (record s { data_bits = 0 }) =
    (λ i. c.bits.ensures.number i - c.data_bits.ensures.exact i) ∙ data_off s in
    c.from_bits_retain.ensures.whole (omega (arith, c.bits.ensures.small)) ∙ ap (λ (x : ℕ). set_of x) n
    ∙ set_back (record s { data_bits = 0 }) (omega arith)
