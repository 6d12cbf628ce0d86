use Rattle.std.proofs.Common.{◌≡◌, ◌-◌, ◌∙◌, ap, sym, false, ℕ, arith}
use Rattle.bus_trace.specs.LineSet.{set_of, number_of}
use Rattle.bus_trace.proofs.Sets.{set_back}
use Rattle.bus_trace.proofs.Without.{bsy_off}
use Rattle.bus_trace.proofs.line_set.Lines.without_bsy.Goals as goal

pub returns-then-bsy : goal.returns-then-bsy
returns-then-bsy c =
    let s = c.args.self in
    let n : c.bits.result - 512 ≡ number_of (record s { bsy = false }) = ap (λ (x : ℕ). x - 512) c.bits.ensures.number
    ∙ bsy_off s (sym c.bsy.ensures ∙ c.if-bsy.true) in
    c.from_bits_retain.ensures.whole (omega (arith, c.bits.ensures.small)) ∙ ap (λ (x : ℕ). set_of x) n
    ∙ set_back (record s { bsy = false }) c.bits.ensures.data_below
