use Rattle.std.proofs.Common.{◌≡◌, ◌-◌, ◌∙◌, ap, sym, false, ℕ, arith}
use Rattle.bus_trace.specs.LineSet.{set_of, number_of}
use Rattle.bus_trace.proofs.Sets.{set_back}
use Rattle.bus_trace.proofs.Without.{ack_off}
use Rattle.bus_trace.proofs.line_set.Lines.without_ack.Goals as goal

pub returns-then-ack : goal.returns-then-ack
returns-then-ack c =
    let s = c.args.self in
    let n : c.bits.result - 32768 ≡ number_of (record s { ack = false }) =
    ap (λ (x : ℕ). x - 32768) c.bits.ensures.number ∙ ack_off s (sym c.ack.ensures ∙ c.if-ack.true) in
    c.from_bits_retain.ensures.whole (omega (arith, c.bits.ensures.small)) ∙ ap (λ (x : ℕ). set_of x) n
    ∙ set_back (record s { ack = false }) c.bits.ensures.data_below
