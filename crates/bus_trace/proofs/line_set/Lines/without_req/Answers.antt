use Rattle.std.proofs.Common.{◌≡◌, ◌-◌, ◌∙◌, ap, sym, false, ℕ, arith}
use Rattle.bus_trace.specs.LineSet.{set_of, number_of}
use Rattle.bus_trace.proofs.Sets.{set_back}
use Rattle.bus_trace.proofs.Without.{req_off}
use Rattle.bus_trace.proofs.line_set.Lines.without_req.Goals as goal

pub returns-then-req : goal.returns-then-req
returns-then-req c =
    let s = c.args.self in
    let n : c.bits.result - 16384 ≡ number_of (record s { req = false }) =
    ap (λ (x : ℕ). x - 16384) c.bits.ensures.number ∙ req_off s (sym c.req.ensures ∙ c.if-req.true) in
    c.from_bits_retain.ensures.whole (omega (arith, c.bits.ensures.small)) ∙ ap (λ (x : ℕ). set_of x) n
    ∙ set_back (record s { req = false }) c.bits.ensures.data_below
