use Rattle.std.proofs.Common.{ap, ◌≡◌, ◌%◌, ◌^◌, ◌∙◌, arith}
use Rattle.std.proofs.lemmas.Nat.{and_mask}
use Rattle.bus_trace.specs.LineSet.{set_of}
use Rattle.bus_trace.proofs.line_set.LinesFlags.from_bits_retain.Goals as goal

pub returns-clause-whole : goal.returns-clause-whole
returns-clause-whole c = λ h.
    let small : c.args.bits % 2 ^ 18 ≡ c.args.bits = omega arith in
    ap (λ n. set_of n) (and_mask c.args.bits 18 ∙ small)
