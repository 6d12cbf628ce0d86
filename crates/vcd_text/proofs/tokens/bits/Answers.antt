use Rattle.std.proofs.Common.{sym, ◌∙◌}
use Rattle.vcd_text.proofs.Numbers.{bits_over}
use Rattle.vcd_text.proofs.tokens.bits.Goals as goal

pub returns-in_err-value-clause-exact : goal.returns-in_err-value-clause-exact
returns-in_err-value-clause-exact c = bits_over c.args.digits.now c.loop-rest.rest.now c.loop-rest.value
    0 c.from_residual.result c.from_residual.ensures c.loop-rest.invariant.value c.in-len1-up.len_at_least
    (sym c.more_bits.ensures.exact ∙ c.in_err-value.was)
