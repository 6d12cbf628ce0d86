use Rattle.std.proofs.Common.{sym, ◌∙◌}
use Rattle.vcd_text.proofs.Numbers.{decimal_over}
use Rattle.vcd_text.proofs.tokens.decimal.Goals as goal

pub returns-in_err-value : goal.returns-in_err-value
returns-in_err-value c = decimal_over c.args.token.now c.loop-rest.rest.now c.loop-rest.value 0
    c.from_residual.result c.from_residual.ensures c.loop-rest.invariant c.in-len1-up.len_at_least
    (sym c.more_decimal.ensures ∙ c.in_err-value.was)
