use Rattle.std.proofs.Common.{◌≡◌, length}
use Rattle.std.specs.Prelude.{Some}
use Rattle.vcd_text.specs.Tokens.{decimal_after}
use Rattle.vcd_text.proofs.tokens.decimal.Given as goal

abbrev pub invariant-loop-rest : goal.invariant-loop-rest
invariant-loop-rest l = decimal_after (Some l.value) l.rest ≡ decimal_after (Some 0) l.token

abbrev pub decreases-loop-rest : goal.decreases-loop-rest
decreases-loop-rest l = length l.rest
