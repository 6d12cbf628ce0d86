use Rattle.std.proofs.Common.{◌≡◌, ◌<◌, ◌^◌, length}
use Rattle.std.specs.Prelude.{Some}
use Rattle.vcd_text.specs.Tokens.{bits_after}
use Rattle.vcd_text.proofs.tokens.bits.Given as goal

abbrev pub invariant-loop-rest : goal.invariant-loop-rest
invariant-loop-rest l = record {
  value : bits_after (Some l.value) l.rest ≡ bits_after (Some 0) l.digits;
  small : l.value < 2 ^ 18;
}

abbrev pub decreases-loop-rest : goal.decreases-loop-rest
decreases-loop-rest l = length l.rest
