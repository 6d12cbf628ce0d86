use Rattle.std.proofs.Common.{◌%◌, ◌^◌, ◌∙◌, ap, ℕ}
use Rattle.std.proofs.Math.Nat.{mod-eq_of_lt}
use Rattle.bus_trace.specs.LineSet.{set_of}
use Rattle.bus_trace.proofs.saved.lines_word.Goals as goal

-- A number of lines is below 2 ^ 18, and gives them back.
pub returns : goal.returns
returns c = ap (λ (n : ℕ). set_of (n % 2 ^ 18)) c.from.ensures
    ∙ ap (λ (n : ℕ). set_of n) (mod-eq_of_lt c.bits.ensures.small) ∙ c.bits.ensures.back
