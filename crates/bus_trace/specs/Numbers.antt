-- A number below 2 ^ 18 comes back from its set: what the model of `Lines` owes.
use Rattle.std.proofs.Common.{zero, suc, ℕ, ◌≡◌, ◌+◌, ◌*◌, ◌%◌, ◌^◌, ◌<◌, ◌==◌, arith}
use Rattle.std.specs.Int.{bit_at}
use Rattle.std.proofs.lemmas.Nat.{mod-pow-add}
use Rattle.std.proofs.lemmas.Nat.Bits.{bit_at-lt}
use Rattle.bus_trace.specs.LineSet.{set_of, number_of, bit_value}

bit_value_is : (b w : ℕ) → b < 2 → bit_value (b == 1) w ≡ b * w
bit_value_is zero w h = omega arith
bit_value_is (suc zero) w h = omega arith
bit_value_is (suc (suc b)) w h = absurd (omega arith)

step : (n k : ℕ) → n % 2 ^ (1 + k) ≡ bit_value (bit_at n k == 1) (2 ^ k) + n % 2 ^ k
step n k = rw (bit_value_is (bit_at n k) (2 ^ k) (bit_at-lt n k)) (mod-pow-add n 1 k)

mod_small : (n : ℕ) → n < 2 ^ 18 → n % 2 ^ 18 ≡ n
mod_small n h = omega arith

-- a number below 2 ^ 18 comes back
pub number_back : (n : ℕ) → n < 2 ^ 18 → number_of (set_of n) ≡ n
number_back n h = omega (
  arith,
  mod_small n h,
  step n 9,
  step n 10,
  step n 11,
  step n 12,
  step n 13,
  step n 14,
  step n 15,
  step n 16,
  step n 17,
)
