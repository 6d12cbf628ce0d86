-- A byte on the data lines has odd parity.
use Rattle.std.proofs.Common.{ℕ, ◌≡◌, ◌+◌, ◌*◌, ◌%◌, ◌^◌, ◌<◌, ◌==◌, Bool, true, false, refl, arith, ap, ◌∙◌}
use Rattle.std.specs.Int.RustNames.{count_ones}
use Rattle.std.proofs.lemmas.Nat.{ones_cat}
use Rattle.std.proofs.lemmas.Bool.Decides.{nat_tests}
use Rattle.bus_trace.specs.LineSet.{bit_value, byte_set, parity_of, has_odd_parity}
use Rattle.bus_trace.proofs.Sets.{value_le}

one_more : (byte : ℕ) → byte < 256 → count_ones (byte + 256) ≡ count_ones byte + 1
unfolding count_ones
one_more byte h =
    let e : byte + 256 ≡ 1 * 2 ^ 8 + byte = omega arith in
    ap (λ n. count_ones n) e ∙ (ones_cat 8 1 byte h ∙ omega arith)

-- the nine bits have an odd number of ones
pub byte_odd : (byte : ℕ) → byte < 256 → has_odd_parity (byte_set byte) ≡ true
byte_odd byte h = go (parity_of byte) refl
  where
    go : (q : Bool) → parity_of byte ≡ q → (count_ones (byte + bit_value q 256) % 2 == 1) ≡ true
    go true e = grind (arith, nat_tests, one_more byte h)
    go false e =
        let same : byte + 0 ≡ byte = omega arith in
        ap (λ n. count_ones n % 2 == 1) same ∙ grind (arith, nat_tests)

-- the nine bits are below 512
pub byte_small : (byte : ℕ) → byte < 256 → (byte_set byte).data_bits < 512
byte_small byte h = omega (arith, value_le (parity_of byte) 256)

-- and the byte reads back
pub byte_back : (byte : ℕ) → byte < 256 → (byte_set byte).data_bits % 256 ≡ byte
byte_back byte h = go (parity_of byte)
  where
    go : (q : Bool) → (byte + bit_value q 256) % 256 ≡ byte
    go true = omega arith
    go false = omega arith
