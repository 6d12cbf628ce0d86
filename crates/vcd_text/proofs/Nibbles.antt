-- The binary digits of lines, four by four.
use Rattle.std.proofs.Common.{◌≡◌, ℕ, ◌+◌, ◌/◌, ◌%◌, [], ◌∷◌, arith}
use Rattle.vcd_text.specs.DumpText.{bit_text, nibble_text}

pub fourth :
    (n : ℕ) → nibble_text (n / 4096 % 16) ≡ bit_text n 32768 ∷ bit_text n 16384 ∷ bit_text n 8192 ∷ bit_text n 4096 ∷ []
fourth n =
    let a : n / 4096 % 16 / 8 % 2 ≡ n / 32768 % 2 = omega arith in
    let b : n / 4096 % 16 / 4 % 2 ≡ n / 16384 % 2 = omega arith in
    let c : n / 4096 % 16 / 2 % 2 ≡ n / 8192 % 2 = omega arith in
    let d : n / 4096 % 16 / 1 % 2 ≡ n / 4096 % 2 = omega arith in
    λ i. (48 + a i) ∷ (48 + b i) ∷ (48 + c i) ∷ (48 + d i) ∷ []

pub third :
    (n : ℕ) → nibble_text (n / 256 % 16) ≡ bit_text n 2048 ∷ bit_text n 1024 ∷ bit_text n 512 ∷ bit_text n 256 ∷ []
third n =
    let a : n / 256 % 16 / 8 % 2 ≡ n / 2048 % 2 = omega arith in
    let b : n / 256 % 16 / 4 % 2 ≡ n / 1024 % 2 = omega arith in
    let c : n / 256 % 16 / 2 % 2 ≡ n / 512 % 2 = omega arith in
    let d : n / 256 % 16 / 1 % 2 ≡ n / 256 % 2 = omega arith in
    λ i. (48 + a i) ∷ (48 + b i) ∷ (48 + c i) ∷ (48 + d i) ∷ []

pub second : (n : ℕ) → nibble_text (n / 16 % 16) ≡ bit_text n 128 ∷ bit_text n 64 ∷ bit_text n 32 ∷ bit_text n 16 ∷ []
second n =
    let a : n / 16 % 16 / 8 % 2 ≡ n / 128 % 2 = omega arith in
    let b : n / 16 % 16 / 4 % 2 ≡ n / 64 % 2 = omega arith in
    let c : n / 16 % 16 / 2 % 2 ≡ n / 32 % 2 = omega arith in
    let d : n / 16 % 16 / 1 % 2 ≡ n / 16 % 2 = omega arith in
    λ i. (48 + a i) ∷ (48 + b i) ∷ (48 + c i) ∷ (48 + d i) ∷ []

pub first : (n : ℕ) → nibble_text (n % 16) ≡ bit_text n 8 ∷ bit_text n 4 ∷ bit_text n 2 ∷ bit_text n 1 ∷ []
first n =
    let a : n % 16 / 8 % 2 ≡ n / 8 % 2 = omega arith in
    let b : n % 16 / 4 % 2 ≡ n / 4 % 2 = omega arith in
    let c : n % 16 / 2 % 2 ≡ n / 2 % 2 = omega arith in
    let d : n % 16 / 1 % 2 ≡ n / 1 % 2 = omega arith in
    λ i. (48 + a i) ∷ (48 + b i) ∷ (48 + c i) ∷ (48 + d i) ∷ []
