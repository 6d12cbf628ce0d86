-- The block of a command of a tape reads back.
use Rattle.std.proofs.Common.{◌≡◌, ℕ, ◌-◌, ◌%◌, ◌^◌, ◌<◌, ℤ, pos, negsuc, ◌-ℤ◌, Bool, true, false, cond, Ok, Err}
use Rattle.std.proofs.Common.{refl, ◌∙◌, arith}
use Rattle.std.specs.Prelude.{nat_lt}
use Rattle.std.proofs.lemmas.Bool.Decides.{nat_tests}
use Rattle.std.proofs.lemmas.Int.{ints}
use Rattle.byteorder.specs.Endian.{big_bytes, big_number, twos_complement}
use Rattle.cdb_codec.specs.declared.command.CdbFault.TheVariants.{Field}
use Rattle.cdb_codec.specs.declared.tape_command.TapeCommand.{TapeCommand}
use Rattle.cdb_codec.specs.declared.tape_command.TapeCommand.TheVariants.{TestUnitReady, Rewind, RequestSense, Read}
use Rattle.cdb_codec.specs.declared.tape_command.TapeCommand.TheVariants.{Write, Inquiry, Filemarks, Space}
use Rattle.cdb_codec.specs.TapeCdb.{FitsSigned24, FitsTape, is_space_code, signed_bits, tape_cdb_bytes, tape_command_of}

three_back : (n : ℕ) → n < 2 ^ 24 → big_number 3 (big_bytes 3 n) ≡ n
three_back n small = omega arith

-- a number in two's complement is that of its bits
pub signed_back : (z : ℤ) → FitsSigned24 z → twos_complement 3 (signed_bits z) ≡ z
signed_back (pos n) h = go (nat_lt n (2 ^ 23)) refl
  where
    small : n < 2 ^ 23
    small = omega (arith, ints, h.1)

    go : (t : Bool) → nat_lt n (2 ^ 23) ≡ t → cond t (pos n) (pos n -ℤ pos (2 ^ 24)) ≡ pos n
    go true e = refl
    go false e = absurd (grind (arith, nat_tests))
signed_back (negsuc n) h = go (nat_lt (0xffffff - n) (2 ^ 23)) refl
  where
    small : n < 2 ^ 23
    small = omega (arith, ints, h.0)

    go : (t : Bool) → nat_lt (0xffffff - n) (2 ^ 23) ≡ t
        → cond t (pos (0xffffff - n)) (pos (0xffffff - n) -ℤ pos (2 ^ 24)) ≡ negsuc n
    go true e = absurd (grind (arith, nat_tests))
    go false e = omega (arith, ints)

bits_small : (z : ℤ) → FitsSigned24 z → signed_bits z < 2 ^ 24
bits_small (pos n) h = omega (arith, ints, h.1)
bits_small (negsuc n) h = omega arith

code_small : (code : ℕ) → is_space_code code ≡ true → code % 32 ≡ code
code_small code h = grind (arith, nat_tests)

space_back : (code : ℕ) (z : ℤ) → is_space_code code ≡ true → FitsSigned24 z
    → tape_command_of (tape_cdb_bytes (Space code z)) ≡ Ok (Space code z)
space_back code z known h =
    let count = big_number 3 (big_bytes 3 (signed_bits z)) in
    let same = code_small code known in
    (λ i. cond (is_space_code (same i)) (Ok (Space (same i) (twos_complement 3 count))) (Err Field))
    ∙ (λ i. cond (known i) (Ok (Space code (twos_complement 3 count))) (Err Field))
    ∙ (λ i. Ok (Space code (twos_complement 3 (three_back (signed_bits z) (bits_small z h) i))))
    ∙ (λ i. Ok (Space code (signed_back z h i)))

pub tape_reads_back : (c : TapeCommand) → FitsTape c → tape_command_of (tape_cdb_bytes c) ≡ Ok c
tape_reads_back TestUnitReady h = refl
tape_reads_back Rewind h = refl
tape_reads_back (RequestSense room) h = refl
tape_reads_back (Read count) h = λ i. Ok (Read (three_back count h i))
tape_reads_back (Write count) h = λ i. Ok (Write (three_back count h i))
tape_reads_back (Inquiry room) h = refl
tape_reads_back (Filemarks count) h = λ i. Ok (Filemarks (three_back count h i))
tape_reads_back (Space code count) h = space_back code count h.0 h.1
