-- A block that a tape reads is the block of its command.
use Rattle.std.proofs.Common.{◌≡◌, ℕ, ◌+◌, ◌-◌, ◌*◌, ◌/◌, ◌%◌, ◌^◌, ◌<◌, ◌≤◌, pos, negsuc, ◌-ℤ◌, Bool, true, false}
use Rattle.std.proofs.Common.{cond, List, [], ◌∷◌}
use Rattle.std.proofs.Common.{◌++◌, length, Option, Some, None, Result, Ok, refl, sym, ap, ◌∙◌, subst, arith}
use Rattle.std.specs.Prelude.{◌==◌, nat_lt}
use Rattle.std.specs.List.{AllByRecursion}
use Rattle.std.proofs.lemmas.Bool.Decides.{nat_tests}
use Rattle.std.proofs.lemmas.Int.{ints}
use Rattle.byteorder.specs.Endian.{big_bytes, big_number, twos_complement}
use Rattle.cdb_codec.specs.declared.command.CdbFault.{CdbFault}
use Rattle.cdb_codec.specs.declared.command.CdbFault.TheVariants.{Length, Field}
use Rattle.cdb_codec.specs.declared.tape_command.TapeCommand.{TapeCommand}
use Rattle.cdb_codec.specs.declared.tape_command.TapeCommand.TheVariants as tapes
use Rattle.cdb_codec.specs.declared.tape_operation.TapeOperation.{TapeOperation}
use Rattle.cdb_codec.specs.declared.tape_operation.TapeOperation.TheVariants.{TestUnitReady, Rewind, RequestSense, Read}
use Rattle.cdb_codec.specs.declared.tape_operation.TapeOperation.TheVariants.{Write, Filemarks, Space, Inquiry}
use Rattle.cdb_codec.specs.TapeOperations.{tape_operation_of}
use Rattle.cdb_codec.specs.Cdb.{has_group_len, are_zero}
use Rattle.cdb_codec.specs.TapeCdb.{is_space_code, signed_bits, tape_where_zero, tape_fields_of, tape_sized_of}
use Rattle.cdb_codec.specs.TapeCdb.{tape_cdb_bytes, tape_without_ignored, tape_command_of}
use Rattle.cdb_codec.proofs.TapeCodes.{tape_code_of, tape_code_is}
use Rattle.cdb_codec.proofs.Only.{let_through, not_stopped, zeros}

-- the bytes that no field names are 0, and the command is this one
found : (spare : List ℕ) (r c : TapeCommand) → tape_where_zero spare r ≡ Ok c
    → AllByRecursion (λ b. b ≡ 0) spare × (r ≡ c)
found spare r c e =
    let p = let_through (are_zero spare) (Ok r) Field c e in
    let same : ◌≡◌ {A = Result TapeCommand CdbFault} (Ok r) (Ok c) = p.1 in
    (zeros spare p.0, cc)

-- the count, byte by byte
three_bytes : (d f g : ℕ) → d < 256 → f < 256 → g < 256 → big_bytes 3 (big_number 3 (d ∷ f ∷ g ∷ [])) ≡ d ∷ f ∷ g ∷ []
three_bytes d f g hd hf hg =
    let n = d * 65536 + (f * 256 + (g * 1 + 0)) in
    let first : n / 65536 % 256 ≡ d = omega arith in
    let second : n / 256 % 256 ≡ f = omega arith in
    let third : n % 256 ≡ g = omega arith in
    λ i. first i ∷ second i ∷ third i ∷ []

-- the bits of a number that was read in two's complement
bits_back : (n : ℕ) → n < 2 ^ 24 → signed_bits (twos_complement 3 n) ≡ n
bits_back n small = go (nat_lt n (2 ^ 23)) refl
  where
    go : (t : Bool) → nat_lt n (2 ^ 23) ≡ t → signed_bits (cond t (pos n) (pos n -ℤ pos (2 ^ 24))) ≡ n
    go true e = refl
    go false e =
        let high : 2 ^ 23 ≤ n = grind (arith, nat_tests) in
        let below : pos n -ℤ pos (2 ^ 24) ≡ negsuc (0xffffff - n) = omega (arith, ints) in
        let left : 0xffffff - (0xffffff - n) ≡ n = omega arith in
        ap signed_bits below ∙ left

-- what the fields of an operation spell, where they are read
abbrev Spells : TapeOperation → List ℕ → Type 0
Spells o bytes = (c : TapeCommand) → tape_fields_of o bytes ≡ Ok c → tape_cdb_bytes c ≡ tape_without_ignored bytes

spelt : (o : TapeOperation) (b d f g k : ℕ) → d < 256 → f < 256 → g < 256
    → Spells o (tape_code_of o ∷ b ∷ d ∷ f ∷ g ∷ k ∷ [])
spelt TestUnitReady b d f g k hd hf hg c e =
    let p = found (b % 32 ∷ d ∷ f ∷ g ∷ k ∷ []) tapes.TestUnitReady c e in
    let z = p.0 in
    ap tape_cdb_bytes (sym p.1)
    ∙ (λ i. 0x00 ∷ sym z.0 i ∷ sym z.1.0 i ∷ sym z.1.1.0 i ∷ sym z.1.1.1.0 i ∷ sym z.1.1.1.1.0 i ∷ [])
spelt Rewind b d f g k hd hf hg c e =
    let p = found (b % 32 / 2 ∷ d ∷ f ∷ g ∷ k ∷ []) tapes.Rewind c e in
    let z = p.0 in
    let none : 0 ≡ b % 32 / 2 * 2 = λ i. sym z.0 i * 2 in
    ap tape_cdb_bytes (sym p.1)
    ∙ (λ i. 0x01 ∷ none i ∷ sym z.1.0 i ∷ sym z.1.1.0 i ∷ sym z.1.1.1.0 i ∷ sym z.1.1.1.1.0 i ∷ [])
spelt RequestSense b d f g k hd hf hg c e =
    let p = found (b % 32 ∷ d ∷ f ∷ k ∷ []) (tapes.RequestSense g) c e in
    let z = p.0 in
    ap tape_cdb_bytes (sym p.1)
    ∙ (λ i. 0x03 ∷ sym z.0 i ∷ sym z.1.0 i ∷ sym z.1.1.0 i ∷ g ∷ sym z.1.1.1.0 i ∷ [])
spelt Inquiry b d f g k hd hf hg c e =
    let p = found (b % 32 ∷ d ∷ f ∷ k ∷ []) (tapes.Inquiry g) c e in
    let z = p.0 in
    ap tape_cdb_bytes (sym p.1)
    ∙ (λ i. 0x12 ∷ sym z.0 i ∷ sym z.1.0 i ∷ sym z.1.1.0 i ∷ g ∷ sym z.1.1.1.0 i ∷ [])
spelt Read b d f g k hd hf hg c e =
    let n = big_number 3 (d ∷ f ∷ g ∷ []) in
    let q = let_through (b % 32 == 0x01) (tape_where_zero (k ∷ []) (tapes.Read n)) Field c e in
    let one : 0x01 ≡ b % 32 = grind (arith, nat_tests) in
    let p = found (k ∷ []) (tapes.Read n) c q.1 in
    ap tape_cdb_bytes (sym p.1) ∙ (λ i. 0x08 ∷ one i ∷ [] ++ three_bytes d f g hd hf hg i ++ sym p.0.0 i ∷ [])
spelt Write b d f g k hd hf hg c e =
    let n = big_number 3 (d ∷ f ∷ g ∷ []) in
    let q = let_through (b % 32 == 0x01) (tape_where_zero (k ∷ []) (tapes.Write n)) Field c e in
    let one : 0x01 ≡ b % 32 = grind (arith, nat_tests) in
    let p = found (k ∷ []) (tapes.Write n) c q.1 in
    ap tape_cdb_bytes (sym p.1) ∙ (λ i. 0x0a ∷ one i ∷ [] ++ three_bytes d f g hd hf hg i ++ sym p.0.0 i ∷ [])
spelt Filemarks b d f g k hd hf hg c e =
    let n = big_number 3 (d ∷ f ∷ g ∷ []) in
    let p = found (b % 32 / 2 ∷ k ∷ []) (tapes.Filemarks n) c e in
    let z = p.0 in
    let none : 0 ≡ b % 32 / 2 * 2 = λ i. sym z.0 i * 2 in
    ap tape_cdb_bytes (sym p.1) ∙ (λ i. 0x10 ∷ none i ∷ [] ++ three_bytes d f g hd hf hg i ++ sym z.1.0 i ∷ [])
spelt Space b d f g k hd hf hg c e =
    let n = big_number 3 (d ∷ f ∷ g ∷ []) in
    let small : n < 2 ^ 24 = omega arith in
    let q = let_through (is_space_code (b % 32))
    (tape_where_zero (k ∷ []) (tapes.Space (b % 32) (twos_complement 3 n))) Field c e in
    let p = found (k ∷ []) (tapes.Space (b % 32) (twos_complement 3 n)) c q.1 in
    ap tape_cdb_bytes (sym p.1) ∙ (λ i. 0x11 ∷ b % 32 ∷ [] ++ big_bytes 3 (bits_back n small i) ++ sym p.0.0 i ∷ [])
    ∙ (λ i. 0x11 ∷ b % 32 ∷ [] ++ three_bytes d f g hd hf hg i ++ k ∷ [])

-- a block with the code and the length of its operation
long : (o : TapeOperation) (rest : List ℕ) → AllByRecursion (λ b. b < 256) rest → length rest ≡ 5
    → Spells o (tape_code_of o ∷ rest)
long o (b ∷ d ∷ f ∷ g ∷ k ∷ []) h is = spelt o b d f g k h.1.0 h.1.1.0 h.1.1.1.0
long o [] h is = absurd (omega arith)
long o (b ∷ []) h is = absurd (omega arith)
long o (b ∷ d ∷ []) h is = absurd (omega arith)
long o (b ∷ d ∷ f ∷ []) h is = absurd (omega arith)
long o (b ∷ d ∷ f ∷ g ∷ []) h is = absurd (omega arith)
long o (b ∷ d ∷ f ∷ g ∷ k ∷ l ∷ more) h is = absurd (omega arith)

-- each code of a tape is of group 0
grouped : (o : TapeOperation) (rest : List ℕ) → has_group_len (tape_code_of o ∷ rest) ≡ true
    → (6 == length (tape_code_of o ∷ rest)) ≡ true
grouped TestUnitReady rest e = e
grouped Rewind rest e = e
grouped RequestSense rest e = e
grouped Read rest e = e
grouped Write rest e = e
grouped Filemarks rest e = e
grouped Space rest e = e
grouped Inquiry rest e = e

five_more : (code : ℕ) (rest : List ℕ) → (6 == length (code ∷ rest)) ≡ true → length rest ≡ 5
five_more code rest e = grind (arith, nat_tests)

with_code : (o : TapeOperation) (rest : List ℕ) (c : TapeCommand) → AllByRecursion (λ b. b < 256) rest
    → tape_sized_of (Some o) (tape_code_of o ∷ rest) ≡ Ok c
    → tape_cdb_bytes c ≡ tape_without_ignored (tape_code_of o ∷ rest)
with_code o rest c h e =
    let p = let_through (has_group_len (tape_code_of o ∷ rest)) (tape_fields_of o (tape_code_of o ∷ rest)) Length c e in
    long o rest h (five_more (tape_code_of o) rest (grouped o rest p.0)) c p.1

first_of_rest : (q : Option TapeOperation) (code : ℕ) (rest : List ℕ) (c : TapeCommand) → tape_operation_of code ≡ q
    → AllByRecursion (λ b. b < 256) rest → tape_sized_of q (code ∷ rest) ≡ Ok c
    → tape_cdb_bytes c ≡ tape_without_ignored (code ∷ rest)
first_of_rest None code rest c is h e = absurd cc
first_of_rest (Some o) code rest c is h e =
    let P : ℕ → Type 0 =
    λ n. tape_sized_of (Some o) (n ∷ rest) ≡ Ok c → tape_cdb_bytes c ≡ tape_without_ignored (n ∷ rest) in
    subst P (sym (tape_code_is code o is)) (λ f. with_code o rest c h f) e

pub tape_reads_only : (bytes : List ℕ) (c : TapeCommand) → AllByRecursion (λ b. b < 256) bytes
    → tape_command_of bytes ≡ Ok c → tape_cdb_bytes c ≡ tape_without_ignored bytes
tape_reads_only [] c h e = absurd cc
tape_reads_only (code ∷ rest) c h e = first_of_rest (tape_operation_of code) code rest c refl h.1
    (not_stopped (length (code ∷ rest) == 0) Length (tape_sized_of (tape_operation_of code) (code ∷ rest)) c e)
