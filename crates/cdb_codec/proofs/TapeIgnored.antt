-- The ignored bits of byte 1 change nothing to a tape.
use Rattle.std.proofs.Common.{◌≡◌, ℕ, ◌*◌, ◌/◌, ◌%◌, Bool, false, cond, List, [], ◌∷◌, length, Option, Some, None, Err}
use Rattle.std.proofs.Common.{refl}
use Rattle.std.proofs.Common.{sym, ap, ◌∙◌, subst, arith}
use Rattle.std.specs.Prelude.{◌==◌}
use Rattle.std.proofs.lemmas.Bool.Decides.{nat_tests}
use Rattle.cdb_codec.specs.declared.command.CdbFault.TheVariants.{Length}
use Rattle.cdb_codec.specs.declared.tape_operation.TapeOperation.{TapeOperation}
use Rattle.cdb_codec.specs.declared.tape_operation.TapeOperation.TheVariants.{TestUnitReady, Rewind, RequestSense, Read}
use Rattle.cdb_codec.specs.declared.tape_operation.TapeOperation.TheVariants.{Write, Filemarks, Space, Inquiry}
use Rattle.cdb_codec.specs.TapeOperations.{tape_operation_of}
use Rattle.cdb_codec.specs.TapeCdb.{tape_kept_bits, tape_sized_of, tape_without_ignored, tape_command_of}
use Rattle.cdb_codec.proofs.TapeCodes.{tape_code_of, tape_code_is}

five : (b : ℕ) → b % 32 % 32 ≡ b % 32
five b = omega arith

above : (b : ℕ) → b % 32 / 2 * 2 % 32 / 2 ≡ b % 32 / 2
above b = omega arith

with_code : (o : TapeOperation) (b : ℕ) (rest : List ℕ)
    → tape_sized_of (Some o) (tape_code_of o ∷ tape_kept_bits (tape_code_of o) b ∷ rest)
    ≡ tape_sized_of (Some o) (tape_code_of o ∷ b ∷ rest)
with_code TestUnitReady b rest = rw (five b) refl
with_code Rewind b rest = rw (above b) refl
with_code RequestSense b rest = rw (five b) refl
with_code Read b rest = rw (five b) refl
with_code Write b rest = rw (five b) refl
with_code Filemarks b rest = rw (above b) refl
with_code Space b rest = rw (five b) refl
with_code Inquiry b rest = rw (five b) refl

by_operation : (q : Option TapeOperation) (code b : ℕ) (rest : List ℕ) → tape_operation_of code ≡ q
    → tape_sized_of q (code ∷ tape_kept_bits code b ∷ rest) ≡ tape_sized_of q (code ∷ b ∷ rest)
by_operation None code b rest is = refl
by_operation (Some o) code b rest is =
    let P : ℕ → Type 0 =
    λ n. tape_sized_of (Some o) (n ∷ tape_kept_bits n b ∷ rest) ≡ tape_sized_of (Some o) (n ∷ b ∷ rest) in
    subst P (sym (tape_code_is code o is)) (with_code o b rest)

not_empty : (code : ℕ) (rest : List ℕ) → (length (code ∷ rest) == 0) ≡ false
not_empty code rest = grind (arith, nat_tests)

opened : (code : ℕ) (rest : List ℕ)
    → tape_command_of (code ∷ rest) ≡ tape_sized_of (tape_operation_of code) (code ∷ rest)
opened code rest =
    ap (λ (t : Bool). cond t (Err Length) (tape_sized_of (tape_operation_of code) (code ∷ rest))) (not_empty code rest)

pub tape_ignores : (bytes : List ℕ) → tape_command_of (tape_without_ignored bytes) ≡ tape_command_of bytes
tape_ignores [] = refl
tape_ignores (code ∷ []) = refl
tape_ignores (code ∷ b ∷ rest) = opened code (tape_kept_bits code b ∷ rest)
    ∙ (by_operation (tape_operation_of code) code b rest refl ∙ sym (opened code (b ∷ rest)))
