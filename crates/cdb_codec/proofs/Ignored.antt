-- The ignored bits of byte 1 change nothing.
use Rattle.std.proofs.Common.{◌≡◌, ℕ, ◌%◌, Bool, false, cond, List, [], ◌∷◌, length, Option, Some, None, Err, refl, sym}
use Rattle.std.proofs.Common.{ap, ◌∙◌, subst, arith}
use Rattle.std.specs.Prelude.{◌==◌}
use Rattle.std.proofs.lemmas.Bool.Decides.{nat_tests}
use Rattle.cdb_codec.specs.declared.command.CdbFault.TheVariants.{Length}
use Rattle.cdb_codec.specs.declared.operation.Operation.{Operation}
use Rattle.cdb_codec.specs.declared.operation.Operation.TheVariants.{TestUnitReady, RequestSense, Read6, Write6}
use Rattle.cdb_codec.specs.declared.operation.Operation.TheVariants.{Inquiry, ReadCapacity, Read10, Write10}
use Rattle.cdb_codec.specs.Operations.{operation_of}
use Rattle.cdb_codec.specs.Cdb.{ignored_from, sized_of, without_ignored, command_of}
use Rattle.cdb_codec.proofs.Codes.{code_of, code_is}

five : (b : ℕ) → b % 32 % 32 ≡ b % 32
five b = omega arith

three : (b : ℕ) → b % 8 % 8 ≡ b % 8
three b = omega arith

with_code : (o : Operation) (b : ℕ) (rest : List ℕ)
    → sized_of (Some o) (code_of o ∷ b % ignored_from (code_of o) ∷ rest) ≡ sized_of (Some o) (code_of o ∷ b ∷ rest)
with_code TestUnitReady b rest = rw (five b) refl
with_code RequestSense b rest = rw (five b) refl
with_code Read6 b rest = rw (five b) refl
with_code Write6 b rest = rw (five b) refl
with_code Inquiry b rest = rw (five b) refl
with_code ReadCapacity b rest = rw (five b) refl
with_code Read10 b rest = rw (three b) refl
with_code Write10 b rest = rw (three b) refl

by_operation : (q : Option Operation) (code b : ℕ) (rest : List ℕ) → operation_of code ≡ q
    → sized_of q (code ∷ b % ignored_from code ∷ rest) ≡ sized_of q (code ∷ b ∷ rest)
by_operation None code b rest is = refl
by_operation (Some o) code b rest is =
    let P : ℕ → Type 0 = λ n. sized_of (Some o) (n ∷ b % ignored_from n ∷ rest) ≡ sized_of (Some o) (n ∷ b ∷ rest) in
    subst P (sym (code_is code o is)) (with_code o b rest)

not_empty : (code : ℕ) (rest : List ℕ) → (length (code ∷ rest) == 0) ≡ false
not_empty code rest = grind (arith, nat_tests)

opened : (code : ℕ) (rest : List ℕ) → command_of (code ∷ rest) ≡ sized_of (operation_of code) (code ∷ rest)
opened code rest =
    ap (λ (t : Bool). cond t (Err Length) (sized_of (operation_of code) (code ∷ rest))) (not_empty code rest)

pub ignores : (bytes : List ℕ) → command_of (without_ignored bytes) ≡ command_of bytes
ignores [] = refl
ignores (code ∷ []) = refl
ignores (code ∷ b ∷ rest) = opened code (b % ignored_from code ∷ rest)
    ∙ (by_operation (operation_of code) code b rest refl ∙ sym (opened code (b ∷ rest)))
