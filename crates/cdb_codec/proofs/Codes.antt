-- The code of each operation.
use Rattle.std.proofs.Common.{◌≡◌, ℕ, Bool, true, false, cond, Option, Some, refl, sym, ap, ◌∙◌, arith}
use Rattle.std.specs.Prelude.{◌==◌}
use Rattle.std.proofs.lemmas.Bool.Decides.{nat_tests}
use Rattle.cdb_codec.specs.declared.operation.TheConstants.{TEST_UNIT_READY, REQUEST_SENSE, READ_6, WRITE_6, INQUIRY}
use Rattle.cdb_codec.specs.declared.operation.TheConstants.{READ_CAPACITY, READ_10, WRITE_10}
use Rattle.cdb_codec.specs.declared.operation.Operation.{Operation}
use Rattle.cdb_codec.specs.declared.operation.Operation.TheVariants.{TestUnitReady, RequestSense, Read6, Write6}
use Rattle.cdb_codec.specs.declared.operation.Operation.TheVariants.{Inquiry, ReadCapacity, Read10, Write10}
use Rattle.cdb_codec.specs.Operations.{operation_of}

-- the code of an operation
abbrev pub code_of : Operation → ℕ
code_of TestUnitReady = TEST_UNIT_READY
code_of RequestSense = REQUEST_SENSE
code_of Read6 = READ_6
code_of Write6 = WRITE_6
code_of Inquiry = INQUIRY
code_of ReadCapacity = READ_CAPACITY
code_of Read10 = READ_10
code_of Write10 = WRITE_10

-- a code before which the table gives this operation, or one after it
coded : (code n : ℕ) (t : Bool) (o p : Operation) (r : Option Operation) → ((code == n) ≡ t) → code_of p ≡ n
    → (r ≡ Some o → code ≡ code_of o) → cond t (Some p) r ≡ Some o → code ≡ code_of o
coded code n true o p r e is more h =
    let same : p ≡ o = cc in
    let here : code ≡ n = grind (arith, nat_tests) in
    here ∙ sym is ∙ ap code_of same
coded code n false o p r e is more h = more h

pub code_is : (code : ℕ) (o : Operation) → operation_of code ≡ Some o → code ≡ code_of o
code_is code o =
    coded code TEST_UNIT_READY (code == TEST_UNIT_READY) o TestUnitReady _ refl refl (
    coded code REQUEST_SENSE (code == REQUEST_SENSE) o RequestSense _ refl refl (
    coded code READ_6 (code == READ_6) o Read6 _ refl refl (
    coded code WRITE_6 (code == WRITE_6) o Write6 _ refl refl (
    coded code INQUIRY (code == INQUIRY) o Inquiry _ refl refl (
    coded code READ_CAPACITY (code == READ_CAPACITY) o ReadCapacity _ refl refl (
    coded code READ_10 (code == READ_10) o Read10 _ refl refl (
    coded code WRITE_10 (code == WRITE_10) o Write10 _ refl refl (
    λ h. absurd cc))))))))
