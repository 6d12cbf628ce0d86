-- The code of each operation of a tape.
use Rattle.std.proofs.Common.{◌≡◌, ℕ, Bool, true, false, cond, Option, Some, refl, sym, ap, ◌∙◌, arith}
use Rattle.std.specs.Prelude.{◌==◌}
use Rattle.std.proofs.lemmas.Bool.Decides.{nat_tests}
use Rattle.cdb_codec.specs.declared.operation.TheConstants.{TEST_UNIT_READY, REQUEST_SENSE, READ_6, WRITE_6, INQUIRY}
use Rattle.cdb_codec.specs.declared.tape_operation.TheConstants.{REWIND, WRITE_FILEMARKS, SPACE}
use Rattle.cdb_codec.specs.declared.tape_operation.TapeOperation.{TapeOperation}
use Rattle.cdb_codec.specs.declared.tape_operation.TapeOperation.TheVariants.{TestUnitReady, Rewind, RequestSense, Read}
use Rattle.cdb_codec.specs.declared.tape_operation.TapeOperation.TheVariants.{Write, Filemarks, Space, Inquiry}
use Rattle.cdb_codec.specs.TapeOperations.{tape_operation_of}

-- the code of an operation
abbrev pub tape_code_of : TapeOperation → ℕ
tape_code_of TestUnitReady = TEST_UNIT_READY
tape_code_of Rewind = REWIND
tape_code_of RequestSense = REQUEST_SENSE
tape_code_of Read = READ_6
tape_code_of Write = WRITE_6
tape_code_of Filemarks = WRITE_FILEMARKS
tape_code_of Space = SPACE
tape_code_of Inquiry = INQUIRY

-- a code before which the table gives this operation, or one after it
coded : (code n : ℕ) (t : Bool) (o p : TapeOperation) (r : Option TapeOperation) → ((code == n) ≡ t)
    → tape_code_of p ≡ n → (r ≡ Some o → code ≡ tape_code_of o) → cond t (Some p) r ≡ Some o → code ≡ tape_code_of o
coded code n true o p r e is more h =
    let same : p ≡ o = cc in
    let here : code ≡ n = grind (arith, nat_tests) in
    here ∙ sym is ∙ ap tape_code_of same
coded code n false o p r e is more h = more h

pub tape_code_is : (code : ℕ) (o : TapeOperation) → tape_operation_of code ≡ Some o → code ≡ tape_code_of o
tape_code_is code o =
    coded code TEST_UNIT_READY (code == TEST_UNIT_READY) o TestUnitReady _ refl refl (
    coded code REWIND (code == REWIND) o Rewind _ refl refl (
    coded code REQUEST_SENSE (code == REQUEST_SENSE) o RequestSense _ refl refl (
    coded code READ_6 (code == READ_6) o Read _ refl refl (
    coded code WRITE_6 (code == WRITE_6) o Write _ refl refl (
    coded code WRITE_FILEMARKS (code == WRITE_FILEMARKS) o Filemarks _ refl refl (
    coded code SPACE (code == SPACE) o Space _ refl refl (
    coded code INQUIRY (code == INQUIRY) o Inquiry _ refl refl (
    λ h. absurd cc))))))))
