-- A disk and a tape read the commands that both have alike, and agree on what writes blocks.
use Rattle.std.proofs.Common.{◌≡◌, ℕ, ◌%◌, Bool, true, false, cond, List, [], ◌∷◌, length, Option, Some, None, Result}
use Rattle.std.proofs.Common.{Ok, Err}
use Rattle.std.proofs.Common.{refl, sym, ap, ◌∙◌, subst}
use Rattle.std.specs.Prelude.{◌==◌, slice_index}
use Rattle.cdb_codec.specs.declared.command.Command.{Command}
use Rattle.cdb_codec.specs.declared.command.Command.TheVariants as commands
use Rattle.cdb_codec.specs.declared.command.CdbFault.{CdbFault}
use Rattle.cdb_codec.specs.declared.command.CdbFault.TheVariants.{Opcode, Length, Field}
use Rattle.cdb_codec.specs.declared.operation.Operation.{Operation}
use Rattle.cdb_codec.specs.declared.operation.Operation.TheVariants as operations
use Rattle.cdb_codec.specs.declared.tape_command.TapeCommand.{TapeCommand}
use Rattle.cdb_codec.specs.declared.tape_command.TapeCommand.TheVariants as tapes
use Rattle.cdb_codec.specs.declared.tape_operation.TapeOperation.{TapeOperation}
use Rattle.cdb_codec.specs.declared.tape_operation.TapeOperation.TheVariants.{TestUnitReady, Rewind, RequestSense, Read}
use Rattle.cdb_codec.specs.declared.tape_operation.TapeOperation.TheVariants.{Write, Filemarks, Space, Inquiry}
use Rattle.cdb_codec.specs.Operations.{operation_of}
use Rattle.cdb_codec.specs.TapeOperations.{tape_operation_of}
use Rattle.cdb_codec.specs.Cdb.{has_group_len, are_zero, spare_room, spare_10, lba_6, lba_10, count_10, sized_of}
use Rattle.cdb_codec.specs.Cdb.{command_of}
use Rattle.cdb_codec.specs.TapeCdb.{is_space_code, low_bits, above_immed, count_6, signed_count_6, tape_sized_of}
use Rattle.cdb_codec.specs.TapeCdb.{tape_command_of}
use Rattle.cdb_codec.specs.Kinds.{is_request_sense, is_write, is_tape_request_sense, is_tape_write, shared_command}
use Rattle.cdb_codec.specs.Kinds.{tape_shared_command}
use Rattle.cdb_codec.proofs.Codes.{code_of, code_is}
use Rattle.cdb_codec.proofs.TapeCodes.{tape_code_of, tape_code_is}

-- what the two readings have in common
record IsAlike (disk : Result Command CdbFault) (tape : Result TapeCommand CdbFault) : Type 0 where
  shared : shared_command disk ≡ tape_shared_command tape
  writes : (c : TapeCommand) → tape ≡ Ok c → is_write disk ≡ is_tape_write (Ok c)

-- a reading of a disk that is none of the shared commands and writes nothing, and one of a tape
IsOther : Result Command CdbFault → Type 0
IsOther r = (shared_command r ≡ None) × (is_write r ≡ false)

IsTapeOther : Result TapeCommand CdbFault → Type 0
IsTapeOther r = (tape_shared_command r ≡ None) × (is_tape_write r ≡ false)

others : (r : Result Command CdbFault) (x : Result TapeCommand CdbFault) → IsOther r → IsTapeOther x → IsAlike r x
unfolding IsOther IsTapeOther
others r x d t = record {
  shared = d.0 ∙ sym t.0;
  writes = λ c e. d.1 ∙ sym t.1 ∙ ap is_tape_write e;
}

-- a command, if its tests hold
other_if : (t u : Bool) (k : Command) → IsOther (Ok k) → IsOther (cond t (cond u (Ok k) (Err Field)) (Err Length))
unfolding IsOther
other_if true true k h = h
other_if true false k h = (refl, refl)
other_if false u k h = (refl, refl)

tape_other_if : (t u : Bool) (c : TapeCommand) → IsTapeOther (Ok c)
    → IsTapeOther (cond t (cond u (Ok c) (Err Field)) (Err Length))
unfolding IsTapeOther
tape_other_if true true c h = h
tape_other_if true false c h = (refl, refl)
tape_other_if false u c h = (refl, refl)

tape_other_both : (t v u : Bool) (c : TapeCommand) → IsTapeOther (Ok c)
    → IsTapeOther (cond t (cond v (cond u (Ok c) (Err Field)) (Err Field)) (Err Length))
unfolding IsTapeOther
tape_other_both true true true c h = h
tape_other_both true true false c h = (refl, refl)
tape_other_both true false u c h = (refl, refl)
tape_other_both false v u c h = (refl, refl)

-- a shared command, with the same tests in both readings
same_if : (t u : Bool) (k : Command) (c : TapeCommand) → IsAlike (Ok k) (Ok c)
    → IsAlike (cond t (cond u (Ok k) (Err Field)) (Err Length)) (cond t (cond u (Ok c) (Err Field)) (Err Length))
same_if true true k c h = h
same_if true false k c h = record { shared = refl; writes = λ d e. absurd cc }
same_if false u k c h = record { shared = refl; writes = λ d e. absurd cc }

shared_alike : (k : Command) (c : TapeCommand) → shared_command (Ok k) ≡ tape_shared_command (Ok c)
    → is_write (Ok k) ≡ is_tape_write (Ok c) → IsAlike (Ok k) (Ok c)
shared_alike k c s w = record { shared = s; writes = λ d e. w ∙ ap is_tape_write e }

-- WRITE is a write of a disk too, where it counts blocks
write_if : (t v u : Bool) (lba count n : ℕ)
    → IsAlike (cond t (cond u (Ok (commands.Write6 lba count)) (Err Field)) (Err Length))
    (cond t (cond v (cond u (Ok (tapes.Write n)) (Err Field)) (Err Field)) (Err Length))
write_if true true true lba count n = record { shared = refl; writes = λ d e. ap is_tape_write e }
write_if true true false lba count n = record { shared = refl; writes = λ d e. absurd cc }
write_if true false true lba count n = record { shared = refl; writes = λ d e. absurd cc }
write_if true false false lba count n = record { shared = refl; writes = λ d e. absurd cc }
write_if false v u lba count n = record { shared = refl; writes = λ d e. absurd cc }

-- each operation of a tape
with_code : (o : TapeOperation) (rest : List ℕ)
    → IsAlike (sized_of (operation_of (tape_code_of o)) (tape_code_of o ∷ rest))
    (tape_sized_of (Some o) (tape_code_of o ∷ rest))
unfolding IsOther IsTapeOther
with_code TestUnitReady rest =
    let bytes = 0x00 ∷ rest in
    same_if (has_group_len bytes) (are_zero (low_bits bytes ∷ slice_index bytes 2 ∷ slice_index bytes 3
    ∷ slice_index bytes 4 ∷ slice_index bytes 5 ∷ [])) commands.TestUnitReady tapes.TestUnitReady
    (shared_alike commands.TestUnitReady tapes.TestUnitReady refl refl)
with_code RequestSense rest =
    let bytes = 0x03 ∷ rest in
    same_if (has_group_len bytes) (are_zero (spare_room bytes)) (commands.RequestSense (slice_index bytes 4))
    (tapes.RequestSense (slice_index bytes 4))
    (shared_alike (commands.RequestSense (slice_index bytes 4)) (tapes.RequestSense (slice_index bytes 4)) refl refl)
with_code Inquiry rest =
    let bytes = 0x12 ∷ rest in
    same_if (has_group_len bytes) (are_zero (spare_room bytes)) (commands.Inquiry (slice_index bytes 4))
    (tapes.Inquiry (slice_index bytes 4))
    (shared_alike (commands.Inquiry (slice_index bytes 4)) (tapes.Inquiry (slice_index bytes 4)) refl refl)
with_code Rewind rest =
    let bytes = 0x01 ∷ rest in
    others (Err Opcode) (tape_sized_of (Some Rewind) bytes) (refl, refl)
    (tape_other_if (has_group_len bytes) (are_zero (above_immed bytes ∷ slice_index bytes 2 ∷ slice_index bytes 3
    ∷ slice_index bytes 4 ∷ slice_index bytes 5 ∷ [])) tapes.Rewind (refl, refl))
with_code Read rest =
    let bytes = 0x08 ∷ rest in
    others (sized_of (Some operations.Read6) bytes) (tape_sized_of (Some Read) bytes)
    (other_if (has_group_len bytes) (are_zero (slice_index bytes 5 ∷ []))
    (commands.Read6 (lba_6 bytes) (slice_index bytes 4)) (refl, refl))
    (tape_other_both (has_group_len bytes) (low_bits bytes == 0x01) (are_zero (slice_index bytes 5 ∷ []))
    (tapes.Read (count_6 bytes)) (refl, refl))
with_code Write rest =
    let bytes = 0x0a ∷ rest in
    write_if (has_group_len bytes) (low_bits bytes == 0x01) (are_zero (slice_index bytes 5 ∷ [])) (lba_6 bytes)
    (slice_index bytes 4) (count_6 bytes)
with_code Filemarks rest =
    let bytes = 0x10 ∷ rest in
    others (Err Opcode) (tape_sized_of (Some Filemarks) bytes) (refl, refl)
    (tape_other_if (has_group_len bytes) (are_zero (above_immed bytes ∷ slice_index bytes 5 ∷ []))
    (tapes.Filemarks (count_6 bytes)) (refl, refl))
with_code Space rest =
    let bytes = 0x11 ∷ rest in
    others (Err Opcode) (tape_sized_of (Some Space) bytes) (refl, refl)
    (tape_other_both (has_group_len bytes) (is_space_code (low_bits bytes)) (are_zero (slice_index bytes 5 ∷ []))
    (tapes.Space (low_bits bytes) (signed_count_6 bytes)) (refl, refl))

-- an operation whose code a tape does not know is not that of one that it knows
known : {A : Type 0} (code : ℕ) (o : Operation) (p : TapeOperation) → operation_of code ≡ Some o
    → tape_operation_of (code_of o) ≡ Some p → tape_operation_of code ≡ None → A
known code o p is found missing =
    let e : Some p ≡ None = sym found ∙ sym (ap tape_operation_of (code_is code o is)) ∙ missing in absurd cc

-- what a tape does not know, it refuses, and a disk then shares nothing with it
refused : (r : Result Command CdbFault) (fault : CdbFault) → shared_command r ≡ None → IsAlike r (Err fault)
refused r fault h = record { shared = h; writes = λ c e. absurd cc }

none_if : (t u : Bool) (k : Command) → shared_command (Ok k) ≡ None
    → IsAlike (cond t (cond u (Ok k) (Err Field)) (Err Length)) (Err Opcode)
none_if true true k h = refused (Ok k) Opcode h
none_if true false k h = refused (Err Field) Opcode refl
none_if false u k h = refused (Err Length) Opcode refl

-- an operation of a disk whose code a tape does not know
unknown : (q : Option Operation) (code : ℕ) (rest : List ℕ) → operation_of code ≡ q → tape_operation_of code ≡ None
    → IsAlike (sized_of q (code ∷ rest)) (Err Opcode)
unknown None code rest is missing = refused (Err Opcode) Opcode refl
unknown (Some operations.TestUnitReady) code rest is missing =
    known code operations.TestUnitReady TestUnitReady is refl missing
unknown (Some operations.RequestSense) code rest is missing =
    known code operations.RequestSense RequestSense is refl missing
unknown (Some operations.Read6) code rest is missing = known code operations.Read6 Read is refl missing
unknown (Some operations.Write6) code rest is missing = known code operations.Write6 Write is refl missing
unknown (Some operations.Inquiry) code rest is missing = known code operations.Inquiry Inquiry is refl missing
unknown (Some operations.ReadCapacity) code rest is missing =
    let bytes = code ∷ rest in
    none_if (has_group_len bytes) (are_zero (slice_index bytes 1 % 32 ∷ slice_index bytes 2 ∷ slice_index bytes 3
    ∷ slice_index bytes 4 ∷ slice_index bytes 5 ∷ slice_index bytes 6 ∷ slice_index bytes 7 ∷ slice_index bytes 8
    ∷ slice_index bytes 9 ∷ [])) commands.ReadCapacity refl
unknown (Some operations.Read10) code rest is missing =
    let bytes = code ∷ rest in
    none_if (has_group_len bytes) (are_zero (spare_10 bytes)) (commands.Read10 (lba_10 bytes) (count_10 bytes)) refl
unknown (Some operations.Write10) code rest is missing =
    let bytes = code ∷ rest in
    none_if (has_group_len bytes) (are_zero (spare_10 bytes)) (commands.Write10 (lba_10 bytes) (count_10 bytes)) refl

by_operation : (q : Option TapeOperation) (code : ℕ) (rest : List ℕ) → tape_operation_of code ≡ q
    → IsAlike (sized_of (operation_of code) (code ∷ rest)) (tape_sized_of q (code ∷ rest))
by_operation None code rest is = unknown (operation_of code) code rest refl is
by_operation (Some o) code rest is =
    let P : ℕ → Type 0 = λ n. IsAlike (sized_of (operation_of n) (n ∷ rest)) (tape_sized_of (Some o) (n ∷ rest)) in
    subst P (sym (tape_code_is code o is)) (with_code o rest)

alike : (bytes : List ℕ) → IsAlike (command_of bytes) (tape_command_of bytes)
alike [] = refused (Err Length) Length refl
alike (code ∷ rest) = filled (length (code ∷ rest) == 0)
  where
    filled : (t : Bool) → IsAlike (cond t (Err Length) (sized_of (operation_of code) (code ∷ rest)))
        (cond t (Err Length) (tape_sized_of (tape_operation_of code) (code ∷ rest)))
    filled true = refused (Err Length) Length refl
    filled false = by_operation (tape_operation_of code) code rest refl

-- whether a shared command is REQUEST SENSE
asks_sense : Option TapeCommand → Bool
asks_sense None = false
asks_sense (Some c) = is_tape_request_sense (Ok c)

disk_asks : (r : Result Command CdbFault) → is_request_sense r ≡ asks_sense (shared_command r)
unfolding asks_sense
disk_asks (Ok commands.TestUnitReady) = refl
disk_asks (Ok (commands.RequestSense room)) = refl
disk_asks (Ok (commands.Read6 lba count)) = refl
disk_asks (Ok (commands.Write6 lba count)) = refl
disk_asks (Ok (commands.Inquiry room)) = refl
disk_asks (Ok commands.ReadCapacity) = refl
disk_asks (Ok (commands.Read10 lba count)) = refl
disk_asks (Ok (commands.Write10 lba count)) = refl
disk_asks (Err fault) = refl

tape_asks : (r : Result TapeCommand CdbFault) → is_tape_request_sense r ≡ asks_sense (tape_shared_command r)
unfolding asks_sense
tape_asks (Ok tapes.TestUnitReady) = refl
tape_asks (Ok tapes.Rewind) = refl
tape_asks (Ok (tapes.RequestSense room)) = refl
tape_asks (Ok (tapes.Read count)) = refl
tape_asks (Ok (tapes.Write count)) = refl
tape_asks (Ok (tapes.Inquiry room)) = refl
tape_asks (Ok (tapes.Filemarks count)) = refl
tape_asks (Ok (tapes.Space code count)) = refl
tape_asks (Err fault) = refl

pub shared_alike_in : (bytes : List ℕ) → tape_shared_command (tape_command_of bytes) ≡ shared_command (command_of bytes)
shared_alike_in bytes = sym (alike bytes).shared

pub senses_alike :
    (bytes : List ℕ) → is_tape_request_sense (tape_command_of bytes) ≡ is_request_sense (command_of bytes)
senses_alike bytes = tape_asks (tape_command_of bytes) ∙ ap asks_sense (shared_alike_in bytes)
    ∙ sym (disk_asks (command_of bytes))

pub writes_alike : (bytes : List ℕ) (c : TapeCommand) → tape_command_of bytes ≡ Ok c
    → is_write (command_of bytes) ≡ is_tape_write (Ok c)
writes_alike bytes c e = (alike bytes).writes c e

-- what a tape writes, a disk would write too
pub tape_write_is_write : (bytes : List ℕ) → is_tape_write (tape_command_of bytes) ≡ true
    → is_write (command_of bytes) ≡ true
tape_write_is_write bytes h = go (tape_command_of bytes) refl h
  where
    go : (r : Result TapeCommand CdbFault) → tape_command_of bytes ≡ r → is_tape_write r ≡ true
        → is_write (command_of bytes) ≡ true
    go (Ok c) e h = writes_alike bytes c e ∙ h
    go (Err fault) e h = absurd cc
