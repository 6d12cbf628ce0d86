-- A command of a tape counts less than 2^24 objects, where its block is of bytes (10.2).
use Rattle.std.proofs.Common.{ℕ, zero, suc, ◌≡◌, ◌<◌, ◌^◌, Bool, true, false, List, [], ◌∷◌, Option, Some, None}
use Rattle.std.proofs.Common.{length, subst, arith}
use Rattle.std.specs.Prelude.{ℤ, pos, negsuc, nat_abs, Result, Ok, Err, slice_index, ◌==◌, if◌then◌else◌}
use Rattle.std.proofs.lemmas.Int.{ints}
use Rattle.cdb_codec.proofs.Counts.{count_fits, signed_fits}
use Rattle.cdb_codec.specs.Cdb.{are_zero, has_group_len, spare_room}
use Rattle.cdb_codec.specs.TapeCdb.{FitsSigned24, above_immed, count_6, is_space_code, low_bits}
use Rattle.cdb_codec.specs.TapeCdb.{signed_count_6, tape_command_of, tape_fields_of, tape_sized_of, tape_where_zero}
use Rattle.cdb_codec.specs.TapeOperations.{tape_operation_of}
use Rattle.cdb_codec.specs.declared.command.CdbFault.{CdbFault}
use Rattle.cdb_codec.specs.declared.command.CdbFault.TheVariants as faults
use Rattle.cdb_codec.specs.declared.tape_command.TapeCommand.{TapeCommand}
use Rattle.cdb_codec.specs.declared.tape_command.TapeCommand.TheVariants as tapes
use Rattle.cdb_codec.specs.declared.tape_operation.TapeOperation.{TapeOperation}
use Rattle.cdb_codec.specs.declared.tape_operation.TapeOperation.TheVariants as operations
use Rattle.array_model.proofs.TapeObjects.{AreBytes}
use Rattle.array_model.proofs.TapeReplies.{counted}

abbrev CountsFew : Result TapeCommand CdbFault → Type 0
CountsFew (Ok c) = counted c < 2 ^ 24
CountsFew (Err fault) = Unit {0}

byte_at : (bytes : List ℕ) → AreBytes bytes → (k : ℕ) → slice_index bytes k < 256
byte_at [] h k = omega arith
byte_at (b ∷ bytes) h zero = h.0
byte_at (b ∷ bytes) h (suc k) = byte_at bytes h.1 k

abs_few : (n : ℤ) → FitsSigned24 n → nat_abs n < 2 ^ 24
abs_few (pos n) h = let low = h.1 in omega (arith, ints, low)
abs_few (negsuc n) h = let high = h.0 in omega (arith, ints, high)

where_few : (spare : List ℕ) (c : TapeCommand) → counted c < 2 ^ 24 → CountsFew (tape_where_zero spare c)
where_few spare c h = go (are_zero spare)
  where
    go : (q : Bool) → CountsFew (if q then Ok c else Err faults.Field)
    go true = h
    go false = tt

where_if : (q : Bool) (spare : List ℕ) (c : TapeCommand) → counted c < 2 ^ 24
    → CountsFew (if q then tape_where_zero spare c else Err faults.Field)
where_if true spare c h = where_few spare c h
where_if false spare c h = tt

fields_few : (o : TapeOperation) (bytes : List ℕ) → AreBytes bytes → CountsFew (tape_fields_of o bytes)
fields_few operations.TestUnitReady bytes h = where_few (low_bits bytes ∷ slice_index bytes 2 ∷ slice_index bytes 3
    ∷ slice_index bytes 4 ∷ slice_index bytes 5 ∷ []) tapes.TestUnitReady (omega arith)
fields_few operations.Rewind bytes h = where_few (above_immed bytes ∷ slice_index bytes 2 ∷ slice_index bytes 3
    ∷ slice_index bytes 4 ∷ slice_index bytes 5 ∷ []) tapes.Rewind (omega arith)
fields_few operations.RequestSense bytes h =
    where_few (spare_room bytes) (tapes.RequestSense (slice_index bytes 4)) (omega arith)
fields_few operations.Read bytes h = where_if (low_bits bytes == 0x01) (slice_index bytes 5 ∷ [])
    (tapes.Read (count_6 bytes)) (count_fits bytes (byte_at bytes h))
fields_few operations.Write bytes h = where_if (low_bits bytes == 0x01) (slice_index bytes 5 ∷ [])
    (tapes.Write (count_6 bytes)) (count_fits bytes (byte_at bytes h))
fields_few operations.Filemarks bytes h = where_few (above_immed bytes ∷ slice_index bytes 5 ∷ [])
    (tapes.Filemarks (count_6 bytes)) (count_fits bytes (byte_at bytes h))
fields_few operations.Space bytes h = where_if (is_space_code (low_bits bytes)) (slice_index bytes 5 ∷ [])
    (tapes.Space (low_bits bytes) (signed_count_6 bytes))
    (abs_few (signed_count_6 bytes) (signed_fits bytes (byte_at bytes h)))
fields_few operations.Inquiry bytes h =
    where_few (spare_room bytes) (tapes.Inquiry (slice_index bytes 4)) (omega arith)

sized_few : (o : Option TapeOperation) (bytes : List ℕ) → AreBytes bytes → CountsFew (tape_sized_of o bytes)
sized_few None bytes h = tt
sized_few (Some o) bytes h = go (has_group_len bytes)
  where
    go : (q : Bool) → CountsFew (if q then tape_fields_of o bytes else Err faults.Length)
    go true = fields_few o bytes h
    go false = tt

pub counts_few : (cdb : List ℕ) (c : TapeCommand) → AreBytes cdb → tape_command_of cdb ≡ Ok c → counted c < 2 ^ 24
counts_few cdb c h e = subst CountsFew e (go (length cdb == 0))
  where
    go : (q : Bool)
        → CountsFew (if q then Err faults.Length else tape_sized_of (tape_operation_of (slice_index cdb 0)) cdb)
    go true = tt
    go false = sized_few (tape_operation_of (slice_index cdb 0)) cdb h
