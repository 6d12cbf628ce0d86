-- What the operation code of REQUEST SENSE and of INQUIRY says of a command (7.9, 8.2.5, 8.2.14).
use Rattle.std.proofs.Common.{ℕ, ◌≡◌, ◌%◌, Bool, true, false, List, [], ◌∷◌, ◌∙◌, refl, sym, length, Option, Some, None}
use Rattle.std.proofs.Common.{Result, Ok, Err}
use Rattle.std.specs.Prelude.{if◌then◌else◌, ◌&&◌, ◌==◌, not, slice_index}
use Rattle.std.proofs.lemmas.Bool.{eqb-true}
use Rattle.cdb_codec.specs.declared.operation.TheConstants.{REQUEST_SENSE, INQUIRY}
use Rattle.cdb_codec.specs.declared.operation.Operation.{Operation}
use Rattle.cdb_codec.specs.declared.operation.Operation.TheVariants as operations
use Rattle.cdb_codec.specs.declared.command.Command.{Command}
use Rattle.cdb_codec.specs.declared.command.Command.TheVariants as commands
use Rattle.cdb_codec.specs.declared.command.CdbFault.{CdbFault}
use Rattle.cdb_codec.specs.declared.command.CdbFault.TheVariants as faults
use Rattle.cdb_codec.specs.Operations.{operation_of}
use Rattle.cdb_codec.specs.Cdb.{command_of, sized_of, has_group_len, fields_of, where_zero, are_zero, lba_6, lba_10}
use Rattle.cdb_codec.specs.Cdb.{count_10, spare_room, spare_10}
use Rattle.cdb_codec.proofs.Codes.{code_is}
use Rattle.array_model.specs.Execution.{is_opcode, is_request_sense, heeds_attention, needs_unit}
use Rattle.scenario.specs.Needs.{is_write}

not_sense : {A : Type 0} (y : Bool) (r : Result Command CdbFault) → is_request_sense r ≡ false
    → is_request_sense (if y then r else Err faults.Length) ≡ true → A
not_sense true r f h = let bad : true ≡ false = sym h ∙ f in cc
not_sense false r f h = cc

-- A command whose fields may have a fault.
where_sense : (spare : List ℕ) (command : Command) → is_request_sense (Ok command) ≡ false
    → is_request_sense (where_zero spare command) ≡ false
where_sense spare command h = go (are_zero spare)
  where
    go : (z : Bool) → is_request_sense (if z then Ok command else Err faults.Field) ≡ false
    go true = h
    go false = refl

-- Its operation code is that of REQUEST SENSE.
pub sense_opcode : (cdb : List ℕ) → is_request_sense (command_of cdb) ≡ true → is_opcode cdb REQUEST_SENSE ≡ true
sense_opcode cdb h = go (length cdb == 0) refl h
  where
    by : (o : Option Operation) → operation_of (slice_index cdb 0) ≡ o → (length cdb == 0) ≡ false
        → is_request_sense (sized_of o cdb) ≡ true → is_opcode cdb REQUEST_SENSE ≡ true
    by None e z k = cc
    by (Some operations.RequestSense) e z k =
        let code : slice_index cdb 0 ≡ REQUEST_SENSE = code_is (slice_index cdb 0) operations.RequestSense e in
        λ i. not (z i) && code i == REQUEST_SENSE
    by (Some operations.TestUnitReady) e z k =
        not_sense (has_group_len cdb) (fields_of operations.TestUnitReady cdb) (where_sense
        (slice_index cdb 1 % 32 ∷ slice_index cdb 2 ∷ slice_index cdb 3 ∷ slice_index cdb 4 ∷ slice_index cdb 5 ∷ [])
        (commands.TestUnitReady) refl) k
    by (Some operations.Read6) e z k = not_sense (has_group_len cdb) (fields_of operations.Read6 cdb)
        (where_sense (slice_index cdb 5 ∷ []) (commands.Read6 (lba_6 cdb) (slice_index cdb 4)) refl) k
    by (Some operations.Write6) e z k = not_sense (has_group_len cdb) (fields_of operations.Write6 cdb)
        (where_sense (slice_index cdb 5 ∷ []) (commands.Write6 (lba_6 cdb) (slice_index cdb 4)) refl) k
    by (Some operations.Inquiry) e z k = not_sense (has_group_len cdb) (fields_of operations.Inquiry cdb)
        (where_sense (spare_room cdb) (commands.Inquiry (slice_index cdb 4)) refl) k
    by (Some operations.ReadCapacity) e z k = not_sense (has_group_len cdb) (fields_of operations.ReadCapacity cdb)
        (where_sense (slice_index cdb 1 % 32 ∷ slice_index cdb 2 ∷ slice_index cdb 3 ∷ slice_index cdb 4
        ∷ slice_index cdb 5 ∷ slice_index cdb 6 ∷ slice_index cdb 7 ∷ slice_index cdb 8 ∷ slice_index cdb 9 ∷ [])
        (commands.ReadCapacity) refl) k
    by (Some operations.Read10) e z k = not_sense (has_group_len cdb) (fields_of operations.Read10 cdb)
        (where_sense (spare_10 cdb) (commands.Read10 (lba_10 cdb) (count_10 cdb)) refl) k
    by (Some operations.Write10) e z k = not_sense (has_group_len cdb) (fields_of operations.Write10 cdb)
        (where_sense (spare_10 cdb) (commands.Write10 (lba_10 cdb) (count_10 cdb)) refl) k

    go : (y : Bool) → (length cdb == 0) ≡ y
        → is_request_sense (if y then Err faults.Length else sized_of (operation_of (slice_index cdb 0)) cdb) ≡ true
        → is_opcode cdb REQUEST_SENSE ≡ true
    go true e k = cc
    go false e k = by (operation_of (slice_index cdb 0)) refl e k

pub heeds_none : (cdb : List ℕ) → is_request_sense (command_of cdb) ≡ true → heeds_attention cdb ≡ false
heeds_none cdb h = (λ i. not (is_opcode cdb INQUIRY) && not (sense_opcode cdb h i)) ∙ none (not (is_opcode cdb INQUIRY))
  where
    none : (y : Bool) → (y && false) ≡ false
    none true = refl
    none false = refl

-- What heeds one is none.
pub no_sense : (cdb : List ℕ) → heeds_attention cdb ≡ true → false ≡ is_request_sense (command_of cdb)
no_sense cdb h = go (is_request_sense (command_of cdb)) refl
  where
    go : (y : Bool) → is_request_sense (command_of cdb) ≡ y → false ≡ is_request_sense (command_of cdb)
    go false e = sym e
    go true e = let bad : true ≡ false = sym h ∙ heeds_none cdb e in absurd cc

-- ---- a block whose operation code is that of INQUIRY is an INQUIRY, or has a fault of length or fields

abbrev pub is_inquiry_or_faulty : Result Command CdbFault → Bool
is_inquiry_or_faulty (Ok (commands.Inquiry room)) = true
is_inquiry_or_faulty (Err faults.Length) = true
is_inquiry_or_faulty (Err faults.Field) = true
is_inquiry_or_faulty _ = false

sized_inquiry : (cdb : List ℕ) → is_inquiry_or_faulty (sized_of (Some operations.Inquiry) cdb) ≡ true
sized_inquiry cdb = go (has_group_len cdb) (are_zero (spare_room cdb))
  where
    go : (y z : Bool) → is_inquiry_or_faulty
        (if y then (if z then Ok (commands.Inquiry (slice_index cdb 4)) else Err faults.Field) else Err faults.Length)
        ≡ true
    go true true = refl
    go _ _ = refl

pub inquiry_command : (cdb : List ℕ) → is_opcode cdb INQUIRY ≡ true → is_inquiry_or_faulty (command_of cdb) ≡ true
inquiry_command cdb h = go (length cdb == 0) h
  where
    go : (y : Bool) → (not y && slice_index cdb 0 == INQUIRY) ≡ true
        → is_inquiry_or_faulty (if y then Err faults.Length else sized_of (operation_of (slice_index cdb 0)) cdb) ≡ true
    go true k = refl
    go false k =
        let code : slice_index cdb 0 ≡ INQUIRY = eqb-true (slice_index cdb 0) INQUIRY k in
        (λ i. is_inquiry_or_faulty (sized_of (operation_of (code i)) cdb)) ∙ sized_inquiry cdb

-- A write needs its unit.
pub write_needs : (cdb : List ℕ) → is_write (command_of cdb) ≡ true → needs_unit cdb ≡ true
write_needs cdb w = go (is_opcode cdb INQUIRY) refl
  where
    plain : (r : Result Command CdbFault) → is_write r ≡ true → is_request_sense r ≡ false
    plain (Ok (commands.RequestSense room)) k = cc
    plain (Ok commands.TestUnitReady) k = refl
    plain _ k = refl

    no_inquiry : {A : Type 0} (r : Result Command CdbFault) → is_write r ≡ true → is_inquiry_or_faulty r ≡ true → A
    no_inquiry (Ok (commands.Write6 lba count)) k h = cc
    no_inquiry (Ok (commands.Write10 lba count)) k h = cc
    no_inquiry _ k h = cc

    go : (x : Bool) → is_opcode cdb INQUIRY ≡ x → needs_unit cdb ≡ true
    go true e = no_inquiry (command_of cdb) w (inquiry_command cdb e)
    go false e = λ i. not (e i) && not (plain (command_of cdb) w i)
