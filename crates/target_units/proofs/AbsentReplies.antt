-- What a command answers where its unit is not there.
use Rattle.std.proofs.Common.{ℕ, ◌≡◌, ◌<◌, ◌+◌, ◌≤◌, Bool, true, false, List, [], ◌∷◌, ◌∙◌, refl, sym, subst, length}
use Rattle.std.proofs.Common.{take, drop, min, arith, Option, Some, None, Result, Ok, Err}
use Rattle.std.specs.Prelude.{◌&&◌, not, is_some, slice_index_or}
use Rattle.std.proofs.lemmas.List.{length-take}
use Rattle.cdb_codec.specs.declared.Sense.{Sense}
use Rattle.cdb_codec.specs.declared.operation.TheConstants.{INQUIRY, REQUEST_SENSE}
use Rattle.cdb_codec.specs.declared.replies.TheConstants.{SENSE_LEN, INQUIRY_LEN}
use Rattle.cdb_codec.specs.Replies.{sense_data, inquiry_data}
use Rattle.cdb_codec.specs.declared.command.Command.{Command}
use Rattle.cdb_codec.specs.declared.command.CdbFault.{CdbFault}
use Rattle.cdb_codec.specs.Cdb.{command_of}
use Rattle.array_model.specs.Contents.{Contents, no_contents}
use Rattle.array_model.specs.Execution.{Reply, CommandContext, execution, check_condition, unit_not_supported}
use Rattle.array_model.specs.Execution.{is_opcode}
use Rattle.array_model.specs.Execution.{is_request_sense, invalid_field, returned_sense}
use Rattle.array_model.specs.Seats.{Seat}
use Rattle.disk_unit.proofs.Replies.{take_part}
use Rattle.target_units.specs.Absent.{AbsentState, IsAbsentAt, absent_reply, absent_reply_by, data_or_refusal}
use Rattle.target_units.specs.Absent.{inquiry_room, sense_room}
use Rattle.array_model.proofs.OperationCodes.{is_inquiry_or_faulty, inquiry_command}
use Rattle.array_model.proofs.Executed.{Passes, absent_executed, faulty_executed, carried_executed}
use Rattle.array_model.proofs.ExecutionFacts.{sense_executed}
use Rattle.cdb_codec.specs.declared.command.Command.TheVariants as commands
use Rattle.cdb_codec.specs.declared.command.CdbFault.TheVariants as faults
use Rattle.array_model.specs.Seats

-- ---- the reply

pub replies : (stored attention : Option Sense) (c : Contents) → c.reel ≡ None → (cdb sent : List ℕ)
    → (execution (record { present = false; contents = c; stored = stored; attention = attention }) cdb sent).reply
    ≡ absent_reply_by stored (is_opcode cdb INQUIRY) (command_of cdb)
replies stored attention c plain cdb sent = go (is_opcode cdb INQUIRY) refl
  where
    m : CommandContext
    m = record { present = false; contents = c; stored = stored; attention = attention }

    passes : is_opcode cdb INQUIRY ≡ true → Passes m cdb
    passes e = record {
      there = λ i. not (e i) && not (is_request_sense (command_of cdb));
      calm = λ sense a i. not (e i) && not (is_opcode cdb REQUEST_SENSE);
    }

    inquired : is_opcode cdb INQUIRY ≡ true → (r : Result Command CdbFault) → command_of cdb ≡ r
        → is_inquiry_or_faulty r ≡ true → (execution m cdb sent).reply ≡ absent_reply_by stored true r
    inquired e (Ok (commands.Inquiry room)) f k =
        λ i. (carried_executed m cdb sent (commands.Inquiry room) plain (passes e) f refl i).reply
    inquired e (Ok commands.TestUnitReady) f k = cc
    inquired e (Ok (commands.RequestSense room)) f k = cc
    inquired e (Ok (commands.Read6 lba count)) f k = cc
    inquired e (Ok (commands.Write6 lba count)) f k = cc
    inquired e (Ok commands.ReadCapacity) f k = cc
    inquired e (Ok (commands.Read10 lba count)) f k = cc
    inquired e (Ok (commands.Write10 lba count)) f k = cc
    inquired e (Err faults.Opcode) f k = cc
    inquired e (Err faults.Length) f k = λ i. (faulty_executed m cdb sent faults.Length plain (passes e) f i).reply
    inquired e (Err faults.Field) f k = λ i. (faulty_executed m cdb sent faults.Field plain (passes e) f i).reply

    refused : is_opcode cdb INQUIRY ≡ false → (r : Result Command CdbFault) → command_of cdb ≡ r
        → is_request_sense r ≡ false → (execution m cdb sent).reply ≡ check_condition unit_not_supported
    refused e r f z =
        λ i. (absent_executed m cdb sent (λ j. not (e j) && not (((λ k. is_request_sense (f k)) ∙ z) j)) i).reply

    other : is_opcode cdb INQUIRY ≡ false → (r : Result Command CdbFault) → command_of cdb ≡ r
        → (execution m cdb sent).reply ≡ absent_reply_by stored false r
    other e (Ok (commands.RequestSense room)) f =
        λ i. (sense_executed m cdb sent (record { room = room; command_is = f }) i).reply
    other e (Ok commands.TestUnitReady) f = refused e (Ok commands.TestUnitReady) f refl
    other e (Ok (commands.Read6 lba count)) f = refused e (Ok (commands.Read6 lba count)) f refl
    other e (Ok (commands.Write6 lba count)) f = refused e (Ok (commands.Write6 lba count)) f refl
    other e (Ok (commands.Inquiry room)) f = refused e (Ok (commands.Inquiry room)) f refl
    other e (Ok commands.ReadCapacity) f = refused e (Ok commands.ReadCapacity) f refl
    other e (Ok (commands.Read10 lba count)) f = refused e (Ok (commands.Read10 lba count)) f refl
    other e (Ok (commands.Write10 lba count)) f = refused e (Ok (commands.Write10 lba count)) f refl
    other e (Err fault) f = refused e (Err fault) f refl

    go : (y : Bool) → is_opcode cdb INQUIRY ≡ y
        → (execution m cdb sent).reply ≡ absent_reply_by stored y (command_of cdb)
    go true e = inquired e (command_of cdb) refl (inquiry_command cdb e)
    go false e = other e (command_of cdb) refl

-- ---- a part of its bytes

part : (room : Option ℕ) (most at n : ℕ) (bytes : List ℕ) (sense : Sense)
    → is_some room ≡ true → at + n ≤ length (data_or_refusal room most bytes sense).bytes
    → take n (drop at bytes) ≡ take n (drop at (data_or_refusal room most bytes sense).bytes)
part None most at n bytes sense some h = cc
part (Some room) most at n bytes sense some h =
    let w : length (take (min room most) bytes) ≡ min (min room most) (length bytes) = length-take
    (min room most) bytes in
    sym (take_part n at (min room most) bytes (omega (arith, w, h)))

pub inquired_part : (v : AbsentState) (from : ℕ) (cdb : List ℕ) (at n : ℕ) → is_opcode cdb INQUIRY ≡ true
    → is_some (inquiry_room (command_of cdb)) ≡ true → at + n ≤ length (absent_reply v from cdb).bytes
    → take n (drop at (inquiry_data false)) ≡ take n (drop at (absent_reply v from cdb).bytes)
inquired_part v from cdb at n e some h =
    let same : absent_reply v from cdb
    ≡ data_or_refusal (inquiry_room (command_of cdb)) INQUIRY_LEN (inquiry_data false) invalid_field =
    λ i. absent_reply_by (slice_index_or v.senses from None) (e i) (command_of cdb) in
    part (inquiry_room (command_of cdb)) INQUIRY_LEN at n (inquiry_data false) invalid_field some
    (subst (λ (r : Reply). at + n ≤ length r.bytes) same h) ∙ (λ i. take n (drop at (sym same i).bytes))

sense_reply : (v : AbsentState) (from : ℕ) (cdb : List ℕ) → is_opcode cdb INQUIRY ≡ false
    → absent_reply v from cdb ≡ data_or_refusal (sense_room (command_of cdb)) SENSE_LEN
    (sense_data (returned_sense false (slice_index_or v.senses from None))) unit_not_supported
sense_reply v from cdb e = λ i. absent_reply_by (slice_index_or v.senses from None) (e i) (command_of cdb)

pub sensed_part : (v : AbsentState) (from : ℕ) (cdb : List ℕ) (at n : ℕ) → is_opcode cdb INQUIRY ≡ false
    → is_some (sense_room (command_of cdb)) ≡ true → at + n ≤ length (absent_reply v from cdb).bytes
    → take n (drop at (sense_data (returned_sense false (slice_index_or v.senses from None))))
    ≡ take n (drop at (absent_reply v from cdb).bytes)
sensed_part v from cdb at n e some h =
    let stored : Sense = returned_sense false (slice_index_or v.senses from None) in
    part (sense_room (command_of cdb)) SENSE_LEN at n (sense_data stored) unit_not_supported some
    (subst (λ (r : Reply). at + n ≤ length r.bytes) (sense_reply v from cdb e) h)
    ∙ (λ i. take n (drop at (sym (sense_reply v from cdb e) i).bytes))

-- There are none.
pub no_part : (v : AbsentState) (from : ℕ) (cdb : List ℕ) (at : ℕ) (into : List ℕ) → is_opcode cdb INQUIRY ≡ false
    → is_some (sense_room (command_of cdb)) ≡ false → at + length into ≤ length (absent_reply v from cdb).bytes
    → into ≡ take (length into) (drop at (absent_reply v from cdb).bytes)
no_part v from cdb at [] e none h = refl
no_part v from cdb at (x ∷ into) e none h = absurd (bad (sense_room (command_of cdb)) none
    (subst (λ (r : Reply). at + length (x ∷ into) ≤ length r.bytes) (sense_reply v from cdb e) h))
  where
    bad : (room : Option ℕ) → is_some room ≡ false → at + length (x ∷ into) ≤ length (data_or_refusal room SENSE_LEN
        (sense_data (returned_sense false (slice_index_or v.senses from None))) unit_not_supported).bytes
        → ⊥
    bad (Some room) k l = cc
    bad None k l = omega (arith, l)

-- ---- at its seat

pub reply_seen : (seat : Seat) (v : AbsentState) (from : ℕ) (cdb sent : List ℕ) → from < 8 → IsAbsentAt seat v
    → absent_reply v from cdb ≡ (execution (Seats.context_of seat from) cdb sent).reply
reply_seen seat v from cdb sent lt h =
    sym (replies (slice_index_or v.senses from None) (seat.attentions from) no_contents refl cdb sent)
    ∙ (λ i. (execution (record {
      present = is_some (sym h.none i);
      contents = Seats.contents_of (sym h.none i);
      stored = h.senses from lt i;
      attention = seat.attentions from;
    }) cdb sent).reply)
