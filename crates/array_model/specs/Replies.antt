-- What a command answers: status, bytes and sense (7.3, 8.2.14).
use Rattle.std.specs.Prelude.{ℕ, List, []}
use Rattle.cdb_codec.specs.declared.Sense.{Sense}
use Rattle.cdb_codec.specs.declared.sense.TheConstants.{NO_SENSE, ILLEGAL_REQUEST, UNIT_ATTENTION, ABORTED_COMMAND}
use Rattle.cdb_codec.specs.declared.sense.TheConstants.{NO_ADDITIONAL_SENSE, INVALID_OPERATION_CODE, BLOCK_OUT_OF_RANGE}
use Rattle.cdb_codec.specs.declared.sense.TheConstants.{INVALID_FIELD, UNIT_NOT_SUPPORTED, RESET_OCCURRED}
use Rattle.cdb_codec.specs.declared.sense.TheConstants.{COMMANDS_CLEARED}
use Rattle.cdb_codec.specs.declared.status.TheConstants.{GOOD, CHECK_CONDITION, QUEUE_FULL}
use Rattle.cdb_codec.specs.Replies.{plain_sense}

-- Status, the bytes that come back, and with CHECK CONDITION the sense.
pub record Reply : Type 0 where
  pub status : ℕ
  pub bytes : List ℕ
  pub sense : Sense

abbrev pub sense_of : ℕ → ℕ → ℕ → Sense
sense_of key asc ascq = plain_sense key asc ascq

abbrev pub no_sense : Sense
no_sense = sense_of NO_SENSE NO_ADDITIONAL_SENSE 0x00

abbrev pub good : List ℕ → Reply
good bytes = record { status = GOOD; bytes = bytes; sense = no_sense }

abbrev pub check_condition : Sense → Reply
check_condition sense = record { status = CHECK_CONDITION; bytes = []; sense = sense }

abbrev pub queue_full : Reply
queue_full = record { status = QUEUE_FULL; bytes = []; sense = no_sense }

-- The reply of a command that its target aborted, with this additional sense code (8.2.14.3).
abbrev pub aborted_reply : ℕ → Reply
aborted_reply code = check_condition (sense_of ABORTED_COMMAND code 0x00)

-- The senses of our checks (8.2.14.3).
abbrev pub invalid_opcode : Sense
invalid_opcode = sense_of ILLEGAL_REQUEST INVALID_OPERATION_CODE 0x00

abbrev pub block_out_of_range : Sense
block_out_of_range = sense_of ILLEGAL_REQUEST BLOCK_OUT_OF_RANGE 0x00

abbrev pub invalid_field : Sense
invalid_field = sense_of ILLEGAL_REQUEST INVALID_FIELD 0x00

abbrev pub unit_not_supported : Sense
unit_not_supported = sense_of ILLEGAL_REQUEST UNIT_NOT_SUPPORTED 0x00

abbrev pub reset_occurred : Sense
reset_occurred = sense_of UNIT_ATTENTION RESET_OCCURRED 0x00

abbrev pub commands_cleared : Sense
commands_cleared = sense_of UNIT_ATTENTION COMMANDS_CLEARED 0x00
