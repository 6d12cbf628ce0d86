-- What a command does at a tape, and what it answers (8.2.14, 10.2).
use Rattle.std.specs.Prelude.{ℕ, ◌+◌, ◌-◌, min, ℤ, pos, negsuc, nat_abs, Bool, true, false, ◌==◌, List, [], length}
use Rattle.std.specs.Prelude.{take}
use Rattle.std.specs.Prelude.{Some, Result, Ok, Err, nat_le, if◌then◌else◌}
use Rattle.cdb_codec.specs.declared.Sense.{Sense}
use Rattle.cdb_codec.specs.declared.replies.TheConstants.{SENSE_LEN, INQUIRY_LEN}
use Rattle.cdb_codec.specs.declared.status.TheConstants.{CHECK_CONDITION}
use Rattle.cdb_codec.specs.declared.tape_command.TapeCommand.{TapeCommand}
use Rattle.cdb_codec.specs.declared.tape_command.TapeCommand.TheVariants as tapes
use Rattle.cdb_codec.specs.declared.tape_operation.TheConstants.{SPACE_BLOCKS, SPACE_FILEMARKS}
use Rattle.cdb_codec.specs.declared.command.CdbFault.{CdbFault}
use Rattle.cdb_codec.specs.declared.command.CdbFault.TheVariants as faults
use Rattle.cdb_codec.specs.declared.sense.TheConstants.{NO_SENSE, BLANK_CHECK, VOLUME_OVERFLOW, NO_ADDITIONAL_SENSE}
use Rattle.cdb_codec.specs.declared.sense.TheConstants.{FILEMARK_DETECTED, END_OF_DATA_DETECTED, FILEMARK}
use Rattle.cdb_codec.specs.declared.sense.TheConstants.{END_OF_MEDIUM}
use Rattle.cdb_codec.specs.declared.sense.TheConstants.{BEGINNING_OF_MEDIUM_DETECTED, END_OF_MEDIUM_DETECTED}
use Rattle.cdb_codec.specs.Replies.{sense_data, tape_inquiry_data}
use Rattle.array_model.specs.Replies.{Reply, good, check_condition, invalid_opcode, invalid_field}
use Rattle.array_model.specs.declared.walk.Walk.{Walk}
use Rattle.array_model.specs.declared.walk.Stop.{Stop}
use Rattle.array_model.specs.declared.walk.Stop.TheVariants as stops
use Rattle.array_model.specs.Reels.{Object, Reel, way_from, over_blocks, over_filemarks, position_after, reel_at}
use Rattle.array_model.specs.Reels.{bytes_ahead}
use Rattle.array_model.specs.Reels.{blocks_of, filemarks, reel_with}

-- How many objects there may be at most, of how many bytes a block is, and the reel.
pub record Tape : Type 0 where
  pub capacity : ℕ
  pub size : ℕ
  pub reel : Reel

abbrev pub with_reel : Tape → Reel → Tape
with_reel t r = record { capacity = t.capacity; size = t.size; reel = r }

-- The reel afterwards, and the reply.
pub record TapeExecution : Type 0 where
  pub reel : Reel
  pub reply : Reply

-- ---- senses (8.2.14.3): marks are 80 of a filemark, 40 of an end of the medium (8.2.14)

abbrev pub filemark_detected : ℕ → Sense
filemark_detected left = record {
  key = NO_SENSE;
  asc = NO_ADDITIONAL_SENSE;
  ascq = FILEMARK_DETECTED;
  marks = FILEMARK;
  residue = Some left;
}

abbrev pub end_of_data_detected : ℕ → Sense
end_of_data_detected left = record {
  key = BLANK_CHECK;
  asc = NO_ADDITIONAL_SENSE;
  ascq = END_OF_DATA_DETECTED;
  marks = 0x00;
  residue = Some left;
}

abbrev pub beginning_of_medium_detected : ℕ → Sense
beginning_of_medium_detected left = record {
  key = NO_SENSE;
  asc = NO_ADDITIONAL_SENSE;
  ascq = BEGINNING_OF_MEDIUM_DETECTED;
  marks = END_OF_MEDIUM;
  residue = Some left;
}

abbrev pub end_of_medium_detected : ℕ → Sense
end_of_medium_detected left = record {
  key = VOLUME_OVERFLOW;
  asc = NO_ADDITIONAL_SENSE;
  ascq = END_OF_MEDIUM_DETECTED;
  marks = END_OF_MEDIUM;
  residue = Some left;
}

-- What a walk meets at the edge, forward or backward.
abbrev pub edge_detected : Bool → ℕ → Sense
edge_detected true left = end_of_data_detected left
edge_detected false left = beginning_of_medium_detected left

-- ---- replies

-- CHECK CONDITION, with the bytes that were read before it.
abbrev pub check_after : List ℕ → Sense → Reply
check_after bytes sense = record { status = CHECK_CONDITION; bytes = bytes; sense = sense }

-- Of a walk that was to move over some more.
abbrev pub stop_reply : Stop → Bool → ℕ → List ℕ → Reply
stop_reply stops.Count forward left bytes = good bytes
stop_reply stops.Filemark forward left bytes = check_after bytes (filemark_detected left)
stop_reply stops.Edge forward left bytes = check_after bytes (edge_detected forward left)

abbrev pub unmoved : Tape → Reply → TapeExecution
unmoved t reply = record { reel = t.reel; reply = reply }

-- After this walk, which was to move over n, and gave these bytes.
abbrev pub walk_execution : Tape → Bool → ℕ → List ℕ → Walk → TapeExecution
walk_execution t forward n bytes w = record {
  reel = reel_at t.reel (position_after t.reel.position forward w.passed);
  reply = stop_reply w.stop forward (n - w.moved) bytes;
}

-- ---- the commands

-- READ (10.2.4).
abbrev pub read_execution : Tape → ℕ → Walk → TapeExecution
read_execution t n w = walk_execution t true n (bytes_ahead t.reel w.moved) w

-- SPACE (10.2.12) over blocks, over filemarks, and else to the end of data.
abbrev pub space_execution : Tape → ℕ → Bool → ℕ → TapeExecution
space_execution t code forward n =
    if code == SPACE_BLOCKS then walk_execution t forward n [] (over_blocks (way_from t.reel forward) n)
    else if code == SPACE_FILEMARKS then walk_execution t forward n [] (over_filemarks (way_from t.reel forward) n)
    else record { reel = reel_at t.reel (length t.reel.objects); reply = good [] }

-- Whether there is room for so many objects more.
abbrev pub has_room : Tape → ℕ → Bool
has_room t n = nat_le (t.reel.position + n) t.capacity

-- WRITE (10.2.14) and WRITE FILEMARKS (10.2.15) put all of these n objects, where there is room for them; none change
-- nothing.
abbrev pub written_reel : Tape → ℕ → List Object → Reel
written_reel t n objects = if n == 0 then t.reel else if has_room t n then reel_with t.reel objects else t.reel

abbrev pub write_reply : Tape → ℕ → Reply
write_reply t n =
    if n == 0 then good [] else if has_room t n then good [] else check_condition (end_of_medium_detected n)

abbrev pub write_execution : Tape → ℕ → List Object → TapeExecution
write_execution t n objects = record { reel = written_reel t n objects; reply = write_reply t n }

-- Forward, unless the count is negative; and over how many.
abbrev pub is_forward : ℤ → Bool
is_forward (pos n) = true
is_forward (negsuc n) = false

-- REQUEST SENSE gives this sense.
abbrev pub tape_execution : Tape → Sense → TapeCommand → List ℕ → TapeExecution
tape_execution t sense tapes.TestUnitReady sent = unmoved t (good [])
tape_execution t sense tapes.Rewind sent = record { reel = reel_at t.reel 0; reply = good [] }
tape_execution t sense (tapes.RequestSense room) sent = unmoved t (good (take (min room SENSE_LEN) (sense_data sense)))
tape_execution t sense (tapes.Read n) sent = read_execution t n (over_blocks (way_from t.reel true) n)
tape_execution t sense (tapes.Write n) sent = write_execution t n (blocks_of t.size n sent)
tape_execution t sense (tapes.Inquiry room) sent = unmoved t (good (take (min room INQUIRY_LEN) tape_inquiry_data))
tape_execution t sense (tapes.Filemarks n) sent = write_execution t n (filemarks n)
tape_execution t sense (tapes.Space code count) sent = space_execution t code (is_forward count) (nat_abs count)

abbrev pub tape_cdb_execution : Tape → Sense → Result TapeCommand CdbFault → List ℕ → TapeExecution
tape_cdb_execution t sense (Ok c) sent = tape_execution t sense c sent
tape_cdb_execution t sense (Err faults.Opcode) sent = unmoved t (check_condition invalid_opcode)
tape_cdb_execution t sense (Err faults.Length) sent = unmoved t (check_condition invalid_field)
tape_cdb_execution t sense (Err faults.Field) sent = unmoved t (check_condition invalid_field)
