-- What a medium would answer to a command.
use Rattle.std.specs.Prelude.{ℕ, ◌==◌, length, Option, Some, None, if◌then◌else◌}
use Rattle.cdb_codec.specs.declared.Sense.{Sense}
use Rattle.cdb_codec.specs.declared.status.TheConstants.{CHECK_CONDITION}
use Rattle.array_model.specs.Execution.{Reply}
use Rattle.disk_unit.specs.declared.media.Plan.{Plan}

abbrev pub sense_if : Reply → Option Sense
sense_if reply = if reply.status == CHECK_CONDITION then Some reply.sense else None

-- The plan of a reply, where so many bytes go to the target.
abbrev pub plan_of : Reply → ℕ → Plan
plan_of reply out = record { status = reply.status; sense = sense_if reply; in_len = length reply.bytes; out_len = out }
