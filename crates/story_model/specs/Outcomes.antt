-- How each command ended, as its initiator knows it; and which commands and scenarios must end well.
use Rattle.std.specs.Prelude.{ℕ, ◌+◌, Bool, true, false, not, ◌&&◌, ◌||◌, ◌==◌, List, [], ◌∷◌, Option, Some, None}
use Rattle.std.specs.Prelude.{Result, Ok, Err, nat_le, if◌then◌else◌}
use Rattle.std.specs.List.{list_any}
use Rattle.bus_phases.specs.bus_base.specs.declared.ProcId.{ProcId}
use Rattle.bus_phases.specs.bus_base.specs.declared.Event.{Event}
use Rattle.bus_phases.specs.bus_base.specs.declared.Event.TheVariants as events
use Rattle.array_model.specs.cdb_codec.specs.declared.Sense.{Sense}
use Rattle.array_model.specs.cdb_codec.specs.declared.operation.TheConstants.{REQUEST_SENSE, INQUIRY}
use Rattle.array_model.specs.cdb_codec.specs.declared.status.TheConstants.{GOOD, QUEUE_FULL}
use Rattle.array_model.specs.cdb_codec.specs.declared.command.Command.{Command}
use Rattle.array_model.specs.cdb_codec.specs.declared.command.CdbFault.{CdbFault}
use Rattle.array_model.specs.cdb_codec.specs.declared.tape_command.TapeCommand.{TapeCommand}
use Rattle.array_model.specs.cdb_codec.specs.declared.tape_command.TapeCommand.TheVariants as tapes
use Rattle.array_model.specs.cdb_codec.specs.Cdb.{command_of}
use Rattle.array_model.specs.cdb_codec.specs.TapeCdb.{tape_command_of}
use Rattle.array_model.specs.cdb_codec.specs.Replies.{sense_of_data}
use Rattle.array_model.specs.scenario.specs.declared.value.HostDef.{HostDef}
use Rattle.array_model.specs.scenario.specs.declared.value.UnitDef.{UnitDef}
use Rattle.array_model.specs.scenario.specs.declared.value.CmdDef.{CmdDef}
use Rattle.array_model.specs.scenario.specs.Value.{ScenarioValue}
use Rattle.array_model.specs.scenario.specs.Lookups.{has_target, unit_of, units_of, is_tape}
use Rattle.array_model.specs.Processes.{same_id}
use Rattle.array_model.specs.Execution.{Reply, is_opcode, range_of, is_good_range}
use Rattle.array_model.specs.ArrayHistory.{array_after, reply_of}
use Rattle.story_model.specs.Story.{Ending, by_status, by_loss, by_reset, by_abort, unanswered, Story}

pub data Outcome : Type 0 where
  ended_good : List ℕ → Outcome
  -- with the sense that its automatic REQUEST SENSE brought, if that ended
  ended_check : Option Sense → Outcome
  ended_full : Outcome
  ended_unanswered : Outcome
  ended_lost : Outcome
  ended_reset : Outcome
  ended_aborted : Outcome

-- ---- the sense that came back

abbrev pub is_end_of : ProcId → Event → Bool
is_end_of id (events.End p status) = same_id p id
is_end_of id _ = false

abbrev pub has_end : List Event → ProcId → Bool
has_end history id = list_any (λ e. is_end_of id e) history

-- The sense that the bytes of sense data name, if any came (8.2.14).
abbrev pub sense_in : List ℕ → Option Sense
sense_in [] = None
sense_in (b ∷ bytes) = Some (sense_of_data (b ∷ bytes))

abbrev pub reply_bytes_if : Option Reply → List ℕ
reply_bytes_if None = []
reply_bytes_if (Some reply) = reply.bytes

abbrev pub reply_bytes : ScenarioValue → List Event → ProcId → List ℕ
reply_bytes s history id = reply_bytes_if (reply_of (array_after s history) id)

abbrev pub sense_of_end : ScenarioValue → List Event → ProcId → Option Sense
sense_of_end s history id = if has_end history id then sense_in (reply_bytes s history id) else None

-- ---- outcomes

abbrev pub outcome_by_status : ScenarioValue → List Event → ℕ → ℕ → Outcome
outcome_by_status s history n status =
    if status == GOOD then ended_good (reply_bytes s history (record { command = n; sense = false }))
    else if status == QUEUE_FULL then ended_full
    else ended_check (sense_of_end s history (record { command = n; sense = true }))

abbrev pub outcome_by : ScenarioValue → List Event → ℕ → Ending → Outcome
outcome_by s history n (by_status status) = outcome_by_status s history n status
outcome_by s history n by_loss = ended_lost
outcome_by s history n by_reset = ended_reset
outcome_by s history n by_abort = ended_aborted
outcome_by s history n unanswered = ended_unanswered

abbrev pub ending_of : List (ℕ × Ending) → ℕ → Option Ending
ending_of [] n = None
ending_of (e ∷ ended) n = if e.0 == n then Some e.1 else ending_of ended n

abbrev pub outcome_if : ScenarioValue → List Event → ℕ → Option Ending → Option Outcome
outcome_if s history n None = None
outcome_if s history n (Some e) = Some (outcome_by s history n e)

-- The outcome of the n-th command; none while it is open or not yet sent.
abbrev pub outcome_of : ScenarioValue → Story → ℕ → Option Outcome
outcome_of s b n = outcome_if s b.history n (ending_of b.ended n)

abbrev pub outcomes_from : ScenarioValue → Story → ℕ → List CmdDef → List (Option Outcome)
outcomes_from s b n [] = []
outcomes_from s b n (c ∷ commands) = outcome_of s b n ∷ outcomes_from s b (n + 1) commands

abbrev pub outcomes : ScenarioValue → Story → List (Option Outcome)
outcomes s b = outcomes_from s b 1 s.commands

-- ---- valid commands, and scenarios with room

abbrev pub fits_unit : Option UnitDef → Command → Bool
fits_unit None k = false
fits_unit (Some u) k = is_good_range u.blocks (range_of k)

abbrev pub is_sound_command : ScenarioValue → CmdDef → Result Command CdbFault → Bool
is_sound_command s c (Err fault) = false
is_sound_command s c (Ok k) =
    is_opcode c.cdb INQUIRY || is_opcode c.cdb REQUEST_SENSE || fits_unit (unit_of s c.target c.unit) k

-- What ends GOOD wherever a tape stands.
abbrev pub is_plain_at_tape : Result TapeCommand CdbFault → Bool
is_plain_at_tape (Ok tapes.TestUnitReady) = true
is_plain_at_tape (Ok tapes.Rewind) = true
is_plain_at_tape (Ok (tapes.RequestSense room)) = true
is_plain_at_tape (Ok (tapes.Inquiry room)) = true
is_plain_at_tape _ = false

-- Its target is there; its command descriptor block has no fault; and its unit is there and its range is good, or it
-- is INQUIRY or REQUEST SENSE. At a tape it is TEST UNIT READY, INQUIRY, REQUEST SENSE or REWIND.
abbrev pub is_valid : ScenarioValue → CmdDef → Bool
is_valid s c = has_target s c.target
    && (if is_tape s c.target c.unit then is_plain_at_tape (tape_command_of c.cdb)
    else is_sound_command s c (command_of c.cdb))

abbrev pub most_open : List HostDef → ℕ
most_open [] = 0
most_open (h ∷ hosts) = h.most + most_open hosts

-- Every queue has room for all that the initiators may have open at once.
abbrev pub is_roomy : ScenarioValue → Bool
is_roomy s = not (list_any (λ (u : UnitDef). not (nat_le (most_open s.hosts) u.depth)) (units_of s))
