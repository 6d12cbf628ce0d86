-- The outcome of a command of an initiator's own, by how it ended and what came to it.
use Rattle.std.specs.Prelude.{ℕ, ◌==◌, ◌&&◌, ◌||◌, not, Bool, true, false, List, Option, Some, None, if◌then◌else◌}
use Rattle.bus_base.specs.declared.Event.{Event}
use Rattle.bus_base.specs.declared.ProcId.{ProcId}
use Rattle.cdb_codec.specs.declared.status.TheConstants.{GOOD, QUEUE_FULL}
use Rattle.scenario.specs.Value.{ScenarioValue}
use Rattle.story_model.specs.Outcomes as told
use Rattle.story_model.specs.Outcomes.{ended_good, ended_check, ended_full, ended_unanswered, ended_lost, ended_reset}
use Rattle.story_model.specs.Outcomes.{ended_aborted, sense_in, reply_bytes, outcome_of}
use Rattle.story_model.specs.Right.{same_bytes}
use Rattle.story_model.specs.Story.{Story}
use Rattle.story_model.specs.Items.{sense_id, command_id}
use Rattle.initiator_books.specs.declared.mine.Mine.{Mine}
use Rattle.initiator_books.specs.declared.endings.CommandEnd.{CommandEnd}
use Rattle.initiator_books.specs.declared.endings.Ending.{Ending}
use Rattle.initiator_books.specs.declared.endings.Ending.TheVariants as ends
use Rattle.run_record.specs.declared.outcome.Outcome.{Outcome}
use Rattle.run_record.specs.declared.outcome.Outcome.TheVariants as outcomes

-- ---- whether it is known

-- A command that ended with another status than GOOD and QUEUE FULL waits for its automatic REQUEST SENSE: until that
-- has ended, or is over without an end.
abbrev pub is_settled_by : Ending → Bool → Bool → Bool
is_settled_by (ends.Status status) sensed over = status == GOOD || status == QUEUE_FULL || sensed || over
is_settled_by ends.Loss sensed over = true
is_settled_by ends.Reset sensed over = true
is_settled_by ends.Abort sensed over = true
is_settled_by ends.Unanswered sensed over = true

abbrev pub is_settled_if : Option Ending → Bool → Bool → Bool
is_settled_if None sensed over = false
is_settled_if (Some e) sensed over = is_settled_by e sensed over

abbrev pub is_settled : CommandEnd → Bool → Bool
is_settled x over = is_settled_if x.ending x.sense_ended over

-- ---- which it is, by the bytes that came to the command, and those that came to its automatic REQUEST SENSE

abbrev pub outcome_by_status : ℕ → Bool → List ℕ → List ℕ → Outcome
outcome_by_status status sensed bytes sense =
    if status == GOOD then outcomes.Good bytes
    else if status == QUEUE_FULL then outcomes.QFull
    else outcomes.Check (if sensed then sense_in sense else None)

abbrev pub outcome_by : Ending → Bool → List ℕ → List ℕ → Outcome
outcome_by (ends.Status status) sensed bytes sense = outcome_by_status status sensed bytes sense
outcome_by ends.Loss sensed bytes sense = outcomes.Lost
outcome_by ends.Reset sensed bytes sense = outcomes.Reset
outcome_by ends.Abort sensed bytes sense = outcomes.Aborted
outcome_by ends.Unanswered sensed bytes sense = outcomes.SelTimeout

abbrev pub outcome_if : Option Ending → Bool → List ℕ → List ℕ → Option Outcome
outcome_if None sensed bytes sense = None
outcome_if (Some e) sensed bytes sense = Some (outcome_by e sensed bytes sense)

abbrev pub outcome_after : CommandEnd → Bool → List ℕ → List ℕ → Option Outcome
outcome_after x over bytes sense = if is_settled x over then outcome_if x.ending x.sense_ended bytes sense else None

-- ---- what the rows tell

abbrev pub told_outcome : Outcome → told.Outcome
told_outcome (outcomes.Good bytes) = ended_good bytes
told_outcome (outcomes.Check sense) = ended_check sense
told_outcome outcomes.QFull = ended_full
told_outcome outcomes.SelTimeout = ended_unanswered
told_outcome outcomes.Lost = ended_lost
told_outcome outcomes.Reset = ended_reset
told_outcome outcomes.Aborted = ended_aborted

abbrev pub told_outcome_if : Option Outcome → Option told.Outcome
told_outcome_if None = None
told_outcome_if (Some o) = Some (told_outcome o)

abbrev pub is_good : Option Ending → Bool
is_good None = false
is_good (Some (ends.Status status)) = status == GOOD
is_good (Some _) = false

abbrev pub is_reply_of : ScenarioValue → List Event → ProcId → List ℕ → Bool
is_reply_of s history id bytes = same_bytes bytes (reply_bytes s history id)

-- What came is the reply: of a command that ended GOOD, and of an automatic REQUEST SENSE that ended.
abbrev pub are_replies : ScenarioValue → Story → ℕ → CommandEnd → List ℕ → List ℕ → Bool
are_replies s b n x bytes sense = (not (is_good x.ending) || is_reply_of s b.history (command_id n) bytes)
    && (not x.sense_ended || is_reply_of s b.history (sense_id n) sense)

-- The outcome that the rows tell, once it is settled.
abbrev pub settled_outcome : ScenarioValue → Story → ℕ → CommandEnd → Bool → Option told.Outcome
settled_outcome s b n x over = if is_settled x over then outcome_of s b n else None

-- The automatic REQUEST SENSE of this command is over.
abbrev pub is_sense_over : Option Mine → Bool
is_sense_over None = false
is_sense_over (Some m) = m.sense_over
