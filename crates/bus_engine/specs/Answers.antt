-- What comes back to the initiators of a run.
use Rattle.std.specs.Prelude.{ℕ, ◌+◌, ◌==◌, ◌&&◌, ◌||◌, not, Bool, true, false, List, [], ◌∷◌, take, Option, Some, None}
use Rattle.bus_base.specs.declared.ProcId.{ProcId}
use Rattle.bus_trace.specs.declared.Row.{Row}
use Rattle.cdb_codec.specs.declared.status.TheConstants.{GOOD, QUEUE_FULL}
use Rattle.scenario.specs.declared.value.CmdDef.{CmdDef}
use Rattle.scenario.specs.Value.{ScenarioValue}
use Rattle.due_model.specs.story_model.specs.Outcomes.{ending_of, has_end}
use Rattle.due_model.specs.story_model.specs.Story.{Ending, by_status, by_loss, by_reset, by_abort, unanswered, Story}
use Rattle.due_model.specs.story_model.specs.Items.{sense_id, command_id}
use Rattle.due_model.specs.RunSteps.{run_state}
use Rattle.initiator.specs.initiator_books.specs.Books.{my_book}
use Rattle.initiator.specs.initiator_books.specs.Openings.{mine_at}
use Rattle.initiator.specs.Outcomes.{is_reply_of, is_sense_over}
use Rattle.initiator.specs.Received.{moved_of, room_of, undoes_no_byte}

-- ---- its outcome is known: it has ended, and after CHECK CONDITION its automatic REQUEST SENSE has ended, or is over
-- without an end

abbrev pub is_settled_by : Ending → Bool → Bool → Bool
is_settled_by (by_status status) sensed over = status == GOOD || status == QUEUE_FULL || sensed || over
is_settled_by by_loss sensed over = true
is_settled_by by_reset sensed over = true
is_settled_by by_abort sensed over = true
is_settled_by unanswered sensed over = true

abbrev pub is_settled : Option Ending → Bool → Bool → Bool
is_settled None sensed over = false
is_settled (Some e) sensed over = is_settled_by e sensed over

-- The automatic REQUEST SENSE of the n-th command is over, by the book of its initiator.
abbrev pub sense_is_over : ScenarioValue → Story → ℕ → CmdDef → Bool
sense_is_over s b n c = is_sense_over (mine_at (my_book s b.sent c.host).mines n)

-- ---- what came to its initiator is the reply: of a command that ended GOOD, and of an automatic REQUEST SENSE that
-- ended

abbrev pub is_good : Option Ending → Bool
is_good None = false
is_good (Some (by_status status)) = status == GOOD
is_good (Some _) = false

-- The bytes that came, as far as the initiator has room for them.
abbrev pub received_bytes : ScenarioValue → Story → CmdDef → ProcId → List ℕ
received_bytes s b c id = take (room_of s c id.sense) (moved_of b id).bytes

abbrev pub is_reply : ScenarioValue → Story → CmdDef → ProcId → Bool
is_reply s b c id = is_reply_of s b.history id (received_bytes s b c id)

abbrev pub is_replied : ScenarioValue → Story → ℕ → CmdDef → Bool
is_replied s b n c =
    (not (is_good (ending_of b.ended n)) || is_reply s b c (command_id n))
    && (not (has_end b.history (sense_id n)) || is_reply s b c (sense_id n))

-- The commands from the n-th on.
abbrev pub are_replied_from : ScenarioValue → Story → ℕ → List CmdDef → Bool
are_replied_from s b n [] = true
are_replied_from s b n (c ∷ commands) = is_replied s b n c && are_replied_from s b (n + 1) commands

-- After these rows what came is the reply.
abbrev pub are_replied : ScenarioValue → List Row → Bool
are_replied s rows = are_replied_from s (run_state s rows).story 1 s.commands

-- ---- and the outcome is known

abbrev pub is_answered : ScenarioValue → Story → ℕ → CmdDef → Bool
is_answered s b n c =
    is_settled (ending_of b.ended n) (has_end b.history (sense_id n)) (sense_is_over s b n c) && is_replied s b n c

-- The commands from the n-th on.
abbrev pub are_answered_from : ScenarioValue → Story → ℕ → List CmdDef → Bool
are_answered_from s b n [] = true
are_answered_from s b n (c ∷ commands) = is_answered s b n c && are_answered_from s b (n + 1) commands

-- After these rows the outcome of each command is known, no byte was taken back, and what came is the reply.
abbrev pub are_answered : ScenarioValue → List Row → Bool
are_answered s rows = undoes_no_byte s rows && are_answered_from s (run_state s rows).story 1 s.commands
