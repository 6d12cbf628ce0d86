-- The bytes that the target gives, and how many bytes a phase has.
use Rattle.std.specs.Prelude.{ℕ, ◌+◌, Bool, true, false, not, ◌&&◌, ◌||◌, ◌==◌, List, length, slice_index_or, Option}
use Rattle.std.specs.Prelude.{Some, None, nat_lt, if◌then◌else◌}
use Rattle.story_model.specs.bus_trace.specs.LineSet.{LineSet, none, byte_set}
use Rattle.scenario.specs.declared.value.Policy.{Policy}
use Rattle.dialogue_model.specs.declared.exchange.Phase.{Phase}
use Rattle.dialogue_model.specs.declared.exchange.Phase.TheVariants as phases
use Rattle.reaction_model.specs.bus_lines.specs.Handshakes.{Handshakes}
use Rattle.dialogue_model.specs.declared.exchange.Messages.{Messages}
use Rattle.dialogue_model.specs.declared.exchange.Leaving.{Leaving}
use Rattle.dialogue_model.specs.declared.exchange.Task.{Task}
use Rattle.dialogue_model.specs.Exchange.{bytes_of_messages}
use Rattle.dialogue_model.specs.Arrivals.{policy_of}
use Rattle.dialogue_model.specs.DataRuns.{run_length, run_byte}
use Rattle.dialogue_model.specs.NextPhase.{phase_lines, Serving}

-- ---- bytes

abbrev pub status_byte : Option Task → ℕ
status_byte None = 0
status_byte (Some t) = t.status

abbrev pub data_byte : Policy → Option Task → List ℕ → ℕ → ℕ → ℕ
data_byte policy None given more place = 0
data_byte policy (Some t) given more place = run_byte policy t given (t.runs + more) place

-- The byte at this place of a phase to the initiator, in which these messages are sent, and before which so many more
-- runs than yet will be made.
abbrev pub phase_byte : Serving → Phase → Messages → ℕ → ℕ → ℕ
phase_byte v phases.MessageIn messages more place = slice_index_or (bytes_of_messages messages) place 0
phase_byte v phases.Status messages more place = status_byte v.task
phase_byte v phases.DataIn messages more place = data_byte (policy_of v.def) v.task v.given more place
phase_byte v _ messages more place = 0

-- ---- how many

abbrev pub run_length_if : Policy → Option Task → ℕ
run_length_if policy None = 0
run_length_if policy (Some t) = run_length policy t

abbrev pub has_whole_block : Option Task → Bool
has_whole_block None = true
has_whole_block (Some t) = t.whole

-- Whether a byte follows in the phase. MESSAGE OUT goes on while ATN is true, and begins anew where a byte was struck;
-- COMMAND ends with the block, or with a struck byte; MESSAGE IN with its messages, or where ATN is true with a byte.
abbrev pub follows_in : Serving → Handshakes → Bool → Phase → Bool
follows_in v r attention phases.MessageOut = r.answers == 0 || attention || v.plan.struck
follows_in v r attention phases.MessageIn =
    (r.requests == 0 || not attention) && nat_lt r.requests (length (bytes_of_messages v.plan.messages))
follows_in v r attention phases.Command = not v.plan.struck && not (has_whole_block v.task)
follows_in v r attention phases.Status = r.requests == 0
follows_in v r attention phases.DataIn = nat_lt r.requests (run_length_if (policy_of v.def) v.task)
follows_in v r attention phases.DataOut = nat_lt r.answers (run_length_if (policy_of v.def) v.task)

-- ---- the row that leaves a phase

abbrev pub one_if : Bool → ℕ
one_if true = 1
one_if false = 0

-- Where I/O is true before and after it, it drives the first byte of the next phase, too.
abbrev pub lines_by : Serving → Bool → Leaving → Option Phase → LineSet
lines_by v io l None = none
lines_by v io l (Some phase) =
    if io && (phase_lines phase).io then record (phase_lines phase) {
      data_bits = (byte_set (phase_byte v phase l.messages (one_if l.done) 0)).data_bits;
    } else phase_lines phase
