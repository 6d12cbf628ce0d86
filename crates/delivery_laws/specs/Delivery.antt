-- What strikes a command on its way, and how much of it the command bears; and that a valid command which is within
-- that ends GOOD (6.1.3, 6.1.3.1, 6.6.10, 7.8).
use Rattle.std.specs.Prelude.{ℕ, ◌≡◌, ◌⊎◌, ◌==◌, ◌++◌, ◌+◌, Bool, true, false, not, ◌&&◌, min, nat_le, nat_lt, List, []}
use Rattle.std.specs.Prelude.{◌∷◌, Option, Some, None, Result, Ok, Err, is_some, if◌then◌else◌}
use Rattle.due_model.specs.bus_base.specs.declared.ProcId.{ProcId}
use Rattle.due_model.specs.bus_base.specs.declared.Event.{Event}
use Rattle.due_model.specs.bus_base.specs.declared.Event.TheVariants as events
use Rattle.due_model.specs.bus_trace.specs.declared.Row.{Row}
use Rattle.due_model.specs.bus_trace.specs.declared.selection.Call.{Call}
use Rattle.due_model.specs.bus_trace.specs.declared.selection.Calling.{Calling}
use Rattle.due_model.specs.bus_trace.specs.Terms.{is_fault}
use Rattle.due_model.specs.scenario.specs.declared.value.CmdDef.{CmdDef}
use Rattle.due_model.specs.scenario.specs.declared.value.TargetDef.{TargetDef}
use Rattle.due_model.specs.scenario.specs.Value.{ScenarioValue}
use Rattle.due_model.specs.scenario.specs.Writing.{Obeys}
use Rattle.due_model.specs.array_model.specs.ArrayHistory.{array_after, reply_of}
use Rattle.due_model.specs.array_model.specs.Execution.{Reply, aborted_reply, block_out_of_range, execution}
use Rattle.due_model.specs.array_model.specs.Execution.{invalid_field}
use Rattle.due_model.specs.array_model.specs.Execution.{invalid_opcode, needs_unit, no_sense, queue_full}
use Rattle.due_model.specs.array_model.specs.Execution.{unit_not_supported}
use Rattle.due_model.specs.array_model.specs.Processes.{Process, command_at, process_of, same_id}
use Rattle.due_model.specs.array_model.specs.Steps.{context_at}
use Rattle.due_model.specs.array_model.specs.Units.{Array, nexus_of, unit_state_at}
use Rattle.due_model.specs.cdb_codec.specs.Cdb.{command_of}
use Rattle.due_model.specs.cdb_codec.specs.TapeCdb.{tape_command_of}
use Rattle.due_model.specs.cdb_codec.specs.declared.tape_command.TapeCommand.{TapeCommand}
use Rattle.due_model.specs.cdb_codec.specs.declared.command.CdbFault.{CdbFault}
use Rattle.due_model.specs.cdb_codec.specs.declared.command.CdbFault.TheVariants as faults
use Rattle.due_model.specs.cdb_codec.specs.declared.command.Command.{Command}
use Rattle.due_model.specs.cdb_codec.specs.declared.Sense.{Sense}
use Rattle.due_model.specs.cdb_codec.specs.declared.sense.TheConstants.{ABORTED_COMMAND}
use Rattle.due_model.specs.cdb_codec.specs.declared.status.TheConstants.{CHECK_CONDITION}
use Rattle.due_model.specs.story_model.specs.Items.{Item, same_item, command_id, command_item}
use Rattle.due_model.specs.story_model.specs.Outcomes.{ending_of, ended_aborted, ended_check, ended_full, ended_lost}
use Rattle.due_model.specs.story_model.specs.Outcomes.{ended_reset, ended_unanswered, is_sound_command, is_valid}
use Rattle.due_model.specs.story_model.specs.Outcomes.{is_roomy, outcome_of}
use Rattle.due_model.specs.story_model.specs.Story.{by_status}
use Rattle.due_model.specs.story_model.specs.TraceHistory.{aim_of, retries_of, story, trace_history}
use Rattle.due_model.specs.dialogue_model.specs.PhaseBytes.{one_if}
use Rattle.due_model.specs.Defs.{target_def_of}
use Rattle.due_model.specs.Goals.{is_good}
use Rattle.due_model.specs.Next.{IsPrompt, IsEnded}
use Rattle.due_model.specs.RunState.{RunState}
use Rattle.due_model.specs.RunSteps.{run_state}
use Rattle.progress_laws.specs.book_laws.specs.FullQueues.{has_event, was_refused}
use Rattle.progress_laws.specs.book_laws.specs.Strikes.{has_strike}
use Rattle.progress_laws.specs.book_laws.specs.WrongParity.{fault_rows}
use Rattle.initiator.specs.Causes.{has_bus_reset, has_command_abort, has_sense_stop}
use Rattle.due_model.specs.scenario.specs.Lookups.{has_target, is_tape, unit_of}

-- ---- the faults of a command

-- It is a selection that calls.
abbrev pub is_selecting : Option Calling → Bool
is_selecting None = false
is_selecting (Some g) = not g.reselects

abbrev pub is_for_item : Option Item → Item → Bool
is_for_item None item = false
is_for_item (Some i) item = same_item i item

-- An initiator calls for this item.
abbrev pub is_call_for : List (Option Item) → Item → Option Call → Bool
is_call_for aims item None = false
is_call_for aims item (Some c) = is_selecting c.calling && is_for_item (aim_of aims c.caller) item

abbrev pub is_calling_fault : RunState → Row → Item → Bool
is_calling_fault k row item = is_fault row.kind && is_call_for k.story.aims item k.story.bus_state.call

-- Fault rows in the callings that an initiator made for this item: the IDs at the called device were struck (6.1.3).
abbrev pub calling_faults : ScenarioValue → List Row → Item → ℕ
calling_faults s [] item = 0
calling_faults s (row ∷ rows) item = calling_faults s rows item + one_if (is_calling_fault (run_state s rows) row item)

-- Those in its connections, and those.
abbrev pub command_faults : ScenarioValue → List Row → ℕ → ℕ
command_faults s rows m = fault_rows s rows (command_id m) + calling_faults s rows (command_item m)

-- How many it bears: the smaller retry limit of its initiator and its target, or that of its initiator where the target
-- is absent.
abbrev pub limit_with : ℕ → Option TargetDef → ℕ
limit_with own None = own
limit_with own (Some t) = min own t.retries

abbrev pub fault_limit : ScenarioValue → CmdDef → ℕ
fault_limit s c = limit_with (retries_of s.hosts c.host) (target_def_of s c.target)

-- ---- events by which a command does not run: it is refused, or it fails

abbrev pub is_given_up_by : ProcId → Event → Bool
is_given_up_by id (events.Refuse p) = same_id p id
is_given_up_by id (events.Fail p code) = same_id p id
is_given_up_by id _ = false

-- Neither a reset nor an abort.
abbrev pub is_calm_event : Event → Bool
is_calm_event (events.Aborted host target unit what) = false
is_calm_event (events.Reset dev) = false
is_calm_event _ = true

-- ---- what is proved

-- Of a trace: where queues have room for all that may be open, and there is no reset and no abort, every valid command
-- that no more faults struck than it bears ends GOOD.
abbrev pub IsDelivered : ScenarioValue → List Row → Type 0
IsDelivered s rows = is_roomy s ≡ true → s.resets ≡ [] → s.aborts ≡ [] → (m : ℕ) (c : CmdDef)
    → command_at s.commands m ≡ Some c → is_valid s c ≡ true → nat_le (command_faults s rows m) (fault_limit s c) ≡ true
    → is_good (outcome_of s (story s rows) m) ≡ true

-- So of every trace.
abbrev pub Delivers : Type 0
Delivers = (s : ScenarioValue) (rows : List Row) → Obeys s → IsPrompt s rows → IsEnded s rows → IsDelivered s rows

-- More faults struck this command than it bears.
abbrev pub has_too_many : ScenarioValue → List Row → ℕ → CmdDef → Bool
has_too_many s rows m c = nat_lt (fault_limit s c) (command_faults s rows m)

-- Of a trace: why a command ends otherwise than GOOD. It is lost, or fails with the sense of ABORTED COMMAND, only
-- where more faults struck it than it bears, and ends unanswered only there or where its target is absent; it ends with
-- QUEUE FULL only where it was refused at a full queue, and by a reset or an abort only where the history has one.
pub record AreCaused (s : ScenarioValue) (rows : List Row) : Type 0 where
  pub lost : (m : ℕ) (c : CmdDef) → command_at s.commands m ≡ Some c → outcome_of s (story s rows) m ≡ Some ended_lost
      → has_too_many s rows m c ≡ true
  pub failed : (m code : ℕ) (c : CmdDef) → command_at s.commands m ≡ Some c
      → has_event (trace_history s rows) (events.Fail (command_id m) code) ≡ true → has_too_many s rows m c ≡ true
  pub unanswered : (m : ℕ) (c : CmdDef) → command_at s.commands m ≡ Some c
      → outcome_of s (story s rows) m ≡ Some ended_unanswered
      → (has_target s c.target ≡ false) ⊎ (has_too_many s rows m c ≡ true)
  pub full : (m : ℕ) → outcome_of s (story s rows) m ≡ Some ended_full
      → was_refused s (trace_history s rows) (command_id m) ≡ true
  pub reset : (m : ℕ) → outcome_of s (story s rows) m ≡ Some ended_reset → has_bus_reset (trace_history s rows) ≡ true
  pub aborted : (m : ℕ) (c : CmdDef) → command_at s.commands m ≡ Some c
      → outcome_of s (story s rows) m ≡ Some ended_aborted → has_command_abort (trace_history s rows) c ≡ true

-- Of a trace: a command is without the sense of its CHECK CONDITION only where its automatic REQUEST SENSE was stopped.
abbrev pub AreStoppedSenses : ScenarioValue → List Row → Type 0
AreStoppedSenses s rows = (m : ℕ) (c : CmdDef) → command_at s.commands m ≡ Some c
    → outcome_of s (story s rows) m ≡ Some (ended_check None) → has_sense_stop (trace_history s rows) m c ≡ true

-- ---- why a process has its reply

-- It ran: at a moment of the history, the newest event first, the plain disk array carried it out so.
pub record HasRun (s : ScenarioValue) (h : List Event) (id : ProcId) (reply : Reply) : Type 0 where
  pub later : List Event
  pub earlier : List Event
  pub split : h ≡ later ++ events.Run id ∷ earlier
  pub array : Array
  pub array_is : array_after s earlier ≡ Some array
  pub process : Process
  pub process_is : process_of s id ≡ Some process
  pub reply_is : reply
      ≡ (execution (context_at array (nexus_of process) (unit_state_at array.units process.target process.unit))
      process.cdb process.sent).reply

-- Or it failed with this code, or was refused.
pub data IsGiven (s : ScenarioValue) (h : List Event) (id : ProcId) (reply : Reply) : Type 0 where
  ran : HasRun s h id reply → IsGiven s h id reply
  failed : (code : ℕ) → has_event h (events.Fail id code) ≡ true → reply ≡ aborted_reply code → IsGiven s h id reply
  refused : has_event h (events.Refuse id) ≡ true → reply ≡ queue_full → IsGiven s h id reply

-- ---- the faults by which a command fails

-- Of a trace: each failure in its history has a fault row of a byte of that process.
abbrev pub HaveStrikes : ScenarioValue → List Row → Type 0
HaveStrikes s rows = (id : ProcId) (code : ℕ) → has_event (trace_history s rows) (events.Fail id code) ≡ true
    → has_strike s rows id code ≡ true

-- ---- whose sense came back

-- The reply of the command itself is CHECK CONDITION with this sense.
pub record IsOwnSense (s : ScenarioValue) (h : List Event) (m : ℕ) (sense : Sense) : Type 0 where
  pub reply : Reply
  pub reply_is : reply_of (array_after s h) (command_id m) ≡ Some reply
  pub check : reply.status ≡ CHECK_CONDITION
  pub sense_is : reply.sense ≡ sense

-- It ran so.
pub record RanSo (s : ScenarioValue) (h : List Event) (m : ℕ) (sense : Sense) : Type 0 where
  pub reply : Reply
  pub has_run : HasRun s h (command_id m) reply
  pub check : reply.status ≡ CHECK_CONDITION
  pub sense_is : reply.sense ≡ sense

-- Of a trace: the sense with which a command ends is that of its own reply. With the key ABORTED COMMAND it failed with
-- that code, and more faults struck it than it bears; any other is what the plain disk array answered as it ran.
pub record AreOwnSenses (s : ScenarioValue) (rows : List Row) : Type 0 where
  pub own : (m : ℕ) (sense : Sense) → outcome_of s (story s rows) m ≡ Some (ended_check (Some sense))
      → IsOwnSense s (trace_history s rows) m sense
  pub failed : (m : ℕ) (c : CmdDef) (sense : Sense) → command_at s.commands m ≡ Some c
      → outcome_of s (story s rows) m ≡ Some (ended_check (Some sense)) → (sense.key == ABORTED_COMMAND) ≡ true
      → (has_event (trace_history s rows) (events.Fail (command_id m) sense.asc) ≡ true)
      × (has_too_many s rows m c ≡ true)
  pub ran : (m : ℕ) (sense : Sense) → outcome_of s (story s rows) m ≡ Some (ended_check (Some sense))
      → (sense.key == ABORTED_COMMAND) ≡ false → RanSo s (trace_history s rows) m sense

-- ---- what a command answers with which something is wrong

abbrev pub fault_sense : Result Command CdbFault → Sense
fault_sense (Err faults.Opcode) = invalid_opcode
fault_sense (Err faults.Length) = invalid_field
fault_sense (Err faults.Field) = invalid_field
fault_sense (Ok command) = block_out_of_range

-- Of a tape's reading of the block. One without fault has none.
abbrev pub tape_fault_sense : Result TapeCommand CdbFault → Sense
tape_fault_sense (Err faults.Opcode) = invalid_opcode
tape_fault_sense (Err faults.Length) = invalid_field
tape_fault_sense (Err faults.Field) = invalid_field
tape_fault_sense (Ok command) = no_sense

abbrev pub is_tape_fault : Result TapeCommand CdbFault → Bool
is_tape_fault (Ok command) = false
is_tape_fault (Err fault) = true

-- Something is wrong with it wherever it stands: at a disk or an absent unit it is not valid, and at a tape its block
-- has a fault.
abbrev pub is_checked : ScenarioValue → CmdDef → Bool
is_checked s c =
    if is_tape s c.target c.unit then is_tape_fault (tape_command_of c.cdb)
    else not (is_sound_command s c (command_of c.cdb))

-- The sense of what is wrong with it first: its unit is absent, or its operation code or a field is none, or at a disk
-- it goes past the last block.
abbrev pub checked_sense : ScenarioValue → CmdDef → Sense
checked_sense s c =
    if not (is_some (unit_of s c.target c.unit)) && needs_unit c.cdb then unit_not_supported
    else if is_tape s c.target c.unit then tape_fault_sense (tape_command_of c.cdb)
    else fault_sense (command_of c.cdb)

-- Of a trace that has ended, in a scenario without resets and aborts: a command whose target is absent ends unanswered;
-- and where queues have room, one with which something is wrong ends with CHECK CONDITION and this sense, if no more
-- faults struck it than it bears.
pub record AreChecked (s : ScenarioValue) (rows : List Row) : Type 0 where
  pub unheard : (m : ℕ) (c : CmdDef) → command_at s.commands m ≡ Some c → has_target s c.target ≡ false
      → outcome_of s (story s rows) m ≡ Some ended_unanswered
  pub checked : (m : ℕ) (c : CmdDef) → is_roomy s ≡ true → command_at s.commands m ≡ Some c
      → has_target s c.target ≡ true → is_checked s c ≡ true → nat_le (command_faults s rows m) (fault_limit s c) ≡ true
      → outcome_of s (story s rows) m ≡ Some (ended_check (Some (checked_sense s c)))

-- ---- how a command ends that ran with CHECK CONDITION

-- Of a trace: a command that ran so and ended with a status ends with CHECK CONDITION and this sense, or without sense.
abbrev pub AreAnswered : ScenarioValue → List Row → Type 0
AreAnswered s rows = (m status : ℕ) (reply : Reply) → HasRun s (trace_history s rows) (command_id m) reply
    → reply.status ≡ CHECK_CONDITION → ending_of (story s rows).ended m ≡ Some (by_status status)
    → (outcome_of s (story s rows) m ≡ Some (ended_check None))
    ⊎ (outcome_of s (story s rows) m ≡ Some (ended_check (Some reply.sense)))
