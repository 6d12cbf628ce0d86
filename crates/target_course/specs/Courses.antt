-- The course of a connection at its target: what it has heard in it, and what it decides by, with what its units and
-- its counts tell of the process.
use Rattle.std.specs.Prelude.{ℕ, ◌≡◌, ◌%◌, Bool, true, false, not, ◌&&◌, ◌||◌, ◌==◌, List, [], ◌∷◌, ◌++◌, length, take}
use Rattle.std.specs.Prelude.{Option, Some, None, is_some, nat_lt, if◌then◌else◌}
use Rattle.bus_base.specs.declared.Event.{Event}
use Rattle.bus_base.specs.declared.ProcId.{ProcId}
use Rattle.bus_trace.specs.declared.Row.{Row}
use Rattle.bus_trace.specs.declared.connection.Connection.{Connection}
use Rattle.bus_trace.specs.Phases.{is_command, changes_phase}
use Rattle.bus_trace.specs.Terms.{connection}
use Rattle.bus_trace.specs.Trace.{bus}
use Rattle.msg_grammar.specs.declared.message.MsgIn.{MsgIn}
use Rattle.msg_grammar.specs.declared.message.MsgIn.TheVariants as to_initiator
use Rattle.cdb_codec.specs.Cdb.{command_of, has_group_len}
use Rattle.cdb_codec.specs.declared.status.TheConstants.{GOOD}
use Rattle.scenario.specs.declared.value.TargetDef.{TargetDef}
use Rattle.scenario.specs.declared.value.Tag.{Tag}
use Rattle.scenario.specs.Needs.{is_write}
use Rattle.scenario.specs.Value.{ScenarioValue}
use Rattle.array_model.specs.Execution.{Reply, is_request_sense}
use Rattle.array_model.specs.Order.{class_of, tag_number, range_in}
use Rattle.array_model.specs.Processes.{Process, process_of}
use Rattle.array_model.specs.Seats.{in_hold}
use Rattle.array_model.specs.Units.{nexus_of, unit_state_at}
use Rattle.array_model.specs.ArrayHistory.{reply_in}
use Rattle.due_model.specs.story_model.specs.Items.{Item, process, abort}
use Rattle.disk_unit.specs.declared.media.Plan as outlook
use Rattle.disk_unit.specs.Plans.{plan_of}
use Rattle.due_model.specs.dialogue_model.specs.Wants.{Ready}
use Rattle.due_model.specs.dialogue_model.specs.declared.exchange.Hearing.{Hearing}
use Rattle.due_model.specs.dialogue_model.specs.declared.exchange.Leaving.{Leaving}
use Rattle.due_model.specs.dialogue_model.specs.declared.exchange.Messages.{Messages}
use Rattle.due_model.specs.dialogue_model.specs.declared.exchange.Plan.{Plan}
use Rattle.due_model.specs.dialogue_model.specs.declared.exchange.Said.{Said}
use Rattle.due_model.specs.dialogue_model.specs.declared.exchange.Task.{Task}
use Rattle.due_model.specs.dialogue_model.specs.Arrivals.{arrival_by}
use Rattle.due_model.specs.dialogue_model.specs.Exchange.{no_messages}
use Rattle.due_model.specs.dialogue_model.specs.Events.{leaving_events}
use Rattle.due_model.specs.dialogue_model.specs.Hearing.{hearing}
use Rattle.due_model.specs.dialogue_model.specs.NextPhase.{Serving, phase_of}
use Rattle.due_model.specs.dialogue_model.specs.Planning.{plan_after, first_plan}
use Rattle.due_model.specs.LastingState.{progress_in}
use Rattle.due_model.specs.RunState.{RunState, array_of, process_served}
use Rattle.due_model.specs.RunSteps.{run_state, is_for_process}
use Rattle.due_model.specs.Telling.{target_events}
use Rattle.due_model.specs.Tasks.{blocks_in, size_of, reply_now, room_of, is_writing}
use Rattle.target_units.specs.scsi_device.specs.Heard.{Instructions, instructions, leaves_opening, leaves_command}
use Rattle.target_course.specs.declared.course.Name.{Name}
use Rattle.target_course.specs.declared.course.ProcessState.{ProcessState}
use Rattle.target_course.specs.Plans.{plan_at}
use Rattle.target_course.specs.States.{IsOwnConnection}

-- ---- what names a process at its target, beside its initiator

abbrev pub name_with : Tag → ℕ → Name
name_with tag unit = record { unit = unit; tag = tag_number tag; class = class_of tag }

abbrev pub name_of : Process → Name
name_of p = name_with p.tag p.unit

-- As it was heard: nothing without IDENTIFY.
abbrev pub name_by : Tag → Option ℕ → Option Name
name_by tag None = None
name_by tag (Some unit) = Some (name_with tag unit)

abbrev pub name_in : Said → Option Name
name_in said = name_by said.tag said.unit

abbrev pub name_if : Option Said → Option Name
name_if None = None
name_if (Some said) = name_in said

-- A reselection names it so (6.6.7, 6.6.17).
abbrev pub tag_message : Option ℕ → Option MsgIn
tag_message None = None
tag_message (Some n) = Some (to_initiator.SimpleTag n)

abbrev pub naming : Name → Messages
naming name = record { first = Some (to_initiator.Identify name.unit); second = tag_message name.tag }

-- ---- what it keeps

pub record CourseState : Type 0 where
  -- the process, as its initiator or its unit knows it
  pub id : ProcId
  pub plan : Plan
  -- how the opening named it, once that was left
  pub named : Option Name
  -- the bytes of the last COMMAND phase, at most eleven; and whether these are the command
  pub block : List ℕ
  pub known : Bool

-- No command block has so many bytes.
abbrev pub MOST_KEPT : ℕ
MOST_KEPT = 11

abbrev pub course_selected : ProcId → Bool → CourseState
course_selected id negotiates =
    record { id = id; plan = first_plan false negotiates no_messages; named = None; block = []; known = false }

abbrev pub course_reselected : ProcId → Name → List ℕ → CourseState
course_reselected id name cdb =
    record { id = id; plan = first_plan true false (naming name); named = Some name; block = cdb; known = true }

-- A row told this, with which the phase was left so.
abbrev pub block_with : List ℕ → ℕ → List ℕ
block_with block byte = if nat_lt (length block) MOST_KEPT then block ++ byte ∷ [] else block

abbrev pub block_kept : Hearing → List ℕ → List ℕ
block_kept w block =
    if changes_phase w.change then (if is_command w.change.after then [] else block)
    else if w.crosses && is_command w.change.before then block_with block (w.change.after.data_bits % 256)
    else block

abbrev pub course_told : Hearing → CourseState → CourseState
course_told w c = record c {
  named = if leaves_opening w c.plan then name_in c.plan.said else c.named;
  block = block_kept w c.block;
  known = leaves_command w c.plan;
}

abbrev pub course_after : Hearing → Leaving → CourseState → CourseState
course_after w l c = record (if c.known then c else course_told w c) { plan = plan_after w l c.plan }

-- ---- what it decides by

abbrev pub moved_by : outlook.Plan → Bool → ℕ
moved_by plan writes = if writes then (if plan.status == GOOD then plan.out_len else 0) else plan.in_len

abbrev pub status_known : outlook.Plan → Option ℕ → ℕ
status_known plan None = plan.status
status_known plan (Some status) = status

abbrev pub task_by : CourseState → ProcessState → Task
task_by c f = record {
  writes = is_write (command_of c.block);
  moved = moved_by f.plan (is_write (command_of c.block));
  blocks = blocks_in (if f.serial then None else range_in (command_of c.block));
  size = f.size;
  runs = f.runs;
  recoveries = f.recoveries;
  in_hold = f.in_hold;
  whole = has_group_len c.block;
  replied = is_some f.reply;
  status = status_known f.plan f.reply;
}

-- In the opening it serves no process that it knows of.
abbrev pub serving_by : TargetDef → CourseState → ProcessState → List ℕ → Serving
serving_by d c f given = record {
  def = Some d;
  plan = c.plan;
  task = if is_some c.named then Some (task_by c f) else None;
  given = given;
  arrival = arrival_by d.disc (is_request_sense (command_of c.block)) f.room;
}

-- ---- what it is of the rows

-- The process of this item; its command is 0 where that is an abort.
pub record IsLabelOf (item : Option Item) (id : ProcId) : Type 0 where
  pub process_is : (i : ProcId) → item ≡ Some (process i) → id ≡ i
  pub abort_is : (n : ℕ) → item ≡ Some (abort n) → (id.command == 0) ≡ true

-- As which it is named in events.
abbrev pub id_known : ProcId → Option ProcId
id_known id = if id.command == 0 then None else Some id

-- After a selection it was told this; after a reselection it knows the current process of its unit.
pub record IsTold (i : Instructions) (c : CourseState) : Type 0 where
  pub named : c.named ≡ name_if i.opening
  pub block : c.block ≡ take MOST_KEPT i.block
  pub known : c.known ≡ i.known

pub record IsOfProcess (i : Instructions) (p : Process) (c : CourseState) : Type 0 where
  pub named : c.named ≡ Some (name_of p)
  pub block : c.block ≡ p.cdb
  pub known : c.known ≡ true
  pub since : i.known ≡ true

pub record HasEnds (n : Connection) (p : Process) : Type 0 where
  pub initiator : p.initiator ≡ n.initiator
  pub target : p.target ≡ n.target

-- Whether synchronous transfer may be negotiated it learns from the opening where this is an abort.
pub record IsCourse (s : ScenarioValue) (rows : List Row) (n : Connection) (c : CourseState) : Type 0 where
  pub label_is : IsLabelOf (run_state s rows).served c.id
  pub ends_are : (p : Process) → process_served s (run_state s rows) ≡ Some p → HasEnds n p
  pub plan_is : c.plan ≡ record (plan_at s rows) { negotiates = c.plan.negotiates }
  pub negotiates_is : is_for_process (run_state s rows).served ≡ true → c.plan.negotiates ≡ (plan_at s rows).negotiates
  pub told : n.reselected ≡ false → IsTold (instructions s rows) c
  pub current : n.reselected ≡ true → (p : Process) → process_served s (run_state s rows) ≡ Some p
      → IsOfProcess (instructions s rows) p c

-- In a connection of its own, while RST is false.
abbrev pub IsCourseOf : ScenarioValue → List Row → ℕ → CourseState → Type 0
IsCourseOf s rows dev c = (n : Connection) → IsOwnConnection rows dev n → (bus rows).rst ≡ false → IsCourse s rows n c

-- ---- what its units and its counts tell of the process, and of its command once that is known

abbrev pub status_if : Option Reply → Option ℕ
status_if None = None
status_if (Some reply) = Some reply.status

pub record IsStateOf (s : ScenarioValue) (k : RunState) (p : Process) (f : ProcessState) : Type 0 where
  pub in_hold : f.in_hold ≡ in_hold (array_of s k).holds (nexus_of p)
  pub runs : f.runs ≡ (progress_in k.progress p.id).runs
  pub recoveries : f.recoveries ≡ (progress_in k.progress p.id).recoveries
  pub serial : f.serial ≡ p.serial
  pub size : f.size ≡ size_of (unit_state_at (array_of s k).units p.target p.unit)
  pub room : f.room ≡ room_of (array_of s k) (unit_state_at (array_of s k).units p.target p.unit)
  pub reply : f.reply ≡ status_if (reply_in (array_of s k).replies p.id)

-- It takes as many bytes as the process sends, where it takes any.
pub record IsOutlookOf (s : ScenarioValue) (k : RunState) (p : Process) (f : ProcessState) : Type 0 where
  pub plan : f.plan ≡ plan_of (reply_now (array_of s k) p) f.plan.out_len
  pub sent : is_writing p ≡ true → (f.plan.status == GOOD) ≡ true → f.plan.out_len ≡ length p.sent

pub record AreToldOf (s : ScenarioValue) (rows : List Row) (c : CourseState) (f : ProcessState) : Type 0 where
  pub state : (p : Process) → process_served s (run_state s rows) ≡ Some p → c.id ≡ p.id → c.named ≡ Some (name_of p)
      → IsStateOf s (run_state s rows) p f
  pub outlook : (p : Process) → process_served s (run_state s rows) ≡ Some p → c.id ≡ p.id → c.named ≡ Some (name_of p)
      → c.block ≡ p.cdb → IsOutlookOf s (run_state s rows) p f

-- ---- what begins it

-- This is the current process of the unit that is ready first.
pub record IsReadyProcess (s : ScenarioValue) (r : Ready) (id : ProcId) (name : Name) (cdb : List ℕ) : Type 0 where
  pub is : process_of s r.process.id ≡ Some r.process
  pub id_is : id ≡ r.process.id
  pub name_is : name ≡ name_of r.process
  pub cdb_is : cdb ≡ r.process.cdb

-- ---- what it shows

-- With a row of its connection that told this, after which this connection stands.
abbrev pub course_events : CourseState → Serving → Connection → Hearing → Option Connection → List Event
course_events c v n w after =
    if changes_phase w.change || not (is_some after)
    then leaving_events v n w.begun (is_some after) w.change.before.atn (phase_of w.change.before) (id_known c.id)
    else []

-- What its target shows with this row.
abbrev pub events_of_target : ScenarioValue → List Row → Row → Connection → List Event
events_of_target s rows row n =
    if changes_phase (hearing rows row).change || not (is_some (connection (row ∷ rows)))
    then target_events s (run_state s rows) n (is_some (connection (row ∷ rows))) else []
