-- What the target of a connection knows of the process that it serves, and of the queue of its unit.
use Rattle.std.specs.Prelude.{ℕ, Bool, not, ◌&&◌, ◌==◌, List, [], length, Option, Some, None, is_some, nat_lt}
use Rattle.std.specs.List.{list_any}
use Rattle.bus_rules.specs.cdb_codec.specs.Cdb.{has_group_len, command_of}
use Rattle.dialogue_model.specs.scenario.specs.Needs.{is_write}
use Rattle.dialogue_model.specs.array_model.specs.Order.{range_named}
use Rattle.dialogue_model.specs.declared.exchange.Task.{Task}
use Rattle.dialogue_model.specs.scenario.specs.declared.value.Policy.{Policy}
use Rattle.dialogue_model.specs.scenario.specs.Value.{ScenarioValue}
use Rattle.dialogue_model.specs.array_model.specs.Processes.{Process}
use Rattle.dialogue_model.specs.array_model.specs.Execution.{Reply, execution, is_request_sense}
use Rattle.dialogue_model.specs.array_model.specs.Units.{UnitState, Array, Nexus, same_nexus, nexus_of, unit_state_at}
use Rattle.dialogue_model.specs.array_model.specs.Units.{has_no_current}
use Rattle.dialogue_model.specs.array_model.specs.Units.{is_held}
use Rattle.dialogue_model.specs.array_model.specs.Steps.{context_at, process_count}
use Rattle.dialogue_model.specs.story_model.specs.CarriedBytes.{CarriedBytes}
use Rattle.dialogue_model.specs.declared.exchange.Arrival.{Arrival}
use Rattle.dialogue_model.specs.declared.exchange.Room.{Room}
use Rattle.dialogue_model.specs.Arrivals.{arrival_by}
use Rattle.due_model.specs.LastingState.{ProcessProgress, progress_in}
use Rattle.due_model.specs.RunState.{RunState, array_of, process_served, carried_here}
use Rattle.dialogue_model.specs.story_model.specs.Right.{moved_bytes}
use Rattle.dialogue_model.specs.array_model.specs.ArrayHistory as Play
use Rattle.dialogue_model.specs.declared.exchange.Arrival.TheVariants as arrivals

abbrev pub size_of : Option UnitState → ℕ
size_of None = 0
size_of (Some u) = u.contents.size

-- What the process would answer if it ran now.
abbrev pub reply_now : Array → Process → Reply
reply_now a p = (execution (context_at a (nexus_of p) (unit_state_at a.units p.target p.unit)) p.cdb p.sent).reply

abbrev pub is_writing : Process → Bool
is_writing p = is_write (command_of p.cdb)

-- How many bytes it moves.
abbrev pub moved_count : Process → Reply → ℕ
moved_count p reply = length (moved_bytes p reply)

abbrev pub blocks_in : Option (ℕ × ℕ) → Option ℕ
blocks_in None = None
blocks_in (Some range) = Some range.1

-- The status: of the reply that was given, as of one that fails; else of the reply that it has now.
abbrev pub status_by : Reply → Option Reply → ℕ
status_by now (Some reply) = reply.status
status_by now None = now.status

abbrev pub task_with : Array → ProcessProgress → Process → CarriedBytes → Reply → Option Reply → Task
task_with a made p c now given = record {
  writes = is_writing p;
  moved = moved_count p now;
  blocks = blocks_in (range_named p);
  size = size_of (unit_state_at a.units p.target p.unit);
  runs = made.runs;
  recoveries = made.recoveries;
  in_hold = list_any (λ (q : Nexus). same_nexus q (nexus_of p)) a.holds;
  whole = has_group_len c.block;
  replied = is_some given;
  status = status_by now given;
}

abbrev pub task_if : ScenarioValue → RunState → Option Process → Option Task
task_if s k None = None
task_if s k (Some p) = Some (task_with (array_of s k) (progress_in k.progress p.id) p (carried_here k p.id)
    (reply_now (array_of s k) p) (Play.reply_in (array_of s k).replies p.id))

-- The bytes that it gives.
abbrev pub given_if : ScenarioValue → RunState → Option Process → List ℕ
given_if s k None = []
given_if s k (Some p) = (reply_now (array_of s k) p).bytes

abbrev pub given_of : ScenarioValue → RunState → List ℕ
given_of s k = given_if s k (process_served s k)

-- The process of the connection.
abbrev pub task_of : ScenarioValue → RunState → Option Task
task_of s k = task_if s k (process_served s k)

-- ---- a command arrives

-- A unit with no current process, an empty hold and nothing that waits is idle.
abbrev pub is_idle_unit : Array → UnitState → Bool
is_idle_unit a u = has_no_current u.current && not (is_held a.holds u.target u.unit) && length u.waiting == 0

abbrev pub room_of : Array → Option UnitState → Option Room
room_of a None = None
room_of a (Some u) = Some (record { full = not (nat_lt (process_count u) u.depth); idle = is_idle_unit a u })

abbrev pub arrival_if : Policy → Array → Option Process → Arrival
arrival_if policy a None = arrivals.Refused
arrival_if policy a (Some p) =
    arrival_by policy (is_request_sense (command_of p.cdb)) (room_of a (unit_state_at a.units p.target p.unit))

abbrev pub arrival_of : ScenarioValue → RunState → Policy → Arrival
arrival_of s k policy = arrival_if policy (array_of s k) (process_served s k)
