-- A trace, its history, the outcomes, the blocks and the tapes belong together: the history is what the rows tell, the
-- plain disk array permits it and holds these blocks and tapes, the outcomes follow, and each command that ran and
-- ended carried exactly its own bytes.
use Rattle.std.specs.Prelude.{ℕ, ◌≡◌, Bool, true, false, not, ◌&&◌, ◌||◌, ◌==◌, List, [], ◌∷◌, reverse, Option, Some}
use Rattle.std.specs.Prelude.{None, is_some, if◌then◌else◌}
use Rattle.std.specs.List.{list_any}
use Rattle.bus_phases.specs.bus_base.specs.declared.ProcId.{ProcId}
use Rattle.bus_phases.specs.bus_base.specs.declared.Event.{Event}
use Rattle.bus_phases.specs.bus_base.specs.declared.Event.TheVariants as events
use Rattle.bus_phases.specs.bus_trace.specs.declared.Row.{Row}
use Rattle.array_model.specs.cdb_codec.specs.declared.status.TheConstants.{GOOD}
use Rattle.array_model.specs.cdb_codec.specs.Cdb.{command_of}
use Rattle.array_model.specs.scenario.specs.Value.{ScenarioValue}
use Rattle.array_model.specs.scenario.specs.Needs.{is_write}
use Rattle.array_model.specs.Processes.{Process, process_of, same_id}
use Rattle.array_model.specs.Contents.{Contents}
use Rattle.array_model.specs.Execution.{Reply}
use Rattle.array_model.specs.ArrayHistory.{array_after, disks_of, tapes_of, reply_of}
use Rattle.story_model.specs.CarriedBytes.{CarriedBytes, carried_of}
use Rattle.story_model.specs.Story.{Story}
use Rattle.story_model.specs.TraceHistory.{story}
use Rattle.story_model.specs.Outcomes.{Outcome, outcomes}

abbrev pub same_bytes : List ℕ → List ℕ → Bool
same_bytes [] [] = true
same_bytes [] (b ∷ bytes) = false
same_bytes (a ∷ others) [] = false
same_bytes (a ∷ others) (b ∷ bytes) = a == b && same_bytes others bytes

abbrev pub is_run_of : ProcId → Event → Bool
is_run_of id (events.Run p) = same_id p id
is_run_of id _ = false

abbrev pub has_run : List Event → ProcId → Bool
has_run history id = list_any (λ e. is_run_of id e) history

-- The bytes that a process moves: a write those that its initiator sends, where it ends GOOD; any other its reply's.
abbrev pub moved_bytes : Process → Reply → List ℕ
moved_bytes p reply = if is_write (command_of p.cdb) then (if reply.status == GOOD then p.sent else []) else reply.bytes

abbrev pub are_carried_bytes : CarriedBytes → List ℕ → List ℕ → ℕ → Bool
are_carried_bytes k block moved status =
    same_bytes k.command.bytes block && same_bytes k.moved.bytes moved && same_bytes k.status.bytes (status ∷ [])

abbrev pub carried_by : CarriedBytes → Option Process → Option Reply → ℕ → Bool
carried_by k None reply status = false
carried_by k (Some p) None status = false
carried_by k (Some p) (Some reply) status = are_carried_bytes k p.cdb (moved_bytes p reply) status

-- A process that ran and ended carried just its command block, just the bytes that it moves, and its status.
abbrev pub is_carried : ScenarioValue → Story → Event → Bool
is_carried s b (events.End id status) =
    not (has_run b.history id)
    || carried_by (carried_of b.carried id) (process_of s id) (reply_of (array_after s b.history) id) status
is_carried s b _ = true

abbrev pub all_carried : ScenarioValue → Story → List Event → Bool
all_carried s b [] = true
all_carried s b (e ∷ history) = is_carried s b e && all_carried s b history

-- ---- all of it

pub record Right (s : ScenarioValue) (rows : List Row) (history : List Event) (ended : List (Option Outcome))
    (disks tapes : List Contents) : Type 0 where
  pub told : (story s (reverse rows)).history ≡ reverse history
  pub permitted : is_some (array_after s (reverse history)) ≡ true
  pub blocks : disks_of (array_after s (reverse history)) ≡ disks
  -- the objects of each, and where it stands
  pub reels : tapes_of (array_after s (reverse history)) ≡ tapes
  pub replies : outcomes s (story s (reverse rows)) ≡ ended
  pub carried : all_carried s (story s (reverse rows)) (reverse history) ≡ true
