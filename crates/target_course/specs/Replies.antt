-- The reply of the process that the target of a connection serves, once it has one.
use Rattle.std.specs.Prelude.{ℕ, ◌≡◌, true, false, List, [], ◌∷◌, Option, Some, None}
use Rattle.bus_base.specs.declared.Event.{Event}
use Rattle.bus_base.specs.declared.Event.TheVariants as events
use Rattle.bus_trace.specs.declared.Row.{Row}
use Rattle.bus_trace.specs.declared.connection.Connection.{Connection}
use Rattle.bus_trace.specs.Trace.{bus}
use Rattle.scenario.specs.Value.{ScenarioValue}
use Rattle.array_model.specs.ArrayHistory.{reply_in, shows_run}
use Rattle.array_model.specs.Execution.{queue_full, aborted_reply}
use Rattle.array_model.specs.Processes.{Process}
use Rattle.disk_unit.specs.declared.media.Plan.{Plan}
use Rattle.disk_unit.specs.declared.unit.Reply.{Reply as UnitReply}
use Rattle.disk_unit.specs.Plans.{plan_of}
use Rattle.disk_unit.specs.Units.{told_of, planned_reply}
use Rattle.due_model.specs.RunState.{array_of, process_served}
use Rattle.due_model.specs.RunSteps.{run_state}
use Rattle.due_model.specs.Tasks.{reply_now}
use Rattle.target_units.specs.Seated.{reply_told}
use Rattle.target_course.specs.States.{IsOwnConnection}

abbrev pub reply_with : Plan → Event → Option UnitReply → Option UnitReply
reply_with plan (events.Run id) was = Some (planned_reply plan)
reply_with plan (events.Fail id code) was = Some (told_of (aborted_reply code))
reply_with plan (events.Refuse id) was = Some (told_of queue_full)
reply_with plan (events.Accept id) was = was
reply_with plan (events.End id status) was = was
reply_with plan (events.Lost id) was = was
reply_with plan (events.Aborted host target unit what) was = was
reply_with plan (events.Reset dev) was = was

abbrev pub reply_if : Plan → Option Event → Option UnitReply → Option UnitReply
reply_if plan None was = was
reply_if plan (Some e) was = reply_with plan e was

-- The newest event stands first.
abbrev pub reply_after : Plan → List Event → Option UnitReply → Option UnitReply
reply_after plan [] was = was
reply_after plan (e ∷ shown) was = reply_with plan e (reply_after plan shown was)

-- In a connection of its own, while RST is false.
abbrev pub IsReplyOf : ScenarioValue → List Row → ℕ → Option UnitReply → Type 0
IsReplyOf s rows dev reply = (n : Connection) (p : Process) → IsOwnConnection rows dev n
    → (bus rows).rst ≡ false → process_served s (run_state s rows) ≡ Some p
    → reply ≡ reply_told (reply_in (array_of s (run_state s rows)).replies p.id)

-- So would the command of the process end, where it runs with these events.
abbrev pub IsOutlookAt : ScenarioValue → List Row → List Event → Plan → Type 0
IsOutlookAt s rows shown plan = (p : Process) → process_served s (run_state s rows) ≡ Some p → shows_run shown ≡ true
    → plan ≡ plan_of (reply_now (array_of s (run_state s rows)) p) plan.out_len
