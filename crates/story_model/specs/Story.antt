-- What is known after some rows, and how an event ends what is open.
use Rattle.std.specs.Prelude.{ℕ, ◌+◌, Bool, true, false, not, ◌&&◌, ◌||◌, ◌==◌, List, [], ◌∷◌, ◌++◌, replicate, Option}
use Rattle.std.specs.Prelude.{None, if◌then◌else◌}
use Rattle.std.specs.List.{list_any}
use Rattle.bus_phases.specs.bus_base.specs.declared.ProcId.{ProcId}
use Rattle.bus_phases.specs.bus_base.specs.declared.AbortKind.{AbortKind}
use Rattle.bus_phases.specs.bus_base.specs.declared.AbortKind.TheVariants as aborts
use Rattle.bus_phases.specs.bus_base.specs.declared.Event.{Event}
use Rattle.bus_phases.specs.bus_base.specs.declared.Event.TheVariants as events
use Rattle.array_model.specs.cdb_codec.specs.declared.status.TheConstants.{CHECK_CONDITION}
use Rattle.array_model.specs.scenario.specs.declared.value.CmdDef.{CmdDef}
use Rattle.array_model.specs.scenario.specs.Value.{ScenarioValue}
use Rattle.array_model.specs.Steps.{has_tag}
use Rattle.story_model.specs.BusState.{BusState, quiet_bus}
use Rattle.story_model.specs.Items.{Item, process, Sent, sense_item, is_open}
use Rattle.story_model.specs.Links.{Link}
use Rattle.story_model.specs.CarriedBytes.{CarriedBytes, carried_of, with_carried}

-- The first event that ended a command.
pub data Ending : Type 0 where
  by_status : ℕ → Ending
  by_loss : Ending
  by_reset : Ending
  by_abort : Ending
  unanswered : Ending

pub record Story : Type 0 where
  pub bus_state : BusState
  pub sent : Sent
  -- what each device last entered arbitration for
  pub aims : List (Option Item)
  pub link : Option Link
  pub carried : List CarriedBytes
  pub ended : List (ℕ × Ending)
  -- the history, the newest event first
  pub history : List Event

abbrev pub empty_story : Story
empty_story = record {
  bus_state = quiet_bus;
  sent = record { sent = []; over = []; checks = []; tries = [] };
  aims = replicate 8 None;
  link = None;
  carried = [];
  ended = [];
  history = [];
}

-- ---- what an event does

abbrev pub is_ended : List (ℕ × Ending) → ℕ → Bool
is_ended ended n = list_any (λ (e : ℕ × Ending). e.0 == n) ended

abbrev pub with_ending : List (ℕ × Ending) → ProcId → Ending → List (ℕ × Ending)
with_ending ended id e = if id.sense || is_ended ended id.command then ended else (id.command, e) ∷ ended

abbrev pub story_with_over : Story → Item → Story
story_with_over b item = record b { sent = record b.sent { over = item ∷ b.sent.over } }

abbrev pub story_with_end : Story → ProcId → Ending → Story
story_with_end b id e = record (story_with_over b (process id)) { ended = with_ending b.ended id e }

abbrev pub with_check : Story → ProcId → ℕ → Story
with_check b id status =
    if not id.sense && status == CHECK_CONDITION
    then record b { sent = record b.sent { checks = b.sent.checks ++ id.command ∷ [] } } else b

-- Every open command that this test names ends so, and every automatic REQUEST SENSE that the other names is stopped.
abbrev pub story_with_end_if : (CmdDef → Bool) → (CmdDef → Bool) → Ending → ℕ → CmdDef → Story → Story
story_with_end_if drops stops e n c b =
    if is_open b.sent n && drops c then story_with_end b (record { command = n; sense = false }) e
    else if stops c && list_any (λ k. k == n) b.sent.checks then story_with_over b (sense_item n)
    else b

abbrev pub story_with_ends : (CmdDef → Bool) → (CmdDef → Bool) → Ending → ℕ → List CmdDef → Story → Story
story_with_ends drops stops e n [] b = b
story_with_ends drops stops e n (c ∷ commands) b =
    story_with_ends drops stops e (n + 1) commands (story_with_end_if drops stops e n c b)

abbrev pub is_unit_of : CmdDef → ℕ → ℕ → Bool
is_unit_of c target unit = c.target == target && c.unit == unit

-- The commands that an abort of this initiator concerns, and those whose automatic REQUEST SENSE it stops.
abbrev pub is_aborted : ℕ → ℕ → ℕ → AbortKind → CmdDef → Bool
is_aborted host target unit aborts.All c = c.host == host && is_unit_of c target unit
is_aborted host target unit (aborts.Tag n) c = c.host == host && is_unit_of c target unit && has_tag c.tag n
is_aborted host target unit aborts.WholeQueue c = is_unit_of c target unit
is_aborted host target unit aborts.Device c = c.target == target

abbrev pub is_sense_stopped : ℕ → ℕ → ℕ → AbortKind → CmdDef → Bool
is_sense_stopped host target unit aborts.All c = c.host == host && is_unit_of c target unit
is_sense_stopped host target unit (aborts.Tag n) c = false
is_sense_stopped host target unit aborts.WholeQueue c = false
is_sense_stopped host target unit aborts.Device c = c.target == target

abbrev pub marked_refused : CarriedBytes → CarriedBytes
marked_refused k = record k { refused = true }

abbrev pub marked_shown : CarriedBytes → CarriedBytes
marked_shown k = record k { shown = true }

abbrev pub story_after_event : ScenarioValue → Story → Event → Story
story_after_event s b (events.Accept id) = b
story_after_event s b (events.Refuse id) =
    record b { carried = with_carried b.carried (marked_refused (carried_of b.carried id)) }
story_after_event s b (events.Run id) =
    record b { carried = with_carried b.carried (marked_shown (carried_of b.carried id)) }
story_after_event s b (events.Fail id code) =
    record b { carried = with_carried b.carried (marked_shown (carried_of b.carried id)) }
story_after_event s b (events.End id status) = with_check (story_with_end b id (by_status status)) id status
story_after_event s b (events.Lost id) = story_with_end b id by_loss
story_after_event s b (events.Aborted host target unit what) =
    story_with_ends (is_aborted host target unit what) (is_sense_stopped host target unit what) by_abort 1 s.commands b
story_after_event s b (events.Reset dev) = story_with_ends (λ c. true) (λ c. true) by_reset 1 s.commands b

-- The events are given the newest first.
abbrev pub story_after_events : ScenarioValue → Story → List Event → Story
story_after_events s b [] = b
story_after_events s b (event ∷ shown) = story_after_event s (story_after_events s b shown) event
