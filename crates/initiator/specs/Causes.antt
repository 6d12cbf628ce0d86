-- What in the history ended a command, or stopped its automatic REQUEST SENSE.
use Rattle.std.specs.Prelude.{ℕ, Bool, true, false, ◌&&◌, ◌||◌, ◌==◌, List}
use Rattle.std.specs.List.{list_any}
use Rattle.bus_base.specs.declared.ProcId.{ProcId}
use Rattle.bus_base.specs.declared.Event.{Event}
use Rattle.bus_base.specs.declared.Event.TheVariants as events
use Rattle.scenario.specs.declared.value.CmdDef.{CmdDef}
use Rattle.due_model.specs.array_model.specs.Processes.{same_id}
use Rattle.story_model.specs.Story.{is_aborted, is_sense_stopped}
use Rattle.story_model.specs.Items.{sense_id}

-- ---- an event

-- This process ends with this status (7.3).
abbrev pub is_status_of : ProcId → ℕ → Event → Bool
is_status_of id status (events.End p code) = same_id p id && code == status
is_status_of id status _ = false

-- The target leaves this process where it should not (6.1.1).
abbrev pub is_loss_of : ProcId → Event → Bool
is_loss_of id (events.Lost p) = same_id p id
is_loss_of id _ = false

abbrev pub is_bus_reset : Event → Bool
is_bus_reset (events.Reset dev) = true
is_bus_reset _ = false

-- An abort that concerns this command, or its automatic REQUEST SENSE (6.6.1 to 6.6.4).
abbrev pub is_command_abort : CmdDef → Event → Bool
is_command_abort c (events.Aborted host target unit what) = is_aborted host target unit what c
is_command_abort c _ = false

abbrev pub is_sense_abort : CmdDef → Event → Bool
is_sense_abort c (events.Aborted host target unit what) = is_sense_stopped host target unit what c
is_sense_abort c _ = false

-- ---- the history

abbrev pub has_status : List Event → ProcId → ℕ → Bool
has_status history id status = list_any (λ e. is_status_of id status e) history

abbrev pub has_loss : List Event → ProcId → Bool
has_loss history id = list_any (λ e. is_loss_of id e) history

abbrev pub has_bus_reset : List Event → Bool
has_bus_reset history = list_any (λ e. is_bus_reset e) history

abbrev pub has_command_abort : List Event → CmdDef → Bool
has_command_abort history c = list_any (λ e. is_command_abort c e) history

abbrev pub has_sense_abort : List Event → CmdDef → Bool
has_sense_abort history c = list_any (λ e. is_sense_abort c e) history

-- The automatic REQUEST SENSE of this command, the n-th, was stopped: lost, or by a reset, or by an abort.
abbrev pub has_sense_stop : List Event → ℕ → CmdDef → Bool
has_sense_stop history n c = has_loss history (sense_id n) || (has_bus_reset history || has_sense_abort history c)
