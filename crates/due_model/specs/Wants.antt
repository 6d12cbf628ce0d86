-- Which device wants the bus, since when, and for what: by the book of each initiator and the units of each target.
use Rattle.std.specs.Prelude.{ℕ, ◌+◌, ◌&&◌, ◌==◌, List, [], ◌∷◌, Option, Some, None, if◌then◌else◌}
use Rattle.dialogue_model.specs.scenario.specs.declared.value.TargetDef.{TargetDef}
use Rattle.dialogue_model.specs.scenario.specs.declared.value.CmdDef.{CmdDef}
use Rattle.dialogue_model.specs.scenario.specs.declared.value.AbortDef.{AbortDef}
use Rattle.dialogue_model.specs.scenario.specs.Value.{ScenarioValue}
use Rattle.dialogue_model.specs.array_model.specs.Processes.{Process, process_of}
use Rattle.dialogue_model.specs.array_model.specs.Units.{UnitState, Array, unit_state_at, is_held}
use Rattle.dialogue_model.specs.array_model.specs.Seats.{current_of, is_initiator}
use Rattle.dialogue_model.specs.story_model.specs.Items.{Item, process, abort, command_item, sense_item, Sent, is_done}
use Rattle.dialogue_model.specs.story_model.specs.Items.{has_item, count_item, sense_from, open_limit_of}
use Rattle.dialogue_model.specs.story_model.specs.HistoryEvents.{abort_line_at}
use Rattle.dialogue_model.specs.Wants.{OwnCommand, OwnAbort, Book, item_since, Ready, ready_in, ready_by}
use Rattle.due_model.specs.RunState.{RunState, array_of}

-- ---- the book of an initiator

abbrev pub own_command : Sent → ℕ → CmdDef → OwnCommand
own_command b n c = record {
  number = n;
  def = c;
  sent = has_item b.sent (command_item n);
  over = has_item b.over (command_item n);
  sense_sent = has_item b.sent (sense_item n);
  sense_over = has_item b.over (sense_item n);
  tries = count_item b.tries (command_item n);
}

-- Those of a device among these, of which the first has this number.
abbrev pub own_commands : Sent → ℕ → ℕ → List CmdDef → List OwnCommand
own_commands b dev n [] = []
own_commands b dev n (c ∷ commands) =
    if c.host == dev then own_command b n c ∷ own_commands b dev (n + 1) commands
    else own_commands b dev (n + 1) commands

abbrev pub own_abort : Sent → ℕ → AbortDef → OwnAbort
own_abort b n a = record { number = n; at = a.at; done = is_done b (abort n) }

abbrev pub own_aborts : Sent → ℕ → ℕ → List AbortDef → List OwnAbort
own_aborts b dev n [] = []
own_aborts b dev n (a ∷ aborts) =
    if a.host == dev then own_abort b n a ∷ own_aborts b dev (n + 1) aborts
    else own_aborts b dev (n + 1) aborts

abbrev pub book_of : ScenarioValue → Sent → ℕ → Book
book_of s b dev = record {
  aborts = own_aborts b dev 1 s.aborts;
  sense = sense_from s b dev b.checks;
  commands = own_commands b dev 1 s.commands;
  most = open_limit_of s.hosts dev;
}

abbrev pub item_want_time : ScenarioValue → Sent → ℕ → Option ℕ
item_want_time s b dev = item_since (book_of s b dev)

-- The target that an item is for.
abbrev pub target_if : Option Process → Option ℕ
target_if None = None
target_if (Some p) = Some p.target

abbrev pub abort_target : Option AbortDef → Option ℕ
abort_target None = None
abort_target (Some a) = Some a.target

abbrev pub target_of : ScenarioValue → Option Item → Option ℕ
target_of s None = None
target_of s (Some (process id)) = target_if (process_of s id)
target_of s (Some (abort n)) = abort_target (abort_line_at s.aborts n)

-- ---- the eight units of a target

-- Since when the current process of this unit is that; the times stand beside the units.
abbrev pub since_of : List UnitState → List ℕ → ℕ → ℕ → ℕ
since_of [] times target unit = 0
since_of (u ∷ units) [] target unit = 0
since_of (u ∷ units) (time ∷ times) target unit =
    if u.target == target && u.unit == unit then time else since_of units times target unit

abbrev pub seek_of : List TargetDef → ℕ → ℕ
seek_of [] dev = 0
seek_of (t ∷ targets) dev = if t.dev == dev then t.seek else seek_of targets dev

abbrev pub ready_at : Array → List ℕ → ℕ → ℕ → ℕ → Option Ready
ready_at a times seek target unit = ready_in (is_held a.holds target unit)
    (current_of (unit_state_at a.units target unit)) (since_of a.units times target unit + seek)

abbrev pub ready_among : Array → List ℕ → ℕ → ℕ → Option Ready
ready_among a times seek t =
    ready_by
    (ready_at a times seek t 0
    ∷ ready_at a times seek t 1
    ∷ ready_at a times seek t 2
    ∷ ready_at a times seek t 3
    ∷ ready_at a times seek t 4
    ∷ ready_at a times seek t 5
    ∷ ready_at a times seek t 6
    ∷ ready_at a times seek t 7
    ∷ [])

abbrev pub ready_of : ScenarioValue → RunState → ℕ → Option Ready
ready_of s k target = ready_among (array_of s k) k.current_since (seek_of s.targets target) target

abbrev pub ready_time : Option Ready → Option ℕ
ready_time None = None
ready_time (Some r) = Some r.time

-- ---- either

-- Since when the device wants the bus.
abbrev pub want_time : ScenarioValue → RunState → ℕ → Option ℕ
want_time s k dev =
    if is_initiator s.hosts dev then item_want_time s k.story.sent dev else ready_time (ready_of s k dev)

abbrev pub initiator_if : Option Ready → Option ℕ
initiator_if None = None
initiator_if (Some r) = Some r.process.initiator

-- Whom a device that has entered arbitration calls.
abbrev pub callee : ScenarioValue → RunState → ℕ → Option Item → Option ℕ
callee s k dev aim = if is_initiator s.hosts dev then target_of s aim else initiator_if (ready_of s k dev)
