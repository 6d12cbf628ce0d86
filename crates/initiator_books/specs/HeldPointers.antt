-- What an initiator holds of its processes: of each its pointers (6.4) and its status.
use Rattle.std.specs.Prelude.{ℕ, min, ◌≡◌, ◌+◌, ◌≤◌, Bool, true, false, ◌==◌, List, length, Option, Some, None, nat_lt}
use Rattle.std.specs.Prelude.{slice_index, slice_index_or, slice_set, if◌then◌else◌}
use Rattle.bus_base.specs.declared.ProcId.{ProcId}
use Rattle.bus_trace.specs.LineSet.{LineSet}
use Rattle.bus_trace.specs.Phases.{is_data, is_command}
use Rattle.msg_grammar.specs.declared.message.MsgIn.{MsgIn}
use Rattle.msg_grammar.specs.declared.message.MsgIn.TheVariants as to_initiator
use Rattle.scenario.specs.Value.{ScenarioValue}
use Rattle.array_model.specs.Processes.{command_at}
use Rattle.story_model.specs.Items.{is_of_host}
use Rattle.story_model.specs.CarriedBytes.{CarriedBytes, is_status_phase, carried_of}
use Rattle.io_pointers.specs.declared.pointers.Area.{Area}
use Rattle.io_pointers.specs.declared.pointers.Area.TheVariants as areas
use Rattle.io_pointers.specs.declared.pointers.Place.{Place}
use Rattle.io_pointers.specs.declared.pointers.Pointers.{Pointers}
use Rattle.io_pointers.specs.Pointers.{pointers_of, at_start, place_in, with_saved_data, with_restored, advanced}
use Rattle.initiator_books.specs.declared.held.Held.{Held}
use Rattle.initiator_books.specs.declared.held.HeldPair.{HeldPair}

-- A place past the last one of 32 bits is held as that one.
abbrev pub capped_place : Place → Place
capped_place p =
    record { command = min p.command 0xffffffff; payload = min p.payload 0xffffffff; status = min p.status 0xffffffff }

abbrev pub capped_pointers : Pointers → Pointers
capped_pointers p = record { saved = capped_place p.saved; active = capped_place p.active }

-- It is what is held of a process that has carried this: of the status its first byte. No pointer to the status stands
-- past what has come of it.
pub record IsHeldOf (k : CarriedBytes) (v : Held) : Type 0 where
  pub pointers_are : v.pointers ≡ capped_pointers (pointers_of k)
  pub status_is : v.status ≡ slice_index k.status.bytes 0
  pub active_within : k.status.active ≤ length k.status.bytes
  pub saved_within : k.status.saved ≤ length k.status.bytes

-- ---- of one process

abbrev pub nothing_held : Held
nothing_held = record { pointers = record { saved = at_start; active = at_start }; status = 0 }

-- A connection begins, or RESTORE POINTERS comes.
abbrev pub held_restored : Held → Held
held_restored v = record v { pointers = with_restored v.pointers }

abbrev pub held_after_message : Held → MsgIn → Held
held_after_message v to_initiator.SavePointer = record v { pointers = with_saved_data v.pointers }
held_after_message v to_initiator.RestorePointers = held_restored v
held_after_message v _ = v

abbrev pub advanced_within : Pointers → Area → Pointers
advanced_within p area = if nat_lt (place_in p.active area) 0xffffffff then advanced p area else p

abbrev pub status_after : Held → ℕ → ℕ
status_after v byte = if v.pointers.active.status == 0 then byte else v.status

-- A byte crosses in the phase of these lines.
abbrev pub held_after_byte : Held → LineSet → ℕ → Held
held_after_byte v s byte =
    if is_command s then record v { pointers = advanced_within v.pointers areas.Command }
    else if is_data s then record v { pointers = advanced_within v.pointers areas.Payload } else if is_status_phase s
    then record { pointers = advanced_within v.pointers areas.Status; status = status_after v byte } else v

-- ---- of all, by the numbers of their commands

abbrev pub no_pair : HeldPair
no_pair = record { command = nothing_held; sense = nothing_held }

abbrev pub half_of : HeldPair → Bool → Held
half_of p true = p.sense
half_of p false = p.command

abbrev pub with_half : HeldPair → Bool → Held → HeldPair
with_half p true v = record p { sense = v }
with_half p false v = record p { command = v }

abbrev pub held_at : List HeldPair → ProcId → Held
held_at all id = half_of (slice_index_or all id.command no_pair) id.sense

abbrev pub with_held : List HeldPair → ProcId → Held → List HeldPair
with_held all id v = slice_set all id.command (with_half (slice_index_or all id.command no_pair) id.sense v)

-- Of a process, if there is one.
abbrev pub restored_if : List HeldPair → Option ProcId → List HeldPair
restored_if all None = all
restored_if all (Some id) = with_held all id (held_restored (held_at all id))

abbrev pub message_if : List HeldPair → Option ProcId → MsgIn → List HeldPair
message_if all None m = all
message_if all (Some id) m = with_held all id (held_after_message (held_at all id) m)

abbrev pub byte_if : List HeldPair → Option ProcId → LineSet → ℕ → List HeldPair
byte_if all None s byte = all
byte_if all (Some id) s byte = with_held all id (held_after_byte (held_at all id) s byte)

-- Of each process of this initiator it is what is held, where all have carried this.
pub record AreHeldOf (s : ScenarioValue) (dev : ℕ) (carried : List CarriedBytes) (all : List HeldPair) : Type 0 where
  pub long : length all ≡ length s.commands + 1
  pub held : (id : ProcId) → is_of_host (command_at s.commands id.command) dev ≡ true
      → IsHeldOf (carried_of carried id) (held_at all id)
