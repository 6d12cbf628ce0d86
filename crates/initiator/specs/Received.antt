-- The bytes of data that came to an initiator of its own processes, and what each row does to them.
use Rattle.std.specs.Prelude.{ℕ, min, ◌≡◌, ◌+◌, ◌-◌, ◌^◌, ◌%◌, ◌==◌, ◌&&◌, ◌++◌, not, Bool, true, false, List, [], ◌∷◌}
use Rattle.std.specs.Prelude.{length, take, nat_lt, Option, Some, None, is_some, slice_set, slice_index_or}
use Rattle.std.specs.Prelude.{if◌then◌else◌}
use Rattle.bus_base.specs.declared.ProcId.{ProcId}
use Rattle.bus_trace.specs.declared.Row.{Row}
use Rattle.bus_trace.specs.declared.connection.Connection.{Connection}
use Rattle.bus_trace.specs.Phases.{is_data}
use Rattle.cdb_codec.specs.Cdb.{command_of}
use Rattle.cdb_codec.specs.declared.replies.TheConstants.{SENSE_LEN}
use Rattle.msg_grammar.specs.declared.message.MsgOut.{MsgOut}
use Rattle.scenario.specs.declared.value.CmdDef.{CmdDef}
use Rattle.scenario.specs.Needs.{need_of, is_write}
use Rattle.scenario.specs.Value.{ScenarioValue}
use Rattle.due_model.specs.array_model.specs.Processes.{command_at}
use Rattle.story_model.specs.BusState.{row_reading}
use Rattle.story_model.specs.CarriedBytes.{Area, CarriedBytes, carried_of}
use Rattle.story_model.specs.Links.{Link}
use Rattle.story_model.specs.Right.{same_bytes}
use Rattle.story_model.specs.Story.{Story}
use Rattle.story_model.specs.TraceHistory.{is_parity_error}
use Rattle.due_model.specs.dialogue_model.specs.declared.exchange.Hearing.{Hearing}
use Rattle.due_model.specs.RunSteps.{run_state}

-- ---- a buffer: what came, from the first byte on, as far as there is room

pub record BufferValue : Type 0 where
  pub bytes : List ℕ
  pub room : ℕ

abbrev pub empty_buffer : ℕ → BufferValue
empty_buffer room = record { bytes = []; room = room }

-- A byte comes to the place of one that came before, or to the next.
abbrev pub buffer_with : BufferValue → ℕ → ℕ → BufferValue
buffer_with v place byte =
    if nat_lt place (length v.bytes) then record v { bytes = slice_set v.bytes place byte }
    else if place == length v.bytes && nat_lt place v.room then record v { bytes = v.bytes ++ byte ∷ [] }
    else v

-- ---- of each command one for its own data, and one for those of its automatic REQUEST SENSE

pub record BufferPairValue : Type 0 where
  pub command : BufferValue
  pub sense : BufferValue

abbrev pub no_buffers : BufferPairValue
no_buffers = record { command = empty_buffer 0; sense = empty_buffer 0 }

abbrev pub half_of : BufferPairValue → Bool → BufferValue
half_of p true = p.sense
half_of p false = p.command

abbrev pub pair_with : BufferPairValue → Bool → ℕ → ℕ → BufferPairValue
pair_with p true place byte = record p { sense = buffer_with p.sense place byte }
pair_with p false place byte = record p { command = buffer_with p.command place byte }

abbrev pub pair_at : List BufferPairValue → ℕ → BufferPairValue
pair_at v n = slice_index_or v n no_buffers

abbrev pub buffer_at : List BufferPairValue → ProcId → BufferValue
buffer_at v id = half_of (pair_at v id.command) id.sense

abbrev pub received_with : List BufferPairValue → ProcId → ℕ → ℕ → List BufferPairValue
received_with v id place byte = slice_set v id.command (pair_with (pair_at v id.command) id.sense place byte)

-- What came to a command is handed out, and its room with it.
abbrev pub received_taken : List BufferPairValue → ℕ → List BufferPairValue
received_taken v n = slice_set v n (record (pair_at v n) { command = empty_buffer 0 })

-- ---- before any row

-- A write has room for none.
abbrev pub data_room : ScenarioValue → CmdDef → ℕ
data_room s c = if is_write (command_of c.cdb) then 0 else min (need_of s c) (2 ^ 32 - 1)

abbrev pub room_of : ScenarioValue → CmdDef → Bool → ℕ
room_of s c true = SENSE_LEN
room_of s c false = data_room s c

abbrev pub buffers_if_own : ScenarioValue → ℕ → CmdDef → BufferPairValue
buffers_if_own s dev c =
    if c.host == dev then record { command = empty_buffer (data_room s c); sense = empty_buffer SENSE_LEN }
    else no_buffers

abbrev pub buffers_of_commands : ScenarioValue → ℕ → List CmdDef → List BufferPairValue
buffers_of_commands s dev [] = []
buffers_of_commands s dev (c ∷ commands) = buffers_if_own s dev c ∷ buffers_of_commands s dev commands

-- By the number of the command, from 1.
abbrev pub nothing_received : ScenarioValue → ℕ → List BufferPairValue
nothing_received s dev = no_buffers ∷ buffers_of_commands s dev s.commands

-- ---- a row that tells this, and after which this connection stands

-- A byte of data crosses in it, and the connection stays.
abbrev pub brings_data : Hearing → Option Connection → Bool
brings_data w after = w.crosses && is_data w.change.before && is_some after && not w.change.after.rst

-- The process of its own connection, if there is one, and where its active data pointer stands before the row.
abbrev pub received_after : List BufferPairValue → Option ProcId → ℕ → Hearing → Option Connection
    → List BufferPairValue
received_after v None place w after = v
received_after v (Some id) place w after =
    if brings_data w after then received_with v id place (w.change.after.data_bits % 256) else v

-- ---- what the rows tell

abbrev pub moved_of : Story → ProcId → Area
moved_of b id = (carried_of b.carried id).moved

-- It has what came to this area, as far as this room goes.
pub record IsBufferOf (a : Area) (room : ℕ) (v : BufferValue) : Type 0 where
  pub room_is : v.room ≡ room
  pub bytes_are : v.bytes ≡ take room a.bytes

-- So much came of each process of this initiator's own after these rows.
pub record AreReceived (s : ScenarioValue) (rows : List Row) (dev : ℕ) (v : List BufferPairValue) : Type 0 where
  pub long : length v ≡ length s.commands + 1
  pub buffers : (id : ProcId) (c : CmdDef) → command_at s.commands id.command ≡ Some c → (c.host == dev) ≡ true
      → IsBufferOf (moved_of (run_state s rows).story id) (room_of s c id.sense) (buffer_at v id)

-- ---- MESSAGE PARITY ERROR brings back what a process had carried before the message (6.6.13)

abbrev pub undone_by : Option Link → Option MsgOut → Option CarriedBytes
undone_by None m = None
undone_by (Some l) None = None
undone_by (Some l) (Some m) = if is_parity_error m then l.undo else None

-- Its bytes of data are those that it has.
abbrev pub has_bytes_of : List CarriedBytes → Option CarriedBytes → Bool
has_bytes_of carried None = true
has_bytes_of carried (Some k) = same_bytes k.moved.bytes (carried_of carried k.id).moved.bytes

-- No row of these takes a byte of data back so.
abbrev pub undoes_no_byte : ScenarioValue → List Row → Bool
undoes_no_byte s [] = true
undoes_no_byte s (row ∷ rows) = has_bytes_of (run_state s rows).story.carried
    (undone_by (run_state s rows).story.link (row_reading (run_state s rows).story.bus_state row).out)
    && undoes_no_byte s rows
