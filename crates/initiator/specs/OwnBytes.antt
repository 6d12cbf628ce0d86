-- The bytes that an initiator sends of its own processes: their command descriptor blocks, and their data.
use Rattle.std.specs.Prelude.{ℕ, ◌==◌, List, [], ◌∷◌, Option, Some, None, slice_index_or, if◌then◌else◌}
use Rattle.bus_base.specs.declared.ProcId.{ProcId}
use Rattle.scenario.specs.declared.value.CmdDef.{CmdDef}
use Rattle.scenario.specs.Needs.{sent_count}
use Rattle.scenario.specs.Value.{ScenarioValue}
use Rattle.due_model.specs.array_model.specs.Processes.{payload_bytes, sense_block}
use Rattle.initiator_books.specs.io_pointers.specs.declared.pointers.Place.{Place}
use Rattle.due_model.specs.dialogue_model.specs.Sending.{Sending}

pub record CommandBytesValue : Type 0 where
  pub cdb : List ℕ
  pub sent : List ℕ

abbrev pub no_bytes : CommandBytesValue
no_bytes = record { cdb = []; sent = [] }

-- Of an automatic REQUEST SENSE.
abbrev pub sense_bytes : CommandBytesValue
sense_bytes = record { cdb = sense_block; sent = [] }

abbrev pub bytes_of_command : ScenarioValue → CmdDef → CommandBytesValue
bytes_of_command s c = record { cdb = c.cdb; sent = payload_bytes c.payload (sent_count s c) }

abbrev pub bytes_if_own : ScenarioValue → ℕ → CmdDef → CommandBytesValue
bytes_if_own s dev c = if c.host == dev then bytes_of_command s c else no_bytes

abbrev pub bytes_of_commands : ScenarioValue → ℕ → List CmdDef → List CommandBytesValue
bytes_of_commands s dev [] = []
bytes_of_commands s dev (c ∷ commands) = bytes_if_own s dev c ∷ bytes_of_commands s dev commands

-- By the number of the command, from 1.
abbrev pub own_bytes : ScenarioValue → ℕ → List CommandBytesValue
own_bytes s dev = no_bytes ∷ bytes_of_commands s dev s.commands

-- ---- of a process, if there is one

abbrev pub bytes_of : List CommandBytesValue → Option ProcId → CommandBytesValue
bytes_of v None = no_bytes
bytes_of v (Some id) = if id.sense then sense_bytes else slice_index_or v id.command no_bytes

-- With its active pointers.
abbrev pub sending_from : List CommandBytesValue → Option ProcId → Place → Sending
sending_from v id place = record {
  cdb = (bytes_of v id).cdb;
  sent = (bytes_of v id).sent;
  command = place.command;
  moved = place.payload;
}
