-- Processes: the commands of a scenario, and their automatic REQUEST SENSE (ANSI X3.131-1994, 7.6 and 7.8).
use Rattle.std.specs.Prelude.{ℕ, zero, suc, ◌+◌, ◌%◌, Bool, true, false, ◌&&◌, ◌==◌, List, [], ◌∷◌, Option, Some, None}
use Rattle.std.specs.Prelude.{if◌then◌else◌}
use Rattle.bus_base.specs.declared.ProcId.{ProcId}
use Rattle.cdb_codec.specs.declared.operation.TheConstants.{REQUEST_SENSE}
use Rattle.cdb_codec.specs.declared.replies.TheConstants.{SENSE_LEN}
use Rattle.scenario.specs.declared.value.CmdDef.{CmdDef}
use Rattle.scenario.specs.declared.value.Tag.{Tag}
use Rattle.scenario.specs.declared.value.Tag.TheVariants as tags
use Rattle.scenario.specs.declared.value.Payload.{Payload}
use Rattle.scenario.specs.declared.value.Payload.TheVariants as payloads
use Rattle.scenario.specs.Value.{ScenarioValue}
use Rattle.scenario.specs.Lookups.{is_tape}
use Rattle.scenario.specs.Needs.{sent_of}

-- A command on its way: who sent it where, how it is tagged, its command descriptor block, and the bytes that it
-- sends.
pub record Process : Type 0 where
  pub id : ProcId
  pub initiator : ℕ
  pub target : ℕ
  pub unit : ℕ
  pub tag : Tag
  pub cdb : List ℕ
  pub sent : List ℕ
  -- whether its unit is serial: it takes the commands of an initiator in their order, and they name no blocks
  pub serial : Bool

-- From this byte on, modulo 256.
abbrev pub bytes_from : ℕ → ℕ → List ℕ
bytes_from first zero = []
bytes_from first (suc n) = first % 256 ∷ bytes_from (first + 1) n

abbrev pub payload_bytes : Payload → ℕ → List ℕ
payload_bytes payloads.Nothing n = []
payload_bytes (payloads.Hex bytes) n = bytes
payload_bytes (payloads.From first) n = bytes_from first n

-- The n-th command, counted from 1.
abbrev pub command_at : List CmdDef → ℕ → Option CmdDef
command_at [] n = None
command_at (c ∷ commands) zero = None
command_at (c ∷ commands) (suc zero) = Some c
command_at (c ∷ commands) (suc (suc n)) = command_at commands (suc n)

-- The command itself; its automatic REQUEST SENSE is untagged and has room for all sense data.
abbrev pub sense_block : List ℕ
sense_block = REQUEST_SENSE ∷ 0x00 ∷ 0x00 ∷ 0x00 ∷ SENSE_LEN ∷ 0x00 ∷ []

-- A tape is serial, a disk is not.
abbrev pub is_serial : ScenarioValue → CmdDef → Bool
is_serial s c = is_tape s c.target c.unit

abbrev pub sense_process : ScenarioValue → ProcId → CmdDef → Process
sense_process s id c = record {
  id = id;
  initiator = c.host;
  target = c.target;
  unit = c.unit;
  tag = tags.Untagged;
  cdb = sense_block;
  sent = [];
  serial = is_serial s c;
}

abbrev pub command_process : ScenarioValue → ProcId → CmdDef → Process
command_process s id c = record {
  id = id;
  initiator = c.host;
  target = c.target;
  unit = c.unit;
  tag = c.tag;
  cdb = c.cdb;
  sent = payload_bytes c.payload (sent_of s c);
  serial = is_serial s c;
}

abbrev pub process_by : ScenarioValue → ProcId → CmdDef → Process
process_by s id c = if id.sense then sense_process s id c else command_process s id c

abbrev pub process_if : ScenarioValue → ProcId → Option CmdDef → Option Process
process_if s id None = None
process_if s id (Some c) = Some (process_by s id c)

abbrev pub process_of : ScenarioValue → ProcId → Option Process
process_of s id = process_if s id (command_at s.commands id.command)

-- The same process.
abbrev pub same_bool : Bool → Bool → Bool
same_bool true b = b
same_bool false true = false
same_bool false false = true

abbrev pub same_id : ProcId → ProcId → Bool
same_id a b = a.command == b.command && same_bool a.sense b.sense
