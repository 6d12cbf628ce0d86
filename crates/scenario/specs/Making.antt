-- The scenario of a number: a large lawful input.
use Rattle.std.specs.Prelude.{ℕ, zero, suc, ◌+◌, ◌-◌, ◌*◌, ◌/◌, ◌%◌, Bool, true, false, List, [], ◌∷◌, ◌++◌, ◌==◌}
use Rattle.bus_base.specs.declared.events.Pick.TheVariants.{First, Last}
use Rattle.cdb_codec.specs.declared.command.Command.{Command}
use Rattle.cdb_codec.specs.declared.command.Command.TheVariants.{Read6, Write6}
use Rattle.cdb_codec.specs.Cdb.{cdb_bytes}
use Rattle.scenario.specs.declared.value.HostDef.{HostDef}
use Rattle.scenario.specs.declared.value.Policy.TheVariants as policies
use Rattle.scenario.specs.declared.value.TargetDef.{TargetDef}
use Rattle.scenario.specs.declared.value.UnitDef.{UnitDef}
use Rattle.scenario.specs.declared.value.Tag.TheVariants as tags
use Rattle.scenario.specs.declared.value.Payload.{Payload}
use Rattle.scenario.specs.declared.value.Payload.TheVariants as payloads
use Rattle.scenario.specs.declared.value.CmdDef.{CmdDef}
use Rattle.scenario.specs.Value.{ScenarioValue}

-- ---- what stands on the bus

-- two initiators, of which the first offers synchronous transfer
abbrev pub made_hosts : List HostDef
made_hosts =
    record { dev = 7; latency = 0; most = 8; retries = 2; period = 50; offset = 8; lag = 0; offers = true }
    ∷ record { dev = 6; latency = 20; most = 8; retries = 2; period = 0; offset = 0; lag = 0; offers = true } ∷ []

-- three targets, each with a policy of its own
abbrev pub made_targets : List TargetDef
made_targets = record {
  dev = 0;
  latency = 0;
  retries = 2;
  disc = policies.Command;
  pick = First;
  seek = 2000;
  period = 50;
  offset = 8;
  begins = false;
} ∷ record {
  dev = 1;
  latency = 30;
  retries = 2;
  disc = policies.Burst 1;
  pick = Last;
  seek = 3000;
  period = 50;
  offset = 8;
  begins = false;
} ∷ record {
  dev = 2;
  latency = 10;
  retries = 2;
  disc = policies.Never;
  pick = First;
  seek = 1000;
  period = 0;
  offset = 0;
  begins = false;
} ∷ []

abbrev pub made_unit : ℕ → UnitDef
made_unit target = record { target = target; unit = 0; blocks = 2048; size = 128; depth = 16 }

abbrev pub made_units : List UnitDef
made_units = made_unit 0 ∷ made_unit 1 ∷ made_unit 2 ∷ []

-- ---- the commands

-- A number below 1024 for command c: the high bits of a product, which the next command has elsewhere.
abbrev pub spread : ℕ → ℕ → ℕ
spread seed c = 40503 * (c + seed % 65536) % 65536 / 64

-- One block or two, from block q on: written where this test holds, and else read.
abbrev pub is_writing : ℕ → Bool
is_writing q = q / 6 % 2 == 1

abbrev pub transfer : Bool → ℕ → ℕ → Command
transfer true c q = Write6 q (1 + c % 2)
transfer false c q = Read6 q (1 + c % 2)

abbrev pub sent : Bool → ℕ → Payload
sent true c = payloads.From (c % 256)
sent false c = payloads.Nothing

-- command c, of which q is the number
abbrev pub command_at : ℕ → ℕ → CmdDef
command_at c q = record {
  host = 7 - q % 2;
  target = q / 2 % 3;
  unit = 0;
  at = 0;
  tag = tags.Simple (c % 256);
  cdb = cdb_bytes (transfer (is_writing q) c q);
  payload = sent (is_writing q) c;
}

abbrev pub made_command : ℕ → ℕ → CmdDef
made_command seed c = command_at c (spread seed c)

-- commands 1 to n
abbrev pub made_commands : ℕ → ℕ → List CmdDef
made_commands seed zero = []
made_commands seed (suc n) = made_commands seed n ++ made_command seed (suc n) ∷ []

-- The scenario of this number with n commands.
abbrev pub made : ℕ → ℕ → ScenarioValue
made seed n = record {
  version = 1;
  hosts = made_hosts;
  targets = made_targets;
  units = made_units;
  fills = [];
  tapes = [];
  loads = [];
  commands = made_commands seed n;
  aborts = [];
  resets = [];
  faults = [];
}
