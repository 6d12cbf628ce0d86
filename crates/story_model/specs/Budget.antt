-- The budget of a run: a bound on the steps of its devices that depends on the scenario alone.
use Rattle.std.specs.Prelude.{ℕ, ◌+◌, ◌-◌, ◌*◌, ◌/◌, max, ◌==◌, List, [], ◌∷◌, length, Option, Some, None, Result, Ok}
use Rattle.std.specs.Prelude.{Err, nat_le, if◌then◌else◌}
use Rattle.std.specs.List.{find}
use Rattle.array_model.specs.cdb_codec.specs.declared.command.Command.{Command}
use Rattle.array_model.specs.cdb_codec.specs.declared.command.CdbFault.{CdbFault}
use Rattle.array_model.specs.cdb_codec.specs.Cdb.{command_of}
use Rattle.array_model.specs.scenario.specs.declared.value.CmdDef.{CmdDef}
use Rattle.array_model.specs.scenario.specs.declared.value.TargetDef.{TargetDef}
use Rattle.array_model.specs.scenario.specs.declared.value.Policy.{Policy}
use Rattle.array_model.specs.scenario.specs.declared.value.Policy.TheVariants as policies
use Rattle.array_model.specs.scenario.specs.Value.{ScenarioValue}
use Rattle.array_model.specs.scenario.specs.Needs.{need_of}
use Rattle.array_model.specs.scenario.specs.Lookups.{is_tape}
use Rattle.array_model.specs.Execution.{range_of}

-- ---- data runs: how often a command may come back to move data, by the policy of its target

-- So many blocks at a time, the last time possibly fewer; or some, and then all from the beginning.
abbrev pub runs_by : Policy → ℕ → ℕ
runs_by policies.Never blocks = 1
runs_by policies.Command blocks = 1
runs_by (policies.Burst most) blocks = (blocks + (most - 1)) / most
runs_by (policies.NoSave most) blocks = if nat_le blocks most then 1 else 2

-- A read or a write of blocks; any other command moves all its bytes at once.
abbrev pub runs_over : Policy → Option (ℕ × ℕ) → ℕ
runs_over policy None = 1
runs_over policy (Some range) = runs_by policy range.1

abbrev pub runs_of : Policy → Result Command CdbFault → ℕ
runs_of policy (Ok k) = runs_over policy (range_of k)
runs_of policy (Err fault) = 0

abbrev pub runs_at : Option TargetDef → CmdDef → ℕ
runs_at None c = 0
runs_at (Some t) c = runs_of t.disc (command_of c.cdb)

-- A command that needs no bytes has no run, and one of a tape has one whatever the policy.
abbrev pub data_runs : ScenarioValue → CmdDef → ℕ
data_runs s c =
    if need_of s c == 0 then 0
    else if is_tape s c.target c.unit then 1
    else runs_at (find (λ (t : TargetDef). t.dev == c.target) s.targets) c

-- ---- the sums

abbrev pub bytes_of_all : ScenarioValue → List CmdDef → ℕ
bytes_of_all s [] = 0
bytes_of_all s (c ∷ commands) = (2 * need_of s c + 128) + bytes_of_all s commands

abbrev pub longest_need : ScenarioValue → List CmdDef → ℕ
longest_need s [] = 0
longest_need s (c ∷ commands) = max (need_of s c) (longest_need s commands)

abbrev pub runs_of_all : ScenarioValue → List CmdDef → ℕ
runs_of_all s [] = 0
runs_of_all s (c ∷ commands) = (data_runs s c + 8) + runs_of_all s commands

abbrev pub bytes_bound : ScenarioValue → ℕ
bytes_bound s = bytes_of_all s s.commands + length s.faults * (longest_need s s.commands + 64)

abbrev pub runs_bound : ScenarioValue → ℕ
runs_bound s = runs_of_all s s.commands + 2 * (length s.faults + length s.aborts + length s.resets)

-- The factors are wide on purpose.
abbrev pub budget : ScenarioValue → ℕ
budget s = 1024 * bytes_bound s + 32768 * runs_bound s + 8192 * (1 + length s.commands)
