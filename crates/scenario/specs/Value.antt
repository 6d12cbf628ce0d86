-- What contracts see of a scenario.
use Rattle.std.specs.Prelude.{ℕ, List, []}
use Rattle.scenario.specs.declared.value.HostDef.{HostDef}
use Rattle.scenario.specs.declared.value.TargetDef.{TargetDef}
use Rattle.scenario.specs.declared.value.UnitDef.{UnitDef}
use Rattle.scenario.specs.declared.value.FillDef.{FillDef}
use Rattle.scenario.specs.declared.value.TapeDef.{TapeDef}
use Rattle.scenario.specs.declared.value.LoadDef.{LoadDef}
use Rattle.scenario.specs.declared.value.CmdDef.{CmdDef}
use Rattle.scenario.specs.declared.value.AbortDef.{AbortDef}
use Rattle.scenario.specs.declared.value.ResetDef.{ResetDef}
use Rattle.scenario.specs.declared.value.FaultDef.{FaultDef}

-- A scenario as a plain record of lists.
pub record ScenarioValue : Type 0 where
  pub version : ℕ
  pub hosts : List HostDef
  pub targets : List TargetDef
  pub units : List UnitDef
  pub fills : List FillDef
  pub tapes : List TapeDef
  pub loads : List LoadDef
  pub commands : List CmdDef
  pub aborts : List AbortDef
  pub resets : List ResetDef
  pub faults : List FaultDef

-- No line was read: no version is known, which is 0, and nothing is declared.
abbrev pub nothing_said : ScenarioValue
nothing_said = record {
  version = 0;
  hosts = [];
  targets = [];
  units = [];
  fills = [];
  tapes = [];
  loads = [];
  commands = [];
  aborts = [];
  resets = [];
  faults = [];
}
