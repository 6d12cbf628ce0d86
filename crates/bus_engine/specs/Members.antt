-- The devices of a scenario.
use Rattle.std.specs.Prelude.{ℕ, ◌≡◌, List}
use Rattle.bus_trace.specs.declared.Row.{Row}
use Rattle.scenario.specs.Value.{ScenarioValue}
use Rattle.initiator.specs.Hosts.{HostValue, IsHostAfter}
use Rattle.disk_target.specs.Targets.{TargetValue, IsTargetAfter}
use Rattle.bus_engine.specs.declared.member.Member.{Member}
use Rattle.bus_engine.specs.declared.member.Member.TheVariants.{Initiator, Target}

-- This initiator of the scenario was told of these rows.
pub record IsHost (s : ScenarioValue) (rows : List Row) (dev : ℕ) (host : HostValue) : Type 0 where
  pub named : host.def.dev ≡ dev
  pub after : IsHostAfter s rows host

-- This target of the scenario was told of these rows.
pub record IsTarget (s : ScenarioValue) (rows : List Row) (dev : ℕ) (target : TargetValue) : Type 0 where
  pub named : target.def.dev ≡ dev
  pub after : IsTargetAfter s rows target

abbrev pub IsMember : ScenarioValue → List Row → ℕ → Member → Type 0
IsMember s rows dev (Initiator host) = IsHost s rows dev host
IsMember s rows dev (Target target) = IsTarget s rows dev target
