-- A place without a device is not that of an end of a connection.
use Rattle.std.proofs.Common.{ℕ, ◌≡◌, true, List, Option, Some, None, subst}
use Rattle.std.specs.Prelude.{is_some}
use Rattle.bus_trace.specs.declared.Row.{Row}
use Rattle.bus_trace.specs.declared.connection.Connection.{Connection}
use Rattle.bus_trace.specs.Terms.{connection}
use Rattle.scenario.specs.declared.value.HostDef.{HostDef}
use Rattle.scenario.specs.declared.value.TargetDef.{TargetDef}
use Rattle.scenario.specs.Value.{ScenarioValue}
use Rattle.due_model.specs.story_model.specs.Samples.{host_latency, target_latency, latency_of}
use Rattle.due_model.specs.Defs.{host_of, target_def_of}
use Rattle.bus_run.specs.Places.{IsIn}
use Rattle.bus_run.specs.Seams.{seams}
use Rattle.bus_run.proofs.Seams.{ends_are}

no_host : (t : Option TargetDef) (h : Option HostDef) → target_latency t (host_latency h) ≡ None → is_some h ≡ true → ⊥
no_host (Some t) h e i = cc
no_host None (Some h) e i = cc
no_host None None e i = cc

no_target : (t : Option TargetDef) (o : Option ℕ) → target_latency t o ≡ None → is_some t ≡ true → ⊥
no_target (Some t) o e i = cc
no_target None o e i = cc

absent : {D : Type 0} → (IsOf : ScenarioValue → List Row → ℕ → D → Type 0) (s : ScenarioValue) (rows : List Row)
    (dev : ℕ) (place : Option D) → place ≡ None → IsIn IsOf s rows dev place → latency_of s dev ≡ None
absent {D} IsOf s rows dev place e h = subst (λ (p : Option D). IsIn IsOf s rows dev p) e h

pub absent_initiator : {D : Type 0} → (IsOf : ScenarioValue → List Row → ℕ → D → Type 0)
    (s : ScenarioValue) (rows : List Row) (n : Connection) (place : Option D)
    → place ≡ None → seams s rows ≡ true → connection rows ≡ Some n → IsIn IsOf s rows n.initiator place → ⊥
absent_initiator IsOf s rows n place e t k h = no_host (target_def_of s n.initiator) (host_of s n.initiator)
    (absent IsOf s rows n.initiator place e h) (ends_are s rows n t k).0

pub absent_target : {D : Type 0} → (IsOf : ScenarioValue → List Row → ℕ → D → Type 0)
    (s : ScenarioValue) (rows : List Row) (n : Connection) (place : Option D)
    → place ≡ None → seams s rows ≡ true → connection rows ≡ Some n → IsIn IsOf s rows n.target place → ⊥
absent_target IsOf s rows n place e t k h = no_target (target_def_of s n.target) (host_latency (host_of s n.target))
    (absent IsOf s rows n.target place e h) (ends_are s rows n t k).1
