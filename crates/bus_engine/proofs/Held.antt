-- A member of either kind.
use Rattle.std.proofs.Common.{ℕ, ◌≡◌, ◌≢◌, true, false, List, Some, sym, ap, subst, ◌∙◌}
use Rattle.std.specs.Prelude.{◌==◌}
use Rattle.std.proofs.lemmas.Bool.{eq-eqb, true≢false, or_parts}
use Rattle.bus_trace.specs.declared.Row.{Row}
use Rattle.bus_trace.specs.declared.connection.Connection.{Connection}
use Rattle.bus_trace.specs.Terms.{connection}
use Rattle.scenario.specs.Value.{ScenarioValue}
use Rattle.delivery_laws.specs.scsi_device.specs.Lines.{IsTargetLine}
use Rattle.initiator.specs.Hosts.{HostValue}
use Rattle.initiator.specs.States as initiators
use Rattle.disk_target.specs.Targets.{TargetValue}
use Rattle.disk_target.specs.target_course.specs.States as targets
use Rattle.bus_run.specs.Seams.{seams}
use Rattle.bus_run.specs.Standing.{IsKept, is_end}
use Rattle.bus_run.proofs.Seams.{not_called, not_calling}
use Rattle.bus_engine.specs.declared.member.Member.{Member}
use Rattle.bus_engine.specs.declared.member.Member.TheVariants.{Initiator, Target}
use Rattle.bus_engine.specs.Members.{IsHost, IsTarget, IsMember}

pub initiator_is : (s : ScenarioValue) (rows : List Row) (dev : ℕ) (m : Member) (host : HostValue) → m ≡ Initiator host
    → IsMember s rows dev m → IsHost s rows dev host
initiator_is s rows dev m host e h = subst (λ (x : Member). IsMember s rows dev x) e h

pub target_is : (s : ScenarioValue) (rows : List Row) (dev : ℕ) (m : Member) (target : TargetValue) → m ≡ Target target
    → IsMember s rows dev m → IsTarget s rows dev target
target_is s rows dev m target e h = subst (λ (x : Member). IsMember s rows dev x) e h

pub never_called : (s : ScenarioValue) (rows : List Row) (dev : ℕ) (host : HostValue) (n : Connection)
    → IsHost s rows dev host → seams s rows ≡ true → connection rows ≡ Some n → n.target ≡ dev → ⊥
never_called s rows dev host n h t k e =
    true≢false (sym (eq-eqb n.target host.def.dev (e ∙ sym h.named)) ∙ not_called s rows host.def n h.after.line t k)

pub calls_not : (s : ScenarioValue) (rows : List Row) (dev : ℕ) (target : TargetValue) (n : Connection)
    → target.def.dev ≡ dev → IsTargetLine s target.def → seams s rows ≡ true → connection rows ≡ Some n
    → n.initiator ≡ dev → ⊥
calls_not s rows dev target n named line t k e =
    true≢false (sym (eq-eqb n.initiator target.def.dev (e ∙ sym named)) ∙ not_calling s rows target.def n line t k)

pub never_calls : (s : ScenarioValue) (rows : List Row) (dev : ℕ) (target : TargetValue) (n : Connection)
    → IsTarget s rows dev target → seams s rows ≡ true → connection rows ≡ Some n → n.initiator ≡ dev → ⊥
never_calls s rows dev target n h = calls_not s rows dev target n h.named h.after.knows.line

pub own_connection : (s : ScenarioValue) (rows : List Row) (dev : ℕ) (host : HostValue) (n : Connection)
    → IsHost s rows dev host → connection rows ≡ Some n → n.initiator ≡ dev
    → initiators.IsOwnConnection rows host.def.dev n
own_connection s rows dev host n h k e = record { stands = k; own = eq-eqb n.initiator host.def.dev (e ∙ sym h.named) }

pub called_connection : (s : ScenarioValue) (rows : List Row) (dev : ℕ) (target : TargetValue) (n : Connection)
    → IsTarget s rows dev target → connection rows ≡ Some n → n.target ≡ dev
    → targets.IsOwnConnection rows target.def.dev n
called_connection s rows dev target n h k e =
    record { stands = k; own = eq-eqb n.target target.def.dev (e ∙ sym h.named) }

-- ---- of a row of an end of a connection, at a device that is none

pub record IsBeside (row : Row) (n : Connection) (dev : ℕ) : Type 0 where
  pub of_other : row.dev ≢ dev
  pub no_initiator : (n.initiator == dev) ≡ false
  pub no_target : (n.target == dev) ≡ false

pub beside : (rows : List Row) (row : Row) (n : Connection) (dev own : ℕ) → own ≡ dev → IsKept rows row n
    → is_end n dev ≡ false → IsBeside row n own
beside rows row n dev own named kept away =
    let no : is_end n own ≡ false = ap (λ (k : ℕ). is_end n k) named ∙ away in
    let both = or_parts (n.initiator == own) (n.target == own) no in
    record {
      of_other = λ same. true≢false (sym kept.of_end ∙ ap (λ (k : ℕ). is_end n k) same ∙ no);
      no_initiator = both.0;
      no_target = both.1;
    }
