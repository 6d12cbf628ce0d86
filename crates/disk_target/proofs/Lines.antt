-- What the lines of a scenario say of its processes and of its targets.
use Rattle.std.proofs.Common.{ℕ, ◌≡◌, ◌<◌, ◌==◌, Bool, true, false, List, [], ◌∷◌, refl, subst, cond, Option, Some}
use Rattle.std.proofs.Common.{None}
use Rattle.std.specs.Prelude.{if◌then◌else◌}
use Rattle.std.specs.List.{find}
use Rattle.bus_base.specs.declared.ProcId.{ProcId}
use Rattle.scenario.specs.declared.value.CmdDef.{CmdDef}
use Rattle.scenario.specs.declared.value.TargetDef.{TargetDef}
use Rattle.scenario.specs.Value.{ScenarioValue}
use Rattle.array_model.specs.Processes.{Process, command_at, command_process, process_by, process_if, process_of}
use Rattle.array_model.specs.Processes.{sense_process}
use Rattle.array_model.specs.Seats.{is_initiator}
use Rattle.due_model.specs.Defs.{target_def_of}
use Rattle.due_model.specs.Wants.{seek_of}
use Rattle.target_course.specs.scsi_device.proofs.Finds.{none_some, some_is}
use Rattle.target_course.specs.scsi_device.specs.Lines.{IsCommandLine}

-- ---- a process is of a unit below 8 and of an initiator

pub record IsOfLine (s : ScenarioValue) (p : Process) : Type 0 where
  pub unit : p.unit < 8
  pub host : is_initiator s.hosts p.initiator ≡ true

line_by : (s : ScenarioValue) (id : ProcId) (c : CmdDef) → IsCommandLine s c → IsOfLine s (process_by s id c)
line_by s id c l = either id.sense
    (sense_process s id c)
    (command_process s id c)
    (record { unit = l.unit; host = l.host_is }) (record { unit = l.unit; host = l.host_is })
  where
    either : (y : Bool) (one two : Process) → IsOfLine s one → IsOfLine s two → IsOfLine s (if y then one else two)
    either true one two f g = f
    either false one two f g = g

pub line_of_process : (s : ScenarioValue) (id : ProcId) (p : Process)
    → ((n : ℕ) (c : CmdDef) → command_at s.commands n ≡ Some c → IsCommandLine s c) → process_of s id ≡ Some p
    → IsOfLine s p
line_of_process s id p lines e = go (command_at s.commands id.command) refl e
  where
    go : (x : Option CmdDef) → command_at s.commands id.command ≡ x → process_if s id x ≡ Some p → IsOfLine s p
    go None f k = absurd (none_some p k)
    go (Some c) f k =
        subst (λ (q : Process). IsOfLine s q) (some_is (process_by s id c) p k) (line_by s id c (lines id.command c f))

-- ---- the seek time of a target

sought : (targets : List TargetDef) (dev : ℕ) (t : TargetDef) → find (λ (x : TargetDef). x.dev == dev) targets ≡ Some t
    → seek_of targets dev ≡ t.seek
sought [] dev t e = absurd (none_some t e)
sought (x ∷ targets) dev t e = go (x.dev == dev) e (λ k. sought targets dev t k)
  where
    go : (y : Bool) → cond y (Some x) (find (λ (z : TargetDef). z.dev == dev) targets) ≡ Some t
        → (find (λ (z : TargetDef). z.dev == dev) targets ≡ Some t → seek_of targets dev ≡ t.seek)
        → (if y then x.seek else seek_of targets dev) ≡ t.seek
    go true k more = λ i. (some_is x t k i).seek
    go false k more = more k

pub seek_is : (s : ScenarioValue) (t : TargetDef) → target_def_of s t.dev ≡ Some t → seek_of s.targets t.dev ≡ t.seek
seek_is s t e = sought s.targets t.dev t e
