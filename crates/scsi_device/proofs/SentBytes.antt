-- A command sends at most 65,536 bytes, and so does each process of a scenario that fits the bus.
use Rattle.std.proofs.Common.{◌≡◌, ◌≤◌, Bool, true, false, length, Option, Some, None, refl, subst, arith}
use Rattle.std.specs.Prelude.{if◌then◌else◌}
use Rattle.bus_base.specs.declared.ProcId.{ProcId}
use Rattle.due_model.specs.cdb_codec.specs.Cdb.{command_of}
use Rattle.scenario.specs.Needs.{need_of, sent_of, is_write}
use Rattle.scenario.specs.Value.{ScenarioValue}
use Rattle.scenario.specs.declared.value.CmdDef.{CmdDef}
use Rattle.due_model.specs.array_model.specs.Processes.{Process, process_of, process_if, process_by, command_at}
use Rattle.scsi_device.specs.Lines.{FitsBus, IsCommandLine}
use Rattle.scsi_device.proofs.FitLines.{command_fits}

pub sent_few : (s : ScenarioValue) (c : CmdDef) → need_of s c ≤ 65536 → sent_of s c ≤ 65536
unfolding sent_of
sent_few s c few = go (is_write (command_of c.cdb))
  where
    go : (q : Bool) → (if q then need_of s c else 0) ≤ 65536
    go true = few
    go false = omega arith

pub process_few : (s : ScenarioValue) (id : ProcId) (p : Process) → FitsBus s → process_of s id ≡ Some p
    → length p.sent ≤ 65536
process_few s id p fits e = go (command_at s.commands id.command) refl e
  where
    same : (q : Process) → (let o : Option Process = Some q in o) ≡ Some p → q ≡ p
    same q z = cc

    sent : (c : CmdDef) → IsCommandLine s c
        → (q : Bool) → length (process_by s (record { command = id.command; sense = q }) c).sent ≤ 65536
    sent c h true = omega arith
    sent c h false = let few = sent_few s c h.need in let long = h.sent in omega (arith, few, long)

    go : (o : Option CmdDef) → command_at s.commands id.command ≡ o → process_if s id o ≡ Some p → length p.sent ≤ 65536
    go None there z = absurd cc
    go (Some c) there z = subst (λ (q : Process). length q.sent ≤ 65536) (same (process_by s id c) z)
        (sent c (command_fits s id.command c fits there) id.sense)
