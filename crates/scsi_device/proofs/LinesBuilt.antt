-- What holds of all lines of a scenario that obeys the rules of its text.
use Rattle.std.proofs.Common.{true, ◌≡◌, ◌≤◌, List, [], ◌∷◌, Ok, refl, sym, subst, ◌∙◌, arith}
use Rattle.scenario.specs.declared.value.FillDef.{FillDef}
use Rattle.scenario.specs.declared.value.ResetDef.{ResetDef}
use Rattle.scenario.specs.declared.value.FaultDef.{FaultDef}
use Rattle.scenario.specs.Value.{ScenarioValue}
use Rattle.scenario.specs.Needs.{need_of, sent_of}
use Rattle.scenario.specs.Reasons.{is_block_in}
use Rattle.scenario.specs.Forms.{Said, scsi_line, initiator_line, target_line, unit_line, fill_line, tape_line}
use Rattle.scenario.specs.Forms.{load_line, cmd_line, abort_line, reset_line, fault_line, end_line}
use Rattle.scenario.specs.Reading.{Progress, guard, host_def, target_def, unit_def, fill_def, tape_def, load_def}
use Rattle.scenario.specs.Reading.{full_cmd_def, abort_def, reset_def, fault_def, added, said_after, fits_version}
use Rattle.scenario.specs.Reading.{in_order, rank, kind_of, nothing}
use Rattle.scenario.specs.Writing.{saids, built, Obeys}
use Rattle.scenario.proofs.Steps.{bind_ok, ok_is, guard_ok}
use Rattle.scenario.proofs.UnitLines.{plain_unit}
use Rattle.scsi_device.proofs.Finds.{all_more}
use Rattle.scsi_device.proofs.LineReads.{host_read, target_read, unit_read, fill_read, tape_read, load_read}
use Rattle.scsi_device.proofs.LineReads.{full_cmd_read, abort_read, reset_read, fault_read}
use Rattle.scsi_device.proofs.LinesSoFar.{unit_at, AreFit, AreLater, no_sooner, still, with_host, with_target}
use Rattle.scsi_device.proofs.LinesSoFar.{with_unit, with_tape, with_load, with_command, with_abort}

-- ---- any line more

fit_added : (d z : Progress) (x : Said) → added d x ≡ Ok z → AreFit d.scenario → AreLater (rank (kind_of x)) d.scenario
    → AreFit z.scenario
unfolding added need_of sent_of
fit_added d z (scsi_line v) e a l = subst (λ (p : Progress). AreFit p.scenario) (ok_is _ z e) (record {
  hosts = a.hosts;
  hosts_once = a.hosts_once;
  targets = a.targets;
  targets_once = a.targets_once;
  units = a.units;
  units_once = a.units_once;
  tapes = a.tapes;
  tapes_once = a.tapes_once;
  tapes_new = a.tapes_new;
  units_apart = a.units_apart;
  fills = a.fills;
  loads = a.loads;
  commands = a.commands;
  aborts = a.aborts;
  resets = a.resets;
  faults = a.faults;
  few_commands = a.few_commands;
  few_aborts = a.few_aborts;
})
fit_added d z (initiator_line f) e a l =
    let b = bind_ok (host_def d.scenario f) _ z e in
    subst (λ (p : Progress). AreFit p.scenario) (ok_is _ z b.2)
    (with_host d.scenario b.0 a l (host_read d.scenario (initiator_line f) b.0 b.1))
fit_added d z (target_line f) e a l =
    let b = bind_ok (target_def d.scenario f) _ z e in
    subst (λ (p : Progress). AreFit p.scenario) (ok_is _ z b.2)
    (with_target d.scenario b.0 a l (target_read d.scenario (target_line f) b.0 b.1))
fit_added d z (unit_line f) e a l =
    let b = bind_ok (unit_def d.scenario f) _ z e in
    subst (λ (p : Progress). AreFit p.scenario) (ok_is _ z b.2)
    (with_unit d.scenario b.0 a l (unit_read d.scenario (unit_line f) b.0 b.1))
fit_added d z (fill_line f) e a l =
    let b = bind_ok (fill_def d.scenario f) _ z e in
    let later : AreLater 5 d.scenario = l in
    let plain = plain_unit d.scenario (b.0).target (b.0).unit (later.tapes (omega arith)) in
    let r = all_more (λ (x : FillDef). is_block_in (unit_at d.scenario.units x.target x.unit) x.lba x.bytes ≡ true)
    d.scenario.fills b.0 a.fills
    ((λ i. is_block_in (sym plain i) (b.0).lba (b.0).bytes) ∙ fill_read d.scenario (fill_line f) b.0 b.1) in
    subst (λ (p : Progress). AreFit p.scenario) (ok_is _ z b.2) (record {
      hosts = a.hosts;
      hosts_once = a.hosts_once;
      targets = a.targets;
      targets_once = a.targets_once;
      units = a.units;
      units_once = a.units_once;
      tapes = a.tapes;
      tapes_once = a.tapes_once;
      tapes_new = a.tapes_new;
      units_apart = a.units_apart;
      fills = r;
      loads = a.loads;
      commands = a.commands;
      aborts = a.aborts;
      resets = a.resets;
      faults = a.faults;
      few_commands = a.few_commands;
      few_aborts = a.few_aborts;
    })
fit_added d z (tape_line f) e a l =
    let b = bind_ok (tape_def d.scenario f) _ z e in
    subst (λ (p : Progress). AreFit p.scenario) (ok_is _ z b.2)
    (with_tape d.scenario b.0 a l (tape_read d.scenario (tape_line f) b.0 b.1))
fit_added d z (load_line f) e a l =
    let b = bind_ok (load_def d.scenario f) _ z e in
    subst (λ (p : Progress). AreFit p.scenario) (ok_is _ z b.2)
    (with_load d.scenario b.0 a (load_read d.scenario (load_line f) b.0 b.1))
fit_added d z (cmd_line f) e a l =
    let b = bind_ok (full_cmd_def d.scenario d.needs f) _ z e in
    subst (λ (p : Progress). AreFit p.scenario) (ok_is _ z b.2)
    (with_command d.scenario d.needs b.0 a (full_cmd_read d.scenario d.needs f b.0 b.1))
fit_added d z (abort_line f) e a l =
    let b = bind_ok (abort_def d.scenario f) _ z e in
    subst (λ (p : Progress). AreFit p.scenario) (ok_is _ z b.2)
    (with_abort d.scenario b.0 a (abort_read d.scenario (abort_line f) b.0 b.1))
fit_added d z (reset_line f) e a l =
    let b = bind_ok (reset_def d.scenario f) _ z e in
    let r = all_more (λ (r : ResetDef). r.at ≤ 1000000000000) d.scenario.resets b.0 a.resets
    (reset_read d.scenario (reset_line f) b.0 b.1) in
    subst (λ (p : Progress). AreFit p.scenario) (ok_is _ z b.2) (record {
      hosts = a.hosts;
      hosts_once = a.hosts_once;
      targets = a.targets;
      targets_once = a.targets_once;
      units = a.units;
      units_once = a.units_once;
      tapes = a.tapes;
      tapes_once = a.tapes_once;
      tapes_new = a.tapes_new;
      units_apart = a.units_apart;
      fills = a.fills;
      loads = a.loads;
      commands = a.commands;
      aborts = a.aborts;
      resets = r;
      faults = a.faults;
      few_commands = a.few_commands;
      few_aborts = a.few_aborts;
    })
fit_added d z (fault_line f) e a l =
    let b = bind_ok (fault_def d.scenario f) _ z e in
    let r = all_more (λ (f : FaultDef). (f.at ≤ 1000000000000) × (f.bit ≤ 8)) d.scenario.faults b.0 a.faults
    (fault_read d.scenario (fault_line f) b.0 b.1) in
    subst (λ (p : Progress). AreFit p.scenario) (ok_is _ z b.2) (record {
      hosts = a.hosts;
      hosts_once = a.hosts_once;
      targets = a.targets;
      targets_once = a.targets_once;
      units = a.units;
      units_once = a.units_once;
      tapes = a.tapes;
      tapes_once = a.tapes_once;
      tapes_new = a.tapes_new;
      units_apart = a.units_apart;
      fills = a.fills;
      loads = a.loads;
      commands = a.commands;
      aborts = a.aborts;
      resets = a.resets;
      faults = r;
      few_commands = a.few_commands;
      few_aborts = a.few_aborts;
    })
fit_added d z end_line e a l = subst (λ (p : Progress). AreFit p.scenario) (ok_is d z e) a

later_added : (d z : Progress) (x : Said) → added d x ≡ Ok z → AreLater (rank (kind_of x)) d.scenario
    → AreLater (rank (kind_of x)) z.scenario
unfolding added
later_added d z (scsi_line v) e l = subst (λ (p : Progress). AreLater 1 p.scenario) (ok_is _ z e) (record {
  targets = l.targets;
  units = l.units;
  fills = l.fills;
  tapes = l.tapes;
  loads = l.loads;
  commands = l.commands;
  aborts = l.aborts;
})
later_added d z (initiator_line f) e l =
    let b = bind_ok (host_def d.scenario f) _ z e in
    subst (λ (p : Progress). AreLater 2 p.scenario) (ok_is _ z b.2) (record {
      targets = l.targets;
      units = l.units;
      fills = l.fills;
      tapes = l.tapes;
      loads = l.loads;
      commands = l.commands;
      aborts = l.aborts;
    })
later_added d z (target_line f) e l =
    let b = bind_ok (target_def d.scenario f) _ z e in
    subst (λ (p : Progress). AreLater 3 p.scenario) (ok_is _ z b.2) (record {
      targets = λ w. absurd (omega arith);
      units = l.units;
      fills = l.fills;
      tapes = l.tapes;
      loads = l.loads;
      commands = l.commands;
      aborts = l.aborts;
    })
later_added d z (unit_line f) e l =
    let b = bind_ok (unit_def d.scenario f) _ z e in
    subst (λ (p : Progress). AreLater 4 p.scenario) (ok_is _ z b.2) (record {
      targets = λ w. absurd (omega arith);
      units = λ w. absurd (omega arith);
      fills = l.fills;
      tapes = l.tapes;
      loads = l.loads;
      commands = l.commands;
      aborts = l.aborts;
    })
later_added d z (fill_line f) e l =
    let b = bind_ok (fill_def d.scenario f) _ z e in
    subst (λ (p : Progress). AreLater 5 p.scenario) (ok_is _ z b.2) (record {
      targets = l.targets;
      units = l.units;
      fills = λ w. absurd (omega arith);
      tapes = l.tapes;
      loads = l.loads;
      commands = l.commands;
      aborts = l.aborts;
    })
later_added d z (tape_line f) e l =
    let b = bind_ok (tape_def d.scenario f) _ z e in
    subst (λ (p : Progress). AreLater 6 p.scenario) (ok_is _ z b.2) (record {
      targets = l.targets;
      units = l.units;
      fills = l.fills;
      tapes = λ w. absurd (omega arith);
      loads = l.loads;
      commands = l.commands;
      aborts = l.aborts;
    })
later_added d z (load_line f) e l =
    let b = bind_ok (load_def d.scenario f) _ z e in
    subst (λ (p : Progress). AreLater 7 p.scenario) (ok_is _ z b.2) (record {
      targets = l.targets;
      units = l.units;
      fills = l.fills;
      tapes = l.tapes;
      loads = λ w. absurd (omega arith);
      commands = l.commands;
      aborts = l.aborts;
    })
later_added d z (cmd_line f) e l =
    let b = bind_ok (full_cmd_def d.scenario d.needs f) _ z e in
    subst (λ (p : Progress). AreLater 8 p.scenario) (ok_is _ z b.2) (record {
      targets = l.targets;
      units = l.units;
      fills = l.fills;
      tapes = l.tapes;
      loads = l.loads;
      commands = λ w. absurd (omega arith);
      aborts = l.aborts;
    })
later_added d z (abort_line f) e l =
    let b = bind_ok (abort_def d.scenario f) _ z e in
    subst (λ (p : Progress). AreLater 9 p.scenario) (ok_is _ z b.2) (record {
      targets = l.targets;
      units = l.units;
      fills = l.fills;
      tapes = l.tapes;
      loads = l.loads;
      commands = l.commands;
      aborts = λ w. absurd (omega arith);
    })
later_added d z (reset_line f) e l =
    let b = bind_ok (reset_def d.scenario f) _ z e in
    subst (λ (p : Progress). AreLater 10 p.scenario) (ok_is _ z b.2) (record {
      targets = l.targets;
      units = l.units;
      fills = l.fills;
      tapes = l.tapes;
      loads = l.loads;
      commands = l.commands;
      aborts = l.aborts;
    })
later_added d z (fault_line f) e l =
    let b = bind_ok (fault_def d.scenario f) _ z e in
    subst (λ (p : Progress). AreLater 11 p.scenario) (ok_is _ z b.2) (record {
      targets = l.targets;
      units = l.units;
      fills = l.fills;
      tapes = l.tapes;
      loads = l.loads;
      commands = l.commands;
      aborts = l.aborts;
    })
later_added d z end_line e l = subst (λ (p : Progress). AreLater 12 p.scenario) (ok_is d z e) l

-- ---- all lines

record IsFitSoFar (d : Progress) : Type 0 where
  fit : AreFit d.scenario
  later : AreLater (rank d.last) d.scenario

fit_after : (d z : Progress) (x : Said) → said_after d x ≡ Ok z → IsFitSoFar d → IsFitSoFar z
unfolding said_after
fit_after d z x e a =
    let v = bind_ok (guard 2 (fits_version d.scenario.version x)) _ z e in
    let o = bind_ok (guard 3 (in_order (rank d.last) (rank (kind_of x)))) _ z v.2 in
    let b = bind_ok (added d x) _ z o.2 in
    let later = still d.scenario (rank d.last) (rank (kind_of x)) a.later
    (no_sooner (rank d.last) (rank (kind_of x)) (guard_ok 3 _ o.0 o.1)) in
    subst IsFitSoFar (ok_is _ z b.2)
    (record { fit = fit_added d b.0 x b.1 a.fit later; later = later_added d b.0 x b.1 later })

fit_built : (d z : Progress) (xs : List Said) → built d xs ≡ Ok z → IsFitSoFar d → IsFitSoFar z
fit_built d z [] e a = subst IsFitSoFar (ok_is d z e) a
fit_built d z (x ∷ xs) e a = let b = bind_ok (said_after d x) _ z e in fit_built b.0 z xs b.2 (fit_after d b.0 x b.1 a)

fit_nothing : IsFitSoFar nothing
fit_nothing = record {
  fit = record {
    hosts = tt;
    hosts_once = tt;
    targets = tt;
    targets_once = tt;
    units = tt;
    units_once = tt;
    tapes = tt;
    tapes_once = tt;
    tapes_new = tt;
    units_apart = tt;
    fills = tt;
    loads = tt;
    commands = tt;
    aborts = tt;
    resets = tt;
    faults = tt;
    few_commands = omega arith;
    few_aborts = omega arith;
  };
  later = record {
    targets = λ w. refl;
    units = λ w. refl;
    fills = λ w. refl;
    tapes = λ w. refl;
    loads = λ w. refl;
    commands = λ w. refl;
    aborts = λ w. refl;
  };
}

pub obeys_fit : (s : ScenarioValue) → Obeys s → AreFit s
obeys_fit s o =
    let b = bind_ok (built nothing (saids s)) _ s o.lawful in
    subst AreFit (ok_is b.0.scenario s b.2) (fit_built nothing b.0 (saids s) b.1 fit_nothing).fit
