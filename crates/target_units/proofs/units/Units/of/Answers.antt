use Rattle.std.proofs.Common.{ℕ, ◌≤◌, sym, subst}
use Rattle.std.specs.Prelude.{◌==◌}
use Rattle.scenario.specs.declared.value.TargetDef.{TargetDef}
use Rattle.scenario.specs.Lookups.{unit_of}
use Rattle.scsi_device.proofs.Finds.{found_any}
use Rattle.scsi_device.proofs.FitLines.{obeys_fits}
use Rattle.scenario.specs.Value.{ScenarioValue}
use Rattle.array_model.specs.Seats.{seat_of}
use Rattle.array_model.specs.Units.{starting_array}
use Rattle.target_units.specs.Fillings.{blocks_at}
use Rattle.target_units.specs.Units.{IsUnitOf, UnitsState, spare_of, unit_in}
use Rattle.target_units.proofs.Starts.{eight_units}
use Rattle.target_units.proofs.units.Units.of.Goals as goal

pub returns-clause-start : goal.returns-clause-start
returns-clause-start c =
    let s : ScenarioValue = c.args.scenario.now in
    let dev : ℕ = c.args.def.now.dev in
    c.new.ensures.start s (obeys_fits s c.requires.lawful)
    (found_any (λ (t : TargetDef). t.dev == dev) s.targets c.args.def.now c.requires.target)
    (eight_units (λ n u. IsUnitOf s.hosts (seat_of (starting_array s) dev n) 0 u) c.in_ok-of.field-0
    c.in_ok-of-2.field-0 c.in_ok-of-3.field-0 c.in_ok-of-4.field-0 c.in_ok-of-5.field-0 c.in_ok-of-6.field-0
    c.in_ok-of-7.field-0 c.in_ok-of-8.field-0 c.in_ok-of.ensures.start c.in_ok-of-2.ensures.start
    c.in_ok-of-3.ensures.start c.in_ok-of-4.ensures.start c.in_ok-of-5.ensures.start
    c.in_ok-of-6.ensures.start c.in_ok-of-7.ensures.start c.in_ok-of-8.ensures.start)
    (eight_units (λ k u. blocks_at s (unit_of s dev k) ≤ spare_of u) c.in_ok-of.field-0 c.in_ok-of-2.field-0
    c.in_ok-of-3.field-0 c.in_ok-of-4.field-0 c.in_ok-of-5.field-0 c.in_ok-of-6.field-0 c.in_ok-of-7.field-0
    c.in_ok-of-8.field-0 c.in_ok-of.ensures.spare c.in_ok-of-2.ensures.spare c.in_ok-of-3.ensures.spare
    c.in_ok-of-4.ensures.spare c.in_ok-of-5.ensures.spare c.in_ok-of-6.ensures.spare c.in_ok-of-7.ensures.spare
    c.in_ok-of-8.ensures.spare)

pub returns-clause-spare : goal.returns-clause-spare
returns-clause-spare c = λ n lt.
    let s : ScenarioValue = c.args.scenario.now in
    subst (λ (x : UnitsState). blocks_at s (unit_of s c.args.def.now.dev n) ≤ spare_of (unit_in x.units n))
    (sym c.new.ensures.exact) (eight_units (λ k u. blocks_at s (unit_of s c.args.def.now.dev k) ≤ spare_of u)
    c.in_ok-of.field-0 c.in_ok-of-2.field-0 c.in_ok-of-3.field-0 c.in_ok-of-4.field-0 c.in_ok-of-5.field-0
    c.in_ok-of-6.field-0 c.in_ok-of-7.field-0 c.in_ok-of-8.field-0 c.in_ok-of.ensures.spare c.in_ok-of-2.ensures.spare
    c.in_ok-of-3.ensures.spare c.in_ok-of-4.ensures.spare c.in_ok-of-5.ensures.spare c.in_ok-of-6.ensures.spare
    c.in_ok-of-7.ensures.spare c.in_ok-of-8.ensures.spare n lt)
