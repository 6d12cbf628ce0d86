use Rattle.std.proofs.Common.{ℕ, ◌≡◌, ◌∙◌, List, Some, None, sym, subst}
use Rattle.scenario.specs.declared.value.FillDef.{FillDef}
use Rattle.scenario.specs.Lookups.{disk_of as disk_line}
use Rattle.scenario.specs.Value.{ScenarioValue}
use Rattle.scenario.proofs.UnitLines.{disk_is}
use Rattle.array_model.specs.Units.{pick_of}
use Rattle.scsi_device.proofs.FitLines.{disk_fits}
use Rattle.target_units.specs.Fillings.{AreFilled}
use Rattle.target_units.proofs.Starts.{disk_blocks, found_line, line_filled, pick_is, seated_place}
use Rattle.target_units.proofs.logical.LogicalUnit.of.Goals as goal

pub new-requires-clause-some : goal.new-requires-clause-some
new-requires-clause-some c =
    let s : ScenarioValue = c.args.scenario.now in
    let dev : ℕ = c.args.def.now.dev in
    let found : disk_line s dev c.args.number ≡ Some c.in-Some.line = found_line s.units c.as_slice.result.now
    dev c.args.number (Some c.in-Some.line) c.unit_line.result c.unit_line.ensures
    (c.as_slice.ensures.value ∙ (λ i. (c.scenario.view_is i).units)) c.in-Some.is in
    let line = disk_fits s dev c.args.number c.in-Some.line c.requires.fits found in
    line.0.some_blocks

pub new-requires-clause-most : goal.new-requires-clause-most
new-requires-clause-most c =
    let s : ScenarioValue = c.args.scenario.now in
    let dev : ℕ = c.args.def.now.dev in
    let found : disk_line s dev c.args.number ≡ Some c.in-Some.line = found_line s.units c.as_slice.result.now
    dev c.args.number (Some c.in-Some.line) c.unit_line.result c.unit_line.ensures
    (c.as_slice.ensures.value ∙ (λ i. (c.scenario.view_is i).units)) c.in-Some.is in
    let line = disk_fits s dev c.args.number c.in-Some.line c.requires.fits found in
    line.0.most_blocks

pub new-requires-clause-least_size : goal.new-requires-clause-least_size
new-requires-clause-least_size c =
    let s : ScenarioValue = c.args.scenario.now in
    let dev : ℕ = c.args.def.now.dev in
    let found : disk_line s dev c.args.number ≡ Some c.in-Some.line = found_line s.units c.as_slice.result.now
    dev c.args.number (Some c.in-Some.line) c.unit_line.result c.unit_line.ensures
    (c.as_slice.ensures.value ∙ (λ i. (c.scenario.view_is i).units)) c.in-Some.is in
    let line = disk_fits s dev c.args.number c.in-Some.line c.requires.fits found in
    line.0.least_size

pub new-requires-clause-most_size : goal.new-requires-clause-most_size
new-requires-clause-most_size c =
    let s : ScenarioValue = c.args.scenario.now in
    let dev : ℕ = c.args.def.now.dev in
    let found : disk_line s dev c.args.number ≡ Some c.in-Some.line = found_line s.units c.as_slice.result.now
    dev c.args.number (Some c.in-Some.line) c.unit_line.result c.unit_line.ensures
    (c.as_slice.ensures.value ∙ (λ i. (c.scenario.view_is i).units)) c.in-Some.is in
    let line = disk_fits s dev c.args.number c.in-Some.line c.requires.fits found in
    line.0.most_size

pub new-requires-clause-filled : goal.new-requires-clause-filled
new-requires-clause-filled c =
    let s : ScenarioValue = c.args.scenario.now in
    let dev : ℕ = c.args.def.now.dev in
    let found : disk_line s dev c.args.number ≡ Some c.in-Some.line = found_line s.units c.as_slice.result.now
    dev c.args.number (Some c.in-Some.line) c.unit_line.result c.unit_line.ensures
    (c.as_slice.ensures.value ∙ (λ i. (c.scenario.view_is i).units)) c.in-Some.is in
    let line = disk_fits s dev c.args.number c.in-Some.line c.requires.fits found in
    subst (λ (fills : List FillDef). AreFilled c.in-Some.line fills)
    (sym (c.as_slice-fills.ensures.value ∙ (λ i. (c.scenario.view_is i).fills)))
    (line_filled s c.in-Some.line c.requires.fits line.0.unit_is)

pub of_tape-requires-clause-no_disk : goal.of_tape-requires-clause-no_disk
of_tape-requires-clause-no_disk c =
    let s : ScenarioValue = c.args.scenario.now in
    found_line s.units c.as_slice.result.now c.args.def.now.dev c.args.number None c.unit_line.result
    c.unit_line.ensures (c.as_slice.ensures.value ∙ (λ i. (c.scenario.view_is i).units)) c.in-None.is

pub returns-in_ok-seated-in-Some-clause-start : goal.returns-in_ok-seated-in-Some-clause-start
returns-in_ok-seated-in-Some-clause-start c =
    let s : ScenarioValue = c.args.scenario.now in
    let dev : ℕ = c.args.def.now.dev in
    let found : disk_line s dev c.args.number ≡ Some c.in-Some.line = found_line s.units c.as_slice.result.now
    dev c.args.number (Some c.in-Some.line) c.unit_line.result c.unit_line.ensures
    (c.as_slice.ensures.value ∙ (λ i. (c.scenario.view_is i).units)) c.in-Some.is in
    let line = disk_fits s dev c.args.number c.in-Some.line c.requires.fits found in
    seated_place s c.in-Some.line.target c.in-Some.line.unit dev
    c.args.number c.in_ok-seated-in-Some.seated line.1 line.2
    (c.in_ok-seated-in-Some.ensures.seat s (sym (c.as_slice-fills.ensures.value ∙ (λ i. (c.scenario.view_is i).fills)))
    line.0.is_disk (pick_is s c.args.def.now c.requires.target ∙ (λ i. pick_of s.targets (sym line.1 i)))
    line.0.starts)

pub returns-in_ok-seated-in-Some-clause-spare : goal.returns-in_ok-seated-in-Some-clause-spare
returns-in_ok-seated-in-Some-clause-spare c =
    let s : ScenarioValue = c.args.scenario.now in
    let dev : ℕ = c.args.def.now.dev in
    let found : disk_line s dev c.args.number ≡ Some c.in-Some.line = found_line s.units c.as_slice.result.now
    dev c.args.number (Some c.in-Some.line) c.unit_line.result c.unit_line.ensures
    (c.as_slice.ensures.value ∙ (λ i. (c.scenario.view_is i).units)) c.in-Some.is in
    let line = disk_fits s dev c.args.number c.in-Some.line c.requires.fits found in
    disk_blocks s c.in-Some.line dev c.args.number c.as_slice-commands.result.now c.in_ok-seated-in-Some.seated.spare
    (disk_is s dev c.args.number c.in-Some.line found) line.0.is_disk
    (c.as_slice-commands.ensures.value ∙ (λ i. (c.scenario.view_is i).commands))
    c.in_ok-seated-in-Some.ensures.fresh.spare
