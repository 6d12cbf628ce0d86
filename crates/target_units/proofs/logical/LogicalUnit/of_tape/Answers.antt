use Rattle.std.proofs.Common.{ℕ, ◌≡◌, ◌≤◌, ◌∙◌, List, Option, Some, None, sym, subst, arith}
use Rattle.scenario.specs.declared.value.LoadDef.{LoadDef}
use Rattle.scenario.specs.declared.value.UnitDef.{UnitDef}
use Rattle.scenario.specs.Lookups.{tape_of, unit_of}
use Rattle.scenario.specs.Value.{ScenarioValue}
use Rattle.scenario.proofs.UnitLines.{none_is, tape_is}
use Rattle.array_model.specs.Seats.{seat_of}
use Rattle.array_model.specs.Units.{pick_of, starting_array}
use Rattle.scsi_device.proofs.FitLines.{tape_fits}
use Rattle.target_units.specs.Absent.{AbsentState, IsAbsentAt}
use Rattle.target_units.specs.Fillings.{blocks_at}
use Rattle.target_units.specs.Loads.{AreLoaded}
use Rattle.target_units.proofs.Starts.{absent_at, found_tape, line_loaded, pick_is, seated_place, tape_blocks}
use Rattle.target_units.proofs.Starts.{tape_found}
use Rattle.target_units.proofs.logical.LogicalUnit.of_tape.Goals as goal

pub tape-requires-clause-some : goal.tape-requires-clause-some
tape-requires-clause-some c =
    let s : ScenarioValue = c.args.scenario.now in
    let dev : ℕ = c.args.def.now.dev in
    let found : tape_of s dev c.args.number ≡ Some c.in-Some.line = found_tape s.tapes c.as_slice.result.now
    dev c.args.number (Some c.in-Some.line) c.tape_line.result c.tape_line.ensures
    (c.as_slice.ensures.value ∙ (λ i. (c.scenario.view_is i).tapes)) c.in-Some.is in
    let line = tape_fits s dev c.args.number c.in-Some.line c.requires.fits found in
    line.0.some_objects

pub tape-requires-clause-most : goal.tape-requires-clause-most
tape-requires-clause-most c =
    let s : ScenarioValue = c.args.scenario.now in
    let dev : ℕ = c.args.def.now.dev in
    let found : tape_of s dev c.args.number ≡ Some c.in-Some.line = found_tape s.tapes c.as_slice.result.now
    dev c.args.number (Some c.in-Some.line) c.tape_line.result c.tape_line.ensures
    (c.as_slice.ensures.value ∙ (λ i. (c.scenario.view_is i).tapes)) c.in-Some.is in
    let line = tape_fits s dev c.args.number c.in-Some.line c.requires.fits found in
    line.0.most_objects

pub tape-requires-clause-least_size : goal.tape-requires-clause-least_size
tape-requires-clause-least_size c =
    let s : ScenarioValue = c.args.scenario.now in
    let dev : ℕ = c.args.def.now.dev in
    let found : tape_of s dev c.args.number ≡ Some c.in-Some.line = found_tape s.tapes c.as_slice.result.now
    dev c.args.number (Some c.in-Some.line) c.tape_line.result c.tape_line.ensures
    (c.as_slice.ensures.value ∙ (λ i. (c.scenario.view_is i).tapes)) c.in-Some.is in
    let line = tape_fits s dev c.args.number c.in-Some.line c.requires.fits found in
    line.0.least_size

pub tape-requires-clause-most_size : goal.tape-requires-clause-most_size
tape-requires-clause-most_size c =
    let s : ScenarioValue = c.args.scenario.now in
    let dev : ℕ = c.args.def.now.dev in
    let found : tape_of s dev c.args.number ≡ Some c.in-Some.line = found_tape s.tapes c.as_slice.result.now
    dev c.args.number (Some c.in-Some.line) c.tape_line.result c.tape_line.ensures
    (c.as_slice.ensures.value ∙ (λ i. (c.scenario.view_is i).tapes)) c.in-Some.is in
    let line = tape_fits s dev c.args.number c.in-Some.line c.requires.fits found in
    line.0.most_size

pub tape-requires-clause-loaded : goal.tape-requires-clause-loaded
tape-requires-clause-loaded c =
    let s : ScenarioValue = c.args.scenario.now in
    let dev : ℕ = c.args.def.now.dev in
    let found : tape_of s dev c.args.number ≡ Some c.in-Some.line = found_tape s.tapes c.as_slice.result.now
    dev c.args.number (Some c.in-Some.line) c.tape_line.result c.tape_line.ensures
    (c.as_slice.ensures.value ∙ (λ i. (c.scenario.view_is i).tapes)) c.in-Some.is in
    let line = tape_fits s dev c.args.number c.in-Some.line c.requires.fits found in
    subst (λ (defs : List LoadDef). AreLoaded c.in-Some.line defs)
    (sym (c.as_slice-loads.ensures.value ∙ (λ i. (c.scenario.view_is i).loads)))
    (line_loaded s c.in-Some.line line.0)

pub returns-in_ok-seated-in-Some-clause-start : goal.returns-in_ok-seated-in-Some-clause-start
returns-in_ok-seated-in-Some-clause-start c =
    let s : ScenarioValue = c.args.scenario.now in
    let dev : ℕ = c.args.def.now.dev in
    let found : tape_of s dev c.args.number ≡ Some c.in-Some.line = found_tape s.tapes c.as_slice.result.now
    dev c.args.number (Some c.in-Some.line) c.tape_line.result c.tape_line.ensures
    (c.as_slice.ensures.value ∙ (λ i. (c.scenario.view_is i).tapes)) c.in-Some.is in
    let line = tape_fits s dev c.args.number c.in-Some.line c.requires.fits found in
    seated_place s c.in-Some.line.target c.in-Some.line.unit dev
    c.args.number c.in_ok-seated-in-Some.seated line.1 line.2
    (c.in_ok-seated-in-Some.ensures.seat s (sym (c.as_slice-loads.ensures.value ∙ (λ i. (c.scenario.view_is i).loads)))
    (tape_found s c.in-Some.line line.0) (pick_is s c.args.def.now c.requires.target
    ∙ (λ i. pick_of s.targets (sym line.1 i))) line.0.starts)

pub returns-in_ok-seated-in-Some-clause-spare : goal.returns-in_ok-seated-in-Some-clause-spare
returns-in_ok-seated-in-Some-clause-spare c =
    let s : ScenarioValue = c.args.scenario.now in
    let dev : ℕ = c.args.def.now.dev in
    let found : tape_of s dev c.args.number ≡ Some c.in-Some.line = found_tape s.tapes c.as_slice.result.now
    dev c.args.number (Some c.in-Some.line) c.tape_line.result c.tape_line.ensures
    (c.as_slice.ensures.value ∙ (λ i. (c.scenario.view_is i).tapes)) c.in-Some.is in
    let line = tape_fits s dev c.args.number c.in-Some.line c.requires.fits found in
    tape_blocks s c.in-Some.line dev c.args.number c.as_slice-commands.result.now c.in_ok-seated-in-Some.seated.spare
    (tape_is s dev c.args.number c.in-Some.line c.requires.no_disk found) (tape_found s c.in-Some.line line.0)
    (c.as_slice-commands.ensures.value ∙ (λ i. (c.scenario.view_is i).commands))
    c.in_ok-seated-in-Some.ensures.fresh.spare

pub returns-in-None-clause-start : goal.returns-in-None-clause-start
returns-in-None-clause-start c =
    let s : ScenarioValue = c.args.scenario.now in
    let dev : ℕ = c.args.def.now.dev in
    let none : unit_of s dev c.args.number ≡ None = none_is s dev c.args.number c.requires.no_disk
    (found_tape s.tapes c.as_slice.result.now dev c.args.number None c.tape_line.result c.tape_line.ensures
    (c.as_slice.ensures.value ∙ (λ i. (c.scenario.view_is i).tapes)) c.in-None.is) in
    subst (λ (v : AbsentState). IsAbsentAt (seat_of (starting_array s) dev c.args.number) v) (sym c.new.ensures)
    (absent_at s dev c.args.number none)

pub returns-in-None-clause-spare : goal.returns-in-None-clause-spare
returns-in-None-clause-spare c =
    let s : ScenarioValue = c.args.scenario.now in
    let dev : ℕ = c.args.def.now.dev in
    let none : unit_of s dev c.args.number ≡ None = none_is s dev c.args.number c.requires.no_disk
    (found_tape s.tapes c.as_slice.result.now dev c.args.number None c.tape_line.result c.tape_line.ensures
    (c.as_slice.ensures.value ∙ (λ i. (c.scenario.view_is i).tapes)) c.in-None.is) in
    subst (λ (o : Option UnitDef). blocks_at s o ≤ 0) (sym none) (omega arith)
