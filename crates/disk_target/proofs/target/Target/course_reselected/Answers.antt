use Rattle.std.proofs.Common.{ℕ, ◌≡◌, ◌<◌, ◌+◌, ◌^◌, ◌∙◌, ◌∷◌, sym, subst, Option, Some, None}
use Rattle.std.proofs.lemmas.Bool.{eqb-true}
use Rattle.due_model.specs.RunState.{array_of}
use Rattle.due_model.specs.RunSteps.{run_state}
use Rattle.due_model.specs.Wants.{ready_among, seek_of, since_of}
use Rattle.array_model.specs.Units.{unit_state_at}
use Rattle.array_model.specs.Seats.{current_of}
use Rattle.target_course.specs.scsi_device.proofs.Finds.{none_some}
use Rattle.target_course.specs.target_units.specs.Readies.{ready_unit}
use Rattle.target_course.specs.target_units.specs.Seated.{running_block, running_entry}
use Rattle.target_course.specs.target_units.specs.Units.{UnitsState, AreUnitsOf}
use Rattle.target_course.specs.target_units.specs.declared.ready.Ready.{Ready}
use Rattle.target_course.specs.States.{IsReadyWithin}
use Rattle.disk_target.specs.Targets.{TargetValue, KnowsRows}
use Rattle.disk_target.proofs.Lines.{seek_is}
use Rattle.disk_target.proofs.Readies.{within}
use Rattle.disk_target.proofs.Reselected.{is_ready_process, never_none}
use Rattle.disk_target.proofs.RowBegins.{ready_there}
use Rattle.disk_target.proofs.Servables.{in_time_before, servable}
use Rattle.disk_target.proofs.Telling.{wide}
use Rattle.disk_target.proofs.target.Target.course_reselected.Goals as goal

pub returns-in-None : goal.returns-in-None
returns-in-None c = λ s rows row n fits devices tied time h x own calm r.
    let g = subst (λ (v : TargetValue). KnowsRows s rows v) (sym c.self.view_is) h in
    let k = run_state s rows in
    let a = array_of s k in
    let able = servable s rows c.args.self.now.def (in_time_before rows row time) h.line in
    let devs = (λ i. (c.units-units.ensures i).dev) ∙ g.units_dev ∙ (λ i. (c.self.view_is i).def.dev) in
    let seeks = (λ i. (c.units-units.ensures i).seek) ∙ g.units_seek ∙ (λ i. (c.self.view_is i).def.seek) in
    let are = subst (λ (x : UnitsState). AreUnitsOf s a k.current_since x.dev x.units)
    (sym c.units-units.ensures) g.units_are in
    let early = λ (m : ℕ) (small : m < 8). subst (λ (z : ℕ). z < 2 ^ 63)
    (λ i. since_of a.units k.current_since (sym devs i) m + sym seeks i) (able.early m small) in
    let first = c.ready.ensures s a k.current_since g.sound are (λ m small. wide _ (early m small)) in
    let same = c.bounded.ensures.same
    (subst (λ (z : Option Ready). IsReadyWithin z) (sym first) (within s a k.current_since _ _ g.sound early)) in
    let target = eqb-true n.target c.args.self.now.def.dev own.own in
    let seek = seek_is s c.args.self.now.def h.line.target_is in
    let q = ready_there s rows row n (c.kept_is_plain.ensures.rows s rows devices.1)
    (c.kept_is_plain.ensures.rows s (row ∷ rows) devices) tied.heard_are x own.stands calm r in
    let bad : None ≡ Some (record { time = q.0.time; initiator = q.0.process.initiator; unit = q.0.process.unit }) =
    sym c.in-None.is ∙ same ∙ first ∙ (λ i. ready_unit (ready_among a k.current_since
    ((seeks ∙ sym seek ∙ (λ j. seek_of s.targets (sym target j))) i) ((devs ∙ sym target) i)))
    ∙ (λ i. ready_unit (q.1 i)) in
    absurd (none_some (record { time = q.0.time; initiator = q.0.process.initiator; unit = q.0.process.unit }) bad)

pub returns-in-None-current_command : goal.returns-in-None-current_command
returns-in-None-current_command c = λ s rows row n fits devices tied time h x own calm r.
    let g = subst (λ (v : TargetValue). KnowsRows s rows v) (sym c.self.view_is) h in
    let k = run_state s rows in
    let a = array_of s k in
    let able = servable s rows c.args.self.now.def (in_time_before rows row time) h.line in
    let devs = (λ i. (c.units-units.ensures i).dev) ∙ g.units_dev ∙ (λ i. (c.self.view_is i).def.dev) in
    let seeks = (λ i. (c.units-units.ensures i).seek) ∙ g.units_seek ∙ (λ i. (c.self.view_is i).def.seek) in
    let are = subst (λ (x : UnitsState). AreUnitsOf s a k.current_since x.dev x.units)
    (sym c.units-units.ensures) g.units_are in
    let early = λ (m : ℕ) (small : m < 8). subst (λ (z : ℕ). z < 2 ^ 63)
    (λ i. since_of a.units k.current_since (sym devs i) m + sym seeks i) (able.early m small) in
    let first = c.ready.ensures s a k.current_since g.sound are (λ m small. wide _ (early m small)) in
    let same = c.bounded.ensures.same
    (subst (λ (z : Option Ready). IsReadyWithin z) (sym first) (within s a k.current_since _ _ g.sound early)) in
    let target = eqb-true n.target c.args.self.now.def.dev own.own in
    let seek = seek_is s c.args.self.now.def h.line.target_is in
    let q = ready_there s rows row n (c.kept_is_plain.ensures.rows s rows devices.1)
    (c.kept_is_plain.ensures.rows s (row ∷ rows) devices) tied.heard_are x own.stands calm r in
    let told = sym c.in-Some.is ∙ same ∙ first ∙ (λ i. ready_unit (ready_among a k.current_since
    ((seeks ∙ sym seek ∙ (λ j. seek_of s.targets (sym target j))) i) ((devs ∙ sym target) i))) in
    absurd (never_none s a k.current_since (seek_of s.targets n.target) n.target q.0 c.in-Some.ready g.sound q.1 told
    (sym c.in-None-current_command.is ∙ c.current_command.ensures s a k.current_since are
    ∙ (λ i. running_entry (current_of (unit_state_at a.units ((devs ∙ sym target) i) c.in-Some.ready.unit)))))

pub returns-in-Some-current_command : goal.returns-in-Some-current_command
returns-in-Some-current_command c = λ s rows row n fits devices tied time h x own calm r.
    let g = subst (λ (v : TargetValue). KnowsRows s rows v) (sym c.self.view_is) h in
    let k = run_state s rows in
    let a = array_of s k in
    let able = servable s rows c.args.self.now.def (in_time_before rows row time) h.line in
    let devs = (λ i. (c.units-units.ensures i).dev) ∙ g.units_dev ∙ (λ i. (c.self.view_is i).def.dev) in
    let seeks = (λ i. (c.units-units.ensures i).seek) ∙ g.units_seek ∙ (λ i. (c.self.view_is i).def.seek) in
    let are = subst (λ (x : UnitsState). AreUnitsOf s a k.current_since x.dev x.units)
    (sym c.units-units.ensures) g.units_are in
    let early = λ (m : ℕ) (small : m < 8). subst (λ (z : ℕ). z < 2 ^ 63)
    (λ i. since_of a.units k.current_since (sym devs i) m + sym seeks i) (able.early m small) in
    let first = c.ready.ensures s a k.current_since g.sound are (λ m small. wide _ (early m small)) in
    let same = c.bounded.ensures.same
    (subst (λ (z : Option Ready). IsReadyWithin z) (sym first) (within s a k.current_since _ _ g.sound early)) in
    let target = eqb-true n.target c.args.self.now.def.dev own.own in
    let seek = seek_is s c.args.self.now.def h.line.target_is in
    let told = sym c.in-Some.is ∙ same ∙ first ∙ (λ i. ready_unit (ready_among a k.current_since
    ((seeks ∙ sym seek ∙ (λ j. seek_of s.targets (sym target j))) i) ((devs ∙ sym target) i))) in
    c.course_of.ensures s rows row n c.args.self.now.def.dev devices x own.stands r tied.faithful_are tied.heard_are
    (λ q z. is_ready_process s a k.current_since (seek_of s.targets n.target) n.target
    q c.in-Some.ready c.in-Some-current_command.entry c.current_block.result.now g.sound
    (λ m y e. c.scenarios_fit_the_bus.ensures.commands s m y fits e) z told
    (sym c.in-Some-current_command.is ∙ c.current_command.ensures s a k.current_since are
    ∙ (λ i. running_entry (current_of (unit_state_at a.units ((devs ∙ sym target) i) c.in-Some.ready.unit))))
    (c.current_block.ensures s a k.current_since are
    ∙ (λ i. running_block (current_of (unit_state_at a.units ((devs ∙ sym target) i) c.in-Some.ready.unit)))))
