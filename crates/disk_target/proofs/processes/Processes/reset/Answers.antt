use Rattle.std.proofs.Common.{ℕ, [], ◌∷◌, sym, subst}
use Rattle.bus_base.specs.declared.Event.TheVariants as events
use Rattle.due_model.specs.RunState.{or_start}
use Rattle.due_model.specs.RunSteps.{run_state}
use Rattle.target_course.specs.target_units.specs.Units.{AreUnitsAfter}
use Rattle.disk_target.proofs.UnitRows.{by_one, by_row, some_after}
use Rattle.disk_target.proofs.processes.Processes.reset.Goals as goal

pub returns-clause-trace : goal.returns-clause-trace
returns-clause-trace c = λ s rows row by seats permitted time is h.
    let k = run_state s rows in
    by_row s rows row c.args.now (events.Reset by ∷ []) c.clear.new.self.units time is
    (by_one s k.array k.current_since c.args.now c.args.self.now.units c.clear.new.self.units
    (events.Reset by) seats h (some_after s rows row (events.Reset by ∷ []) permitted is) (λ b st. subst
    (λ (d : ℕ). AreUnitsAfter s (or_start s k.array) b k.current_since c.args.now d c.clear.new.self.units.units)
    (sym c.clear.ensures.dev) (c.clear.ensures.array s (or_start s k.array) b k.current_since by h.units st)))
