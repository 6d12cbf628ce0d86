use Rattle.std.proofs.Common.{ℕ, [], arith, refl, sym, subst, length}
use Rattle.std.specs.Prelude.{replicate}
use Rattle.scenario.specs.Lookups.{units_of}
use Rattle.array_model.specs.Units.{settled_array, starting_array}
use Rattle.target_course.specs.target_units.specs.Units.{AreUnitsOf}
use Rattle.target_course.specs.scsi_device.proofs.Finds.{none_some}
use Rattle.disk_target.proofs.Servables.{servable}
use Rattle.disk_target.proofs.target.Target.of_line.Goals as goal

pub returns-clause-trace : goal.returns-clause-trace
returns-clause-trace c = λ fits line. record {
  knows = record {
    line = line;
    itself_dev = λ i. (c.in_ok-itself.ensures.exact i).dev;
    units_dev = c.in_ok-processes.ensures.dev;
    units_seek = c.in_ok-processes.ensures.seek;
    progress_dev = λ i. (c.in_ok-progress.ensures.exact i).dev;
    negotiated_dev = λ i. (c.new-5.ensures.exact i).dev;
    gathered_dev = λ i. (c.in_ok-gathered.ensures.exact i).dev;
    itself_is = c.in_ok-itself.ensures.trace;
    units_are = subst (λ (dev : ℕ). AreUnitsOf c.args.scenario.now (settled_array (starting_array c.args.scenario.now))
        (replicate (length (units_of c.args.scenario.now)) 0) dev c.in_ok-processes.processes.units.units)
        (sym c.in_ok-processes.ensures.dev) c.in_ok-processes.ensures.start;
    sound = c.arrays_are_sound.ensures.always c.args.scenario.now [] (settled_array
        (starting_array c.args.scenario.now)) (c.scenarios_fit_the_bus.ensures.seats c.args.scenario.now fits) refl;
    progress_is = c.in_ok-progress.ensures.trace;
    negotiated_are = c.new-5.ensures.trace c.args.scenario.now (λ i. (c.scenario.view_is i).version);
    gathered_are = c.in_ok-gathered.ensures.trace;
    all_gathered = c.in_ok-gathered.ensures.whole;
    course_is = λ n own. absurd (none_some n own.stands);
    reply_is = λ n p own calm is. absurd (none_some n own.stands);
    standing_is = λ n p own calm is. absurd (none_some n own.stands);
    answers_is = refl;
  };
  heard_are = refl;
  no_initiator = record { not_calling = λ n stands. absurd (none_some n stands) };
  servable = servable c.args.scenario.now [] c.args.def (record { few = omega arith; early = tt }) line;
}
