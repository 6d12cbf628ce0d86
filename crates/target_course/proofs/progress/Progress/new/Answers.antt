use Rattle.std.proofs.Common.{[], ◌≡◌, ◌+◌, length, sym, subst}
use Rattle.target_course.specs.Progress.{ProgressValue, no_progress, IsProgressOf}
use Rattle.target_course.proofs.ProgressRows.{progress_starts}
use Rattle.target_units.proofs.Starts.{if_ok}
use Rattle.target_course.proofs.progress.Progress.new.Goals as goal

pub returns-clause-trace : goal.returns-clause-trace
returns-clause-trace c = if_ok (λ made. made ≡ no_progress c.args.dev (length c.args.scenario.now.commands + 1))
    (λ made. IsProgressOf c.args.scenario.now [] made)
    (λ made e. subst (λ (z : ProgressValue). IsProgressOf c.args.scenario.now [] z) (sym e)
    (progress_starts c.args.scenario.now c.args.dev)) c.uncounted.result c.uncounted.ensures
