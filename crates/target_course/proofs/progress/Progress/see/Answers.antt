use Rattle.std.proofs.Common.{◌∷◌, ◌∙◌, ap, sym, subst}
use Rattle.target_course.specs.Progress.{ProgressValue, IsProgressOf}
use Rattle.target_course.proofs.ProgressRows.{progress_goes_on, same_target}
use Rattle.target_course.proofs.progress.Progress.see.Goals as goal

pub returns-clause-trace : goal.returns-clause-trace
returns-clause-trace c = λ s rows row d told b a true_so left h. subst (λ (z : ProgressValue). IsProgressOf s
    (row ∷ rows) z) (sym c.after_row.ensures) (progress_goes_on s rows row c.args.self.now c.args.process
    c.args.leaving.now c.args.hearing.now c.args.before c.args.after (c.kept_is_plain.ensures.rows s)
    (c.hearings_are_plain.ensures.hearing s rows row d.1 d.0) d told b a true_so left h)

pub returns-clause-dev : goal.returns-clause-dev
returns-clause-dev c =
    ap (λ (z : ProgressValue). z.dev) c.after_row.ensures
    ∙ same_target c.args.self.now c.args.process c.args.leaving.now c.args.hearing.now c.args.before c.args.after
