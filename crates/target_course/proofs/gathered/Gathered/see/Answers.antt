use Rattle.std.proofs.Common.{◌∷◌, ◌∙◌, ap, sym, subst}
use Rattle.target_course.specs.Gathered.{GatheredValue, IsGatheredOf, AreAllGathered}
use Rattle.target_course.proofs.GatheredAll.{all_gathered_on}
use Rattle.target_course.proofs.GatheredRows.{gathered_goes_on, same_target}
use Rattle.target_course.proofs.gathered.Gathered.see.Goals as goal

pub returns-clause-trace : goal.returns-clause-trace
returns-clause-trace c = λ s rows row d told b f says h. subst (λ (z : GatheredValue). IsGatheredOf s z)
    (sym c.after_row.ensures) (gathered_goes_on s rows row c.args.self.now c.args.process
    c.args.unit c.args.place c.args.hearing.now c.args.before (c.kept_is_plain.ensures.rows s)
    (c.hearings_are_plain.ensures.hearing s rows row d.1 d.0) d told b f says h)

pub returns-clause-dev : goal.returns-clause-dev
returns-clause-dev c =
    ap (λ (z : GatheredValue). z.dev) c.after_row.ensures
    ∙ same_target c.args.self.now c.args.process c.args.unit c.args.place c.args.hearing.now c.args.before

pub returns-clause-whole : goal.returns-clause-whole
returns-clause-whole c = λ s rows row fit d told b f writes says at_unit g h. subst
    (λ (z : GatheredValue). AreAllGathered s (row ∷ rows) z) (sym c.after_row.ensures)
    (all_gathered_on s rows row c.args.self.now c.args.process c.args.unit c.args.place c.args.hearing.now c.args.before
    (λ n x e. c.scenarios_fit_the_bus.ensures.commands s n x fit e)
    (c.kept_is_plain.ensures.rows s) (c.hearings_are_plain.ensures.hearing s rows row d.1 d.0)
    (λ code e. c.rows_change_one_device.ensures.fault_bus row rows code e) d told b f writes says at_unit g h)
