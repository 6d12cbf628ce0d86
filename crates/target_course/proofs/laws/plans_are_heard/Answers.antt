use Rattle.std.proofs.Common.{◌∷◌}
use Rattle.target_course.proofs.Heard.{plan_goes_on, plan_begins}
use Rattle.target_course.proofs.laws.plans_are_heard.Goals as goal

pub returns-clause-more : goal.returns-clause-more
returns-clause-more c = λ s rows row m n d x y. plan_goes_on s rows row m n (c.kept_is_plain.ensures.rows s rows d.1)
    (c.kept_is_plain.ensures.rows s (row ∷ rows) d) (c.hearings_are_plain.ensures.hearing s rows row d.1 d.0) x y

pub returns-clause-first : goal.returns-clause-first
returns-clause-first c = λ s rows row n d x y. plan_begins s rows row n (c.kept_is_plain.ensures.rows s rows d.1)
    (c.kept_is_plain.ensures.rows s (row ∷ rows) d) x y
