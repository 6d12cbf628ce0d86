use Rattle.std.proofs.Common.{◌∙◌, ◌∷◌, sym, subst, Option}
use Rattle.bus_trace.specs.declared.connection.Connection.{Connection}
use Rattle.disk_target.specs.Bytes.{IsOwnIf}
use Rattle.disk_target.proofs.RowServed.{before_own}
use Rattle.disk_target.proofs.turn.see_course.Goals as goal

pub returns-in-None-clause-trace : goal.returns-in-None-clause-trace
returns-in-None-clause-trace c = λ s rows row d devices tied line hears before own turn begun old. begun c.in-None.is

pub returns-in-None-own-clause-trace : goal.returns-in-None-own-clause-trace
returns-in-None-own-clause-trace c = λ s rows row d devices tied line hears before own turn begun old.
    subst (λ (x : Option Connection). IsOwnIf (row ∷ rows) d.dev x) c.in-None-own.is own

pub returns-in-Some-own-clause-trace : goal.returns-in-Some-own-clause-trace
returns-in-Some-own-clause-trace c = λ s rows row d devices tied line hears before own turn begun old.
    let it = subst (λ (x : Option Connection). IsOwnIf (row ∷ rows) d.dev x) c.in-Some-own.is own in
    let was = before_own s rows row d.dev _ _ (c.kept_is_plain.ensures.rows s rows devices.1)
    (c.kept_is_plain.ensures.rows s (row ∷ rows) devices) tied.heard_are (sym before ∙ c.in-Some.is) it.0 it.1 in
    c.go_on.ensures.trace s rows row d _ devices tied line hears was.0 was.1 turn.course old
