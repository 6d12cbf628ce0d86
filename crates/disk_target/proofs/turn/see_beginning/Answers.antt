use Rattle.std.proofs.Common.{◌∙◌, ◌∷◌, sym, subst, Option}
use Rattle.bus_trace.specs.declared.connection.Connection.{Connection}
use Rattle.disk_target.specs.Bytes.{IsOwnIf}
use Rattle.disk_target.proofs.RowBegins.{away_on, begun_on, stood_on}
use Rattle.disk_target.proofs.turn.see_beginning.Goals as goal

pub returns-in-Some-clause-trace : goal.returns-in-Some-clause-trace
returns-in-Some-clause-trace c = λ s rows row dev devices tied before own att.
    stood_on s rows row dev _ c.args.processes.now (sym before ∙ c.in-Some.is) att

pub returns-in-None-own-clause-trace : goal.returns-in-None-own-clause-trace
returns-in-None-own-clause-trace c = λ s rows row dev devices tied before own att. away_on s rows row dev
    c.args.processes.now (subst (λ (x : Option Connection). IsOwnIf (row ∷ rows) dev x) c.in-None-own.is own) att

pub returns-in-Some-own-clause-trace : goal.returns-in-Some-own-clause-trace
returns-in-Some-own-clause-trace c = λ s rows row dev devices tied before own att.
    let it = subst (λ (x : Option Connection). IsOwnIf (row ∷ rows) dev x) c.in-Some-own.is own in
    begun_on s rows row dev c.in-Some-own.connection c.args.processes.now c.begin.new.self
    (c.kept_is_plain.ensures.rows s rows devices.1)
    (c.kept_is_plain.ensures.rows s (row ∷ rows) devices) tied (sym before ∙ c.in-None.is) it.0 it.1
    (c.begin.ensures.exact ∙ (λ i. record c.args.processes.now { standing = (sym c.begin.ensures.exact i).standing }))
    att (λ a p unit. c.begin.ensures.selected a p unit) (λ a p unit r. c.begin.ensures.reselected a p unit r)
