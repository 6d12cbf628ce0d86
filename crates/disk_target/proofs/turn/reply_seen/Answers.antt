use Rattle.std.proofs.Common.{◌≡◌, ◌∙◌, ◌∷◌, true, false, sym, subst, Option}
use Rattle.bus_trace.specs.declared.connection.Connection.{Connection}
use Rattle.disk_target.specs.Bytes.{IsOwnIf}
use Rattle.disk_target.proofs.RowServed.{before_own}
use Rattle.disk_target.proofs.turn.reply_seen.Goals as goal

pub returns-in-None-clause-trace : goal.returns-in-None-clause-trace
returns-in-None-clause-trace c = λ s rows row d fits devices tied before own told was.
    c.replies_come_later.ensures s rows row d.dev devices (sym before ∙ c.in-None.is) tied.heard_are

pub returns-in-None-own-clause-trace : goal.returns-in-None-own-clause-trace
returns-in-None-own-clause-trace c = λ s rows row d fits devices tied before own told was. λ n p stands calm is.
    let away = subst (λ (x : Option Connection). IsOwnIf (row ∷ rows) d.dev x) c.in-None-own.is own in
    let bad : true ≡ false = sym (away n stands) ∙ calm in
    absurd cc

pub returns-in-Some-own-clause-trace : goal.returns-in-Some-own-clause-trace
returns-in-Some-own-clause-trace c = λ s rows row d fits devices tied before own told was.
    let it = subst (λ (x : Option Connection). IsOwnIf (row ∷ rows) d.dev x) c.in-Some-own.is own in
    let old = before_own s rows row d.dev _ _ (c.kept_is_plain.ensures.rows s rows devices.1)
    (c.kept_is_plain.ensures.rows s (row ∷ rows) devices) tied.heard_are (sym before ∙ c.in-Some.is) it.0 it.1 in
    let shown = told _ old.0 old.1 it.1 in
    c.reply_after.ensures.trace s rows row _ d.dev devices (c.scenarios_fit_the_bus.ensures.seats s fits) old.0 old.1
    tied.telling_are tied.allowed_are shown.shows shown.outlook was
