use Rattle.std.proofs.Common.{◌∙◌, ℕ, List, ap, subst}
use Rattle.std.specs.Prelude.{Option}
use Rattle.bus_trace.specs.declared.Row.{Row}
use Rattle.bus_rules.specs.declared.verdict.Verdict.{Verdict}
use Rattle.bus_rules.specs.Rules.{judged}
use Rattle.scsibus_c.specs.declared.rows.ScsibusRow.{ScsibusRow}
use Rattle.scsibus_c.specs.Rows.{rows_after, told, answer}
use Rattle.scsibus_c.specs.States.{IsStateOf, taken}
use Rattle.scsibus_c.proofs.judge.feed_any.Goals as goal

pub returns-in-None-clause-kept : goal.returns-in-None-clause-kept
returns-in-None-clause-kept c = λ past is few.
    let rows : List ScsibusRow = c.args.rows.now in
    subst (λ (at : Option ℕ). IsStateOf (taken at past rows)
    (record { form = c.args.state.now.form; judge = c.take_in_words.new.judge })) c.in-None.ensures.exact
    (record { form = is.form; judge = c.take_in_words.ensures past is.judge few })

pub returns-in-None-clause-verdict : goal.returns-in-None-clause-verdict
returns-in-None-clause-verdict c = λ past is few.
    let seen : List Row = rows_after past c.args.rows.now in
    let fed = c.take_in_words.ensures past is.judge few in
    c.told.ensures ∙ ap (λ (v : Verdict). told v) (c.verdict.ensures seen fed)
    ∙ ap (λ (at : Option ℕ). answer at (judged seen)) c.in-None.ensures.exact
