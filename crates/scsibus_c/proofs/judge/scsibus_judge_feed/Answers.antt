use Rattle.std.proofs.Common.{◌∙◌, ℕ, List, ap, sym, subst}
use Rattle.std.specs.Prelude.{Option}
use Rattle.bus_trace.specs.declared.Row.{Row}
use Rattle.bus_rules.specs.declared.verdict.Verdict.{Verdict}
use Rattle.bus_rules.specs.Rules.{judged}
use Rattle.scsibus_c.specs.declared.judge.ScsibusJudge.{ScsibusJudge}
use Rattle.scsibus_c.specs.Rows.{rows_after, told, answer}
use Rattle.scsibus_c.specs.States.{IsStateOf, IsForeign, taken}
use Rattle.scsibus_c.proofs.judge.scsibus_judge_feed.Goals as goal

pub returns-then-pass_alone-clause-kept : goal.returns-then-pass_alone-clause-kept
returns-then-pass_alone-clause-kept c = λ past is few.
    subst (λ (at : Option ℕ). IsStateOf (taken at past c.args.rows.now) c.pass_alone.new.state)
    (sym (c.pass_alone.ensures.in_range c.if-pass_alone.true))
    (c.pass_alone.ensures.kept past is few c.if-pass_alone.true)

pub returns-then-pass_alone-clause-verdict : goal.returns-then-pass_alone-clause-verdict
returns-then-pass_alone-clause-verdict c = λ past is few.
    let seen : List Row = rows_after past c.args.rows.now in
    let fed = c.pass_alone.ensures.kept past is few c.if-pass_alone.true in
    c.told.ensures ∙ ap (λ (v : Verdict). told v) (c.verdict.ensures seen fed.judge)
    ∙ ap (λ (at : Option ℕ). answer at (judged seen)) (sym (c.pass_alone.ensures.in_range c.if-pass_alone.true))

pub returns-then-pass_alone-clause-foreign : goal.returns-then-pass_alone-clause-foreign
returns-then-pass_alone-clause-foreign c = λ foreign.
    absurd (foreign (c.pass_alone.ensures.form c.if-pass_alone.true))

pub returns-else-pass_alone-clause-kept : goal.returns-else-pass_alone-clause-kept
returns-else-pass_alone-clause-kept c = λ past is few.
    c.feed_any.ensures.kept past
    (subst (λ (s : ScsibusJudge). IsStateOf past s) (sym (c.pass_alone.ensures.other c.if-pass_alone.false)) is) few

pub returns-else-pass_alone-clause-verdict : goal.returns-else-pass_alone-clause-verdict
returns-else-pass_alone-clause-verdict c = λ past is few.
    c.feed_any.ensures.verdict past
    (subst (λ (s : ScsibusJudge). IsStateOf past s) (sym (c.pass_alone.ensures.other c.if-pass_alone.false)) is) few

pub returns-else-pass_alone-clause-foreign : goal.returns-else-pass_alone-clause-foreign
returns-else-pass_alone-clause-foreign c = λ foreign.
    let same = c.pass_alone.ensures.other c.if-pass_alone.false in
    let told = c.feed_any.ensures.foreign (subst (λ (s : ScsibusJudge). IsForeign s) (sym same) foreign) in
    (told.0 ∙ same, told.1)
