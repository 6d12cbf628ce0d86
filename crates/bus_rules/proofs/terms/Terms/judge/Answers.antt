use Rattle.std.proofs.Common.{◌≡◌, true, ◌∙◌, ap, refl, subst, sym}
use Rattle.bus_trace.specs.LineSet.{LineSet}
use Rattle.bus_trace.specs.Trace.{driven_after}
use Rattle.bus_trace.specs.declared.changes.Change.{Change}
use Rattle.bus_rules.specs.DataRows.{passes, standing_after}
use Rattle.bus_rules.specs.Judging.{Running, IsTermsOf}
use Rattle.bus_rules.proofs.DataRows.{breaks_none, passing}
use Rattle.bus_rules.proofs.Running.{change_is}
use Rattle.bus_rules.proofs.terms.Terms.judge.Goals as goal

pub returns-then-passes-clause-broken : goal.returns-then-passes-clause-broken
returns-then-passes-clause-broken c = λ rows h.
    let t = subst (λ (x : Running). IsTermsOf rows x) (sym c.self.view_is) h in
    let own = c.drives-own.ensures.trace rows t.view in
    let next = c.driven_after-next.ensures ∙ ap (λ (x : LineSet). driven_after c.args.row.now.kind x) own in
    let change = change_is rows c.args.row.now _ _ _ _ (c.bus.ensures.trace rows t.view)
    (c.bus_with.ensures rows c.args.row.now t.view refl next) own c.driven_after-next.ensures in
    sym (breaks_none rows c.args.row.now
    (passing rows c.args.row.now _ h _ _ _ _ _ change (c.passes.ensures rows h.view) c.if-passes.true))

pub returns-then-passes-clause-kept : goal.returns-then-passes-clause-kept
returns-then-passes-clause-kept c = λ rows h.
    let t = subst (λ (x : Running). IsTermsOf rows x) (sym c.self.view_is) h in
    let own = c.drives-own.ensures.trace rows t.view in
    let next = c.driven_after-next.ensures ∙ ap (λ (x : LineSet). driven_after c.args.row.now.kind x) own in
    let change = change_is rows c.args.row.now _ _ _ _ (c.bus.ensures.trace rows t.view)
    (c.bus_with.ensures rows c.args.row.now t.view refl next) own c.driven_after-next.ensures in
    let passed = passing rows c.args.row.now _ h _ _ _ _ _ change (c.passes.ensures rows h.view) c.if-passes.true in
    c.transfer.ensures.kept rows h change
    (subst (λ (x : Change). passes (standing_after rows) x c.args.row.now ≡ true) (sym change) passed)
