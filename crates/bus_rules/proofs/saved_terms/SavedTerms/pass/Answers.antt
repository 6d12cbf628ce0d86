use Rattle.std.proofs.Common.{◌≡◌, true, ◌∙◌, ap, refl, subst, sym}
use Rattle.bus_trace.specs.LineSet.{LineSet}
use Rattle.bus_trace.specs.Trace.{driven_after}
use Rattle.bus_trace.specs.declared.changes.Change.{Change}
use Rattle.bus_rules.specs.DataRows.{passes, standing_after}
use Rattle.bus_rules.proofs.DataRows.{breaks_none, passes_is, passing}
use Rattle.bus_rules.proofs.Running.{change_is}
use Rattle.bus_rules.proofs.saved_terms.SavedTerms.pass.Goals as goal

pub returns-then-passes-clause-exact : goal.returns-then-passes-clause-exact
returns-then-passes-clause-exact c = λ rows h.
    let row = c.args.row.now in
    let own = c.drives-own.ensures rows h.view in
    let next = c.driven_after-next.ensures ∙ ap (λ (x : LineSet). driven_after row.kind x) own in
    let change = change_is rows row _ _ _ _ (c.bus.ensures ∙ h.view.bus_is)
    (c.bus_with.ensures rows row h.view refl next) own c.driven_after-next.ensures in
    sym c.if-passes.true ∙ passes_is rows row _ h _ _ _ _ _ change (c.passes.ensures rows h.view)

pub returns-then-passes-clause-lawful : goal.returns-then-passes-clause-lawful
returns-then-passes-clause-lawful c = λ rows h _.
    let row = c.args.row.now in
    let own = c.drives-own.ensures rows h.view in
    let next = c.driven_after-next.ensures ∙ ap (λ (x : LineSet). driven_after row.kind x) own in
    let change = change_is rows row _ _ _ _ (c.bus.ensures ∙ h.view.bus_is)
    (c.bus_with.ensures rows row h.view refl next) own c.driven_after-next.ensures in
    breaks_none rows row (passing rows row _ h _ _ _ _ _ change (c.passes.ensures rows h.view) c.if-passes.true)

pub returns-then-passes-clause-kept : goal.returns-then-passes-clause-kept
returns-then-passes-clause-kept c = λ rows h _.
    let row = c.args.row.now in
    let own = c.drives-own.ensures rows h.view in
    let next = c.driven_after-next.ensures ∙ ap (λ (x : LineSet). driven_after row.kind x) own in
    let change = change_is rows row _ _ _ _ (c.bus.ensures ∙ h.view.bus_is)
    (c.bus_with.ensures rows row h.view refl next) own c.driven_after-next.ensures in
    let passed = passing rows row _ h _ _ _ _ _ change (c.passes.ensures rows h.view) c.if-passes.true in
    c.transfer.ensures.kept rows h change
    (subst (λ (x : Change). passes (standing_after rows) x row ≡ true) (sym change) passed)

pub returns-clause-exact : goal.returns-clause-exact
returns-clause-exact c = λ rows h.
    let row = c.args.row.now in
    let own = c.drives-own.ensures rows h.view in
    let next = c.driven_after-next.ensures ∙ ap (λ (x : LineSet). driven_after row.kind x) own in
    let change = change_is rows row _ _ _ _ (c.bus.ensures ∙ h.view.bus_is)
    (c.bus_with.ensures rows row h.view refl next) own c.driven_after-next.ensures in
    sym c.if-passes.false ∙ passes_is rows row _ h _ _ _ _ _ change (c.passes.ensures rows h.view)
