use Rattle.std.proofs.Common.{◌∷◌, ◌∙◌, subst, sym}
use Rattle.bus_rules.specs.Judging.{Running, IsTermsOf}
use Rattle.bus_rules.proofs.Running.{change_is, seen_is, free_of, held_of}
use Rattle.bus_rules.proofs.terms.Terms.step.Goals as goal

pub returns-clause-kept : goal.returns-clause-kept
returns-clause-kept c = λ rows h.
    let row = c.args.row.now in
    let t = subst (λ (x : Running). IsTermsOf rows x) (sym c.self.view_is) h in
    let view = c.step.ensures.trace rows t.view in
    let met = c.met-seen.ensures rows h in
    let change = change_is rows row _ _ _ _ (c.bus-before.ensures.trace rows t.view)
    (c.bus.ensures.trace (row ∷ rows) view) (c.drives-own.ensures.trace rows t.view) c.driven_after-next.ensures in
    record {
      view = view;
      course = c.step-seen.ensures.kept rows t.course (c.free.ensures.value ∙ free_of rows row.dev _ _ _ met) change
          (held_of rows row _ _ _ _ _ met change c.is_attention_held-held.ensures);
    }

pub returns-clause-seen : goal.returns-clause-seen
returns-clause-seen c = λ rows h.
    let row = c.args.row.now in
    let t = subst (λ (x : Running). IsTermsOf rows x) (sym c.self.view_is) h in
    let view = c.step.ensures.trace rows t.view in
    let met = c.met-seen.ensures rows h in
    let change = change_is rows row _ _ _ _ (c.bus-before.ensures.trace rows t.view)
    (c.bus.ensures.trace (row ∷ rows) view) (c.drives-own.ensures.trace rows t.view) c.driven_after-next.ensures in
    seen_is rows row _ _ _ _ _ _ t.course met change c.step-seen.ensures.reading
