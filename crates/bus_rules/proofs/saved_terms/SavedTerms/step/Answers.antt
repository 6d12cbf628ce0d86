use Rattle.std.proofs.Common.{◌∙◌, ap, refl}
use Rattle.bus_trace.specs.LineSet.{LineSet}
use Rattle.bus_trace.specs.Trace.{driven_after}
use Rattle.bus_rules.proofs.Running.{change_is, seen_by, free_of, held_of}
use Rattle.bus_rules.proofs.saved_terms.SavedTerms.step.Goals as goal

pub returns-clause-kept : goal.returns-clause-kept
returns-clause-kept c = λ rows h.
    let row = c.args.row.now in
    let own = c.drives-own.ensures rows h.view in
    let next = c.driven_after-next.ensures ∙ ap (λ (x : LineSet). driven_after row.kind x) own in
    let after = c.bus_with.ensures rows row h.view refl next in
    let change = change_is rows row _ _ _ _ (c.bus.ensures ∙ h.view.bus_is) after own c.driven_after-next.ensures in
    let met = c.met-seen.ensures rows h in
    record {
      view = c.step_lines.ensures rows h.view next after;
      course = c.step_course-seen.ensures.kept rows h.course (c.free.ensures.value ∙ free_of rows row.dev _ _ _ met)
          change (held_of rows row _ _ _ _ _ met change c.is_attention_held-held.ensures);
    }

pub returns-clause-seen : goal.returns-clause-seen
returns-clause-seen c = λ rows h.
    let row = c.args.row.now in
    let own = c.drives-own.ensures rows h.view in
    let next = c.driven_after-next.ensures ∙ ap (λ (x : LineSet). driven_after row.kind x) own in
    let after = c.bus_with.ensures rows row h.view refl next in
    let change = change_is rows row _ _ _ _ (c.bus.ensures ∙ h.view.bus_is) after own c.driven_after-next.ensures in
    seen_by rows row _ _ _ _ _ h.course (c.met-seen.ensures rows h) change c.step_course-seen.ensures.reading
