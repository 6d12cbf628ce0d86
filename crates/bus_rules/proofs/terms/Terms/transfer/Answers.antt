use Rattle.std.proofs.Common.{◌≡◌, true, ◌∷◌, ◌∙◌, ap, subst, sym}
use Rattle.bus_trace.specs.declared.changes.Change.{Change}
use Rattle.bus_rules.specs.declared.course.Course.{Course}
use Rattle.bus_rules.specs.DataRows.{passes, standing_after, course_after_transfer}
use Rattle.bus_rules.specs.Judging.{Running, IsTermsOf, IsCourseOf}
use Rattle.bus_trace.specs.Changes.{change_of, same_stage}
use Rattle.bus_rules.proofs.DataRows.{moved, stage_stays}
use Rattle.bus_rules.proofs.Running.{held_by}
use Rattle.bus_rules.proofs.terms.Terms.transfer.Goals as goal

pub returns : goal.returns
returns c = record {
  kept = λ rows h ec e.
      let row = c.args.row.now in
      let t = subst (λ (x : Running). IsTermsOf rows x) (sym c.self.view_is) h in
      let e' = subst (λ (x : Change). passes (standing_after rows) x row ≡ true) ec e in
      let held = held_by rows row _ _ _ ec
      (λ i. (c.times.ensures.trace rows t.view i).atn) c.is_attention_held-held.ensures in
      let course = moved rows row _ _ t.course held e' in
      let stage = (λ i. same_stage (t.view.bus_is i) (ec i).after)
      ∙ stage_stays (standing_after rows) (change_of rows row) row e' in
      record {
        view = c.transfer-2.ensures.trace rows t.view stage (ap (λ (x : Change). x.next) ec)
            (ap (λ (x : Change). x.after) ec);
        course = subst (λ (x : Course). IsCourseOf (row ∷ rows) x) (sym (c.transfer.ensures ∙ ap
            (λ (x : Change). course_after_transfer c.self.inside.course c.is_attention_held-held.result x row.time) ec))
            course;
      };
}
