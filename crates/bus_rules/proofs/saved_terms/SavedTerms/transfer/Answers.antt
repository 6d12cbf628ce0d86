use Rattle.std.proofs.Common.{◌≡◌, true, ◌∷◌, ◌∙◌, ap, subst, sym}
use Rattle.bus_trace.specs.Changes.{change_of, same_stage}
use Rattle.bus_trace.specs.declared.changes.Change.{Change}
use Rattle.bus_rules.specs.DataRows.{passes, standing_after, course_after_transfer}
use Rattle.bus_rules.specs.Judging.{IsCourseOf}
use Rattle.bus_rules.specs.Saved.{course_in}
use Rattle.bus_rules.specs.declared.course.Course.{Course}
use Rattle.bus_rules.proofs.DataRows.{moved, stage_stays}
use Rattle.bus_rules.proofs.Running.{held_by}
use Rattle.bus_rules.proofs.saved_terms.SavedTerms.transfer.Goals as goal

pub returns : goal.returns
returns c = record {
  kept = λ rows h ec e.
      let row = c.args.row.now in
      let k : Course = course_in c.args.self.now.course in
      let e' = subst (λ (x : Change). passes (standing_after rows) x row ≡ true) ec e in
      let held = held_by rows row _ _ _ ec (λ i. (h.view.times_are i).atn) c.is_attention_held-held.ensures in
      let stage = (λ i. same_stage (h.view.bus_is i) (ec i).after)
      ∙ stage_stays (standing_after rows) (change_of rows row) row e' in
      record {
        view = c.transfer_lines.ensures rows h.view stage (ap (λ (x : Change). x.next) ec)
            (ap (λ (x : Change). x.after) ec);
        course = subst (λ (x : Course). IsCourseOf (row ∷ rows) x) (sym (c.transfer_course.ensures
            ∙ ap (λ (x : Change). course_after_transfer k c.is_attention_held-held.result x row.time) ec))
            (moved rows row k _ h.course held e');
      };
}
