use Rattle.std.proofs.Common.{◌∙◌, refl, sym, ap}
use Rattle.bus_trace.specs.LineSet.{LineSet}
use Rattle.bus_trace.specs.declared.changes.Change.{Change}
use Rattle.bus_phases.specs.Dialogue.{agreed}
use Rattle.bus_rules.proofs.Courses.{goes_on}
use Rattle.bus_rules.proofs.course.Course.step.Goals as goal

pub returns-clause-kept : goal.returns-clause-kept
returns-clause-kept c = λ rows h ef ec eh.
    let row = c.args.row.now in
    goes_on rows row c.args.self.now c.args.free c.args.held c.args.change.now _ _ _ _ _ _ _ _ _ _ _ h ef ec eh
    (c.step.ensures (λ (s : LineSet). s.bsy) rows row h.bsy_raised refl refl
    (sym (c.bsy.ensures ∙ ap (λ (x : Change). x.own.bsy) ec))
    (sym (c.bsy-2.ensures ∙ ap (λ (x : Change). x.next.bsy) ec))) (c.step-2.ensures
    (λ (s : LineSet). s.rst) rows row h.rst_raised refl refl (sym (c.rst.ensures ∙ ap (λ (x : Change). x.own.rst) ec))
    (sym (c.rst-2.ensures ∙ ap (λ (x : Change). x.next.rst) ec))) c.see_arbitration.ensures
    c.see_call.ensures c.see_connection.ensures c.receiver_of-self.ensures c.pulses_after-self.ensures
    c.turned_after-self.ensures c.duty_after-self.ensures (c.agree.ensures (agreed rows) h.agreed)
    (c.step-reading.ensures.exact (agreed rows) h.agreed)
