use Rattle.std.proofs.Common.{◌∙◌, Option, refl, sym, ap}
use Rattle.std.specs.Prelude.{if◌then◌else◌}
use Rattle.bus_trace.specs.LineSet.{LineSet}
use Rattle.bus_trace.specs.declared.changes.Change.{Change}
use Rattle.bus_trace.specs.declared.connection.Connection.{Connection}
use Rattle.bus_trace.specs.Terms.{receiver_of}
use Rattle.bus_phases.specs.Dialogue.{agreed, asynchronous, closed_agreement_by, dialogue_after}
use Rattle.bus_phases.specs.Phases.{duty_after, pulses_after, turned_after}
use Rattle.bus_phases.specs.Reading.{reading_of}
use Rattle.bus_phases.proofs.Agreeing.{agreeing}
use Rattle.bus_rules.specs.declared.course.Course.{Course}
use Rattle.bus_rules.specs.Saved.{course_in}
use Rattle.bus_rules.proofs.Courses.{goes_on}
use Rattle.bus_rules.proofs.saved_course.step_course.Goals as goal

pub returns-clause-kept : goal.returns-clause-kept
returns-clause-kept c = λ rows h ef ec eh.
    let row = c.args.row.now in
    let change = c.args.change.now in
    let k : Course = course_in c.args.course.now in
    let before = c.get-before.ensures in
    let after = c.get-after.ensures in
    goes_on rows row k c.args.free c.args.held change _ _ _ _ _ _ _ _ _ _ _ h ef ec eh (c.step.ensures
    (λ (s : LineSet). s.bsy) rows row h.bsy_raised refl refl (sym (c.bsy.ensures ∙ ap (λ (x : Change). x.own.bsy) ec))
    (sym (c.bsy-2.ensures ∙ ap (λ (x : Change). x.next.bsy) ec))) (c.step-2.ensures
    (λ (s : LineSet). s.rst) rows row h.rst_raised refl refl (sym (c.rst.ensures ∙ ap (λ (x : Change). x.own.rst) ec))
    (sym (c.rst-2.ensures ∙ ap (λ (x : Change). x.next.rst) ec))) c.step_arbitration.ensures
    c.step_call.ensures c.step_connection.ensures (c.id_or_none_word-course.ensures
    ∙ c.receiver_of.ensures ∙ ap (λ (n : Option Connection). receiver_of n change) before)
    (c.step_pulses.ensures ∙ ap (λ (n : Option Connection). pulses_after k.pulses n change row.time) after)
    (c.word_of-course.ensures ∙ c.turned_after.ensures ∙ (λ i. turned_after (c.is_yes.ensures i) (before i) change))
    (c.duty_word-course.ensures ∙ c.duty_after.ensures
    ∙ (λ i. duty_after (c.duty_in.ensures i) (after i) change c.args.held))
    (agreeing (λ i t. if change.after.rst then asynchronous
    else closed_agreement_by c.get-before.result change.after.bsy c.get-spoken.result i t (agreed rows i t))
    (λ i t. if change.after.rst then asynchronous
    else closed_agreement_by k.connection change.after.bsy k.dialogue.heard.now i t (agreed rows i t)) _
    (λ i t. λ j. if change.after.rst then asynchronous
    else closed_agreement_by (before j) change.after.bsy (c.get-spoken.ensures j) i t (agreed rows i t))
    (c.agree.ensures (agreed rows) h.agreed)) (c.step_dialogue-reading.ensures.exact (agreed rows) h.agreed
    ∙ (λ i. dialogue_after k.dialogue (before i) (after i) (agreed rows) change))

pub returns-clause-reading : goal.returns-clause-reading
returns-clause-reading c =
    let k : Course = course_in c.args.course.now in
    c.step_dialogue-reading.ensures.reading
    ∙ ap (λ (n : Option Connection). reading_of k.dialogue.half n c.args.change.now) c.get-before.ensures
