use Rattle.std.proofs.Common.{false, ◌∙◌}
use Rattle.due_model.specs.dialogue_model.specs.Ends.{seek_before}
use Rattle.due_model.specs.dialogue_model.specs.NextPhase as next_phase
use Rattle.due_model.specs.dialogue_model.specs.PhaseBytes.{lines_by}
use Rattle.target_course.specs.Servings.{serving_with}
use Rattle.disk_target.proofs.target.Target.leaving.Goals as goal

pub returns-clause-trace : goal.returns-clause-trace
returns-clause-trace c = λ s rows n fits o d e able h course own calm from.
    let k = c.args.known.now.serving in
    let g = c.given_byte-first.ensures s rows n fits o d e able h course own calm from in
    let v : next_phase.Serving = serving_with k g.given in
    let lines = c.bus-bus.ensures.trace rows (c.view.ensures.trace rows o) in
    let left = c.leaving_by-leaving.ensures.exact g.given in
    let leaves = left ∙ (λ j. next_phase.leaving_by v (c.begun.ensures rows o j) (lines j)) in
    let first = g.byte_is in
    record {
      given = g.given;
      leaves = λ j. record {
        byte = 0;
        follows = false;
        to = (c.lines_by.ensures g.given first
            ∙ (λ i. lines_by v ((c.io.ensures ∙ (λ l. (lines l).io)) i) (leaves i) (leaves i).to)) j;
        wait = (c.seek_before.ensures.exact g.given ∙ (λ i. seek_before v (lines i))) j;
      };
      alike = g.alike;
    }
