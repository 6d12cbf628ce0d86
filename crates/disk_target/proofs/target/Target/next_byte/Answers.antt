use Rattle.std.proofs.Common.{◌≡◌, ◌∙◌, true, false, sym}
use Rattle.due_model.specs.dialogue_model.specs.NextPhase.{phase_of}
use Rattle.due_model.specs.dialogue_model.specs.PhaseBytes.{phase_byte}
use Rattle.due_model.specs.RunSteps.{run_state}
use Rattle.due_model.specs.Tasks.{given_of}
use Rattle.target_course.specs.Servings.{serving_with}
use Rattle.disk_target.proofs.Knowing.{alike_known}
use Rattle.disk_target.proofs.target.Target.next_byte.Goals as goal

pub returns-then-driven : goal.returns-then-driven
returns-then-driven c = λ s rows n fits o d e able h course own calm from.
    let k = c.args.known.now.serving in
    let v = c.view-view.ensures.trace rows o in
    let g = c.given_byte-given.ensures s rows n fits o d e able h course own calm from in
    let place = c.requests-place.ensures ∙ (λ i. (c.handshakes.ensures.trace rows v i).requests) in
    record {
      given = g.given;
      byte_is = λ z. c.phase_byte.ensures g.given 0 g.byte_is ∙ (λ i. phase_byte (serving_with k g.given)
          ((c.phase_of.ensures ∙ (λ j. phase_of (c.bus.ensures.trace rows v j))) i) k.plan.messages 0 (place i));
      alike = g.alike;
    }

pub returns-else-driven : goal.returns-else-driven
returns-else-driven c = λ s rows n fits o d e able h course own calm from. record {
  given = given_of s (run_state s rows);
  byte_is = λ z. let never : false ≡ true = sym c.if-driven.false ∙ z in absurd cc;
  alike = alike_known s rows n c.args.self.now c.args.course.now c.args.known.now c.requires.known
      (c.kept_is_plain.ensures.rows s rows d) fits e able h course own calm from;
}
