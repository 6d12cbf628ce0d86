use Rattle.std.proofs.Common.{◌∙◌, ap}
use Rattle.bus_phases.specs.Dialogue.{dialogue_after}
use Rattle.bus_phases.specs.Reading.{reading_of}
use Rattle.bus_phases.specs.declared.dialogue.Dialogue.{Dialogue}
use Rattle.bus_rules.proofs.saved_course.step_messages.Goals as goal

pub returns-clause-exact : goal.returns-clause-exact
returns-clause-exact c = λ f a. c.of.ensures ∙ c.step-reading.ensures.exact f a ∙ ap
    (λ (d : Dialogue). dialogue_after d c.args.before.now c.args.after.now f c.args.change.now) c.get-dialogue.ensures

pub returns-clause-reading : goal.returns-clause-reading
returns-clause-reading c = c.step-reading.ensures.reading
    ∙ ap (λ (d : Dialogue). reading_of d.half c.args.before.now c.args.change.now) c.get-dialogue.ensures
