use Rattle.std.proofs.Common.{sym, ◌∙◌}
use Rattle.story_model.specs.bus_phases.specs.Dialogue.{takes_data}
use Rattle.dialogue_model.proofs.Observing.{keeps_messages, keeps_agreements, keeps_begun}
use Rattle.dialogue_model.proofs.observer.see_messages.Goals as goal

pub returns-then-is_within_phase-clause-dialogue : goal.returns-then-is_within_phase-clause-dialogue
returns-then-is_within_phase-clause-dialogue c =
    λ er f h. c.takes_data.ensures ∙ (λ i. takes_data c.args.dialogue.now (c.is_some.ensures i))
    ∙ keeps_messages c.args.dialogue.now f c.args.effect.now
    (sym c.is_within_phase.ensures ∙ c.if-is_within_phase.true) er

pub returns-then-is_within_phase-clause-agreed : goal.returns-then-is_within_phase-clause-agreed
returns-then-is_within_phase-clause-agreed c = λ f h. keeps_agreements f c.args.effect.now c.args.dialogue.now.heard.now
    c.args.agreed.now (sym c.is_within_phase.ensures ∙ c.if-is_within_phase.true) h

pub returns-then-is_within_phase-clause-begun : goal.returns-then-is_within_phase-clause-begun
returns-then-is_within_phase-clause-begun c =
    keeps_begun c.args.begun.now c.args.effect.now (sym c.is_within_phase.ensures ∙ c.if-is_within_phase.true)
