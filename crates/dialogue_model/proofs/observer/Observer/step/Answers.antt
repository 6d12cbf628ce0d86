use Rattle.std.proofs.Common.{◌≡◌, ◌∷◌, ◌∙◌, refl, sym, subst}
use Rattle.story_model.specs.bus_trace.specs.Terms.{receiver_of}
use Rattle.reaction_model.specs.bus_lines.specs.declared.effect.RowEffect.{RowEffect}
use Rattle.story_model.specs.bus_phases.specs.Dialogue.{agreed}
use Rattle.dialogue_model.specs.Hearing.{hearing_by}
use Rattle.dialogue_model.specs.Observer.{ObserverValue, IsObserverOf}
use Rattle.dialogue_model.proofs.Observing.{goes_on}
use Rattle.dialogue_model.proofs.observer.Observer.step.Goals as goal

pub returns : goal.returns
returns c = λ rows h.
    let row = c.args.row.now in
    let o = subst (λ (x : ObserverValue). IsObserverOf rows x) (sym c.self.view_is) h in
    let view = c.step.ensures.trace rows o.view_is in
    let effect = c.effect-effect.ensures.trace (row ∷ rows) view in
    goes_on rows row _ _ _ _ _ _ _ _ o view (c.handshakes-handshakes.ensures.trace rows o.view_is) effect
    (c.hear.ensures ∙ (λ i. hearing_by c.self.inside.dialogue c.self.inside.begun (c.requests-offered.ensures i)
    (c.is_struck-struck.ensures i) c.effect-effect.result.now)) c.see_messages.ensures.begun
    (c.see_messages.ensures.agreed (agreed rows) o.agreed_are) (c.see_messages.ensures.dialogue
    (subst (λ (x : RowEffect). x.receiver ≡ receiver_of x.before x.change) (sym effect) refl)
    (agreed rows) o.agreed_are)
