use Rattle.std.proofs.Common.{◌≡◌, ◌∙◌, sym, subst}
use Rattle.bus_trace.specs.Trace.{drives}
use Rattle.connect.specs.declared.states.Link.{Link}
use Rattle.connect.specs.declared.states.Step.{Step}
use Rattle.connect.specs.Links.{present_link}
use Rattle.connect.specs.Steps.{link_in, step_from, IsStepOf}
use Rattle.connect.proofs.StepsMade.{step_made}
use Rattle.connect.proofs.states.Link.step.Goals as goal

pub returns : goal.returns
returns c = λ rows h.
    let shown : c.present_link.result ≡ link_in rows c.args.self = c.present_link.ensures
    ∙ (λ i. present_link ((c.drives.ensures.trace rows h ∙ (λ k. drives rows (c.dev-dev.ensures.exact k))) i)
    c.args.self (c.stage.ensures.trace rows h i)) in
    let made : c.step_from.result ≡ step_from rows (link_in rows c.args.self) c.args.now c.args.flip =
    c.step_from.ensures rows h ∙ (λ i. step_from rows (shown i) c.args.now c.args.flip) in
    subst (λ (s : Step Link). IsStepOf rows c.args.self c.args.now c.args.flip s) (sym made)
    (step_made rows c.args.self c.args.now c.args.flip)
