use Rattle.std.proofs.Common.{◌≡◌, ◌∷◌, ◌∙◌, sym, subst}
use Rattle.initiator_books.specs.scsi_device.specs.Itself.{ItselfValue, IsItselfOf}
use Rattle.initiator.specs.Hosts.{HostValue, HasHeard}
use Rattle.initiator_books.specs.Intents.{IntentValue, IsIntentOf}
use Rattle.initiator.proofs.Hosts.{is_initiator}
use Rattle.initiator.proofs.Still.{linked_goes_on}
use Rattle.initiator.proofs.host.Host.see_linked.Goals as goal

pub returns-clause-trace : goal.returns-clause-trace
returns-clause-trace c = λ s rows f o d shown stands none h.
    let row = c.args.row.now in
    let v : HostValue = c.args.self.now in
    let bus = c.view-view.ensures.trace (row ∷ rows) o in
    let heard = subst (λ (z : HostValue). HasHeard s rows row z)
    (sym c.self.view_is) (c.hear.ensures.trace s rows row f o d shown h) in
    let itself : c.self.inside.itself ≡ v.itself = (λ i. let z : HostValue = c.self.view_is i in z.itself)
    ∙ c.hear.ensures.itself in
    let intent : c.self.inside.intent ≡ v.intent = (λ i. let z : HostValue = c.self.view_is i in z.intent)
    ∙ c.hear.ensures.intent in
    linked_goes_on s rows row v _ c.see.new.self c.see_in_connection.new.self
    ((λ i. let z : HostValue = c.self.view_is i in z.def) ∙ c.hear.ensures.def)
    ((λ i. let z : HostValue = c.self.view_is i in z.bytes) ∙ c.hear.ensures.bytes)
    ((λ i. let z : HostValue = c.self.view_is i in z.endings) ∙ c.hear.ensures.endings)
    (c.kept_is_plain.ensures.rows s rows d.1) stands (sym none)
    (c.see.ensures.dev ∙ (λ i. (itself i).dev)) (c.see_in_connection.ensures.dev ∙ (λ i. (intent i).dev))
    (c.see_in_connection.ensures.retries ∙ (λ i. (intent i).retries))
    (c.see.ensures.trace s rows bus (subst (λ (z : ItselfValue). IsItselfOf s rows z) (sym itself) h.itself_is))
    (c.see_in_connection.ensures.trace s rows bus d (is_initiator s v.def _ _ h.line
    ((λ i. (intent i).dev) ∙ h.intent_dev) ((λ i. (intent i).retries) ∙ h.intent_retries)) stands none
    (subst (λ (z : IntentValue). IsIntentOf s rows z) (sym intent) h.intent_is)) h heard
