use Rattle.std.proofs.Common.{ℕ, ◌≡◌, ◌∷◌, ◌∙◌, ap, sym, subst, List, Option}
use Rattle.std.specs.Prelude.{take}
use Rattle.due_model.specs.RunSteps.{run_state}
use Rattle.story_model.specs.TraceHistory.{aim_of}
use Rattle.initiator_books.specs.scsi_device.specs.Itself.{ItselfValue, IsItselfOf}
use Rattle.initiator_books.specs.declared.endings.CommandEnd.{CommandEnd}
use Rattle.initiator_books.specs.declared.mine.OwnItem.{OwnItem}
use Rattle.scenario.specs.declared.value.HostDef.{HostDef}
use Rattle.initiator_books.specs.Books.{item_if, my_book}
use Rattle.initiator_books.specs.Commands.{all_past}
use Rattle.initiator_books.specs.Endings.{AreEndingsOf}
use Rattle.initiator.specs.Hosts.{HostValue, IsHostAfter, HasHeard}
use Rattle.initiator_books.specs.Intents.{IntentValue, IsIntentOf}
use Rattle.initiator.proofs.Hosts.{is_initiator, host_goes_on}
use Rattle.initiator.proofs.host.Host.see_news.Goals as goal

pub returns-clause-trace : goal.returns-clause-trace
returns-clause-trace c = λ s rows f o d shown h.
    let row = c.args.row.now in
    let v : HostValue = c.args.self.now in
    let g = subst (λ (z : HostValue). IsHostAfter s rows z) (sym c.self.view_is) h in
    let bus = c.view-view.ensures.trace (row ∷ rows) o in
    let heard = subst (λ (z : HostValue). HasHeard s rows row z)
    (sym c.self-2.view_is) (c.hear_row.ensures.trace s rows row f o d shown h) in
    let itself : c.self-2.inside.itself ≡ v.itself = (λ i. let z : HostValue = c.self-2.view_is i in z.itself)
    ∙ c.hear_row.ensures.itself in
    let intent : c.self-2.inside.intent ≡ v.intent = (λ i. let z : HostValue = c.self-2.view_is i in z.intent)
    ∙ c.hear_row.ensures.intent in
    let ends : c.self-2.inside.endings ≡ v.endings = (λ i. let z : HostValue = c.self-2.view_is i in z.endings)
    ∙ c.hear_row.ensures.endings in
    let next_dev = c.see-2.ensures.dev ∙ (λ i. (intent i).dev) in
    let same_dev = next_dev ∙ (λ i. let z : HostValue = sym c.self.view_is i in z.intent.dev) in
    let dev = next_dev ∙ h.intent_dev in
    let wants = c.see-2.ensures.trace s rows bus d
    (is_initiator s v.def c.self-2.inside.intent.dev c.self-2.inside.intent.retries h.line
    ((λ i. (intent i).dev) ∙ h.intent_dev) ((λ i. (intent i).retries) ∙ h.intent_retries)) shown
    (subst (λ (z : IntentValue). IsIntentOf s rows z) (sym intent) h.intent_is) in
    host_goes_on s rows row v _ c.see.new.self c.see-2.new.self c.see_endings.new.endings
    ((λ i. let z : HostValue = c.self-2.view_is i in z.def) ∙ c.hear_row.ensures.def)
    ((λ i. let z : HostValue = c.self-2.view_is i in z.bytes) ∙ c.hear_row.ensures.bytes)
    (c.see.ensures.dev ∙ (λ i. (itself i).dev)) next_dev (c.see-2.ensures.retries ∙ (λ i. (intent i).retries))
    (c.see.ensures.trace s rows bus (subst (λ (z : ItselfValue). IsItselfOf s rows z) (sym itself) h.itself_is)) wants
    (subst (λ (n : ℕ). AreEndingsOf s (row ∷ rows) n c.see_endings.new.endings) dev (c.see_endings.ensures s
    rows row d wants ((λ i. all_past (take c.past-past.result (sym (c.book.ensures ∙ g.intent_is.wish_is.book_is
    ∙ (λ j. my_book s (run_state s rows).story.sent (sym same_dev j))) i).mines)) ∙ c.past-past.ensures)
    (ap (λ (a : Option OwnItem). item_if a) c.aim-aim.ensures ∙ g.intent_is.wish_is.aim_is
    ∙ (λ i. aim_of (run_state s rows).story.aims (sym same_dev i))) shown
    (subst (λ (n : ℕ). AreEndingsOf s rows n c.self-2.inside.endings) (sym dev)
    (subst (λ (z : List CommandEnd). AreEndingsOf s rows v.def.dev z) (sym ends) h.endings_are)))) h heard
