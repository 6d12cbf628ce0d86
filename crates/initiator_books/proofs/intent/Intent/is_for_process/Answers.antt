use Rattle.std.proofs.Common.{◌≡◌, ◌∙◌, ap, refl, Option, Some, None}
use Rattle.due_model.specs.RunSteps.{is_for_process}
use Rattle.initiator_books.specs.Books.{item_if}
use Rattle.initiator_books.specs.Intents.{IntentValue, is_for_own_process}
use Rattle.initiator_books.specs.declared.mine.OwnItem.{OwnItem}
use Rattle.initiator_books.specs.declared.mine.OwnItem.TheVariants as own
use Rattle.initiator_books.proofs.intent.Intent.is_for_process.Goals as goal

same : (aim : Option OwnItem) → is_for_own_process aim ≡ is_for_process (item_if aim)
same None = refl
same (Some (own.Command n)) = refl
same (Some (own.Sense n)) = refl
same (Some (own.Abort n)) = refl

pub returns-clause-trace : goal.returns-clause-trace
returns-clause-trace c =
    λ s rows h. c.is_process.ensures ∙ ap (λ (a : Option OwnItem). is_for_own_process a) c.aim.ensures
    ∙ ap (λ (v : IntentValue). is_for_own_process v.wish.aim) c.self.view_is ∙ same c.args.self.now.wish.aim
    ∙ (λ i. is_for_process (h.wish_is.aim_is i))
