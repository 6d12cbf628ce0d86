use Rattle.std.proofs.Common.{◌∙◌, ap, sym, subst, Option, Some}
use Rattle.story_model.specs.Items.{Item}
use Rattle.due_model.specs.Defs.{opening}
use Rattle.due_model.specs.RunSteps.{run_state}
use Rattle.initiator_books.specs.Wishes.{IsItemIf}
use Rattle.initiator_books.specs.Intents.{IntentValue}
use Rattle.initiator_books.specs.Openings.{opening_by}
use Rattle.initiator_books.proofs.FirstWords.{opening_is}
use Rattle.initiator_books.proofs.WishRows.{aims_are}
use Rattle.initiator_books.proofs.intent.Intent.opening.Goals as goal

pub returns-clause-trace : goal.returns-clause-trace
returns-clause-trace c = λ s rows d lt u host h.
    let v : IntentValue = c.args.self.now in
    c.item_opening.ensures
    ∙ (λ i. opening_by (Some c.args.host.now) c.args.negotiates (c.book.ensures i) (c.aim.ensures i)) ∙ ap
    (λ (z : IntentValue). opening_by (Some c.args.host.now) c.args.negotiates z.wish.book z.wish.aim) c.self.view_is
    ∙ (λ i. opening_by (sym host i) c.args.negotiates (h.wish_is.book_is i) v.wish.aim)
    ∙ opening_is s (run_state s rows).story.sent v.dev c.args.negotiates v.wish.aim u
    (subst (λ (x : Option Item). IsItemIf s v.dev x) (sym h.wish_is.aim_is) ((aims_are s rows d).own_items v.dev lt))
    ∙ (λ i. opening s v.dev c.args.negotiates (h.wish_is.aim_is i))
