use Rattle.std.proofs.Common.{◌∙◌, ap, sym}
use Rattle.initiator_books.specs.Books.{BookValue}
use Rattle.initiator_books.specs.Wishes.{tries_in}
use Rattle.initiator_books.proofs.OwnCommands.{tries_if, tries_told}
use Rattle.initiator_books.proofs.book.Book.tries.Goals as goal

pub returns-in-None : goal.returns-in-None
returns-in-None c =
    (λ i. tries_if (c.in-None.ensures.value i)) ∙ sym (tries_told c.self.inside.commands.mines c.args.number)
    ∙ ap (λ (v : BookValue). tries_in v.mines c.args.number) c.self.view_is

pub returns-in-Some : goal.returns-in-Some
returns-in-Some c =
    (λ i. tries_if (c.in-Some.ensures.value i)) ∙ sym (tries_told c.self.inside.commands.mines c.args.number)
    ∙ ap (λ (v : BookValue). tries_in v.mines c.args.number) c.self.view_is
