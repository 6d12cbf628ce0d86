use Rattle.std.proofs.Common.{◌∙◌, sym}
use Rattle.initiator_books.proofs.OwnCommands.{due_if, due_told}
use Rattle.initiator_books.proofs.commands.Commands.is_sense_due.Goals as goal

pub returns-in-None : goal.returns-in-None
returns-in-None c = (λ i. due_if (c.in-None.ensures.value i)) ∙ sym (due_told c.args.self.now.mines c.args.number)

pub returns-in-Some : goal.returns-in-Some
returns-in-Some c = c.needs_sense.ensures ∙ (λ i. due_if (c.in-Some.ensures.value i))
    ∙ sym (due_told c.args.self.now.mines c.args.number)
