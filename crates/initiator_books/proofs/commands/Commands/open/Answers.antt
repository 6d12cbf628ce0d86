use Rattle.std.proofs.Common.{◌∙◌, ap}
use Rattle.std.specs.Prelude.{◌-◌, take, drop}
use Rattle.initiator_books.specs.Commands.{CommandsValue}
use Rattle.initiator_books.specs.Mines.{open_mines}
use Rattle.initiator_books.specs.OwnLinks.{named_in}
use Rattle.initiator_books.proofs.KeptCommands.{open_window, named_window}
use Rattle.initiator_books.proofs.commands.Commands.open.Goals as goal

pub returns-clause-open : goal.returns-clause-open
returns-clause-open c = (λ i. open_mines
    (take (c.self.inside.reached - c.self.inside.past) (drop c.self.inside.past (c.deref.ensures.value i))))
    ∙ open_window _ _ _ _ c.self.invariant ∙ ap (λ (v : CommandsValue). open_mines v.mines) c.self.view_is

pub returns-clause-named : goal.returns-clause-named
returns-clause-named c = λ target unit tag. (λ i. named_in
    (take (c.self.inside.reached - c.self.inside.past) (drop c.self.inside.past (c.deref.ensures.value i)))
    target unit tag) ∙ named_window _ _ _ _ target unit tag c.self.invariant
    ∙ ap (λ (v : CommandsValue). named_in v.mines target unit tag) c.self.view_is
