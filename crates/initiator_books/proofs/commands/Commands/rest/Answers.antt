use Rattle.std.proofs.Common.{◌∙◌, ap, drop}
use Rattle.std.proofs.lemmas.List.{take_rest}
use Rattle.initiator_books.specs.Commands.{CommandsValue}
use Rattle.initiator_books.specs.Mines.{mines_since, mine_by}
use Rattle.initiator_books.proofs.KeptCommands.{since_rest, first_rest}
use Rattle.initiator_books.proofs.commands.Commands.rest.Goals as goal

pub returns-clause-since : goal.returns-clause-since
returns-clause-since c = λ most now.
    (λ i. mines_since most now (take_rest c.deref.result.now c.self.inside.past i))
    ∙ (λ i. mines_since most now (drop c.self.inside.past (c.deref.ensures.value i)))
    ∙ since_rest c.self.inside.mines.items c.self.inside.past most now c.self.invariant.past_before
    ∙ ap (λ (v : CommandsValue). mines_since most now v.mines) c.self.view_is

pub returns-clause-first : goal.returns-clause-first
returns-clause-first c = λ most time now.
    (λ i. mine_by most time now (take_rest c.deref.result.now c.self.inside.past i))
    ∙ (λ i. mine_by most time now (drop c.self.inside.past (c.deref.ensures.value i)))
    ∙ first_rest c.self.inside.mines.items c.self.inside.past most time now c.self.invariant.past_before
    ∙ ap (λ (v : CommandsValue). mine_by most time now v.mines) c.self.view_is
