use Rattle.std.proofs.Common.{◌∙◌, ap}
use Rattle.initiator_books.specs.Commands.{CommandsValue}
use Rattle.initiator_books.specs.declared.mine.Mine.{Mine}
use Rattle.initiator_books.specs.Mines.{tried_at}
use Rattle.initiator_books.proofs.OwnCommands.{written, unwritten, tried_alone}
use Rattle.initiator_books.proofs.commands.Commands.try_again.Goals as goal

pub returns-in-Some : goal.returns-in-Some
returns-in-Some c = c.put.ensures
    ∙ written (λ (m : Mine). tried_at c.args.number m) c.args.number (λ m e. tried_alone c.args.number m e)
    c.args.self.now c.self.inside.mines.items c.as_slice.result.now c.self.inside.places.items c.self.inside.past
    c.self.inside.reached c.in-Some.place c.index.result.now _ (ap (λ (v : CommandsValue). v.mines) c.self.view_is)
    c.as_slice.ensures.value c.self.invariant c.in-Some.ensures.found c.index.ensures c.tried_at-mine.ensures

pub returns-in_default : goal.returns-in_default
returns-in_default c = unwritten (λ (m : Mine). tried_at c.args.number m) c.args.number
    (λ m e. tried_alone c.args.number m e) c.args.self.now c.as_slice.result.now
    (c.as_slice.ensures.value ∙ ap (λ (v : CommandsValue). v.mines) c.self.view_is) c.in_default.ensures.none
