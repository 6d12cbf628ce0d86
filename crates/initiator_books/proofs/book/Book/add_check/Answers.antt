use Rattle.std.proofs.Common.{◌∙◌, sym, ap}
use Rattle.initiator_books.specs.Books.{BookValue, queue_with}
use Rattle.initiator_books.proofs.CheckQueues.{check_put, no_check_put, room_with}
use Rattle.initiator_books.proofs.OwnCommands.{number_told, is_there}
use Rattle.initiator_books.proofs.book.Book.add_check.Goals as goal

pub returns-in-None : goal.returns-in-None
returns-in-None c = sym c.self.view_is ∙ no_check_put _ c.args.number
    (number_told c.self.inside.commands.mines c.args.number ∙ (λ i. is_there (sym c.in-None.ensures.value i)))
    ∙ ap (λ (v : BookValue). record v { queue = queue_with v.mines v.room v.queue c.args.number }) c.self.view_is

pub returns-in-Some : goal.returns-in-Some
returns-in-Some c =
    let v : BookValue = record {
      mines = c.self.inside.commands.mines;
      aborts = c.self.inside.aborts.items;
      queue = c.self.inside.checks.queue;
      room = c.self.inside.checks.room;
      most = c.self.inside.most;
    } in
    (λ i. record v { queue = (c.add.ensures i).queue; room = (c.add.ensures i).room })
    ∙ (λ i. record v {
      queue = check_put v.mines c.self.inside.checks c.args.number
          (number_told v.mines c.args.number ∙ (λ j. is_there (sym c.in-Some.ensures.value j))) i;
      room = room_with c.self.inside.checks c.args.number i;
    })
    ∙ ap (λ (z : BookValue). record z { queue = queue_with z.mines z.room z.queue c.args.number }) c.self.view_is
