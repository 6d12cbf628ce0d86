use Rattle.std.proofs.Common.{◌≡◌, ℕ, Option, None, Some, true, sym, ◌∙◌}
use Rattle.std.specs.Prelude.{IfSome}
use Rattle.tag_queue.specs.Queue.{has_key, key_of_process}
use Rattle.target_units.proofs.LiveQueue.{found_live}
use Rattle.target_units.proofs.seated.SeatedUnit.find.Goals as goal

pub returns-clause-live : goal.returns-clause-live
returns-clause-live c =
    go c.find.result (c.find.ensures ∙ (λ i. key_of_process (c.self.view_is i).books.queue.arrived c.args.id))
  where
    go : (r : Option ℕ) → r ≡ key_of_process c.args.self.now.books.queue.arrived c.args.id
        → IfSome r (λ key. has_key c.args.self.now.books.queue.arrived key ≡ true)
    go None e = tt
    go (Some key) e = found_live c.args.self.now.books.queue.arrived c.args.id key (sym e)
