use Rattle.std.proofs.Common.{◌≡◌, Bool, true, false, sym, Some, None}
use Rattle.std.specs.Prelude.{if◌then◌else◌}
use Rattle.array_model.specs.Order.{chosen_place}
use Rattle.tag_queue.specs.Queue.{has_key, is_held, key_at_if, waiting_of, entries_in}
use Rattle.disk_unit.proofs.BookLists.{chosen_live}
use Rattle.disk_unit.proofs.books.Books.choose.Goals as goal

pub start-requires-clause-live : goal.start-requires-clause-live
start-requires-clause-live c = go (is_held c.self.inside.queue.hold) (sym c.in_ok-key.ensures.exact)
  where
    go : (x : Bool) → (if x then None else key_at_if (waiting_of c.self.inside.queue)
        (chosen_place c.args.pick (entries_in (waiting_of c.self.inside.queue)))) ≡ Some c.in_ok-key.key
        → has_key c.self.inside.queue.arrived c.in_ok-key.key ≡ true
    go true k = cc
    go false k = chosen_live c.self.inside.queue.current c.self.inside.queue.arrived
        (chosen_place c.args.pick (entries_in (waiting_of c.self.inside.queue))) c.in_ok-key.key k
