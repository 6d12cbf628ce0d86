use Rattle.std.proofs.Common.{◌≡◌, ℕ, Option, None, Some, true, [], inr, sym, ◌⊎◌}
use Rattle.std.specs.Prelude.{IfNone}
use Rattle.array_model.specs.Order.{chosen_place}
use Rattle.tag_queue.specs.Queue.{is_held, waiting_of, entries_in, key_at_if}
use Rattle.tag_queue.proofs.Chosen.{chosen_none}
use Rattle.tag_queue.proofs.queue.Queue.choose.Goals as goal

pub returns-clause-none : goal.returns-clause-none
returns-clause-none c = go c.waiting_choice.result c.waiting_choice.ensures
  where
    go : (r : Option ℕ) → r
        ≡ key_at_if (waiting_of c.args.self.now) (chosen_place c.args.pick (entries_in (waiting_of c.args.self.now)))
        → IfNone r ((is_held c.args.self.now.hold ≡ true) ⊎ (waiting_of c.args.self.now ≡ []))
    go (Some key) e = tt
    go None e = inr (chosen_none c.args.pick (waiting_of c.args.self.now) (sym e))
