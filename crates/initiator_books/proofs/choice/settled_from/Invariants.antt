use Rattle.std.specs.Prelude.{◌≡◌, ◌-◌, ◌≤◌, length, take, true}
use Rattle.initiator_books.specs.Checks.{none_due}
use Rattle.initiator_books.proofs.choice.settled_from.Given as goal

abbrev pub invariant-loop-count : goal.invariant-loop-count
invariant-loop-count l = (none_due l.commands.mines (take l.count l.numbers) ≡ true) × (l.count ≤ length l.numbers)

abbrev pub decreases-loop-count : goal.decreases-loop-count
decreases-loop-count l = length l.numbers - l.count
