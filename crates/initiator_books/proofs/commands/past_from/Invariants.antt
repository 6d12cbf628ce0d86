use Rattle.std.specs.Prelude.{◌≡◌, ◌-◌, ◌≤◌, take, true}
use Rattle.initiator_books.specs.Commands.{all_past}
use Rattle.initiator_books.proofs.commands.past_from.Given as goal

abbrev pub invariant-loop-place : goal.invariant-loop-place
invariant-loop-place l = (all_past (take l.place l.mines) ≡ true) × (l.place ≤ l.end)

abbrev pub decreases-loop-place : goal.decreases-loop-place
decreases-loop-place l = l.end - l.place
