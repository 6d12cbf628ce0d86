use Rattle.std.specs.Prelude.{◌≡◌, ◌≤◌, drop, length}
use Rattle.initiator_books.specs.Endings.{ends_after_events}
use Rattle.initiator_books.proofs.endings.Endings.see_all.Given as goal

abbrev pub invariant-loop-left : goal.invariant-loop-left
invariant-loop-left l =
    (l.self ≡ ends_after_events l.mines l.initial.self (drop l.left l.shown)) × (l.left ≤ length l.shown)

abbrev pub decreases-loop-left : goal.decreases-loop-left
decreases-loop-left l = l.left
