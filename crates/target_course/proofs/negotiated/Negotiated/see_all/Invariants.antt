use Rattle.std.specs.Prelude.{◌≡◌, ◌≤◌, drop, length}
use Rattle.target_course.specs.Negotiated.{met_after_events}
use Rattle.target_course.proofs.negotiated.Negotiated.see_all.Given as goal

abbrev pub invariant-loop-left : goal.invariant-loop-left
invariant-loop-left l = (l.self ≡ met_after_events l.initial.self (drop l.left l.shown)) × (l.left ≤ length l.shown)

abbrev pub decreases-loop-left : goal.decreases-loop-left
decreases-loop-left l = l.left
