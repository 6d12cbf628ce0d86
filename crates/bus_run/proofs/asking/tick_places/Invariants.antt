use Rattle.std.proofs.Common.{◌≡◌, ◌+◌}
use Rattle.bus_run.proofs.asking.tick_places.Given as goal

abbrev pub invariant-loop : goal.invariant-loop
invariant-loop g l = l.steps ≡ l.initial.steps + l.counter
