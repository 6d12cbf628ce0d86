use Rattle.std.specs.Prelude.{◌≡◌, ◌+◌, ◌-◌, ◌++◌, ◌%◌}
use Rattle.due_model.specs.array_model.specs.Processes.{bytes_from}
use Rattle.initiator.proofs.own_bytes.counted_bytes.Given as goal

abbrev pub invariant-loop : goal.invariant-loop
invariant-loop l =
    (l.bytes.items ++ bytes_from (l.first + l.counter) (l.count - l.counter) ≡ bytes_from l.first l.count)
    × (l.byte ≡ (l.first + l.counter) % 256)
