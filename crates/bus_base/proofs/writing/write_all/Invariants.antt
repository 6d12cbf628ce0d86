-- The loop of `write_all`: how many bytes are done, and what that made of the sink.
use Rattle.std.proofs.Common.{length, ◌-◌, ◌≤◌}
use Rattle.bus_base.proofs.WrittenSoFar.{HasWritten}
use Rattle.bus_base.proofs.writing.write_all.Given as goal

abbrev pub invariant-loop-done : goal.invariant-loop-done
invariant-loop-done g l = record {
  within : l.done ≤ length l.piece;
  never_falls : g.K.Sink.faults l.initial.sink ≤ g.K.Sink.faults l.sink;
  written : HasWritten (g.K.Sink.written l.initial.sink) (g.K.Sink.written l.sink) l.piece l.done;
}

abbrev pub decreases-loop-done : goal.decreases-loop-done
decreases-loop-done g l = length l.piece - l.done
