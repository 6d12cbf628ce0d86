-- The loop of `read_all`: at most `limit` bytes so far, and what that left of the source.
use Rattle.std.proofs.Common.{◌-◌, ◌≤◌, vec_len}
use Rattle.bus_base.proofs.ReadSoFar.{HasRead}
use Rattle.bus_base.proofs.reading.read_all.Given as goal

abbrev pub invariant-loop-bytes : goal.invariant-loop-bytes
invariant-loop-bytes g l = record {
  within : vec_len l.bytes ≤ l.limit;
  never_falls : g.S.Source.faults l.initial.src ≤ g.S.Source.faults l.src;
  read : HasRead (g.S.Source.left l.initial.src) (g.S.Source.left l.src) l.bytes.items;
}

abbrev pub decreases-loop-bytes : goal.decreases-loop-bytes
decreases-loop-bytes g l = l.limit - vec_len l.bytes
