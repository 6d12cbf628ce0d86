-- At most the limit has been read so far, and what that left of the source.
use Rattle.std.proofs.Common.{ℕ, ◌≡◌, ◌-◌, ◌≤◌, List, length, reverse}
use Rattle.trace_text.specs.declared.limit.TheConstants.{LIMIT as TRACE_LIMIT}
use Rattle.trace_text.specs.Whole.{IsKeptOf}
use Rattle.bus_base.proofs.ReadSoFar.{HasRead}
use Rattle.bus_cli.proofs.kept.read_kept.Given as goal

abbrev pub invariant-loop-kept : goal.invariant-loop-kept
invariant-loop-kept g l = record {
  within : l.count ≤ TRACE_LIMIT;
  never_falls : g.S.Source.faults l.initial.input ≤ g.S.Source.faults l.input;
  read : (bytes : List ℕ) × HasRead (g.S.Source.left l.initial.input) (g.S.Source.left l.input) bytes
      × (length bytes ≡ l.count) × IsKeptOf (reverse bytes) l.kept;
}

abbrev pub decreases-loop-kept : goal.decreases-loop-kept
decreases-loop-kept g l = TRACE_LIMIT - l.count
