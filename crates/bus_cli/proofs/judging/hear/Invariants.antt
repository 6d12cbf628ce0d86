-- At most the limit has been heard so far, and what that left of the source.
use Rattle.std.proofs.Common.{ℕ, ◌≡◌, ◌-◌, ◌≤◌, List, length, reverse}
use Rattle.trace_text.specs.declared.limit.TheConstants.{LIMIT as TRACE_LIMIT}
use Rattle.bus_base.proofs.ReadSoFar.{HasRead}
use Rattle.bus_cli.specs.Hearing.{IsHearingOf}
use Rattle.bus_cli.proofs.judging.hear.Given as goal

abbrev pub invariant-loop-count : goal.invariant-loop-count
invariant-loop-count g l = record {
  within : l.heard ≤ TRACE_LIMIT;
  never_falls : g.S.Source.faults l.initial.input ≤ g.S.Source.faults l.input;
  heard : (bytes : List ℕ) × HasRead (g.S.Source.left l.initial.input) (g.S.Source.left l.input) bytes
      × (length bytes ≡ l.heard) × IsHearingOf (reverse bytes) l.hearing;
}

abbrev pub decreases-loop-count : goal.decreases-loop-count
decreases-loop-count g l = TRACE_LIMIT - l.heard
