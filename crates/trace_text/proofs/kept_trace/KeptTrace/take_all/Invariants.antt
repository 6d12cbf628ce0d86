-- The bytes of the piece so far have been taken.
use Rattle.std.proofs.Common.{ℕ, List, ◌+◌, ◌-◌, ◌≤◌, ◌++◌, length, reverse, take}
use Rattle.trace_text.specs.declared.limit.TheConstants.{LIMIT as TRACE_LIMIT}
use Rattle.trace_text.specs.Whole.{IsKeptOf}
use Rattle.trace_text.proofs.kept_trace.KeptTrace.take_all.Given as goal

abbrev pub invariant-loop-at : goal.invariant-loop-at
invariant-loop-at l = record {
  within : l.at ≤ length l.piece;
  kept : (bytes : List ℕ) → IsKeptOf bytes l.initial.self → length bytes + length l.piece ≤ TRACE_LIMIT
      → IsKeptOf (reverse (take l.at l.piece) ++ bytes) l.self;
}

abbrev pub decreases-loop-at : goal.decreases-loop-at
decreases-loop-at l = length l.piece - l.at
