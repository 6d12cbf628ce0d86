-- The rows of the piece so far have been read and kept.
use Rattle.std.proofs.Common.{ℕ, List, ◌+◌, ◌-◌, ◌≤◌, ◌++◌, length, reverse, take}
use Rattle.trace_text.specs.declared.limit.TheConstants.{LIMIT as TRACE_LIMIT}
use Rattle.trace_text.specs.Bytes.{reader_of}
use Rattle.trace_text.specs.Whole.{IsKeptOf}
use Rattle.trace_text.proofs.KeptRows.{kept}
use Rattle.trace_text.proofs.kept_trace.KeptTrace.take_rows.Given as goal

abbrev pub invariant-loop-row : goal.invariant-loop-row
invariant-loop-row l = record {
  within : l.at ≤ length l.piece;
  kept : (bytes : List ℕ) → IsKeptOf bytes l.initial.self → length bytes + length l.piece ≤ TRACE_LIMIT
      → IsKeptOf (reverse (take l.at l.piece) ++ bytes) (kept (reader_of l.rows) l.self.rows);
}

abbrev pub decreases-loop-row : goal.decreases-loop-row
decreases-loop-row l = length l.piece - l.at
