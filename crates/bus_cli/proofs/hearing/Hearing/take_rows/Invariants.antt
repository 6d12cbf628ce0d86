-- The rows of the piece so far have been read and judged.
use Rattle.std.proofs.Common.{ℕ, List, ◌+◌, ◌-◌, ◌≤◌, ◌++◌, length, reverse, take}
use Rattle.trace_text.specs.declared.limit.TheConstants.{LIMIT as TRACE_LIMIT}
use Rattle.trace_text.specs.Bytes.{reader_of}
use Rattle.bus_cli.specs.Hearing.{IsHearingOf}
use Rattle.bus_cli.proofs.Heard.{hearing}
use Rattle.bus_cli.proofs.hearing.Hearing.take_rows.Given as goal

abbrev pub invariant-loop-row : goal.invariant-loop-row
invariant-loop-row l = record {
  within : l.at ≤ length l.piece;
  heard : (bytes : List ℕ) → IsHearingOf bytes l.initial.self → length bytes + length l.piece ≤ TRACE_LIMIT
      → IsHearingOf (reverse (take l.at l.piece) ++ bytes) (hearing (reader_of l.rows) l.self.judge);
}

abbrev pub decreases-loop-row : goal.decreases-loop-row
decreases-loop-row l = length l.piece - l.at
