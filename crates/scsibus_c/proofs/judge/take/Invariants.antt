-- The judge has seen the rows so far.
use Rattle.std.proofs.Common.{◌<◌, ◌+◌, ◌^◌, List, length, take}
use Rattle.bus_trace.specs.declared.Row.{Row}
use Rattle.trace_checker.specs.Judging.{IsJudgeOf}
use Rattle.scsibus_c.specs.Rows.{rows_after}
use Rattle.scsibus_c.proofs.judge.take.Given as goal

abbrev pub invariant-loop-row : goal.invariant-loop-row
invariant-loop-row l = (past : List Row) → IsJudgeOf past l.fn.judge → length past + length l.rows < 2 ^ 63
    → IsJudgeOf (rows_after past (take l.row-index l.rows)) l.judge
