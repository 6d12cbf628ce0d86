-- The stage of the bus: RST, a connection, a selection or reselection, answered or not, an arbitration, or a free bus
-- (ANSI X3.131-1994, 6.1 and 6.2.2).
use Rattle.std.specs.Prelude.{ℕ, Bool, true, false, List, Option, Some, None}
use Rattle.bus_trace.specs.Trace.{bus, since_line}
use Rattle.bus_trace.specs.declared.Row.{Row}
use Rattle.bus_trace.specs.declared.arbitration.Arbitration.{Arbitration}
use Rattle.bus_trace.specs.declared.selection.Call.{Call}
use Rattle.bus_trace.specs.declared.selection.Calling.{Calling}
use Rattle.bus_trace.specs.declared.connection.Connection.{Connection}
use Rattle.bus_lines.specs.declared.stage.Stage.{Stage}
use Rattle.bus_lines.specs.declared.stage.Stage.TheVariants.{OnFreeBus, InArbitration, InCalling, InAnswer}
use Rattle.bus_lines.specs.declared.stage.Stage.TheVariants.{InConnection, InReset}
use Rattle.bus_trace.specs.Terms.{free_since, arbitration, call, connection}

-- While SEL is true: whether the called device has answered.
abbrev pub answer_stage : Call → Calling → Option ℕ → Stage
answer_stage c k None = InCalling c
answer_stage c k (Some answered) = InAnswer c k answered

abbrev pub call_stage : Call → Option Calling → Stage
call_stage c None = InCalling c
call_stage c (Some k) = answer_stage c k k.answered

abbrev pub stage_by : Bool → ℕ → Option Connection → Option Call → Option Arbitration → ℕ → Stage
stage_by true rst n c a free = InReset rst
stage_by false rst (Some n) c a free = InConnection n
stage_by false rst None (Some c) a free = call_stage c c.calling
stage_by false rst None None (Some a) free = InArbitration a
stage_by false rst None None None free = OnFreeBus free

abbrev pub stage : List Row → Stage
stage rows = stage_by (bus rows).rst (since_line (λ x. x.rst) rows) (connection rows) (call rows) (arbitration rows)
    (free_since rows)
