-- What is left of the way to a connection, in rows: of an arbitration, of a selection or reselection, and under RST. A
-- free bus, and a connection, have an arbitration set aside: who ends one has paid for the next.
use Rattle.std.specs.Prelude.{ℕ, ◌+◌, Bool, true, false, Option, Some, None, if◌then◌else◌}
use Rattle.due_model.specs.bus_trace.specs.LineSet.{none, same_set}
use Rattle.due_model.specs.bus_trace.specs.declared.selection.Calling.{Calling}
use Rattle.due_model.specs.bus_lines.specs.declared.stage.Stage.{Stage}
use Rattle.due_model.specs.bus_lines.specs.declared.stage.Stage.TheVariants.{OnFreeBus, InArbitration, InCalling}
use Rattle.due_model.specs.bus_lines.specs.declared.stage.Stage.TheVariants.{InAnswer, InConnection, InReset}
use Rattle.due_model.specs.RunState.{RunState, drives_of}
use Rattle.due_model.specs.Sights.{stage_of}
use Rattle.measure_laws.specs.Weights.{for_calling, for_free_bus}

-- How many devices drive lines.
abbrev pub drives_one : RunState → ℕ → ℕ
drives_one k dev = if same_set (drives_of k dev) none then 0 else 1

abbrev pub drivers : RunState → ℕ
drivers k =
    drives_one k 0
    + drives_one k 1
    + drives_one k 2
    + drives_one k 3
    + drives_one k 4
    + drives_one k 5
    + drives_one k 6
    + drives_one k 7

-- And how many do not.
abbrev pub idles_one : RunState → ℕ → ℕ
idles_one k dev = if same_set (drives_of k dev) none then 1 else 0

abbrev pub idle : RunState → ℕ
idle k =
    idles_one k 0
    + idles_one k 1
    + idles_one k 2
    + idles_one k 3
    + idles_one k 4
    + idles_one k 5
    + idles_one k 6
    + idles_one k 7

-- A calling that a fault has struck is made again.
abbrev pub again_if : Bool → ℕ
again_if true = for_calling
again_if false = 0

-- Of a calling 7 are left once SEL is true, 6 with both IDs, 5 once BSY was let go, 4 once the IDs were withdrawn; and
-- a row of each device that drives lines.
abbrev pub withdrawal_left : Option ℕ → ℕ
withdrawal_left None = 5
withdrawal_left (Some time) = 4

abbrev pub released_left : Calling → Option ℕ → ℕ
released_left c None = 6
released_left c (Some time) = withdrawal_left c.withdrawn + again_if c.struck

abbrev pub calling_left : Option Calling → ℕ
calling_left None = 7
calling_left (Some c) = released_left c c.released

-- Once it is answered 3 are left, and 2 once its caller drives BSY again, as a target does.
abbrev pub answer_left : Option ℕ → ℕ
answer_left None = 3
answer_left (Some time) = 2

-- In an arbitration each idle device may still enter.
abbrev pub stage_left : RunState → Stage → ℕ
stage_left k (OnFreeBus free) = for_free_bus
stage_left k (InArbitration a) = 16 + idle k
stage_left k (InCalling c) = drivers k + calling_left c.calling
stage_left k (InAnswer c calling answered) = drivers k + answer_left calling.resumed
stage_left k (InConnection n) = for_free_bus
stage_left k (InReset since) = for_free_bus + drivers k

abbrev pub way_left : RunState → ℕ
way_left k = stage_left k (stage_of k)
