-- From the rise of SEL to its fall: selection and reselection (6.1.2 to 6.1.4).
use Rattle.std.specs.Prelude.{ℕ, ◌+◌, Bool, true, false, not, ◌&&◌, ◌==◌, Option, Some, None, is_some, is_none, nat_lt}
use Rattle.std.specs.Prelude.{if◌then◌else◌}
use Rattle.bus_lines.specs.bus_trace.specs.declared.delays.TheConstants.{QUIET_TIME, TWO_DESKEW, BUS_SETTLE_DELAY}
use Rattle.bus_lines.specs.bus_trace.specs.declared.delays.TheConstants.{SELECTION_TIMEOUT_DELAY, SELECTION_ABORT_TIME}
use Rattle.bus_lines.specs.bus_trace.specs.LineSet.{LineSet, none, ids_set, byte_set}
use Rattle.bus_lines.specs.bus_trace.specs.declared.selection.Call.{Call}
use Rattle.bus_lines.specs.bus_trace.specs.declared.selection.Calling.{Calling}
use Rattle.reaction_model.specs.declared.due.Due.{Due}
use Rattle.reaction_model.specs.declared.due.Myself.{Myself}
use Rattle.reaction_model.specs.declared.due.Want.{Want}
use Rattle.reaction_model.specs.Reactions.{due_at, due_where, fault_or, release_after}

-- ---- the loser

-- A contender that sees SEL releases all its lines (6.1.2).
abbrev pub loser_release : ℕ → Myself → Option Due
loser_release sel me = release_after sel me

-- ---- the caller

-- An initiator calls with ATN, a target with I/O (6.1.3, 6.1.4).
abbrev pub with_calling_mark : Bool → LineSet → LineSet
with_calling_mark reselects lines = if reselects then record lines { io = true } else record lines { atn = true }

-- A bus clear delay and a bus settle delay after its SEL the winner drives both IDs with their parity (6.1.2 to 6.1.4).
abbrev pub calling_start : Bool → Myself → Option ℕ → Option Due
calling_start reselects me None = None
calling_start reselects me (Some other) =
    due_where (nat_lt other 8 && not (other == me.dev)) (due_at (me.since + QUIET_TIME + me.latency)
    (with_calling_mark reselects (record (ids_set me.dev other) { bsy = true; sel = true })))

-- Two deskew delays later it releases BSY (6.1.3, 6.1.4).
abbrev pub calling_bsy_release : Myself → Option Due
calling_bsy_release me = due_at (me.since + TWO_DESKEW + me.latency) (record me.own { bsy = false })

-- Without an answer for a selection time-out delay it releases the IDs; a selection abort time and two deskew delays
-- later all its lines (6.1.3.1).
abbrev pub withdrawal : Myself → ℕ → Option Due
withdrawal me asked = due_at (asked + SELECTION_TIMEOUT_DELAY + me.latency) (record me.own { data_bits = 0 })

abbrev pub calling_abort : Myself → Option Due
calling_abort me = due_at (me.since + (SELECTION_ABORT_TIME + TWO_DESKEW) + me.latency) none

-- Two deskew delays after BSY is true again the initiator releases SEL and the IDs; ATN stays (6.1.3, 6.2.1).
abbrev pub selection_end : Myself → ℕ → Option Due
selection_end me answered = due_at (answered + TWO_DESKEW + me.latency) (record none { atn = true })

-- On the answer the target drives BSY itself. Two deskew delays later it releases SEL; in that row it begins MESSAGE
-- IN with the first byte of IDENTIFY (6.1.4, 6.6.7).
abbrev pub bsy_takeover : Myself → ℕ → Option Due
bsy_takeover me answered = due_at (answered + me.latency) (record me.own { bsy = true })

abbrev pub reselection_end : Myself → ℕ → Option Due
reselection_end me first = due_at (me.since + TWO_DESKEW + me.latency)
    (record (byte_set first) { bsy = true; msg = true; cd = true; io = true })

abbrev pub unanswered_due : Myself → Calling → Option ℕ → Option Due
unanswered_due me c None = calling_bsy_release me
unanswered_due me c (Some asked) = if is_none c.withdrawn then withdrawal me asked else calling_abort me

abbrev pub caller_due : Myself → Want → Option Calling → Option Due
caller_due me w None = calling_start w.reselects me w.callee
caller_due me w (Some c) = unanswered_due me c c.released

abbrev pub answered_due : Myself → Want → Calling → ℕ → Option Due
answered_due me w c answered =
    if not c.reselects then selection_end me answered
    else if is_none c.resumed then bsy_takeover me answered
    else reselection_end me w.first

-- ---- the called device

-- A bus settle delay after BSY became false, SEL and its ID being true, it samples the IDs and drives BSY. Where a
-- fault strikes the sample it does not answer this calling (6.1.3, 6.1.4).
abbrev pub answer_at : ℕ → Option ℕ → Option Due
answer_at time flip = fault_or time flip (due_at time (record none { bsy = true }))

abbrev pub answer : ℕ → Myself → Option ℕ → Option Due
answer bsy me flip = answer_at (bsy + BUS_SETTLE_DELAY + me.latency) flip

abbrev pub is_called : Calling → Bool
is_called c = is_some c.released && is_none c.withdrawn && not c.struck

-- `bsy` and `sel` are since when these lines stand as they do.
abbrev pub called_due : ℕ → ℕ → Myself → Option ℕ → Option Calling → Option Due
called_due bsy sel me flip None = loser_release sel me
called_due bsy sel me flip (Some c) =
    if not (c.called == me.dev) then loser_release sel me
    else if is_called c then answer bsy me flip
    else None

abbrev pub calling_due : ℕ → ℕ → Myself → Want → Option ℕ → Call → Option Due
calling_due bsy sel me w flip c =
    if c.caller == me.dev then caller_due me w c.calling else called_due bsy sel me flip c.calling

-- Once it has answered, the called device waits for the caller.
abbrev pub answer_due : ℕ → Myself → Want → Call → Calling → ℕ → Option Due
answer_due sel me w c calling answered =
    if c.caller == me.dev then answered_due me w calling answered
    else if calling.called == me.dev then None
    else loser_release sel me
