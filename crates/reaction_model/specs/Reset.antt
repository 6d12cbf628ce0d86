-- RST, before everything else (6.2.2).
use Rattle.std.specs.Prelude.{ℕ, ◌+◌, true, Option, Some, None, if◌then◌else◌}
use Rattle.bus_lines.specs.bus_trace.specs.declared.delays.TheConstants.{RESET_HOLD_TIME}
use Rattle.bus_lines.specs.bus_trace.specs.LineSet.{none}
use Rattle.reaction_model.specs.declared.due.Due.{Due}
use Rattle.reaction_model.specs.declared.due.Myself.{Myself}
use Rattle.reaction_model.specs.Reactions.{due_at, earlier_due}

-- A device drives RST at the time of its next reset, with no latency (6.2.2).
abbrev pub rst_assertion : Option ℕ → Option Due
rst_assertion None = None
rst_assertion (Some time) = due_at time (record none { rst = true })

-- It releases RST a reset hold time after it raised it (6.2.2).
abbrev pub rst_release : Myself → ℕ → Option Due
rst_release me raised = due_at (raised + RESET_HOLD_TIME + me.latency) none

-- While it drives RST it waits for the end of that; else a reset of its own goes before what is due without it.
abbrev pub with_reset : Myself → ℕ → Option ℕ → Option Due → Option Due
with_reset me raised reset calm = if me.own.rst then rst_release me raised else earlier_due (rst_assertion reset) calm
