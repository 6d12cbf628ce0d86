-- The free bus and arbitration (6.1.1, 6.1.2).
use Rattle.std.specs.Prelude.{ℕ, ◌+◌, max, true, not, Option, Some, None, nat_le, if◌then◌else◌}
use Rattle.bus_lines.specs.bus_trace.specs.declared.delays.TheConstants.{ENTRY_DELAY, BUS_SET_DELAY, ARBITRATION_DELAY}
use Rattle.bus_lines.specs.bus_trace.specs.LineSet.{LineSet, id_set, has_id_above}
use Rattle.bus_lines.specs.bus_trace.specs.declared.arbitration.Arbitration.{Arbitration}
use Rattle.reaction_model.specs.declared.due.Due.{Due}
use Rattle.reaction_model.specs.declared.due.Myself.{Myself}
use Rattle.reaction_model.specs.Reactions.{due_at, due_where}

abbrev pub contender_lines : ℕ → LineSet
contender_lines dev = record (id_set dev) { bsy = true }

-- A device that wants the bus since w drives BSY and its ID a bus settle delay and a bus free delay after the bus
-- became free, and not before w (6.1.2).
abbrev pub entry : Myself → ℕ → ℕ → Option Due
entry me free w = due_at (max (free + ENTRY_DELAY) w + me.latency) (contender_lines me.dev)

-- It does so on the free bus, or at most a bus set delay after the first entry (6.1.2).
abbrev pub later_entry : Myself → Arbitration → ℕ → Option Due
later_entry me a w =
    due_where (nat_le (max (a.free + ENTRY_DELAY) w + me.latency) (a.first + BUS_SET_DELAY)) (entry me a.free w)

abbrev pub free_due : Myself → ℕ → Option ℕ → Option Due
free_due me free None = None
free_due me free (Some w) = entry me free w

abbrev pub later_entry_if : Myself → Arbitration → Option ℕ → Option Due
later_entry_if me a None = None
later_entry_if me a (Some w) = later_entry me a w

-- An arbitration delay after its entry a contender looks for a higher ID, and adds SEL where none is true. One that
-- has lost waits for SEL (6.1.2).
abbrev pub win : LineSet → Myself → Option Due
win bus me = due_where (not (has_id_above bus me.dev))
    (due_at (me.since + ARBITRATION_DELAY + me.latency) (record me.own { sel = true }))

abbrev pub arbitration_due : LineSet → Myself → Arbitration → Option ℕ → Option Due
arbitration_due bus me a w = if me.own.bsy then win bus me else later_entry_if me a w
