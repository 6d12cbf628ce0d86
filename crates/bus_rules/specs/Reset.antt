-- Rule 28: the reset condition (6.2.2).
use Rattle.std.specs.Prelude.{ℕ, ◌+◌, Bool, true, ◌&&◌, ◌||◌, nat_le}
use Rattle.bus_trace.specs.declared.delays.TheConstants.{BUS_CLEAR_DELAY, RESET_HOLD_TIME}
use Rattle.bus_trace.specs.LineSet.{LineSet, none}
use Rattle.bus_trace.specs.declared.Row.{Row}
use Rattle.bus_rules.specs.declared.seen.Seen.{Seen}
use Rattle.bus_trace.specs.Changes.{rises, falls, implies, is_within, raises_only}

-- RST is true, or rises in this row.
abbrev pub is_reset : Seen → Bool
is_reset s = s.change.before.rst || s.change.after.rst

abbrev pub only_rst : LineSet
only_rst = record none { rst = true }

-- A row that raises RST raises no other line, nor does a row while RST is true.
abbrev pub raises_rst_alone : Seen → Bool
raises_rst_alone s =
    implies (s.change.before.rst || rises s.change.own.rst s.change.next.rst) (raises_only only_rst s.change)

-- Before a row later than a bus clear delay after RST rose no line but RST is true.
abbrev pub is_quiet_in_reset : Seen → ℕ → Bool
is_quiet_in_reset s time =
    implies s.change.before.rst (nat_le time (s.times.rst + BUS_CLEAR_DELAY) || is_within s.change.before only_rst)

-- A device releases RST at least a reset hold time after it raised it.
abbrev pub holds_reset : Seen → Row → Bool
holds_reset s row =
    implies (falls s.change.own.rst s.change.next.rst) (nat_le (s.rst_raised + RESET_HOLD_TIME) row.time)

-- Rule 28. All of these.
abbrev pub keeps_reset : Seen → Row → Bool
keeps_reset s row = raises_rst_alone s && is_quiet_in_reset s row.time && holds_reset s row
