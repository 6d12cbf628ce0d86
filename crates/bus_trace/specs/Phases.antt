-- The information transfer phases, by the lines MSG, C/D and I/O (ANSI X3.131-1994, 6.1.5).
use Rattle.std.specs.Prelude.{ℕ, Bool, not, max, ◌&&◌, List}
use Rattle.bus_trace.specs.LineSet.{LineSet}
use Rattle.bus_trace.specs.Trace.{since_line}
use Rattle.bus_trace.specs.declared.rows.Row.{Row}
use Rattle.bus_trace.specs.declared.changes.Change.{Change}
use Rattle.bus_trace.specs.Changes.{same_phase}

abbrev pub is_data : LineSet → Bool
is_data s = not s.msg && not s.cd

abbrev pub is_reserved : LineSet → Bool
is_reserved s = s.msg && not s.cd

abbrev pub is_command : LineSet → Bool
is_command s = not s.msg && s.cd && not s.io

abbrev pub is_message_out : LineSet → Bool
is_message_out s = s.msg && s.cd && not s.io

abbrev pub is_message_in : LineSet → Bool
is_message_in s = s.msg && s.cd && s.io

-- The phase lines change in this row.
abbrev pub changes_phase : Change → Bool
changes_phase c = not (same_phase c.before c.after)

-- When the phase lines last changed, or 0.
abbrev pub phase_since : List Row → ℕ
phase_since rows = max (max (since_line (λ s. s.msg) rows) (since_line (λ s. s.cd) rows)) (since_line (λ s. s.io) rows)
