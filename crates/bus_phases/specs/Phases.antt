-- The pulses of REQ and ACK in a phase, and attention (ANSI X3.131-1994, 6.1.5 to 6.1.9).
use Rattle.std.specs.Prelude.{ℕ, ◌+◌, Bool, false, ◌&&◌, ◌||◌, List, [], ◌∷◌, Option, Some, None, nat_le, if◌then◌else◌}
use Rattle.bus_base.specs.Faults.{counted_on}
use Rattle.bus_trace.specs.LineSet.{LineSet}
use Rattle.bus_trace.specs.Trace.{since_line}
use Rattle.bus_trace.specs.declared.Row.{Row}
use Rattle.bus_trace.specs.declared.changes.Change.{Change}
use Rattle.bus_trace.specs.declared.connection.Connection.{Connection}
use Rattle.bus_trace.specs.declared.delays.TheConstants.{TWO_DESKEW}
use Rattle.bus_phases.specs.declared.pulses.Pulses.{Pulses}
use Rattle.bus_phases.specs.declared.attention.Duty.{Duty}
use Rattle.bus_phases.specs.declared.attention.Duty.TheVariants as duties
use Rattle.bus_trace.specs.Changes.{rises, falls, change_of}
use Rattle.bus_trace.specs.Phases.{is_message_in, is_message_out, changes_phase}
use Rattle.bus_trace.specs.Terms.{connection, when}

-- ---- the rises of REQ and ACK in the present phase

abbrev pub no_pulses : Pulses
no_pulses = record { req = 0; ack = 0; last_req = None; last_ack = None }

abbrev pub count_after : Bool → ℕ → ℕ
count_after now count = if now then counted_on count else count

abbrev pub pulses_on : Pulses → Change → ℕ → Pulses
pulses_on p c time = record {
  req = count_after (rises c.before.req c.after.req) p.req;
  ack = count_after (rises c.before.ack c.after.ack) p.ack;
  last_req = when (rises c.before.req c.after.req) time p.last_req;
  last_ack = when (rises c.before.ack c.after.ack) time p.last_ack;
}

-- They are counted anew where the phase lines change, and with each connection. Here the connection is that
-- after the row.
abbrev pub pulses_after : Pulses → Option Connection → Change → ℕ → Pulses
pulses_after p None c time = no_pulses
pulses_after p (Some n) c time = if changes_phase c then no_pulses else pulses_on p c time

abbrev pub pulses : List Row → Pulses
pulses [] = no_pulses
pulses (row ∷ rows) = pulses_after (pulses rows) (connection (row ∷ rows)) (change_of rows row) row.time

-- ---- whether I/O became true in the connection

abbrev pub turned_after : Bool → Option Connection → Change → Bool
turned_after turned None c = false
turned_after turned (Some n) c = turned || rises c.before.io c.after.io

-- The connection is that before the row.
abbrev pub turned : List Row → Bool
turned [] = false
turned (row ∷ rows) = turned_after (turned rows) (connection rows) (change_of rows row)

-- ---- attention (6.1.6 to 6.1.9, 6.2.1)

-- What ATN asks of the target: nothing; a MESSAGE OUT phase once the present phase is left; or that the next
-- REQ is in MESSAGE OUT.
abbrev pub duty_if_held : Duty → LineSet → Duty
duty_if_held duty s = if is_message_in s then duties.Owed else if is_message_out s then duty else duties.Asked

abbrev pub duty_left : Duty → Duty
duty_left duties.Asked = duties.Owed
duty_left duties.Nothing = duties.Nothing
duty_left duties.Owed = duties.Owed

-- ATN is true before and after the row, and has been so for two deskew delays.
abbrev pub is_attention_held : Change → ℕ → ℕ → Bool
is_attention_held c since time = c.before.atn && c.after.atn && nat_le (since + TWO_DESKEW) time

-- It begins as ACK falls after a byte while ATN is so held. It ends as ATN falls, with the next REQ, and with
-- the connection, which here is that after the row.
abbrev pub duty_after : Duty → Option Connection → Change → Bool → Duty
duty_after duty None c held = duties.Nothing
duty_after duty (Some n) c held =
    if falls c.before.atn c.after.atn || rises c.before.req c.after.req then duties.Nothing
    else if falls c.before.ack c.after.ack && held then duty_if_held duty c.before
    else if changes_phase c then duty_left duty
    else duty

abbrev pub duty : List Row → Duty
duty [] = duties.Nothing
duty (row ∷ rows) = duty_after (duty rows) (connection (row ∷ rows)) (change_of rows row)
    (is_attention_held (change_of rows row) (since_line (λ s. s.atn) rows) row.time)
