-- Rules 3 to 6: the free bus and arbitration (6.1.1, 6.1.2).
use Rattle.std.specs.Prelude.{ℕ, ◌+◌, Bool, true, not, max, ◌&&◌, ◌||◌, Option, Some, None, nat_le, is_none, is_some}
use Rattle.bus_trace.specs.Trace.{free_time}
use Rattle.bus_trace.specs.declared.delays.TheConstants.{ENTRY_DELAY, QUIET_TIME, BUS_SET_DELAY, ARBITRATION_DELAY}
use Rattle.bus_trace.specs.LineSet.{none, same_set, id_set, has_id_above}
use Rattle.bus_trace.specs.declared.Row.{Row}
use Rattle.bus_trace.specs.declared.arbitration.Arbitration.{Arbitration}
use Rattle.bus_rules.specs.declared.seen.Seen.{Seen}
use Rattle.bus_trace.specs.Changes.{rises, implies, is_within, raises_none, adds}

-- An entry: the device raises BSY while SEL is false and no connection stands.
abbrev pub is_entry : Seen → Bool
is_entry s = rises s.change.own.bsy s.change.next.bsy && not s.change.before.sel && is_none s.connection

-- A contender: a device that entered in the arbitration that stands and has not released BSY since. The
-- bus was free before, so it is one that drives BSY.
abbrev pub is_contender : Seen → Bool
is_contender s = is_some s.arbitration && s.change.own.bsy

abbrev pub is_idle : Seen → Bool
is_idle s = not s.change.before.bsy && not s.change.before.sel

-- Rule 3. While BSY and SEL are false a row only lowers lines or is an entry. Before a row later than a bus
-- clear delay and a bus settle delay after both became false no line but RST is true (6.1.1).
abbrev pub keeps_off : Seen → Bool
keeps_off s = implies (is_idle s) (raises_none s.change || is_entry s)

abbrev pub is_cleared : Seen → ℕ → Bool
is_cleared s time = implies (is_idle s)
    (nat_le time (max s.times.bsy s.times.sel + QUIET_TIME) || is_within s.change.before (record none { rst = true }))

abbrev pub keeps_free_bus : Seen → Row → Bool
keeps_free_bus s row = keeps_off s && is_cleared s row.time

-- Since when the bus was free before the arbitration, or is free.
abbrev pub free_before : ℕ → Option Arbitration → ℕ
free_before free None = free
free_before free (Some a) = a.free

-- At most a bus set delay after the first entry of this arbitration.
abbrev pub is_soon : Option Arbitration → ℕ → Bool
is_soon None time = true
is_soon (Some a) time = nat_le time (a.first + BUS_SET_DELAY)

-- Rule 4. A device that enters drove nothing, drives exactly BSY and its ID, and comes at least a bus settle
-- delay and a bus free delay after the bus became free, and at most a bus set delay after the first entry.
-- Otherwise a contender only releases all its lines or raises SEL (6.1.2).
abbrev pub enters_well : Seen → Row → Bool
enters_well s row = same_set s.change.own none && same_set s.change.next (record (id_set row.dev) { bsy = true })
    && nat_le (free_before (free_time s.times) s.arbitration + ENTRY_DELAY) row.time && is_soon s.arbitration row.time

abbrev pub contends_well : Seen → Bool
contends_well s = same_set s.change.next none || rises s.change.own.sel s.change.next.sel

abbrev pub keeps_arbitration : Seen → Row → Bool
keeps_arbitration s row =
    implies (is_entry s) (enters_well s row) && implies (is_contender s && not (is_entry s)) (contends_well s)

-- The row raises SEL.
abbrev pub raises_sel : Seen → Bool
raises_sel s = rises s.change.own.sel s.change.next.sel

-- Rule 5. A row that raises SEL is of a contender, at least an arbitration delay after its entry (6.1.2).
abbrev pub keeps_arbitration_delay : Seen → Row → Bool
keeps_arbitration_delay s row =
    implies (raises_sel s) (is_contender s && nat_le (s.bsy_raised + ARBITRATION_DELAY) row.time)

-- Rule 6. In the row that raises SEL no ID higher than the device's is true, and it adds SEL and nothing
-- else (6.1.2).
abbrev pub wins_well : Seen → Row → Bool
wins_well s row =
    implies (raises_sel s) (not (has_id_above s.change.before row.dev) && adds (record none { sel = true }) s.change)
