-- Rules 1 and 2: what holds of any row.
use Rattle.std.specs.Prelude.{ℕ, ◌+◌, Bool, false, not, ◌&&◌, ◌||◌, ◌==◌, Option, Some, None, nat_le, is_none}
use Rattle.bus_trace.specs.declared.delays.TheConstants.{BUS_SETTLE_DELAY}
use Rattle.bus_trace.specs.LineSet.{same_set, has_id}
use Rattle.bus_trace.specs.declared.Row.{Row}
use Rattle.bus_trace.specs.declared.Kind.{Kind}
use Rattle.bus_trace.specs.declared.Kind.TheVariants.{Drives, Fault}
use Rattle.bus_trace.specs.declared.selection.Call.{Call}
use Rattle.bus_trace.specs.declared.selection.Calling.{Calling}
use Rattle.bus_rules.specs.declared.seen.Seen.{Seen}

-- Rule 1. A time is not below that of the row before.
abbrev pub is_in_order : Seen → ℕ → Bool
is_in_order s time = nat_le s.last time

-- A fault names the byte that crossed in the row before it, at the same time, at its receiver.
abbrev pub is_of_device : Option ℕ → ℕ → Bool
is_of_device None dev = false
is_of_device (Some d) dev = d == dev

abbrev pub strikes_byte : Seen → Row → Bool
strikes_byte s row = is_of_device s.receiver row.dev && s.last == row.time

-- Or the IDs, once in a calling, at the called device that has not answered: SEL and its ID are true, and
-- BSY has been false for a bus settle delay (6.1.3, 6.1.4).
abbrev pub strikes_ids_of : Seen → Row → Option Calling → Bool
strikes_ids_of s row None = false
strikes_ids_of s row (Some k) = (row.dev == k.called && is_none k.answered && not k.struck)
    && (s.change.before.sel && has_id s.change.before k.called && not s.change.before.bsy)
    && nat_le (s.times.bsy + BUS_SETTLE_DELAY) row.time

abbrev pub strikes_ids : Seen → Row → Option Call → Bool
strikes_ids s row None = false
strikes_ids s row (Some k) = strikes_ids_of s row k.calling

-- Rule 2. A row of lines differs from what the device drove. A fault row names a byte, or IDs, that no
-- fault named before.
abbrev pub is_news_of : Seen → Row → Kind → Bool
is_news_of s row (Drives lines) = not (same_set s.change.own s.change.next)
is_news_of s row (Fault bit) = strikes_byte s row || strikes_ids s row s.call

abbrev pub is_news : Seen → Row → Bool
is_news s row = is_news_of s row row.kind
