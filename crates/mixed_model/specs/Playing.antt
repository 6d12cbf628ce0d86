-- A device among others: by the rows so far, the newest first, it is to make this row next, or none before another row
-- comes.
use Rattle.std.specs.Prelude.{ℕ, Bool, true, false, not, ◌&&◌, ◌==◌, nat_le, List, [], ◌∷◌, Option, Some, None}
use Rattle.std.specs.Prelude.{if◌then◌else◌}
use Rattle.bus_trace.specs.LineSet.{same_set}
use Rattle.bus_trace.specs.declared.rows.Row.{Row}
use Rattle.bus_trace.specs.declared.rows.Kind.{Kind}
use Rattle.bus_trace.specs.declared.rows.Kind.TheVariants.{Drives, Fault}
use Rattle.bus_trace.specs.Terms.{is_fault}

abbrev pub Doing : Type 0
Doing = List Row → Option Row

abbrev pub same_kind : Kind → Kind → Bool
same_kind (Drives a) (Drives b) = same_set a b
same_kind (Fault a) (Fault b) = a == b
same_kind (Drives a) (Fault b) = false
same_kind (Fault a) (Drives b) = false

abbrev pub same_row : Row → Row → Bool
same_row a b = a.time == b.time && a.dev == b.dev && same_kind a.kind b.kind

-- A row that the device makes. A fault is none: it happens to the device.
abbrev pub is_own : ℕ → Row → Bool
is_own dev row = row.dev == dev && not (is_fault row.kind)

-- Where this is due of the device, this may be the next row: its own just as it is due, and one of others not after
-- that.
abbrev pub may_follow : ℕ → Option Row → Row → Bool
may_follow dev None row = not (is_own dev row)
may_follow dev (Some due) row = if is_own dev row then same_row due row else nat_le row.time due.time

-- In these rows the device makes just what is due of it.
abbrev pub is_played : Doing → ℕ → List Row → Bool
is_played doing dev [] = true
is_played doing dev (row ∷ rows) = is_played doing dev rows && may_follow dev (doing rows) row
