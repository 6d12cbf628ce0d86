-- A reaction of a device: the row that it makes next, and when.
use Rattle.std.specs.Prelude.{ℕ, ◌+◌, min, Bool, true, false, Option, Some, None, nat_lt, if◌then◌else◌}
use Rattle.bus_lines.specs.bus_trace.specs.LineSet.{LineSet, none, same_set}
use Rattle.bus_lines.specs.bus_trace.specs.declared.Kind.TheVariants.{Drives, Fault}
use Rattle.reaction_model.specs.declared.due.Due.{Due}
use Rattle.reaction_model.specs.declared.due.Myself.{Myself}

-- At this time it drives these lines; or a fault strikes this bit of what it samples.
abbrev pub due_at : ℕ → LineSet → Option Due
due_at time lines = Some (record { time = time; kind = Drives lines })

-- A device that drives lines releases them all, its latency after this time.
abbrev pub release_after : ℕ → Myself → Option Due
release_after time me = if same_set me.own none then None else due_at (time + me.latency) none

abbrev pub fault_due : ℕ → ℕ → Option Due
fault_due time bit = Some (record { time = time; kind = Fault bit })

-- What it makes of a sample of this time, by the bit that a fault strikes.
abbrev pub fault_or : ℕ → Option ℕ → Option Due → Option Due
fault_or time None plain = plain
fault_or time (Some bit) plain = fault_due time bit

abbrev pub due_where : Bool → Option Due → Option Due
due_where true x = x
due_where false x = None

-- The first where it comes no later than the other.
abbrev pub not_later : Due → Due → Due
not_later x y = if nat_lt y.time x.time then y else x

abbrev pub earlier_due : Option Due → Option Due → Option Due
earlier_due None y = y
earlier_due (Some x) None = Some x
earlier_due (Some x) (Some y) = Some (not_later x y)

-- The sooner of two times; and a time where something is so.
abbrev pub sooner_time : Option ℕ → Option ℕ → Option ℕ
sooner_time None b = b
sooner_time (Some a) None = Some a
sooner_time (Some a) (Some b) = Some (min a b)

abbrev pub time_if : Bool → ℕ → Option ℕ
time_if true time = Some time
time_if false time = None
