-- What a running view of the bus keeps.
use Rattle.std.specs.Prelude.{ℕ, zero, suc, ◌<◌, List, slice_index, slice_index_or, nat_lt, ◌==◌, if◌then◌else◌}
use Rattle.bus_trace.specs.LineSet.{LineSet, none, union}
use Rattle.bus_trace.specs.declared.line_times.LineTimes.{LineTimes}

pub record View : Type 0 where
  -- what each device drives
  pub driven : List LineSet
  -- what is on the bus
  pub present : LineSet
  -- when each data line last changed, and when any of them did
  pub data_lines : List ℕ
  pub data_changed : ℕ
  -- when each other line last changed
  pub times : LineTimes
  -- the time of the last row
  pub last : ℕ

-- what the devices below n drive together
unfoldable pub union_below : (ℕ → LineSet) → ℕ → LineSet
union_below f zero = none
union_below f (suc n) = union (union_below f n) (f n)

-- what a device drives, by the list of what all drive
abbrev pub driven_at : List LineSet → ℕ → LineSet
driven_at driven dev = slice_index_or driven dev none

-- what all eight devices drive together
abbrev pub union_all : List LineSet → LineSet
union_all driven = union (union (union
    (union (union (union (union (driven_at driven 0) (driven_at driven 1)) (driven_at driven 2)) (driven_at driven 3))
    (driven_at driven 4)) (driven_at driven 5)) (driven_at driven 6)) (driven_at driven 7)

-- when a line by its number last changed: 0 to 8 the data lines, 9 to 17 the others
abbrev pub time_by_number : LineTimes → ℕ → ℕ
time_by_number t line =
    if line == 9 then t.bsy
    else if line == 10 then t.sel
    else if line == 11 then t.cd
    else if line == 12 then t.io
    else if line == 13 then t.msg
    else if line == 14 then t.req
    else if line == 15 then t.ack
    else if line == 16 then t.atn
    else t.rst

abbrev pub time_of_line : View → ℕ → ℕ
time_of_line v line = if nat_lt line 9 then slice_index v.data_lines line else time_by_number v.times line

-- all these times lie before this one
pub record AreTimesBefore (end : ℕ) (t : LineTimes) : Type 0 where
  pub bsy : t.bsy < end
  pub sel : t.sel < end
  pub cd : t.cd < end
  pub io : t.io < end
  pub msg : t.msg < end
  pub req : t.req < end
  pub ack : t.ack < end
  pub atn : t.atn < end
  pub rst : t.rst < end

-- all times in the view do
pub record AreBefore (end : ℕ) (v : View) : Type 0 where
  pub data_lines : (line : ℕ) → line < 9 → slice_index v.data_lines line < end
  pub data_changed : v.data_changed < end
  pub times : AreTimesBefore end v.times
  pub last : v.last < end

-- no time in the view lies after this one
abbrev pub IsUpTo : ℕ → View → Type 0
IsUpTo time v = AreBefore (suc time) v
