-- A trace, its bus and how long its lines have stood. The newest row stands first.
use Rattle.std.specs.Prelude.{ℕ, ◌≡◌, ◌==◌, ◌<◌, max, Bool, List, [], ◌∷◌, if◌then◌else◌, slice_index, length}
use Rattle.bus_trace.specs.LineSet.{LineSet, none, line_of, data_of, same}
use Rattle.bus_trace.specs.View.{View, union_below, driven_at}
use Rattle.bus_trace.specs.declared.line_times.LineTimes.{LineTimes}
use Rattle.bus_trace.specs.declared.rows.Row.{Row}
use Rattle.bus_trace.specs.declared.rows.Kind.{Kind}
use Rattle.bus_trace.specs.declared.rows.Kind.TheVariants.{Drives, Fault}

-- what a device drives after a row of its own, when it drove these lines before: a fault changes no lines
abbrev pub driven_after : Kind → LineSet → LineSet
driven_after (Drives lines) before = lines
driven_after (Fault code) before = before

-- what a device drives after these rows
abbrev pub drives : List Row → ℕ → LineSet
drives [] dev = none
drives (row ∷ rows) dev = if row.dev == dev then driven_after row.kind (drives rows dev) else drives rows dev

-- what is on the bus: the union of what the eight devices drive
abbrev pub bus : List Row → LineSet
bus rows = union_below (drives rows) 8

-- the time of the last row, or 0
abbrev pub last_time : List Row → ℕ
last_time [] = 0
last_time (row ∷ rows) = row.time

-- the time of the last change of what is seen, when the bus goes on from one set to the next
abbrev pub newer : (LineSet → ℕ) → LineSet → LineSet → ℕ → ℕ → ℕ
newer seen before after was time = if seen before == seen after then was else time

-- the time of the last row that changed what is seen of the bus, or 0
abbrev pub since : (LineSet → ℕ) → List Row → ℕ
since seen [] = 0
since seen (row ∷ rows) = newer seen (bus rows) (bus (row ∷ rows)) (since seen rows) row.time

-- the same of one line
abbrev pub newer_line : Bool → Bool → ℕ → ℕ → ℕ
newer_line before after was time = if same before after then was else time

-- the time of the last row that changed a line of the bus, or 0
abbrev pub since_line : (LineSet → Bool) → List Row → ℕ
since_line on [] = 0
since_line on (row ∷ rows) = newer_line (on (bus rows)) (on (bus (row ∷ rows))) (since_line on rows) row.time

-- Since when each line but the data lines stands as it does: before any row; when the bus goes on from one set to the
-- next at this time; and after these rows.
abbrev pub no_times : LineTimes
no_times = record { bsy = 0; sel = 0; cd = 0; io = 0; msg = 0; req = 0; ack = 0; atn = 0; rst = 0 }

abbrev pub times_after : LineTimes → LineSet → LineSet → ℕ → LineTimes
times_after t before after time = record {
  bsy = newer_line before.bsy after.bsy t.bsy time;
  sel = newer_line before.sel after.sel t.sel time;
  cd = newer_line before.cd after.cd t.cd time;
  io = newer_line before.io after.io t.io time;
  msg = newer_line before.msg after.msg t.msg time;
  req = newer_line before.req after.req t.req time;
  ack = newer_line before.ack after.ack t.ack time;
  atn = newer_line before.atn after.atn t.atn time;
  rst = newer_line before.rst after.rst t.rst time;
}

-- The same where REQ, ACK and data lines alone change.
abbrev pub times_after_transfer : LineTimes → LineSet → LineSet → ℕ → LineTimes
times_after_transfer t before after time = record t {
  req = newer_line before.req after.req t.req time;
  ack = newer_line before.ack after.ack t.ack time;
}

abbrev pub line_times : List Row → LineTimes
line_times rows = record {
  bsy = since_line (λ s. s.bsy) rows;
  sel = since_line (λ s. s.sel) rows;
  cd = since_line (λ s. s.cd) rows;
  io = since_line (λ s. s.io) rows;
  msg = since_line (λ s. s.msg) rows;
  req = since_line (λ s. s.req) rows;
  ack = since_line (λ s. s.ack) rows;
  atn = since_line (λ s. s.atn) rows;
  rst = since_line (λ s. s.rst) rows;
}

-- When the phase lines last changed; and since when BSY, SEL and RST stand as they do.
abbrev pub phase_time : LineTimes → ℕ
phase_time t = max (max t.msg t.cd) t.io

abbrev pub free_time : LineTimes → ℕ
free_time t = max (max t.bsy t.sel) t.rst

-- this view is that of these rows
pub record IsViewOf (rows : List Row) (v : View) : Type 0 where
  pub long : length v.driven ≡ 8
  pub drives_are : (dev : ℕ) → dev < 8 → driven_at v.driven dev ≡ drives rows dev
  pub bus_is : v.present ≡ bus rows
  pub data_lines_are : (line : ℕ) → line < 9 → slice_index v.data_lines line ≡ since (line_of line) rows
  pub data_is : v.data_changed ≡ since data_of rows
  pub times_are : v.times ≡ line_times rows
  pub last_is : v.last ≡ last_time rows
