-- What stands on the bus after some rows, lawful or not: the terms of the rules, and what devices go by (ANSI
-- X3.131-1994, clause 6.1). The newest row stands first; each term goes on by one step a row.
use Rattle.std.specs.Prelude.{ℕ, Bool, true, false, not, max, ◌&&◌, ◌||◌, ◌==◌, List, [], ◌∷◌, Option, Some, None}
use Rattle.std.specs.Prelude.{if◌then◌else◌}
use Rattle.bus_trace.specs.LineSet.{LineSet, has_id, ids_in}
use Rattle.bus_trace.specs.Trace.{drives, driven_after, since_line}
use Rattle.bus_trace.specs.declared.rows.Row.{Row}
use Rattle.bus_trace.specs.declared.rows.Kind.{Kind}
use Rattle.bus_trace.specs.declared.rows.Kind.TheVariants.{Drives, Fault}
use Rattle.bus_trace.specs.declared.changes.Change.{Change}
use Rattle.bus_trace.specs.declared.arbitration.Arbitration.{Arbitration}
use Rattle.bus_trace.specs.declared.selection.Call.{Call}
use Rattle.bus_trace.specs.declared.selection.Calling.{Calling}
use Rattle.bus_trace.specs.declared.connection.Connection.{Connection}
use Rattle.bus_trace.specs.Changes.{rises, falls, change_of}

-- ---- times

-- BSY, SEL and RST are all false.
abbrev pub is_free : LineSet → Bool
is_free s = not (s.bsy || s.sel || s.rst)

-- The time since which BSY, SEL and RST stand as they do: where they are false, the bus is free since
-- then (6.1.1).
abbrev pub free_since : List Row → ℕ
free_since rows = max (max (since_line (λ s. s.bsy) rows) (since_line (λ s. s.sel) rows)) (since_line (λ s. s.rst) rows)

-- When a device last raised a line, or 0.
abbrev pub raised_next : Bool → Bool → ℕ → ℕ → ℕ
raised_next own next time was = if rises own next then time else was

abbrev pub raised : (LineSet → Bool) → List Row → ℕ → ℕ
raised line [] dev = 0
raised line (row ∷ rows) dev =
    if row.dev == dev then raised_next (line (drives rows dev))
    (line (driven_after row.kind (drives rows dev))) row.time (raised line rows dev) else raised line rows dev

-- ---- arbitration (6.1.2)

-- An arbitration begins with the first row that raises BSY on a free bus. It ends when SEL rises or the
-- bus is free again.
abbrev pub arbitration_after : Option Arbitration → ℕ → Change → Row → Option Arbitration
arbitration_after None free c row =
    if is_free c.before && c.after.bsy && not c.after.sel then Some (record { free = free; first = row.time }) else None
arbitration_after (Some a) free c row = if c.after.sel || is_free c.after then None else Some a

abbrev pub arbitration : List Row → Option Arbitration
arbitration [] = None
arbitration (row ∷ rows) = arbitration_after (arbitration rows) (free_since rows) (change_of rows row) row

-- ---- selection and reselection (6.1.3, 6.1.4)

abbrev pub is_fault : Kind → Bool
is_fault (Drives lines) = false
is_fault (Fault bit) = true

-- The caller's row that drives two IDs, its own and another, is the calling.
abbrev pub drives_two_ids : ℕ → LineSet → Bool
drives_two_ids caller s = ids_in s == 2 && has_id s caller

-- The lowest ID on the data lines but this one.
abbrev pub is_other_id : LineSet → ℕ → ℕ → Bool
is_other_id s own dev = not (dev == own) && has_id s dev

abbrev pub other_id : LineSet → ℕ → ℕ
other_id s own =
    if is_other_id s own 0 then 0
    else if is_other_id s own 1 then 1
    else if is_other_id s own 2 then 2
    else if is_other_id s own 3 then 3
    else if is_other_id s own 4 then 4
    else if is_other_id s own 5 then 5
    else if is_other_id s own 6 then 6
    else 7

abbrev pub new_calling : ℕ → LineSet → ℕ → Calling
new_calling caller s time = record {
  called = other_id s caller;
  reselects = s.io;
  at = time;
  released = None;
  withdrawn = None;
  resumed = None;
  answered = None;
  struck = false;
}

-- The time, where it happens now; else what stood before.
abbrev pub when : Bool → ℕ → Option ℕ → Option ℕ
when now time was = if now then Some time else was

-- A row of the caller after its calling: it releases BSY; it releases the IDs, where no answer has come;
-- or it raises BSY again.
abbrev pub caller_goes_on : Calling → Change → ℕ → Calling
caller_goes_on k c time = record k {
  released = when (falls c.own.bsy c.next.bsy) time k.released;
  withdrawn = when (not (c.own.data_bits == 0) && c.next.data_bits == 0) time k.withdrawn;
  resumed = when (rises c.own.bsy c.next.bsy) time k.resumed;
}

-- A row of the called device: where it raises BSY that is its answer; or a fault strikes it.
abbrev pub called_goes_on : Calling → Change → Row → Calling
called_goes_on k c row = record k {
  answered = when (rises c.own.bsy c.next.bsy) row.time k.answered;
  struck = k.struck || is_fault row.kind;
}

abbrev pub calling_after : ℕ → Option Calling → Change → Row → Option Calling
calling_after caller None c row =
    if row.dev == caller && drives_two_ids caller c.next then Some (new_calling caller c.next row.time) else None
calling_after caller (Some k) c row =
    if row.dev == caller then Some (caller_goes_on k c row.time)
    else if row.dev == k.called then Some (called_goes_on k c row)
    else Some k

abbrev pub call_goes_on : Option Call → Change → Row → Option Call
call_goes_on None c row = None
call_goes_on (Some k) c row = Some (record k { calling = calling_after k.caller k.calling c row })

-- While SEL is true: the caller is the device whose row raised SEL.
abbrev pub call_after : Option Call → Change → Row → Option Call
call_after call c row =
    if not c.after.sel then None
    else if rises c.before.sel c.after.sel then Some (record { caller = row.dev; at = row.time; calling = None })
    else call_goes_on call c row

abbrev pub call : List Row → Option Call
call [] = None
call (row ∷ rows) = call_after (call rows) (change_of rows row) row

-- ---- connection (6.1.3, 6.1.4)

-- Of a calling that was answered, the caller is the initiator where it selected, else the target.
abbrev pub connected : ℕ → Calling → ℕ → Connection
connected caller k time = record {
  initiator = if k.reselects then k.called else caller;
  target = if k.reselects then caller else k.called;
  began = time;
  reselected = k.reselects;
}

abbrev pub connected_by : ℕ → Calling → Option ℕ → ℕ → Option Connection
connected_by caller k None time = None
connected_by caller k (Some answered) time = Some (connected caller k time)

abbrev pub connected_of : ℕ → Option Calling → ℕ → Option Connection
connected_of caller None time = None
connected_of caller (Some k) time = connected_by caller k k.answered time

abbrev pub connection_of : Option Call → ℕ → Option Connection
connection_of None time = None
connection_of (Some k) time = connected_of k.caller k.calling time

-- A connection begins with the row in which SEL falls after an answer, where BSY is true and RST false
-- after it. It lasts while BSY is true.
abbrev pub connection_after : Option Connection → Option Call → Change → Row → Option Connection
connection_after None call c row =
    if falls c.before.sel c.after.sel && c.after.bsy && not c.after.rst then connection_of call row.time else None
connection_after (Some n) call c row = if c.after.bsy then Some n else None

abbrev pub connection : List Row → Option Connection
connection [] = None
connection (row ∷ rows) = connection_after (connection rows) (call rows) (change_of rows row) row

-- ---- bytes (6.1.5.1)

-- A byte crosses in a connection in the row in which REQ rises while I/O is true, or ACK rises while I/O
-- is false: the device that receives it.
abbrev pub receiver_in : Connection → Change → Option ℕ
receiver_in n c =
    if c.before.io then (if rises c.before.req c.after.req then Some n.initiator else None)
    else (if rises c.before.ack c.after.ack then Some n.target else None)

abbrev pub receiver_of : Option Connection → Change → Option ℕ
receiver_of None c = None
receiver_of (Some n) c = receiver_in n c

-- The receiver of the byte that crossed in the last row, if one did.
abbrev pub receiver : List Row → Option ℕ
receiver [] = None
receiver (row ∷ rows) = receiver_of (connection rows) (change_of rows row)
