-- Where all rows come before a time, so does all that stands on the bus.
use Rattle.std.proofs.Common.{ℕ, ◌<◌, Bool, true, false, List, [], ◌∷◌, sym, subst, arith, Option, Some, None}
use Rattle.std.specs.Prelude.{not, ◌&&◌, ◌||◌, ◌==◌, if◌then◌else◌}
use Rattle.std.specs.List.{AllByRecursion}
use Rattle.bus_trace.specs.LineSet.{LineSet, line_of, data_of}
use Rattle.bus_trace.specs.declared.Row.{Row}
use Rattle.bus_trace.specs.View.{AreTimesBefore}
use Rattle.bus_trace.specs.declared.line_times.LineTimes.{LineTimes}
use Rattle.bus_trace.specs.Trace.{since, since_line, line_times, last_time}
use Rattle.bus_trace.specs.declared.changes.Change.{Change}
use Rattle.bus_trace.specs.declared.arbitration.Arbitration.{Arbitration}
use Rattle.bus_trace.specs.declared.selection.Call.{Call}
use Rattle.bus_trace.specs.declared.selection.Calling.{Calling}
use Rattle.bus_trace.specs.declared.connection.Connection.{Connection}
use Rattle.bus_trace.specs.Changes.{rises, falls, change_of}
use Rattle.bus_trace.specs.Terms.{is_free, free_since, when, drives_two_ids, new_calling, caller_goes_on}
use Rattle.bus_trace.specs.Terms.{called_goes_on, arbitration, arbitration_after, calling_after, call_goes_on}
use Rattle.bus_trace.specs.Terms.{call_after, call, connected_by, connected_of, connection_of, connection_after}
use Rattle.bus_trace.specs.Terms.{connection}
use Rattle.bus_lines.specs.Handshakes.{Handshakes}
use Rattle.bus_lines.specs.BusView.{BusViewValue, IsBusViewOf}
use Rattle.bus_lines.specs.Timely.{IsTimely, IsBefore, IsArbitrationBefore, IsCallingBefore, IsCallBefore}
use Rattle.bus_lines.specs.Timely.{IsConnectionBefore, AreHandshakesBefore}
use Rattle.bus_lines.proofs.Early.{handshakes_before}
use Rattle.bus_trace.specs.bus_base.proofs.Tests.{if_less}

abbrev pub ComeBefore : ℕ → List Row → Type 0
ComeBefore end rows = AllByRecursion (λ (row : Row). row.time < end) rows

since_before : (end : ℕ) → 0 < end → (seen : LineSet → ℕ) (rows : List Row) → ComeBefore end rows
    → since seen rows < end
since_before end z seen [] h = z
since_before end z seen (row ∷ rows) h = if_less _ _ _ end (since_before end z seen rows h.1) h.0

line_before : (end : ℕ) → 0 < end → (on : LineSet → Bool) (rows : List Row) → ComeBefore end rows
    → since_line on rows < end
line_before end z on [] h = z
line_before end z on (row ∷ rows) h = if_less _ _ _ end (line_before end z on rows h.1) h.0

times_before : (end : ℕ) → 0 < end → (rows : List Row) → ComeBefore end rows → AreTimesBefore end (line_times rows)
times_before end z rows h = record {
  bsy = line_before end z (λ s. s.bsy) rows h;
  sel = line_before end z (λ s. s.sel) rows h;
  cd = line_before end z (λ s. s.cd) rows h;
  io = line_before end z (λ s. s.io) rows h;
  msg = line_before end z (λ s. s.msg) rows h;
  req = line_before end z (λ s. s.req) rows h;
  ack = line_before end z (λ s. s.ack) rows h;
  atn = line_before end z (λ s. s.atn) rows h;
  rst = line_before end z (λ s. s.rst) rows h;
}

pub last_before : (end : ℕ) → 0 < end → (rows : List Row) → ComeBefore end rows → last_time rows < end
last_before end z [] h = z
last_before end z (row ∷ rows) h = h.0

free_before : (end : ℕ) → 0 < end → (rows : List Row) → ComeBefore end rows → free_since rows < end
free_before end z rows h =
    let b = line_before end z (λ s. s.bsy) rows h in
    let s = line_before end z (λ s. s.sel) rows h in
    let r = line_before end z (λ s. s.rst) rows h in
    omega arith

-- ---- an arbitration

arbitration_more : (end : ℕ) (a : Option Arbitration) (free : ℕ) (c : Change) (row : Row) → free < end → row.time < end
    → IsArbitrationBefore end a → IsArbitrationBefore end (arbitration_after a free c row)
arbitration_more end None free c row f t h = go (is_free c.before && c.after.bsy && not c.after.sel)
  where
    go : (q : Bool) → IsArbitrationBefore end (if q then Some (record { free = free; first = row.time }) else None)
    go true = (f, t)
    go false = tt
arbitration_more end (Some a) free c row f t h = go (c.after.sel || is_free c.after)
  where
    go : (q : Bool) → IsArbitrationBefore end (if q then None else Some a)
    go true = tt
    go false = h

arbitration_before : (end : ℕ) → 0 < end → (rows : List Row) → ComeBefore end rows
    → IsArbitrationBefore end (arbitration rows)
arbitration_before end z [] h = tt
arbitration_before end z (row ∷ rows) h = arbitration_more end (arbitration rows) (free_since rows)
    (change_of rows row) row (free_before end z rows h.1) h.0 (arbitration_before end z rows h.1)

-- ---- a call

when_before : (end : ℕ) (now : Bool) (time : ℕ) (was : Option ℕ) → time < end → IsBefore end was
    → IsBefore end (when now time was)
when_before end true time was t h = t
when_before end false time was t h = h

calling_more : (end caller : ℕ) (k : Option Calling) (c : Change) (row : Row) → row.time < end → IsCallingBefore end k
    → IsCallingBefore end (calling_after caller k c row)
calling_more end caller None c row t h = go (row.dev == caller && drives_two_ids caller c.next)
  where
    go : (q : Bool) → IsCallingBefore end (if q then Some (new_calling caller c.next row.time) else None)
    go true = record { at = t; released = tt; withdrawn = tt; resumed = tt; answered = tt }
    go false = tt
calling_more end caller (Some k) c row t h = go (row.dev == caller) (row.dev == k.called)
  where
    go : (p q : Bool) → IsCallingBefore end
        (if p then Some (caller_goes_on k c row.time) else if q then Some (called_goes_on k c row) else Some k)
    go true q = record {
      at = h.at;
      released = when_before end (falls c.own.bsy c.next.bsy) row.time k.released t h.released;
      withdrawn =
          when_before end (not (c.own.data_bits == 0) && c.next.data_bits == 0) row.time k.withdrawn t h.withdrawn;
      resumed = when_before end (rises c.own.bsy c.next.bsy) row.time k.resumed t h.resumed;
      answered = h.answered;
    }
    go false true = record {
      at = h.at;
      released = h.released;
      withdrawn = h.withdrawn;
      resumed = h.resumed;
      answered = when_before end (rises c.own.bsy c.next.bsy) row.time k.answered t h.answered;
    }
    go false false = h

goes_on_before : (end : ℕ) (k : Option Call) (c : Change) (row : Row) → row.time < end → IsCallBefore end k
    → IsCallBefore end (call_goes_on k c row)
goes_on_before end None c row t h = tt
goes_on_before end (Some k) c row t h = (h.0, calling_more end k.caller k.calling c row t h.1)

call_more : (end : ℕ) (k : Option Call) (c : Change) (row : Row) → row.time < end → IsCallBefore end k
    → IsCallBefore end (call_after k c row)
call_more end k c row t h = go (not c.after.sel) (rises c.before.sel c.after.sel)
  where
    go : (p q : Bool) → IsCallBefore end (if p then None
        else if q then Some (record { caller = row.dev; at = row.time; calling = None }) else call_goes_on k c row)
    go true q = tt
    go false true = (t, tt)
    go false false = goes_on_before end k c row t h

call_before : (end : ℕ) → 0 < end → (rows : List Row) → ComeBefore end rows → IsCallBefore end (call rows)
call_before end z [] h = tt
call_before end z (row ∷ rows) h = call_more end (call rows) (change_of rows row) row h.0 (call_before end z rows h.1)

-- ---- a connection

connected_before : (end time caller : ℕ) (k : Calling) (answered : Option ℕ) → time < end
    → IsConnectionBefore end (connected_by caller k answered time)
connected_before end time caller k None t = tt
connected_before end time caller k (Some answered) t = t

called_before : (end time caller : ℕ) (k : Option Calling) → time < end
    → IsConnectionBefore end (connected_of caller k time)
called_before end time caller None t = tt
called_before end time caller (Some k) t = connected_before end time caller k k.answered t

begun_before : (end time : ℕ) (k : Option Call) → time < end → IsConnectionBefore end (connection_of k time)
begun_before end time None t = tt
begun_before end time (Some k) t = called_before end time k.caller k.calling t

connection_more : (end : ℕ) (n : Option Connection) (k : Option Call) (c : Change) (row : Row) → row.time < end
    → IsConnectionBefore end n → IsConnectionBefore end (connection_after n k c row)
connection_more end None k c row t h = go (falls c.before.sel c.after.sel && c.after.bsy && not c.after.rst)
  where
    go : (q : Bool) → IsConnectionBefore end (if q then connection_of k row.time else None)
    go true = begun_before end row.time k t
    go false = tt
connection_more end (Some n) k c row t h = go c.after.bsy
  where
    go : (q : Bool) → IsConnectionBefore end (if q then Some n else None)
    go true = h
    go false = tt

connection_before : (end : ℕ) → 0 < end → (rows : List Row) → ComeBefore end rows
    → IsConnectionBefore end (connection rows)
connection_before end z [] h = tt
connection_before end z (row ∷ rows) h =
    connection_more end (connection rows) (call rows) (change_of rows row) row h.0 (connection_before end z rows h.1)

-- ---- all of it

pub timely : (end : ℕ) → 0 < end → (rows : List Row) (v : BusViewValue) → IsBusViewOf rows v → ComeBefore end rows
    → IsTimely end v
timely end z rows v h b = record {
  lines = record {
    data_lines = λ line l. subst (λ (x : ℕ). x < end) (sym (h.lines_are.data_lines_are line l))
        (since_before end z (line_of line) rows b);
    data_changed = subst (λ (x : ℕ). x < end) (sym h.lines_are.data_is) (since_before end z data_of rows b);
    times = subst (λ (x : LineTimes). AreTimesBefore end x) (sym h.lines_are.times_are) (times_before end z rows b);
    last = subst (λ (x : ℕ). x < end) (sym h.lines_are.last_is) (last_before end z rows b);
  };
  arbitration = subst (λ (x : Option Arbitration). IsArbitrationBefore end x) (sym h.arbitration_is)
      (arbitration_before end z rows b);
  call = subst (λ (x : Option Call). IsCallBefore end x) (sym h.call_is) (call_before end z rows b);
  connection = subst (λ (x : Option Connection). IsConnectionBefore end x) (sym h.connection_is)
      (connection_before end z rows b);
  handshakes =
      subst (λ (x : Handshakes). AreHandshakesBefore end x) (sym h.handshakes_are) (handshakes_before end z rows b);
}
