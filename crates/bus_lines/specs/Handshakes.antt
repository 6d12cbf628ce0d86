-- The rises of REQ and of ACK in the present phase (ANSI X3.131-1994, 6.1.5.1 and 6.1.5.2). What is kept of them is
-- bounded, whatever the rows: counts stay at the last u64, and at most 255 requests are remembered as unanswered, since
-- no REQ/ACK offset is higher (6.6.21).
use Rattle.std.specs.Prelude.{ℕ, ◌==◌, Bool, true, false, not, List, [], ◌∷◌, ◌++◌, drop, length, Option, Some, None}
use Rattle.std.specs.Prelude.{nat_lt, if◌then◌else◌}
use Rattle.bus_trace.specs.bus_base.specs.Faults.{counted_on}
use Rattle.bus_trace.specs.declared.Row.{Row}
use Rattle.bus_trace.specs.declared.changes.Change.{Change}
use Rattle.bus_trace.specs.declared.connection.Connection.{Connection}
use Rattle.bus_lines.specs.declared.handshakes.Request.{Request}
use Rattle.bus_trace.specs.Changes.{rises, change_of}
use Rattle.bus_trace.specs.Phases.{changes_phase}
use Rattle.bus_trace.specs.Terms.{connection, is_fault}

pub record Handshakes : Type 0 where
  -- how often REQ and ACK rose
  pub requests : ℕ
  pub answers : ℕ
  -- when REQ and ACK last rose, or 0
  pub last_req : ℕ
  pub last_ack : ℕ
  -- whether a fault struck the byte of the newest request
  pub struck : Bool
  -- how many requests were unanswered when REQ last rose, the new one included; and when ACK first rose after that
  pub reach : ℕ
  pub relieved : Option ℕ
  -- the requests that no rise of ACK has answered, the oldest first
  pub waiting : List Request

abbrev pub no_handshakes : Handshakes
no_handshakes = record {
  requests = 0;
  answers = 0;
  last_req = 0;
  last_ack = 0;
  struck = false;
  reach = 0;
  relieved = None;
  waiting = [];
}

-- ---- REQ rises

abbrev pub opened : ℕ → List Request → List Request
opened time waiting =
    if nat_lt (length waiting) 255 then waiting ++ record { time = time; struck = false } ∷ [] else waiting

abbrev pub asked : ℕ → Handshakes → Handshakes
asked time h = record {
  requests = counted_on h.requests;
  answers = h.answers;
  last_req = time;
  last_ack = h.last_ack;
  struck = false;
  reach = length (opened time h.waiting);
  relieved = None;
  waiting = opened time h.waiting;
}

-- ---- ACK rises: it answers the oldest request

abbrev pub or_now : Option ℕ → ℕ → Option ℕ
or_now None time = Some time
or_now (Some was) time = Some was

abbrev pub answered : ℕ → Handshakes → Handshakes
answered time h = record h {
  answers = counted_on h.answers;
  last_ack = time;
  relieved = or_now h.relieved time;
  waiting = drop 1 h.waiting;
}

abbrev pub asked_if : Bool → ℕ → Handshakes → Handshakes
asked_if true time h = asked time h
asked_if false time h = h

abbrev pub answered_if : Bool → ℕ → Handshakes → Handshakes
answered_if true time h = answered time h
answered_if false time h = h

-- ---- a fault strikes the byte of the newest request

abbrev pub with_last_struck : List Request → List Request
with_last_struck [] = []
with_last_struck (r ∷ []) = record { time = r.time; struck = true } ∷ []
with_last_struck (r ∷ (q ∷ waiting)) = r ∷ with_last_struck (q ∷ waiting)

abbrev pub newest_struck : Handshakes → Handshakes
newest_struck h = record h { struck = not (h.requests == 0); waiting = with_last_struck h.waiting }

abbrev pub newest_struck_if : Bool → Handshakes → Handshakes
newest_struck_if true h = newest_struck h
newest_struck_if false h = h

-- ---- a row

-- They are told anew where the phase lines change, and with each connection. Here the connection is that after the row.
abbrev pub handshakes_on : Option Connection → Change → ℕ → Handshakes → Handshakes
handshakes_on None c time h = no_handshakes
handshakes_on (Some n) c time h =
    if changes_phase c then no_handshakes
    else answered_if (rises c.before.ack c.after.ack) time (asked_if (rises c.before.req c.after.req) time h)

-- Only a byte to the initiator crosses with REQ, so that a fault may strike it (6.1.5.1).
abbrev pub handshakes_after : Bool → Option Connection → Change → ℕ → Handshakes → Handshakes
handshakes_after true n c time h = newest_struck_if c.before.io h
handshakes_after false n c time h = handshakes_on n c time h

abbrev pub handshakes : List Row → Handshakes
handshakes [] = no_handshakes
handshakes (row ∷ rows) =
    handshakes_after (is_fault row.kind) (connection (row ∷ rows)) (change_of rows row) row.time (handshakes rows)

-- ---- looking at them

abbrev pub first_of : List Request → Option Request
first_of [] = None
first_of (r ∷ waiting) = Some r

abbrev pub time_of : Option Request → ℕ
time_of None = 0
time_of (Some r) = r.time

abbrev pub is_struck : Option Request → Bool
is_struck None = false
is_struck (Some r) = r.struck

-- Since when fewer requests than the offset are unanswered (6.1.5.2). Where the last rise of REQ filled the offset,
-- that is since ACK first rose after it; else it was so before it.
abbrev pub or_zero : Option ℕ → ℕ
or_zero None = 0
or_zero (Some time) = time

abbrev pub room_by : ℕ → Handshakes → ℕ
room_by offset h = if h.reach == offset then or_zero h.relieved else 0
