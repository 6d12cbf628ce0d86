-- Where all rows come before a time, so do the rises of REQ and ACK that are remembered of the phase; and these are
-- few.
use Rattle.std.proofs.Common.{ℕ, ◌≡◌, ◌+◌, ◌<◌, ◌≤◌, Bool, true, false, List, [], ◌∷◌, ◌++◌, drop, length, refl, sym}
use Rattle.std.proofs.Common.{subst, arith, Option, Some, None}
use Rattle.std.proofs.lemmas.Bool.Decides.{nat_tests}
use Rattle.std.specs.Prelude.{nat_lt, if◌then◌else◌}
use Rattle.std.specs.List.{AllByRecursion}
use Rattle.bus_trace.specs.declared.Row.{Row}
use Rattle.bus_trace.specs.declared.changes.Change.{Change}
use Rattle.bus_trace.specs.declared.connection.Connection.{Connection}
use Rattle.bus_trace.specs.Changes.{rises, change_of}
use Rattle.bus_trace.specs.Phases.{changes_phase}
use Rattle.bus_trace.specs.Terms.{connection, is_fault}
use Rattle.bus_lines.specs.declared.handshakes.Request.{Request}
use Rattle.bus_lines.specs.Handshakes.{Handshakes, no_handshakes, handshakes, handshakes_after, handshakes_on, asked_if}
use Rattle.bus_lines.specs.Handshakes.{answered_if, newest_struck_if, with_last_struck, opened, or_now, or_zero}
use Rattle.bus_lines.specs.Handshakes.{first_of}
use Rattle.bus_lines.specs.Handshakes.{time_of}
use Rattle.bus_lines.specs.Timely.{AreHandshakesBefore}

-- ---- the requests that wait

abbrev AreEarly : ℕ → List Request → Type 0
AreEarly end waiting = AllByRecursion (λ (b : Request). b.time < end) waiting

first_early : (end : ℕ) → 0 < end → (waiting : List Request) → AreEarly end waiting → time_of (first_of waiting) < end
first_early end z [] h = z
first_early end z (b ∷ waiting) h = h.0

push_early : (end : ℕ) (waiting : List Request) (b : Request) → b.time < end → AreEarly end waiting
    → AreEarly end (waiting ++ b ∷ [])
push_early end [] b t h = (t, tt)
push_early end (x ∷ waiting) b t h = (h.0, push_early end waiting b t h.1)

opened_early : (end time : ℕ) (waiting : List Request) → time < end → AreEarly end waiting
    → AreEarly end (opened time waiting)
opened_early end time waiting t h = go (nat_lt (length waiting) 255)
  where
    go : (q : Bool) → AreEarly end (if q then waiting ++ record { time = time; struck = false } ∷ [] else waiting)
    go true = push_early end waiting (record { time = time; struck = false }) t h
    go false = h

rest_early : (end : ℕ) (waiting : List Request) → AreEarly end waiting → AreEarly end (drop 1 waiting)
rest_early end [] h = tt
rest_early end (b ∷ waiting) h = h.1

struck_early : (end : ℕ) (waiting : List Request) → AreEarly end waiting → AreEarly end (with_last_struck waiting)
struck_early end [] h = tt
struck_early end (b ∷ []) h = h
struck_early end (b ∷ (c ∷ waiting)) h = (h.0, struck_early end (c ∷ waiting) h.1)

-- ---- all of it

record Early (end : ℕ) (b : Handshakes) : Type 0 where
  last_req : b.last_req < end
  last_ack : b.last_ack < end
  relieved : or_zero b.relieved < end
  waiting : AreEarly end b.waiting

none_early : (end : ℕ) → 0 < end → Early end no_handshakes
none_early end z = record { last_req = z; last_ack = z; relieved = z; waiting = tt }

asked_early : (q : Bool) (end time : ℕ) (b : Handshakes) → 0 < end → time < end → Early end b
    → Early end (asked_if q time b)
asked_early true end time b z t h =
    record { last_req = t; last_ack = h.last_ack; relieved = z; waiting = opened_early end time b.waiting t h.waiting }
asked_early false end time b z t h = h

now_early : (end time : ℕ) (x : Option ℕ) → time < end → or_zero x < end → or_zero (or_now x time) < end
now_early end time None t h = t
now_early end time (Some y) t h = h

answered_early : (q : Bool) (end time : ℕ) (b : Handshakes) → time < end → Early end b
    → Early end (answered_if q time b)
answered_early true end time b t h = record {
  last_req = h.last_req;
  last_ack = t;
  relieved = now_early end time b.relieved t h.relieved;
  waiting = rest_early end b.waiting h.waiting;
}
answered_early false end time b t h = h

on_early : (end time : ℕ) (n : Option Connection) (c : Change) (b : Handshakes) → 0 < end → time < end → Early end b
    → Early end (handshakes_on n c time b)
on_early end time None c b z t h = none_early end z
on_early end time (Some n) c b z t h = go (changes_phase c)
  where
    go : (q : Bool) → Early end (if q then no_handshakes
        else answered_if (rises c.before.ack c.after.ack) time (asked_if (rises c.before.req c.after.req) time b))
    go true = none_early end z
    go false = answered_early (rises c.before.ack c.after.ack) end time (asked_if
        (rises c.before.req c.after.req) time b) t (asked_early (rises c.before.req c.after.req) end time b z t h)

strikes_early : (q : Bool) (end : ℕ) (b : Handshakes) → Early end b → Early end (newest_struck_if q b)
strikes_early true end b h = record {
  last_req = h.last_req;
  last_ack = h.last_ack;
  relieved = h.relieved;
  waiting = struck_early end b.waiting h.waiting;
}
strikes_early false end b h = h

after_early : (q : Bool) (end time : ℕ) (n : Option Connection) (c : Change) (b : Handshakes) → 0 < end → time < end
    → Early end b → Early end (handshakes_after q n c time b)
after_early true end time n c b z t h = strikes_early c.before.io end b h
after_early false end time n c b z t h = on_early end time n c b z t h

handshakes_early : (end : ℕ) → 0 < end → (rows : List Row) → AllByRecursion (λ (row : Row). row.time < end) rows
    → Early end (handshakes rows)
handshakes_early end z [] h = none_early end z
handshakes_early end z (row ∷ rows) h = after_early (is_fault row.kind) end row.time (connection (row ∷ rows))
    (change_of rows row) (handshakes rows) z h.0 (handshakes_early end z rows h.1)

pub handshakes_before : (end : ℕ) → 0 < end → (rows : List Row) → AllByRecursion (λ (row : Row). row.time < end) rows
    → AreHandshakesBefore end (handshakes rows)
handshakes_before end z rows h =
    let e = handshakes_early end z rows h in
    record {
      last_req = e.last_req;
      last_ack = e.last_ack;
      relieved = e.relieved;
      oldest = first_early end z (handshakes rows).waiting e.waiting;
    }

-- ---- few of them wait

pub push_length : (waiting : List Request) (b : Request) → length (waiting ++ b ∷ []) ≡ length waiting + 1
push_length [] b = refl
push_length (x ∷ waiting) b = let e = push_length waiting b in omega (arith, e)

opened_few : (time : ℕ) (waiting : List Request) → length waiting ≤ 255 → length (opened time waiting) ≤ 255
opened_few time waiting h = go (nat_lt (length waiting) 255) refl
  where
    go : (q : Bool) → nat_lt (length waiting) 255 ≡ q
        → length (if q then waiting ++ record { time = time; struck = false } ∷ [] else waiting) ≤ 255
    go true e = let p = push_length waiting (record { time = time; struck = false }) in grind (arith, nat_tests)
    go false e = h

rest_few : (waiting : List Request) → length waiting ≤ 255 → length (drop 1 waiting) ≤ 255
rest_few [] h = h
rest_few (b ∷ waiting) h = omega (arith, h)

pub struck_length : (waiting : List Request) → length (with_last_struck waiting) ≡ length waiting
struck_length [] = refl
struck_length (b ∷ []) = refl
struck_length (b ∷ (c ∷ waiting)) = let e = struck_length (c ∷ waiting) in omega (arith, e)

abbrev IsFew : Handshakes → Type 0
IsFew b = length b.waiting ≤ 255

none_few : IsFew no_handshakes
none_few = omega arith

asked_few : (q : Bool) (time : ℕ) (b : Handshakes) → IsFew b → IsFew (asked_if q time b)
asked_few true time b h = opened_few time b.waiting h
asked_few false time b h = h

answered_few : (q : Bool) (time : ℕ) (b : Handshakes) → IsFew b → IsFew (answered_if q time b)
answered_few true time b h = rest_few b.waiting h
answered_few false time b h = h

after_few : (q : Bool) (time : ℕ) (n : Option Connection) (c : Change) (b : Handshakes) → IsFew b
    → IsFew (handshakes_after q n c time b)
after_few true time n c b h = go c.before.io
  where
    go : (q : Bool) → IsFew (newest_struck_if q b)
    go true = subst (λ (m : ℕ). m ≤ 255) (sym (struck_length b.waiting)) h
    go false = h
after_few false time None c b h = none_few
after_few false time (Some n) c b h = go (changes_phase c)
  where
    go : (q : Bool) → IsFew (if q then no_handshakes
        else answered_if (rises c.before.ack c.after.ack) time (asked_if (rises c.before.req c.after.req) time b))
    go true = none_few
    go false = answered_few (rises c.before.ack c.after.ack) time (asked_if (rises c.before.req c.after.req) time b)
        (asked_few (rises c.before.req c.after.req) time b h)

pub few : (rows : List Row) → length (handshakes rows).waiting ≤ 255
few [] = none_few
few (row ∷ rows) =
    after_few (is_fault row.kind) row.time (connection (row ∷ rows)) (change_of rows row) (handshakes rows) (few rows)

pub struck_same : (q : Bool) (h : Handshakes) → (newest_struck_if q h).requests ≡ h.requests
struck_same true h = refl
struck_same false h = refl
