-- All that is kept of rows which come before a time lies before it.
use Rattle.bus_laws.proofs
use proofs.Names.{ℕ, zero, suc, ◌≡◌, ◌<◌, Bool, true, false, List, [], ◌∷◌, Option, Some, None, refl, arith, length}
use proofs.Names.{replicate, ◌&&◌, AllByRecursion, if◌then◌else◌, ◌==◌, slice_index, if_less, Event, rises, change_of}
use proofs.Names.{line_of, data_of, arbitration, call, connection, free_since, drives, bus, last_time, since}
use proofs.Names.{line_times, driven_at, AreTimesBefore, Kind, Drives, Fault, Row, Arbitration, Change, Connection}
use proofs.Names.{Call, Calling, timely, ComeBefore, BusViewValue, IsBusViewOf, effect, handshakes, stage, stage_by}
use proofs.Names.{call_stage, answer_stage, IsBefore, IsCallingBefore, IsCallBefore, IsConnectionBefore}
use proofs.Names.{IsArbitrationBefore, IsStageBefore, AreHandshakesBefore, IsTimely, units_of, ScenarioValue, UnitState}
use proofs.Names.{Array, row_reading, row_events_by, Own, own_of, own_next, RunState, or_start, run_state}
use proofs.Names.{current_times_after, current_times_if, is_same_running, array_after_events, since_of}

-- ---- the bus

view_of : List Row → BusViewValue
view_of rows = record {
  lines = record {
    driven = drives rows 0 ∷ drives rows 1 ∷ drives rows 2 ∷ drives rows 3 ∷ drives rows 4 ∷ drives rows 5
        ∷ drives rows 6 ∷ drives rows 7 ∷ [];
    present = bus rows;
    data_lines = since (line_of 0) rows ∷ since (line_of 1) rows ∷ since (line_of 2) rows ∷ since (line_of 3) rows
        ∷ since (line_of 4) rows ∷ since (line_of 5) rows ∷ since (line_of 6) rows ∷ since (line_of 7) rows
        ∷ since (line_of 8) rows ∷ [];
    data_changed = since data_of rows;
    times = line_times rows;
    last = last_time rows;
  };
  arbitration = arbitration rows;
  call = call rows;
  connection = connection rows;
  effect = effect rows;
  handshakes = handshakes rows;
}

is_view : (rows : List Row) → IsBusViewOf rows (view_of rows)
unfolding view_of
is_view rows = record {
  lines_are = record {
    long = refl;
    drives_are = driven;
    bus_is = refl;
    data_lines_are = data_at;
    data_is = refl;
    times_are = refl;
    last_is = refl;
  };
  arbitration_is = refl;
  call_is = refl;
  connection_is = refl;
  effect_is = refl;
  handshakes_are = refl;
}
  where
    driven : (dev : ℕ) → dev < 8 → driven_at (view_of rows).lines.driven dev ≡ drives rows dev
    driven zero lt = refl
    driven (suc zero) lt = refl
    driven (suc (suc zero)) lt = refl
    driven (suc (suc (suc zero))) lt = refl
    driven (suc (suc (suc (suc zero)))) lt = refl
    driven (suc (suc (suc (suc (suc zero))))) lt = refl
    driven (suc (suc (suc (suc (suc (suc zero)))))) lt = refl
    driven (suc (suc (suc (suc (suc (suc (suc zero))))))) lt = refl
    driven (suc (suc (suc (suc (suc (suc (suc (suc n)))))))) lt = absurd (omega arith)

    data_at : (line : ℕ) → line < 9 → slice_index (view_of rows).lines.data_lines line ≡ since (line_of line) rows
    data_at zero lt = refl
    data_at (suc zero) lt = refl
    data_at (suc (suc zero)) lt = refl
    data_at (suc (suc (suc zero))) lt = refl
    data_at (suc (suc (suc (suc zero)))) lt = refl
    data_at (suc (suc (suc (suc (suc zero))))) lt = refl
    data_at (suc (suc (suc (suc (suc (suc zero)))))) lt = refl
    data_at (suc (suc (suc (suc (suc (suc (suc zero))))))) lt = refl
    data_at (suc (suc (suc (suc (suc (suc (suc (suc zero)))))))) lt = refl
    data_at (suc (suc (suc (suc (suc (suc (suc (suc (suc n))))))))) lt = absurd (omega arith)

is_timely : (end : ℕ) → 0 < end → (rows : List Row) → ComeBefore end rows → IsTimely end (view_of rows)
is_timely end some rows h = timely end some rows (view_of rows) (is_view rows) h

pub ages_before : (end : ℕ) → 0 < end → (rows : List Row) → ComeBefore end rows → AreTimesBefore end (line_times rows)
unfolding view_of
ages_before end some rows h = (is_timely end some rows h).lines.times

pub handshakes_before : (end : ℕ) → 0 < end → (rows : List Row) → ComeBefore end rows
    → AreHandshakesBefore end (handshakes rows)
unfolding view_of
handshakes_before end some rows h = (is_timely end some rows h).handshakes

stage_from : (end : ℕ) (rst : Bool) (since free : ℕ) (w : Option Connection) (c : Option Call) (a : Option Arbitration)
    → since < end → free < end → IsConnectionBefore end w → IsCallBefore end c → IsArbitrationBefore end a
    → IsStageBefore end (stage_by rst since w c a free)
stage_from end true since free w c a e f x y z = e
stage_from end false since free (Some n) c a e f x y z = x
stage_from end false since free None (Some c) a e f x y z = by c.calling y.1
  where
    by : (g : Option Calling) → IsCallingBefore end g → IsStageBefore end (call_stage c g)
    by None h = (y.0, y.1)
    by (Some g) h = answered g.answered h.answered
      where
        answered : (o : Option ℕ) → IsBefore end o → IsStageBefore end (answer_stage c g o)
        answered None v = (y.0, y.1)
        answered (Some t) v = (y.0, (h, v))
stage_from end false since free None None (Some a) e f x y z = z
stage_from end false since free None None None e f x y z = f

pub stage_before : (end : ℕ) → 0 < end → (rows : List Row) → ComeBefore end rows → IsStageBefore end (stage rows)
unfolding view_of
stage_before end some rows h =
    let t = is_timely end some rows h in
    let a = ages_before end some rows h in
    let b = a.bsy in
    let c = a.sel in
    let r = a.rst in
    stage_from end (bus rows).rst (line_times rows).rst (free_since rows) (connection rows) (call rows)
    (arbitration rows) r (omega arith) t.connection t.call t.arbitration

-- ---- a device's own rows

pub record IsOwnBefore (end : ℕ) (o : Own) : Type 0 where
  pub row : o.row < end
  pub ack : o.ack < end
  pub rst : o.rst < end

own_more : (end : ℕ) (x : Kind) (o : Own) (c : Change) (time : ℕ) → time < end → IsOwnBefore end o
    → IsOwnBefore end (own_next x o c time)
own_more end (Drives lines) o c time t h = record {
  row = t;
  ack = if_less (rises c.own.ack c.next.ack) time o.ack end t h.ack;
  rst = if_less (rises c.own.rst c.next.rst) time o.rst end t h.rst;
}
own_more end (Fault bit) o c time t h = h

own_if : (end : ℕ) (q : Bool) (a b : Own) → IsOwnBefore end a → IsOwnBefore end b → IsOwnBefore end (if q then a else b)
own_if end true a b f g = f
own_if end false a b f g = g

pub own_before : (end : ℕ) → 0 < end → (rows : List Row) (dev : ℕ) → ComeBefore end rows
    → IsOwnBefore end (own_of rows dev)
own_before end some [] dev h = record { row = some; ack = some; rst = some }
own_before end some (row ∷ rows) dev h =
    let was = own_before end some rows dev h.1 in
    own_if end (row.dev == dev) (own_next row.kind (own_of rows dev) (change_of rows row) row.time) (own_of rows dev)
    (own_more end row.kind (own_of rows dev) (change_of rows row) row.time h.0 was) was

-- ---- since when the current processes are that

abbrev pub AreNumbersBefore : ℕ → List ℕ → Type 0
AreNumbersBefore end xs = AllByRecursion (λ (t : ℕ). t < end) xs

zeros_before : (end m : ℕ) → 0 < end → AreNumbersBefore end (replicate m 0)
zeros_before end zero some = tt
zeros_before end (suc m) some = (some, zeros_before end m some)

times_after : (end time : ℕ) (before after : List UnitState) (times : List ℕ) → time < end → AreNumbersBefore end times
    → AreNumbersBefore end (current_times_after before after times time)
times_after end time (u ∷ before) (v ∷ after) (x ∷ times) t h =
    (if_less (is_same_running u.current v.current) x time end h.0 t, times_after end time before after times t h.1)
times_after end time _ _ _ t h = tt

times_if : (end : ℕ) (s : ScenarioValue) (k : RunState) (shown : List Event) (a : Option Array) (time : ℕ) → time < end
    → AreNumbersBefore end k.current_since → AreNumbersBefore end (current_times_if s k shown a time)
times_if end s k [] a time t h = h
times_if end s k (event ∷ shown) a time t h =
    times_after end time (or_start s k.array).units (or_start s a).units k.current_since t h

pub current_before : (end : ℕ) → 0 < end → (s : ScenarioValue) (rows : List Row) → ComeBefore end rows
    → AreNumbersBefore end (run_state s rows).current_since
current_before end some s [] h = zeros_before end (length (units_of s)) some
current_before end some s (row ∷ rows) h =
    let k = run_state s rows in
    let shown = row_events_by s k.story (row_reading k.story.bus_state row) row in
    times_if end s k shown (array_after_events s k.array shown) row.time h.0 (current_before end some s rows h.1)

pub since_before : (end : ℕ) → 0 < end → (units : List UnitState) (times : List ℕ) (t u : ℕ)
    → AreNumbersBefore end times → since_of units times t u < end
since_before end some [] times t u h = some
since_before end some (v ∷ units) [] t u h = some
since_before end some (v ∷ units) (x ∷ times) t u h =
    go (v.target == t) (v.unit == u) (since_before end some units times t u h.1)
  where
    go : (q r : Bool) → since_of units times t u < end → (if q && r then x else since_of units times t u) < end
    go true true e = h.0
    go true false e = e
    go false r e = e
