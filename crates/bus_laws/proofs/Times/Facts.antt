-- What is due comes within the longest delay of the rows and of the times of the scenario; and so do the rows of a
-- prompt trace.
use Rattle.bus_laws.proofs
use proofs.Names.{ℕ, ◌≡◌, ◌<◌, ◌≤◌, ◌+◌, ◌*◌, ◌^◌, Bool, true, false, List, [], ◌∷◌, Option, Some, None, refl, sym, ap}
use proofs.Names.{subst, arith, length, inl, inr, cases_Bool, find, AllByRecursion, if◌then◌else◌, ◌==◌, nat_lt}
use proofs.Names.{fast_times, slow_times, times_or_slow, times_of, AreTimesBefore, Row, TransferTimes, Connection}
use proofs.Names.{LineTimes, ComeBefore, last_before, Handshakes, IsBefore, IsStageBefore, AreHandshakesBefore, Stage}
use proofs.Names.{Dialogue, ScenarioValue, Obeys, HostDef, TargetDef, current_of, is_initiator, Array, RunningProcess}
use proofs.Names.{is_held, unit_state_at, latency_of, sample_time, Myself, lag_by, seek_by, Ready, ready_in}
use proofs.Names.{first_ready, is_ready_before, run_state_plain, is_receiver, end_due, connected_due, target_def_of}
use proofs.Names.{reset_from, self_of, link_due_of, stage_due, calm_due, device_due, due_if, due, IsPrompt, Own, own_at}
use proofs.Names.{AreOfDevices, RunState, bus_of, array_of, agreement_of, run_state, sight_of, stage_of, want_of}
use proofs.Names.{flip_of, pace_of, offering_of, answering_of, item_want_time, since_of, seek_of, ready_at, ready_among}
use proofs.Names.{ready_of, ready_time, want_time, obeys_fits, wants_before, next_reset_before, IsHostLine}
use proofs.{Names.{IsTargetLine, FitsBus}, Stages.Facts.{least_is}, Times.Limits.{latency_within}}
use proofs.Times.{Periods.{period_is_byte}, Reactions.{IsDueBefore, none_before, if_before, IsShortPace, AreAllBefore}}
use proofs.Times.Reactions.{longest, target_before, initiator_before, link_before, sample_before, reset_before}
use proofs.Times.Rows.{ages_before, handshakes_before, stage_before, IsOwnBefore, own_before, current_before}
use proofs.Times.Rows.{since_before, AreNumbersBefore}

-- ---- ready units

abbrev IsReadyBefore : ℕ → Option Ready → Type 0
IsReadyBefore limit None = Unit {0}
IsReadyBefore limit (Some r) = r.time < limit

seek_within : (s : ScenarioValue) (targets : List TargetDef) (dev : ℕ) → AllByRecursion (IsTargetLine s) targets
    → seek_of targets dev ≤ 1000000000
seek_within s [] dev h = omega arith
seek_within s (t ∷ targets) dev h =
    elim (cases_Bool (t.dev == dev)) [ inl e ↦ rw e (h.0).seek | inr e ↦ rw e (seek_within s targets dev h.1) ]

in_before : (limit : ℕ) (held : Bool) (r : Option RunningProcess) (time : ℕ) → time < limit
    → IsReadyBefore limit (ready_in held r time)
in_before limit held None time h = tt
in_before limit true (Some r) time h = tt
in_before limit false (Some r) time h = h

first_before : (limit : ℕ) (a b : Option Ready) → IsReadyBefore limit a → IsReadyBefore limit b
    → IsReadyBefore limit (first_ready a b)
first_before limit None b f g = g
first_before limit (Some a) None f g = f
first_before limit (Some a) (Some b) f g = elim (cases_Bool (is_ready_before b a)) [ inl e ↦ rw e g | inr e ↦ rw e f ]

at_before : (end : ℕ) (a : Array) (times : List ℕ) (seek t u : ℕ) → 0 < end → AreNumbersBefore end times
    → seek ≤ 1000000000 → IsReadyBefore (end + 1000000000) (ready_at a times seek t u)
at_before end a times seek t u some h e =
    let z = since_before end some a.units times t u h in
    in_before (end + 1000000000) (is_held a.holds t u) (current_of (unit_state_at a.units t u))
    (since_of a.units times t u + seek) (omega arith)

among_before : (end : ℕ) (a : Array) (times : List ℕ) (seek t : ℕ) → 0 < end → AreNumbersBefore end times
    → seek ≤ 1000000000 → IsReadyBefore (end + 1000000000) (ready_among a times seek t)
among_before end a times seek t some h e =
    let at_ : (u : ℕ) → IsReadyBefore (end + 1000000000) (ready_at a times seek t u) = λ u. at_before
    end a times seek t u some h e in
    let L : ℕ = end + 1000000000 in
    first_before L (ready_at a times seek t 0) _ (at_ 0)
    (first_before L (ready_at a times seek t 1) _ (at_ 1) (first_before L (ready_at a times seek t 2) _ (at_ 2)
    (first_before L (ready_at a times seek t 3) _ (at_ 3) (first_before L (ready_at a times seek t 4) _ (at_ 4)
    (first_before L (ready_at a times seek t 5) _ (at_ 5) (first_before L (ready_at a times seek t 6) _ (at_ 6)
    (first_before L (ready_at a times seek t 7) _ (at_ 7) tt)))))))

ready_want : (limit : ℕ) (r : Option Ready) → IsReadyBefore limit r → IsBefore limit (ready_time r)
ready_want limit None h = tt
ready_want limit (Some r) h = h

want_before : (end : ℕ) (s : ScenarioValue) (rows : List Row) (dev : ℕ) → 1000000000000 < end → FitsBus s
    → ComeBefore end rows → IsBefore (end + 1000000000) (want_time s (run_state s rows) dev)
want_before end s rows dev l w h = go (is_initiator s.hosts dev)
  where
    k : RunState
    k = run_state s rows

    go : (q : Bool) → IsBefore (end + 1000000000) (if q then item_want_time s (run_state s rows).story.sent dev
        else ready_time (ready_of s (run_state s rows) dev))
    go true = wants_before (end + 1000000000) s (run_state s rows).story.sent dev (omega arith) w
    go false = ready_want (end + 1000000000) (ready_of s (run_state s rows) dev)
        (among_before end (array_of s (run_state s rows)) (run_state s rows).current_since (seek_of s.targets dev) dev
        (omega arith) (current_before end (omega arith) s rows h) (seek_within s s.targets dev w.targets))

-- ---- how bytes cross, and how long a target waits

record IsShortTimes (t : TransferTimes) : Type 0 where
  period : t.period ≤ 2000
  assertion : t.assertion ≤ 2000
  negation : t.negation ≤ 2000
  set_up : t.set_up ≤ 2000
  hold : t.hold ≤ 2000

slow_short : (factor : ℕ) → factor < 256 → IsShortTimes (slow_times factor)
slow_short factor h = record {
  period = omega arith;
  assertion = omega arith;
  negation = omega arith;
  set_up = omega arith;
  hold = omega arith;
}

times_short : (factor : ℕ) → factor < 256 → IsShortTimes (times_of factor)
times_short factor h = go (nat_lt factor 25) (nat_lt factor 50)
  where
    go : (q r : Bool) → IsShortTimes
        (times_or_slow factor (if q then None else if r then Some (fast_times factor) else Some (slow_times factor)))
    go true r = slow_short factor h
    go false true = record {
      period = omega arith;
      assertion = omega arith;
      negation = omega arith;
      set_up = omega arith;
      hold = omega arith;
    }
    go false false = slow_short factor h

lag_within : (s : ScenarioValue) (hosts : List HostDef) (dev : ℕ) → AllByRecursion (IsHostLine s) hosts
    → lag_by (find (λ (h : HostDef). h.dev == dev) hosts) ≤ 10000
lag_within s [] dev a = omega arith
lag_within s (h ∷ hosts) dev a =
    elim (cases_Bool (h.dev == dev)) [ inl e ↦ rw e (a.0).lag | inr e ↦ rw e (lag_within s hosts dev a.1) ]

wait_within : (s : ScenarioValue) (targets : List TargetDef) (dev : ℕ) → AllByRecursion (IsTargetLine s) targets
    → seek_by (find (λ (t : TargetDef). t.dev == dev) targets) ≤ 1000000000
wait_within s [] dev a = omega arith
wait_within s (t ∷ targets) dev a =
    elim (cases_Bool (t.dev == dev)) [ inl e ↦ rw e (a.0).seek | inr e ↦ rw e (wait_within s targets dev a.1) ]

pace_short : (s : ScenarioValue) (rows : List Row) (dev : ℕ) → FitsBus s → AreOfDevices rows
    → IsShortPace (pace_of s (run_state s rows) dev)
pace_short s rows dev w h =
    let d = (run_state_plain s rows h).dialogue in
    let e : (agreement_of (run_state s rows)).period < 256 =
    let z = ap (λ (x : Dialogue). x.heard.now.agreement.period) d in let y = period_is_byte rows in omega arith in
    let t = times_short (agreement_of (run_state s rows)).period e in
    record {
      period = t.period;
      assertion = t.assertion;
      negation = t.negation;
      set_up = t.set_up;
      hold = t.hold;
      lag = lag_within s s.hosts dev w.hosts;
    }

wait_short : (s : ScenarioValue) (rows : List Row) (dev : ℕ) → FitsBus s
    → (offering_of s (run_state s rows) dev).wait ≤ 1000000000
wait_short s rows dev w = go _
  where
    go : (q : Bool) → (if q then seek_by (target_def_of s dev) else 0) ≤ 1000000000
    go true = wait_within s s.targets dev w.targets
    go false = omega arith

-- ---- what is due

pub due_before : (end : ℕ) (s : ScenarioValue) (rows : List Row) (dev : ℕ) → 1000000000000 < end → FitsBus s
    → AreOfDevices rows → dev < 8 → ComeBefore end rows → IsDueBefore (end + longest) (due s rows dev)
due_before end s rows dev l w h lt c = by (latency_of s dev) refl
  where
    some : 0 < end
    some = omega arith

    k : RunState
    k = run_state s rows

    reset : (lat : ℕ) → lat ≤ 100 → IsDueBefore (end + longest)
        (device_due s (run_state s rows) (self_of (run_state s rows) dev lat) (own_at (run_state s rows).owns dev))
    reset lat q =
        let pl = run_state_plain s rows h in
        let o : IsOwnBefore end (own_at (run_state s rows).owns dev) = subst
        (λ (x : Own). IsOwnBefore end x) (sym (pl.own dev lt)) (own_before end some rows dev c) in
        let ages : AreTimesBefore end (run_state s rows).ages = subst
        (λ (x : LineTimes). AreTimesBefore end x) (sym pl.ages) (ages_before end some rows c) in
        let hs : AreHandshakesBefore end (run_state s rows).handshakes = subst
        (λ (x : Handshakes). AreHandshakesBefore end x) (sym pl.handshakes) (handshakes_before end some rows c) in
        let st : IsStageBefore end (stage_of (run_state s rows)) = subst
        (λ (x : Stage). IsStageBefore end x) (sym pl.stage) (stage_before end some rows c) in
        let last : (run_state s rows).last < end = let z = last_before end some rows c in
        let y = pl.last in omega arith in
        let b = ages.bsy in
        let e = ages.sel in
        let me : Myself = self_of (run_state s rows) dev lat in
        let all : AreAllBefore end (sight_of (run_state s rows)) (run_state s rows).handshakes me =
        record { ages = ages; handshakes = hs; since = o.row; latency = q } in
        let want = want_before end s rows dev l w c in
        let link : IsDueBefore (end + longest) (link_due_of s (run_state s rows) me) = link_before end
        (bus_of (run_state s rows)) (run_state s rows).ages.bsy
        (run_state s rows).ages.sel me (want_of s (run_state s rows) dev)
        (flip_of (run_state s rows).faults (sample_time (sight_of (run_state s rows)) me))
        (stage_of (run_state s rows)) b e o.row q want st in
        let ends : (n : Connection) → IsDueBefore (end + longest) (connected_due s (run_state s rows) me n) =
        λ n. sample_before end (is_receiver n (run_state s rows).story.bus_state.crossed dev) (run_state s rows).last
        (flip_of (run_state s rows).faults (run_state s rows).last) (end_due s (run_state s rows) me n) last
        (if_before (end + longest) (n.initiator == dev) _ _ (initiator_before end (run_state s rows).exchange.begun
        (sight_of (run_state s rows)) (run_state s rows).handshakes me (pace_of s (run_state s rows) dev)
        (answering_of s (run_state s rows) dev) some all (pace_short s rows dev w h) o.ack) (if_before (end + longest)
        (n.target == dev) _ _ (target_before end (run_state s rows).exchange.begun (sight_of (run_state s rows))
        (run_state s rows).handshakes me (pace_of s (run_state s rows) dev) (offering_of s (run_state s rows) dev)
        some all (pace_short s rows dev w h) (wait_short s rows dev w)) (none_before (end + longest)))) in
        reset_before end me (own_at (run_state s rows).owns dev).rst
        (reset_from dev (own_at (run_state s rows).owns dev).released s.resets) (calm_due s (run_state s rows) me)
        o.rst q (next_reset_before end s dev (own_at (run_state s rows).owns dev).released l w)
        (calm me link ends (bus_of (run_state s rows)).rst (run_state s rows).story.bus_state.connection)
      where
        calm : (me : Myself) → IsDueBefore (end + longest) (link_due_of s (run_state s rows) me)
            → ((n : Connection) → IsDueBefore (end + longest) (connected_due s (run_state s rows) me n))
            → (r : Bool) (n : Option Connection) → IsDueBefore (end + longest) (stage_due s (run_state s rows) me r n)
        calm me a f true n = a
        calm me a f false None = a
        calm me a f false (Some n) = f n

    by : (o : Option ℕ) → latency_of s dev ≡ o → IsDueBefore (end + longest) (due_if s (run_state s rows) dev o)
    by None e = none_before (end + longest)
    by (Some lat) e = reset lat (latency_within s dev lat w e)

-- ---- prompt traces

later : (a b : ℕ) (rows : List Row) → a ≤ b → ComeBefore a rows → ComeBefore b rows
later a b [] l h = tt
later a b (row ∷ rows) l h = let z = h.0 in (omega arith, later a b rows l h.1)

record IsBounded (rows : List Row) : Type 0 where
  devices : AreOfDevices rows
  times : ComeBefore (1000000000001 + length rows * 1000100000) rows

bounded : (s : ScenarioValue) → FitsBus s → (rows : List Row) → IsPrompt s rows → IsBounded rows
bounded s w [] e = record { devices = tt; times = tt }
bounded s w (row ∷ rows) e =
    let was = bounded s w rows e.0 in
    let m = least_is s rows row e.1 in
    let t = due_before (1000000000001 + length rows * 1000100000) s rows row.dev
    (omega arith) w was.devices m.inside was.times (record { time = row.time; kind = row.kind }) m.is_due in
    record {
      devices = (m.inside, was.devices);
      times = (
        omega arith,
        later (1000000000001 + length rows * 1000100000) (1000000000001 + length (row ∷ rows) * 1000100000) rows
            (omega arith) was.times,
      );
    }

pub times_bounded : (s : ScenarioValue) → Obeys s → (rows : List Row) → IsPrompt s rows
    → ComeBefore (1000000000001 + length rows * 1000100000) rows
times_bounded s o rows e = (bounded s (obeys_fits s o) rows e).times

pub times_far : (s : ScenarioValue) → Obeys s → (rows : List Row) → IsPrompt s rows → length rows ≤ 2 ^ 32
    → ComeBefore (2 ^ 62) rows
times_far s o rows e l =
    later (1000000000001 + length rows * 1000100000) (2 ^ 62) rows (omega arith) (times_bounded s o rows e)
