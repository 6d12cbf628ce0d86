-- What is due, in each stage and by what a device drives.
use Rattle.bus_laws.proofs
use proofs.Names.{ℕ, ◌≡◌, ◌≤◌, ◌<◌, ◌+◌, Bool, true, false, not, ◌∙◌, List, Option, Some, None, refl, sym, ap, arith}
use proofs.Names.{not-true, leb-true, max, LineSet, none, has_id_above, connection, call, arbitration, free_since}
use proofs.Names.{drives, bus, line_times, Kind, Drives, Fault, Row, Arbitration, ARBITRATION_DELAY, BUS_SETTLE_DELAY}
use proofs.Names.{BUS_SET_DELAY, ENTRY_DELAY, stage, stage_by, Stage, OnFreeBus, InArbitration, InReset, ScenarioValue}
use proofs.Names.{latency_of, contender_lines, free_due, later_entry_if, bus_clear, link_due_by, link_due, sample_time}
use proofs.Names.{due_at, due_where, Due, Myself, Sight, run_state_plain, self_of, stage_due, link_due_of, Own}
use proofs.Names.{AreOfDevices, bus_of, run_state, sight_of, want_of, flip_of, want_time, own_time, device_with}
use proofs.Names.{unreset_due_if, unreset_due}

abbrev seen_at : List Row → Stage → Sight
seen_at p g = record { bus = bus p; ages = line_times p; stage = g }

-- What is due of a device whose lines are known, in a stage that is known and has no connection.
pub due_in : (s : ScenarioValue) (p : List Row) (e lat : ℕ) (own : LineSet) (g : Stage) → AreOfDevices p → e < 8
    → latency_of s e ≡ Some lat → connection p ≡ None → stage p ≡ g → drives p e ≡ own → unreset_due s p e
    ≡ link_due_by (bus p) (line_times p).bsy (line_times p).sel (device_with e lat own (own_time p e))
    (want_of s (run_state s p) e) (flip_of (run_state s p).faults ((line_times p).bsy + BUS_SETTLE_DELAY + lat)) g
due_in s p e lat own g h lt there alone eg eo =
    let k = run_state s p in
    let a = run_state_plain s p h in
    let o = a.drives e lt ∙ eo in
    let w = ap (λ (x : Own). x.row) (a.own e lt) in
    let v : sight_of k ≡ seen_at p g = a.sight ∙ (λ i. seen_at p (eg i)) in
    ap (unreset_due_if s k e) there ∙ ap (stage_due s k (self_of k e lat) (bus_of k).rst) (a.connection ∙ alone)
    ∙ go (bus_of k).rst (self_of k e lat) ∙ (λ i. link_due (v i) (device_with e lat (o i) (w i)) (want_of s k e)
    (flip_of k.faults (sample_time (v i) (device_with e lat (o i) (w i)))))
  where
    go : (q : Bool) (me : Myself) → stage_due s (run_state s p) me q None ≡ link_due_of s (run_state s p) me
    go true me = refl
    go false me = refl

-- a device that is not there does nothing
pub not_there : (s : ScenarioValue) (p : List Row) (e : ℕ) → latency_of s e ≡ None → unreset_due s p e ≡ None
not_there s p e there = ap (unreset_due_if s (run_state s p) e) there

-- a device of which something is due is there
pub is_there : (s : ScenarioValue) (p : List Row) (e : ℕ) (x : Due) → unreset_due s p e ≡ Some x
    → (lat : ℕ) × (latency_of s e ≡ Some lat)
is_there s p e x h = go (latency_of s e) refl
  where
    go : (o : Option ℕ) → latency_of s e ≡ o → (lat : ℕ) × (latency_of s e ≡ Some lat)
    go None q = let w = sym (not_there s p e q) ∙ h in absurd cc
    go (Some lat) q = (lat, q)

lines_in : Kind → LineSet
lines_in (Drives l) = l
lines_in (Fault b) = none

-- a reaction that comes due_at a time, with lines
pub record Is (x : Due) (time : ℕ) (lines : LineSet) : Type 0 where
  pub time_is : x.time ≡ time
  pub kind_is : x.kind ≡ Drives lines

pub is_at : (time : ℕ) (lines : LineSet) (x : Due) → due_at time lines ≡ Some x → Is x time lines
is_at time lines x e =
    let same : (let y : Due = record { time = time; kind = Drives lines } in y) ≡ x = cc in
    record { time_is = sym (ap (λ (y : Due). y.time) same); kind_is = sym (ap (λ (y : Due). y.kind) same) }

pub same_lines : (l m : LineSet) → (let a : Kind = Drives l in a) ≡ Drives m → l ≡ m
unfolding lines_in
same_lines l m e = ap lines_in e

pub where_is : (q : Bool) (o : Option Due) (x : Due) → due_where q o ≡ Some x → (q ≡ true) × (o ≡ Some x)
where_is true o x e = (refl, e)
where_is false o x e = absurd cc

-- what an entry that is due is
pub record IsEntry (d lat free : ℕ) (w : Option ℕ) (x : Due) : Type 0 where
  pub after_free : free + ENTRY_DELAY ≤ x.time
  pub kind_is : x.kind ≡ Drives (contender_lines d)

pub is_entry : (d lat since free : ℕ) (own : LineSet) (w : Option ℕ) (x : Due)
    → free_due (device_with d lat own since) free w ≡ Some x → IsEntry d lat free w x
is_entry d lat since free own None x e = absurd cc
is_entry d lat since free own (Some w) x e =
    let h = is_at (max (free + ENTRY_DELAY) w + lat) (contender_lines d) x e in
    let k = h.time_is in
    record { after_free = omega arith; kind_is = h.kind_is }

-- one in an arbitration is that of the free bus, and comes within a bus set delay
pub is_entry_in : (d lat since : ℕ) (own : LineSet) (a : Arbitration) (w : Option ℕ) (x : Due)
    → later_entry_if (device_with d lat own since) a w ≡ Some x
    → (free_due (device_with d lat own since) a.free w ≡ Some x) × (x.time ≤ a.first + BUS_SET_DELAY)
is_entry_in d lat since own a None x e = absurd cc
is_entry_in d lat since own a (Some w) x e =
    let h = where_is _ _ x e in
    let k = (is_at (max (a.free + ENTRY_DELAY) w + lat) (contender_lines d) x h.1).time_is in
    let low = leb-true _ _ h.0 in
    (h.1, omega arith)

-- ---- an arbitration

-- what the row that raises SEL is
pub record IsWin (p : List Row) (e lat : ℕ) (x : Due) : Type 0 where
  pub time_is : x.time ≡ own_time p e + ARBITRATION_DELAY + lat
  pub kind_is : x.kind ≡ Drives (record (contender_lines e) { sel = true })
  pub highest : has_id_above (bus p) e ≡ false

pub win_due : (s : ScenarioValue) (p : List Row) (e lat : ℕ) (a : Arbitration) (x : Due) → AreOfDevices p → e < 8
    → latency_of s e ≡ Some lat → connection p ≡ None → stage p ≡ InArbitration a → drives p e ≡ contender_lines e
    → unreset_due s p e ≡ Some x → IsWin p e lat x
win_due s p e lat a x h lt there alone eg eo r =
    let z = sym (due_in s p e lat (contender_lines e) (InArbitration a) h lt there alone eg eo) ∙ r in
    let w = where_is (not (has_id_above (bus p) e))
    (due_at (own_time p e + ARBITRATION_DELAY + lat) (record (contender_lines e) { sel = true })) x z in
    let v = is_at (own_time p e + ARBITRATION_DELAY + lat) (record (contender_lines e) { sel = true }) x w.1 in
    record { time_is = v.time_is; kind_is = v.kind_is; highest = not-true (has_id_above (bus p) e) w.0 }

pub idle_due : (s : ScenarioValue) (p : List Row) (e lat : ℕ) (a : Arbitration) → AreOfDevices p → e < 8
    → latency_of s e ≡ Some lat → connection p ≡ None → stage p ≡ InArbitration a → drives p e ≡ none
    → unreset_due s p e ≡ later_entry_if (device_with e lat none (own_time p e)) a (want_time s (run_state s p) e)
idle_due s p e lat a h lt there alone eg eo = due_in s p e lat none (InArbitration a) h lt there alone eg eo

pub free_due_is : (s : ScenarioValue) (p : List Row) (e lat f : ℕ) → AreOfDevices p → e < 8
    → latency_of s e ≡ Some lat → connection p ≡ None → stage p ≡ OnFreeBus f → drives p e ≡ none
    → unreset_due s p e ≡ free_due (device_with e lat none (own_time p e)) f (want_time s (run_state s p) e)
free_due_is s p e lat f h lt there alone eg eo = due_in s p e lat none (OnFreeBus f) h lt there alone eg eo

-- when its last row was is nothing to an entry
pub same_entry : (e lat x y free : ℕ) (w : Option ℕ)
    → free_due (device_with e lat none x) free w ≡ free_due (device_with e lat none y) free w
same_entry e lat x y free None = refl
same_entry e lat x y free (Some w) = refl

pub same_entry_in : (e lat x y : ℕ) (a : Arbitration) (w : Option ℕ)
    → later_entry_if (device_with e lat none x) a w ≡ later_entry_if (device_with e lat none y) a w
same_entry_in e lat x y a None = refl
same_entry_in e lat x y a (Some w) = refl

-- Under RST, whatever stands otherwise.
pub due_in_reset : (s : ScenarioValue) (p : List Row) (e lat : ℕ) (own : LineSet)
    → AreOfDevices p → e < 8 → latency_of s e ≡ Some lat → (bus p).rst ≡ true → drives p e ≡ own
    → unreset_due s p e ≡ bus_clear (device_with e lat own (own_time p e)) (line_times p).rst
due_in_reset s p e lat own h lt there rst eo =
    let k = run_state s p in
    let a = run_state_plain s p h in
    let o = a.drives e lt ∙ eo in
    let w = ap (λ (x : Own). x.row) (a.own e lt) in
    let g : stage p ≡ InReset (line_times p).rst = λ i. stage_by (rst i)
    (line_times p).rst (connection p) (call p) (arbitration p) (free_since p) in
    let v : sight_of k ≡ seen_at p (InReset (line_times p).rst) = a.sight ∙ (λ i. seen_at p (g i)) in
    ap (unreset_due_if s k e) there
    ∙ (λ i. stage_due s k (self_of k e lat) ((ap (λ (b : LineSet). b.rst) a.bus ∙ rst) i) k.story.bus_state.connection)
    ∙ (λ i. link_due (v i) (device_with e lat (o i) (w i)) (want_of s k e)
    (flip_of k.faults (sample_time (v i) (device_with e lat (o i) (w i)))))
