-- How far the processes of a target have come goes on row by row.
use Rattle.std.proofs.Common.{ℕ, ◌⊎◌, inl, inr, zero, suc, ◌≡◌, ◌≢◌, ◌+◌, ◌<◌, ◌≤◌, Bool, true, false, List, [], ◌∷◌}
use Rattle.std.proofs.Common.{◌∙◌, refl, sym, ap, subst, arith, length, set, replicate, Option, Some, None}
use Rattle.std.specs.Prelude.{if◌then◌else◌, min, ◌^◌, ◌-◌, ◌&&◌, ◌||◌, ◌==◌}
use Rattle.std.proofs.lemmas.Bool.{eqb-true, eqb-false, and_parts}
use Rattle.std.proofs.lemmas.List.{get_or-set_same, get_or-set_other, length-set, length-replicate}
use Rattle.std.proofs.lemmas.Option.{same_Some}
use Rattle.bus_base.specs.declared.ProcId.{ProcId}
use Rattle.bus_trace.specs.declared.Row.{Row}
use Rattle.bus_trace.specs.declared.connection.Connection.{Connection}
use Rattle.bus_trace.specs.Phases.{changes_phase}
use Rattle.bus_trace.specs.Terms.{connection}
use Rattle.scenario.specs.declared.value.CmdDef.{CmdDef}
use Rattle.scenario.specs.Value.{ScenarioValue}
use Rattle.array_model.specs.Processes.{Process, command_at, process_if, process_of, same_bool, same_id}
use Rattle.due_model.specs.story_model.specs.BusState.{RowReading, row_reading}
use Rattle.due_model.specs.story_model.specs.Items.{Item, process, abort}
use Rattle.due_model.specs.dialogue_model.specs.Hearing.{hearing}
use Rattle.due_model.specs.dialogue_model.specs.PhaseBytes.{one_if}
use Rattle.due_model.specs.dialogue_model.specs.declared.exchange.Hearing.{Hearing}
use Rattle.due_model.specs.dialogue_model.specs.declared.exchange.Leaving.{Leaving}
use Rattle.due_model.specs.Faithful.{has_ends, faithful}
use Rattle.due_model.specs.LastingState.{ProcessProgress, progress_in, progress_with}
use Rattle.due_model.specs.Plain.{IsPlain, AreOfDevices}
use Rattle.due_model.specs.RunState.{RunState, process_item, process_served}
use Rattle.due_model.specs.RunSteps.{run_state, progress_by_leaving, progress_after, leaving_of}
use Rattle.due_model.specs.Sights.{leaving, hearing_of}
use Rattle.due_model.specs.Telling.{id_of}
use Rattle.target_course.specs.Progress.{no_counts, counts_after, no_pair, half_of, pair_after, pair_at, counts_at}
use Rattle.target_course.specs.Progress.{pairs_after, ProgressValue, no_progress, is_phase_left, progress_counted}
use Rattle.target_course.specs.Progress.{progress_seen, counts_of, AreCounted, IsProgressOf, IsLeftSo, IsUncounted}
use Rattle.target_course.specs.Progress.{AreExactly}
use Rattle.target_course.specs.declared.progress.Counts.{Counts}
use Rattle.target_course.specs.declared.progress.CountsPair.{CountsPair}
use Rattle.target_course.proofs.ServedEnds.{ends_are}
use Rattle.array_model.proofs.SeatLookups.{same_id_is}
use Rattle.array_model.proofs.SoundArrays.{id_is}
use Rattle.bus_phases.specs.Phases.{count_after}
use Rattle.due_model.proofs.Lookups.{other_kept}

-- ---- counts

one_more : (n : ℕ) (now : Bool) → min (n + one_if now) (2 ^ 64 - 1) ≡ count_after now (min n (2 ^ 64 - 1))
one_more n true = omega arith
one_more n false = omega arith

-- ---- look-ups

pair_put : (v : List CountsPair) (k n : ℕ) (x : CountsPair) → n < length v
    → pair_at (set v k x) n ≡ (if k == n then x else pair_at v n)
pair_put v k n x l = go (k == n) refl
  where
    go : (y : Bool) → (k == n) ≡ y → pair_at (set v k x) n ≡ (if y then x else pair_at v n)
    go true e =
        let here : k ≡ n = eqb-true k n e in
        let within : k < length v = (let z = here in omega arith) in
        (λ i. pair_at (set v k x) (sym here i)) ∙ get_or-set_same v k x no_pair within
    go false e = let other : n ≢ k = (λ z. eqb-false k n e (sym z)) in get_or-set_other v k n x no_pair other

half_put : (p : CountsPair) (x y : Bool) (l : Leaving)
    → half_of (pair_after p x l) y ≡ (if same_bool x y then counts_after (half_of p y) l else half_of p y)
half_put p true true l = refl
half_put p true false l = refl
half_put p false true l = refl
half_put p false false l = refl

counts_put : (v : List CountsPair) (p id : ProcId) (l : Leaving) → id.command < length v
    → counts_at (pairs_after v p l) id ≡ (if same_id p id then counts_after (counts_at v id) l else counts_at v id)
counts_put v p id l lt =
    (λ i. half_of (pair_put v p.command id.command (pair_after (pair_at v p.command) p.sense l) lt i) id.sense)
    ∙ go (p.command == id.command) refl
  where
    go : (q : Bool) → (p.command == id.command) ≡ q
        → half_of (if q then pair_after (pair_at v p.command) p.sense l else pair_at v id.command) id.sense
        ≡ (if q && same_bool p.sense id.sense then counts_after (counts_at v id) l else counts_at v id)
    go true e = (λ i. half_of (pair_after (pair_at v (eqb-true p.command id.command e i)) p.sense l) id.sense)
        ∙ half_put (pair_at v id.command) p.sense id.sense l
    go false e = refl

-- A process that is counted, and any other.
abbrev pub entry_with : List ProcessProgress → ProcId → Bool → Bool → ProcessProgress
entry_with all id x y = record {
  id = id;
  runs = (progress_in all id).runs + one_if x;
  recoveries = (progress_in all id).recoveries + one_if y;
}

abbrev counts_with : List ProcessProgress → ProcId → Bool → Bool → Counts
counts_with all id x y = counts_of (entry_with all id x y)

pub plus_none : (n : ℕ) → n ≡ n + 0
plus_none n = omega arith

self_counted : (all : List ProcessProgress) (id : ProcId) (x y : Bool) → same_id id id ≡ true
    → counts_of (progress_in (progress_with all id x y) id) ≡ counts_with all id x y
self_counted all id true y e = λ i. counts_of (if e i then entry_with all id true y else progress_in all id)
self_counted all id false true e = λ i. counts_of (if e i then entry_with all id false true else progress_in all id)
self_counted all id false false e = λ i. record {
  runs = min (plus_none (progress_in all id).runs i) (2 ^ 64 - 1);
  recoveries = min (plus_none (progress_in all id).recoveries i) (2 ^ 64 - 1);
}

found_counted : (all : List ProcessProgress) (a id : ProcId) (l : Leaving) → same_id a id ≡ true
    → counts_of (progress_in (progress_with all a l.done l.counts) id) ≡ counts_with all id l.done l.counts
found_counted all a id l e = subst (λ (z : ProcId). counts_of (progress_in (progress_with all z l.done l.counts) id)
    ≡ counts_with all id l.done l.counts) (sym (same_id_is a id e))
    (self_counted all id l.done l.counts ((λ i. same_id (sym (same_id_is a id e) i) id) ∙ e))

counted_so : (all : List ProcessProgress) (id : ProcId) (l : Leaving)
    → counts_after (counts_of (progress_in all id)) l ≡ counts_with all id l.done l.counts
counted_so all id l = λ i. record {
  runs = sym (one_more (progress_in all id).runs l.done) i;
  recoveries = sym (one_more (progress_in all id).recoveries l.counts) i;
}

in_range : (commands : List CmdDef) (n : ℕ) (c : CmdDef) → command_at commands n ≡ Some c → n < length commands + 1
in_range [] n c e = cc
in_range (d ∷ commands) zero c e = cc
in_range (d ∷ commands) (suc zero) c e = omega arith
in_range (d ∷ commands) (suc (suc n)) c e = omega (arith, in_range commands (suc n) c e)

process_range : (s : ScenarioValue) (id : ProcId) (p : Process) → process_of s id ≡ Some p
    → id.command < length s.commands + 1
process_range s id p e = go (command_at s.commands id.command) refl e
  where
    go : (c : Option CmdDef) → command_at s.commands id.command ≡ c → process_if s id c ≡ Some p
        → id.command < length s.commands + 1
    go None f g = cc
    go (Some c) f g = in_range s.commands id.command c f

-- ---- a phase is left, of a process of this target or of another

own_counted :
    (s : ScenarioValue) (all : List ProcessProgress) (v : ProgressValue) (a : ProcId) (p : Process) (l : Leaving)
    → process_of s a ≡ Some p → AreCounted s all v
    → AreCounted s (progress_with all p.id l.done l.counts) (progress_counted v (Some a) l)
own_counted s all v a p l e h = record {
  long = length-set v.pairs a.command (pair_after (pair_at v.pairs a.command) a.sense l) ∙ h.long;
  counts = λ id q f t.
      counts_put v.pairs a id l (subst (λ (n : ℕ). id.command < n) (sym h.long) (process_range s id q f))
      ∙ by id q f t (same_id a id) refl
      ∙ (λ i. counts_of (progress_in (progress_with all (sym named i) l.done l.counts) id));
}
  where
    named : p.id ≡ a
    named = id_is s a p e

    by : (id : ProcId) (q : Process) → process_of s id ≡ Some q → q.target ≡ v.dev → (r : Bool) → same_id a id ≡ r
        → (if same_id a id then counts_after (counts_at v.pairs id) l else counts_at v.pairs id)
        ≡ counts_of (progress_in (progress_with all a l.done l.counts) id)
    by id q f t true g =
        (λ i. if g i then counts_after (counts_at v.pairs id) l else counts_at v.pairs id)
        ∙ (λ i. counts_after (h.counts id q f t i) l)
        ∙ counted_so all id l
        ∙ sym (found_counted all a id l g)
    by id q f t false g =
        (λ i. if g i then counts_after (counts_at v.pairs id) l else counts_at v.pairs id)
        ∙ h.counts id q f t
        ∙ sym (ap (λ (z : ProcessProgress). counts_of z) (other_kept all a id l.done l.counts g))

-- What is served is no process of the scenario.
none_counted : (s : ScenarioValue) (all : List ProcessProgress) (v : ProgressValue) (a : ProcId) (l : Leaving)
    → process_of s a ≡ None → AreCounted s all v → AreCounted s all (progress_counted v (Some a) l)
none_counted s all v a l e h = record {
  long = length-set v.pairs a.command (pair_after (pair_at v.pairs a.command) a.sense l) ∙ h.long;
  counts = λ id q f t.
      counts_put v.pairs a id l (subst (λ (n : ℕ). id.command < n) (sym h.long) (process_range s id q f))
      ∙ by id q f t (same_id a id) refl;
}
  where
    by : (id : ProcId) (q : Process) → process_of s id ≡ Some q → q.target ≡ v.dev → (r : Bool) → same_id a id ≡ r
        → (if same_id a id then counts_after (counts_at v.pairs id) l else counts_at v.pairs id)
        ≡ counts_of (progress_in all id)
    by id q f t true g = (let bad : None ≡ Some q = sym e ∙ (λ i. process_of s (same_id_is a id g i)) ∙ f in cc)
    by id q f t false g =
        (λ i. if g i then counts_after (counts_at v.pairs id) l else counts_at v.pairs id) ∙ h.counts id q f t

other_counted : (s : ScenarioValue) (all : List ProcessProgress) (v : ProgressValue) (p : Process) (x y : Bool)
    → process_of s p.id ≡ Some p → p.target ≢ v.dev → AreCounted s all v → AreCounted s (progress_with all p.id x y) v
other_counted s all v p x y e other h =
    record { long = h.long; counts = λ id q f t. h.counts id q f t ∙ by id q f t (same_id p.id id) refl }
  where
    by : (id : ProcId) (q : Process) → process_of s id ≡ Some q → q.target ≡ v.dev → (r : Bool) → same_id p.id id ≡ r
        → counts_of (progress_in all id) ≡ counts_of (progress_in (progress_with all p.id x y) id)
    by id q f t true g = absurd (other
        (ap (λ (z : Process). z.target) (same_Some p q (sym e ∙ (λ i. process_of s (same_id_is p.id id g i)) ∙ f)) ∙ t))
    by id q f t false g = sym (ap (λ (z : ProcessProgress). counts_of z) (other_kept all p.id id x y g))

-- Of what is served in a connection of this target, and in one of another.
left_by_own : (s : ScenarioValue) (k : RunState) (v : ProgressValue) (served : Option Item) (l : Leaving)
    → k.served ≡ served → AreCounted s k.progress v
    → AreCounted s (progress_by_leaving k (process_item s served) l) (progress_counted v (id_of served) l)
left_by_own s k v None l e h = h
left_by_own s k v (Some (abort n)) l e h = h
left_by_own s k v (Some (process id)) l e h = go (process_of s id) refl
  where
    go : (p : Option Process) → process_of s id ≡ p
        → AreCounted s (progress_by_leaving k p l) (progress_counted v (Some id) l)
    go None f = none_counted s k.progress v id l f h
    go (Some p) f = own_counted s k.progress v id p l f h

pub named_so : (s : ScenarioValue) (served : Option Item) (p : Process) → process_item s served ≡ Some p
    → process_of s p.id ≡ Some p
named_so s None p e = cc
named_so s (Some (abort n)) p e = cc
named_so s (Some (process id)) p e = (λ i. process_of s (id_is s id p e i)) ∙ e

left_by_other : (s : ScenarioValue) (k : RunState) (v : ProgressValue) (m : Connection) (l : Leaving)
    → has_ends (process_served s k) m ≡ true → (m.target == v.dev) ≡ false → AreCounted s k.progress v
    → AreCounted s (progress_by_leaving k (process_served s k) l) v
left_by_other s k v m l ends other h = go (process_served s k) refl ends
  where
    go : (p : Option Process) → process_served s k ≡ p → has_ends p m ≡ true
        → AreCounted s (progress_by_leaving k p l) v
    go None e f = h
    go (Some p) e f =
        let at : p.target ≡ m.target = eqb-true p.target m.target
        (and_parts (p.initiator == m.initiator) (p.target == m.target) f).1 in
        other_counted s k.progress v p l.done l.counts (named_so s k.served p e)
        (λ z. eqb-false m.target v.dev other (sym at ∙ z)) h

-- Nothing is counted.
same_counts : (c : Counts) (l : Leaving) → IsUncounted l → counts_after c l ≡ c
same_counts c l u =
    λ i. record { runs = count_after (u.done i) c.runs; recoveries = count_after (u.counts i) c.recoveries }

uncounted_kept :
    (s : ScenarioValue) (all : List ProcessProgress) (v : ProgressValue) (known : Option ProcId) (l : Leaving)
    → IsUncounted l → AreCounted s all v → AreCounted s all (progress_counted v known l)
uncounted_kept s all v None l u h = h
uncounted_kept s all v (Some a) l u h = record {
  long = length-set v.pairs a.command (pair_after (pair_at v.pairs a.command) a.sense l) ∙ h.long;
  counts =
      λ id q f t. counts_put v.pairs a id l (subst (λ (n : ℕ). id.command < n) (sym h.long) (process_range s id q f))
      ∙ either (same_id a id) (counts_at v.pairs id) (counts_after (counts_at v.pairs id) l)
      (same_counts (counts_at v.pairs id) l u) ∙ h.counts id q f t;
}
  where
    either : (r : Bool) (x y : Counts) → y ≡ x → (if r then y else x) ≡ x
    either true x y e = e
    either false x y e = refl

uncounted_by : (s : ScenarioValue) (k : RunState) (p : Option Process) (v : ProgressValue) (l : Leaving) → IsUncounted l
    → AreCounted s k.progress v → AreCounted s (progress_by_leaving k p l) v
uncounted_by s k None v l u h = h
uncounted_by s k (Some p) v l u h = subst (λ (all : List ProcessProgress). AreCounted s all v)
    (λ i. progress_with k.progress p.id (sym u.done i) (sym u.counts i)) h

-- ---- a row

-- The process that is served leaves a phase so; or nothing is counted as it is left.
abbrev IsLeftBy : ScenarioValue → RunState → ℕ → Option ProcId → Leaving → Type 0
IsLeftBy s k dev known l =
    ((known ≡ id_of k.served) × (l ≡ leaving s k dev)) ⊎ (IsUncounted l × IsUncounted (leaving s k dev))

left_counted : (s : ScenarioValue) (k : RunState) (v : ProgressValue) (known : Option ProcId) (l : Leaving)
    → IsLeftBy s k v.dev known l → AreCounted s k.progress v
    → AreCounted s (progress_by_leaving k (process_served s k) (leaving s k v.dev)) (progress_counted v known l)
left_counted s k v known l (inl so) h = subst (λ (z : Option ProcId). AreCounted s
    (progress_by_leaving k (process_served s k) (leaving s k v.dev)) (progress_counted v z l)) (sym so.0)
    (subst (λ (z : Leaving). AreCounted s (progress_by_leaving k (process_served s k) (leaving s k v.dev))
    (progress_counted v (id_of k.served) z)) (sym so.1) (left_by_own s k v k.served (leaving s k v.dev) refl h))
left_counted s k v known l (inr so) h = uncounted_by s k (process_served s k) (progress_counted v known l)
    (leaving s k v.dev) so.1 (uncounted_kept s k.progress v known l so.0 h)

row_counted : (s : ScenarioValue) (k : RunState) (d : RowReading) (v : ProgressValue) (known : Option ProcId)
    (l : Leaving) (w : Hearing) (before after : Option Connection) → changes_phase w.change ≡ changes_phase d.change
    → w.begun ≡ k.exchange.begun → ((n : Connection) → before ≡ Some n → has_ends (process_served s k) n ≡ true)
    → ((n m : Connection) → before ≡ Some n → after ≡ Some m → (n.target == v.dev) ≡ true
    → is_phase_left w ≡ true → IsLeftBy s k v.dev known l) → AreCounted s k.progress v
    → AreCounted s (progress_after s k d before after (leaving_of s k before)) (progress_seen v known l w before after)
row_counted s k d v known l w None None c b ends left h = h
row_counted s k d v known l w None (Some n) c b ends left h = h
row_counted s k d v known l w (Some m) None c b ends left h = h
row_counted s k d v known l w (Some m) (Some n) c b ends left h =
    go (changes_phase w.change && w.begun) refl (m.target == v.dev) refl
  where
    same : (changes_phase w.change && w.begun) ≡ (changes_phase d.change && k.exchange.begun)
    same = λ i. c i && b i

    go : (q : Bool) → (changes_phase w.change && w.begun) ≡ q → (o : Bool) → (m.target == v.dev) ≡ o
        → AreCounted s (if changes_phase d.change && k.exchange.begun
        then progress_by_leaving k (process_served s k) (leaving s k m.target) else k.progress)
        (if m.target == v.dev && (changes_phase w.change && w.begun) then progress_counted v known l else v)
    go false e o f = subst (λ (z : Bool). AreCounted s
        (if z then progress_by_leaving k (process_served s k) (leaving s k m.target) else k.progress)
        (if m.target == v.dev && (changes_phase w.change && w.begun) then progress_counted v known l else v))
        (sym e ∙ same) (subst
        (λ (z : Bool). AreCounted s k.progress (if m.target == v.dev && z then progress_counted v known l else v))
        (sym e) (subst (λ (z : Bool). AreCounted s k.progress (if z && false then progress_counted v known l else v))
        (sym f) (none o)))
      where
        none : (o : Bool) → AreCounted s k.progress (if o && false then progress_counted v known l else v)
        none true = h
        none false = h
    go true e true f =
        let so = left m n refl refl f e in
        let at : m.target ≡ v.dev = eqb-true m.target v.dev f in
        subst (λ (z : Bool). AreCounted s
        (if z then progress_by_leaving k (process_served s k) (leaving s k m.target) else k.progress)
        (if m.target == v.dev && (changes_phase w.change && w.begun) then progress_counted v known l else v)) (sym e
        ∙ same) (subst (λ (z : Bool). AreCounted s (progress_by_leaving k (process_served s k) (leaving s k m.target))
        (if m.target == v.dev && z then progress_counted v known l else v)) (sym e)
        (subst (λ (z : Bool). AreCounted s (progress_by_leaving k (process_served s k) (leaving s k m.target))
        (if z && true then progress_counted v known l else v)) (sym f)
        (subst (λ (z : ℕ). AreCounted s (progress_by_leaving k (process_served s k) (leaving s k z))
        (progress_counted v known l)) (sym at) (left_counted s k v known l so h))))
    go true e false f = subst (λ (z : Bool). AreCounted s
        (if z then progress_by_leaving k (process_served s k) (leaving s k m.target) else k.progress)
        (if m.target == v.dev && (changes_phase w.change && w.begun) then progress_counted v known l else v)) (sym e
        ∙ same) (subst (λ (z : Bool). AreCounted s (progress_by_leaving k (process_served s k) (leaving s k m.target))
        (if z && (changes_phase w.change && w.begun) then progress_counted v known l else v)) (sym f)
        (left_by_other s k v m (leaving s k m.target) (ends m refl) f h))

pub progress_goes_on : (s : ScenarioValue) (rows : List Row) (row : Row) (v : ProgressValue)
    (known : Option ProcId) (l : Leaving) (w : Hearing) (before after : Option Connection)
    → ((before : List Row) → AreOfDevices before → IsPlain s before (run_state s before))
    → hearing_of (run_state s rows) row (row_reading (run_state s rows).story.bus_state row) ≡ hearing rows row
    → AreOfDevices (row ∷ rows) → w ≡ hearing rows row → before ≡ connection rows → after ≡ connection (row ∷ rows)
    → faithful s rows ≡ true → IsLeftSo s rows v.dev w after known l → IsProgressOf s rows v
    → IsProgressOf s (row ∷ rows) (progress_seen v known l w before after)
progress_goes_on s rows row v known l w before after plain heard d told b a true_so left h = subst
    (λ (z : ProgressValue). AreCounted s
    (progress_after s k r k.story.bus_state.connection r.next (leaving_of s k k.story.bus_state.connection)) z)
    (λ i. progress_seen v known l w (first i) (last i)) (row_counted s k r v known l w
    k.story.bus_state.connection r.next (λ i. changes_phase (same i).change) (λ i. (same i).begun)
    (λ n e. ends_are s rows plain d.1 true_so n (sym (plain rows d.1).connection ∙ e)) (λ n m e stays own is. left n m
    (record { stands = sym (plain rows d.1).connection ∙ e; own = own }) (sym last ∙ stays) is) h)
  where
    k : RunState
    k = run_state s rows

    r : RowReading
    r = row_reading k.story.bus_state row

    same : w ≡ hearing_of k row r
    same = told ∙ sym heard

    first : k.story.bus_state.connection ≡ before
    first = (plain rows d.1).connection ∙ sym b

    last : r.next ≡ after
    last = (plain (row ∷ rows) d).connection ∙ sym a

-- ---- before any row

no_pairs : (count n : ℕ) → pair_at (replicate count no_pair) n ≡ no_pair
no_pairs zero n = refl
no_pairs (suc count) zero = refl
no_pairs (suc count) (suc n) = no_pairs count n

pub progress_starts : (s : ScenarioValue) (dev : ℕ) → IsProgressOf s [] (no_progress dev (length s.commands + 1))
progress_starts s dev = record {
  long = length-replicate (length s.commands + 1) no_pair;
  counts = λ id p e t. (λ i. half_of (no_pairs (length s.commands + 1) id.command i) id.sense) ∙ go id.sense;
}
  where
    go : (q : Bool) → half_of no_pair q ≡ no_counts
    go true = refl
    go false = refl

-- ---- of so many rows no more can be counted

entry_few : (all : List ProcessProgress) (id : ProcId) (p : Option Process) (k : RunState) (l : Leaving) (n : ℕ)
    → k.progress ≡ all → ((progress_in all id).runs ≤ n) × ((progress_in all id).recoveries ≤ n)
    → ((progress_in (progress_by_leaving k p l) id).runs ≤ n + 1)
    × ((progress_in (progress_by_leaving k p l) id).recoveries ≤ n + 1)
entry_few all id None k l n e h = subst (λ (z : List ProcessProgress). ((progress_in z id).runs ≤ n + 1)
    × ((progress_in z id).recoveries ≤ n + 1)) (sym e) (omega (arith, h.0), omega (arith, h.1))
entry_few all id (Some p) k l n e h =
    subst (λ (z : List ProcessProgress). ((progress_in (progress_with z p.id l.done l.counts) id).runs ≤ n + 1)
    × ((progress_in (progress_with z p.id l.done l.counts) id).recoveries ≤ n + 1)) (sym e) (by (same_id p.id id) refl)
  where
    one : (c : ℕ) (now : Bool) → c ≤ n → c + one_if now ≤ n + 1
    one c true lt = omega arith
    one c false lt = omega arith

    here : (x y : Bool) → ((progress_in (progress_with all id x y) id).runs ≤ n + 1)
        × ((progress_in (progress_with all id x y) id).recoveries ≤ n + 1)
    here x y = go (x || y)
      where
        if_same : (r : Bool) → ((if r then entry_with all id x y else progress_in all id).runs ≤ n + 1)
            × ((if r then entry_with all id x y else progress_in all id).recoveries ≤ n + 1)
        if_same true = (one (progress_in all id).runs x h.0, one (progress_in all id).recoveries y h.1)
        if_same false = (omega (arith, h.0), omega (arith, h.1))

        go : (q : Bool) → ((progress_in (if q then entry_with all id x y ∷ all else all) id).runs ≤ n + 1)
            × ((progress_in (if q then entry_with all id x y ∷ all else all) id).recoveries ≤ n + 1)
        go true = if_same (same_id id id)
        go false = (omega (arith, h.0), omega (arith, h.1))

    by : (r : Bool) → same_id p.id id ≡ r → ((progress_in (progress_with all p.id l.done l.counts) id).runs ≤ n + 1)
        × ((progress_in (progress_with all p.id l.done l.counts) id).recoveries ≤ n + 1)
    by true f = subst (λ (z : ProcId). ((progress_in (progress_with all z l.done l.counts) id).runs ≤ n + 1)
        × ((progress_in (progress_with all z l.done l.counts) id).recoveries ≤ n + 1)) (sym (same_id_is p.id id f))
        (here l.done l.counts)
    by false f = subst (λ (z : ProcessProgress). (z.runs ≤ n + 1) × (z.recoveries ≤ n + 1))
        (sym (other_kept all p.id id l.done l.counts f)) (omega (arith, h.0), omega (arith, h.1))

few_on :
    (s : ScenarioValue) (k : RunState) (r : RowReading) (b a : Option Connection) (l : Leaving) (n : ℕ) (id : ProcId)
    → ((progress_in k.progress id).runs ≤ n) × ((progress_in k.progress id).recoveries ≤ n)
    → ((progress_in (progress_after s k r b a l) id).runs ≤ n + 1)
    × ((progress_in (progress_after s k r b a l) id).recoveries ≤ n + 1)
few_on s k r None None l n id few = (omega (arith, few.0), omega (arith, few.1))
few_on s k r None (Some y) l n id few = (omega (arith, few.0), omega (arith, few.1))
few_on s k r (Some x) None l n id few = (omega (arith, few.0), omega (arith, few.1))
few_on s k r (Some x) (Some y) l n id few = by (changes_phase r.change && k.exchange.begun)
  where
    by : (q : Bool)
        → ((progress_in (if q then progress_by_leaving k (process_served s k) l else k.progress) id).runs ≤ n + 1)
        × ((progress_in (if q then progress_by_leaving k (process_served s k) l else k.progress) id).recoveries ≤ n + 1)
    by true = entry_few k.progress id (process_served s k) k l n refl few
    by false = (omega (arith, few.0), omega (arith, few.1))

are_few : (s : ScenarioValue) (rows : List Row) (id : ProcId)
    → ((progress_in (run_state s rows).progress id).runs ≤ length rows)
    × ((progress_in (run_state s rows).progress id).recoveries ≤ length rows)
are_few s [] id = (omega arith, omega arith)
are_few s (row ∷ rows) id =
    let k : RunState = run_state s rows in
    let r : RowReading = row_reading k.story.bus_state row in
    let few = few_on s k r k.story.bus_state.connection r.next
    (leaving_of s k k.story.bus_state.connection) (length rows) id (are_few s rows id) in
    (omega (arith, few.0), omega (arith, few.1))

capped : (n m : ℕ) → n ≤ m → m < 2 ^ 64 → min n (2 ^ 64 - 1) ≡ n
capped n m h l = omega arith

pub are_exact : (s : ScenarioValue) (rows : List Row) (id : ProcId) (c : Counts)
    → c ≡ counts_of (progress_in (run_state s rows).progress id) → length rows < 2 ^ 64
    → AreExactly (progress_in (run_state s rows).progress id) c
are_exact s rows id c e l = record {
  runs = ap (λ (z : Counts). z.runs) e
      ∙ capped (progress_in (run_state s rows).progress id).runs (length rows) (are_few s rows id).0 l;
  recoveries = ap (λ (z : Counts). z.recoveries) e
      ∙ capped (progress_in (run_state s rows).progress id).recoveries (length rows) (are_few s rows id).1 l;
}

-- ---- they are those of the same target

pub same_target :
    (v : ProgressValue) (known : Option ProcId) (l : Leaving) (w : Hearing) (before after : Option Connection)
    → (progress_seen v known l w before after).dev ≡ v.dev
same_target v known l w None after = refl
same_target v known l w (Some m) None = refl
same_target v known l w (Some m) (Some n) = go (m.target == v.dev && is_phase_left w)
  where
    counted : (known : Option ProcId) → (progress_counted v known l).dev ≡ v.dev
    counted None = refl
    counted (Some id) = refl

    go : (q : Bool) → (if q then progress_counted v known l else v).dev ≡ v.dev
    go true = counted known
    go false = refl
