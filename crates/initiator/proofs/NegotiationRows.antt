-- With which targets an initiator has negotiated goes on row by row.
use Rattle.std.proofs.Common.{ℕ, zero, suc, ◌≡◌, ◌≢◌, ◌<◌, Bool, true, false, List, [], ◌∷◌, ◌∙◌, refl, sym, subst}
use Rattle.std.proofs.Common.{arith, length, get_or, set, replicate, Option, Some, None}
use Rattle.std.specs.Prelude.{if◌then◌else◌, ◌&&◌, ◌||◌, ◌==◌, not}
use Rattle.std.specs.List.{list_any}
use Rattle.std.proofs.lemmas.Bool.{eqb-true, eqb-false}
use Rattle.std.proofs.lemmas.List.{get_or-set_same, get_or-set_other, length-set}
use Rattle.bus_base.specs.declared.AbortKind.{AbortKind}
use Rattle.bus_base.specs.declared.AbortKind.TheVariants as aborts
use Rattle.bus_base.specs.declared.Event.{Event}
use Rattle.bus_base.specs.declared.Event.TheVariants as events
use Rattle.bus_trace.specs.declared.Row.{Row}
use Rattle.bus_trace.specs.declared.connection.Connection.{Connection}
use Rattle.scenario.specs.Value.{ScenarioValue}
use Rattle.bus_trace.specs.Terms.{connection}
use Rattle.story_model.specs.BusState.{RowReading, row_reading}
use Rattle.story_model.specs.TraceHistory.{aim_of}
use Rattle.due_model.specs.Plain.{IsPlain}
use Rattle.due_model.specs.RunState.{RunState}
use Rattle.due_model.specs.RunSteps.{run_state, is_for_process, negotiated_by_connection, events_of_row}
use Rattle.due_model.specs.LastingState.{Negotiated, none_negotiated, has_negotiated, with_negotiated, pairs_without}
use Rattle.due_model.specs.LastingState.{negotiated_after_event, negotiated_after}
use Rattle.initiator.specs.Negotiations.{NegotiationsValue, no_negotiations, had_in, had_by_connection, had_after_abort}
use Rattle.initiator.specs.Negotiations.{had_after_event, had_after_events, negotiations_after, HasHad}
use Rattle.initiator_books.specs.Intents.{aims_at_process}
use Rattle.initiator.specs.Negotiations.{IsNegotiationsOf}
use Rattle.bus_base.proofs.Tests.{put_at}
use Rattle.due_model.proofs.NegotiatedPairs.{with_pair, pairs_gone}

-- ---- what is kept of all pairs, and what this initiator keeps

none_kept : (t : ℕ) → t < 8 → get_or (replicate 8 false) t false ≡ false
none_kept zero l = refl
none_kept (suc zero) l = refl
none_kept (suc (suc zero)) l = refl
none_kept (suc (suc (suc zero))) l = refl
none_kept (suc (suc (suc (suc zero)))) l = refl
none_kept (suc (suc (suc (suc (suc zero))))) l = refl
none_kept (suc (suc (suc (suc (suc (suc zero)))))) l = refl
none_kept (suc (suc (suc (suc (suc (suc (suc zero))))))) l = refl
none_kept (suc (suc (suc (suc (suc (suc (suc (suc t)))))))) l = absurd (omega arith)

all_kept : (t : ℕ) → t < 8 → get_or (replicate 8 true) t false ≡ true
all_kept zero l = refl
all_kept (suc zero) l = refl
all_kept (suc (suc zero)) l = refl
all_kept (suc (suc (suc zero))) l = refl
all_kept (suc (suc (suc (suc zero)))) l = refl
all_kept (suc (suc (suc (suc (suc zero))))) l = refl
all_kept (suc (suc (suc (suc (suc (suc zero)))))) l = refl
all_kept (suc (suc (suc (suc (suc (suc (suc zero))))))) l = refl
all_kept (suc (suc (suc (suc (suc (suc (suc (suc t)))))))) l = absurd (omega arith)

pub starts_kept :
    (dev version : ℕ) → HasHad none_negotiated (record { dev = dev; version = version; had = replicate 8 false })
starts_kept dev version = record { eight = refl; had_is = λ t l. none_kept t l; unbarred = λ e. (refl, refl) }

-- ---- a connection

or_case : (a b x : Bool) → (a || b || (x || false)) ≡ (a || b || x)
or_case true b x = refl
or_case false true x = refl
or_case false false true = refl
or_case false false false = refl

pub connection_kept : (m : Negotiated) (v : NegotiationsValue) (process any : Bool) (n : Connection)
    → ((n.initiator == v.dev) ≡ true → any ≡ process) → HasHad m v
    → HasHad (if not n.reselected && any then with_negotiated m n.initiator n.target else m) (had_in v process n)
connection_kept m v process any n own h = go n.reselected any process (n.initiator == v.dev) refl own
  where
    of_other : (n.initiator == v.dev) ≡ false → HasHad (with_negotiated m n.initiator n.target) v
    of_other e = record {
      eight = h.eight;
      had_is = λ t l. h.had_is t l ∙ sym (with_pair m n.initiator n.target v.dev t
          ∙ (λ i. if e i && n.target == t then true else has_negotiated m v.dev t));
      unbarred = h.unbarred;
    }

    of_own : (n.initiator == v.dev) ≡ true
        → HasHad (with_negotiated m n.initiator n.target) (record v { had = set v.had n.target true })
    of_own e = record {
      eight = length-set v.had n.target true ∙ h.eight;
      had_is = λ t l. put_at v.had n.target t true (let k = h.eight in omega arith)
          ∙ (λ i. if n.target == t then true else h.had_is t l i) ∙ sym (with_pair m n.initiator n.target v.dev t
          ∙ (λ i. if e i && n.target == t then true else has_negotiated m v.dev t));
      unbarred = h.unbarred;
    }

    go : (r a p o : Bool) → (n.initiator == v.dev) ≡ o → (o ≡ true → a ≡ p)
        → HasHad (if not r && a then with_negotiated m n.initiator n.target else m)
        (if r then v else if o then (if p then record v { had = set v.had n.target true } else v) else v)
    go true a p o e k = h
    go false true true true e k = of_own e
    go false true false true e k = let bad : true ≡ false = k refl in cc
    go false false true true e k = let bad : false ≡ true = k refl in cc
    go false false false true e k = h
    go false true p false e k = of_other e
    go false false p false e k = h

-- ---- resets

device_kept : (m : Negotiated) (v : NegotiationsValue) (k : ℕ) (one : Bool) → (v.version == 1) ≡ one → HasHad m v
    → HasHad (if one then record m { targets = k ∷ m.targets } else record m { pairs = pairs_without m.pairs k })
    (record v { had = set v.had k one })
device_kept m v k true e h = record {
  eight = length-set v.had k true ∙ h.eight;
  had_is =
      λ t l. put_at v.had k t true (let n = h.eight in omega arith) ∙ (λ i. if k == t then true else h.had_is t l i)
      ∙ barred m.all (k == t) (list_any (λ n. n == t) m.targets)
      (list_any (λ (p : ℕ × ℕ). p.0 == v.dev && p.1 == t) m.pairs);
  unbarred = λ f. (let bad : true ≡ false = sym e ∙ f in cc);
}
  where
    barred : (a x b y : Bool) → (if x then true else (a || b || y)) ≡ (a || (x || b) || y)
    barred true true b y = refl
    barred true false b y = refl
    barred false true b y = refl
    barred false false b y = refl
device_kept m v k false e h = record {
  eight = length-set v.had k false ∙ h.eight;
  had_is = λ t l. put_at v.had k t false (let n = h.eight in omega arith)
      ∙ (λ i. if k == t then false else (h.had_is t l ∙ free t) i) ∙ sym (pairs_gone m.pairs k v.dev t)
      ∙ (λ i. sym (h.unbarred e).0 i || list_any (λ n. n == t) (sym (h.unbarred e).1 i)
      || list_any (λ (p : ℕ × ℕ). p.0 == v.dev && p.1 == t) (pairs_without m.pairs k));
  unbarred = h.unbarred;
}
  where
    free : (t : ℕ) → has_negotiated m v.dev t ≡ list_any (λ (p : ℕ × ℕ). p.0 == v.dev && p.1 == t) m.pairs
    free t = λ i. (h.unbarred e).0 i || list_any (λ n. n == t) ((h.unbarred e).1 i)
        || list_any (λ (p : ℕ × ℕ). p.0 == v.dev && p.1 == t) m.pairs

reset_kept : (m : Negotiated) (v : NegotiationsValue) (one : Bool) → (v.version == 1) ≡ one → HasHad m v
    → HasHad (if one then record m { all = true } else record m { pairs = [] }) (record v { had = replicate 8 one })
reset_kept m v true e h = record {
  eight = refl;
  had_is = λ t l. all_kept t l;
  unbarred = λ f. (let bad : true ≡ false = sym e ∙ f in cc);
}
reset_kept m v false e h = record {
  eight = refl;
  had_is =
      λ t l. none_kept t l ∙ (λ i. sym (h.unbarred e).0 i || list_any (λ n. n == t) (sym (h.unbarred e).1 i) || false);
  unbarred = h.unbarred;
}

event_kept : (m : Negotiated) (v : NegotiationsValue) (e : Event) → HasHad m v
    → HasHad (negotiated_after_event v.version m e) (had_after_event v e)
event_kept m v (events.Aborted host target unit aborts.Device) h = device_kept m v target (v.version == 1) refl h
event_kept m v (events.Aborted host target unit aborts.All) h = h
event_kept m v (events.Aborted host target unit (aborts.Tag n)) h = h
event_kept m v (events.Aborted host target unit aborts.WholeQueue) h = h
event_kept m v (events.Reset dev) h = reset_kept m v (v.version == 1) refl h
event_kept m v (events.Accept id) h = h
event_kept m v (events.Refuse id) h = h
event_kept m v (events.Run id) h = h
event_kept m v (events.Fail id code) h = h
event_kept m v (events.End id status) h = h
event_kept m v (events.Lost id) h = h

version_stays : (v : NegotiationsValue) (shown : List Event) → (had_after_events v shown).version ≡ v.version
version_stays v [] = refl
version_stays v (e ∷ shown) = go e ∙ version_stays v shown
  where
    abort : (t : ℕ) (k : AbortKind) → (had_after_event (had_after_events v shown) (events.Aborted 0 t 0 k)).version
        ≡ (had_after_events v shown).version
    abort t aborts.Device = refl
    abort t aborts.All = refl
    abort t (aborts.Tag n) = refl
    abort t aborts.WholeQueue = refl

    go : (e : Event) → (had_after_event (had_after_events v shown) e).version ≡ (had_after_events v shown).version
    go (events.Aborted host target unit what) = abort target what
    go (events.Reset dev) = refl
    go (events.Accept id) = refl
    go (events.Refuse id) = refl
    go (events.Run id) = refl
    go (events.Fail id code) = refl
    go (events.End id status) = refl
    go (events.Lost id) = refl

pub events_kept : (m : Negotiated) (v : NegotiationsValue) (shown : List Event) → HasHad m v
    → HasHad (negotiated_after v.version m shown) (had_after_events v shown)
events_kept m v [] h = h
events_kept m v (e ∷ shown) h = subst
    (λ (n : ℕ). HasHad (negotiated_after_event n (negotiated_after v.version m shown) e)
    (had_after_event (had_after_events v shown) e)) (version_stays v shown)
    (event_kept (negotiated_after v.version m shown) (had_after_events v shown) e (events_kept m v shown h))

-- ---- a row

by_connection : (k : RunState) (v : NegotiationsValue) (process : Bool) (before after : Option Connection)
    → process ≡ is_for_process (aim_of k.story.aims v.dev) → HasHad k.negotiated v
    → HasHad (negotiated_by_connection k before after) (had_by_connection v process before after)
by_connection k v process None None e h = h
by_connection k v process (Some m) None e h = h
by_connection k v process (Some m) (Some n) e h = h
by_connection k v process None (Some n) e h = connection_kept k.negotiated v process (is_for_process
    (aim_of k.story.aims n.initiator)) n (λ own. let same : n.initiator ≡ v.dev = eqb-true n.initiator v.dev own in
    (λ i. is_for_process (aim_of k.story.aims (same i))) ∙ sym e) h

version_had : (v : NegotiationsValue) (process : Bool) (before after : Option Connection)
    → (had_by_connection v process before after).version ≡ v.version
version_had v process None None = refl
version_had v process (Some m) after = refl
version_had v process None (Some n) = go n.reselected (n.initiator == v.dev) process
  where
    go : (r o p : Bool)
        → (if r then v else if o then (if p then record v { had = set v.had n.target true } else v) else v).version
        ≡ v.version
    go true o p = refl
    go false true true = refl
    go false true false = refl
    go false false p = refl

pub negotiations_start : (s : ScenarioValue) (dev : ℕ) → IsNegotiationsOf s [] (no_negotiations dev s.version)
negotiations_start s dev = record { version_is = refl; kept = starts_kept dev s.version }

pub negotiations_go_on : (s : ScenarioValue) (rows : List Row) (row : Row) (v : NegotiationsValue)
    (process : Bool) (before after : Option Connection) (shown : List Event)
    → IsPlain s rows (run_state s rows) → IsPlain s (row ∷ rows) (run_state s (row ∷ rows)) → before ≡ connection rows
    → after ≡ connection (row ∷ rows) → process ≡ aims_at_process s rows v.dev → shown ≡ events_of_row s rows row
    → IsNegotiationsOf s rows v → IsNegotiationsOf s (row ∷ rows) (negotiations_after v process before after shown)
negotiations_go_on s rows row v process before after shown p q b a e told h =
    let k : RunState = run_state s rows in
    let d : RowReading = row_reading k.story.bus_state row in
    let x : HasHad (negotiated_by_connection k k.story.bus_state.connection d.next)
    (had_by_connection v process k.story.bus_state.connection d.next) = by_connection
    k v process k.story.bus_state.connection d.next e h.kept in
    let w : NegotiationsValue = had_by_connection v process k.story.bus_state.connection d.next in
    let same : w.version ≡ s.version = version_had v process k.story.bus_state.connection d.next ∙ h.version_is in
    let y : HasHad (negotiated_after s.version (negotiated_by_connection k k.story.bus_state.connection d.next)
    (events_of_row s rows row)) (had_after_events w (events_of_row s rows row)) = subst (λ (n : ℕ). HasHad
    (negotiated_after n (negotiated_by_connection k k.story.bus_state.connection d.next) (events_of_row s rows row))
    (had_after_events w (events_of_row s rows row))) same
    (events_kept (negotiated_by_connection k k.story.bus_state.connection d.next) w (events_of_row s rows row) x) in
    let first : k.story.bus_state.connection ≡ before = p.connection ∙ sym b in
    let last : d.next ≡ after = q.connection ∙ sym a in
    let path : had_after_events w (events_of_row s rows row) ≡ negotiations_after v process before after shown =
    λ i. had_after_events (had_by_connection v process (first i) (last i)) (sym told i) in
    record {
      version_is = version_stays (had_by_connection v process before after) shown ∙ version_had v process before after
          ∙ h.version_is;
      kept = subst (λ (z : NegotiationsValue). HasHad (run_state s (row ∷ rows)).negotiated z) path y;
    }

-- ---- they are those of the same initiator

same_in : (v : NegotiationsValue) (process : Bool) (n : Connection) → (had_in v process n).dev ≡ v.dev
same_in v process n = go n.reselected (n.initiator == v.dev) process
  where
    go : (p q r : Bool)
        → (if p then v else if q then (if r then record v { had = set v.had n.target true } else v) else v).dev ≡ v.dev
    go true q r = refl
    go false false r = refl
    go false true true = refl
    go false true false = refl

pub same_by_connection : (v : NegotiationsValue) (process : Bool) (before after : Option Connection)
    → (had_by_connection v process before after).dev ≡ v.dev
same_by_connection v process None None = refl
same_by_connection v process None (Some n) = same_in v process n
same_by_connection v process (Some m) after = refl

same_after_abort : (v : NegotiationsValue) (target : ℕ) (what : AbortKind) → (had_after_abort v target what).dev ≡ v.dev
same_after_abort v target aborts.Device = refl
same_after_abort v target aborts.All = refl
same_after_abort v target (aborts.Tag n) = refl
same_after_abort v target aborts.WholeQueue = refl

same_after_event : (v : NegotiationsValue) (e : Event) → (had_after_event v e).dev ≡ v.dev
same_after_event v (events.Aborted host target unit what) = same_after_abort v target what
same_after_event v (events.Reset dev) = refl
same_after_event v (events.Accept id) = refl
same_after_event v (events.Refuse id) = refl
same_after_event v (events.Run id) = refl
same_after_event v (events.Fail id code) = refl
same_after_event v (events.End id status) = refl
same_after_event v (events.Lost id) = refl

pub same_after_events : (v : NegotiationsValue) (shown : List Event) → (had_after_events v shown).dev ≡ v.dev
same_after_events v [] = refl
same_after_events v (e ∷ shown) = same_after_event (had_after_events v shown) e ∙ same_after_events v shown
