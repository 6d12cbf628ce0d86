-- With which initiators a target has had the connection in which the two may negotiate goes on row by row.
use Rattle.std.proofs.Common.{ℕ, zero, suc, ◌≡◌, ◌≢◌, ◌<◌, Bool, true, false, List, [], ◌∷◌, ◌∙◌, refl, sym, subst}
use Rattle.std.proofs.Common.{arith, length, get_or, set, replicate, Option, Some, None}
use Rattle.std.specs.Prelude.{if◌then◌else◌, ◌&&◌, ◌||◌, ◌==◌, not}
use Rattle.std.specs.List.{list_any}
use Rattle.std.proofs.lemmas.Bool.{eqb-true, eqb-false}
use Rattle.std.proofs.lemmas.List.{get_or-set_same, get_or-set_other, length-set}
use Rattle.std.proofs.lemmas.Option.{same_Some}
use Rattle.bus_base.specs.declared.AbortKind.TheVariants as aborts
use Rattle.bus_base.specs.declared.Event.{Event}
use Rattle.bus_base.specs.declared.Event.TheVariants as events
use Rattle.bus_trace.specs.Changes.{rises, falls}
use Rattle.bus_trace.specs.LineSet.{LineSet, union}
use Rattle.bus_trace.specs.Phases.{changes_phase}
use Rattle.bus_trace.specs.Terms.{connection, connection_after, connection_of}
use Rattle.bus_trace.specs.Trace.{bus, drives, driven_after}
use Rattle.bus_trace.specs.declared.Row.{Row}
use Rattle.bus_trace.specs.declared.changes.Change.{Change}
use Rattle.bus_trace.specs.declared.connection.Connection.{Connection}
use Rattle.bus_trace.specs.declared.selection.Call.{Call}
use Rattle.scenario.specs.Value.{ScenarioValue}
use Rattle.due_model.specs.story_model.specs.BusState.{RowReading, row_reading}
use Rattle.due_model.specs.story_model.specs.HistoryEvents.{row_events_by, link_events}
use Rattle.due_model.specs.story_model.specs.TraceHistory.{aim_of}
use Rattle.due_model.specs.dialogue_model.specs.Hearing.{hearing}
use Rattle.due_model.specs.dialogue_model.specs.Planning.{first_plan}
use Rattle.due_model.specs.dialogue_model.specs.declared.exchange.Hearing.{Hearing}
use Rattle.due_model.specs.LastingState.{Negotiated, has_negotiated, with_negotiated, pairs_without}
use Rattle.due_model.specs.LastingState.{negotiated_after_event, negotiated_after}
use Rattle.due_model.specs.Plain.{IsPlain, AreOfDevices}
use Rattle.due_model.specs.RunState.{RunState}
use Rattle.due_model.specs.RunSteps.{run_state, is_for_process, negotiated_by_connection, served_after, item_if}
use Rattle.due_model.specs.RunSteps.{may_negotiate, naming_of, first_exchange, exchange_on, exchange_after, leaving_of}
use Rattle.due_model.specs.RunSteps.{events_of_row}
use Rattle.due_model.specs.Defs.{host_of}
use Rattle.due_model.specs.Sights.{hearing_of, leaving}
use Rattle.due_model.specs.Wants.{ready_of}
use Rattle.target_course.specs.Negotiated.{NegotiatedValue, nobody_met, opened_in, met_by_opening, is_opening_left}
use Rattle.target_course.specs.Negotiated.{met_by_connection, met_after_reset, met_after_event, met_after_events}
use Rattle.target_course.specs.Negotiated.{negotiated_seen, is_open_to, HasMet, IsOpening, IsOpeningIf, IsNegotiatedOf}
use Rattle.target_course.specs.Negotiated.{IsHeardSo}
use Rattle.target_course.specs.Progress.{is_phase_left}
use Rattle.target_units.specs.scsi_device.specs.Heard.{heard}
use Rattle.target_course.proofs.HeardOpenings.{left_told, cause_stays, phase_stays}
use Rattle.target_course.proofs.ServedEnds.{connection_stays}
use Rattle.bus_base.proofs.Tests.{or_false, put_at}
use Rattle.due_model.proofs.NegotiatedPairs.{with_pair, pairs_gone}

-- ---- eight alike

none_of_eight : (x : Bool) (t : ℕ) → t < 8 → get_or (replicate 8 x) t false ≡ x
none_of_eight x zero l = refl
none_of_eight x (suc zero) l = refl
none_of_eight x (suc (suc zero)) l = refl
none_of_eight x (suc (suc (suc zero))) l = refl
none_of_eight x (suc (suc (suc (suc zero)))) l = refl
none_of_eight x (suc (suc (suc (suc (suc zero))))) l = refl
none_of_eight x (suc (suc (suc (suc (suc (suc zero)))))) l = refl
none_of_eight x (suc (suc (suc (suc (suc (suc (suc zero))))))) l = refl
none_of_eight x (suc (suc (suc (suc (suc (suc (suc (suc t)))))))) l = absurd (omega arith)

-- ---- where no opening lasts

had_is : (m : Negotiated) (p : Bool) (v : NegotiatedValue) → v.opening ≡ None → HasMet m p v → (i : ℕ) → i < 8
    → has_negotiated m i v.dev ≡ get_or v.had i false
had_is m p v e h i l =
    h.met i l ∙ (λ j. get_or v.had i false || is_open_to (e j) i && p) ∙ or_false (get_or v.had i false)

closed : (m : Negotiated) (p q : Bool) (v : NegotiatedValue) → v.opening ≡ None → HasMet m p v → HasMet m q v
closed m p q v e h = record {
  eight = h.eight;
  met = λ i l. h.met i l ∙ (λ j. get_or v.had i false || is_open_to (e j) i && p)
      ∙ (λ j. get_or v.had i false || is_open_to (sym e j) i && q);
  unbarred = h.unbarred;
}

-- ---- a connection begins

begun_so : (m : Negotiated) (v : NegotiatedValue) (p any q : Bool) (n : Connection)
    → v.opening ≡ None → (n.reselected ≡ false → q ≡ any) → HasMet m p v
    → HasMet (if not n.reselected && any then with_negotiated m n.initiator n.target else m) q (opened_in v n)
begun_so m v p any q n e same h = go n.reselected any (n.target == v.dev) refl same
  where
    case : (x y : Bool) → (if x then true else y) ≡ (y || x && true)
    case true true = refl
    case true false = refl
    case false true = refl
    case false false = refl

    no_case : (x y : Bool) → y ≡ (y || x && false)
    no_case true true = refl
    no_case true false = refl
    no_case false true = refl
    no_case false false = refl

    and_true : (x : Bool) → (x && true) ≡ x
    and_true true = refl
    and_true false = refl

    and_false : (x : Bool) → (x && false) ≡ false
    and_false true = refl
    and_false false = refl

    go : (r a o : Bool) → (n.target == v.dev) ≡ o → (r ≡ false → q ≡ a)
        → HasMet (if not r && a then with_negotiated m n.initiator n.target else m) q
        (if not r && o then record v { opening = Some n.initiator } else v)
    go true a o f k = closed m p q v e h
    go false true true f k = record {
      eight = h.eight;
      met = λ i l.
          with_pair m n.initiator n.target i v.dev
          ∙ (λ j. if n.initiator == i && f j then true else had_is m p v e h i l j)
          ∙ (λ j. if and_true (n.initiator == i) j then true else get_or v.had i false)
          ∙ case (n.initiator == i) (get_or v.had i false)
          ∙ (λ j. get_or v.had i false || (n.initiator == i) && sym (k refl) j);
      unbarred = h.unbarred;
    }
    go false false true f k = record {
      eight = h.eight;
      met = λ i l.
          had_is m p v e h i l
          ∙ no_case (n.initiator == i) (get_or v.had i false)
          ∙ (λ j. get_or v.had i false || (n.initiator == i) && sym (k refl) j);
      unbarred = h.unbarred;
    }
    go false true false f k =
        let x : HasMet m q v = closed m p q v e h in
        record {
          eight = h.eight;
          met = λ i l.
              with_pair m n.initiator n.target i v.dev
              ∙ (λ j. if n.initiator == i && f j then true else has_negotiated m i v.dev)
              ∙ (λ j. if and_false (n.initiator == i) j then true else has_negotiated m i v.dev)
              ∙ x.met i l;
          unbarred = h.unbarred;
        }
    go false false false f k = closed m p q v e h

-- ---- an opening is left

left_so : (m : Negotiated) (v : NegotiatedValue) (p q aborts : Bool) (k : ℕ) → v.opening ≡ Some k → aborts ≡ not p
    → HasMet m p v → HasMet m q (met_by_opening v aborts (Some k))
left_so m v p q aborts k e heard h = go p aborts heard h
  where
    case : (x y : Bool) → (y || x && true) ≡ ((if x then true else y) || false)
    case true true = refl
    case true false = refl
    case false true = refl
    case false false = refl

    no_case : (x y : Bool) → (y || x && false) ≡ (y || false)
    no_case true true = refl
    no_case true false = refl
    no_case false true = refl
    no_case false false = refl

    go : (p a : Bool) → a ≡ not p → HasMet m p v → HasMet m q (met_by_opening v a (Some k))
    go true true f h = cc
    go false false f h = cc
    go true false f h = record {
      eight = length-set v.had k true ∙ h.eight;
      met = λ i l.
          h.met i l
          ∙ (λ j. get_or v.had i false || is_open_to (e j) i && true)
          ∙ case (k == i) (get_or v.had i false)
          ∙ (λ j. sym (put_at v.had k i true (let x = h.eight in omega arith)) j || false);
      unbarred = h.unbarred;
    }
    go false true f h = record {
      eight = h.eight;
      met = λ i l.
          h.met i l
          ∙ (λ j. get_or v.had i false || is_open_to (e j) i && false)
          ∙ no_case (k == i) (get_or v.had i false);
      unbarred = h.unbarred;
    }

left_if : (m : Negotiated) (v : NegotiatedValue) (p q aborts : Bool) (o : Option ℕ) → v.opening ≡ o
    → ((i : ℕ) → o ≡ Some i → aborts ≡ not p) → HasMet m p v → HasMet m q (met_by_opening v aborts o)
left_if m v p q aborts None e heard h = closed m p q v e h
left_if m v p q aborts (Some k) e heard h = left_so m v p q aborts k e (heard k refl) h

-- ---- events

abbrev IsUnbarred : Negotiated → NegotiatedValue → Type 0
IsUnbarred m v = (v.version == 1) ≡ false → (m.all ≡ false) × (m.targets ≡ [])

reset_so : (m : Negotiated) (v : NegotiatedValue) (p one : Bool) → (v.version == 1) ≡ one → IsUnbarred m v
    → HasMet (if one then record m { all = true } else record m { pairs = [] }) p
    (record v { had = replicate 8 one; opening = None })
reset_so m v p true e h = record {
  eight = refl;
  met = λ i l. sym ((λ j. none_of_eight true i l j || false));
  unbarred = λ f. (let bad : true ≡ false = sym e ∙ f in cc);
}
reset_so m v p false e h = record {
  eight = refl;
  met = λ i l. (λ j. (h e).0 j || list_any (λ n. n == v.dev) ((h e).1 j) || false)
      ∙ sym (λ j. none_of_eight false i l j || false);
  unbarred = h;
}

device_so : (m : Negotiated) (v : NegotiatedValue) (p : Bool) (k : ℕ) (one own : Bool)
    → (v.version == 1) ≡ one → (k == v.dev) ≡ own → HasMet m p v
    → HasMet (if one then record m { targets = k ∷ m.targets } else record m { pairs = pairs_without m.pairs k }) p
    (if own then record v { had = replicate 8 one; opening = None } else v)
device_so m v p k true true e f h = record {
  eight = refl;
  met = λ i l. (λ j. m.all || (f j || list_any (λ n. n == v.dev) m.targets)
      || list_any (λ (p : ℕ × ℕ). p.0 == i && p.1 == v.dev) m.pairs)
      ∙ barred m.all (list_any (λ (p : ℕ × ℕ). p.0 == i && p.1 == v.dev) m.pairs)
      ∙ sym (λ j. none_of_eight true i l j || false);
  unbarred = λ z. (let bad : true ≡ false = sym e ∙ z in cc);
}
  where
    barred : (a y : Bool) → (a || true || y) ≡ true
    barred true y = refl
    barred false y = refl
device_so m v p k true false e f h = record {
  eight = h.eight;
  met = λ i l. (λ j. m.all || (f j || list_any (λ n. n == v.dev) m.targets)
      || list_any (λ (p : ℕ × ℕ). p.0 == i && p.1 == v.dev) m.pairs)
      ∙ h.met i l;
  unbarred = λ z. (let bad : true ≡ false = sym e ∙ z in cc);
}
device_so m v p k false true e f h = record {
  eight = refl;
  met = λ i l. (λ j. (h.unbarred e).0 j || list_any (λ n. n == v.dev) ((h.unbarred e).1 j)
      || list_any (λ (p : ℕ × ℕ). p.0 == i && p.1 == v.dev) (pairs_without m.pairs k)) ∙ pairs_gone m.pairs k i v.dev
      ∙ (λ j. if f j then false else list_any (λ (p : ℕ × ℕ). p.0 == i && p.1 == v.dev) m.pairs)
      ∙ sym (λ j. none_of_eight false i l j || false);
  unbarred = h.unbarred;
}
device_so m v p k false false e f h = record {
  eight = h.eight;
  met = λ i l. (λ j. m.all || list_any (λ n. n == v.dev) m.targets || (pairs_gone m.pairs k i v.dev
      ∙ (λ j. if f j then false else list_any (λ (p : ℕ × ℕ). p.0 == i && p.1 == v.dev) m.pairs)) j)
      ∙ h.met i l;
  unbarred = h.unbarred;
}

event_so : (m : Negotiated) (v : NegotiatedValue) (p : Bool) (e : Event) → HasMet m p v
    → HasMet (negotiated_after_event v.version m e) p (met_after_event v e)
event_so m v p (events.Aborted host target unit aborts.Device) h =
    device_so m v p target (v.version == 1) (target == v.dev) refl refl h
event_so m v p (events.Aborted host target unit aborts.All) h = h
event_so m v p (events.Aborted host target unit (aborts.Tag n)) h = h
event_so m v p (events.Aborted host target unit aborts.WholeQueue) h = h
event_so m v p (events.Reset dev) h = reset_so m v p (v.version == 1) refl h.unbarred
event_so m v p (events.Accept id) h = h
event_so m v p (events.Refuse id) h = h
event_so m v p (events.Run id) h = h
event_so m v p (events.Fail id code) h = h
event_so m v p (events.End id status) h = h
event_so m v p (events.Lost id) h = h

-- ---- what no event changes, and that an opening begins with no event

device_version : (v : NegotiatedValue) (q : Bool) → (if q then met_after_reset v else v).version ≡ v.version
device_version v true = refl
device_version v false = refl

event_version : (v : NegotiatedValue) (e : Event) → (met_after_event v e).version ≡ v.version
event_version v (events.Aborted host target unit aborts.Device) = device_version v (target == v.dev)
event_version v (events.Aborted host target unit aborts.All) = refl
event_version v (events.Aborted host target unit (aborts.Tag n)) = refl
event_version v (events.Aborted host target unit aborts.WholeQueue) = refl
event_version v (events.Reset dev) = refl
event_version v (events.Accept id) = refl
event_version v (events.Refuse id) = refl
event_version v (events.Run id) = refl
event_version v (events.Fail id code) = refl
event_version v (events.End id status) = refl
event_version v (events.Lost id) = refl

events_version : (v : NegotiatedValue) (shown : List Event) → (met_after_events v shown).version ≡ v.version
events_version v [] = refl
events_version v (e ∷ shown) = event_version (met_after_events v shown) e ∙ events_version v shown

device_dev : (v : NegotiatedValue) (q : Bool) → (if q then met_after_reset v else v).dev ≡ v.dev
device_dev v true = refl
device_dev v false = refl

event_dev : (v : NegotiatedValue) (e : Event) → (met_after_event v e).dev ≡ v.dev
event_dev v (events.Aborted host target unit aborts.Device) = device_dev v (target == v.dev)
event_dev v (events.Aborted host target unit aborts.All) = refl
event_dev v (events.Aborted host target unit (aborts.Tag n)) = refl
event_dev v (events.Aborted host target unit aborts.WholeQueue) = refl
event_dev v (events.Reset dev) = refl
event_dev v (events.Accept id) = refl
event_dev v (events.Refuse id) = refl
event_dev v (events.Run id) = refl
event_dev v (events.Fail id code) = refl
event_dev v (events.End id status) = refl
event_dev v (events.Lost id) = refl

events_dev : (v : NegotiatedValue) (shown : List Event) → (met_after_events v shown).dev ≡ v.dev
events_dev v [] = refl
events_dev v (e ∷ shown) = event_dev (met_after_events v shown) e ∙ events_dev v shown

device_opens : (s : ScenarioValue) (v : NegotiatedValue) (rows : List Row) (dev : ℕ) (q : Bool)
    → IsOpeningIf s rows dev v.opening → IsOpeningIf s rows dev (if q then met_after_reset v else v).opening
device_opens s v rows dev true h = tt
device_opens s v rows dev false h = h

event_opens : (s : ScenarioValue) (v : NegotiatedValue) (rows : List Row) (dev : ℕ) (e : Event)
    → IsOpeningIf s rows dev v.opening → IsOpeningIf s rows dev (met_after_event v e).opening
event_opens s v rows dev (events.Aborted host target unit aborts.Device) h =
    device_opens s v rows dev (target == v.dev) h
event_opens s v rows dev (events.Aborted host target unit aborts.All) h = h
event_opens s v rows dev (events.Aborted host target unit (aborts.Tag n)) h = h
event_opens s v rows dev (events.Aborted host target unit aborts.WholeQueue) h = h
event_opens s v rows dev (events.Reset by) h = tt
event_opens s v rows dev (events.Accept id) h = h
event_opens s v rows dev (events.Refuse id) h = h
event_opens s v rows dev (events.Run id) h = h
event_opens s v rows dev (events.Fail id code) h = h
event_opens s v rows dev (events.End id status) h = h
event_opens s v rows dev (events.Lost id) h = h

events_open : (s : ScenarioValue) (v : NegotiatedValue) (rows : List Row) (dev : ℕ) (shown : List Event)
    → IsOpeningIf s rows dev v.opening → IsOpeningIf s rows dev (met_after_events v shown).opening
events_open s v rows dev [] h = h
events_open s v rows dev (e ∷ shown) h =
    event_opens s (met_after_events v shown) rows dev e (events_open s v rows dev shown h)

events_so : (m : Negotiated) (v : NegotiatedValue) (p : Bool) (shown : List Event) → HasMet m p v
    → HasMet (negotiated_after v.version m shown) p (met_after_events v shown)
events_so m v p [] h = h
events_so m v p (e ∷ shown) h = subst
    (λ (n : ℕ). HasMet (negotiated_after_event n (negotiated_after v.version m shown) e) p
    (met_after_event (met_after_events v shown) e)) (events_version v shown)
    (event_so (negotiated_after v.version m shown) (met_after_events v shown) p e (events_so m v p shown h))

opening_version : (v : NegotiatedValue) (aborts : Bool) (o : Option ℕ) → (met_by_opening v aborts o).version ≡ v.version
opening_version v aborts None = refl
opening_version v aborts (Some i) = refl

opening_dev : (v : NegotiatedValue) (aborts : Bool) (o : Option ℕ) → (met_by_opening v aborts o).dev ≡ v.dev
opening_dev v aborts None = refl
opening_dev v aborts (Some i) = refl

met_version : (v : NegotiatedValue) (aborts : Bool) (w : Hearing) (before after : Option Connection)
    → (met_by_connection v aborts w before after).version ≡ v.version
met_version v aborts w None None = refl
met_version v aborts w None (Some n) = go (not n.reselected && n.target == v.dev)
  where
    go : (q : Bool) → (if q then record v { opening = Some n.initiator } else v).version ≡ v.version
    go true = refl
    go false = refl
met_version v aborts w (Some m) after = go (is_opening_left w after)
  where
    go : (q : Bool) → (if q then met_by_opening v aborts v.opening else v).version ≡ v.version
    go true = opening_version v aborts v.opening
    go false = refl

met_dev : (v : NegotiatedValue) (aborts : Bool) (w : Hearing) (before after : Option Connection)
    → (met_by_connection v aborts w before after).dev ≡ v.dev
met_dev v aborts w None None = refl
met_dev v aborts w None (Some n) = go (not n.reselected && n.target == v.dev)
  where
    go : (q : Bool) → (if q then record v { opening = Some n.initiator } else v).dev ≡ v.dev
    go true = refl
    go false = refl
met_dev v aborts w (Some m) after = go (is_opening_left w after)
  where
    go : (q : Bool) → (if q then met_by_opening v aborts v.opening else v).dev ≡ v.dev
    go true = opening_dev v aborts v.opening
    go false = refl

pub same_target :
    (v : NegotiatedValue) (aborts : Bool) (w : Hearing) (before after : Option Connection) (shown : List Event)
    → (negotiated_seen v aborts w before after shown).dev ≡ v.dev
same_target v aborts w before after shown =
    events_dev (met_by_connection v aborts w before after) shown ∙ met_dev v aborts w before after

-- ---- RST rises with a row of a device that raises it

rst_of_union : (a b : LineSet) → (union a b).rst ≡ (a.rst || b.rst)
rst_of_union a b = refl

abbrev IsOn : List Row → Type 0
IsOn rows = (d : ℕ) → d < 8 → (drives rows d).rst ≡ true → (bus rows).rst ≡ true

abbrev IsOff : List Row → Type 0
IsOff rows = ((d : ℕ) → d < 8 → (drives rows d).rst ≡ false) → (bus rows).rst ≡ false

off_each : (rows : List Row) → IsOn rows → (bus rows).rst ≡ false → (d : ℕ) → d < 8 → (drives rows d).rst ≡ false
off_each rows on e d l = go (drives rows d).rst refl
  where
    go : (q : Bool) → (drives rows d).rst ≡ q → (drives rows d).rst ≡ false
    go true f = (let bad : true ≡ false = sym (on d l f) ∙ e in cc)
    go false f = f

raises : (rows : List Row) (row : Row) → row.dev < 8 → IsOn rows
    → IsOff (row ∷ rows) → (bus rows).rst ≡ false → (bus (row ∷ rows)).rst ≡ true
    → rises (drives rows row.dev).rst (driven_after row.kind (drives rows row.dev)).rst ≡ true
raises rows row lt on off e f = go (driven_after row.kind (drives rows row.dev)).rst refl
  where
    own : (drives rows row.dev).rst ≡ false
    own = off_each rows on e row.dev lt

    go : (q : Bool) → (driven_after row.kind (drives rows row.dev)).rst ≡ q
        → rises (drives rows row.dev).rst (driven_after row.kind (drives rows row.dev)).rst ≡ true
    go true g = λ i. rises (own i) (g i)
    go false g = (let bad : false ≡ true = sym (off each) ∙ f in cc)
      where
        each : (d : ℕ) → d < 8 → (drives (row ∷ rows) d).rst ≡ false
        each d l = by (row.dev == d) refl
          where
            by : (q : Bool) → (row.dev == d) ≡ q
                → (if row.dev == d then driven_after row.kind (drives rows d) else drives rows d).rst ≡ false
            by true z = (λ i. (if z i then driven_after row.kind (drives rows d) else drives rows d).rst)
                ∙ (λ i. (driven_after row.kind (drives rows (sym (eqb-true row.dev d z) i))).rst) ∙ g
            by false z = (λ i. (if z i then driven_after row.kind (drives rows d) else drives rows d).rst)
                ∙ off_each rows on e d l

-- ---- a row

-- While RST is false, or no opening lasts.
row_so : (s : ScenarioValue) (k : RunState) (v : NegotiatedValue) (aborts : Bool)
    (w : Hearing) (before after : Option Connection) → (before ≡ None → v.opening ≡ None)
    → ((i : ℕ) → v.opening ≡ Some i → is_opening_left w after ≡ true → aborts ≡ not (is_for_process k.served))
    → HasMet k.negotiated (is_for_process k.served) v
    → HasMet (negotiated_by_connection k before after) (is_for_process (served_after s k before after))
    (met_by_connection v aborts w before after)
row_so s k v aborts w None None free heard h = h
row_so s k v aborts w None (Some n) free heard h = begun_so k.negotiated v (is_for_process k.served)
    (is_for_process (aim_of k.story.aims n.initiator)) (is_for_process (served_after s k None (Some n))) n (free refl)
    (λ e. (λ i. is_for_process (if e i then item_if (ready_of s k n.target) else aim_of k.story.aims n.initiator))) h
row_so s k v aborts w (Some m) None free heard h =
    left_if k.negotiated v (is_for_process k.served) false aborts v.opening refl (λ i e. heard i e refl) h
row_so s k v aborts w (Some m) (Some n) free heard h = go (is_phase_left w) refl
  where
    go : (q : Bool) → is_phase_left w ≡ q → HasMet k.negotiated (is_for_process k.served)
        (if is_phase_left w then met_by_opening v aborts v.opening else v)
    go true e = subst (λ (z : Bool). HasMet k.negotiated (is_for_process k.served)
        (if z then met_by_opening v aborts v.opening else v)) (sym e) (left_if k.negotiated v (is_for_process k.served)
        (is_for_process k.served) aborts v.opening refl (λ i f. heard i f e) h)
    go false e = subst (λ (z : Bool). HasMet k.negotiated (is_for_process k.served)
        (if z then met_by_opening v aborts v.opening else v)) (sym e) h

-- A connection that begins stands under no RST, and one that is opened here is one of this target.
begins_calm : (call : Option Call) (c : Change) (row : Row) (n : Connection) → connection_after None call c row ≡ Some n
    → c.after.rst ≡ false
begins_calm call c row n e = go (falls c.before.sel c.after.sel) c.after.bsy c.after.rst e
  where
    go : (x y z : Bool) → (if x && y && not z then connection_of call row.time else None) ≡ Some n → z ≡ false
    go x y false f = refl
    go true true true f = cc
    go true false true f = cc
    go false y true f = cc

opens_so : (s : ScenarioValue) (rows : List Row) (row : Row) (v : NegotiatedValue)
    (aborts : Bool) (w : Hearing) (before after : Option Connection)
    → IsPlain s rows (run_state s rows) → IsPlain s (row ∷ rows) (run_state s (row ∷ rows))
    → w ≡ hearing_of (run_state s rows) row (row_reading (run_state s rows).story.bus_state row)
    → heard s (row ∷ rows) ≡ true → (run_state s rows).story.bus_state.connection ≡ before
    → (row_reading (run_state s rows).story.bus_state row).next ≡ after → (before ≡ None → v.opening ≡ None)
    → ((i : ℕ) → v.opening ≡ Some i → (row_reading (run_state s rows).story.bus_state row).change.after.rst ≡ false)
    → IsOpeningIf s rows v.dev v.opening
    → IsOpeningIf s (row ∷ rows) v.dev (met_by_connection v aborts w before after).opening
opens_so s rows row v aborts w None None p q told hears b a free calm h =
    subst (λ (z : Option ℕ). IsOpeningIf s (row ∷ rows) v.dev z) (sym (free refl)) tt
opens_so s rows row v aborts w None (Some n) p q told hears b a free calm h =
    go n.reselected refl (n.target == v.dev) refl
  where
    k : RunState
    k = run_state s rows

    d : RowReading
    d = row_reading k.story.bus_state row

    stays : IsOpeningIf s (row ∷ rows) v.dev v.opening
    stays = subst (λ (z : Option ℕ). IsOpeningIf s (row ∷ rows) v.dev z) (sym (free refl)) tt

    exchange : (run_state s (row ∷ rows)).exchange ≡ first_exchange s k n (aim_of k.story.aims n.initiator)
    exchange = λ i. exchange_after s k row d (b i) (a i) (leaving_of s k (b i))

    go : (r : Bool) → n.reselected ≡ r → (o : Bool) → (n.target == v.dev) ≡ o → IsOpeningIf s (row ∷ rows) v.dev
        (if not n.reselected && n.target == v.dev then record v { opening = Some n.initiator } else v).opening
    go true f o g = subst (λ (z : Bool). IsOpeningIf s (row ∷ rows) v.dev
        (if not z && n.target == v.dev then record v { opening = Some n.initiator } else v).opening) (sym f) stays
    go false f false g = subst (λ (z : Bool). IsOpeningIf s (row ∷ rows) v.dev
        (if not z && n.target == v.dev then record v { opening = Some n.initiator } else v).opening)
        (sym f) (subst (λ (z : Bool). IsOpeningIf s (row ∷ rows) v.dev
        (if z then record v { opening = Some n.initiator } else v).opening) (sym g) stays)
    go false f true g = subst (λ (z : Bool). IsOpeningIf s (row ∷ rows) v.dev
        (if not z && n.target == v.dev then record v { opening = Some n.initiator } else v).opening)
        (sym f) (subst (λ (z : Bool). IsOpeningIf s (row ∷ rows) v.dev
        (if z then record v { opening = Some n.initiator } else v).opening) (sym g) (
          n,
          record {
            stands = sym q.connection ∙ a;
            own = g;
            by = refl;
            calm = sym (λ i. (q.bus i).rst) ∙ begins_calm k.story.bus_state.call d.change row n
                (sym (λ i. connection_after (b i) k.story.bus_state.call d.change row) ∙ a);
            cause = (λ i. (exchange i).plan.cause)
                ∙ (λ i. (first_plan (f i) (not n.reselected && may_negotiate k n (aim_of k.story.aims n.initiator))
                (naming_of s k n)).cause);
            first = λ x. (let bad : true ≡ false = sym x ∙ (λ i. (exchange i).begun) ∙ f in cc);
          },
        ))
opens_so s rows row v aborts w (Some m) None p q told hears b a free calm h = go v.opening refl
  where
    go : (o : Option ℕ) → v.opening ≡ o → IsOpeningIf s (row ∷ rows) v.dev (met_by_opening v aborts v.opening).opening
    go None f = subst (λ (z : Option ℕ). IsOpeningIf s (row ∷ rows) v.dev (met_by_opening v aborts z).opening) (sym f)
        (subst (λ (z : Option ℕ). IsOpeningIf s (row ∷ rows) v.dev z) (sym f) tt)
    go (Some i) f =
        subst (λ (z : Option ℕ). IsOpeningIf s (row ∷ rows) v.dev (met_by_opening v aborts z).opening) (sym f) tt
opens_so s rows row v aborts w (Some m) (Some n) p q told hears b a free calm h =
    go (is_phase_left w) refl v.opening refl
  where
    k : RunState
    k = run_state s rows

    d : RowReading
    d = row_reading k.story.bus_state row

    same : m ≡ n
    same = connection_stays k.story.bus_state.connection d.next k.story.bus_state.call d.change row m n refl b a

    exchange : (run_state s (row ∷ rows)).exchange
        ≡ exchange_on (host_of s n.initiator) (hearing_of k row d) (leaving s k m.target) k.exchange
    exchange = λ i. exchange_after s k row d (b i) (a i) (leaving_of s k (b i))

    kept : is_phase_left w ≡ false → (o : Option ℕ) → v.opening ≡ o → IsOpeningIf s rows v.dev o
        → IsOpeningIf s (row ∷ rows) v.dev o
    kept e None f x = tt
    kept e (Some i) f x =
        let is : x.0 ≡ n = same_Some x.0 n (sym x.1.stands ∙ sym p.connection ∙ b ∙ (λ j. Some (same j))) in
        let still : (changes_phase d.change && k.exchange.begun) ≡ false =
        sym (λ j. changes_phase (told j).change && (told j).begun) ∙ e in (
          n,
          record {
            stands = sym q.connection ∙ a;
            own = (λ j. (sym is j).target == v.dev) ∙ x.1.own;
            by = (λ j. (sym is j).initiator) ∙ x.1.by;
            calm = sym (λ j. (q.bus j).rst) ∙ calm i f;
            cause = (λ j. (exchange j).plan.cause)
                ∙ cause_stays (hearing_of k row d) (leaving s k m.target) k.exchange.plan still ∙ x.1.cause;
            first = λ y. phase_stays s rows row n n p hears (x.1.stands ∙ (λ j. Some (is j))) a
                (calm i f) still x.1.first (sym (λ j. (exchange j).begun) ∙ y);
          },
        )

    go : (q : Bool) → is_phase_left w ≡ q → (o : Option ℕ) → v.opening ≡ o
        → IsOpeningIf s (row ∷ rows) v.dev (if is_phase_left w then met_by_opening v aborts v.opening else v).opening
    go true e None f = subst
        (λ (z : Bool). IsOpeningIf s (row ∷ rows) v.dev (if z then met_by_opening v aborts v.opening else v).opening)
        (sym e) (subst (λ (z : Option ℕ). IsOpeningIf s (row ∷ rows) v.dev (met_by_opening v aborts z).opening) (sym f)
        (subst (λ (z : Option ℕ). IsOpeningIf s (row ∷ rows) v.dev z) (sym f) tt))
    go true e (Some i) f = subst (λ (z : Bool). IsOpeningIf s (row ∷ rows) v.dev
        (if z then met_by_opening v aborts v.opening else v).opening) (sym e)
        (subst (λ (z : Option ℕ). IsOpeningIf s (row ∷ rows) v.dev (met_by_opening v aborts z).opening) (sym f) tt)
    go false e o f = subst
        (λ (z : Bool). IsOpeningIf s (row ∷ rows) v.dev (if z then met_by_opening v aborts v.opening else v).opening)
        (sym e) (subst (λ (z : Option ℕ). IsOpeningIf s (row ∷ rows) v.dev z) (sym f)
        (kept e o f (subst (λ (z : Option ℕ). IsOpeningIf s rows v.dev z) f h)))

-- ---- a row that raises RST ends the opening, and shows a reset

reset_shown : (s : ScenarioValue) (k : RunState) (row : Row) (d : RowReading) → d.change.after.rst ≡ true
    → rises d.change.own.rst d.change.next.rst ≡ true → row_events_by s k.story d row ≡ events.Reset row.dev ∷ []
reset_shown s k row d e f =
    (λ i. if e i then (if rises d.change.own.rst d.change.next.rst then events.Reset row.dev ∷ [] else [])
    else link_events s k.story k.story.link d) ∙ (λ i. if f i then events.Reset row.dev ∷ [] else [])

unbarred_by : (k : RunState) (v : NegotiatedValue) (before after : Option Connection) → IsUnbarred k.negotiated v
    → IsUnbarred (negotiated_by_connection k before after) v
unbarred_by k v None None h = h
unbarred_by k v (Some m) None h = h
unbarred_by k v (Some m) (Some n) h = h
unbarred_by k v None (Some n) h = go (not n.reselected && is_for_process (aim_of k.story.aims n.initiator))
  where
    go : (q : Bool) → IsUnbarred (if q then with_negotiated k.negotiated n.initiator n.target else k.negotiated) v
    go true = h
    go false = h

pub negotiated_goes_on : (s : ScenarioValue) (rows : List Row) (row : Row) (v : NegotiatedValue)
    (aborts : Bool) (w : Hearing) (before after : Option Connection) (shown : List Event)
    → IsPlain s rows (run_state s rows) → IsPlain s (row ∷ rows) (run_state s (row ∷ rows))
    → hearing_of (run_state s rows) row (row_reading (run_state s rows).story.bus_state row) ≡ hearing rows row
    → IsOn rows → IsOff (row ∷ rows) → AreOfDevices (row ∷ rows) → w ≡ hearing rows row
    → before ≡ connection rows → after ≡ connection (row ∷ rows) → shown ≡ events_of_row s rows row
    → heard s (row ∷ rows) ≡ true → IsHeardSo s rows v.dev aborts → IsNegotiatedOf s rows v
    → IsNegotiatedOf s (row ∷ rows) (negotiated_seen v aborts w before after shown)
negotiated_goes_on s rows row v aborts w before after shown p q hears on off d told b a events_are hears_all says h =
    subst (λ (z : NegotiatedValue). IsNegotiatedOf s (row ∷ rows) z)
    (λ i. met_after_events (met_by_connection v aborts w (first i) (last i)) (sym events_are i))
    (go r.change.after.rst refl v.opening refl)
  where
    k : RunState
    k = run_state s rows

    r : RowReading
    r = row_reading k.story.bus_state row

    u : NegotiatedValue
    u = met_by_connection v aborts w k.story.bus_state.connection r.next

    same : w ≡ hearing_of k row r
    same = told ∙ sym hears

    first : k.story.bus_state.connection ≡ before
    first = p.connection ∙ sym b

    last : r.next ≡ after
    last = q.connection ∙ sym a

    versions : u.version ≡ s.version
    versions = met_version v aborts w k.story.bus_state.connection r.next ∙ h.version_is

    free : k.story.bus_state.connection ≡ None → v.opening ≡ None
    free e = by v.opening refl h.opens
      where
        by : (o : Option ℕ) → v.opening ≡ o → IsOpeningIf s rows v.dev o → v.opening ≡ None
        by None f x = f
        by (Some i) f x = (let bad : Some x.0 ≡ None = sym x.1.stands ∙ sym p.connection ∙ e in cc)

    by_events : HasMet (negotiated_by_connection k k.story.bus_state.connection r.next)
        (is_for_process (served_after s k k.story.bus_state.connection r.next)) u
        → IsOpeningIf s (row ∷ rows) v.dev u.opening
        → IsNegotiatedOf s (row ∷ rows) (met_after_events u (events_of_row s rows row))
    by_events x o = record {
      version_is = events_version u (events_of_row s rows row) ∙ versions;
      kept =
          subst (λ (n : ℕ). HasMet (negotiated_after n (negotiated_by_connection k k.story.bus_state.connection r.next)
          (events_of_row s rows row)) (is_for_process (served_after s k k.story.bus_state.connection r.next))
          (met_after_events u (events_of_row s rows row))) versions
          (events_so (negotiated_by_connection k k.story.bus_state.connection r.next) u
          (is_for_process (served_after s k k.story.bus_state.connection r.next)) (events_of_row s rows row) x);
      opens = subst (λ (n : ℕ). IsOpeningIf s (row ∷ rows) n (met_after_events u (events_of_row s rows row)).opening)
          (sym (events_dev u (events_of_row s rows row) ∙ met_dev v aborts w k.story.bus_state.connection r.next))
          (events_open s u (row ∷ rows) v.dev (events_of_row s rows row) o);
    }

    told_at : (i : ℕ) → v.opening ≡ Some i → r.change.after.rst ≡ false → (n : Connection) × IsOpening s rows v.dev i n
        → (after : Option Connection) → r.next ≡ after → is_opening_left w after ≡ true
        → aborts ≡ not (is_for_process k.served)
    told_at i f off x after e left =
        says x.0 (record { stands = x.1.stands; own = x.1.own }) x.1.calm
        ∙ left_told s rows row x.0 p hears_all x.1.stands x.1.calm off x.1.cause x.1.first after e
        (λ m g. sym (λ j. changes_phase (same j).change && (same j).begun) ∙ sym (λ j. is_opening_left w (g j)) ∙ left)

    step : ((i : ℕ) → v.opening ≡ Some i → r.change.after.rst ≡ false)
        → IsNegotiatedOf s (row ∷ rows) (met_after_events u (events_of_row s rows row))
    step calm = by_events (row_so s k v aborts w k.story.bus_state.connection r.next free (λ i f left. told_at i f
        (calm i f) (subst (λ (z : Option ℕ). IsOpeningIf s rows v.dev z) f h.opens) r.next refl left) h.kept) (opens_so
        s rows row v aborts w k.story.bus_state.connection r.next p q same hears_all refl refl free calm h.opens)

    go : (x : Bool) → r.change.after.rst ≡ x → (o : Option ℕ) → v.opening ≡ o
        → IsNegotiatedOf s (row ∷ rows) (met_after_events u (events_of_row s rows row))
    go false e o f = step (λ i g. e)
    go true e None f = step (λ i g. (let bad : None ≡ Some i = sym f ∙ g in cc))
    go true e (Some i) f =
        subst (λ (z : List Event). IsNegotiatedOf s (row ∷ rows) (met_after_events u z)) (sym reset)
        (record {
          version_is = versions;
          kept = subst (λ (z : List Event). HasMet
              (negotiated_after s.version (negotiated_by_connection k k.story.bus_state.connection r.next) z)
              (is_for_process (served_after s k k.story.bus_state.connection r.next)) (met_after_reset u))
              (sym reset) (subst (λ (n : ℕ). HasMet (negotiated_after_event n
              (negotiated_by_connection k k.story.bus_state.connection r.next) (events.Reset row.dev))
              (is_for_process (served_after s k k.story.bus_state.connection r.next)) (met_after_reset u)) versions
              (reset_so (negotiated_by_connection k k.story.bus_state.connection r.next) u
              (is_for_process (served_after s k k.story.bus_state.connection r.next)) (u.version == 1) refl
              (λ z. unbarred_by k v k.story.bus_state.connection r.next h.kept.unbarred
              ((λ j. sym (met_version v aborts w k.story.bus_state.connection r.next) j == 1) ∙ z))));
          opens = tt;
        })
      where
        stands : (n : Connection) × IsOpening s rows v.dev i n
        stands = subst (λ (z : Option ℕ). IsOpeningIf s rows v.dev z) f h.opens

        raised : rises (drives rows row.dev).rst (driven_after row.kind (drives rows row.dev)).rst ≡ true
        raised = raises rows row d.0 on off stands.1.calm ((λ j. (sym q.bus j).rst) ∙ e)

        reset : events_of_row s rows row ≡ events.Reset row.dev ∷ []
        reset = reset_shown s k row r e
            ((λ j. rises (p.drives row.dev d.0 j).rst (driven_after row.kind (p.drives row.dev d.0 j)).rst) ∙ raised)

-- ---- before any row

pub negotiated_starts : (s : ScenarioValue) (dev : ℕ) → IsNegotiatedOf s [] (nobody_met dev s.version)
negotiated_starts s dev = record {
  version_is = refl;
  kept =
      record { eight = refl; met = λ i l. sym (λ j. none_of_eight false i l j || false); unbarred = λ e. (refl, refl) };
  opens = tt;
}

-- ---- what it tells

pub included : (s : ScenarioValue) (rows : List Row) (v : NegotiatedValue) (i : ℕ) → i < 8 → connection rows ≡ None
    → IsNegotiatedOf s rows v → get_or v.had i false ≡ has_negotiated (run_state s rows).negotiated i v.dev
included s rows v i l e h = sym (had_is (run_state s rows).negotiated (is_for_process (run_state s rows).served) v
    (by v.opening refl h.opens) h.kept i l)
  where
    by : (o : Option ℕ) → v.opening ≡ o → IsOpeningIf s rows v.dev o → v.opening ≡ None
    by None f x = f
    by (Some i) f x = (let bad : Some x.0 ≡ None = sym x.1.stands ∙ e in cc)
