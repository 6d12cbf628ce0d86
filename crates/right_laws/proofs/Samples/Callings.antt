-- A calling of a device that is there ends without an answer only where a fault struck the IDs that it sampled (6.1.3,
-- 6.1.3.1).
use Rattle.right_laws.proofs
use proofs.Names.{ℕ, ◌≡◌, ◌<◌, ◌≤◌, ◌+◌, ◌^◌, Bool, true, false, not, ◌&&◌, ◌∙◌, List, [], ◌∷◌, Option, Some, None}
use proofs.Names.{refl, sym, ap, arith, ◌==◌, eqb-true, same_Some, if◌then◌else◌, is_some, wrong, wrong', and_false}
use proofs.Names.{bus_on, same_set-eq, change_of, LineSet, none, union, call, calling_after, caller_goes_on}
use proofs.Names.{called_goes_on, connection, drives_two_ids, new_calling, when, bus, drives, driven_after, line_times}
use proofs.Names.{Kind, Drives, Row, Change, Connection, BUS_SETTLE_DELAY, Call, Calling, stage, InCalling, row_none}
use proofs.Names.{only_rst, broken_rule, ScenarioValue, Obeys, latency_of, Due, IsLeast, due, IsPrompt, drives_own}
use proofs.Names.{stage_is, asks_due, answers_due, waits_due, flip_at, answer_exists, ids_not_zero, is_there, is_at}
use proofs.Names.{least_is, reset_or_calm, by_calm, obeys_latencies, answer_lines, begun_call, calling_lines}
use proofs.Names.{awaiting_call, both_ids, won_call, own_time, unreset_due, row_of_lines, HasShortLatencies}
use proofs.Names.{CalmStanding, BusStage, on_free_bus, in_arbitration, after_arbitration, with_both_ids}
use proofs.Names.{awaiting_answer, after_withdrawal, after_answer, after_takeover, in_reset, AwaitsAnswer, Calls}
use proofs.Names.{sides_are, none_some, by_bool, by_option, quiet_sel, under_rst, Stood, quiet_at_end, whole}
use proofs.Samples.{Calls.{Follows, calling_follows, GoesOn, call_goes}, Moments.{apart_of, linked_of, reset_of}}
use Rattle.trace_laws.specs.bus_laws.proofs.Stages.Next.{by_reset}
use Rattle.trace_laws.specs.bus_laws.specs.Stages.{in_connection}

-- ---- a row of the caller

pub asks_row : (s : ScenarioValue) (p : List Row) (m : Bool) (c i t0 t1 : ℕ) (row : Row) → CalmStanding s p
    → Calls s p (begun_call m c i t0 t1) c i (both_ids m c i) none (both_ids m c i) → IsLeast (unreset_due s p) 8 row
    → row.dev ≡ c → row.kind ≡ Drives (calling_lines m false (2 ^ c + 2 ^ i + 256))
asks_row s p m c i t0 t1 row always h least same =
    let x : Due = record { time = row.time; kind = row.kind } in
    let w = is_there s p row.dev x least.is_due in
    let was : stage p ≡ InCalling (begun_call m c i t0 t1) = stage_is p _ _ _ _ h.stands in
    (is_at (own_time p c + 90 + w.0) (calling_lines m false (2 ^ c + 2 ^ i + 256)) x
    (sym (asks_due s p m c i t0 t1 w.0 (both_ids m c i) always.devices h.caller_below
    (ap (latency_of s) (sym same) ∙ w.1) h.stands.connection_is was h.caller)
    ∙ ap (unreset_due s p) (sym same) ∙ least.is_due)).kind_is

pub record Withdrawn (row : Row) (m : Bool) (t : ℕ) : Type 0 where
  pub late : t + 250000000 ≤ row.time
  pub kind_is : row.kind ≡ Drives (calling_lines m false 0)

pub waits_row : (s : ScenarioValue) (p : List Row) (v m : Bool) (c i t0 t1 t2 l : ℕ) (row : Row) → CalmStanding s p
    → AwaitsAnswer s p v m c i t0 t1 t2 l → IsLeast (unreset_due s p) 8 row → row.dev ≡ c → Withdrawn row m t2
waits_row s p v m c i t0 t1 t2 l row always a least same =
    let h = a.here in
    let x : Due = record { time = row.time; kind = row.kind } in
    let w = is_there s p row.dev x least.is_due in
    let was : stage p ≡ InCalling (awaiting_call v m c i t0 t1 t2) = stage_is p _ _ _ _ h.stands in
    let z = is_at (t2 + 250000000 + w.0) (record (calling_lines m false l) { data_bits = 0 }) x
    (sym (waits_due s p v m c i t0 t1 t2 w.0 (calling_lines m false l) always.devices h.caller_below
    (ap (latency_of s) (sym same) ∙ w.1) h.stands.connection_is was h.caller)
    ∙ ap (unreset_due s p) (sym same) ∙ least.is_due) in
    record { late = (let u = z.time_is in omega arith); kind_is = z.kind_is }

-- A device that is called, is there and was not struck would have answered by then.
answers_first : {A : Type 0} (s : ScenarioValue) (p : List Row) (m : Bool) (c i t0 t1 t2 l lat : ℕ) (row : Row)
    → HasShortLatencies s → CalmStanding s p → AwaitsAnswer s p false m c i t0 t1 t2 l → IsLeast (unreset_due s p) 8 row
    → latency_of s i ≡ Some lat → t2 + 250000000 ≤ row.time → A
answers_first s p m c i t0 t1 t2 l lat row fits always a least there late =
    let h = a.here in
    let was : stage p ≡ InCalling (awaiting_call false m c i t0 t1 t2) = stage_is p _ _ _ _ h.stands in
    let y = answer_exists ((line_times p).bsy + BUS_SETTLE_DELAY + lat) (flip_at s p lat) answer_lines in
    let first = least.first i h.called_below y.0
    (answers_due s p m c i t0 t1 t2 lat always.devices h.called_below there h.stands.connection_is h.apart was h.other
    ∙ y.1.0) in
    let at = y.1.1 in
    let age = a.bsy_age in
    let short = fits.latency i lat there in
    absurd (omega (arith, first, at, age, short, late))

-- ---- whom a caller has called in vain was struck

abbrev pub IsStruckOut : ScenarioValue → List Row → Type 0
IsStruckOut s p = (c : Call) (g : Calling) → call p ≡ Some c → c.calling ≡ Some g → is_some g.answered ≡ false
    → is_some g.withdrawn ≡ true → (lat : ℕ) → latency_of s g.called ≡ Some lat → g.struck ≡ true

next_lines : (p : List Row) (row : Row) (l : LineSet) → row.kind ≡ Drives l → (change_of p row).next ≡ l
next_lines p row l e = ap (λ (y : Kind). driven_after y (drives p row.dev)) e

-- The caller does not withdraw.
unwithdrawn : (x : Calling) (c : Change) (t : ℕ) → (c.next.data_bits == 0) ≡ false → is_some x.withdrawn ≡ false
    → is_some (caller_goes_on x c t).withdrawn ≡ false
unwithdrawn x c t e none = (λ i. is_some (when (not (c.own.data_bits == 0) && e i) t x.withdrawn))
    ∙ (λ i. is_some (when (and_false (not (c.own.data_bits == 0)) i) t x.withdrawn)) ∙ none

-- One that was called, answered not and was not struck, and then is withdrawn from, is not there.
withdrawn_now : {A : Type 0} (s : ScenarioValue) (p : List Row) (row : Row) (b : Call) (x : Calling) (lat : ℕ)
    → HasShortLatencies s → connection p ≡ None → (bus p).rst ≡ false → CalmStanding s p
    → IsLeast (unreset_due s p) 8 row → call p ≡ Some b → b.calling ≡ Some x → row.dev ≡ b.caller
    → x.struck ≡ false → is_some x.answered ≡ false → is_some x.withdrawn ≡ false → latency_of s x.called ≡ Some lat
    → is_some (caller_goes_on x (change_of p row) row.time).withdrawn ≡ true → BusStage s p → A
withdrawn_now s p row b x lat fits alone calm always least ek ex own us un uw there now (on_free_bus h) =
    none_some b (sym h.stands.call_is ∙ ek)
withdrawn_now s p row b x lat fits alone calm always least ek ex own us un uw there now (in_arbitration a h) =
    none_some b (sym h.stands.call_is ∙ ek)
withdrawn_now s p row b x lat fits alone calm always least ek ex own us un uw there now (after_arbitration c t h) =
    none_some x (ap (λ (w : Call). w.calling) (same_Some (won_call c t) b (sym h.stands.call_is ∙ ek)) ∙ ex)
withdrawn_now s p row b x lat fits alone calm always least ek ex own us un uw there now (with_both_ids m c j t0 t z h) =
    let same = same_Some _ b (sym h.stands.call_is ∙ ek) in
    let caller : row.dev ≡ c = own ∙ ap (λ (w : Call). w.caller) (sym same) in
    let lines = next_lines p row _ (asks_row s p m c j t0 t row always h least caller) in
    wrong (sym now
    ∙ unwithdrawn x (change_of p row) row.time (ap (λ (l : LineSet). l.data_bits == 0) lines ∙ ids_not_zero c j) uw)
withdrawn_now s p row b x lat fits alone calm always least ek ex own us un uw there now
    (awaiting_answer v m c j t0 t1 t2 y a) =
    let same = same_Some _ b (sym a.here.stands.call_is ∙ ek) in
    let caller : row.dev ≡ c = own ∙ ap (λ (w : Call). w.caller) (sym same) in
    by v a same caller
  where
    by : {A : Type 0} (v : Bool) → AwaitsAnswer s p v m c j t0 t1 t2 y → awaiting_call v m c j t0 t1 t2 ≡ b
        → row.dev ≡ c → A
    by v a same caller = go v a (same_Some _ x (ap (λ (w : Call). w.calling) same ∙ ex)) caller
      where
        go : {A : Type 0} (v : Bool) → AwaitsAnswer s p v m c j t0 t1 t2 y → (let g : Calling = record {
          called = j;
          reselects = not m;
          at = t1;
          released = Some t2;
          withdrawn = None;
          resumed = None;
          answered = None;
          struck = v;
        } in g) ≡ x → row.dev ≡ c → A
        go true a g caller = wrong (ap (λ (w : Calling). w.struck) g ∙ us)
        go false a g caller = answers_first s p m c j t0 t1 t2 y lat row fits always a least
            (ap (λ (w : Calling). latency_of s w.called) g ∙ there)
            (waits_row s p false m c j t0 t1 t2 y row always a least caller).late
withdrawn_now s p row b x lat fits alone calm always least ek ex own us un uw there now
    (after_withdrawal v m c j t0 t1 t2 t3 z h) = wrong (ap (λ (w : Calling). is_some w.withdrawn)
    (same_Some _ x (ap (λ (w : Call). w.calling) (same_Some _ b (sym h.stands.call_is ∙ ek)) ∙ ex)) ∙ uw)
withdrawn_now s p row b x lat fits alone calm always least ek ex own us un uw there now
    (after_answer m c j t0 t1 t2 t3 y h) = wrong (ap (λ (w : Calling). is_some w.answered)
    (same_Some _ x (ap (λ (w : Call). w.calling) (same_Some _ b (sym h.here.stands.call_is ∙ ek)) ∙ ex)) ∙ un)
withdrawn_now s p row b x lat fits alone calm always least ek ex own us un uw there now
    (after_takeover c j t0 t1 t2 t3 t4 y z f h) = wrong (ap (λ (w : Calling). is_some w.answered)
    (same_Some _ x (ap (λ (w : Call). w.calling) (same_Some _ b (sym h.here.stands.call_is ∙ ek)) ∙ ex)) ∙ un)
withdrawn_now s p row b x lat fits alone calm always least ek ex own us un uw there now (in_reset h) =
    wrong (sym h.reset ∙ calm)
withdrawn_now s p row b x lat fits alone calm always least ek ex own us un uw there now (in_connection n f g h) =
    none_some n (sym alone ∙ f)

not_so : (q : Bool) → (q ≡ true → false ≡ true) → q ≡ false
not_so true f = wrong' (f refl)
not_so false f = refl

not_true : (q : Bool) → q ≡ false → q ≡ true → false ≡ true
not_true q e f = sym e ∙ f

-- The calling after a row, while SEL is true before it.
struck_on : (s : ScenarioValue) (p : List Row) (row : Row) → HasShortLatencies s → connection p ≡ None
    → (bus p).rst ≡ false → CalmStanding s p → IsLeast (unreset_due s p) 8 row → BusStage s p → IsStruckOut s p
    → IsStruckOut s (row ∷ p)
struck_on s p row fits alone calm always least h was k g e f un w lat there =
    by_option c.was.calling (λ ex. new (row.dev == c.was.caller && drives_two_ids c.was.caller (change_of p row).next)
    (sym (ap (λ (o : Option Calling). calling_after c.was.caller o (change_of p row) row) ex) ∙ c.goes)) (λ x ex.
    by_parts x ex (sym (ap (λ (o : Option Calling). calling_after c.was.caller o (change_of p row) row) ex) ∙ c.goes)
    (is_some x.withdrawn) refl x.struck refl)
  where
    c : GoesOn p row k g
    c = call_goes p row k g e f

    new : (q : Bool) → (if q then Some (new_calling c.was.caller (change_of p row).next row.time) else None) ≡ Some g
        → g.struck ≡ true
    new true z = wrong' (ap (λ (y : Calling). is_some y.withdrawn) (same_Some _ g z) ∙ w)
    new false z = none_some g z

    by_parts : (x : Calling) → c.was.calling ≡ Some x
        → calling_after c.was.caller (Some x) (change_of p row) row ≡ Some g → (z : Bool) → is_some x.withdrawn ≡ z
        → (v : Bool) → x.struck ≡ v → g.struck ≡ true
    by_parts x ex goes true ew v ev =
        let fl = calling_follows c.was.caller x g (change_of p row) row goes in
        fl.struck
        (was c.was x c.was_is ex (not_so (is_some x.answered) (λ y. not_true (is_some g.answered) un (fl.answered y)))
        ew lat (ap (latency_of s) (sym fl.called) ∙ there))
    by_parts x ex goes false ew true ev = (calling_follows c.was.caller x g (change_of p row) row goes).struck ev
    by_parts x ex goes false ew false ev = go (row.dev == c.was.caller) refl (row.dev == x.called) goes
      where
        fl : Follows x g
        fl = calling_follows c.was.caller x g (change_of p row) row goes

        go : (q : Bool) → (row.dev == c.was.caller) ≡ q → (r : Bool)
            → (if q then Some (caller_goes_on x (change_of p row) row.time)
            else if r then Some (called_goes_on x (change_of p row) row) else Some x) ≡ Some g
            → g.struck ≡ true
        go true own r z = withdrawn_now s p row c.was x lat fits alone calm always least c.was_is ex
            (eqb-true row.dev c.was.caller own) ev (not_so (is_some x.answered)
            (λ y. not_true (is_some g.answered) un (fl.answered y))) ew (ap (latency_of s) (sym fl.called) ∙ there)
            (ap (λ (y : Calling). is_some y.withdrawn) (same_Some _ g z) ∙ w) h
        go false own true z = wrong' (sym ew ∙ ap (λ (y : Calling). is_some y.withdrawn) (same_Some _ g z) ∙ w)
        go false own false z = wrong' (sym ew ∙ ap (λ (y : Calling). is_some y.withdrawn) (same_Some _ g z) ∙ w)

-- SEL is false while a connection stands, and as RST falls.
linked_sel : (s : ScenarioValue) (p : List Row) (n : Connection) → Stood s p → connection p ≡ Some n
    → (bus p).rst ≡ false → (bus p).sel ≡ false
linked_sel s p n was con calm =
    let w = sides_are s p n (linked_of s p n was.here calm con) in
    ap (λ (l : LineSet). l.sel) w.1.stands.bus_is

pub reset_sel : (s : ScenarioValue) (p : List Row) (row : Row) → Stood s p → row.dev < 8 → broken_rule p row ≡ None
    → (bus p).rst ≡ true → (bus (row ∷ p)).rst ≡ false → (bus p).sel ≡ false
reset_sel s p row was lt obeys on off = quiet_sel (bus p) (same_set-eq (union only_rst (bus p)) only_rst
    (quiet_at_end s p row lt obeys (under_rst s p (reset_of s p was.here on) on) off))

struck_next : (s : ScenarioValue) (p : List Row) (row : Row) → Obeys s → IsPrompt s (row ∷ p)
    → (connection p ≡ None → (bus p).rst ≡ false → IsStruckOut s p) → (bus (row ∷ p)).rst ≡ false
    → IsStruckOut s (row ∷ p)
struck_next s p row o prompt before off =
    by_bool (bus p).rst
    (λ on. low (reset_sel s p row was m.inside obeys on off))
    (λ calm. by_connection calm (connection p) refl)
  where
    was : Stood s p
    was = (whole s p o prompt.0).stood

    m : IsLeast (due s p) 8 row
    m = least_is s p row prompt.1

    obeys : broken_rule p row ≡ None
    obeys = (row_none p row).1 (whole s (row ∷ p) o prompt).stood.standing.lawful.1

    rst_on : row ≡ row_of_lines row.time row.dev only_rst → (bus (row ∷ p)).rst ≡ true
    rst_on z =
        bus_on (λ y. y.rst) (λ _ _. refl) (row ∷ p) row.dev m.inside (ap (λ (w : Row). (drives (w ∷ p) row.dev).rst) z
        ∙ ap (λ (l : LineSet). l.rst) (drives_own p row.time row.dev only_rst))

    low : (bus p).sel ≡ false → IsStruckOut s (row ∷ p)
    low none k g e f = wrong (sym (call_goes p row k g e f).sel ∙ none)

    by_connection : (bus p).rst ≡ false → (x : Option Connection) → connection p ≡ x → IsStruckOut s (row ∷ p)
    by_connection calm (Some n) con = low (linked_sel s p n was con calm)
    by_connection calm None con = elim (reset_or_calm s p row was.standing calm m) [
      | by_reset z ↦ wrong (sym (rst_on z) ∙ off)
      | by_calm always least ↦
          struck_on s p row (obeys_latencies s o) con calm always least (apart_of s p was.here con) (before con calm)
    ]

pub struck_out : (s : ScenarioValue) (p : List Row) → Obeys s → IsPrompt s p → connection p ≡ None → (bus p).rst ≡ false
    → IsStruckOut s p
struck_out s [] o prompt alone off = λ k g e. none_some k e
struck_out s (row ∷ p) o prompt alone off = struck_next s p row o prompt (struck_out s p o prompt.0) off
