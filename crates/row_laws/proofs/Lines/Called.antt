-- The caller of a connection called the device that it is due to call.
use Rattle.row_laws.proofs
use proofs.Names.{ℕ, ◌≡◌, ◌<◌, Bool, true, false, not, ◌&&◌, ◌==◌, ◌∙◌, List, [], ◌∷◌, Option, Some, None, refl, sym}
use proofs.Names.{ap, subst, eqb-true, same_Some, if◌then◌else◌, wrong, and_false, change_of, rises, falls, LineSet}
use proofs.Names.{call, call_goes_on, calling_after, caller_goes_on, called_goes_on, new_calling, other_id}
use proofs.Names.{drives_two_ids, arbitration, connection, connection_of, connected, connected_by, connected_of, bus}
use proofs.Names.{drives, driven_after, Kind, Row, Change, Connection, Call, Calling, stage, InCalling, units_of}
use proofs.Names.{ScenarioValue, history_sound, start_units, is_initiator, AllOwnUnits, HasSeats, Array, latency_of}
use proofs.Names.{aim_of, trace_history, Due, run_state_plain, IsLeast, AreOfDevices, RunState, array_of, or_start}
use proofs.Names.{run_state, callee, target_of, initiator_if, AreUnits, selects_for, reselects_by, IsAimedAt}
use proofs.Names.{IsReadyFor, KeepsAll, still_keeps, is_call, stage_is, calls_due, is_calling, is_there, both_ids}
use proofs.Names.{won_call, BeginsConnection, by_selection, by_reselection, own_time, unreset_due, BusStage}
use proofs.Names.{on_free_bus, in_arbitration, after_arbitration, with_both_ids, awaiting_answer, after_withdrawal}
use proofs.{Names.{after_answer, after_takeover, in_reset, CalmStanding}, Common.Impossible.{none_some}}
use proofs.Common.Tests.{not_not, falls_true, by_bool, by_option}
use Rattle.link_laws.specs.bus_laws.specs.Stages.{in_connection}

-- A connection is made for the item of its initiator, or the process that its target has ready: the caller called the
-- device that it is due to call.
pub record IsMadeFor (s : ScenarioValue) (k : RunState) (n : Connection) : Type 0 where
  pub selects : n.reselected ≡ false → IsAimedAt s k n
  pub reselects : n.reselected ≡ true → IsReadyFor s k n

-- Whom a device is due to call.
abbrev pub callee_at : ScenarioValue → List Row → ℕ → Option ℕ
callee_at s p c = callee s (run_state s p) c (aim_of (run_state s p).story.aims c)

pub record IsDueCall (s : ScenarioValue) (p : List Row) (c : ℕ) (x : Calling) : Type 0 where
  pub callee_is : callee_at s p c ≡ Some x.called
  pub host_is : is_initiator s.hosts c ≡ not x.reselects

abbrev pub IsCalled : ScenarioValue → List Row → Type 0
IsCalled s p = (c : Call) (x : Calling) → call p ≡ Some c → c.calling ≡ Some x → IsDueCall s p c.caller x

-- ---- small facts

-- A call stands while SEL is true.
pub sel_of_call : (p : List Row) (c : Call) → call p ≡ Some c → (bus p).sel ≡ true
sel_of_call [] c e = absurd (none_some c e)
sel_of_call (row ∷ rows) c e = by_bool (bus (row ∷ rows)).sel (λ f. f) (λ f. absurd
    (none_some c (sym (ap (λ (q : Bool). if not q then None else if rises (bus rows).sel q then Some (record {
      caller = row.dev;
      at = row.time;
      calling = None;
    }) else call_goes_on (call rows) (change_of rows row) row) f) ∙ e)))

-- As SEL rises no device is called yet.
pub fresh_call : (s : ScenarioValue) (p : List Row) (row : Row) → (bus p).sel ≡ false → IsCalled s (row ∷ p)
fresh_call s p row off k x e f =
    let on = sel_of_call (row ∷ p) k e in
    let new : (record { caller = row.dev; at = row.time; calling = None }) ≡ k = same_Some _ k
    (sym (λ i. if not (on i) then None
    else if rises (off i) (on i) then Some (record { caller = row.dev; at = row.time; calling = None })
    else call_goes_on (call p) (change_of p row) row) ∙ e) in
    absurd (none_some x (ap (λ (c : Call). c.calling) new ∙ f))

-- ---- a row with which SEL stays true changes no one's wish

pub link_none : (s : ScenarioValue) (p : List Row) → BusStage s p → connection p ≡ None
    → (run_state s p).story.link ≡ None
link_none s p (on_free_bus h) e = h.link
link_none s p (in_arbitration a h) e = h.link
link_none s p (after_arbitration c t h) e = h.link
link_none s p (with_both_ids m c k t0 t z h) e = h.link
link_none s p (awaiting_answer v m c k t0 t1 t2 x h) e = h.here.link
link_none s p (after_withdrawal v m c k t0 t1 t2 t3 z h) e = h.link
link_none s p (after_answer m c k t0 t1 t2 t3 x h) e = h.here.link
link_none s p (after_takeover c k t0 t1 t2 t3 t4 x z f h) e = h.here.link
link_none s p (in_reset h) e = h.link
link_none s p (in_connection n f g h) e = absurd (none_some n (sym e ∙ f))

keeps_all : (s : ScenarioValue) (p : List Row) (row : Row) → AreOfDevices p → row.dev < 8 → BusStage s p
    → connection p ≡ None → (bus (row ∷ p)).rst ≡ false → (bus p).sel ≡ true → (bus (row ∷ p)).sel ≡ true
    → KeepsAll s p (row ∷ p)
keeps_all s p row dv lt h alone calm before after =
    let g : Change = change_of p row in
    let fal : falls g.before.sel g.after.sel ≡ false = falls_true (bus p).sel (bus (row ∷ p)).sel after in
    still_keeps s p row g (bus p) (arbitration p) (call p)
    (record {
      devices = dv;
      below = lt;
      stands = record { bus_is = refl; arbitration_is = refl; call_is = refl; connection_is = alone };
      link = link_none s p h alone;
      change = refl;
      calm = calm;
      alone = λ i. if fal i && g.after.bsy && not g.after.rst then connection_of (call p) row.time else None;
    })
    ((λ i. rises g.own.bsy g.next.bsy && not (before i)) ∙ and_false (rises g.own.bsy g.next.bsy)) fal

same_callee : (s : ScenarioValue) (p q : List Row) (c : ℕ) → KeepsAll s p q → callee_at s q c ≡ callee_at s p c
same_callee s p q c e =
    λ i. if is_initiator s.hosts c then target_of s (aim_of (e.aims i) c) else initiator_if (e.wishes.ready c i)

-- ---- the caller drives both IDs

new_by : (q r : Bool) (a x : Calling) → (if q && r then Some a else None) ≡ Some x → (a ≡ x) × (q ≡ true)
new_by true true a x e = (same_Some a x e, refl)
new_by true false a x e = absurd (none_some x e)
new_by false r a x e = absurd (none_some x e)

first_called : (s : ScenarioValue) (p : List Row) (row : Row) (d : Call) (x : Calling) → BusStage s p
    → (bus p).rst ≡ false → CalmStanding s p → IsLeast (unreset_due s p) 8 row → call p ≡ Some d → d.calling ≡ None
    → calling_after d.caller None (change_of p row) row ≡ Some x → IsDueCall s p d.caller x
first_called s p row d x (on_free_bus h) calm always least e none new = absurd (none_some d (sym h.stands.call_is ∙ e))
first_called s p row d x (in_arbitration a h) calm always least e none new =
    absurd (none_some d (sym h.stands.call_is ∙ e))
first_called s p row d x (with_both_ids m c j t0 t z h) calm always least e none new =
    absurd (none_some _ (sym none ∙ sym (ap (λ (w : Call). w.calling) (same_Some _ d (sym h.stands.call_is ∙ e)))))
first_called s p row d x (awaiting_answer v m c j t0 t1 t2 y h) calm always least e none new =
    absurd (none_some _ (sym none ∙ sym (ap (λ (w : Call). w.calling) (same_Some _ d (sym h.here.stands.call_is ∙ e)))))
first_called s p row d x (after_withdrawal v m c j t0 t1 t2 t3 z h) calm always least e none new =
    absurd (none_some _ (sym none ∙ sym (ap (λ (w : Call). w.calling) (same_Some _ d (sym h.stands.call_is ∙ e)))))
first_called s p row d x (after_answer m c j t0 t1 t2 t3 y h) calm always least e none new =
    absurd (none_some _ (sym none ∙ sym (ap (λ (w : Call). w.calling) (same_Some _ d (sym h.here.stands.call_is ∙ e)))))
first_called s p row d x (after_takeover c j t0 t1 t2 t3 t4 y z f h) calm always least e none new =
    absurd (none_some _ (sym none ∙ sym (ap (λ (w : Call). w.calling) (same_Some _ d (sym h.here.stands.call_is ∙ e)))))
first_called s p row d x (in_reset h) calm always least e none new = wrong (sym h.reset ∙ calm)
first_called s p row d x (in_connection n f g h) calm always least e none new = by_connection h
  where
    by_connection : BeginsConnection p n → IsDueCall s p d.caller x
    by_connection (by_selection b) = absurd (none_some d (sym b.linked.stands.call_is ∙ e))
    by_connection (by_reselection y b) = absurd (none_some d (sym b.linked.stands.call_is ∙ e))
first_called s p row d x (after_arbitration c t h) calm always least e none new =
    let same : (won_call c t) ≡ d = same_Some _ d (sym h.stands.call_is ∙ e) in
    let caller : c ≡ d.caller = ap (λ (w : Call). w.caller) same in
    let made = new_by (row.dev == d.caller) (drives_two_ids d.caller (change_of p row).next)
    (new_calling d.caller (change_of p row).next row.time) x new in
    let dev : row.dev ≡ c = eqb-true row.dev d.caller made.1 ∙ sym caller in
    let due : Due = record { time = row.time; kind = row.kind } in
    let w = is_there s p row.dev due least.is_due in
    let at : stage p ≡ InCalling (won_call c t) = stage_is p _ _ _ _ h.stands in
    let is = is_calling s c w.0 (drives p c) (own_time p c) (callee_at s p c) due
    (sym (calls_due s p c w.0 t (drives p c) always.devices h.caller_below (ap (latency_of s) (sym dev) ∙ w.1)
    h.stands.connection_is at refl) ∙ ap (unreset_due s p) (sym dev) ∙ least.is_due) in
    let m : Bool = is_initiator s.hosts c in
    let next : (change_of p row).next ≡ both_ids m c is.k = ap
    (λ (y : Kind). driven_after y (drives p row.dev)) is.kind_is in
    let two = is_call m c is.k h.caller_below is.below is.apart in
    let called : x.called ≡ is.k = ap (λ (y : Calling). y.called) (sym made.0)
    ∙ (λ i. other_id (next i) (sym caller i)) ∙ two.other in
    let io : x.reselects ≡ not m = ap (λ (y : Calling). y.reselects) (sym made.0) ∙ ap (λ (l : LineSet). l.io) next in
    record {
      callee_is = ap (callee_at s p) (sym caller) ∙ is.names ∙ ap (λ (y : ℕ). Some y) (sym called);
      host_is = ap (is_initiator s.hosts) (sym caller) ∙ sym (ap not io ∙ not_not m);
    }

-- ---- any row

due_on : (s : ScenarioValue) (p q : List Row) (c : ℕ) (x y : Calling) → KeepsAll s p q → x.called ≡ y.called
    → x.reselects ≡ y.reselects → IsDueCall s p c x → IsDueCall s q c y
due_on s p q c x y e ec er d = record {
  callee_is = same_callee s p q c e ∙ d.callee_is ∙ ap (λ (z : ℕ). Some z) ec;
  host_is = d.host_is ∙ ap not er;
}

same_calling : (caller : ℕ) (x y : Calling) (c : Change) (row : Row) → calling_after caller (Some x) c row ≡ Some y
    → (x.called ≡ y.called) × (x.reselects ≡ y.reselects)
same_calling caller x y c row e = go (row.dev == caller) (row.dev == x.called) e
  where
    go : (q r : Bool)
        → (if q then Some (caller_goes_on x c row.time) else if r then Some (called_goes_on x c row) else Some x)
        ≡ Some y → (x.called ≡ y.called) × (x.reselects ≡ y.reselects)
    go true r z = let w = same_Some _ y z in (ap (λ (v : Calling). v.called) w, ap (λ (v : Calling). v.reselects) w)
    go false true z = let w = same_Some _ y z in (ap (λ (v : Calling). v.called) w, ap (λ (v : Calling). v.reselects) w)
    go false false z =
        let w = same_Some _ y z in
        (ap (λ (v : Calling). v.called) w, ap (λ (v : Calling). v.reselects) w)

pub called_on : (s : ScenarioValue) (p : List Row) (row : Row) → BusStage s p → connection p ≡ None
    → (bus p).rst ≡ false → (bus (row ∷ p)).rst ≡ false → CalmStanding s p → IsLeast (unreset_due s p) 8 row
    → IsCalled s p → IsCalled s (row ∷ p)
called_on s p row h alone calm off always least was k x e f =
    by_bool (bus p).sel
    (λ before. by_call before (call p) refl)
    (λ before. fresh_call s p row before k x e f)
  where
    q : List Row
    q = row ∷ p

    on : (bus q).sel ≡ true
    on = sel_of_call q k e

    stands : (bus p).sel ≡ true → call_goes_on (call p) (change_of p row) row ≡ Some k
    stands before = sym (λ i. if not (on i) then None
        else if rises (before i) (on i) then Some (record { caller = row.dev; at = row.time; calling = None })
        else call_goes_on (call p) (change_of p row) row) ∙ e

    by_calling : (bus p).sel ≡ true → (z : Call) → call p ≡ Some z
        → (record z { calling = calling_after z.caller z.calling (change_of p row) row }) ≡ k
        → (o : Option Calling) → z.calling ≡ o → IsDueCall s q k.caller x
    by_calling before z ej same None none =
        let new : calling_after z.caller None (change_of p row) row ≡ Some x =
        sym (ap (λ (o : Option Calling). calling_after z.caller o (change_of p row) row) none)
        ∙ ap (λ (c : Call). c.calling) same ∙ f in
        let all = keeps_all s p row always.devices least.inside h alone off before on in
        subst (λ (c : ℕ). IsDueCall s q c x) (ap (λ (c : Call). c.caller) same)
        (due_on s p q z.caller x x all refl refl (first_called s p row z x h calm always least ej none new))
    by_calling before z ej same (Some y) some =
        let goes : calling_after z.caller (Some y) (change_of p row) row ≡ Some x =
        sym (ap (λ (o : Option Calling). calling_after z.caller o (change_of p row) row) some)
        ∙ ap (λ (c : Call). c.calling) same ∙ f in
        let all = keeps_all s p row always.devices least.inside h alone off before on in
        let parts = same_calling z.caller y x (change_of p row) row goes in
        subst (λ (c : ℕ). IsDueCall s q c x) (ap (λ (c : Call). c.caller) same)
        (due_on s p q z.caller y x all parts.0 parts.1 (was z y ej some))

    by_call : (bus p).sel ≡ true → (o : Option Call) → call p ≡ o → IsDueCall s q k.caller x
    by_call before None none =
        absurd (none_some k (sym (ap (λ (o : Option Call). call_goes_on o (change_of p row) row) none) ∙ stands before))
    by_call before (Some z) some = by_calling before z some (same_Some _ k
        (sym (ap (λ (o : Option Call). call_goes_on o (change_of p row) row) some) ∙ stands before)) z.calling refl

-- ---- a connection begins

pub own_units : (s : ScenarioValue) (p : List Row) → HasSeats s → AreOfDevices p
    → AllOwnUnits s (array_of s (run_state s p)).units
own_units s p seats dv = by_option (run_state s p).array
    (λ e. subst (λ (o : Option Array). AllOwnUnits s (or_start s o).units) (sym e) (start_units s (units_of s)))
    (λ a e. subst (λ (o : Option Array). AllOwnUnits s (or_start s o).units) (sym e)
    (history_sound s (trace_history s p) a seats (sym (run_state_plain s p dv).array ∙ e)).units)

pub by_answer : (c : ℕ) (x : Calling) (o : Option ℕ) (t : ℕ) (n : Connection) → connected_by c x o t ≡ Some n
    → connected c x t ≡ n
by_answer c x None t n e = absurd (none_some n e)
by_answer c x (Some a) t n e = same_Some _ n e

pub made_of : (s : ScenarioValue) (p : List Row) (c t : ℕ) (x : Calling) (n : Connection) → AreUnits s
    → AllOwnUnits s (array_of s (run_state s p)).units → IsDueCall s p c x → connected c x t ≡ n
    → IsMadeFor s (run_state s p) n
made_of s p c t x n u own d same = record { selects = λ z. selecting z; reselects = λ z. reselecting z }
  where
    k : RunState
    k = run_state s p

    selecting : n.reselected ≡ false → IsAimedAt s k n
    selecting z =
        let r : x.reselects ≡ false = ap (λ (w : Connection). w.reselected) same ∙ z in
        let i : n.initiator ≡ c = ap (λ (w : Connection). w.initiator) (sym same)
        ∙ ap (λ (q : Bool). if q then x.called else c) r in
        let g : n.target ≡ x.called = ap (λ (w : Connection). w.target) (sym same)
        ∙ ap (λ (q : Bool). if q then c else x.called) r in
        selects_for s k n (ap (is_initiator s.hosts) i ∙ d.host_is ∙ ap not r)
        (ap (callee_at s p) i ∙ d.callee_is ∙ ap (λ (w : ℕ). Some w) (sym g))

    reselecting : n.reselected ≡ true → IsReadyFor s k n
    reselecting z =
        let r : x.reselects ≡ true = ap (λ (w : Connection). w.reselected) same ∙ z in
        let i : n.initiator ≡ x.called = ap (λ (w : Connection). w.initiator) (sym same)
        ∙ ap (λ (q : Bool). if q then x.called else c) r in
        let g : n.target ≡ c = ap (λ (w : Connection). w.target) (sym same)
        ∙ ap (λ (q : Bool). if q then c else x.called) r in
        reselects_by s k n u own (ap (is_initiator s.hosts) g ∙ d.host_is ∙ ap not r)
        (ap (callee_at s p) g ∙ d.callee_is ∙ ap (λ (w : ℕ). Some w) (sym i))

pub made_for : (s : ScenarioValue) (p : List Row) (t : ℕ) (n : Connection) → AreUnits s → HasSeats s → AreOfDevices p
    → IsCalled s p → connection_of (call p) t ≡ Some n → IsMadeFor s (run_state s p) n
made_for s p t n u seats dv was e = by_call (call p) refl e
  where
    by_calling : (c : Call) → call p ≡ Some c → (o : Option Calling) → c.calling ≡ o
        → connected_of c.caller o t ≡ Some n → IsMadeFor s (run_state s p) n
    by_calling c ek None none z = absurd (none_some n z)
    by_calling c ek (Some x) some z =
        made_of s p c.caller t x n u (own_units s p seats dv) (was c x ek some) (by_answer c.caller x x.answered t n z)

    by_call : (o : Option Call) → call p ≡ o → connection_of o t ≡ Some n → IsMadeFor s (run_state s p) n
    by_call None none z = absurd (none_some n z)
    by_call (Some c) some z = by_calling c some c.calling refl z
