-- A row outside a connection, RST being false before and after it: what it leaves of the way to a connection, by the
-- stages of the bus.
use Rattle.measure_laws.proofs
use proofs.Names.{◌⊎◌, inl, inr, ℕ, suc, ◌≡◌, ◌≢◌, ◌<◌, ◌≤◌, Bool, true, false, ◌&&◌, ◌∙◌, List, ◌∷◌, Option, Some}
use proofs.Names.{None, refl, sym, ap, subst, arith, cases_eq, ne_eqb, none-some, same_Some, or_zero_r, ◌^◌, not, ◌||◌}
use proofs.Names.{◌==◌, ◌+◌, if◌then◌else◌, eq_self, wrong, bus_one, bus_two, drives-fault, same_set-eq, change_of}
use proofs.Names.{falls, LineSet, byte_set, none, same_set, union, call, connection, drives_two_ids, free_since}
use proofs.Names.{is_fault, new_calling, when, bus, drives, line_times, since_line, Drives, Fault, Row, Arbitration}
use proofs.Names.{Change, BUS_SETTLE_DELAY, QUIET_TIME, Calling, stage, Stage, OnFreeBus, InArbitration, InCalling}
use proofs.Names.{InAnswer, InReset, ScenarioValue, is_initiator, latency_of, aim_of, answered_due, contender_lines}
use proofs.Names.{due_at, fault_or, Due, run_state_plain, IsLeast, AreOfDevices, RunState, drives_of, run_state}
use proofs.Names.{flip_of, callee, want_time, entries_is, winner_is, IsCall, is_call, reselected_lines, selected}
use proofs.Names.{won_lines, drives_other, drives_own, fault_change, stage_is, stands_after, stands_by}
use proofs.Names.{only_caller_acts, after_withdrawal_due, answers_due, aside_due, asks_due, before_due, calls_due}
use proofs.Names.{flip_at, gives_up_due, goes_on_due, is_calling, loser_due, quiet_due, struck_due, waits_due, want_at}
use proofs.Names.{ids_not_zero, only_caller, free_due_is, idle_due, is_at, is_entry, is_entry_in, is_there, win_due}
use proofs.Names.{row_is, answer_lines, answered_calling, arbitration_bus, awaiting_call, begun_call, both_ids}
use proofs.Names.{call_with, calling_lines, new_calling_at, resumed_calling, withdrawn_call, won_bus, won_call}
use proofs.Names.{device_with, own_time, unreset_due, Stands, change_to, row_of_fault, row_of_lines, ArbitrationWon}
use proofs.Names.{Arbitrating, AwaitsAnswer, BusStage, CalmStanding, Calls, FreeBus, HasShortLatencies, IsAnswered}
use proofs.Names.{IsContender, IsLoser, on_free_bus, in_arbitration, after_arbitration, with_both_ids, awaiting_answer}
use proofs.Names.{after_withdrawal, after_answer, after_takeover, in_reset, none_some, falls_true, again_if}
use proofs.{Names.{answer_left, calling_left, stage_left, way_left, for_free_bus}, Resets.Drivers.{all_devices, busy}}
use proofs.Resets.Drivers.{busy_one, busy_same, busy_swap, quiet, quiet_same}
use Rattle.due_model.specs.bus_lines.specs.declared.stage.Stage.TheVariants.{InConnection}
use Rattle.progress_laws.specs.bus_laws.specs.Stages.{in_connection}

-- ---- the way, by the lines of the devices and the stage

abbrev pub stage_at : (ℕ → LineSet) → Stage → ℕ
stage_at f (OnFreeBus free) = for_free_bus
stage_at f (InArbitration a) = 16 + quiet f
stage_at f (InCalling c) = busy f + calling_left c.calling
stage_at f (InAnswer c g answered) = busy f + answer_left g.resumed
stage_at f (InConnection n) = for_free_bus
stage_at f (InReset since) = for_free_bus + busy f

pub way_is : (s : ScenarioValue) (p : List Row) (st : Stage) → AreOfDevices p → stage p ≡ st
    → way_left (run_state s p) ≡ stage_at (drives p) st
way_is s p st dv e = ap (stage_left k) ((run_state_plain s p dv).stage ∙ e) ∙ by st
  where
    k : RunState
    k = run_state s p

    busies : busy (drives_of k) ≡ busy (drives p)
    busies = busy_same (drives p) (drives_of k) (λ d lt. (run_state_plain s p dv).drives d lt)

    quiets : quiet (drives_of k) ≡ quiet (drives p)
    quiets = quiet_same (drives p) (drives_of k) (λ d lt. (run_state_plain s p dv).drives d lt)

    by : (st : Stage) → stage_left k st ≡ stage_at (drives p) st
    by (OnFreeBus free) = refl
    by (InArbitration a) = ap (λ x. 16 + x) quiets
    by (InCalling c) = ap (λ x. x + calling_left c.calling) busies
    by (InAnswer c g answered) = ap (λ x. x + answer_left g.resumed) busies
    by (InConnection n) = refl
    by (InReset since) = ap (λ x. for_free_bus + x) busies

-- A device that drives a line.
pub with_line : (on : LineSet → Bool) → on none ≡ false → (l : LineSet) → on l ≡ true → busy_one l ≡ 1
with_line on off l e = go (same_set l none) refl
  where
    go : (q : Bool) → same_set l none ≡ q → (let m : ℕ = if q then 0 else 1 in m) ≡ 1
    go true f = wrong (sym e ∙ ap on (same_set-eq l none f) ∙ off)
    go false f = refl

with_bsy : (l : LineSet) → l.bsy ≡ true → busy_one l ≡ 1
with_bsy l e = with_line (λ x. x.bsy) refl l e

with_sel : (l : LineSet) → l.sel ≡ true → busy_one l ≡ 1
with_sel l e = with_line (λ x. x.sel) refl l e

-- The devices before and after a row.
record Moves (p : List Row) (t d : ℕ) (l : LineSet) : Type 0 where
  swaps : busy (drives (row_of_lines t d l ∷ p)) + busy_one (drives p d) ≡ busy (drives p) + busy_one l
  before : busy (drives p) + quiet (drives p) ≡ 8
  after : busy (drives (row_of_lines t d l ∷ p)) + quiet (drives (row_of_lines t d l ∷ p)) ≡ 8

moves : (p : List Row) (t d : ℕ) (l : LineSet) → d < 8 → Moves p t d l
moves p t d l lt = record {
  swaps =
      busy_swap (drives p) (drives (row_of_lines t d l ∷ p)) d (λ e l2 ne. drives_other p t d l e ne) lt
      ∙ ap (λ (x : LineSet). busy (drives p) + busy_one x) (drives_own p t d l);
  before = all_devices (drives p);
  after = all_devices (drives (row_of_lines t d l ∷ p));
}

-- ---- what such a row does

-- It lowers the way; or it is a fault that strikes the IDs; or the caller, not answered, releases all.
pub data ApartRow (s : ScenarioValue) (p : List Row) (row : Row) : Type 0 where
  passes : is_fault row.kind ≡ false → falls (bus p).sel (bus (row ∷ p)).sel ≡ false
      → suc (way_left (run_state s (row ∷ p))) ≤ way_left (run_state s p) → ApartRow s p row
  strikes : (t d bit time : ℕ) → row ≡ row_of_fault t d bit → flip_of (run_state s p).faults time ≡ Some bit
      → falls (bus p).sel (bus (row ∷ p)).sel ≡ false → way_left (run_state s (row ∷ p)) ≤ way_left (run_state s p) + 64
      → ApartRow s p row
  gives_up : (v m : Bool) (c i t0 t1 t2 t3 : ℕ) → is_fault row.kind ≡ false
      → call p ≡ Some (withdrawn_call v m c i t0 t1 t2 t3) → (bus p).sel ≡ true → (bus (row ∷ p)).sel ≡ false
      → way_left (run_state s (row ∷ p)) ≡ 40 → 5 + again_if v ≤ way_left (run_state s p) → ApartRow s p row

-- From a stage to a stage.
passing : (s : ScenarioValue) (p : List Row) (row : Row) (a b : Stage) → AreOfDevices p → row.dev < 8
    → is_fault row.kind ≡ false → falls (bus p).sel (bus (row ∷ p)).sel ≡ false → stage p ≡ a → stage (row ∷ p) ≡ b
    → suc (stage_at (drives (row ∷ p)) b) ≤ stage_at (drives p) a → ApartRow s p row
passing s p row a b dv lt lines sel ea eb less =
    let before = way_is s p a dv ea in
    let after = way_is s (row ∷ p) b (lt, dv) eb in
    passes lines sel (subst (λ x. suc (way_left (run_state s (row ∷ p))) ≤ x) (sym before)
    (subst (λ x. suc x ≤ stage_at (drives p) a) (sym after) less))

sel_stays : (p : List Row) (row : Row) (b : LineSet) → bus p ≡ b → b.sel ≡ false
    → falls (bus p).sel (bus (row ∷ p)).sel ≡ false
sel_stays p row b e f = λ i. falls (((λ j. (e j).sel) ∙ f) i) (bus (row ∷ p)).sel

sel_holds : (p : List Row) (row : Row) (b : LineSet) → bus (row ∷ p) ≡ b → b.sel ≡ true
    → falls (bus p).sel (bus (row ∷ p)).sel ≡ false
sel_holds p row b e f = falls_true (bus p).sel (bus (row ∷ p)).sel ((λ j. (e j).sel) ∙ f)

-- ---- a free bus, and an arbitration

few : (b q : ℕ) → b + q ≡ 8 → suc (16 + q) ≤ 40
few b q h = omega (arith, h)

enters : (s : ScenarioValue) (p : List Row) (t d : ℕ) → AreOfDevices p → d < 8 → FreeBus s p
    → ApartRow s p (row_of_lines t d (contender_lines d))
enters s p t d dv lt h =
    let l : LineSet = contender_lines d in
    let q : List Row = row_of_lines t d l ∷ p in
    let u : Arbitration = record { free = free_since p; first = t } in
    let rest : (e : ℕ) → e < 8 → e ≢ d → drives q e ≡ none = λ e lt ne. drives_other p t d l e ne ∙ h.quiet e lt in
    let after : bus q ≡ l = bus_one q d lt rest ∙ drives_own p t d l in
    let goes = stands_after p t d l l none l none None None None h.stands refl after (h.quiet d lt) in
    let here : stage q ≡ InArbitration u = stage_is q _ _ _ _ goes in
    let was : stage p ≡ OnFreeBus (free_since p) = stage_is p _ _ _ _ h.stands in
    passing s p (row_of_lines t d l) (OnFreeBus (free_since p)) (InArbitration u) dv lt refl
    (sel_stays p (row_of_lines t d l) none h.stands.bus_is refl) was here
    (few (busy (drives q)) (quiet (drives q)) (all_devices (drives q)))

free_row : (s : ScenarioValue) (p : List Row) (row : Row) → AreOfDevices p → FreeBus s p
    → IsLeast (unreset_due s p) 8 row → ApartRow s p row
free_row s p row dv h m =
    let x : Due = record { time = row.time; kind = row.kind } in
    let th = is_there s p row.dev x m.is_due in
    let was : stage p ≡ OnFreeBus (free_since p) = stage_is p _ _ _ _ h.stands in
    let z = is_entry row.dev th.0 (own_time p row.dev) (free_since p) none (want_time s (run_state s p) row.dev) x (sym
    (free_due_is s p row.dev th.0 (free_since p) dv m.inside th.1 h.stands.connection_is was (h.quiet row.dev m.inside))
    ∙ m.is_due) in
    let e = row_is row (contender_lines row.dev) z.kind_is in
    subst (λ (r : Row). ApartRow s p r) (sym e) (enters s p row.time row.dev dv m.inside h)

fewer : (b c q r x y : ℕ) → b + x ≡ c + y → c + r ≡ 8 → b + q ≡ 8 → x ≡ 0 → y ≡ 1 → suc (16 + q) ≤ 16 + r
fewer b c q r x y h e l ex ey = omega (arith, h, e, l, ex, ey)

contends : (s : ScenarioValue) (p : List Row) (a : Arbitration) (e : ℕ) → (drives p e ≡ none) ⊎ IsContender s p a e
    → (drives p e ≡ none) ⊎ (drives p e ≡ contender_lines e)
contends s p a e (inl n) = inl n
contends s p a e (inr k) = inr k.drive

enters_late : (s : ScenarioValue) (p : List Row) (a : Arbitration) (t d : ℕ) → AreOfDevices p → d < 8
    → Arbitrating s p a → drives p d ≡ none → ApartRow s p (row_of_lines t d (contender_lines d))
enters_late s p a t d dv lt h o =
    let l : LineSet = contender_lines d in
    let q : List Row = row_of_lines t d l ∷ p in
    let own : drives q d ≡ l = drives_own p t d l in
    let each : (e : ℕ) → e < 8 → (drives q e ≡ none) ⊎ (drives q e ≡ contender_lines e) = λ e lt. elim (cases_eq e d) [
      | inl same ↦ inr (ap (drives q) same ∙ own ∙ ap contender_lines (sym same))
      | inr ne ↦ elim (contends s p a e (h.each e lt)) [
        | inl n ↦ inl (drives_other p t d l e ne ∙ n)
        | inr k ↦ inr (drives_other p t d l e ne ∙ k)
      ]
    ] in
    let after : bus q ≡ arbitration_bus (bus q).data_bits = entries_is q d lt own each in
    let goes = stands_after p t d l l (arbitration_bus (bus p).data_bits)
    (arbitration_bus (bus q).data_bits) none (Some a) None None h.stands refl after o in
    let here : stage q ≡ InArbitration a = stage_is q _ _ _ _ goes in
    let was : stage p ≡ InArbitration a = stage_is p _ _ _ _ h.stands in
    let m = moves p t d l lt in
    passing s p (row_of_lines t d l) (InArbitration a) (InArbitration a) dv lt refl
    (sel_stays p (row_of_lines t d l) (arbitration_bus (bus p).data_bits) h.stands.bus_is refl) was here
    (fewer (busy (drives q)) (busy (drives p)) (quiet (drives q)) (quiet (drives p)) (busy_one (drives p d))
    (busy_one l) m.swaps m.before m.after (ap busy_one o) (with_bsy l refl))

least_way : (b r q : ℕ) → b + q ≡ 8 → suc (b + 7) ≤ 16 + r
least_way b r q h = omega (arith, h)

wins : (s : ScenarioValue) (p : List Row) (a : Arbitration) (t d : ℕ) → AreOfDevices p → d < 8 → Arbitrating s p a
    → IsContender s p a d → ApartRow s p (row_of_lines t d (record (contender_lines d) { sel = true }))
wins s p a t d dv lt h asks =
    let l : LineSet = record (contender_lines d) { sel = true } in
    let q : List Row = row_of_lines t d l ∷ p in
    let own : drives q d ≡ l = drives_own p t d l in
    let each : (e : ℕ) → e < 8 → e ≢ d → (drives q e ≡ none) ⊎ (drives q e ≡ contender_lines e) = λ e lt ne. elim
    (contends s p a e (h.each e lt)) [
      | inl n ↦ inl (drives_other p t d l e ne ∙ n)
      | inr k ↦ inr (drives_other p t d l e ne ∙ k)
    ] in
    let after : bus q ≡ won_bus (bus q).data_bits = winner_is q d lt own each in
    let goes = stands_after p t d l l (arbitration_bus (bus p).data_bits) (won_bus (bus q).data_bits)
    (contender_lines d) (Some a) None None h.stands refl after asks.drive in
    let stands : Stands q (won_bus (bus q).data_bits) None (Some (won_call d t)) None = record {
      bus_is = goes.bus_is;
      arbitration_is = goes.arbitration_is;
      call_is = goes.call_is;
      connection_is = goes.connection_is;
    } in
    let here : stage q ≡ InCalling (won_call d t) = stage_is q _ _ _ _ stands in
    let was : stage p ≡ InArbitration a = stage_is p _ _ _ _ h.stands in
    passing s p (row_of_lines t d l) (InArbitration a) (InCalling (won_call d t)) dv lt refl
    (sel_stays p (row_of_lines t d l) (arbitration_bus (bus p).data_bits) h.stands.bus_is refl) was here
    (least_way (busy (drives q)) (quiet (drives p)) (quiet (drives q)) (all_devices (drives q)))

arbitration_row : (s : ScenarioValue) (p : List Row) (a : Arbitration) (row : Row) → AreOfDevices p → Arbitrating s p a
    → IsLeast (unreset_due s p) 8 row → ApartRow s p row
arbitration_row s p a row dv h m = go (h.each row.dev m.inside)
  where
    go : (drives p row.dev ≡ none) ⊎ IsContender s p a row.dev → ApartRow s p row
    go (inl n) =
        let x : Due = record { time = row.time; kind = row.kind } in
        let th = is_there s p row.dev x m.is_due in
        let was : stage p ≡ InArbitration a = stage_is p _ _ _ _ h.stands in
        let z = is_entry_in row.dev th.0 (own_time p row.dev) none a (want_time s (run_state s p) row.dev) x
        (sym (idle_due s p row.dev th.0 a dv m.inside th.1 h.stands.connection_is was n) ∙ m.is_due) in
        let v = is_entry row.dev th.0 (own_time p row.dev) a.free none (want_time s (run_state s p) row.dev) x z.0 in
        let e = row_is row (contender_lines row.dev) v.kind_is in
        subst (λ (r : Row). ApartRow s p r) (sym e) (enters_late s p a row.time row.dev dv m.inside h n)
    go (inr k) =
        let x : Due = record { time = row.time; kind = row.kind } in
        let was : stage p ≡ InArbitration a = stage_is p _ _ _ _ h.stands in
        let v = win_due s p row.dev k.lat a x dv m.inside k.there h.stands.connection_is was k.drive m.is_due in
        let e = row_is row (record (contender_lines row.dev) { sel = true }) v.kind_is in
        subst (λ (r : Row). ApartRow s p r) (sym e) (wins s p a row.time row.dev dv m.inside h k)

-- ---- an arbitration that is won

one_less : (b c x y : ℕ) → b + x ≡ c + y → x ≡ 1 → y ≡ 0 → suc (b + 7) ≤ c + 7
one_less b c x y h ex ey = omega (arith, h, ex, ey)

loses : (s : ScenarioValue) (p : List Row) (c t0 t d : ℕ) → AreOfDevices p → d < 8 → ArbitrationWon s p c t0 → d ≢ c
    → drives p d ≡ contender_lines d → ApartRow s p (row_of_lines t d none)
loses s p c t0 t d dv lt h ne_c o =
    let q : List Row = row_of_lines t d none ∷ p in
    let own : drives q d ≡ none = drives_own p t d none in
    let holds : drives q c ≡ won_lines c = drives_other p t d none c (λ z. ne_c (sym z)) ∙ h.caller in
    let each : (e : ℕ) → e < 8 → e ≢ c → (drives q e ≡ none) ⊎ (drives q e ≡ contender_lines e) = λ e lt ne. elim
    (cases_eq e d) [
      | inl same ↦ inl (ap (drives q) same ∙ own)
      | inr nd ↦ elim (h.each e lt ne) [
        | inl n ↦ inl (drives_other p t d none e nd ∙ n)
        | inr k ↦ inr (drives_other p t d none e nd ∙ k.drive)
      ]
    ] in
    let after : bus q ≡ won_bus (bus q).data_bits = winner_is q c h.caller_below holds each in
    let goes = stands_after p t d none none (won_bus (bus p).data_bits) (won_bus (bus q).data_bits)
    (contender_lines d) None (Some (won_call c t0)) None h.stands refl after o in
    let calling : call q ≡ Some (won_call c t0) = goes.call_is ∙ ap (λ (y : Bool). Some (record (won_call c t0) {
      calling =
          if y && drives_two_ids c none then Some (new_calling c none t) else None;
    })) (ne_eqb d c ne_c) in
    let stands : Stands q (won_bus (bus q).data_bits) None (Some (won_call c t0)) None = record {
      bus_is = goes.bus_is;
      arbitration_is = goes.arbitration_is;
      call_is = calling;
      connection_is = goes.connection_is;
    } in
    let here : stage q ≡ InCalling (won_call c t0) = stage_is q _ _ _ _ stands in
    let was : stage p ≡ InCalling (won_call c t0) = stage_is p _ _ _ _ h.stands in
    let m = moves p t d none lt in
    passing s p (row_of_lines t d none) (InCalling (won_call c t0)) (InCalling (won_call c t0)) dv lt refl
    (sel_holds p (row_of_lines t d none) (won_bus (bus q).data_bits) after refl) was here
    (one_less (busy (drives q)) (busy (drives p)) (busy_one (drives p d)) (busy_one none) m.swaps
    (ap busy_one o ∙ with_bsy (contender_lines d) refl) refl)

new_calling_is : (m : Bool) (c l t : ℕ) → IsCall m c l → new_calling c (both_ids m c l) t ≡ new_calling_at m l t
new_calling_is m c l t h = λ i. record (new_calling_at m l t) { called = h.other i }

same_less : (b c x y u v : ℕ) → b + x ≡ c + y → x ≡ 1 → y ≡ 1 → suc v ≤ u → suc (b + v) ≤ c + u
same_less b c x y u v h ex ey l = omega (arith, h, ex, ey, l)

makes_call : (s : ScenarioValue) (p : List Row) (m : Bool) (c x t0 t : ℕ) → HasShortLatencies s → CalmStanding s p
    → ArbitrationWon s p c t0 → IsLeast (unreset_due s p) 8 (row_of_lines t c (both_ids m c x)) → t0 + QUIET_TIME ≤ t
    → x < 8 → x ≢ c → ApartRow s p (row_of_lines t c (both_ids m c x))
makes_call s p m c x t0 t fits always h least wait lk ne_k =
    let l : LineSet = both_ids m c x in
    let q : List Row = row_of_lines t c l ∷ p in
    let own : drives q c ≡ l = drives_own p t c l in
    let ids = is_call m c x h.caller_below lk (λ z. ne_k (sym z)) in
    let quiets : (e : ℕ) → e < 8 → e ≢ c → drives p e ≡ none = λ e lt ne. elim (h.each e lt ne) [
      | inl n ↦ n
      | inr o ↦ gone e lt ne o
    ] in
    let rest : (e : ℕ) → e < 8 → e ≢ c → drives q e ≡ none = λ e lt ne. drives_other p t c l e ne ∙ quiets e lt ne in
    let before : bus p ≡ won_lines c = bus_one p c h.caller_below quiets ∙ h.caller in
    let after : bus q ≡ l = bus_one q c h.caller_below rest ∙ own in
    let stood : Stands p (won_lines c) None (Some (won_call c t0)) None = record {
      bus_is = before;
      arbitration_is = h.stands.arbitration_is;
      call_is = h.stands.call_is;
      connection_is = h.stands.connection_is;
    } in
    let goes = stands_after p t c l l (won_lines c) l (won_lines c) None
    (Some (won_call c t0)) None stood refl after h.caller in
    let calling : call q ≡ Some (begun_call m c x t0 t) = goes.call_is ∙ (λ i. Some (record (won_call c t0) {
      calling =
          if eq_self c i && ids.two i then Some (new_calling_is m c x t ids i) else None;
    })) in
    let stands : Stands q l None (Some (begun_call m c x t0 t)) None = record {
      bus_is = after;
      arbitration_is = goes.arbitration_is;
      call_is = calling;
      connection_is = goes.connection_is;
    } in
    let here : stage q ≡ InCalling (begun_call m c x t0 t) = stage_is q _ _ _ _ stands in
    let was : stage p ≡ InCalling (won_call c t0) = stage_is p _ _ _ _ h.stands in
    let v = moves p t c l h.caller_below in
    passing s p (row_of_lines t c l) (InCalling (won_call c t0)) (InCalling (begun_call m c x t0 t))
    always.devices h.caller_below refl (sel_holds p (row_of_lines t c l) l after refl) was here
    (same_less (busy (drives q)) (busy (drives p)) (busy_one (drives p c)) (busy_one l) 7 6 v.swaps
    (ap busy_one h.caller ∙ with_bsy (won_lines c) refl) (with_bsy l refl) (omega arith))
  where
    gone : (e : ℕ) → e < 8 → e ≢ c → IsLoser s p e → drives p e ≡ none
    gone e lt ne o =
        let z : Due = record { time = since_line (λ y. y.sel) p + o.lat; kind = Drives none } in
        let v = least.first e lt z (loser_due s p e o.lat c t0 always.devices lt o.there h.stands.connection_is
        (λ w. ne (sym w)) (stage_is p _ _ _ _ h.stands) o.drive) in
        let u = fits.latency e o.lat o.there in
        let a = h.sel_age in
        absurd (omega arith)

won_row : (s : ScenarioValue) (p : List Row) (c t0 : ℕ) (row : Row) → HasShortLatencies s → CalmStanding s p
    → ArbitrationWon s p c t0 → IsLeast (unreset_due s p) 8 row → ApartRow s p row
won_row s p c t0 row fits always h m =
    let x : Due = record { time = row.time; kind = row.kind } in
    let was : stage p ≡ InCalling (won_call c t0) = stage_is p _ _ _ _ h.stands in
    elim (cases_eq row.dev c) [
      | inl same ↦
          let z = is_calling s c h.lat (won_lines c) (own_time p c)
          (callee s (run_state s p) c (aim_of (run_state s p).story.aims c)) x
          (sym (calls_due s p c h.lat t0 (won_lines c) always.devices h.caller_below h.there
          h.stands.connection_is was h.caller) ∙ ap (unreset_due s p) (sym same) ∙ m.is_due) in
          let e : row ≡ row_of_lines row.time c (both_ids (is_initiator s.hosts c) c z.k) =
          λ i. record { time = row.time; dev = same i; kind = z.kind_is i } in
          let wait : t0 + QUIET_TIME ≤ row.time = let w = z.time_is in let u = h.caller_time in omega arith in
          subst (λ (r : Row). ApartRow s p r) (sym e) (makes_call s p (is_initiator s.hosts c) c z.k t0 row.time fits
          always h (subst (λ (r : Row). IsLeast (unreset_due s p) 8 r) e m) wait z.below (λ q. z.apart (sym q)))
      | inr ne ↦ elim (h.each row.dev m.inside ne) [
        | inl n ↦
            let w = is_there s p row.dev x m.is_due in
            let v = sym
            (quiet_due s p row.dev w.0 c t0 always.devices m.inside w.1 h.stands.connection_is (λ z. ne (sym z)) was n)
            ∙ m.is_due in
            absurd cc
        | inr k ↦
            let w = is_there s p row.dev x m.is_due in
            let v = is_at _ _ x (sym (loser_due s p row.dev w.0 c t0 always.devices m.inside w.1 h.stands.connection_is
            (λ z. ne (sym z)) was k.drive) ∙ m.is_due) in
            let e = row_is row none v.kind_is in
            subst (λ (r : Row). ApartRow s p r) (sym e)
            (loses s p c t0 row.time row.dev always.devices m.inside h ne k.drive)
      ]
    ]

-- ---- falls_true IDs, and the answer

makes_asking : (s : ScenarioValue) (p : List Row) (m : Bool) (c w t0 t1 t : ℕ) → AreOfDevices p
    → Calls s p (begun_call m c w t0 t1) c w (both_ids m c w) none (both_ids m c w)
    → ApartRow s p (row_of_lines t c (calling_lines m false (2 ^ c + 2 ^ w + 256)))
makes_asking s p m c w t0 t1 t dv h =
    let l : LineSet = calling_lines m false (2 ^ c + 2 ^ w + 256) in
    let q : List Row = row_of_lines t c l ∷ p in
    let own : drives q c ≡ l = drives_own p t c l in
    let quiets = only_caller s p _ c w _ _ h in
    let rest : (e : ℕ) → e < 8 → e ≢ c → drives q e ≡ none = λ e lt ne. drives_other p t c l e ne ∙ quiets e lt ne in
    let after : bus q ≡ l = bus_one q c h.caller_below rest ∙ own in
    let goes = stands_after p t c l l (both_ids m c w) l (both_ids m c w) None
    (Some (begun_call m c w t0 t1)) None h.stands refl after h.caller in
    let calling : call q ≡ Some (awaiting_call false m c w t0 t1 t) = goes.call_is
    ∙ (λ i. Some (record (begun_call m c w t0 t1) {
      calling = if eq_self c i then Some (record (new_calling_at m w t1) {
        released = Some t;
        withdrawn = when (not (ids_not_zero c w i) && ids_not_zero c w i) t None;
      }) else if c == w then Some (record (new_calling_at m w t1) { struck = false }) else Some (new_calling_at m w t1);
    })) in
    let stands : Stands q l None (Some (awaiting_call false m c w t0 t1 t)) None = record {
      bus_is = after;
      arbitration_is = goes.arbitration_is;
      call_is = calling;
      connection_is = goes.connection_is;
    } in
    let here : stage q ≡ InCalling (awaiting_call false m c w t0 t1 t) = stage_is q _ _ _ _ stands in
    let was : stage p ≡ InCalling (begun_call m c w t0 t1) = stage_is p _ _ _ _ h.stands in
    let v = moves p t c l h.caller_below in
    passing s p (row_of_lines t c l) (InCalling (begun_call m c w t0 t1)) (InCalling
    (awaiting_call false m c w t0 t1 t)) dv h.caller_below refl (sel_holds p (row_of_lines t c l) l after refl) was here
    (same_less (busy (drives q)) (busy (drives p)) (busy_one (drives p c)) (busy_one l) 6 (5 + 0) v.swaps
    (ap busy_one h.caller ∙ with_sel (both_ids m c w) refl) (with_sel l refl) (omega arith))

calls_row : (s : ScenarioValue) (p : List Row) (m : Bool) (c l t0 t1 : ℕ) (row : Row) → AreOfDevices p
    → Calls s p (begun_call m c l t0 t1) c l (both_ids m c l) none (both_ids m c l) → IsLeast (unreset_due s p) 8 row
    → ApartRow s p row
calls_row s p m c l t0 t1 row dv h least =
    let x : Due = record { time = row.time; kind = row.kind } in
    let w = is_there s p row.dev x least.is_due in
    let was : stage p ≡ InCalling (begun_call m c l t0 t1) = stage_is p _ _ _ _ h.stands in
    elim (cases_eq row.dev c) [
      | inl same ↦
          let z = is_at (own_time p c + 90 + w.0) (calling_lines m false (2 ^ c + 2 ^ l + 256)) x
          (sym (asks_due s p m c l t0 t1 w.0 (both_ids m c l) dv h.caller_below (ap (latency_of s) (sym same) ∙ w.1)
          h.stands.connection_is was h.caller) ∙ ap (unreset_due s p) (sym same) ∙ least.is_due) in
          let e : row ≡ row_of_lines row.time c (calling_lines m false (2 ^ c + 2 ^ l + 256)) =
          λ i. record { time = row.time; dev = same i; kind = z.kind_is i } in
          subst (λ (r : Row). ApartRow s p r) (sym e) (makes_asking s p m c l t0 t1 row.time dv h)
      | inr ne ↦
          let v = sym (before_due s p m c l t0 t1 row.dev w.0 dv least.inside w.1 h.stands.connection_is
          (λ z. ne (sym z)) was (only_caller s p _ c l _ _ h row.dev least.inside ne)) ∙ least.is_due in
          absurd cc
    ]

met_is : (m : Bool) (x : ℕ) → union (calling_lines m false x) answer_lines ≡ calling_lines m true x
met_is true x = λ i. record (calling_lines true true x) { data_bits = or_zero_r x i }
met_is false x = λ i. record (calling_lines false true x) { data_bits = or_zero_r x i }

one_more : (b c x y : ℕ) → b + x ≡ c + y → x ≡ 0 → y ≡ 1 → suc (b + 3) ≤ c + 5
one_more b c x y h ex ey = omega (arith, h, ex, ey)

makes_answer : (s : ScenarioValue) (p : List Row) (m : Bool) (c w t0 t1 t2 u t : ℕ) → AreOfDevices p
    → AwaitsAnswer s p false m c w t0 t1 t2 u → ApartRow s p (row_of_lines t w answer_lines)
makes_answer s p m c w t0 t1 t2 u t dv a =
    let h = a.here in
    let b : LineSet = calling_lines m false u in
    let b' : LineSet = calling_lines m true u in
    let l : LineSet = answer_lines in
    let q : List Row = row_of_lines t w l ∷ p in
    let own : drives q w ≡ l = drives_own p t w l in
    let holds : drives q c ≡ b = drives_other p t w l c h.apart ∙ h.caller in
    let rest : (e : ℕ) → e < 8 → e ≢ c → e ≢ w → drives q e ≡ none = λ e lt n1 n2. drives_other p t w l e n2
    ∙ h.rest e lt n1 n2 in
    let after : bus q ≡ b' = bus_two q c w h.apart h.caller_below h.called_below rest
    ∙ (λ i. union (holds i) (own i)) ∙ met_is m u in
    let goes = stands_after p t w l l b b' none None
    (Some (awaiting_call false m c w t0 t1 t2)) None h.stands refl after h.other in
    let ne : w ≢ c = λ z. h.apart (sym z) in
    let g : Calling = record (new_calling_at m w t1) { released = Some t2 } in
    let calling : call q ≡ Some (call_with c t0 (answered_calling m w t1 t2 t)) = goes.call_is
    ∙ (λ i. Some (record (awaiting_call false m c w t0 t1 t2) {
      calling =
          if ne_eqb w c ne i then Some (record g { resumed = Some t; withdrawn = None })
          else if eq_self w i then Some (answered_calling m w t1 t2 t) else Some g;
    })) in
    let stands : Stands q b' None (Some (call_with c t0 (answered_calling m w t1 t2 t))) None = record {
      bus_is = after;
      arbitration_is = goes.arbitration_is;
      call_is = calling;
      connection_is = goes.connection_is;
    } in
    let here : stage q ≡ InAnswer (call_with c t0 (answered_calling m w t1 t2 t)) (answered_calling m w t1 t2 t) t =
    stage_is q _ _ _ _ stands in
    let was : stage p ≡ InCalling (awaiting_call false m c w t0 t1 t2) = stage_is p _ _ _ _ h.stands in
    let v = moves p t w l h.called_below in
    passing s p (row_of_lines t w l) (InCalling (awaiting_call false m c w t0 t1 t2))
    (InAnswer (call_with c t0 (answered_calling m w t1 t2 t)) (answered_calling m w t1 t2 t) t) dv h.called_below refl
    (sel_holds p (row_of_lines t w l) b' after refl) was here (one_more (busy (drives q)) (busy (drives p))
    (busy_one (drives p w)) (busy_one l) v.swaps (ap busy_one h.other) (with_bsy l refl))

-- A fault strikes the IDs.
struck_more : (b c : ℕ) → b ≡ c → b + (5 + 64) ≤ c + (5 + 0) + 64
struck_more b c h = omega (arith, h)

makes_fault : (s : ScenarioValue) (p : List Row) (m : Bool) (c l t0 t1 t2 w t bit time : ℕ) → AreOfDevices p
    → AwaitsAnswer s p false m c l t0 t1 t2 w → flip_of (run_state s p).faults time ≡ Some bit
    → ApartRow s p (row_of_fault t l bit)
makes_fault s p m c l t0 t1 t2 w t bit time dv a flips =
    let h = a.here in
    let b : LineSet = calling_lines m false w in
    let row : Row = row_of_fault t l bit in
    let q : List Row = row ∷ p in
    let g : Change = change_to b b none none in
    let e : change_of p row ≡ g = fault_change p t l bit b none h.stands.bus_is h.other in
    let goes = stands_by p row g b None (Some (awaiting_call false m c l t0 t1 t2)) None h.stands e in
    let ne : l ≢ c = λ z. h.apart (sym z) in
    let f : Calling = record (new_calling_at m l t1) { released = Some t2 } in
    let calling : call q ≡ Some (awaiting_call true m c l t0 t1 t2) = goes.call_is
    ∙ (λ i. Some (record (awaiting_call false m c l t0 t1 t2) {
      calling =
          if ne_eqb l c ne i then Some f else if eq_self l i then Some (record f { struck = true }) else Some f;
    })) in
    let stands : Stands q b None (Some (awaiting_call true m c l t0 t1 t2)) None = record {
      bus_is = goes.bus_is;
      arbitration_is = goes.arbitration_is;
      call_is = calling;
      connection_is = goes.connection_is;
    } in
    let here : stage q ≡ InCalling (awaiting_call true m c l t0 t1 t2) = stage_is q _ _ _ _ stands in
    let was : stage p ≡ InCalling (awaiting_call false m c l t0 t1 t2) = stage_is p _ _ _ _ h.stands in
    let before = way_is s p (InCalling (awaiting_call false m c l t0 t1 t2)) dv was in
    let after = way_is s q (InCalling (awaiting_call true m c l t0 t1 t2)) (h.called_below, dv) here in
    let same = busy_same (drives p) (drives q) (λ d lt. drives-fault row p bit d refl) in
    let more = struck_more (busy (drives q)) (busy (drives p)) same in
    strikes t l bit time refl flips (sel_holds p row b goes.bus_is refl) (subst (λ x. way_left (run_state s q) ≤ x + 64)
    (sym before) (subst (λ x. x ≤ busy (drives p) + (5 + 0) + 64) (sym after) more))

-- No answer has come: the caller withdraws the IDs.
makes_withdrawal : (s : ScenarioValue) (p : List Row) (v m : Bool) (c u t0 t1 t2 x t : ℕ) → AreOfDevices p
    → AwaitsAnswer s p v m c u t0 t1 t2 x → ApartRow s p (row_of_lines t c (calling_lines m false 0))
makes_withdrawal s p v m c u t0 t1 t2 x t dv a =
    let h = a.here in
    let b : LineSet = calling_lines m false x in
    let l : LineSet = calling_lines m false 0 in
    let q : List Row = row_of_lines t c l ∷ p in
    let own : drives q c ≡ l = drives_own p t c l in
    let quiets = only_caller s p _ c u _ _ h in
    let rest : (e : ℕ) → e < 8 → e ≢ c → drives q e ≡ none = λ e lt ne. drives_other p t c l e ne ∙ quiets e lt ne in
    let after : bus q ≡ l = bus_one q c h.caller_below rest ∙ own in
    let goes = stands_after p t c l l b l b None
    (Some (awaiting_call v m c u t0 t1 t2)) None h.stands refl after h.caller in
    let calling : call q ≡ Some (withdrawn_call v m c u t0 t1 t2 t) = goes.call_is
    ∙ (λ i. Some (record (awaiting_call v m c u t0 t1 t2) {
      calling =
          if eq_self c i then Some (record (new_calling_at m u t1) {
            released = Some t2;
            withdrawn = when (not (a.some i) && true) t None;
            struck = v;
          })
          else if c == u then Some (record (new_calling_at m u t1) { released = Some t2; struck = v || false })
          else Some (record (new_calling_at m u t1) { released = Some t2; struck = v });
    })) in
    let stands : Stands q l None (Some (withdrawn_call v m c u t0 t1 t2 t)) None = record {
      bus_is = after;
      arbitration_is = goes.arbitration_is;
      call_is = calling;
      connection_is = goes.connection_is;
    } in
    let here : stage q ≡ InCalling (withdrawn_call v m c u t0 t1 t2 t) = stage_is q _ _ _ _ stands in
    let was : stage p ≡ InCalling (awaiting_call v m c u t0 t1 t2) = stage_is p _ _ _ _ h.stands in
    let w = moves p t c l h.caller_below in
    passing s p (row_of_lines t c l) (InCalling (awaiting_call v m c u t0 t1 t2)) (InCalling
    (withdrawn_call v m c u t0 t1 t2 t)) dv h.caller_below refl (sel_holds p (row_of_lines t c l) l after refl) was here
    (same_less (busy (drives q)) (busy (drives p)) (busy_one (drives p c)) (busy_one l) (5 + again_if v)
    (4 + again_if v) w.swaps (ap busy_one h.caller ∙ with_sel b refl) (with_sel l refl) (omega arith))

makes_answer_or_fault : (s : ScenarioValue) (p : List Row) (m : Bool) (c l t0 t1 t2 u lat : ℕ) (row : Row)
    → AreOfDevices p → AwaitsAnswer s p false m c l t0 t1 t2 u → row.dev ≡ l → (o : Option ℕ) → flip_at s p lat ≡ o
    → (let x : Due = record { time = row.time; kind = row.kind } in fault_or
    ((line_times p).bsy + BUS_SETTLE_DELAY + lat) o (due_at ((line_times p).bsy + BUS_SETTLE_DELAY + lat) answer_lines)
    ≡ Some x) → ApartRow s p row
makes_answer_or_fault s p m c l t0 t1 t2 u lat row dv a same None flips f =
    let x : Due = record { time = row.time; kind = row.kind } in
    let z = is_at ((line_times p).bsy + BUS_SETTLE_DELAY + lat) answer_lines x f in
    let e : row ≡ row_of_lines row.time l answer_lines = λ i. record {
      time = row.time;
      dev = same i;
      kind = z.kind_is i;
    } in
    subst (λ (r : Row). ApartRow s p r) (sym e) (makes_answer s p m c l t0 t1 t2 u row.time dv a)
makes_answer_or_fault s p m c l t0 t1 t2 u lat row dv a same (Some bit) flips f =
    let x : Due = record { time = row.time; kind = row.kind } in
    let y : Due = record { time = (line_times p).bsy + BUS_SETTLE_DELAY + lat; kind = Fault bit } in
    let kind : row.kind ≡ Fault bit = ap (λ (w : Due). w.kind) (sym (same_Some y x f)) in
    let e : row ≡ row_of_fault row.time l bit = λ i. record { time = row.time; dev = same i; kind = kind i } in
    subst (λ (r : Row). ApartRow s p r) (sym e)
    (makes_fault s p m c l t0 t1 t2 u row.time bit ((line_times p).bsy + BUS_SETTLE_DELAY + lat) dv a flips)

asking_row : (s : ScenarioValue) (p : List Row) (v m : Bool) (c l t0 t1 t2 u : ℕ) (row : Row) → AreOfDevices p
    → AwaitsAnswer s p v m c l t0 t1 t2 u → IsLeast (unreset_due s p) 8 row → ApartRow s p row
asking_row s p v m c l t0 t1 t2 u row dv a least =
    let h = a.here in
    let x : Due = record { time = row.time; kind = row.kind } in
    let w = is_there s p row.dev x least.is_due in
    let was : stage p ≡ InCalling (awaiting_call v m c l t0 t1 t2) = stage_is p _ _ _ _ h.stands in
    elim (cases_eq row.dev c) [
      | inl same ↦
          let z = is_at (t2 + 250000000 + w.0) (record (calling_lines m false u) { data_bits = 0 }) x
          (sym (waits_due s p v m c l t0 t1 t2 w.0 (calling_lines m false u) dv h.caller_below
          (ap (latency_of s) (sym same) ∙ w.1) h.stands.connection_is was h.caller)
          ∙ ap (unreset_due s p) (sym same) ∙ least.is_due) in
          let e : row ≡ row_of_lines row.time c (calling_lines m false 0) =
          λ i. record { time = row.time; dev = same i; kind = z.kind_is i } in
          subst (λ (r : Row). ApartRow s p r) (sym e) (makes_withdrawal s p v m c l t0 t1 t2 u row.time dv a)
      | inr nc ↦ elim (cases_eq row.dev l) [
        | inl same ↦ called_acts v a was same
        | inr nk ↦ absurd
            (none-some x (sym (aside_due s p v m c l t0 t1 t2 row.dev w.0 dv least.inside w.1 h.stands.connection_is
            (λ z. nc (sym z)) (λ z. nk (sym z)) was (h.rest row.dev least.inside nc nk)) ∙ least.is_due))
      ]
    ]
  where
    called_acts : (v : Bool) → AwaitsAnswer s p v m c l t0 t1 t2 u
        → stage p ≡ InCalling (awaiting_call v m c l t0 t1 t2) → row.dev ≡ l → ApartRow s p row
    called_acts true a was same =
        let h = a.here in
        let x : Due = record { time = row.time; kind = row.kind } in
        let w = is_there s p row.dev x least.is_due in
        absurd
        (none-some x (sym (struck_due s p m c l t0 t1 t2 w.0 dv h.called_below (ap (latency_of s) (sym same) ∙ w.1)
        h.stands.connection_is h.apart was h.other) ∙ ap (unreset_due s p) (sym same) ∙ least.is_due))
    called_acts false a was same =
        let h = a.here in
        let x : Due = record { time = row.time; kind = row.kind } in
        let w = is_there s p row.dev x least.is_due in
        makes_answer_or_fault s p m c l t0 t1 t2 u w.0 row dv a same (flip_at s p w.0) refl (sym (answers_due s p m c l
        t0 t1 t2 w.0 dv h.called_below (ap (latency_of s) (sym same) ∙ w.1) h.stands.connection_is h.apart was h.other)
        ∙ ap (unreset_due s p) (sym same) ∙ least.is_due)

-- ---- the end of a calling

at_least : (b a : ℕ) → 1 ≤ b → 5 + a ≤ b + (4 + a)
at_least b a h = omega (arith, h)

-- Who drives a line is counted.
counted : (b c x y : ℕ) → b + x ≡ c + y → x ≡ 1 → y ≡ 0 → 1 ≤ c
counted b c x y h ex ey = omega (arith, h, ex, ey)

makes_free : (s : ScenarioValue) (p : List Row) (v m : Bool) (c i t0 t1 t2 t3 t : ℕ) → AreOfDevices p
    → Calls s p (withdrawn_call v m c i t0 t1 t2 t3) c i (calling_lines m false 0) none (calling_lines m false 0)
    → ApartRow s p (row_of_lines t c none)
makes_free s p v m c i t0 t1 t2 t3 t dv h =
    let b : LineSet = calling_lines m false 0 in
    let q : List Row = row_of_lines t c none ∷ p in
    let own : drives q c ≡ none = drives_own p t c none in
    let quiets = only_caller s p _ c i _ _ h in
    let others : (e : ℕ) → e < 8 → e ≢ c → drives q e ≡ none = λ e lt ne. drives_other p t c none e ne
    ∙ quiets e lt ne in
    let after : bus q ≡ none = bus_one q c h.caller_below others ∙ own in
    let goes = stands_after p t c none none b none b None
    (Some (withdrawn_call v m c i t0 t1 t2 t3)) None h.stands refl after h.caller in
    let here : stage q ≡ OnFreeBus (free_since q) = stage_is q _ _ _ _ goes in
    let was : stage p ≡ InCalling (withdrawn_call v m c i t0 t1 t2 t3) = stage_is p _ _ _ _ h.stands in
    let w = moves p t c none h.caller_below in
    let one = counted (busy (drives q)) (busy (drives p)) (busy_one (drives p c))
    (busy_one none) w.swaps (ap busy_one h.caller ∙ with_sel b refl) refl in
    gives_up v m c i t0 t1 t2 t3 refl h.stands.call_is (ap (λ (x : LineSet). x.sel) h.stands.bus_is)
    (ap (λ (x : LineSet). x.sel) after) (way_is s q (OnFreeBus (free_since q)) (h.caller_below, dv) here)
    (subst (λ x. 5 + again_if v ≤ x) (sym (way_is s p (InCalling (withdrawn_call v m c i t0 t1 t2 t3)) dv was))
    (at_least (busy (drives p)) (again_if v) one))

withdrawn_row : (s : ScenarioValue) (p : List Row) (v m : Bool) (c l t0 t1 t2 t3 : ℕ) (row : Row) → AreOfDevices p
    → Calls s p (withdrawn_call v m c l t0 t1 t2 t3) c l (calling_lines m false 0) none (calling_lines m false 0)
    → IsLeast (unreset_due s p) 8 row → ApartRow s p row
withdrawn_row s p v m c l t0 t1 t2 t3 row dv h least =
    let x : Due = record { time = row.time; kind = row.kind } in
    let w = is_there s p row.dev x least.is_due in
    let was : stage p ≡ InCalling (withdrawn_call v m c l t0 t1 t2 t3) = stage_is p _ _ _ _ h.stands in
    elim (cases_eq row.dev c) [
      | inl same ↦
          let z = is_at (own_time p c + 200090 + w.0) none x
          (sym (gives_up_due s p v m c l t0 t1 t2 t3 w.0 (calling_lines m false 0) dv h.caller_below
          (ap (latency_of s) (sym same) ∙ w.1) h.stands.connection_is was h.caller)
          ∙ ap (unreset_due s p) (sym same) ∙ least.is_due) in
          let e : row ≡ row_of_lines row.time c none = λ i. record {
            time = row.time;
            dev = same i;
            kind = z.kind_is i;
          } in
          subst (λ (r : Row). ApartRow s p r) (sym e) (makes_free s p v m c l t0 t1 t2 t3 row.time dv h)
      | inr ne ↦ absurd (none-some x
          (sym (after_withdrawal_due s p v m c l t0 t1 t2 t3 row.dev w.0 dv least.inside w.1 h.stands.connection_is
          (λ z. ne (sym z)) was (only_caller s p _ c l _ _ h row.dev least.inside ne)) ∙ least.is_due))
    ]

with_answer : (m : ℕ) → union (calling_lines false true m) answer_lines ≡ calling_lines false true m
with_answer m = λ i. record (calling_lines false true m) { data_bits = or_zero_r m i }

-- In a reselection the target drives BSY again.
makes_takeover : (s : ScenarioValue) (p : List Row) (c m t0 t1 t2 t3 u t : ℕ)
    → AreOfDevices p → IsAnswered s p (answered_calling false m t1 t2 t3) c m t0 false false u
    → ApartRow s p (row_of_lines t c (calling_lines false true u))
makes_takeover s p c m t0 t1 t2 t3 u t dv a =
    let h = a.here in
    let b : LineSet = calling_lines false true u in
    let l : LineSet = calling_lines false true u in
    let g : Calling = answered_calling false m t1 t2 t3 in
    let f : Calling = resumed_calling m t1 t2 t3 t in
    let q : List Row = row_of_lines t c l ∷ p in
    let own : drives q c ≡ l = drives_own p t c l in
    let holds : drives q m ≡ answer_lines = drives_other p t c l m (λ z. h.apart (sym z)) ∙ h.other in
    let rest : (e : ℕ) → e < 8 → e ≢ c → e ≢ m → drives q e ≡ none = λ e lt n1 n2. drives_other p t c l e n1
    ∙ h.rest e lt n1 n2 in
    let after : bus q ≡ b = bus_two q c m h.apart h.caller_below h.called_below rest
    ∙ (λ i. union (own i) (holds i)) ∙ with_answer u in
    let goes = stands_after p t c l l b b (calling_lines false false u) None
    (Some (call_with c t0 g)) None h.stands refl after h.caller in
    let calling : call q ≡ Some (call_with c t0 f) = goes.call_is ∙ (λ i. Some (record (call_with c t0 g) {
      calling =
          if eq_self c i then Some (record g { withdrawn = when (not (a.some i) && a.some i) t None; resumed = Some t })
          else if c == m then Some (record g { answered = Some t }) else Some g;
    })) in
    let stands : Stands q b None (Some (call_with c t0 f)) None = record {
      bus_is = after;
      arbitration_is = goes.arbitration_is;
      call_is = calling;
      connection_is = goes.connection_is;
    } in
    let here : stage q ≡ InAnswer (call_with c t0 f) f t3 = stage_is q _ _ _ _ stands in
    let was : stage p ≡ InAnswer (call_with c t0 g) g t3 = stage_is p _ _ _ _ h.stands in
    let w = moves p t c l h.caller_below in
    passing s p (row_of_lines t c l) (InAnswer (call_with c t0 g) g t3)
    (InAnswer (call_with c t0 f) f t3) dv h.caller_below refl (sel_holds p (row_of_lines t c l) b after refl) was here
    (same_less (busy (drives q)) (busy (drives p)) (busy_one (drives p c)) (busy_one l) 3 2 w.swaps
    (ap busy_one h.caller ∙ with_sel (calling_lines false false u) refl) (with_sel l refl) (omega arith))

-- The rows with which a connection begins are not of these.
begins_selected : (s : ScenarioValue) (p : List Row) (c m t0 t1 t2 t3 w t : ℕ)
    → IsAnswered s p (answered_calling true m t1 t2 t3) c m t0 true false w
    → connection (row_of_lines t c (record none { atn = true }) ∷ p) ≡ None → ⊥
begins_selected s p c m t0 t1 t2 t3 w t a alone =
    let h = a.here in
    let b : LineSet = calling_lines true true w in
    let l : LineSet = record none { atn = true } in
    let q : List Row = row_of_lines t c l ∷ p in
    let own : drives q c ≡ l = drives_own p t c l in
    let holds : drives q m ≡ answer_lines = drives_other p t c l m (λ z. h.apart (sym z)) ∙ h.other in
    let rest : (e : ℕ) → e < 8 → e ≢ c → e ≢ m → drives q e ≡ none = λ e lt n1 n2. drives_other p t c l e n1
    ∙ h.rest e lt n1 n2 in
    let after : bus q ≡ selected = bus_two q c m h.apart h.caller_below h.called_below rest
    ∙ (λ i. union (own i) (holds i)) in
    let goes = stands_after p t c l l b selected (calling_lines true false w) None
    (Some (call_with c t0 (answered_calling true m t1 t2 t3))) None h.stands refl after h.caller in
    none_some _ (sym alone ∙ goes.connection_is)

begins_reselected : (s : ScenarioValue) (p : List Row) (c m t0 t1 t2 t3 t4 w y t : ℕ)
    → IsAnswered s p (resumed_calling m t1 t2 t3 t4) c m t0 false true w
    → connection (row_of_lines t c (reselected_lines y) ∷ p) ≡ None → ⊥
begins_reselected s p c m t0 t1 t2 t3 t4 w y t a alone =
    let h = a.here in
    let b : LineSet = calling_lines false true w in
    let l : LineSet = reselected_lines y in
    let q : List Row = row_of_lines t c l ∷ p in
    let own : drives q c ≡ l = drives_own p t c l in
    let holds : drives q m ≡ answer_lines = drives_other p t c l m (λ z. h.apart (sym z)) ∙ h.other in
    let rest : (e : ℕ) → e < 8 → e ≢ c → e ≢ m → drives q e ≡ none = λ e lt n1 n2. drives_other p t c l e n1
    ∙ h.rest e lt n1 n2 in
    let after : bus q ≡ l = bus_two q c m h.apart h.caller_below h.called_below rest
    ∙ (λ i. union (own i) (holds i)) ∙ (λ i. record l { data_bits = or_zero_r y i }) in
    let goes = stands_after p t c l l b l b None
    (Some (call_with c t0 (resumed_calling m t1 t2 t3 t4))) None h.stands refl after h.caller in
    none_some _ (sym alone ∙ goes.connection_is)

answered_row : (s : ScenarioValue) (p : List Row) (m : Bool) (c l t0 t1 t2 t3 u : ℕ) (row : Row) → CalmStanding s p
    → IsAnswered s p (answered_calling m l t1 t2 t3) c l t0 m false u → IsLeast (unreset_due s p) 8 row
    → connection (row ∷ p) ≡ None → ApartRow s p row
answered_row s p m c l t0 t1 t2 t3 u row always a least alone =
    let h = a.here in
    let g : Calling = answered_calling m l t1 t2 t3 in
    let was : stage p ≡ InAnswer (call_with c t0 g) g t3 = stage_is p _ _ _ _ h.stands in
    elim (cases_eq row.dev c) [
      | inl same ↦
          let x : Due = record { time = row.time; kind = row.kind } in
          let w = is_there s p row.dev x least.is_due in
          let f : answered_due (device_with c w.0 (calling_lines m false u) (own_time p c)) (want_at s p c) g t3
          ≡ Some x = sym (goes_on_due s p g c t0 t3 w.0 (calling_lines m false u) always.devices h.caller_below
          (ap (latency_of s) (sym same) ∙ w.1) h.stands.connection_is was h.caller)
          ∙ ap (unreset_due s p) (sym same) ∙ least.is_due in
          acts m a w.0 x f refl refl same
      | inr nc ↦ absurd (only_caller_acts s p g c t0 t3 (calling_lines m false u) answer_lines
          (calling_lines m true u) row always h was least nc)
    ]
  where
    acts : (m : Bool) → IsAnswered s p (answered_calling m l t1 t2 t3) c l t0 m false u → (lat : ℕ) (x : Due)
        → answered_due (device_with c lat (calling_lines m false u) (own_time p c))
        (want_at s p c) (answered_calling m l t1 t2 t3) t3 ≡ Some x
        → x.time ≡ row.time → x.kind ≡ row.kind → row.dev ≡ c → ApartRow s p row
    acts true a lat x f et ek same =
        let z = is_at (t3 + 90 + lat) (record none { atn = true }) x f in
        let e : row ≡ row_of_lines row.time c (record none { atn = true }) =
        λ i. record { time = row.time; dev = same i; kind = (sym ek ∙ z.kind_is) i } in
        absurd (begins_selected s p c l t0 t1 t2 t3 u row.time a (ap (λ (r : Row). connection (r ∷ p)) (sym e) ∙ alone))
    acts false a lat x f et ek same =
        let z = is_at (t3 + lat) (calling_lines false true u) x f in
        let e : row ≡ row_of_lines row.time c (calling_lines false true u) =
        λ i. record { time = row.time; dev = same i; kind = (sym ek ∙ z.kind_is) i } in
        subst (λ (r : Row). ApartRow s p r) (sym e) (makes_takeover s p c l t0 t1 t2 t3 u row.time always.devices a)

resumed_row : (s : ScenarioValue) (p : List Row) (c m t0 t1 t2 t3 t4 l : ℕ) (row : Row) → CalmStanding s p
    → IsAnswered s p (resumed_calling m t1 t2 t3 t4) c m t0 false true l → IsLeast (unreset_due s p) 8 row
    → connection (row ∷ p) ≡ None → ApartRow s p row
resumed_row s p c m t0 t1 t2 t3 t4 l row always a least alone =
    let h = a.here in
    let g : Calling = resumed_calling m t1 t2 t3 t4 in
    let was : stage p ≡ InAnswer (call_with c t0 g) g t3 = stage_is p _ _ _ _ h.stands in
    elim (cases_eq row.dev c) [
      | inl same ↦
          let x : Due = record { time = row.time; kind = row.kind } in
          let w = is_there s p row.dev x least.is_due in
          let f = sym (goes_on_due s p g c t0 t3 w.0 (calling_lines false true l) always.devices h.caller_below
          (ap (latency_of s) (sym same) ∙ w.1) h.stands.connection_is was h.caller)
          ∙ ap (unreset_due s p) (sym same) ∙ least.is_due in
          let y : ℕ = (byte_set (want_at s p c).first).data_bits in
          let z = is_at (own_time p c + 90 + w.0) (reselected_lines y) x f in
          let e : row ≡ row_of_lines row.time c (reselected_lines y) = λ i. record {
            time = row.time;
            dev = same i;
            kind = z.kind_is i;
          } in
          absurd (begins_reselected s p c m t0 t1 t2 t3 t4 l y row.time a
          (ap (λ (r : Row). connection (r ∷ p)) (sym e) ∙ alone))
      | inr nc ↦ absurd (only_caller_acts s p g c t0 t3 (calling_lines false true l) answer_lines
          (calling_lines false true l) row always h was least nc)
    ]

-- ---- all of them

pub apart_row : (s : ScenarioValue) (p : List Row) (row : Row) → HasShortLatencies s → CalmStanding s p
    → IsLeast (unreset_due s p) 8 row → (bus p).rst ≡ false → connection p ≡ None → connection (row ∷ p) ≡ None
    → BusStage s p → ApartRow s p row
apart_row s p row fits always m calm was alone (on_free_bus h) = free_row s p row always.devices h m
apart_row s p row fits always m calm was alone (in_arbitration a h) = arbitration_row s p a row always.devices h m
apart_row s p row fits always m calm was alone (after_arbitration c t h) = won_row s p c t row fits always h m
apart_row s p row fits always m calm was alone (with_both_ids g c k t0 t e h) =
    calls_row s p g c k t0 t row always.devices h m
apart_row s p row fits always m calm was alone (awaiting_answer v g c k t0 t1 t2 x h) =
    asking_row s p v g c k t0 t1 t2 x row always.devices h m
apart_row s p row fits always m calm was alone (after_withdrawal v g c k t0 t1 t2 t3 e h) =
    withdrawn_row s p v g c k t0 t1 t2 t3 row always.devices h m
apart_row s p row fits always m calm was alone (after_answer g c k t0 t1 t2 t3 x h) =
    answered_row s p g c k t0 t1 t2 t3 x row always h m alone
apart_row s p row fits always m calm was alone (after_takeover c k t0 t1 t2 t3 t4 x e f h) =
    resumed_row s p c k t0 t1 t2 t3 t4 x row always h m alone
apart_row s p row fits always m calm was alone (in_reset h) = wrong (sym h.reset ∙ calm)
apart_row s p row fits always m calm was alone (in_connection n e off h) = none_some n (sym was ∙ e)
