-- A row after SEL rose, until both IDs stand: a loser releases all, or the won_bus calls.
use Rattle.bus_laws.proofs
use proofs.Names.{◌⊎◌, inl, inr, ℕ, ◌≡◌, ◌≢◌, ◌<◌, ◌≤◌, ◌+◌, Bool, true, false, not, ◌||◌, ◌&&◌, ◌∙◌, List, ◌∷◌, Some}
use proofs.Names.{None, refl, sym, ap, subst, arith, cases_eq, ne_eqb, ◌==◌, if◌then◌else◌, eq_self, and_false, bus_one}
use proofs.Names.{LineSet, none, same_set, call, drives_two_ids, new_calling, drives, bus, since_line, Drives, Row}
use proofs.Names.{QUIET_TIME, stage, InCalling, others_in_call, others_drive, ScenarioValue, is_initiator, latency_of}
use proofs.Names.{aim_of, contender_lines, due_at, Due, IsLeast, AreOfDevices, run_state, callee, begun_call, both_ids}
use proofs.Names.{new_calling_at, won_call, won_bus, own_time, unreset_due, Stands, row_of_lines, CalmStanding}
use proofs.Names.{HasShortLatencies, NextCalmRow, IsLoser, ArbitrationWon, with_both_ids, after_arbitration}
use proofs.Lines.{Apart.{still_row_keeps}, Held.{winner_is}, Ids.{IsCall, is_call}, Obeys.{won_lines, loser_obeys}}
use proofs.Lines.{Obeys.{call_obeys}, Rows.{stands_after, stage_is, since_is, drives_own, drives_other, own_time_own}}
use proofs.{Lines.{Rows.{own_time_other}, Seen.{obeys_apart}}, Stages.{Arbitration.{lost_or}, CallDues.{loser_due}}}
use proofs.Stages.{CallDues.{quiet_due, calls_due, is_calling, asks_due, before_due}, Dues.{is_there, is_at}}
use proofs.Stages.Free.{row_is}

in_won : (s : ScenarioValue) (p : List Row) (c t0 : ℕ) → ArbitrationWon s p c t0 → stage p ≡ InCalling (won_call c t0)
in_won s p c t0 h = stage_is p _ _ _ _ h.stands

loses : (s : ScenarioValue) (p : List Row) (c t0 t d : ℕ) → CalmStanding s p → ArbitrationWon s p c t0 → d ≢ c
    → drives p d ≡ contender_lines d → IsLeast (unreset_due s p) 8 (row_of_lines t d none) → t ≤ t0 + 100
    → NextCalmRow s p (row_of_lines t d none)
loses s p c t0 t d always h ne_c o m soon =
    let q : List Row = row_of_lines t d none ∷ p in
    let x : Due = record { time = t; kind = Drives none } in
    let order = always.ahead d m.inside x m.is_due in
    let own : drives q d ≡ none = drives_own p t d none in
    let holds : drives q c ≡ won_lines c = drives_other p t d none c (λ z. ne_c (sym z)) ∙ h.caller in
    let devices : AreOfDevices q = (m.inside, always.devices) in
    let each : (e : ℕ) → e < 8 → e ≢ c → (drives q e ≡ none) ⊎ IsLoser s q e = λ e lt ne. elim (cases_eq e d) [
      | inl same ↦ inl (ap (drives q) same ∙ own)
      | inr nd ↦ elim (h.each e lt ne) [
        | inl n ↦ inl (drives_other p t d none e nd ∙ n)
        | inr k ↦ inr (record { drive = drives_other p t d none e nd ∙ k.drive; lat = k.lat; there = k.there })
      ]
    ] in
    let after : bus q ≡ won_bus (bus q).data_bits = winner_is q c h.caller_below holds
    (λ e lt ne. lost_or s q e (each e lt ne)) in
    let goes = stands_after p t d none none (won_bus (bus p).data_bits) (won_bus (bus q).data_bits)
    (contender_lines d) None (Some (won_call c t0)) None h.stands refl after o in
    let self : (if d == c then false else true) ≡ true = ap
    (λ (y : Bool). if y then false else true) (ne_eqb d c ne_c) in
    let calling : call q ≡ Some (won_call c t0) = goes.call_is ∙ ap (λ (y : Bool). Some (record (won_call c t0) {
      calling =
          if y && drives_two_ids c none then Some (new_calling c none t) else None;
    })) (ne_eqb d c ne_c) in
    let stands : Stands q (won_bus (bus q).data_bits) None (Some (won_call c t0)) None = record {
      bus_is = goes.bus_is;
      arbitration_is = goes.arbitration_is;
      call_is = calling;
      connection_is = goes.connection_is;
    } in
    let here : stage q ≡ InCalling (won_call c t0) = stage_is q _ _ _ _ stands in
    let books = still_row_keeps s p t d none none (won_bus (bus p).data_bits)
    (won_bus (bus q).data_bits) (contender_lines d) None
    (Some (won_call c t0)) always.devices m.inside h.stands h.link refl after o refl refl refl refl in
    let age : since_line (λ y. y.sel) q ≡ t0 = since_is (λ y. y.sel) p (row_of_lines t d none)
    (won_bus (bus p).data_bits) (won_bus (bus q).data_bits) h.stands.bus_is after ∙ h.sel_age in
    let held : own_time q c ≡ t0 = own_time_other p t d none c (λ z. ne_c (sym z)) ∙ h.caller_time in
    record {
      order = order;
      calm = ap (λ (y : LineSet). y.rst) after;
      obeys = obeys_apart p t d none (won_bus (bus p).data_bits) (won_bus (bus q).data_bits)
          (contender_lines d) none None (Some (won_call c t0)) (others_in_call (drives p) (Some (won_call c t0)))
          h.stands refl after o refl (loser_obeys p c t0 t d (bus p).data_bits (bus q).data_bits
          (others_in_call (drives p) (Some (won_call c t0))) order soon (ne_eqb d c ne_c));
      ahead = λ alone e lt y r.
          let w = is_there s q e y r in
          elim (cases_eq e c) [
            | inl same ↦
                let v = (is_calling s c w.0 (won_lines c) (own_time q c)
                (callee s (run_state s q) c (aim_of (run_state s q).story.aims c)) y
                (sym (calls_due s q c w.0 t0 (won_lines c) devices h.caller_below (ap (latency_of s) (sym same) ∙ w.1)
                goes.connection_is here holds) ∙ ap (unreset_due s q) (sym same) ∙ r)).time_is in
                omega arith
            | inr ne ↦ elim (each e lt ne) [
              | inl n ↦
                  let v = sym (quiet_due s q e w.0 c t0 devices lt w.1 goes.connection_is (λ z. ne (sym z)) here n)
                  ∙ r in
                  absurd cc
              | inr k ↦
                  let nd : e ≢ d = λ same. let v : false ≡ true = ap (λ (z : LineSet). z.bsy)
                  (sym own ∙ ap (drives q) (sym same) ∙ k.drive) in cc in
                  m.first e lt y (loser_due s p e w.0 c t0 always.devices lt w.1 h.stands.connection_is
                  (λ z. ne (sym z)) (in_won s p c t0 h) (sym (drives_other p t d none e nd) ∙ k.drive)
                  ∙ ap (λ (z : ℕ). due_at (z + w.0) none) (h.sel_age ∙ sym age)
                  ∙ sym (loser_due s q e w.0 c t0 devices lt w.1 goes.connection_is (λ z. ne (sym z)) here k.drive) ∙ r)
            ]
          ];
      here = after_arbitration c t0 (record {
        stands = stands;
        caller_below = h.caller_below;
        caller = holds;
        lat = h.lat;
        there = h.there;
        caller_time = held;
        sel_age = age;
        each = each;
        link = books.wishes.link;
      });
    }

-- no device but one drives anything
pub quiet_others : (f : ℕ → LineSet) (c : ℕ) → ((e : ℕ) → e < 8 → e ≢ c → f e ≡ none) → others_drive f c ≡ false
quiet_others f c h =
    λ i. one 0 (omega arith) i || one 1 (omega arith) i || one 2 (omega arith) i || one 3 (omega arith) i
    || one 4 (omega arith) i || one 5 (omega arith) i || one 6 (omega arith) i || one 7 (omega arith) i
  where
    one : (e : ℕ) → e < 8 → (not (e == c) && not (same_set (f e) none)) ≡ false
    one e lt =
        elim (cases_eq e c) [
          | inl same ↦ ap (λ (y : Bool). not y && not (same_set (f e) none)) (ap (λ (z : ℕ). z == c) same ∙ eq_self c)
          | inr ne ↦ (λ i. not (e == c) && not (same_set (h e lt ne i) none)) ∙ and_false (not (e == c))
        ]

new_calling_is : (m : Bool) (c l t : ℕ) → IsCall m c l → new_calling c (both_ids m c l) t ≡ new_calling_at m l t
new_calling_is m c l t h = λ i. record (new_calling_at m l t) { called = h.other i }

makes_call : (s : ScenarioValue) (p : List Row) (m : Bool) (c b t0 t : ℕ) → HasShortLatencies s → CalmStanding s p
    → ArbitrationWon s p c t0 → IsLeast (unreset_due s p) 8 (row_of_lines t c (both_ids m c b)) → t0 + QUIET_TIME ≤ t
    → b < 8 → b ≢ c → NextCalmRow s p (row_of_lines t c (both_ids m c b))
makes_call s p m c b t0 t fits always h least wait lk ne_k =
    let l : LineSet = both_ids m c b in
    let q : List Row = row_of_lines t c l ∷ p in
    let x : Due = record { time = t; kind = Drives l } in
    let order = always.ahead c least.inside x least.is_due in
    let own : drives q c ≡ l = drives_own p t c l in
    let devices : AreOfDevices q = (least.inside, always.devices) in
    let ids = is_call m c b h.caller_below lk (λ z. ne_k (sym z)) in
    let was = in_won s p c t0 h in
    let quiet : (e : ℕ) → e < 8 → e ≢ c → drives p e ≡ none = λ e lt ne. elim (h.each e lt ne) [
      | inl n ↦ n
      | inr o ↦ gone e lt ne o
    ] in
    let rest : (e : ℕ) → e < 8 → e ≢ c → drives q e ≡ none = λ e lt ne. drives_other p t c l e ne ∙ quiet e lt ne in
    let before : bus p ≡ won_lines c = bus_one p c h.caller_below quiet ∙ h.caller in
    let after : bus q ≡ l = bus_one q c h.caller_below rest ∙ own in
    let stood : Stands p (won_lines c) None (Some (won_call c t0)) None = record {
      bus_is = before;
      arbitration_is = h.stands.arbitration_is;
      call_is = h.stands.call_is;
      connection_is = h.stands.connection_is;
    } in
    let goes = stands_after p t c l l (won_lines c) l (won_lines c) None
    (Some (won_call c t0)) None stood refl after h.caller in
    let calling : call q ≡ Some (begun_call m c b t0 t) = goes.call_is ∙ (λ i. Some (record (won_call c t0) {
      calling =
          if eq_self c i && ids.two i then Some (new_calling_is m c b t ids i) else None;
    })) in
    let stands : Stands q l None (Some (begun_call m c b t0 t)) None = record {
      bus_is = after;
      arbitration_is = goes.arbitration_is;
      call_is = calling;
      connection_is = goes.connection_is;
    } in
    let here : stage q ≡ InCalling (begun_call m c b t0 t) = stage_is q _ _ _ _ stands in
    let books = still_row_keeps s p t c l l (won_lines c) l (won_lines c) None
    (Some (won_call c t0)) always.devices least.inside stood h.link refl after h.caller refl refl refl refl in
    record {
      order = order;
      calm = ap (λ (y : LineSet). y.rst) after;
      obeys = obeys_apart p t c l (won_lines c) l (won_lines c) l None (Some (won_call c t0)) false stood refl after
          h.caller (quiet_others (drives p) c quiet) (call_obeys p m c b t0 t order wait ids);
      ahead = λ alone e lt y r.
          let w = is_there s q e y r in
          elim (cases_eq e c) [
            | inl same ↦
                let v = (is_at (own_time q c + 90 + w.0) (record l { bsy = false }) y
                (sym (asks_due s q m c b t0 t w.0 l devices h.caller_below (ap (latency_of s) (sym same) ∙ w.1)
                goes.connection_is here own) ∙ ap (unreset_due s q) (sym same) ∙ r)).time_is in
                let u = own_time_own p t c l in
                omega arith
            | inr ne ↦
                let v = sym (before_due s q m c b t0 t e w.0 devices lt w.1 goes.connection_is
                (λ z. ne (sym z)) here (rest e lt ne)) ∙ r in
                absurd cc
          ];
      here = with_both_ids m c b t0 t (own_time_own p t c l) (record {
        stands = stands;
        caller_below = h.caller_below;
        called_below = lk;
        apart = λ z. ne_k (sym z);
        caller = own;
        other = rest b lk ne_k;
        rest = λ e lt n1 n2. rest e lt n1;
        link = books.wishes.link;
      });
    }
  where
    gone : (e : ℕ) → e < 8 → e ≢ c → IsLoser s p e → drives p e ≡ none
    gone e lt ne o =
        let z : Due = record { time = since_line (λ y. y.sel) p + o.lat; kind = Drives none } in
        let v = least.first e lt z (loser_due s p e o.lat c t0 always.devices lt o.there h.stands.connection_is
        (λ w. ne (sym w)) (in_won s p c t0 h) o.drive) in
        let u = fits.latency e o.lat o.there in
        let a = h.sel_age in
        absurd (omega arith)

pub from_won : (s : ScenarioValue) (p : List Row) (c t0 : ℕ) (row : Row) → HasShortLatencies s → CalmStanding s p
    → ArbitrationWon s p c t0 → IsLeast (unreset_due s p) 8 row → NextCalmRow s p row
from_won s p c t0 row fits always h m =
    elim (cases_eq row.dev c) [
      | inl same ↦
          let x : Due = record { time = row.time; kind = row.kind } in
          let z = is_calling s c h.lat (won_lines c) (own_time p c)
          (callee s (run_state s p) c (aim_of (run_state s p).story.aims c)) x
          (sym (calls_due s p c h.lat t0 (won_lines c) always.devices h.caller_below h.there h.stands.connection_is
          (in_won s p c t0 h) h.caller) ∙ ap (unreset_due s p) (sym same) ∙ m.is_due) in
          let e : row ≡ row_of_lines row.time c (both_ids (is_initiator s.hosts c) c z.k) =
          λ i. record { time = row.time; dev = same i; kind = z.kind_is i } in
          let wait : t0 + QUIET_TIME ≤ row.time = let w = z.time_is in let u = h.caller_time in omega arith in
          subst (λ (r : Row). NextCalmRow s p r) (sym e) (makes_call s p (is_initiator s.hosts c) c z.k t0 row.time fits
          always h (subst (λ (r : Row). IsLeast (unreset_due s p) 8 r) e m) wait z.below (λ q. z.apart (sym q)))
      | inr ne ↦ elim (h.each row.dev m.inside ne) [
        | inl n ↦
            let x : Due = record { time = row.time; kind = row.kind } in
            let w = is_there s p row.dev x m.is_due in
            let v = sym (quiet_due s p row.dev w.0 c t0 always.devices m.inside w.1 h.stands.connection_is
            (λ z. ne (sym z)) (in_won s p c t0 h) n) ∙ m.is_due in
            absurd cc
        | inr k ↦
            let x : Due = record { time = row.time; kind = row.kind } in
            let w = is_there s p row.dev x m.is_due in
            let v = is_at _ _ x (sym (loser_due s p row.dev w.0 c t0 always.devices m.inside w.1 h.stands.connection_is
            (λ z. ne (sym z)) (in_won s p c t0 h) k.drive) ∙ m.is_due) in
            let e = row_is row none v.kind_is in
            let soon : row.time ≤ t0 + 100 = let a = h.sel_age in let b = v.time_is in
            let u = fits.latency row.dev w.0 w.1 in omega arith in
            subst (λ (r : Row). NextCalmRow s p r) (sym e) (loses s p c t0 row.time row.dev always h ne k.drive
            (subst (λ (r : Row). IsLeast (unreset_due s p) 8 r) e m) soon)
      ]
    ]
