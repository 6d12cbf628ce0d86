-- A row in an arbitration: a later entry, or the rise of SEL.
use Rattle.bus_laws.proofs
use proofs.Names.{◌⊎◌, inl, inr, ℕ, ◌≡◌, ◌≢◌, ◌<◌, ◌≤◌, ◌+◌, true, false, ◌∙◌, List, ◌∷◌, Some, None, refl, sym, ap}
use proofs.Names.{subst, arith, cases_eq, LineSet, none, has_id_above, raised, raised_next, drives, bus, since_line}
use proofs.Names.{Drives, Row, Arbitration, ARBITRATION_DELAY, BUS_SET_DELAY, ENTRY_DELAY, stage, InArbitration}
use proofs.Names.{InCalling, ScenarioValue, latency_of, aim_of, contender_lines, later_entry_if, Due, IsLeast}
use proofs.Names.{AreOfDevices, run_state, want_time, callee, arbitration_bus, won_call, won_bus, own_time, device_with}
use proofs.Names.{unreset_due, Stands, row_of_lines, CalmStanding, Arbitrating, IsContender, NextCalmRow, IsLoser}
use proofs.{Names.{in_arbitration, after_arbitration}, Lines.Apart.{entry_row_keeps, still_row_keeps}}
use proofs.Lines.{Held.{ContendsOrNot, entries_is, winner_is}, Obeys.{late_entry_obeys, win_obeys}, Rows.{stands_after}}
use proofs.Lines.Rows.{stage_is, since_is, drives_own, drives_other, own_time_own, own_time_other, raised_own}
use proofs.{Lines.{Rows.{raised_other}, Seen.{obeys_apart}}, Stages.CallDues.{loser_due, quiet_due, calls_due}}
use proofs.Stages.{CallDues.{is_calling}, Dues.{is_there, is_at, is_entry, is_entry_in, win_due, idle_due}}
use proofs.Stages.{Dues.{same_entry_in}, Free.{row_is}}

contends_or_not_of : (s : ScenarioValue) (p : List Row) (a : Arbitration) (e : ℕ)
    → (drives p e ≡ none) ⊎ IsContender s p a e → ContendsOrNot p e
contends_or_not_of s p a e (inl n) = inl n
contends_or_not_of s p a e (inr k) = inr k.drive

pub lost_or : (s : ScenarioValue) (p : List Row) (e : ℕ) → (drives p e ≡ none) ⊎ IsLoser s p e → ContendsOrNot p e
lost_or s p e (inl n) = inl n
lost_or s p e (inr k) = inr k.drive

none_asks : (d : ℕ) → none ≢ contender_lines d
none_asks d e = let w : false ≡ true = ap (λ (y : LineSet). y.bsy) e in cc

-- a contender stays one through the row of another
stays : (s : ScenarioValue) (p : List Row) (a : Arbitration) (t d : ℕ) (l : LineSet) (e : ℕ) → e ≢ d
    → IsContender s p a e → IsContender s (row_of_lines t d l ∷ p) a e
stays s p a t d l e ne h = record {
  drive = drives_other p t d l e ne ∙ h.drive;
  lat = h.lat;
  there = h.there;
  entered = let w = own_time_other p t d l e ne in let v = h.entered in omega arith;
  raised_at = raised_other (λ x. x.bsy) p t d l e ne ∙ h.raised_at ∙ sym (own_time_other p t d l e ne);
}

enters : (s : ScenarioValue) (p : List Row) (a : Arbitration) (t d : ℕ) → CalmStanding s p → Arbitrating s p a
    → drives p d ≡ none → IsLeast (unreset_due s p) 8 (row_of_lines t d (contender_lines d)) → a.free + ENTRY_DELAY ≤ t
    → t ≤ a.first + BUS_SET_DELAY → NextCalmRow s p (row_of_lines t d (contender_lines d))
enters s p a t d always h o m after_free soon =
    let l : LineSet = contender_lines d in
    let q : List Row = row_of_lines t d l ∷ p in
    let x : Due = record { time = t; kind = Drives l } in
    let th = is_there s p d x m.is_due in
    let order = always.ahead d m.inside x m.is_due in
    let own : drives q d ≡ l = drives_own p t d l in
    let devices : AreOfDevices q = (m.inside, always.devices) in
    let asks : IsContender s q a d = record {
      drive = own;
      lat = th.0;
      there = th.1;
      entered = let z = own_time_own p t d l in let w = h.early in omega arith;
      raised_at = raised_own (λ y. y.bsy) p t d l ∙ (λ i. raised_next (o i).bsy true t (raised (λ y. y.bsy) p d))
          ∙ sym (own_time_own p t d l);
    } in
    let each : (e : ℕ) → e < 8 → (drives q e ≡ none) ⊎ IsContender s q a e = λ e lt. elim (cases_eq e d) [
      | inl same ↦ inr (subst (λ (z : ℕ). IsContender s q a z) (sym same) asks)
      | inr ne ↦ elim (h.each e lt) [
        | inl n ↦ inl (drives_other p t d l e ne ∙ n)
        | inr z ↦ inr (stays s p a t d l e ne z)
      ]
    ] in
    let after : bus q ≡ arbitration_bus (bus q).data_bits = entries_is q d m.inside own
    (λ e lt. contends_or_not_of s q a e (each e lt)) in
    let goes = stands_after p t d l l (arbitration_bus (bus p).data_bits)
    (arbitration_bus (bus q).data_bits) none (Some a) None None h.stands refl after o in
    let stands : Stands q (arbitration_bus (bus q).data_bits) (Some a) None None = record {
      bus_is = goes.bus_is;
      arbitration_is = goes.arbitration_is;
      call_is = goes.call_is;
      connection_is = goes.connection_is;
    } in
    let here : stage q ≡ InArbitration a = stage_is q _ _ _ _ stands in
    let was : stage p ≡ InArbitration a = stage_is p _ _ _ _ h.stands in
    let books = entry_row_keeps s p t d l l (arbitration_bus (bus p).data_bits) (arbitration_bus (bus q).data_bits) none
    (Some a) None always.devices m.inside h.stands h.link refl after o refl refl refl in
    record {
      order = order;
      calm = ap (λ (y : LineSet). y.rst) after;
      obeys = obeys_apart p t d l (arbitration_bus (bus p).data_bits)
          (arbitration_bus (bus q).data_bits) none l (Some a) None false h.stands refl after o refl
          (late_entry_obeys p a t d (bus p).data_bits (bus q).data_bits order after_free soon);
      ahead = λ alone e lt y r.
          let w = is_there s q e y r in
          elim (each e lt) [
            | inl n ↦
                let ne : e ≢ d = λ same. none_asks d (sym n ∙ ap (drives q) same ∙ own) in
                m.first e lt y (idle_due s p e w.0 a always.devices lt w.1 h.stands.connection_is was
                (sym (drives_other p t d l e ne) ∙ n)
                ∙ ap (later_entry_if (device_with e w.0 none (own_time p e)) a) (sym (books.wants e))
                ∙ same_entry_in e w.0 (own_time p e) (own_time q e) a (want_time s (run_state s q) e)
                ∙ sym (idle_due s q e w.0 a devices lt w.1 goes.connection_is here n) ∙ r)
            | inr z ↦
                let v = (win_due s q e w.0 a y devices lt w.1 goes.connection_is here z.drive r).time_is in
                let u = z.entered in
                omega arith
          ];
      here = in_arbitration a (record {
        stands = stands;
        each = each;
        early = let w = h.early in omega arith;
        late = soon;
        link = books.link;
      });
    }

wins : (s : ScenarioValue) (p : List Row) (a : Arbitration) (t d : ℕ) → CalmStanding s p → Arbitrating s p a
    → IsContender s p a d → IsLeast (unreset_due s p) 8 (row_of_lines t d (record (contender_lines d) { sel = true }))
    → own_time p d + ARBITRATION_DELAY ≤ t → has_id_above (bus p) d ≡ false
    → NextCalmRow s p (row_of_lines t d (record (contender_lines d) { sel = true }))
wins s p a t d always h asks m turn highest =
    let l : LineSet = record (contender_lines d) { sel = true } in
    let q : List Row = row_of_lines t d l ∷ p in
    let x : Due = record { time = t; kind = Drives l } in
    let order = always.ahead d m.inside x m.is_due in
    let own : drives q d ≡ l = drives_own p t d l in
    let devices : AreOfDevices q = (m.inside, always.devices) in
    let each : (e : ℕ) → e < 8 → e ≢ d → (drives q e ≡ none) ⊎ IsLoser s q e = λ e lt ne. elim (h.each e lt) [
      | inl n ↦ inl (drives_other p t d l e ne ∙ n)
      | inr k ↦ inr (record { drive = drives_other p t d l e ne ∙ k.drive; lat = k.lat; there = k.there })
    ] in
    let after : bus q ≡ won_bus (bus q).data_bits = winner_is q d m.inside own
    (λ e lt ne. lost_or s q e (each e lt ne)) in
    let goes = stands_after p t d l l (arbitration_bus (bus p).data_bits) (won_bus (bus q).data_bits)
    (contender_lines d) (Some a) None None h.stands refl after asks.drive in
    let stands : Stands q (won_bus (bus q).data_bits) None (Some (won_call d t)) None = record {
      bus_is = goes.bus_is;
      arbitration_is = goes.arbitration_is;
      call_is = goes.call_is;
      connection_is = goes.connection_is;
    } in
    let here : stage q ≡ InCalling (won_call d t) = stage_is q _ _ _ _ stands in
    let books = still_row_keeps s p t d l l (arbitration_bus (bus p).data_bits)
    (won_bus (bus q).data_bits) (contender_lines d)
    (Some a) None always.devices m.inside h.stands h.link refl after asks.drive refl refl refl refl in
    let age : since_line (λ y. y.sel) q ≡ t = since_is (λ y. y.sel) p (row_of_lines t d l)
    (arbitration_bus (bus p).data_bits) (won_bus (bus q).data_bits) h.stands.bus_is after in
    let no_above : has_id_above (arbitration_bus (bus p).data_bits) d ≡ false = highest in
    record {
      order = order;
      calm = ap (λ (y : LineSet). y.rst) after;
      obeys = obeys_apart p t d l (arbitration_bus (bus p).data_bits) (won_bus (bus q).data_bits) (contender_lines d) l
          (Some a) None false h.stands refl after asks.drive refl (win_obeys p a t d (bus p).data_bits
          (bus q).data_bits order (let w = asks.raised_at in omega arith) no_above);
      ahead = λ alone e lt y r.
          let w = is_there s q e y r in
          elim (cases_eq e d) [
            | inl same ↦
                let v =
                (is_calling s d w.0 l (own_time q d) (callee s (run_state s q) d (aim_of (run_state s q).story.aims d))
                y (sym (calls_due s q d w.0 t l devices m.inside (ap (latency_of s) (sym same) ∙ w.1)
                goes.connection_is here own) ∙ ap (unreset_due s q) (sym same) ∙ r)).time_is in
                let u = own_time_own p t d l in
                omega arith
            | inr ne ↦ elim (each e lt ne) [
              | inl n ↦
                  let v = sym (quiet_due s q e w.0 d t devices lt w.1 goes.connection_is (λ z. ne (sym z)) here n)
                  ∙ r in
                  absurd cc
              | inr k ↦
                  let v = (is_at _ _ y
                  (sym (loser_due s q e w.0 d t devices lt w.1 goes.connection_is (λ z. ne (sym z)) here k.drive)
                  ∙ r)).time_is in
                  omega arith
            ]
          ];
      here = after_arbitration d t (record {
        stands = stands;
        caller_below = m.inside;
        caller = own;
        lat = asks.lat;
        there = asks.there;
        caller_time = own_time_own p t d l;
        sel_age = age;
        each = each;
        link = books.wishes.link;
      });
    }

pub from_arbitration : (s : ScenarioValue) (p : List Row) (a : Arbitration) (row : Row) → CalmStanding s p
    → Arbitrating s p a → IsLeast (unreset_due s p) 8 row → NextCalmRow s p row
from_arbitration s p a row always h m = go (h.each row.dev m.inside)
  where
    go : (drives p row.dev ≡ none) ⊎ IsContender s p a row.dev → NextCalmRow s p row
    go (inl n) =
        let x : Due = record { time = row.time; kind = row.kind } in
        let th = is_there s p row.dev x m.is_due in
        let was : stage p ≡ InArbitration a = stage_is p _ _ _ _ h.stands in
        let z = is_entry_in row.dev th.0 (own_time p row.dev) none a (want_time s (run_state s p) row.dev) x
        (sym (idle_due s p row.dev th.0 a always.devices m.inside th.1 h.stands.connection_is was n) ∙ m.is_due) in
        let v = is_entry row.dev th.0 (own_time p row.dev) a.free none (want_time s (run_state s p) row.dev) x z.0 in
        let e = row_is row (contender_lines row.dev) v.kind_is in
        subst (λ (r : Row). NextCalmRow s p r) (sym e) (enters s p a row.time row.dev always h n
        (subst (λ (r : Row). IsLeast (unreset_due s p) 8 r) e m) v.after_free z.1)
    go (inr k) =
        let x : Due = record { time = row.time; kind = row.kind } in
        let was : stage p ≡ InArbitration a = stage_is p _ _ _ _ h.stands in
        let v = win_due s p row.dev k.lat a x always.devices m.inside
        k.there h.stands.connection_is was k.drive m.is_due in
        let e = row_is row (record (contender_lines row.dev) { sel = true }) v.kind_is in
        let turn : own_time p row.dev + ARBITRATION_DELAY ≤ row.time = let w = v.time_is in omega arith in
        subst (λ (r : Row). NextCalmRow s p r) (sym e)
        (wins s p a row.time row.dev always h k (subst (λ (r : Row). IsLeast (unreset_due s p) 8 r) e m) turn v.highest)
