-- A row on a free bus.
use Rattle.bus_laws.proofs
use proofs.Names.{inl, inr, ℕ, ◌≡◌, ◌≢◌, ◌<◌, ◌≤◌, ◌+◌, true, false, ◌∙◌, List, ◌∷◌, Some, None, refl, sym, ap, subst}
use proofs.Names.{arith, cases_eq, bus_one, LineSet, none, free_since, raised, raised_next, drives, bus, Drives, Row}
use proofs.Names.{Arbitration, ENTRY_DELAY, stage, OnFreeBus, InArbitration, ScenarioValue, contender_lines, free_due}
use proofs.Names.{Due, IsLeast, AreOfDevices, run_state, want_time, arbitration_bus, own_time, device_with, unreset_due}
use proofs.Names.{Stands, row_of_lines, CalmStanding, IsContender, FreeBus, NextCalmRow, in_arbitration}
use proofs.Lines.{Apart.{entry_row_keeps}, Obeys.{entry_obeys}, Rows.{stands_after, stage_is, drives_own, drives_other}}
use proofs.{Lines.{Rows.{own_time_own, raised_own}, Seen.{obeys_apart}}, Stages.Dues.{is_there, is_entry, is_entry_in}}
use proofs.Stages.Dues.{win_due, idle_due, free_due_is, same_entry}

-- a row whose kind is run_state
pub row_is : (row : Row) (l : LineSet) → row.kind ≡ Drives l → row ≡ row_of_lines row.time row.dev l
row_is row l e = λ i. record { time = row.time; dev = row.dev; kind = e i }

enters : (s : ScenarioValue) (p : List Row) (t d : ℕ) → CalmStanding s p → FreeBus s p
    → IsLeast (unreset_due s p) 8 (row_of_lines t d (contender_lines d)) → free_since p + ENTRY_DELAY ≤ t
    → NextCalmRow s p (row_of_lines t d (contender_lines d))
enters s p t d a h m after_free =
    let l : LineSet = contender_lines d in
    let q : List Row = row_of_lines t d l ∷ p in
    let x : Due = record { time = t; kind = Drives l } in
    let u : Arbitration = record { free = free_since p; first = t } in
    let th = is_there s p d x m.is_due in
    let order = a.ahead d m.inside x m.is_due in
    let own : drives q d ≡ l = drives_own p t d l in
    let rest : (e : ℕ) → e < 8 → e ≢ d → drives q e ≡ none = λ e lt ne. drives_other p t d l e ne ∙ h.quiet e lt in
    let after : bus q ≡ contender_lines d = bus_one q d m.inside rest ∙ own in
    let goes = stands_after p t d l l none l none None None None h.stands refl after (h.quiet d m.inside) in
    let bits : (bus q).data_bits ≡ (contender_lines d).data_bits = ap (λ (y : LineSet). y.data_bits) after in
    let stands : Stands q (arbitration_bus (bus q).data_bits) (Some u) None None = record {
      bus_is = after ∙ ap arbitration_bus (sym bits);
      arbitration_is = goes.arbitration_is;
      call_is = goes.call_is;
      connection_is = goes.connection_is;
    } in
    let here : stage q ≡ InArbitration u = stage_is q _ _ _ _ goes in
    let was : stage p ≡ OnFreeBus (free_since p) = stage_is p _ _ _ _ h.stands in
    let books = entry_row_keeps s p t d l l none l none None None a.devices m.inside h.stands h.link refl after
    (h.quiet d m.inside) refl refl refl in
    let devices : AreOfDevices q = (m.inside, a.devices) in
    let asks : IsContender s q u d = record {
      drive = own;
      lat = th.0;
      there = th.1;
      entered = let k = own_time_own p t d l in omega arith;
      raised_at = raised_own (λ y. y.bsy) p t d l
          ∙ (λ i. raised_next (h.quiet d m.inside i).bsy true t (raised (λ y. y.bsy) p d)) ∙ sym (own_time_own p t d l);
    } in
    record {
      order = order;
      calm = ap (λ (y : LineSet). y.rst) after;
      obeys = obeys_apart p t d l none l none l None None false h.stands refl after (h.quiet d m.inside) refl
          (entry_obeys p t d order after_free);
      ahead = λ alone e lt y r.
          let w = is_there s q e y r in
          elim (cases_eq e d) [
            | inl same ↦
                let v = (win_due s q e w.0 u y devices lt w.1 goes.connection_is here
                (ap (drives q) same ∙ own ∙ ap contender_lines (sym same)) r).time_is in
                let k : own_time q e ≡ t = ap (own_time q) same ∙ own_time_own p t d l in
                omega arith
            | inr ne ↦
                let z = is_entry_in e w.0 (own_time q e) none u (want_time s (run_state s q) e) y
                (sym (idle_due s q e w.0 u devices lt w.1 goes.connection_is here (rest e lt ne)) ∙ r) in
                m.first e lt y
                (free_due_is s p e w.0 (free_since p) a.devices lt w.1 h.stands.connection_is was (h.quiet e lt)
                ∙ ap (free_due (device_with e w.0 none (own_time p e)) (free_since p)) (sym (books.wants e))
                ∙ same_entry e w.0 (own_time p e) (own_time q e) (free_since p) (want_time s (run_state s q) e) ∙ z.0)
          ];
      here = in_arbitration u (record {
        stands = stands;
        each = λ e lt. elim (cases_eq e d) [
          | inl same ↦ inr (subst (λ (k : ℕ). IsContender s q u k) (sym same) asks)
          | inr ne ↦ inl (rest e lt ne)
        ];
        early = omega arith;
        late = omega arith;
        link = books.link;
      });
    }

pub from_free : (s : ScenarioValue) (p : List Row) (row : Row) → CalmStanding s p → FreeBus s p
    → IsLeast (unreset_due s p) 8 row → NextCalmRow s p row
from_free s p row a h m =
    let x : Due = record { time = row.time; kind = row.kind } in
    let th = is_there s p row.dev x m.is_due in
    let was : stage p ≡ OnFreeBus (free_since p) = stage_is p _ _ _ _ h.stands in
    let z = is_entry row.dev th.0 (own_time p row.dev) (free_since p) none
    (want_time s (run_state s p) row.dev) x (sym (free_due_is s p row.dev th.0
    (free_since p) a.devices m.inside th.1 h.stands.connection_is was (h.quiet row.dev m.inside)) ∙ m.is_due) in
    let e = row_is row (contender_lines row.dev) z.kind_is in
    subst (λ (r : Row). NextCalmRow s p r) (sym e)
    (enters s p row.time row.dev a h (subst (λ (r : Row). IsLeast (unreset_due s p) 8 r) e m) z.after_free)
