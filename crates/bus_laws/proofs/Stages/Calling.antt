-- A row in a calling, until the answer.
use Rattle.bus_laws.proofs
use proofs.Names.{◌⊎◌, inl, inr, ℕ, ◌≡◌, ◌≢◌, ◌<◌, ◌≤◌, ◌+◌, ◌^◌, Bool, true, false, not, ◌||◌, ◌&&◌, ◌∙◌, List, ◌∷◌}
use proofs.Names.{Option, Some, None, refl, sym, ap, subst, arith, cases_eq, ne_eqb, nat_tests, none-some, bit_at}
use proofs.Names.{or_zero_r, ◌==◌, if◌then◌else◌, eq_self, since_le, since_line_le, bus_one, bus_two, has_id-ids_set}
use proofs.Names.{drives-fault, change_of, LineSet, none, union, line_of, call, when, drives, bus, since, since_line}
use proofs.Names.{line_times, Drives, Fault, Row, Change, BUS_SETTLE_DELAY, Call, Calling, stage, InCalling, InAnswer}
use proofs.Names.{ScenarioValue, latency_of, answered_due, due_at, fault_or, Due, Want, IsLeast, AreOfDevices}
use proofs.Names.{answer_lines, answered_calling, awaiting_call, begun_call, calling_lines, call_with, both_ids}
use proofs.Names.{new_calling_at, withdrawn_call, own_time, device_with, unreset_due, Stands, change_to, row_of_fault}
use proofs.Names.{row_of_lines, CalmStanding, AwaitsAnswer, Calls, HasShortLatencies, NextCalmRow, after_answer}
use proofs.{Names.{awaiting_answer, after_withdrawal}, Lines.{Apart.{still_row_keeps, still_keeps}, Obeys.{asks_obeys}}}
use proofs.Lines.{Obeys.{answer_obeys, struck_obeys, withdrawal_obeys}, Rows.{fault_change, stands_by, since_same}}
use proofs.Lines.{Rows.{stands_after, stage_is, since_is, drives_own, drives_other, own_time_own}, Seen.{obeys_apart}}
use proofs.{Lines.Seen.{obeys_by}, Stages.CallDues.{struck_due, gives_up_due, after_withdrawal_due, asks_due}}
use proofs.Stages.CallDues.{before_due, waits_due, answers_due, aside_due, goes_on_due, waiting_due, apart_due, want_at}
use proofs.Stages.{CallDues.{flip_at}, Dues.{is_there, is_at}, Won.{quiet_others}}

-- no device but the caller drives anything
pub only_caller : (s : ScenarioValue) (p : List Row) (y : Call) (c d : ℕ) (x b : LineSet) → Calls s p y c d x none b
    → (e : ℕ) → e < 8 → e ≢ c → drives p e ≡ none
only_caller s p y c d x b h e lt ne =
    elim (cases_eq e d) [
      | inl same ↦ ap (drives p) same ∙ h.other
      | inr nd ↦ h.rest e lt ne nd
    ]

pub ids_not_zero : (c m : ℕ) → (2 ^ c + 2 ^ m + 256 == 0) ≡ false
ids_not_zero c m = grind (arith, nat_tests)

shows_called : (c m : ℕ) → c < 8 → m < 8 → c ≢ m → (bit_at (2 ^ c + 2 ^ m + 256) m == 1) ≡ true
shows_called c m lc lk ne = has_id-ids_set c m m lc lk lk ne ∙ (λ i. ne_eqb c m ne i || eq_self m i)

struck_time : (w : ℕ) (flip : Option ℕ) (l : LineSet) (x : Due) → fault_or w flip (due_at w l) ≡ Some x → x.time ≡ w
struck_time w None l x e = (is_at w l x e).time_is
struck_time w (Some bit) l x e =
    let same : (let y : Due = record { time = w; kind = Fault bit } in y) ≡ x = cc in
    sym (ap (λ (y : Due). y.time) same)

makes_asking : (s : ScenarioValue) (p : List Row) (m : Bool) (c u t0 t1 t : ℕ) → CalmStanding s p
    → Calls s p (begun_call m c u t0 t1) c u (both_ids m c u) none (both_ids m c u)
    → IsLeast (unreset_due s p) 8 (row_of_lines t c (calling_lines m false (2 ^ c + 2 ^ u + 256))) → t1 + 90 ≤ t
    → NextCalmRow s p (row_of_lines t c (calling_lines m false (2 ^ c + 2 ^ u + 256)))
makes_asking s p m c u t0 t1 t always h least wait =
    let a : ℕ = 2 ^ c + 2 ^ u + 256 in
    let l : LineSet = calling_lines m false a in
    let q : List Row = row_of_lines t c l ∷ p in
    let x : Due = record { time = t; kind = Drives l } in
    let order = always.ahead c least.inside x least.is_due in
    let own : drives q c ≡ l = drives_own p t c l in
    let devices : AreOfDevices q = (least.inside, always.devices) in
    let quiet = only_caller s p _ c u _ _ h in
    let rest : (e : ℕ) → e < 8 → e ≢ c → drives q e ≡ none = λ e lt ne. drives_other p t c l e ne ∙ quiet e lt ne in
    let after : bus q ≡ l = bus_one q c h.caller_below rest ∙ own in
    let goes = stands_after p t c l l (both_ids m c u) l (both_ids m c u) None
    (Some (begun_call m c u t0 t1)) None h.stands refl after h.caller in
    let calling : call q ≡ Some (awaiting_call false m c u t0 t1 t) = goes.call_is
    ∙ (λ i. Some (record (begun_call m c u t0 t1) {
      calling = if eq_self c i then Some (record (new_calling_at m u t1) {
        released = Some t;
        withdrawn = when (not (ids_not_zero c u i) && ids_not_zero c u i) t None;
      }) else if c == u then Some (record (new_calling_at m u t1) { struck = false }) else Some (new_calling_at m u t1);
    })) in
    let stands : Stands q l None (Some (awaiting_call false m c u t0 t1 t)) None = record {
      bus_is = after;
      arbitration_is = goes.arbitration_is;
      call_is = calling;
      connection_is = goes.connection_is;
    } in
    let here : stage q ≡ InCalling (awaiting_call false m c u t0 t1 t) = stage_is q _ _ _ _ stands in
    let books = still_row_keeps s p t c l l (both_ids m c u) l (both_ids m c u) None (Some (begun_call m c u t0 t1))
    always.devices least.inside h.stands h.link refl after h.caller refl refl refl refl in
    let age : since_line (λ y. y.bsy) q ≡ t = since_is (λ y. y.bsy) p
    (row_of_lines t c l) (both_ids m c u) l h.stands.bus_is after in
    record {
      order = order;
      calm = ap (λ (y : LineSet). y.rst) after;
      obeys = obeys_apart p t c l (both_ids m c u) l (both_ids m c u) l None
          (Some (begun_call m c u t0 t1)) false h.stands refl after h.caller (quiet_others (drives p) c quiet)
          (asks_obeys p m c u a t0 t1 t h.apart order wait);
      ahead = λ alone e lt y r.
          let w = is_there s q e y r in
          elim (cases_eq e c) [
            | inl same ↦
                let v = (is_at (t + 250000000 + w.0) (record l { data_bits = 0 }) y (sym (waits_due s q false m c u
                t0 t1 t w.0 l devices h.caller_below (ap (latency_of s) (sym same) ∙ w.1) goes.connection_is here own)
                ∙ ap (unreset_due s q) (sym same) ∙ r)).time_is in
                omega arith
            | inr ne ↦ elim (cases_eq e u) [
              | inl same ↦
                  let v = struck_time ((line_times q).bsy + BUS_SETTLE_DELAY + w.0) (flip_at s q w.0) answer_lines y
                  (sym (answers_due s q m c u t0 t1 t w.0 devices h.called_below (ap (latency_of s) (sym same) ∙ w.1)
                  goes.connection_is h.apart here (rest u h.called_below (λ z. h.apart (sym z))))
                  ∙ ap (unreset_due s q) (sym same) ∙ r) in
                  omega arith
              | inr nk ↦
                  let v = sym (aside_due s q false m c u t0 t1 t e w.0 devices lt w.1 goes.connection_is
                  (λ z. ne (sym z)) (λ z. nk (sym z)) here (rest e lt ne)) ∙ r in
                  absurd cc
            ]
          ];
      here = awaiting_answer false m c u t0 t1 t a (record {
        here = record {
          stands = stands;
          caller_below = h.caller_below;
          called_below = h.called_below;
          apart = h.apart;
          caller = own;
          other = rest u h.called_below (λ z. h.apart (sym z));
          rest = λ e lt n1 n2. rest e lt n1;
          link = books.wishes.link;
        };
        bsy_age = age;
        sel_age = let w = always.past (λ z. z.sel) in since_line_le (λ z. z.sel) (row_of_lines t c l) p (omega arith);
        id_age = let w = always.seen_past (line_of u) in since_le (line_of u) (row_of_lines t c l) p (omega arith);
        shows = shows_called c u h.caller_below h.called_below h.apart;
        some = ids_not_zero c u;
      });
    }

pub from_calls : (s : ScenarioValue) (p : List Row) (m : Bool) (c l t0 t1 : ℕ) (row : Row) → CalmStanding s p
    → own_time p c ≡ t1 → Calls s p (begun_call m c l t0 t1) c l (both_ids m c l) none (both_ids m c l)
    → IsLeast (unreset_due s p) 8 row → NextCalmRow s p row
from_calls s p m c l t0 t1 row always at_t1 h least =
    let x : Due = record { time = row.time; kind = row.kind } in
    let w = is_there s p row.dev x least.is_due in
    let was : stage p ≡ InCalling (begun_call m c l t0 t1) = stage_is p _ _ _ _ h.stands in
    elim (cases_eq row.dev c) [
      | inl same ↦
          let z = is_at (own_time p c + 90 + w.0) (calling_lines m false (2 ^ c + 2 ^ l + 256)) x
          (sym (asks_due s p m c l t0 t1 w.0 (both_ids m c l) always.devices h.caller_below
          (ap (latency_of s) (sym same) ∙ w.1) h.stands.connection_is was h.caller)
          ∙ ap (unreset_due s p) (sym same) ∙ least.is_due) in
          let e : row ≡ row_of_lines row.time c (calling_lines m false (2 ^ c + 2 ^ l + 256)) =
          λ i. record { time = row.time; dev = same i; kind = z.kind_is i } in
          let wait : t1 + 90 ≤ row.time = let v = z.time_is in omega arith in
          subst (λ (r : Row). NextCalmRow s p r) (sym e) (makes_asking s p m c l t0 t1 row.time always h
          (subst (λ (r : Row). IsLeast (unreset_due s p) 8 r) e least) wait)
      | inr ne ↦
          let v = sym (before_due s p m c l t0 t1 row.dev w.0 always.devices least.inside w.1 h.stands.connection_is
          (λ z. ne (sym z)) was (only_caller s p _ c l _ _ h row.dev least.inside ne)) ∙ least.is_due in
          absurd cc
    ]

met_is : (m : Bool) (x : ℕ) → union (calling_lines m false x) answer_lines ≡ calling_lines m true x
met_is true x = λ i. record (calling_lines true true x) { data_bits = or_zero_r x i }
met_is false x = λ i. record (calling_lines false true x) { data_bits = or_zero_r x i }

resumes_at : (m : Bool) (w : Want) (c i t1 t2 t3 lat since : ℕ) (own : LineSet) (x : Due)
    → answered_due (device_with c lat own since) w (answered_calling m i t1 t2 t3) t3 ≡ Some x → t3 ≤ x.time
resumes_at true w c i t1 t2 t3 lat since own x e =
    let v = (is_at (t3 + 90 + lat) (record none { atn = true }) x e).time_is in
    omega arith
resumes_at false w c i t1 t2 t3 lat since own x e =
    let v = (is_at (t3 + lat) (record own { bsy = true }) x e).time_is in
    omega arith

makes_answer : (s : ScenarioValue) (p : List Row) (m : Bool) (c u t0 t1 t2 v t : ℕ) → CalmStanding s p
    → AwaitsAnswer s p false m c u t0 t1 t2 v → IsLeast (unreset_due s p) 8 (row_of_lines t u answer_lines)
    → t2 + BUS_SETTLE_DELAY ≤ t → NextCalmRow s p (row_of_lines t u answer_lines)
makes_answer s p m c u t0 t1 t2 v t always a least wait =
    let h = a.here in
    let b : LineSet = calling_lines m false v in
    let b' : LineSet = calling_lines m true v in
    let l : LineSet = answer_lines in
    let q : List Row = row_of_lines t u l ∷ p in
    let x : Due = record { time = t; kind = Drives l } in
    let order = always.ahead u least.inside x least.is_due in
    let own : drives q u ≡ l = drives_own p t u l in
    let holds : drives q c ≡ b = drives_other p t u l c h.apart ∙ h.caller in
    let devices : AreOfDevices q = (least.inside, always.devices) in
    let quiet = only_caller s p _ c u _ _ h in
    let rest : (e : ℕ) → e < 8 → e ≢ c → e ≢ u → drives q e ≡ none = λ e lt n1 n2. drives_other p t u l e n2
    ∙ h.rest e lt n1 n2 in
    let after : bus q ≡ b' = bus_two q c u h.apart h.caller_below h.called_below rest
    ∙ (λ i. union (holds i) (own i)) ∙ met_is m v in
    let goes = stands_after p t u l l b b' none None
    (Some (awaiting_call false m c u t0 t1 t2)) None h.stands refl after h.other in
    let ne : u ≢ c = λ z. h.apart (sym z) in
    let g : Calling = record (new_calling_at m u t1) { released = Some t2 } in
    let calling : call q ≡ Some (call_with c t0 (answered_calling m u t1 t2 t)) = goes.call_is
    ∙ (λ i. Some (record (awaiting_call false m c u t0 t1 t2) {
      calling =
          if ne_eqb u c ne i then Some (record g { resumed = Some t; withdrawn = None })
          else if eq_self u i then Some (answered_calling m u t1 t2 t) else Some g;
    })) in
    let stands : Stands q b' None (Some (call_with c t0 (answered_calling m u t1 t2 t))) None = record {
      bus_is = after;
      arbitration_is = goes.arbitration_is;
      call_is = calling;
      connection_is = goes.connection_is;
    } in
    let here : stage q ≡ InAnswer (call_with c t0 (answered_calling m u t1 t2 t)) (answered_calling m u t1 t2 t) t =
    stage_is q _ _ _ _ stands in
    let books = still_row_keeps s p t u l l b b' none None (Some (awaiting_call false m c u t0 t1 t2))
    always.devices least.inside h.stands h.link refl after h.other refl refl refl refl in
    record {
      order = order;
      calm = ap (λ (y : LineSet). y.rst) after;
      obeys = obeys_apart p t u l b b' none l None (Some (awaiting_call false m c u t0 t1 t2)) false h.stands refl after
          h.other (quiet_others (drives p) c quiet) (answer_obeys p m c u v t0 t1 t2 t h.apart order wait a.sel_age
          a.id_age (let w = a.bsy_age in omega arith) a.shows);
      ahead = λ alone e lt y r.
          let w = is_there s q e y r in
          elim (cases_eq e c) [
            | inl same ↦ resumes_at m (want_at s q c) c u t1 t2 t w.0 (own_time q c) b y
                (sym (goes_on_due s q (answered_calling m u t1 t2 t) c t0 t w.0 b devices h.caller_below
                (ap (latency_of s) (sym same) ∙ w.1) goes.connection_is here holds)
                ∙ ap (unreset_due s q) (sym same) ∙ r)
            | inr nc ↦ elim (cases_eq e u) [
              | inl same ↦ absurd (none-some y (sym (waiting_due s q (answered_calling m u t1 t2 t) c t0 t w.0 l
                  devices h.called_below (ap (latency_of s) (sym same) ∙ w.1) goes.connection_is h.apart here own)
                  ∙ ap (unreset_due s q) (sym same) ∙ r))
              | inr nk ↦ absurd (none-some y (sym (apart_due s q (answered_calling m u t1 t2 t) c t0 t e w.0 devices lt
                  w.1 goes.connection_is (λ z. nc (sym z)) (λ z. nk (sym z)) here (rest e lt nc nk)) ∙ r))
            ]
          ];
      here = after_answer m c u t0 t1 t2 t v (record {
        here = record {
          stands = stands;
          caller_below = h.caller_below;
          called_below = h.called_below;
          apart = h.apart;
          caller = holds;
          other = own;
          rest = rest;
          link = books.wishes.link;
        };
        some = a.some;
      });
    }

-- ---- the caller waits for the answer

pub answer_exists : (w : ℕ) (flip : Option ℕ) (l : LineSet)
    → (x : Due) × ((fault_or w flip (due_at w l) ≡ Some x) × (x.time ≡ w))
answer_exists w None l = (record { time = w; kind = Drives l }, (refl, refl))
answer_exists w (Some bit) l = (record { time = w; kind = Fault bit }, (refl, refl))

fault_is : (w : ℕ) (flip : Option ℕ) (l : LineSet) (x : Due) → fault_or w flip (due_at w l) ≡ Some x
    → (x.kind ≡ Drives l) ⊎ ((bit : ℕ) × (x.kind ≡ Fault bit))
fault_is w None l x e = inl (is_at w l x e).kind_is
fault_is w (Some bit) l x e =
    let same : (let y : Due = record { time = w; kind = Fault bit } in y) ≡ x = cc in
    inr (bit, sym (ap (λ (y : Due). y.kind) same))

-- a fault strikes the IDs
makes_fault : (s : ScenarioValue) (p : List Row) (m : Bool) (c l t0 t1 t2 u t bit : ℕ) → CalmStanding s p
    → AwaitsAnswer s p false m c l t0 t1 t2 u → IsLeast (unreset_due s p) 8 (row_of_fault t l bit)
    → t2 + BUS_SETTLE_DELAY ≤ t → t ≤ t2 + 500 → NextCalmRow s p (row_of_fault t l bit)
makes_fault s p m c l t0 t1 t2 u t bit always a least wait soon =
    let h = a.here in
    let b : LineSet = calling_lines m false u in
    let row : Row = row_of_fault t l bit in
    let q : List Row = row ∷ p in
    let x : Due = record { time = t; kind = Fault bit } in
    let order = always.ahead l least.inside x least.is_due in
    let devices : AreOfDevices q = (least.inside, always.devices) in
    let g : Change = change_to b b none none in
    let e : change_of p row ≡ g = fault_change p t l bit b none h.stands.bus_is h.other in
    let same_lines : (e : ℕ) → drives q e ≡ drives p e = λ e. drives-fault row p bit e refl in
    let goes = stands_by p row g b None (Some (awaiting_call false m c l t0 t1 t2)) None h.stands e in
    let ne : l ≢ c = λ z. h.apart (sym z) in
    let f : Calling = record (new_calling_at m l t1) { released = Some t2 } in
    let calling : call q ≡ Some (awaiting_call true m c l t0 t1 t2) = goes.call_is
    ∙ (λ i. Some (record (awaiting_call false m c l t0 t1 t2) {
      calling =
          if ne_eqb l c ne i then Some f else if eq_self l i then Some (record f { struck = true }) else Some f;
    })) in
    let stands : Stands q b None (Some (awaiting_call true m c l t0 t1 t2)) None = record {
      bus_is = goes.bus_is;
      arbitration_is = goes.arbitration_is;
      call_is = calling;
      connection_is = goes.connection_is;
    } in
    let here : stage q ≡ InCalling (awaiting_call true m c l t0 t1 t2) = stage_is q _ _ _ _ stands in
    let books = still_keeps s p row g b None (Some (awaiting_call false m c l t0 t1 t2)) (record {
      devices = always.devices;
      below = least.inside;
      stands = h.stands;
      link = h.link;
      change = e;
      calm = refl;
      alone = refl;
    }) refl refl in
    let quiet = only_caller s p _ c l _ _ h in
    record {
      order = order;
      calm = ap (λ (y : LineSet). y.rst) goes.bus_is;
      obeys = obeys_by p row g b None (Some (awaiting_call false m c l t0 t1 t2)) false h.stands e
          (quiet_others (drives p) c quiet)
          (struck_obeys p m c l u bit t0 t1 t2 t h.apart order (let w = a.bsy_age in omega arith) a.shows);
      ahead = λ alone e lt y r.
          let w = is_there s q e y r in
          elim (cases_eq e c) [
            | inl same ↦
                let v = (is_at (t2 + 250000000 + w.0) (record b { data_bits = 0 }) y
                (sym (waits_due s q true m c l t0 t1 t2 w.0 b devices h.caller_below
                (ap (latency_of s) (sym same) ∙ w.1) goes.connection_is here (same_lines c ∙ h.caller))
                ∙ ap (unreset_due s q) (sym same) ∙ r)).time_is in
                omega arith
            | inr nc ↦ elim (cases_eq e l) [
              | inl same ↦ absurd (none-some y
                  (sym (struck_due s q m c l t0 t1 t2 w.0 devices h.called_below (ap (latency_of s) (sym same) ∙ w.1)
                  goes.connection_is h.apart here (same_lines l ∙ h.other)) ∙ ap (unreset_due s q) (sym same) ∙ r))
              | inr nk ↦ absurd (none-some y (sym (aside_due s q true m c l t0 t1 t2 e w.0 devices lt w.1
                  goes.connection_is (λ z. nc (sym z)) (λ z. nk (sym z)) here (same_lines e ∙ h.rest e lt nc nk)) ∙ r))
            ]
          ];
      here = awaiting_answer true m c l t0 t1 t2 u (record {
        here = record {
          stands = stands;
          caller_below = h.caller_below;
          called_below = h.called_below;
          apart = h.apart;
          caller = same_lines c ∙ h.caller;
          other = same_lines l ∙ h.other;
          rest = λ e lt n1 n2. same_lines e ∙ h.rest e lt n1 n2;
          link = books.wishes.link;
        };
        bsy_age = since_is (λ z. z.bsy) p row b b h.stands.bus_is goes.bus_is ∙ a.bsy_age;
        sel_age =
            let w = since_is (λ z. z.sel) p row b b h.stands.bus_is goes.bus_is in
            let v = a.sel_age in
            omega arith;
        id_age = let w = since_same (line_of l) p row b h.stands.bus_is goes.bus_is in let v = a.id_age in omega arith;
        shows = a.shows;
        some = a.some;
      });
    }

-- no answer has come: the caller withdraws
makes_withdrawal : (s : ScenarioValue) (p : List Row) (v m : Bool) (c d t0 t1 t2 f t : ℕ) → CalmStanding s p
    → AwaitsAnswer s p v m c d t0 t1 t2 f → IsLeast (unreset_due s p) 8 (row_of_lines t c (calling_lines m false 0))
    → t2 + 250000000 ≤ t → NextCalmRow s p (row_of_lines t c (calling_lines m false 0))
makes_withdrawal s p v m c d t0 t1 t2 f t always a least wait =
    let h = a.here in
    let b : LineSet = calling_lines m false f in
    let l : LineSet = calling_lines m false 0 in
    let q : List Row = row_of_lines t c l ∷ p in
    let x : Due = record { time = t; kind = Drives l } in
    let order = always.ahead c least.inside x least.is_due in
    let own : drives q c ≡ l = drives_own p t c l in
    let devices : AreOfDevices q = (least.inside, always.devices) in
    let quiet = only_caller s p _ c d _ _ h in
    let rest : (e : ℕ) → e < 8 → e ≢ c → drives q e ≡ none = λ e lt ne. drives_other p t c l e ne ∙ quiet e lt ne in
    let after : bus q ≡ l = bus_one q c h.caller_below rest ∙ own in
    let goes = stands_after p t c l l b l b None
    (Some (awaiting_call v m c d t0 t1 t2)) None h.stands refl after h.caller in
    let calling : call q ≡ Some (withdrawn_call v m c d t0 t1 t2 t) = goes.call_is
    ∙ (λ i. Some (record (awaiting_call v m c d t0 t1 t2) {
      calling =
          if eq_self c i then Some (record (new_calling_at m d t1) {
            released = Some t2;
            withdrawn = when (not (a.some i) && true) t None;
            struck = v;
          })
          else if c == d then Some (record (new_calling_at m d t1) { released = Some t2; struck = v || false })
          else Some (record (new_calling_at m d t1) { released = Some t2; struck = v });
    })) in
    let stands : Stands q l None (Some (withdrawn_call v m c d t0 t1 t2 t)) None = record {
      bus_is = after;
      arbitration_is = goes.arbitration_is;
      call_is = calling;
      connection_is = goes.connection_is;
    } in
    let here : stage q ≡ InCalling (withdrawn_call v m c d t0 t1 t2 t) = stage_is q _ _ _ _ stands in
    let books = still_row_keeps s p t c l l b l b None (Some (awaiting_call v m c d t0 t1 t2))
    always.devices least.inside h.stands h.link refl after h.caller refl refl refl refl in
    record {
      order = order;
      calm = ap (λ (y : LineSet). y.rst) after;
      obeys = obeys_apart p t c l b l b l None
          (Some (awaiting_call v m c d t0 t1 t2)) false h.stands refl after h.caller (quiet_others (drives p) c quiet)
          (withdrawal_obeys p v m c d f t0 t1 t2 t h.apart a.some order wait);
      ahead = λ alone e lt y r.
          let w = is_there s q e y r in
          elim (cases_eq e c) [
            | inl same ↦
                let z = (is_at (own_time q c + 200090 + w.0) none y (sym (gives_up_due s q v m c d t0 t1 t2 t
                w.0 l devices h.caller_below (ap (latency_of s) (sym same) ∙ w.1) goes.connection_is here own)
                ∙ ap (unreset_due s q) (sym same) ∙ r)).time_is in
                let u = own_time_own p t c l in
                omega arith
            | inr ne ↦ absurd (none-some y (sym (after_withdrawal_due s q v m c d t0 t1 t2 t e w.0 devices lt w.1
                goes.connection_is (λ z. ne (sym z)) here (rest e lt ne)) ∙ r))
          ];
      here = after_withdrawal v m c d t0 t1 t2 t (own_time_own p t c l) (record {
        stands = stands;
        caller_below = h.caller_below;
        called_below = h.called_below;
        apart = h.apart;
        caller = own;
        other = rest d h.called_below (λ z. h.apart (sym z));
        rest = λ e lt n1 n2. rest e lt n1;
        link = books.wishes.link;
      });
    }

pub from_asking : (s : ScenarioValue) (p : List Row) (v m : Bool) (c l t0 t1 t2 g : ℕ) (row : Row) → HasShortLatencies s
    → CalmStanding s p → AwaitsAnswer s p v m c l t0 t1 t2 g → IsLeast (unreset_due s p) 8 row → NextCalmRow s p row
from_asking s p v m c l t0 t1 t2 g row fits always a least =
    let h = a.here in
    let x : Due = record { time = row.time; kind = row.kind } in
    let w = is_there s p row.dev x least.is_due in
    let was : stage p ≡ InCalling (awaiting_call v m c l t0 t1 t2) = stage_is p _ _ _ _ h.stands in
    elim (cases_eq row.dev c) [
      | inl same ↦
          let z = is_at (t2 + 250000000 + w.0) (record (calling_lines m false g) { data_bits = 0 }) x
          (sym (waits_due s p v m c l t0 t1 t2 w.0 (calling_lines m false g) always.devices h.caller_below
          (ap (latency_of s) (sym same) ∙ w.1) h.stands.connection_is was h.caller)
          ∙ ap (unreset_due s p) (sym same) ∙ least.is_due) in
          let e : row ≡ row_of_lines row.time c (calling_lines m false 0) =
          λ i. record { time = row.time; dev = same i; kind = z.kind_is i } in
          let u : t2 + 250000000 ≤ row.time = let u = z.time_is in omega arith in
          subst (λ (r : Row). NextCalmRow s p r) (sym e) (makes_withdrawal s p v m c l t0 t1 t2 g row.time always a
          (subst (λ (r : Row). IsLeast (unreset_due s p) 8 r) e least) u)
      | inr nc ↦ elim (cases_eq row.dev l) [
        | inl same ↦ called_acts v a was same
        | inr nk ↦ absurd (none-some x
            (sym (aside_due s p v m c l t0 t1 t2 row.dev w.0 always.devices least.inside w.1 h.stands.connection_is
            (λ z. nc (sym z)) (λ z. nk (sym z)) was (h.rest row.dev least.inside nc nk)) ∙ least.is_due))
      ]
    ]
  where
    called_acts : (v : Bool) → AwaitsAnswer s p v m c l t0 t1 t2 g
        → stage p ≡ InCalling (awaiting_call v m c l t0 t1 t2) → row.dev ≡ l → NextCalmRow s p row
    called_acts true a was same =
        let h = a.here in
        let x : Due = record { time = row.time; kind = row.kind } in
        let w = is_there s p row.dev x least.is_due in
        absurd (none-some x
        (sym (struck_due s p m c l t0 t1 t2 w.0 always.devices h.called_below (ap (latency_of s) (sym same) ∙ w.1)
        h.stands.connection_is h.apart was h.other) ∙ ap (unreset_due s p) (sym same) ∙ least.is_due))
    called_acts false a was same =
        let h = a.here in
        let x : Due = record { time = row.time; kind = row.kind } in
        let w = is_there s p row.dev x least.is_due in
        let f : fault_or ((line_times p).bsy + BUS_SETTLE_DELAY + w.0) (flip_at s p w.0)
        (due_at ((line_times p).bsy + BUS_SETTLE_DELAY + w.0) answer_lines) ≡ Some x =
        sym (answers_due s p m c l t0 t1 t2 w.0 always.devices h.called_below (ap (latency_of s) (sym same) ∙ w.1)
        h.stands.connection_is h.apart was h.other) ∙ ap (unreset_due s p) (sym same) ∙ least.is_due in
        let at_answer = struck_time ((line_times p).bsy + BUS_SETTLE_DELAY + w.0) (flip_at s p w.0) answer_lines x f in
        let wait : t2 + BUS_SETTLE_DELAY ≤ row.time = let y = a.bsy_age in omega arith in
        let soon : row.time ≤ t2 + 500 = let y = a.bsy_age in let z = fits.latency row.dev w.0 w.1 in omega arith in
        elim (fault_is ((line_times p).bsy + BUS_SETTLE_DELAY + w.0) (flip_at s p w.0) answer_lines x f) [
          | inl d ↦
              let e : row ≡ row_of_lines row.time l answer_lines = λ i. record {
                time = row.time;
                dev = same i;
                kind = d i;
              } in
              subst (λ (r : Row). NextCalmRow s p r) (sym e) (makes_answer s p m c l t0 t1 t2 g row.time always a
              (subst (λ (r : Row). IsLeast (unreset_due s p) 8 r) e least) wait)
          | inr b ↦
              let e : row ≡ row_of_fault row.time l b.0 = λ i. record { time = row.time; dev = same i; kind = b.1 i } in
              subst (λ (r : Row). NextCalmRow s p r) (sym e) (makes_fault s p m c l t0 t1 t2 g row.time b.0 always a
              (subst (λ (r : Row). IsLeast (unreset_due s p) 8 r) e least) wait soon)
        ]
