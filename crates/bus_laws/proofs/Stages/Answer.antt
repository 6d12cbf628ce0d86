-- A row that ends a calling: after the answer, or without one.
use Rattle.bus_laws.proofs
use proofs.Names.{inl, inr, ℕ, ◌≡◌, ◌≢◌, ◌<◌, ◌≤◌, ◌+◌, Bool, true, false, not, ◌&&◌, ◌∙◌, List, ◌∷◌, Option, Some}
use proofs.Names.{None, refl, sym, ap, subst, arith, cases_eq, none-some, or_zero_r, ◌==◌, if◌then◌else◌, eq_self}
use proofs.Names.{bus_one, bus_two, rises, LineSet, none, union, byte_set, call, when, free_since, connected}
use proofs.Names.{receiver_of, drives, bus, since, since_line, Drives, Row, Connection, Call, Calling, handshakes}
use proofs.Names.{handshakes_after, stage, InCalling, InAnswer, OnFreeBus, pulses, pulses_after, duty, duty_after}
use proofs.Names.{duty_left, turned, turned_after, is_attention_held, others_in_call, ScenarioValue, latency_of}
use proofs.Names.{answered_due, Due, Want, begun, begun_after, IsLeast, AreOfDevices, run_state, want_time}
use proofs.Names.{answer_lines, answered_calling, calling_lines, call_with, resumed_calling, withdrawn_call}
use proofs.Names.{by_selection, by_reselection, own_time, device_with, unreset_due, Stands, row_of_lines, CalmStanding}
use proofs.Names.{IsAnswered, Calls, NextCalmRow, on_free_bus, in_connection, after_takeover}
use proofs.Lines.{Apart.{still_row_keeps, missed_row_keeps}, Obeys.{give_up_obeys, selected, selection_end_obeys}}
use proofs.Lines.{Obeys.{takeover_obeys, reselected_lines, reselection_end_obeys}, Rows.{change_is, stands_after}}
use proofs.Lines.{Rows.{stage_is, since_is, drives_own, drives_other, own_time_own}, Seen.{obeys_apart, duty_none}}
use proofs.{Lines.Seen.{pulses_none}, Stages.CallDues.{gives_up_due, after_withdrawal_due, goes_on_due, waiting_due}}
use proofs.Stages.{CallDues.{apart_due, want_at}, Calling.{only_caller}, Dues.{is_there, is_at, is_entry, free_due_is}}
use proofs.Stages.Won.{quiet_others}

none_link : (n : Connection) → (let a : Option Connection = Some n in a) ≡ None → ⊥
none_link n e = absurd cc

with_answer : (m : ℕ) → union (calling_lines false true m) answer_lines ≡ calling_lines false true m
with_answer m = λ i. record (calling_lines false true m) { data_bits = or_zero_r m i }

-- the target releases SEL with the first byte of IDENTIFY
pub record IsReselectionEnd (since lat : ℕ) (x : Due) : Type 0 where
  pub y : ℕ
  pub time_is : x.time ≡ since + 90 + lat
  pub kind_is : x.kind ≡ Drives (reselected_lines y)

ends_at : (w : Want) (c m t1 t2 t3 t4 lat since : ℕ) (own : LineSet) (x : Due)
    → answered_due (device_with c lat own since) w (resumed_calling m t1 t2 t3 t4) t3 ≡ Some x
    → IsReselectionEnd since lat x
ends_at w c m t1 t2 t3 t4 lat since own x e =
    let v = is_at (since + 90 + lat) (reselected_lines (byte_set w.first).data_bits) x e in
    record { y = (byte_set w.first).data_bits; time_is = v.time_is; kind_is = v.kind_is }

-- ---- no answer came: the caller releases all

makes_free : (s : ScenarioValue) (p : List Row) (v m : Bool) (c i t0 t1 t2 t3 t : ℕ) → CalmStanding s p
    → Calls s p (withdrawn_call v m c i t0 t1 t2 t3) c i (calling_lines m false 0) none (calling_lines m false 0)
    → IsLeast (unreset_due s p) 8 (row_of_lines t c none) → t3 + 200090 ≤ t → NextCalmRow s p (row_of_lines t c none)
makes_free s p v m c i t0 t1 t2 t3 t always h least wait =
    let b : LineSet = calling_lines m false 0 in
    let q : List Row = row_of_lines t c none ∷ p in
    let x : Due = record { time = t; kind = Drives none } in
    let order = always.ahead c least.inside x least.is_due in
    let own : drives q c ≡ none = drives_own p t c none in
    let devices : AreOfDevices q = (least.inside, always.devices) in
    let quiet = only_caller s p _ c i _ _ h in
    let others : (e : ℕ) → e < 8 → e ≢ c → drives q e ≡ none = λ e lt ne. drives_other p t c none e ne
    ∙ quiet e lt ne in
    let rest : (e : ℕ) → e < 8 → drives q e ≡ none = λ e lt. elim (cases_eq e c) [
      | inl same ↦ ap (drives q) same ∙ own
      | inr ne ↦ others e lt ne
    ] in
    let after : bus q ≡ none = bus_one q c h.caller_below others ∙ own in
    let goes = stands_after p t c none none b none b None
    (Some (withdrawn_call v m c i t0 t1 t2 t3)) None h.stands refl after h.caller in
    let link = missed_row_keeps s p t c none none b none b None (Some (withdrawn_call v m c i t0 t1 t2 t3))
    always.devices least.inside h.stands h.link refl after h.caller refl refl (no_rise m) in
    let here : stage q ≡ OnFreeBus (free_since q) = stage_is q _ _ _ _ goes in
    let sel : since_line (λ y. y.sel) q ≡ t = since_is (λ y. y.sel) p
    (row_of_lines t c none) b none h.stands.bus_is after in
    record {
      order = order;
      calm = ap (λ (y : LineSet). y.rst) after;
      obeys = obeys_apart p t c none b none b none None (Some (withdrawn_call v m c i t0 t1 t2 t3)) false h.stands refl
          after h.caller (quiet_others (drives p) c quiet) (give_up_obeys p v m c i t0 t1 t2 t3 t h.apart order wait);
      ahead = λ alone e lt y r.
          let w = is_there s q e y r in
          let z = is_entry e w.0 (own_time q e) (free_since q) none (want_time s (run_state s q) e) y
          (sym (free_due_is s q e w.0 (free_since q) devices lt w.1 goes.connection_is here (rest e lt)) ∙ r) in
          let u = z.after_free in
          omega arith;
      here = on_free_bus (record { stands = goes; quiet = rest; link = link });
    }
  where
    no_rise : (m : Bool) → (rises false false && not true) ≡ false
    no_rise m = refl

pub from_withdrawn : (s : ScenarioValue) (p : List Row) (v m : Bool) (c l t0 t1 t2 t3 : ℕ) (row : Row)
    → CalmStanding s p → own_time p c ≡ t3
    → Calls s p (withdrawn_call v m c l t0 t1 t2 t3) c l (calling_lines m false 0) none (calling_lines m false 0)
    → IsLeast (unreset_due s p) 8 row → NextCalmRow s p row
from_withdrawn s p v m c l t0 t1 t2 t3 row always at_t3 h least =
    let x : Due = record { time = row.time; kind = row.kind } in
    let w = is_there s p row.dev x least.is_due in
    let was : stage p ≡ InCalling (withdrawn_call v m c l t0 t1 t2 t3) = stage_is p _ _ _ _ h.stands in
    elim (cases_eq row.dev c) [
      | inl same ↦
          let z = is_at (own_time p c + 200090 + w.0) none x
          (sym (gives_up_due s p v m c l t0 t1 t2 t3 w.0 (calling_lines m false 0) always.devices h.caller_below
          (ap (latency_of s) (sym same) ∙ w.1) h.stands.connection_is was h.caller)
          ∙ ap (unreset_due s p) (sym same) ∙ least.is_due) in
          let e : row ≡ row_of_lines row.time c none = λ i. record {
            time = row.time;
            dev = same i;
            kind = z.kind_is i;
          } in
          let wait : t3 + 200090 ≤ row.time = let u = z.time_is in omega arith in
          subst (λ (r : Row). NextCalmRow s p r) (sym e) (makes_free s p v m c l t0 t1 t2 t3 row.time always h
          (subst (λ (r : Row). IsLeast (unreset_due s p) 8 r) e least) wait)
      | inr ne ↦
          absurd (none-some x (sym (after_withdrawal_due s p v m c l t0 t1 t2 t3 row.dev w.0 always.devices least.inside
          w.1 h.stands.connection_is (λ z. ne (sym z)) was (only_caller s p _ c l _ _ h row.dev least.inside ne))
          ∙ least.is_due))
    ]

-- ---- after the answer

-- in a selection the initiator releases SEL and the IDs, and the connection begins
makes_selection : (s : ScenarioValue) (p : List Row) (c m t0 t1 t2 t3 w t : ℕ)
    → CalmStanding s p → IsAnswered s p (answered_calling true m t1 t2 t3) c m t0 true false w
    → IsLeast (unreset_due s p) 8 (row_of_lines t c (record none { atn = true })) → t3 + 90 ≤ t
    → NextCalmRow s p (row_of_lines t c (record none { atn = true }))
makes_selection s p c m t0 t1 t2 t3 w t always a least wait =
    let h = a.here in
    let b : LineSet = calling_lines true true w in
    let l : LineSet = record none { atn = true } in
    let q : List Row = row_of_lines t c l ∷ p in
    let x : Due = record { time = t; kind = Drives l } in
    let order = always.ahead c least.inside x least.is_due in
    let own : drives q c ≡ l = drives_own p t c l in
    let holds : drives q m ≡ answer_lines = drives_other p t c l m (λ z. h.apart (sym z)) ∙ h.other in
    let rest : (e : ℕ) → e < 8 → e ≢ c → e ≢ m → drives q e ≡ none = λ e lt n1 n2. drives_other p t c l e n1
    ∙ h.rest e lt n1 n2 in
    let after : bus q ≡ selected = bus_two q c m h.apart h.caller_below h.called_below rest
    ∙ (λ i. union (own i) (holds i)) in
    let call : Call = call_with c t0 (answered_calling true m t1 t2 t3) in
    let goes = stands_after p t c l l b selected (calling_lines true false w) None
    (Some call) None h.stands refl after h.caller in
    let ec = change_is p t c l l b selected (calling_lines true false w) refl h.stands.bus_is after h.caller in
    record {
      order = order;
      calm = ap (λ (y : LineSet). y.rst) after;
      obeys = obeys_apart p t c l b selected (calling_lines true false w) l None (Some call)
          (others_in_call (drives p) (Some call)) h.stands refl after h.caller refl
          (selection_end_obeys p c m w t0 t1 t2 t3 t (others_in_call (drives p) (Some call)) h.apart order wait);
      ahead = λ alone e lt y r. absurd (none_link _ (sym goes.connection_is ∙ alone));
      here = in_connection (connected c (answered_calling true m t1 t2 t3) t) goes.connection_is
          (ap (λ (y : LineSet). y.rst) after) (by_selection (record {
            linked = record {
              stands = goes;
              initiator_below = h.caller_below;
              target_below = h.called_below;
              apart = h.apart;
              initiator = own;
              target = holds;
              rest = rest;
            };
            begun_is = λ i. begun_after (begun p) (h.stands.connection_is i) (goes.connection_is i) (ec i);
            pulses_are =
                (λ i. pulses_after (pulses p) (goes.connection_is i) (ec i) t) ∙ pulses_none p h.stands.connection_is;
            duty_is = (λ i. duty_after (duty p) (goes.connection_is i) (ec i)
                (is_attention_held (ec i) (since_line (λ y. y.atn) p) t))
                ∙ duty_none p h.stands.connection_is;
            turned_is = λ i. turned_after (turned p) (h.stands.connection_is i) (ec i);
            receiver_is = λ i. receiver_of (h.stands.connection_is i) (ec i);
            began = refl;
            sel_age = since_is (λ y. y.sel) p (row_of_lines t c l) b selected h.stands.bus_is after;
          }));
    }

-- in a reselection the target drives BSY again
makes_takeover : (s : ScenarioValue) (p : List Row) (c m t0 t1 t2 t3 d t : ℕ)
    → CalmStanding s p → IsAnswered s p (answered_calling false m t1 t2 t3) c m t0 false false d
    → IsLeast (unreset_due s p) 8 (row_of_lines t c (calling_lines false true d))
    → NextCalmRow s p (row_of_lines t c (calling_lines false true d))
makes_takeover s p c m t0 t1 t2 t3 d t always a least =
    let h = a.here in
    let b : LineSet = calling_lines false true d in
    let l : LineSet = calling_lines false true d in
    let g : Calling = answered_calling false m t1 t2 t3 in
    let f : Calling = resumed_calling m t1 t2 t3 t in
    let q : List Row = row_of_lines t c l ∷ p in
    let x : Due = record { time = t; kind = Drives l } in
    let order = always.ahead c least.inside x least.is_due in
    let own : drives q c ≡ l = drives_own p t c l in
    let holds : drives q m ≡ answer_lines = drives_other p t c l m (λ z. h.apart (sym z)) ∙ h.other in
    let devices : AreOfDevices q = (least.inside, always.devices) in
    let rest : (e : ℕ) → e < 8 → e ≢ c → e ≢ m → drives q e ≡ none = λ e lt n1 n2. drives_other p t c l e n1
    ∙ h.rest e lt n1 n2 in
    let after : bus q ≡ b = bus_two q c m h.apart h.caller_below h.called_below rest
    ∙ (λ i. union (own i) (holds i)) ∙ with_answer d in
    let goes = stands_after p t c l l b b (calling_lines false false d) None
    (Some (call_with c t0 g)) None h.stands refl after h.caller in
    let calling : call q ≡ Some (call_with c t0 f) = goes.call_is ∙ (λ i. Some (record (call_with c t0 g) {
      calling =
          if eq_self c i then Some (record g { withdrawn = when (not (a.some i) && a.some i) t None; resumed = Some t })
          else if c == m then Some (record g { answered = Some t }) else Some g;
    })) in
    let stands : Stands q b None (Some (call_with c t0 f)) None = record {
      bus_is = after;
      arbitration_is = goes.arbitration_is;
      call_is = calling;
      connection_is = goes.connection_is;
    } in
    let here : stage q ≡ InAnswer (call_with c t0 f) f t3 = stage_is q _ _ _ _ stands in
    let books = still_row_keeps s p t c l l b b (calling_lines false false d) None
    (Some (call_with c t0 g)) always.devices least.inside h.stands h.link refl after h.caller refl refl refl refl in
    record {
      order = order;
      calm = ap (λ (y : LineSet). y.rst) after;
      obeys = obeys_apart p t c l b b (calling_lines false false d) l None (Some (call_with c t0 g))
          (others_in_call (drives p) (Some (call_with c t0 g))) h.stands refl after h.caller refl
          (takeover_obeys p c m d t0 t1 t2 t3 t (others_in_call (drives p) (Some (call_with c t0 g))) h.apart order);
      ahead = λ alone e lt y r.
          let w = is_there s q e y r in
          elim (cases_eq e c) [
            | inl same ↦
                let v = ends_at (want_at s q c) c m t1 t2 t3 t w.0 (own_time q c) l y
                (sym (goes_on_due s q f c t0 t3 w.0 l devices h.caller_below (ap (latency_of s) (sym same) ∙ w.1)
                goes.connection_is here own) ∙ ap (unreset_due s q) (sym same) ∙ r) in
                let u = own_time_own p t c l in
                let z = v.time_is in
                omega arith
            | inr nc ↦ elim (cases_eq e m) [
              | inl same ↦ absurd (none-some y (sym (waiting_due s q f c t0 t3 w.0 answer_lines devices h.called_below
                  (ap (latency_of s) (sym same) ∙ w.1) goes.connection_is h.apart here holds)
                  ∙ ap (unreset_due s q) (sym same) ∙ r))
              | inr nk ↦ absurd (none-some y (sym (apart_due s q f c t0 t3 e w.0 devices lt w.1 goes.connection_is
                  (λ z. nc (sym z)) (λ z. nk (sym z)) here (rest e lt nc nk)) ∙ r))
            ]
          ];
      here = after_takeover c m t0 t1 t2 t3 t d (own_time_own p t c l)
          (let w = since_is (λ y. y.io) p (row_of_lines t c l) b b h.stands.bus_is after in
          let u = always.past (λ y. y.io) in omega arith) (record {
            here = record {
              stands = stands;
              caller_below = h.caller_below;
              called_below = h.called_below;
              apart = h.apart;
              caller = own;
              other = holds;
              rest = rest;
              link = books.wishes.link;
            };
            some = a.some;
          });
    }

-- and then it releases SEL, and the connection begins
makes_reselection : (s : ScenarioValue) (p : List Row) (c m t0 t1 t2 t3 t4 u y t : ℕ) → CalmStanding s p
    → since_line (λ z. z.io) p ≤ t4 → IsAnswered s p (resumed_calling m t1 t2 t3 t4) c m t0 false true u
    → IsLeast (unreset_due s p) 8 (row_of_lines t c (reselected_lines y)) → t4 + 90 ≤ t
    → NextCalmRow s p (row_of_lines t c (reselected_lines y))
makes_reselection s p c m t0 t1 t2 t3 t4 u y t always io_age a least wait =
    let h = a.here in
    let b : LineSet = calling_lines false true u in
    let l : LineSet = reselected_lines y in
    let q : List Row = row_of_lines t c l ∷ p in
    let x : Due = record { time = t; kind = Drives l } in
    let order = always.ahead c least.inside x least.is_due in
    let own : drives q c ≡ l = drives_own p t c l in
    let holds : drives q m ≡ answer_lines = drives_other p t c l m (λ z. h.apart (sym z)) ∙ h.other in
    let rest : (e : ℕ) → e < 8 → e ≢ c → e ≢ m → drives q e ≡ none = λ e lt n1 n2. drives_other p t c l e n1
    ∙ h.rest e lt n1 n2 in
    let after : bus q ≡ l = bus_two q c m h.apart h.caller_below h.called_below rest
    ∙ (λ i. union (own i) (holds i)) ∙ (λ i. record l { data_bits = or_zero_r y i }) in
    let call : Call = call_with c t0 (resumed_calling m t1 t2 t3 t4) in
    let goes = stands_after p t c l l b l b None (Some call) None h.stands refl after h.caller in
    let ec = change_is p t c l l b l b refl h.stands.bus_is after h.caller in
    record {
      order = order;
      calm = ap (λ (y : LineSet). y.rst) after;
      obeys = obeys_apart p t c l b l b l None (Some call)
          (others_in_call (drives p) (Some call)) h.stands refl after h.caller refl
          (reselection_end_obeys p c m u y t0 t1 t2 t3 t4 t (others_in_call (drives p) (Some call)) h.apart order wait);
      ahead = λ alone e lt y r. absurd (none_link _ (sym goes.connection_is ∙ alone));
      here = in_connection (connected c (resumed_calling m t1 t2 t3 t4) t) goes.connection_is
          (ap (λ (y : LineSet). y.rst) after) (by_reselection y (record {
            linked = record {
              stands = goes;
              initiator_below = h.called_below;
              target_below = h.caller_below;
              apart = λ z. h.apart (sym z);
              initiator = holds;
              target = own;
              rest = λ e lt n1 n2. rest e lt n2 n1;
            };
            begun_is = λ i. begun_after (begun p) (h.stands.connection_is i) (goes.connection_is i) (ec i);
            pulses_are = λ i. pulses_after (pulses p) (goes.connection_is i) (ec i) t;
            handshakes_are = λ i. handshakes_after false (goes.connection_is i) (ec i) t (handshakes p);
            duty_is = (λ i. duty_after (duty p) (goes.connection_is i) (ec i)
                (is_attention_held (ec i) (since_line (λ y. y.atn) p) t))
                ∙ ap duty_left (duty_none p h.stands.connection_is);
            turned_is = λ i. turned_after (turned p) (h.stands.connection_is i) (ec i);
            receiver_is = λ i. receiver_of (h.stands.connection_is i) (ec i);
            began = refl;
            sel_age = since_is (λ y. y.sel) p (row_of_lines t c l) b l h.stands.bus_is after;
            msg_age = since_is (λ y. y.msg) p (row_of_lines t c l) b l h.stands.bus_is after;
            io_age = let w = since_is (λ y. y.io) p (row_of_lines t c l) b l h.stands.bus_is after in omega arith;
          }));
    }

-- no device but the caller acts once the called device has answered
pub only_caller_acts :
    (s : ScenarioValue) (p : List Row) (g : Calling) (c t0 t3 : ℕ) (own other b : LineSet) (row : Row)
    → CalmStanding s p → Calls s p (call_with c t0 g) c g.called own other b
    → stage p ≡ InAnswer (call_with c t0 g) g t3 → IsLeast (unreset_due s p) 8 row → row.dev ≢ c → ⊥
only_caller_acts s p g c t0 t3 own other b row always h was least nc =
    let x : Due = record { time = row.time; kind = row.kind } in
    let w = is_there s p row.dev x least.is_due in
    elim (cases_eq row.dev g.called) [
      | inl same ↦ none-some x (sym (waiting_due s p g c t0 t3 w.0 other always.devices h.called_below
          (ap (latency_of s) (sym same) ∙ w.1) h.stands.connection_is h.apart was h.other)
          ∙ ap (unreset_due s p) (sym same) ∙ least.is_due)
      | inr nk ↦
          none-some x (sym (apart_due s p g c t0 t3 row.dev w.0 always.devices least.inside w.1 h.stands.connection_is
          (λ z. nc (sym z)) (λ z. nk (sym z)) was (h.rest row.dev least.inside nc nk)) ∙ least.is_due)
    ]

pub from_answered : (s : ScenarioValue) (p : List Row) (m : Bool) (c l t0 t1 t2 t3 v : ℕ) (row : Row) → CalmStanding s p
    → IsAnswered s p (answered_calling m l t1 t2 t3) c l t0 m false v → IsLeast (unreset_due s p) 8 row
    → NextCalmRow s p row
from_answered s p m c l t0 t1 t2 t3 v row always a least =
    let h = a.here in
    let g : Calling = answered_calling m l t1 t2 t3 in
    let was : stage p ≡ InAnswer (call_with c t0 g) g t3 = stage_is p _ _ _ _ h.stands in
    elim (cases_eq row.dev c) [
      | inl same ↦
          let x : Due = record { time = row.time; kind = row.kind } in
          let w = is_there s p row.dev x least.is_due in
          let f : answered_due (device_with c w.0 (calling_lines m false v) (own_time p c)) (want_at s p c) g t3
          ≡ Some x = sym (goes_on_due s p g c t0 t3 w.0 (calling_lines m false v) always.devices h.caller_below
          (ap (latency_of s) (sym same) ∙ w.1) h.stands.connection_is was h.caller)
          ∙ ap (unreset_due s p) (sym same) ∙ least.is_due in
          acts m a w.0 x f refl refl same
      | inr nc ↦ absurd (only_caller_acts s p g c t0 t3 (calling_lines m false v) answer_lines
          (calling_lines m true v) row always h was least nc)
    ]
  where
    acts : (m : Bool) → IsAnswered s p (answered_calling m l t1 t2 t3) c l t0 m false v → (lat : ℕ) (x : Due)
        → answered_due (device_with c lat (calling_lines m false v) (own_time p c))
        (want_at s p c) (answered_calling m l t1 t2 t3) t3 ≡ Some x
        → x.time ≡ row.time → x.kind ≡ row.kind → row.dev ≡ c → NextCalmRow s p row
    acts true a lat x f et ek same =
        let z = is_at (t3 + 90 + lat) (record none { atn = true }) x f in
        let e : row ≡ row_of_lines row.time c (record none { atn = true }) =
        λ i. record { time = row.time; dev = same i; kind = (sym ek ∙ z.kind_is) i } in
        let wait : t3 + 90 ≤ row.time = let u = z.time_is in omega arith in
        subst (λ (r : Row). NextCalmRow s p r) (sym e) (makes_selection s p c l t0 t1 t2 t3 v row.time always a
        (subst (λ (r : Row). IsLeast (unreset_due s p) 8 r) e least) wait)
    acts false a lat x f et ek same =
        let z = is_at (t3 + lat) (calling_lines false true v) x f in
        let e : row ≡ row_of_lines row.time c (calling_lines false true v) =
        λ i. record { time = row.time; dev = same i; kind = (sym ek ∙ z.kind_is) i } in
        subst (λ (r : Row). NextCalmRow s p r) (sym e) (makes_takeover s p c l t0 t1 t2 t3 v row.time always a
        (subst (λ (r : Row). IsLeast (unreset_due s p) 8 r) e least))

pub from_resumed : (s : ScenarioValue) (p : List Row) (c m t0 t1 t2 t3 t4 l : ℕ) (row : Row)
    → CalmStanding s p → own_time p c ≡ t4 → since_line (λ z. z.io) p ≤ t4
    → IsAnswered s p (resumed_calling m t1 t2 t3 t4) c m t0 false true l → IsLeast (unreset_due s p) 8 row
    → NextCalmRow s p row
from_resumed s p c m t0 t1 t2 t3 t4 l row always at_t4 io_age a least =
    let h = a.here in
    let g : Calling = resumed_calling m t1 t2 t3 t4 in
    let was : stage p ≡ InAnswer (call_with c t0 g) g t3 = stage_is p _ _ _ _ h.stands in
    elim (cases_eq row.dev c) [
      | inl same ↦
          let x : Due = record { time = row.time; kind = row.kind } in
          let w = is_there s p row.dev x least.is_due in
          let z = ends_at (want_at s p c) c m t1 t2 t3 t4 w.0 (own_time p c) (calling_lines false true l) x
          (sym (goes_on_due s p g c t0 t3 w.0 (calling_lines false true l) always.devices h.caller_below
          (ap (latency_of s) (sym same) ∙ w.1) h.stands.connection_is was h.caller)
          ∙ ap (unreset_due s p) (sym same) ∙ least.is_due) in
          let e : row ≡ row_of_lines row.time c (reselected_lines z.y) = λ i. record {
            time = row.time;
            dev = same i;
            kind = z.kind_is i;
          } in
          let wait : t4 + 90 ≤ row.time = let u = z.time_is in omega arith in
          subst (λ (r : Row). NextCalmRow s p r) (sym e) (makes_reselection s p c m t0 t1 t2 t3 t4 l z.y row.time always
          io_age a (subst (λ (r : Row). IsLeast (unreset_due s p) 8 r) e least) wait)
      | inr nc ↦ absurd (only_caller_acts s p g c t0 t3 (calling_lines false true l) answer_lines
          (calling_lines false true l) row always h was least nc)
    ]
