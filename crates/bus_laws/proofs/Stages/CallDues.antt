-- What is due from the rise of SEL to its fall.
use Rattle.bus_laws.proofs
use proofs.Names.{ℕ, ◌≡◌, ◌≢◌, ◌<◌, ◌+◌, Bool, true, false, not, ◌∙◌, List, Option, Some, None, refl, sym, ap, arith}
use proofs.Names.{◌&&◌, ne_eqb, nat_tests, ◌==◌, if◌then◌else◌, nat_lt, eq_self, LineSet, none, same_set, ids_set}
use proofs.Names.{connection, drives, since_line, line_times, Drives, Row, BUS_SETTLE_DELAY, QUIET_TIME, Call, Calling}
use proofs.Names.{stage, InCalling, InAnswer, ScenarioValue, is_initiator, latency_of, aim_of, answer, answered_due}
use proofs.Names.{loser_release, calling_start, caller_due, called_due, with_calling_mark, contender_lines, due_at}
use proofs.Names.{fault_or, Due, Want, AreOfDevices, run_state, want_of, flip_of, callee, answer_lines, awaiting_call}
use proofs.Names.{begun_call, call_with, both_ids, won_call, withdrawn_call, own_time, device_with, unreset_due}
use proofs.Stages.Dues.{due_in, is_at, where_is}

-- What a device wants, and the fault that would strike it where it samples the IDs.
abbrev pub want_at : ScenarioValue → List Row → ℕ → Want
want_at s p e = want_of s (run_state s p) e

abbrev pub flip_at : ScenarioValue → List Row → ℕ → Option ℕ
flip_at s p lat = flip_of (run_state s p).faults ((line_times p).bsy + BUS_SETTLE_DELAY + lat)

-- the caller, by its calling; and another
pub as_caller : (s : ScenarioValue) (p : List Row) (c lat : ℕ) (own : LineSet) (y : Call) → AreOfDevices p → c < 8
    → latency_of s c ≡ Some lat → connection p ≡ None → y.caller ≡ c → stage p ≡ InCalling y → drives p c ≡ own
    → unreset_due s p c ≡ caller_due (device_with c lat own (own_time p c)) (want_at s p c) y.calling
as_caller s p c lat own y h lt there alone ek eg eo = due_in s p c lat own (InCalling y) h lt there alone eg eo
    ∙ ap (λ (q : Bool). if q then caller_due (device_with c lat own (own_time p c)) (want_at s p c) y.calling else
    called_due (line_times p).bsy (line_times p).sel (device_with c lat own (own_time p c)) (flip_at s p lat) y.calling)
    (ap (λ (x : ℕ). x == c) ek ∙ eq_self c)

pub as_other : (s : ScenarioValue) (p : List Row) (e lat : ℕ) (own : LineSet) (c : Call) → AreOfDevices p → e < 8
    → latency_of s e ≡ Some lat → connection p ≡ None → c.caller ≢ e → stage p ≡ InCalling c → drives p e ≡ own
    → unreset_due s p e ≡ called_due (line_times p).bsy (line_times p).sel (device_with e lat own (own_time p e))
    (flip_at s p lat) c.calling
as_other s p e lat own c h lt there alone ek eg eo = due_in s p e lat own (InCalling c) h lt there alone eg eo
    ∙ ap (λ (q : Bool). if q then caller_due (device_with e lat own (own_time p e)) (want_at s p e) c.calling else
    called_due (line_times p).bsy (line_times p).sel (device_with e lat own (own_time p e)) (flip_at s p lat) c.calling)
    (ne_eqb c.caller e ek)

asks_some : (e : ℕ) → same_set (contender_lines e) none ≡ false
asks_some e = grind (arith, nat_tests)

-- before the calling a loser releases all as SEL rises, and who drives nothing does nothing
pub loser_due : (s : ScenarioValue) (p : List Row) (e lat c t : ℕ) → AreOfDevices p → e < 8 → latency_of s e ≡ Some lat
    → connection p ≡ None → c ≢ e → stage p ≡ InCalling (won_call c t) → drives p e ≡ contender_lines e
    → unreset_due s p e ≡ due_at (since_line (λ x. x.sel) p + lat) none
loser_due s p e lat c t h lt there alone ne eg eo =
    as_other s p e lat (contender_lines e) (won_call c t) h lt there alone ne eg eo
    ∙ ap (λ (q : Bool). if q then None else due_at (since_line (λ x. x.sel) p + lat) none) (asks_some e)

pub quiet_due : (s : ScenarioValue) (p : List Row) (e lat c t : ℕ) → AreOfDevices p → e < 8 → latency_of s e ≡ Some lat
    → connection p ≡ None → c ≢ e → stage p ≡ InCalling (won_call c t) → drives p e ≡ none → unreset_due s p e ≡ None
quiet_due s p e lat c t h lt there alone ne eg eo = as_other s p e lat none (won_call c t) h lt there alone ne eg eo

pub calls_due : (s : ScenarioValue) (p : List Row) (c lat t : ℕ) (own : LineSet) → AreOfDevices p → c < 8
    → latency_of s c ≡ Some lat → connection p ≡ None → stage p ≡ InCalling (won_call c t) → drives p c ≡ own
    → unreset_due s p c ≡ calling_start (not (is_initiator s.hosts c)) (device_with c lat own (own_time p c))
    (callee s (run_state s p) c (aim_of (run_state s p).story.aims c))
calls_due s p c lat t own h lt there alone eg eo = as_caller s p c lat own (won_call c t) h lt there alone refl eg eo

-- what the calling is
pub record IsCalling (s : ScenarioValue) (c lat since : ℕ) (other : Option ℕ) (x : Due) : Type 0 where
  pub k : ℕ
  pub names : other ≡ Some k
  pub below : k < 8
  pub apart : c ≢ k
  pub time_is : x.time ≡ since + QUIET_TIME + lat
  pub kind_is : x.kind ≡ Drives (both_ids (is_initiator s.hosts c) c k)

marked_is : (m : Bool) (c i : ℕ)
    → with_calling_mark (not m) (record (ids_set c i) { bsy = true; sel = true }) ≡ both_ids m c i
marked_is true c i = refl
marked_is false c i = refl

calls_well : (m c : ℕ) → (nat_lt m 8 && not (m == c)) ≡ true → (m < 8) × (c ≢ m)
calls_well m c e = (grind (arith, nat_tests), λ (w : c ≡ m). other w)
  where
    other : c ≡ m → ⊥
    other w = let v : (c == m) ≡ true = ap (λ (x : ℕ). c == x) (sym w) ∙ eq_self c in grind (arith, nat_tests)

pub is_calling : (s : ScenarioValue) (c lat : ℕ) (own : LineSet) (since : ℕ) (other : Option ℕ) (x : Due)
    → calling_start (not (is_initiator s.hosts c)) (device_with c lat own since) other ≡ Some x
    → IsCalling s c lat since other x
is_calling s c lat own since None x e = absurd cc
is_calling s c lat own since (Some m) x e =
    let lines : LineSet = with_calling_mark (not (is_initiator s.hosts c))
    (record (ids_set c m) { bsy = true; sel = true }) in
    let w = where_is (nat_lt m 8 && not (m == c)) (due_at (since + QUIET_TIME + lat) lines) x e in
    let v = is_at (since + QUIET_TIME + lat) lines x w.1 in
    let g = calls_well m c w.0 in
    record {
      k = m;
      names = refl;
      below = g.0;
      apart = g.1;
      time_is = v.time_is;
      kind_is = v.kind_is ∙ ap (λ (y : LineSet). Drives y) (marked_is (is_initiator s.hosts c) c m);
    }

-- ---- once both IDs stand

-- the caller releases BSY; no other device does anything before that
pub asks_due : (s : ScenarioValue) (p : List Row) (m : Bool) (c i t0 t lat : ℕ) (own : LineSet) → AreOfDevices p → c < 8
    → latency_of s c ≡ Some lat → connection p ≡ None → stage p ≡ InCalling (begun_call m c i t0 t) → drives p c ≡ own
    → unreset_due s p c ≡ due_at (own_time p c + 90 + lat) (record own { bsy = false })
asks_due s p m c i t0 t lat own h lt there alone eg eo =
    as_caller s p c lat own (begun_call m c i t0 t) h lt there alone refl eg eo

pub before_due : (s : ScenarioValue) (p : List Row) (m : Bool) (c i t0 t e lat : ℕ) → AreOfDevices p → e < 8
    → latency_of s e ≡ Some lat → connection p ≡ None → c ≢ e → stage p ≡ InCalling (begun_call m c i t0 t)
    → drives p e ≡ none → unreset_due s p e ≡ None
before_due s p m c i t0 t e lat h lt there alone ne eg eo =
    as_other s p e lat none (begun_call m c i t0 t) h lt there alone ne eg eo ∙ go (i == e)
  where
    go : (q : Bool) → (let o : Option Due = None in if not q then o else o) ≡ None
    go true = refl
    go false = refl

-- the caller waits, and withdraws in the end
pub waits_due : (s : ScenarioValue) (p : List Row) (v m : Bool) (c i t0 t1 t2 lat : ℕ) (own : LineSet) → AreOfDevices p
    → c < 8 → latency_of s c ≡ Some lat → connection p ≡ None → stage p ≡ InCalling (awaiting_call v m c i t0 t1 t2)
    → drives p c ≡ own → unreset_due s p c ≡ due_at (t2 + 250000000 + lat) (record own { data_bits = 0 })
waits_due s p v m c i t0 t1 t2 lat own h lt there alone eg eo =
    as_caller s p c lat own (awaiting_call v m c i t0 t1 t2) h lt there alone refl eg eo

-- the called device answers, or a fault strikes the IDs
pub answers_due : (s : ScenarioValue) (p : List Row) (m : Bool) (c i t0 t1 t2 lat : ℕ)
    → AreOfDevices p → i < 8 → latency_of s i ≡ Some lat → connection p ≡ None → c ≢ i
    → stage p ≡ InCalling (awaiting_call false m c i t0 t1 t2) → drives p i ≡ none
    → unreset_due s p i ≡ fault_or ((line_times p).bsy + BUS_SETTLE_DELAY + lat) (flip_at s p lat)
    (due_at ((line_times p).bsy + BUS_SETTLE_DELAY + lat) answer_lines)
answers_due s p m c i t0 t1 t2 lat h lt there alone ne eg eo =
    as_other s p i lat none (awaiting_call false m c i t0 t1 t2) h lt there alone ne eg eo
    ∙ ap (λ (q : Bool). if not q then None
    else answer (line_times p).bsy (device_with i lat none (own_time p i)) (flip_at s p lat)) (eq_self i)

-- one that a fault has struck does not answer
pub struck_due : (s : ScenarioValue) (p : List Row) (m : Bool) (c i t0 t1 t2 lat : ℕ) → AreOfDevices p → i < 8
    → latency_of s i ≡ Some lat → connection p ≡ None → c ≢ i → stage p ≡ InCalling (awaiting_call true m c i t0 t1 t2)
    → drives p i ≡ none → unreset_due s p i ≡ None
struck_due s p m c i t0 t1 t2 lat h lt there alone ne eg eo =
    as_other s p i lat none (awaiting_call true m c i t0 t1 t2) h lt there alone ne eg eo
    ∙ ap (λ (q : Bool). let o : Option Due = None in if not q then o else o) (eq_self i)

pub aside_due : (s : ScenarioValue) (p : List Row) (v m : Bool) (c i t0 t1 t2 e lat : ℕ)
    → AreOfDevices p → e < 8 → latency_of s e ≡ Some lat → connection p ≡ None → c ≢ e → i ≢ e
    → stage p ≡ InCalling (awaiting_call v m c i t0 t1 t2) → drives p e ≡ none → unreset_due s p e ≡ None
aside_due s p v m c i t0 t1 t2 e lat h lt there alone ne nk eg eo =
    as_other s p e lat none (awaiting_call v m c i t0 t1 t2) h lt there alone ne eg eo
    ∙ ap (λ (q : Bool). if not q then None
    else if not v then answer (line_times p).bsy (device_with e lat none (own_time p e)) (flip_at s p lat) else None)
    (ne_eqb i e nk)

-- the caller has withdrawn: it releases all in the end, and no other device does anything
pub gives_up_due : (s : ScenarioValue) (p : List Row) (v m : Bool) (c i t0 t1 t2 t3 lat : ℕ) (own : LineSet)
    → AreOfDevices p → c < 8 → latency_of s c ≡ Some lat → connection p ≡ None
    → stage p ≡ InCalling (withdrawn_call v m c i t0 t1 t2 t3) → drives p c ≡ own
    → unreset_due s p c ≡ due_at (own_time p c + 200090 + lat) none
gives_up_due s p v m c i t0 t1 t2 t3 lat own h lt there alone eg eo =
    as_caller s p c lat own (withdrawn_call v m c i t0 t1 t2 t3) h lt there alone refl eg eo

pub after_withdrawal_due : (s : ScenarioValue) (p : List Row) (v m : Bool) (c i t0 t1 t2 t3 e lat : ℕ)
    → AreOfDevices p → e < 8 → latency_of s e ≡ Some lat → connection p ≡ None → c ≢ e
    → stage p ≡ InCalling (withdrawn_call v m c i t0 t1 t2 t3) → drives p e ≡ none → unreset_due s p e ≡ None
after_withdrawal_due s p v m c i t0 t1 t2 t3 e lat h lt there alone ne eg eo =
    as_other s p e lat none (withdrawn_call v m c i t0 t1 t2 t3) h lt there alone ne eg eo ∙ go (i == e)
  where
    go : (q : Bool) → (let o : Option Due = None in if not q then o else o) ≡ None
    go true = refl
    go false = refl

-- once it has answered: the caller goes on, the other two wait
pub goes_on_due : (s : ScenarioValue) (p : List Row) (g : Calling) (c t0 t3 lat : ℕ) (own : LineSet) → AreOfDevices p
    → c < 8 → latency_of s c ≡ Some lat → connection p ≡ None → stage p ≡ InAnswer (call_with c t0 g) g t3
    → drives p c ≡ own → unreset_due s p c ≡ answered_due (device_with c lat own (own_time p c)) (want_at s p c) g t3
goes_on_due s p g c t0 t3 lat own h lt there alone eg eo =
    due_in s p c lat own (InAnswer (call_with c t0 g) g t3) h lt there alone eg eo
    ∙ ap (λ (q : Bool). if q then answered_due (device_with c lat own (own_time p c)) (want_at s p c) g t3
    else if g.called == c then None else loser_release (line_times p).sel (device_with c lat own (own_time p c)))
    (eq_self c)

pub waiting_due : (s : ScenarioValue) (p : List Row) (g : Calling) (c t0 t3 lat : ℕ) (own : LineSet)
    → AreOfDevices p → g.called < 8 → latency_of s g.called ≡ Some lat → connection p ≡ None → c ≢ g.called
    → stage p ≡ InAnswer (call_with c t0 g) g t3 → drives p g.called ≡ own → unreset_due s p g.called ≡ None
waiting_due s p g c t0 t3 lat own h lt there alone ne eg eo =
    due_in s p g.called lat own (InAnswer (call_with c t0 g) g t3) h lt there alone eg eo
    ∙ (λ i. if ne_eqb c g.called ne i
    then answered_due (device_with g.called lat own (own_time p g.called)) (want_at s p g.called) g t3
    else if eq_self g.called i then None
    else loser_release (line_times p).sel (device_with g.called lat own (own_time p g.called)))

pub apart_due : (s : ScenarioValue) (p : List Row) (g : Calling) (c t0 t3 e lat : ℕ)
    → AreOfDevices p → e < 8 → latency_of s e ≡ Some lat → connection p ≡ None → c ≢ e → g.called ≢ e
    → stage p ≡ InAnswer (call_with c t0 g) g t3 → drives p e ≡ none → unreset_due s p e ≡ None
apart_due s p g c t0 t3 e lat h lt there alone ne nk eg eo =
    due_in s p e lat none (InAnswer (call_with c t0 g) g t3) h lt there alone eg eo
    ∙ (λ i. if ne_eqb c e ne i then answered_due (device_with e lat none (own_time p e)) (want_at s p e) g t3
    else if ne_eqb g.called e nk i then None
    else loser_release (line_times p).sel (device_with e lat none (own_time p e)))
