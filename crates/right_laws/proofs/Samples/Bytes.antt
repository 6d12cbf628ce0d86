-- The byte that crossed in the last row: its receiver samples it next.
use Rattle.right_laws.proofs
use proofs.Names.{ℕ, ◌≡◌, ◌⊎◌, inl, inr, ◌≤◌, ◌<◌, Bool, true, false, ◌==◌, ◌∙◌, List, [], ◌∷◌, Option, Some, None}
use proofs.Names.{refl, sym, ap, subst, arith, nat_tests, same_Some, if◌then◌else◌, is_some, wrong', eq_self}
use proofs.Names.{none_number, change_of, call, connection, connection_after, receiver, receiver_in, receiver_of}
use proofs.Names.{is_fault, last_time, line_times, Fault, Row, Change, Connection, Call, handshakes, dialogue}
use proofs.Names.{is_of_device, ScenarioValue, latency_of, sample_due, fault_due, Due, begun, run_state_plain}
use proofs.Names.{is_receiver, IsLeast, AreOfDevices, crossed, crossed_if, run_state, flip_of, EndLines, initiator_side}
use proofs.Names.{target_side, Linked, device_with, own_time, unreset_due, CalmStanding, sight_with, pace_with}
use proofs.Names.{offering_with, answering_with, target_plain, initiator_plain, is_sampling, target_is, initiator_is}
use proofs.Names.{Mover, by_fault, by_initiator, by_target, mover_is, due_of, by_bool, is_pulsed}
use proofs.Samples.Ends.{target_lines, initiator_lines, assertion_some, late_target, late_initiator}
use proofs.Samples.{NoFaults.{IsOfLines, of_lines}, Takes.{IsNoLater, Takes, Awaits}}

-- What the two ends drive as a byte has crossed in the last row, and who received it.
pub data Crossed (p : List Row) (n : Connection) (d : ℕ) : Type 0 where
  into_initiator : (f : EndLines) → Linked p n f → begun p ≡ true → d ≡ n.initiator → f.io ≡ true → f.req ≡ true
      → (f.ack ≡ false) ⊎ (is_pulsed p f ≡ true) → (line_times p).req ≡ last_time p → Crossed p n d
  into_target : (f : EndLines) → Linked p n f → begun p ≡ true → d ≡ n.target → f.io ≡ false → f.bsy ≡ false
      → f.ack ≡ true → (f.req ≡ true) ⊎ (is_pulsed p f ≡ true) → (line_times p).ack ≡ last_time p → Crossed p n d

-- ---- who samples

by_receiver : (n : Connection) (before : Option Connection) (c : Change) (d : ℕ) (call : Option Call) (row : Row)
    → connection_after before call c row ≡ Some n → receiver_of before c ≡ Some d
    → is_receiver n (crossed_if (is_some (receiver_of before c)) c) d ≡ true
by_receiver n None c d call row e z = absurd (none_number d z)
by_receiver n (Some m) c d call row e z = go c.after.bsy e
  where
    no_connection : {A : Type 0} → (let a : Option Connection = None in a) ≡ Some n → A
    no_connection y = absurd cc

    go : (q : Bool) → (if q then Some m else None) ≡ Some n
        → is_receiver n (crossed_if (is_some (receiver_in m c)) c) d ≡ true
    go true y =
        (λ i. is_receiver n (crossed_if (is_some (z i)) c) d)
        ∙ ap (λ (x : Connection). is_of_device (receiver_in x c) d) (sym (same_Some m n y))
        ∙ ap (λ (o : Option ℕ). is_of_device o d) z
        ∙ eq_self d
    go false y = no_connection y

receives : (p : List Row) (n : Connection) (d : ℕ) → connection p ≡ Some n → receiver p ≡ Some d
    → is_receiver n (crossed p) d ≡ true
receives [] n d e z = absurd (none_number d z)
receives (row ∷ rows) n d e z = by_receiver n (connection rows) (change_of rows row) d (call rows) row e z

samples_it : (s : ScenarioValue) (p : List Row) (n : Connection) (d : ℕ) → AreOfDevices p → connection p ≡ Some n
    → receiver p ≡ Some d → is_sampling s p n d ≡ true
samples_it s p n d dv e z = (λ i. is_receiver n ((run_state_plain s p dv).crossed i) d) ∙ receives p n d e z

-- ---- what is due of its receiver

struck_due : (q : Bool) (last bit : ℕ) (flip : Option ℕ) (plain : Option Due) → q ≡ true → flip ≡ Some bit
    → sample_due q last flip plain ≡ fault_due last bit
struck_due q last bit flip plain e f = λ i. sample_due (e i) last (f i) plain

calm_due : (q : Bool) (last : ℕ) (flip : Option ℕ) (plain : Option Due) → flip ≡ None
    → sample_due q last flip plain ≡ plain
calm_due true last flip plain f = λ i. sample_due true last (f i) plain
calm_due false last flip plain f = refl

-- The two ends, by which the receiver is: what is due of it and of the sender.
record Samples (s : ScenarioValue) (p : List Row) (n : Connection) (d : ℕ) : Type 0 where
  below : d < 8
  plain : Option Due
  due : unreset_due s p d ≡ sample_due true (last_time p) (flip_of (run_state s p).faults (last_time p)) plain
  plain_lines : IsOfLines plain
  others : (row : Row) → IsLeast (unreset_due s p) 8 row
      → (row.dev ≡ d) ⊎ ((last_time p < row.time) × (is_fault row.kind ≡ false))

row_receives : (p : List Row) (d e : ℕ) → receiver p ≡ Some d → is_of_device (receiver p) e ≡ true → e ≡ d
row_receives p d e z y = is_same d e (sym (ap (λ (o : Option ℕ). is_of_device o e) z) ∙ y)
  where
    is_same : (a b : ℕ) → (a == b) ≡ true → b ≡ a
    is_same a b h = grind (arith, nat_tests)

samples_of : (s : ScenarioValue) (p : List Row) (n : Connection) (d lat : ℕ) → AreOfDevices p → receiver p ≡ Some d
    → latency_of s d ≡ Some lat → Crossed p n d → Samples s p n d
samples_of s p n d lat dv z there (into_initiator f h b here io req ack since) =
    record {
      below = subst (λ (m : ℕ). m < 8) (sym here) h.initiator_below;
      plain = initiator_plain s p n true f lat;
      due = ap (unreset_due s p) here ∙ initiator_is s p n f true lat dv h b (ap (latency_of s) (sym here) ∙ there)
          ∙ ap (λ (q : Bool). sample_due q (last_time p)
          (flip_of (run_state s p).faults (last_time p)) (initiator_plain s p n true f lat))
          (ap (is_sampling s p n) (sym here) ∙ samples_it s p n d dv h.stands.connection_is z);
      plain_lines = initiator_lines true (sight_with p n f) (handshakes p)
          (device_with n.initiator lat (initiator_side f) (own_time p n.initiator)) (pace_with s p true f n.initiator)
          (answering_with s p n f);
      others = λ row least. go row (mover_is s p n true f row dv h b least);
    }
  where
    go : (row : Row) → Mover s p n true f row → (row.dev ≡ d) ⊎ ((last_time p < row.time) × (is_fault row.kind ≡ false))
    go row (by_fault bit got e) = inl (row_receives p d row.dev z got)
    go row (by_initiator l t same e) = inl (same ∙ sym here)
    go row (by_target l t same e) =
        let late = late_target (sight_with p n f) (handshakes p)
        (device_with n.target l (target_side f) (own_time p n.target)) (pace_with s p true f n.target)
        (offering_with s p n true f) (due_of row) req ack (assertion_some (dialogue p).heard.now.agreement.period) e in
        let lines = target_lines true (sight_with p n f) (handshakes p)
        (device_with n.target l (target_side f) (own_time p n.target))
        (pace_with s p true f n.target) (offering_with s p n true f) in
        inr (omega (arith, late, since), of_lines (target_plain s p n true f l) (due_of row) lines e)
samples_of s p n d lat dv z there (into_target f h b here io bsy ack req since) =
    record {
      below = subst (λ (m : ℕ). m < 8) (sym here) h.target_below;
      plain = target_plain s p n true f lat;
      due = ap (unreset_due s p) here ∙ target_is s p n f true lat dv h b (ap (latency_of s) (sym here) ∙ there)
          ∙ ap (λ (q : Bool). sample_due q (last_time p)
          (flip_of (run_state s p).faults (last_time p)) (target_plain s p n true f lat))
          (ap (is_sampling s p n) (sym here) ∙ samples_it s p n d dv h.stands.connection_is z);
      plain_lines = target_lines true (sight_with p n f) (handshakes p)
          (device_with n.target lat (target_side f) (own_time p n.target)) (pace_with s p true f n.target)
          (offering_with s p n true f);
      others = λ row least. go row (mover_is s p n true f row dv h b least);
    }
  where
    go : (row : Row) → Mover s p n true f row → (row.dev ≡ d) ⊎ ((last_time p < row.time) × (is_fault row.kind ≡ false))
    go row (by_fault bit got e) = inl (row_receives p d row.dev z got)
    go row (by_target l t same e) = inl (same ∙ sym here)
    go row (by_initiator l t same e) =
        let late = late_initiator (sight_with p n f) (handshakes p)
        (device_with n.initiator l (initiator_side f) (own_time p n.initiator))
        (pace_with s p true f n.initiator) (answering_with s p n f) (due_of row) bsy ack io req
        (assertion_some (dialogue p).heard.now.agreement.period) e in
        let lines = initiator_lines true (sight_with p n f) (handshakes p)
        (device_with n.initiator l (initiator_side f) (own_time p n.initiator))
        (pace_with s p true f n.initiator) (answering_with s p n f) in
        inr (omega (arith, late, since), of_lines (initiator_plain s p n true f l) (due_of row) lines e)

pub byte_awaits : (s : ScenarioValue) (p : List Row) (n : Connection) (d lat : ℕ)
    → CalmStanding s p → receiver p ≡ Some d → latency_of s d ≡ Some lat → Crossed p n d
    → Awaits s p (record { time = last_time p; dev = d })
byte_awaits s p n d lat always z there x =
    record {
      below = w.below;
      struck = λ bit e. fault_is bit e;
      takes = λ row least. takes row least (w.others row least);
    }
  where
    w : Samples s p n d
    w = samples_of s p n d lat always.devices z there x

    flip : Option ℕ
    flip = flip_of (run_state s p).faults (last_time p)

    fault_is : (bit : ℕ) → flip ≡ Some bit → unreset_due s p d ≡ fault_due (last_time p) bit
    fault_is bit e = w.due ∙ struck_due true (last_time p) bit flip w.plain refl e

    ordered : (row : Row) → last_time p ≤ row.time → row.dev ≡ d
        → IsNoLater (record { time = last_time p; dev = d }) row
    ordered row order same =
        by_bool (last_time p == row.time)
        (λ h. inr (eq_is (last_time p) row.time h, omega (arith, same)))
        (λ h. inl (less (last_time p) row.time h order))
      where
        eq_is : (a b : ℕ) → (a == b) ≡ true → a ≡ b
        eq_is a b h = grind (arith, nat_tests)

        less : (a b : ℕ) → (a == b) ≡ false → a ≤ b → a < b
        less a b h f = grind (arith, nat_tests)

    takes : (row : Row) → IsLeast (unreset_due s p) 8 row
        → (row.dev ≡ d) ⊎ ((last_time p < row.time) × (is_fault row.kind ≡ false))
        → Takes s p row (record { time = last_time p; dev = d })
    takes row least (inl same) =
        let here : unreset_due s p d ≡ Some (due_of row) = ap (unreset_due s p) (sym same) ∙ least.is_due in
        record {
          order = ordered row (always.ahead row.dev least.inside (due_of row) least.is_due) same;
          struck = λ bit e.
              let x = same_Some (record { time = last_time p; kind = Fault bit })
              (due_of row) (sym (fault_is bit e) ∙ here) in
              λ i. record { time = (sym x i).time; dev = same i; kind = (sym x i).kind };
          plain = λ e. of_lines w.plain (due_of row) w.plain_lines
              (sym (w.due ∙ calm_due true (last_time p) flip w.plain e) ∙ here);
        }
    takes row least (inr far) = record {
      order = inl far.0;
      struck = λ bit e.
          let first = least.first d w.below (record { time = last_time p; kind = Fault bit }) (fault_is bit e) in
          let late = far.0 in
          absurd (omega (arith, first, late));
      plain = λ e. far.1;
    }

-- Where no byte crossed the next row is no fault row.
pub byte_none : (s : ScenarioValue) (p : List Row) (n : Connection) (f : EndLines) (row : Row) → AreOfDevices p
    → Linked p n f → receiver p ≡ None → IsLeast (unreset_due s p) 8 row → is_fault row.kind ≡ false
byte_none s p n f row dv h none least = go (mover_is s p n (begun p) f row dv h refl least)
  where
    go : Mover s p n (begun p) f row → is_fault row.kind ≡ false
    go (by_fault bit got e) = wrong' (sym (ap (λ (o : Option ℕ). is_of_device o row.dev) none) ∙ got)
    go (by_initiator l t same e) =
        of_lines (initiator_plain s p n (begun p) f l) (due_of row) (initiator_lines (begun p)
        (sight_with p n f) (handshakes p) (device_with n.initiator l (initiator_side f) (own_time p n.initiator))
        (pace_with s p (begun p) f n.initiator) (answering_with s p n f)) e
    go (by_target l t same e) = of_lines (target_plain s p n (begun p) f l) (due_of row) (target_lines (begun p)
        (sight_with p n f) (handshakes p) (device_with n.target l (target_side f) (own_time p n.target))
        (pace_with s p (begun p) f n.target) (offering_with s p n (begun p) f)) e
