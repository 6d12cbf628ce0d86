-- Where no connection stands: in an arbitration its contender of the highest ID is due to win, in a calling its caller
-- to go on or to give up, and under RST a device that drives it to release it. So where nothing is due the bus is free
-- (6.1.1 to 6.1.4, 6.2.2).
use Rattle.progress_laws.proofs
use proofs.Names.{inl, inr, ℕ, zero, suc, ◌≡◌, ◌≢◌, ◌⊎◌, ◌<◌, ◌+◌, ◌^◌, ◌%◌, Bool, true, false, not, ◌&&◌, ◌∙◌, List}
use proofs.Names.{Some, refl, sym, ap, subst, arith, mod-le, cases_eq, true≢false, nat_tests, pow_pos, pow_below}
use proofs.Names.{none-some, ◌==◌, is_some, nat_lt, nat_le, bus_none, bus_off, bus_data_below, LineSet, none}
use proofs.Names.{has_id_above, bus, drives, Row, Arbitration, ARBITRATION_DELAY, Calling, stage, InArbitration}
use proofs.Names.{InCalling, ScenarioValue, is_initiator, latency_of, answered_due, calling_start, contender_lines}
use proofs.Names.{due_at, due_where, Due, Myself, Want, IsEnded, stage_is, due_holding, want_at, asks_due, calls_due}
use proofs.Names.{gives_up_due, goes_on_due, waits_due, due_in, calling_lines, answered_calling, resumed_calling}
use proofs.Names.{won_call, device_with, own_time, unreset_due, Standing, Arbitrating, ArbitrationWon, IsContender}
use proofs.Names.{BusStage, on_free_bus, in_arbitration, after_arbitration, with_both_ids, awaiting_answer}
use proofs.Names.{after_withdrawal, after_answer, after_takeover, in_reset, in_connection, FreeBus, is_connected}
use proofs.{Names.{callee_at}, Quiet.Acts.{SomeDue, calm_end, moved, nothing_due, there_by}}

-- ---- under RST

reset_off : (s : ScenarioValue) (p : List Row) → IsEnded s p → Standing s p → (d : ℕ) → d < 8 → (drives p d).rst ≡ false
reset_off s p end st d lt = go (drives p d).rst refl
  where
    go : (q : Bool) → (drives p d).rst ≡ q → (drives p d).rst ≡ false
    go false e = e
    go true e =
        let h = there_by s p d (λ x. x.rst) st lt refl e in
        absurd (none-some _ (sym (nothing_due s p d end lt) ∙ due_holding s p d h.latency st.devices lt h.latency_is e))

pub reset_ends : (s : ScenarioValue) (p : List Row) → IsEnded s p → Standing s p → (bus p).rst ≡ true → ⊥
reset_ends s p end st on = true≢false (sym on ∙ bus_off (λ x. x.rst) (λ _ _. refl) refl p (reset_off s p end st))

-- ---- an arbitration

-- No higher ID is true, where no device above drives anything.
lower_data : (p : List Row) (m : ℕ)
    → ((d : ℕ) → d < 8 → (drives p d ≡ none) ⊎ ((d < m) × (drives p d ≡ contender_lines d))) → (bus p).data_bits < 2 ^ m
lower_data p m each = bus_data_below p m (λ d lt. go d (each d lt))
  where
    go : (d : ℕ) → (drives p d ≡ none) ⊎ ((d < m) × (drives p d ≡ contender_lines d)) → (drives p d).data_bits < 2 ^ m
    go d (inl z) = let w = pow_pos m in let v = ap (λ (x : LineSet). x.data_bits) z in omega arith
    go d (inr z) = let w = pow_below d m z.0 in let v = ap (λ (x : LineSet). x.data_bits) z.1 in omega arith

none_above : (p : List Row) (d : ℕ) → (bus p).data_bits < 2 ^ (d + 1) → has_id_above (bus p) d ≡ false
none_above p d lt = let w = mod-le (bus p).data_bits 256 in below (2 ^ (d + 1)) ((bus p).data_bits % 256) (omega arith)
  where
    below : (a b : ℕ) → b < a → nat_le a b ≡ false
    below a b h = grind (arith, nat_tests)

-- A contender below which all others are is due to win.
contender_wins : (s : ScenarioValue) (p : List Row) (a : Arbitration) (d : ℕ) → IsEnded s p → Standing s p
    → Arbitrating s p a → d < 8 → IsContender s p a d → (bus p).data_bits < 2 ^ (d + 1) → ⊥
contender_wins s p a d end st h lt e low =
    let was : stage p ≡ InArbitration a = stage_is p _ _ _ _ h.stands in
    calm_end s p d end st.devices lt (ap (λ (x : LineSet). x.rst) h.stands.bus_is) (moved _ _
    (due_in s p d e.lat (contender_lines d) (InArbitration a) st.devices lt e.there h.stands.connection_is was e.drive)
    (record {
      row = _;
      is = ap (λ (q : Bool). due_where (not q)
          (due_at (own_time p d + ARBITRATION_DELAY + e.lat) (record (contender_lines d) { sel = true })))
          (none_above p d low);
    }))

-- So none stands below any number.
no_contender : (s : ScenarioValue) (p : List Row) (a : Arbitration) → IsEnded s p → Standing s p → Arbitrating s p a
    → (m : ℕ) → ((d : ℕ) → d < 8 → (drives p d ≡ none) ⊎ ((d < m) × IsContender s p a d)) → (d : ℕ) → d < 8
    → drives p d ≡ none
no_contender s p a end st h zero each = λ d lt. elim (each d lt) [
  | inl z ↦ z
  | inr z ↦ let w = z.0 in absurd (omega arith)
]
no_contender s p a end st h (suc m) each =
    no_contender s p a end st h m (λ d lt. elim (each d lt) [
      | inl z ↦ inl z
      | inr z ↦ elim (cases_eq d m) [
        | inl same ↦ absurd (contender_wins s p a d end st h lt z.1
            (subst (λ (i : ℕ). (bus p).data_bits < 2 ^ i) (one_more d m same) low))
        | inr ne ↦ let w = z.0 in inr (omega arith, z.1)
      ]
    ])
  where
    one_more : (d m : ℕ) → d ≡ m → suc m ≡ d + 1
    one_more d m e = omega arith

    low : (bus p).data_bits < 2 ^ (suc m)
    low = lower_data p (suc m) (λ d lt. elim (each d lt) [
      | inl z ↦ inl z
      | inr z ↦ inr (z.0, z.1.drive)
    ])

pub arbitration_ends : (s : ScenarioValue) (p : List Row) (a : Arbitration) → IsEnded s p → Standing s p
    → Arbitrating s p a → ⊥
arbitration_ends s p a end st h = true≢false (sym (ap (λ (x : LineSet). x.bsy) h.stands.bus_is)
    ∙ ap (λ (x : LineSet). x.bsy) (bus_none p (no_contender s p a end st h 8 (λ d lt. elim (h.each d lt) [
      | inl z ↦ inl z
      | inr z ↦ inr (lt, z)
    ]))))

-- ---- a calling

-- Whom a device is due to call is another of the eight.
pub record IsBound (s : ScenarioValue) (p : List Row) (c : ℕ) : Type 0 where
  pub other : ℕ
  pub is : callee_at s p c ≡ Some other
  pub below : other < 8
  pub apart : c ≢ other

starts : (s : ScenarioValue) (p : List Row) (c lat since : ℕ) (own : LineSet) → IsBound s p c
    → SomeDue (calling_start (not (is_initiator s.hosts c)) (device_with c lat own since) (callee_at s p c))
starts s p c lat since own b =
    moved _ _ (ap (calling_start (not (is_initiator s.hosts c)) (device_with c lat own since)) b.is)
    (where_some (nat_lt b.other 8 && not (b.other == c)) _ (well b.other c b.below b.apart))
  where
    where_some : (q : Bool) (x : Due) → q ≡ true → SomeDue (due_where q (Some x))
    where_some true x e = record { row = x; is = refl }
    where_some false x e = absurd (true≢false (sym e))

    well : (m c : ℕ) → m < 8 → c ≢ m → (nat_lt m 8 && not (m == c)) ≡ true
    well m c lt ne = grind (arith, nat_tests)

pub won_ends : (s : ScenarioValue) (p : List Row) (c t : ℕ) → IsEnded s p → Standing s p → ArbitrationWon s p c t
    → IsBound s p c → ⊥
won_ends s p c t end st h b =
    let was : stage p ≡ InCalling (won_call c t) = stage_is p _ _ _ _ h.stands in
    calm_end s p c end st.devices h.caller_below
    (ap (λ (x : LineSet). x.rst) h.stands.bus_is) (moved _ _ (calls_due s p c h.lat t
    (record (contender_lines c) { sel = true }) st.devices h.caller_below h.there h.stands.connection_is was h.caller)
    (starts s p c h.lat (own_time p c) (record (contender_lines c) { sel = true }) b))

-- A caller that has called goes on, whatever comes.
calls_end : (s : ScenarioValue) (p : List Row) (c : ℕ) (b : LineSet) → IsEnded s p → Standing s p → c < 8 → bus p ≡ b
    → b.rst ≡ false → ((drives p c).sel ≡ true) → ((lat : ℕ) → latency_of s c ≡ Some lat → SomeDue (unreset_due s p c))
    → ⊥
calls_end s p c b end st lt on calm sel acts =
    let h = there_by s p c (λ x. x.sel) st lt refl sel in
    calm_end s p c end st.devices lt (ap (λ (x : LineSet). x.rst) on ∙ calm) (acts h.latency h.latency_is)

answered_acts : (m : Bool) (me : Myself) (w : Want) (i t1 t2 t3 : ℕ)
    → SomeDue (answered_due me w (answered_calling m i t1 t2 t3) t3)
answered_acts true me w i t1 t2 t3 = record { row = _; is = refl }
answered_acts false me w i t1 t2 t3 = record { row = _; is = refl }

-- Where nothing is due while no connection stands, the bus is free.
pub free_at_end : (s : ScenarioValue) (p : List Row) → IsEnded s p → Standing s p
    → ((c t : ℕ) → ArbitrationWon s p c t → IsBound s p c) → is_connected p ≡ false → BusStage s p → FreeBus s p
free_at_end s p end st bound alone (on_free_bus h) = h
free_at_end s p end st bound alone (in_arbitration a h) = absurd (arbitration_ends s p a end st h)
free_at_end s p end st bound alone (after_arbitration c t h) = absurd (won_ends s p c t end st h (bound c t h))
free_at_end s p end st bound alone (with_both_ids m c k t0 t e h) = absurd (calls_end s p c _ end st h.caller_below
    h.stands.bus_is refl (ap (λ (x : LineSet). x.sel) h.caller) (λ lat there. record {
      row = _;
      is = asks_due s p m c k t0 t lat _ st.devices h.caller_below there h.stands.connection_is
          (stage_is p _ _ _ _ h.stands) h.caller;
    }))
free_at_end s p end st bound alone (awaiting_answer v m c k t0 t1 t2 x g) =
    let h = g.here in
    absurd (calls_end s p c _ end st h.caller_below h.stands.bus_is refl (ap (λ (x : LineSet). x.sel) h.caller)
    (λ lat there. record {
      row = _;
      is = waits_due s p v m c k t0 t1 t2 lat _ st.devices h.caller_below there h.stands.connection_is
          (stage_is p _ _ _ _ h.stands) h.caller;
    }))
free_at_end s p end st bound alone (after_withdrawal v m c k t0 t1 t2 t3 e h) = absurd (calls_end s p c _ end st
    h.caller_below h.stands.bus_is refl (ap (λ (x : LineSet). x.sel) h.caller) (λ lat there. record {
      row = _;
      is = gives_up_due s p v m c k t0 t1 t2 t3 lat _ st.devices h.caller_below there h.stands.connection_is
          (stage_is p _ _ _ _ h.stands) h.caller;
    }))
free_at_end s p end st bound alone (after_answer m c k t0 t1 t2 t3 x g) =
    let h = g.here in
    let w : Calling = answered_calling m k t1 t2 t3 in
    absurd (calls_end s p c _ end st h.caller_below h.stands.bus_is refl (ap (λ (x : LineSet). x.sel) h.caller)
    (λ lat there. moved _ _ (goes_on_due s p w c t0 t3 lat _ st.devices h.caller_below there h.stands.connection_is
    (stage_is p _ _ _ _ h.stands) h.caller)
    (answered_acts m (device_with c lat (calling_lines m false x) (own_time p c)) (want_at s p c) k t1 t2 t3)))
free_at_end s p end st bound alone (after_takeover c k t0 t1 t2 t3 t4 x e f g) =
    let h = g.here in
    let w : Calling = resumed_calling k t1 t2 t3 t4 in
    absurd (calls_end s p c _ end st h.caller_below h.stands.bus_is refl (ap (λ (x : LineSet). x.sel) h.caller)
    (λ lat there. record {
      row = _;
      is = goes_on_due s p w c t0 t3 lat _ st.devices h.caller_below there h.stands.connection_is
          (stage_is p _ _ _ _ h.stands) h.caller;
    }))
free_at_end s p end st bound alone (in_reset h) = absurd (reset_ends s p end st h.reset)
free_at_end s p end st bound alone (in_connection n e calm h) =
    absurd (true≢false (sym (sym alone ∙ (λ i. is_some (e i) && not (calm i)))))
