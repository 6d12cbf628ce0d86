-- The row with which a connection begins: of which calling it is, and what the target drives then.
use Rattle.row_laws.proofs
use proofs.Names.{inl, inr, ℕ, ◌≡◌, ◌+◌, Bool, true, false, not, ◌&&◌, ◌∙◌, List, [], ◌∷◌, Option, Some, None, refl}
use proofs.Names.{sym, ap, subst, true≢false, cases_eq, same_Some, if◌then◌else◌, wrong, wrong', bus_on, bus-fault}
use proofs.Names.{same_set-eq, change_of, falls, LineSet, none, union, byte_set, is_fault, call, connected, connection}
use proofs.Names.{connection_of, connection_after, bus, drives, Kind, Drives, Fault, Row, Connection, Call, Calling}
use proofs.Names.{handshakes, handshakes_after, newest_struck_if, stage, InAnswer, only_rst, ScenarioValue, latency_of}
use proofs.Names.{answered_due, byte_bits, Due, begun, begun_after, IsLeast, due, run_state, identify_byte, ready_of}
use proofs.Names.{stage_is, drives_own, only_caller_acts, goes_on_due, want_at, is_at, is_there, by_calm, reset_or_calm}
use proofs.Names.{by_reset, calling_lines, call_with, answer_lines, answered_calling, resumed_calling, BeginsConnection}
use proofs.Names.{own_time, device_with, unreset_due, row_of_lines, BusStage, on_free_bus, in_arbitration}
use proofs.Names.{after_arbitration, with_both_ids, awaiting_answer, after_withdrawal, after_answer, after_takeover}
use proofs.{Names.{in_reset, CalmStanding, Standing, Calls, UnderRst, NextRow, no_fall}, Common.Impossible.{none_some}}
use proofs.{Common.Tests.{falls_true}, Lines.UnderRst.{bsy_stands, quiet_at_end}}
use Rattle.link_laws.specs.bus_laws.specs.Stages.{in_connection, IsAnswered}

-- ---- what a connection that begins is made of

-- It is that of the calling, and SEL falls with it.
pub record Made (p : List Row) (row : Row) (n : Connection) : Type 0 where
  pub made : connection_of (call p) row.time ≡ Some n
  pub sel : falls (bus p).sel (bus (row ∷ p)).sel ≡ true

made_by : (q r b : Bool) (o : Option Connection) (n : Connection) → (if q && r && b then o else None) ≡ Some n
    → (o ≡ Some n) × (q ≡ true)
made_by true true true o n e = (e, refl)
made_by true true false o n e = absurd (none_some n e)
made_by true false b o n e = absurd (none_some n e)
made_by false r b o n e = absurd (none_some n e)

pub made_is : (p : List Row) (row : Row) (n : Connection) → connection p ≡ None → connection (row ∷ p) ≡ Some n
    → Made p row n
made_is p row n alone e =
    let w = made_by (falls (bus p).sel (bus (row ∷ p)).sel) (bus (row ∷ p)).bsy (not (bus (row ∷ p)).rst)
    (connection_of (call p) row.time) n (sym (λ i. connection_after (alone i) (call p) (change_of p row) row) ∙ e) in
    record { made = w.0; sel = w.1 }

-- The row is of lines.
pub of_lines : (p : List Row) (row : Row) (n : Connection) → Made p row n → is_fault row.kind ≡ false
of_lines p row n m = go row.kind refl
  where
    go : (x : Kind) → row.kind ≡ x → is_fault row.kind ≡ false
    go (Drives l) e = ap is_fault e
    go (Fault bit) e =
        wrong' (sym (no_fall (bus p).sel) ∙ (λ i. falls (bus p).sel (sym (bus-fault row p bit e) i).sel) ∙ m.sel)

-- ---- REQ has not risen

pub requests_none : (p : List Row) → connection p ≡ None → (handshakes p).requests ≡ 0
requests_none [] e = refl
requests_none (row ∷ rows) e = go (λ z. requests_none rows z) row.kind refl
  where
    lines : is_fault row.kind ≡ false → (handshakes (row ∷ rows)).requests ≡ 0
    lines f = λ i. (handshakes_after (f i) (e i) (change_of rows row) row.time (handshakes rows)).requests

    struck : (q : Bool) → (newest_struck_if q (handshakes rows)).requests ≡ (handshakes rows).requests
    struck true = refl
    struck false = refl

    before : (bit : ℕ) → row.kind ≡ Fault bit → (o : Option Connection) → connection rows ≡ o → connection rows ≡ None
    before bit f None g = g
    before bit f (Some m) g = bsy_stands rows (ap (λ (l : LineSet). l.bsy) (sym (bus-fault row rows bit f))
        ∙ down (bus (row ∷ rows)).bsy refl (sym (λ i. connection_after (g i) (call rows) (change_of rows row) row) ∙ e))
      where
        down : (q : Bool) → (bus (row ∷ rows)).bsy ≡ q → (if (bus (row ∷ rows)).bsy then Some m else None) ≡ None
            → (bus (row ∷ rows)).bsy ≡ false
        down true h z = absurd (none_some m (sym z ∙ ap (λ (r : Bool). if r then Some m else None) h))
        down false h z = h

    go : (connection rows ≡ None → (handshakes rows).requests ≡ 0) → (x : Kind) → row.kind ≡ x
        → (handshakes (row ∷ rows)).requests ≡ 0
    go less (Drives l) f = lines (ap is_fault f)
    go less (Fault bit) f = ap (λ (q : Bool).
        (handshakes_after q (connection (row ∷ rows)) (change_of rows row) row.time (handshakes rows)).requests)
        (ap is_fault f) ∙ struck (change_of rows row).before.io ∙ less (before bit f (connection rows) refl)

-- ---- what stands after it

pub begins_now : (s : ScenarioValue) (q : List Row) (n : Connection) → BusStage s q → connection q ≡ Some n
    → (bus q).rst ≡ false → BeginsConnection q n
begins_now s q n (on_free_bus h) e calm = absurd (none_some n (sym h.stands.connection_is ∙ e))
begins_now s q n (in_arbitration a h) e calm = absurd (none_some n (sym h.stands.connection_is ∙ e))
begins_now s q n (after_arbitration c t h) e calm = absurd (none_some n (sym h.stands.connection_is ∙ e))
begins_now s q n (with_both_ids m c k t0 t z h) e calm = absurd (none_some n (sym h.stands.connection_is ∙ e))
begins_now s q n (awaiting_answer v m c k t0 t1 t2 x h) e calm =
    absurd (none_some n (sym h.here.stands.connection_is ∙ e))
begins_now s q n (after_withdrawal v m c k t0 t1 t2 t3 z h) e calm =
    absurd (none_some n (sym h.stands.connection_is ∙ e))
begins_now s q n (after_answer m c k t0 t1 t2 t3 x h) e calm =
    absurd (none_some n (sym h.here.stands.connection_is ∙ e))
begins_now s q n (after_takeover c k t0 t1 t2 t3 t4 x z f h) e calm =
    absurd (none_some n (sym h.here.stands.connection_is ∙ e))
begins_now s q n (in_reset h) e calm = wrong (sym h.reset ∙ calm)
begins_now s q n (in_connection m f g h) e calm =
    subst (λ (x : Connection). BeginsConnection q x) (same_Some m n (sym f ∙ e)) h

-- A phase has begun with it in a reselection.
pub begun_first : (p : List Row) (row : Row) (n : Connection) → connection p ≡ None → connection (row ∷ p) ≡ Some n
    → begun (row ∷ p) ≡ n.reselected
begun_first p row n alone e = λ i. begun_after (begun p) (alone i) (e i) (change_of p row)

-- ---- in a reselection the target drives the first byte of IDENTIFY

abbrev DrivesName : ScenarioValue → List Row → Row → Connection → Type 0
DrivesName s p row n =
    (drives (row ∷ p) n.target).data_bits ≡ byte_bits (identify_byte (ready_of s (run_state s p) n.target))

-- The row of the caller.
caller_row : (s : ScenarioValue) (p : List Row) (g : Calling) (c t0 t3 : ℕ) (own other b : LineSet) (row : Row)
    → CalmStanding s p → Calls s p (call_with c t0 g) c g.called own other b
    → stage p ≡ InAnswer (call_with c t0 g) g t3 → IsLeast (unreset_due s p) 8 row → row.dev ≡ c
    → (lat : ℕ) × (answered_due (device_with c lat own (own_time p c)) (want_at s p c) g t3
    ≡ Some (record { time = row.time; kind = row.kind }))
caller_row s p g c t0 t3 own other b row always h was least same =
    let x : Due = record { time = row.time; kind = row.kind } in
    let w = is_there s p row.dev x least.is_due in (
      w.0,
      sym (goes_on_due s p g c t0 t3 w.0 own always.devices h.caller_below
          (ap (latency_of s) (sym same) ∙ w.1) h.stands.connection_is was h.caller)
          ∙ ap (unreset_due s p) (sym same) ∙ least.is_due,
    )

lines_at : (p : List Row) (row : Row) (c : ℕ) (l : LineSet) → row.dev ≡ c → row.kind ≡ Drives l → drives (row ∷ p) c ≡ l
lines_at p row c l same kind =
    let r : row ≡ row_of_lines row.time c l = λ i. record { time = row.time; dev = same i; kind = kind i } in
    ap (λ (w : Row). drives (w ∷ p) c) r ∙ drives_own p row.time c l

after_answered : (s : ScenarioValue) (p : List Row) (m : Bool) (c i t0 t1 t2 t3 x : ℕ) (row : Row) (n : Connection)
    → CalmStanding s p → IsAnswered s p (answered_calling m i t1 t2 t3) c i t0 m false x
    → IsLeast (unreset_due s p) 8 row → Made p row n → n.reselected ≡ true → DrivesName s p row n
after_answered s p true c i t0 t1 t2 t3 x row n always a least made re =
    let same : connected c (answered_calling true i t1 t2 t3) row.time ≡ n = same_Some _ n
    (sym (ap (λ (w : Option Call). connection_of w row.time) a.here.stands.call_is) ∙ made.made) in
    wrong' (ap (λ (w : Connection). w.reselected) same ∙ re)
after_answered s p false c i t0 t1 t2 t3 x row n always a least made re =
    let h = a.here in
    let g : Calling = answered_calling false i t1 t2 t3 in
    let was : stage p ≡ InAnswer (call_with c t0 g) g t3 = stage_is p _ _ _ _ h.stands in
    elim (cases_eq row.dev c) [
      | inl same ↦
          let w = caller_row s p g c t0 t3 (calling_lines false false x) answer_lines
          (calling_lines false true x) row always h was least same in
          let z = is_at (t3 + w.0) (calling_lines false true x) (record { time = row.time; kind = row.kind }) w.1 in
          let own = lines_at p row c (calling_lines false true x) same z.kind_is in
          let sel : (bus (row ∷ p)).sel ≡ true = bus_on (λ y. y.sel) (λ _ _. refl)
          (row ∷ p) c h.caller_below (ap (λ (l : LineSet). l.sel) own) in
          wrong' (sym (falls_true (bus p).sel (bus (row ∷ p)).sel sel) ∙ made.sel)
      | inr nc ↦ absurd (only_caller_acts s p g c t0 t3 (calling_lines false false x) answer_lines
          (calling_lines false true x) row always h was least nc)
    ]

after_resumed : (s : ScenarioValue) (p : List Row) (c i t0 t1 t2 t3 t4 x : ℕ) (row : Row) (n : Connection)
    → CalmStanding s p → IsAnswered s p (resumed_calling i t1 t2 t3 t4) c i t0 false true x
    → IsLeast (unreset_due s p) 8 row → Made p row n → DrivesName s p row n
after_resumed s p c i t0 t1 t2 t3 t4 x row n always a least made =
    let h = a.here in
    let g : Calling = resumed_calling i t1 t2 t3 t4 in
    let was : stage p ≡ InAnswer (call_with c t0 g) g t3 = stage_is p _ _ _ _ h.stands in
    let same : connected c g row.time ≡ n = same_Some _ n
    (sym (ap (λ (w : Option Call). connection_of w row.time) h.stands.call_is) ∙ made.made) in
    elim (cases_eq row.dev c) [
      | inl here ↦
          let w = caller_row s p g c t0 t3 (calling_lines false true x) answer_lines
          (calling_lines false true x) row always h was least here in
          let first : ℕ = identify_byte (ready_of s (run_state s p) c) in
          let l : LineSet = record (byte_set first) { bsy = true; msg = true; cd = true; io = true } in
          let z = is_at (own_time p c + 90 + w.0) l (record { time = row.time; kind = row.kind }) w.1 in
          let own = lines_at p row c l here z.kind_is in
          subst (λ (m : Connection). DrivesName s p row m) same (ap (λ (y : LineSet). y.data_bits) own)
      | inr nc ↦ absurd (only_caller_acts s p g c t0 t3 (calling_lines false true x) answer_lines
          (calling_lines false true x) row always h was least nc)
    ]

-- Without an answer no connection begins.
unmade : {A : Type 0} (p : List Row) (row : Row) (n : Connection) (o : Option Call) → call p ≡ o
    → connection_of o row.time ≡ None → Made p row n → A
unmade p row n o e none made =
    absurd (none_some n (sym none ∙ ap (λ (w : Option Call). connection_of w row.time) (sym e) ∙ made.made))

drives_name : (s : ScenarioValue) (p : List Row) (row : Row) (n : Connection) → Standing s p → BusStage s p
    → connection p ≡ None → CalmStanding s p → IsLeast (unreset_due s p) 8 row → Made p row n → (bus p).rst ≡ false
    → n.reselected ≡ true → DrivesName s p row n
drives_name s p row n st (on_free_bus h) alone always least made calm re =
    unmade p row n None h.stands.call_is refl made
drives_name s p row n st (in_arbitration a h) alone always least made calm re =
    unmade p row n None h.stands.call_is refl made
drives_name s p row n st (after_arbitration c t h) alone always least made calm re =
    unmade p row n _ h.stands.call_is refl made
drives_name s p row n st (with_both_ids m c k t0 t z h) alone always least made calm re =
    unmade p row n _ h.stands.call_is refl made
drives_name s p row n st (awaiting_answer v m c k t0 t1 t2 x h) alone always least made calm re =
    unmade p row n _ h.here.stands.call_is refl made
drives_name s p row n st (after_withdrawal v m c k t0 t1 t2 t3 z h) alone always least made calm re =
    unmade p row n _ h.stands.call_is refl made
drives_name s p row n st (after_answer m c k t0 t1 t2 t3 x h) alone always least made calm re =
    after_answered s p m c k t0 t1 t2 t3 x row n always h least made re
drives_name s p row n st (after_takeover c k t0 t1 t2 t3 t4 x z f h) alone always least made calm re =
    after_resumed s p c k t0 t1 t2 t3 t4 x row n always h least made
drives_name s p row n st (in_reset h) alone always least made calm re = wrong (sym h.reset ∙ calm)
drives_name s p row n st (in_connection m f g h) alone always least made calm re = absurd (none_some m (sym alone ∙ f))

-- ---- RST was false before it

pub quiet_sel : (x : LineSet) → union only_rst x ≡ only_rst → x.sel ≡ false
quiet_sel x e = ap (λ (l : LineSet). l.sel) e

-- RST is true in one stage alone.
on_bus : (p : List Row) (b : LineSet) → bus p ≡ b → b.rst ≡ false → (bus p).rst ≡ true → ⊥
on_bus p b e off on = true≢false (sym on ∙ ap (λ (l : LineSet). l.rst) e ∙ off)

pub under_rst : (s : ScenarioValue) (p : List Row) → BusStage s p → (bus p).rst ≡ true → UnderRst s p
under_rst s p (on_free_bus h) f = absurd (on_bus p _ h.stands.bus_is refl f)
under_rst s p (in_arbitration a h) f = absurd (on_bus p _ h.stands.bus_is refl f)
under_rst s p (after_arbitration c t h) f = absurd (on_bus p _ h.stands.bus_is refl f)
under_rst s p (with_both_ids m c k t0 t z h) f = absurd (on_bus p _ h.stands.bus_is refl f)
under_rst s p (awaiting_answer v m c k t0 t1 t2 x h) f = absurd (on_bus p _ h.here.stands.bus_is refl f)
under_rst s p (after_withdrawal v m c k t0 t1 t2 t3 z h) f = absurd (on_bus p _ h.stands.bus_is refl f)
under_rst s p (after_answer m c k t0 t1 t2 t3 x h) f = absurd (on_bus p _ h.here.stands.bus_is refl f)
under_rst s p (after_takeover c k t0 t1 t2 t3 t4 x z g h) f = absurd (on_bus p _ h.here.stands.bus_is refl f)
under_rst s p (in_reset h) f = h
under_rst s p (in_connection m e g h) f = wrong (sym f ∙ g)

-- All of it.
pub record IsFirst (s : ScenarioValue) (p : List Row) (row : Row) (n : Connection) : Type 0 where
  pub begins : BeginsConnection (row ∷ p) n
  pub begun_is : begun (row ∷ p) ≡ n.reselected
  pub lines : is_fault row.kind ≡ false
  pub none_asked : (handshakes p).requests ≡ 0
  pub name : n.reselected ≡ true → DrivesName s p row n

pub is_first : (s : ScenarioValue) (p : List Row) (row : Row) (n : Connection) → Standing s p → BusStage s p
    → connection p ≡ None → (bus (row ∷ p)).rst ≡ false → connection (row ∷ p) ≡ Some n → IsLeast (due s p) 8 row
    → NextRow s p row → IsFirst s p row n
is_first s p row n st here alone calm e m g =
    let made = made_is p row n alone e in
    record {
      begins = begins_now s (row ∷ p) n g.here e calm;
      begun_is = begun_first p row n alone e;
      lines = of_lines p row n made;
      none_asked = requests_none p alone;
      name = λ re. go (bus p).rst refl made re here;
    }
  where
    go : (q : Bool) → (bus p).rst ≡ q → Made p row n → n.reselected ≡ true → BusStage s p → DrivesName s p row n
    go false f made re h =
        elim (reset_or_calm s p row st f m) [
          | by_reset z ↦ wrong (sym (rst_on z) ∙ calm)
          | by_calm always least ↦ drives_name s p row n st h alone always least made f re
        ]
      where
        rst_on : row ≡ row_of_lines row.time row.dev only_rst → (bus (row ∷ p)).rst ≡ true
        rst_on z = bus_on (λ y. y.rst) (λ _ _. refl) (row ∷ p) row.dev m.inside
            (ap (λ (w : Row). (drives (w ∷ p) row.dev).rst) z
            ∙ ap (λ (l : LineSet). l.rst) (drives_own p row.time row.dev only_rst))
    go true f made re h =
        let u = under_rst s p h f in
        let off = quiet_sel (bus p)
        (same_set-eq (union only_rst (bus p)) only_rst (quiet_at_end s p row m.inside g.obeys u calm)) in
        wrong' (sym ((λ i. falls (off i) (bus (row ∷ p)).sel)) ∙ made.sel)
