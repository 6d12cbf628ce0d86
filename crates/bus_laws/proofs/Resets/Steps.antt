-- The rows under RST, to the free bus, and the row that raises it.
use Rattle.bus_laws.proofs
use proofs.Names.{◌⊎◌, inl, inr, ℕ, zero, suc, ◌≡◌, ◌≢◌, ◌<◌, ◌≤◌, ◌+◌, Bool, true, false, ◌||◌, ◌∙◌, List, ◌∷◌, Option}
use proofs.Names.{Some, None, refl, sym, ap, subst, arith, cases_eq, or_right, or_left, le-leb, cases_Bool, none-some}
use proofs.Names.{or_zero_r, bit_or, nat_le, if◌then◌else◌, or_false, since_line_le, bus_on, bus_off, bus_one, bus_none}
use proofs.Names.{same_set-eq, same_set-self, change_of, implies, rises, falls, is_within, LineSet, none, union}
use proofs.Names.{same_set, raised, raised_next, arbitration, arbitration_after, call, connection, connection_after}
use proofs.Names.{free_since, drives, bus, last_time, line_times, since_line, newer_line, union_below, Drives, Row}
use proofs.Names.{Arbitration, Connection, BUS_CLEAR_DELAY, Call, stage, OnFreeBus, only_rst, broken_rule}
use proofs.Names.{ScenarioValue, latency_of, bus_clear, due_at, earlier_due, Due, IsLeast, due, Own, own_of}
use proofs.Names.{AreOfDevices, run_state, want_time, own_time, device_with, unreset_due, reset_due, row_of_lines}
use proofs.Names.{change_to, Stands, HasShortLatencies, on_free_bus, in_reset, NextRow, HoldsReset, IsUnderRst, quiet}
use proofs.{Names.{holds, lingers, UnderRst, Standing}, Lines.Rows.{change_is, since_is, drives_own, drives_other}}
use proofs.{Lines.Rows.{raised_own, raised_other, stage_is, stands_by}, Resets.Dues.{one_of, comes_by, due_calm}}
use proofs.Resets.{Dues.{due_holding, due_there, own_reset_is, own_other, rst_own}, Obeys.{reset_row_obeys, raises_rst}}
use proofs.{Resets.{Obeys.{none_within}, Rows.{off_at, link_in_reset, link_apart, resets_ahead}}, Stages.Dues.{is_at}}
use proofs.Stages.{Dues.{due_in_reset, is_there, is_entry, free_due_is}, Free.{row_is}}

-- ---- a device that does not drive RST, under RST

calm_in_reset : (s : ScenarioValue) (p : List Row) (d lat : ℕ) → AreOfDevices p → d < 8
    → latency_of s d ≡ Some lat → (bus p).rst ≡ true → (drives p d).rst ≡ false → due s p d
    ≡ earlier_due (reset_due s p d) (bus_clear (device_with d lat (drives p d) (own_time p d)) (line_times p).rst)
calm_in_reset s p d lat h lt there rst off = due_calm s p d h lt off
    ∙ ap (earlier_due (reset_due s p d)) (due_in_reset s p d lat (drives p d) h lt there rst refl)

pub record IsClear (s : ScenarioValue) (p : List Row) (d : ℕ) (x : Due) : Type 0 where
  pub time_is : (lat : ℕ) × ((latency_of s d ≡ Some lat) × (x.time ≡ (line_times p).rst + lat))
  pub kind_is : x.kind ≡ Drives none
  pub drives_some : same_set (drives p d) none ≡ false

clear_is : (s : ScenarioValue) (p : List Row) (d lat : ℕ) (x : Due) → latency_of s d ≡ Some lat
    → bus_clear (device_with d lat (drives p d) (own_time p d)) (line_times p).rst ≡ Some x → IsClear s p d x
clear_is s p d lat x there e = go (same_set (drives p d) none) refl e
  where
    go : (q : Bool) → same_set (drives p d) none ≡ q
        → (if q then None else due_at ((line_times p).rst + lat) none) ≡ Some x → IsClear s p d x
    go true a z = absurd (none-some x z)
    go false a z =
        let w = is_at ((line_times p).rst + lat) none x z in
        record { time_is = (lat, (there, w.time_is)); kind_is = w.kind_is; drives_some = a }

-- ---- the bus in the last row of RST

within_rst : (x : LineSet) → (x ≡ none) ⊎ (x ≡ only_rst) → x ≡ record none { rst = x.rst }
within_rst x (inl e) = e ∙ (λ i. record none { rst = (sym e i).rst })
within_rst x (inr e) = e ∙ (λ i. record none { rst = (sym e i).rst })

-- A device that drives anything but RST releases it within its latency, so the next row is no later; else no line but
-- RST is true.
lingering : (s : ScenarioValue) (p : List Row) (row : Row) → HasShortLatencies s
    → Standing s p → UnderRst s p → IsLeast (due s p) 8 row → (d : ℕ) → d < 8
    → ((drives p d ≡ none) ⊎ (drives p d ≡ only_rst)) ⊎ (row.time ≤ (line_times p).rst + 100)
lingering s p row fits st rs m d lt = go (rs.each d lt)
  where
    lags : (drives p d).rst ≡ false → (q : Bool) → same_set (drives p d) none ≡ q
        → ((drives p d ≡ none) ⊎ (drives p d ≡ only_rst)) ⊎ (row.time ≤ (line_times p).rst + 100)
    lags off true e = inl (inl (same_set-eq (drives p d) none e))
    lags off false e = elim (st.there d lt) [
      | inl n ↦ inl (inl n)
      | inr l ↦
          let x : Due = record { time = (line_times p).rst + l.latency; kind = Drives none } in
          let c : bus_clear (device_with d l.latency (drives p d) (own_time p d)) (line_times p).rst ≡ Some x = ap
          (λ (q : Bool). if q then None else due_at ((line_times p).rst + l.latency) none) e in
          let z = comes_by (reset_due s p d)
          (bus_clear (device_with d l.latency (drives p d) (own_time p d)) (line_times p).rst) x c in
          let w = m.first d lt z.x (calm_in_reset s p d l.latency st.devices lt l.latency_is rs.reset off ∙ z.is) in
          let u = fits.latency d l.latency l.latency_is in
          let v = z.le in
          inr (omega arith)
    ]

    go : IsUnderRst p d → ((drives p d ≡ none) ⊎ (drives p d ≡ only_rst)) ⊎ (row.time ≤ (line_times p).rst + 100)
    go (quiet n) = inl (inl n)
    go (holds h) = inl (inr h.drive)
    go (lingers off) = lags off (same_set (drives p d) none) refl

union_rst : (x y : LineSet) → x ≡ record none { rst = x.rst } → y ≡ record none { rst = y.rst }
    → union x y ≡ record none { rst = (union x y).rst }
union_rst x y a b = (λ i. union (a i) (b i))

below_rst : (f : ℕ → LineSet) (m : ℕ) → ((d : ℕ) → d < m → f d ≡ record none { rst = (f d).rst })
    → union_below f m ≡ record none { rst = (union_below f m).rst }
unfolding union_below
below_rst f zero h = refl
below_rst f (suc m) h =
    union_rst (union_below f m) (f m) (below_rst f m (λ d lt. h d (omega arith))) (h m (omega arith))

all_or : (p : List Row) (t : ℕ) (m : ℕ)
    → ((d : ℕ) → d < m → ((drives p d ≡ none) ⊎ (drives p d ≡ only_rst)) ⊎ (t ≤ (line_times p).rst + 100))
    → ((d : ℕ) → d < m → (drives p d ≡ none) ⊎ (drives p d ≡ only_rst)) ⊎ (t ≤ (line_times p).rst + 100)
all_or p t zero f = inl (λ d lt. absurd (omega arith))
all_or p t (suc m) f =
    elim (all_or p t m (λ d lt. f d (omega arith))) [
      | inr l ↦ inr l
      | inl g ↦ elim (f m (omega arith)) [
        | inr l ↦ inr l
        | inl h ↦ inl (λ d lt. elim (cases_eq d m) [
          | inl same ↦ subst (λ (i : ℕ). (drives p i ≡ none) ⊎ (drives p i ≡ only_rst)) (sym same) h
          | inr ne ↦ g d (omega arith)
        ])
      ]
    ]

-- Before the next row no line but RST is true, or it comes within a bus clear delay of the rise of RST.
quiet_enough : (s : ScenarioValue) (p : List Row) (row : Row)
    → HasShortLatencies s → Standing s p → UnderRst s p → IsLeast (due s p) 8 row
    → (nat_le row.time ((line_times p).rst + BUS_CLEAR_DELAY) || is_within (bus p) only_rst) ≡ true
quiet_enough s p row fits st rs m =
    elim (all_or p row.time 8 (lingering s p row fits st rs m)) [
      | inr l ↦ or_left (nat_le row.time ((line_times p).rst + BUS_CLEAR_DELAY)) (is_within (bus p) only_rst)
          (le-leb row.time ((line_times p).rst + BUS_CLEAR_DELAY) (omega arith))
      | inl g ↦
          let b : bus p ≡ record none { rst = (bus p).rst } = below_rst
          (drives p) 8 (λ d lt. within_rst (drives p d) (g d lt)) in
          let c : bus p ≡ only_rst = b ∙ (λ i. record none { rst = rs.reset i }) in
          or_right (nat_le row.time ((line_times p).rst + BUS_CLEAR_DELAY)) (is_within (bus p) only_rst)
          (ap (λ (x : LineSet). is_within x only_rst) c)
    ]

-- ---- what is due after a row after which RST is true

-- A device holds RST, or not, and then what it drives.
ahead_in_reset : (s : ScenarioValue) (p : List Row) (row : Row) → AreOfDevices p → row.dev < 8 → IsLeast (due s p) 8 row
    → ((x : Due) → (d : ℕ) → d < 8 → (drives (row ∷ p) d).rst ≡ true → due s (row ∷ p) d ≡ Some x → row.time ≤ x.time)
    → ((bus (row ∷ p)).rst ≡ true)
    → ((d lat : ℕ) → d < 8 → latency_of s d ≡ Some lat → (x : Due) → (drives (row ∷ p) d).rst ≡ false
    → bus_clear (device_with d lat (drives (row ∷ p) d) (own_time (row ∷ p) d)) (line_times (row ∷ p)).rst ≡ Some x
    → row.time ≤ x.time) → (d : ℕ) → d < 8 → (x : Due) → due s (row ∷ p) d ≡ Some x → row.time ≤ x.time
ahead_in_reset s p row h lt m held rst clear d ld x e = go (drives (row ∷ p) d).rst refl
  where
    go : (q : Bool) → (drives (row ∷ p) d).rst ≡ q → row.time ≤ x.time
    go true on = held x d ld on e
    go false off =
        let l = due_there s (row ∷ p) d x e in
        elim (one_of (reset_due s (row ∷ p) d)
        (bus_clear (device_with d l.latency (drives (row ∷ p) d) (own_time (row ∷ p) d)) (line_times (row ∷ p)).rst) x
        (sym (calm_in_reset s (row ∷ p) d l.latency (lt, h) ld l.latency_is rst off) ∙ e)) [
          | inl r ↦ resets_ahead s p row h m d ld off x r
          | inr c ↦ clear d l.latency ld l.latency_is x off c
        ]

-- ---- a row under RST after which RST is true

-- What a device does that raised RST in this row, or drives nothing after it.
pub record Does (s : ScenarioValue) (q : List Row) (d t : ℕ) : Type 0 where
  pub stands : IsUnderRst q d
  pub held : (x : Due) → (drives q d).rst ≡ true → due s q d ≡ Some x → t ≤ x.time
  pub cleared : (lat : ℕ) (x : Due) → (drives q d).rst ≡ false
      → bus_clear (device_with d lat (drives q d) (own_time q d)) (line_times q).rst ≡ Some x → t ≤ x.time

goes_on : (p : List Row) (t d : ℕ) (l : LineSet) (e : ℕ) → e ≢ d
    → since_line (λ x. x.rst) (row_of_lines t d l ∷ p) ≡ since_line (λ x. x.rst) p → IsUnderRst p e
    → IsUnderRst (row_of_lines t d l ∷ p) e
goes_on p t d l e ne since (quiet n) = quiet (drives_other p t d l e ne ∙ n)
goes_on p t d l e ne since (holds h) =
    let o = ap (λ (x : Own). x.rst) (own_other p (row_of_lines t d l) e ne) in
    holds (record {
      drive = drives_other p t d l e ne ∙ h.drive;
      raised_at = raised_other (λ x. x.rst) p t d l e ne ∙ h.raised_at ∙ sym o;
      not_before = let w = h.not_before in omega arith;
    })
goes_on p t d l e ne since (lingers off) = lingers (ap (λ (x : LineSet). x.rst) (drives_other p t d l e ne) ∙ off)

stays : (s : ScenarioValue) (p : List Row) (t d : ℕ) (l : LineSet) → Standing s p → UnderRst s p
    → IsLeast (due s p) 8 (row_of_lines t d l) → (bus (row_of_lines t d l ∷ p)).rst ≡ true
    → Does s (row_of_lines t d l ∷ p) d t → broken_rule p (row_of_lines t d l) ≡ None → NextRow s p (row_of_lines t d l)
stays s p t d l st rs m on mine obeys =
    let row : Row = row_of_lines t d l in
    let q : List Row = row ∷ p in
    let devices : AreOfDevices q = (m.inside, st.devices) in
    let since : since_line (λ x. x.rst) q ≡ since_line (λ x. x.rst) p =
    since_is (λ x. x.rst) p row (bus p) (bus q) refl refl
    ∙ (λ i. newer_line (rs.reset i) (on i) (since_line (λ x. x.rst) p) t) in
    let change : change_of p row ≡ change_to (bus p) (bus q) (drives p d) l = change_is p t d l l
    (bus p) (bus q) (drives p d) refl refl refl refl in
    record {
      order = st.ahead d m.inside (record { time = t; kind = Drives l }) m.is_due;
      obeys = obeys;
      ahead = λ _. ahead_in_reset s p row st.devices m.inside m
          (λ x e le on_e r. elim (cases_eq e d) [
            | inl same ↦ mine.held x (ap (λ (u : ℕ). (drives q u).rst) (sym same) ∙ on_e) (ap (due s q) (sym same) ∙ r)
            | inr ne ↦
                let h = due_there s q e x r in
                let was : (drives p e).rst ≡ true = ap (λ (y : LineSet). y.rst) (sym (drives_other p t d l e ne))
                ∙ on_e in
                let own = ap (λ (y : Own). y.rst) (own_other p row e ne) in
                let z : due s p e ≡ Some x = due_holding s p e h.latency st.devices le h.latency_is was
                ∙ ap (λ (y : ℕ). due_at (y + 25000 + h.latency) none) (sym own)
                ∙ sym (due_holding s q e h.latency devices le h.latency_is on_e) ∙ r in
                m.first e le x z
          ])
          on
          (λ e lat le there x off c. elim (cases_eq e d) [
            | inl same ↦ mine.cleared lat x (ap (λ (u : ℕ). (drives q u).rst) (sym same) ∙ off)
                (ap (λ (u : ℕ). bus_clear (device_with u lat (drives q u) (own_time q u)) (line_times q).rst) (sym same)
                ∙ c)
            | inr ne ↦
                let was : (drives p e).rst ≡ false = ap (λ (y : LineSet). y.rst) (sym (drives_other p t d l e ne))
                ∙ off in
                let same : bus_clear (device_with e lat (drives p e) (own_time p e)) (line_times p).rst ≡ Some x =
                (λ i. bus_clear (device_with e lat (sym (drives_other p t d l e ne) i)
                (sym (ap (λ (y : Own). y.row) (own_other p row e ne)) i)) (sym since i)) ∙ c in
                let z = comes_by (reset_due s p e)
                (bus_clear (device_with e lat (drives p e) (own_time p e)) (line_times p).rst) x same in
                let w = m.first e le z.x (calm_in_reset s p e lat st.devices le there rs.reset was ∙ z.is) in
                let v = z.le in
                omega arith
          ]);
      here = in_reset (record {
        reset = on;
        each = λ e le. elim (cases_eq e d) [
          | inl same ↦ subst (λ (u : ℕ). IsUnderRst q u) (sym same) mine.stands
          | inr ne ↦ goes_on p t d l e ne since (rs.each e le)
        ];
        link = link_in_reset s p row (change_to (bus p) (bus q) (drives p d) l) st.devices m.inside change on;
      });
    }

-- ---- it raises RST

adds_rst : (o : LineSet) → union (union only_rst o) only_rst ≡ union only_rst o
adds_rst o =
    λ i. record {
      data_bits = or_zero_r (bit_or 0 o.data_bits) i;
      bsy = or_false o.bsy i;
      sel = or_false o.sel i;
      cd = or_false o.cd i;
      io = or_false o.io i;
      msg = or_false o.msg i;
      req = or_false o.req i;
      ack = or_false o.ack i;
      atn = or_false o.atn i;
      rst = true;
    }

rst_alone : (o : LineSet) → is_within only_rst (union only_rst o) ≡ true
rst_alone o = ap (λ (x : LineSet). same_set x (union only_rst o)) (adds_rst o) ∙ same_set-self (union only_rst o)

no_fall : (o : LineSet) (r : Bool) → o.rst ≡ false → implies (falls o.rst true) r ≡ true
no_fall o r e = λ i. implies (falls (e i) true) r

no_fall_none : (o : LineSet) (r : Bool) → o.rst ≡ false → implies (falls o.rst false) r ≡ true
no_fall_none o r e = λ i. implies (falls (e i) false) r

raising : (s : ScenarioValue) (p : List Row) (t d : ℕ) → AreOfDevices p → d < 8 → (drives p d).rst ≡ false
    → since_line (λ x. x.rst) (row_of_lines t d only_rst ∷ p) ≤ t → Does s (row_of_lines t d only_rst ∷ p) d t
raising s p t d h lt off since =
    let q : List Row = row_of_lines t d only_rst ∷ p in
    let own = drives_own p t d only_rst in
    let devices : AreOfDevices q = (lt, h) in
    let at_t : (own_of q d).rst ≡ t = rst_own p t d only_rst
    ∙ (λ i. if rises (off i) true then t else (own_of p d).rst) in
    record {
      stands = holds (record {
        drive = own;
        raised_at = raised_own (λ x. x.rst) p t d only_rst ∙ (λ i. raised_next (off i) true t (raised (λ x. x.rst) p d))
            ∙ sym at_t;
        not_before = omega arith;
      });
      held = λ x on r.
          let l = due_there s q d x r in
          let z = (is_at ((own_of q d).rst + 25000 + l.latency) none x
          (sym (due_holding s q d l.latency devices lt l.latency_is on) ∙ r)).time_is in
          omega arith;
      cleared = λ lat x e c. let w = sym (ap (λ (y : LineSet). y.rst) own) ∙ e in absurd cc;
    }

reset_keeps : (p : List Row) (t d : ℕ) → last_time p ≤ t
    → (drives p d).rst ≡ false → (bus (row_of_lines t d only_rst ∷ p)).rst ≡ true
    → implies (bus p).rst (nat_le t ((line_times p).rst + BUS_CLEAR_DELAY) || is_within (bus p) only_rst) ≡ true
    → broken_rule p (row_of_lines t d only_rst) ≡ None
reset_keeps p t d order off on quiet_ =
    let b' : LineSet = bus (row_of_lines t d only_rst ∷ p) in
    reset_row_obeys p t d only_rst (bus p) b' (drives p d)
    (change_is p t d only_rst only_rst (bus p) b' (drives p d) refl refl refl refl) (record {
      reset = or_right (bus p).rst b'.rst on;
      order = order;
      news = raises_rst (drives p d) off;
      alone = or_right _ (is_within only_rst (union only_rst (drives p d))) (rst_alone (drives p d));
      quiet = quiet_;
      holds = no_fall (drives p d) (nat_le (raised (λ y. y.rst) p d + 25000) t) off;
    })

pub raises_again : (s : ScenarioValue) (p : List Row) (t d : ℕ) → HasShortLatencies s → Standing s p
    → UnderRst s p → (drives p d).rst ≡ false → IsLeast (due s p) 8 (row_of_lines t d only_rst)
    → NextRow s p (row_of_lines t d only_rst)
raises_again s p t d fits st rs off m =
    let row : Row = row_of_lines t d only_rst in
    let q : List Row = row ∷ p in
    let order = st.ahead d m.inside (record { time = t; kind = Drives only_rst }) m.is_due in
    let on : (bus q).rst ≡ true = bus_on (λ y. y.rst) (λ _ _. refl) q d m.inside
    (ap (λ (y : LineSet). y.rst) (drives_own p t d only_rst)) in
    let since : since_line (λ x. x.rst) q ≤ t = let w = st.past (λ x. x.rst) in
    since_line_le (λ x. x.rst) row p (omega arith) in
    stays s p t d only_rst st rs m on (raising s p t d st.devices m.inside off since) (reset_keeps p t d order off on
    (or_right _ (nat_le t ((line_times p).rst + BUS_CLEAR_DELAY) || is_within (bus p) only_rst)
    (quiet_enough s p row fits st rs m)))

-- The first row of RST.
pub raises : (s : ScenarioValue) (p : List Row) (t d : ℕ) → Standing s p → (bus p).rst ≡ false
    → IsLeast (due s p) 8 (row_of_lines t d only_rst) → NextRow s p (row_of_lines t d only_rst)
raises s p t d st calm m =
    let row : Row = row_of_lines t d only_rst in
    let q : List Row = row ∷ p in
    let devices : AreOfDevices q = (m.inside, st.devices) in
    let off = off_at p calm d m.inside in
    let order = st.ahead d m.inside (record { time = t; kind = Drives only_rst }) m.is_due in
    let on : (bus q).rst ≡ true = bus_on (λ y. y.rst) (λ _ _. refl) q d m.inside
    (ap (λ (y : LineSet). y.rst) (drives_own p t d only_rst)) in
    let since : since_line (λ x. x.rst) q ≡ t = since_is (λ x. x.rst) p row (bus p) (bus q) refl refl
    ∙ (λ i. newer_line (calm i) (on i) (since_line (λ x. x.rst) p) t) in
    let mine = raising s p t d st.devices m.inside off (omega arith) in
    let other_off : (e : ℕ) → e < 8 → e ≢ d → (drives q e).rst ≡ false =
    λ e le ne. ap (λ (y : LineSet). y.rst) (drives_other p t d only_rst e ne) ∙ off_at p calm e le in
    let change : change_of p row ≡ change_to (bus p) (bus q) (drives p d) only_rst = change_is p t d only_rst only_rst
    (bus p) (bus q) (drives p d) refl refl refl refl in
    record {
      order = order;
      obeys = reset_keeps p t d order off on
          (λ i. implies (calm i) (nat_le t ((line_times p).rst + BUS_CLEAR_DELAY) || is_within (bus p) only_rst));
      ahead = λ _. ahead_in_reset s p row st.devices m.inside m
          (λ x e le on_e r. elim (cases_eq e d) [
            | inl same ↦ mine.held x (ap (λ (l : ℕ). (drives q l).rst) (sym same) ∙ on_e) (ap (due s q) (sym same) ∙ r)
            | inr ne ↦ let w = sym on_e ∙ other_off e le ne in absurd cc
          ])
          on
          (λ e lat le there x off_e c.
          let w = (is_cleared_at e lat x c) in
          omega arith);
      here = in_reset (record {
        reset = on;
        each = λ e le. elim (cases_eq e d) [
          | inl same ↦ subst (λ (l : ℕ). IsUnderRst q l) (sym same) mine.stands
          | inr ne ↦ lingers (other_off e le ne)
        ];
        link = link_in_reset s p row (change_to (bus p) (bus q) (drives p d) only_rst) st.devices m.inside change on;
      });
    }
  where
    is_cleared_at : (e lat : ℕ) (x : Due) → bus_clear
        (device_with e lat (drives (row_of_lines t d only_rst ∷ p) e) (own_time (row_of_lines t d only_rst ∷ p) e))
        (line_times (row_of_lines t d only_rst ∷ p)).rst ≡ Some x
        → x.time ≡ since_line (λ y. y.rst) (row_of_lines t d only_rst ∷ p) + lat
    is_cleared_at e lat x c =
        elim (cases_Bool (same_set (drives (row_of_lines t d only_rst ∷ p) e) none)) [
          | inl f ↦ absurd (none-some x (rw f at c))
          | inr f ↦ (is_at (since_line (λ y. y.rst) (row_of_lines t d only_rst ∷ p) + lat) none x (rw f at c)).time_is
        ]

-- ---- a device releases its lines, or RST

-- What a device does that drives nothing after its row.
silent : (s : ScenarioValue) (p : List Row) (t d : ℕ) → Does s (row_of_lines t d none ∷ p) d t
silent s p t d =
    let own = drives_own p t d none in
    record {
      stands = quiet own;
      held = λ x on r. let w = sym on ∙ ap (λ (y : LineSet). y.rst) own in absurd cc;
      cleared = λ lat x off c. absurd
          (none-some x ((λ i. bus_clear (device_with d lat (sym own i) (own_time (row_of_lines t d none ∷ p) d))
          (line_times (row_of_lines t d none ∷ p)).rst) ∙ c));
    }

-- RST stays true where a device releases other lines.
stays_true : (p : List Row) (t d : ℕ) → (bus p).rst ≡ true → d < 8 → (drives p d).rst ≡ false
    → (bus (row_of_lines t d none ∷ p)).rst ≡ true
stays_true p t d rst lt off = go (bus q).rst refl
  where
    q : List Row
    q = row_of_lines t d none ∷ p

    all_off : (bus q).rst ≡ false → (e : ℕ) → e < 8 → (drives p e).rst ≡ false
    all_off h e le =
        elim (cases_eq e d) [
          | inl same ↦ ap (λ (m : ℕ). (drives p m).rst) same ∙ off
          | inr ne ↦ ap (λ (y : LineSet). y.rst) (sym (drives_other p t d none e ne)) ∙ off_at q h e le
        ]

    go : (r : Bool) → (bus q).rst ≡ r → (bus q).rst ≡ true
    go true h = h
    go false h = let w = sym rst ∙ bus_off (λ y. y.rst) (λ _ _. refl) refl p (all_off h) in absurd cc

pub clears : (s : ScenarioValue) (p : List Row) (t d : ℕ) → HasShortLatencies s → Standing s p → UnderRst s p
    → (drives p d).rst ≡ false → same_set (drives p d) none ≡ false → IsLeast (due s p) 8 (row_of_lines t d none)
    → NextRow s p (row_of_lines t d none)
clears s p t d fits st rs off some m =
    let row : Row = row_of_lines t d none in
    let b' : LineSet = bus (row ∷ p) in
    let order = st.ahead d m.inside (record { time = t; kind = Drives none }) m.is_due in
    let on = stays_true p t d rs.reset m.inside off in
    stays s p t d none st rs m on (silent s p t d) (reset_row_obeys p t d none (bus p) b' (drives p d)
    (change_is p t d none none (bus p) b' (drives p d) refl refl refl refl) (record {
      reset = or_left (bus p).rst b'.rst rs.reset;
      order = order;
      news = some;
      alone = or_right _ (is_within none (union only_rst (drives p d))) (none_within (union only_rst (drives p d)));
      quiet = or_right _ (nat_le t ((line_times p).rst + BUS_CLEAR_DELAY) || is_within (bus p) only_rst)
          (quiet_enough s p row fits st rs m);
      holds = no_fall_none (drives p d) (nat_le (raised (λ y. y.rst) p d + 25000) t) off;
    }))

release_keeps : (s : ScenarioValue) (p : List Row) (t d : ℕ) → HasShortLatencies s → Standing s p
    → UnderRst s p → HoldsReset p d → (own_of p d).rst + 25000 ≤ t → IsLeast (due s p) 8 (row_of_lines t d none)
    → broken_rule p (row_of_lines t d none) ≡ None
release_keeps s p t d fits st rs h wait m =
    let row : Row = row_of_lines t d none in
    let b' : LineSet = bus (row ∷ p) in
    let order = st.ahead d m.inside (record { time = t; kind = Drives none }) m.is_due in
    reset_row_obeys p t d none (bus p) b' only_rst
    (change_is p t d none none (bus p) b' only_rst refl refl refl h.drive) (record {
      reset = or_left (bus p).rst b'.rst rs.reset;
      order = order;
      news = refl;
      alone = or_right _ true refl;
      quiet = or_right _ (nat_le t ((line_times p).rst + BUS_CLEAR_DELAY) || is_within (bus p) only_rst)
          (quiet_enough s p row fits st rs m);
      holds = le-leb (raised (λ y. y.rst) p d + 25000) t (let w = h.raised_at in omega arith);
    })

-- What stands on the bus after a row that leaves no line true, RST having been the last.
empty_arbitration : (a : Option Arbitration) (f t d : ℕ)
    → arbitration_after a f (change_to only_rst none only_rst none) (row_of_lines t d none) ≡ None
empty_arbitration None f t d = refl
empty_arbitration (Some a) f t d = refl

empty_connection : (o : Option Connection) (c : Option Call) (t d : ℕ)
    → connection_after o c (change_to only_rst none only_rst none) (row_of_lines t d none) ≡ None
empty_connection None c t d = refl
empty_connection (Some n) c t d = refl

-- The last device releases RST, and the bus is free.
frees : (s : ScenarioValue) (p : List Row) (t d : ℕ) → HasShortLatencies s → Standing s p → UnderRst s p
    → HoldsReset p d → (own_of p d).rst + 25000 ≤ t → IsLeast (due s p) 8 (row_of_lines t d none)
    → (bus (row_of_lines t d none ∷ p)).rst ≡ false → NextRow s p (row_of_lines t d none)
frees s p t d fits st rs h wait m off =
    let row : Row = row_of_lines t d none in
    let q : List Row = row ∷ p in
    let devices : AreOfDevices q = (m.inside, st.devices) in
    let order = st.ahead d m.inside (record { time = t; kind = Drives none }) m.is_due in
    let own = drives_own p t d none in
    let others : (e : ℕ) → e < 8 → e ≢ d → drives p e ≡ none = λ e le ne. elim (lingering s p row fits st rs m e le) [
      | inl g ↦ elim g [
        | inl n ↦ n
        | inr o ↦
            let w = sym (ap (λ (y : LineSet). y.rst) (drives_other p t d none e ne ∙ o)) ∙ off_at q off e le in
            absurd cc
      ]
      | inr soon ↦ let w = h.not_before in absurd (omega arith)
    ] in
    let rest : (e : ℕ) → e < 8 → drives q e ≡ none = λ e le. elim (cases_eq e d) [
      | inl same ↦ ap (drives q) same ∙ own
      | inr ne ↦ drives_other p t d none e ne ∙ others e le ne
    ] in
    let before : bus p ≡ only_rst = bus_one p d m.inside others ∙ h.drive in
    let after : bus q ≡ none = bus_none q rest in
    let change : change_of p row ≡ change_to only_rst none only_rst none = change_is
    p t d none none only_rst none only_rst refl before after h.drive in
    let goes = stands_by p row (change_to only_rst none only_rst none) only_rst (arbitration p) (call p)
    (connection p) (record { bus_is = before; arbitration_is = refl; call_is = refl; connection_is = refl }) change in
    let stands : Stands q none None None None = record {
      bus_is = after;
      arbitration_is = goes.arbitration_is ∙ empty_arbitration (arbitration p) (free_since p) t d;
      call_is = goes.call_is;
      connection_is = goes.connection_is ∙ empty_connection (connection p) (call p) t d;
    } in
    let here : stage q ≡ OnFreeBus (free_since q) = stage_is q _ _ _ _ stands in
    let since : since_line (λ x. x.rst) q ≡ t = since_is (λ x. x.rst) p row only_rst none before after in
    record {
      order = order;
      obeys = release_keeps s p t d fits st rs h wait m;
      ahead = λ _ e le x r.
          let l = due_there s q e x r in
          elim (one_of (reset_due s q e) (unreset_due s q e) x
          (sym (due_calm s q e devices le (ap (λ (y : LineSet). y.rst) (rest e le))) ∙ r)) [
            | inl z ↦ resets_ahead s p row st.devices m e le (ap (λ (y : LineSet). y.rst) (rest e le)) x z
            | inr c ↦
                let w = is_there s q e x c in
                let v = (is_entry e w.0 (own_time q e) (free_since q) none (want_time s (run_state s q) e) x
                (sym (free_due_is s q e w.0 (free_since q) devices le w.1 stands.connection_is here (rest e le))
                ∙ c)).after_free in
                omega arith
          ];
      here = on_free_bus (record {
        stands = stands;
        quiet = rest;
        link = link_apart s p row (change_to only_rst none only_rst none) st.devices m.inside change refl
            stands.connection_is rs.link;
      });
    }

pub releases : (s : ScenarioValue) (p : List Row) (t d : ℕ) → HasShortLatencies s → Standing s p → UnderRst s p
    → HoldsReset p d → (own_of p d).rst + 25000 ≤ t → IsLeast (due s p) 8 (row_of_lines t d none)
    → NextRow s p (row_of_lines t d none)
releases s p t d fits st rs h wait m =
    elim (cases_Bool ((bus (row_of_lines t d none ∷ p)).rst)) [
      | inl e ↦ stays s p t d none st rs m e (silent s p t d) (release_keeps s p t d fits st rs h wait m)
      | inr e ↦ frees s p t d fits st rs h wait m e
    ]

-- ---- any row under RST

pub from_reset : (s : ScenarioValue) (p : List Row) (row : Row) → HasShortLatencies s → Standing s p → UnderRst s p
    → IsLeast (due s p) 8 row → NextRow s p row
from_reset s p row fits st rs m = go (drives p row.dev).rst refl (rs.each row.dev m.inside)
  where
    x : Due
    x = record { time = row.time; kind = row.kind }

    holding : HoldsReset p row.dev → NextRow s p row
    holding h =
        let l = due_there s p row.dev x m.is_due in
        let z = is_at ((own_of p row.dev).rst + 25000 + l.latency) none x
        (sym (due_holding s p row.dev l.latency st.devices m.inside l.latency_is (ap (λ (y : LineSet). y.rst) h.drive))
        ∙ m.is_due) in
        let e : row ≡ row_of_lines row.time row.dev none = row_is row none z.kind_is in
        let wait : (own_of p row.dev).rst + 25000 ≤ row.time = let w = z.time_is in omega arith in
        subst (λ (r : Row). NextRow s p r) (sym e)
        (releases s p row.time row.dev fits st rs h wait (subst (λ (r : Row). IsLeast (due s p) 8 r) e m))

    not_holding : (drives p row.dev).rst ≡ false → NextRow s p row
    not_holding off =
        let l = due_there s p row.dev x m.is_due in
        elim (one_of (reset_due s p row.dev)
        (bus_clear (device_with row.dev l.latency (drives p row.dev) (own_time p row.dev)) (line_times p).rst) x
        (sym (calm_in_reset s p row.dev l.latency st.devices m.inside l.latency_is rs.reset off) ∙ m.is_due)) [
          | inl r ↦
              let e : row ≡ row_of_lines row.time row.dev only_rst = row_is row only_rst
              (own_reset_is s p row.dev x r).kind_is in
              subst (λ (r : Row). NextRow s p r) (sym e)
              (raises_again s p row.time row.dev fits st rs off (subst (λ (r : Row). IsLeast (due s p) 8 r) e m))
          | inr c ↦
              let z = clear_is s p row.dev l.latency x l.latency_is c in
              let e : row ≡ row_of_lines row.time row.dev none = row_is row none z.kind_is in
              subst (λ (r : Row). NextRow s p r) (sym e) (clears s p row.time row.dev fits st rs off z.drives_some
              (subst (λ (r : Row). IsLeast (due s p) 8 r) e m))
        ]

    go : (q : Bool) → (drives p row.dev).rst ≡ q → IsUnderRst p row.dev → NextRow s p row
    go false off u = not_holding off
    go true on (quiet n) = let w = sym on ∙ ap (λ (y : LineSet). y.rst) n in absurd cc
    go true on (holds h) = holding h
    go true on (lingers off) = let w = sym on ∙ off in absurd cc
