-- The stages together: the next row keeps all that holds, and what holds after it.
use Rattle.bus_laws.proofs
use proofs.Names.{inl, inr, ℕ, ◌≡◌, ◌<◌, ◌≤◌, Bool, false, not, ◌&&◌, ◌∙◌, List, [], ◌∷◌, Option, Some, None, refl, sym}
use proofs.Names.{ap, subst, arith, cases_eq, is_some, since_le, since_line_le, drives-other, LineSet, connection, bus}
use proofs.Names.{last_time, union_below, Row, Arbitration, Connection, Call, row_none, only_rst, broken_rule}
use proofs.Names.{ScenarioValue, Due, IsLeast, due, AreOfDevices, unreset_due, reset_due, row_of_lines, Stands}
use proofs.Names.{HasShortLatencies, CalmStanding, AreAhead, BusStage, on_free_bus, in_arbitration, after_arbitration}
use proofs.Names.{with_both_ids, awaiting_answer, after_withdrawal, after_answer, after_takeover, in_reset}
use proofs.{Names.{in_connection, NextCalmRow, HasDevice, Standing, NextRow, is_connected}, Lines.Rows.{own_time_le}}
use proofs.Resets.{Dues.{one_of, comes_by, due_calm, due_there, own_reset_is}, Rows.{off_at, resets_ahead}}
use proofs.{Resets.Steps.{from_reset, raises}, Stages.Answer.{from_withdrawn, from_answered, from_resumed}}
use proofs.Stages.{Arbitration.{from_arbitration}, Calling.{from_calls, from_asking}, Free.{from_free, row_is}}
use proofs.Stages.Won.{from_won}

-- ---- before the first row

pub standing_first : (s : ScenarioValue) → Standing s []
standing_first s = record {
  devices = tt;
  lawful = tt;
  ahead = λ d lt x e. omega arith;
  past = λ on. omega arith;
  seen_past = λ see. omega arith;
  own_past = λ d. omega arith;
  there = λ d lt. inl refl;
}

pub stage_first : (s : ScenarioValue) → BusStage s []
unfolding union_below
stage_first s = on_free_bus (record {
  stands = record { bus_is = refl; arbitration_is = refl; call_is = refl; connection_is = refl };
  quiet = λ d lt. refl;
  link = refl;
})

-- ---- after a row

pub standing_after : (s : ScenarioValue) (p : List Row) (row : Row) → Standing s p
    → IsLeast (due s p) 8 row → last_time p ≤ row.time → broken_rule p row ≡ None
    → ((d : ℕ) → d < 8 → (x : Due) → due s (row ∷ p) d ≡ Some x → row.time ≤ x.time) → Standing s (row ∷ p)
standing_after s p row st m order obeys ahead = record {
  devices = (m.inside, st.devices);
  lawful = (st.lawful, (row_none p row).0 obeys);
  ahead = ahead;
  past = λ on. let w = st.past on in since_line_le on row p (omega arith);
  seen_past = λ see. let w = st.seen_past see in since_le see row p (omega arith);
  own_past = λ e. let w = st.own_past e in own_time_le p row.time row.dev row.kind e (omega arith);
  there = λ d lt. elim (cases_eq d row.dev) [
    | inl same ↦ inr (subst (λ (i : ℕ). HasDevice s i) (sym same)
        (due_there s p row.dev (record { time = row.time; kind = row.kind }) m.is_due))
    | inr ne ↦ elim (st.there d lt) [
      | inl n ↦ inl (drives-other row p d ne ∙ n)
      | inr h ↦ inr h
    ]
  ];
}

pub standing_next : (s : ScenarioValue) (p : List Row) (row : Row) → Standing s p → IsLeast (due s p) 8 row
    → NextRow s p row → is_connected (row ∷ p) ≡ false → Standing s (row ∷ p)
standing_next s p row st m g apart = standing_after s p row st m g.order g.obeys (g.ahead apart)

-- ---- a row where RST is false

pub always_is : (s : ScenarioValue) (p : List Row) → Standing s p → (bus p).rst ≡ false → CalmStanding s p
always_is s p st calm = record {
  devices = st.devices;
  lawful = st.lawful;
  ahead = λ d lt x e.
      let z = comes_by (reset_due s p d) (unreset_due s p d) x e in
      let w = st.ahead d lt z.x (due_calm s p d st.devices lt (off_at p calm d lt) ∙ z.is) in
      let l = z.le in
      omega arith;
  past = st.past;
  seen_past = st.seen_past;
  own_past = st.own_past;
}

pub not_linked : (o : Option Connection) (r : Bool) → (is_some o && not r) ≡ false → r ≡ false → o ≡ None
not_linked None r e f = refl
not_linked (Some n) r e f = let w = ap (λ (q : Bool). not q) f in let v = sym e ∙ w in absurd cc

-- The resets that are still to come lie ahead, too.
pub ahead_with_resets : (s : ScenarioValue) (p : List Row) (row : Row) → Standing s p
    → IsLeast (due s p) 8 row → (bus (row ∷ p)).rst ≡ false → AreAhead s (row ∷ p) row.time → (d : ℕ) → d < 8
    → (x : Due) → due s (row ∷ p) d ≡ Some x → row.time ≤ x.time
ahead_with_resets s p row st m calm ahead d lt x e =
    let devices : AreOfDevices (row ∷ p) = (m.inside, st.devices) in
    let off = off_at (row ∷ p) calm d lt in
    elim
    (one_of (reset_due s (row ∷ p) d) (unreset_due s (row ∷ p) d) x (sym (due_calm s (row ∷ p) d devices lt off) ∙ e)) [
      | inl r ↦ resets_ahead s p row st.devices m d lt off x r
      | inr c ↦ ahead d lt x c
    ]

next_row : (s : ScenarioValue) (p : List Row) (row : Row) → Standing s p → IsLeast (due s p) 8 row → NextCalmRow s p row
    → NextRow s p row
next_row s p row st m g = record {
  order = g.order;
  obeys = g.obeys;
  ahead = λ apart. ahead_with_resets s p row st m g.calm
      (g.ahead (not_linked (connection (row ∷ p)) (bus (row ∷ p)).rst apart g.calm));
  here = g.here;
}

-- While no device drives RST, a row that is due without resets is the first that is.
pub calm_first : (s : ScenarioValue) (p : List Row) (row : Row)
    → Standing s p → (bus p).rst ≡ false → IsLeast (due s p) 8 row
    → unreset_due s p row.dev ≡ (let x : Due = record { time = row.time; kind = row.kind } in Some x)
    → IsLeast (unreset_due s p) 8 row
calm_first s p row st calm m is =
    let off = off_at p calm in
    record {
      inside = m.inside;
      is_due = is;
      first = λ d lt y e.
          let z = comes_by (reset_due s p d) (unreset_due s p d) y e in
          let w = m.first d lt z.x (due_calm s p d st.devices lt (off d lt) ∙ z.is) in
          let l = z.le in
          omega arith;
      highest = λ d lt y e t.
          let z = comes_by (reset_due s p d) (unreset_due s p d) y e in
          let g = due_calm s p d st.devices lt (off d lt) ∙ z.is in
          let w = m.first d lt z.x g in
          let l = z.le in
          m.highest d lt z.x g (omega arith);
    }

-- While no device drives RST the next row is the reset of a device, or the first that is due without resets.
pub data ResetOrCalm (s : ScenarioValue) (p : List Row) (row : Row) : Type 0 where
  by_reset : row ≡ row_of_lines row.time row.dev only_rst → ResetOrCalm s p row
  by_calm : CalmStanding s p → IsLeast (unreset_due s p) 8 row → ResetOrCalm s p row

pub reset_or_calm : (s : ScenarioValue) (p : List Row) (row : Row) → Standing s p → (bus p).rst ≡ false
    → IsLeast (due s p) 8 row → ResetOrCalm s p row
reset_or_calm s p row st calm m =
    let x : Due = record { time = row.time; kind = row.kind } in
    let off = off_at p calm in
    elim (one_of (reset_due s p row.dev) (unreset_due s p row.dev) x
    (sym (due_calm s p row.dev st.devices m.inside (off row.dev m.inside)) ∙ m.is_due)) [
      | inl r ↦ by_reset (row_is row only_rst (own_reset_is s p row.dev x r).kind_is)
      | inr c ↦ by_calm (always_is s p st calm) (calm_first s p row st calm m c)
    ]

calm_or_reset : (s : ScenarioValue) (p : List Row) (row : Row) → Standing s p → (bus p).rst ≡ false
    → IsLeast (due s p) 8 row → (CalmStanding s p → IsLeast (unreset_due s p) 8 row → NextCalmRow s p row)
    → NextRow s p row
calm_or_reset s p row st calm m goes =
    elim (reset_or_calm s p row st calm m) [
      | by_reset e ↦ subst (λ (w : Row). NextRow s p w) (sym e)
          (raises s p row.time row.dev st calm (subst (λ (w : Row). IsLeast (due s p) 8 w) e m))
      | by_calm always least ↦ next_row s p row st m (goes always least)
    ]

calm_bus : (p : List Row) (b : LineSet) (a : Option Arbitration) (c : Option Call) (o : Option Connection)
    → Stands p b a c o → b.rst ≡ false → (bus p).rst ≡ false
calm_bus p b a c o h e = ap (λ (x : LineSet). x.rst) h.bus_is ∙ e

-- ---- any row while no connection stands, or RST is true

pub from_stage : (s : ScenarioValue) (p : List Row) (row : Row) → HasShortLatencies s → Standing s p → BusStage s p
    → is_connected p ≡ false → IsLeast (due s p) 8 row → NextRow s p row
from_stage s p row fits st (on_free_bus h) apart m =
    calm_or_reset s p row st (calm_bus p _ _ _ _ h.stands refl) m (λ a l. from_free s p row a h l)
from_stage s p row fits st (in_arbitration a h) apart m =
    calm_or_reset s p row st (calm_bus p _ _ _ _ h.stands refl) m (λ w l. from_arbitration s p a row w h l)
from_stage s p row fits st (after_arbitration c t h) apart m =
    calm_or_reset s p row st (calm_bus p _ _ _ _ h.stands refl) m (λ a l. from_won s p c t row fits a h l)
from_stage s p row fits st (with_both_ids g c k t0 t e h) apart m =
    calm_or_reset s p row st (calm_bus p _ _ _ _ h.stands refl) m (λ a l. from_calls s p g c k t0 t row a e h l)
from_stage s p row fits st (awaiting_answer v g c k t0 t1 t2 x h) apart m = calm_or_reset s p row st
    (calm_bus p _ _ _ _ h.here.stands refl) m (λ a l. from_asking s p v g c k t0 t1 t2 x row fits a h l)
from_stage s p row fits st (after_withdrawal v g c k t0 t1 t2 t3 e h) apart m = calm_or_reset s p row st
    (calm_bus p _ _ _ _ h.stands refl) m (λ a l. from_withdrawn s p v g c k t0 t1 t2 t3 row a e h l)
from_stage s p row fits st (after_answer g c k t0 t1 t2 t3 x h) apart m = calm_or_reset s p row st
    (calm_bus p _ _ _ _ h.here.stands refl) m (λ a l. from_answered s p g c k t0 t1 t2 t3 x row a h l)
from_stage s p row fits st (after_takeover c k t0 t1 t2 t3 t4 x e f h) apart m = calm_or_reset s p row st
    (calm_bus p _ _ _ _ h.here.stands refl) m (λ a l. from_resumed s p c k t0 t1 t2 t3 t4 x row a e f h l)
from_stage s p row fits st (in_reset h) apart m = from_reset s p row fits st h m
from_stage s p row fits st (in_connection n e calm h) apart m =
    let w = sym apart ∙ (λ i. is_some (e i) && not (calm i)) in
    absurd cc
