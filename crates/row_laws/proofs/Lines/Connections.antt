-- A row of a connection of a prompt trace, before and after which RST is false; and the first row of one.
use Rattle.row_laws.proofs
use proofs.Names.{◌≡◌, ◌<◌, Bool, true, false, not, ◌&&◌, ◌||◌, ◌∙◌, List, ◌∷◌, Some, None, refl, sym, ap, subst}
use proofs.Names.{same_Some, is_some, if◌then◌else◌, wrong, bus_on, change_of, implies, LineSet, call, connection}
use proofs.Names.{connection_after, bus, drives, Row, Change, Connection, only_rst, ScenarioValue, Obeys, row_reading}
use proofs.Names.{begun, run_state_plain, IsLeast, due, IsPrompt, AreOfDevices, RunState, run_state, obeys_fits}
use proofs.Names.{seats_are, GoesOn, RowOf, row_apart, begins, goes_on as row_goes_on, row_ends, under_reset}
use proofs.Names.{change_plain, drives_own, least_is, from_stage, by_calm, reset_or_calm, by_reset, obeys_latencies}
use proofs.Names.{unreset_due, row_of_lines, link_calm, LinkStage, when_selected, when_settling, when_turning}
use proofs.{Names.{when_offering, when_shaking, when_pulsing, AnyStage, apart, linked}, Bytes.Blocks.{commands_are}}
use proofs.{Bytes.Facts.{byte_values}, Common.Impossible.{none_some}, Lines.Crossings.{RowFacts, row_facts, Goes}}
use proofs.Lines.{Crossings.{stays, ends_here}, First.{IsFirst, is_first}, Joint.{Stood, link_connection, values_of}}
use proofs.Lines.{Joint.{apart_connection}, Rows.{LinkRow, link_row}, Steps.{HasValues}}

-- ---- what stands

pub link_low : (s : ScenarioValue) (p : List Row) (n : Connection) → LinkStage s p n → begun p ≡ true
    → implies (bus p).atn ((bus p).io || (bus p).msg) ≡ true
link_low s p n (when_selected h) b = wrong (sym b ∙ h.begun_is)
link_low s p n (when_settling bsy atn msg cd io y h) b =
    (λ i. implies (h.linked.stands.bus_is i).atn ((h.linked.stands.bus_is i).io || (h.linked.stands.bus_is i).msg))
    ∙ h.phase.asks
link_low s p n (when_turning atn x msg cd h) b =
    (λ i. implies (h.linked.stands.bus_is i).atn ((h.linked.stands.bus_is i).io || (h.linked.stands.bus_is i).msg))
    ∙ h.phase.asks
link_low s p n (when_offering atn msg cd y h) b =
    (λ i. implies (h.linked.stands.bus_is i).atn ((h.linked.stands.bus_is i).io || (h.linked.stands.bus_is i).msg))
    ∙ h.phase.asks
link_low s p n (when_shaking msg cd io req ack atn x y h) b =
    (λ i. implies (h.linked.stands.bus_is i).atn ((h.linked.stands.bus_is i).io || (h.linked.stands.bus_is i).msg))
    ∙ h.phase.asks
link_low s p n (when_pulsing io req ack atn x y h a) b =
    (λ i. implies (h.linked.stands.bus_is i).atn ((h.linked.stands.bus_is i).io || (h.linked.stands.bus_is i).msg))
    ∙ h.phase.asks

pub stage_of_connection : (s : ScenarioValue) (p : List Row) (n : Connection) → Stood s p → connection p ≡ Some n
    → (bus p).rst ≡ false → LinkStage s p n
stage_of_connection s p n was con calm = go was.here
  where
    go : AnyStage s p → LinkStage s p n
    go (linked m h) =
        subst (λ (x : Connection). LinkStage s p x) (same_Some m n (sym (link_connection s p m h) ∙ con)) h
    go (apart h alone) = wrong (sym (λ i. is_some (con i) && not (calm i)) ∙ alone)

-- ---- a row of the connection

pub record ConnectionRow (s : ScenarioValue) (p : List Row) (row : Row) (n : Connection) : Type 0 where
  pub stage : LinkStage s p n
  pub link : LinkRow s p n row
  pub facts : RowFacts s p row n

pub connection_row : (s : ScenarioValue) (p : List Row) (row : Row) (n : Connection) → Obeys s → IsPrompt s (row ∷ p)
    → Stood s p → connection p ≡ Some n → (bus p).rst ≡ false → (bus (row ∷ p)).rst ≡ false → ConnectionRow s p row n
connection_row s p row n o prompt was con calm off = elim (reset_or_calm s p row was.standing calm m) [
  | by_reset z ↦ wrong (sym (rst_on z) ∙ off)
  | by_calm always least ↦ rows least
]
  where
    m : IsLeast (due s p) 8 row
    m = least_is s p row prompt.1

    h : LinkStage s p n
    h = stage_of_connection s p n was con calm

    dv : AreOfDevices p
    dv = was.standing.devices

    rst_on : row ≡ row_of_lines row.time row.dev only_rst → (bus (row ∷ p)).rst ≡ true
    rst_on z =
        bus_on (λ y. y.rst) (λ _ _. refl) (row ∷ p) row.dev m.inside (ap (λ (w : Row). (drives (w ∷ p) row.dev).rst) z
        ∙ ap (λ (l : LineSet). l.rst) (drives_own p row.time row.dev only_rst))

    values : HasValues s p n
    values = values_of s p n (commands_are s o) dv (byte_values s p n o (seats_are s (obeys_fits s o)) dv)

    rows : IsLeast (unreset_due s p) 8 row → ConnectionRow s p row n
    rows least =
        let link = link_row s p row n dv h least in
        record { stage = h; link = link; facts = row_facts s p row n dv values (was.driven n con calm) link }

-- It goes on with the row.
pub record GoingRow (s : ScenarioValue) (p : List Row) (row : Row) (n : Connection) : Type 0 where
  pub change : Change
  pub change_is : change ≡ change_of p row
  pub goes : GoesOn s (run_state s p) row n change
  pub lines : Goes s p row n
  pub lines_are : lines.change ≡ change

pub record IsGoing (s : ScenarioValue) (k : RunState) (row : Row) (n : Connection) : Type 0 where
  pub change : Change
  pub goes : GoesOn s k row n change

pub going : (s : ScenarioValue) (k : RunState) (row : Row) (n : Connection) → k.story.bus_state.connection ≡ Some n
    → (row_reading k.story.bus_state row).next ≡ Some n → (row_reading k.story.bus_state row).change.after.rst ≡ false
    → RowOf s k row → IsGoing s k row n
going s k row n con next calm (row_apart e f) = absurd (none_some n (sym e ∙ con))
going s k row n con next calm (begins m b) = absurd (none_some n (sym b.first.connection_is ∙ con))
going s k row n con next calm (row_goes_on m c g) = record {
  change = c;
  goes = subst (λ (x : Connection). GoesOn s k row x c) (same_Some m n (sym g.row_is.connection_is ∙ con)) g;
}
going s k row n con next calm (row_ends m g) = absurd (none_some n (sym g.next_is ∙ next))
going s k row n con next calm (under_reset r e) = wrong (sym r ∙ calm)

pub going_row : (s : ScenarioValue) (p : List Row) (row : Row) (n : Connection) → AreOfDevices p → row.dev < 8
    → connection p ≡ Some n → connection (row ∷ p) ≡ Some n → (bus (row ∷ p)).rst ≡ false → RowOf s (run_state s p) row
    → RowFacts s p row n → GoingRow s p row n
going_row s p row n dv lt con after calm of (stays f) =
    let k = run_state s p in
    let pl = run_state_plain s p dv in
    let c = change_plain s row p dv lt in
    let g = going s k row n (pl.connection ∙ con) ((λ i. connection_after (pl.connection i) (pl.call i) (c i) row)
    ∙ after) (ap (λ (x : Change). x.after.rst) c ∙ calm) of in
    record {
      change = g.change;
      change_is = sym g.goes.row_is.change_is ∙ c;
      goes = g.goes;
      lines = f;
      lines_are = sym f.row_is.change_is ∙ g.goes.row_is.change_is;
    }
going_row s p row n dv lt con after calm of (ends_here f) = absurd (none_some n (sym f.stopped ∙ after))

-- ---- the first row of a connection

pub data RowKindOf (s : ScenarioValue) (p : List Row) (row : Row) (n : Connection) : Type 0 where
  begins_now : connection p ≡ None → IsFirst s p row n → RowKindOf s p row n
  goes_now : connection p ≡ Some n → (bus p).rst ≡ false → RowKindOf s p row n

-- After a row a connection stands: it begins with it, or goes on.
pub row_kind : (s : ScenarioValue) (p : List Row) (row : Row) (n : Connection) → Obeys s → IsPrompt s (row ∷ p)
    → Stood s p → connection (row ∷ p) ≡ Some n → (bus (row ∷ p)).rst ≡ false → RowKindOf s p row n
row_kind s p row n o prompt was after calm = go was.here
  where
    m : IsLeast (due s p) 8 row
    m = least_is s p row prompt.1

    same : (x : Connection) (q : Bool) → (if q then Some x else None) ≡ Some n → x ≡ n
    same x true e = same_Some x n e
    same x false e = absurd (none_some n e)

    go : AnyStage s p → RowKindOf s p row n
    go (linked x h) =
        let con = link_connection s p x h in
        let is = same x (bus (row ∷ p)).bsy
        (sym (λ i. connection_after (con i) (call p) (change_of p row) row) ∙ after) in
        goes_now (con ∙ ap (λ (y : Connection). Some y) is) (link_calm s p x h)
    go (apart h alone) =
        let g = from_stage s p row (obeys_latencies s o) was.standing h alone m in
        let none = apart_connection s p row m.inside g.obeys h alone calm in
        begins_now none (is_first s p row n was.standing h none calm after m g)
