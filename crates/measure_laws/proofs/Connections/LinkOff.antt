-- A row that is due in a connection, resets apart, leaves RST false.
use Rattle.measure_laws.proofs
use proofs.Names.{inl, inr, ℕ, ◌≡◌, ◌<◌, Bool, false, ◌∙◌, List, ◌∷◌, Option, Some, None, refl, ap, cases_eq, bus_off}
use proofs.Names.{drives-other, LineSet, connection, bus, drives, driven_after, Kind, Drives, Fault, Row, Connection}
use proofs.Names.{ScenarioValue, Serving, phase_leaving, phase_of, lines_by, Leaving, Phase, run_state, serving_at}
use proofs.Names.{off_at, connected_bus, ends, lines_are, stage_of_connection, LinkRow, link_row, drives_next}
use proofs.Connections.Parts.{CalmRow, FreesCalm}
use Rattle.progress_laws.specs.row_laws.proofs.Lines.Rows as rows

abbrev kind_rst : Kind → Bool
kind_rst (Drives l) = l.rst
kind_rst (Fault bit) = false

lines_off : (v : Serving) (io : Bool) (l : Leaving) (o : Option Phase) → (lines_by v io l o).rst ≡ false
lines_off v io l None = refl
lines_off v io l (Some phase) = ap (λ (x : LineSet). x.rst) (lines_are v io l false 0 phase).1

off_link : (s : ScenarioValue) (p : List Row) (n : Connection) (row : Row) → LinkRow s p n row
    → kind_rst row.kind ≡ false
off_link s p n row (rows.opens _ _ e) = ap (λ (r : Row). kind_rst r.kind) e
off_link s p n row (rows.strikes _ _ _ _ _ _ e) = ap (λ (r : Row). kind_rst r.kind) e
off_link s p n row (rows.hands _ _ _ _ _ _ _ _ e) = ap (λ (r : Row). kind_rst r.kind) e
off_link s p n row (rows.releases _ _ _ _ _ _ _ e) = ap (λ (r : Row). kind_rst r.kind) e
off_link s p n row (rows.answers _ _ _ _ _ _ _ _ _ e) = ap (λ (r : Row). kind_rst r.kind) e
off_link s p n row (rows.ends_ack_in _ _ _ _ _ _ _ _ e) = ap (λ (r : Row). kind_rst r.kind) e
off_link s p n row (rows.gives _ _ _ _ _ _ e) = ap (λ (r : Row). kind_rst r.kind) e
off_link s p n row (rows.sends _ _ _ _ _ _ _ _ e) = ap (λ (r : Row). kind_rst r.kind) e
off_link s p n row (rows.ends_ack_out _ _ _ _ _ _ e) = ap (λ (r : Row). kind_rst r.kind) e
off_link s p n row (rows.answers_pulse _ _ _ _ _ _ _ _ _ e) = ap (λ (r : Row). kind_rst r.kind) e
off_link s p n row (rows.ends_ack_pulse _ _ _ _ _ _ _ _ _ e) = ap (λ (r : Row). kind_rst r.kind) e
off_link s p n row (rows.drives_pulsed _ _ _ _ _ _ _ e) = ap (λ (r : Row). kind_rst r.kind) e
off_link s p n row (rows.sends_pulse _ _ _ _ _ _ _ e) = ap (λ (r : Row). kind_rst r.kind) e
off_link s p n row (rows.offers _ _ _ _ _ _ _ e) = ap (λ (r : Row). kind_rst r.kind) e
off_link s p n row (rows.asks_first _ _ _ _ _ _ _ _ _ _ e) = ap (λ (r : Row). kind_rst r.kind) e
off_link s p n row (rows.ends_req _ _ _ _ _ _ _ _ _ _ e) = ap (λ (r : Row). kind_rst r.kind) e
off_link s p n row (rows.asks_next _ _ _ _ _ _ _ _ _ _ e) = ap (λ (r : Row). kind_rst r.kind) e
off_link s p n row (rows.ends_req_pulse _ _ _ _ _ _ _ _ _ e) = ap (λ (r : Row). kind_rst r.kind) e
off_link s p n row (rows.changes_pulsed _ _ _ _ _ _ _ _ e) = ap (λ (r : Row). kind_rst r.kind) e
off_link s p n row (rows.asks_pulse _ _ _ _ _ _ _ _ _ _ _ e) = ap (λ (r : Row). kind_rst r.kind) e
off_link s p n row (rows.leaves atn msg cd io x y _ _ _ _ _ _ e) =
    let b : LineSet = connected_bus (ends false false atn x msg cd io false y) in
    let v : Serving = serving_at s (run_state s p) n.target (phase_of b) in
    ap (λ (r : Row). kind_rst r.kind) e
    ∙ lines_off v io (phase_leaving v atn (phase_of b)) (phase_leaving v atn (phase_of b)).to

stays_off : (p : List Row) (row : Row) → row.dev < 8 → (bus p).rst ≡ false → kind_rst row.kind ≡ false
    → (bus (row ∷ p)).rst ≡ false
stays_off p row lt off e =
    bus_off (λ (x : LineSet). x.rst) (λ _ _. refl) refl (row ∷ p) (λ d l. elim (cases_eq d row.dev) [
      | inl same ↦ ap (λ (k : ℕ). (drives (row ∷ p) k).rst) same ∙ ap (λ (x : LineSet). x.rst) (drives_next p row)
          ∙ own row.kind e
      | inr ne ↦ ap (λ (x : LineSet). x.rst) (drives-other row p d ne) ∙ off_at p off d l
    ])
  where
    own : (k : Kind) → kind_rst k ≡ false → (driven_after k (drives p row.dev)).rst ≡ false
    own (Drives l) z = z
    own (Fault bit) z = off_at p off row.dev lt

-- Any row of a connection; and so one that frees the bus.
pub link_off : (s : ScenarioValue) (p : List Row) (row : Row) (n : Connection) → CalmRow s p row → connection p ≡ Some n
    → (bus (row ∷ p)).rst ≡ false
link_off s p row n r con =
    let dv = r.was.stood.standing.devices in
    stays_off p row r.least.inside r.off
    (off_link s p n row (link_row s p row n dv (stage_of_connection s p n r.was.stood con r.off) r.least))

pub frees_calm : FreesCalm
frees_calm s p row n r con none = link_off s p row n r con
