-- The rows of a prompt trace while no connection stands.
use Rattle.bus_laws.proofs
use proofs.Names.{◌≡◌, false, List, [], ◌∷◌, Some, refl, sym, subst, bus, Drives, Row, only_rst, ScenarioValue}
use proofs.Names.{least_some, IsLeast, due, next, IsPrompt, row_of_lines, HasShortLatencies, BusStage, Standing}
use proofs.{Names.{NextRow, is_connected, HaveNoConnection}, Resets.Steps.{raises}, Stages.Free.{row_is}}
use proofs.Stages.Next.{standing_first, stage_first, standing_next, from_stage}

pub least_is : (s : ScenarioValue) (p : List Row) (row : Row) → next s p ≡ Some row → IsLeast (due s p) 8 row
least_is s p row e = least_some (due s p) 8 row e

pub next_row_is : (s : ScenarioValue) (p : List Row) (row : Row) → HasShortLatencies s → Standing s p → BusStage s p
    → is_connected p ≡ false → next s p ≡ Some row → NextRow s p row
next_row_is s p row fits st here apart e = from_stage s p row fits st here apart (least_is s p row e)

pub reset_row_is : (s : ScenarioValue) (p : List Row) (row : Row) → Standing s p → (bus p).rst ≡ false
    → next s p ≡ Some row → row.kind ≡ Drives only_rst → NextRow s p row
reset_row_is s p row st calm e k =
    let r : row ≡ row_of_lines row.time row.dev only_rst = row_is row only_rst k in
    subst (λ (w : Row). NextRow s p w) (sym r)
    (raises s p row.time row.dev st calm (subst (λ (w : Row). IsLeast (due s p) 8 w) r (least_is s p row e)))

pub record Stood (s : ScenarioValue) (p : List Row) : Type 0 where
  pub standing : Standing s p
  pub here : BusStage s p
  pub apart : is_connected p ≡ false

pub stood : (s : ScenarioValue) → HasShortLatencies s → (p : List Row) → IsPrompt s p → HaveNoConnection p → Stood s p
stood s fits [] prompt apart = record { standing = standing_first s; here = stage_first s; apart = refl }
stood s fits (row ∷ p) prompt apart =
    let was = stood s fits p prompt.0 apart.0 in
    let m = least_is s p row prompt.1 in
    let g = from_stage s p row fits was.standing was.here was.apart m in
    record { standing = standing_next s p row was.standing m g apart.1; here = g.here; apart = apart.1 }
