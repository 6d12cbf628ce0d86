-- Of a prompt trace: the data pointers of processes that write stand at their runs after each row.
use Rattle.trace_laws.proofs
use proofs.Names.{◌≡◌, Bool, true, false, ◌∙◌, List, [], ◌∷◌, Some, None, sym, ap, true≢false, if◌then◌else◌, is_some}
use proofs.Names.{change_of, call, connection, connection_after, receiver_of, bus, Row, Connection, ScenarioValue}
use proofs.Names.{Obeys, row_reading, IsPrompt, run_state, change_plain, least_is, connection_row, RowFacts, stays}
use proofs.Names.{ends_here, Stood, NextStood, OfferFacts, DataFacts, DataPremises, DataAsked}
use proofs.Runs.{Asks.{answers_all, run_moved}, Counts.{counts_start, counts_next, answers_few}, Facts.{runs_start}}
use proofs.Runs.Facts.{runs_next, run_active, crossing_begun}

pub data_start : (s : ScenarioValue) → DataFacts s []
data_start s = record { runs = runs_start s; counts = counts_start s }

pub data_next : (s : ScenarioValue) (p : List Row) (row : Row) → Obeys s → IsPrompt s (row ∷ p) → Stood s p
    → NextStood s p row → OfferFacts s p → DataPremises s p row → DataFacts s p → DataFacts s (row ∷ p)
data_next s p row o prompt was nx offers asked facts = record {
  runs = runs_next s p row o prompt was nx offers
      (record {
        anew = asked.anew;
        sent = asked.sent;
        answers = λ n con calm off after b ep. answers_all s p row n o prompt was facts.counts con calm off after b ep;
        few = λ n con calm b phase. answers_few s p n o facts.counts con calm b phase;
      })
      facts.runs;
  counts = counts_next s p row o prompt was nx facts.runs facts.counts;
}

-- A connection in which a byte crosses goes on.
pub crossing_stands : (s : ScenarioValue) (p : List Row) (row : Row) (n : Connection) → Obeys s
    → IsPrompt s (row ∷ p) → Stood s p → connection p ≡ Some n → (bus p).rst ≡ false → (bus (row ∷ p)).rst ≡ false
    → (row_reading (run_state s p).story.bus_state row).crosses ≡ true → connection (row ∷ p) ≡ Some n
crossing_stands s p row n o prompt was con calm off crosses =
    by (connection_row s p row n o prompt was con calm off).facts
  where
    change : (row_reading (run_state s p).story.bus_state row).change ≡ change_of p row
    change = change_plain s row p was.standing.devices (least_is s p row prompt.1).inside

    by : RowFacts s p row n → connection (row ∷ p) ≡ Some n
    by (stays g) = (λ i. connection_after (con i) (call p) ((sym change ∙ g.row_is.change_is) i) row)
        ∙ ap (λ (b : Bool). if b then Some n else None) g.row_is.stands
    by (ends_here g) = absurd (true≢false
        (sym crosses ∙ (λ i. is_some (receiver_of ((was.plain.connection ∙ con) i) (change i))) ∙ g.carries))

pub data_asks : (s : ScenarioValue) (p : List Row) (row : Row) (n : Connection) → Obeys s → IsPrompt s (row ∷ p)
    → Stood s p → DataFacts s p → connection p ≡ Some n → (bus p).rst ≡ false → (bus (row ∷ p)).rst ≡ false
    → DataAsked s p row
data_asks s p row n o prompt was facts con calm off = record {
  moved = λ q known crosses bytes w. run_moved s p row n o prompt was facts.runs facts.counts con calm off
      (crossing_stands s p row n o prompt was con calm off crosses) q known crosses bytes w;
  active_is = λ crosses q t served task phase. run_active s p n o was facts.runs con calm
      (crossing_begun s p row n o prompt was con calm off (least_is s p row prompt.1).inside crosses) q t served task
      phase;
}
