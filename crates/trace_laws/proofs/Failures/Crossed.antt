-- A byte that crossed in the last row crossed in the present phase, which has begun.
use Rattle.trace_laws.proofs
use proofs.Names.{ℕ, ◌≡◌, ◌<◌, true, false, ◌∙◌, List, [], ◌∷◌, Option, Some, None, refl, sym, ap, same_Some, is_some}
use proofs.Names.{wrong', change_of, connection, is_fault, receiver_in, receiver_of, bus, Row, Change, Connection}
use proofs.Names.{ScenarioValue, Obeys, RowReading, Exchange, phase_of, run_state_plain, IsPrompt, IsPlain, crossed_if}
use proofs.Names.{RunState, run_state, in_connection, reading_is, RowKind, still, strikes, crosses, turns, least_is}
use proofs.Names.{none_some, GoingRow, connection_row, going_row, RowKindOf, begins_now, goes_now, row_kind, Stood}
use proofs.{Names.{NextStood, same_phase_of}, Failures.Faults.{CrossedHere}}

pub record CrossedBooks (k : RunState) : Type 0 where
  pub here : CrossedHere k
  pub begun : is_some k.story.bus_state.crossed ≡ true → k.exchange.begun ≡ true

abbrev pub CrossedFacts : ScenarioValue → List Row → Type 0
CrossedFacts s rows =
    (n : Connection) → connection rows ≡ Some n → (bus rows).rst ≡ false → CrossedBooks (run_state s rows)

pub crossed_start : (s : ScenarioValue) → CrossedFacts s []
crossed_start s n e calm = none_some n e

none_crossed : (k : RunState) → k.story.bus_state.crossed ≡ None → CrossedBooks k
none_crossed k e = record {
  here = λ g z. none_some g (sym e ∙ z);
  begun = λ z. wrong' (ap (λ (o : Option Change). is_some o) (sym e) ∙ z);
}

pub crossed_next : (s : ScenarioValue) (p : List Row) (row : Row) → Obeys s → IsPrompt s (row ∷ p) → Stood s p
    → NextStood s p row → CrossedFacts s (row ∷ p)
crossed_next s p row o prompt was next n after calm = go (row_kind s p row n o prompt was after calm)
  where
    lt : row.dev < 8
    lt = (least_is s p row prompt.1).inside

    k : RunState
    k = run_state s p

    j : RunState
    j = run_state s (row ∷ p)

    ql : IsPlain s (row ∷ p) j
    ql = run_state_plain s (row ∷ p) (lt, was.standing.devices)

    silent : (o : Option Connection) → connection p ≡ o → receiver_of o (change_of p row) ≡ None → CrossedBooks j
    silent o e z =
        none_crossed j (ql.crossed ∙ (λ i. crossed_if (is_some (receiver_of (e i) (change_of p row))) (change_of p row))
        ∙ ap (λ (x : Option ℕ). crossed_if (is_some x) (change_of p row)) z)

    on : connection p ≡ Some n → (g : GoingRow s p row n) → RowKind row n g.change → CrossedBooks j
    on con g (still ef ep er) = silent (Some n) con (ap (receiver_in n) (sym g.change_is) ∙ er)
    on con g (strikes ef ep er) = silent (Some n) con (ap (receiver_in n) (sym g.change_is) ∙ er)
    on con g (turns ef ep er) = silent (Some n) con (ap (receiver_in n) (sym g.change_is) ∙ er)
    on con g (crosses dev ef ep er) =
        let there : is_some (receiver_in n g.change) ≡ true = ap (λ (z : Option ℕ). is_some z) er in
        let some : j.story.bus_state.crossed ≡ Some g.change = ql.crossed
        ∙ (λ i. crossed_if (is_some (receiver_of (con i) (sym g.change_is i))) (sym g.change_is i))
        ∙ ap (λ (x : Option ℕ). crossed_if (is_some x) g.change) er in
        let i = in_connection s k row n g.change false true (is_fault row.kind) g.goes.row_is ep there refl in
        record {
          here = λ h z. ap (λ (x : Change). phase_of x.before) (same_Some h g.change (sym z ∙ some))
              ∙ sym (same_phase_of g.change ep) ∙ ap phase_of (sym i.bus_is);
          begun = λ z. ap (λ (x : Exchange). x.begun) i.exchange_is ∙ g.goes.begun
              (ap (λ (x : RowReading). x.crosses) (reading_is k row n g.change true g.goes.row_is there));
        }

    go : RowKindOf s p row n → CrossedBooks j
    go (begins_now alone f) = silent None alone refl
    go (goes_now con off) =
        let r = connection_row s p row n o prompt was con off calm in
        let g = going_row s p row n was.standing.devices lt con after calm next.row_is r.facts in
        on con g g.goes.row_is.kind
