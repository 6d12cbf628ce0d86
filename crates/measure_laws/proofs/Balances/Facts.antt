-- Of each prompt trace: the kind of a row of a connection; and byte by byte no more requests are answered than rose,
-- and at most one waits.
use Rattle.measure_laws.proofs
use proofs.Names.{◌≡◌, ◌≤◌, ◌∙◌, true, false, List, [], ◌∷◌, refl, sym, ap, arith, Some, ◌&&◌, not, wrong, bus_on}
use proofs.Names.{LineSet, connection, bus, drives, Row, Connection, handshakes, only_rst, ScenarioValue, Obeys, begun}
use proofs.Names.{IsLeast, IsPrompt, due, drives_own, least_is, by_calm, reset_or_calm, BeginsConnection}
use proofs.Names.{by_reselection, by_selection, row_of_lines, RowKindOf, begins_now, goes_now, row_kind}
use proofs.Names.{stage_of_connection, Stood, PhaseRow, phase_row, pulses_here, whole, one_where}
use proofs.Balances.{Rows.{balance_step}, Steps.{BalancedAt, balanced_anew}}
use Rattle.progress_laws.specs.bus_laws.proofs.Stages.Next.{by_reset}

-- The kind of a row of a connection.
pub kind_of_row : (s : ScenarioValue) (p : List Row) (row : Row) (n : Connection) → Obeys s → IsPrompt s (row ∷ p)
    → Stood s p → connection p ≡ Some n → (bus p).rst ≡ false → (bus (row ∷ p)).rst ≡ false → PhaseRow s p n row
kind_of_row s p row n o prompt was con calm off = elim (reset_or_calm s p row was.standing calm m) [
  | by_reset z ↦ wrong (sym (rst_on z) ∙ off)
  | by_calm always least ↦ phase_row s p row n was.standing.devices (stage_of_connection s p n was con calm) least
]
  where
    m : IsLeast (due s p) 8 row
    m = least_is s p row prompt.1

    rst_on : row ≡ row_of_lines row.time row.dev only_rst → (bus (row ∷ p)).rst ≡ true
    rst_on z =
        bus_on (λ y. y.rst) (λ _ _. refl) (row ∷ p) row.dev m.inside (ap (λ (w : Row). (drives (w ∷ p) row.dev).rst) z
        ∙ ap (λ (l : LineSet). l.rst) (drives_own p row.time row.dev only_rst))

first_balanced : (p : List Row) (n : Connection) → BeginsConnection p n → begun p ≡ true → BalancedAt p
first_balanced p n (by_selection h) b = wrong (sym b ∙ h.begun_is)
first_balanced p n (by_reselection y h) b = balanced_anew p h.handshakes_are

pub balanced : (s : ScenarioValue) (p : List Row) → Obeys s → IsPrompt s p → (n : Connection) → connection p ≡ Some n
    → (bus p).rst ≡ false → begun p ≡ true → pulses_here p ≡ false → BalancedAt p
balanced s [] o prompt n con calm b u = absurd cc
balanced s (row ∷ p) o prompt n con calm b u =
    let was = (whole s p o prompt.0).stood in
    let before = balanced s p o prompt.0 in
    go before was (row_kind s p row n o prompt was con calm)
  where
    go : ((m : Connection) → connection p ≡ Some m → (bus p).rst ≡ false → begun p ≡ true → pulses_here p ≡ false
        → BalancedAt p) → Stood s p → RowKindOf s p row n → BalancedAt (row ∷ p)
    go before was (begins_now alone f) = first_balanced (row ∷ p) n f.begins b
    go before was (goes_now here off) = balance_step s p row n (stage_of_connection s p n was here off) con u
        (before n here off) (kind_of_row s p row n o prompt was here off calm)

-- So between two bytes all that rose is answered.
pub all_answered : (s : ScenarioValue) (p : List Row) → Obeys s → IsPrompt s p
    → (n : Connection) → connection p ≡ Some n → (bus p).rst ≡ false → begun p ≡ true → pulses_here p ≡ false
    → ((bus p).req && not (bus p).ack) ≡ false → (handshakes p).requests ≤ (handshakes p).answers
all_answered s p o prompt n con calm b u low =
    let few = (balanced s p o prompt n con calm b u).few in
    let none = ap one_where low in
    omega (arith, few, none)
