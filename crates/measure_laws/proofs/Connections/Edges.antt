-- The measure falls with each row before and after which a connection stands, if it falls with those of three kinds:
-- with which the first MESSAGE OUT begins, with which a byte of a phase is struck, and with which a phase is left for
-- another.
use Rattle.measure_laws.proofs
use proofs.Names.{ℕ, ◌≡◌, ◌∙◌, Bool, true, false, ◌&&◌, List, [], ◌∷◌, Some, None, sym, ap, same_Some, not}
use proofs.Names.{if◌then◌else◌, wrong, change_of, call, connection, connection_after, receiver, bus, last_time, Row}
use proofs.Names.{Connection, handshakes, is_of_device, ScenarioValue, begun, BeginsSelected, EndLines, Linked}
use proofs.Names.{row_of_fault, row_of_lines, offering_with, target_row, ends, none_some, PhaseRow, is_pulsed}
use proofs.{Names.{is_unasked, Falls}, Apart.Rows.{calm_row_falls}, Connections.LinkOff.{link_off, frees_calm}}
use proofs.{Connections.Parts.{CalmRow, FallsWithin, FallsApart, falls_by_parts}, Phases.Falls.{FallsWith}}
use proofs.Phases.Falls.{InsideOrEdge, connection_falls, edge, inside, is_edge}
use Rattle.progress_laws.specs.row_laws.proofs.Lines.Phases as kinds

-- What is known of a row before and after which the same connection stands: RST is false before it and after it.
pub record LinkedRow (s : ScenarioValue) (p : List Row) (row : Row) (n : Connection) : Type 0 where
  pub calm : CalmRow s p row
  pub stands : connection p ≡ Some n
  pub next : connection (row ∷ p) ≡ Some n
  pub off : (bus (row ∷ p)).rst ≡ false

-- ---- the three kinds, each with what its row knows

-- After a selection the target begins MESSAGE OUT.
abbrev pub FallsOpening : Type 0
FallsOpening =
    (s : ScenarioValue) (p : List Row) (row : Row) (n : Connection) → LinkedRow s p row n
    → BeginsSelected p n → row ≡ target_row row.time n (ends false false true 0 true true false false 0)
    → FallsWith s p row

-- The last byte of a phase is struck.
abbrev pub FallsStriking : Type 0
FallsStriking = (s : ScenarioValue) (p : List Row) (row : Row) (n : Connection) → LinkedRow s p row n
    → (e : EndLines) (bit : ℕ) → Linked p n e → begun p ≡ true → is_of_device (receiver p) row.dev ≡ true
    → row.dev ≡ (if e.io then n.initiator else n.target) → row ≡ row_of_fault (last_time p) row.dev bit
    → FallsWith s p row

-- The target leaves a phase for another.
abbrev pub FallsLeaving : Type 0
FallsLeaving = (s : ScenarioValue) (p : List Row) (row : Row) (n : Connection) → LinkedRow s p row n
    → (atn msg cd io : Bool) (x y : ℕ) → Linked p n (ends false false atn x msg cd io false y)
    → begun p ≡ true → (msg && not cd) ≡ false → is_unasked p ≡ false
    → (is_pulsed p (ends false false atn x msg cd io false y) ≡ false → x ≡ 0)
    × (is_pulsed p (ends false false atn x msg cd io false y) ≡ true → (handshakes p).waiting ≡ [])
    → (offering_with s p n true (ends false false atn x msg cd io false y)).follows ≡ false
    → row ≡ row_of_lines row.time n.target (offering_with s p n true (ends false false atn x msg cd io false y)).to
    → FallsWith s p row

-- ---- all rows of a connection

-- It is the same after a row as before it.
same_connection : (p : List Row) (row : Row) (n m : Connection) → connection p ≡ Some n → connection (row ∷ p) ≡ Some m
    → n ≡ m
same_connection p row n m con next =
    by (bus (row ∷ p)).bsy (sym (λ i. connection_after (con i) (call p) (change_of p row) row) ∙ next)
  where
    by : (q : Bool) → (if q then Some n else None) ≡ Some m → n ≡ m
    by true e = same_Some n m e
    by false e = none_some m e

edge_falls : FallsOpening → FallsStriking → FallsLeaving
    → (s : ScenarioValue) (p : List Row) (row : Row) (n : Connection) → LinkedRow s p row n
    → (f : PhaseRow s p n row) → is_edge f ≡ true → FallsWith s p row
edge_falls opens strikes leaves s p row n r (kinds.opens h e) z = opens s p row n r h e
edge_falls opens strikes leaves s p row n r (kinds.strikes e bit h b got who is) z =
    strikes s p row n r e bit h b got who is
edge_falls opens strikes leaves s p row n r (kinds.leaves atn msg cd io x y h b known asked rest follows e) z =
    leaves s p row n r atn msg cd io x y h b known asked rest follows e
edge_falls opens strikes leaves s p row n r _ z = wrong (sym z)

pub within_by_edges : FallsOpening → FallsStriking → FallsLeaving → FallsWithin
within_by_edges opens strikes leaves s p row n m r con next =
    go (connection_falls s p row n r.obeys r.prompt con r.off off)
  where
    off : (bus (row ∷ p)).rst ≡ false
    off = link_off s p row n r con

    of : LinkedRow s p row n
    of = record {
      calm = r;
      stands = con;
      next = next ∙ ap (λ (x : Connection). Some x) (sym (same_connection p row n m con next));
      off = off;
    }

    go : InsideOrEdge s p row n → FallsWith s p row
    go (inside z) = z
    go (edge k z) = edge_falls opens strikes leaves s p row n of k z

-- And outside one.
falls_apart : FallsApart
falls_apart s p row r was alone = calm_row_falls s p row r.obeys r.prompt was alone r.off r.standing r.least

-- So the measure falls with each row, if it falls with those.
pub falls_by_edges : FallsOpening → FallsStriking → FallsLeaving → Falls
falls_by_edges opens strikes leaves = falls_by_parts falls_apart (within_by_edges opens strikes leaves) frees_calm
