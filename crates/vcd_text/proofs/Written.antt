-- What is written, piece by piece.
use Rattle.std.proofs.Common.{◌≡◌, ℕ, ◌<◌, ◌≤◌, ◌∙◌, List, [], ◌∷◌, ◌++◌, sym, refl, ap, arith, Bool, true, false}
use Rattle.std.proofs.Common.{decimal}
use Rattle.std.specs.Prelude.{nat_lt, if◌then◌else◌}
use Rattle.bus_trace.specs.declared.rows.Row.{Row}
use Rattle.vcd_text.specs.DumpText.{time_text, change_text, time_after, rows_text, time_written}

shown : (t : Bool) (text : List ℕ) → t ≡ true → text ≡ (if t then text else [])
shown true text is = refl
shown false text is = cc

pub time_shown : (last time : ℕ) → last < time → 35 ∷ decimal time ++ 10 ∷ [] ≡ time_text last time
time_shown last time below = shown (nat_lt last time) (35 ∷ decimal time ++ 10 ∷ []) (grind (arith, below))

hidden : (t : Bool) (text : List ℕ) → t ≡ false → [] ≡ (if t then text else [])
hidden false text is = refl
hidden true text is = cc

pub time_hidden : (last time : ℕ) → time ≤ last → [] ≡ time_text last time
time_hidden last time above = hidden (nat_lt last time) (35 ∷ decimal time ++ 10 ∷ []) (grind (arith, above))

-- the next row of those that are left
pub row_next : (last next : ℕ) (rows rest : List Row) (row : Row)
    → rows ≡ row ∷ rest → next ≡ time_after last row.time row.kind
    → rows_text last rows ≡ change_text last row.time row.dev row.kind ++ rows_text next rest
row_next last next rows rest row is next_is =
    ap (rows_text last) is ∙ ap (λ t. change_text last row.time row.dev row.kind ++ rows_text t rest) (sym next_is)

pub time_next : (last next : ℕ) (rows rest : List Row) (row : Row) → rows ≡ row ∷ rest
    → next ≡ time_after last row.time row.kind → time_written next rest ≡ time_written last rows
time_next last next rows rest row is next_is = ap (λ t. time_written t rest) next_is ∙ sym (ap (time_written last) is)
