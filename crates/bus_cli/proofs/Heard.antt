-- Bytes that are heard one by one.
use Rattle.std.proofs.Common.{ℕ, ◌≡◌, ◌+◌, ◌≤◌, List, [], ◌∷◌, ◌++◌, length, reverse, take, Result, Ok, sym, ap, subst}
use Rattle.std.proofs.Common.{◌∙◌, arith}
use Rattle.bus_trace.specs.declared.Row.{Row}
use Rattle.bus_rules.specs.declared.verdict.Verdict.{Verdict}
use Rattle.bus_rules.specs.Rules.{judged_whole}
use Rattle.trace_text.specs.declared.stages.Told.{Told}
use Rattle.trace_text.specs.declared.stages.Told.TheVariants as tolds
use Rattle.trace_text.specs.Bytes.{told_at, end_of, rows_next, rows_of, reader_of, IsReaderOf}
use Rattle.trace_text.specs.declared.reader.TraceReader.{TraceReader}
use Rattle.trace_text.specs.declared.rows_reader.RowsReader.{RowsReader}
use Rattle.trace_checker.specs.declared.Judge.{Judge}
use Rattle.trace_checker.specs.Judging.{IsJudgeOf}
use Rattle.bus_cli.specs.declared.hearing.Hearing.{Hearing}
use Rattle.bus_cli.specs.Hearing.{verdict_at, heard_verdict, IsHearingOf}

-- there are no more rows than bytes
next_short : (told : Told) (rows : List Row) → length (rows_next told rows) ≤ length rows + 1
next_short tolds.Quiet rows = omega arith
next_short (tolds.RowRead row) rows = omega arith
next_short (tolds.Bad at) rows = omega arith

pub rows_short : (bytes : List ℕ) → length (rows_of bytes) ≤ length bytes
rows_short [] = omega arith
rows_short (b ∷ bytes) = omega (arith, next_short (told_at bytes b) (rows_of bytes), rows_short bytes)

-- bytes that tell a row
pub hears_row : (before now : List Row) (told : Told) (row : Row) (j : Judge) → now ≡ rows_next told before
    → told ≡ tolds.RowRead row → IsJudgeOf (row ∷ before) j → IsJudgeOf now j
hears_row before now told row j next is h =
    subst (λ (rows : List Row). IsJudgeOf rows j) (sym (next ∙ ap (λ (t : Told). rows_next t before) is)) h

-- the end
pub ends_well : (bytes : List ℕ) (read : Result ℕ ℕ) (end : ℕ) (v : Verdict) → read ≡ end_of bytes → read ≡ Ok end
    → v ≡ judged_whole (rows_of bytes) end → (let r : Result Verdict ℕ = Ok v in r) ≡ heard_verdict bytes
ends_well bytes read end v at is e =
    let last : Ok end ≡ end_of bytes = sym is ∙ at in
    ap (λ (x : Verdict). let r : Result Verdict ℕ = Ok x in r) e ∙ (λ i. verdict_at bytes (last i))

-- ---- rows that follow one another

abbrev pub hearing : TraceReader → Judge → Hearing
hearing reader judge = record { reader = reader; judge = judge }

-- before the first of them
pub hears_none : (h : Hearing) (rows : RowsReader) (bytes piece : List ℕ) → h.reader ≡ reader_of rows
    → IsHearingOf bytes h → IsHearingOf (reverse (take 0 piece) ++ bytes) (hearing (reader_of rows) h.judge)
hears_none h rows bytes [] is heard = record { reader = subst (IsReaderOf bytes) is heard.reader; judge = heard.judge }
hears_none h rows bytes (b ∷ piece) is heard =
    record { reader = subst (IsReaderOf bytes) is heard.reader; judge = heard.judge }

-- one of them more
pub hears_more : (read next : List ℕ) (row : Row) (reader : TraceReader) (j : Judge) → rows_of next ≡ row ∷ rows_of read
    → IsReaderOf next reader → IsJudgeOf (row ∷ rows_of read) j → IsHearingOf next (hearing reader j)
hears_more read next row reader j is kept judge =
    record { reader = kept; judge = subst (λ (rows : List Row). IsJudgeOf rows j) (sym is) judge }
