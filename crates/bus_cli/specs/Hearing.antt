-- A trace text that is judged as its bytes come.
use Rattle.std.specs.Prelude.{ℕ, List, Result, Ok, Err}
use Rattle.trace_text.specs.Bytes.{IsReaderOf, rows_of, end_of}
use Rattle.trace_checker.specs.Judging.{IsJudgeOf}
use Rattle.bus_rules.specs.declared.verdict.Verdict.{Verdict}
use Rattle.bus_rules.specs.Rules.{judged_whole}
use Rattle.bus_cli.specs.declared.hearing.Hearing.{Hearing}

-- These bytes, the newest first, have been heard.
pub record IsHearingOf (bytes : List ℕ) (h : Hearing) : Type 0 where
  pub reader : IsReaderOf bytes h.reader
  pub judge : IsJudgeOf (rows_of bytes) h.judge

-- The verdict on these bytes at their end: that on their rows, or the first line that breaks the form.
abbrev pub verdict_at : List ℕ → Result ℕ ℕ → Result Verdict ℕ
verdict_at bytes (Ok end) = Ok (judged_whole (rows_of bytes) end)
verdict_at bytes (Err line) = Err line

abbrev pub heard_verdict : List ℕ → Result Verdict ℕ
heard_verdict bytes = verdict_at bytes (end_of bytes)
