-- A judge in memory of C.
use Rattle.std.specs.Prelude.{ℕ, ◌≡◌, ◌≢◌, List, Option, Some, None}
use Rattle.bus_trace.specs.declared.rows.Row.{Row}
use Rattle.trace_checker.specs.Judging.{IsJudgeOf}
use Rattle.trace_checker.specs.Saved.{judge_in}
use Rattle.scsibus_c.specs.declared.rows.ScsibusRow.{ScsibusRow}
use Rattle.scsibus_c.specs.declared.rows.ScsibusVerdict.{ScsibusVerdict}
use Rattle.scsibus_c.specs.declared.judge.ScsibusJudge.{ScsibusJudge}
use Rattle.scsibus_c.specs.declared.judge.TheConstants.{FORM}
use Rattle.scsibus_c.specs.Rows.{rows_after}

-- It is a judge that has seen these rows, the newest first.
pub record IsStateOf (rows : List Row) (s : ScsibusJudge) : Type 0 where
  pub form : s.form ≡ FORM
  pub judge : IsJudgeOf rows (judge_in s.judge)

-- It is none.
abbrev pub IsForeign : ScsibusJudge → Type 0
IsForeign s = s.form ≢ FORM

abbrev pub foreign : ScsibusVerdict
foreign = record { row = 0; rule = 254 }

-- The rows that a judge has seen once it is fed these, of which the first that is out of range stands here.
abbrev pub taken : Option ℕ → List Row → List ScsibusRow → List Row
taken None past rows = rows_after past rows
taken (Some at) past rows = past
