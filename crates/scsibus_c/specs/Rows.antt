-- What the rows and the verdicts of C mean.
use Rattle.std.specs.Prelude.{ℕ, ◌+◌, ◌%◌, ◌^◌, ◌==◌, ◌&&◌, Bool, not, nat_lt, List, ◌++◌, map, reverse, Option, Some}
use Rattle.std.specs.Prelude.{None, if◌then◌else◌}
use Rattle.bus_trace.specs.declared.rows.Row.{Row}
use Rattle.bus_trace.specs.declared.rows.Kind.TheVariants.{Drives, Fault}
use Rattle.bus_trace.specs.Saved.{lines_in}
use Rattle.bus_rules.specs.declared.verdict.Verdict.{Verdict}
use Rattle.bus_rules.specs.declared.verdict.Verdict.TheVariants.{Lawful, Broken}
use Rattle.scsibus_c.specs.declared.rows.ScsibusRow.{ScsibusRow}
use Rattle.scsibus_c.specs.declared.rows.ScsibusVerdict.{ScsibusVerdict}

-- A row of lines or of a fault, of one of the eight devices; or it is out of range.
abbrev pub is_row : ScsibusRow → Bool
is_row r = nat_lt r.dev 8 && (if r.kind == 0 then nat_lt r.value (2 ^ 18) else (r.kind == 1 && nat_lt r.value 9))

abbrev pub is_off : ScsibusRow → Bool
is_off r = not (is_row r)

-- The row that it says.
abbrev pub row_of : ScsibusRow → Row
row_of r = record {
  time = r.time;
  dev = r.dev;
  kind = if r.kind == 0 then Drives (lines_in r.value) else Fault (r.value % 256);
}

-- These rows after those before them, the newest first.
abbrev pub rows_after : List Row → List ScsibusRow → List Row
rows_after past rows = map row_of (reverse rows) ++ past

-- A verdict as C reads it: rule 0 is lawful.
abbrev pub told : Verdict → ScsibusVerdict
told Lawful = record { row = 0; rule = 0 }
told (Broken place rule) = record { row = place; rule = rule }

-- The row at this place, from 0, is out of range.
abbrev pub off_at : ℕ → ScsibusVerdict
off_at at = record { row = at + 1; rule = 255 }

-- What is answered where the first row that is out of range stands here, or else this is the verdict.
abbrev pub answer : Option ℕ → Verdict → ScsibusVerdict
answer None verdict = told verdict
answer (Some at) verdict = off_at at
