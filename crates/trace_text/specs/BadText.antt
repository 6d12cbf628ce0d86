-- The text of why a text is no trace text.
use Rattle.std.specs.Prelude.{ℕ, ◌==◌, List, ◌++◌, codes, decimal, if◌then◌else◌}
use Rattle.trace_text.specs.declared.whole.TraceBad.{TraceBad}
use Rattle.trace_text.specs.declared.whole.TraceBad.TheVariants as bads

-- the line; a text that is too long is line 0
abbrev pub trace_bad_text : TraceBad → List ℕ
trace_bad_text (bads.At line) =
    if line == 0 then codes "a text of more than 1,073,741,824 bytes"
    else codes "line " ++ (decimal line ++ codes " breaks the form of a trace")
trace_bad_text bads.NoMemory = codes "no memory"
