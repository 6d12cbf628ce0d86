-- The text of why a text is no dump of the profile.
use Rattle.std.specs.Prelude.{ℕ, List, ◌++◌, codes, decimal}
use Rattle.vcd_text.specs.declared.whole.VcdBad.{VcdBad}
use Rattle.vcd_text.specs.declared.whole.VcdBad.TheVariants as bads

abbrev pub vcd_bad_text : VcdBad → List ℕ
vcd_bad_text (bads.At line) = codes "line " ++ (decimal line ++ codes " breaks the form of a dump")
vcd_bad_text bads.NoMemory = codes "no memory"
