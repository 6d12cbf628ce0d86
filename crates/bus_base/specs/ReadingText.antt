-- The text of why a source is not read on, and of why not all of its bytes were read.
use Rattle.std.specs.Prelude.{ℕ, List, codes}
use Rattle.bus_base.specs.declared.reading.Cut.{Cut}
use Rattle.bus_base.specs.declared.reading.Cut.TheVariants as cuts
use Rattle.bus_base.specs.declared.reading.ReadEnd.{ReadEnd}
use Rattle.bus_base.specs.declared.reading.ReadEnd.TheVariants as ends

abbrev pub cut_text : Cut → List ℕ
cut_text cuts.TooLong = codes "more bytes than the limit"
cut_text cuts.Fault = codes "a read failed"

abbrev pub read_end_text : ReadEnd → List ℕ
read_end_text ends.TooLong = codes "more bytes than the limit"
read_end_text ends.Fault = codes "a read failed"
read_end_text ends.NoMemory = codes "no memory"
