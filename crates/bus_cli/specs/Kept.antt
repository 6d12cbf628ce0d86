-- A trace that is read through a buffer.
use Rattle.std.specs.Prelude.{ℕ, ◌≡◌, List, [], Option, Some, IfSome, Result, Ok, Err}
use Rattle.bus_base.specs.Pieces.{TakesBeyond}
use Rattle.bus_base.specs.declared.reading.ReadEnd.{ReadEnd}
use Rattle.bus_base.specs.declared.reading.ReadEnd.TheVariants as ends
use Rattle.trace_text.specs.declared.limit.TheConstants.{LIMIT as TRACE_LIMIT}
use Rattle.trace_text.specs.declared.whole.Trace.{Trace}
use Rattle.trace_text.specs.Whole.{trace_of, trace_told}

-- The input was read to its end, and this is what it says. At TooLong it has more bytes than the limit, and one more
-- than the limit was read.
abbrev pub KeepsAll : Option (List ℕ) → Option (List ℕ) → Result (Result Trace ℕ) ReadEnd → Type 0
KeepsAll old left (Ok read) = IfSome old (λ xs. (trace_of xs ≡ trace_told read) × (left ≡ Some []))
KeepsAll old left (Err ends.TooLong) = TakesBeyond old left TRACE_LIMIT
KeepsAll old left (Err ends.Fault) = Unit {0}
KeepsAll old left (Err ends.NoMemory) = Unit {0}
