-- What reading a piece does, where the bytes are told.
use Rattle.std.specs.Prelude.{◌≡◌, ℕ, ◌+◌, ◌<◌, List, length, drop, Option, Some, Result, Ok, Err, IfSome}
use Rattle.bus_base.specs.Taken.{TakesFront}
use Rattle.bus_base.specs.declared.reading.Cut.{Cut}
use Rattle.bus_base.specs.declared.reading.Cut.TheVariants as cuts
use Rattle.bus_base.specs.declared.reading.ReadEnd.{ReadEnd}
use Rattle.bus_base.specs.declared.reading.ReadEnd.TheVariants as ends

-- why not all bytes are read, where a piece was not
abbrev pub end_of : Cut → ReadEnd
end_of cuts.TooLong = ends.TooLong
end_of cuts.Fault = ends.Fault

-- A source had more bytes left, `old`, than the limit, and one more than the limit were taken.
abbrev pub TakesBeyond : Option (List ℕ) → Option (List ℕ) → ℕ → Type 0
TakesBeyond old left limit = IfSome old (λ xs. (limit < length xs) × (left ≡ Some (drop (limit + 1) xs)))

-- The bytes that a source had left, `old`, came to the front of `into`, as many as are told. At TooLong they are more
-- than the limit, and one more than the limit were taken; at Fault none was.
abbrev pub ReadsPiece : Option (List ℕ) → Option (List ℕ) → List ℕ → ℕ → Result ℕ Cut → Type 0
ReadsPiece old left into limit (Ok n) = IfSome old (λ xs. TakesFront xs left into n)
ReadsPiece old left into limit (Err cuts.TooLong) = TakesBeyond old left limit
ReadsPiece old left into limit (Err cuts.Fault) = left ≡ old
