-- What reading all and writing all do, where the bytes are told.
use Rattle.std.specs.Prelude.{◌≡◌, ℕ, ◌≤◌, List, [], ◌++◌, take, drop, Option, Some, Result, Ok, Err, IfSome, Vec, ⊤}
use Rattle.std.specs.declared.alloc.Global.{Global}
use Rattle.bus_base.specs.Pieces.{TakesBeyond}
use Rattle.bus_base.specs.declared.failures.Failed.{Failed}
use Rattle.bus_base.specs.declared.reading.ReadEnd.{ReadEnd}
use Rattle.bus_base.specs.declared.reading.ReadEnd.TheVariants.{TooLong, Fault, NoMemory}

-- All bytes that a source had left, `old`, were read at Ok, and none is left. At TooLong they are
-- more than the limit, and one more than the limit were taken.
abbrev pub ReadsAll : Option (List ℕ) → Option (List ℕ) → ℕ → Result (Vec ℕ Global) ReadEnd → Type 0
ReadsAll old left limit (Ok v) = IfSome old (λ xs. (v.items ≡ xs) × (left ≡ Some []))
ReadsAll old left limit (Err TooLong) = TakesBeyond old left limit
ReadsAll old left limit (Err Fault) = ⊤
ReadsAll old left limit (Err NoMemory) = ⊤

-- Of the bytes that a source had left, `old`, at most `most` were taken, from the front.
abbrev pub TakesAtMost : Option (List ℕ) → Option (List ℕ) → ℕ → Type 0
TakesAtMost old left most =
    IfSome old (λ xs. (k : ℕ) × (k ≤ most) × (left ≡ Some (drop k xs)))

-- What a sink held, `old`, was followed by the whole piece at Ok, and by a front of it at Err.
abbrev pub WritesAll : Option (List ℕ) → Option (List ℕ) → List ℕ → Result (Unit {0}) Failed → Type 0
WritesAll old written piece (Ok _) = IfSome old (λ xs. written ≡ Some (xs ++ piece))
WritesAll old written piece (Err _) =
    IfSome old (λ xs. (k : ℕ) × (written ≡ Some (xs ++ take k piece)))
