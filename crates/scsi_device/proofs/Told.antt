-- What the view of the bus tells of the last row.
use Rattle.std.proofs.Common.{◌≡◌, List, [], ◌∷◌, refl}
use Rattle.bus_trace.specs.declared.Row.{Row}
use Rattle.bus_trace.specs.Terms.{receiver}
use Rattle.bus_lines.specs.Effect.{effect}

pub receiver_told : (rows : List Row) → (effect rows).receiver ≡ receiver rows
receiver_told [] = refl
receiver_told (row ∷ rows) = refl
