-- What tables by device and by pair of devices hold.
use Rattle.std.specs.Prelude.{ℕ, ◌≡◌, ◌<◌, ◌+◌, ◌*◌, Bool, List, slice_index}
use Rattle.bus_trace.specs.LineSet.{LineSet}
use Rattle.bus_trace.specs.declared.Row.{Row}
use Rattle.bus_trace.specs.declared.agreements.Agreement.{Agreement}
use Rattle.bus_trace.specs.Terms.{raised}
use Rattle.bus_phases.specs.declared.raises.Raises.{Raises}
use Rattle.bus_phases.specs.declared.agreements.Agreements.{Agreements}

-- When each device last raised a line.
abbrev pub IsRaisesOf : (LineSet → Bool) → List Row → Raises → Type 0
IsRaisesOf line rows r = (dev : ℕ) → dev < 8 → slice_index r.times dev ≡ raised line rows dev

-- The agreement of each pair.
abbrev pub AreAgreements : (ℕ → ℕ → Agreement) → Agreements → Type 0
AreAgreements agreed a = (i t : ℕ) → i < 8 → t < 8 → (slice_index a.periods (i * 8 + t) ≡ (agreed i t).period)
    × (slice_index a.offsets (i * 8 + t) ≡ (agreed i t).offset)
