-- The devices of a scenario, each in the place of its ID.
use Rattle.std.specs.Prelude.{ℕ, ◌≡◌, ◌<◌, ◌||◌, nat_lt, List, ◌∷◌, Option, Some, None, slice_index_or, if◌then◌else◌}
use Rattle.bus_trace.specs.declared.Row.{Row}
use Rattle.scenario.specs.Value.{ScenarioValue}
use Rattle.due_model.specs.story_model.specs.Samples.{latency_of}
use Rattle.due_model.specs.bus_rules.specs.Order.{is_of_device}

-- A place without a device is that of a device which the scenario does not have.
abbrev pub IsIn : {D : Type 0} → (ScenarioValue → List Row → ℕ → D → Type 0) → ScenarioValue → List Row → ℕ → Option D
    → Type 0
IsIn IsOf s rows dev None = latency_of s dev ≡ None
IsIn IsOf s rows dev (Some device) = IsOf s rows dev device

abbrev pub AreIn : {D : Type 0} → (ScenarioValue → List Row → ℕ → D → Type 0) → ScenarioValue → List Row
    → List (Option D) → Type 0
AreIn IsOf s rows places = (dev : ℕ) → dev < 8 → IsIn IsOf s rows dev (slice_index_or places dev None)

-- While all but one of them are told of a row, device by device: the one was told of it first, and so were those below.
abbrev pub rows_told : List Row → Row → ℕ → Option ℕ → ℕ → List Row
rows_told rows row below one dev = if nat_lt dev below || is_of_device one dev then row ∷ rows else rows

abbrev pub AreKnownBut : {D : Type 0} → (ScenarioValue → List Row → ℕ → D → Type 0) → ScenarioValue → List Row → Row → ℕ
    → Option ℕ → List (Option D) → Type 0
AreKnownBut IsOf s rows row below one places =
    (dev : ℕ) → dev < 8 → IsIn IsOf s (rows_told rows row below one dev) dev (slice_index_or places dev None)
